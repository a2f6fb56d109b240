-- A node that is put back where it stood.
use Rattle.std.proofs.Common.{◌≡◌, ℕ, suc, Bool, true, false, cond, refl, sym, ap, ◌∙◌, ◌||◌, inl, inr}
use Rattle.std.specs.Str.{bytes_eq}
use Rattle.std.proofs.lemmas.Bool.{or_left, or_right}
use Rattle.plain_tree.specs.Trees.{Trees, leafless, tree, joined}
use Rattle.plain_tree.proofs.Laws.{joined-leafless}
use Rattle.doc_text.specs.Label.{Label}
use Rattle.doc_text.specs.Texts.{Word}
use Rattle.doc_text.specs.Growth.{holds, alone}
use Rattle.doc_text.specs.Named.{IsDistinct, put_at, graft, grafted, inserted, nothing, removed, tree_at, moved, has_top, place_among, StandsAt}
use Rattle.doc_text.proofs.Grown.{own_name, not_both, differ}
use Rattle.doc_text.proofs.Standing.{unchanged, no_tree, apart_back, is_tree_at, left_less, left_graft, tree_graft, removed_distinct}

-- what was inserted and is removed
pub insert_back : (parent : Word) (i : ℕ) (y : Label) (t : Trees Label) → holds t y.name ≡ false → removed y.name (inserted parent i y t) ≡ t
insert_back parent i y t h = left_graft parent i y.name (alone y) t (own_name y.name) h

-- ---- a node that was moved

pub top_held : (t : Trees Label) (name : Word) → has_top t name ≡ true → holds t name ≡ true
top_held leafless name h = h
top_held (tree x below after) name h = by_name (bytes_eq x.name name) h (top_held after name)
  where
    by_name : (e : Bool) → cond e true (has_top after name) ≡ true → (has_top after name ≡ true → holds after name ≡ true) → (e || (holds below name || holds after name)) ≡ true
    by_name true k f = refl
    by_name false k f = or_right (holds below name) (holds after name) (f k)

-- a list of trees, one of which was taken out and is put where it stood
put_back : (name : Word) (t : Trees Label) → IsDistinct t → has_top t name ≡ true → put_at (place_among name t) (tree_at name t) (removed name t) ≡ t
put_back name leafless d h = absurd (not_both false h refl)
put_back name (tree x below after) d h = by_name (bytes_eq x.name name) refl h (put_back name after d.1.1.1.1)
  where
    first : (a : Trees Label) → put_at 0 (tree x below leafless) a ≡ tree x below a
    first leafless = refl
    first (tree y b a) = refl

    by_name : (e : Bool) → bytes_eq x.name name ≡ e → cond e true (has_top after name) ≡ true → (has_top after name ≡ true → put_at (place_among name after) (tree_at name after) (removed name after) ≡ after)
        → put_at (cond e 0 (suc (place_among name after))) (cond e (tree x below leafless) (joined (tree_at name below) (tree_at name after))) (cond e after (tree x (removed name below) (removed name after))) ≡ tree x below after
    by_name true e k f = first after
    by_name false e k f =
        let far = apart_back below after d.1.1.0 name (top_held after name k) in
        rw (no_tree name below far, unchanged name nothing below far) (ap (tree x below) (f k))

pub child_held : (name parent : Word) (index : ℕ) (t : Trees Label) → StandsAt name parent index t → holds t name ≡ true
child_held name parent index leafless h = absurd h
child_held name parent index (tree x below after) (inl h) = or_right (bytes_eq x.name name) _ (or_left _ _ (top_held below name h.1.0))
child_held name parent index (tree x below after) (inr (inl h)) = or_right (bytes_eq x.name name) _ (or_left _ _ (child_held name parent index below h))
child_held name parent index (tree x below after) (inr (inr h)) = or_right (bytes_eq x.name name) _ (or_right (holds below name) _ (child_held name parent index after h))

pub parent_held : (name parent : Word) (index : ℕ) (t : Trees Label) → StandsAt name parent index t → holds t parent ≡ true
parent_held name parent index leafless h = absurd h
parent_held name parent index (tree x below after) (inl h) = or_left _ _ (ap (λ (n : Word). bytes_eq n parent) h.0 ∙ own_name parent)
parent_held name parent index (tree x below after) (inr (inl h)) = or_right (bytes_eq x.name parent) _ (or_left _ _ (parent_held name parent index below h))
parent_held name parent index (tree x below after) (inr (inr h)) = or_right (bytes_eq x.name parent) _ (or_right (holds below parent) _ (parent_held name parent index after h))

-- where a node stands below, or after, the first of the trees
pub tree_below : (name : Word) (x : Label) (below after : Trees Label) → bytes_eq x.name name ≡ false → holds after name ≡ false → tree_at name (tree x below after) ≡ tree_at name below
tree_below name x below after e f = rw (e, no_tree name after f) (joined-leafless (tree_at name below))

pub removed_below : (name : Word) (x : Label) (below after : Trees Label) → bytes_eq x.name name ≡ false → holds after name ≡ false → removed name (tree x below after) ≡ tree x (removed name below) after
removed_below name x below after e f = rw e (ap (tree x (removed name below)) (unchanged name nothing after f))

pub tree_after : (name : Word) (x : Label) (below after : Trees Label) → bytes_eq x.name name ≡ false → holds below name ≡ false → tree_at name (tree x below after) ≡ tree_at name after
tree_after name x below after e f = rw (e, no_tree name below f) refl

pub removed_after : (name : Word) (x : Label) (below after : Trees Label) → bytes_eq x.name name ≡ false → holds below name ≡ false → removed name (tree x below after) ≡ tree x below (removed name after)
removed_after name x below after e f = rw e (ap (λ (t : Trees Label). tree x t (removed name after)) (unchanged name nothing below f))

graft_here : (parent : Word) (i : ℕ) (new : Trees Label) (x : Label) (below after : Trees Label) → bytes_eq x.name parent ≡ true → grafted parent i new (tree x below after) ≡ tree x (put_at i new below) after
graft_here parent i new x below after e = rw e refl

graft_below : (parent : Word) (i : ℕ) (new : Trees Label) (x : Label) (below after : Trees Label) → bytes_eq x.name parent ≡ false → holds after parent ≡ false
    → grafted parent i new (tree x below after) ≡ tree x (grafted parent i new below) after
graft_below parent i new x below after e f = rw e (ap (tree x (grafted parent i new below)) (unchanged parent (graft i new) after f))

graft_after : (parent : Word) (i : ℕ) (new : Trees Label) (x : Label) (below after : Trees Label) → bytes_eq x.name parent ≡ false → holds below parent ≡ false
    → grafted parent i new (tree x below after) ≡ tree x below (grafted parent i new after)
graft_after parent i new x below after e f = rw e (ap (λ (t : Trees Label). tree x t (grafted parent i new after)) (unchanged parent (graft i new) below f))

both_same : (parent : Word) (i : ℕ) (new other s t : Trees Label) → new ≡ other → s ≡ t → grafted parent i new s ≡ grafted parent i other t
both_same parent i new other s t e f = λ j. grafted parent i (e j) (f j)

pub graft_back : (name parent : Word) (index : ℕ) (t : Trees Label) → IsDistinct t → StandsAt name parent index t → grafted parent index (tree_at name t) (removed name t) ≡ t
graft_back name parent index leafless d h = absurd h
graft_back name parent index (tree x below after) d (inl h) =
    let held = top_held below name h.1.0 in
    let far = d.1.1.0 name held in
    let own = differ below x.name name d.0 held in
    both_same parent index _ _ _ _ (tree_below name x below after own far) (removed_below name x below after own far)
    ∙ graft_here parent index (tree_at name below) x (removed name below) after (ap (λ (n : Word). bytes_eq n parent) h.0 ∙ own_name parent)
    ∙ ap (λ (t : Trees Label). tree x t after) (ap (λ n. put_at n (tree_at name below) (removed name below)) (sym h.1.1) ∙ put_back name below d.1.1.1.0 h.1.0)
graft_back name parent index (tree x below after) d (inr (inl h)) =
    let held = child_held name parent index below h in
    let far = d.1.1.0 name held in
    let own = differ below x.name name d.0 held in
    let above = parent_held name parent index below h in
    both_same parent index _ _ _ _ (tree_below name x below after own far) (removed_below name x below after own far)
    ∙ graft_below parent index (tree_at name below) x (removed name below) after (differ below x.name parent d.0 above) (d.1.1.0 parent above)
    ∙ ap (λ (t : Trees Label). tree x t after) (graft_back name parent index below d.1.1.1.0 h)
graft_back name parent index (tree x below after) d (inr (inr h)) =
    let held = child_held name parent index after h in
    let far = apart_back below after d.1.1.0 name held in
    let own = differ after x.name name d.1.0 held in
    let above = parent_held name parent index after h in
    both_same parent index _ _ _ _ (tree_after name x below after own far) (removed_after name x below after own far)
    ∙ graft_after parent index (tree_at name after) x below (removed name after) (differ after x.name parent d.1.0 above) (apart_back below after d.1.1.0 parent above)
    ∙ ap (tree x below) (graft_back name parent index after d.1.1.1.1 h)

-- a node that was moved, and is moved back
pub move_back : (name parent old : Word) (i index : ℕ) (t : Trees Label) → IsDistinct t → holds (removed name t) parent ≡ true → StandsAt name old index t
    → moved name old index (moved name parent i t) ≡ t
move_back name parent old i index t d h s =
    let gone = left_less name t d in
    let one = is_tree_at name t d in
    rw (left_graft parent i name (tree_at name t) (removed name t) one gone, tree_graft parent i name (tree_at name t) (removed name t) one (removed_distinct name t d) gone h) (graft_back name old index t d s)

-- Where a node stands: under which parent, and as which of its children; and that parent in what is left without the node.
use Rattle.std.proofs.Common.{◌≡◌, ℕ, suc, ◌≤◌, Bool, true, false, cond, ◌||◌, Option, Some, None, refl, sym, ap, ◌∙◌, arith, inl, inr}
use Rattle.std.specs.Str.{bytes_eq}
use Rattle.std.specs.Option.{unwrap_or}
use Rattle.std.proofs.lemmas.Bool.{or_left, or_right}
use Rattle.plain_tree.specs.Trees.{Trees, leafless, tree, joined, count_of}
use Rattle.doc_text.specs.declared.document.Plain.{Plain}
use Rattle.doc_text.specs.Label.{Label}
use Rattle.doc_text.specs.Texts.{Word}
use Rattle.doc_text.specs.Growth.{holds}
use Rattle.doc_text.specs.Named.{IsDistinct, removed, tree_at, below_of, has_top, place_among, StandsAt}
use Rattle.doc_text.specs.Edits.{child_count}
use Rattle.doc_text.proofs.Opening.{holds-joined}
use Rattle.doc_text.proofs.Grown.{own_name, not_both, differ, or_split}
use Rattle.doc_text.proofs.Standing.{apart_back, less_inside, IsTreeOf}
use Rattle.doc_text.proofs.Back.{top_held, child_held, parent_held, tree_below, removed_below, tree_after, removed_after}
use Rattle.edit_journal.specs.Changes.{tree_of_node}
use Rattle.edit_journal.specs.Steps.{Position, or_position, child_of, position_in, top_of}

-- ---- the position that is found

-- the node of this name stands at the position, if there is one
abbrev pub Stands : Word → Option Position → Trees Label → Type 0
Stands name None t = ⊥
Stands name (Some position) t = StandsAt name position.0 position.1 t

module _ (name : Word) where
  no_top : (t : Trees Label) → holds t name ≡ false → has_top t name ≡ false
  no_top leafless h = refl
  no_top (tree x below after) h =
      let parts = or_split (bytes_eq x.name name) (holds below name) (holds after name) h in
      rw parts.0 (no_top after parts.1.1)

  no_position : (t : Trees Label) → holds t name ≡ false → position_in name t ≡ None
  no_position leafless h = refl
  no_position (tree x below after) h =
      let parts = or_split (bytes_eq x.name name) (holds below name) (holds after name) h in
      rw (no_top below parts.1.0, no_position below parts.1.0) (no_position after parts.1.1)

  abbrev Found : Trees Label → Type 0
  Found t = holds t name ≡ true → has_top t name ≡ false → Stands name (position_in name t) t

  pub position_stands : (t : Trees Label) → holds t name ≡ true → has_top t name ≡ false → Stands name (position_in name t) t
  position_stands leafless h n = absurd (not_both false h refl)
  position_stands (tree x below after) h n = by_name (bytes_eq x.name name) h n (position_stands below) (position_stands after)
    where
      in_after : (o : Option Position) → Stands name o after → Stands name o (tree x below after)
      in_after None s = s
      in_after (Some position) s = inr (inr s)

      in_below : (o : Option Position) → Stands name o below → Stands name o (tree x below after)
      in_below None s = s
      in_below (Some position) s = inr (inl s)

      -- what is found below comes first
      first : (o other : Option Position) → Stands name o (tree x below after) → Stands name (or_position o other) (tree x below after)
      first None other s = absurd s
      first (Some position) other s = s

      by_side : (b : Bool) → holds below name ≡ b → (b || holds after name) ≡ true → has_top below name ≡ false → has_top after name ≡ false → Found below → Found after
          → Stands name (or_position (position_in name below) (position_in name after)) (tree x below after)
      by_side true e h f n b a = first (position_in name below) (position_in name after) (in_below (position_in name below) (b e f))
      by_side false e h f n b a = rw (no_position below e) (in_after (position_in name after) (a h n))

      by_top : (c : Bool) → has_top below name ≡ c → (holds below name || holds after name) ≡ true → has_top after name ≡ false → Found below → Found after
          → Stands name (or_position (child_of x.name (cond c (Some (place_among name below)) None)) (or_position (position_in name below) (position_in name after))) (tree x below after)
      by_top true e h n b a = inl (refl, (e, refl))
      by_top false e h n b a = by_side (holds below name) refl h e n b a

      by_name : (e : Bool) → (e || (holds below name || holds after name)) ≡ true → cond e true (has_top after name) ≡ false → Found below → Found after
          → Stands name (position_in name (tree x below after)) (tree x below after)
      by_name true h n b a = absurd (not_both true refl n)
      by_name false h n b a = by_top (has_top below name) refl h n b a

-- ---- the parent, without the node
module _ (name parent : Word) (index : ℕ) where
  -- it does not stand in the tree of its child
  pub parent_outside : (t : Trees Label) → IsDistinct t → StandsAt name parent index t → holds (tree_at name t) parent ≡ false
  parent_outside leafless d s = absurd s
  parent_outside (tree x below after) d (inl s) =
      let held = top_held below name s.1.0 in
      ap (λ (t : Trees Label). holds t parent) (tree_below name x below after (differ below x.name name d.0 held) (d.1.1.0 name held)) ∙ less_inside name below parent (ap (holds below) (sym s.0) ∙ d.0)
  parent_outside (tree x below after) d (inr (inl s)) =
      let held = child_held name parent index below s in
      ap (λ (t : Trees Label). holds t parent) (tree_below name x below after (differ below x.name name d.0 held) (d.1.1.0 name held)) ∙ parent_outside below d.1.1.1.0 s
  parent_outside (tree x below after) d (inr (inr s)) =
      let held = child_held name parent index after s in
      ap (λ (t : Trees Label). holds t parent) (tree_after name x below after (differ after x.name name d.1.0 held) (apart_back below after d.1.1.0 name held)) ∙ parent_outside after d.1.1.1.1 s

  pub parent_left : (t : Trees Label) → IsDistinct t → StandsAt name parent index t → holds (removed name t) parent ≡ true
  parent_left leafless d s = absurd s
  parent_left (tree x below after) d (inl s) =
      let held = top_held below name s.1.0 in
      ap (λ (t : Trees Label). holds t parent) (removed_below name x below after (differ below x.name name d.0 held) (d.1.1.0 name held))
      ∙ or_left _ _ (ap (λ (n : Word). bytes_eq n parent) s.0 ∙ own_name parent)
  parent_left (tree x below after) d (inr (inl s)) =
      let held = child_held name parent index below s in
      ap (λ (t : Trees Label). holds t parent) (removed_below name x below after (differ below x.name name d.0 held) (d.1.1.0 name held))
      ∙ or_right (bytes_eq x.name parent) _ (or_left _ _ (parent_left below d.1.1.1.0 s))
  parent_left (tree x below after) d (inr (inr s)) =
      let held = child_held name parent index after s in
      ap (λ (t : Trees Label). holds t parent) (removed_after name x below after (differ after x.name name d.1.0 held) (apart_back below after d.1.1.0 name held))
      ∙ or_right (bytes_eq x.name parent) _ (or_right (holds below parent) _ (parent_left after d.1.1.1.1 s))

  place_within : (t : Trees Label) → has_top t name ≡ true → place_among name t ≤ count_of (removed name t)
  place_within leafless h = absurd (not_both false h refl)
  place_within (tree x below after) h = by_name (bytes_eq x.name name) h (place_within after)
    where
      by_name : (e : Bool) → cond e true (has_top after name) ≡ true → (has_top after name ≡ true → place_among name after ≤ count_of (removed name after))
          → cond e 0 (suc (place_among name after)) ≤ count_of (cond e after (tree x (removed name below) (removed name after)))
      by_name true h a = omega arith
      by_name false h a = omega (arith, a h)

  children_of : Trees Label → ℕ
  children_of t = count_of (below_of t)

  -- the index is one of its children's, or one past the last
  pub index_within : (t : Trees Label) → IsDistinct t → StandsAt name parent index t → index ≤ child_count parent (removed name t)
  index_within leafless d s = absurd s
  index_within (tree x below after) d (inl s) =
      let held = top_held below name s.1.0 in
      let left = removed_below name x below after (differ below x.name name d.0 held) (d.1.1.0 name held) in
      let own : bytes_eq x.name parent ≡ true = ap (λ (n : Word). bytes_eq n parent) s.0 ∙ own_name parent in
      rw (left, own, ← s.1.1) (place_within below s.1.0)
  index_within (tree x below after) d (inr (inl s)) =
      let held = child_held name parent index below s in
      let above = parent_held name parent index below s in
      let left = removed_below name x below after (differ below x.name name d.0 held) (d.1.1.0 name held) in
      rw (left, tree_below parent x (removed name below) after (differ below x.name parent d.0 above) (d.1.1.0 parent above)) (index_within below d.1.1.1.0 s)
  index_within (tree x below after) d (inr (inr s)) =
      let held = child_held name parent index after s in
      let above = parent_held name parent index after s in
      let left = removed_after name x below after (differ after x.name name d.1.0 held) (apart_back below after d.1.1.0 name held) in
      rw (left, tree_after parent x below (removed name after) (differ after x.name parent d.1.0 above) (apart_back below after d.1.1.0 parent above)) (index_within after d.1.1.1.1 s)

-- ---- the node itself
pub tree_held : (name : Word) (t : Trees Label) → holds t name ≡ true → holds (tree_at name t) name ≡ true
tree_held name leafless h = h
tree_held name (tree x below after) h = by_name (bytes_eq x.name name) refl h (tree_held name below) (tree_held name after)
  where
    by_side : (b : Bool) → holds below name ≡ b → (b || holds after name) ≡ true → (holds below name ≡ true → holds (tree_at name below) name ≡ true) → (holds after name ≡ true → holds (tree_at name after) name ≡ true)
        → (holds (tree_at name below) name || holds (tree_at name after) name) ≡ true
    by_side true e h b a = or_left _ _ (b e)
    by_side false e h b a = or_right (holds (tree_at name below) name) _ (a h)

    by_name : (e : Bool) → bytes_eq x.name name ≡ e → (e || (holds below name || holds after name)) ≡ true → (holds below name ≡ true → holds (tree_at name below) name ≡ true)
        → (holds after name ≡ true → holds (tree_at name after) name ≡ true) → holds (cond e (tree x below leafless) (joined (tree_at name below) (tree_at name after))) name ≡ true
    by_name true e h b a = or_left _ _ e
    by_name false e h b a = holds-joined (tree_at name below) (tree_at name after) name ∙ by_side (holds below name) refl h b a

-- a node of the name, with all below it, is the tree of the name
pub node_tree : (other : Plain) (name : Word) (u : Trees Label) → IsTreeOf name u → holds u name ≡ true → tree_of_node (unwrap_or (top_of u) other) ≡ u
node_tree other name leafless o h = absurd (not_both false h refl)
node_tree other name (tree x below leafless) o h = refl
node_tree other name (tree x below (tree y b a)) o h = absurd o

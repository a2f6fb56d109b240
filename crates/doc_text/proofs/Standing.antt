-- Where names stand: in the tree of a name, and in what is left without it.
use Rattle.std.proofs.Common.{◌≡◌, ℕ, zero, suc, Bool, true, false, cond, refl, sym, ap, ◌∙◌, ◌||◌, ◌⊎◌, inl, inr}
use Rattle.std.specs.Prelude.{⊤}
use Rattle.std.specs.Str.{bytes_eq}
use Rattle.std.proofs.lemmas.Bool.{or_from, or_cases}
use Rattle.plain_tree.specs.Trees.{Trees, leafless, tree, joined}
use Rattle.plain_tree.proofs.Laws.{joined-leafless}
use Rattle.doc_text.specs.Label.{Label}
use Rattle.doc_text.specs.Texts.{Word}
use Rattle.doc_text.specs.Growth.{holds}
use Rattle.doc_text.specs.Named.{IsDistinct, replaced, put_at, graft, grafted, nothing, removed, tree_at}
use Rattle.doc_text.proofs.Opening.{holds-joined}
use Rattle.doc_text.proofs.Grown.{or_split, or_join, same_name, not_true, not_both, differ}

pub not_false : (b : Bool) → (b ≡ false → ⊥) → b ≡ true
not_false true h = refl
not_false false h = absurd (h refl)

-- what is not there does not change
pub unchanged : (name : Word) (change : Label → Trees Label → Trees Label) (t : Trees Label) → holds t name ≡ false → replaced name change t ≡ t
unchanged name change leafless h = refl
unchanged name change (tree x below after) h =
    let parts = or_split (bytes_eq x.name name) (holds below name) (holds after name) h in
    rw parts.0 (λ i. tree x (unchanged name change below parts.1.0 i) (unchanged name change after parts.1.1 i))

pub no_tree : (name : Word) (t : Trees Label) → holds t name ≡ false → tree_at name t ≡ leafless
no_tree name leafless h = refl
no_tree name (tree x below after) h =
    let parts = or_split (bytes_eq x.name name) (holds below name) (holds after name) h in
    rw (parts.0, no_tree name below parts.1.0) (no_tree name after parts.1.1)

pub apart_back : (below after : Trees Label) → ((m : Word) → holds below m ≡ true → holds after m ≡ false) → (m : Word) → holds after m ≡ true → holds below m ≡ false
apart_back below after d m a = not_true _ (λ b. not_both (holds after m) a (d m b))

-- ---- in the tree of a name

pub less_inside : (name : Word) (t : Trees Label) (m : Word) → holds t m ≡ false → holds (tree_at name t) m ≡ false
less_inside name leafless m h = refl
less_inside name (tree x below after) m h =
    let parts = or_split (bytes_eq x.name m) (holds below m) (holds after m) h in
    by_name (bytes_eq x.name name) parts.0 parts.1.0 (less_inside name below m parts.1.0) (less_inside name after m parts.1.1)
  where
    by_name : (e : Bool) → bytes_eq x.name m ≡ false → holds below m ≡ false → holds (tree_at name below) m ≡ false → holds (tree_at name after) m ≡ false
        → holds (cond e (tree x below leafless) (joined (tree_at name below) (tree_at name after))) m ≡ false
    by_name true p q b a = or_join _ _ _ p q refl
    by_name false p q b a = holds-joined (tree_at name below) (tree_at name after) m ∙ or_from _ _ b a

pub less_left : (name : Word) (t : Trees Label) (m : Word) → holds t m ≡ false → holds (removed name t) m ≡ false
less_left name leafless m h = refl
less_left name (tree x below after) m h =
    let parts = or_split (bytes_eq x.name m) (holds below m) (holds after m) h in
    by_name (bytes_eq x.name name) parts.0 parts.1.1 (less_left name below m parts.1.0) (less_left name after m parts.1.1)
  where
    by_name : (e : Bool) → bytes_eq x.name m ≡ false → holds after m ≡ false → holds (removed name below) m ≡ false → holds (removed name after) m ≡ false
        → holds (cond e after (tree x (removed name below) (removed name after))) m ≡ false
    by_name true p q b a = q
    by_name false p q b a = or_join _ _ _ p b a

-- what is left was not in the tree that went
pub left_outside : (name : Word) (t : Trees Label) (m : Word) → IsDistinct t → holds (removed name t) m ≡ true → holds (tree_at name t) m ≡ false
left_outside name leafless m d h = refl
left_outside name (tree x below after) m d h = by_name (bytes_eq x.name name) h (left_outside name below m d.1.1.1.0) (left_outside name after m d.1.1.1.1)
  where
    still : (t : Trees Label) → holds (removed name t) m ≡ true → holds t m ≡ true
    still t h = not_false (holds t m) (λ e. not_both (holds (removed name t) m) h (less_left name t m e))

    in_part : (bytes_eq x.name m ≡ true) ⊎ ((holds (removed name below) m || holds (removed name after) m) ≡ true)
        → (holds (removed name below) m ≡ true → holds (tree_at name below) m ≡ false) → (holds (removed name after) m ≡ true → holds (tree_at name after) m ≡ false)
        → (holds (tree_at name below) m ≡ false) × (holds (tree_at name after) m ≡ false)
    in_part (inl e) b a =
        let same = same_name x.name m e in
        (less_inside name below m (ap (holds below) (sym same) ∙ d.0), less_inside name after m (ap (holds after) (sym same) ∙ d.1.0))
    in_part (inr e) b a = elim (or_cases (holds (removed name below) m) (holds (removed name after) m) e) [
      | inl f ↦ (b f, less_inside name after m (d.1.1.0 m (still below f)))
      | inr f ↦ (less_inside name below m (apart_back below after d.1.1.0 m (still after f)), a f)
    ]

    by_name : (e : Bool) → holds (cond e after (tree x (removed name below) (removed name after))) m ≡ true
        → (holds (removed name below) m ≡ true → holds (tree_at name below) m ≡ false) → (holds (removed name after) m ≡ true → holds (tree_at name after) m ≡ false)
        → holds (cond e (tree x below leafless) (joined (tree_at name below) (tree_at name after))) m ≡ false
    by_name true h b a = or_join _ _ _ (differ after x.name m d.1.0 h) (apart_back below after d.1.1.0 m h) refl
    by_name false h b a =
        let parts = in_part (or_cases _ _ h) b a in
        holds-joined (tree_at name below) (tree_at name after) m ∙ or_from _ _ parts.0 parts.1

-- no tree, or one of this name
abbrev pub IsTreeOf : Word → Trees Label → Type 0
IsTreeOf name leafless = ⊤
IsTreeOf name (tree x below leafless) = bytes_eq x.name name ≡ true
IsTreeOf name (tree x below (tree y b a)) = ⊥

pub is_tree_at : (name : Word) (t : Trees Label) → IsDistinct t → IsTreeOf name (tree_at name t)
is_tree_at name leafless d = tt
is_tree_at name (tree x below after) d = by_name (bytes_eq x.name name) refl (is_tree_at name below d.1.1.1.0) (is_tree_at name after d.1.1.1.1)
  where
    side : (b : Bool) → holds below name ≡ b → IsTreeOf name (tree_at name below) → IsTreeOf name (tree_at name after) → IsTreeOf name (joined (tree_at name below) (tree_at name after))
    side true e b a = rw (no_tree name after (d.1.1.0 name e), joined-leafless (tree_at name below)) b
    side false e b a = rw (no_tree name below e) a

    by_name : (e : Bool) → bytes_eq x.name name ≡ e → IsTreeOf name (tree_at name below) → IsTreeOf name (tree_at name after)
        → IsTreeOf name (cond e (tree x below leafless) (joined (tree_at name below) (tree_at name after)))
    by_name true e b a = e
    by_name false e b a = side (holds below name) refl b a

pub left_less : (name : Word) (t : Trees Label) → IsDistinct t → holds (removed name t) name ≡ false
left_less name leafless d = refl
left_less name (tree x below after) d = by_name (bytes_eq x.name name) refl (left_less name below d.1.1.1.0) (left_less name after d.1.1.1.1)
  where
    by_name : (e : Bool) → bytes_eq x.name name ≡ e → holds (removed name below) name ≡ false → holds (removed name after) name ≡ false
        → holds (cond e after (tree x (removed name below) (removed name after))) name ≡ false
    by_name true e b a = ap (holds after) (sym (same_name x.name name e)) ∙ d.1.0
    by_name false e b a = or_join _ _ _ e b a

-- ---- a tree that is put elsewhere: without it, all is as it was

left_joined : (name : Word) (new t : Trees Label) → IsTreeOf name new → holds t name ≡ false → removed name (joined new t) ≡ t
left_joined name leafless t o h = unchanged name nothing t h
left_joined name (tree x below leafless) t o h = rw o refl
left_joined name (tree x below (tree y b a)) t o h = absurd o

left_put : (i : ℕ) (name : Word) (new t : Trees Label) → IsTreeOf name new → holds t name ≡ false → removed name (put_at i new t) ≡ t
left_put i name new leafless o h = ap (removed name) (sym (joined-leafless new)) ∙ left_joined name new leafless o h
left_put zero name new (tree x below after) o h = left_joined name new (tree x below after) o h
left_put (suc i) name new (tree x below after) o h =
    let parts = or_split (bytes_eq x.name name) (holds below name) (holds after name) h in
    rw parts.0 (λ j. tree x (unchanged name nothing below parts.1.0 j) (left_put i name new after o parts.1.1 j))

pub left_graft : (parent : Word) (i : ℕ) (name : Word) (new t : Trees Label) → IsTreeOf name new → holds t name ≡ false → removed name (grafted parent i new t) ≡ t
left_graft parent i name new leafless o h = refl
left_graft parent i name new (tree x below after) o h =
    let parts = or_split (bytes_eq x.name name) (holds below name) (holds after name) h in
    by_name (bytes_eq x.name parent) parts.0 parts.1.0 parts.1.1 (left_graft parent i name new below o parts.1.0) (left_graft parent i name new after o parts.1.1)
  where
    by_name : (e : Bool) → bytes_eq x.name name ≡ false → holds below name ≡ false → holds after name ≡ false
        → removed name (grafted parent i new below) ≡ below → removed name (grafted parent i new after) ≡ after
        → removed name (cond e (tree x (put_at i new below) after) (tree x (grafted parent i new below) (grafted parent i new after))) ≡ tree x below after
    by_name true q hb ha b a = rw q (λ j. tree x (left_put i name new below o hb j) (unchanged name nothing after ha j))
    by_name false q hb ha b a = rw q (λ j. tree x (b j) (a j))

-- the tree that is joined stands there
tree_joined : (name : Word) (new t : Trees Label) → IsTreeOf name new → holds t name ≡ false → tree_at name (joined new t) ≡ new
tree_joined name leafless t o h = no_tree name t h
tree_joined name (tree x below leafless) t o h = rw o refl
tree_joined name (tree x below (tree y b a)) t o h = absurd o

tree_put : (i : ℕ) (name : Word) (new t : Trees Label) → IsTreeOf name new → holds t name ≡ false → tree_at name (put_at i new t) ≡ new
tree_put i name new leafless o h = ap (tree_at name) (sym (joined-leafless new)) ∙ tree_joined name new leafless o h
tree_put zero name new (tree x below after) o h = tree_joined name new (tree x below after) o h
tree_put (suc i) name new (tree x below after) o h =
    let parts = or_split (bytes_eq x.name name) (holds below name) (holds after name) h in
    rw (parts.0, no_tree name below parts.1.0) (tree_put i name new after o parts.1.1)

pub tree_graft : (parent : Word) (i : ℕ) (name : Word) (new t : Trees Label) → IsTreeOf name new → IsDistinct t → holds t name ≡ false → holds t parent ≡ true
    → tree_at name (grafted parent i new t) ≡ new
tree_graft parent i name new leafless o d h k = absurd (not_both false k refl)
tree_graft parent i name new (tree x below after) o d h k =
    let parts = or_split (bytes_eq x.name name) (holds below name) (holds after name) h in
    by_name (bytes_eq x.name parent) refl k parts.0 parts.1.0 parts.1.1 (tree_graft parent i name new below o d.1.1.1.0 parts.1.0) (tree_graft parent i name new after o d.1.1.1.1 parts.1.1)
  where
    side : (b : Bool) → holds below parent ≡ b → (b || holds after parent) ≡ true → holds below name ≡ false → holds after name ≡ false
        → (holds below parent ≡ true → tree_at name (grafted parent i new below) ≡ new) → (holds after parent ≡ true → tree_at name (grafted parent i new after) ≡ new)
        → joined (tree_at name (grafted parent i new below)) (tree_at name (grafted parent i new after)) ≡ new
    side true e k hb ha b a = rw (unchanged parent (graft i new) after (d.1.1.0 parent e), no_tree name after ha, b e) (joined-leafless new)
    side false e k hb ha b a = rw (unchanged parent (graft i new) below e, no_tree name below hb) (a k)

    by_name : (e : Bool) → bytes_eq x.name parent ≡ e → (e || (holds below parent || holds after parent)) ≡ true → bytes_eq x.name name ≡ false → holds below name ≡ false → holds after name ≡ false
        → (holds below parent ≡ true → tree_at name (grafted parent i new below) ≡ new) → (holds after parent ≡ true → tree_at name (grafted parent i new after) ≡ new)
        → tree_at name (cond e (tree x (put_at i new below) after) (tree x (grafted parent i new below) (grafted parent i new after))) ≡ new
    by_name true e k q hb ha b a = rw (q, tree_put i name new below o hb, no_tree name after ha) (joined-leafless new)
    by_name false e k q hb ha b a = rw q (side (holds below parent) refl k hb ha b a)

-- ---- no name twice in what is left, in the tree of a name, and where it is put

pub removed_distinct : (name : Word) (t : Trees Label) → IsDistinct t → IsDistinct (removed name t)
removed_distinct name leafless d = tt
removed_distinct name (tree x below after) d = by_name (bytes_eq x.name name) (removed_distinct name below d.1.1.1.0) (removed_distinct name after d.1.1.1.1)
  where
    apart : (m : Word) → holds (removed name below) m ≡ true → holds (removed name after) m ≡ false
    apart m h = less_left name after m (d.1.1.0 m (not_false _ (λ e. not_both _ h (less_left name below m e))))

    by_name : (e : Bool) → IsDistinct (removed name below) → IsDistinct (removed name after) → IsDistinct (cond e after (tree x (removed name below) (removed name after)))
    by_name true b a = d.1.1.1.1
    by_name false b a = (less_left name below x.name d.0, (less_left name after x.name d.1.0, (apart, (b, a))))

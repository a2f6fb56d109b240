-- Cells that are taken band by band.
use Rattle.std.proofs.Common.{arith, rules, refl, sym, ap, subst, ◌∙◌, ◌≡◌, ℤ, ◌≤ℤ◌, ◌<ℤ◌, Bool, true, false, ◌&&◌, ◌||◌, List, [], ◌∷◌, int_lt}
use Rattle.std.specs.Prelude.{filter, int_le, IsSome, Option, Some, is_some, if◌then◌else◌}
use Rattle.std.specs.BTreeMap as tree
use Rattle.std.specs.BTreeMap.{is_at}
use Rattle.std.specs.List.Sorted.{IsStrictlySortedBy}
use Rattle.std.specs.Map.{keys_of, lookup, set_value}
use Rattle.std.specs.Ordering.{int_cmp, is_eq}
use Rattle.std.proofs.lemmas.Int.{ints}
use Rattle.std.proofs.Math.Bool.{true≢false}
use Rattle.lunit.specs.declared.geometry.Span.{Span}
use Rattle.cell_index.specs.declared.bands.RowBands.{RowBands}
use Rattle.cell_index.specs.declared.columns.TakenColumns.{TakenColumns}
use Rattle.cell_index.specs.Taken.{held, reads, strictly, taken, within, IsAddedAt}
use Rattle.cell_index.proofs.Changes.{reads_same, reads_before, reads_after, reads_within}
use Rattle.cell_index.proofs.Spans.{within_from}

-- ---- tests

le_from : (x q : ℤ) → int_le x q ≡ true → x ≤ℤ q
le_from x q h = search rules

lt_from : (x q : ℤ) → int_lt x q ≡ true → x <ℤ q
lt_from x q h = search rules

gt_from : (x q : ℤ) → int_le x q ≡ false → q <ℤ x
gt_from x q h = search rules

ge_from : (x q : ℤ) → int_lt x q ≡ false → q ≤ℤ x
ge_from x q h = search rules

pub or_no : (a : Bool) → (a || false) ≡ a
or_no true = refl
or_no false = refl

or_yes : (a : Bool) → (a || true) ≡ true
or_yes true = refl
or_yes false = refl

and_no : (a : Bool) → (a && false) ≡ false
and_no true = refl
and_no false = refl

pub spread : (h a b c w : Bool) → (a || b) ≡ c → ((h || (a && w)) || (b && w)) ≡ (h || (c && w))
spread true a b c w e = refl
spread false true b c true e = ap (λ t. t && true) e
spread false true b c false e = and_no b ∙ sym (and_no c)
spread false false b c w e = ap (λ t. t && w) e

pub empty_span : (a b track : ℤ) → b ≤ℤ a → within (record { start = a; end = b }) track ≡ false
empty_span a b track h = by (within (record { start = a; end = b }) track) refl
  where
    by : (u : Bool) → within (record { start = a; end = b }) track ≡ u → u ≡ false
    by true e = absurd (omega (arith, ints, (within_from (record { start = a; end = b }) track e).0, (within_from (record { start = a; end = b }) track e).1, h))
    by false e = refl

-- a span and the next one are one span
pub in_turn : (a b c track : ℤ) → a ≤ℤ b → b ≤ℤ c → (within (record { start = a; end = b }) track || within (record { start = b; end = c }) track) ≡ within (record { start = a; end = c }) track
in_turn a b c track low high = by (int_le a track) (int_lt track b) (int_le b track) (int_lt track c) refl refl refl refl
  where
    by : (s t u v : Bool) → int_le a track ≡ s → int_lt track b ≡ t → int_le b track ≡ u → int_lt track c ≡ v → ((s && t) || (u && v)) ≡ (s && v)
    by true true u true e f g h = refl
    by true true u false e f g h = absurd (omega (arith, ints, lt_from track b f, ge_from track c h, high))
    by true false true true e f g h = refl
    by true false true false e f g h = refl
    by true false false v e f g h = absurd (omega (arith, ints, ge_from track b f, gt_from b track g))
    by false t true v e f g h = absurd (omega (arith, ints, gt_from a track e, le_from b track g, low))
    by false t false v e f g h = refl

-- ---- one band

pub band_added : (row next : ℤ) (columns : Span) (old now : RowBands) → IsAddedAt row columns old now → IsStrictlySortedBy int_cmp (keys_of old.bands.entries) → row <ℤ next → IsSome (tree.get int_cmp old.bands next) →
    filter (λ (e : ℤ × TakenColumns). strictly row next e.0) old.bands.entries ≡ [] → (r c : ℤ) → held now r c ≡ (held old r c || (within (record { start = row; end = next }) r && within columns c))
band_added row next columns old now h sorted less some none r c =
    ap (λ es. reads says false es r) h.entries ∙ by (within columns c) refl (within (record { start = row; end = next }) r) refl
  where
    says : TakenColumns → Bool
    says cs = taken cs c

    by : (w : Bool) → within columns c ≡ w → (i : Bool) → within (record { start = row; end = next }) r ≡ i → reads says false (set_value (is_at (int_cmp row)) old.bands.entries h.next) r ≡ (reads says false old.bands.entries r || (i && w))
    by false e i f =
        let same : says h.next ≡ says h.value = h.added c ∙ ap (λ b. taken h.value c || b) e ∙ or_no (taken h.value c) in
        reads_same says false row h.value h.next old.bands.entries r h.was same ∙ sym (ap (λ b. reads says false old.bands.entries r || b) (and_no i) ∙ or_no (reads says false old.bands.entries r))
    by true e true f =
        let yes : says h.next ≡ true = h.added c ∙ ap (λ b. taken h.value c || b) e ∙ or_yes (taken h.value c) in
        reads_within says false row next h.next old.bands.entries r sorted (ap is_some h.was) none (within_from (record { start = row; end = next }) r f).0 (within_from (record { start = row; end = next }) r f).1 ∙ yes ∙ sym (or_yes (reads says false old.bands.entries r))
    by true e false f = past (int_le row r) (int_lt r next) refl refl f ∙ sym (or_no (reads says false old.bands.entries r))
      where
        past : (s t : Bool) → int_le row r ≡ s → int_lt r next ≡ t → (s && t) ≡ false → reads says false (set_value (is_at (int_cmp row)) old.bands.entries h.next) r ≡ reads says false old.bands.entries r
        past true true u v g = absurd (true≢false g)
        past true false u v g = reads_after says false row next h.next old.bands.entries r sorted less (ge_from r next v) some
        past false t u v g = reads_before says false row h.next old.bands.entries r (gt_from row r u)

pick : {B : Type 0} (P : B → Type 0) (b : Bool) (x y : B) → P x → P y → P (if b then x else y)
pick P true x y h k = h
pick P false x y h k = k

found : {B : Type 0} (b : Bool) (x y : B) (l m : Option B) → IsSome (if b then Some x else l) → (IsSome l → IsSome m) → IsSome (if b then Some y else m)
found true x y l m h k = refl
found false x y l m h k = k h

-- a band that begins still does
pub still_begins : (row : ℤ) (columns : Span) (old now : RowBands) (t : ℤ) → IsAddedAt row columns old now → IsSome (tree.get int_cmp old.bands t) → IsSome (tree.get int_cmp now.bands t)
still_begins row columns old now t h some =
    let P : List (ℤ × TakenColumns) → Type 0 = λ es. IsSome (lookup (is_at (int_cmp t)) es) in
    subst P (sym h.entries) (kept old.bands.entries some)
  where
    kept : (es : List (ℤ × TakenColumns)) → IsSome (lookup (is_at (int_cmp t)) es) → IsSome (lookup (is_at (int_cmp t)) (set_value (is_at (int_cmp row)) es h.next))
    kept [] g = g
    kept (e ∷ es) g =
        let P : List (ℤ × TakenColumns) → Type 0 = λ l. IsSome (lookup (is_at (int_cmp t)) l) in
        pick P (is_eq (int_cmp row e.0)) ((e.0, h.next) ∷ es) (e ∷ set_value (is_at (int_cmp row)) es h.next) (found (is_eq (int_cmp t e.0)) e.1 h.next (lookup (is_at (int_cmp t)) es) (lookup (is_at (int_cmp t)) es) g (λ k. k))
        (found (is_eq (int_cmp t e.0)) e.1 e.1 (lookup (is_at (int_cmp t)) es) (lookup (is_at (int_cmp t)) (set_value (is_at (int_cmp row)) es h.next)) g (λ k. kept es k))

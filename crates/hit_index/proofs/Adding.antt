-- Strips, as boxes are added to them one by one.
use Rattle.std.proofs.Common.{arith, rules, refl, sym, ap, ◌∙◌, ◌≡◌, ◌≢◌, ℕ, ◌+◌, ◌<◌, ◌≤◌, ◌⊎◌, inl, inr, ℤ, pos, ◌+ℤ◌, ◌≤ℤ◌, ◌<ℤ◌, Bool, true, false, int_lt, List, [], ◌++◌, length, take, replicate, get_or, slice_set}
use Rattle.std.specs.Int.{int_max, int_min}
use Rattle.std.proofs.lemmas.Bool.{and_parts, and_from, cases_eq, cases_lt, false_from_ne_true}
use Rattle.std.proofs.lemmas.Int.{ints, clamps}
use Rattle.std.proofs.lemmas.List.{append-nil, get_or-set_same, get_or-set_other, get_or-replicate, length-replicate, take_all}
use Rattle.std.proofs.Math.ListN.{length-set}
use Rattle.lunit.specs.declared.geometry.Rect.{Rect}
use Rattle.hit_index.specs.Hits.{numbers_from}
use Rattle.hit_index.specs.Strips.{one_if, reaches, reaches_strip, AddsBox, AreRising, AreStrips}
use Rattle.hit_index.proofs.Numbers.{numbers_next}
use Rattle.hit_index.proofs.Bounds.{edges_rise}

-- ---- what a box that reaches a strip says

lt_from : (a b : ℤ) → int_lt a b ≡ true → a <ℤ b
lt_from a b h = search rules

to_lt : (a b : ℤ) → a <ℤ b → int_lt a b ≡ true
to_lt a b h = search rules

-- the box has a width, and its rows and those of the strip have one in common
pub record Reaches (from to : ℤ) (box : Rect) : Type 0 where
  pub wide : pos 0 <ℤ box.width
  pub common : int_max from box.y <ℤ int_min to (box.y +ℤ box.height)

pub reaches_from : (from to : ℤ) (box : Rect) → reaches from to box ≡ true → Reaches from to box
reaches_from from to box h =
    let parts : (int_lt (pos 0) box.width ≡ true) × (int_lt (int_max from box.y) (int_min to (box.y +ℤ box.height)) ≡ true) = and_parts (int_lt (pos 0) box.width) (int_lt (int_max from box.y) (int_min to (box.y +ℤ box.height))) h in
    record { wide = lt_from (pos 0) box.width parts.0; common = lt_from (int_max from box.y) (int_min to (box.y +ℤ box.height)) parts.1 }

pub to_reaches : (from to : ℤ) (box : Rect) → Reaches from to box → reaches from to box ≡ true
to_reaches from to box h = and_from (int_lt (pos 0) box.width) (int_lt (int_max from box.y) (int_min to (box.y +ℤ box.height))) (to_lt (pos 0) box.width h.wide) (to_lt (int_max from box.y) (int_min to (box.y +ℤ box.height)) h.common)

-- it reaches no strip before the one of its first row
not_before : (edges : List ℤ) (box : Rect) (first j : ℕ) → (pos 0 <ℤ box.height → AreRising edges) → first < 64 → (0 < first → get_or edges first (pos 0) ≤ℤ box.y) → j < first → reaches_strip edges box j ≡ false
not_before edges box first j rising few begins h = false_from_ne_true (reaches_strip edges box j) not
  where
    not : reaches_strip edges box j ≡ true → ⊥
    not r =
        let c = (reaches_from (get_or edges j (pos 0)) (get_or edges (j + 1) (pos 0)) box r).common in
        let up = (rising (omega (arith, ints, clamps))).rises (j + 1) first (omega arith) (omega arith) in
        let b : get_or edges first (pos 0) ≤ℤ box.y = begins (omega arith) in
        omega (arith, ints, clamps)

-- the box reaches no strip that begins where it ends or after that
not_after : (edges : List ℤ) (box : Rect) (strip j : ℕ) → (pos 0 <ℤ box.height → AreRising edges) → (box.y +ℤ box.height) ≤ℤ get_or edges strip (pos 0) → strip ≤ j → j < 64 → reaches_strip edges box j ≡ false
not_after edges box strip j rising ends h few = false_from_ne_true (reaches_strip edges box j) not
  where
    not : reaches_strip edges box j ≡ true → ⊥
    not r =
        let c = (reaches_from (get_or edges j (pos 0)) (get_or edges (j + 1) (pos 0)) box r).common in
        let up = (rising (omega (arith, ints, clamps))).rises strip j h (omega arith) in
        omega (arith, ints, clamps)

-- ---- a box, strip by strip

-- the box was added to the strips before one, and not to those from there on
pub record AddsUpTo (edges : List ℤ) (box : Rect) (number : ℕ) (old : List (List ℕ)) (strip : ℕ) (now : List (List ℕ)) : Type 0 where
  pub count : length now ≡ 64
  pub within : strip ≤ 64
  pub before : (j : ℕ) → j < strip → get_or now j [] ≡ get_or old j [] ++ one_if (reaches_strip edges box j) number
  pub after : (j : ℕ) → strip ≤ j → get_or now j [] ≡ get_or old j []

-- to no strip yet
pub adds_none : (edges : List ℤ) (box : Rect) (number : ℕ) (old : List (List ℕ)) (first : ℕ) → length old ≡ 64 → (pos 0 <ℤ box.height → AreRising edges) → first < 64 → (0 < first → get_or edges first (pos 0) ≤ℤ box.y) → AddsUpTo edges box number old first old
adds_none edges box number old first count rising few begins = record {
  count = count;
  within = omega arith;
  before = λ j h. sym (ap (λ b. get_or old j [] ++ one_if b number) (not_before edges box first j rising few begins h) ∙ append-nil (get_or old j []));
  after = λ j h. refl;
}

-- to one strip more
pub adds_next : (edges : List ℤ) (box : Rect) (number : ℕ) (old : List (List ℕ)) (strip : ℕ) (now next : List (List ℕ)) (wanted : Bool) → AddsUpTo edges box number old strip now → strip < 64 → wanted ≡ reaches_strip edges box strip →
    next ≡ slice_set now strip (get_or now strip [] ++ one_if wanted number) → AddsUpTo edges box number old (strip + 1) next
adds_next edges box number old strip now next wanted h few w e = record {
  count = ap length e ∙ length-set now strip (get_or now strip [] ++ one_if wanted number) ∙ h.count;
  within = omega arith;
  before = λ j k. before j k (cases_eq j strip);
  after = λ j k. other j (λ s. absurd (omega (arith, k, s))) ∙ h.after j (omega arith);
}
  where
    other : (j : ℕ) → j ≢ strip → get_or next j [] ≡ get_or now j []
    other j n = ap (λ xs. get_or xs j []) e ∙ get_or-set_other now strip j (get_or now strip [] ++ one_if wanted number) [] n

    here : get_or next strip [] ≡ get_or old strip [] ++ one_if (reaches_strip edges box strip) number
    here = ap (λ xs. get_or xs strip []) e ∙ get_or-set_same now strip (get_or now strip [] ++ one_if wanted number) [] (omega (arith, h.count, few)) ∙ ap (λ ns. ns ++ one_if wanted number) (h.after strip (omega arith)) ∙ ap (λ b. get_or old strip [] ++ one_if b number) w

    before : (j : ℕ) → j < strip + 1 → (j ≡ strip) ⊎ (j ≢ strip) → get_or next j [] ≡ get_or old j [] ++ one_if (reaches_strip edges box j) number
    before j k (inl s) = ap (λ i. get_or next i []) s ∙ here ∙ ap (λ i. get_or old i [] ++ one_if (reaches_strip edges box i) number) (sym s)
    before j k (inr n) = other j n ∙ h.before j (omega (arith, k, n))

-- to all
pub adds_all : (edges : List ℤ) (box : Rect) (number : ℕ) (old : List (List ℕ)) (strip : ℕ) (now : List (List ℕ)) → AddsUpTo edges box number old strip now → 64 ≤ strip → AddsBox edges box number old now
adds_all edges box number old strip now h all = record { count = h.count; each = λ j k. h.before j (omega arith) }

pub adds_rest : (edges : List ℤ) (box : Rect) (number : ℕ) (old : List (List ℕ)) (strip : ℕ) (now : List (List ℕ)) → AddsUpTo edges box number old strip now → (pos 0 <ℤ box.height → AreRising edges) → (box.y +ℤ box.height) ≤ℤ get_or edges strip (pos 0) → AddsBox edges box number old now
adds_rest edges box number old strip now h rising ends = record { count = h.count; each = λ j k. each j k (cases_lt j strip) }
  where
    each : (j : ℕ) → j < 64 → (j < strip) ⊎ (strip ≤ j) → get_or now j [] ≡ get_or old j [] ++ one_if (reaches_strip edges box j) number
    each j k (inl l) = h.before j l
    each j k (inr g) = h.after j g ∙ sym (ap (λ b. get_or old j [] ++ one_if b number) (not_after edges box strip j rising ends g k) ∙ append-nil (get_or old j []))

pub ruleset adding = (adds_none, adds_next, adds_all, adds_rest)

-- ---- box by box

pub fill_none : (edges : List ℤ) (boxes : List Rect) (strips : List (List ℕ)) → strips ≡ replicate 64 [] → AreStrips edges (take 0 boxes) strips
fill_none edges boxes strips e = record {
  count = ap length e ∙ length-replicate {A = List ℕ} 64 [];
  each = λ j h. ap (λ xs. get_or xs j []) e ∙ get_or-replicate 64 j [] [] h;
}

pub fill_next : (edges : List ℤ) (boxes : List Rect) (i : ℕ) (box : Rect) (now next : List (List ℕ)) → i < length boxes → box ≡ get_or boxes i box → AreStrips edges (take i boxes) now → AddsBox edges box i now next → AreStrips edges (take (i + 1) boxes) next
fill_next edges boxes i box now next h e s a = record {
  count = a.count;
  each = λ j k. a.each j k ∙ ap (λ ns. ns ++ one_if (reaches_strip edges box j) i) (s.each j k) ∙ sym (numbers_next (λ (b : Rect). reaches_strip edges b j) boxes i box h e);
}

pub fill_all : (edges : List ℤ) (boxes : List Rect) (n : ℕ) (strips : List (List ℕ)) → length boxes ≤ n → AreStrips edges (take n boxes) strips → AreStrips edges boxes strips
fill_all edges boxes n strips h s = record { count = s.count; each = λ j k. s.each j k ∙ ap (λ xs. numbers_from 0 (λ (b : Rect). reaches_strip edges b j) xs) (take_all n boxes h) }

pub ruleset filling = (fill_none, fill_next, fill_all, edges_rise)

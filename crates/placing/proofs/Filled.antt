-- The places that line values stand for have at least one track.
use Rattle.std.proofs.Common.{rules, ◌≡◌, refl, sym, arith, subst, ℕ, zero, suc, ◌-◌, ◌≤◌, ℤ, pos, negsuc, ◌+ℤ◌, ◌-ℤ◌, ◌≤ℤ◌, ◌<ℤ◌, int_lt, int_le, Bool, true, false, List, [], ◌∷◌, ◌++◌, length, Option, Some, None, if◌then◌else◌}
use Rattle.std.specs.Prelude.{IsTrue, filter, reverse, slice_get, unwrap_or, cond}
use Rattle.std.specs.Int.{int_max, int_min}
use Rattle.std.proofs.lemmas.Int.{ints, clamps}
use Rattle.std.proofs.lemmas.Grind.{reverse_onto}
use Rattle.std.proofs.lemmas.List.{length-reverse}
use Rattle.line_names.specs.Tables.{IsLimit}
use Rattle.lunit.specs.declared.geometry.Span.{Span}
use Rattle.lunit.specs.declared.geometry.Spot.{Spot}
use Rattle.lunit.specs.declared.geometry.Spot.TheVariants.{At, Free}
use Rattle.lunit.specs.declared.line_value.LineValue.{LineValue}
use Rattle.lunit.specs.declared.line_value.LineValue.TheVariants.{Auto, Line, Reach, Named}
use Rattle.part_rules.specs.LineNames.{Side, Table, both_sides, cut_span, cut_spot, free_span, going_back, going_on, line, named_lines, open_side, resolved, side, span_back, span_on, spanning, two_lines}
use Rattle.part_rules.specs.Lists.{above_zero}
use Rattle.style_types.specs.declared.track.Template.{Template}
use Rattle.style_types.specs.declared.track.Template.TheVariants as template
use Rattle.tree_rules.specs.Contexts.{automatic_span}
use Rattle.placing.proofs.Each.{Each}
use Rattle.placing.specs.Insides.{IsFilled, IsWithin}
use Rattle.placing.specs.Ranges.{IsLine, spans_some}
use Rattle.placing.specs.Wishes.{IsLimitOf, limit_of}

-- ---- lines that are found by counting

each_get : (P : ℤ → Type 0) (xs : List ℤ) (k : ℕ) (x : ℤ) → Each P xs → slice_get xs k ≡ Some x → P x
each_get P [] k x h e = absurd cc
each_get P (y ∷ ys) zero x h e = let same : y ≡ x = cc in subst P same h.0
each_get P (y ∷ ys) (suc k) x h e = each_get P ys k x h.1 e

past : (xs : List ℤ) (k : ℕ) → slice_get xs k ≡ None → length xs ≤ k
past [] k e = omega arith
past (y ∷ ys) zero e = absurd cc
past (y ∷ ys) (suc k) e = omega (arith, past ys k e)

each_append : (P : ℤ → Type 0) (xs ys : List ℤ) → Each P xs → Each P ys → Each P (xs ++ ys)
each_append P [] ys h k = k
each_append P (x ∷ rest) ys h k = (h.0, each_append P rest ys h.1 k)

each_back : (P : ℤ → Type 0) (xs : List ℤ) → Each P xs → Each P (reverse xs)
each_back P [] h = tt
each_back P (x ∷ rest) h = subst (Each P) (sym (reverse_onto rest x [])) (each_append P (reverse rest) (x ∷ []) (each_back P rest h.1) (h.0, tt))

each_filter : (p : ℤ → Bool) (P : ℤ → Type 0) (xs : List ℤ) → ((x : ℤ) → p x ≡ true → P x) → Each P (filter p xs)
each_filter p P [] f = tt
each_filter p P (x ∷ rest) f = go (p x) refl (each_filter p P rest f)
  where
    go : (b : Bool) → p x ≡ b → Each P (filter p rest) → Each P (cond b (x ∷ filter p rest) (filter p rest))
    go true e lower = (f x e, lower)
    go false e lower = lower

going_on_after : (from last : ℤ) (lines : List ℤ) (k : ℕ) → Each (λ l. from <ℤ l) lines → from ≤ℤ last → 1 ≤ k → from <ℤ going_on lines k last
going_on_after from last lines k all h some = go (slice_get lines (k - 1)) refl
  where
    go : (o : Option ℤ) → slice_get lines (k - 1) ≡ o → from <ℤ unwrap_or o (last +ℤ pos (k - length lines))
    go (Some l) e = each_get (λ x. from <ℤ x) lines (k - 1) l all e
    go None e = let far = past lines (k - 1) e in omega (arith, ints)

going_back_before : (to first : ℤ) (lines : List ℤ) (k : ℕ) → Each (λ l. l <ℤ to) lines → first ≤ℤ to → 1 ≤ k → going_back lines k first <ℤ to
going_back_before to first lines k all h some = go (slice_get (reverse lines) (k - 1)) refl
  where
    go : (o : Option ℤ) → slice_get (reverse lines) (k - 1) ≡ o → unwrap_or o (first -ℤ pos (k - length lines)) <ℤ to
    go (Some l) e = each_get (λ x. x <ℤ to) (reverse lines) (k - 1) l (each_back (λ x. x <ℤ to) lines all) e
    go None e = let far = past (reverse lines) (k - 1) e in omega (arith, ints, length-reverse lines)

-- ---- both sides

abbrev IsSome : Spot → Type 0
IsSome (At s) = s.start <ℤ s.end
IsSome (Free k) = 1 ≤ k

abbrev Counts : Side → Type 0
Counts (line l) = Unit {0}
Counts (spanning k name) = 1 ≤ k
Counts open_side = Unit {0}

two_lines_some : (automatic : ℕ) (s e : ℤ) → 1 ≤ automatic → IsSome (two_lines automatic s e)
two_lines_some automatic s e h = go (int_lt s e) (int_lt e s) refl refl
  where
    go : (b c : Bool) → int_lt s e ≡ b → int_lt e s ≡ c → IsSome (if b then At (record { start = s; end = e }) else if c then At (record { start = e; end = s }) else At (record { start = s; end = s +ℤ pos automatic }))
    go true c p q = omega (arith, ints)
    go false true p q = omega (arith, ints)
    go false false p q = omega (arith, ints)

span_on_after : (t : Table) (s : ℤ) (k : ℕ) (name : Option (List ℕ)) → 1 ≤ k → s <ℤ span_on t s k name
span_on_after t s k None h = omega (arith, ints)
span_on_after t s k (Some name) h = going_on_after s (int_max (pos t.tracks) s) (filter (λ l. int_lt s l) (named_lines t name)) k (each_filter (λ l. int_lt s l) (λ l. s <ℤ l) (named_lines t name) (λ x e. omega (arith, ints))) (omega (arith, ints, clamps)) h

span_back_before : (t : Table) (e : ℤ) (k : ℕ) (name : Option (List ℕ)) → 1 ≤ k → span_back t e k name <ℤ e
span_back_before t e k None h = omega (arith, ints)
span_back_before t e k (Some name) h = going_back_before e (int_min (pos 0) e) (filter (λ l. int_lt l e) (named_lines t name)) k (each_filter (λ l. int_lt l e) (λ l. l <ℤ e) (named_lines t name) (λ x p. omega (arith, ints))) (omega (arith, ints, clamps)) h

free_some : (k : ℕ) (name : Option (List ℕ)) → 1 ≤ k → 1 ≤ free_span k name
free_some k None h = h
free_some k (Some name) h = omega arith

both_some : (t : Table) (automatic : ℕ) (s e : Side) → 1 ≤ automatic → Counts s → Counts e → IsSome (both_sides t automatic s e)
both_some t automatic (line s) (line e) h p q = two_lines_some automatic s e h
both_some t automatic (line s) (spanning k name) h p q = span_on_after t s k name q
both_some t automatic (line s) open_side h p q = omega (arith, ints)
both_some t automatic (spanning k name) (line e) h p q = span_back_before t e k name p
both_some t automatic (spanning k name) (spanning j other) h p q = free_some k name p
both_some t automatic (spanning k name) open_side h p q = free_some k name p
both_some t automatic open_side (line e) h p q = omega (arith, ints)
both_some t automatic open_side (spanning k name) h p q = free_some k name q
both_some t automatic open_side open_side h p q = h

side_counts : (t : Table) (end : Bool) (l : LineValue) → IsTrue (spans_some l) → Counts (side t end l)
side_counts t end Auto h = tt
side_counts t end (Line k None) h = tt
side_counts t end (Line k (Some name)) h = tt
side_counts t end (Reach k name) h = search rules
side_counts t end (Named name) h = tt

-- ---- the limit

pub cut_within : (limit : Span) (s : Span) → IsLimit limit → s.start <ℤ s.end → IsWithin limit.start limit.end (cut_span limit.start limit.end s)
cut_within limit s h some = go (int_le s.end limit.start) (int_le limit.end s.start) refl refl
  where
    low : ℤ
    low = limit.start

    high : ℤ
    high = limit.end

    go : (b c : Bool) → int_le s.end limit.start ≡ b → int_le limit.end s.start ≡ c
        → IsWithin limit.start limit.end (if b then record { start = limit.start; end = limit.start +ℤ pos 1 } else if c then record { start = limit.end -ℤ pos 1; end = limit.end } else record { start = int_max limit.start s.start; end = int_min limit.end s.end })
    go true c p q = let some_lines = h.some in record { low = omega (arith, ints); some = omega (arith, ints); high = omega (arith, ints) }
    go false true p q = let some_lines = h.some in record { low = omega (arith, ints); some = omega (arith, ints); high = omega (arith, ints) }
    go false false p q = let some_lines = h.some in record { low = omega (arith, ints, clamps); some = omega (arith, ints, clamps); high = omega (arith, ints, clamps) }

lines_in : (n : ℤ) (low high : ℤ) → low <ℤ high → high ≤ℤ (low +ℤ pos 20000) → n ≡ high -ℤ low → (1 ≤ above_zero n) × (above_zero n ≤ 20000)
lines_in (pos n) low high a b e = (omega (arith, ints, e), omega (arith, ints, e))
lines_in (negsuc n) low high a b e = absurd (omega (arith, ints, e))

cut_filled : (t : Table) (p : Spot) → IsLimitOf t → IsSome p → IsFilled (cut_spot t.low t.high p)
cut_filled t (At s) h some =
    let w = cut_within (limit_of t) s h some in
    (w.some, omega (arith, ints, w.high, h.high, h.first))
cut_filled t (Free k) h some =
    let n = lines_in (t.high -ℤ t.low) t.low t.high h.some h.high refl in
    (omega (arith, n.0, some), omega (arith, n.1))

span_some : (is_grid : Bool) (t : Template) → 1 ≤ automatic_span is_grid t
span_some true (template.Subgrid sets) = omega arith
span_some true template.Absent = omega arith
span_some true (template.Tracks l) = omega arith
span_some false t = omega arith

pub filled : (t : Table) (start end : LineValue) (is_grid : Bool) (f : Template) → IsLine start → IsLine end → IsLimitOf t → IsFilled (resolved t start end (automatic_span is_grid f))
filled t start end is_grid f s e h =
    cut_filled t (both_sides t (automatic_span is_grid f) (side t false start) (side t true end)) h (both_some t (automatic_span is_grid f) (side t false start) (side t true end) (span_some is_grid f) (side_counts t false start s.some) (side_counts t true end e.some))

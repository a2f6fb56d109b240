-- Where items of two tracks or more ask for nothing, the steps for groups change no size.
use Rattle.std.proofs.Common.{arith, ap, subst, ◌≡◌, ◌∙◌, sym, refl, ℕ, zero, suc, ◌+◌, ◌<◌, ◌≤◌, ℤ, pos, ◌+ℤ◌, ◌≤ℤ◌, Bool, true, false, ◌&&◌, ◌||◌, List, [], ◌∷◌, map, drop, filter, length, get_or, Option, Some, None, if◌then◌else◌}
use Rattle.std.specs.Prelude.{option_map, unwrap_or}
use Rattle.std.specs.Int.{int_max}
use Rattle.std.specs.List.{list_any}
use Rattle.std.proofs.lemmas.Int.{ints, clamps}
use Rattle.std.proofs.Math.ListN.{drop_of_length-le}
use Rattle.lunit.specs.Units.{clamp, top}
use Rattle.lunit.specs.declared.item.Item.{Item}
use Rattle.part_rules.specs.declared.track.Space.{Space}
use Rattle.part_rules.specs.Lists.{zipped}
use Rattle.part_rules.specs.Tracks.{Track, affected_by, close_limit, content_sized, crosses_flexible, fit_alone, flexible, group_fitted, has_intrinsic_least, high_limits, is_definite, is_max_content, limit_distributed, limit_of, low_limits, mark_endless, of_span, raise_limit, raised_base, raised_limit, raised_limit_by, some_fitted, spans_fitted, unmarked}
use Rattle.track_sizing.specs.declared.kinds.Affected.{Affected}
use Rattle.track_sizing.specs.declared.kinds.Kind.TheVariants as kind
use Rattle.track_sizing.specs.Calm.{AreCalm, AreQuietItems, AreSteady, AreUntouched, IsCalm, IsSteady}
use Rattle.track_sizing.specs.Groups.{affecting, passed}
use Rattle.track_sizing.specs.Here.{HaveLengths}
use Rattle.track_sizing.specs.Kinds.{affected_of}
use Rattle.track_sizing.specs.Placed.{AreReady, limit_step_in}
use Rattle.track_sizing.proofs.Local.{map_length}
use Rattle.track_sizing.proofs.Passed.{group_passed}
use Rattle.track_sizing.proofs.Sums.{drop_item}
use Rattle.track_sizing.proofs.Unchanged.{AreHeld, AreIdle, all_steps, group_idle, limits_planned}

-- ---- one track

-- a track without its mark, whose growth limit has an end
abbrev pub closed : Track → Track
closed t = unmarked (close_limit t)

steady_as : (t u : Track) → closed u ≡ closed t → IsSteady t → IsSteady u
steady_as t u e s =
    let base : u.base ≡ t.base = ap (λ (x : Track). x.base) e in
    let limit : limit_of u ≡ limit_of t = ap limit_of e in
    record {
      some = subst (λ (z : ℤ). pos 0 ≤ℤ z) (sym base) s.some;
      reached = omega (arith, ints, base, limit, s.reached);
      units = omega (arith, ints, limit, s.units);
      planned = ap (λ (x : Track). x.planned) e ∙ s.planned;
      fixed = ap flexible e ∙ s.fixed;
    }

raised_one : (t : Track) → IsSteady t → raised_base t ≡ t
unfolding clamp
raised_one t s =
    let same : clamp (t.base +ℤ t.planned) ≡ t.base = omega (arith, ints, clamps, s.some, s.reached, s.units, s.planned) in
    ap (λ (z : ℤ). record t { base = z; planned = pos 0 }) same ∙ ap (λ (z : ℤ). record t { planned = z }) (sym s.planned)

end_one : (base : ℤ) (limit : Option ℤ) → base ≤ℤ unwrap_or limit base → option_map (int_max base) limit ≡ limit
end_one base None h = refl
end_one base (Some x) h = ap Some (omega (arith, ints, clamps, h))

limit_one : (t : Track) → IsSteady t → raise_limit t ≡ t
limit_one t s = ap (λ (o : Option ℤ). record t { limit = o }) (end_one t.base t.limit s.reached)

closed_raised : (b : Bool) (t : Track) → IsSteady t → closed (if b then raised_limit t else t) ≡ closed t
unfolding clamp
closed_raised true t s =
    let same : clamp (limit_of t +ℤ t.planned) ≡ limit_of t = omega (arith, ints, clamps, s.some, s.reached, s.units, s.planned) in
    ap (λ (z : ℤ). record t { limit = Some z; planned = pos 0; endless = false }) same ∙ ap (λ (z : ℤ). record t { limit = Some (limit_of t); planned = z; endless = false }) (sym s.planned)
closed_raised false t s = refl

-- ---- lists of tracks

abbrev pub all_closed : List Track → List Track
all_closed ts = map closed ts

first_same : (x y : Track) (xs ys : List Track) → x ∷ xs ≡ y ∷ ys → x ≡ y
first_same x y xs ys e = ap (λ (zs : List Track). get_or zs 0 x) e

rest_same : (x y : Track) (xs ys : List Track) → x ∷ xs ≡ y ∷ ys → xs ≡ ys
rest_same x y xs ys e = ap (drop 1) e

pub steady_same : (us ts : List Track) → all_closed us ≡ all_closed ts → AreSteady ts → AreSteady us
steady_same [] ts e s = tt
steady_same (u ∷ us) [] e s = absurd (omega (arith, ap length e))
steady_same (u ∷ us) (t ∷ ts) e s = (steady_as t u (first_same (closed u) (closed t) (all_closed us) (all_closed ts) e) s.0, steady_same us ts (rest_same (closed u) (closed t) (all_closed us) (all_closed ts) e) s.1)

ready_same : (us ts : List Track) → all_closed us ≡ all_closed ts → AreReady ts → AreReady us
ready_same [] ts e s = tt
ready_same (u ∷ us) [] e s = absurd (omega (arith, ap length e))
ready_same (u ∷ us) (t ∷ ts) e s =
    let one : closed u ≡ closed t = first_same (closed u) (closed t) (all_closed us) (all_closed ts) e in
    let planned : u.planned ≡ t.planned = ap (λ (x : Track). x.planned) one in
    ((ap (λ (x : Track). x.incurred) one ∙ s.0.0, subst (λ (z : ℤ). pos 0 ≤ℤ z) (sym planned) s.0.1), ready_same us ts (rest_same (closed u) (closed t) (all_closed us) (all_closed ts) e) s.1)

same_each : (f : Track → Track) (ts : List Track) → ((t : Track) → IsSteady t → f t ≡ t) → AreSteady ts → map f ts ≡ ts
same_each f [] w h = refl
same_each f (t ∷ ts) w h = ap (λ (x : Track). x ∷ map f ts) (w t h.0) ∙ ap (λ (xs : List Track). t ∷ xs) (same_each f ts w h.1)

closed_each : (f : Track → Track) (ts : List Track) → ((t : Track) → IsSteady t → closed (f t) ≡ closed t) → AreSteady ts → all_closed (map f ts) ≡ all_closed ts
closed_each f [] w h = refl
closed_each f (t ∷ ts) w h = ap (λ (x : Track). x ∷ all_closed (map f ts)) (w t h.0) ∙ ap (λ (xs : List Track). closed t ∷ xs) (closed_each f ts w h.1)

marked_closed : (us vs : List Track) → length us ≡ length vs → all_closed (zipped mark_endless us vs) ≡ all_closed vs
marked_closed [] [] e = refl
marked_closed [] (v ∷ vs) e = absurd (omega (arith, e))
marked_closed (u ∷ us) [] e = absurd (omega (arith, e))
marked_closed (u ∷ us) (v ∷ vs) e = ap (λ (xs : List Track). closed v ∷ xs) (marked_closed us vs (omega (arith, e)))

held_of : (ts : List Track) → AreSteady ts → AreHeld ts
held_of ts s = record { lengths = lengths ts s; raised = same_each raised_base ts raised_one s }
  where
    lengths : (ts : List Track) → AreSteady ts → HaveLengths ts
    lengths [] s = tt
    lengths (t ∷ ts) s = ((s.0.some, omega (arith, ints, s.0.some, s.0.reached)), lengths ts s.1)

none_crossed : (ts : List Track) → AreSteady ts → list_any (affected_of (affecting kind.IntrinsicLeast true)) ts ≡ false
none_crossed [] h = refl
none_crossed (t ∷ ts) h = ap (λ (b : Bool). b || list_any (affected_of (affecting kind.IntrinsicLeast true)) ts) (ap (λ (b : Bool). has_intrinsic_least t && (b || false)) h.0.fixed ∙ go (has_intrinsic_least t)) ∙ none_crossed ts h.1
  where
    go : (b : Bool) → (b && (false || false)) ≡ false
    go true = refl
    go false = refl

-- ---- the steps for groups

limits_closed : (a : Affected) (second : Bool) (gap : ℤ) (items : List Item) (ts : List Track) → AreReady ts → AreSteady ts → AreIdle gap items → all_closed (limit_distributed (limit_step_in a second) gap items ts) ≡ all_closed ts
limits_closed a second gap items ts r s h =
    ap (λ (xs : List Track). all_closed (map (raised_limit_by (affected_of a) items) xs)) (limits_planned a second gap items ts r (held_of ts s).lengths h)
    ∙ closed_each (raised_limit_by (affected_of a) items) ts (λ t w. closed_raised (list_any (λ i. affected_by (affected_of a) i t) items) t w) s

lows_closed : (gap : ℤ) (items : List Item) (ts : List Track) → AreReady ts → AreSteady ts → AreIdle gap items → all_closed (low_limits false gap items ts) ≡ all_closed ts
lows_closed gap items ts r s h =
    let limits : List Track = limit_distributed (limit_step_in (affecting kind.IntrinsicMost false) false) gap items ts in
    let same : all_closed limits ≡ all_closed ts = limits_closed (affecting kind.IntrinsicMost false) false gap items ts r s h in
    marked_closed ts limits (sym (map_length closed ts) ∙ ap length (sym same) ∙ map_length closed limits) ∙ same

group_closed : {axis : ℕ} (space : Space axis) (gap : ℤ) (items : List Item) (ts : List Track) → AreReady ts → AreSteady ts → AreIdle gap items → all_closed (group_fitted space gap false items ts) ≡ all_closed ts
unfolding group_fitted
group_closed space gap items ts r s h =
    let lows : List Track = low_limits false gap items ts in
    let same : all_closed lows ≡ all_closed ts = lows_closed gap items ts r s h in
    ap (λ (xs : List Track). all_closed (high_limits false gap items (low_limits false gap items (map raise_limit xs)))) (all_steps (is_definite space) (is_max_content space) gap items ts r (held_of ts s) h)
    ∙ ap (λ (xs : List Track). all_closed (high_limits false gap items (low_limits false gap items xs))) (same_each raise_limit ts limit_one s)
    ∙ limits_closed (affecting kind.MaxContentMost false) true gap items lows (ready_same lows ts same r) (steady_same lows ts same s) h
    ∙ same

some_closed : {axis : ℕ} (space : Space axis) (gap : ℤ) (items : List Item) (ts : List Track) → AreReady ts → AreSteady ts → AreIdle gap items → all_closed (some_fitted space gap items ts) ≡ all_closed ts
some_closed space gap [] ts r s h = refl
some_closed space gap (i ∷ rest) ts r s h = group_closed space gap (i ∷ rest) ts r s h

spans_closed : {axis : ℕ} (space : Space axis) (gap : ℤ) (items : List Item) (more n : ℕ) (ts : List Track) → 2 ≤ n → AreReady ts → AreSteady ts → AreQuietItems gap items → all_closed (spans_fitted space gap items more n ts) ≡ all_closed ts
unfolding spans_fitted
spans_closed space gap items zero n ts l r s q = refl
spans_closed space gap items (suc more) n ts l r s q =
    let group : List Track = some_fitted space gap (of_span ts items n) ts in
    let same : all_closed group ≡ all_closed ts = some_closed space gap (of_span ts items n) ts r s (group_idle gap ts n items l q) in
    spans_closed space gap items more (n + 1) group (omega (arith, l)) (ready_same group ts same r) (steady_same group ts same s) q ∙ same

passed_one : (t : Track) → IsSteady t → closed (passed t) ≡ closed t
passed_one t s = ap (λ (x : Track). closed (unmarked (raise_limit x))) (raised_one t s) ∙ ap (λ (x : Track). closed (unmarked x)) (limit_one t s)

crossed_closed : {axis : ℕ} (space : Space axis) (gap : ℤ) (items : List Item) (ts : List Track) → AreSteady ts → all_closed (group_fitted space gap true items ts) ≡ all_closed ts
crossed_closed space gap items ts s = ap all_closed (sym (group_passed space gap items ts (map passed ts) refl (none_crossed ts s))) ∙ closed_each passed ts passed_one s

ends_closed : (ts : List Track) → all_closed (map close_limit ts) ≡ all_closed ts
ends_closed [] = refl
ends_closed (t ∷ ts) = ap (λ (xs : List Track). closed t ∷ xs) (ends_closed ts)

-- The items of one track alone make the sizes (CSS Grid 2, 12.5).
pub content_closed : {axis : ℕ} (space : Space axis) (gap : ℤ) (items : List Item) (ts : List Track) → AreReady (fit_alone space gap items ts) → AreUntouched gap items (fit_alone space gap items ts) → all_closed (content_sized space gap items ts) ≡ all_closed (fit_alone space gap items ts)
content_closed space gap items ts r u =
    let fitted : List Track = fit_alone space gap items ts in
    let spanning : List Track = spans_fitted space gap items (length ts) 2 fitted in
    let crossing : List Item = filter (crosses_flexible ts) items in
    let same : all_closed spanning ≡ all_closed fitted = spans_closed space gap items (length ts) 2 fitted (omega arith) r u.steady u.quiet in
    ends_closed (group_fitted space gap true crossing spanning) ∙ crossed_closed space gap crossing spanning (steady_same spanning fitted same u.steady) ∙ same

-- ---- which tracks are steady

calm_one : (t : Track) → IsCalm t → IsSteady t
unfolding clamp
calm_one t h =
    let limit : t.limit ≡ Some (limit_of t) = sym (ap (λ (x : Track). x.limit) h.sure.closed) in
    let raised : int_max t.base (limit_of t) ≡ limit_of t = sym (ap (λ (l : Option ℤ). unwrap_or (option_map (int_max t.base) l) t.base) limit) ∙ ap limit_of h.sure.limit in
    let clamped : clamp (limit_of t +ℤ t.planned) ≡ limit_of t = ap limit_of h.sure.stays.raised in
    record {
      some = h.sure.base_some;
      reached = omega (arith, ints, clamps, raised);
      units = omega (arith, ints, clamps, clamped);
      planned = sym (ap (λ (x : Track). x.planned) h.sure.base);
      fixed = h.fixed;
    }

calm_steady : (ts : List Track) → AreCalm ts → AreSteady ts
calm_steady [] h = tt
calm_steady (t ∷ ts) h = (calm_one t h.0, calm_steady ts h.1)

pub untouched_calm : (gap : ℤ) (items : List Item) (ts : List Track) → AreQuietItems gap items → AreCalm ts → AreUntouched gap items ts
untouched_calm gap items ts q c = record { quiet = q; steady = calm_steady ts c }

pub untouched_steady : (gap : ℤ) (items : List Item) (ts : List Track) → AreQuietItems gap items → AreSteady ts → AreUntouched gap items ts
untouched_steady gap items ts q s = record { quiet = q; steady = s }

pub ruleset untouched = (untouched_calm, untouched_steady)

pub row_steady : (t : Track) (base limit units most : ℤ) → flexible t ≡ false → t.planned ≡ pos 0 → base ≡ t.base → pos 0 ≤ℤ base → limit ≡ limit_of t → units ≡ base → most ≡ limit → most ≤ℤ top → units ≤ℤ most → IsSteady t
row_steady t base limit units most f p b s l u m h r = record { some = omega (arith, ints, b, s); reached = omega (arith, ints, b, l, u, m, r); units = omega (arith, ints, l, m, h); planned = p; fixed = f }

-- Where those from this place on are steady, all are.
pub record IsSteadyTo (ts : List Track) (i : ℕ) : Type 0 where
  pub whole : AreSteady (drop i ts) → AreSteady ts

pub steady_start : (ts : List Track) → IsSteadyTo ts 0
steady_start ts = record { whole = λ h. h }

pub steady_more : (ts : List Track) (i : ℕ) (t : Track) → IsSteadyTo ts i → i < length ts → t ≡ get_or ts i t → IsSteady t → IsSteadyTo ts (i + 1)
steady_more ts i t so h e s = record { whole = λ rest. so.whole (subst AreSteady (sym (drop_item ts i t h e)) (s, rest)) }

pub steady_end : (ts : List Track) (i : ℕ) → IsSteadyTo ts i → length ts ≤ i → AreSteady ts
steady_end ts i so h = let none : drop i ts ≡ [] = drop_of_length-le ts h in so.whole (subst AreSteady (sym none) tt)

pub ruleset rows_steady = (steady_start, steady_more, steady_end)

-- Groups of spanning items that no item is in.
use Rattle.std.proofs.Common.{arith, ap, ◌≡◌, ◌∙◌, sym, refl, ℕ, ℤ, pos, ◌+ℤ◌, Bool, false, List, [], ◌∷◌, map, Option, Some, None, is_none, is_some, ◌&&◌}
use Rattle.std.specs.Option.{option_map}
use Rattle.std.specs.Int.{int_max}
use Rattle.std.proofs.lemmas.Int.{ints, clamps}
use Rattle.lunit.specs.Units.{clamp}
use Rattle.part_rules.specs.declared.track.Space.{Space}
use Rattle.part_rules.specs.Lists.{zipped}
use Rattle.part_rules.specs.Tracks.{Track, BaseStep, raise_limit, raised_base, raised_limit_by, base_steps, each_distributed, mark_endless, low_limit_step, high_limit_step, low_limits, high_limits, group_fitted, IsReached, IsSettled, AreSettled, unmarked}

base_stays : (t : Track) → IsSettled t → raised_base t ≡ t
unfolding clamp
base_stays t is =
    let same : clamp (t.base +ℤ t.planned) ≡ t.base = omega (arith, ints, clamps, is.base.0, is.base.1, is.planned) in
    ap (λ (base : ℤ). record t { base = base; planned = pos 0 }) same ∙ ap (λ (planned : ℤ). record t { planned = planned }) (sym is.planned)

bases_stay : (ts : List Track) → AreSettled ts → map raised_base ts ≡ ts
bases_stay [] is = refl
bases_stay (t ∷ ts) is = ap (λ (x : Track). x ∷ map raised_base ts) (base_stays t is.0) ∙ ap (λ (xs : List Track). t ∷ xs) (bases_stay ts is.1)

each_stays : (steps : List BaseStep) (gap : ℤ) (ts : List Track) → AreSettled ts → each_distributed steps gap [] ts ≡ ts
each_stays [] gap ts is = refl
each_stays (s ∷ rest) gap ts is = ap (each_distributed rest gap []) (bases_stay ts is) ∙ each_stays rest gap ts is

limit_stays : (t : Track) → IsSettled t → raise_limit t ≡ t
limit_stays t is = ap (λ (limit : Option ℤ). record t { limit = limit }) (go t.limit is.limit)
  where
    go : (limit : Option ℤ) → IsReached t.base limit → option_map (int_max t.base) limit ≡ limit
    go None h = refl
    go (Some x) h = ap Some (omega (arith, ints, clamps, h))

limits_stay : (ts : List Track) → AreSettled ts → map raise_limit ts ≡ ts
limits_stay [] is = refl
limits_stay (t ∷ ts) is = ap (λ (x : Track). x ∷ map raise_limit ts) (limit_stays t is.0) ∙ ap (λ (xs : List Track). t ∷ xs) (limits_stay ts is.1)

none_raised : (affected : Track → Bool) (ts : List Track) → map (raised_limit_by affected []) ts ≡ ts
none_raised affected [] = refl
none_raised affected (t ∷ ts) = ap (λ (xs : List Track). t ∷ xs) (none_raised affected ts)

no_mark : (t : Track) → mark_endless t t ≡ unmarked t
no_mark t = ap (λ (mark : Bool). record t { endless = mark }) (go t.limit)
  where
    go : (limit : Option ℤ) → (is_none limit && is_some limit) ≡ false
    go None = refl
    go (Some x) = refl

no_marks : (ts : List Track) → zipped mark_endless ts ts ≡ map unmarked ts
no_marks [] = refl
no_marks (t ∷ ts) = ap (λ (x : Track). x ∷ zipped mark_endless ts ts) (no_mark t) ∙ ap (λ (xs : List Track). unmarked t ∷ xs) (no_marks ts)

pub none_fitted : {axis : ℕ} (space : Space axis) (gap : ℤ) (crossing : Bool) (ts : List Track) → AreSettled ts → group_fitted space gap crossing [] ts ≡ map unmarked ts
unfolding group_fitted
none_fitted space gap crossing ts is =
    ap (λ (xs : List Track). high_limits crossing gap [] (low_limits crossing gap [] (map raise_limit xs))) (each_stays (base_steps space gap crossing) gap ts is)
    ∙ ap (λ (xs : List Track). high_limits crossing gap [] (low_limits crossing gap [] xs)) (limits_stay ts is)
    ∙ ap (λ (xs : List Track). high_limits crossing gap [] (zipped mark_endless ts xs)) (none_raised (low_limit_step crossing).affected ts)
    ∙ ap (high_limits crossing gap []) (no_marks ts)
    ∙ none_raised (high_limit_step crossing).affected (map unmarked ts)

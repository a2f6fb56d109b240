-- Base sizes are raised once for a step.
use Rattle.std.proofs.Common.{arith, ap, subst, ◌≡◌, ◌∙◌, sym, refl, ℤ, pos, ◌+ℤ◌, false, List, [], ◌∷◌, map}
use Rattle.std.specs.List.{list_any}
use Rattle.std.proofs.lemmas.Int.{ints, clamps}
use Rattle.lunit.specs.Units.{clamp}
use Rattle.lunit.specs.declared.item.Item.{Item}
use Rattle.part_rules.specs.Tracks.{Track, BaseStep, base_distributed, raised_base}
use Rattle.track_sizing.specs.Groups.{AreAtBase}
use Rattle.track_sizing.proofs.Idle.{bases_unplanned}

raised_once : (t : Track) → raised_base (raised_base t) ≡ raised_base t
unfolding clamp
raised_once t =
    let same : clamp (clamp (t.base +ℤ t.planned) +ℤ pos 0) ≡ clamp (t.base +ℤ t.planned) = omega (arith, ints, clamps) in
    ap (λ (z : ℤ). record t { base = z; planned = pos 0 }) same

each_once : (ts : List Track) → AreAtBase (map raised_base ts)
each_once [] = tt
each_once (t ∷ ts) = (raised_once t, each_once ts)

pub raised_after : (ts now : List Track) → now ≡ map raised_base ts → AreAtBase now
raised_after ts now e = subst AreAtBase (sym e) (each_once ts)

none_raised : (ts : List Track) → AreAtBase ts → map raised_base ts ≡ ts
none_raised [] h = refl
none_raised (t ∷ ts) h = ap (λ (x : Track). x ∷ map raised_base ts) h.0 ∙ ap (λ (us : List Track). t ∷ us) (none_raised ts h.1)

pub base_kept : (s : BaseStep) (gap : ℤ) (items : List Item) (ts : List Track) → list_any s.affected ts ≡ false → AreAtBase ts → ts ≡ base_distributed s gap items ts
base_kept s gap items ts e h = sym (ap (map raised_base) (sym (bases_unplanned s gap items ts e)) ∙ none_raised ts h)

-- Line values that tell no line.
use Rattle.std.proofs.Common.{◌≡◌, ◌∙◌, sym, ℕ, None}
use Rattle.lunit.specs.declared.geometry.Spot.TheVariants.{Free}
use Rattle.lunit.specs.declared.line_value.LineValue.{LineValue}
use Rattle.lunit.specs.declared.line_value.LineValue.TheVariants.{Auto, Reach}
use Rattle.part_rules.specs.LineNames.{cut_spot, resolved}
use Rattle.placing.specs.Wishes.{IsOpen}

pub both_auto : (start end : LineValue) (a n : ℕ) → start ≡ Auto → end ≡ Auto → n ≡ a → IsOpen start end a n
both_auto start end a n s e k = record { place = λ t. (λ i. resolved t (s i) (e i) a) ∙ (λ i. cut_spot t.low t.high (Free (sym k i))) }

pub span_on : (start end : LineValue) (a n : ℕ) → start ≡ Reach n None → end ≡ Auto → IsOpen start end a n
span_on start end a n s e = record { place = λ t i. resolved t (s i) (e i) a }

pub span_back : (start end : LineValue) (a n : ℕ) → start ≡ Auto → end ≡ Reach n None → IsOpen start end a n
span_back start end a n s e = record { place = λ t i. resolved t (s i) (e i) a }

pub two_spans : (start end : LineValue) (a n m : ℕ) → start ≡ Reach n None → end ≡ Reach m None → IsOpen start end a n
two_spans start end a n m s e = record { place = λ t i. resolved t (s i) (e i) a }

pub ruleset open_laws = (both_auto, span_on, span_back, two_spans)

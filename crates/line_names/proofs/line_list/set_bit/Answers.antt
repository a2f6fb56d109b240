use Rattle.std.proofs.Common.{refl, ap, ◌∙◌, ◌||◌, ◌==◌, ◌%◌, ◌*◌, ◌^◌, ◌/◌}
use Rattle.std.specs.Prelude.{bit_or}
use Rattle.line_names.proofs.LineLists.{bit_set, got, not_got}
use Rattle.line_names.proofs.line_list.set_bit.Goals as goal

pub returns-in-Some-clause-set : goal.returns-in-Some-clause-set
returns-in-Some-clause-set c = λ other.
    bit_set c.grow.new.words (c.args.place / 64) c.args.place _ c.in_ok-grow.ensures.enough refl
    (ap (λ w. bit_or w (1 * 2 ^ (c.args.place % 64) % 2 ^ 64)) (got c.grow.new.words (c.args.place / 64) c.in-Some.word.now c.in_ok-grow.ensures.enough c.in-Some.ensures.value)) other
    ∙ ap (λ b. b || (other == c.args.place)) (c.in_ok-grow.ensures.same other)

pub returns-in-None-clause-set : goal.returns-in-None-clause-set
returns-in-None-clause-set c = absurd (not_got c.grow.new.words (c.args.place / 64) c.in_ok-grow.ensures.enough c.in-None.ensures.value)

use Rattle.std.proofs.Common.{arith, rules, ap, sym, ◌∙◌, ◌≡◌, true, Some, unsigned_abs, to_z, of_z, w64}
use Rattle.std.proofs.lemmas.Int.{to_z-of_z}
use Rattle.lunit.specs.Decimals.{number_of, signed}
use Rattle.lunit.specs.Rounded.{rounded_or_none, allows}
use Rattle.lunit.proofs.Allowed.{given_read, size_read, size_signed, size_fits}
use Rattle.lunit.proofs.number.NumberForm.read.Goals as goal

pub signed-requires : goal.signed-requires
signed-requires c =
    let given : Some c.in_ok-number.number ≡ rounded_or_none (number_of c.args.text.now) = sym c.in_ok-number.was ∙ c.read_rounded.ensures in
    let allowed : allows c.args.self c.in_ok-number.number ≡ true = sym c.allows.ensures ∙ c.if-not-allows.false in
    size_fits c.size_of.result c.args.self.most c.args.self.scale (omega (arith, c.size_of.ensures, size_read c.args.self (number_of c.args.text.now) c.in_ok-number.number given (omega arith) allowed c.requires)) (omega arith) c.requires

pub returns-clause-value : goal.returns-clause-value
returns-clause-value c =
    let given : Some c.in_ok-number.number ≡ rounded_or_none (number_of c.args.text.now) = sym c.in_ok-number.was ∙ c.read_rounded.ensures in
    let allowed : allows c.args.self c.in_ok-number.number ≡ true = sym c.allows.ensures ∙ c.if-not-allows.false in
    let plain : to_z w64 (of_z w64 c.signed.result) ≡ c.signed.result = to_z-of_z w64 c.signed.result (search rules) in
    ap Some (plain ∙ c.signed.ensures ∙ ap (signed c.in_ok-number.number.negative) c.size_of.ensures)
    ∙ given_read c.args.self (number_of c.args.text.now) c.in_ok-number.number given (omega arith) allowed c.requires

pub returns-clause-bound : goal.returns-clause-bound
returns-clause-bound c =
    let given : Some c.in_ok-number.number ≡ rounded_or_none (number_of c.args.text.now) = sym c.in_ok-number.was ∙ c.read_rounded.ensures in
    let allowed : allows c.args.self c.in_ok-number.number ≡ true = sym c.allows.ensures ∙ c.if-not-allows.false in
    let plain : to_z w64 (of_z w64 c.signed.result) ≡ c.signed.result = to_z-of_z w64 c.signed.result (search rules) in
    omega (arith, ap unsigned_abs (plain ∙ c.signed.ensures) ∙ size_signed c.in_ok-number.number.negative c.size_of.result, c.size_of.ensures, size_read c.args.self (number_of c.args.text.now) c.in_ok-number.number given (omega arith) allowed c.requires)

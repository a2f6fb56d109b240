use Rattle.std.proofs.Common.{rules, ap, ◌∙◌, take, w64}
use Rattle.std.proofs.lemmas.Int.{to_z-of_z}
use Rattle.lunit.specs.Printed.{printed}
use Rattle.lunit.proofs.Exactly.{exactly_at, reads_back_at}
use Rattle.lunit.proofs.print.px_text.Goals as goal

pub returns-clause-exact : goal.returns-clause-exact
returns-clause-exact c =
    exactly_at c.args.units (take c.put_px.result c.put_px.new.out) c.requires (c.put_px.ensures.text ∙ ap printed (to_z-of_z w64 c.args.units (search rules)))

pub returns-clause-reads_back : goal.returns-clause-reads_back
returns-clause-reads_back c small =
    reads_back_at c.args.units (take c.put_px.result c.put_px.new.out) (c.put_px.ensures.text ∙ ap printed (to_z-of_z w64 c.args.units (search rules))) small

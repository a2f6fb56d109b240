use Rattle.std.proofs.Common.{rules, ◌∙◌, w64}
use Rattle.std.proofs.lemmas.Int.{to_z-of_z}
use Rattle.session.proofs.BoxTexts.{pair_put}
use Rattle.session.proofs.box_text.put_pair.Goals as goal

pub returns-clause-text : goal.returns-clause-text
returns-clause-text c =
    pair_put c.args.inline c.args.block _ _ _ _ _ (to_z-of_z w64 c.units.result (search rules) ∙ c.units.ensures) (to_z-of_z w64 c.units-2.result (search rules) ∙ c.units-2.ensures)
    c.put_px-middle.ensures.text c.put_px.ensures.text

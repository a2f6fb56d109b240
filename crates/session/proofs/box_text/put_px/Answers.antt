use Rattle.std.proofs.Common.{rules, w64}
use Rattle.std.proofs.lemmas.Int.{to_z-of_z}
use Rattle.session.proofs.BoxTexts.{px_put}
use Rattle.session.proofs.box_text.put_px.Goals as goal

pub returns-clause-text : goal.returns-clause-text
returns-clause-text c =
    px_put c.args.units _ c.unsigned_abs-size.result _ _ _ _ _ (to_z-of_z w64 c.args.units (search rules)) c.unsigned_abs-size.ensures.value
    c.put_fraction-point.ensures.text c.put_whole-digits.ensures.text c.put_minus-start.ensures.text c.put_byte.ensures.text

use Rattle.std.proofs.Common.{subst, sym}
use Rattle.box_layout.specs.LastBoxes.{AreClose}
use Rattle.box_layout.proofs.FoundBoxes.{few_items}
use Rattle.box_layout.proofs.last_boxes.is_worth.Goals as goal

pub returns-clause-below : goal.returns-clause-below
returns-clause-below c = λ close boxes few. subst AreClose (few_items c.few.inside.whole c.few.inside.boxes.items boxes c.args.few.now (sym c.few.view_is) few) (subst AreClose c.as_slice.ensures.value (c.are_close.ensures close))

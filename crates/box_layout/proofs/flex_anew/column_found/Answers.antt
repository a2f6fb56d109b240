use Rattle.std.proofs.Common.{sym}
use Rattle.placing.proofs.Leaves.{on_err}
use Rattle.box_layout.proofs.FlexAnswered.{column_told}
use Rattle.walker.specs.Walkers.{nodes}
use Rattle.box_layout.proofs.flex_anew.column_found.Goals as goal

pub returns-clause-value : goal.returns-clause-value
returns-clause-value g c =
    column_told (nodes c.args.walk.now) c.args.id c.args.query.now c.requires.flex c.requires.ask c.requires.direction c.size_given-width.result c.size_given-height.result c.in_ok-frames.frames c.size_given-width.ensures c.size_given-height.ensures c.in_ok-frames.ensures.value

pub returns-clause-children : goal.returns-clause-children
returns-clause-children g c = c.in_ok-frames.ensures.value.children

pub returns-clause-below : goal.returns-clause-below
returns-clause-below g c = c.in_ok-frames.ensures.below c.args.query.now (record { asked = c.requires.ask; inline = sym c.size_given-width.ensures; block = sym c.size_given-height.ensures })

pub returns-in_err-frames-clause-stopped : goal.returns-in_err-frames-clause-stopped
returns-in_err-frames-clause-stopped g c = on_err _ _ (c.in_err-frames.ensures.stopped c.args.query.now (record { asked = c.requires.ask; inline = sym c.size_given-width.ensures; block = sym c.size_given-height.ensures }))

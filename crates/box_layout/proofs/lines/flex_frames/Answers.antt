use Rattle.std.proofs.Common.{ap, ◌≡◌, ◌∙◌, subst, List, map}
use Rattle.std.specs.Prelude.{IfOk}
use Rattle.placing.specs.declared.node.Frame.{Frame}
use Rattle.box_layout.specs.declared.sitting.Container.{Container}
use Rattle.box_layout.specs.declared.sitting.Sitting.{Sitting}
use Rattle.box_layout.specs.Seats.{all_seats, frame_of_seat, ordered_seats}
use Rattle.box_layout.specs.Sittings.{container_by, flex_numbered, flex_ordered}
use Rattle.box_layout.proofs.Alike.{frames_alike}
use Rattle.box_layout.proofs.lines.flex_frames.Goals as goal

pub returns : goal.returns
returns c = λ column x main cross child all e f given.
    let sizes = c.args.sizes.now in
    let ranges = c.args.ranges.now in
    let same : map frame_of_seat (ordered_seats (all_seats c.args.flex.now sizes ranges c.args.children.now)) ≡ flex_ordered child (flex_numbered column x main cross sizes ranges all) =
    ap (λ (k : Container). map frame_of_seat (ordered_seats (all_seats k sizes ranges c.args.children.now))) e
    ∙ ap (λ (xs : List Sitting). map frame_of_seat (ordered_seats (all_seats (container_by column x main cross) sizes ranges xs))) f
    ∙ frames_alike x main cross child column sizes ranges all given in
    let Is : List Frame → Type 0 = λ fs. IfOk c.ordered_frames.result (λ frames. frames ≡ fs) in
    subst Is same c.ordered_frames.ensures

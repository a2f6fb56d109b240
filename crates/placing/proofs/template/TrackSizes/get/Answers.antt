use Rattle.std.proofs.Common.{◌∙◌, ap, List}
use Rattle.std.specs.Prelude.{slice_get}
use Rattle.style_types.specs.declared.track.TrackFn.{TrackFn}
use Rattle.placing.proofs.template.TrackSizes.get.Goals as goal

pub returns : goal.returns
returns c = c.kept_track.ensures ∙ ap (λ (xs : List TrackFn). slice_get xs c.args.at) c.self.view_is

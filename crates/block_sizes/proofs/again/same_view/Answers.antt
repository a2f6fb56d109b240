use Rattle.std.proofs.Common.{◌∙◌, sym}
use Rattle.block_sizes.proofs.ToldRows.{tracks_are}
use Rattle.block_sizes.proofs.again.same_view.Goals as goal

pub returns : goal.returns
returns g c =
    λ e i.
    record {
      edges = (sym c.as_slice.ensures ∙ tracks_are c.as_slice.result.now c.as_slice-2.result.now (sym c.same_tracks.ensures ∙ c.if-not-same_tracks.false) ∙ c.as_slice-2.ensures) i;
      gap = c.same_length.ensures e i;
    }

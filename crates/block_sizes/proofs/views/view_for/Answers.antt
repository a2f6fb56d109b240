use Rattle.std.proofs.Common.{◌∙◌, ap, length}
use Rattle.part_rules.specs.declared.view.View.{View}
use Rattle.inline_sizes.specs.TrackAxes.{track_axis}
use Rattle.block_sizes.proofs.Laid.{view_made}
use Rattle.block_sizes.proofs.views.view_for.Goals as goal

pub returns-clause-value : goal.returns-clause-value
returns-clause-value g c =
    let i = c.args.input.now in
    view_made (track_axis g.row.AXIS i.style.now i.count i.spans.now i.tracks i.items.now) c.args.size c.distribution-align.result c.definite.result c.in_ok-sized.sized c.as_slice-rules.result.now c.as_slice.result.now c.in_ok-edges.edges c.view_with.result
    c.view_with.ensures.value c.in_ok-edges.ensures.value c.distribution-align.ensures c.as_slice-rules.ensures c.as_slice.ensures c.in_ok-sized.ensures.value c.definite.ensures.value

pub returns-clause-counted : goal.returns-clause-counted
returns-clause-counted g c =
    ap (λ (v : View g.row.AXIS). length v.edges) c.view_with.ensures.value ∙ c.in_ok-edges.ensures.counted ∙ ap length c.as_slice-rules.ensures ∙ c.in_ok-sized.ensures.counted.rules

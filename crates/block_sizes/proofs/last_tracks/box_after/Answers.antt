use Rattle.std.proofs.Common.{◌∙◌, ◌+◌, ◌^◌, ◌≤ℤ◌, ap, length, pos, subst, sym}
use Rattle.part_rules.specs.declared.view.View.{View}
use Rattle.inline_sizes.specs.Styled.{grid_at}
use Rattle.placing.specs.Spread.{AreSpread}
use Rattle.tree_rules.specs.Distribution.{view_in}
use Rattle.tree_rules.specs.declared.query.Given.TheVariants as given
use Rattle.block_sizes.proofs.Seen.{view_counted, view_gap, view_spread}
use Rattle.block_sizes.proofs.SeenAlike.{gap_is, tracks_are}
use Rattle.block_sizes.proofs.last_tracks.box_after.Goals as goal

pub returns-clause-value : goal.returns-clause-value
returns-clause-value g c =
    let view : View g.row.AXIS = view_in c.args.outer.now c.args.span (grid_at g.row.AXIS c.args.style.now) in
    λ i. (c.box_over-size.ensures.size i, given.Tracks (tracks_are c.args.outer.now c.box_over-size.result.1 view c.in_ok-tracks.tracks c.in_ok-tracks.ensures.value c.box_over-size.ensures.view i) (gap_is c.args.outer.now c.box_over-size.result.1 view c.box_over-size.ensures.view i))

pub returns-clause-fits : goal.returns-clause-fits
returns-clause-fits g c =
    let view : View g.row.AXIS = view_in c.args.outer.now c.args.span (grid_at g.row.AXIS c.args.style.now) in (
      ap length (tracks_are c.args.outer.now c.box_over-size.result.1 view c.in_ok-tracks.tracks c.in_ok-tracks.ensures.value c.box_over-size.ensures.view)
          ∙ view_counted c.args.outer.now c.args.span (grid_at g.row.AXIS c.args.style.now) c.requires.start c.requires.order c.requires.end,
      subst (λ z. pos 0 ≤ℤ z) (sym (gap_is c.args.outer.now c.box_over-size.result.1 view c.box_over-size.ensures.view)) (view_gap c.args.outer.now c.args.span (grid_at g.row.AXIS c.args.style.now) c.requires.axis c.requires.gap),
    )

pub returns-clause-spread : goal.returns-clause-spread
returns-clause-spread g c = λ by u h.
    let view : View g.row.AXIS = view_in c.args.outer.now c.args.span (grid_at g.row.AXIS c.args.style.now) in
    subst (AreSpread (by + 2 ^ 33)) (sym (tracks_are c.args.outer.now c.box_over-size.result.1 view c.in_ok-tracks.tracks c.in_ok-tracks.ensures.value c.box_over-size.ensures.view))
    (view_spread c.args.outer.now c.args.span (grid_at g.row.AXIS c.args.style.now) by c.requires.axis u h)

use Rattle.std.proofs.Common.{◌∙◌, ◌+◌, ◌^◌, ◌≤ℤ◌, ap, length, pos, subst, sym}
use Rattle.part_rules.specs.declared.view.View.{View}
use Rattle.inline_sizes.specs.Styled.{grid_at}
use Rattle.placing.specs.Spread.{AreSpread}
use Rattle.block_sizes.proofs.Seen.{view_counted, view_gap, view_spread}
use Rattle.block_sizes.proofs.children.given_view.Goals as goal

pub returns-clause-fits : goal.returns-clause-fits
returns-clause-fits g c =
    let grid = grid_at g.row.AXIS c.args.style.now in (
      ap length c.in_ok-tracks.ensures ∙ ap (λ (v : View g.row.AXIS). length v.edges) c.in_ok-edges.ensures ∙ view_counted c.args.outer.now c.args.span grid c.requires.start c.requires.order c.requires.end,
      subst (λ (v : View g.row.AXIS). pos 0 ≤ℤ v.gap) (sym c.in_ok-edges.ensures) (view_gap c.args.outer.now c.args.span grid c.requires.axis c.requires.gap),
    )

pub returns-clause-spread : goal.returns-clause-spread
returns-clause-spread g c = λ by u h.
    subst (AreSpread (by + 2 ^ 33)) (sym (c.in_ok-tracks.ensures ∙ ap (λ (v : View g.row.AXIS). v.edges) c.in_ok-edges.ensures)) (view_spread c.args.outer.now c.args.span (grid_at g.row.AXIS c.args.style.now) by c.requires.axis u h)

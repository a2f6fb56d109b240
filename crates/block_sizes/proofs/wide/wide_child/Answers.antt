use Rattle.std.proofs.Common.{◌∙◌, sym, ap, subst, ◌-ℤ◌, [], true, Bool, ℕ}
use Rattle.lunit.specs.declared.geometry.Span.{Span}
use Rattle.part_rules.specs.Lists.{above_zero}
use Rattle.placing.specs.Nodes.{bare, level_at}
use Rattle.tree_rules.specs.GridSizes.{from_first}
use Rattle.tree_rules.specs.Labels.{ContentStyle}
use Rattle.tree_rules.specs.Queries.{IsGivenFor}
use Rattle.tree_rules.specs.declared.kind.NodeKind.TheVariants as kind
use Rattle.block_sizes.proofs.Fitting.{child_fits, columns_told, farthest_near, farthest_next, spread_near}
use Rattle.block_sizes.specs.Children.{inline_of_child}
use Rattle.placing.specs.Spread.{IsSpread}
use Rattle.block_sizes.proofs.wide.wide_child.Goals as goal

pub child_inline-requires-clause-near : goal.child_inline-requires-clause-near
child_inline-requires-clause-near c = spread_near _ _ c.requires.spread (farthest_near (level_at (bare c.args.tree.now.tree) c.args.id) (c.root.ensures.tree.level c.args.id))

pub returns-clause-value : goal.returns-clause-value
returns-clause-value c =
    c.in_ok-inline.ensures.value
    ∙ (λ i. inline_of_child ((c.items-align.ensures ∙ ap (λ (x : ContentStyle). x.inline.items) c.node_at.ensures.content) i) c.args.columns.now (c.from_first-span.ensures.value i)
    (record { name = []; kind = kind.Flex; grid = c.node_at-2.ensures.grid i; content = c.node_at-2.ensures.content i }) ((c.shares-shared.ensures ∙ sym (columns_told (bare c.args.tree.now.tree) c.args.id c.args.base.now c.args.entry c.requires.entry)) i) c.args.sizes)

pub returns-clause-fits : goal.returns-clause-fits
returns-clause-fits c =
    child_fits (bare c.args.tree.now.tree) c.args.id c.args.base.now c.args.entry c.requires.entry _
    (subst (λ (t : Bool). IsGivenFor true t (above_zero ((from_first c.args.base.now.placed.columns c.args.entry.area.columns).end -ℤ (from_first c.args.base.now.placed.columns c.args.entry.area.columns).start)) c.in_ok-inline.inline.1)
    (c.shares-shared.ensures ∙ sym (columns_told (bare c.args.tree.now.tree) c.args.id c.args.base.now c.args.entry c.requires.entry))
    (subst (λ (s : Span). IsGivenFor true c.shares-shared.result (above_zero (s.end -ℤ s.start)) c.in_ok-inline.inline.1) c.from_first-span.ensures.value c.in_ok-inline.ensures.fits))

pub returns-clause-spread : goal.returns-clause-spread
returns-clause-spread c =
    subst (λ (by : ℕ). IsSpread by c.in_ok-inline.inline.1) (farthest_next (level_at (bare c.args.tree.now.tree) c.args.id) _ c.requires.entry.level) (c.in_ok-inline.ensures.spread _ c.requires.range c.requires.spread)

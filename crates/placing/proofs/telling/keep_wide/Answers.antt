use Rattle.std.proofs.Common.{◌∙◌, ap, map, subst, sym}
use Rattle.lunit.specs.declared.geometry.Area.{Area}
use Rattle.node_arena.specs.declared.number.NodeId.{NodeId}
use Rattle.placing.specs.Kept.{turn_at}
use Rattle.placing.specs.Nodes.{bare}
use Rattle.placing.specs.Told.{HoldsTold}
use Rattle.placing.specs.declared.wide.GridBase.{GridBase}
use Rattle.placing.specs.declared.wide.GridWide.{GridWide}
use Rattle.placing.proofs.Puts.{changes_alike, changes_right, new_wide}
use Rattle.placing.proofs.Stale.{wide_kept}
use Rattle.placing.proofs.telling.keep_wide.Goals as goal

pub returns-clause-right : goal.returns-clause-right
returns-clause-right c =
    changes_right _ _ _ _ c.gain_wide.ensures c.requires.right (new_wide c.args.tree.now.tree c.args.id c.in_ok-shared.shared c.requires.right
    (subst (HoldsTold (bare c.args.tree.now.tree) (turn_at c.args.tree.now.tree) c.args.id) (sym c.in_ok-shared.ensures)
    (wide_kept (bare c.args.tree.now.tree) (turn_at c.args.tree.now.tree) c.args.id (record { wide = c.args.wide; align = c.args.align; column_ends = c.args.column_ends; row_ends = c.args.row_ends; turns = c.in_ok-turns.turns })
    (c.in_ok-turns.ensures ∙ ap (map (λ (e : NodeId × Area). turn_at c.args.tree.now.tree e.0)) (c.as_slice-areas.ensures ∙ ap (λ (z : GridBase). z.placed.areas) (c.grid-2.ensures ∙ ap (λ (z : GridWide). z.parts.base) c.grid.ensures))) c.requires.places c.requires.columns
    c.requires.rows c.requires.laid)))

pub returns-clause-alike : goal.returns-clause-alike
returns-clause-alike c = changes_alike _ _ _ _ c.gain_wide.ensures

use Rattle.std.proofs.Common.{◌∙◌, ap, map, subst, sym}
use Rattle.lunit.specs.declared.geometry.Area.{Area}
use Rattle.node_arena.specs.declared.number.NodeId.{NodeId}
use Rattle.placing.specs.Kept.{turn_at}
use Rattle.placing.specs.Nodes.{bare}
use Rattle.placing.specs.Told.{HoldsFrames}
use Rattle.placing.specs.declared.wide.GridBase.{GridBase}
use Rattle.placing.proofs.Puts.{changes_alike, changes_right, new_frames}
use Rattle.placing.proofs.LastFrames.{frames_kept}
use Rattle.placing.proofs.last_frames.keep_frames.Goals as goal

pub returns-clause-right : goal.returns-clause-right
returns-clause-right c =
    changes_right _ _ _ _ c.gain_frames.ensures c.requires.right (new_frames c.args.tree.now.tree c.args.id c.in_ok-shared.shared c.requires.right
    (subst (HoldsFrames (bare c.args.tree.now.tree) (turn_at c.args.tree.now.tree) c.args.id) (sym c.in_ok-shared.ensures)
    (frames_kept (bare c.args.tree.now.tree) (turn_at c.args.tree.now.tree) c.args.id (record { base = c.args.base; columns = c.args.columns; rows = c.args.rows; frames = c.args.frames; turns = c.in_ok-turns.turns })
    (c.in_ok-turns.ensures ∙ ap (map (λ (e : NodeId × Area). turn_at c.args.tree.now.tree e.0)) (c.as_slice-areas.ensures ∙ ap (λ (z : GridBase). z.placed.areas) c.grid.ensures)) c.requires.places c.requires.frames)))

pub returns-clause-alike : goal.returns-clause-alike
returns-clause-alike c = changes_alike _ _ _ _ c.gain_frames.ensures

-- The measures of the walk, and what holds in its loops. The measure of a function is sixteen times the size of its node and a number below 16: those that go down to
-- a child take the child's node.
use Rattle.std.proofs.Common.{◌≡◌, ◌+◌, ◌*◌, ◌++◌, drop, length, map}
use Rattle.std.specs.Prelude.{IfSome}
use Rattle.placing.specs.Nodes.{kid_at, sight_at, size_at}
use Rattle.placing.specs.Told.{AllBut, AreRowsFor, AreTold, Each, TellsRows}
use Rattle.placing.specs.Walks.{WalkedBelow}
use Rattle.tree_rules.specs.declared.query.Query.{Query}
use Rattle.block_sizes.specs.Settling.{LeadsTo, block_of, settled_seen}
use Rattle.block_sizes.specs.Wides.{LeadsDown}
use Rattle.walker.specs.Walkers.{SameParts, Stands, nodes, seen}
use Rattle.block_sizes.proofs.+walk.Given as goal

abbrev pub decreases-asking::ask_lent : goal.decreases-asking::ask_lent
decreases-asking::ask_lent g l = 16 * size_at (nodes l.walk.now) l.entry.child + 7

abbrev pub decreases-asking::ask_block : goal.decreases-asking::ask_block
decreases-asking::ask_block g l = 16 * size_at (nodes l.walk.now) l.entry.child + 7

abbrev pub decreases-asking::ask_rows : goal.decreases-asking::ask_rows
decreases-asking::ask_rows g l = 16 * size_at (nodes l.walk.now) l.entry.child + 8

abbrev pub decreases-asking::ask_child : goal.decreases-asking::ask_child
decreases-asking::ask_child g l = 16 * size_at (nodes l.walk.now) l.entry.child + 9

abbrev pub decreases-asking::ask_children : goal.decreases-asking::ask_children
decreases-asking::ask_children g l = 16 * size_at (nodes l.walk.now) l.id + 0

abbrev pub decreases-asking::ask_stale : goal.decreases-asking::ask_stale
decreases-asking::ask_stale g l = 16 * size_at (nodes l.walk.now) l.id + 0

abbrev pub decreases-asking::told_rows : goal.decreases-asking::told_rows
decreases-asking::told_rows g l = 16 * size_at (nodes l.walk.now) l.id + 1

abbrev pub decreases-asking::told_wide_at : goal.decreases-asking::told_wide_at
decreases-asking::told_wide_at g l = 16 * size_at (nodes l.walk.now) l.id + 3

abbrev pub decreases-walk::member_block : goal.decreases-walk::member_block
decreases-walk::member_block g l = 16 * size_at (nodes l.walk.now) l.child + 7

abbrev pub decreases-walk::ask_members : goal.decreases-walk::ask_members
decreases-walk::ask_members g l = 16 * size_at (nodes l.walk.now) l.id + 0

abbrev pub decreases-walk::row_told : goal.decreases-walk::row_told
decreases-walk::row_told g l = 16 * size_at (nodes l.walk.now) l.id + 1

abbrev pub decreases-walk::column_told : goal.decreases-walk::column_told
decreases-walk::column_told g l = 16 * size_at (nodes l.walk.now) l.id + 1

abbrev pub decreases-walk::grid_anew : goal.decreases-walk::grid_anew
decreases-walk::grid_anew g l = 16 * size_at (nodes l.walk.now) l.id + 4

abbrev pub decreases-walk::column_anew : goal.decreases-walk::column_anew
decreases-walk::column_anew g l = 16 * size_at (nodes l.walk.now) l.id + 4

abbrev pub decreases-walk::row_anew : goal.decreases-walk::row_anew
decreases-walk::row_anew g l = 16 * size_at (nodes l.walk.now) l.id + 4

abbrev pub decreases-walk::block_anew : goal.decreases-walk::block_anew
decreases-walk::block_anew g l = 16 * size_at (nodes l.walk.now) l.id + 5

abbrev pub decreases-walk::rows_anew : goal.decreases-walk::rows_anew
decreases-walk::rows_anew g l = 16 * size_at (nodes l.walk.now) l.id + 5

abbrev pub decreases-walk::block_in : goal.decreases-walk::block_in
decreases-walk::block_in g l = 16 * size_at (nodes l.walk.now) l.id + 6

abbrev pub decreases-walk::lend_rows_at : goal.decreases-walk::lend_rows_at
decreases-walk::lend_rows_at g l = 16 * size_at (nodes l.walk.now) l.id + 6

abbrev pub invariant-asking::ask_children-loop-index : goal.invariant-asking::ask_children-loop-index
invariant-asking::ask_children-loop-index g l =
    record {
      stands : Stands l.walk;
      parts : SameParts l.fn.walk l.walk;
      same : nodes l.walk ≡ nodes l.fn.walk;
      walked : (q : Query) → LeadsDown (nodes l.fn.walk) l.id l.reps l.width q → WalkedBelow l.id q 0 (seen g.R.Ruler.log l.fn.walk) (seen g.R.Ruler.log l.walk);
      counted : length l.children ≡ l.index;
      told : AreTold Each (TellsRows (sight_at (nodes l.fn.walk) l.id) (kid_at (nodes l.fn.walk)) l.parts.base l.columns (sight_at (nodes l.fn.walk) l.id).label.content.inline.items) l.children l.items l.ends;
    }

abbrev pub invariant-asking::ask_stale-loop-index : goal.invariant-asking::ask_stale-loop-index
invariant-asking::ask_stale-loop-index g l =
    record {
      stands : Stands l.walk;
      parts : SameParts l.fn.walk l.walk;
      same : nodes l.walk ≡ nodes l.fn.walk;
      walked : (q : Query) → LeadsDown (nodes l.fn.walk) l.id l.reps l.width q → WalkedBelow l.id q 0 (seen g.R.Ruler.log l.fn.walk) (seen g.R.Ruler.log l.walk);
      counted : length l.children ≡ length l.parts.base.placed.areas;
      told : AreTold (AllBut (drop l.index-index l.index-items)) (TellsRows (sight_at (nodes l.fn.walk) l.id) (kid_at (nodes l.fn.walk)) l.parts.base l.columns (sight_at (nodes l.fn.walk) l.id).label.content.inline.items) l.children l.items l.ends;
      rows : IfSome l.rows (AreRowsFor (sight_at (nodes l.fn.walk) l.id) l.parts.base l.items);
    }

abbrev pub invariant-walk::ask_members-loop-index : goal.invariant-walk::ask_members-loop-index
invariant-walk::ask_members-loop-index g l =
    record {
      stands : Stands l.walk;
      parts : SameParts l.fn.walk l.walk;
      same : nodes l.walk ≡ nodes l.fn.walk;
      walked : (q : Query) → LeadsTo (nodes l.fn.walk) l.fn.id l.boxes q → WalkedBelow l.fn.id q 0 (seen g.R.Ruler.log l.fn.walk) (seen g.R.Ruler.log l.walk);
      blocks : l.blocks ++ map block_of (drop l.index (settled_seen (nodes l.fn.walk) l.fn.id l.boxes)) ≡ map block_of (settled_seen (nodes l.fn.walk) l.fn.id l.boxes);
    }

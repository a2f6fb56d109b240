-- The measures of the walk, and what holds in its loops. The measure of a function is sixteen times the size of its node and a number below 16: those that go down
-- to a child take the child's node.
use Rattle.std.proofs.Common.{◌≡◌, ◌+◌, ◌*◌, ◌≤◌, drop, length, map, take}
use Rattle.placing.specs.Members.{Every, place_of}
use Rattle.placing.specs.Nodes.{kid_at, sight_at, size_at}
use Rattle.placing.specs.Told.{AllBut, AreTold, Each, TellsColumns}
use Rattle.placing.specs.Walks.{WalkedBelow}
use Rattle.tree_rules.specs.declared.query.Query.{Query}
use Rattle.inline_sizes.specs.Grids.{HaveTold, LeadsOn}
use Rattle.inline_sizes.proofs.FlexTold.{tells_in}
use Rattle.walker.specs.Walkers.{SameParts, Stands, nodes, seen}
use Rattle.inline_sizes.proofs.+walk.Given as goal

abbrev pub decreases-asking::ask_shared : goal.decreases-asking::ask_shared
decreases-asking::ask_shared g l = 16 * size_at (nodes l.walk.now) l.entry.child + 8

abbrev pub decreases-asking::ask_alone : goal.decreases-asking::ask_alone
decreases-asking::ask_alone g l = 16 * size_at (nodes l.walk.now) l.id + 8

abbrev pub decreases-asking::ask_sizes : goal.decreases-asking::ask_sizes
decreases-asking::ask_sizes g l = 16 * size_at (nodes l.walk.now) l.entry.child + 9

abbrev pub decreases-asking::ask_child : goal.decreases-asking::ask_child
decreases-asking::ask_child g l = 16 * size_at (nodes l.walk.now) l.entry.child + 10

abbrev pub decreases-asking::ask_children : goal.decreases-asking::ask_children
decreases-asking::ask_children g l = 16 * size_at (nodes l.walk.now) l.id

abbrev pub decreases-asking::ask_stale : goal.decreases-asking::ask_stale
decreases-asking::ask_stale g l = 16 * size_at (nodes l.walk.now) l.id

abbrev pub decreases-asking::ask_again : goal.decreases-asking::ask_again
decreases-asking::ask_again g l = 16 * size_at (nodes l.walk.now) l.id + 1

abbrev pub decreases-asking::ask_needed : goal.decreases-asking::ask_needed
decreases-asking::ask_needed g l = 16 * size_at (nodes l.walk.now) l.id + 2

abbrev pub decreases-asking::grid_in : goal.decreases-asking::grid_in
decreases-asking::grid_in g l = 16 * size_at (nodes l.walk.now) l.id + 3

abbrev pub decreases-walk::tell_member : goal.decreases-walk::tell_member
decreases-walk::tell_member g l = 16 * size_at (nodes l.walk.now) l.last.now.member.child + 10

abbrev pub decreases-walk::tell_members : goal.decreases-walk::tell_members
decreases-walk::tell_members g l = 16 * size_at (nodes l.walk.now) l.id

abbrev pub decreases-walk::told_members : goal.decreases-walk::told_members
decreases-walk::told_members g l = 16 * size_at (nodes l.walk.now) l.id + 1

abbrev pub decreases-walk::grid_anew : goal.decreases-walk::grid_anew
decreases-walk::grid_anew g l = 16 * size_at (nodes l.walk.now) l.id + 5

abbrev pub decreases-walk::flex_anew : goal.decreases-walk::flex_anew
decreases-walk::flex_anew g l = 16 * size_at (nodes l.walk.now) l.id + 5

abbrev pub decreases-walk::sizes_anew : goal.decreases-walk::sizes_anew
decreases-walk::sizes_anew g l = 16 * size_at (nodes l.walk.now) l.id + 6

abbrev pub decreases-walk::inline_at : goal.decreases-walk::inline_at
decreases-walk::inline_at g l = 16 * size_at (nodes l.walk.now) l.id + 7

abbrev pub decreases-walk::columns_anew : goal.decreases-walk::columns_anew
decreases-walk::columns_anew g l = 16 * size_at (nodes l.walk.now) l.id + 6

abbrev pub decreases-walk::lend_columns_at : goal.decreases-walk::lend_columns_at
decreases-walk::lend_columns_at g l = 16 * size_at (nodes l.walk.now) l.id + 7

abbrev pub invariant-asking::ask_children-loop-index : goal.invariant-asking::ask_children-loop-index
invariant-asking::ask_children-loop-index g l =
    record {
      stands : Stands l.walk;
      parts : SameParts l.fn.walk l.walk;
      same : nodes l.walk ≡ nodes l.fn.walk;
      walked : (q : Query) → LeadsOn (nodes l.fn.walk) l.id l.base q → WalkedBelow l.id q 0 (seen g.R.Ruler.log l.fn.walk) (seen g.R.Ruler.log l.walk);
      counted : (length l.inlines ≡ l.index) × (l.index ≤ length l.base.placed.areas);
      told : AreTold Each (TellsColumns (sight_at (nodes l.fn.walk) l.id) (kid_at (nodes l.fn.walk)) l.base) l.inlines l.items l.ends;
    }

abbrev pub invariant-asking::ask_stale-loop-index : goal.invariant-asking::ask_stale-loop-index
invariant-asking::ask_stale-loop-index g l =
    record {
      stands : Stands l.walk;
      parts : SameParts l.fn.walk l.walk;
      same : nodes l.walk ≡ nodes l.fn.walk;
      walked : (q : Query) → LeadsOn (nodes l.fn.walk) l.id l.base q → WalkedBelow l.id q 0 (seen g.R.Ruler.log l.fn.walk) (seen g.R.Ruler.log l.walk);
      told : HaveTold (nodes l.fn.walk) l.id l.base (AllBut (drop l.index-index l.stale)) l.inlines l.items l.ends;
    }

abbrev pub invariant-walk::tell_members-loop-last : goal.invariant-walk::tell_members-loop-last
invariant-walk::tell_members-loop-last g l =
    record {
      stands : Stands l.walk;
      parts : SameParts l.fn.walk l.walk;
      same : nodes l.walk ≡ nodes l.fn.walk;
      walked : (q : Query) → WalkedBelow l.fn.id q 0 (seen g.R.Ruler.log l.fn.walk) (seen g.R.Ruler.log l.walk);
      places : map place_of l.told ≡ map place_of (take l.last-index l.past);
      told : Every (tells_in (nodes l.fn.walk)) l.told;
    }

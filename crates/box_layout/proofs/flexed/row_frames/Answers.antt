use Rattle.std.proofs.Common.{◌≡◌, sym, subst, refl, true, false, []}
use Rattle.placing.proofs.Leaves.{on_err}
use Rattle.placing.proofs.Walks.{stopped}
use Rattle.placing.specs.Nodes.{BareTrees, IsLive}
use Rattle.placing.specs.Ranges.{AreReadable}
use Rattle.placing.specs.Walks.{Stopped}
use Rattle.tree_rules.specs.AskedQueries.{block_query}
use Rattle.tree_rules.specs.Frames.{given_size}
use Rattle.tree_rules.specs.Queries.{needs_inline}
use Rattle.tree_rules.specs.declared.query.Given.TheVariants as given
use Rattle.tree_rules.specs.declared.query.Query.{Query}
use Rattle.block_sizes.specs.Settling.{IsRow}
use Rattle.box_layout.specs.FlexFrames.{AreFrames, row_seen}
use Rattle.walker.specs.Walkers.{seen}
use Rattle.box_layout.proofs.flexed.row_frames.Goals as goal

pub frames_of_row-requires-clause-live : goal.frames_of_row-requires-clause-live
frames_of_row-requires-clause-live g c = subst (λ (z : BareTrees). IsLive z c.args.id) (sym (c.in_ok-row.ensures.below (block_query false [] (given.Size c.args.width)) refl refl).walk.bare_same) c.requires.live

pub frames_of_row-requires-clause-readable : goal.frames_of_row-requires-clause-readable
frames_of_row-requires-clause-readable g c = subst AreReadable (sym (c.in_ok-row.ensures.below (block_query false [] (given.Size c.args.width)) refl refl).walk.bare_same) c.requires.stands.readable

pub frames_of_row-requires-clause-row : goal.frames_of_row-requires-clause-row
frames_of_row-requires-clause-row g c = subst (λ (z : BareTrees). IsRow z c.args.id c.args.width c.in_ok-row.row) (sym (c.in_ok-row.ensures.below (block_query false [] (given.Size c.args.width)) refl refl).walk.bare_same) c.in_ok-row.ensures.value

pub returns-clause-value : goal.returns-clause-value
returns-clause-value g c = subst (λ (z : BareTrees). AreFrames z c.args.id (row_seen z c.args.id c.args.width c.args.height) c.in_ok-frames.frames) (c.in_ok-row.ensures.below (block_query false [] (given.Size c.args.width)) refl refl).walk.bare_same c.in_ok-frames.ensures

pub returns-clause-below : goal.returns-clause-below
returns-clause-below g c = c.in_ok-row.ensures.below

pub returns-in_err-row-clause-stopped : goal.returns-in_err-row-clause-stopped
returns-in_err-row-clause-stopped g c = on_err _ _ c.in_err-row.ensures.stopped

pub returns-in_err-frames-clause-stopped : goal.returns-in_err-frames-clause-stopped
returns-in_err-frames-clause-stopped g c =
    let all : (q : Query) → given_size q.inline ≡ c.args.width → needs_inline q.ask ≡ true →
    Stopped c.args.id q (seen g.R.Ruler.log c.args.walk.now) (seen g.R.Ruler.log c.row_for.new.walk) = λ q w n. stopped c.args.id q 1 _ _
    (c.in_ok-row.ensures.below q w n) in
    on_err _ _ all

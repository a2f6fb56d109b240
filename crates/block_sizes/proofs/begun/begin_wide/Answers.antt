use Rattle.std.proofs.Common.{sym, subst, refl, ◌∙◌, ◌≡◌, length, true, false}
use Rattle.std.specs.Prelude.{IfSome}
use Rattle.placing.specs.Nodes.{BareTrees, IsLive, level_at, sight_at}
use Rattle.placing.specs.Seats.{IsSeat}
use Rattle.placing.specs.Spread.{IsSpread}
use Rattle.placing.specs.Told.{IsPastColumns, IsPastRows}
use Rattle.placing.specs.Walks.{Stopped, state}
use Rattle.placing.proofs.Leaves.{on_err}
use Rattle.placing.proofs.Walks.{stopped, ticked, walked_none}
use Rattle.tree_rules.specs.AskedQueries.{block_query}
use Rattle.tree_rules.specs.Queries.{IsGivenFor, outer_context, sees_columns}
use Rattle.tree_rules.specs.declared.kind.NodeKind.TheVariants as kind
use Rattle.tree_rules.specs.declared.query.Query.{Query}
use Rattle.inline_sizes.specs.Grids.{IsGrid}
use Rattle.block_sizes.proofs.Fitting.{given_some}
use Rattle.block_sizes.specs.Told.{AreLaid, ArePastIn, IsBegun}
use Rattle.block_sizes.specs.Wides.{farthest}
use Rattle.walker.proofs.Parts.{parts_then}
use Rattle.walker.specs.Walkers.{nodes, seen}
use Rattle.block_sizes.proofs.begun.begin_wide.Goals as goal

pub grid_in-requires : goal.grid_in-requires
grid_in-requires g c =
    let back = sym c.take_past.ensures.bare in
    record {
      stands = c.take_past.ensures.stands;
      live = subst (λ (z : BareTrees). IsLive z c.args.id) back c.requires.live;
      grid = subst (λ (z : BareTrees). (sight_at z c.args.id).label.kind ≡ kind.Grid) back c.requires.grid;
      reps = subst (λ (z : BareTrees). length c.args.seat.now.reps.now ≡ length (sight_at z c.args.id).chain) back c.requires.reps;
      seat = subst (λ (z : BareTrees). IsSeat (sight_at z c.args.id) c.args.seat.now.reps.now c.args.seat.now.above.now c.args.seat.now.area) back c.requires.seat;
      width = given_some (sees_columns (sight_at (nodes c.args.walk.now) c.args.id)) _ c.args.width.now c.requires.inline;
      past = subst (λ (z : BareTrees). IfSome c.in_ok-before.before (IsPastColumns z c.args.id)) back c.in_ok-before.ensures.columns;
    }

pub columns_of-requires : goal.columns_of-requires
columns_of-requires g c =
    let same = (c.in_ok-told.ensures.below (block_query false c.args.seat.now.reps.now c.args.width.now) refl refl).walk.bare_same in
    let back = sym (same ∙ c.take_past.ensures.bare) in
    record {
      live = subst (λ (z : BareTrees). IsLive z c.args.id) back c.requires.live;
      readable = c.grid_in.ensures.stands.readable;
      kind = subst (λ (z : BareTrees). (sight_at z c.args.id).label.kind ≡ kind.Grid) back c.requires.grid;
      grid = subst (λ (z : BareTrees). IsGrid z c.args.id c.args.seat.now.reps.now c.args.width.now c.in_ok-told.told.parts) (sym same) c.in_ok-told.ensures.value;
      inline = subst (λ (z : BareTrees). IsGivenFor true (sees_columns (sight_at z c.args.id)) (outer_context (sight_at z c.args.id) c.args.seat.now.reps.now).columns.table.tracks c.args.width.now) back c.requires.inline;
      spread = subst (λ (z : BareTrees). IsSpread (farthest (level_at z c.args.id)) c.args.width.now) back c.requires.spread;
    }

pub past_for-past-requires : goal.past_for-past-requires
past_for-past-requires g c =
    let same = (c.in_ok-told.ensures.below (block_query false c.args.seat.now.reps.now c.args.width.now) refl refl).walk.bare_same in
    let back = sym (same ∙ c.take_past.ensures.bare) in
    record {
      live = subst (λ (z : BareTrees). IsLive z c.args.id) back c.requires.live;
      grid = subst (λ (z : BareTrees). IsGrid z c.args.id c.args.seat.now.reps.now c.args.width.now c.in_ok-told.told.parts) (sym same) c.in_ok-told.ensures.value;
      past = subst (λ (z : BareTrees). IfSome c.in_ok-before.rows (IsPastRows z c.args.id)) back c.in_ok-before.ensures.rows;
    }

pub returns-in_err-before-clause-stopped : goal.returns-in_err-before-clause-stopped
returns-in_err-before-clause-stopped g c =
    let all : (q : Query) → q.reps ≡ c.args.seat.now.reps.now → q.inline ≡ c.args.width.now → Stopped c.args.id q (seen g.R.Ruler.log c.args.walk.now) (seen g.R.Ruler.log c.take_past.new.walk) =
    λ q r w. c.take_past.ensures.stopped q (seen g.R.Ruler.log c.take_past.new.walk) (stopped c.args.id q 0 _ _ (walked_none c.args.id q (seen g.R.Ruler.log c.take_past.new.walk) c.take_past.ensures.stands.right)) in
    on_err _ _ all

pub returns-in_err-told-clause-stopped : goal.returns-in_err-told-clause-stopped
returns-in_err-told-clause-stopped g c =
    let all : (q : Query) → q.reps ≡ c.args.seat.now.reps.now → q.inline ≡ c.args.width.now → Stopped c.args.id q (seen g.R.Ruler.log c.args.walk.now) (seen g.R.Ruler.log c.grid_in.new.walk) =
    λ q r w. c.take_past.ensures.stopped q (seen g.R.Ruler.log c.grid_in.new.walk) (c.in_err-told.ensures.stopped q r w) in
    on_err _ _ all

pub returns-in_err-columns-clause-stopped : goal.returns-in_err-columns-clause-stopped
returns-in_err-columns-clause-stopped g c =
    let now = state c.grid_in.new.walk.tree.now c.grid_in.new.walk.tally.now c.columns_of.new.passes (g.R.Ruler.log c.grid_in.new.walk.ruler.now) in
    let all : (q : Query) → q.reps ≡ c.args.seat.now.reps.now → q.inline ≡ c.args.width.now → Stopped c.args.id q (seen g.R.Ruler.log c.args.walk.now) now =
    λ q r w. c.take_past.ensures.stopped q now (stopped c.args.id q 1 _ _ (ticked c.args.id q 0 1 _ _ c.columns_of.new.passes c.columns_of.ensures.ticks (c.in_ok-told.ensures.below q r w))) in
    on_err _ _ all

pub returns-in_err-told-clause-parts : goal.returns-in_err-told-clause-parts
returns-in_err-told-clause-parts g c = parts_then _ _ _ c.take_past.ensures.parts c.grid_in.ensures.parts

pub returns-in_err-columns-clause-parts : goal.returns-in_err-columns-clause-parts
returns-in_err-columns-clause-parts g c =
    record {
      tree = c.grid_in.ensures.parts.tree ∙ c.take_past.ensures.parts.tree;
      ruler = c.grid_in.ensures.parts.ruler ∙ c.take_past.ensures.parts.ruler;
      tally = c.grid_in.ensures.parts.tally ∙ c.take_past.ensures.parts.tally;
      passes = c.grid_in.ensures.parts.passes ∙ c.take_past.ensures.parts.passes;
    }

pub returns-clause-parts : goal.returns-clause-parts
returns-clause-parts g c =
    record {
      tree = c.grid_in.ensures.parts.tree ∙ c.take_past.ensures.parts.tree;
      ruler = c.grid_in.ensures.parts.ruler ∙ c.take_past.ensures.parts.ruler;
      tally = c.grid_in.ensures.parts.tally ∙ c.take_past.ensures.parts.tally;
      passes = c.grid_in.ensures.parts.passes ∙ c.take_past.ensures.parts.passes;
    }

pub returns-clause-same : goal.returns-clause-same
returns-clause-same g c = (c.in_ok-told.ensures.below (block_query false c.args.seat.now.reps.now c.args.width.now) refl refl).walk.bare_same ∙ c.take_past.ensures.bare

pub returns-clause-below : goal.returns-clause-below
returns-clause-below g c =
    λ q r w. c.take_past.ensures.below q 1 (state c.grid_in.new.walk.tree.now c.grid_in.new.walk.tally.now c.columns_of.new.passes (g.R.Ruler.log c.grid_in.new.walk.ruler.now))
    (ticked c.args.id q 0 1 _ _ c.columns_of.new.passes c.columns_of.ensures.ticks (c.in_ok-told.ensures.below q r w))

pub returns-clause-value : goal.returns-clause-value
returns-clause-value g c =
    let same = (c.in_ok-told.ensures.below (block_query false c.args.seat.now.reps.now c.args.width.now) refl refl).walk.bare_same in
    let laid : AreLaid (nodes c.grid_in.new.walk) c.args.id c.args.seat.now.reps.now c.args.width.now c.in_ok-told.told.parts.base c.in_ok-columns.columns = record
    { seen = c.in_ok-columns.ensures.value; counted = c.in_ok-columns.ensures.counted; gap = c.in_ok-columns.ensures.gap; range = c.in_ok-columns.ensures.range; spread = c.in_ok-columns.ensures.spread } in
    let here : IsBegun (nodes c.take_past.new.walk) c.args.id c.args.seat.now.reps.now c.args.width.now (record { told = c.in_ok-told.told; columns = c.in_ok-columns.columns; past = c.past_for-past.result }) =
    record {
      grid = c.in_ok-told.ensures.value;
      told = c.in_ok-told.ensures.told;
      laid = subst (λ (z : BareTrees). AreLaid z c.args.id c.args.seat.now.reps.now c.args.width.now c.in_ok-told.told.parts.base c.in_ok-columns.columns) same laid;
      far = c.in_ok-columns.ensures.far;
      past = subst (λ (z : BareTrees). IfSome c.past_for-past.result (ArePastIn z c.args.id c.in_ok-told.told.parts.base c.in_ok-columns.columns)) same c.past_for-past.ensures;
    } in
    subst (λ (z : BareTrees). IsBegun z c.args.id c.args.seat.now.reps.now c.args.width.now (record { told = c.in_ok-told.told; columns = c.in_ok-columns.columns; past = c.past_for-past.result })) c.take_past.ensures.bare here

use Rattle.std.proofs.Common.{Option, drop, rules, arith, refl, sym, ap, subst, ◌≡◌, ◌∙◌, ◌+◌, ◌*◌, ◌<◌, ◌∷◌, ◌++◌, [], List, true, false, length, map, pos, ◌&&◌, Bool}
use Rattle.std.specs.Prelude.{All, IfOk, IfSome, get_or}
use Rattle.placing.specs.Areas.{HasChildren}
use Rattle.placing.specs.Bases.{HoldsPlaces, same_pairs}
use Rattle.placing.specs.Children.{IsTree}
use Rattle.placing.specs.Members.{Every, Tells, place_of}
use Rattle.placing.specs.Told.{AllBut, AreColumns, ArePastMembers, AreTold, AreToldMembers, Each, IsPastColumns, TellsColumns, last_turn}
use Rattle.placing.specs.declared.wide.GridBase.{GridBase}
use Rattle.placing.specs.declared.told.PastColumns.{PastColumns}
use Rattle.placing.specs.Nodes.{BareTrees, IsLive, children_at, kid_at, sight_at, size_at}
use Rattle.placing.specs.Seats.{IsSeat, context_at}
use Rattle.placing.specs.Counted.{IsGivenSize}
use Rattle.placing.specs.Walks.{Stopped, Walked, kept_with}
use Rattle.placing.specs.declared.contexts.Above.TheVariants as above
use Rattle.placing.specs.declared.node.Answer.{Answer}
use Rattle.placing.specs.declared.node.Answer.TheVariants as answer
use Rattle.placing.proofs.Entries.{alone_there}
use Rattle.placing.proofs.Leaves.{on_err}
use Rattle.placing.proofs.Tellings.{ends_length, has_parts}
use Rattle.placing.proofs.Walks.{found_walked, stopped, walked_none}
use Rattle.tree_rules.specs.Answers.{Pair}
use Rattle.tree_rules.specs.AskedQueries.{inline_query}
use Rattle.tree_rules.specs.Chains.{has_chain, has_subgrid, is_grid_kind}
use Rattle.tree_rules.specs.Labels.{GridStyle}
use Rattle.tree_rules.specs.KeptAnswers.{IsAbsent}
use Rattle.tree_rules.specs.Queries.{Fits, answer_of, inline_sizes, lent_items}
use Rattle.tree_rules.specs.declared.kind.NodeKind.TheVariants as kind
use Rattle.tree_rules.specs.declared.kind.NodeKind.{NodeKind}
use Rattle.tree_rules.specs.declared.query.Given.TheVariants as given
use Rattle.tree_rules.specs.declared.query.Given.{Given}
use Rattle.tree_rules.specs.declared.query.Query.{Query}
use Rattle.inline_sizes.proofs.Asked.{chain_in_flex, entry_here, err_stopped, fits_no_chain, lent_fit, ok_walked, on_ok, pairs_all, rows_fits, shared_asked, shared_chain, shared_fits, sizes_answered, sizes_are, walked_stopped}
use Rattle.inline_sizes.proofs.FlexTold.{all_told, asks_at, last_at, next_at, places_next, tells_in, tells_there, told_more}
use Rattle.inline_sizes.proofs.Grids.{below_then, grid_there, leads_there, stops_then}
use Rattle.inline_sizes.proofs.Tellings.{answers_there, columns_there, counted_again, counted_then, laid_there, next_stale, none_stale, past_stale, past_told, places_there, told_again, told_empty, told_then}
use Rattle.inline_sizes.specs.Grids.{HaveTold, IsEntry, IsGrid, IsLaid, LeadsOn, items_seen}
use Rattle.inline_sizes.specs.GridsSeen.{HasLines}
use Rattle.walker.proofs.Parts.{parts_then, same_parts}
use Rattle.walker.specs.Walkers.{kept, nodes, seen}
use Rattle.inline_sizes.proofs.+walk.Goals as goal

abbrev has_kind : NodeKind → GridStyle → Bool
has_kind k s = is_grid_kind k && has_subgrid s

pub asking::ask_children-loop-index-init : goal.asking::ask_children-loop-index-init
asking::ask_children-loop-index-init g t c =
    record {
      stands = c.requires.stands;
      parts = same_parts c.args.walk.now;
      same = refl;
      walked = λ q leads. walked_none c.args.id q (seen g.R.Ruler.log c.args.walk.now) c.requires.stands.right;
      counted = (ap length c.in_ok-inlines.ensures.inlines, omega arith);
      told = told_empty (TellsColumns (sight_at (nodes c.args.walk.now) c.args.id) (kid_at (nodes c.args.walk.now)) c.args.base.now) c.in_ok-inlines.inlines c.in_ok-inlines.items c.in_ok-inlines.ends c.in_ok-inlines.ensures.inlines c.in_ok-inlines.ensures.items c.in_ok-inlines.ensures.ends;
    }

pub asking::ask_children-returns-in_err-inlines-clause-stopped : goal.asking::ask_children-returns-in_err-inlines-clause-stopped
asking::ask_children-returns-in_err-inlines-clause-stopped g t c =
    let all : (q : Query) → LeadsOn (nodes c.args.walk.now) c.args.id c.args.base.now q → Stopped c.args.id q (seen g.R.Ruler.log c.args.walk.now) (seen g.R.Ruler.log c.args.walk.now) =
    λ q leads. stopped c.args.id q 0 _ _ (walked_none c.args.id q (seen g.R.Ruler.log c.args.walk.now) c.requires.stands.right) in
    on_err _ _ all

pub asking::ask_children-entry-entry-requires-clause-live : goal.asking::ask_children-entry-entry-requires-clause-live
asking::ask_children-entry-entry-requires-clause-live g t c = subst (λ (z : BareTrees). IsLive z c.args.id) (sym c.loop-index.invariant.same) c.requires.live

pub asking::ask_children-entry-entry-requires-clause-children : goal.asking::ask_children-entry-entry-requires-clause-children
asking::ask_children-entry-entry-requires-clause-children g t c = subst (λ (z : BareTrees). HasChildren z c.args.id c.args.base.now.placed) (sym c.loop-index.invariant.same) c.requires.laid.placed.children

pub asking::ask_children-ask_child-requires : goal.asking::ask_children-ask_child-requires
asking::ask_children-ask_child-requires g t c =
    let back = sym c.loop-index.invariant.same in
    let tree : IsTree (nodes c.loop-index.walk) = subst IsTree back c.root.ensures.tree in
    let live : IsLive (nodes c.loop-index.walk) c.args.id = subst (λ (z : BareTrees). IsLive z c.args.id) back c.requires.live in
    let grid : (sight_at (nodes c.loop-index.walk) c.args.id).label.kind ≡ kind.Grid = subst (λ (z : BareTrees). (sight_at z c.args.id).label.kind ≡ kind.Grid) back c.requires.grid in
    let laid : IsLaid (nodes c.loop-index.walk) c.args.id c.args.base.now = subst (λ (z : BareTrees). IsLaid z c.args.id c.args.base.now) back c.requires.laid in
    let lines : HasLines (context_at (sight_at (nodes c.loop-index.walk) c.args.id) c.args.base.now.pairs) = subst (λ (z : BareTrees). HasLines (context_at (sight_at z c.args.id) c.args.base.now.pairs)) back (c.items_lie_in_their_tracks.ensures.lines c.args.base.now.pairs) in
    let entry : IsEntry (nodes c.loop-index.walk) c.args.id c.args.base.now c.entry-entry.result =
    entry_here (nodes c.loop-index.walk) c.args.id c.args.base.now c.entry-entry.result tree grid laid c.entry-entry.ensures.live c.entry-entry.ensures.child c.entry-entry.ensures.inside c.entry-entry.ensures.seat c.entry-entry.ensures.alone lines in
    let small : 16 * size_at (nodes c.loop-index.walk) c.entry-entry.result.child + 10 < 16 * size_at (nodes c.args.walk.now) c.args.id = omega (arith, entry.smaller, ap (λ (z : BareTrees). size_at z c.args.id) c.loop-index.invariant.same) in
    search rules

pub asking::ask_children-returns-in_err-sizes-clause-stopped : goal.asking::ask_children-returns-in_err-sizes-clause-stopped
asking::ask_children-returns-in_err-sizes-clause-stopped g t c =
    let all : (q : Query) → LeadsOn (nodes c.args.walk.now) c.args.id c.args.base.now q →
    Stopped c.args.id q (seen g.R.Ruler.log c.args.walk.now) (seen g.R.Ruler.log c.ask_child.new.walk) =
    λ q leads. stops_then (nodes c.args.walk.now) (nodes c.loop-index.walk) c.loop-index.invariant.same c.args.id c.args.base.now c.entry-entry.result c.loop-index.index c.entry-entry.ensures.next
    c.root.ensures.steps c.entry-entry.ensures.child q leads _ _ _ refl (c.loop-index.invariant.walked q leads) c.in_err-sizes.ensures.stopped in
    on_err _ _ all

pub asking::ask_children-returns-in_err-add_entry-clause-stopped : goal.asking::ask_children-returns-in_err-add_entry-clause-stopped
asking::ask_children-returns-in_err-add_entry-clause-stopped g t c =
    let all : (q : Query) → LeadsOn (nodes c.args.walk.now) c.args.id c.args.base.now q →
    Stopped c.args.id q (seen g.R.Ruler.log c.args.walk.now) (seen g.R.Ruler.log c.ask_child.new.walk) =
    λ q leads. stopped c.args.id q 0 _ _ (below_then (nodes c.args.walk.now) (nodes c.loop-index.walk) c.loop-index.invariant.same c.args.id c.args.base.now c.entry-entry.result c.loop-index.index c.entry-entry.ensures.next
    c.root.ensures.steps c.entry-entry.ensures.child q leads _ _ _ refl (c.loop-index.invariant.walked q leads) c.in_ok-sizes.ensures.walked) in
    on_err _ _ all

pub asking::ask_children-loop-index-preserved : goal.asking::ask_children-loop-index-preserved
asking::ask_children-loop-index-preserved g t c =
    record {
      stands = c.ask_child.ensures.stands;
      parts = parts_then _ _ _ c.loop-index.invariant.parts c.ask_child.ensures.parts;
      same = c.in_ok-sizes.ensures.walked.walk.bare_same ∙ c.loop-index.invariant.same;
      walked = λ q leads. below_then (nodes c.args.walk.now) (nodes c.loop-index.walk) c.loop-index.invariant.same c.args.id c.args.base.now c.entry-entry.result c.loop-index.index c.entry-entry.ensures.next
          c.root.ensures.steps c.entry-entry.ensures.child q leads _ _ _ refl (c.loop-index.invariant.walked q leads) c.in_ok-sizes.ensures.walked;
      counted = counted_then c.loop-index.inlines _ c.in_ok-sizes.sizes c.loop-index.index (length c.args.base.now.placed.areas) c.in_ok-add_entry.ensures.inlines c.loop-index.invariant.counted.0 (omega (arith, c.len-count.ensures));
      told = told_then (nodes c.args.walk.now) (nodes c.loop-index.walk) c.loop-index.invariant.same c.args.id c.args.base.now c.entry-entry.result c.loop-index.index c.entry-entry.ensures.told _ _ _ _ _ _ c.in_ok-sizes.sizes _ c.loop-index.invariant.counted.0
          c.loop-index.invariant.told c.in_ok-sizes.ensures.sizes c.in_ok-sizes.ensures.items c.in_ok-add_entry.ensures.inlines c.len.ensures c.in_ok-add_entry.ensures.ends;
    }

pub asking::ask_children-returns-clause-told : goal.asking::ask_children-returns-clause-told
asking::ask_children-returns-clause-told g t c =
    record {
      counted = c.loop-index.invariant.counted.0 ∙ (omega (arith, c.loop-index.invariant.counted.1, c.len-count.ensures));
      told = c.loop-index.invariant.told;
    }

pub asking::ask_children-returns-clause-below : goal.asking::ask_children-returns-clause-below
asking::ask_children-returns-clause-below g t c = c.loop-index.invariant.walked

pub asking::ask_stale-loop-index-init : goal.asking::ask_stale-loop-index-init
asking::ask_stale-loop-index-init g t c =
    record {
      stands = c.requires.stands;
      parts = same_parts c.args.walk.now;
      same = refl;
      walked = λ q leads. walked_none c.args.id q (seen g.R.Ruler.log c.args.walk.now) c.requires.stands.right;
      told = c.requires.told;
    }

pub asking::ask_stale-entry-entry-requires-clause-live : goal.asking::ask_stale-entry-entry-requires-clause-live
asking::ask_stale-entry-entry-requires-clause-live g t c = subst (λ (z : BareTrees). IsLive z c.args.id) (sym c.loop-index.invariant.same) c.requires.live

pub asking::ask_stale-entry-entry-requires-clause-children : goal.asking::ask_stale-entry-entry-requires-clause-children
asking::ask_stale-entry-entry-requires-clause-children g t c = subst (λ (z : BareTrees). HasChildren z c.args.id c.args.base.now.placed) (sym c.loop-index.invariant.same) c.requires.laid.placed.children

pub asking::ask_stale-entry-entry-requires-clause-index : goal.asking::ask_stale-entry-entry-requires-clause-index
asking::ask_stale-entry-entry-requires-clause-index g t c = c.requires.stale c.loop-index.index-index 0 (omega (arith, c.loop-index-test.true))

pub asking::ask_stale-ask_child-requires : goal.asking::ask_stale-ask_child-requires
asking::ask_stale-ask_child-requires g t c =
    let back = sym c.loop-index.invariant.same in
    let tree : IsTree (nodes c.loop-index.walk) = subst IsTree back c.root.ensures.tree in
    let live : IsLive (nodes c.loop-index.walk) c.args.id = subst (λ (z : BareTrees). IsLive z c.args.id) back c.requires.live in
    let grid : (sight_at (nodes c.loop-index.walk) c.args.id).label.kind ≡ kind.Grid = subst (λ (z : BareTrees). (sight_at z c.args.id).label.kind ≡ kind.Grid) back c.requires.grid in
    let laid : IsLaid (nodes c.loop-index.walk) c.args.id c.args.base.now = subst (λ (z : BareTrees). IsLaid z c.args.id c.args.base.now) back c.requires.laid in
    let lines : HasLines (context_at (sight_at (nodes c.loop-index.walk) c.args.id) c.args.base.now.pairs) = subst (λ (z : BareTrees). HasLines (context_at (sight_at z c.args.id) c.args.base.now.pairs)) back (c.items_lie_in_their_tracks.ensures.lines c.args.base.now.pairs) in
    let entry : IsEntry (nodes c.loop-index.walk) c.args.id c.args.base.now c.entry-entry.result =
    entry_here (nodes c.loop-index.walk) c.args.id c.args.base.now c.entry-entry.result tree grid laid c.entry-entry.ensures.live c.entry-entry.ensures.child c.entry-entry.ensures.inside c.entry-entry.ensures.seat c.entry-entry.ensures.alone lines in
    let small : 16 * size_at (nodes c.loop-index.walk) c.entry-entry.result.child + 10 < 16 * size_at (nodes c.args.walk.now) c.args.id = omega (arith, entry.smaller, ap (λ (z : BareTrees). size_at z c.args.id) c.loop-index.invariant.same) in
    search rules

pub asking::ask_stale-returns-in_err-sizes-clause-stopped : goal.asking::ask_stale-returns-in_err-sizes-clause-stopped
asking::ask_stale-returns-in_err-sizes-clause-stopped g t c =
    let all : (q : Query) → LeadsOn (nodes c.args.walk.now) c.args.id c.args.base.now q →
    Stopped c.args.id q (seen g.R.Ruler.log c.args.walk.now) (seen g.R.Ruler.log c.ask_child.new.walk) =
    λ q leads. stops_then (nodes c.args.walk.now) (nodes c.loop-index.walk) c.loop-index.invariant.same c.args.id c.args.base.now c.entry-entry.result (get_or c.args.stale.now c.loop-index.index-index 0) c.entry-entry.ensures.next
    c.root.ensures.steps c.entry-entry.ensures.child q leads _ _ _ refl (c.loop-index.invariant.walked q leads) c.in_err-sizes.ensures.stopped in
    on_err _ _ all

pub asking::ask_stale-returns-in_err-put_items-clause-stopped : goal.asking::ask_stale-returns-in_err-put_items-clause-stopped
asking::ask_stale-returns-in_err-put_items-clause-stopped g t c =
    let all : (q : Query) → LeadsOn (nodes c.args.walk.now) c.args.id c.args.base.now q →
    Stopped c.args.id q (seen g.R.Ruler.log c.args.walk.now) (seen g.R.Ruler.log c.ask_child.new.walk) =
    λ q leads. stopped c.args.id q 0 _ _ (below_then (nodes c.args.walk.now) (nodes c.loop-index.walk) c.loop-index.invariant.same c.args.id c.args.base.now c.entry-entry.result (get_or c.args.stale.now c.loop-index.index-index 0) c.entry-entry.ensures.next
    c.root.ensures.steps c.entry-entry.ensures.child q leads _ _ _ refl (c.loop-index.invariant.walked q leads) c.in_ok-sizes.ensures.walked) in
    on_err _ _ all

pub asking::ask_stale-put_items-requires-clause-parts : goal.asking::ask_stale-put_items-requires-clause-parts
asking::ask_stale-put_items-requires-clause-parts g t c =
    has_parts (AllBut (drop c.loop-index.index-index c.args.stale.now)) (TellsColumns (sight_at (nodes c.args.walk.now) c.args.id) (kid_at (nodes c.args.walk.now)) c.args.base.now) c.loop-index.inlines c.loop-index.items c.loop-index.ends c.loop-index.invariant.told.told

pub asking::ask_stale-put_items-requires-clause-index : goal.asking::ask_stale-put_items-requires-clause-index
asking::ask_stale-put_items-requires-clause-index g t c =
    let within : get_or c.args.stale.now c.loop-index.index-index 0 < length c.args.base.now.placed.areas = c.requires.stale c.loop-index.index-index 0 (omega (arith, c.loop-index-test.true)) in
    omega (
      arith,
      within,
      c.loop-index.invariant.told.counted,
      ends_length (AllBut (drop c.loop-index.index-index c.args.stale.now)) (TellsColumns (sight_at (nodes c.args.walk.now) c.args.id) (kid_at (nodes c.args.walk.now)) c.args.base.now) c.loop-index.inlines
          c.loop-index.items c.loop-index.ends c.loop-index.invariant.told.told,
    )

pub asking::ask_stale-set-requires : goal.asking::ask_stale-set-requires
asking::ask_stale-set-requires g t c =
    let within : get_or c.args.stale.now c.loop-index.index-index 0 < length c.args.base.now.placed.areas = c.requires.stale c.loop-index.index-index 0 (omega (arith, c.loop-index-test.true)) in
    omega (arith, within, c.loop-index.invariant.told.counted)

pub asking::ask_stale-loop-index-preserved : goal.asking::ask_stale-loop-index-preserved
asking::ask_stale-loop-index-preserved g t c =
    let within : get_or c.args.stale.now c.loop-index.index-index 0 < length c.args.base.now.placed.areas = c.requires.stale c.loop-index.index-index 0 (omega (arith, c.loop-index-test.true)) in
    record {
      stands = c.ask_child.ensures.stands;
      parts = parts_then _ _ _ c.loop-index.invariant.parts c.ask_child.ensures.parts;
      same = c.in_ok-sizes.ensures.walked.walk.bare_same ∙ c.loop-index.invariant.same;
      walked = λ q leads. below_then (nodes c.args.walk.now) (nodes c.loop-index.walk) c.loop-index.invariant.same c.args.id c.args.base.now c.entry-entry.result (get_or c.args.stale.now c.loop-index.index-index 0) c.entry-entry.ensures.next
          c.root.ensures.steps c.entry-entry.ensures.child q leads _ _ _ refl (c.loop-index.invariant.walked q leads) c.in_ok-sizes.ensures.walked;
      told = record {
        counted = counted_again c.loop-index.inlines c.set.new.self (get_or c.args.stale.now c.loop-index.index-index 0) c.in_ok-sizes.sizes (length c.args.base.now.placed.areas) c.set.ensures c.loop-index.invariant.told.counted;
        told =
            told_again (nodes c.args.walk.now) (nodes c.loop-index.walk) c.loop-index.invariant.same c.args.id c.args.base.now c.entry-entry.result (get_or c.args.stale.now c.loop-index.index-index 0) c.entry-entry.ensures.told
            (drop (c.loop-index.index-index + 1) c.args.stale.now) c.loop-index.inlines c.set.new.self
            c.loop-index.items c.put_items.new.items c.loop-index.ends c.put_items.new.ends c.in_ok-sizes.sizes c.as_slice.result.now (omega (arith, within, c.loop-index.invariant.told.counted))
            (subst (λ l. AreTold (AllBut l) (TellsColumns (sight_at (nodes c.args.walk.now) c.args.id) (kid_at (nodes c.args.walk.now)) c.args.base.now) c.loop-index.inlines c.loop-index.items c.loop-index.ends)
            (next_stale c.args.stale.now c.loop-index.index-index (omega (arith, c.loop-index-test.true))) c.loop-index.invariant.told.told)
            c.in_ok-sizes.ensures.sizes (c.as_slice.ensures ∙ c.in_ok-sizes.ensures.items ∙ ap (λ l. l ++ items_seen (nodes c.loop-index.walk) c.args.id c.args.base.now c.entry-entry.result) c.new-own.ensures) c.in_ok-put_items.ensures.items c.in_ok-put_items.ensures.ends c.set.ensures;
      };
    }

pub asking::ask_stale-returns-clause-told : goal.asking::ask_stale-returns-clause-told
asking::ask_stale-returns-clause-told g t c = none_stale (nodes c.args.walk.now) c.args.id c.args.base.now c.args.stale.now c.loop-index.index-index _ _ _ (omega arith) c.loop-index.invariant.told

pub asking::ask_stale-returns-clause-below : goal.asking::ask_stale-returns-clause-below
asking::ask_stale-returns-clause-below g t c = c.loop-index.invariant.walked

pub asking::ask_needed-ask_again-requires : goal.asking::ask_needed-ask_again-requires
asking::ask_needed-ask_again-requires g t c =
    let past : IsPastColumns (nodes c.args.walk.now) c.args.id c.in-Some.past = subst (λ (o : Option PastColumns). IfSome o (IsPastColumns (nodes c.args.walk.now) c.args.id)) c.in-Some.is c.requires.past in
    let stale : All (λ k. k < length c.args.base.now.placed.areas) c.in-Some.past.stale = past_stale (nodes c.args.walk.now) c.args.id c.in-Some.past c.args.base.now past c.requires.places c.as_slice-counts.result.now
    (c.as_slice-counts.ensures ∙ ap (λ (z : GridBase). z.pairs) c.grid.ensures) c.same_counts.result (c.same_counts.ensures ∙ ap (same_pairs c.as_slice-counts.result.now) c.as_slice.ensures) c.if-not-same_counts.false in
    let told : HaveTold (nodes c.args.walk.now) c.args.id c.args.base.now (AllBut c.in-Some.past.stale) c.in-Some.past.told.parts.inlines c.in-Some.past.told.parts.items c.in-Some.past.told.ends = past_told (nodes c.args.walk.now) c.args.id c.in-Some.past c.args.base.now past
    c.requires.places c.as_slice-counts.result.now (c.as_slice-counts.ensures ∙ ap (λ (z : GridBase). z.pairs) c.grid.ensures) c.same_counts.result (c.same_counts.ensures ∙ ap (same_pairs c.as_slice-counts.result.now) c.as_slice.ensures) c.if-not-same_counts.false in
    search rules

pub asking::grid_in-returns-in_err-base-clause-stopped : goal.asking::grid_in-returns-in_err-base-clause-stopped
asking::grid_in-returns-in_err-base-clause-stopped g t c =
    let all : (q : Query) → q.reps ≡ c.args.seat.now.reps.now → q.inline ≡ c.args.width.now → Stopped c.args.id q (seen g.R.Ruler.log c.args.walk.now) (seen g.R.Ruler.log c.shared_base.new.walk) =
    λ q r w. c.shared_base.ensures.stopped q _ (stopped c.args.id q 0 _ _ (walked_none c.args.id q (seen g.R.Ruler.log c.shared_base.new.walk) c.shared_base.ensures.stands.right)) in
    on_err _ _ all

pub asking::grid_in-ask_needed-requires : goal.asking::grid_in-ask_needed-requires
asking::grid_in-ask_needed-requires g t c =
    let back = sym c.in_ok-base.ensures.same in
    let live : IsLive (nodes c.shared_base.new.walk) c.args.id = subst (λ (z : BareTrees). IsLive z c.args.id) back c.requires.live in
    let grid : (sight_at (nodes c.shared_base.new.walk) c.args.id).label.kind ≡ kind.Grid = subst (λ (z : BareTrees). (sight_at z c.args.id).label.kind ≡ kind.Grid) back c.requires.grid in
    let laid : IsLaid (nodes c.shared_base.new.walk) c.args.id c.grid.result.now = laid_there (nodes c.args.walk.now) (nodes c.shared_base.new.walk) c.in_ok-base.ensures.same c.args.id c.args.seat.now.reps.now c.args.width.now c.in_ok-base.base c.grid.result.now c.grid.ensures
    c.in_ok-base.ensures.value in
    let places : HoldsPlaces (sight_at (nodes c.shared_base.new.walk) c.args.id) (children_at (nodes c.shared_base.new.walk) c.args.id) c.grid.result.now = places_there (nodes c.args.walk.now) (nodes c.shared_base.new.walk) c.in_ok-base.ensures.same c.args.id
    c.args.seat.now.reps.now c.args.width.now c.in_ok-base.base c.grid.result.now c.grid.ensures c.in_ok-base.ensures.value in
    let past : IfSome c.args.past (IsPastColumns (nodes c.shared_base.new.walk) c.args.id) = subst (λ (z : BareTrees). IfSome c.args.past (IsPastColumns z c.args.id)) back c.requires.past in
    search rules

pub asking::grid_in-returns-in_err-inlines-clause-stopped : goal.asking::grid_in-returns-in_err-inlines-clause-stopped
asking::grid_in-returns-in_err-inlines-clause-stopped g t c =
    let all : (q : Query) → q.reps ≡ c.args.seat.now.reps.now → q.inline ≡ c.args.width.now →
    Stopped c.args.id q (seen g.R.Ruler.log c.args.walk.now) (seen g.R.Ruler.log c.ask_needed.new.walk) =
    λ q r w. c.in_ok-base.ensures.stopped q _
    (c.in_err-inlines.ensures.stopped q
    (leads_there (nodes c.args.walk.now) (nodes c.shared_base.new.walk) c.in_ok-base.ensures.same c.args.id c.args.seat.now.reps.now c.args.width.now c.in_ok-base.base c.grid.result.now c.grid.ensures c.in_ok-base.ensures.value c.requires.grid q r w)) in
    on_err _ _ all

pub asking::grid_in-returns-clause-value : goal.asking::grid_in-returns-clause-value
asking::grid_in-returns-clause-value g t c =
    grid_there (nodes c.args.walk.now) (nodes c.shared_base.new.walk) c.in_ok-base.ensures.same c.args.id c.args.seat.now.reps.now c.args.width.now c.in_ok-base.base c.grid.result.now c.grid.ensures c.in_ok-base.ensures.value _ _
    (answers_there (nodes c.args.walk.now) (nodes c.shared_base.new.walk) c.in_ok-base.ensures.same c.args.id c.args.seat.now.reps.now c.args.width.now c.in_ok-base.base c.grid.result.now c.grid.ensures c.in_ok-base.ensures.value _ _ _ c.in_ok-inlines.ensures.told
    (subst IsTree (sym c.in_ok-base.ensures.same) c.root.ensures.tree))

pub asking::grid_in-returns-clause-told : goal.asking::grid_in-returns-clause-told
asking::grid_in-returns-clause-told g t c =
    columns_there (nodes c.args.walk.now) (nodes c.shared_base.new.walk) c.in_ok-base.ensures.same c.args.id c.args.seat.now.reps.now c.args.width.now c.in_ok-base.base c.grid.result.now c.grid.ensures c.in_ok-base.ensures.value _ _ _ c.in_ok-inlines.ensures.told

pub asking::grid_in-returns-clause-below : goal.asking::grid_in-returns-clause-below
asking::grid_in-returns-clause-below g t c = λ q r w. c.in_ok-base.ensures.below q 0 _
    (c.in_ok-inlines.ensures.below q (leads_there (nodes c.args.walk.now) (nodes c.shared_base.new.walk) c.in_ok-base.ensures.same c.args.id c.args.seat.now.reps.now c.args.width.now c.in_ok-base.base c.grid.result.now c.grid.ensures c.in_ok-base.ensures.value c.requires.grid q r w))

pub walk::grid_anew-returns-in_err-past-clause-stopped : goal.walk::grid_anew-returns-in_err-past-clause-stopped
walk::grid_anew-returns-in_err-past-clause-stopped g t c =
    on_err _ _
    (c.take_columns.ensures.stopped c.args.query (seen g.R.Ruler.log c.take_columns.new.self) (stopped c.args.id c.args.query 0 _ _ (walked_none c.args.id c.args.query (seen g.R.Ruler.log c.take_columns.new.self) c.take_columns.ensures.stands.right)))

pub walk::grid_anew-grid_in-requires : goal.walk::grid_anew-grid_in-requires
walk::grid_anew-grid_in-requires g t c =
    let back = sym c.take_columns.ensures.bare in
    let live : IsLive (nodes c.take_columns.new.self) c.args.id = subst (λ (z : BareTrees). IsLive z c.args.id) back c.requires.live in
    let grid : (sight_at (nodes c.take_columns.new.self) c.args.id).label.kind ≡ kind.Grid = subst (λ (z : BareTrees). (sight_at z c.args.id).label.kind ≡ kind.Grid) back c.requires.grid in
    let counts : length c.args.seat.now.reps.now ≡ length (sight_at (nodes c.take_columns.new.self) c.args.id).chain = ap length (sym (ap (λ (z : Query). z.reps) c.requires.query)) ∙ c.requires.fits.reps ∙ ap (λ (z : BareTrees). length (sight_at z c.args.id).chain) back in
    let seat : IsSeat (sight_at (nodes c.take_columns.new.self) c.args.id) c.args.seat.now.reps.now c.args.seat.now.above.now c.args.seat.now.area = subst (λ (z : BareTrees). IsSeat (sight_at z c.args.id) c.args.seat.now.reps.now c.args.seat.now.above.now c.args.seat.now.area) back
    c.requires.seat in
    let width : IsGivenSize c.args.query.inline = subst IsGivenSize (sym (ap (λ (z : Query). z.inline) c.requires.query)) tt in
    let past : IfSome c.in_ok-past.past (IsPastColumns (nodes c.take_columns.new.self) c.args.id) = subst (λ (z : BareTrees). IfSome c.in_ok-past.past (IsPastColumns z c.args.id)) back c.in_ok-past.ensures.told in
    search rules

pub walk::grid_anew-returns-in_err-told-clause-stopped : goal.walk::grid_anew-returns-in_err-told-clause-stopped
walk::grid_anew-returns-in_err-told-clause-stopped g t c =
    on_err _ _
    (c.take_columns.ensures.stopped c.args.query (seen g.R.Ruler.log c.grid_in.new.walk) (c.in_err-told.ensures.stopped c.args.query (ap (λ (z : Query). z.reps) c.requires.query) refl))

pub walk::grid_anew-grid_answered-requires : goal.walk::grid_anew-grid_answered-requires
walk::grid_anew-grid_answered-requires g t c =
    let reps = ap (λ (z : Query). z.reps) c.requires.query in
    let mid = c.in_ok-told.ensures.below c.args.query reps refl in
    let below = c.take_columns.ensures.below c.args.query 0 (seen g.R.Ruler.log c.grid_in.new.walk) mid in
    let back = sym below.walk.bare_same in
    record {
      stands = c.grid_in.ensures.stands;
      live = subst (λ (z : BareTrees). IsLive z c.args.id) back c.requires.live;
      kind = subst (λ (z : BareTrees). (sight_at z c.args.id).label.kind ≡ kind.Grid) back c.requires.grid;
      ask = ap (λ (z : Query). z.ask) c.requires.query;
      fits = subst (λ (z : BareTrees). Fits (sight_at z c.args.id) c.args.query) back c.requires.fits;
      absent = subst (IsAbsent c.args.query) (sym below.own) c.requires.absent;
      grid =
          subst (λ (z : BareTrees). IsGrid z c.args.id c.args.query.reps given.None c.in_ok-told.told.parts) (sym mid.walk.bare_same)
          (subst (λ (o : List Pair). IsGrid (nodes c.take_columns.new.self) c.args.id o given.None c.in_ok-told.told.parts) (sym reps)
          (subst (λ (w : Given). IsGrid (nodes c.take_columns.new.self) c.args.id c.args.seat.now.reps.now w c.in_ok-told.told.parts) (ap (λ (z : Query). z.inline) c.requires.query) c.in_ok-told.ensures.value));
      columns = subst (λ (z : BareTrees). AreColumns (sight_at z c.args.id) (kid_at z) Each c.in_ok-told.told) (sym mid.walk.bare_same) c.in_ok-told.ensures.told;
    }

pub walk::grid_anew-returns-clause-value : goal.walk::grid_anew-returns-clause-value
walk::grid_anew-returns-clause-value g t c =
    subst (λ (z : BareTrees). IfOk c.grid_answered.result (λ sizes. inline_sizes sizes ≡ answer_of (sight_at z c.args.id) c.args.query))
    (c.take_columns.ensures.below c.args.query 0 (seen g.R.Ruler.log c.grid_in.new.walk) (c.in_ok-told.ensures.below c.args.query (ap (λ (z : Query). z.reps) c.requires.query) refl)).walk.bare_same c.grid_answered.ensures.value

pub walk::grid_anew-returns-clause-own : goal.walk::grid_anew-returns-clause-own
walk::grid_anew-returns-clause-own g t c =
    subst (λ (l : List (Query × Answer)). IfOk c.grid_answered.result (λ sizes. kept c.grid_answered.new.walk c.args.id ≡ kept_with l ((c.args.query, answer.Sizes sizes.0 sizes.1) ∷ [])))
    (c.take_columns.ensures.below c.args.query 0 (seen g.R.Ruler.log c.grid_in.new.walk) (c.in_ok-told.ensures.below c.args.query (ap (λ (z : Query). z.reps) c.requires.query) refl)).own c.grid_answered.ensures.own

pub walk::grid_anew-returns-clause-walked : goal.walk::grid_anew-returns-clause-walked
walk::grid_anew-returns-clause-walked g t c =
    ok_walked _ c.args.id c.args.query 0 _ _ _
    (c.take_columns.ensures.below c.args.query 0 (seen g.R.Ruler.log c.grid_in.new.walk) (c.in_ok-told.ensures.below c.args.query (ap (λ (z : Query). z.reps) c.requires.query) refl)) c.grid_answered.ensures.walked

pub walk::grid_anew-returns-clause-stopped : goal.walk::grid_anew-returns-clause-stopped
walk::grid_anew-returns-clause-stopped g t c =
    err_stopped _ c.args.id c.args.query 0 _ _ _
    (c.take_columns.ensures.below c.args.query 0 (seen g.R.Ruler.log c.grid_in.new.walk) (c.in_ok-told.ensures.below c.args.query (ap (λ (z : Query). z.reps) c.requires.query) refl)) c.grid_answered.ensures.stopped

pub asking::ask_shared-lend_columns_at-requires : goal.asking::ask_shared-lend_columns_at-requires
asking::ask_shared-lend_columns_at-requires g t c =
    let b = nodes c.args.walk.now in
    let live : IsLive (nodes c.args.walk.now) c.args.entry.child = c.requires.entry.live in
    let fits : Fits (sight_at (nodes c.args.walk.now) c.args.entry.child) (inline_query true c.as_slice-reps.result.now) = subst (λ (r : List Pair). Fits (sight_at (nodes c.args.walk.now) c.args.entry.child) (inline_query true r)) (sym c.as_slice-reps.ensures)
    (shared_fits b c.args.id c.args.base.now c.args.entry c.requires.entry c.requires.shared) in
    let seat : IsSeat (sight_at (nodes c.args.walk.now) c.args.entry.child) c.as_slice-reps.result.now c.args.base.now.above c.args.entry.area = subst (λ (r : List Pair). IsSeat (sight_at (nodes c.args.walk.now) c.args.entry.child) r c.args.base.now.above c.args.entry.area)
    (sym c.as_slice-reps.ensures) (c.requires.entry.seat (shared_chain b c.args.id c.args.base.now c.args.entry c.requires.entry c.requires.shared)) in
    let small : 16 * size_at (nodes c.args.walk.now) c.args.entry.child + 7 < 16 * size_at (nodes c.args.walk.now) c.args.entry.child + 8 = omega arith in
    search rules

pub asking::ask_shared-returns-in_err-lent-clause-stopped : goal.asking::ask_shared-returns-in_err-lent-clause-stopped
asking::ask_shared-returns-in_err-lent-clause-stopped g t c =
    let as_asked = sym (shared_asked (nodes c.args.walk.now) c.args.id c.args.base.now c.args.entry c.requires.entry c.requires.shared ∙ ap (inline_query true) (sym c.as_slice-reps.ensures)) in
    on_err _ _
    (subst
    (λ (q : Query). Stopped c.args.entry.child q (seen g.R.Ruler.log c.args.walk.now)
    (seen g.R.Ruler.log c.lend_columns_at.new.walk)) as_asked c.in_err-lent.ensures.stopped)

pub asking::ask_shared-returns-clause-stopped : goal.asking::ask_shared-returns-clause-stopped
asking::ask_shared-returns-clause-stopped g t c =
    let as_asked = sym (shared_asked (nodes c.args.walk.now) c.args.id c.args.base.now c.args.entry c.requires.entry c.requires.shared ∙ ap (inline_query true) (sym c.as_slice-reps.ensures)) in
    on_err _ _
    (walked_stopped _ _ _ _
    (subst
    (λ (q : Query). Walked c.args.entry.child q (seen g.R.Ruler.log c.args.walk.now)
    (seen g.R.Ruler.log c.lend_columns_at.new.walk)) as_asked c.in_ok-lent.ensures.walked))

pub asking::ask_sizes-inline_at-requires : goal.asking::ask_sizes-inline_at-requires
asking::ask_sizes-inline_at-requires g t c =
    let b = nodes c.args.walk.now in
    let some : has_chain (sight_at (nodes c.args.walk.now) c.args.entry.child).chain ≡ true =
    c.requires.entry.chain ∙ (λ i. has_kind (sym c.node_at.ensures.kind i) (sym c.node_at.ensures.grid i)) ∙ sym c.has_subgrid.ensures ∙ c.if-has_subgrid.true in
    let live : IsLive (nodes c.args.walk.now) c.args.entry.child = c.requires.entry.live in
    let fits : Fits (sight_at (nodes c.args.walk.now) c.args.entry.child) (inline_query false c.as_slice-reps.result.now) = subst (λ (r : List Pair). Fits (sight_at (nodes c.args.walk.now) c.args.entry.child) (inline_query false r)) (sym c.as_slice-reps.ensures)
    (rows_fits b c.args.id c.args.base.now c.args.entry c.requires.entry c.requires.own some) in
    let seat : IsSeat (sight_at (nodes c.args.walk.now) c.args.entry.child) c.as_slice-reps.result.now c.args.base.now.above c.args.entry.area = subst (λ (r : List Pair). IsSeat (sight_at (nodes c.args.walk.now) c.args.entry.child) r c.args.base.now.above c.args.entry.area)
    (sym c.as_slice-reps.ensures) (c.requires.entry.seat some) in
    let small : 16 * size_at (nodes c.args.walk.now) c.args.entry.child + 7 < 16 * size_at (nodes c.args.walk.now) c.args.entry.child + 9 = omega arith in
    search rules

pub asking::ask_sizes-returns-in-Some-clause-sizes : goal.asking::ask_sizes-returns-in-Some-clause-sizes
asking::ask_sizes-returns-in-Some-clause-sizes g t c =
    let some : has_chain (sight_at (nodes c.args.walk.now) c.args.entry.child).chain ≡ true =
    c.requires.entry.chain ∙ (λ i. has_kind (sym c.node_at.ensures.kind i) (sym c.node_at.ensures.grid i)) ∙ sym c.has_subgrid.ensures ∙ c.if-has_subgrid.true in
    sizes_answered (nodes c.args.walk.now) c.args.id c.args.base.now c.args.entry c.requires.entry c.requires.own c.as_slice-reps.result.now _ (pairs_all (nodes c.args.walk.now) c.args.id c.args.base.now c.args.entry c.requires.entry some ∙ sym c.as_slice-reps.ensures)
    c.in-Some.ensures.value

pub asking::ask_sizes-returns-in-Some-clause-walked : goal.asking::ask_sizes-returns-in-Some-clause-walked
asking::ask_sizes-returns-in-Some-clause-walked g t c =
    found_walked c.args.entry.child _ (seen g.R.Ruler.log c.args.walk.now) c.requires.stands.right

pub walk::columns_anew-grid_in-requires : goal.walk::columns_anew-grid_in-requires
walk::columns_anew-grid_in-requires g t c =
    let grid : (sight_at (nodes c.args.walk.now) c.args.id).label.kind ≡ kind.Grid = c.subgrids_are_grids.ensures (lent_fit (sight_at (nodes c.args.walk.now) c.args.id) c.args.query (ap (λ (q : Query). q.ask) c.requires.query) c.requires.fits) in
    let counts : length c.args.seat.now.reps.now ≡ length (sight_at (nodes c.args.walk.now) c.args.id).chain = ap length (sym (ap (λ (z : Query). z.reps) c.requires.query)) ∙ c.requires.fits.reps in
    let seat : IsSeat (sight_at (nodes c.args.walk.now) c.args.id) c.args.seat.now.reps.now c.args.seat.now.above.now c.args.seat.now.area = c.requires.seat in
    let width : IsGivenSize c.args.query.inline = subst IsGivenSize (sym (ap (λ (q : Query). q.inline) c.requires.query)) tt in
    search rules

pub walk::columns_anew-returns-in_err-told-clause-stopped : goal.walk::columns_anew-returns-in_err-told-clause-stopped
walk::columns_anew-returns-in_err-told-clause-stopped g t c =
    on_err _ _ (c.in_err-told.ensures.stopped c.args.query (ap (λ (z : Query). z.reps) c.requires.query) refl)

pub walk::columns_anew-columns_answered-requires : goal.walk::columns_anew-columns_answered-requires
walk::columns_anew-columns_answered-requires g t c =
    let reps = ap (λ (z : Query). z.reps) c.requires.query in
    let lends = ap (λ (q : Query). q.ask) c.requires.query in
    let below = c.in_ok-told.ensures.below c.args.query reps refl in
    let back = sym below.walk.bare_same in
    let grid : (sight_at (nodes c.args.walk.now) c.args.id).label.kind ≡ kind.Grid = c.subgrids_are_grids.ensures (lent_fit (sight_at (nodes c.args.walk.now) c.args.id) c.args.query lends c.requires.fits) in
    record {
      stands = c.grid_in.ensures.stands;
      live = subst (λ (z : BareTrees). IsLive z c.args.id) back c.requires.live;
      kind = subst (λ (z : BareTrees). (sight_at z c.args.id).label.kind ≡ kind.Grid) back grid;
      ask = lends;
      fits = subst (λ (z : BareTrees). Fits (sight_at z c.args.id) c.args.query) back c.requires.fits;
      absent = subst (IsAbsent c.args.query) (sym below.own) c.requires.absent;
      grid =
          subst (λ (z : BareTrees). IsGrid z c.args.id c.args.query.reps given.None c.in_ok-told.told.parts) back
          (subst (λ (o : List Pair). IsGrid (nodes c.args.walk.now) c.args.id o given.None c.in_ok-told.told.parts) (sym reps)
          (subst (λ (w : Given). IsGrid (nodes c.args.walk.now) c.args.id c.args.seat.now.reps.now w c.in_ok-told.told.parts) (ap (λ (q : Query). q.inline) c.requires.query) c.in_ok-told.ensures.value));
    }

pub walk::columns_anew-returns-clause-value : goal.walk::columns_anew-returns-clause-value
walk::columns_anew-returns-clause-value g t c =
    subst (λ (z : BareTrees). IfOk c.columns_answered.result (λ items. lent_items items ≡ answer_of (sight_at z c.args.id) c.args.query))
    (c.in_ok-told.ensures.below c.args.query (ap (λ (z : Query). z.reps) c.requires.query) refl).walk.bare_same c.columns_answered.ensures.value

pub walk::columns_anew-returns-clause-own : goal.walk::columns_anew-returns-clause-own
walk::columns_anew-returns-clause-own g t c =
    subst (λ (l : List (Query × Answer)). IfOk c.columns_answered.result (λ items. kept c.columns_answered.new.walk c.args.id ≡ kept_with l ((c.args.query, answer.Lent items) ∷ [])))
    (c.in_ok-told.ensures.below c.args.query (ap (λ (z : Query). z.reps) c.requires.query) refl).own c.columns_answered.ensures.own

pub walk::columns_anew-returns-clause-walked : goal.walk::columns_anew-returns-clause-walked
walk::columns_anew-returns-clause-walked g t c = ok_walked _ c.args.id c.args.query 0 _ _ _ (c.in_ok-told.ensures.below c.args.query (ap (λ (z : Query). z.reps) c.requires.query) refl) c.columns_answered.ensures.walked

pub walk::columns_anew-returns-clause-stopped : goal.walk::columns_anew-returns-clause-stopped
walk::columns_anew-returns-clause-stopped g t c = err_stopped _ c.args.id c.args.query 0 _ _ _ (c.in_ok-told.ensures.below c.args.query (ap (λ (z : Query). z.reps) c.requires.query) refl) c.columns_answered.ensures.stopped

pub walk::inline_at-returns-in_err-query-clause-stopped : goal.walk::inline_at-returns-in_err-query-clause-stopped
walk::inline_at-returns-in_err-query-clause-stopped g t c = on_err _ _ (stopped c.args.id _ 0 _ _ (walked_none c.args.id (inline_query false c.args.seat.now.reps.now) (seen g.R.Ruler.log c.args.walk.now) c.requires.stands.right))

pub walk::inline_at-returns-in-Some-clause-walked : goal.walk::inline_at-returns-in-Some-clause-walked
walk::inline_at-returns-in-Some-clause-walked g t c = found_walked c.args.id (inline_query false c.args.seat.now.reps.now) (seen g.R.Ruler.log c.args.walk.now) c.requires.stands.right

pub walk::lend_columns_at-returns-in_err-query-clause-stopped : goal.walk::lend_columns_at-returns-in_err-query-clause-stopped
walk::lend_columns_at-returns-in_err-query-clause-stopped g t c = on_err _ _ (stopped c.args.id _ 0 _ _ (walked_none c.args.id (inline_query true c.args.seat.now.reps.now) (seen g.R.Ruler.log c.args.walk.now) c.requires.stands.right))

pub walk::lend_columns_at-returns-in-Some-clause-walked : goal.walk::lend_columns_at-returns-in-Some-clause-walked
walk::lend_columns_at-returns-in-Some-clause-walked g t c = on_ok _ _ (found_walked c.args.id (inline_query true c.args.seat.now.reps.now) (seen g.R.Ruler.log c.args.walk.now) c.requires.stands.right)

pub walk::lend_columns_at-returns-in-Some-clause-stopped : goal.walk::lend_columns_at-returns-in-Some-clause-stopped
walk::lend_columns_at-returns-in-Some-clause-stopped g t c = on_err _ _ (stopped c.args.id _ 0 _ _ (walked_none c.args.id (inline_query true c.args.seat.now.reps.now) (seen g.R.Ruler.log c.args.walk.now) c.requires.stands.right))

-- ---- the children of a flex container
pub walk::tell_member-ask_alone-requires : goal.walk::tell_member-ask_alone-requires
walk::tell_member-ask_alone-requires g t c =
    let none = c.requires.alone in
    let live : IsLive (nodes c.args.walk.now) c.args.last.now.member.child = c.requires.live in
    let fits : Fits (sight_at (nodes c.args.walk.now) c.args.last.now.member.child) (inline_query false []) = fits_no_chain (sight_at (nodes c.args.walk.now) c.args.last.now.member.child) none in
    let seat : IsSeat (sight_at (nodes c.args.walk.now) c.args.last.now.member.child) [] above.Nothing (record { columns = record { start = pos 0; end = pos 0 }; rows = record { start = pos 0; end = pos 0 } })
    = alone_there (nodes c.args.walk.now) c.args.last.now.member.child _ (ap has_chain none) in
    let small : 16 * size_at (nodes c.args.walk.now) c.args.last.now.member.child + 8 < 16 * size_at (nodes c.args.walk.now) c.args.last.now.member.child + 9 = omega arith in
    search rules

pub walk::tell_member-told_by-requires-clause-live : goal.walk::tell_member-told_by-requires-clause-live
walk::tell_member-told_by-requires-clause-live g t c = subst (λ (z : BareTrees). IsLive z c.args.last.now.member.child) (sym c.in_ok-inline.ensures.walked.walk.bare_same) c.requires.live

pub walk::tell_member-told_by-requires-clause-readable : goal.walk::tell_member-told_by-requires-clause-readable
walk::tell_member-told_by-requires-clause-readable g t c = c.ask_alone.ensures.stands.readable

pub walk::tell_member-told_by-requires-clause-inline : goal.walk::tell_member-told_by-requires-clause-inline
walk::tell_member-told_by-requires-clause-inline g t c =
    sizes_are c.in_ok-inline.inline ((kid_at (nodes c.args.walk.now) c.args.last.now.member.child).answers.inline []) c.in_ok-inline.ensures.value
    ∙ ap (λ (z : BareTrees). (kid_at z c.args.last.now.member.child).answers.inline []) (sym c.in_ok-inline.ensures.walked.walk.bare_same)

pub walk::tell_member-returns-clause-place : goal.walk::tell_member-returns-clause-place
walk::tell_member-returns-clause-place g t c = c.told_by.ensures.place

pub walk::tell_member-returns-clause-told : goal.walk::tell_member-returns-clause-told
walk::tell_member-returns-clause-told g t c = subst (λ (z : BareTrees). Tells (kid_at z c.args.last.now.member.child) c.told_by.result) c.in_ok-inline.ensures.walked.walk.bare_same c.told_by.ensures.told

pub walk::tell_member-returns-in-Some-clause-place : goal.walk::tell_member-returns-in-Some-clause-place
walk::tell_member-returns-in-Some-clause-place g t c = ap place_of c.in-Some.ensures.same

pub walk::tell_member-returns-in-Some-clause-told : goal.walk::tell_member-returns-in-Some-clause-told
walk::tell_member-returns-in-Some-clause-told g t c =
    subst (Tells (kid_at (nodes c.args.walk.now) c.args.last.now.member.child)) (sym c.in-Some.ensures.same) (c.requires.last c.in-Some.ensures.few)

pub walk::tell_member-returns-in-Some-clause-walked : goal.walk::tell_member-returns-in-Some-clause-walked
walk::tell_member-returns-in-Some-clause-walked g t c = found_walked c.args.last.now.member.child (inline_query false []) (seen g.R.Ruler.log c.args.walk.now) c.requires.stands.right

pub walk::tell_members-returns-in_err-told-clause-stopped : goal.walk::tell_members-returns-in_err-told-clause-stopped
walk::tell_members-returns-in_err-told-clause-stopped g t c =
    let all : (q : Query) → Stopped c.args.id q (seen g.R.Ruler.log c.args.walk.now) (seen g.R.Ruler.log c.args.walk.now) =
    λ q. stopped c.args.id q 0 _ _ (walked_none c.args.id q (seen g.R.Ruler.log c.args.walk.now) c.requires.stands.right) in
    on_err _ _ all

pub walk::tell_members-loop-last-init : goal.walk::tell_members-loop-last-init
walk::tell_members-loop-last-init g t c =
    record {
      stands = c.requires.stands;
      parts = same_parts c.args.walk.now;
      same = refl;
      walked = λ q. walked_none c.args.id q (seen g.R.Ruler.log c.args.walk.now) c.requires.stands.right;
      places = ap (map place_of) c.in_ok-told.ensures;
      told = subst (Every (tells_in (nodes c.args.walk.now))) (sym c.in_ok-told.ensures) tt;
    }

pub walk::tell_members-tell_member-requires : goal.walk::tell_members-tell_member-requires
walk::tell_members-tell_member-requires g t c =
    let there : c.loop-last.last-index < length c.args.past.now = omega (arith, c.loop-last-test.true) in
    let next = next_at (nodes c.args.walk.now) c.args.id c.root.ensures.tree c.args.past.now c.requires.past c.loop-last.last-index c.last-item.result there c.last-item.is in
    let back = sym c.loop-last.invariant.same in
    let live : IsLive (nodes c.loop-last.walk) c.last-item.result.member.child = subst (λ (z : BareTrees). IsLive z c.last-item.result.member.child) back next.live in
    let alone : (sight_at (nodes c.loop-last.walk) c.last-item.result.member.child).chain ≡ [] =
    subst (λ (z : BareTrees). (sight_at z c.last-item.result.member.child).chain ≡ []) back (chain_in_flex (nodes c.args.walk.now) c.args.id c.last-item.result.member.child _ next c.requires.flex) in
    let last : c.last-item.result.turn < last_turn → Tells (kid_at (nodes c.loop-last.walk) c.last-item.result.member.child) c.last-item.result =
    subst (λ (z : BareTrees). c.last-item.result.turn < last_turn → Tells (kid_at z c.last-item.result.member.child) c.last-item.result) back
    (last_at (nodes c.args.walk.now) c.args.id c.root.ensures.tree c.args.past.now c.requires.past c.loop-last.last-index c.last-item.result there c.last-item.is) in
    let small : 16 * size_at (nodes c.loop-last.walk) c.last-item.result.member.child + 10 < 16 * size_at (nodes c.args.walk.now) c.args.id = omega (arith, next.smaller, ap (λ (z : BareTrees). size_at z c.last-item.result.member.child) c.loop-last.invariant.same) in
    search rules

pub walk::tell_members-returns-in_err-child-clause-stopped : goal.walk::tell_members-returns-in_err-child-clause-stopped
walk::tell_members-returns-in_err-child-clause-stopped g t c =
    let there : c.loop-last.last-index < length c.args.past.now = omega (arith, c.loop-last-test.true) in
    let next = next_at (nodes c.args.walk.now) c.args.id c.root.ensures.tree c.args.past.now c.requires.past c.loop-last.last-index c.last-item.result there c.last-item.is in
    let all : (q : Query) → Stopped c.args.id q (seen g.R.Ruler.log c.args.walk.now) (seen g.R.Ruler.log c.tell_member.new.walk) =
    λ q. (c.root.ensures.steps c.args.id c.last-item.result.member.child c.last-item.result.member.number next.number).stops q (inline_query false []) 0 _ _ _
    (asks_at (nodes c.args.walk.now) c.args.id c.root.ensures.tree c.args.past.now c.requires.past c.loop-last.last-index c.last-item.result there c.last-item.is q c.requires.flex)
    c.loop-last.invariant.same (c.loop-last.invariant.walked q) c.in_err-child.ensures.stopped in
    on_err _ _ all

pub walk::tell_members-returns-in_err-push-clause-stopped : goal.walk::tell_members-returns-in_err-push-clause-stopped
walk::tell_members-returns-in_err-push-clause-stopped g t c =
    let there : c.loop-last.last-index < length c.args.past.now = omega (arith, c.loop-last-test.true) in
    let next = next_at (nodes c.args.walk.now) c.args.id c.root.ensures.tree c.args.past.now c.requires.past c.loop-last.last-index c.last-item.result there c.last-item.is in
    let all : (q : Query) → Stopped c.args.id q (seen g.R.Ruler.log c.args.walk.now) (seen g.R.Ruler.log c.tell_member.new.walk) =
    λ q. stopped c.args.id q 0 _ _ ((c.root.ensures.steps c.args.id c.last-item.result.member.child c.last-item.result.member.number next.number).below q (inline_query false []) 0 _ _ _
    (asks_at (nodes c.args.walk.now) c.args.id c.root.ensures.tree c.args.past.now c.requires.past c.loop-last.last-index c.last-item.result there c.last-item.is q c.requires.flex)
    c.loop-last.invariant.same (c.loop-last.invariant.walked q) c.in_ok-child.ensures.walked) in
    on_err _ _ all

pub walk::tell_members-loop-last-preserved : goal.walk::tell_members-loop-last-preserved
walk::tell_members-loop-last-preserved g t c =
    let there : c.loop-last.last-index < length c.args.past.now = omega (arith, c.loop-last-test.true) in
    let next = next_at (nodes c.args.walk.now) c.args.id c.root.ensures.tree c.args.past.now c.requires.past c.loop-last.last-index c.last-item.result there c.last-item.is in
    record {
      stands = c.tell_member.ensures.stands;
      parts = parts_then _ _ _ c.loop-last.invariant.parts c.tell_member.ensures.parts;
      same = c.in_ok-child.ensures.walked.walk.bare_same ∙ c.loop-last.invariant.same;
      walked = λ q. (c.root.ensures.steps c.args.id c.last-item.result.member.child c.last-item.result.member.number next.number).below q (inline_query false []) 0 _ _ _
          (asks_at (nodes c.args.walk.now) c.args.id c.root.ensures.tree c.args.past.now c.requires.past c.loop-last.last-index c.last-item.result there c.last-item.is q c.requires.flex)
          c.loop-last.invariant.same (c.loop-last.invariant.walked q) c.in_ok-child.ensures.walked;
      places = places_next c.args.past.now c.loop-last.told _ c.loop-last.last-index c.last-item.result c.in_ok-child.child there c.last-item.is c.in_ok-push.ensures.ok c.in_ok-child.ensures.place c.loop-last.invariant.places;
      told = told_more (tells_in (nodes c.args.walk.now)) c.loop-last.told _ c.in_ok-child.child c.in_ok-push.ensures.ok c.loop-last.invariant.told
          (tells_there (nodes c.args.walk.now) (nodes c.loop-last.walk) c.last-item.result c.in_ok-child.child c.loop-last.invariant.same c.in_ok-child.ensures.place c.in_ok-child.ensures.told);
    }

pub walk::tell_members-returns-clause-told : goal.walk::tell_members-returns-clause-told
walk::tell_members-returns-clause-told g t c =
    all_told (nodes c.args.walk.now) c.args.id c.args.past.now c.loop-last.told c.loop-last.last-index (omega arith) c.requires.past c.loop-last.invariant.places c.loop-last.invariant.told

pub walk::tell_members-returns-clause-below : goal.walk::tell_members-returns-clause-below
walk::tell_members-returns-clause-below g t c = c.loop-last.invariant.walked

pub walk::told_members-returns-in_err-past-clause-stopped : goal.walk::told_members-returns-in_err-past-clause-stopped
walk::told_members-returns-in_err-past-clause-stopped g t c =
    let all : (q : Query) → Stopped c.args.id q (seen g.R.Ruler.log c.args.walk.now) (seen g.R.Ruler.log c.last_members.new.walk) =
    λ q. c.last_members.ensures.stopped q (seen g.R.Ruler.log c.last_members.new.walk) (stopped c.args.id q 0 _ _ (walked_none c.args.id q (seen g.R.Ruler.log c.last_members.new.walk) c.last_members.ensures.stands.right)) in
    on_err _ _ all

pub walk::told_members-tell_members-requires : goal.walk::told_members-tell_members-requires
walk::told_members-tell_members-requires g t c =
    let back = sym c.last_members.ensures.bare in
    let flex : (sight_at (nodes c.last_members.new.walk) c.args.id).label.kind ≡ kind.Flex = subst (λ (z : BareTrees). (sight_at z c.args.id).label.kind ≡ kind.Flex) back c.requires.flex in
    let past : ArePastMembers (nodes c.last_members.new.walk) c.args.id c.as_slice.result.now =
    subst (λ (z : BareTrees). ArePastMembers z c.args.id c.as_slice.result.now) back (subst (ArePastMembers (nodes c.args.walk.now) c.args.id) (sym c.as_slice.ensures) c.in_ok-past.ensures.past) in
    let small : 16 * size_at (nodes c.last_members.new.walk) c.args.id < 16 * size_at (nodes c.args.walk.now) c.args.id + 1 = omega (arith, ap (λ (z : BareTrees). size_at z c.args.id) c.last_members.ensures.bare) in
    search rules

pub walk::told_members-returns-in_err-told-clause-stopped : goal.walk::told_members-returns-in_err-told-clause-stopped
walk::told_members-returns-in_err-told-clause-stopped g t c =
    let all : (q : Query) → Stopped c.args.id q (seen g.R.Ruler.log c.args.walk.now) (seen g.R.Ruler.log c.tell_members.new.walk) =
    λ q. c.last_members.ensures.stopped q (seen g.R.Ruler.log c.tell_members.new.walk) (c.in_err-told.ensures.stopped q) in
    on_err _ _ all

pub walk::told_members-returns-clause-told : goal.walk::told_members-returns-clause-told
walk::told_members-returns-clause-told g t c = subst (λ (z : BareTrees). AreToldMembers z c.args.id c.in_ok-told.told) c.last_members.ensures.bare c.in_ok-told.ensures.told

pub walk::told_members-returns-clause-below : goal.walk::told_members-returns-clause-below
walk::told_members-returns-clause-below g t c = λ q. c.last_members.ensures.below q 0 (seen g.R.Ruler.log c.tell_members.new.walk) (c.in_ok-told.ensures.below q)

pub walk::flex_anew-returns-in_err-told-clause-stopped : goal.walk::flex_anew-returns-in_err-told-clause-stopped
walk::flex_anew-returns-in_err-told-clause-stopped g t c = on_err _ _ (c.in_err-told.ensures.stopped c.args.query)

pub walk::flex_anew-flex_answered-requires : goal.walk::flex_anew-flex_answered-requires
walk::flex_anew-flex_answered-requires g t c =
    let below = c.in_ok-told.ensures.below c.args.query in
    let back = sym below.walk.bare_same in
    record {
      stands = c.told_members.ensures.stands;
      live = subst (λ (z : BareTrees). IsLive z c.args.id) back c.requires.live;
      kind = subst (λ (z : BareTrees). (sight_at z c.args.id).label.kind ≡ kind.Flex) back c.requires.flex;
      ask = c.requires.ask;
      fits = subst (λ (z : BareTrees). Fits (sight_at z c.args.id) c.args.query) back c.requires.fits;
      absent = subst (IsAbsent c.args.query) (sym below.own) c.requires.absent;
      told =
          subst (λ (z : BareTrees). AreToldMembers z c.args.id c.as_slice.result.now) back
          (subst (AreToldMembers (nodes c.args.walk.now) c.args.id) (sym c.as_slice.ensures) c.in_ok-told.ensures.told);
    }

pub walk::flex_anew-returns-clause-value : goal.walk::flex_anew-returns-clause-value
walk::flex_anew-returns-clause-value g t c =
    subst (λ (z : BareTrees). IfOk c.flex_answered.result (λ sizes. inline_sizes sizes ≡ answer_of (sight_at z c.args.id) c.args.query))
    (c.in_ok-told.ensures.below c.args.query).walk.bare_same c.flex_answered.ensures.value

pub walk::flex_anew-returns-clause-own : goal.walk::flex_anew-returns-clause-own
walk::flex_anew-returns-clause-own g t c =
    subst (λ (l : List (Query × Answer)). IfOk c.flex_answered.result (λ sizes. kept c.flex_answered.new.walk c.args.id ≡ kept_with l ((c.args.query, answer.Sizes sizes.0 sizes.1) ∷ [])))
    (c.in_ok-told.ensures.below c.args.query).own c.flex_answered.ensures.own

pub walk::flex_anew-returns-clause-walked : goal.walk::flex_anew-returns-clause-walked
walk::flex_anew-returns-clause-walked g t c = ok_walked _ c.args.id c.args.query 0 _ _ _ (c.in_ok-told.ensures.below c.args.query) c.flex_answered.ensures.walked

pub walk::flex_anew-returns-clause-stopped : goal.walk::flex_anew-returns-clause-stopped
walk::flex_anew-returns-clause-stopped g t c = err_stopped _ c.args.id c.args.query 0 _ _ _ (c.in_ok-told.ensures.below c.args.query) c.flex_answered.ensures.stopped

pub walk::tell_member-returns-in_err-inline-clause-parts : goal.walk::tell_member-returns-in_err-inline-clause-parts
walk::tell_member-returns-in_err-inline-clause-parts g t c = c.ask_alone.ensures.parts

pub walk::tell_member-returns-in_err-inline-clause-stands : goal.walk::tell_member-returns-in_err-inline-clause-stands
walk::tell_member-returns-in_err-inline-clause-stands g t c = c.ask_alone.ensures.stands

pub walk::tell_member-returns-clause-parts : goal.walk::tell_member-returns-clause-parts
walk::tell_member-returns-clause-parts g t c = c.ask_alone.ensures.parts

pub walk::tell_member-returns-clause-stands : goal.walk::tell_member-returns-clause-stands
walk::tell_member-returns-clause-stands g t c = c.ask_alone.ensures.stands

pub walk::tell_member-returns-in-Some-clause-parts : goal.walk::tell_member-returns-in-Some-clause-parts
walk::tell_member-returns-in-Some-clause-parts g t c = same_parts c.args.walk.now

pub walk::tell_member-returns-in-Some-clause-stands : goal.walk::tell_member-returns-in-Some-clause-stands
walk::tell_member-returns-in-Some-clause-stands g t c = c.requires.stands

pub walk::tell_members-returns-in_err-told-clause-parts : goal.walk::tell_members-returns-in_err-told-clause-parts
walk::tell_members-returns-in_err-told-clause-parts g t c = same_parts c.args.walk.now

pub walk::tell_members-returns-in_err-told-clause-stands : goal.walk::tell_members-returns-in_err-told-clause-stands
walk::tell_members-returns-in_err-told-clause-stands g t c = c.requires.stands

pub walk::tell_members-returns-in_err-child-clause-parts : goal.walk::tell_members-returns-in_err-child-clause-parts
walk::tell_members-returns-in_err-child-clause-parts g t c = parts_then _ _ _ c.loop-last.invariant.parts c.tell_member.ensures.parts

pub walk::tell_members-returns-in_err-child-clause-stands : goal.walk::tell_members-returns-in_err-child-clause-stands
walk::tell_members-returns-in_err-child-clause-stands g t c = c.tell_member.ensures.stands

pub walk::tell_members-returns-in_err-push-clause-parts : goal.walk::tell_members-returns-in_err-push-clause-parts
walk::tell_members-returns-in_err-push-clause-parts g t c = parts_then _ _ _ c.loop-last.invariant.parts c.tell_member.ensures.parts

pub walk::tell_members-returns-in_err-push-clause-stands : goal.walk::tell_members-returns-in_err-push-clause-stands
walk::tell_members-returns-in_err-push-clause-stands g t c = c.tell_member.ensures.stands

pub walk::tell_members-returns-clause-parts : goal.walk::tell_members-returns-clause-parts
walk::tell_members-returns-clause-parts g t c = c.loop-last.invariant.parts

pub walk::tell_members-returns-clause-stands : goal.walk::tell_members-returns-clause-stands
walk::tell_members-returns-clause-stands g t c = c.loop-last.invariant.stands

pub walk::told_members-returns-in_err-past-clause-parts : goal.walk::told_members-returns-in_err-past-clause-parts
walk::told_members-returns-in_err-past-clause-parts g t c = c.last_members.ensures.parts

pub walk::told_members-returns-in_err-past-clause-stands : goal.walk::told_members-returns-in_err-past-clause-stands
walk::told_members-returns-in_err-past-clause-stands g t c = c.last_members.ensures.stands

pub walk::told_members-returns-in_err-told-clause-parts : goal.walk::told_members-returns-in_err-told-clause-parts
walk::told_members-returns-in_err-told-clause-parts g t c = parts_then _ _ _ c.last_members.ensures.parts c.tell_members.ensures.parts

pub walk::told_members-returns-in_err-told-clause-stands : goal.walk::told_members-returns-in_err-told-clause-stands
walk::told_members-returns-in_err-told-clause-stands g t c = c.tell_members.ensures.stands

pub walk::told_members-returns-clause-parts : goal.walk::told_members-returns-clause-parts
walk::told_members-returns-clause-parts g t c = parts_then _ _ _ c.last_members.ensures.parts c.tell_members.ensures.parts

pub walk::told_members-returns-clause-stands : goal.walk::told_members-returns-clause-stands
walk::told_members-returns-clause-stands g t c = c.tell_members.ensures.stands

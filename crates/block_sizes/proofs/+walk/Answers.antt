use Rattle.std.proofs.Common.{rules, arith, drop, refl, sym, ap, subst, ◌≡◌, ◌∙◌, ◌+◌, ◌*◌, ◌<◌, ◌∷◌, ◌++◌, [], List, ℕ, ℤ, true, false, length, map, pos, ◌≤◌, ◌&&◌, Bool}
use Rattle.lunit.specs.declared.item.Item.{Item}
use Rattle.placing.specs.Nodes.{BareTrees, IsLive, kid_at, level_at, sight_at, size_at}
use Rattle.placing.specs.Ranges.{AreReadable}
use Rattle.placing.specs.Seats.{IsSeat}
use Rattle.placing.specs.Walks.{Stopped, Walked, kept_with}
use Rattle.placing.specs.declared.contexts.Above.TheVariants as above
use Rattle.placing.specs.declared.node.Answer.TheVariants as answer
use Rattle.placing.proofs.Leaves.{on_err}
use Rattle.placing.proofs.Walks.{found_walked, stopped, walked_none}
use Rattle.tree_rules.specs.Answers.{Pair}
use Rattle.tree_rules.specs.AskedQueries.{block_query}
use Rattle.tree_rules.specs.Chains.{has_chain, has_subgrid, is_grid_kind}
use Rattle.tree_rules.specs.Labels.{GridStyle}
use Rattle.tree_rules.specs.GridSizes.{shares_rows}
use Rattle.tree_rules.specs.KeptAnswers.{IsAbsent}
use Rattle.tree_rules.specs.Queries.{Fits, IsGivenFor, answer_of, block_size, lent_items, needs_inline, outer_context, sees_columns}
use Rattle.tree_rules.specs.declared.kind.NodeKind.TheVariants as kind
use Rattle.tree_rules.specs.declared.kind.NodeKind.{NodeKind}
use Rattle.tree_rules.specs.declared.query.Given.{Given}
use Rattle.tree_rules.specs.declared.query.Query.{Query}
use Rattle.inline_sizes.proofs.Asked.{err_stopped, ok_walked, on_ok, walked_stopped}
use Rattle.inline_sizes.specs.Grids.{IsGrid, pairs_seen}
use Rattle.block_sizes.proofs.NodeAnswers.{items_are, size_is}
use Rattle.block_sizes.proofs.Fitting.{asked_as, block_own, lent_fit, pairs_all, rows_told, shared_chain}
use Rattle.block_sizes.proofs.HeldWide.{grows_by_block, on_ok_by, some_or_none}
use Rattle.block_sizes.proofs.KnownAlong.{block_known, known_blocks}
use Rattle.block_sizes.proofs.KnownRows.{rows_last, rows_lost}
use Rattle.block_sizes.proofs.Turns.{member_below, member_ends, member_stops, stops_at_once, turn_below, turn_ends, turn_stops}
use Rattle.block_sizes.proofs.Joined.{joined_below, joined_stopped}
use Rattle.block_sizes.proofs.Leading.{leads_down}
use Rattle.block_sizes.proofs.Widths.{all_there, sizes_there}
use Rattle.placing.specs.Spread.{AreSpread, IsSpread}
use Rattle.block_sizes.specs.Wides.{LeadsDown, asked_of, block_seen, farthest, items_seen, wide_in}
use Rattle.placing.specs.declared.wide.GridBase.{GridBase}
use Rattle.placing.specs.declared.wide.WideChild.{WideChild}
use Rattle.std.specs.Prelude.{IfOk, IfSome, Some, get_or, ◌-ℤ◌, ◌≤ℤ◌}
use Rattle.lunit.specs.Units.{IsUnits}
use Rattle.placing.proofs.Tellings.{ends_length, has_parts}
use Rattle.placing.specs.Told.{AllBut, AreRowsFor, AreTold, Each, HasParts, TellsRows}
use Rattle.tree_rules.specs.Labels.{ContentStyle}
use Rattle.block_sizes.proofs.ToldRows.{length_more, length_set, rows_from, rows_in, stale_within, tells_now, told_again, told_end, told_made, told_more, told_start}
use Rattle.block_sizes.specs.Told.{AreIn, AreLaid, ArePastIn, IsToldWide}
use Rattle.block_sizes.specs.Keeping.{GrowsBy}
use Rattle.placing.specs.declared.node.Answer.{Answer}
use Rattle.placing.proofs.Entries.{alone_there}
use Rattle.placing.specs.Ranges.{IsGridAxis}
use Rattle.tree_rules.specs.FlexSizes as rules
use Rattle.tree_rules.specs.FlexSizes.{settled_at}
use Rattle.tree_rules.specs.Frames.{given_size}
use Rattle.tree_rules.specs.Labels.{grid_of}
use Rattle.tree_rules.specs.NodeSizes.{inner}
use Rattle.inline_sizes.specs.Flexes.{AreMembers, IsChild, flex_seen, member_of}
use Rattle.placing.specs.Members.{member_in}
use Rattle.block_sizes.proofs.AskMembers.{asked_turn, block_width, blocks_more, boxes_counted, fits_block, spread_none, IsAsked}
use Rattle.block_sizes.proofs.FlexLeading.{column_leads, row_leads}
use Rattle.block_sizes.proofs.Settled.{settled_length}
use Rattle.block_sizes.specs.Settling.{AreKnown, AreRoomy, IsColumn, IsRow, LeadsTo, TellsBlock, block_of, column_boxes_seen, row_items_seen, settled_seen}
use Rattle.walker.proofs.Parts.{parts_then, same_parts}
use Rattle.walker.specs.Walkers.{kept, nodes, seen}
use Rattle.block_sizes.proofs.+walk.Goals as goal
use Rattle.block_sizes.proofs.+walk.Goals.{asking::ask_stale-then-branch, asking::ask_stale-else-branch}

abbrev has_kind : NodeKind → GridStyle → Bool
has_kind k s = is_grid_kind k && has_subgrid s

pub asking::ask_lent-lend_rows_at-requires : goal.asking::ask_lent-lend_rows_at-requires
asking::ask_lent-lend_rows_at-requires g t c =
    let live : IsLive (nodes c.args.walk.now) c.args.entry.child = c.requires.entry.entry.live in
    let fits : Fits (sight_at (nodes c.args.walk.now) c.args.entry.child) (block_query true c.as_slice-reps.result.now c.args.width.now) = subst (λ (r : List Pair). Fits (sight_at (nodes c.args.walk.now) c.args.entry.child) (block_query true r c.args.width.now))
    ((pairs_all (nodes c.args.walk.now) c.args.id c.args.base.now c.args.entry c.requires.entry (shared_chain (nodes c.args.walk.now) c.args.id c.args.base.now c.args.entry c.requires.entry c.requires.shared)) ∙ sym c.as_slice-reps.ensures) c.requires.fits in
    let seat : IsSeat (sight_at (nodes c.args.walk.now) c.args.entry.child) c.as_slice-reps.result.now c.args.base.now.above c.args.entry.area = subst (λ (r : List Pair). IsSeat (sight_at (nodes c.args.walk.now) c.args.entry.child) r c.args.base.now.above c.args.entry.area)
    (sym c.as_slice-reps.ensures) (c.requires.entry.entry.seat (shared_chain (nodes c.args.walk.now) c.args.id c.args.base.now c.args.entry c.requires.entry c.requires.shared)) in
    let small : 16 * size_at (nodes c.args.walk.now) c.args.entry.child + 6 < 16 * size_at (nodes c.args.walk.now) c.args.entry.child + 7 = omega arith in
    search rules

pub asking::ask_lent-returns-in-Some-clause-walked : goal.asking::ask_lent-returns-in-Some-clause-walked
asking::ask_lent-returns-in-Some-clause-walked g t c = on_ok _ _ (found_walked c.args.entry.child _ (seen g.R.Ruler.log c.args.walk.now) c.requires.stands.right)

pub asking::ask_lent-returns-in-Some-clause-stopped : goal.asking::ask_lent-returns-in-Some-clause-stopped
asking::ask_lent-returns-in-Some-clause-stopped g t c = on_err _ _ (walked_stopped _ _ _ _ (found_walked c.args.entry.child _ (seen g.R.Ruler.log c.args.walk.now) c.requires.stands.right))

pub asking::ask_lent-returns-in-Some-clause-items : goal.asking::ask_lent-returns-in-Some-clause-items
asking::ask_lent-returns-in-Some-clause-items g t c =
    let kept : c.as_slice.result.now ≡ ((kid_at (nodes c.args.walk.now) c.args.entry.child).answers.down (pairs_seen (nodes c.args.walk.now) c.args.base.now c.args.entry) c.args.width.now).lend_rows =
    c.as_slice.ensures ∙ items_are _ _ c.in-Some.ensures.value ∙
    ap (λ (r : List Pair). ((kid_at (nodes c.args.walk.now) c.args.entry.child).answers.down r c.args.width.now).lend_rows)
    (c.as_slice-reps.ensures ∙ sym (pairs_all (nodes c.args.walk.now) c.args.id c.args.base.now c.args.entry c.requires.entry (shared_chain (nodes c.args.walk.now) c.args.id c.args.base.now c.args.entry c.requires.entry c.requires.shared))) in
    on_ok_by c.append.result (c.append.new.items ≡ c.args.items.now ++ c.as_slice.result.now)
    (c.append.new.items ≡ c.args.items.now ++ ((kid_at (nodes c.args.walk.now) c.args.entry.child).answers.down (pairs_seen (nodes c.args.walk.now) c.args.base.now c.args.entry) c.args.width.now).lend_rows)
    (λ e. e ∙ ap (λ (l : List Item). c.args.items.now ++ l) kept) c.append.ensures

pub asking::ask_lent-returns-in_err-lent-clause-stopped : goal.asking::ask_lent-returns-in_err-lent-clause-stopped
asking::ask_lent-returns-in_err-lent-clause-stopped g t c =
    on_err _ _
    (subst (λ (q : Query). Stopped c.args.entry.child q (seen g.R.Ruler.log c.args.walk.now) (seen g.R.Ruler.log c.lend_rows_at.new.walk))
    (ap (λ (r : List Pair). block_query true r c.args.width.now)
    (c.as_slice-reps.ensures ∙ sym (pairs_all (nodes c.args.walk.now) c.args.id c.args.base.now c.args.entry c.requires.entry (shared_chain (nodes c.args.walk.now) c.args.id c.args.base.now c.args.entry c.requires.entry c.requires.shared))))
    c.in_err-lent.ensures.stopped)

pub asking::ask_lent-returns-in_err-append-clause-stopped : goal.asking::ask_lent-returns-in_err-append-clause-stopped
asking::ask_lent-returns-in_err-append-clause-stopped g t c =
    on_err _ _
    (walked_stopped _ _ _ _
    (subst (λ (q : Query). Walked c.args.entry.child q (seen g.R.Ruler.log c.args.walk.now) (seen g.R.Ruler.log c.lend_rows_at.new.walk))
    (ap (λ (r : List Pair). block_query true r c.args.width.now)
    (c.as_slice-reps.ensures ∙ sym (pairs_all (nodes c.args.walk.now) c.args.id c.args.base.now c.args.entry c.requires.entry (shared_chain (nodes c.args.walk.now) c.args.id c.args.base.now c.args.entry c.requires.entry c.requires.shared))))
    c.in_ok-lent.ensures.walked))

pub asking::ask_lent-returns-clause-walked : goal.asking::ask_lent-returns-clause-walked
asking::ask_lent-returns-clause-walked g t c =
    (subst (λ (q : Query). Walked c.args.entry.child q (seen g.R.Ruler.log c.args.walk.now) (seen g.R.Ruler.log c.lend_rows_at.new.walk))
    (ap (λ (r : List Pair). block_query true r c.args.width.now)
    (c.as_slice-reps.ensures ∙ sym (pairs_all (nodes c.args.walk.now) c.args.id c.args.base.now c.args.entry c.requires.entry (shared_chain (nodes c.args.walk.now) c.args.id c.args.base.now c.args.entry c.requires.entry c.requires.shared)))) c.in_ok-lent.ensures.walked)

pub asking::ask_lent-returns-clause-items : goal.asking::ask_lent-returns-clause-items
asking::ask_lent-returns-clause-items g t c =
    c.in_ok-append.ensures ∙
    ap (λ (l : List Item). c.args.items.now ++ l)
    (c.as_slice-2.ensures ∙ items_are _ _ c.in_ok-lent.ensures.value ∙
    ap (λ (r : List Pair). ((kid_at (nodes c.args.walk.now) c.args.entry.child).answers.down r c.args.width.now).lend_rows)
    (c.as_slice-reps.ensures ∙ sym (pairs_all (nodes c.args.walk.now) c.args.id c.args.base.now c.args.entry c.requires.entry (shared_chain (nodes c.args.walk.now) c.args.id c.args.base.now c.args.entry c.requires.entry c.requires.shared))))

pub asking::ask_block-block_in-requires : goal.asking::ask_block-block_in-requires
asking::ask_block-block_in-requires g t c =
    let live : IsLive (nodes c.args.walk.now) c.args.entry.child = c.requires.entry.entry.live in
    let fits : Fits (sight_at (nodes c.args.walk.now) c.args.entry.child) (block_query false c.as_slice-reps.result.now c.args.width.now) = subst (λ (r : List Pair). Fits (sight_at (nodes c.args.walk.now) c.args.entry.child) (block_query false r c.args.width.now))
    ((pairs_all (nodes c.args.walk.now) c.args.id c.args.base.now c.args.entry c.requires.entry (c.requires.entry.entry.chain ∙ (λ i. has_kind (sym c.node_at.ensures.kind i) (sym c.node_at.ensures.grid i)) ∙ sym c.has_subgrid.ensures ∙ c.if-has_subgrid.true)) ∙
    sym c.as_slice-reps.ensures) c.requires.fits in
    let seat : IsSeat (sight_at (nodes c.args.walk.now) c.args.entry.child) c.as_slice-reps.result.now c.args.base.now.above c.args.entry.area = subst (λ (r : List Pair). IsSeat (sight_at (nodes c.args.walk.now) c.args.entry.child) r c.args.base.now.above c.args.entry.area)
    (sym c.as_slice-reps.ensures) (c.requires.entry.entry.seat (c.requires.entry.entry.chain ∙ (λ i. has_kind (sym c.node_at.ensures.kind i) (sym c.node_at.ensures.grid i)) ∙ sym c.has_subgrid.ensures ∙ c.if-has_subgrid.true)) in
    let small : 16 * size_at (nodes c.args.walk.now) c.args.entry.child + 6 < 16 * size_at (nodes c.args.walk.now) c.args.entry.child + 7 = omega arith in
    search rules

pub asking::ask_rows-ask_lent-requires : goal.asking::ask_rows-ask_lent-requires
asking::ask_rows-ask_lent-requires g t c =
    let shared : shares_rows (kid_at (nodes c.args.walk.now) c.args.entry.child) ≡ true = (rows_told (nodes c.args.walk.now) c.args.id c.args.base.now c.args.entry c.requires.entry ∙ sym c.shares.ensures ∙ c.if-shares.true) in
    let fits : Fits (sight_at (nodes c.args.walk.now) c.args.entry.child) (block_query true (pairs_seen (nodes c.args.walk.now) c.args.base.now c.args.entry) c.args.width.now) = subst (Fits (sight_at (nodes c.args.walk.now) c.args.entry.child))
    (sym (asked_as (nodes c.args.walk.now) c.args.id c.args.base.now c.args.entry c.requires.entry true c.args.width.now (rows_told (nodes c.args.walk.now) c.args.id c.args.base.now c.args.entry c.requires.entry ∙ sym c.shares.ensures ∙ c.if-shares.true))) c.requires.fits
    in
    let small : 16 * size_at (nodes c.args.walk.now) c.args.entry.child + 7 < 16 * size_at (nodes c.args.walk.now) c.args.entry.child + 8 = omega arith in
    search rules

pub asking::ask_rows-ask_block-requires : goal.asking::ask_rows-ask_block-requires
asking::ask_rows-ask_block-requires g t c =
    let own : shares_rows (kid_at (nodes c.args.walk.now) c.args.entry.child) ≡ false = (rows_told (nodes c.args.walk.now) c.args.id c.args.base.now c.args.entry c.requires.entry ∙ sym c.shares.ensures ∙ c.if-shares.false) in
    let fits : Fits (sight_at (nodes c.args.walk.now) c.args.entry.child) (block_query false (pairs_seen (nodes c.args.walk.now) c.args.base.now c.args.entry) c.args.width.now) = subst (Fits (sight_at (nodes c.args.walk.now) c.args.entry.child))
    (sym (asked_as (nodes c.args.walk.now) c.args.id c.args.base.now c.args.entry c.requires.entry false c.args.width.now (rows_told (nodes c.args.walk.now) c.args.id c.args.base.now c.args.entry c.requires.entry ∙ sym c.shares.ensures ∙ c.if-shares.false))) c.requires.fits
    in
    let small : 16 * size_at (nodes c.args.walk.now) c.args.entry.child + 7 < 16 * size_at (nodes c.args.walk.now) c.args.entry.child + 8 = omega arith in
    search rules

pub asking::ask_rows-returns-in_err-ask_lent-clause-stopped : goal.asking::ask_rows-returns-in_err-ask_lent-clause-stopped
asking::ask_rows-returns-in_err-ask_lent-clause-stopped g t c =
    on_err _ _
    (subst (λ (q : Query). Stopped c.args.entry.child q (seen g.R.Ruler.log c.args.walk.now) (seen g.R.Ruler.log c.ask_lent.new.walk))
    (asked_as (nodes c.args.walk.now) c.args.id c.args.base.now c.args.entry c.requires.entry true c.args.width.now (rows_told (nodes c.args.walk.now) c.args.id c.args.base.now c.args.entry c.requires.entry ∙ sym c.shares.ensures ∙ c.if-shares.true))
    c.in_err-ask_lent.ensures.stopped)

pub asking::ask_rows-returns-in_err-block-clause-stopped : goal.asking::ask_rows-returns-in_err-block-clause-stopped
asking::ask_rows-returns-in_err-block-clause-stopped g t c =
    on_err _ _
    (subst (λ (q : Query). Stopped c.args.entry.child q (seen g.R.Ruler.log c.args.walk.now) (seen g.R.Ruler.log c.ask_block.new.walk))
    (asked_as (nodes c.args.walk.now) c.args.id c.args.base.now c.args.entry c.requires.entry false c.args.width.now (rows_told (nodes c.args.walk.now) c.args.id c.args.base.now c.args.entry c.requires.entry ∙ sym c.shares.ensures ∙ c.if-shares.false))
    c.in_err-block.ensures.stopped)

pub asking::ask_rows-returns-in_err-push-clause-stopped : goal.asking::ask_rows-returns-in_err-push-clause-stopped
asking::ask_rows-returns-in_err-push-clause-stopped g t c =
    on_err _ _
    (walked_stopped _ _ _ _
    (subst (λ (q : Query). Walked c.args.entry.child q (seen g.R.Ruler.log c.args.walk.now) (seen g.R.Ruler.log c.ask_block.new.walk))
    (asked_as (nodes c.args.walk.now) c.args.id c.args.base.now c.args.entry c.requires.entry false c.args.width.now (rows_told (nodes c.args.walk.now) c.args.id c.args.base.now c.args.entry c.requires.entry ∙ sym c.shares.ensures ∙ c.if-shares.false))
    c.in_ok-block.ensures.walked))

pub asking::ask_rows-returns-clause-walked : goal.asking::ask_rows-returns-clause-walked
asking::ask_rows-returns-clause-walked g t c =
    (subst (λ (q : Query). Walked c.args.entry.child q (seen g.R.Ruler.log c.args.walk.now) (seen g.R.Ruler.log c.ask_block.new.walk))
    (asked_as (nodes c.args.walk.now) c.args.id c.args.base.now c.args.entry c.requires.entry false c.args.width.now (rows_told (nodes c.args.walk.now) c.args.id c.args.base.now c.args.entry c.requires.entry ∙ sym c.shares.ensures ∙ c.if-shares.false))
    c.in_ok-block.ensures.walked)

pub asking::ask_rows-returns-clause-value : goal.asking::ask_rows-returns-clause-value
asking::ask_rows-returns-clause-value g t c =
    block_own (nodes c.args.walk.now) c.args.id c.args.base.now c.args.entry c.requires.entry c.args.width.now c.in_ok-block.block (rows_told (nodes c.args.walk.now) c.args.id c.args.base.now c.args.entry c.requires.entry ∙ sym c.shares.ensures ∙ c.if-shares.false)
    c.in_ok-block.ensures.value

pub asking::ask_child-returns-in_err-size-clause-stopped : goal.asking::ask_child-returns-in_err-size-clause-stopped
asking::ask_child-returns-in_err-size-clause-stopped g t c =
    on_err _ _ (stopped c.args.entry.child _ 0 _ _ (walked_none c.args.entry.child _ (seen g.R.Ruler.log c.args.walk.now) c.requires.stands.right))

pub asking::ask_child-returns-in_err-block-clause-stopped : goal.asking::ask_child-returns-in_err-block-clause-stopped
asking::ask_child-returns-in_err-block-clause-stopped g t c =
    on_err _ _
    (subst (λ (q : Query). Stopped c.args.entry.child q (seen g.R.Ruler.log c.args.walk.now) (seen g.R.Ruler.log c.ask_rows.new.walk))
    (ap (λ (p : ℤ × Given). asked_of (nodes c.args.walk.now) c.args.base.now c.args.entry p.1) c.in_ok-size.ensures.value) c.in_err-block.ensures.stopped)

pub asking::ask_child-returns-clause-walked : goal.asking::ask_child-returns-clause-walked
asking::ask_child-returns-clause-walked g t c =
    subst (λ (q : Query). Walked c.args.entry.child q (seen g.R.Ruler.log c.args.walk.now) (seen g.R.Ruler.log c.ask_rows.new.walk))
    (ap (λ (p : ℤ × Given). asked_of (nodes c.args.walk.now) c.args.base.now c.args.entry p.1) c.in_ok-size.ensures.value) c.in_ok-block.ensures.walked

pub asking::ask_child-returns-clause-items : goal.asking::ask_child-returns-clause-items
asking::ask_child-returns-clause-items g t c =
    c.in_ok-block.ensures.items ∙ ap (λ (p : ℤ × Given). c.args.items.now ++ items_seen (nodes c.args.walk.now) c.args.id c.args.base.now c.args.entry p.1) c.in_ok-size.ensures.value

pub asking::ask_child-returns-clause-value : goal.asking::ask_child-returns-clause-value
asking::ask_child-returns-clause-value g t c =
    let child : WideChild = record { box_ = c.in_ok-size.size; inline = c.in_ok-size.inline; block = c.in_ok-block.block } in
    ap (λ (k : ℤ). record child { block = k }) c.in_ok-block.ensures.value ∙ ap (λ (p : ℤ × Given). record child { box_ = p.0; inline = p.1; block = block_seen (nodes c.args.walk.now) c.args.base.now c.args.entry p.1 }) c.in_ok-size.ensures.value

pub asking::ask_children-loop-index-init : goal.asking::ask_children-loop-index-init
asking::ask_children-loop-index-init g t c =
    record {
      stands = c.requires.stands;
      parts = same_parts c.args.walk.now;
      same = refl;
      walked = λ q leads. walked_none c.args.id q (seen g.R.Ruler.log c.args.walk.now) c.requires.stands.right;
      counted = ap length c.in_ok-children.ensures.children;
      told =
          told_start (TellsRows (sight_at (nodes c.args.walk.now) c.args.id) (kid_at (nodes c.args.walk.now)) c.args.parts.now.base c.args.columns (sight_at (nodes c.args.walk.now) c.args.id).label.content.inline.items) _ _ _ c.in_ok-children.ensures.children c.in_ok-children.ensures.items
          c.in_ok-children.ensures.ends;
    }

pub asking::ask_children-returns-in_err-children-clause-stopped : goal.asking::ask_children-returns-in_err-children-clause-stopped
asking::ask_children-returns-in_err-children-clause-stopped g t c = on_err _ _ (stops_at_once c.args.id (seen g.R.Ruler.log c.args.walk.now) (LeadsDown (nodes c.args.walk.now) c.args.id c.args.reps.now c.args.width.now) c.requires.stands.right)

pub asking::ask_children-child_in-entry-requires : goal.asking::ask_children-child_in-entry-requires
asking::ask_children-child_in-entry-requires g t c =
    let back = sym c.loop-index.invariant.same in
    let live : IsLive (nodes c.loop-index.walk) c.args.id = subst (λ (z : BareTrees). IsLive z c.args.id) back c.requires.live in
    let readable : AreReadable (nodes c.loop-index.walk) = c.loop-index.invariant.stands.readable in
    let grid : (sight_at (nodes c.loop-index.walk) c.args.id).label.kind ≡ kind.Grid = subst (λ (z : BareTrees). (sight_at z c.args.id).label.kind ≡ kind.Grid) back c.requires.kind in
    let made : IsGrid (nodes c.loop-index.walk) c.args.id c.args.reps.now c.args.width.now c.args.parts.now = (subst (λ (z : BareTrees). IsGrid z c.args.id c.args.reps.now c.args.width.now c.args.parts.now) (sym c.loop-index.invariant.same) c.requires.grid) in
    let index : c.loop-index.index < length c.args.parts.now.base.placed.areas = omega (arith, ap (λ (base : GridBase). length base.placed.areas) c.grid-base.ensures) in
    search rules

pub asking::ask_children-ask_child-requires : goal.asking::ask_children-ask_child-requires
asking::ask_children-ask_child-requires g t c =
    let back = sym c.loop-index.invariant.same in
    let live : IsLive (nodes c.loop-index.walk) c.args.id = subst (λ (z : BareTrees). IsLive z c.args.id) back c.requires.live in
    let readable : AreReadable (nodes c.loop-index.walk) = c.loop-index.invariant.stands.readable in
    let made : IsGrid (nodes c.loop-index.walk) c.args.id c.args.reps.now c.args.width.now c.args.parts.now = (subst (λ (z : BareTrees). IsGrid z c.args.id c.args.reps.now c.args.width.now c.args.parts.now) (sym c.loop-index.invariant.same) c.requires.grid) in
    let counted : pos (length c.args.columns.edges) ≡ (c.args.parts.now.base.placed.columns.end -ℤ c.args.parts.now.base.placed.columns.start) = c.requires.columns.counted in
    let gap : pos 0 ≤ℤ c.args.columns.gap = c.requires.columns.gap in
    let range : IsUnits c.args.columns.gap = c.requires.columns.range in
    let apart : AreSpread (farthest (level_at (nodes c.loop-index.walk) c.args.id)) c.args.columns.edges = subst (λ (z : BareTrees). AreSpread (farthest (level_at z c.args.id)) c.args.columns.edges) back c.requires.columns.spread in
    let small : 16 * size_at (nodes c.loop-index.walk) c.child_in-entry.result.child + 9 < 16 * size_at (nodes c.args.walk.now) c.args.id = omega (arith, c.child_in-entry.ensures.child.entry.smaller, ap (λ (z : BareTrees). size_at z c.args.id) c.loop-index.invariant.same) in
    search rules

pub asking::ask_children-sizes_at-sizes-requires : goal.asking::ask_children-sizes_at-sizes-requires
asking::ask_children-sizes_at-sizes-requires g t c =
    sizes_there (nodes c.loop-index.walk) c.args.id c.args.reps.now c.args.width.now c.args.parts.now (c.loop-index.index) _ _ (subst (λ (z : BareTrees). IsGrid z c.args.id c.args.reps.now c.args.width.now c.args.parts.now) (sym c.loop-index.invariant.same) c.requires.grid)
    c.child_in-entry.ensures.next

pub asking::ask_children-returns-in_err-child-clause-stopped : goal.asking::ask_children-returns-in_err-child-clause-stopped
asking::ask_children-returns-in_err-child-clause-stopped g t c =
    on_err _ _
    (turn_stops (nodes c.args.walk.now) (nodes c.loop-index.walk) c.loop-index.invariant.same c.args.id c.args.reps.now c.args.width.now c.args.parts.now c.requires.grid c.root.ensures.steps c.grid-base.result.now c.grid-base.ensures c.args.columns c.requires.columns.seen
    c.child_in-entry.result c.sizes_at-sizes.result c.loop-index.index c.child_in-entry.ensures.next c.sizes_at-sizes.ensures c.child_in-entry.ensures.child.entry.number _ _ _ refl c.loop-index.invariant.walked c.in_err-child.ensures.stopped)

pub asking::ask_children-returns-in_err-add_child-clause-stopped : goal.asking::ask_children-returns-in_err-add_child-clause-stopped
asking::ask_children-returns-in_err-add_child-clause-stopped g t c =
    on_err _ _
    (turn_ends (nodes c.args.walk.now) (nodes c.loop-index.walk) c.loop-index.invariant.same c.args.id c.args.reps.now c.args.width.now c.args.parts.now c.requires.grid c.root.ensures.steps c.grid-base.result.now c.grid-base.ensures c.args.columns c.requires.columns.seen
    c.child_in-entry.result c.sizes_at-sizes.result c.loop-index.index c.child_in-entry.ensures.next c.sizes_at-sizes.ensures c.child_in-entry.ensures.child.entry.number _ _ _ refl c.loop-index.invariant.walked c.in_ok-child.ensures.walked)

pub asking::ask_children-loop-index-preserved : goal.asking::ask_children-loop-index-preserved
asking::ask_children-loop-index-preserved g t c =
    let own : TellsRows (sight_at (nodes c.args.walk.now) c.args.id) (kid_at (nodes c.args.walk.now)) c.args.parts.now.base c.args.columns (sight_at (nodes c.args.walk.now) c.args.id).label.content.inline.items c.loop-index.index c.in_ok-child.child
    (items_seen (nodes c.loop-index.walk) c.args.id c.grid-base.result.now c.child_in-entry.result (wide_in (nodes c.loop-index.walk) c.args.id c.grid-base.result.now c.args.columns c.child_in-entry.result c.sizes_at-sizes.result).inline) =
    tells_now (nodes c.args.walk.now) (nodes c.loop-index.walk) c.loop-index.invariant.same c.args.id c.args.reps.now c.args.width.now c.args.parts.now c.grid-base.result.now c.grid-base.ensures c.args.columns c.child_in-entry.result c.sizes_at-sizes.result c.loop-index.index
    c.in_ok-child.child (items_seen (nodes c.loop-index.walk) c.args.id c.grid-base.result.now c.child_in-entry.result (wide_in (nodes c.loop-index.walk) c.args.id c.grid-base.result.now c.args.columns c.child_in-entry.result c.sizes_at-sizes.result).inline) c.requires.grid
    c.child_in-entry.ensures.told c.child_in-entry.ensures.next c.sizes_at-sizes.ensures c.in_ok-child.ensures.value refl in
    record {
      stands = c.ask_child.ensures.stands;
      parts = parts_then _ _ _ c.loop-index.invariant.parts c.ask_child.ensures.parts;
      same = c.in_ok-child.ensures.walked.walk.bare_same ∙ c.loop-index.invariant.same;
      walked =
          turn_below (nodes c.args.walk.now) (nodes c.loop-index.walk) c.loop-index.invariant.same c.args.id c.args.reps.now c.args.width.now c.args.parts.now c.requires.grid c.root.ensures.steps c.grid-base.result.now c.grid-base.ensures c.args.columns c.requires.columns.seen
          c.child_in-entry.result c.sizes_at-sizes.result c.loop-index.index c.child_in-entry.ensures.next c.sizes_at-sizes.ensures c.child_in-entry.ensures.child.entry.number _ _ _ refl c.loop-index.invariant.walked c.in_ok-child.ensures.walked;
      counted = ap length c.in_ok-add_child.ensures.children ∙ length_more c.loop-index.children c.in_ok-child.child c.loop-index.index c.loop-index.invariant.counted;
      told =
          told_more (TellsRows (sight_at (nodes c.args.walk.now) c.args.id) (kid_at (nodes c.args.walk.now)) c.args.parts.now.base c.args.columns (sight_at (nodes c.args.walk.now) c.args.id).label.content.inline.items) c.loop-index.children c.loop-index.items
          c.loop-index.ends c.loop-index.index c.in_ok-child.child
          (items_seen (nodes c.loop-index.walk) c.args.id c.grid-base.result.now c.child_in-entry.result (wide_in (nodes c.loop-index.walk) c.args.id c.grid-base.result.now c.args.columns c.child_in-entry.result c.sizes_at-sizes.result).inline) _ _ _ c.len.result
          c.loop-index.invariant.counted c.in_ok-add_child.ensures.children c.in_ok-child.ensures.items c.len.ensures c.in_ok-add_child.ensures.ends c.loop-index.invariant.told own;
    }

pub asking::ask_children-returns-clause-told : goal.asking::ask_children-returns-clause-told
asking::ask_children-returns-clause-told g t c =
    let counted : length c.loop-index.children ≡ length c.args.parts.now.base.placed.areas = omega (arith, c.loop-index.invariant.counted, c.len-count.ensures, ap (λ (base : GridBase). length base.placed.areas) c.grid-base.ensures) in
    rows_in (nodes c.args.walk.now) c.args.id c.args.parts.now.base c.args.columns Each (record { columns = c.args.columns; align = c.items-align.result; children = c.loop-index.children; items = c.loop-index.items; ends = c.loop-index.ends }) refl
    (c.items-align.ensures ∙ ap (λ (x : ContentStyle). x.inline.items) c.node_at.ensures.content) counted c.loop-index.invariant.told

pub asking::ask_children-returns-clause-below : goal.asking::ask_children-returns-clause-below
asking::ask_children-returns-clause-below g t c = c.loop-index.invariant.walked

pub asking::ask_stale-loop-index-init : goal.asking::ask_stale-loop-index-init
asking::ask_stale-loop-index-init g t c =
    record {
      stands = c.requires.stands;
      parts = same_parts c.args.walk.now;
      same = refl;
      walked = λ q leads. walked_none c.args.id q (seen g.R.Ruler.log c.args.walk.now) c.requires.stands.right;
      counted = c.requires.past.told.told.counted;
      told =
          subst
          (λ (l : List ℕ). AreTold (AllBut l) (TellsRows (sight_at (nodes c.args.walk.now) c.args.id) (kid_at (nodes c.args.walk.now)) c.args.parts.now.base c.args.columns.now (sight_at (nodes c.args.walk.now) c.args.id).label.content.inline.items) c.args.past.told.children
          c.args.past.told.items c.args.past.told.ends) (sym c.as_slice-index-items.ensures) (rows_from (nodes c.args.walk.now) c.args.id c.args.parts.now.base c.args.columns.now (AllBut c.args.past.stale) c.args.past.told c.requires.past.told);
      rows = c.requires.past.laid;
    }

pub asking::ask_stale-child_in-entry-requires : goal.asking::ask_stale-child_in-entry-requires
asking::ask_stale-child_in-entry-requires g t c =
    let back = sym c.loop-index.invariant.same in
    let live : IsLive (nodes c.loop-index.walk) c.args.id = subst (λ (z : BareTrees). IsLive z c.args.id) back c.requires.live in
    let readable : AreReadable (nodes c.loop-index.walk) = c.loop-index.invariant.stands.readable in
    let grid : (sight_at (nodes c.loop-index.walk) c.args.id).label.kind ≡ kind.Grid = subst (λ (z : BareTrees). (sight_at z c.args.id).label.kind ≡ kind.Grid) back c.requires.kind in
    let made : IsGrid (nodes c.loop-index.walk) c.args.id c.args.reps.now c.args.width.now c.args.parts.now = (subst (λ (z : BareTrees). IsGrid z c.args.id c.args.reps.now c.args.width.now c.args.parts.now) (sym c.loop-index.invariant.same) c.requires.grid) in
    let index : (get_or c.as_slice-index-items.result.now c.loop-index.index-index 0) < length c.args.parts.now.base.placed.areas = stale_within (length c.args.parts.now.base.placed.areas) c.args.past.stale c.as_slice-index-items.result.now c.loop-index.index-index
    c.as_slice-index-items.ensures c.requires.past.stale (omega arith) in
    search rules

pub asking::ask_stale-ask_child-requires : goal.asking::ask_stale-ask_child-requires
asking::ask_stale-ask_child-requires g t c =
    let back = sym c.loop-index.invariant.same in
    let live : IsLive (nodes c.loop-index.walk) c.args.id = subst (λ (z : BareTrees). IsLive z c.args.id) back c.requires.live in
    let readable : AreReadable (nodes c.loop-index.walk) = c.loop-index.invariant.stands.readable in
    let made : IsGrid (nodes c.loop-index.walk) c.args.id c.args.reps.now c.args.width.now c.args.parts.now = (subst (λ (z : BareTrees). IsGrid z c.args.id c.args.reps.now c.args.width.now c.args.parts.now) (sym c.loop-index.invariant.same) c.requires.grid) in
    let counted : pos (length c.args.columns.now.edges) ≡ (c.args.parts.now.base.placed.columns.end -ℤ c.args.parts.now.base.placed.columns.start) = c.requires.columns.counted in
    let gap : pos 0 ≤ℤ c.args.columns.now.gap = c.requires.columns.gap in
    let range : IsUnits c.args.columns.now.gap = c.requires.columns.range in
    let apart : AreSpread (farthest (level_at (nodes c.loop-index.walk) c.args.id)) c.args.columns.now.edges = subst (λ (z : BareTrees). AreSpread (farthest (level_at z c.args.id)) c.args.columns.now.edges) back c.requires.columns.spread in
    let small : 16 * size_at (nodes c.loop-index.walk) c.child_in-entry.result.child + 9 < 16 * size_at (nodes c.args.walk.now) c.args.id = omega (arith, c.child_in-entry.ensures.child.entry.smaller, ap (λ (z : BareTrees). size_at z c.args.id) c.loop-index.invariant.same) in
    search rules

pub asking::ask_stale-sizes_at-sizes-requires : goal.asking::ask_stale-sizes_at-sizes-requires
asking::ask_stale-sizes_at-sizes-requires g t c =
    sizes_there (nodes c.loop-index.walk) c.args.id c.args.reps.now c.args.width.now c.args.parts.now ((get_or c.as_slice-index-items.result.now c.loop-index.index-index 0)) _ _
    (subst (λ (z : BareTrees). IsGrid z c.args.id c.args.reps.now c.args.width.now c.args.parts.now) (sym c.loop-index.invariant.same) c.requires.grid) c.child_in-entry.ensures.next

pub asking::ask_stale-returns-in_err-child-clause-stopped : goal.asking::ask_stale-returns-in_err-child-clause-stopped
asking::ask_stale-returns-in_err-child-clause-stopped g t c =
    on_err _ _
    (turn_stops (nodes c.args.walk.now) (nodes c.loop-index.walk) c.loop-index.invariant.same c.args.id c.args.reps.now c.args.width.now c.args.parts.now c.requires.grid c.root.ensures.steps c.grid-base.result.now c.grid-base.ensures c.args.columns.now
    c.requires.columns.seen c.child_in-entry.result c.sizes_at-sizes.result (get_or c.as_slice-index-items.result.now c.loop-index.index-index 0) c.child_in-entry.ensures.next c.sizes_at-sizes.ensures c.child_in-entry.ensures.child.entry.number _ _ _ refl
    c.loop-index.invariant.walked c.in_err-child.ensures.stopped)

pub asking::ask_stale-returns-in_err-put_items-clause-stopped : goal.asking::ask_stale-returns-in_err-put_items-clause-stopped
asking::ask_stale-returns-in_err-put_items-clause-stopped g t c =
    on_err _ _
    (turn_ends (nodes c.args.walk.now) (nodes c.loop-index.walk) c.loop-index.invariant.same c.args.id c.args.reps.now c.args.width.now c.args.parts.now c.requires.grid c.root.ensures.steps c.grid-base.result.now c.grid-base.ensures c.args.columns.now
    c.requires.columns.seen c.child_in-entry.result c.sizes_at-sizes.result (get_or c.as_slice-index-items.result.now c.loop-index.index-index 0) c.child_in-entry.ensures.next c.sizes_at-sizes.ensures c.child_in-entry.ensures.child.entry.number _ _ _ refl
    c.loop-index.invariant.walked c.in_ok-child.ensures.walked)

pub asking::ask_stale-put_items-requires : goal.asking::ask_stale-put_items-requires
asking::ask_stale-put_items-requires g t c =
    let parts : HasParts c.loop-index.items c.loop-index.ends = has_parts (AllBut (drop c.loop-index.index-index c.as_slice-index-items.result.now))
    (TellsRows (sight_at (nodes c.args.walk.now) c.args.id) (kid_at (nodes c.args.walk.now)) c.args.parts.now.base c.args.columns.now (sight_at (nodes c.args.walk.now) c.args.id).label.content.inline.items) c.loop-index.children c.loop-index.items c.loop-index.ends
    c.loop-index.invariant.told in
    let index : (get_or c.as_slice-index-items.result.now c.loop-index.index-index 0) < length c.loop-index.ends = omega (
      arith,
      stale_within (length c.args.parts.now.base.placed.areas) c.args.past.stale c.as_slice-index-items.result.now c.loop-index.index-index c.as_slice-index-items.ensures c.requires.past.stale (omega arith),
      c.loop-index.invariant.counted,
      ends_length
          (AllBut (drop c.loop-index.index-index c.as_slice-index-items.result.now))
          (TellsRows (sight_at (nodes c.args.walk.now) c.args.id) (kid_at (nodes c.args.walk.now)) c.args.parts.now.base c.args.columns.now (sight_at (nodes c.args.walk.now) c.args.id).label.content.inline.items) c.loop-index.children c.loop-index.items c.loop-index.ends
          c.loop-index.invariant.told,
    ) in
    record { parts = parts; index = index }

pub asking::ask_stale-set-requires : goal.asking::ask_stale-set-requires
asking::ask_stale-set-requires g t c = omega (arith, stale_within (length c.args.parts.now.base.placed.areas) c.args.past.stale c.as_slice-index-items.result.now c.loop-index.index-index c.as_slice-index-items.ensures c.requires.past.stale (omega arith), c.loop-index.invariant.counted)

pub asking::ask_stale-loop-index-preserved : goal.asking::ask_stale-loop-index-preserved
asking::ask_stale-loop-index-preserved g t c =
    let own : TellsRows (sight_at (nodes c.args.walk.now) c.args.id) (kid_at (nodes c.args.walk.now)) c.args.parts.now.base c.args.columns.now (sight_at (nodes c.args.walk.now) c.args.id).label.content.inline.items
    (get_or c.as_slice-index-items.result.now c.loop-index.index-index 0) c.in_ok-child.child (c.as_slice.result.now) =
    tells_now (nodes c.args.walk.now) (nodes c.loop-index.walk) c.loop-index.invariant.same c.args.id c.args.reps.now c.args.width.now c.args.parts.now c.grid-base.result.now c.grid-base.ensures c.args.columns.now c.child_in-entry.result c.sizes_at-sizes.result
    (get_or c.as_slice-index-items.result.now c.loop-index.index-index 0) c.in_ok-child.child (c.as_slice.result.now) c.requires.grid c.child_in-entry.ensures.told c.child_in-entry.ensures.next c.sizes_at-sizes.ensures c.in_ok-child.ensures.value
    (c.as_slice.ensures ∙ c.in_ok-child.ensures.items ∙
    ap (λ (l : List Item). l ++ items_seen (nodes c.loop-index.walk) c.args.id c.grid-base.result.now c.child_in-entry.result (wide_in (nodes c.loop-index.walk) c.args.id c.grid-base.result.now c.args.columns.now c.child_in-entry.result c.sizes_at-sizes.result).inline)
    c.new-own.ensures) in
    let within : (get_or c.as_slice-index-items.result.now c.loop-index.index-index 0) < length c.loop-index.children = omega
    (arith, stale_within (length c.args.parts.now.base.placed.areas) c.args.past.stale c.as_slice-index-items.result.now c.loop-index.index-index c.as_slice-index-items.ensures c.requires.past.stale (omega arith), c.loop-index.invariant.counted) in
    record {
      stands = c.ask_child.ensures.stands;
      parts = parts_then _ _ _ c.loop-index.invariant.parts c.ask_child.ensures.parts;
      same = c.in_ok-child.ensures.walked.walk.bare_same ∙ c.loop-index.invariant.same;
      walked =
          turn_below (nodes c.args.walk.now) (nodes c.loop-index.walk) c.loop-index.invariant.same c.args.id c.args.reps.now c.args.width.now c.args.parts.now c.requires.grid c.root.ensures.steps c.grid-base.result.now c.grid-base.ensures c.args.columns.now
          c.requires.columns.seen c.child_in-entry.result c.sizes_at-sizes.result (get_or c.as_slice-index-items.result.now c.loop-index.index-index 0) c.child_in-entry.ensures.next c.sizes_at-sizes.ensures c.child_in-entry.ensures.child.entry.number _ _ _ refl
          c.loop-index.invariant.walked c.in_ok-child.ensures.walked;
      counted = ap length c.set.ensures ∙ length_set c.loop-index.children (get_or c.as_slice-index-items.result.now c.loop-index.index-index 0) c.in_ok-child.child ∙ c.loop-index.invariant.counted;
      told =
          told_again (TellsRows (sight_at (nodes c.args.walk.now) c.args.id) (kid_at (nodes c.args.walk.now)) c.args.parts.now.base c.args.columns.now (sight_at (nodes c.args.walk.now) c.args.id).label.content.inline.items) c.loop-index.children c.loop-index.items
          c.loop-index.ends c.as_slice-index-items.result.now c.loop-index.index-index c.in_ok-child.child c.as_slice.result.now _ _ _ (omega arith) within c.set.ensures c.in_ok-put_items.ensures.items c.in_ok-put_items.ensures.ends c.loop-index.invariant.told own;
      rows = elim c.if-branch.branch [
        | asking::ask_stale-then-branch w ↦ rows_lost (sight_at (nodes c.args.walk.now) c.args.id) c.args.parts.now.base c.loop-index.items c.put_items.new.items c.loop-index.rows c.if-branch.rows w.rows-is
        | asking::ask_stale-else-branch w ↦ rows_last (sight_at (nodes c.args.walk.now) c.args.id) c.args.parts.now.base c.loop-index.items c.put_items.new.items c.loop-index.rows c.if-branch.rows w.rows-is (c.in_ok-put_items.ensures.same w.if-branch.false) c.loop-index.invariant.rows
      ];
    }

pub asking::ask_stale-returns-clause-told : goal.asking::ask_stale-returns-clause-told
asking::ask_stale-returns-clause-told g t c =
    rows_in (nodes c.args.walk.now) c.args.id c.args.parts.now.base c.args.columns.now Each (record { columns = c.args.past.told.columns; align = c.args.past.told.align; children = c.loop-index.children; items = c.loop-index.items; ends = c.loop-index.ends })
    c.requires.past.told.over c.requires.past.told.aligned c.loop-index.invariant.counted
    (told_end (TellsRows (sight_at (nodes c.args.walk.now) c.args.id) (kid_at (nodes c.args.walk.now)) c.args.parts.now.base c.args.columns.now (sight_at (nodes c.args.walk.now) c.args.id).label.content.inline.items) c.loop-index.children c.loop-index.items
    c.loop-index.ends c.as_slice-index-items.result.now c.loop-index.index-index (omega arith) c.loop-index.invariant.told)

pub asking::ask_stale-returns-clause-below : goal.asking::ask_stale-returns-clause-below
asking::ask_stale-returns-clause-below g t c = c.loop-index.invariant.walked

pub asking::told_wide_at-told_rows-requires : goal.asking::told_wide_at-told_rows-requires
asking::told_wide_at-told_rows-requires g t c =
    let back = sym c.in_ok-begun.ensures.same in
    let live : IsLive (nodes c.begin_wide.new.walk) c.args.id = subst (λ (z : BareTrees). IsLive z c.args.id) back c.requires.live in
    let grid : (sight_at (nodes c.begin_wide.new.walk) c.args.id).label.kind ≡ kind.Grid = subst (λ (z : BareTrees). (sight_at z c.args.id).label.kind ≡ kind.Grid) back c.requires.grid in
    let made : IsGrid (nodes c.begin_wide.new.walk) c.args.id c.args.seat.now.reps.now c.args.width.now c.in_ok-begun.begun.told.parts = subst (λ (z : BareTrees). IsGrid z c.args.id c.args.seat.now.reps.now c.args.width.now c.in_ok-begun.begun.told.parts) back c.in_ok-begun.ensures.value.grid in
    let laid : AreLaid (nodes c.begin_wide.new.walk) c.args.id c.args.seat.now.reps.now c.args.width.now c.in_ok-begun.begun.told.parts.base c.in_ok-begun.begun.columns =
    subst (λ (z : BareTrees). AreLaid z c.args.id c.args.seat.now.reps.now c.args.width.now c.in_ok-begun.begun.told.parts.base c.in_ok-begun.begun.columns) back c.in_ok-begun.ensures.value.laid in
    let past : IfSome c.in_ok-begun.begun.past (ArePastIn (nodes c.begin_wide.new.walk) c.args.id c.in_ok-begun.begun.told.parts.base c.in_ok-begun.begun.columns) =
    subst (λ (z : BareTrees). IfSome c.in_ok-begun.begun.past (ArePastIn z c.args.id c.in_ok-begun.begun.told.parts.base c.in_ok-begun.begun.columns)) back c.in_ok-begun.ensures.value.past in
    let small : 16 * size_at (nodes c.begin_wide.new.walk) c.args.id + 1 < 16 * size_at (nodes c.args.walk.now) c.args.id + 3 = omega (arith, ap (λ (z : BareTrees). size_at z c.args.id) c.in_ok-begun.ensures.same) in
    search rules

pub asking::told_wide_at-returns-in_err-begun-clause-stopped : goal.asking::told_wide_at-returns-in_err-begun-clause-stopped
asking::told_wide_at-returns-in_err-begun-clause-stopped g t c =
    let all : (q : Query) → q.reps ≡ c.args.seat.now.reps.now → q.inline ≡ c.args.width.now → needs_inline q.ask ≡ true → Stopped c.args.id q (seen g.R.Ruler.log c.args.walk.now) (seen g.R.Ruler.log c.begin_wide.new.walk) = λ q r w needs. c.in_err-begun.ensures.stopped q r w in
    on_err _ _ all

pub asking::told_wide_at-returns-in_err-begun-clause-parts : goal.asking::told_wide_at-returns-in_err-begun-clause-parts
asking::told_wide_at-returns-in_err-begun-clause-parts g t c = c.begin_wide.ensures.parts

pub asking::told_wide_at-returns-in_err-begun-clause-stands : goal.asking::told_wide_at-returns-in_err-begun-clause-stands
asking::told_wide_at-returns-in_err-begun-clause-stands g t c = c.begin_wide.ensures.stands

pub asking::told_wide_at-returns-in_err-asked-clause-stopped : goal.asking::told_wide_at-returns-in_err-asked-clause-stopped
asking::told_wide_at-returns-in_err-asked-clause-stopped g t c =
    let all : (q : Query) → q.reps ≡ c.args.seat.now.reps.now → q.inline ≡ c.args.width.now → needs_inline q.ask ≡ true → Stopped c.args.id q (seen g.R.Ruler.log c.args.walk.now) (seen g.R.Ruler.log c.told_rows.new.walk) =
    λ q r w needs. joined_stopped c.args.id q 1 (seen g.R.Ruler.log c.args.walk.now) (seen g.R.Ruler.log c.begin_wide.new.walk) _ (c.in_ok-begun.ensures.below q r w) (c.in_err-asked.ensures.stopped q
    (leads_down (nodes c.begin_wide.new.walk) c.args.id c.args.seat.now.reps.now c.args.width.now q (subst (λ (z : BareTrees). (sight_at z c.args.id).label.kind ≡ kind.Grid) (sym c.in_ok-begun.ensures.same) c.requires.grid) r w needs)) in
    on_err _ _ all

pub asking::told_wide_at-returns-in_err-asked-clause-parts : goal.asking::told_wide_at-returns-in_err-asked-clause-parts
asking::told_wide_at-returns-in_err-asked-clause-parts g t c = parts_then _ _ _ c.begin_wide.ensures.parts c.told_rows.ensures.parts

pub asking::told_wide_at-returns-in_err-asked-clause-stands : goal.asking::told_wide_at-returns-in_err-asked-clause-stands
asking::told_wide_at-returns-in_err-asked-clause-stands g t c = c.told_rows.ensures.stands

pub asking::told_wide_at-returns-clause-parts : goal.asking::told_wide_at-returns-clause-parts
asking::told_wide_at-returns-clause-parts g t c = parts_then _ _ _ c.begin_wide.ensures.parts c.told_rows.ensures.parts

pub asking::told_wide_at-returns-clause-stands : goal.asking::told_wide_at-returns-clause-stands
asking::told_wide_at-returns-clause-stands g t c = c.told_rows.ensures.stands

pub asking::told_wide_at-returns-clause-below : goal.asking::told_wide_at-returns-clause-below
asking::told_wide_at-returns-clause-below g t c =
    λ q r w needs. joined_below c.args.id q 1 (seen g.R.Ruler.log c.args.walk.now) (seen g.R.Ruler.log c.begin_wide.new.walk) _ (c.in_ok-begun.ensures.below q r w) (c.in_ok-asked.ensures.below q
    (leads_down (nodes c.begin_wide.new.walk) c.args.id c.args.seat.now.reps.now c.args.width.now q (subst (λ (z : BareTrees). (sight_at z c.args.id).label.kind ≡ kind.Grid) (sym c.in_ok-begun.ensures.same) c.requires.grid) r w needs))

pub asking::told_wide_at-returns-clause-value : goal.asking::told_wide_at-returns-clause-value
asking::told_wide_at-returns-clause-value g t c =
    told_made (nodes c.args.walk.now) c.args.id c.args.seat.now.reps.now c.args.width.now c.in_ok-begun.begun.told.parts c.in_ok-begun.ensures.value.grid c.root.ensures.tree
    c.in_ok-begun.begun.columns c.in_ok-asked.asked c.in_ok-asked.rows c.in_ok-begun.begun.told.ends c.in_ok-begun.ensures.value.told c.in_ok-begun.ensures.value.laid c.in_ok-begun.ensures.value.far
    (subst (λ (z : BareTrees). AreIn z c.args.id c.in_ok-begun.begun.told.parts.base c.in_ok-begun.begun.columns Each c.in_ok-asked.asked) c.in_ok-begun.ensures.same c.in_ok-asked.ensures.told)
    (subst (λ (z : BareTrees). IfSome c.in_ok-asked.rows (AreRowsFor (sight_at z c.args.id) c.in_ok-begun.begun.told.parts.base c.in_ok-asked.asked.items)) c.in_ok-begun.ensures.same c.in_ok-asked.ensures.rows)

pub walk::grid_anew-told_wide_at-requires : goal.walk::grid_anew-told_wide_at-requires
walk::grid_anew-told_wide_at-requires g t c =
    let grid : (sight_at (nodes c.args.walk.now) c.args.id).label.kind ≡ kind.Grid = c.requires.grid in
    let counts : length c.args.seat.now.reps.now ≡ length (sight_at (nodes c.args.walk.now) c.args.id).chain = ap length (sym (ap (λ (q : Query). q.reps) c.requires.query)) ∙ c.requires.fits.reps in
    let seat : IsSeat (sight_at (nodes c.args.walk.now) c.args.id) c.args.seat.now.reps.now c.args.seat.now.above.now c.args.seat.now.area = c.requires.seat in
    let inline : IsGivenFor true (sees_columns (sight_at (nodes c.args.walk.now) c.args.id)) (outer_context (sight_at (nodes c.args.walk.now) c.args.id) c.args.seat.now.reps.now).columns.table.tracks c.args.query.inline =
    subst (λ (r : List Pair). IsGivenFor true (sees_columns (sight_at (nodes c.args.walk.now) c.args.id)) (outer_context (sight_at (nodes c.args.walk.now) c.args.id) r).columns.table.tracks c.args.query.inline) (ap (λ (q : Query). q.reps) c.requires.query)
    (subst (λ (t : Bool). IsGivenFor t (sees_columns (sight_at (nodes c.args.walk.now) c.args.id)) (outer_context (sight_at (nodes c.args.walk.now) c.args.id) c.args.query.reps).columns.table.tracks c.args.query.inline) (ap (λ (q : Query). needs_inline q.ask) c.requires.query)
    c.requires.fits.inline) in
    let spread : IsSpread (farthest (level_at (nodes c.args.walk.now) c.args.id)) c.args.query.inline = c.requires.spread in
    let small : 16 * size_at (nodes c.args.walk.now) c.args.id + 3 < 16 * size_at (nodes c.args.walk.now) c.args.id + 4 = omega arith in
    search rules

pub walk::grid_anew-grid_answered-requires : goal.walk::grid_anew-grid_answered-requires
walk::grid_anew-grid_answered-requires g t c =
    let below = c.in_ok-told.ensures.below c.args.query (ap (λ (q : Query). q.reps) c.requires.query) refl (ap (λ (q : Query). needs_inline q.ask) c.requires.query) in
    let back = sym below.walk.bare_same in
    record {
      stands = c.told_wide_at.ensures.stands;
      live = subst (λ (z : BareTrees). IsLive z c.args.id) back c.requires.live;
      kind = subst (λ (z : BareTrees). (sight_at z c.args.id).label.kind ≡ kind.Grid) back c.requires.grid;
      query = c.requires.query;
      fits = subst (λ (z : BareTrees). Fits (sight_at z c.args.id) c.args.query) back c.requires.fits;
      absent = subst (IsAbsent c.args.query) (sym below.own) c.requires.absent;
      told = subst (λ (z : BareTrees). IsToldWide z c.args.id c.args.seat.now.reps.now c.args.query.inline c.in_ok-told.told) back c.in_ok-told.ensures.value;
    }

pub walk::grid_anew-returns-clause-walked : goal.walk::grid_anew-returns-clause-walked
walk::grid_anew-returns-clause-walked g t c = ok_walked _ c.args.id c.args.query 1 _ _ _ (c.in_ok-told.ensures.below c.args.query (ap (λ (q : Query). q.reps) c.requires.query) refl (ap (λ (q : Query). needs_inline q.ask) c.requires.query)) c.grid_answered.ensures.walked

pub walk::grid_anew-returns-clause-stopped : goal.walk::grid_anew-returns-clause-stopped
walk::grid_anew-returns-clause-stopped g t c = err_stopped _ c.args.id c.args.query 1 _ _ _ (c.in_ok-told.ensures.below c.args.query (ap (λ (q : Query). q.reps) c.requires.query) refl (ap (λ (q : Query). needs_inline q.ask) c.requires.query)) c.grid_answered.ensures.stopped

pub walk::grid_anew-returns-clause-value : goal.walk::grid_anew-returns-clause-value
walk::grid_anew-returns-clause-value g t c = subst (λ (z : BareTrees). IfOk c.grid_answered.result (λ size. block_size size ≡ answer_of (sight_at z c.args.id) c.args.query)) (c.in_ok-told.ensures.below c.args.query
    (ap (λ (q : Query). q.reps) c.requires.query) refl (ap (λ (q : Query). needs_inline q.ask) c.requires.query)).walk.bare_same c.grid_answered.ensures.value

pub walk::grid_anew-returns-clause-own : goal.walk::grid_anew-returns-clause-own
walk::grid_anew-returns-clause-own g t c = subst (λ (l : List (Query × Answer)). IfOk c.grid_answered.result (λ size. GrowsBy l c.args.query size (kept c.grid_answered.new.walk c.args.id)))
    (c.in_ok-told.ensures.below c.args.query (ap (λ (q : Query). q.reps) c.requires.query) refl (ap (λ (q : Query). needs_inline q.ask) c.requires.query)).own c.grid_answered.ensures.own

pub walk::grid_anew-returns-clause-parts : goal.walk::grid_anew-returns-clause-parts
walk::grid_anew-returns-clause-parts g t c = parts_then _ _ _ c.told_wide_at.ensures.parts c.grid_answered.ensures.parts

pub walk::grid_anew-returns-clause-stands : goal.walk::grid_anew-returns-clause-stands
walk::grid_anew-returns-clause-stands g t c = c.grid_answered.ensures.stands

pub walk::grid_anew-returns-in_err-told-clause-stopped : goal.walk::grid_anew-returns-in_err-told-clause-stopped
walk::grid_anew-returns-in_err-told-clause-stopped g t c = on_err _ _ (c.in_err-told.ensures.stopped c.args.query (ap (λ (q : Query). q.reps) c.requires.query) refl (ap (λ (q : Query). needs_inline q.ask) c.requires.query))

pub walk::block_anew-returns-then-is_leaf-clause-own : goal.walk::block_anew-returns-then-is_leaf-clause-own
walk::block_anew-returns-then-is_leaf-clause-own g t c = grows_by_block c.leaf_height.result (kept c.args.walk.now c.args.id) (kept c.leaf_height.new.self c.args.id) c.args.query c.leaf_height.ensures.own

pub walk::block_anew-returns-then-is_column-clause-own : goal.walk::block_anew-returns-then-is_column-clause-own
walk::block_anew-returns-then-is_column-clause-own g t c = c.column_anew.ensures.own

pub walk::block_anew-returns-clause-own : goal.walk::block_anew-returns-clause-own
walk::block_anew-returns-clause-own g t c = c.row_anew.ensures.own

pub walk::rows_anew-told_wide_at-requires : goal.walk::rows_anew-told_wide_at-requires
walk::rows_anew-told_wide_at-requires g t c =
    let grid : (sight_at (nodes c.args.walk.now) c.args.id).label.kind ≡ kind.Grid = c.subgrids_are_grids.ensures (lent_fit (sight_at (nodes c.args.walk.now) c.args.id) c.args.query (ap (λ (q : Query). q.ask) c.requires.query) c.requires.fits) in
    let counts : length c.args.seat.now.reps.now ≡ length (sight_at (nodes c.args.walk.now) c.args.id).chain = ap length (sym (ap (λ (q : Query). q.reps) c.requires.query)) ∙ c.requires.fits.reps in
    let seat : IsSeat (sight_at (nodes c.args.walk.now) c.args.id) c.args.seat.now.reps.now c.args.seat.now.above.now c.args.seat.now.area = c.requires.seat in
    let inline : IsGivenFor true (sees_columns (sight_at (nodes c.args.walk.now) c.args.id)) (outer_context (sight_at (nodes c.args.walk.now) c.args.id) c.args.seat.now.reps.now).columns.table.tracks c.args.query.inline =
    subst (λ (r : List Pair). IsGivenFor true (sees_columns (sight_at (nodes c.args.walk.now) c.args.id)) (outer_context (sight_at (nodes c.args.walk.now) c.args.id) r).columns.table.tracks c.args.query.inline) (ap (λ (q : Query). q.reps) c.requires.query)
    (subst (λ (t : Bool). IsGivenFor t (sees_columns (sight_at (nodes c.args.walk.now) c.args.id)) (outer_context (sight_at (nodes c.args.walk.now) c.args.id) c.args.query.reps).columns.table.tracks c.args.query.inline) (ap (λ (q : Query). needs_inline q.ask) c.requires.query)
    c.requires.fits.inline) in
    let spread : IsSpread (farthest (level_at (nodes c.args.walk.now) c.args.id)) c.args.query.inline = c.requires.spread in
    let small : 16 * size_at (nodes c.args.walk.now) c.args.id + 3 < 16 * size_at (nodes c.args.walk.now) c.args.id + 5 = omega arith in
    search rules

pub walk::rows_anew-rows_answered-requires : goal.walk::rows_anew-rows_answered-requires
walk::rows_anew-rows_answered-requires g t c =
    let below = c.in_ok-told.ensures.below c.args.query (ap (λ (q : Query). q.reps) c.requires.query) refl (ap (λ (q : Query). needs_inline q.ask) c.requires.query) in
    let back = sym below.walk.bare_same in
    record {
      stands = c.told_wide_at.ensures.stands;
      live = subst (λ (z : BareTrees). IsLive z c.args.id) back c.requires.live;
      kind = subst (λ (z : BareTrees). (sight_at z c.args.id).label.kind ≡ kind.Grid) back (c.subgrids_are_grids.ensures (lent_fit (sight_at (nodes c.args.walk.now) c.args.id) c.args.query (ap (λ (q : Query). q.ask) c.requires.query) c.requires.fits));
      query = c.requires.query;
      fits = subst (λ (z : BareTrees). Fits (sight_at z c.args.id) c.args.query) back c.requires.fits;
      absent = subst (IsAbsent c.args.query) (sym below.own) c.requires.absent;
      told = subst (λ (z : BareTrees). IsToldWide z c.args.id c.args.seat.now.reps.now c.args.query.inline c.in_ok-told.told) back c.in_ok-told.ensures.value;
    }

pub walk::rows_anew-returns-clause-walked : goal.walk::rows_anew-returns-clause-walked
walk::rows_anew-returns-clause-walked g t c = ok_walked _ c.args.id c.args.query 1 _ _ _ (c.in_ok-told.ensures.below c.args.query (ap (λ (q : Query). q.reps) c.requires.query) refl (ap (λ (q : Query). needs_inline q.ask) c.requires.query)) c.rows_answered.ensures.walked

pub walk::rows_anew-returns-clause-stopped : goal.walk::rows_anew-returns-clause-stopped
walk::rows_anew-returns-clause-stopped g t c = err_stopped _ c.args.id c.args.query 1 _ _ _ (c.in_ok-told.ensures.below c.args.query (ap (λ (q : Query). q.reps) c.requires.query) refl (ap (λ (q : Query). needs_inline q.ask) c.requires.query)) c.rows_answered.ensures.stopped

pub walk::rows_anew-returns-clause-value : goal.walk::rows_anew-returns-clause-value
walk::rows_anew-returns-clause-value g t c = subst (λ (z : BareTrees). IfOk c.rows_answered.result (λ items. lent_items items ≡ answer_of (sight_at z c.args.id) c.args.query)) (c.in_ok-told.ensures.below c.args.query
    (ap (λ (q : Query). q.reps) c.requires.query) refl (ap (λ (q : Query). needs_inline q.ask) c.requires.query)).walk.bare_same c.rows_answered.ensures.value

pub walk::rows_anew-returns-clause-own : goal.walk::rows_anew-returns-clause-own
walk::rows_anew-returns-clause-own g t c = subst (λ (l : List (Query × Answer)). IfOk c.rows_answered.result (λ items. kept c.rows_answered.new.walk c.args.id ≡ kept_with l ((c.args.query, answer.Lent items) ∷ [])))
    (c.in_ok-told.ensures.below c.args.query (ap (λ (q : Query). q.reps) c.requires.query) refl (ap (λ (q : Query). needs_inline q.ask) c.requires.query)).own c.rows_answered.ensures.own

pub walk::rows_anew-returns-clause-parts : goal.walk::rows_anew-returns-clause-parts
walk::rows_anew-returns-clause-parts g t c = parts_then _ _ _ c.told_wide_at.ensures.parts c.rows_answered.ensures.parts

pub walk::rows_anew-returns-clause-stands : goal.walk::rows_anew-returns-clause-stands
walk::rows_anew-returns-clause-stands g t c = c.rows_answered.ensures.stands

pub walk::rows_anew-returns-in_err-told-clause-stopped : goal.walk::rows_anew-returns-in_err-told-clause-stopped
walk::rows_anew-returns-in_err-told-clause-stopped g t c = on_err _ _ (c.in_err-told.ensures.stopped c.args.query (ap (λ (q : Query). q.reps) c.requires.query) refl (ap (λ (q : Query). needs_inline q.ask) c.requires.query))

pub walk::rows_anew-returns-in_err-told-clause-parts : goal.walk::rows_anew-returns-in_err-told-clause-parts
walk::rows_anew-returns-in_err-told-clause-parts g t c = c.told_wide_at.ensures.parts

pub walk::rows_anew-returns-in_err-told-clause-stands : goal.walk::rows_anew-returns-in_err-told-clause-stands
walk::rows_anew-returns-in_err-told-clause-stands g t c = c.told_wide_at.ensures.stands

pub walk::block_in-returns-in_err-query-clause-stopped : goal.walk::block_in-returns-in_err-query-clause-stopped
walk::block_in-returns-in_err-query-clause-stopped g t c = on_err _ _ (stopped c.args.id _ 0 _ _ (walked_none c.args.id (block_query false c.args.seat.now.reps.now c.args.width.now) (seen g.R.Ruler.log c.args.walk.now) c.requires.stands.right))

pub walk::block_in-returns-in-Some-clause-own : goal.walk::block_in-returns-in-Some-clause-own
walk::block_in-returns-in-Some-clause-own g t c = λ none. some_or_none _ c.in-Some.ensures.kept none

pub walk::block_in-returns-in-Some-clause-walked : goal.walk::block_in-returns-in-Some-clause-walked
walk::block_in-returns-in-Some-clause-walked g t c = found_walked c.args.id (block_query false c.args.seat.now.reps.now c.args.width.now) (seen g.R.Ruler.log c.args.walk.now) c.requires.stands.right

pub walk::lend_rows_at-returns-in_err-query-clause-stopped : goal.walk::lend_rows_at-returns-in_err-query-clause-stopped
walk::lend_rows_at-returns-in_err-query-clause-stopped g t c = on_err _ _ (stopped c.args.id _ 0 _ _ (walked_none c.args.id (block_query true c.args.seat.now.reps.now c.args.width.now) (seen g.R.Ruler.log c.args.walk.now) c.requires.stands.right))

pub walk::lend_rows_at-returns-in-Some-clause-walked : goal.walk::lend_rows_at-returns-in-Some-clause-walked
walk::lend_rows_at-returns-in-Some-clause-walked g t c = on_ok _ _ (found_walked c.args.id (block_query true c.args.seat.now.reps.now c.args.width.now) (seen g.R.Ruler.log c.args.walk.now) c.requires.stands.right)

pub walk::lend_rows_at-returns-in-Some-clause-stopped : goal.walk::lend_rows_at-returns-in-Some-clause-stopped
walk::lend_rows_at-returns-in-Some-clause-stopped g t c = on_err _ _ (stopped c.args.id _ 0 _ _ (walked_none c.args.id (block_query true c.args.seat.now.reps.now c.args.width.now) (seen g.R.Ruler.log c.args.walk.now) c.requires.stands.right))

pub asking::ask_children-returns-in_err-child-clause-parts : goal.asking::ask_children-returns-in_err-child-clause-parts
asking::ask_children-returns-in_err-child-clause-parts g t c = parts_then _ _ _ c.loop-index.invariant.parts c.ask_child.ensures.parts

pub asking::ask_children-returns-in_err-child-clause-stands : goal.asking::ask_children-returns-in_err-child-clause-stands
asking::ask_children-returns-in_err-child-clause-stands g t c = c.ask_child.ensures.stands

pub asking::ask_children-returns-in_err-add_child-clause-parts : goal.asking::ask_children-returns-in_err-add_child-clause-parts
asking::ask_children-returns-in_err-add_child-clause-parts g t c = parts_then _ _ _ c.loop-index.invariant.parts c.ask_child.ensures.parts

pub asking::ask_children-returns-in_err-add_child-clause-stands : goal.asking::ask_children-returns-in_err-add_child-clause-stands
asking::ask_children-returns-in_err-add_child-clause-stands g t c = c.ask_child.ensures.stands

pub asking::ask_children-returns-clause-parts : goal.asking::ask_children-returns-clause-parts
asking::ask_children-returns-clause-parts g t c = c.loop-index.invariant.parts

pub asking::ask_children-returns-clause-stands : goal.asking::ask_children-returns-clause-stands
asking::ask_children-returns-clause-stands g t c = c.loop-index.invariant.stands

pub asking::ask_stale-returns-in_err-child-clause-parts : goal.asking::ask_stale-returns-in_err-child-clause-parts
asking::ask_stale-returns-in_err-child-clause-parts g t c = parts_then _ _ _ c.loop-index.invariant.parts c.ask_child.ensures.parts

pub asking::ask_stale-returns-in_err-child-clause-stands : goal.asking::ask_stale-returns-in_err-child-clause-stands
asking::ask_stale-returns-in_err-child-clause-stands g t c = c.ask_child.ensures.stands

pub asking::ask_stale-returns-in_err-put_items-clause-parts : goal.asking::ask_stale-returns-in_err-put_items-clause-parts
asking::ask_stale-returns-in_err-put_items-clause-parts g t c = parts_then _ _ _ c.loop-index.invariant.parts c.ask_child.ensures.parts

pub asking::ask_stale-returns-in_err-put_items-clause-stands : goal.asking::ask_stale-returns-in_err-put_items-clause-stands
asking::ask_stale-returns-in_err-put_items-clause-stands g t c = c.ask_child.ensures.stands

pub asking::ask_stale-returns-clause-parts : goal.asking::ask_stale-returns-clause-parts
asking::ask_stale-returns-clause-parts g t c = c.loop-index.invariant.parts

pub asking::ask_stale-returns-clause-stands : goal.asking::ask_stale-returns-clause-stands
asking::ask_stale-returns-clause-stands g t c = c.loop-index.invariant.stands

pub walk::grid_anew-returns-in_err-told-clause-parts : goal.walk::grid_anew-returns-in_err-told-clause-parts
walk::grid_anew-returns-in_err-told-clause-parts g t c = c.told_wide_at.ensures.parts

pub walk::grid_anew-returns-in_err-told-clause-stands : goal.walk::grid_anew-returns-in_err-told-clause-stands
walk::grid_anew-returns-in_err-told-clause-stands g t c = c.told_wide_at.ensures.stands

pub walk::row_anew-returns-in_err-parts-clause-stopped : goal.walk::row_anew-returns-in_err-parts-clause-stopped
walk::row_anew-returns-in_err-parts-clause-stopped g t c =
    on_err _ _ (c.last_along.ensures.stopped c.args.query (seen g.R.Ruler.log c.row_told.new.walk) (c.in_err-parts.ensures.stopped c.args.query (sym c.size_of-width.ensures) (ap needs_inline c.requires.ask)))

pub walk::row_anew-row_answered-requires : goal.walk::row_anew-row_answered-requires
walk::row_anew-row_answered-requires g t c =
    let mid = c.in_ok-parts.ensures.below c.args.query (sym c.size_of-width.ensures) (ap needs_inline c.requires.ask) in
    let below = c.last_along.ensures.below c.args.query 1 (seen g.R.Ruler.log c.row_told.new.walk) mid in
    let back = sym below.walk.bare_same in
    record {
      stands = c.row_told.ensures.stands;
      live = subst (λ (z : BareTrees). IsLive z c.args.id) back c.requires.live;
      kind = subst (λ (z : BareTrees). (sight_at z c.args.id).label.kind ≡ kind.Flex) back c.requires.flex;
      direction = subst (λ (z : BareTrees). (sight_at z c.args.id).label.content.column ≡ false) back c.requires.direction;
      ask = c.requires.ask;
      fits = subst (λ (z : BareTrees). Fits (sight_at z c.args.id) c.args.query) back c.requires.fits;
      absent = subst (IsAbsent c.args.query) (sym below.own) c.requires.absent;
      row =
          subst (λ (w : ℤ). IsRow (nodes c.row_told.new.walk) c.args.id w c.in_ok-parts.parts) c.size_of-width.ensures
          (subst (λ (z : BareTrees). IsRow z c.args.id c.size_of-width.result c.in_ok-parts.parts) (sym mid.walk.bare_same) c.in_ok-parts.ensures.value);
      items = c.deref.ensures.value ∙ c.in_ok-parts.ensures.items ∙ ap (λ (z : BareTrees). row_items_seen z c.args.id c.size_of-width.result) (sym mid.walk.bare_same) ∙ ap (λ (w : ℤ). row_items_seen (nodes c.row_told.new.walk) c.args.id w) c.size_of-width.ensures;
    }

pub walk::row_anew-returns-clause-walked : goal.walk::row_anew-returns-clause-walked
walk::row_anew-returns-clause-walked g t c = ok_walked _ c.args.id c.args.query 1 _ _ _ (c.last_along.ensures.below c.args.query 1 (seen g.R.Ruler.log c.row_told.new.walk)
    (c.in_ok-parts.ensures.below c.args.query (sym c.size_of-width.ensures) (ap needs_inline c.requires.ask))) c.row_answered.ensures.walked

pub walk::row_anew-returns-clause-stopped : goal.walk::row_anew-returns-clause-stopped
walk::row_anew-returns-clause-stopped g t c = err_stopped _ c.args.id c.args.query 1 _ _ _ (c.last_along.ensures.below c.args.query 1 (seen g.R.Ruler.log c.row_told.new.walk)
    (c.in_ok-parts.ensures.below c.args.query (sym c.size_of-width.ensures) (ap needs_inline c.requires.ask))) c.row_answered.ensures.stopped

pub walk::row_anew-returns-clause-value : goal.walk::row_anew-returns-clause-value
walk::row_anew-returns-clause-value g t c = subst (λ (z : BareTrees). IfOk c.row_answered.result (λ size. block_size size ≡ answer_of (sight_at z c.args.id) c.args.query)) (c.last_along.ensures.below c.args.query 1
    (seen g.R.Ruler.log c.row_told.new.walk) (c.in_ok-parts.ensures.below c.args.query (sym c.size_of-width.ensures) (ap needs_inline c.requires.ask))).walk.bare_same c.row_answered.ensures.value

pub walk::row_anew-returns-clause-own : goal.walk::row_anew-returns-clause-own
walk::row_anew-returns-clause-own g t c = subst (λ (l : List (Query × Answer)). IfOk c.row_answered.result (λ size. GrowsBy l c.args.query size (kept c.row_answered.new.walk c.args.id)))
    (c.last_along.ensures.below c.args.query 1 (seen g.R.Ruler.log c.row_told.new.walk) (c.in_ok-parts.ensures.below c.args.query (sym c.size_of-width.ensures) (ap needs_inline c.requires.ask))).own c.row_answered.ensures.own

pub walk::row_anew-returns-clause-parts : goal.walk::row_anew-returns-clause-parts
walk::row_anew-returns-clause-parts g t c = parts_then _ _ _ (parts_then _ _ _ c.last_along.ensures.parts c.row_told.ensures.parts) c.row_answered.ensures.parts

pub walk::row_anew-returns-clause-stands : goal.walk::row_anew-returns-clause-stands
walk::row_anew-returns-clause-stands g t c = c.row_answered.ensures.stands

pub walk::row_anew-returns-in_err-past-clause-stopped : goal.walk::row_anew-returns-in_err-past-clause-stopped
walk::row_anew-returns-in_err-past-clause-stopped g t c =
    on_err _ _ (c.last_along.ensures.stopped c.args.query (seen g.R.Ruler.log c.last_along.new.walk) (stopped c.args.id c.args.query 0 _ _ (walked_none c.args.id c.args.query (seen g.R.Ruler.log c.last_along.new.walk) c.last_along.ensures.stands.right)))

pub walk::row_anew-row_told-requires : goal.walk::row_anew-row_told-requires
walk::row_anew-row_told-requires g t c =
    let back = sym c.last_along.ensures.bare in
    let live : IsLive (nodes c.last_along.new.walk) c.args.id = subst (λ (z : BareTrees). IsLive z c.args.id) back c.requires.live in
    let flex : (sight_at (nodes c.last_along.new.walk) c.args.id).label.kind ≡ kind.Flex = subst (λ (z : BareTrees). (sight_at z c.args.id).label.kind ≡ kind.Flex) back c.requires.flex in
    let direction : (sight_at (nodes c.last_along.new.walk) c.args.id).label.content.column ≡ false = subst (λ (z : BareTrees). (sight_at z c.args.id).label.content.column ≡ false) back c.requires.direction in
    let past : AreKnown (nodes c.last_along.new.walk) c.args.id c.size_of-width.result c.as_slice.result.now =
    subst (λ (z : BareTrees). AreKnown z c.args.id c.size_of-width.result c.as_slice.result.now) back (subst (AreKnown (nodes c.args.walk.now) c.args.id c.size_of-width.result) (sym c.as_slice.ensures) c.in_ok-past.ensures.past) in
    let small : 16 * size_at (nodes c.last_along.new.walk) c.args.id + 1 < 16 * size_at (nodes c.args.walk.now) c.args.id + 4 = omega (arith, ap (λ (z : BareTrees). size_at z c.args.id) c.last_along.ensures.bare) in
    search rules

pub walk::column_anew-returns-in_err-parts-clause-stopped : goal.walk::column_anew-returns-in_err-parts-clause-stopped
walk::column_anew-returns-in_err-parts-clause-stopped g t c =
    on_err _ _ (c.last_along.ensures.stopped c.args.query (seen g.R.Ruler.log c.column_told.new.walk) (c.in_err-parts.ensures.stopped c.args.query (sym c.size_of-width.ensures) (ap needs_inline c.requires.ask)))

pub walk::column_anew-column_answered-requires : goal.walk::column_anew-column_answered-requires
walk::column_anew-column_answered-requires g t c =
    let mid = c.in_ok-parts.ensures.below c.args.query (sym c.size_of-width.ensures) (ap needs_inline c.requires.ask) in
    let below = c.last_along.ensures.below c.args.query 0 (seen g.R.Ruler.log c.column_told.new.walk) mid in
    let back = sym below.walk.bare_same in
    record {
      stands = c.column_told.ensures.stands;
      live = subst (λ (z : BareTrees). IsLive z c.args.id) back c.requires.live;
      kind = subst (λ (z : BareTrees). (sight_at z c.args.id).label.kind ≡ kind.Flex) back c.requires.flex;
      direction = subst (λ (z : BareTrees). (sight_at z c.args.id).label.content.column ≡ true) back c.requires.direction;
      ask = c.requires.ask;
      fits = subst (λ (z : BareTrees). Fits (sight_at z c.args.id) c.args.query) back c.requires.fits;
      absent = subst (IsAbsent c.args.query) (sym below.own) c.requires.absent;
      column =
          subst (λ (w : ℤ). IsColumn (nodes c.column_told.new.walk) c.args.id w c.in_ok-parts.parts) c.size_of-width.ensures
          (subst (λ (z : BareTrees). IsColumn z c.args.id c.size_of-width.result c.in_ok-parts.parts) (sym mid.walk.bare_same) c.in_ok-parts.ensures.value);
      past =
          subst (λ (w : ℤ). AreKnown (nodes c.column_told.new.walk) c.args.id w c.as_slice-2.result.now) c.size_of-width.ensures
          (subst (λ (z : BareTrees). AreKnown z c.args.id c.size_of-width.result c.as_slice-2.result.now) back (subst (AreKnown (nodes c.args.walk.now) c.args.id c.size_of-width.result) (sym c.as_slice-2.ensures) c.in_ok-past.ensures.past));
    }

pub walk::column_anew-returns-clause-walked : goal.walk::column_anew-returns-clause-walked
walk::column_anew-returns-clause-walked g t c = ok_walked _ c.args.id c.args.query 0 _ _ _ (c.last_along.ensures.below c.args.query 0 (seen g.R.Ruler.log c.column_told.new.walk)
    (c.in_ok-parts.ensures.below c.args.query (sym c.size_of-width.ensures) (ap needs_inline c.requires.ask))) c.column_answered.ensures.walked

pub walk::column_anew-returns-clause-stopped : goal.walk::column_anew-returns-clause-stopped
walk::column_anew-returns-clause-stopped g t c = err_stopped _ c.args.id c.args.query 0 _ _ _ (c.last_along.ensures.below c.args.query 0 (seen g.R.Ruler.log c.column_told.new.walk)
    (c.in_ok-parts.ensures.below c.args.query (sym c.size_of-width.ensures) (ap needs_inline c.requires.ask))) c.column_answered.ensures.stopped

pub walk::column_anew-returns-clause-value : goal.walk::column_anew-returns-clause-value
walk::column_anew-returns-clause-value g t c = subst (λ (z : BareTrees). IfOk c.column_answered.result (λ size. block_size size ≡ answer_of (sight_at z c.args.id) c.args.query)) (c.last_along.ensures.below c.args.query 0
    (seen g.R.Ruler.log c.column_told.new.walk) (c.in_ok-parts.ensures.below c.args.query (sym c.size_of-width.ensures) (ap needs_inline c.requires.ask))).walk.bare_same c.column_answered.ensures.value

pub walk::column_anew-returns-clause-own : goal.walk::column_anew-returns-clause-own
walk::column_anew-returns-clause-own g t c = subst (λ (l : List (Query × Answer)). IfOk c.column_answered.result (λ size. GrowsBy l c.args.query size (kept c.column_answered.new.walk c.args.id)))
    (c.last_along.ensures.below c.args.query 0 (seen g.R.Ruler.log c.column_told.new.walk) (c.in_ok-parts.ensures.below c.args.query (sym c.size_of-width.ensures) (ap needs_inline c.requires.ask))).own c.column_answered.ensures.own

pub walk::column_anew-returns-clause-parts : goal.walk::column_anew-returns-clause-parts
walk::column_anew-returns-clause-parts g t c = parts_then _ _ _ (parts_then _ _ _ c.last_along.ensures.parts c.column_told.ensures.parts) c.column_answered.ensures.parts

pub walk::column_anew-returns-clause-stands : goal.walk::column_anew-returns-clause-stands
walk::column_anew-returns-clause-stands g t c = c.column_answered.ensures.stands

pub walk::column_anew-returns-in_err-past-clause-stopped : goal.walk::column_anew-returns-in_err-past-clause-stopped
walk::column_anew-returns-in_err-past-clause-stopped g t c =
    on_err _ _ (c.last_along.ensures.stopped c.args.query (seen g.R.Ruler.log c.last_along.new.walk) (stopped c.args.id c.args.query 0 _ _ (walked_none c.args.id c.args.query (seen g.R.Ruler.log c.last_along.new.walk) c.last_along.ensures.stands.right)))

pub walk::column_anew-column_told-requires : goal.walk::column_anew-column_told-requires
walk::column_anew-column_told-requires g t c =
    let back = sym c.last_along.ensures.bare in
    let live : IsLive (nodes c.last_along.new.walk) c.args.id = subst (λ (z : BareTrees). IsLive z c.args.id) back c.requires.live in
    let flex : (sight_at (nodes c.last_along.new.walk) c.args.id).label.kind ≡ kind.Flex = subst (λ (z : BareTrees). (sight_at z c.args.id).label.kind ≡ kind.Flex) back c.requires.flex in
    let direction : (sight_at (nodes c.last_along.new.walk) c.args.id).label.content.column ≡ true = subst (λ (z : BareTrees). (sight_at z c.args.id).label.content.column ≡ true) back c.requires.direction in
    let past : AreKnown (nodes c.last_along.new.walk) c.args.id c.size_of-width.result c.as_slice.result.now =
    subst (λ (z : BareTrees). AreKnown z c.args.id c.size_of-width.result c.as_slice.result.now) back (subst (AreKnown (nodes c.args.walk.now) c.args.id c.size_of-width.result) (sym c.as_slice.ensures) c.in_ok-past.ensures.past) in
    let small : 16 * size_at (nodes c.last_along.new.walk) c.args.id + 1 < 16 * size_at (nodes c.args.walk.now) c.args.id + 4 = omega (arith, ap (λ (z : BareTrees). size_at z c.args.id) c.last_along.ensures.bare) in
    search rules

pub walk::row_told-ask_members-requires : goal.walk::row_told-ask_members-requires
walk::row_told-ask_members-requires g t c =
    let back = sym c.in_ok-members.ensures.same in
    let live : IsLive (nodes c.begin_row.new.walk) c.args.id = subst (λ (z : BareTrees). IsLive z c.args.id) back c.requires.live in
    let flex : (sight_at (nodes c.begin_row.new.walk) c.args.id).label.kind ≡ kind.Flex = subst (λ (z : BareTrees). (sight_at z c.args.id).label.kind ≡ kind.Flex) back c.requires.flex in
    let members : AreMembers (nodes c.begin_row.new.walk) c.args.id c.as_slice.result.now = subst (AreMembers (nodes c.begin_row.new.walk) c.args.id) (sym c.as_slice.ensures) (subst (λ (z : BareTrees). AreMembers z c.args.id c.in_ok-members.members) back c.in_ok-members.ensures.members) in
    let roomy : AreRoomy (flex_seen (nodes c.begin_row.new.walk) c.args.id).members c.as_slice-mains.result.now = subst (AreRoomy (flex_seen (nodes c.begin_row.new.walk) c.args.id).members) (sym c.as_slice-mains.ensures)
    (subst (λ (z : BareTrees). AreRoomy (flex_seen z c.args.id).members c.in_ok-members.lines.mains) back c.in_ok-members.ensures.roomy) in
    let past : AreKnown (nodes c.begin_row.new.walk) c.args.id c.args.width c.args.past.now = subst (λ (z : BareTrees). AreKnown z c.args.id c.args.width c.args.past.now) back c.requires.past in
    let small : 16 * size_at (nodes c.begin_row.new.walk) c.args.id + 0 < 16 * size_at (nodes c.args.walk.now) c.args.id + 1 = omega (arith, ap (λ (z : BareTrees). size_at z c.args.id) c.in_ok-members.ensures.same) in
    search rules

pub walk::row_told-returns-in_err-members-clause-stopped : goal.walk::row_told-returns-in_err-members-clause-stopped
walk::row_told-returns-in_err-members-clause-stopped g t c =
    let all : (q : Query) → given_size q.inline ≡ c.args.width → needs_inline q.ask ≡ true → Stopped c.args.id q (seen g.R.Ruler.log c.args.walk.now) (seen g.R.Ruler.log c.begin_row.new.walk) = λ q w n. c.in_err-members.ensures.stopped q in
    on_err _ _ all

pub walk::row_told-returns-in_err-members-clause-parts : goal.walk::row_told-returns-in_err-members-clause-parts
walk::row_told-returns-in_err-members-clause-parts g t c = c.begin_row.ensures.parts

pub walk::row_told-returns-in_err-members-clause-stands : goal.walk::row_told-returns-in_err-members-clause-stands
walk::row_told-returns-in_err-members-clause-stands g t c = c.begin_row.ensures.stands

pub walk::row_told-returns-in_err-blocks-clause-stopped : goal.walk::row_told-returns-in_err-blocks-clause-stopped
walk::row_told-returns-in_err-blocks-clause-stopped g t c =
    let all : (q : Query) → given_size q.inline ≡ c.args.width → needs_inline q.ask ≡ true →
    Stopped c.args.id q (seen g.R.Ruler.log c.args.walk.now) (seen g.R.Ruler.log c.ask_members.new.walk) = λ q w n. joined_stopped c.args.id q 1
    (seen g.R.Ruler.log c.args.walk.now) (seen g.R.Ruler.log c.begin_row.new.walk)
    (seen g.R.Ruler.log c.ask_members.new.walk) (c.in_ok-members.ensures.below q)
    (c.in_err-blocks.ensures.stopped q (row_leads (nodes c.begin_row.new.walk) c.args.id c.args.width q c.as_slice-mains.result.now (subst (λ (z : BareTrees). (sight_at z c.args.id).label.kind ≡ kind.Flex) (sym c.in_ok-members.ensures.same) c.requires.flex)
    (subst (λ (z : BareTrees). (sight_at z c.args.id).label.content.column ≡ false) (sym c.in_ok-members.ensures.same) c.requires.direction) w n (c.as_slice-mains.ensures ∙ ap (λ (l : rules.Lines). l.mains)
    (c.in_ok-members.ensures.lines ∙ ap (λ (z : BareTrees). rules.row_lines (flex_seen z c.args.id) c.args.width) (sym c.in_ok-members.ensures.same))))) in
    on_err _ _ all

pub walk::row_told-returns-in_err-blocks-clause-parts : goal.walk::row_told-returns-in_err-blocks-clause-parts
walk::row_told-returns-in_err-blocks-clause-parts g t c = parts_then _ _ _ c.begin_row.ensures.parts c.ask_members.ensures.parts

pub walk::row_told-returns-in_err-blocks-clause-stands : goal.walk::row_told-returns-in_err-blocks-clause-stands
walk::row_told-returns-in_err-blocks-clause-stands g t c = c.ask_members.ensures.stands

pub walk::row_told-returns-clause-parts : goal.walk::row_told-returns-clause-parts
walk::row_told-returns-clause-parts g t c = parts_then _ _ _ c.begin_row.ensures.parts c.ask_members.ensures.parts

pub walk::row_told-returns-clause-stands : goal.walk::row_told-returns-clause-stands
walk::row_told-returns-clause-stands g t c = c.ask_members.ensures.stands

pub walk::row_told-returns-clause-below : goal.walk::row_told-returns-clause-below
walk::row_told-returns-clause-below g t c =
    λ q w n. joined_below c.args.id q 1 (seen g.R.Ruler.log c.args.walk.now) (seen g.R.Ruler.log c.begin_row.new.walk)
    (seen g.R.Ruler.log c.ask_members.new.walk) (c.in_ok-members.ensures.below q)
    (c.in_ok-blocks.ensures.below q (row_leads (nodes c.begin_row.new.walk) c.args.id c.args.width q c.as_slice-mains.result.now (subst (λ (z : BareTrees). (sight_at z c.args.id).label.kind ≡ kind.Flex) (sym c.in_ok-members.ensures.same) c.requires.flex)
    (subst (λ (z : BareTrees). (sight_at z c.args.id).label.content.column ≡ false) (sym c.in_ok-members.ensures.same) c.requires.direction) w n (c.as_slice-mains.ensures ∙ ap (λ (l : rules.Lines). l.mains)
    (c.in_ok-members.ensures.lines ∙ ap (λ (z : BareTrees). rules.row_lines (flex_seen z c.args.id) c.args.width) (sym c.in_ok-members.ensures.same)))))

pub walk::row_told-returns-clause-value : goal.walk::row_told-returns-clause-value
walk::row_told-returns-clause-value g t c =
    record {
      children = c.in_ok-members.ensures.members;
      along = c.in_ok-members.ensures.lines;
      ranges = c.in_ok-members.ensures.ranges;
      across = c.in_ok-blocks.ensures.value ∙ (λ i. map block_of (settled_seen (c.in_ok-members.ensures.same i) c.args.id (c.as_slice-mains.ensures i)));
    }

pub walk::row_told-returns-clause-items : goal.walk::row_told-returns-clause-items
walk::row_told-returns-clause-items g t c = c.in_ok-members.ensures.items

pub walk::column_told-ask_members-requires : goal.walk::column_told-ask_members-requires
walk::column_told-ask_members-requires g t c =
    let back = sym c.in_ok-members.ensures.same in
    let live : IsLive (nodes c.begin_column.new.walk) c.args.id = subst (λ (z : BareTrees). IsLive z c.args.id) back c.requires.live in
    let flex : (sight_at (nodes c.begin_column.new.walk) c.args.id).label.kind ≡ kind.Flex = subst (λ (z : BareTrees). (sight_at z c.args.id).label.kind ≡ kind.Flex) back c.requires.flex in
    let members : AreMembers (nodes c.begin_column.new.walk) c.args.id c.as_slice.result.now = subst (AreMembers (nodes c.begin_column.new.walk) c.args.id) (sym c.as_slice.ensures) (subst (λ (z : BareTrees). AreMembers z c.args.id c.in_ok-members.members) back c.in_ok-members.ensures.members) in
    let roomy : AreRoomy (flex_seen (nodes c.begin_column.new.walk) c.args.id).members c.as_slice-2.result.now = subst (AreRoomy (flex_seen (nodes c.begin_column.new.walk) c.args.id).members) (sym c.as_slice-2.ensures)
    (subst (λ (z : BareTrees). AreRoomy (flex_seen z c.args.id).members c.in_ok-members.boxes) back c.in_ok-members.ensures.roomy) in
    let past : AreKnown (nodes c.begin_column.new.walk) c.args.id c.args.width c.args.past.now = subst (λ (z : BareTrees). AreKnown z c.args.id c.args.width c.args.past.now) back c.requires.past in
    let small : 16 * size_at (nodes c.begin_column.new.walk) c.args.id + 0 < 16 * size_at (nodes c.args.walk.now) c.args.id + 1 = omega (arith, ap (λ (z : BareTrees). size_at z c.args.id) c.in_ok-members.ensures.same) in
    search rules

pub walk::column_told-returns-in_err-members-clause-stopped : goal.walk::column_told-returns-in_err-members-clause-stopped
walk::column_told-returns-in_err-members-clause-stopped g t c =
    let all : (q : Query) → given_size q.inline ≡ c.args.width → needs_inline q.ask ≡ true → Stopped c.args.id q (seen g.R.Ruler.log c.args.walk.now) (seen g.R.Ruler.log c.begin_column.new.walk) = λ q w n. c.in_err-members.ensures.stopped q in
    on_err _ _ all

pub walk::column_told-returns-in_err-members-clause-parts : goal.walk::column_told-returns-in_err-members-clause-parts
walk::column_told-returns-in_err-members-clause-parts g t c = c.begin_column.ensures.parts

pub walk::column_told-returns-in_err-members-clause-stands : goal.walk::column_told-returns-in_err-members-clause-stands
walk::column_told-returns-in_err-members-clause-stands g t c = c.begin_column.ensures.stands

pub walk::column_told-returns-in_err-blocks-clause-stopped : goal.walk::column_told-returns-in_err-blocks-clause-stopped
walk::column_told-returns-in_err-blocks-clause-stopped g t c =
    let all : (q : Query) → given_size q.inline ≡ c.args.width → needs_inline q.ask ≡ true →
    Stopped c.args.id q (seen g.R.Ruler.log c.args.walk.now) (seen g.R.Ruler.log c.ask_members.new.walk) = λ q w n. joined_stopped c.args.id q 0
    (seen g.R.Ruler.log c.args.walk.now) (seen g.R.Ruler.log c.begin_column.new.walk)
    (seen g.R.Ruler.log c.ask_members.new.walk) (c.in_ok-members.ensures.below q)
    (c.in_err-blocks.ensures.stopped q (column_leads (nodes c.begin_column.new.walk) c.args.id c.args.width q c.as_slice-2.result.now (subst (λ (z : BareTrees). (sight_at z c.args.id).label.kind ≡ kind.Flex) (sym c.in_ok-members.ensures.same) c.requires.flex)
    (subst (λ (z : BareTrees). (sight_at z c.args.id).label.content.column ≡ true) (sym c.in_ok-members.ensures.same) c.requires.direction) w n (c.as_slice-2.ensures ∙ c.in_ok-members.ensures.boxes ∙
    ap (λ (z : BareTrees). column_boxes_seen z c.args.id c.args.width) (sym c.in_ok-members.ensures.same)))) in
    on_err _ _ all

pub walk::column_told-returns-in_err-blocks-clause-parts : goal.walk::column_told-returns-in_err-blocks-clause-parts
walk::column_told-returns-in_err-blocks-clause-parts g t c = parts_then _ _ _ c.begin_column.ensures.parts c.ask_members.ensures.parts

pub walk::column_told-returns-in_err-blocks-clause-stands : goal.walk::column_told-returns-in_err-blocks-clause-stands
walk::column_told-returns-in_err-blocks-clause-stands g t c = c.ask_members.ensures.stands

pub walk::column_told-returns-clause-parts : goal.walk::column_told-returns-clause-parts
walk::column_told-returns-clause-parts g t c = parts_then _ _ _ c.begin_column.ensures.parts c.ask_members.ensures.parts

pub walk::column_told-returns-clause-stands : goal.walk::column_told-returns-clause-stands
walk::column_told-returns-clause-stands g t c = c.ask_members.ensures.stands

pub walk::column_told-returns-clause-below : goal.walk::column_told-returns-clause-below
walk::column_told-returns-clause-below g t c =
    λ q w n. joined_below c.args.id q 0 (seen g.R.Ruler.log c.args.walk.now) (seen g.R.Ruler.log c.begin_column.new.walk)
    (seen g.R.Ruler.log c.ask_members.new.walk) (c.in_ok-members.ensures.below q)
    (c.in_ok-blocks.ensures.below q (column_leads (nodes c.begin_column.new.walk) c.args.id c.args.width q c.as_slice-2.result.now (subst (λ (z : BareTrees). (sight_at z c.args.id).label.kind ≡ kind.Flex) (sym c.in_ok-members.ensures.same) c.requires.flex)
    (subst (λ (z : BareTrees). (sight_at z c.args.id).label.content.column ≡ true) (sym c.in_ok-members.ensures.same) c.requires.direction) w n (c.as_slice-2.ensures ∙ c.in_ok-members.ensures.boxes ∙
    ap (λ (z : BareTrees). column_boxes_seen z c.args.id c.args.width) (sym c.in_ok-members.ensures.same))))

pub walk::column_told-returns-clause-value : goal.walk::column_told-returns-clause-value
walk::column_told-returns-clause-value g t c =
    record {
      children = c.in_ok-members.ensures.members;
      across = c.in_ok-members.ensures.boxes;
      along = c.in_ok-blocks.ensures.value ∙ (λ i. map block_of (settled_seen (c.in_ok-members.ensures.same i) c.args.id (c.as_slice-2.ensures i)));
    }

pub walk::member_block-given_box-width-requires : goal.walk::member_block-given_box-width-requires
walk::member_block-given_box-width-requires g t c = subst (λ (s : GridStyle). IsGridAxis s.columns) (sym c.node_at.ensures.grid) (c.requires.stands.readable.nodes c.args.child c.requires.live).grid.columns

pub walk::member_block-block_in-requires : goal.walk::member_block-block_in-requires
walk::member_block-block_in-requires g t c =
    let given : IsGivenFor true false 0 c.given_box-width.result = c.given_box-width.ensures.fits (subst (λ (s : GridStyle). inner s.columns ≤ℤ c.args.size) (sym c.node_at.ensures.grid) c.requires.room) in
    let live : IsLive (nodes c.args.walk.now) c.args.child = c.requires.live in
    let fits : Fits (sight_at (nodes c.args.walk.now) c.args.child) (block_query false [] c.given_box-width.result) = fits_block (sight_at (nodes c.args.walk.now) c.args.child) c.given_box-width.result c.requires.alone given in
    let seat : IsSeat (sight_at (nodes c.args.walk.now) c.args.child) [] above.Nothing (record { columns = record { start = pos 0; end = pos 0 }; rows = record { start = pos 0; end = pos 0 } }) = alone_there (nodes c.args.walk.now) c.args.child _ (ap has_chain c.requires.alone) in
    let apart : IsSpread (farthest (level_at (nodes c.args.walk.now) c.args.child)) c.given_box-width.result = spread_none (farthest (level_at (nodes c.args.walk.now) c.args.child)) c.given_box-width.result given in
    let small : 16 * size_at (nodes c.args.walk.now) c.args.child + 6 < 16 * size_at (nodes c.args.walk.now) c.args.child + 7 = omega arith in
    search rules

pub walk::member_block-returns-in-Some-clause-value : goal.walk::member_block-returns-in-Some-clause-value
walk::member_block-returns-in-Some-clause-value g t c = block_known (kid_at (nodes c.args.walk.now) c.args.child) c.args.last c.args.size c.in-Some.block c.in-Some.ensures c.requires.last

pub walk::member_block-returns-in-Some-clause-walked : goal.walk::member_block-returns-in-Some-clause-walked
walk::member_block-returns-in-Some-clause-walked g t c = found_walked c.args.child _ (seen g.R.Ruler.log c.args.walk.now) c.requires.stands.right

pub walk::member_block-returns-clause-value : goal.walk::member_block-returns-clause-value
walk::member_block-returns-clause-value g t c =
    size_is _ _ c.in_ok-block.ensures.value ∙
    ap (λ (w : Given). ((kid_at (nodes c.args.walk.now) c.args.child).answers.down [] w).block) (block_width (nodes c.args.walk.now) c.args.child c.args.size (grid_of c.node_at.result.now.style) c.given_box-width.result c.node_at.ensures.grid c.given_box-width.ensures.value)

pub walk::member_block-returns-clause-walked : goal.walk::member_block-returns-clause-walked
walk::member_block-returns-clause-walked g t c =
    subst (λ (w : Given). Walked c.args.child (block_query false [] w) (seen g.R.Ruler.log c.args.walk.now) (seen g.R.Ruler.log c.block_in.new.walk))
    (block_width (nodes c.args.walk.now) c.args.child c.args.size (grid_of c.node_at.result.now.style) c.given_box-width.result c.node_at.ensures.grid c.given_box-width.ensures.value) c.in_ok-block.ensures.walked

pub walk::member_block-returns-in_err-block-clause-stopped : goal.walk::member_block-returns-in_err-block-clause-stopped
walk::member_block-returns-in_err-block-clause-stopped g t c =
    on_err _ _ (subst (λ (w : Given). Stopped c.args.child (block_query false [] w) (seen g.R.Ruler.log c.args.walk.now) (seen g.R.Ruler.log c.block_in.new.walk))
    (block_width (nodes c.args.walk.now) c.args.child c.args.size (grid_of c.node_at.result.now.style) c.given_box-width.result c.node_at.ensures.grid c.given_box-width.ensures.value) c.in_err-block.ensures.stopped)

pub walk::ask_members-returns-in_err-blocks-clause-stopped : goal.walk::ask_members-returns-in_err-blocks-clause-stopped
walk::ask_members-returns-in_err-blocks-clause-stopped g t c =
    let all : (q : Query) → LeadsTo (nodes c.args.walk.now) c.args.id c.args.boxes.now q → Stopped c.args.id q (seen g.R.Ruler.log c.args.walk.now) (seen g.R.Ruler.log c.args.walk.now) =
    λ q leads. stopped c.args.id q 0 _ _ (walked_none c.args.id q (seen g.R.Ruler.log c.args.walk.now) c.requires.stands.right) in
    on_err _ _ all

pub walk::ask_members-loop-index-init : goal.walk::ask_members-loop-index-init
walk::ask_members-loop-index-init g t c =
    record {
      stands = c.requires.stands;
      parts = same_parts c.args.walk.now;
      same = refl;
      walked = λ q leads. walked_none c.args.id q (seen g.R.Ruler.log c.args.walk.now) c.requires.stands.right;
      blocks = ap (λ (l : List ℤ). l ++ map block_of (settled_seen (nodes c.args.walk.now) c.args.id c.args.boxes.now)) c.in_ok-blocks.ensures;
    }

pub walk::ask_members-member_at-member-requires : goal.walk::ask_members-member_at-member-requires
walk::ask_members-member_at-member-requires g t c = omega (arith, c.loop-index-test.true)

pub walk::ask_members-box_at-size-requires : goal.walk::ask_members-box_at-size-requires
walk::ask_members-box_at-size-requires g t c = omega (arith, c.loop-index-test.true, boxes_counted (nodes c.args.walk.now) c.args.id c.args.members.now c.args.boxes.now c.requires.members c.requires.roomy)

pub walk::ask_members-known_of-last-requires-clause-child : goal.walk::ask_members-known_of-last-requires-clause-child
walk::ask_members-known_of-last-requires-clause-child g t c =
    subst (λ (z : BareTrees). IsChild z c.args.id c.member_at-member.result) (sym c.loop-index.invariant.same)
    (subst (IsChild (nodes c.args.walk.now) c.args.id) (sym c.member_at-member.ensures) (c.requires.members.children c.loop-index.index c.member_at-member.result (omega (arith, c.loop-index-test.true))))

pub walk::ask_members-known_of-last-requires-clause-past : goal.walk::ask_members-known_of-last-requires-clause-past
walk::ask_members-known_of-last-requires-clause-past g t c = subst (λ (z : BareTrees). AreKnown z c.args.id c.args.width c.args.past.now) (sym c.loop-index.invariant.same) c.requires.past

pub walk::ask_members-member_block-requires : goal.walk::ask_members-member_block-requires
walk::ask_members-member_block-requires g t c =
    let turn_now : IsAsked (nodes c.args.walk.now) (nodes c.loop-index.walk) c.args.id c.args.boxes.now c.loop-index.index c.member_at-member.result c.box_at-size.result =
    asked_turn (nodes c.args.walk.now) (nodes c.loop-index.walk) c.args.id c.args.members.now c.args.boxes.now c.loop-index.index c.member_at-member.result c.box_at-size.result c.loop-index.invariant.same c.root.ensures.tree c.requires.members c.requires.roomy c.requires.flex
    (omega (arith, c.loop-index-test.true)) c.member_at-member.ensures c.box_at-size.ensures in
    let live : IsLive (nodes c.loop-index.walk) c.member_at-member.result.child = turn_now.live in
    let alone : (sight_at (nodes c.loop-index.walk) c.member_at-member.result.child).chain ≡ [] = turn_now.none in
    let room : inner (sight_at (nodes c.loop-index.walk) c.member_at-member.result.child).label.grid.columns ≤ℤ c.box_at-size.result = turn_now.room in
    let last : IfSome c.known_of-last.result (TellsBlock (kid_at (nodes c.loop-index.walk) c.member_at-member.result.child)) = known_blocks (nodes c.loop-index.walk) c.args.id c.args.width c.member_at-member.result.child c.known_of-last.result c.known_of-last.ensures in
    let small : 16 * size_at (nodes c.loop-index.walk) c.member_at-member.result.child + 7 < 16 * size_at (nodes c.args.walk.now) c.args.id + 0 = omega (arith, turn_now.small) in
    search rules

pub walk::ask_members-returns-in_err-block-clause-stopped : goal.walk::ask_members-returns-in_err-block-clause-stopped
walk::ask_members-returns-in_err-block-clause-stopped g t c =
    let turn_now : IsAsked (nodes c.args.walk.now) (nodes c.loop-index.walk) c.args.id c.args.boxes.now c.loop-index.index c.member_at-member.result c.box_at-size.result =
    asked_turn (nodes c.args.walk.now) (nodes c.loop-index.walk) c.args.id c.args.members.now c.args.boxes.now c.loop-index.index c.member_at-member.result c.box_at-size.result c.loop-index.invariant.same c.root.ensures.tree c.requires.members c.requires.roomy c.requires.flex
    (omega (arith, c.loop-index-test.true)) c.member_at-member.ensures c.box_at-size.ensures in
    on_err _ _
    (member_stops (nodes c.args.walk.now) (nodes c.loop-index.walk) c.loop-index.invariant.same c.args.id c.args.boxes.now c.loop-index.index c.member_at-member.result c.box_at-size.result turn_now c.root.ensures.steps
    (sight_at (nodes c.loop-index.walk) c.member_at-member.result.child).label.grid (settled_at (member_in (kid_at (nodes c.loop-index.walk) c.member_at-member.result.child)) c.box_at-size.result).inline refl refl _ _ _ refl c.loop-index.invariant.walked
    c.in_err-block.ensures.stopped)

pub walk::ask_members-returns-in_err-push-clause-stopped : goal.walk::ask_members-returns-in_err-push-clause-stopped
walk::ask_members-returns-in_err-push-clause-stopped g t c =
    let turn_now : IsAsked (nodes c.args.walk.now) (nodes c.loop-index.walk) c.args.id c.args.boxes.now c.loop-index.index c.member_at-member.result c.box_at-size.result =
    asked_turn (nodes c.args.walk.now) (nodes c.loop-index.walk) c.args.id c.args.members.now c.args.boxes.now c.loop-index.index c.member_at-member.result c.box_at-size.result c.loop-index.invariant.same c.root.ensures.tree c.requires.members c.requires.roomy c.requires.flex
    (omega (arith, c.loop-index-test.true)) c.member_at-member.ensures c.box_at-size.ensures in
    on_err _ _
    (member_ends (nodes c.args.walk.now) (nodes c.loop-index.walk) c.loop-index.invariant.same c.args.id c.args.boxes.now c.loop-index.index c.member_at-member.result c.box_at-size.result turn_now c.root.ensures.steps
    (sight_at (nodes c.loop-index.walk) c.member_at-member.result.child).label.grid (settled_at (member_in (kid_at (nodes c.loop-index.walk) c.member_at-member.result.child)) c.box_at-size.result).inline refl refl _ _ _ refl c.loop-index.invariant.walked
    c.in_ok-block.ensures.walked)

pub walk::ask_members-loop-index-preserved : goal.walk::ask_members-loop-index-preserved
walk::ask_members-loop-index-preserved g t c =
    let turn_now : IsAsked (nodes c.args.walk.now) (nodes c.loop-index.walk) c.args.id c.args.boxes.now c.loop-index.index c.member_at-member.result c.box_at-size.result =
    asked_turn (nodes c.args.walk.now) (nodes c.loop-index.walk) c.args.id c.args.members.now c.args.boxes.now c.loop-index.index c.member_at-member.result c.box_at-size.result c.loop-index.invariant.same c.root.ensures.tree c.requires.members c.requires.roomy c.requires.flex
    (omega (arith, c.loop-index-test.true)) c.member_at-member.ensures c.box_at-size.ensures in
    record {
      stands = c.member_block.ensures.stands;
      parts = parts_then _ _ _ c.loop-index.invariant.parts c.member_block.ensures.parts;
      same = c.in_ok-block.ensures.walked.walk.bare_same ∙ c.loop-index.invariant.same;
      walked =
          member_below (nodes c.args.walk.now) (nodes c.loop-index.walk) c.loop-index.invariant.same c.args.id c.args.boxes.now c.loop-index.index c.member_at-member.result c.box_at-size.result turn_now c.root.ensures.steps
          (sight_at (nodes c.loop-index.walk) c.member_at-member.result.child).label.grid (settled_at (member_in (kid_at (nodes c.loop-index.walk) c.member_at-member.result.child)) c.box_at-size.result).inline refl refl _ _ _ refl c.loop-index.invariant.walked
          c.in_ok-block.ensures.walked;
      blocks = blocks_more (settled_seen (nodes c.args.walk.now) c.args.id c.args.boxes.now) c.loop-index.index (settled_at (member_of (nodes c.args.walk.now) c.member_at-member.result) c.box_at-size.result) c.loop-index.blocks _ _ c.in_ok-block.block turn_now.next c.in_ok-push.ensures.ok
          (c.in_ok-block.ensures.value ∙ ap (λ (z : BareTrees). (settled_at (member_in (kid_at z c.member_at-member.result.child)) c.box_at-size.result).down.block) c.loop-index.invariant.same) c.loop-index.invariant.blocks;
    }

pub walk::ask_members-returns-clause-value : goal.walk::ask_members-returns-clause-value
walk::ask_members-returns-clause-value g t c =
    let settled = settled_seen (nodes c.args.walk.now) c.args.id c.args.boxes.now in
    let few : length settled ≤ c.loop-index.index = omega
    (arith, c.loop-index-test.false, settled_length (nodes c.args.walk.now) c.args.id c.args.members.now c.args.boxes.now c.requires.members.same (boxes_counted (nodes c.args.walk.now) c.args.id c.args.members.now c.args.boxes.now c.requires.members c.requires.roomy)) in
    all_there (map block_of) settled c.loop-index.index c.loop-index.blocks (map block_of settled) refl few c.loop-index.invariant.blocks

pub walk::ask_members-returns-clause-below : goal.walk::ask_members-returns-clause-below
walk::ask_members-returns-clause-below g t c = c.loop-index.invariant.walked

pub walk::ask_members-returns-in_err-blocks-clause-parts : goal.walk::ask_members-returns-in_err-blocks-clause-parts
walk::ask_members-returns-in_err-blocks-clause-parts g t c = same_parts c.args.walk.now

pub walk::ask_members-returns-in_err-blocks-clause-stands : goal.walk::ask_members-returns-in_err-blocks-clause-stands
walk::ask_members-returns-in_err-blocks-clause-stands g t c = c.requires.stands

pub walk::ask_members-returns-in_err-block-clause-parts : goal.walk::ask_members-returns-in_err-block-clause-parts
walk::ask_members-returns-in_err-block-clause-parts g t c = parts_then _ _ _ c.loop-index.invariant.parts c.member_block.ensures.parts

pub walk::ask_members-returns-in_err-block-clause-stands : goal.walk::ask_members-returns-in_err-block-clause-stands
walk::ask_members-returns-in_err-block-clause-stands g t c = c.member_block.ensures.stands

pub walk::ask_members-returns-in_err-push-clause-parts : goal.walk::ask_members-returns-in_err-push-clause-parts
walk::ask_members-returns-in_err-push-clause-parts g t c = parts_then _ _ _ c.loop-index.invariant.parts c.member_block.ensures.parts

pub walk::ask_members-returns-in_err-push-clause-stands : goal.walk::ask_members-returns-in_err-push-clause-stands
walk::ask_members-returns-in_err-push-clause-stands g t c = c.member_block.ensures.stands

pub walk::ask_members-returns-clause-parts : goal.walk::ask_members-returns-clause-parts
walk::ask_members-returns-clause-parts g t c = c.loop-index.invariant.parts

pub walk::ask_members-returns-clause-stands : goal.walk::ask_members-returns-clause-stands
walk::ask_members-returns-clause-stands g t c = c.loop-index.invariant.stands

pub walk::row_anew-returns-in_err-past-clause-parts : goal.walk::row_anew-returns-in_err-past-clause-parts
walk::row_anew-returns-in_err-past-clause-parts g t c = c.last_along.ensures.parts

pub walk::row_anew-returns-in_err-past-clause-stands : goal.walk::row_anew-returns-in_err-past-clause-stands
walk::row_anew-returns-in_err-past-clause-stands g t c = c.last_along.ensures.stands

pub walk::row_anew-returns-in_err-parts-clause-parts : goal.walk::row_anew-returns-in_err-parts-clause-parts
walk::row_anew-returns-in_err-parts-clause-parts g t c = parts_then _ _ _ c.last_along.ensures.parts c.row_told.ensures.parts

pub walk::row_anew-returns-in_err-parts-clause-stands : goal.walk::row_anew-returns-in_err-parts-clause-stands
walk::row_anew-returns-in_err-parts-clause-stands g t c = c.row_told.ensures.stands

pub walk::column_anew-returns-in_err-past-clause-parts : goal.walk::column_anew-returns-in_err-past-clause-parts
walk::column_anew-returns-in_err-past-clause-parts g t c = c.last_along.ensures.parts

pub walk::column_anew-returns-in_err-past-clause-stands : goal.walk::column_anew-returns-in_err-past-clause-stands
walk::column_anew-returns-in_err-past-clause-stands g t c = c.last_along.ensures.stands

pub walk::column_anew-returns-in_err-parts-clause-parts : goal.walk::column_anew-returns-in_err-parts-clause-parts
walk::column_anew-returns-in_err-parts-clause-parts g t c = parts_then _ _ _ c.last_along.ensures.parts c.column_told.ensures.parts

pub walk::column_anew-returns-in_err-parts-clause-stands : goal.walk::column_anew-returns-in_err-parts-clause-stands
walk::column_anew-returns-in_err-parts-clause-stands g t c = c.column_told.ensures.stands

pub walk::member_block-returns-in-Some-clause-parts : goal.walk::member_block-returns-in-Some-clause-parts
walk::member_block-returns-in-Some-clause-parts g t c = same_parts c.args.walk.now

pub walk::member_block-returns-in-Some-clause-stands : goal.walk::member_block-returns-in-Some-clause-stands
walk::member_block-returns-in-Some-clause-stands g t c = c.requires.stands

pub walk::member_block-returns-in_err-block-clause-parts : goal.walk::member_block-returns-in_err-block-clause-parts
walk::member_block-returns-in_err-block-clause-parts g t c = c.block_in.ensures.parts

pub walk::member_block-returns-in_err-block-clause-stands : goal.walk::member_block-returns-in_err-block-clause-stands
walk::member_block-returns-in_err-block-clause-stands g t c = c.block_in.ensures.stands

pub walk::member_block-returns-clause-parts : goal.walk::member_block-returns-clause-parts
walk::member_block-returns-clause-parts g t c = c.block_in.ensures.parts

pub walk::member_block-returns-clause-stands : goal.walk::member_block-returns-clause-stands
walk::member_block-returns-clause-stands g t c = c.block_in.ensures.stands

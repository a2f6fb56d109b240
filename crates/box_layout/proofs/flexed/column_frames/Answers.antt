use Rattle.std.proofs.Common.{ap, ◌≡◌, ◌∙◌, sym, subst, refl, ℕ, true, false, [], length, map}
use Rattle.flex_lines.specs.Lines.{AreRanges}
use Rattle.placing.proofs.Leaves.{on_err}
use Rattle.placing.proofs.Walks.{stopped, ticked}
use Rattle.placing.specs.Nodes.{BareTrees, IsLive, sight_at}
use Rattle.placing.specs.Ranges.{AreReadable}
use Rattle.placing.specs.Walks.{Stopped, state}
use Rattle.placing.specs.declared.lined.ColumnParts.{ColumnParts}
use Rattle.tree_rules.specs.AskedQueries.{block_query}
use Rattle.tree_rules.specs.Queries.{needs_inline}
use Rattle.tree_rules.specs.declared.kind.NodeKind.TheVariants as kind
use Rattle.tree_rules.specs.declared.query.Given.TheVariants as given
use Rattle.tree_rules.specs.declared.query.Query.{Query}
use Rattle.inline_sizes.specs.Flexes.{AreMembers, flex_seen}
use Rattle.block_sizes.specs.Settling.{IsColumn}
use Rattle.box_layout.specs.FlexFrames.{AreFrames, AreStyled, AsksWidths, block_of, column_lines_seen, column_seen, settled_by}
use Rattle.box_layout.proofs.Chained.{chained, chained_stopped}
use Rattle.box_layout.proofs.FlexAlike.{blocks_count}
use Rattle.box_layout.proofs.Framed.{all_styled, column_boxed, settled_is, told_members}
use Rattle.walker.specs.Walkers.{nodes, seen}
use Rattle.box_layout.proofs.flexed.column_frames.Goals as goal

pub column_lines-requires-clause-live : goal.column_lines-requires-clause-live
column_lines-requires-clause-live g c = subst (λ (z : BareTrees). IsLive z c.args.id) (sym (c.in_ok-column.ensures.below (block_query false [] (given.Size c.args.width)) refl refl).walk.bare_same) c.requires.live

pub column_lines-requires-clause-readable : goal.column_lines-requires-clause-readable
column_lines-requires-clause-readable g c = subst AreReadable (sym (c.in_ok-column.ensures.below (block_query false [] (given.Size c.args.width)) refl refl).walk.bare_same) c.requires.stands.readable

pub column_lines-requires-clause-members : goal.column_lines-requires-clause-members
column_lines-requires-clause-members g c =
    subst (AreMembers (nodes c.column_for.new.walk) c.args.id) (sym (c.as_slice-members.ensures ∙ ap (λ (p : ColumnParts). p.members) c.parts-parts.ensures))
    (subst (λ (z : BareTrees). AreMembers z c.args.id c.in_ok-column.column.members) (sym (c.in_ok-column.ensures.below (block_query false [] (given.Size c.args.width)) refl refl).walk.bare_same) c.in_ok-column.ensures.value.children)

pub column_lines-requires-clause-counted : goal.column_lines-requires-clause-counted
column_lines-requires-clause-counted g c =
    let b = nodes c.args.walk.now in
    let column = c.in_ok-column.column in
    let are = c.in_ok-column.ensures.value in
    let boxes : length column.boxes ≡ length column.members = ap length are.across ∙ column_boxed b c.args.id c.args.width ∙ sym (told_members b c.args.id column.members are.children.same) in
    ap length (c.as_slice-blocks.ensures ∙ ap (λ (p : ColumnParts). p.blocks) c.parts-parts.ensures)
    ∙ blocks_count b column.members column.boxes column.blocks boxes (are.along ∙ ap (map block_of) (settled_is b c.args.id column.members column.boxes are.children.same))
    ∙ ap length (sym (c.as_slice-members.ensures ∙ ap (λ (p : ColumnParts). p.members) c.parts-parts.ensures))

pub frames_of_column-requires-clause-live : goal.frames_of_column-requires-clause-live
frames_of_column-requires-clause-live g c = subst (λ (z : BareTrees). IsLive z c.args.id) (sym (c.in_ok-column.ensures.below (block_query false [] (given.Size c.args.width)) refl refl).walk.bare_same) c.requires.live

pub frames_of_column-requires-clause-readable : goal.frames_of_column-requires-clause-readable
frames_of_column-requires-clause-readable g c = subst AreReadable (sym (c.in_ok-column.ensures.below (block_query false [] (given.Size c.args.width)) refl refl).walk.bare_same) c.requires.stands.readable

pub frames_of_column-requires-clause-column : goal.frames_of_column-requires-clause-column
frames_of_column-requires-clause-column g c = subst (λ (z : BareTrees). IsColumn z c.args.id c.args.width c.in_ok-column.column) (sym (c.in_ok-column.ensures.below (block_query false [] (given.Size c.args.width)) refl refl).walk.bare_same) c.in_ok-column.ensures.value

pub frames_of_column-requires-clause-lines : goal.frames_of_column-requires-clause-lines
frames_of_column-requires-clause-lines g c =
    let b = nodes c.column_for.new.walk in
    let column = c.in_ok-column.column in
    let are : IsColumn b c.args.id c.args.width column = subst (λ (z : BareTrees). IsColumn z c.args.id c.args.width column) (sym (c.in_ok-column.ensures.below (block_query false [] (given.Size c.args.width)) refl refl).walk.bare_same) c.in_ok-column.ensures.value in
    let found =
    c.in_ok-lines.ensures.value column.boxes
    ((c.as_slice-blocks.ensures ∙ ap (λ (p : ColumnParts). p.blocks) c.parts-parts.ensures) ∙ are.along ∙ ap (map block_of) (settled_is b c.args.id column.members column.boxes are.children.same)
    ∙ ap (λ ms. map block_of (settled_by b ms column.boxes)) (sym (c.as_slice-members.ensures ∙ ap (λ (p : ColumnParts). p.members) c.parts-parts.ensures))) in
    found ∙ ap (λ ms. column_lines_seen b c.args.id c.args.height (settled_by b ms column.boxes)) (c.as_slice-members.ensures ∙ ap (λ (p : ColumnParts). p.members) c.parts-parts.ensures)

pub frames_of_column-requires-clause-ranges : goal.frames_of_column-requires-clause-ranges
frames_of_column-requires-clause-ranges g c = subst (λ (k : ℕ). AreRanges k c.in_ok-lines.lines.ranges) (ap length (c.as_slice-members.ensures ∙ ap (λ (p : ColumnParts). p.members) c.parts-parts.ensures)) c.in_ok-lines.ensures.ranges

pub ask_widths-requires-clause-live : goal.ask_widths-requires-clause-live
ask_widths-requires-clause-live g c = subst (λ (z : BareTrees). IsLive z c.args.id) (sym (c.in_ok-column.ensures.below (block_query false [] (given.Size c.args.width)) refl refl).walk.bare_same) c.requires.live

pub ask_widths-requires-clause-flex : goal.ask_widths-requires-clause-flex
ask_widths-requires-clause-flex g c = subst (λ (z : BareTrees). (sight_at z c.args.id).label.kind ≡ kind.Flex) (sym (c.in_ok-column.ensures.below (block_query false [] (given.Size c.args.width)) refl refl).walk.bare_same) c.requires.flex

pub ask_widths-requires-clause-direction : goal.ask_widths-requires-clause-direction
ask_widths-requires-clause-direction g c = subst (λ (z : BareTrees). (sight_at z c.args.id).label.content.column ≡ true) (sym (c.in_ok-column.ensures.below (block_query false [] (given.Size c.args.width)) refl refl).walk.bare_same) c.requires.direction

pub ask_widths-requires-clause-grids : goal.ask_widths-requires-clause-grids
ask_widths-requires-clause-grids g c =
    subst (λ (z : BareTrees). AreStyled (flex_seen z c.args.id).members) (sym (c.in_ok-column.ensures.below (block_query false [] (given.Size c.args.width)) refl refl).walk.bare_same)
    (all_styled (nodes c.args.walk.now) c.args.id c.in_ok-column.column.members c.requires.stands.readable c.in_ok-column.ensures.value.children)

pub ask_widths-requires-clause-frames : goal.ask_widths-requires-clause-frames
ask_widths-requires-clause-frames g c =
    let b = nodes c.column_for.new.walk in
    subst (AreFrames b c.args.id (column_seen b c.args.id c.args.width c.args.height)) (sym c.as_slice-told.ensures) c.in_ok-frames.ensures

pub returns-clause-value : goal.returns-clause-value
returns-clause-value g c = subst (λ (z : BareTrees). AreFrames z c.args.id (column_seen z c.args.id c.args.width c.args.height) c.in_ok-frames.frames) (c.in_ok-column.ensures.below (block_query false [] (given.Size c.args.width)) refl refl).walk.bare_same c.in_ok-frames.ensures

pub returns-clause-below : goal.returns-clause-below
returns-clause-below g c =
    λ q asks. chained c.args.id q 1 (seen g.R.Ruler.log c.args.walk.now) (state c.column_for.new.walk.tree.now c.column_for.new.walk.tally.now c.column_lines.new.passes (g.R.Ruler.log c.column_for.new.walk.ruler.now))
    (seen g.R.Ruler.log c.ask_widths.new.walk)
    (ticked c.args.id q 0 1 (seen g.R.Ruler.log c.args.walk.now) (seen g.R.Ruler.log c.column_for.new.walk) c.column_lines.new.passes c.column_lines.ensures.ticks
    (c.in_ok-column.ensures.below q asks.inline (ap needs_inline asks.asked))) (c.in_ok-ask_widths.ensures.below q asks)

pub returns-in_err-column-clause-stopped : goal.returns-in_err-column-clause-stopped
returns-in_err-column-clause-stopped g c =
    let all : (q : Query) → AsksWidths c.args.width c.args.height q →
    Stopped c.args.id q (seen g.R.Ruler.log c.args.walk.now) (seen g.R.Ruler.log c.column_for.new.walk) = λ q asks. c.in_err-column.ensures.stopped q
    asks.inline (ap needs_inline asks.asked) in
    on_err _ _ all

pub returns-in_err-lines-clause-stopped : goal.returns-in_err-lines-clause-stopped
returns-in_err-lines-clause-stopped g c =
    let all : (q : Query) → AsksWidths c.args.width c.args.height q →
    Stopped c.args.id q (seen g.R.Ruler.log c.args.walk.now) (state c.column_for.new.walk.tree.now c.column_for.new.walk.tally.now c.column_lines.new.passes (g.R.Ruler.log c.column_for.new.walk.ruler.now)) = λ q asks. stopped c.args.id q 1
    (seen g.R.Ruler.log c.args.walk.now) (state c.column_for.new.walk.tree.now c.column_for.new.walk.tally.now c.column_lines.new.passes (g.R.Ruler.log c.column_for.new.walk.ruler.now))
    (ticked c.args.id q 0 1 (seen g.R.Ruler.log c.args.walk.now) (seen g.R.Ruler.log c.column_for.new.walk) c.column_lines.new.passes
    c.column_lines.ensures.ticks (c.in_ok-column.ensures.below q asks.inline (ap needs_inline asks.asked))) in
    on_err _ _ all

pub returns-in_err-frames-clause-stopped : goal.returns-in_err-frames-clause-stopped
returns-in_err-frames-clause-stopped g c =
    let all : (q : Query) → AsksWidths c.args.width c.args.height q →
    Stopped c.args.id q (seen g.R.Ruler.log c.args.walk.now) (state c.column_for.new.walk.tree.now c.column_for.new.walk.tally.now c.column_lines.new.passes (g.R.Ruler.log c.column_for.new.walk.ruler.now)) = λ q asks. stopped c.args.id q 1
    (seen g.R.Ruler.log c.args.walk.now) (state c.column_for.new.walk.tree.now c.column_for.new.walk.tally.now c.column_lines.new.passes (g.R.Ruler.log c.column_for.new.walk.ruler.now))
    (ticked c.args.id q 0 1 (seen g.R.Ruler.log c.args.walk.now) (seen g.R.Ruler.log c.column_for.new.walk) c.column_lines.new.passes
    c.column_lines.ensures.ticks (c.in_ok-column.ensures.below q asks.inline (ap needs_inline asks.asked))) in
    on_err _ _ all

pub returns-in_err-ask_widths-clause-stopped : goal.returns-in_err-ask_widths-clause-stopped
returns-in_err-ask_widths-clause-stopped g c =
    let all : (q : Query) → AsksWidths c.args.width c.args.height q →
    Stopped c.args.id q (seen g.R.Ruler.log c.args.walk.now) (seen g.R.Ruler.log c.ask_widths.new.walk) = λ q asks. chained_stopped c.args.id q 1
    (seen g.R.Ruler.log c.args.walk.now) (state c.column_for.new.walk.tree.now c.column_for.new.walk.tally.now c.column_lines.new.passes (g.R.Ruler.log c.column_for.new.walk.ruler.now))
    (seen g.R.Ruler.log c.ask_widths.new.walk)
    (ticked c.args.id q 0 1 (seen g.R.Ruler.log c.args.walk.now) (seen g.R.Ruler.log c.column_for.new.walk) c.column_lines.new.passes
    c.column_lines.ensures.ticks (c.in_ok-column.ensures.below q asks.inline (ap needs_inline asks.asked))) (c.in_err-ask_widths.ensures.stopped q asks) in
    on_err _ _ all

pub returns-in_err-column-clause-parts : goal.returns-in_err-column-clause-parts
returns-in_err-column-clause-parts g c = c.column_for.ensures.parts

pub returns-in_err-column-clause-stands : goal.returns-in_err-column-clause-stands
returns-in_err-column-clause-stands g c = c.column_for.ensures.stands

pub returns-in_err-lines-clause-parts : goal.returns-in_err-lines-clause-parts
returns-in_err-lines-clause-parts g c =
    record {
      tree = c.column_for.ensures.parts.tree;
      ruler = c.column_for.ensures.parts.ruler;
      tally = c.column_for.ensures.parts.tally;
      passes = c.column_for.ensures.parts.passes;
    }

pub returns-in_err-lines-clause-stands : goal.returns-in_err-lines-clause-stands
returns-in_err-lines-clause-stands g c = c.column_for.ensures.stands

pub returns-in_err-frames-clause-parts : goal.returns-in_err-frames-clause-parts
returns-in_err-frames-clause-parts g c =
    record {
      tree = c.column_for.ensures.parts.tree;
      ruler = c.column_for.ensures.parts.ruler;
      tally = c.column_for.ensures.parts.tally;
      passes = c.column_for.ensures.parts.passes;
    }

pub returns-in_err-frames-clause-stands : goal.returns-in_err-frames-clause-stands
returns-in_err-frames-clause-stands g c = c.column_for.ensures.stands

pub returns-in_err-ask_widths-clause-parts : goal.returns-in_err-ask_widths-clause-parts
returns-in_err-ask_widths-clause-parts g c =
    record {
      tree = c.ask_widths.ensures.parts.tree ∙ c.column_for.ensures.parts.tree;
      ruler = c.ask_widths.ensures.parts.ruler ∙ c.column_for.ensures.parts.ruler;
      tally = c.ask_widths.ensures.parts.tally ∙ c.column_for.ensures.parts.tally;
      passes = c.ask_widths.ensures.parts.passes ∙ c.column_for.ensures.parts.passes;
    }

pub returns-in_err-ask_widths-clause-stands : goal.returns-in_err-ask_widths-clause-stands
returns-in_err-ask_widths-clause-stands g c = c.ask_widths.ensures.stands

pub returns-clause-parts : goal.returns-clause-parts
returns-clause-parts g c =
    record {
      tree = c.ask_widths.ensures.parts.tree ∙ c.column_for.ensures.parts.tree;
      ruler = c.ask_widths.ensures.parts.ruler ∙ c.column_for.ensures.parts.ruler;
      tally = c.ask_widths.ensures.parts.tally ∙ c.column_for.ensures.parts.tally;
      passes = c.ask_widths.ensures.parts.passes ∙ c.column_for.ensures.parts.passes;
    }

pub returns-clause-stands : goal.returns-clause-stands
returns-clause-stands g c = c.ask_widths.ensures.stands

use Rattle.std.proofs.Common.{arith, ap, ◌≡◌, ◌≤◌, ◌∙◌, sym, subst, ℕ, true, length, map}
use Rattle.std.proofs.lemmas.Result.{IfOk-weaker}
use Rattle.flex_lines.specs.Lines.{AreRanges}
use Rattle.placing.specs.Nodes.{bare, children_at, kids_at}
use Rattle.tree_rules.specs.FlexSizes as rules
use Rattle.inline_sizes.specs.Flexes.{AreMembers, flex_seen}
use Rattle.block_sizes.specs.Flexes.{lines_of}
use Rattle.box_layout.specs.FlexFrames.{AreFrames, block_of, column_seen, flex_told, numbered, settled_by}
use Rattle.box_layout.proofs.FlexAlike.{members_few, settled_count}
use Rattle.box_layout.proofs.Framed.{column_boxed, column_made, column_mains, column_ranges, settled_is, told_members}
use Rattle.box_layout.proofs.flexed.frames_in_column.Goals as goal

pub frames_in_lines-requires-clause-members : goal.frames_in_lines-requires-clause-members
frames_in_lines-requires-clause-members c = subst (AreMembers (bare c.args.tree.now.tree) c.args.id) (sym c.as_slice-members.ensures) c.requires.column.children

pub frames_in_lines-requires-clause-boxes : goal.frames_in_lines-requires-clause-boxes
frames_in_lines-requires-clause-boxes c = ap length c.as_slice-boxes.ensures ∙
    (ap length c.requires.column.across ∙ column_boxed (bare c.args.tree.now.tree) c.args.id c.args.width ∙ sym (told_members (bare c.args.tree.now.tree) c.args.id c.args.column.now.members c.requires.column.children.same)) ∙ ap length (sym c.as_slice-members.ensures)

pub frames_in_lines-requires-clause-mains : goal.frames_in_lines-requires-clause-mains
frames_in_lines-requires-clause-mains c =
    let b = bare c.args.tree.now.tree in
    let column = c.args.column.now in
    ap length c.as_slice-mains.ensures ∙ ap (λ (l : rules.Lines). length l.mains) c.requires.lines ∙ column_mains b c.args.id c.args.height (settled_by b column.members column.boxes) ∙
    settled_count b column.members column.boxes (ap length c.requires.column.across ∙ column_boxed (bare c.args.tree.now.tree) c.args.id c.args.width ∙ sym (told_members (bare c.args.tree.now.tree) c.args.id c.args.column.now.members c.requires.column.children.same)) ∙
    ap length (sym c.as_slice-members.ensures)

pub frames_in_lines-requires-clause-blocks : goal.frames_in_lines-requires-clause-blocks
frames_in_lines-requires-clause-blocks c =
    let b = bare c.args.tree.now.tree in
    let column = c.args.column.now in
    c.as_slice-blocks.ensures ∙ c.requires.column.along ∙ ap (map block_of) (settled_is b c.args.id column.members column.boxes c.requires.column.children.same) ∙ sym (λ i. map block_of (settled_by b (c.as_slice-members.ensures i) (c.as_slice-boxes.ensures i)))

pub frames_in_lines-requires-clause-row : goal.frames_in_lines-requires-clause-row
frames_in_lines-requires-clause-row c = λ e. absurd cc

pub frames_in_lines-requires-clause-ranges : goal.frames_in_lines-requires-clause-ranges
frames_in_lines-requires-clause-ranges c = subst (λ (k : ℕ). AreRanges k c.as_slice-ranges.result.now) (ap length (sym c.as_slice-members.ensures)) (subst (AreRanges (length c.args.column.now.members)) (sym c.as_slice-ranges.ensures) c.requires.ranges)

pub frames_in_lines-requires-clause-lines : goal.frames_in_lines-requires-clause-lines
frames_in_lines-requires-clause-lines c =
    let b = bare c.args.tree.now.tree in
    let column = c.args.column.now in
    let few : length (settled_by b column.members column.boxes) ≤ 65536 = omega (
      arith,
      settled_count b column.members column.boxes
          (ap length c.requires.column.across ∙ column_boxed (bare c.args.tree.now.tree) c.args.id c.args.width
          ∙ sym (told_members (bare c.args.tree.now.tree) c.args.id c.args.column.now.members c.requires.column.children.same)),
      members_few b c.args.id column.members c.requires.column.children (c.requires.readable.children c.args.id),
    ) in
    omega (arith, ap length c.as_slice-ranges.ensures, ap (λ (l : rules.Lines). length l.ranges) c.requires.lines, column_ranges b c.args.id c.args.height (settled_by b column.members column.boxes) few)

pub returns : goal.returns
returns c =
    let b = bare c.args.tree.now.tree in
    let n = c.args.id in
    let column = c.args.column.now in
    let same : length (kids_at b n) ≡ length (children_at b n) = sym c.count.ensures.kids ∙ c.count.ensures.children in
    IfOk-weaker c.frames_in_lines.result _ (AreFrames b n (column_seen b n c.args.width c.args.height))
    (λ frames is. column_made b n c.args.width c.args.height column.members column.boxes (lines_of c.args.lines.now) frames same c.requires.column.children.same c.requires.column.across c.requires.lines
    (is ∙ (λ i. flex_told (numbered b n) true (flex_seen b n) c.args.height c.args.width (record { ranges = c.as_slice-ranges.ensures i; mains = c.as_slice-mains.ensures i }) (settled_by b (c.as_slice-members.ensures i) (c.as_slice-boxes.ensures i)))))
    c.frames_in_lines.ensures

use Rattle.std.proofs.Common.{arith, ap, ◌≡◌, ◌∙◌, sym, subst, refl, ℕ, false, length, map}
use Rattle.std.proofs.lemmas.Result.{IfOk-weaker}
use Rattle.flex_lines.specs.Lines.{AreRanges}
use Rattle.placing.specs.Nodes.{bare, children_at, kids_at}
use Rattle.tree_rules.specs.FlexSizes as rules
use Rattle.inline_sizes.specs.Flexes.{AreMembers, flex_seen}
use Rattle.block_sizes.specs.Flexes.{lines_of}
use Rattle.box_layout.specs.FlexFrames.{AreFrames, block_of, flex_told, numbered, row_seen, settled_by}
use Rattle.box_layout.proofs.Framed.{row_made, row_mains, row_ranges, settled_is, told_members}
use Rattle.box_layout.proofs.flexed.frames_in_row.Goals as goal

pub frames_in_lines-requires-clause-members : goal.frames_in_lines-requires-clause-members
frames_in_lines-requires-clause-members c = subst (AreMembers (bare c.args.tree.now.tree) c.args.id) (sym c.as_slice-members.ensures) c.requires.row.children

pub frames_in_lines-requires-clause-boxes : goal.frames_in_lines-requires-clause-boxes
frames_in_lines-requires-clause-boxes c =
    let b = bare c.args.tree.now.tree in
    let row = c.args.row.now in
    ap length c.as_slice-mains.ensures ∙ ap (λ (l : rules.Lines). length l.mains) c.requires.row.along ∙ row_mains b c.args.id c.args.width ∙ sym (told_members b c.args.id row.members c.requires.row.children.same) ∙ ap length (sym c.as_slice-members.ensures)

pub frames_in_lines-requires-clause-mains : goal.frames_in_lines-requires-clause-mains
frames_in_lines-requires-clause-mains c =
    let b = bare c.args.tree.now.tree in
    let row = c.args.row.now in
    ap length c.as_slice-mains.ensures ∙ ap (λ (l : rules.Lines). length l.mains) c.requires.row.along ∙ row_mains b c.args.id c.args.width ∙ sym (told_members b c.args.id row.members c.requires.row.children.same) ∙ ap length (sym c.as_slice-members.ensures)

pub frames_in_lines-requires-clause-blocks : goal.frames_in_lines-requires-clause-blocks
frames_in_lines-requires-clause-blocks c =
    let b = bare c.args.tree.now.tree in
    let row = c.args.row.now in
    c.as_slice-blocks.ensures ∙ c.requires.row.across ∙ ap (map block_of) (settled_is b c.args.id row.members row.lines.mains c.requires.row.children.same) ∙ sym (λ i. map block_of (settled_by b (c.as_slice-members.ensures i) (c.as_slice-mains.ensures i)))

pub frames_in_lines-requires-clause-row : goal.frames_in_lines-requires-clause-row
frames_in_lines-requires-clause-row c = λ e. refl

pub frames_in_lines-requires-clause-ranges : goal.frames_in_lines-requires-clause-ranges
frames_in_lines-requires-clause-ranges c = subst (λ (k : ℕ). AreRanges k c.as_slice-ranges.result.now) (ap length (sym c.as_slice-members.ensures)) (subst (AreRanges (length c.args.row.now.members)) (sym c.as_slice-ranges.ensures) c.requires.row.ranges)

pub frames_in_lines-requires-clause-lines : goal.frames_in_lines-requires-clause-lines
frames_in_lines-requires-clause-lines c =
    omega (arith, ap length c.as_slice-ranges.ensures, ap (λ (l : rules.Lines). length l.ranges) c.requires.row.along, row_ranges (bare c.args.tree.now.tree) c.args.id c.args.width (c.requires.readable.children c.args.id))

pub returns : goal.returns
returns c =
    let b = bare c.args.tree.now.tree in
    let n = c.args.id in
    let row = c.args.row.now in
    let same : length (kids_at b n) ≡ length (children_at b n) = sym c.count.ensures.kids ∙ c.count.ensures.children in
    IfOk-weaker c.frames_in_lines.result _ (AreFrames b n (row_seen b n c.args.width c.args.height))
    (λ frames is. row_made b n c.args.width c.args.height row.members (lines_of row.lines) frames same c.requires.row.children.same c.requires.row.along
    (is ∙ (λ i. flex_told (numbered b n) false (flex_seen b n) c.args.width c.args.height (record { ranges = c.as_slice-ranges.ensures i; mains = c.as_slice-mains.ensures i }) (settled_by b (c.as_slice-members.ensures i) (c.as_slice-mains.ensures i)))))
    c.frames_in_lines.ensures

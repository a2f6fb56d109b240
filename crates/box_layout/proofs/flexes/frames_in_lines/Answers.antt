use Rattle.std.proofs.Common.{arith, ap, ◌≡◌, ◌∙◌, sym, subst, ℕ, ℤ, List, Some, length, map}
use Rattle.std.specs.Prelude.{IfOk}
use Rattle.flex_lines.specs.Lines.{AreRanges}
use Rattle.part_rules.specs.Lists.{zipped}
use Rattle.placing.specs.Nodes.{bare, sight_at}
use Rattle.placing.specs.declared.node.Frame.{Frame}
use Rattle.tree_rules.specs.FlexSizes as rules
use Rattle.tree_rules.specs.Frames as frames
use Rattle.tree_rules.specs.Labels.{Label}
use Rattle.inline_sizes.proofs.FlexMembers.{flex_label}
use Rattle.inline_sizes.specs.Flexes.{IsChild}
use Rattle.block_sizes.specs.Flexes.{crosses_by}
use Rattle.box_layout.specs.declared.sitting.Container.{Container}
use Rattle.box_layout.specs.FlexFrames.{member_cross, member_outer, member_sitting, numbered, settled_by, zipped3}
use Rattle.box_layout.specs.Sittings.{flex_numbered, flex_ordered, sitting_of}
use Rattle.box_layout.proofs.FlexAlike.{blocks_count, crosses_alike, crosses_count, each_child, given_alike, members_few, outers_alike, pair_count, sittings_alike, triple_count}
use Rattle.box_layout.proofs.flexes.frames_in_lines.Goals as goal

pub own_crosses-requires-clause-blocks : goal.own_crosses-requires-clause-blocks
own_crosses-requires-clause-blocks c = blocks_count (bare c.args.tree.now.tree) c.args.lined.now.members.now c.args.lined.now.boxes.now c.args.lined.now.blocks.now c.requires.boxes c.requires.blocks

pub own_outers-requires-clause-counted : goal.own_outers-requires-clause-counted
own_outers-requires-clause-counted c =
    let b = bare c.args.tree.now.tree in
    ap length (c.deref.ensures.value ∙ c.in_ok-own.ensures) ∙
    triple_count (member_cross b c.args.column c.args.cross) c.args.lined.now.members.now c.args.lined.now.boxes.now c.args.lined.now.blocks.now c.requires.boxes (blocks_count b c.args.lined.now.members.now c.args.lined.now.boxes.now c.args.lined.now.blocks.now c.requires.boxes c.requires.blocks)

pub line_sizes-requires-clause-ranges : goal.line_sizes-requires-clause-ranges
line_sizes-requires-clause-ranges c =
    let b = bare c.args.tree.now.tree in
    let owns : length c.deref.result.now ≡
    length c.args.lined.now.members.now = ap length (c.deref.ensures.value ∙ c.in_ok-own.ensures) ∙
    triple_count (member_cross b c.args.column c.args.cross) c.args.lined.now.members.now c.args.lined.now.boxes.now c.args.lined.now.blocks.now c.requires.boxes (blocks_count b c.args.lined.now.members.now c.args.lined.now.boxes.now c.args.lined.now.blocks.now c.requires.boxes c.requires.blocks) in
    let count : length c.deref-2.result.now ≡ length c.args.lined.now.members.now = ap length (c.deref-2.ensures.value ∙ c.in_ok-outers.ensures) ∙ pair_count (member_outer b c.args.column) c.args.lined.now.members.now c.deref.result.now owns in
    subst (λ (k : ℕ). AreRanges k c.args.lined.now.ranges.now) (sym count) c.requires.ranges

pub sittings-requires-clause-counted : goal.sittings-requires-clause-counted
sittings-requires-clause-counted c =
    let b = bare c.args.tree.now.tree in
    ap length (c.deref-3.ensures.value ∙ c.in_ok-own.ensures) ∙
    triple_count (member_cross b c.args.column c.args.cross) c.args.lined.now.members.now c.args.lined.now.boxes.now c.args.lined.now.blocks.now c.requires.boxes (blocks_count b c.args.lined.now.members.now c.args.lined.now.boxes.now c.args.lined.now.blocks.now c.requires.boxes c.requires.blocks)

pub flex_frames-requires-clause-few : goal.flex_frames-requires-clause-few
flex_frames-requires-clause-few c =
    let b = bare c.args.tree.now.tree in
    let owns : length c.deref-3.result.now ≡
    length c.args.lined.now.members.now = ap length (c.deref-3.ensures.value ∙ c.in_ok-own.ensures) ∙
    triple_count (member_cross b c.args.column c.args.cross) c.args.lined.now.members.now c.args.lined.now.boxes.now c.args.lined.now.blocks.now c.requires.boxes (blocks_count b c.args.lined.now.members.now c.args.lined.now.boxes.now c.args.lined.now.blocks.now c.requires.boxes c.requires.blocks) in
    let count : length c.deref-4.result.now ≡
    length c.args.lined.now.members.now = ap length (c.deref-4.ensures.value ∙ c.in_ok-children.ensures.value) ∙
    triple_count (member_sitting b c.args.id c.flex_of-flex.result.column c.flex_of-flex.result.cross) c.args.lined.now.members.now c.args.lined.now.mains.now c.deref-3.result.now c.requires.mains owns in
    omega (arith, count, members_few b c.args.id c.args.lined.now.members.now c.requires.members (c.requires.readable.children c.args.id))

pub flex_frames-requires-clause-lines : goal.flex_frames-requires-clause-lines
flex_frames-requires-clause-lines c =
    let x : Label = (sight_at (bare c.args.tree.now.tree) c.args.id).label in
    let same : length c.as_slice.result.now ≡ length c.args.lined.now.ranges.now = ap length (c.as_slice.ensures ∙ c.in_ok-sizes.ensures) ∙ crosses_count c.args.column x c.deref-2.result.now c.args.lined.now.ranges.now (Some c.args.cross) in
    omega (arith, same, c.requires.lines)

pub flex_frames-requires-clause-same : goal.flex_frames-requires-clause-same
flex_frames-requires-clause-same c =
    let x : Label = (sight_at (bare c.args.tree.now.tree) c.args.id).label in
    ap length (c.as_slice.ensures ∙ c.in_ok-sizes.ensures) ∙ crosses_count c.args.column x c.deref-2.result.now c.args.lined.now.ranges.now (Some c.args.cross)

pub flex_frames-requires-clause-ranges : goal.flex_frames-requires-clause-ranges
flex_frames-requires-clause-ranges c =
    let b = bare c.args.tree.now.tree in
    let owns : length c.deref-3.result.now ≡
    length c.args.lined.now.members.now = ap length (c.deref-3.ensures.value ∙ c.in_ok-own.ensures) ∙
    triple_count (member_cross b c.args.column c.args.cross) c.args.lined.now.members.now c.args.lined.now.boxes.now c.args.lined.now.blocks.now c.requires.boxes (blocks_count b c.args.lined.now.members.now c.args.lined.now.boxes.now c.args.lined.now.blocks.now c.requires.boxes c.requires.blocks) in
    let count : length c.deref-4.result.now ≡
    length c.args.lined.now.members.now = ap length (c.deref-4.ensures.value ∙ c.in_ok-children.ensures.value) ∙
    triple_count (member_sitting b c.args.id c.flex_of-flex.result.column c.flex_of-flex.result.cross) c.args.lined.now.members.now c.args.lined.now.mains.now c.deref-3.result.now c.requires.mains owns in
    subst (λ (k : ℕ). AreRanges k c.args.lined.now.ranges.now) (sym count) c.requires.ranges

pub returns : goal.returns
returns c =
    let b = bare c.args.tree.now.tree in
    let n = c.args.id in
    let column = c.args.column in
    let main = c.args.main in
    let cross = c.args.cross in
    let members = c.args.lined.now.members.now in
    let boxes = c.args.lined.now.boxes.now in
    let mains = c.args.lined.now.mains.now in
    let ranges = c.args.lined.now.ranges.now in
    let settled : List rules.Settled = settled_by b members boxes in
    let x : Label = (sight_at b n).label in
    let all : List frames.Sitting = zipped (frames.sitting_of column (Some cross)) settled mains in
    let own_is : c.in_ok-own.own.items ≡ map (rules.cross_box column (Some cross)) settled =
    c.in_ok-own.ensures ∙ ap (zipped3 (member_cross b column cross) members boxes) c.requires.blocks ∙ crosses_alike b n column cross members boxes in
    let outers_is : c.in_ok-outers.outers.items ≡ map (rules.outer_cross column (Some cross)) settled =
    c.in_ok-outers.ensures ∙ ap (zipped (member_outer b column) members) (c.deref.ensures.value ∙ own_is) ∙ outers_alike b n column cross members boxes in
    let sizes_is : c.as_slice.result.now ≡ rules.crosses_of column x settled ranges (Some cross) =
    c.as_slice.ensures ∙ c.in_ok-sizes.ensures ∙ ap (λ (os : List ℤ). crosses_by column x os ranges (Some cross)) (c.deref-2.ensures.value ∙ outers_is) in
    let units = c.in_ok-children.ensures.units in
    let children_is : c.in_ok-children.children.items ≡ map (sitting_of column cross x (numbered b n)) all =
    c.in_ok-children.ensures.value
    ∙ ap (λ (f : Container). zipped3 (member_sitting b n f.column f.cross) members mains c.deref-3.result.now) c.flex_of-flex.ensures
    ∙ ap (zipped3 (member_sitting b n column cross) members mains) (c.deref-3.ensures.value ∙ own_is)
    ∙ sittings_alike b n column cross members boxes mains (each_child (IsChild b n) members c.requires.members.children) units in
    let told = c.flex_frames.ensures column x main cross (numbered b n) all c.flex_of-flex.ensures (c.deref-4.ensures.value ∙ children_is) (given_alike b column (Some cross) members boxes mains c.requires.row units) in
    let Is : List Frame → Type 0 = λ fs. IfOk c.flex_frames.result (λ frames. frames ≡ fs) in
    subst Is (ap (λ (zs : List ℤ). flex_ordered (numbered b n) (flex_numbered column x main cross zs ranges all)) sizes_is ∙ ap (λ (y : Label). flex_ordered (numbered b n) (flex_numbered column y main cross (rules.crosses_of column y settled ranges (Some cross)) ranges all)) (flex_label b n)) told

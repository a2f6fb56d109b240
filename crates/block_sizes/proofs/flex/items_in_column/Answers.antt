use Rattle.std.proofs.Common.{arith, ap, subst, sym, ◌≡◌, ◌∙◌, ◌<◌, ℤ, List, length, get_or, pos, true, None}
use Rattle.placing.specs.Nodes.{bare, kid_at}
use Rattle.tree_rules.specs.FlexSizes as rules
use Rattle.inline_sizes.specs.Flexes.{IsChild, member_of}
use Rattle.placing.specs.declared.lined.Member.{Member}
use Rattle.block_sizes.specs.Settling.{block_of, settled_seen}
use Rattle.block_sizes.proofs.Settled.{item_settled, map_all, map_length, map_step, settled_block, settled_length, settled_member}
use Rattle.block_sizes.proofs.flex.items_in_column.Goals as goal

pub bounds-as_slice-index : goal.bounds-as_slice-index
bounds-as_slice-index c =
    let settled = settled_seen (bare c.args.tree.now.tree) c.args.id c.args.parts.now.boxes in
    omega (
      arith,
      c.loop-index-test.true,
      ap length c.as_slice-members.ensures,
      ap length c.as_slice.ensures,
      ap length c.requires.blocks,
      map_length block_of settled,
      settled_length (bare c.args.tree.now.tree) c.args.id c.args.parts.now.members c.args.parts.now.boxes
          c.requires.members.same c.requires.counted,
    )

pub loop-index-preserved : goal.loop-index-preserved
loop-index-preserved c =
    let b = bare c.args.tree.now.tree in
    let members = c.args.parts.now.members in
    let boxes = c.args.parts.now.boxes in
    let settled = settled_seen b c.args.id boxes in
    let k = c.loop-index.index in
    let x = c.index-members-index.result in
    let block = c.index-as_slice-index.result in
    let d : rules.Settled = rules.settled_at (member_of b x) (pos 0) in
    let h : k < length members = omega (arith, c.loop-index-test.true, ap length c.as_slice-members.ensures) in
    let z : Member = get_or c.as_slice-members.result.now k x in
    let few : k < length settled = omega (arith, h, settled_length b c.args.id members boxes c.requires.members.same c.requires.counted) in
    let member : (get_or settled k d).member ≡ member_of b z = settled_member b c.args.id members boxes k x d c.requires.members.same c.requires.counted h ∙ ap (λ (ms : List Member). member_of b (get_or ms k x)) (sym c.as_slice-members.ensures) in
    let its_block : block ≡ (get_or settled k d).down.block =
    settled_block settled c.args.parts.now.blocks k block d c.requires.blocks few (c.index-as_slice-index.is ∙ ap (λ (zs : List ℤ). get_or zs k block) c.as_slice.ensures) in
    map_step (rules.column_item None) settled k d c.loop-index.items.items _ c.column_item.result few c.loop-index.invariant c.in_ok-push.ensures.items
    (item_settled (get_or settled k d) (member_of b z) block c.column_item.result member its_block
    (c.column_item.ensures ∙ ap (λ (m : Member). rules.flex_item true None (kid_at b m.child).label (block, block)) c.index-members-index.is))

pub known_of-last-requires-clause-child : goal.known_of-last-requires-clause-child
known_of-last-requires-clause-child c =
    let h : c.loop-index.index < length c.args.parts.now.members = omega (arith, c.loop-index-test.true, ap length c.as_slice-members.ensures) in
    subst (IsChild (bare c.args.tree.now.tree) c.args.id) (sym (c.index-members-index.is ∙ ap (λ (ms : List Member). get_or ms c.loop-index.index c.index-members-index.result) c.as_slice-members.ensures)) (c.requires.members.children c.loop-index.index _ h)

pub column_item-requires-clause-live : goal.column_item-requires-clause-live
column_item-requires-clause-live c =
    let h : c.loop-index.index < length c.args.parts.now.members = omega (arith, c.loop-index-test.true, ap length c.as_slice-members.ensures) in
    (subst (IsChild (bare c.args.tree.now.tree) c.args.id) (sym (c.index-members-index.is ∙ ap (λ (ms : List Member). get_or ms c.loop-index.index c.index-members-index.result) c.as_slice-members.ensures)) (c.requires.members.children c.loop-index.index _ h)).live

pub returns : goal.returns
returns c =
    let settled = settled_seen (bare c.args.tree.now.tree) c.args.id c.args.parts.now.boxes in
    map_all (rules.column_item None) settled c.loop-index.index c.loop-index.items.items
    (omega (arith, c.loop-index-test.false, ap length c.as_slice-members.ensures, settled_length (bare c.args.tree.now.tree) c.args.id c.args.parts.now.members c.args.parts.now.boxes c.requires.members.same c.requires.counted))
    c.loop-index.invariant

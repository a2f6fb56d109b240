use Rattle.std.proofs.Common.{sym, ap, subst, ◌∙◌, ◌≡◌, [], false, List, ℕ, length}
use Rattle.std.specs.Prelude.{Some}
use Rattle.flex_lines.specs.Lines.{AreRanges}
use Rattle.part_rules.specs.declared.flex.FlexItem.{FlexItem}
use Rattle.placing.specs.Nodes.{BareTrees, IsLive, sight_at}
use Rattle.placing.specs.Walks.{Stopped, state}
use Rattle.placing.proofs.Leaves.{on_err}
use Rattle.placing.proofs.Walks.{stopped, ticked}
use Rattle.tree_rules.specs.AskedQueries.{inline_query}
use Rattle.tree_rules.specs.FlexSizes as rules
use Rattle.tree_rules.specs.declared.query.Query.{Query}
use Rattle.inline_sizes.specs.Flexes.{AreMembers, flex_seen}
use Rattle.block_sizes.proofs.FlexMade.{items_few, lines_made}
use Rattle.block_sizes.proofs.Settled.{covering_roomy, map_length, seen_length}
use Rattle.block_sizes.specs.Flexes.{AreCovering, HaveInner}
use Rattle.block_sizes.specs.Settling.{AreKnown, AreRoomy, row_items_seen}
use Rattle.walker.specs.Walkers.{nodes, seen}
use Rattle.block_sizes.proofs.begun.begin_row.Goals as goal

pub items_in_row-requires : goal.items_in_row-requires
items_in_row-requires g c =
    let back = sym (c.in_ok-parts.ensures.below (inline_query false [])).walk.bare_same in
    record {
      live = subst (λ (z : BareTrees). IsLive z c.args.id) back c.requires.live;
      readable = c.flex_in.ensures.stands.readable;
      direction = subst (λ (z : BareTrees). (sight_at z c.args.id).label.content.column ≡ false) back c.requires.direction;
      members = subst (AreMembers (nodes c.flex_in.new.walk) c.args.id) (sym c.as_slice.ensures) (subst (λ (z : BareTrees). AreMembers z c.args.id c.in_ok-parts.parts.members) back c.in_ok-parts.ensures.value);
      past = subst (λ (z : BareTrees). AreKnown z c.args.id c.args.width c.args.past.now) back c.requires.past;
    }

pub node_at-requires : goal.node_at-requires
node_at-requires g c = subst (λ (z : BareTrees). IsLive z c.args.id) (sym (c.in_ok-parts.ensures.below (inline_query false [])).walk.bare_same) c.requires.live

pub row_lines-requires : goal.row_lines-requires
row_lines-requires g c = record
    { few = items_few (nodes c.flex_in.new.walk) c.args.id c.args.width c.deref.result.now c.flex_in.ensures.stands.readable (c.deref.ensures.value ∙ c.in_ok-items.ensures.value) }

pub returns-in_err-items-clause-stopped : goal.returns-in_err-items-clause-stopped
returns-in_err-items-clause-stopped g c =
    let all : (q : Query) → Stopped c.args.id q (seen g.R.Ruler.log c.args.walk.now) (seen g.R.Ruler.log c.flex_in.new.walk) = λ q. stopped c.args.id q 0 _ _ (c.in_ok-parts.ensures.below q) in
    on_err _ _ all

pub returns-in_err-lines-clause-stopped : goal.returns-in_err-lines-clause-stopped
returns-in_err-lines-clause-stopped g c =
    let all : (q : Query) → Stopped c.args.id q (seen g.R.Ruler.log c.args.walk.now) (state c.flex_in.new.walk.tree.now c.flex_in.new.walk.tally.now c.row_lines.new.passes (g.R.Ruler.log c.flex_in.new.walk.ruler.now)) =
    λ q. stopped c.args.id q 1 _ _ (ticked c.args.id q 0 1 _ _ c.row_lines.new.passes c.row_lines.ensures.ticks (c.in_ok-parts.ensures.below q)) in
    on_err _ _ all

pub returns-clause-same : goal.returns-clause-same
returns-clause-same g c = (c.in_ok-parts.ensures.below (inline_query false [])).walk.bare_same

pub returns-clause-items : goal.returns-clause-items
returns-clause-items g c = c.in_ok-items.ensures.value ∙ ap (λ (z : BareTrees). row_items_seen z c.args.id c.args.width) (c.in_ok-parts.ensures.below (inline_query false [])).walk.bare_same

pub returns-clause-lines : goal.returns-clause-lines
returns-clause-lines g c =
    lines_made (nodes c.flex_in.new.walk) c.args.id c.args.width c.node_at.result.now.style c.deref.result.now c.in_ok-lines.lines c.node_at.ensures.grid c.node_at.ensures.content (c.deref.ensures.value ∙ c.in_ok-items.ensures.value) c.in_ok-lines.ensures.value
    ∙ ap (λ (z : BareTrees). rules.row_lines (flex_seen z c.args.id) c.args.width) (c.in_ok-parts.ensures.below (inline_query false [])).walk.bare_same

pub returns-clause-ranges : goal.returns-clause-ranges
returns-clause-ranges g c =
    subst (λ (k : ℕ). AreRanges k c.in_ok-lines.lines.ranges) (ap length (c.deref.ensures.value ∙ c.in_ok-items.ensures.value) ∙ map_length (λ (m : rules.Member). rules.flex_item false (Some c.args.width) m.kid.label m.inline) (flex_seen (nodes c.flex_in.new.walk) c.args.id).members
    ∙ ap (λ (z : BareTrees). length (flex_seen z c.args.id).members) (c.in_ok-parts.ensures.below (inline_query false [])).walk.bare_same ∙ seen_length (nodes c.args.walk.now) c.args.id c.in_ok-parts.parts.members c.in_ok-parts.ensures.value.same) c.in_ok-lines.ensures.ranges

pub returns-clause-roomy : goal.returns-clause-roomy
returns-clause-roomy g c =
    subst (λ (z : BareTrees). AreRoomy (flex_seen z c.args.id).members c.in_ok-lines.lines.mains) (c.in_ok-parts.ensures.below (inline_query false [])).walk.bare_same
    (covering_roomy c.args.width (flex_seen (nodes c.flex_in.new.walk) c.args.id).members c.in_ok-lines.lines.mains
    (subst (λ (l : List FlexItem). AreCovering l c.in_ok-lines.lines.mains) (c.deref.ensures.value ∙ c.in_ok-items.ensures.value) (c.in_ok-lines.ensures.cover (subst HaveInner (sym c.deref.ensures.value) c.in_ok-items.ensures.inner))))

pub returns-clause-below : goal.returns-clause-below
returns-clause-below g c = λ q. ticked c.args.id q 0 1 _ _ c.row_lines.new.passes c.row_lines.ensures.ticks (c.in_ok-parts.ensures.below q)

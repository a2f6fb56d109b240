-- The questions of a flex container lead to its children.
use Rattle.std.proofs.Common.{◌≡◌, ◌∙◌, ap, subst, sym, ◌+◌, ℤ, Bool, true, false, if◌then◌else◌, List, [], ◌++◌, drop, map}
use Rattle.std.specs.Prelude.{Contains}
use Rattle.std.proofs.lemmas.List.Elements.{Contains-append_left, Contains-append_right}
use Rattle.inline_sizes.specs.Flexes.{flex_seen}
use Rattle.node_arena.specs.declared.number.NodeId.{NodeId}
use Rattle.placing.specs.Nodes.{BareTrees, kids_at, sight_at}
use Rattle.tree_rules.specs.AskedQueries.{ToChild, asks_frames, block_query, flex_asks_block, flex_asks_inline, frame_width, settled_in, uses_by}
use Rattle.tree_rules.specs.FlexSizes as rules
use Rattle.tree_rules.specs.Frames.{given_size}
use Rattle.tree_rules.specs.Labels.{Label}
use Rattle.tree_rules.specs.Orders.{numbered_from}
use Rattle.tree_rules.specs.Queries.{needs_inline}
use Rattle.tree_rules.specs.Whole.{step}
use Rattle.tree_rules.specs.declared.kind.NodeKind.{NodeKind}
use Rattle.tree_rules.specs.declared.kind.NodeKind.TheVariants as kind
use Rattle.tree_rules.specs.declared.query.Query.{Query}
use Rattle.block_sizes.proofs.Blocks.{settled_map}
use Rattle.block_sizes.proofs.Leading.{contains_drop, map_drop}
use Rattle.block_sizes.proofs.Settled.{flex_label}
use Rattle.block_sizes.specs.Settling.{LeadsTo, column_boxes_seen, settled_seen}

module _ (b : BareTrees) (n : NodeId) (q : Query) where
  settled : List rules.Settled
  settled = settled_in (flex_seen b n) (given_size q.inline)

  inlines : List ToChild
  inlines = map flex_asks_inline (flex_seen b n).members

  blocks : List ToChild
  blocks = map flex_asks_block settled

  widths : List ToChild
  widths = if asks_frames (flex_seen b n) q.ask then map frame_width (numbered_from 0 (((step (sight_at b n).label (sight_at b n).chain (kids_at b n)).down q.reps q.inline).frames q.block)) else []

  -- all questions of a flex container
  uses_are : (k : NodeKind) → k ≡ kind.Flex → uses_by k (sight_at b n).label (sight_at b n).chain (kids_at b n) q ≡ inlines ++ (if needs_inline q.ask then blocks else []) ++ widths
  unfolding flex_seen settled inlines blocks widths
  uses_are k e = ap (λ (z : NodeKind). uses_by z (sight_at b n).label (sight_at b n).chain (kids_at b n) q) e

  leads_by : (boxes : List ℤ) → (sight_at b n).label.kind ≡ kind.Flex → needs_inline q.ask ≡ true → settled_seen b n boxes ≡ settled_in (flex_seen b n) (given_size q.inline) → LeadsTo b n boxes q
  unfolding settled blocks
  leads_by boxes is needs same k s next =
      let asked : ToChild = (s.member.number, block_query false [] s.inline) in
      subst (λ (l : List ToChild). Contains l asked) (sym (uses_are (sight_at b n).label.kind is))
      (Contains-append_left (inlines ++ (if needs_inline q.ask then blocks else [])) widths asked
      (Contains-append_right inlines (if needs_inline q.ask then blocks else []) asked
      (subst (λ (t : Bool). Contains (if t then blocks else []) asked) (sym needs)
      (subst (λ (ss : List rules.Settled). Contains (map flex_asks_block ss) asked) same
      (contains_drop (map flex_asks_block (settled_seen b n boxes)) (map flex_asks_block (drop (k + 1) (settled_seen b n boxes))) k asked
      (map_drop flex_asks_block (settled_seen b n boxes) (drop (k + 1) (settled_seen b n boxes)) k s next))))))

-- the children of a row
row_settled_in : (b : BareTrees) (n : NodeId) (width : ℤ) → (sight_at b n).label.content.column ≡ false → settled_seen b n (rules.row_lines (flex_seen b n) width).mains ≡ settled_in (flex_seen b n) width
unfolding settled_seen
row_settled_in b n width flow =
    ap (λ (t : Bool). if t then rules.column_settled (flex_seen b n) width else rules.row_settled (flex_seen b n) (rules.row_lines (flex_seen b n) width)) (sym flow ∙ ap (λ (x : Label). x.content.column) (flex_label b n))

-- the children of a column
column_settled_in : (b : BareTrees) (n : NodeId) (width : ℤ) → (sight_at b n).label.content.column ≡ true → settled_seen b n (column_boxes_seen b n width) ≡ settled_in (flex_seen b n) width
unfolding settled_seen
column_settled_in b n width flow =
    settled_map (rules.column_box (flex_seen b n).label width) (flex_seen b n).members
    ∙ ap (λ (t : Bool). if t then rules.column_settled (flex_seen b n) width else rules.row_settled (flex_seen b n) (rules.row_lines (flex_seen b n) width)) (sym flow ∙ ap (λ (x : Label). x.content.column) (flex_label b n))

-- A question whose answer depends on the width leads from a row to each child, for its block size at its main size.
pub row_leads : (b : BareTrees) (n : NodeId) (width : ℤ) (q : Query) (boxes : List ℤ) → (sight_at b n).label.kind ≡ kind.Flex → (sight_at b n).label.content.column ≡ false → given_size q.inline ≡ width → needs_inline q.ask ≡ true →
    boxes ≡ (rules.row_lines (flex_seen b n) width).mains → LeadsTo b n boxes q
row_leads b n width q boxes is flow w needs e =
    leads_by b n q boxes is needs (ap (settled_seen b n) e ∙ row_settled_in b n width flow ∙ ap (settled_in (flex_seen b n)) (sym w))

-- A question whose answer depends on the width leads from a column to each child, for its block size at the inline size that it has there.
pub column_leads : (b : BareTrees) (n : NodeId) (width : ℤ) (q : Query) (boxes : List ℤ) → (sight_at b n).label.kind ≡ kind.Flex → (sight_at b n).label.content.column ≡ true → given_size q.inline ≡ width → needs_inline q.ask ≡ true → boxes ≡ column_boxes_seen b n width → LeadsTo b n boxes q
column_leads b n width q boxes is flow w needs e =
    leads_by b n q boxes is needs (ap (settled_seen b n) e ∙ column_settled_in b n width flow ∙ ap (settled_in (flex_seen b n)) (sym w))

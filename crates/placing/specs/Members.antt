-- What the children of a flex container tell, child by child, and in which order they stand (CSS Flexbox 1, 5.4 and section 9; own rule).
use Rattle.std.specs.Prelude.{◌≡◌, ℕ, ℤ, false, true, List, [], ◌∷◌, Some, None, map, slice_get, if◌then◌else◌}
use Rattle.node_arena.specs.declared.number.NodeId.{NodeId}
use Rattle.part_rules.specs.declared.flex.FlexItem.{FlexItem}
use Rattle.tree_rules.specs.Answers.{Kid}
use Rattle.tree_rules.specs.FlexSizes as rules
use Rattle.tree_rules.specs.Labels.{Label}
use Rattle.tree_rules.specs.Places.{Seen}
use Rattle.placing.specs.declared.lined.Member.{Member}
use Rattle.placing.specs.declared.lined.ToldAlong.{ToldAlong}
use Rattle.placing.specs.declared.lined.ToldMember.{ToldMember}
use Rattle.placing.specs.Order.{numbers_in_order}
use Rattle.placing.specs.Wides.{kids_in}

-- ---- the order of the children

-- a fact of each
abbrev pub Every : {A : Type 0} → (A → Type 0) → List A → Type 0
Every P [] = Unit {0}
Every P (e ∷ es) = P e × Every P es

-- a child and its number in document order
abbrev pub Place : Type 0
Place = ℕ × NodeId

abbrev pub IsPlace : List NodeId → Place → Type 0
IsPlace kids p = slice_get kids p.0 ≡ Some p.1

abbrev pub number_of : Place → ℕ
number_of p = p.0

-- They are the children of a node of which the rules see this, in order-modified document order.
pub record AreInOrder (s : Seen) (kids : List NodeId) (places : List Place) : Type 0 where
  pub numbers : map number_of places ≡ numbers_in_order (map (λ (k : Kid). k.label.grid.order) (kids_in s))
  pub children : Every (IsPlace kids) places

-- ---- for the inline sizes

-- a child of which the rules see this, with the sizes that it told
abbrev pub member_with : Kid → Member → rules.Member
member_with k m = record { number = m.number; kid = k; inline = m.inline }

abbrev pub place_of : ToldMember → Place
place_of e = (e.member.number, e.member.child)

abbrev pub turn_in : ToldMember → ℕ
turn_in e = e.turn

-- The child told its two intrinsic inline sizes, and what it contributes by each.
pub record Tells (k : Kid) (e : ToldMember) : Type 0 where
  pub inline : e.member.inline ≡ k.answers.inline []
  pub low : e.low ≡ rules.inline_contribution (member_with k e.member) e.member.inline.0
  pub high : e.high ≡ rules.inline_contribution (member_with k e.member) e.member.inline.1

-- ---- for the block size

abbrev pub along_place : ToldAlong → Place
along_place e = (e.number, e.child)

abbrev pub along_turn : ToldAlong → ℕ
along_turn e = e.turn

-- a child of which the rules see this, with its two intrinsic inline sizes, whatever its number in document order
abbrev pub member_in : Kid → rules.Member
member_in k = record { number = 0; kid = k; inline = k.answers.inline [] }

-- A child of this block size along the main axis of a container of these values and this inline size: in a column where the
-- block size of the container is not known (CSS Flexbox 1, 9.2).
abbrev pub item_along : Label → ℤ → Kid → ℤ → FlexItem
item_along x width k block =
    let down = rules.flex_item true None k.label (block, block) in
    let across = rules.flex_item false (Some width) k.label (k.answers.inline []) in
    if x.content.column then down else across

-- The child told this in a container of these values and this inline size (CSS Flexbox 1, 9.3 and 9.4).
pub record TellsAlong (x : Label) (width : ℤ) (k : Kid) (e : ToldAlong) : Type 0 where
  pub size : x.content.column ≡ true → e.size ≡ rules.column_box x width (member_in k)
  pub block : e.block ≡ (rules.settled_at (member_in k) e.size).down.block
  pub item : e.item ≡ item_along x width k e.block

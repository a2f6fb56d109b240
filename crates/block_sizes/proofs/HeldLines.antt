-- A row and a column as an answer holds them are those that the walk tells, and the other way round.
use Rattle.std.proofs.Common.{◌≡◌, ℕ, zero, suc, ℤ, List, [], ◌∷◌, Some, arith, map, drop, refl, sym, ap, ◌∙◌}
use Rattle.std.specs.Prelude.{All, slice_get}
use Rattle.node_arena.specs.declared.number.NodeId.{NodeId}
use Rattle.node_arena.specs.Numbers.{below_at, child_at}
use Rattle.node_arena.proofs.Standing.{some_is}
use Rattle.placing.proofs.Each.{Each, all_each}
use Rattle.placing.specs.Children.{IsTree}
use Rattle.placing.specs.Lined.{AreMembersIn, HoldsColumn, HoldsRow, flex_in, settled_in}
use Rattle.placing.specs.Nodes.{BareTrees, children_at, kid_at, sight_at}
use Rattle.placing.specs.declared.lined.ColumnParts.{ColumnParts}
use Rattle.placing.specs.declared.lined.Member.{Member}
use Rattle.placing.specs.declared.lined.RowParts.{RowParts}
use Rattle.tree_rules.specs.FlexSizes as rules
use Rattle.inline_sizes.proofs.Held.{tops_get}
use Rattle.inline_sizes.specs.Flexes.{AreMembers, IsChild, flex_seen, member_of}
use Rattle.block_sizes.specs.Settling.{IsColumn, IsRow, settled_seen}

-- what comes next in a list stands there
get_next : {A : Type 0} (xs ys : List A) (k : ℕ) (y : A) → drop k xs ≡ y ∷ ys → slice_get xs k ≡ Some y
get_next [] ys zero y e = absurd cc
get_next [] ys (suc k) y e = absurd cc
get_next (x ∷ xs) ys zero y e = let same : x ≡ y = cc in ap Some same
get_next (x ∷ xs) ys (suc k) y e = get_next xs ys k y e

pub each_of : {A : Type 0} (P : A → Type 0) (xs : List A) → All P xs → Each P xs
each_of P [] h = tt
each_of P (x ∷ rest) h = (h 0 x (omega arith), each_of P rest (λ k d l. h (suc k) d (omega (arith, l))))

module _ (b : BareTrees) (n : NodeId) (tree : IsTree b) where
  members_held : (ms : List Member) (rs : List rules.Member) → map (member_of b) ms ≡ rs → Each (IsChild b n) ms → AreMembersIn (sight_at b n) (children_at b n) ms rs
  members_held [] [] e h = tt
  members_held [] (r ∷ rs) e h = absurd cc
  members_held (m ∷ ms) [] e h = absurd cc
  members_held (m ∷ ms) (r ∷ rs) e h =
      let first : member_of b m ≡ r = cc in
      let rest : map (member_of b) ms ≡ rs = cc in
      let next = tree.next n m.child m.number h.0.number in (
        record {
          number = ap (λ (z : rules.Member). z.number) first;
          inline = ap (λ (z : rules.Member). z.inline) first;
          kid = get_next _ _ m.number (kid_at b m.child) next.kids ∙ ap (λ (z : rules.Member). Some z.kid) first;
          child = get_next _ _ m.number m.child next.children;
        },
        members_held ms rs rest h.1,
      )

  -- they are those of the definitions, and each is the child of its number
  abbrev Are : List Member → List rules.Member → Type 0
  Are ms rs = (map (member_of b) ms ≡ rs) × Each (IsChild b n) ms

  held_members : (ms : List Member) (rs : List rules.Member) → AreMembersIn (sight_at b n) (children_at b n) ms rs → Are ms rs
  held_members [] [] h = (refl, tt)
  held_members [] (r ∷ rs) h = absurd h
  held_members (m ∷ ms) [] h = absurd h
  held_members (m ∷ ms) (r ∷ rs) h =
      let number : child_at b n m.number ≡ Some m.child = tops_get (below_at b n) m.number ∙ h.0.child in
      let next = tree.next n m.child m.number number in
      let kid : kid_at b m.child ≡ r.kid = some_is (kid_at b m.child) r.kid (sym (get_next _ _ m.number (kid_at b m.child) next.kids) ∙ h.0.kid) in
      let rest = held_members ms rs h.1 in (
        λ i. record { number = h.0.number i; kid = kid i; inline = h.0.inline i } ∷ rest.0 i,
        (record { number = number; live = next.live }, rest.1),
      )

  are_members : (ms : List Member) → AreMembersIn (sight_at b n) (children_at b n) ms (flex_seen b n).members → AreMembers b n ms
  are_members ms h = let are = held_members ms (flex_seen b n).members h in record { same = are.0; children = all_each (IsChild b n) ms are.1 }

  pub row_held : (width : ℤ) (row : RowParts) → IsRow b n width row → HoldsRow (sight_at b n) (children_at b n) width row
  unfolding flex_seen flex_in settled_seen settled_in
  row_held width row h =
      record {
        children = members_held row.members (flex_seen b n).members h.children.same (each_of (IsChild b n) row.members h.children.children);
        along = h.along;
        ranges = h.ranges;
        across = h.across;
      }

  pub held_row : (width : ℤ) (row : RowParts) → HoldsRow (sight_at b n) (children_at b n) width row → IsRow b n width row
  unfolding flex_seen flex_in settled_seen settled_in
  held_row width row h = record { children = are_members row.members h.children; along = h.along; ranges = h.ranges; across = h.across }

  pub column_held : (width : ℤ) (column : ColumnParts) → IsColumn b n width column → HoldsColumn (sight_at b n) (children_at b n) width column
  unfolding flex_seen flex_in settled_seen settled_in
  column_held width column h =
      record {
        children = members_held column.members (flex_seen b n).members h.children.same (each_of (IsChild b n) column.members h.children.children);
        across = h.across;
        along = h.along;
      }

  pub held_column : (width : ℤ) (column : ColumnParts) → HoldsColumn (sight_at b n) (children_at b n) width column → IsColumn b n width column
  unfolding flex_seen flex_in settled_seen settled_in
  held_column width column h = record { children = are_members column.members h.children; across = h.across; along = h.along }

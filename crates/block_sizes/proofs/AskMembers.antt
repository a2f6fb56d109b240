-- A flex container asks its children one after another for their block sizes.
use Rattle.std.proofs.Common.{arith, ap, subst, sym, refl, ◌≡◌, ◌∙◌, ℕ, zero, suc, ◌+◌, ◌<◌, ℤ, ◌≤ℤ◌, Bool, true, false, ◌&&◌, List, [], ◌∷◌, ◌++◌, drop, length, map, Some, append_assoc}
use Rattle.std.specs.Prelude.{get_or, not}
use Rattle.std.proofs.lemmas.List.{get_or-map}
use Rattle.inline_sizes.proofs.Asked.{chain_in_flex}
use Rattle.inline_sizes.specs.Flexes.{AreMembers, IsChild, flex_seen, member_of}
use Rattle.placing.specs.declared.lined.Member.{Member}
use Rattle.placing.specs.Members.{member_in}
use Rattle.node_arena.specs.declared.number.NodeId.{NodeId}
use Rattle.node_arena.specs.Numbers.{child_at}
use Rattle.placing.specs.Children.{IsNext, IsTree}
use Rattle.placing.specs.Nodes.{BareTrees, IsLive, kid_at, sight_at, size_at}
use Rattle.tree_rules.specs.AskedQueries.{block_query}
use Rattle.tree_rules.specs.Chains.{has_chain, is_subgrid}
use Rattle.tree_rules.specs.FlexSizes as rules
use Rattle.tree_rules.specs.Frames.{given_box}
use Rattle.tree_rules.specs.Labels.{GridStyle}
use Rattle.tree_rules.specs.NodeSizes.{inner}
use Rattle.tree_rules.specs.Places.{Seen}
use Rattle.tree_rules.specs.Queries.{Fits, IsGivenFor, outer_context}
use Rattle.tree_rules.specs.declared.kind.NodeKind.TheVariants as kind
use Rattle.tree_rules.specs.declared.query.Given.{Given}
use Rattle.tree_rules.specs.declared.query.Given.TheVariants as given
use Rattle.block_sizes.proofs.Settled.{seen_length, settled_next}
use Rattle.block_sizes.specs.Settling.{AreRoomy, block_of, settled_seen}
use Rattle.placing.specs.Spread.{IsSpread}

-- ---- boxes with room

-- there is one for each child
pub roomy_length : (members : List rules.Member) (boxes : List ℤ) → AreRoomy members boxes → length boxes ≡ length members
roomy_length [] [] h = refl
roomy_length [] (x ∷ boxes) h = absurd h
roomy_length (m ∷ members) [] h = absurd h
roomy_length (m ∷ members) (x ∷ boxes) h = ap suc (roomy_length members boxes h.1)

roomy_at : (members : List rules.Member) (boxes : List ℤ) (k : ℕ) (m : rules.Member) (x : ℤ) → AreRoomy members boxes → k < length members → inner (get_or members k m).kid.label.grid.columns ≤ℤ get_or boxes k x
roomy_at [] boxes k m x h l = absurd (omega (arith, l))
roomy_at (o ∷ members) [] k m x h l = absurd h
roomy_at (o ∷ members) (y ∷ boxes) zero m x h l = h.0
roomy_at (o ∷ members) (y ∷ boxes) (suc k) m x h l = roomy_at members boxes k m x h.1 (omega (arith, l))

-- there are as many as members
pub boxes_counted : (b : BareTrees) (n : NodeId) (members : List Member) (boxes : List ℤ) → AreMembers b n members → AreRoomy (flex_seen b n).members boxes → length boxes ≡ length members
boxes_counted b n members boxes are room = roomy_length (flex_seen b n).members boxes room ∙ seen_length b n members are.same

-- ---- one child

-- What is known of the child at a place, and of its box: in the tree as it was (b) and as it is (d).
pub record IsAsked (b d : BareTrees) (n : NodeId) (boxes : List ℤ) (k : ℕ) (m : Member) (x : ℤ) : Type 0 where
  pub next : drop k (settled_seen b n boxes) ≡ rules.settled_at (member_of b m) x ∷ drop (k + 1) (settled_seen b n boxes)
  pub number : child_at b n m.number ≡ Some m.child
  pub live : IsLive d m.child
  pub none : (sight_at d m.child).chain ≡ []
  pub small : size_at d m.child < size_at b n
  pub room : inner (sight_at d m.child).label.grid.columns ≤ℤ x

pub asked_turn : (b d : BareTrees) (n : NodeId) (members : List Member) (boxes : List ℤ) (k : ℕ) (m : Member) (x : ℤ) → d ≡ b → IsTree b → AreMembers b n members → AreRoomy (flex_seen b n).members boxes → (sight_at b n).label.kind ≡ kind.Flex
    → k < length members → m ≡ get_or members k m → x ≡ get_or boxes k x → IsAsked b d n boxes k m x
asked_turn b d n members boxes k m x same tree are room flex h is at =
    let child : IsChild b n m = subst (IsChild b n) (sym is) (are.children k m h) in
    let next : IsNext b n m.number m.child = tree.next n m.child m.number child.number in
    let there : get_or (flex_seen b n).members k (member_of b m) ≡ member_of b m =
    sym (ap (λ (ms : List rules.Member). get_or ms k (member_of b m)) are.same) ∙ get_or-map (member_of b) members k m (member_of b m) h ∙ ap (member_of b) (sym is) in
    let fits : inner (member_of b m).kid.label.grid.columns ≤ℤ x =
    subst (λ (z : ℤ). inner (member_of b m).kid.label.grid.columns ≤ℤ z) (sym at)
    (subst (λ (o : rules.Member). inner o.kid.label.grid.columns ≤ℤ get_or boxes k x) there
    (roomy_at (flex_seen b n).members boxes k (member_of b m) x room (omega (arith, h, seen_length b n members are.same)))) in
    record {
      next = settled_next b n members boxes k m x are.same (boxes_counted b n members boxes are room) h is at;
      number = child.number;
      live = subst (λ (z : BareTrees). IsLive z m.child) (sym same) child.live;
      none = subst (λ (z : BareTrees). (sight_at z m.child).chain ≡ []) (sym same) (chain_in_flex b n m.child m.number next flex);
      small = subst (λ (z : BareTrees). size_at z m.child < size_at b n) (sym same) next.smaller;
      room = subst (λ (z : BareTrees). inner (sight_at z m.child).label.grid.columns ≤ℤ x) (sym same) fits;
    }

-- ---- its question

given_here : (n : ℕ) (w : Given) → IsGivenFor true false 0 w → IsGivenFor true false n w
given_here n (given.Size x) h = h
given_here n (given.Tracks edges gap) h = absurd h
given_here n given.None h = absurd h

-- the question for the block size at a size fits a node that sees no grid above it
pub fits_block : (s : Seen) (w : Given) → s.chain ≡ [] → IsGivenFor true false 0 w → Fits s (block_query false [] w)
fits_block s w none h = record {
  ask = ap (λ l. not (has_chain l && is_subgrid s.label.grid.rows.template)) none;
  reps = sym (ap length none);
  inline = subst (λ (t : Bool). IsGivenFor true t (outer_context s []).columns.table.tracks w) (sym (ap (λ l. has_chain l && is_subgrid s.label.grid.columns.template) none)) (given_here (outer_context s []).columns.table.tracks w h);
  block = refl;
}

-- a size has no edges
pub spread_none : (by : ℕ) (w : Given) → IsGivenFor true false 0 w → IsSpread by w
spread_none by (given.Size x) h = tt
spread_none by (given.Tracks edges gap) h = absurd h
spread_none by given.None h = tt

-- what the child is given is what the definition gives it
pub width_is : (b d : BareTrees) (m : Member) (x : ℤ) (g : GridStyle) (w : Given) → d ≡ b → g ≡ (sight_at d m.child).label.grid → w ≡ given_box g.columns x → w ≡ (rules.settled_at (member_of b m) x).inline
width_is b d m x g w same e value =
    value ∙ ap (λ (h : GridStyle). given_box h.columns x) e ∙ ap (λ (z : BareTrees). given_box (sight_at z m.child).label.grid.columns x) same

pub block_width : (b : BareTrees) (c : NodeId) (x : ℤ) (g : GridStyle) (w : Given) → g ≡ (sight_at b c).label.grid → w ≡ given_box g.columns x → w ≡ (rules.settled_at (member_in (kid_at b c)) x).inline
block_width b c x g w e value = value ∙ ap (λ (h : GridStyle). given_box h.columns x) e

-- ---- the block sizes so far

pub blocks_more : (settled : List rules.Settled) (k : ℕ) (s : rules.Settled) (old new all : List ℤ) (size : ℤ) → drop k settled ≡ s ∷ drop (k + 1) settled → new ≡ old ++ size ∷ [] → size ≡ block_of s → old ++ map block_of (drop k settled) ≡ all → new ++ map block_of (drop (k + 1) settled) ≡ all
blocks_more settled k s old new all size next grown is so_far =
    ap (λ (l : List ℤ). l ++ map block_of (drop (k + 1) settled)) (grown ∙ ap (λ (z : ℤ). old ++ z ∷ []) is)
    ∙ append_assoc old (block_of s ∷ []) (map block_of (drop (k + 1) settled))
    ∙ ap (λ (l : List rules.Settled). old ++ map block_of l) (sym next)
    ∙ so_far

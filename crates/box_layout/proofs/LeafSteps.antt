-- The leaves of grids keep their block sizes while the boxes are told, child by child.
use Rattle.std.proofs.Common.{arith, ◌≡◌, ◌≢◌, refl, sym, ap, ◌∙◌, subst, ℕ, ◌+◌, ◌≤◌, ◌<◌, ◌==◌, ℤ, Bool, true, false, [], ◌∷◌, List, Some, inl, inr, if◌then◌else◌}
use Rattle.std.specs.Prelude.{Contains, IsSome, None}
use Rattle.std.proofs.lemmas.Bool.{eqb-false, eqb-true, false≢true}
use Rattle.layout_cache.specs.Kept.{answer_to}
use Rattle.lunit.specs.declared.geometry.Area.{Area}
use Rattle.node_arena.specs.declared.number.NodeId.{NodeId}
use Rattle.node_arena.specs.Numbers.{IsDistinct, child_at, top_numbers}
use Rattle.placing.specs.Children.{IsOutside}
use Rattle.placing.specs.Keeping.{is_leaf}
use Rattle.placing.specs.Kept.{frame_of}
use Rattle.placing.specs.Nodes.{BareTrees, kids_at, sight_at}
use Rattle.placing.specs.Walks.{State, Walked, kept_in}
use Rattle.placing.specs.declared.contexts.Above.{Above}
use Rattle.placing.specs.declared.node.Frame.{Frame as NodeFrame}
use Rattle.tree_rules.specs.Answers.{Frame, Kid, Pair}
use Rattle.tree_rules.specs.AskedQueries.{ToChild, frames_query, passes_from, root_query}
use Rattle.tree_rules.specs.Boxes.{root_framed, root_of}
use Rattle.tree_rules.specs.Chains.{Link}
use Rattle.tree_rules.specs.Labels.{Label}
use Rattle.tree_rules.specs.Queries.{is_container}
use Rattle.tree_rules.specs.declared.kind.NodeKind.{NodeKind}
use Rattle.tree_rules.specs.declared.kind.NodeKind.TheVariants as kind
use Rattle.tree_rules.specs.declared.query.Ask.{Ask}
use Rattle.tree_rules.specs.declared.query.Ask.TheVariants as ask
use Rattle.tree_rules.specs.declared.query.Given.{Given}
use Rattle.tree_rules.specs.declared.query.Query.{Query}
use Rattle.box_layout.specs.Asking.{frames_asked}
use Rattle.box_layout.specs.LeafHeights.{AreLeavesKept, AreMeasured, MeasuresBelow, MeasuresLeaves, height_asked}
use Rattle.box_layout.specs.Paths.{IsChildLaid, Passes, its_own, on, passes_at}
use Rattle.box_layout.proofs.Apart.{IsUnder, not_below, not_sibling, passes_apart, passes_below, under_child, under_itself}
use Rattle.box_layout.proofs.BelowSteps.{IsTurn}
use Rattle.box_layout.proofs.KeptPaths.{none_there, one_there, only_passed, passed_out}
use Rattle.box_layout.proofs.Unframed.{sizes_below}

-- a leaf is no container
leaf_bare : (k : NodeKind) → is_leaf k ≡ true → is_container k ≡ false
leaf_bare kind.Grid e = absurd (false≢true e)
leaf_bare kind.Flex e = absurd (false≢true e)
leaf_bare (kind.Leaf content) e = refl

-- ---- what is passed on is a question for frames

passed_framed : (a : Ask) (x : Label) (chain : List Link) (kids : List Kid) (q : Query) (i : ℕ) (r : Query) → Contains (passes_from a x chain kids q) (i, r) → r.ask ≡ ask.Frames
passed_framed ask.Inline x chain kids q i r h = absurd (none_there {A = ToChild} (i, r) h)
passed_framed ask.LendColumns x chain kids q i r h = absurd (none_there {A = ToChild} (i, r) h)
passed_framed ask.Block x chain kids q i r h = absurd (none_there {A = ToChild} (i, r) h)
passed_framed ask.LendRows x chain kids q i r h = absurd (none_there {A = ToChild} (i, r) h)
passed_framed ask.Frames x chain kids q i r h = ap (λ (z : Query). z.ask) (passed_out _ kids _ 0 i r h).question

pub passes_framed : (b : BareTrees) (n m : NodeId) (q r : Query) → Passes b n q m r → q.ask ≡ ask.Frames → r.ask ≡ ask.Frames
passes_framed b _ _ _ _ (its_own n q) h = h
passes_framed b _ _ _ _ (on n c m q r s i is passed rest) h = passes_framed b c m r s rest (passed_framed q.ask (sight_at b n).label (sight_at b n).chain (kids_at b n) q i r passed)

-- what stands below a node on the way stands below the first one
leaf_under : (b : BareTrees) (d : IsDistinct b) (l e m : NodeId) (r p : Query) → Passes b e r m p → IsUnder b d m l → IsUnder b d e l
leaf_under b d l _ _ _ _ (its_own n q) h = h
leaf_under b d l _ _ _ _ (on n c m q r s i is passed rest) h = under_child b d n c l i is (leaf_under b d l c m r s rest h)

-- ---- the children that are gone through

-- what these pass on measures its leaves
abbrev pub AreMeasuredTo : BareTrees → NodeId → Query → ℕ → State → State → Type 0
AreMeasuredTo b n q few s t = (k : ℕ) (c : NodeId) (r : Query) → k < few → child_at b n k ≡ Some c → Contains (passes_at b n q) (k, r) → MeasuresBelow b c r s t

-- no frames were kept anew below the others
abbrev pub AreAbsentFrom : BareTrees → NodeId → Query → ℕ → State → State → Type 0
AreAbsentFrom b n q few s t = (k : ℕ) (c : NodeId) (r : Query) (m : NodeId) (p : Query) → few ≤ k → child_at b n k ≡ Some c → Contains (passes_at b n q) (k, r) → Passes b c r m p → answer_to p (kept_in s m) ≡ None → answer_to p (kept_in t m) ≡ None

pub none_measured : (b : BareTrees) (n : NodeId) (q : Query) (s t : State) → AreMeasuredTo b n q 0 s t
none_measured b n q s t = λ k c r within child passed. absurd (omega (arith, within))

pub all_absent : (b : BareTrees) (d : IsDistinct b) (n : NodeId) (q : Query) (s t : State) → Walked n q s t → AreAbsentFrom b n q 0 s t
all_absent b d n q s t w = λ k c r m p from child passed way none. sizes_below n q s t w m p (passes_below b d n c m k r p child way) (passes_framed b c m r p way (passed_framed q.ask (sight_at b n).label (sight_at b n).chain (kids_at b n) q k r passed)) none

module _ (b : BareTrees) (distinct : IsDistinct b) (n : NodeId) (outer : List Pair) (inline block : Given) (x y : ℤ) (i : ℕ) (c : NodeId) (reps : List Pair) (up : Above) (area : Area) (f : NodeFrame) (turn : IsTurn b n (frames_asked outer inline block) x y i c reps up area f) (s t u : State)
    (same : (m : NodeId) → IsOutside b c m → kept_in u m ≡ kept_in t m) where
  some_is : (y z : NodeId) → Some y ≡ Some z → y ≡ z
  some_is y z e = cc

  child_is : (k : ℕ) (e : NodeId) → k ≡ i → child_at b n k ≡ Some e → c ≡ e
  child_is k e place child = some_is c e (sym turn.next.number ∙ ap (child_at b n) (sym place) ∙ child)

  leaves_next : (is_container (sight_at b c).label.kind ≡ false → u ≡ t) → AreLeavesKept b n (frames_asked outer inline block) t → AreLeavesKept b n (frames_asked outer inline block) u
  leaves_next quiet kept k e g rest child leaf next = go (k == i) refl
    where
      go : (z : Bool) → (k == i) ≡ z → IsSome (answer_to (height_asked (sight_at b e).label g.rect.width) (kept_in u e))
      go true is =
          let node : c ≡ e = child_is k e (eqb-true k i is) child in
          let still : u ≡ t = quiet (subst (λ z. is_container (sight_at b z).label.kind ≡ false) (sym node) (leaf_bare (sight_at b e).label.kind leaf)) in
          subst (λ z. IsSome (answer_to (height_asked (sight_at b e).label g.rect.width) (kept_in z e))) (sym still) (kept k e g rest child leaf next)
      go false is =
          let other : k ≢ i = eqb-false k i is in
          let out : IsOutside b c e = passes_apart b distinct n e c e k i (frames_asked outer inline block) (frames_asked outer inline block) child turn.next.number other (its_own e (frames_asked outer inline block)) in
          subst (λ l. IsSome (answer_to (height_asked (sight_at b e).label g.rect.width) l)) (sym (same e out)) (kept k e g rest child leaf next)

  pub own_measured : (is_container (sight_at b c).label.kind ≡ false → u ≡ t) → MeasuresLeaves b n (frames_asked outer inline block) s t → MeasuresLeaves b n (frames_asked outer inline block) s u
  own_measured quiet own grid none = leaves_next quiet (own grid none)

  -- a node below an earlier child
  earlier : (k : ℕ) (e m : NodeId) (r p : Query) → k ≢ i → child_at b n k ≡ Some e → Passes b e r m p → AreLeavesKept b m p t → AreLeavesKept b m p u
  earlier k e m r p other child way kept j l g rest lower leaf next =
      let under : IsUnder b distinct e l = leaf_under b distinct l e m r p way (under_child b distinct m l l j lower (under_itself b distinct l)) in
      let out : IsOutside b c l = record { other = not_sibling b distinct n e c l k i child turn.next.number other under; below = not_below b distinct n e c l k i child turn.next.number other under } in
      subst (λ z. IsSome (answer_to (height_asked (sight_at b l).label g.rect.width) z)) (sym (same l out)) (kept j l g rest lower leaf next)

  pub measured_next : AreMeasuredTo b n (frames_asked outer inline block) i s t → AreAbsentFrom b n (frames_asked outer inline block) i s t
      → (is_container (sight_at b c).label.kind ≡ true → MeasuresBelow b c (frames_asked reps f.inline f.block) t u) → AreMeasuredTo b n (frames_asked outer inline block) (i + 1) s u
  measured_next done absent now k e r within child passed = go (k == i) refl
    where
      go : (z : Bool) → (k == i) ≡ z → MeasuresBelow b e r s u
      go true is =
          let place : k ≡ i = eqb-true k i is in
          let node : c ≡ e = child_is k e place child in
          let only = only_passed b n c reps outer inline block i (frame_of f) _ _ r turn.next.kids turn.frame turn.pairs (subst (λ z. Contains (passes_at b n (frames_asked outer inline block)) (z, r)) place passed) in
          let all : MeasuresBelow b e r t u = subst (λ z. MeasuresBelow b z r t u) node (subst (λ z. MeasuresBelow b c z t u) (sym only.question) (now only.container)) in
          λ m p way grid none. all m p way grid (absent k e r m p (omega (arith, place)) child passed way none)
      go false is =
          let other : k ≢ i = eqb-false k i is in
          λ m p way grid none. earlier k e m r p other child way (done k e r (omega (arith, within, other)) child passed m p way grid none)

  pub absent_next : AreAbsentFrom b n (frames_asked outer inline block) i s t → AreAbsentFrom b n (frames_asked outer inline block) (i + 1) s u
  absent_next absent k e r m p from child passed way none =
      let other : k ≢ i = apart (omega (arith, from)) in
      subst (λ l. answer_to p l ≡ None) (sym (same m (passes_apart b distinct n e c m k i r p child turn.next.number other way))) (absent k e r m p (omega (arith, from)) child passed way none)
    where
      apart : i < k → k ≢ i
      apart h e = absurd (omega (arith, h, e))

-- nothing was done to a child that is no container
pub untold : (d : BareTrees) (c : NodeId) (r : Query) (t u : State) → IsChildLaid d c r t u → is_container (sight_at d c).label.kind ≡ false → u ≡ t
untold d c r t u (inl e) leaf = e
untold d c r t u (inr k) leaf = absurd (false≢true (sym leaf ∙ k.0))

-- all of them
pub all_measured : (b : BareTrees) (n : NodeId) (q : Query) (s t : State) → MeasuresLeaves b n q s t → ((k : ℕ) (c : NodeId) (r : Query) → child_at b n k ≡ Some c → Contains (passes_at b n q) (k, r) → MeasuresBelow b c r s t) → MeasuresBelow b n q s t
all_measured b n q s t own done m r way = go n q m r way own done
  where
    go : (n : NodeId) (q : Query) (m : NodeId) (r : Query) → Passes b n q m r → MeasuresLeaves b n q s t → ((k : ℕ) (c : NodeId) (r : Query) → child_at b n k ≡ Some c → Contains (passes_at b n q) (k, r) → MeasuresBelow b c r s t) → MeasuresLeaves b m r s t
    go _ _ _ _ (its_own n q) own done = own
    go _ _ _ _ (on n c m q r p index child passed way) own done = done index c r child passed m p way

-- ---- the whole tree

pub measured_root : (b : BareTrees) (root : NodeId) (width height : ℤ) (f : Frame) (s t u : State) → top_numbers b ≡ root ∷ [] → f ≡ (root_framed width height (root_of (sight_at b root).label (sight_at b root).below)).frame
    → ((m : NodeId) (p : Query) → p.ask ≡ ask.Frames → answer_to p (kept_in s m) ≡ None → answer_to p (kept_in t m) ≡ None)
    → (is_container (sight_at b root).label.kind ≡ true → MeasuresBelow b root (frames_asked [] f.inline f.block) t u) → AreMeasured b width height s u
measured_root b root width height f s t u top is absent measured m q way = go (is_container (sight_at b root).label.kind) refl own_here
  where
    first_one : (x y : NodeId) → x ∷ [] ≡ y ∷ [] → x ≡ y
    first_one x y e = cc

    same_root : way.root ≡ root
    same_root = first_one way.root root (sym way.top ∙ top)

    own_here : Contains (root_query width height (sight_at b root).label (sight_at b root).below) (0, way.first)
    own_here = subst (λ z. Contains (root_query width height (sight_at b z).label (sight_at b z).below) (0, way.first)) same_root way.own

    passes_here : Passes b root way.first m q
    passes_here = subst (λ z. Passes b z way.first m q) same_root way.passes

    go : (z : Bool) → is_container (sight_at b root).label.kind ≡ z → Contains {X = ToChild} (if z then (0, frames_query [] (root_framed width height (root_of (sight_at b root).label (sight_at b root).below)).frame) ∷ [] else []) (0, way.first) → MeasuresLeaves b m q s u
    go true container there =
        let question : frames_asked [] f.inline f.block ≡ way.first = (λ i. frames_query [] (is i)) ∙ ap (λ (z : ToChild). z.1) (one_there _ _ there) in
        let passes : Passes b root (frames_asked [] f.inline f.block) m q = subst (λ z. Passes b root z m q) (sym question) passes_here in
        λ grid none. measured container m q passes grid (absent m q (passes_framed b root m (frames_asked [] f.inline f.block) q passes refl) none)
    go false container there = absurd (none_there {A = ToChild} (0, way.first) there)

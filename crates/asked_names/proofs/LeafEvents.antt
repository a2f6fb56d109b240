-- A leaf of a grid that kept nothing is measured at the content width of its box.
use Rattle.std.proofs.Common.{◌≡◌, refl, sym, ap, ◌∙◌, subst, arith, ℕ, zero, suc, ◌-◌, ℤ, Bool, true, false, List, [], ◌∷◌, ◌++◌, drop, length, Some, IsSome, inl, inr}
use Rattle.std.specs.Prelude.{◌⊎◌, Contains, if◌then◌else◌}
use Rattle.std.proofs.lemmas.Bool.{false≢true}
use Rattle.std.proofs.lemmas.List.Elements.{Contains-append_left, Contains-append_right}
use Rattle.plain_tree.specs.Trees.{leafless, tree}
use Rattle.layout_cache.specs.Kept.{answer_to}
use Rattle.layout_cache.proofs.Sames.{query_is}
use Rattle.node_arena.specs.declared.number.NodeId.{NodeId}
use Rattle.node_arena.specs.Numbers.{IsDistinct, same, top_numbers}
use Rattle.node_arena.proofs.Same.{part_there, same_from, same_is}
use Rattle.node_arena.proofs.Standing.{way_here, way_some}
use Rattle.outside.specs.declared.event.Event.{Event}
use Rattle.placing.specs.Keeping.{is_leaf}
use Rattle.placing.specs.Nodes.{BareTrees, level_at, sight_at}
use Rattle.placing.specs.Walks.{Entry, State, entries_of, events_at, events_by, events_of, kept_in, kept_with}
use Rattle.placing.specs.declared.node.Answer.{Answer}
use Rattle.placing.proofs.Parents.{top_live}
use Rattle.placing.proofs.Sights.{next_there}
use Rattle.tree_rules.specs.Answers.{Box}
use Rattle.tree_rules.specs.Queries.{same_query}
use Rattle.tree_rules.specs.declared.kind.NodeKind.{NodeKind}
use Rattle.tree_rules.specs.declared.kind.NodeKind.TheVariants as kind
use Rattle.tree_rules.specs.declared.query.Query.{Query}
use Rattle.box_layout.specs.BoxesSeen.{bare_boxes}
use Rattle.box_layout.specs.LeafHeights.{AreMeasured, height_asked}
use Rattle.asked_names.specs.Asked.{AreNamed, IsNewLeaf, measured_at, name_in}
use Rattle.asked_names.proofs.BoxFrames.{IsFrameBox, box_there}
use Rattle.asked_names.proofs.Containers.{parent_live}
use Rattle.asked_names.proofs.Pigeons.{in_front}

-- ---- an answer that is kept

-- a pair has this question
Has : Query → List (Query × Answer) → Type 0
Has r [] = ⊥
Has r (p ∷ rest) = (p.0 ≡ r) ⊎ Has r rest

has_answer : (r : Query) (xs : List (Query × Answer)) → IsSome (answer_to r xs) → Has r xs
unfolding Has
has_answer r [] h = absurd cc
has_answer r (p ∷ rest) h = at (same_query p.0 r) refl h (has_answer r rest)
  where
    at : (t : Bool) → same_query p.0 r ≡ t → IsSome (if t then Some p.1 else answer_to r rest) → (IsSome (answer_to r rest) → Has r rest) → (p.0 ≡ r) ⊎ Has r rest
    at true e k rec = inl (query_is p.0 r e)
    at false e k rec = inr (rec k)

has_drop : (r : Query) (k : ℕ) (xs : List (Query × Answer)) → Has r (drop k xs) → Has r xs
unfolding Has
has_drop r zero xs h = h
has_drop r (suc k) [] h = h
has_drop r (suc k) (x ∷ xs) h = inr (has_drop r k xs h)

has_new : (r : Query) (xs : List (Query × Answer)) → IsSome (answer_to r (kept_with [] xs)) → Has r xs
has_new r xs h = has_drop r (length ([] ++ xs) - 16) xs (has_answer r (drop (length ([] ++ xs) - 16) xs) h)

-- its event is among those of the entries
event_there : (b : BareTrees) (c : NodeId) (r : Query) (ev : Event) (added : List Entry) → Contains (events_at b c r) ev → Has r (entries_of c added) → Contains (events_of b added) ev
unfolding Has
event_there b c r ev [] own h = absurd h
event_there b c r ev (e ∷ rest) own h = at (same e.node c) refl h (event_there b c r ev rest own)
  where
    at : (t : Bool) → same e.node c ≡ t → Has r ((if t then (e.query, e.answer) ∷ [] else []) ++ entries_of c rest) → (Has r (entries_of c rest) → Contains (events_of b rest) ev) → Contains (events_at b e.node e.query ++ events_of b rest) ev
    at true is (inl asked) rec = Contains-append_left (events_at b e.node e.query) (events_of b rest) ev (subst (λ z. Contains z ev) (λ j. events_at b (sym (same_is e.node c is) j) (sym asked j)) own)
    at true is (inr later) rec = Contains-append_right (events_at b e.node e.query) (events_of b rest) ev (rec later)
    at false is k rec = Contains-append_right (events_at b e.node e.query) (events_of b rest) ev (rec k)

-- what a leaf measures for its height at the content width of a box
leaf_event : (b : BareTrees) (c : NodeId) (width : ℤ) → is_leaf (sight_at b c).label.kind ≡ true → Contains (events_at b c (height_asked (sight_at b c).label width)) (measured_at b c width)
leaf_event b c width leaf = at (sight_at b c).label.kind leaf
  where
    at : (k : NodeKind) → is_leaf k ≡ true → Contains (events_by k (sight_at b c).label.name (height_asked (sight_at b c).label width)) (measured_at b c width)
    at kind.Grid e = absurd (false≢true e)
    at kind.Flex e = absurd (false≢true e)
    at (kind.Leaf content) e = in_front (measured_at b c width) []

-- ---- a child is not the root

top_level : (u : BareTrees) (root : NodeId) → top_numbers u ≡ root ∷ [] → level_at u root ≡ 1
top_level leafless root e = absurd cc
top_level (tree x below after) root e = ap length (way_here x below after root (record { is = same_from x.0 root (first x.0 root (top_numbers after) e) }))
  where
    first : (a c : NodeId) (more : List NodeId) → a ∷ more ≡ c ∷ [] → a ≡ c
    first a c more q = cc

module _ (b : BareTrees) (d : IsDistinct b) (named : AreNamed b) (width height : ℤ) (root : NodeId) (top : top_numbers b ≡ root ∷ []) (old new : State) (added : List Entry)
    (grown : (m : NodeId) → kept_in new m ≡ kept_with (kept_in old m) (entries_of m added)) (measured : AreMeasured b width height old new) where
  pub leaf_measured : (c : NodeId) → IsNewLeaf b old c → (box : Box) → Contains (bare_boxes width height b) box → box.0 ≡ name_in b c → Contains (events_of b added) (measured_at b c box.1.width)
  leaf_measured c fresh box there its = go (box_there b d width height box root top there)
    where
      go : (box.0 ≡ name_in b root) ⊎ IsFrameBox b width height box → Contains (events_of b added) (measured_at b c box.1.width)
      go (inl also) =
          let one : c ≡ root = named c root (next_there b d fresh.parent c fresh.index fresh.is).live (top_live b root top) (sym its ∙ also) in
          absurd (omega (arith, ap (level_at b) one, top_level b root top, (next_there b d fresh.parent c fresh.index fresh.is).level, way_some b fresh.parent (part_there b fresh.parent (parent_live b c fresh.parent fresh.index fresh.is))))
      go (inr f) =
          let same_one : f.child ≡ c = named f.child c (next_there b d f.parent f.child f.index f.is).live (next_there b d fresh.parent c fresh.index fresh.is).live (sym f.name ∙ its) in
          let under = fresh.under f.parent f.index (f.is ∙ ap Some same_one) in
          let leaf : is_leaf (sight_at b f.child).label.kind ≡ true = subst (λ z. is_leaf (sight_at b z).label.kind ≡ true) (sym same_one) fresh.leaf in
          let kept : IsSome (answer_to (height_asked (sight_at b f.child).label f.frame.rect.width) (kept_in new f.child)) = measured f.parent f.query f.on_path under.0 (ap (answer_to f.query) under.1) f.index f.child f.frame f.others f.is leaf f.there in
          let here : IsSome (answer_to (height_asked (sight_at b c).label box.1.width) (kept_in new c)) = subst (λ z. IsSome (answer_to (height_asked (sight_at b z).label box.1.width) (kept_in new z))) same_one
          (subst (λ w. IsSome (answer_to (height_asked (sight_at b f.child).label w) (kept_in new f.child))) (sym f.across) kept) in
          let r = height_asked (sight_at b c).label box.1.width in
          event_there b c r (measured_at b c box.1.width) added (leaf_event b c box.1.width fresh.leaf) (has_new r (entries_of c added) (subst (λ l. IsSome (answer_to r l)) (grown c ∙ ap (λ l. kept_with l (entries_of c added)) fresh.own) here))

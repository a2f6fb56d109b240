-- A layout spares the leaves, and so does an edit that lets the answers of the leaves go that it touches.
use Rattle.std.proofs.Common.{◌≡◌, refl, ap, sym, subst, ◌∙◌, ℕ, ◌+◌, Bool, true, false, List, [], ◌∷◌, ◌++◌, drop, map, inl, inr}
use Rattle.std.specs.Prelude.{◌⊎◌, ℤ, Contains, Some, if◌then◌else◌}
use Rattle.node_arena.specs.declared.number.NodeId.{NodeId}
use Rattle.node_arena.specs.Numbers.{IsDistinct, child_at}
use Rattle.outside.specs.declared.event.Event.{Event}
use Rattle.outside.specs.declared.event.Event.TheVariants.{Begin}
use Rattle.outside.specs.declared.event.Width.{Width}
use Rattle.plain_tree.specs.Trees.{Trees}
use Rattle.placing.specs.declared.node.Answer.{Answer}
use Rattle.placing.specs.Nodes.{BareTrees, above_at, kid_at, kids_at, sight_at}
use Rattle.placing.specs.Walks.{AreAsked, Entry, State, Walk, bare_in, events_of, kept_in}
use Rattle.placing.proofs.Sights.{next_there}
use Rattle.box_layout.specs.Paths.{IsAsked, IsCutOff, IsCutShort, Leads, first_asked, itself, leads_at, through}
use Rattle.tree_rules.specs.declared.query.Query.{Query}
use Rattle.tree_rules.specs.AskedQueries.{ToChild, frames_query, root_query}
use Rattle.tree_rules.specs.Boxes.{root_framed, root_inline, root_of, root_width}
use Rattle.tree_rules.specs.Chains.{has_chain}
use Rattle.tree_rules.specs.Labels.{Label}
use Rattle.tree_rules.specs.Queries.{is_container}
use Rattle.sparing.specs.Memory.{AreLeafQueries, AreNamed, IsLeaf, IsLeafQuery, Recalls, RecallsLeaf, Remembers, since, width_of}
use Rattle.sparing.specs.Sparing.{AreSpared, Touches}
use Rattle.sparing.proofs.Entries.{AreAskedOfLeaves, SparesOn, cut_spared, kept_anew, spared_more}
use Rattle.sparing.proofs.Memory.{remembers_none, since_more}
use Rattle.sparing.proofs.Questions.{IsPlain, Every, block_leaf, every_one, leads_plain, leaf_chain, nth_drop}

-- ---- what is asked of leaves

module _ (b : BareTrees) (distinct : IsDistinct b) where
  child_leaf : (n c : NodeId) (index : ℕ) (q r : Query) → child_at b n index ≡ Some c → IsLeaf b c → Contains (leads_at b n q) (index, r) → IsLeafQuery r
  child_leaf n c index q r e leaf has =
      let next = next_there b distinct n c index e in
      let plain : IsPlain (kids_at b n) (index, r) = every_one (IsPlain (kids_at b n)) (leads_at b n q) (index, r) (leads_plain (kids_at b n) (sight_at b n).label (sight_at b n).chain q) has in
      plain (kid_at b c) (nth_drop index (kids_at b n) (kid_at b c) (drop (index + 1) (kids_at b n)) next.kids) leaf (ap has_chain next.chain ∙ leaf_chain (above_at b n) index (sight_at b c).label leaf)

  leads_leaf : (n m : NodeId) (q s : Query) → Leads b n q m s → (IsLeaf b n → IsLeafQuery q) → IsLeaf b m → IsLeafQuery s
  leads_leaf n m q s (itself _ _) h leaf = h leaf
  leads_leaf n m q s (through _ c _ _ r _ index e has more) h leaf = leads_leaf c m r s more (λ child. child_leaf n c index q r e child has) leaf

  no_frames : (width height : ℤ) (x : Label) (below : Trees Label) → is_container x.kind ≡ false → root_query width height x below ≡ []
  no_frames width height x below leaf =
      let frames : List ToChild = (0, frames_query [] (root_framed width height (root_of x below)).frame) ∷ [] in
      ap (λ (c : Bool). if c then frames else []) leaf

  root_leaf : (width height : ℤ) (x : Label) (below : Trees Label) → is_container x.kind ≡ false → Every (λ (t : ToChild). IsLeafQuery t.1) (first_asked width height x below)
  root_leaf width height x below leaf =
      (inl refl, (block_leaf (root_inline (root_of x below) (root_width width (root_of x below))) tt, subst (Every (λ (t : ToChild). IsLeafQuery t.1)) (sym (no_frames width height x below leaf)) tt))

  asked_leaf : (width height : ℤ) (m : NodeId) (q : Query) → IsAsked b width height m q → IsLeaf b m → IsLeafQuery q
  asked_leaf width height m q p leaf =
      leads_leaf p.root m p.first q p.leads
      (λ root. every_one (λ (t : ToChild). IsLeafQuery t.1) (first_asked width height (sight_at b p.root).label (sight_at b p.root).below) (0, p.first) (root_leaf width height (sight_at b p.root).label (sight_at b p.root).below root) p.own)
      leaf

  all_asked : (width height : ℤ) (added : List Entry) → AreAsked (IsAsked b width height) added → AreAskedOfLeaves b added
  all_asked width height [] p = tt
  all_asked width height (e ∷ added) p = (asked_leaf width height e.node e.query p.0, all_asked width height added p.1)

-- ---- a layout

module _ (touches : Touches) (old new : State) (width height : ℤ) (named : AreNamed (bare_in old)) (distinct : IsDistinct (bare_in old)) (done : List Event) (p : Recalls touches (bare_in old) done (kept_in old)) where
  walked : (more : ℕ) (rest : List Event) (w : Walk (IsAsked (bare_in old) width height) more rest old new) → SparesOn touches (bare_in old) done (events_of (bare_in old) w.added) (kept_in new)
  walked more rest w = kept_anew touches (bare_in old) named (kept_in old) (kept_in new) w.added done p w.kept w.fresh (all_asked (bare_in old) distinct width height w.added w.asked)

  -- one that was done
  pub layout_spares : (w : Walk (IsAsked (bare_in old) width height) 0 [] old new) → SparesOn touches (bare_in old) done (events_of (bare_in old) w.added) (kept_in new)
  layout_spares w = walked 0 [] w

  -- one that was cut short
  pub stopped_spares : (c : IsCutShort (bare_in old) width height old new) → AreSpared touches done (events_of (bare_in old) c.walk.added ++ c.rest)
  stopped_spares c = spared_more touches done (events_of (bare_in old) c.walk.added) c.rest found.spared (by_cut c.rest c.cut)
    where
      found : SparesOn touches (bare_in old) done (events_of (bare_in old) c.walk.added) (kept_in new)
      found = walked c.more c.rest c.walk

      by_cut : (rest : List Event) → (rest ≡ []) ⊎ IsCutOff (bare_in old) (IsAsked (bare_in old) width height) new rest → AreSpared touches (done ++ events_of (bare_in old) c.walk.added) rest
      by_cut rest (inl none) = subst (AreSpared touches (done ++ events_of (bare_in old) c.walk.added)) (sym none) tt
      by_cut rest (inr o) =
          cut_spared touches (bare_in old) named (kept_in new) (done ++ events_of (bare_in old) c.walk.added) rest o.left o.node o.query found.recalls (asked_leaf (bare_in old) distinct width height o.node o.query o.asked) o.absent o.begun

-- ---- an edit

since_begin : (touches : Touches) (name : List ℕ) (done : List Event) (k : ℕ) → since touches name [] (done ++ Begin k ∷ []) ≡ (if touches k name then [] else since touches name [] done)
unfolding since
since_begin touches name done k = since_more touches name [] done (Begin k ∷ [])

-- a leaf of the edited tree keeps nothing where the edit touches it, and else what it kept as a leaf of the same name
abbrev pub IsLeafAfter : Bool → BareTrees → BareTrees → (kept now : NodeId → List (Query × Answer)) → NodeId → Type 0
IsLeafAfter touched b u kept now n =
    (touched ≡ true → now n ≡ []) × (touched ≡ false → (IsLeaf b n × ((sight_at b n).label.name ≡ (sight_at u n).label.name)) × (now n ≡ kept n))

-- when the layout after the edit begins
pub edit_recalls : (touches : Touches) (b u : BareTrees) (kept now : NodeId → List (Query × Answer)) (done : List Event) (k : ℕ) → Recalls touches b done kept → ((n : NodeId) → IsLeaf u n → IsLeafAfter (touches k (sight_at u n).label.name) b u kept now n)
    → Recalls touches u (done ++ Begin k ∷ []) now
edit_recalls touches b u kept now done k p after n leaf = by_touch (touches k (sight_at u n).label.name) refl
  where
    by_touch : (t : Bool) → touches k (sight_at u n).label.name ≡ t → RecallsLeaf touches (sight_at u n).label.name (done ++ Begin k ∷ []) (now n)
    by_touch true t =
        let none = (after n leaf).0 t in
        let forgot : since touches (sight_at u n).label.name [] (done ++ Begin k ∷ []) ≡ [] = since_begin touches (sight_at u n).label.name done k ∙ ap (λ (c : Bool). if c then [] else since touches (sight_at u n).label.name [] done) t in
        record {
          widths = subst (λ (l : List (Query × Answer)). Remembers (since touches (sight_at u n).label.name [] (done ++ Begin k ∷ [])) (map width_of l)) (sym none) (subst (λ (l : List Width). Remembers l []) (sym forgot) remembers_none);
          queries = subst (λ (l : List (Query × Answer)). AreLeafQueries l) (sym none) tt;
        }
    by_touch false t =
        let same = (after n leaf).1 t in
        let calm : since touches (sight_at u n).label.name [] (done ++ Begin k ∷ []) ≡ since touches (sight_at u n).label.name [] done = since_begin touches (sight_at u n).label.name done k ∙ ap (λ (c : Bool). if c then [] else since touches (sight_at u n).label.name [] done) t in
        let old : RecallsLeaf touches (sight_at u n).label.name done (kept n) = subst (λ (x : List ℕ). RecallsLeaf touches x done (kept n)) same.0.1 (p n same.0.0) in
        let held : RecallsLeaf touches (sight_at u n).label.name done (now n) = subst (RecallsLeaf touches (sight_at u n).label.name done) (sym same.1) old in
        record { widths = subst (λ (l : List Width). Remembers l (map width_of (now n))) (sym calm) held.widths; queries = held.queries }

-- ---- the first layout

nothing_since : (touches : Touches) (name : List ℕ) (k : ℕ) → since touches name [] (Begin k ∷ []) ≡ []
unfolding since
nothing_since touches name k = at (touches k name)
  where
    at : (c : Bool) → ◌≡◌ {A = List Width} (if c then [] else []) []
    at true = refl
    at false = refl

pub first_recalls : (touches : Touches) (b : BareTrees) (kept : NodeId → List (Query × Answer)) (k : ℕ) → ((n : NodeId) → kept n ≡ []) → Recalls touches b (Begin k ∷ []) kept
first_recalls touches b kept k none n leaf =
    record {
      widths = subst (λ (l : List (Query × Answer)). Remembers (since touches (sight_at b n).label.name [] (Begin k ∷ [])) (map width_of l)) (sym (none n)) (subst (λ (l : List Width). Remembers l []) (sym (nothing_since touches (sight_at b n).label.name k)) remembers_none);
      queries = subst (λ (l : List (Query × Answer)). AreLeafQueries l) (sym (none n)) tt;
    }

-- What a question leads to stands in the list of all that is asked.
use Rattle.std.proofs.Common.{◌≡◌, refl, sym, ap, ◌∙◌, subst, arith, ℕ, zero, suc, ◌+◌, ◌==◌, Bool, true, false, List, [], ◌∷◌, ◌++◌, map, Option, Some, None, is_some, inl, inr, ℤ}
use Rattle.std.specs.Prelude.{◌⊎◌, Contains, filter, not, slice_get, if◌then◌else◌}
use Rattle.std.proofs.lemmas.Bool.{eq-eqb, false≢true}
use Rattle.std.proofs.lemmas.List.Elements.{Contains-append_left, Contains-append_right}
use Rattle.plain_tree.specs.Trees.{Trees, leafless, map_trees, tree}
use Rattle.node_arena.specs.declared.number.NodeId.{NodeId}
use Rattle.node_arena.specs.Numbers.{IsChild, IsDistinct, Part, below_at, below_of, child_at, number_of, part_at, tops, top_numbers, whole_of}
use Rattle.node_arena.proofs.Parts.{child_is}
use Rattle.node_arena.proofs.Same.{part_here, same_from}
use Rattle.node_arena.proofs.Standing.{some_is}
use Rattle.layout_cache.proofs.Sames.{query_is}
use Rattle.tree_rules.specs.Answers.{Kid}
use Rattle.tree_rules.specs.AskedQueries.{ToChild, ToNode, all_of, asked, for_child, leads_to, passes_from, passes_on, path, root_query, spread, without_repeats}
use Rattle.tree_rules.specs.Chains.{Above, Link, above_of, chain_of}
use Rattle.tree_rules.specs.Labels.{Label}
use Rattle.tree_rules.specs.Places.{Seen, above_root}
use Rattle.tree_rules.specs.Queries.{same_query}
use Rattle.tree_rules.specs.Whole.{kids_of}
use Rattle.tree_rules.specs.declared.query.Ask.{Ask}
use Rattle.tree_rules.specs.declared.query.Ask.TheVariants as ask
use Rattle.tree_rules.specs.declared.query.Query.{Query}
use Rattle.placing.specs.Nodes.{Bare, BareTrees, IsLive, above_at, label_in, sight_at}
use Rattle.placing.proofs.Sights.{next_there, sight_none, sight_part, top_chain}
use Rattle.box_layout.specs.Paths.{IsAsked, IsOnPath, Leads, Passes, first_asked, itself, its_own, on, through}
use Rattle.asked_names.specs.Asked.{asked_in, name_in, path_in}
use Rattle.asked_names.proofs.Pigeons.{behind, in_cases, in_front, none_in}

-- ---- lists of questions

mapped_in : {A B : Type 0} (f : A → B) (xs : List A) (x : A) → Contains xs x → Contains (map f xs) (f x)
mapped_in f [] x h = absurd (none_in x h)
mapped_in {A} f (y ∷ ys) x h = at (in_cases y x ys h) (mapped_in f ys x)
  where
    at : (y ≡ x) ⊎ Contains ys x → (Contains ys x → Contains (map f ys) (f x)) → Contains (f y ∷ map f ys) (f x)
    at (inl e) k = subst (λ (z : A). Contains (f y ∷ map f ys) (f z)) e (in_front (f y) (map f ys))
    at (inr there) k = behind (f y) (f x) (map f ys) (k there)

filter_in : {A : Type 0} (p : A → Bool) (xs : List A) (x : A) → p x ≡ true → Contains xs x → Contains (filter p xs) x
filter_in p [] x e h = absurd (none_in x h)
filter_in {A} p (y ∷ ys) x e h = at (p y) refl (in_cases y x ys h) (filter_in p ys x e)
  where
    at : (t : Bool) → p y ≡ t → (y ≡ x) ⊎ Contains ys x → (Contains ys x → Contains (filter p ys) x) → Contains (if t then y ∷ filter p ys else filter p ys) x
    at true q (inl k) f = subst (λ (z : A). Contains (y ∷ filter p ys) z) k (in_front y (filter p ys))
    at true q (inr k) f = behind y x (filter p ys) (f k)
    at false q (inl k) f = absurd (false≢true (sym q ∙ ap p k ∙ e))
    at false q (inr k) f = f k

for_in : (n : ℕ) (asked : List ToChild) (q : Query) → Contains asked (n, q) → Contains (for_child n asked) q
for_in n [] q h = absurd (none_in {A = ToChild} (n, q) h)
for_in n (t ∷ rest) q h = at (t.0 == n) refl (in_cases {A = ToChild} t (n, q) rest h) (for_in n rest q)
  where
    at : (b : Bool) → (t.0 == n) ≡ b → (t ≡ (n, q)) ⊎ Contains {X = ToChild} rest (n, q) → (Contains {X = ToChild} rest (n, q) → Contains (for_child n rest) q) → Contains (if b then t.1 ∷ for_child n rest else for_child n rest) q
    at true e (inl k) f = subst (λ (z : Query). Contains (t.1 ∷ for_child n rest) z) (ap (λ (u : ToChild). u.1) k) (in_front t.1 (for_child n rest))
    at true e (inr k) f = behind t.1 q (for_child n rest) (f k)
    at false e (inl k) f = absurd (false≢true (sym e ∙ eq-eqb t.0 n (ap (λ (u : ToChild). u.0) k)))
    at false e (inr k) f = f k

once_in : (qs : List Query) (q : Query) → Contains qs q → Contains (without_repeats qs) q
once_in [] q h = absurd (none_in q h)
once_in (r ∷ rest) q h = at (same_query r q) refl (in_cases r q rest h) (once_in rest q)
  where
    others : List Query
    others = filter (λ (z : Query). not (same_query r z)) (without_repeats rest)

    at : (b : Bool) → same_query r q ≡ b → (r ≡ q) ⊎ Contains rest q → (Contains rest q → Contains (without_repeats rest) q) → Contains (r ∷ others) q
    at b e (inl k) f = subst (λ (z : Query). Contains (r ∷ others) z) k (in_front r others)
    at true e (inr k) f = subst (λ (z : Query). Contains (r ∷ others) z) (query_is r q e) (in_front r others)
    at false e (inr k) f = behind r q others (filter_in (λ (z : Query). not (same_query r z)) (without_repeats rest) q (ap not e) (f k))

all_in : (f : Query → List ToChild) (qs : List Query) (q : Query) (t : ToChild) → Contains qs q → Contains (f q) t → Contains (all_of (map f qs)) t
all_in f [] q t h k = absurd (none_in q h)
all_in f (r ∷ rest) q t h k = at (in_cases r q rest h) (λ there. all_in f rest q t there k)
  where
    at : (r ≡ q) ⊎ Contains rest q → (Contains rest q → Contains (all_of (map f rest)) t) → Contains (f r ++ all_of (map f rest)) t
    at (inl e) g = Contains-append_left (f r) (all_of (map f rest)) t (subst (λ (z : Query). Contains (f z) t) (sym e) k)
    at (inr there) g = Contains-append_right (f r) (all_of (map f rest)) t (g there)

-- ---- a node in the list

-- a list has this question to a node that is seen so, and all that the questions to which it leads spread to
pub record Spreads (leads : Label → List Link → List Kid → Query → List ToChild) (all : List ToNode) (s : Seen) (q : Query) : Type 0 where
  pub here : Contains all (s.label.name, q)
  pub next : List ToChild
  pub leads_on : (t : ToChild) → Contains (leads s.label s.chain (kids_of (above_of s.label s.chain s.below) 0 s.below) q) t → Contains next t
  pub lower : (y : ToNode) → Contains (spread leads (above_of s.label s.chain s.below) 0 next s.below) y → Contains all y

module _ (leads : Label → List Link → List Kid → Query → List ToChild) where
  pub wider : (all more : List ToNode) (s : Seen) (q : Query) → ((y : ToNode) → Contains all y → Contains more y) → Spreads leads all s q → Spreads leads more s q
  wider all more s q w h = record { here = w (s.label.name, q) h.here; next = h.next; leads_on = h.leads_on; lower = λ y k. w y (h.lower y k) }

  -- the first of some trees
  pub first_spreads : (above : Above) (k : ℕ) (asked : List ToChild) (x : Label) (below after : Trees Label) (q : Query) → Contains asked (k, q)
      → Spreads leads (spread leads above k asked (tree x below after)) (record { label = x; chain = chain_of above k x; below = below }) q
  first_spreads above k asked x below after q h =
      let chain = chain_of above k x in
      let lower = above_of x chain below in
      let kids = kids_of lower 0 below in
      let own = without_repeats (for_child k asked) in
      let next = all_of (map (leads x chain kids) own) in
      let there : Contains own q = once_in (for_child k asked) q (for_in k asked q h) in
      let named : List ToNode = map (λ (r : Query). (x.name, r)) own in
      let lowers = spread leads lower 0 next below in
      let afters = spread leads above (k + 1) asked after in
      record {
        here = Contains-append_left (named ++ lowers) afters (x.name, q) (Contains-append_left named lowers (x.name, q) (mapped_in {B = ToNode} (λ (r : Query). (x.name, r)) own q there));
        next = next;
        leads_on = λ t e. all_in (leads x chain kids) own q t there e;
        lower = λ y e. Contains-append_left (named ++ lowers) afters y (Contains-append_right named lowers y e);
      }

  later : (above : Above) (k : ℕ) (asked : List ToChild) (x : Label) (below after : Trees Label) (y : ToNode) → Contains (spread leads above (k + 1) asked after) y → Contains (spread leads above k asked (tree x below after)) y
  later above k asked x below after y h =
      let chain = chain_of above k x in
      let lower = above_of x chain below in
      let own = without_repeats (for_child k asked) in
      let next = all_of (map (leads x chain (kids_of lower 0 below)) own) in
      let named : List ToNode = map (λ (r : Query). (x.name, r)) own in
      Contains-append_right (named ++ spread leads lower 0 next below) (spread leads above (k + 1) asked after) y h

  module _ {B : Type 0} (label : NodeId × B → Label) where
    -- one of these trees, which is the child of this number
    abbrev seen_as : Above → ℕ → NodeId × Part B → Seen
    seen_as above k top = record { label = label (top.0, top.1.0); chain = chain_of above k (label (top.0, top.1.0)); below = map_trees label top.1.1 }

    pub place_spreads : (u : Trees (NodeId × B)) (above : Above) (k i : ℕ) (top : NodeId × Part B) (asked : List ToChild) (q : Query) → slice_get (tops u) i ≡ Some top → Contains asked (k + i, q)
        → Spreads leads (spread leads above k asked (map_trees label u)) (seen_as above (k + i) top) q
    place_spreads leafless above k i top asked q e h = absurd cc
    place_spreads (tree x below after) above k zero top asked q e h =
        let is : (x.0, (x.1, below)) ≡ top = some_is _ top e in
        let same_number : k ≡ k + 0 = omega arith in
        subst (λ (s : Seen). Spreads leads (spread leads above k asked (map_trees label (tree x below after))) s q) (λ j. seen_as above (same_number j) (is j))
        (first_spreads above k asked (label x) (map_trees label below) (map_trees label after) q (subst (λ (m : ℕ). Contains {X = ToChild} asked (m, q)) (sym same_number) h))
    place_spreads (tree x below after) above k (suc i) top asked q e h =
        let same_number : (k + 1) + i ≡ k + suc i = omega arith in
        subst (λ (m : ℕ). Spreads leads (spread leads above k asked (map_trees label (tree x below after))) (seen_as above m top) q) same_number
        (wider (spread leads above (k + 1) asked (map_trees label after)) (spread leads above k asked (map_trees label (tree x below after))) (seen_as above ((k + 1) + i) top) q
        (later above k asked (label x) (map_trees label below) (map_trees label after))
        (place_spreads after above (k + 1) i top asked q e (subst (λ (m : ℕ). Contains {X = ToChild} asked (m, q)) (sym same_number) h)))

-- ---- a child under its parent

pub below_seen : (b : BareTrees) (n : NodeId) → (sight_at b n).below ≡ map_trees label_in (below_at b n)
below_seen b n = at (part_at b n) refl
  where
    at : (o : Option (Part Bare)) → part_at b n ≡ o → (sight_at b n).below ≡ map_trees label_in (below_at b n)
    at None f = sight_none b n f ∙ ap (λ (o : Option (Part Bare)). map_trees label_in (below_of o)) (sym f)
    at (Some p) f = (sight_part b n p f).its_trees ∙ ap (λ (o : Option (Part Bare)). map_trees label_in (below_of o)) (sym f)

module _ (leads : Label → List Link → List Kid → Query → List ToChild) (b : BareTrees) (d : IsDistinct b) where
  pub child_spreads : (all : List ToNode) (n c : NodeId) (i : ℕ) (q r : Query) → child_at b n i ≡ Some c → Spreads leads all (sight_at b n) q
      → Contains (leads (sight_at b n).label (sight_at b n).chain (kids_of (above_at b n) 0 (sight_at b n).below) q) (i, r) → Spreads leads all (sight_at b c) r
  child_spreads all n c i q r is h there = at (slice_get (tops (below_at b n)) i) refl is
    where
      whole : IsChild b n i c
      whole = child_is b n i c d is

      at : (o : Option (NodeId × Part Bare)) → slice_get (tops (below_at b n)) i ≡ o → number_of o ≡ Some c → Spreads leads all (sight_at b c) r
      at None e k = absurd cc
      at (Some top) e k =
          let seen = sight_part b c top.1 (whole.whole ∙ ap whole_of e) in
          let its_label = sym seen.its_label in
          let zero_more : 0 + i ≡ i = omega arith in
          let chain = (λ j. chain_of (above_at b n) (zero_more j) (its_label j)) ∙ sym (next_there b d n c i is).chain in
          let found = place_spreads leads label_in (below_at b n) (above_at b n) 0 i top h.next r e (subst (λ (m : ℕ). Contains {X = ToChild} h.next (m, r)) (sym zero_more) (h.leads_on (i, r) there)) in
          subst (λ (s : Seen). Spreads leads all s r) (λ j. record { label = its_label j; chain = chain j; below = sym seen.its_trees j })
          (wider leads (spread leads (above_at b n) 0 h.next (map_trees label_in (below_at b n))) all (seen_as leads label_in (above_at b n) (0 + i) top) r
          (λ y there. h.lower y (subst (λ (t : Trees Label). Contains (spread leads (above_at b n) 0 h.next t) y) (sym (below_seen b n)) there)) found)

  -- the root of the tree
  pub root_spreads : (asked : List ToChild) (root : NodeId) (q : Query) → top_numbers b ≡ root ∷ [] → Contains asked (0, q)
      → Spreads leads (spread leads above_root 0 asked (tree (sight_at b root).label (sight_at b root).below leafless)) (sight_at b root) q
  root_spreads asked root q top h =
      subst (λ (chain : List Link). Spreads leads (spread leads above_root 0 asked (tree (sight_at b root).label (sight_at b root).below leafless)) (record { label = (sight_at b root).label; chain = chain; below = (sight_at b root).below }) q)
      (sym (top_chain b root top)) (first_spreads leads above_root 0 asked (sight_at b root).label (sight_at b root).below leafless q h)

-- ---- the root

-- what the rules see of it
pub record IsRootIn (b : BareTrees) (root : NodeId) (width height : ℤ) : Type 0 where
  pub live : IsLive b root
  pub asked : asked width height (sight_at b root).label (sight_at b root).below ≡ asked_in width height b
  pub path : path width height (sight_at b root).label (sight_at b root).below ≡ path_in width height b

-- ---- down the tree

module _ (b : BareTrees) (d : IsDistinct b) where
  leads_there : (all : List ToNode) (c m : NodeId) (r s : Query) → Leads b c r m s → Spreads leads_to all (sight_at b c) r → Contains all (name_in b m, s)
  leads_there all _ _ _ _ (itself n q) h = h.here
  leads_there all _ _ _ _ (through n c m q r s i is there rest) h = leads_there all c m r s rest (child_spreads leads_to b d all n c i q r is h there)

  leads_live : (c m : NodeId) (r s : Query) → Leads b c r m s → IsLive b c → IsLive b m
  leads_live _ _ _ _ (itself n q) h = h
  leads_live _ _ _ _ (through n c m q r s i is there rest) h = leads_live c m r s rest (next_there b d n c i is).live

  passed_on : (a : Ask) (x : Label) (chain : List Link) (kids : List Kid) (q : Query) (t : ToChild) → Contains (passes_from a x chain kids q) t → Contains (passes_on x chain kids q) t
  passed_on ask.Inline x chain kids q t h = absurd (none_in t h)
  passed_on ask.LendColumns x chain kids q t h = absurd (none_in t h)
  passed_on ask.Block x chain kids q t h = absurd (none_in t h)
  passed_on ask.LendRows x chain kids q t h = absurd (none_in t h)
  passed_on ask.Frames x chain kids q t h = h

  passes_there : (all : List ToNode) (c m : NodeId) (r s : Query) → Passes b c r m s → Spreads passes_on all (sight_at b c) r → Contains all (name_in b m, s)
  passes_there all _ _ _ _ (its_own n q) h = h.here
  passes_there all _ _ _ _ (on n c m q r s i is there rest) h = passes_there all c m r s rest (child_spreads passes_on b d all n c i q r is h (passed_on q.ask _ _ _ q (i, r) there))

module _ (root : NodeId) where
  first_is : (a c : NodeId) (more : List NodeId) → a ∷ more ≡ c ∷ [] → a ≡ c
  first_is a c more e = cc

  pub root_part : (t : BareTrees) → top_numbers t ≡ root ∷ [] → (width height : ℤ) → IsRootIn t root width height
  root_part leafless e width height = absurd cc
  root_part (tree x below after) e width height =
      let there = part_here x below after root (record { is = same_from x.0 root (first_is x.0 root (top_numbers after) e) }) in
      let seen = sight_part (tree x below after) root (x.1, below) there in
      record {
        live = ap is_some there;
        asked = λ j. asked width height (seen.its_label j) (seen.its_trees j);
        path = λ j. path width height (seen.its_label j) (seen.its_trees j);
      }

-- ---- all that is asked

pub asked_listed : (b : BareTrees) (d : IsDistinct b) (width height : ℤ) (m : NodeId) (q : Query) → IsAsked b width height m q → Contains (asked_in width height b) (name_in b m, q)
asked_listed b d width height m q a =
    let first = root_spreads leads_to b d (first_asked width height (sight_at b a.root).label (sight_at b a.root).below) a.root a.first a.top a.own in
    subst (λ (all : List ToNode). Contains all (name_in b m, q)) (root_part a.root b a.top width height).asked
    (leads_there b d (asked width height (sight_at b a.root).label (sight_at b a.root).below) a.root m a.first q a.leads first)

pub path_listed : (b : BareTrees) (d : IsDistinct b) (width height : ℤ) (m : NodeId) (q : Query) → IsOnPath b width height m q → Contains (path_in width height b) (name_in b m, q)
path_listed b d width height m q a =
    let first = root_spreads passes_on b d (root_query width height (sight_at b a.root).label (sight_at b a.root).below) a.root a.first a.top a.own in
    subst (λ (all : List ToNode). Contains all (name_in b m, q)) (root_part a.root b a.top width height).path
    (passes_there b d (path width height (sight_at b a.root).label (sight_at b a.root).below) a.root m a.first q a.passes first)

-- what is asked is asked of a node of the tree
pub asked_live : (b : BareTrees) (d : IsDistinct b) (width height : ℤ) (m : NodeId) (q : Query) → IsAsked b width height m q → IsLive b m
asked_live b d width height m q a = leads_live b d a.root m a.first q a.leads (root_part a.root b a.top width height).live

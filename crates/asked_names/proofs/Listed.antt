-- Each question of a list that questions spread to goes to a node of that name.
use Rattle.std.proofs.Common.{◌≡◌, refl, sym, ap, ◌∙◌, subst, arith, ℕ, suc, ◌+◌, ◌==◌, ℤ, Bool, true, false, List, [], ◌∷◌, ◌++◌, map, Some, inl, inr}
use Rattle.std.specs.Prelude.{◌⊎◌, Contains, filter, not, slice_get, if◌then◌else◌}
use Rattle.std.proofs.lemmas.Bool.{eqb-true}
use Rattle.std.proofs.lemmas.List.Elements.{Contains-append_cases}
use Rattle.plain_tree.specs.Trees.{Trees, leafless, map_trees, tree}
use Rattle.node_arena.specs.declared.number.NodeId.{NodeId}
use Rattle.node_arena.specs.Numbers.{IsChild, IsDistinct, Part, below_at, below_of, child_at, number_of, tops, top_numbers, whole_of}
use Rattle.node_arena.proofs.Parts.{child_is}
use Rattle.tree_rules.specs.Answers.{Kid}
use Rattle.tree_rules.specs.AskedQueries.{ToChild, ToNode, all_of, for_child, leads_to, passes_from, passes_on, root_query, spread, without_repeats}
use Rattle.tree_rules.specs.Chains.{Above, Link, above_of, chain_of}
use Rattle.tree_rules.specs.Labels.{Label}
use Rattle.tree_rules.specs.Places.{Seen, above_root}
use Rattle.tree_rules.specs.Queries.{same_query}
use Rattle.tree_rules.specs.Whole.{kids_of}
use Rattle.tree_rules.specs.declared.query.Ask.{Ask}
use Rattle.tree_rules.specs.declared.query.Ask.TheVariants as ask
use Rattle.tree_rules.specs.declared.query.Query.{Query}
use Rattle.placing.specs.Nodes.{Bare, BareTrees, above_at, kids_at, label_in, sight_at}
use Rattle.placing.proofs.Sights.{next_there, sight_part, top_chain}
use Rattle.box_layout.specs.Paths.{IsAsked, IsOnPath, Leads, first_asked, itself, its_own, leads_at, through}
use Rattle.asked_names.specs.Asked.{IsAskedOf, IsOnPathOf, asked_in, name_in, path_in}
use Rattle.asked_names.proofs.Containers.{passes_framed, passes_more, root_framed_first}
use Rattle.asked_names.proofs.Spreads.{below_seen, root_part}
use Rattle.asked_names.proofs.Pigeons.{behind, in_cases, in_front, none_in}

-- ---- lists, backwards

record IsFromMap {A B : Type 0} (f : A → B) (xs : List A) (y : B) : Type 0 where
  item : A
  there : Contains xs item
  is : f item ≡ y

from_map : {A B : Type 0} (f : A → B) (xs : List A) (y : B) → Contains (map f xs) y → IsFromMap f xs y
from_map f [] y h = absurd (none_in y h)
from_map f (x ∷ xs) y h = at (in_cases (f x) y (map f xs) h) (from_map f xs y)
  where
    at : (f x ≡ y) ⊎ Contains (map f xs) y → (Contains (map f xs) y → IsFromMap f xs y) → IsFromMap f (x ∷ xs) y
    at (inl e) rec = record { item = x; there = in_front x xs; is = e }
    at (inr k) rec = let r = rec k in record { item = r.item; there = behind x r.item xs r.there; is = r.is }

from_filter : {A : Type 0} (p : A → Bool) (xs : List A) (x : A) → Contains (filter p xs) x → Contains xs x
from_filter p [] x h = absurd (none_in x h)
from_filter {A} p (y ∷ ys) x h = at (p y) h (from_filter p ys x)
  where
    first : (y ≡ x) ⊎ Contains (filter p ys) x → (Contains (filter p ys) x → Contains ys x) → Contains (y ∷ ys) x
    first (inl e) rec = subst (λ (z : A). Contains (y ∷ ys) z) e (in_front y ys)
    first (inr k) rec = behind y x ys (rec k)

    at : (t : Bool) → Contains (if t then y ∷ filter p ys else filter p ys) x → (Contains (filter p ys) x → Contains ys x) → Contains (y ∷ ys) x
    at true k rec = first (in_cases y x (filter p ys) k) rec
    at false k rec = behind y x ys (rec k)

from_once : (qs : List Query) (q : Query) → Contains (without_repeats qs) q → Contains qs q
from_once [] q h = absurd (none_in q h)
from_once (r ∷ rest) q h = at (in_cases r q (filter (λ (z : Query). not (same_query r z)) (without_repeats rest)) h) (from_once rest q)
  where
    at : (r ≡ q) ⊎ Contains (filter (λ (z : Query). not (same_query r z)) (without_repeats rest)) q → (Contains (without_repeats rest) q → Contains rest q) → Contains (r ∷ rest) q
    at (inl e) rec = subst (λ (z : Query). Contains (r ∷ rest) z) e (in_front r rest)
    at (inr k) rec = behind r q rest (rec (from_filter (λ (z : Query). not (same_query r z)) (without_repeats rest) q k))

from_child : (n : ℕ) (told : List ToChild) (q : Query) → Contains (for_child n told) q → Contains told (n, q)
from_child n [] q h = absurd (none_in q h)
from_child n (t ∷ rest) q h = at (t.0 == n) refl h (from_child n rest q)
  where
    first : t.0 ≡ n → (t.1 ≡ q) ⊎ Contains (for_child n rest) q → (Contains (for_child n rest) q → Contains {X = ToChild} rest (n, q)) → Contains {X = ToChild} (t ∷ rest) (n, q)
    first e (inl s) rec = subst (λ (z : ToChild). Contains (t ∷ rest) z) (λ j. (e j, s j)) (in_front t rest)
    first e (inr k) rec = behind {A = ToChild} t (n, q) rest (rec k)

    at : (b : Bool) → (t.0 == n) ≡ b → Contains (if b then t.1 ∷ for_child n rest else for_child n rest) q → (Contains (for_child n rest) q → Contains {X = ToChild} rest (n, q)) → Contains {X = ToChild} (t ∷ rest) (n, q)
    at true e k rec = first (eqb-true t.0 n e) (in_cases t.1 q (for_child n rest) k) rec
    at false e k rec = behind {A = ToChild} t (n, q) rest (rec k)

record IsFromAll (f : Query → List ToChild) (qs : List Query) (t : ToChild) : Type 0 where
  query : Query
  there : Contains qs query
  leads : Contains (f query) t

from_all : (f : Query → List ToChild) (qs : List Query) (t : ToChild) → Contains (all_of (map f qs)) t → IsFromAll f qs t
from_all f [] t h = absurd (none_in t h)
from_all f (r ∷ rest) t h = at (Contains-append_cases (f r) (all_of (map f rest)) t h) (from_all f rest t)
  where
    at : Contains (f r) t ⊎ Contains (all_of (map f rest)) t → (Contains (all_of (map f rest)) t → IsFromAll f rest t) → IsFromAll f (r ∷ rest) t
    at (inl k) rec = record { query = r; there = in_front r rest; leads = k }
    at (inr k) rec = let a = rec k in record { query = a.query; there = behind r a.query rest a.there; leads = a.leads }

-- ---- down the tree, with a fact of each question that one with the fact leads to

module _ (leads : Label → List Link → List Kid → Query → List ToChild) (b : BareTrees) (d : IsDistinct b) (P : NodeId → Query → Type 0)
    (further : (n c : NodeId) (i : ℕ) (q r : Query) → child_at b n i ≡ Some c → P n q → Contains (leads (sight_at b n).label (sight_at b n).chain (kids_at b n) q) (i, r) → P c r) where
  -- a node of this name, with the fact
  pub record IsFound (y : ToNode) : Type 0 where
    pub node : NodeId
    pub name : name_in b node ≡ y.0
    pub fact : P node y.1

  -- these trees are the children of a node from this index on
  Ends : NodeId → ℕ → BareTrees → Type 0
  Ends n k u = (i : ℕ) (top : NodeId × Part Bare) → slice_get (tops u) i ≡ Some top → slice_get (tops (below_at b n)) (k + i) ≡ Some top

  -- each of these questions to a child has the fact
  AreTrue : NodeId → List ToChild → Type 0
  AreTrue n told = (i : ℕ) (c : NodeId) (q : Query) → child_at b n i ≡ Some c → Contains told (i, q) → P c q

  Below : NodeId → BareTrees → ToNode → Type 0
  Below c u y = (told : List ToChild) → Ends c 0 u → AreTrue c told → Contains (spread leads (above_at b c) 0 told (map_trees label_in u)) y → IsFound y

  -- what is asked of one node and of what is below it
  one_found : (c : NodeId) (s : Seen) (under : BareTrees) (own : List Query) (y : ToNode) → s ≡ sight_at b c → s.below ≡ map_trees label_in under → below_at b c ≡ under → ((q : Query) → Contains own q → P c q) → Below c under y
      → Contains (map (λ (q : Query). (s.label.name, q)) own ++ spread leads (above_of s.label s.chain s.below) 0 (all_of (map (leads s.label s.chain (kids_of (above_of s.label s.chain s.below) 0 s.below)) own)) s.below) y → IsFound y
  unfolding Ends AreTrue Below
  one_found c s under own y seen trees whole true_own rec h =
      at (Contains-append_cases (map {B = ToNode} (λ (q : Query). (s.label.name, q)) own) (spread leads (above_of s.label s.chain s.below) 0 (next s) s.below) y h)
    where
      next : Seen → List ToChild
      next z = all_of (map (leads z.label z.chain (kids_of (above_of z.label z.chain z.below) 0 z.below)) own)

      ends : (i : ℕ) (top : NodeId × Part Bare) → slice_get (tops under) i ≡ Some top → slice_get (tops (below_at b c)) (0 + i) ≡ Some top
      ends i top e = let number : i ≡ 0 + i = omega arith in (λ j. slice_get (tops (whole j)) (sym number j)) ∙ e

      true_next : (i : ℕ) (e : NodeId) (r : Query) → child_at b c i ≡ Some e → Contains (next (sight_at b c)) (i, r) → P e r
      true_next i e r is k =
          let a = from_all (leads (sight_at b c).label (sight_at b c).chain (kids_at b c)) own (i, r) k in
          further c e i a.query r is (true_own a.query a.there) a.leads

      at : Contains (map {B = ToNode} (λ (q : Query). (s.label.name, q)) own) y ⊎ Contains (spread leads (above_of s.label s.chain s.below) 0 (next s) s.below) y → IsFound y
      at (inl k) =
          let m = from_map {B = ToNode} (λ (q : Query). (s.label.name, q)) own y k in
          record { node = c; name = ap (λ (z : Seen). z.label.name) (sym seen) ∙ ap (λ (u : ToNode). u.0) m.is; fact = subst (P c) (ap (λ (u : ToNode). u.1) m.is) (true_own m.item m.there) }
      at (inr k) =
          rec (next (sight_at b c)) ends true_next
          (subst (λ (t : Trees Label). Contains (spread leads (above_at b c) 0 (next (sight_at b c)) t) y) (ap (λ (z : Seen). z.below) (sym seen) ∙ trees)
          (subst (λ (z : Seen). Contains (spread leads (above_of z.label z.chain z.below) 0 (next z) z.below) y) seen k))

  own_asked : (k : ℕ) (told : List ToChild) (q : Query) → Contains (without_repeats (for_child k told)) q → Contains told (k, q)
  own_asked k told q h = from_child k told q (from_once (for_child k told) q h)

  child_seen : (n : NodeId) (k : ℕ) (x : NodeId × Bare) (below : BareTrees) → slice_get (tops (below_at b n)) k ≡ Some (x.0, (x.1, below)) → record { label = label_in x; chain = chain_of (above_at b n) k (label_in x); below = map_trees label_in below } ≡ sight_at b x.0
  child_seen n k x below e =
      let is : child_at b n k ≡ Some x.0 = ap number_of e in
      let whole : IsChild b n k x.0 = child_is b n k x.0 d is in
      let seen = sight_part b x.0 (x.1, below) (whole.whole ∙ ap whole_of e) in
      let its = sym seen.its_label in
      let chain = (λ j. chain_of (above_at b n) k (its j)) ∙ sym (next_there b d n x.0 k is).chain in
      λ j. record { label = its j; chain = chain j; below = sym seen.its_trees j }

  child_below : (n : NodeId) (k : ℕ) (x : NodeId × Bare) (below : BareTrees) → slice_get (tops (below_at b n)) k ≡ Some (x.0, (x.1, below)) → below_at b x.0 ≡ below
  child_below n k x below e = let whole : IsChild b n k x.0 = child_is b n k x.0 d (ap number_of e) in ap below_of (whole.whole ∙ ap whole_of e)

  found : (u : BareTrees) (n : NodeId) (k : ℕ) (y : ToNode) (told : List ToChild) → Ends n k u → AreTrue n told → Contains (spread leads (above_at b n) k told (map_trees label_in u)) y → IsFound y
  unfolding Ends AreTrue Below
  found leafless n k y told ends true_told h = absurd (none_in {A = ToNode} y h)
  found (tree x below after) n k y told ends true_told h =
      at (Contains-append_cases (map {B = ToNode} (λ (q : Query). ((label_in x).name, q)) (without_repeats (for_child k told)) ++ spread leads lower 0 (next told) (map_trees label_in below)) (spread leads (above_at b n) (k + 1) told (map_trees label_in after)) y h)
      (found below x.0 0 y) (found after n (k + 1) y told)
    where
      lower : Above
      lower = above_of (label_in x) (chain_of (above_at b n) k (label_in x)) (map_trees label_in below)

      next : List ToChild → List ToChild
      next l = all_of (map (leads (label_in x) (chain_of (above_at b n) k (label_in x)) (kids_of (above_of (label_in x) (chain_of (above_at b n) k (label_in x)) (map_trees label_in below)) 0 (map_trees label_in below))) (without_repeats (for_child k l)))

      here : slice_get (tops (below_at b n)) k ≡ Some (x.0, (x.1, below))
      here = let number : k ≡ k + 0 = omega arith in ap (slice_get (tops (below_at b n))) number ∙ ends 0 (x.0, (x.1, below)) refl

      later : (i : ℕ) (top : NodeId × Part Bare) → slice_get (tops after) i ≡ Some top → slice_get (tops (below_at b n)) (k + 1 + i) ≡ Some top
      later i top e = let number : k + 1 + i ≡ k + suc i = omega arith in ap (slice_get (tops (below_at b n))) number ∙ ends (suc i) top e

      at : Contains (map {B = ToNode} (λ (q : Query). ((label_in x).name, q)) (without_repeats (for_child k told)) ++ spread leads lower 0 (next told) (map_trees label_in below)) y ⊎ Contains (spread leads (above_at b n) (k + 1) told (map_trees label_in after)) y
          → ((l : List ToChild) → Ends x.0 0 below → AreTrue x.0 l → Contains (spread leads (above_at b x.0) 0 l (map_trees label_in below)) y → IsFound y)
          → (Ends n (k + 1) after → AreTrue n told → Contains (spread leads (above_at b n) (k + 1) told (map_trees label_in after)) y → IsFound y) → IsFound y
      at (inl there) under rest =
          one_found x.0 (record { label = label_in x; chain = chain_of (above_at b n) k (label_in x); below = map_trees label_in below }) below (without_repeats (for_child k told)) y
          (child_seen n k x below here) refl (child_below n k x below here) (λ q own. true_told k x.0 q (ap number_of here) (own_asked k told q own)) under there
      at (inr there) under rest = rest later true_told there

  -- from the root
  pub found_all : (root : NodeId) (told : List ToChild) (y : ToNode) → top_numbers b ≡ root ∷ [] → ((q : Query) → Contains told (0, q) → P root q) → Contains (spread leads above_root 0 told (tree (sight_at b root).label (sight_at b root).below leafless)) y → IsFound y
  unfolding Ends AreTrue Below
  found_all root told y top true_told h =
      at
      (Contains-append_cases
      (map {B = ToNode} (λ (q : Query). ((sight_at b root).label.name, q)) own ++
      spread leads (above_of (sight_at b root).label [] (sight_at b root).below) 0 (all_of (map (leads (sight_at b root).label [] (kids_of (above_of (sight_at b root).label [] (sight_at b root).below) 0 (sight_at b root).below)) own)) (sight_at b root).below) [] y h)
    where
      own : List Query
      own = without_repeats (for_child 0 told)

      alone : Seen
      alone = record { label = (sight_at b root).label; chain = []; below = (sight_at b root).below }

      at : Contains
          (map {B = ToNode} (λ (q : Query). ((sight_at b root).label.name, q)) own ++
          spread leads (above_of (sight_at b root).label [] (sight_at b root).below) 0 (all_of (map (leads (sight_at b root).label [] (kids_of (above_of (sight_at b root).label [] (sight_at b root).below) 0 (sight_at b root).below)) own)) (sight_at b root).below) y ⊎
          Contains {X = ToNode} [] y → IsFound y
      at (inl there) =
          one_found root alone (below_at b root) own y (λ j. record { label = (sight_at b root).label; chain = sym (top_chain b root top) j; below = (sight_at b root).below }) (below_seen b root) refl (λ q k. true_told q (own_asked 0 told q k))
          (λ l ends true_l k. found (below_at b root) root 0 y l ends true_l k) there
      at (inr none) = absurd (none_in {A = ToNode} y none)

-- ---- all that is asked, and the path

leads_more : (b : BareTrees) (n m c : NodeId) (q r s : Query) (i : ℕ) → Leads b n q m r → child_at b m i ≡ Some c → Contains (leads_at b m r) (i, s) → Leads b n q c s
leads_more b _ _ c _ _ s i (itself n q) is there = through n c c q s s i is there (itself c s)
leads_more b _ _ c _ _ s i (through n e m q p r j below first rest) is there = through n e c q p s j below first (leads_more b e m c p r s i rest is there)

module _ (b : BareTrees) (d : IsDistinct b) (width height : ℤ) (root : NodeId) (top : top_numbers b ≡ root ∷ []) where
  asked_more : (n c : NodeId) (i : ℕ) (q r : Query) → child_at b n i ≡ Some c → IsAsked b width height n q → Contains (leads_to (sight_at b n).label (sight_at b n).chain (kids_at b n) q) (i, r) → IsAsked b width height c r
  asked_more n c i q r is a there = record { root = a.root; top = a.top; first = a.first; own = a.own; leads = leads_more b a.root n c a.first q r i a.leads is there }

  path_more : (n c : NodeId) (i : ℕ) (q r : Query) → child_at b n i ≡ Some c → IsOnPath b width height n q → Contains (passes_on (sight_at b n).label (sight_at b n).chain (kids_at b n) q) (i, r) → IsOnPath b width height c r
  path_more n c i q r is p there =
      let framed : q.ask ≡ ask.Frames = passes_framed b p.root n p.first q p.passes (root_framed_first width height (sight_at b p.root).label (sight_at b p.root).below p.first p.own) in
      record { root = p.root; top = p.top; first = p.first; own = p.own; passes = passes_more b p.root n c p.first q r i p.passes is (subst (λ (a : Ask). Contains (passes_from a (sight_at b n).label (sight_at b n).chain (kids_at b n) q) (i, r)) (sym framed) there) }

  -- each question of the list is asked of a node of its name
  pub listed_asked : (y : ToNode) → Contains (asked_in width height b) y → IsAskedOf b width height y
  listed_asked y h =
      let f = found_all leads_to b d (IsAsked b width height) asked_more root (first_asked width height (sight_at b root).label (sight_at b root).below) y top (λ q own. record { root = root; top = top; first = q; own = own; leads = itself root q })
      (subst (λ (l : List ToNode). Contains l y) (sym (root_part root b top width height).asked) h) in
      record { node = f.node; name = f.name; asked = f.fact }

  pub listed_path : (y : ToNode) → Contains (path_in width height b) y → IsOnPathOf b width height y
  listed_path y h =
      let f = found_all passes_on b d (IsOnPath b width height) path_more root (root_query width height (sight_at b root).label (sight_at b root).below) y top (λ q own. record { root = root; top = top; first = q; own = own; passes = its_own root q })
      (subst (λ (l : List ToNode). Contains l y) (sym (root_part root b top width height).path) h) in
      record { node = f.node; name = f.name; on_path = f.fact }

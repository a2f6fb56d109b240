-- What a change leaves of what the rules see of a node.
use Rattle.std.proofs.Common.{◌≡◌, ℕ, zero, suc, ◌≤◌, Bool, true, false, ◌&&◌, List, [], ◌∷◌, Option, Some, None, is_some, refl, sym, ap, ◌∙◌, arith, inl, inr}
use Rattle.std.specs.Prelude.{◌⊎◌, if◌then◌else◌, slice_get}
use Rattle.plain_tree.specs.Trees.{Trees, leafless, tree}
use Rattle.node_arena.specs.declared.number.NodeId.{NodeId}
use Rattle.node_arena.specs.Numbers.{Part, below_at, below_of, child_at, number_of, part_at, top_numbers, tops}
use Rattle.tree_rules.specs.Chains.{Above, Link, Sibling, chain_of, has_subgrid, link_to}
use Rattle.tree_rules.specs.Labels.{Label}
use Rattle.placing.specs.Nodes.{Bare, BareTrees, IsLive, above_at, children_at, level_at, sight_at}
use Rattle.reach_frame.specs.Local.{HasUpper, IsFelt, IsLocal, IsRooted, ShowsSame, is_sub}

pub not_both : (b : Bool) → b ≡ true → b ≡ false → ⊥
not_both true e f = let no : true ≡ false = f in absurd cc
not_both false e f = let no : false ≡ true = e in absurd cc

-- ---- by what a parent sees of a node
abbrev sub_by : Sibling → Bool
sub_by s = s.is_grid && has_subgrid s.grid

abbrev chain_by : Above → ℕ → Sibling → List Link
chain_by a i s = if a.is_grid && sub_by s then link_to a i ∷ a.chain else []

abbrev above_by : Sibling → List Link → List Sibling → Above
above_by s chain children = record { name = s.name; is_grid = s.is_grid; grid = s.grid; children = children; chain = chain }

no_chain : (a : Above) (i : ℕ) (x : Label) → is_sub x ≡ false → chain_of a i x ≡ []
no_chain a i x e = ap (λ t. if a.is_grid && t then link_to a i ∷ a.chain else []) e ∙ none a.is_grid
  where
    none : (g : Bool) → (if g && false then link_to a i ∷ a.chain else []) ≡ []
    none true = refl
    none false = refl

-- the same of a node of a whole tree
pub lone : (root : NodeId) (b : BareTrees) → IsRooted root b → (n : NodeId) → IsLive b n → is_sub (sight_at b n).label ≡ false → (sight_at b n).chain ≡ []
lone root b rb n live e = at (rb.upper n live)
  where
    at : HasUpper root b n → (sight_at b n).chain ≡ []
    at (inl r) = ap (λ m. (sight_at b m).chain) r ∙ rb.chain
    at (inr p) = p.1.next.chain ∙ no_chain (above_at b p.0) p.1.index (sight_at b n).label e

-- ---- children by their numbers
number_get : {A : Type 0} (u : Trees (NodeId × A)) (i : ℕ) → number_of (slice_get (tops u) i) ≡ slice_get (top_numbers u) i
number_get leafless i = refl
number_get (tree x below after) zero = refl
number_get (tree x below after) (suc i) = number_get after i

pub same_child : (s t : BareTrees) (n c : NodeId) (i : ℕ) → children_at s n ≡ children_at t n → child_at s n i ≡ Some c → child_at t n i ≡ Some c
same_child s t n c i e h = number_get (below_at t n) i ∙ ap (λ l. slice_get l i) (sym e) ∙ sym (number_get (below_at s n) i) ∙ h

pub child_live : (b : BareTrees) (p n : NodeId) (i : ℕ) → child_at b p i ≡ Some n → IsLive b p
child_live b p n i e = at (part_at b p) refl e
  where
    none : (i : ℕ) → number_of (slice_get (tops (below_of {A = Bare} None)) i) ≡ Some n → ⊥
    none i q = let no : None ≡ Some n = sym (number_get (below_of {A = Bare} None) i) ∙ q in absurd cc

    at : (o : Option (Part Bare)) → part_at b p ≡ o → number_of (slice_get (tops (below_of o)) i) ≡ Some n → IsLive b p
    at None f g = absurd (none i g)
    at (Some q) f g = ap is_some f

-- ---- where nothing is marked nothing is felt
pub none_felt : (mark : NodeId → Bool) (b : BareTrees) → ((m : NodeId) → mark m ≡ false) → (k : ℕ) (n : NodeId) → IsFelt mark b k n → ⊥
none_felt mark b h zero n f = f
none_felt mark b h (suc k) n f = at f.1.1.1.1 (none_felt mark b h k f.0)
  where
    at : (mark f.0 ≡ true) ⊎ IsFelt mark b k f.0 → (IsFelt mark b k f.0 → ⊥) → ⊥
    at (inl m) up = not_both (mark f.0) m (h f.0)
    at (inr g) up = up g

-- ---- chains
module _ (root : NodeId) (b u : BareTrees) (rb : IsRooted root b) (ru : IsRooted root u) (touched : NodeId → Bool) (grid : Bool) (local : IsLocal touched grid b u) where
  abbrev mark : NodeId → Bool
  mark n = grid && touched n

  same_sub : (n : NodeId) → ShowsSame b u n → is_sub (sight_at u n).label ≡ is_sub (sight_at b n).label
  same_sub n s = ap sub_by s.own

  pub same_chain : (fuel : ℕ) (n : NodeId) → level_at u n ≤ fuel → IsLive u n → mark n ≡ false → ((k : ℕ) → IsFelt mark u k n → ⊥) → (sight_at u n).chain ≡ (sight_at b n).chain
  same_chain zero n low live m f = at (ru.upper n live)
    where
      at : HasUpper root u n → (sight_at u n).chain ≡ (sight_at b n).chain
      at (inl r) = ap (λ k. (sight_at u k).chain) r ∙ ru.chain ∙ sym (ap (λ k. (sight_at b k).chain) r ∙ rb.chain)
      at (inr p) = absurd (omega (arith, low, p.1.next.level))
  same_chain (suc fuel) n low live m f = at (ru.upper n live) (λ p. same_chain fuel p)
    where
      shows : ShowsSame b u n
      shows = local.shows n live m

      at : HasUpper root u n → ((p : NodeId) → level_at u p ≤ fuel → IsLive u p → mark p ≡ false → ((k : ℕ) → IsFelt mark u k p → ⊥) → (sight_at u p).chain ≡ (sight_at b p).chain) → (sight_at u n).chain ≡ (sight_at b n).chain
      at (inl r) up = ap (λ k. (sight_at u k).chain) r ∙ ru.chain ∙ sym (ap (λ k. (sight_at b k).chain) r ∙ rb.chain)
      at (inr p) up = by (is_sub (sight_at u n).label) refl (mark p.0) refl
        where
          number : child_at u p.0 p.1.index ≡ Some n
          number = p.1.next.number

          by : (s : Bool) → is_sub (sight_at u n).label ≡ s → (c : Bool) → mark p.0 ≡ c → (sight_at u n).chain ≡ (sight_at b n).chain
          by false e c d = p.1.next.chain ∙ no_chain (above_at u p.0) p.1.index (sight_at u n).label e ∙ sym (lone root b rb n shows.live (sym (same_sub n shows) ∙ e))
          by true e true d = absurd (f 1 (p.0, (p.1.index, (number, (e, inl d)))))
          by true e false d =
              let above = local.shows p.0 p.1.live d in
              let next = rb.tree.next p.0 n p.1.index (same_child u b p.0 n p.1.index above.children number) in
              let chain = up p.0 (omega (arith, low, p.1.next.level)) p.1.live d (λ k g. f (suc k) (p.0, (p.1.index, (number, (e, inr g))))) in
              p.1.next.chain ∙ (λ i. chain_by (above_by (above.own i) (chain i) (above.siblings i)) p.1.index (shows.own i)) ∙ sym next.chain

  -- ---- what is felt in the new tree is felt in the old one
  by_marked : (p n : NodeId) (i : ℕ) → child_at u p i ≡ Some n → is_sub (sight_at u n).label ≡ true → mark p ≡ true → IsLive u n → mark n ≡ false → IsFelt mark b 1 n
  by_marked p n i number e d live m = at (rb.upper n shows.live)
    where
      shows : ShowsSame b u n
      shows = local.shows n live m

      at : HasUpper root b n → IsFelt mark b 1 n
      at (inl r) = absurd (ru.top p i (number ∙ ap Some r))
      at (inr q) = by (mark q.0) refl
        where
          old : child_at b q.0 q.1.index ≡ Some n
          old = q.1.next.number

          by : (c : Bool) → mark q.0 ≡ c → IsFelt mark b 1 n
          by true g = (q.0, (q.1.index, (old, (sym (same_sub n shows) ∙ e, inl g))))
          by false g =
              let above = local.shows q.0 (local.stays q.0 n q.1.index old live m) g in
              let same_parent : p ≡ q.0 = ru.one p q.0 n i q.1.index number (same_child b u q.0 n q.1.index (sym above.children) old) in
              absurd (not_both (mark p) d (ap mark same_parent ∙ g))

  pub felt_old : (k : ℕ) (n : NodeId) → IsFelt mark u k n → IsLive u n → mark n ≡ false → (j : ℕ) × IsFelt mark b j n
  felt_old zero n f live m = absurd f
  felt_old (suc k) n f live m = at (mark f.0) refl f.1.1.1.1 (λ g. felt_old k f.0 g)
    where
      number : child_at u f.0 f.1.0 ≡ Some n
      number = f.1.1.0

      at : (c : Bool) → mark f.0 ≡ c → (mark f.0 ≡ true) ⊎ IsFelt mark u k f.0 → (IsFelt mark u k f.0 → IsLive u f.0 → mark f.0 ≡ false → (j : ℕ) × IsFelt mark b j f.0) → (j : ℕ) × IsFelt mark b j n
      at true d g up = (1, by_marked f.0 n f.1.0 number f.1.1.1.0 d live m)
      at false d (inl g) up = absurd (not_both (mark f.0) g d)
      at false d (inr g) up =
          let above = local.shows f.0 (child_live u f.0 n f.1.0 number) d in
          let old = up g (child_live u f.0 n f.1.0 number) d in
          (suc old.0, (f.0, (f.1.0, (same_child u b f.0 n f.1.0 above.children number, (sym (same_sub n (local.shows n live m)) ∙ f.1.1.1.0, inr old.1)))))

-- What the old tree does not reach the new one does not reach either.
use Rattle.std.proofs.Common.{◌≡◌, ℕ, zero, suc, ◌≤◌, Bool, true, false, ◌&&◌, List, [], ◌∷◌, Some, IsSome, refl, sym, ap, subst, ◌∙◌, arith, inl, inr}
use Rattle.std.specs.Prelude.{◌||◌, ◌⊎◌, slice_get}
use Rattle.std.proofs.lemmas.Bool.{and_parts, or_cases}
use Rattle.plain_tree.specs.Trees.{leafless, tree, height_of}
use Rattle.node_arena.specs.declared.number.NodeId.{NodeId}
use Rattle.node_arena.specs.Numbers.{IsDistinct, Part, below_at, below_of, child_at, is_among, number_of, part_at, same, times, top_numbers, tops, value_of}
use Rattle.node_arena.proofs.Same.{one_no, one_yes, same_is, same_refl}
use Rattle.layout_cache.specs.Reach.{reached_by}
use Rattle.placing.specs.declared.node.Node.{Node}
use Rattle.placing.specs.Nodes.{BareTrees, IsLive, NodeTrees, bare, sight_at}
use Rattle.placing.proofs.Bares.{child_bare, distinct_bare, height_bare, live_bare, tops_bare}
use Rattle.reach_frame.specs.Local.{IsFelt, IsLocal, IsRooted, is_sub}
use Rattle.reach_frame.specs.Marks.{has_mark, is_reached}
use Rattle.reach_frame.proofs.Forests.{AreParts, below_parts, own_parts}
use Rattle.reach_frame.proofs.Frame.{felt_old, not_both}
use Rattle.reach_frame.proofs.Frames.{children_same}
use Rattle.reach_frame.proofs.Marked.{no_marks}
use Rattle.reach_frame.proofs.Rooted.{rooted}
use Rattle.reach_frame.proofs.Unreached.{IsCalm, below_times, node_sub, not_found, value_sub}

marked_not : (g c : Bool) → c ≡ false → (g && c) ≡ false
marked_not true c e = e
marked_not false c e = refl

-- ---- a calm node is not reached
module _ (u : NodeTrees) (d : IsDistinct u) (touched : NodeId → Bool) (grid : Bool) (n : NodeId) (calm : IsCalm touched grid (bare u) n) where
  abbrev mark : NodeId → Bool
  mark k = grid && touched k

  -- subgrids at the tops of these trees feel the change where the nodes above say so
  abbrev FeltTops : Bool → NodeTrees → Type 0
  FeltTops felt s = felt ≡ true → (i : ℕ) (top : NodeId × Part Node) → slice_get (tops s) i ≡ Some top → node_sub top.1.0 ≡ true → (k : ℕ) × IsFelt mark (bare u) k top.0

  head : (x : NodeId × Node) (below after : NodeTrees) (felt : Bool) → part_at u x.0 ≡ Some (x.1, below) → FeltTops felt (tree x below after) →
      (same x.0 n && (touched x.0 || (has_mark (λ (y : NodeId × Node). touched y.0) below || (felt && node_sub x.1)))) ≡ false
  head x below after felt p f = at (same x.0 n) refl
    where
      join : (t b s : Bool) → t ≡ false → b ≡ false → s ≡ false → (t || (b || s)) ≡ false
      join t b s e g h = λ i. e i || (g i || h i)

      not_felt : x.0 ≡ n → (a b : Bool) → felt ≡ a → node_sub x.1 ≡ b → (a && b) ≡ false
      not_felt is false b e g = refl
      not_felt is true false e g = refl
      not_felt is true true e g = let h = f e 0 (x.0, (x.1, below)) refl g in absurd (calm.felt h.0 (subst (λ m. IsFelt mark (bare u) h.0 m) is h.1))

      at : (c : Bool) → same x.0 n ≡ c → (c && (touched x.0 || (has_mark (λ (y : NodeId × Node). touched y.0) below || (felt && node_sub x.1)))) ≡ false
      at false e = refl
      at true e =
          let is = same_is x.0 n e in
          let there : below ≡ below_at u n = ap below_of (sym p ∙ ap (part_at u) is) in
          join (touched x.0) (has_mark (λ (y : NodeId × Node). touched y.0) below) (felt && node_sub x.1)
          (ap touched is ∙ calm.own)
          (no_marks touched below (λ k l. calm.below k (omega (arith, l, ap (times k) there, below_times u n k))))
          (not_felt is felt (node_sub x.1) refl refl)

  pub calm_here : (s : NodeTrees) (felt : Bool) → AreParts u s → FeltTops felt s →
      is_reached (λ (x : NodeId × Node). same x.0 n) (λ (x : NodeId × Node). touched x.0) (λ (x : NodeId × Node). node_sub x.1) grid felt s ≡ false
  calm_here leafless felt p f = refl
  calm_here (tree x below after) felt p f =
      λ i. head x below after felt p.0 f i
      || (calm_here below ((grid && touched x.0) || (felt && node_sub x.1)) p.1.0 under i
      || calm_here after felt p.1.1 (λ e j top g h. f e (suc j) top g h) i)
    where
      child : (i : ℕ) (top : NodeId × Part Node) → slice_get (tops below) i ≡ Some top → child_at (bare u) x.0 i ≡ Some top.0
      child i top g = child_bare u x.0 i ∙ ap (λ o. number_of (slice_get (tops (below_of o)) i)) p.0 ∙ ap number_of g

      label : (i : ℕ) (top : NodeId × Part Node) → slice_get (tops below) i ≡ Some top → is_sub (sight_at (bare u) top.0).label ≡ node_sub top.1.0
      label i top g = value_sub u top.0 top.1.0 (sym (top_value below i top p.1.0 g))
        where
          top_value : (s : NodeTrees) (i : ℕ) (top : NodeId × Part Node) → AreParts u s → slice_get (tops s) i ≡ Some top → value_of (part_at u top.0) ≡ Some top.1.0
          top_value leafless i top q g = absurd cc
          top_value (tree y lower later) zero top q g = ap (λ (z : NodeId × Part Node). value_of (part_at u z.0)) (sym (some_top (y.0, (y.1, lower)) top g)) ∙ ap value_of q.0 ∙ ap (λ (z : NodeId × Part Node). Some z.1.0) (some_top (y.0, (y.1, lower)) top g)
            where
              some_top : (a b : NodeId × Part Node) → Some a ≡ Some b → a ≡ b
              some_top a b e = cc
          top_value (tree y lower later) (suc i) top q g = top_value later i top q.1.1 g

      under : FeltTops ((grid && touched x.0) || (felt && node_sub x.1)) below
      under e i top g h = at (or_cases (grid && touched x.0) (felt && node_sub x.1) e)
        where
          at : ((grid && touched x.0) ≡ true) ⊎ ((felt && node_sub x.1) ≡ true) → (k : ℕ) × IsFelt mark (bare u) k top.0
          at (inl m) = (1, (x.0, (i, (child i top g, (label i top g ∙ h, inl m)))))
          at (inr m) =
              let parts = and_parts felt (node_sub x.1) m in
              let above = f parts.0 0 (x.0, (x.1, below)) refl parts.1 in
              (suc above.0, (x.0, (i, (child i top g, (label i top g ∙ h, inr above.1)))))

  pub calm_not : is_reached (λ (x : NodeId × Node). same x.0 n) (λ (x : NodeId × Node). touched x.0) (λ (x : NodeId × Node). node_sub x.1) grid false u ≡ false
  calm_not = calm_here u false (own_parts u d) (λ e i top g h. absurd (not_both false e refl))

-- ---- a calm node of the old tree is calm in the new one
module _ (root : NodeId) (b u : BareTrees) (rb : IsRooted root b) (ru : IsRooted root u) (touched : NodeId → Bool) (grid : Bool) (local : IsLocal touched grid b u) where
  calm_forest : (s t : BareTrees) → AreParts u s → AreParts b t → top_numbers s ≡ top_numbers t → ((k : NodeId) → 1 ≤ times k t → touched k ≡ false) → (k : NodeId) → 1 ≤ times k s → touched k ≡ false
  calm_forest leafless t p q e h k l = absurd (omega (arith, l))
  calm_forest (tree x below after) leafless p q e h k l = absurd cc
  calm_forest (tree x below after) (tree y under later) p q e h k l =
      let number : x.0 ≡ y.0 = cc in
      let rest : top_numbers after ≡ top_numbers later = cc in
      let calm : touched y.0 ≡ false = h y.0 (omega (arith, one_yes (same y.0 y.0) (same_refl y.0))) in
      let there : part_at u y.0 ≡ Some (x.1, below) = ap (part_at u) (sym number) ∙ p.0 in
      at (same x.0 k) refl number calm
      (λ m. calm_forest below under p.1.0 q.1.0 (children_same root b u rb ru touched grid local y.0 below under x.1 y.1 there q.0 calm) (λ j z. h j (omega arith)) k m)
      (λ m. calm_forest after later p.1.1 q.1.1 rest (λ j z. h j (omega arith)) k m)
    where
      at : (c : Bool) → same x.0 k ≡ c → x.0 ≡ y.0 → touched y.0 ≡ false → (1 ≤ times k below → touched k ≡ false) → (1 ≤ times k after → touched k ≡ false) → touched k ≡ false
      at true g number calm f r = ap touched (sym (same_is x.0 k g) ∙ number) ∙ calm
      at false g number calm f r = by (times k below) refl
        where
          by : (m : ℕ) → times k below ≡ m → touched k ≡ false
          by zero z = r (omega (arith, l, z, one_no (same x.0 k) g))
          by (suc m) z = f (omega (arith, z))

  pub calm_still : (n : NodeId) → IsDistinct b → IsDistinct u → IsLive u n → IsCalm touched grid b n → IsCalm touched grid u n
  calm_still n db du live calm =
      record {
        own = calm.own;
        below = calm_forest (below_at u n) (below_at b n) (below_parts u n du) (below_parts b n db) (local.shows n live (marked_not grid (touched n) calm.own)).children calm.below;
        felt = λ k f. let old = felt_old root b u rb ru touched grid local k n f live (marked_not grid (touched n) calm.own) in calm.felt old.0 old.1;
      }

-- what is not found to be reached in the old tree is not reached in the new one
pub not_later : (t u : NodeTrees) (dt : IsDistinct t) (du : IsDistinct u) (root : NodeId) → top_numbers t ≡ root ∷ [] → top_numbers u ≡ root ∷ [] → height_of t ≤ 64 → height_of u ≤ 64 → (ts : List NodeId) (grid : Bool) →
    IsLocal (λ n. is_among n ts) grid (bare t) (bare u) → (n : NodeId) → IsSome (part_at t n) → IsSome (part_at u n) → is_among n (reached_by node_sub t ts grid) ≡ false →
    is_reached (λ (x : NodeId × Node). same x.0 n) (λ (x : NodeId × Node). is_among x.0 ts) (λ (x : NodeId × Node). node_sub x.1) grid false u ≡ false
not_later t u dt du root tops_t tops_u low_t low_u ts grid local n old new e =
    let rb = rooted root (bare t) (distinct_bare t dt) (omega (arith, low_t, height_bare t)) (tops_bare t ∙ tops_t) in
    let ru = rooted root (bare u) (distinct_bare u du) (omega (arith, low_u, height_bare u)) (tops_bare u ∙ tops_u) in
    calm_not u du (λ m. is_among m ts) grid n
    (calm_still root (bare t) (bare u) rb ru (λ m. is_among m ts) grid local n (distinct_bare t dt) (distinct_bare u du) (live_bare u n ∙ new) (not_found t dt ts grid n old e))

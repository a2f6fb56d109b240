-- The children of a node, one after another.
use Rattle.std.proofs.Common.{◌≡◌, sym, ap, ◌∙◌, refl, ℕ, zero, suc, ◌+◌, ◌-◌, ◌*◌, ◌<◌, ◌≤◌, [], ◌∷◌, min, arith}
use Rattle.plain_tree.specs.Trees.{Trees, leafless, tree, joined}
use Rattle.plain_tree.proofs.Laws.{joined_assoc, joined-leafless}
use Rattle.doc_text.specs.declared.document.Plain.{Plain}
use Rattle.doc_text.specs.Label.{Label}
use Rattle.doc_text.specs.View.{trees_of, label_of}
use Rattle.page_maker.specs.Growing.{child_count, grown}

module _ (label : ℕ → Label) (nodes : ℕ) where
  grown_zero : (first count : ℕ) → grown label nodes 0 first count ≡ leafless
  unfolding grown
  grown_zero first count = refl

  grown_none : (levels first : ℕ) → grown label nodes levels first 0 ≡ leafless
  unfolding grown
  grown_none zero first = refl
  grown_none (suc levels) first = refl

  grown_more : (levels first count : ℕ) → grown label nodes (suc levels) first (suc count) ≡ tree (label first) (grown label nodes levels (8 * first + 1) (child_count nodes first)) (grown label nodes (suc levels) (first + 1) count)
  unfolding grown
  grown_more levels first count = refl

-- in no levels no node stands
pub no_levels : (label : ℕ → Label) (nodes levels first count : ℕ) → levels ≡ 0 → leafless ≡ grown label nodes levels first count
no_levels label nodes levels first count h = sym (ap (λ (l : ℕ). grown label nodes l first count) h ∙ grown_zero label nodes first count)

-- one child more
pub child_step : (label : ℕ → Label) (nodes levels i child : ℕ) (s : Trees Label) (node : Plain) → 0 < levels → child < min nodes (8 * i + 9)
    → label_of node ≡ label child → node.children ≡ grown label nodes (levels - 1) (8 * child + 1) (child_count nodes child)
    → joined (joined s (trees_of (node ∷ []))) (grown label nodes levels (child + 1) (min nodes (8 * i + 9) - (child + 1))) ≡ joined s (grown label nodes levels child (min nodes (8 * i + 9) - child))
child_step label nodes levels i child s node some h l k =
    let end = min nodes (8 * i + 9) in
    let rest = grown label nodes levels (child + 1) (end - (child + 1)) in
    let level : levels ≡ suc (levels - 1) = omega (arith, some) in
    let count : end - child ≡ suc (end - (child + 1)) = omega (arith, h) in
    let opened : grown label nodes levels child (end - child) ≡ tree (label child) (grown label nodes (levels - 1) (8 * child + 1) (child_count nodes child)) rest =
    (λ j. grown label nodes (level j) child (count j)) ∙ grown_more label nodes (levels - 1) child (end - (child + 1)) ∙ (λ j. tree (label child) (grown label nodes (levels - 1) (8 * child + 1) (child_count nodes child)) (grown label nodes (sym level j) (child + 1) (end - (child + 1)))) in
    joined_assoc s (trees_of (node ∷ [])) rest ∙ ap (joined s) ((λ j. tree (l j) (k j) rest) ∙ sym opened)

-- no child more
pub child_end : (label : ℕ → Label) (nodes levels i child : ℕ) (s : Trees Label) → min nodes (8 * i + 9) ≤ child → joined s (grown label nodes levels child (min nodes (8 * i + 9) - child)) ≡ s
child_end label nodes levels i child s h =
    let none : min nodes (8 * i + 9) - child ≡ 0 = omega (arith, h) in
    ap (λ (n : ℕ). joined s (grown label nodes levels child n)) none ∙ ap (joined s) (grown_none label nodes levels child) ∙ joined-leafless s

-- all children
pub child_first : (label : ℕ → Label) (nodes levels i : ℕ) → grown label nodes levels (8 * i + 1) (min nodes (8 * i + 9) - (8 * i + 1)) ≡ grown label nodes levels (8 * i + 1) (child_count nodes i)
child_first label nodes levels i =
    let same : min nodes (8 * i + 9) - (8 * i + 1) ≡ min 8 (nodes - (8 * i + 1)) = omega arith in
    ap (grown label nodes levels (8 * i + 1)) same

pub ruleset growing_laws = (no_levels, child_step, child_end, child_first)

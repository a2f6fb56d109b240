-- What is found of a name in the numbered tree is what the document has under it.
use Rattle.std.proofs.Common.{◌≡◌, ℕ, ◌+◌, ◌≤◌, Bool, true, false, ◌||◌, Option, Some, None, IsSome, length, refl, sym, ap, ◌∙◌, arith, length-append}
use Rattle.std.specs.Prelude.{List, [], ◌∷◌}
use Rattle.std.specs.Str.{bytes_eq}
use Rattle.plain_tree.specs.Trees.{Trees, leafless, tree, count_of}
use Rattle.node_arena.specs.declared.number.NodeId.{NodeId}
use Rattle.node_arena.specs.Numbers.{Part, below_of, count_at, one, part_at, same, times, value_at, value_of, way_up}
use Rattle.node_arena.proofs.Same.{by_place, cond_no, cond_yes, one_no}
use Rattle.node_arena.proofs.Edited.{tree_is}
use Rattle.node_arena.proofs.Standing.{way_after, way_below, way_here}
use Rattle.doc_text.specs.Label.{Label}
use Rattle.doc_text.specs.Documents.{is_leaf}
use Rattle.doc_text.specs.Edits.{child_count, is_leaf_top}
use Rattle.doc_text.specs.Growth.{holds}
use Rattle.doc_text.specs.Named as doc
use Rattle.doc_text.proofs.Grown.{or_join, or_split}
use Rattle.doc_text.proofs.Standing.{no_tree}
use Rattle.placing.specs.declared.node.Node.{Node}
use Rattle.placing.specs.Nodes.{NodeTrees}
use Rattle.page_tree.specs.Documents.{kind_of, label_of, plain_trees}
use Rattle.page_tree.specs.Registers.{Finds, Tells}
use Rattle.page_tree.proofs.Changes.{plain_count, plain_tree_at}

pub found_tree : (t : NodeTrees) (name : List ℕ) (id : NodeId) (p : Part Node) → Finds t name (Some id) → part_at t id ≡ Some p → doc.tree_at name (plain_trees t) ≡ tree (label_of p.0) (plain_trees p.1) leafless
found_tree t name id p f e = sym (plain_tree_at id name t f.tells) ∙ ap plain_trees (tree_is id t p (omega (arith, f.once)) e)

pub no_tree_at : (t : NodeTrees) (name : List ℕ) → Finds t name None → doc.tree_at name (plain_trees t) ≡ leafless
no_tree_at t name f = no_tree name (plain_trees t) (sym f.there)

pub found_count : (t : NodeTrees) (name : List ℕ) (id : NodeId) → Finds t name (Some id) → count_at t id ≡ child_count name (plain_trees t)
found_count t name id f = at (part_at t id) refl f.live
  where
    at : (o : Option (Part Node)) → part_at t id ≡ o → IsSome o → count_at t id ≡ child_count name (plain_trees t)
    at None e l = absurd cc
    at (Some p) e l =
        ap (λ (o : Option (Part Node)). count_of (below_of o)) e ∙ sym (plain_count p.1) ∙ sym (ap (λ u. count_of (doc.below_of u)) (found_tree t name id p f e))

pub no_count : (t : NodeTrees) (name : List ℕ) → Finds t name None → 0 ≡ child_count name (plain_trees t)
no_count t name f = sym (ap (λ u. count_of (doc.below_of u)) (no_tree_at t name f))

pub found_leaf : (t : NodeTrees) (name : List ℕ) (id : NodeId) (v : Node) → Finds t name (Some id) → Some v ≡ value_at t id → is_leaf (kind_of v.kind) ≡ is_leaf_top (doc.tree_at name (plain_trees t))
found_leaf t name id v f e = at (part_at t id) refl f.live
  where
    at : (o : Option (Part Node)) → part_at t id ≡ o → IsSome o → is_leaf (kind_of v.kind) ≡ is_leaf_top (doc.tree_at name (plain_trees t))
    at None g l = absurd cc
    at (Some p) g l =
        let some : Some v ≡ Some p.0 = e ∙ ap value_of g in
        let value : v ≡ p.0 = cc in
        ap (λ (x : Node). is_leaf (kind_of x.kind)) value ∙ sym (ap is_leaf_top (found_tree t name id p f g))

pub no_leaf : (t : NodeTrees) (name : List ℕ) → Finds t name None → false ≡ is_leaf_top (doc.tree_at name (plain_trees t))
no_leaf t name f = sym (ap is_leaf_top (no_tree_at t name f))

-- ---- levels
pub tells_none : (id : NodeId) (name : List ℕ) (t : NodeTrees) → Tells id name t → times id t ≡ 0 → holds (plain_trees t) name ≡ false
tells_none id name leafless k e = refl
tells_none id name (tree x below after) k e =
    let no : same x.0 id ≡ false = zero_no (same x.0 id) (omega arith) in
    or_join (bytes_eq x.1.name name) (holds (plain_trees below) name) (holds (plain_trees after) name) (sym k.0 ∙ no) (tells_none id name below k.1.0 (omega arith)) (tells_none id name after k.1.1 (omega arith))
  where
    zero_no : (c : Bool) → one c ≡ 0 → c ≡ false
    zero_no true e = absurd (omega arith)
    zero_no false e = refl

pub tells_some : (id : NodeId) (name : List ℕ) (t : NodeTrees) → Tells id name t → 1 ≤ times id t → holds (plain_trees t) name ≡ true
tells_some id name leafless k e = absurd (omega arith)
tells_some id name (tree x below after) k e =
    by_place x below id
    (λ h. ap (λ b. b || (holds (plain_trees below) name || holds (plain_trees after) name)) (sym k.0 ∙ h.is))
    (λ h. later (bytes_eq x.1.name name) (holds (plain_trees below) name) (holds (plain_trees after) name) (tells_some id name below k.1.0 h.in_below))
    (λ h. last (bytes_eq x.1.name name) (holds (plain_trees below) name) (holds (plain_trees after) name) (tells_some id name after k.1.1 (omega (arith, one_no (same x.0 id) h.not, h.none))))
  where
    later : (a b c : Bool) → b ≡ true → (a || (b || c)) ≡ true
    later true b c e = refl
    later false b c e = ap (λ z. z || c) e

    last : (a b c : Bool) → c ≡ true → (a || (b || c)) ≡ true
    last true b c e = refl
    last false true c e = refl
    last false false c e = e

told_level : (id : NodeId) (name : List ℕ) (t : NodeTrees) → Tells id name t → 1 ≤ times id t → times id t ≤ 1 → length (way_up t id) ≡ doc.level_of name (plain_trees t)
told_level id name leafless k e few = absurd (omega arith)
told_level id name (tree x below after) k e few =
    by_place x below id
    (λ h. ap length (way_here x below after id h) ∙ sym (cond_yes (bytes_eq x.1.name name) _ _ (sym k.0 ∙ h.is)))
    (λ h.
    let way : length (way_up (tree x below after) id) ≡ 1 + length (way_up below id) = omega (arith, ap length (way_below x below after id h), length-append (way_up below id) (x.0 ∷ [])) in
    way ∙ ap (λ n. 1 + n) (told_level id name below k.1.0 h.in_below (omega (arith, few)))
    ∙ sym (cond_no (bytes_eq x.1.name name) _ _ (sym k.0 ∙ h.not) ∙ cond_yes (holds (plain_trees below) name) _ _ (tells_some id name below k.1.0 h.in_below)))
    (λ h.
    ap length (way_after x below after id h)
    ∙ told_level id name after k.1.1 (omega (arith, one_no (same x.0 id) h.not, h.none)) (omega (arith, few))
    ∙ sym (cond_no (bytes_eq x.1.name name) _ _ (sym k.0 ∙ h.not) ∙ cond_no (holds (plain_trees below) name) _ _ (tells_none id name below k.1.0 h.none)))

pub found_level : (t : NodeTrees) (name : List ℕ) (id : NodeId) → Finds t name (Some id) → length (way_up t id) ≡ doc.level_of name (plain_trees t)
found_level t name id f = told_level id name t f.tells (omega (arith, f.once)) (omega (arith, f.once))

pub no_level : (t : Trees Label) (name : List ℕ) → holds t name ≡ false → 0 ≡ doc.level_of name t
no_level leafless name h = refl
no_level (tree x below after) name h =
    let p = or_split (bytes_eq x.name name) (holds below name) (holds after name) h in
    no_level after name p.1.1 ∙ sym (cond_no (bytes_eq x.name name) _ _ p.0 ∙ cond_no (holds below name) _ _ p.1.0)

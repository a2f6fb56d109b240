-- Where a node stands among its siblings, and what stands under its number, as the document has it.
use Rattle.std.proofs.Common.{◌≡◌, ℕ, suc, ◌+◌, ◌<◌, ◌≤◌, Bool, true, false, List, [], ◌∷◌, ◌++◌, Option, Some, None, IsSome, is_some, add-one, drop, drop-cons, get_or, length, refl, sym, ap, ◌∙◌, arith, inl, inr}
use Rattle.std.proofs.lemmas.List.{drop_all}
use Rattle.std.specs.Prelude.{◌⊎◌, if◌then◌else◌}
use Rattle.std.specs.Option.{unwrap_or}
use Rattle.std.specs.Str.{bytes_eq}
use Rattle.plain_tree.specs.Trees.{Trees, leafless, tree, count_of}
use Rattle.node_arena.specs.declared.number.NodeId.{NodeId}
use Rattle.node_arena.specs.Numbers.{IsDistinct, Part, below_at, below_of, parent_at, part_at, same, second, times, top_numbers, value_at, value_of, way_up}
use Rattle.node_arena.proofs.Same.{After, Below, Here, by_place, one_no, one_yes, part_after, part_below, part_here, part_there, same_refl}
use Rattle.node_arena.proofs.Standing.{way_after, way_below, way_here}
use Rattle.doc_text.specs.declared.document.Plain.{Plain}
use Rattle.doc_text.specs.Documents.{plain_of}
use Rattle.doc_text.specs.Label.{Label}
use Rattle.doc_text.specs.Named as doc
use Rattle.doc_text.specs.Named.{has_top, place_among}
use Rattle.doc_text.specs.Texts.{Word}
use Rattle.edit_journal.specs.Steps.{child_of, node_at, or_position, position_in, position_of, top_of}
use Rattle.placing.specs.declared.node.Node.{Node}
use Rattle.placing.specs.Nodes.{NodeTrees}
use Rattle.page_tree.specs.Documents.{label_of, plain_trees}
use Rattle.page_tree.specs.Pages.{Held, document_of, plain_root}
use Rattle.page_tree.specs.Places.{IsPlainAt, place_of}
use Rattle.page_tree.specs.Registers.{Finds, Tells}
use Rattle.page_tree.proofs.Lookups.{found_tree}
use Rattle.reach_frame.proofs.Frame.{not_both}
use Rattle.page_tree.proofs.Marking.{no_tops}
use Rattle.page_tree.proofs.Refusals.{whole}

-- ---- among siblings
place_is : (s : NodeTrees) (id : NodeId) (name : Word) → Tells id name s → place_among name (plain_trees s) ≡ place_of id (top_numbers s)
place_is leafless id name h = refl
place_is (tree x below after) id name h = λ i. if sym h.0 i then 0 else suc (place_is after id name h.1.1 i)

no_position : (s : NodeTrees) (id : NodeId) (name : Word) → Tells id name s → times id s ≡ 0 → position_in name (plain_trees s) ≡ None
no_position leafless id name h z = refl
no_position (tree x below after) id name h z =
    λ i. or_position (child_of x.1.name (if no_tops below id name h.1.0 (omega (arith, z)) i then Some (place_among name (plain_trees below)) else None))
    (or_position (no_position below id name h.1.0 (omega (arith, z)) i) (no_position after id name h.1.1 (omega (arith, z)) i))

-- it stands at the top
pub record IsFirst (s : NodeTrees) (id : NodeId) (name : Word) : Type 0 where
  pub top : has_top (plain_trees s) name ≡ true
  pub way : way_up s id ≡ id ∷ []

-- it stands under a parent
pub record HasParent (s : NodeTrees) (id : NodeId) (name : Word) : Type 0 where
  pub low : has_top (plain_trees s) name ≡ false
  pub parent : NodeId
  pub part : Part Node
  pub way : second (way_up s id) ≡ Some parent
  pub there : part_at s parent ≡ Some part
  pub position : position_in name (plain_trees s) ≡ Some (part.0.name, place_of id (top_numbers part.1))

second_more : (w : List NodeId) (x q : NodeId) → second w ≡ Some q → second (w ++ x ∷ []) ≡ Some q
second_more [] x q e = cc
second_more (n ∷ []) x q e = cc
second_more (n ∷ m ∷ w) x q e = e

some_parent : (s : NodeTrees) (id : NodeId) (name : Word) → Tells id name s → IsDistinct s → 1 ≤ times id s → IsFirst s id name ⊎ HasParent s id name
some_parent leafless id name h d l = absurd (omega (arith, l))
some_parent (tree x below after) id name h d l =
    by_place x below id (λ g. inl (here g)) (λ g. inr (under g (some_parent below id name h.1.0 (λ n. let f = d n in omega (arith, f)) g.in_below)))
    (λ g. beside g (some_parent after id name h.1.1 (λ n. let f = d n in omega (arith, f)) (omega (arith, l, one_no (same x.0 id) g.not, g.none))))
  where
    here : Here x id → IsFirst (tree x below after) id name
    here g = record { top = ap (λ b. if b then true else has_top (plain_trees after) name) (sym h.0 ∙ g.is); way = way_here x below after id g }

    top_is : same x.0 id ≡ false → has_top (plain_trees (tree x below after)) name ≡ has_top (plain_trees after) name
    top_is e = ap (λ b. if b then true else has_top (plain_trees after) name) (sym h.0 ∙ e)

    under : Below x below id → IsFirst below id name ⊎ HasParent below id name → HasParent (tree x below after) id name
    under g (inl f) =
        record {
          low = top_is g.not ∙ no_tops after id name h.1.1 none;
          parent = x.0;
          part = (x.1, below);
          way = ap second (way_below x below after id g ∙ ap (λ w. w ++ x.0 ∷ []) f.way);
          there = part_here x below after x.0 (record { is = same_refl x.0 });
          position = ap (λ b. or_position (child_of x.1.name (if b then Some (place_among name (plain_trees below)) else None)) (or_position (position_in name (plain_trees below)) (position_in name (plain_trees after)))) f.top
              ∙ ap (λ n. Some (x.1.name, n)) (place_is below id name h.1.0);
        }
      where
        none : times id after ≡ 0
        none = let one = d id in let b = g.in_below in omega (arith, one, b)
    under g (inr f) =
        record {
          low = top_is g.not ∙ no_tops after id name h.1.1 none;
          parent = f.parent;
          part = f.part;
          way = ap second (way_below x below after id g) ∙ second_more (way_up below id) x.0 f.parent f.way;
          there = part_below x below after f.parent (record { not = other; in_below = in_below }) ∙ f.there;
          position = (λ i. or_position (child_of x.1.name (if f.low i then Some (place_among name (plain_trees below)) else None)) (or_position (f.position i) (position_in name (plain_trees after))));
        }
      where
        none : times id after ≡ 0
        none = let one = d id in let b = g.in_below in omega (arith, one, b)

        in_below : 1 ≤ times f.parent below
        in_below = part_there below f.parent (ap is_some f.there)

        other : same x.0 f.parent ≡ false
        other = at (same x.0 f.parent) refl
          where
            at : (b : Bool) → same x.0 f.parent ≡ b → same x.0 f.parent ≡ false
            at true e = let one = d f.parent in absurd (omega (arith, one, one_yes (same x.0 f.parent) e, in_below))
            at false e = e

    beside : After x below id → IsFirst after id name ⊎ HasParent after id name → IsFirst (tree x below after) id name ⊎ HasParent (tree x below after) id name
    beside g (inl f) = inl (record { top = top_is g.not ∙ f.top; way = way_after x below after id g ∙ f.way })
    beside g (inr f) =
        inr
        (record {
          low = top_is g.not ∙ f.low;
          parent = f.parent;
          part = f.part;
          way = ap second (way_after x below after id g) ∙ f.way;
          there = part_after x below after f.parent (record { not = other; none = none }) ∙ f.there;
          position = (λ i. or_position (child_of x.1.name (if no_tops below id name h.1.0 g.none i then Some (place_among name (plain_trees below)) else None)) (or_position (no_position below id name h.1.0 g.none i) (f.position i)));
        })
      where
        in_after : 1 ≤ times f.parent after
        in_after = part_there after f.parent (ap is_some f.there)

        none : times f.parent below ≡ 0
        none = let one = d f.parent in let b = in_after in omega (arith, one, b)

        other : same x.0 f.parent ≡ false
        other = at (same x.0 f.parent) refl
          where
            at : (b : Bool) → same x.0 f.parent ≡ b → same x.0 f.parent ≡ false
            at true e = let one = d f.parent in absurd (omega (arith, one, one_yes (same x.0 f.parent) e, in_after))
            at false e = e

-- where the node of a name stands in the document of a page
pub position_told : (h : Held) (id q : NodeId) (v : Node) (name : Word) → count_of h.nodes.tree ≡ 1 → IsDistinct h.nodes.tree → Finds h.nodes.tree name (Some id) → parent_at h.nodes.tree id ≡ Some q → Some v ≡ value_at h.nodes.tree q →
    position_of name (document_of h) ≡ (v.name, place_of id (top_numbers (below_at h.nodes.tree q)))
position_told h id q v name one d f p e =
    ap (λ s. unwrap_or (position_in name s) ((document_of h).root.name, 0)) (whole h one) ∙ at (some_parent h.nodes.tree id name f.tells d (omega (arith, f.once)))
  where
    at : IsFirst h.nodes.tree id name ⊎ HasParent h.nodes.tree id name → unwrap_or (position_in name (plain_trees h.nodes.tree)) ((document_of h).root.name, 0) ≡ (v.name, place_of id (top_numbers (below_at h.nodes.tree q)))
    at (inl g) = let none : None ≡ Some q = sym (ap second g.way) ∙ p in absurd cc
    at (inr g) =
        let number : Some g.parent ≡ Some q = sym g.way ∙ p in
        let same_parent : g.parent ≡ q = cc in
        let there : part_at h.nodes.tree q ≡ Some g.part = ap (part_at h.nodes.tree) (sym same_parent) ∙ g.there in
        let value : Some v ≡ Some g.part.0 = e ∙ ap value_of there in
        let same_value : g.part.0 ≡ v = cc in
        ap (λ o. unwrap_or o ((document_of h).root.name, 0)) g.position ∙ (λ i. ((same_value i).name, place_of id (top_numbers (below_of (sym there i)))))

-- the node of a name that is not that of the root has a parent
pub has_no_parent : (h : Held) (id : NodeId) (name : Word) → count_of h.nodes.tree ≡ 1 → IsDistinct h.nodes.tree → Finds h.nodes.tree name (Some id) → bytes_eq (document_of h).root.name name ≡ false → None ≡ parent_at h.nodes.tree id → ⊥
has_no_parent h id name one d f low p = at (some_parent h.nodes.tree id name f.tells d (omega (arith, f.once)))
  where
    no_top : (t : NodeTrees) → count_of t ≡ 1 → bytes_eq (plain_root (plain_trees t)).name name ≡ false → has_top (plain_trees t) name ≡ false
    no_top leafless one low = refl
    no_top (tree x below leafless) one low = ap (λ b. if b then true else false) low
    no_top (tree x below (tree y c e)) one low = absurd (omega (arith, one))

    at : IsFirst h.nodes.tree id name ⊎ HasParent h.nodes.tree id name → ⊥
    at (inl g) = not_both (has_top (plain_trees h.nodes.tree) name) g.top (no_top h.nodes.tree one low)
    at (inr g) = let none : None ≡ Some g.parent = p ∙ g.way in absurd cc

-- ---- under a number
-- what a document has under a name
pub node_told : (h : Held) (id : NodeId) (p : Part Node) (name : Word) → count_of h.nodes.tree ≡ 1 → Finds h.nodes.tree name (Some id) → part_at h.nodes.tree id ≡ Some p → node_at name (document_of h) ≡ plain_of (label_of p.0) (plain_trees p.1)
node_told h id p name one f e = ap (λ s. unwrap_or (top_of (doc.tree_at name s)) (document_of h).root) (whole h one) ∙ ap (λ s. unwrap_or (top_of s) (document_of h).root) (found_tree h.nodes.tree name id p f e)

-- the values and the kind of a node are those of the node of the document
pub value_told : (h : Held) (id : NodeId) (v : Node) (name : Word) → count_of h.nodes.tree ≡ 1 → Finds h.nodes.tree name (Some id) → Some v ≡ value_at h.nodes.tree id → (below : Trees Label) × (node_at name (document_of h) ≡ plain_of (label_of v) below)
value_told h id v name one f e = at (part_at h.nodes.tree id) refl f.live
  where
    at : (o : Option (Part Node)) → part_at h.nodes.tree id ≡ o → IsSome o → (below : Trees Label) × (node_at name (document_of h) ≡ plain_of (label_of v) below)
    at None q l = absurd cc
    at (Some p) q l =
        let value : Some v ≡ Some p.0 = e ∙ ap value_of q in
        let same_value : p.0 ≡ v = cc in
        (plain_trees p.1, node_told h id p name one f q ∙ (λ i. plain_of (label_of (same_value i)) (plain_trees p.1)))

-- ---- a number in a list
pub next_place : (id d : NodeId) (ns : List NodeId) (i : ℕ) → i < length ns → same (get_or ns i d) id ≡ false → place_of id ns ≡ i + place_of id (drop i ns) → place_of id ns ≡ (i + 1) + place_of id (drop (i + 1) ns)
next_place id d ns i l e h = h ∙ ap (λ m. i + m) (ap (place_of id) (drop-cons ns i d l) ∙ ap (λ b. if b then 0 else suc (place_of id (drop (suc i) ns))) e) ∙ rw add-one (omega arith)

pub place_here : (id d : NodeId) (ns : List NodeId) (i : ℕ) → i < length ns → same (get_or ns i d) id ≡ true → place_of id ns ≡ i + place_of id (drop i ns) → i ≡ place_of id ns
place_here id d ns i l e h = sym (h ∙ ap (λ m. i + m) (ap (place_of id) (drop-cons ns i d l) ∙ ap (λ b. if b then 0 else suc (place_of id (drop (suc i) ns))) e) ∙ omega arith)

pub place_nowhere : (id : NodeId) (ns : List NodeId) (i : ℕ) → length ns ≤ i → i ≤ length ns → place_of id ns ≡ i + place_of id (drop i ns) → length ns ≡ place_of id ns
place_nowhere id ns i l m h = omega (arith, h, l, m, ap (place_of id) (drop_all i ns l))

-- ---- the whole node
-- what a document has at a number is what it has at the name
pub plain_told : (h : Held) (id : NodeId) (node : Plain) (name : Word) → count_of h.nodes.tree ≡ 1 → Finds h.nodes.tree name (Some id) → IsPlainAt h.nodes.tree id node → node ≡ node_at name (document_of h)
plain_told h id node name one f is = at (part_at h.nodes.tree id) refl f.live
  where
    at : (o : Option (Part Node)) → part_at h.nodes.tree id ≡ o → IsSome o → node ≡ node_at name (document_of h)
    at None q l = absurd cc
    at (Some p) q l = is p q ∙ sym (node_told h id p name one f q)

-- Every document has numbered trees: its nodes in document order, with their computed styles, which
-- keep nothing.
use Rattle.std.proofs.Common.{◌≡◌, refl, ap, ℕ, ℤ, ◌+◌, ◌<◌, ◌≤◌, Bool, true, false, [], arith, ◌⊎◌, inl, inr}
use Rattle.std.specs.Prelude.{◌==◌, ◌&&◌}
use Rattle.std.proofs.lemmas.Bool.{cases_lt, ne_eqb}
use Rattle.plain_tree.specs.Trees.{Trees, leafless, tree, size_of}
use Rattle.node_arena.specs.declared.number.NodeId.{NodeId}
use Rattle.node_arena.specs.Numbers.{EachNode, IsDistinct, one, same, times}
use Rattle.style_types.specs.Computed.{computed_style, font_of}
use Rattle.style_types.specs.Styles.{StyleMap}
use Rattle.doc_text.specs.declared.kind.Kind.{Kind}
use Rattle.doc_text.specs.declared.kind.Kind.TheVariants as plain
use Rattle.doc_text.specs.Label.{Label}
use Rattle.placing.specs.declared.node.Node.{Node}
use Rattle.placing.specs.Nodes.{NodeTrees}
use Rattle.placing.specs.Told.{no_past}
use Rattle.page_tree.specs.Boxes.{node_kind_of}
use Rattle.page_tree.specs.Documents.{kind_of, label_of, plain_trees}
use Rattle.page_tree.specs.Fonts.{AreStyled}
use Rattle.page_tree.specs.Shapes.{IsBegun}

abbrev pub number : ℕ → NodeId
number k = record { slot = k; turn = 0 }

abbrev pub new_node : Label → StyleMap → Node
new_node x style = record { turn = 1; kept = []; kind = node_kind_of x.kind; name = x.name; style = style; past = no_past; declared = x.style }

-- trees below a node of this font size, in document order from this number on
abbrev pub numbers : ℕ → ℤ → ℤ → Trees Label → NodeTrees
numbers k parent root leafless = leafless
numbers k parent root (tree x below after) =
    tree (number k, new_node x (computed_style (font_of parent root x.style) root x.style)) (numbers (k + 1) (font_of parent root x.style) root below) (numbers (k + 1 + size_of below) parent root after)

pub same_kind : (kind : Kind) → kind_of (node_kind_of kind) ≡ kind
same_kind plain.Grid = refl
same_kind plain.Flex = refl
same_kind (plain.Leaf content) = refl

pub new_label : (x : Label) (style : StyleMap) → label_of (new_node x style) ≡ x
new_label x style = λ i. record { name = x.name; kind = same_kind x.kind i; style = x.style }

pub numbers_plain : (k : ℕ) (parent root : ℤ) (t : Trees Label) → plain_trees (numbers k parent root t) ≡ t
numbers_plain k parent root leafless = refl
numbers_plain k parent root (tree x below after) =
    λ i. tree (new_label x (computed_style (font_of parent root x.style) root x.style) i) (numbers_plain (k + 1) (font_of parent root x.style) root below i) (numbers_plain (k + 1 + size_of below) parent root after i)

pub numbers_styled : (k : ℕ) (parent root : ℤ) (t : Trees Label) → AreStyled parent root (numbers k parent root t)
numbers_styled k parent root leafless = tt
numbers_styled k parent root (tree x below after) = (refl, (numbers_styled (k + 1) (font_of parent root x.style) root below, numbers_styled (k + 1 + size_of below) parent root after))

pub numbers_begun : (k : ℕ) (parent root : ℤ) (t : Trees Label) → EachNode (λ x. IsBegun x.1) (numbers k parent root t)
numbers_begun k parent root leafless = tt
numbers_begun k parent root (tree x below after) =
    (record { kept = refl; past = refl; turn = refl }, (numbers_begun (k + 1) (font_of parent root x.style) root below, numbers_begun (k + 1 + size_of below) parent root after))

-- ---- which numbers there are

pub other_number : (k : ℕ) (n : NodeId) → ¬ (k ≡ n.slot) → one (same (number k) n) ≡ 0
unfolding same
other_number k n e = ap (λ (b : Bool). one (b && (0 == n.turn))) (ne_eqb k n.slot e)

pub none_before : (k : ℕ) (parent root : ℤ) (t : Trees Label) (n : NodeId) → n.slot < k → times n (numbers k parent root t) ≡ 0
none_before k parent root leafless n l = refl
none_before k parent root (tree x below after) n l =
    omega (arith, other_number k n (λ e. absurd (omega (arith, l, e))), none_before (k + 1) (font_of parent root x.style) root below n (omega (arith, l)), none_before (k + 1 + size_of below) parent root after n (omega (arith, l)))

pub none_behind : (k : ℕ) (parent root : ℤ) (t : Trees Label) (n : NodeId) → k + size_of t ≤ n.slot → times n (numbers k parent root t) ≡ 0
none_behind k parent root leafless n l = refl
none_behind k parent root (tree x below after) n l =
    omega (arith, other_number k n (λ e. absurd (omega (arith, l, e))), none_behind (k + 1) (font_of parent root x.style) root below n (omega (arith, l)), none_behind (k + 1 + size_of below) parent root after n (omega (arith, l)))

pub at_most_one : (b : Bool) → one b ≤ 1
at_most_one true = omega arith
at_most_one false = omega arith

pub numbers_distinct : (k : ℕ) (parent root : ℤ) (t : Trees Label) → IsDistinct (numbers k parent root t)
numbers_distinct k parent root leafless n = omega arith
numbers_distinct k parent root (tree x below after) n =
    at (cases_lt n.slot (k + 1)) (cases_lt n.slot (k + 1 + size_of below)) (numbers_distinct (k + 1) (font_of parent root x.style) root below n) (numbers_distinct (k + 1 + size_of below) parent root after n)
  where
    first : ℕ
    first = one (same (number k) n)

    lower : ℕ
    lower = times n (numbers (k + 1) (font_of parent root x.style) root below)

    later : ℕ
    later = times n (numbers (k + 1 + size_of below) parent root after)

    at : (n.slot < k + 1) ⊎ (k + 1 ≤ n.slot) → (n.slot < k + 1 + size_of below) ⊎ (k + 1 + size_of below ≤ n.slot) → lower ≤ 1 → later ≤ 1 → first + lower + later ≤ 1
    at (inl l) m b a =
        let none : lower ≡ 0 = none_before (k + 1) (font_of parent root x.style) root below n l in
        let nor : later ≡ 0 = none_before (k + 1 + size_of below) parent root after n (omega (arith, l)) in
        omega (arith, at_most_one (same (number k) n), none, nor)
    at (inr l) (inl m) b a =
        let none : later ≡ 0 = none_before (k + 1 + size_of below) parent root after n m in
        let not : first ≡ 0 = other_number k n (λ e. absurd (omega (arith, l, e))) in
        omega (arith, b, none, not)
    at (inr l) (inr m) b a =
        let none : lower ≡ 0 = none_behind (k + 1) (font_of parent root x.style) root below n m in
        let not : first ≡ 0 = other_number k n (λ e. absurd (omega (arith, l, e))) in
        omega (arith, a, none, not)

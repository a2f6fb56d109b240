-- Trees whose computed styles have changed.
use Rattle.std.proofs.Common.{◌≡◌, ℕ, zero, suc, ◌+◌, ◌≤◌, ◌<◌, ℤ, Bool, true, false, List, [], ◌∷◌, ◌++◌, Option, Some, None, IsSome, cond, refl, sym, ap, subst, ◌∙◌, arith, add-one, append_assoc, append-nil}
use Rattle.std.specs.Prelude.{slice_get}
use Rattle.plain_tree.specs.Trees.{Trees, leafless, tree, joined, count_of, size_of}
use Rattle.node_arena.specs.declared.number.NodeId.{NodeId}
use Rattle.node_arena.specs.Numbers.{EachNode, IsChild, IsDistinct, IsNumbered, Part, below_at, below_of, mapped, number_of, one, part_at, replaced, same, times, tops, value_at, value_of, whole_of}
use Rattle.node_arena.specs.Edits.{graft, grafted, put_at}
use Rattle.node_arena.specs.Plain.{Nodes, with_value}
use Rattle.node_arena.proofs.Same.{After, Below, Here, by_place, cond_no, cond_yes, one_yes, part_after, part_below, part_here, same_from, same_is, same_refl}
use Rattle.node_arena.proofs.Parts.{below_within}
use Rattle.node_arena.proofs.Changed.{count_of_mapped}
use Rattle.node_arena.proofs.Edited.{edited_here, edited_not, tree_is}
use Rattle.node_arena.proofs.Standing.{some_is}
use Rattle.layout_cache.specs.Reach.{from_tree}
use Rattle.layout_cache.proofs.Reaches.{from_size, past_none}
use Rattle.style_types.specs.Computed.{computed_style, font_of}
use Rattle.style_types.specs.Styles.{StyleMap}
use Rattle.placing.specs.declared.node.Node.{Node}
use Rattle.placing.specs.Keeping.{KeepsNone}
use Rattle.placing.specs.Nodes.{NodeTrees}
use Rattle.page_tree.specs.Documents.{label_of, plain_trees}
use Rattle.page_tree.specs.Fonts.{AreStyled, HasFont, HasFontBelow, HasStyle, IsStyled, root_font, root_font_of}
use Rattle.page_tree.specs.Pages.{IsPage}
use Rattle.page_tree.specs.Registers.{IsRegister, named}
use Rattle.page_tree.specs.Restyled.{GetsFontBelow, GetsFonts, IsNextStyled, Restyles, RestylesUnder, Styles, restyled, styled_from, styles_of, with_styles}
use Rattle.page_tree.proofs.Changes.{mapped_none}

-- ---- what a list of styles leaves
pub restyled_plain : (styles : Styles) (t : NodeTrees) → plain_trees (restyled styles t) ≡ plain_trees t
restyled_plain styles leafless = refl
restyled_plain styles (tree x below after) = λ i. tree (label_of x.1) (restyled_plain styles below i) (restyled_plain styles after i)

pub restyled_count : (styles : Styles) (t : NodeTrees) → count_of (restyled styles t) ≡ count_of t
restyled_count styles leafless = refl
restyled_count styles (tree x below after) = omega (arith, restyled_count styles after)

restyled_times : (styles : Styles) (n : NodeId) (t : NodeTrees) → times n (restyled styles t) ≡ times n t
restyled_times styles n leafless = refl
restyled_times styles n (tree x below after) = omega (arith, restyled_times styles n below, restyled_times styles n after)

restyled_named : (styles : Styles) (name : List ℕ) (n : NodeId) (t : NodeTrees) → named name n (restyled styles t) ≡ named name n t
restyled_named styles name n leafless = refl
restyled_named styles name n (tree x below after) = omega (arith, restyled_named styles name n below, restyled_named styles name n after)

pub restyled_registered : (find : List ℕ → Option NodeId) (styles : Styles) (t : NodeTrees) → IsRegister find t → IsRegister find (restyled styles t)
restyled_registered find styles t r =
    record {
      told = λ name n. restyled_named styles name n t ∙ r.told name n;
      distinct = λ n. omega (arith, restyled_times styles n t, r.distinct n);
    }

-- nodes that a list of styles leaves
abbrev pub Leaves : Styles → NodeTrees → Type 0
Leaves styles t = (k : NodeId) → 1 ≤ times k t → (old : StyleMap) → styled_from styles k old ≡ old

own_times : (x : NodeId × Node) (below after : NodeTrees) → 1 ≤ times x.0 (tree x below after)
own_times x below after = omega (arith, one_yes (same x.0 x.0) (same_refl x.0))

pub restyled_leaves : (styles : Styles) (t : NodeTrees) → Leaves styles t → restyled styles t ≡ t
restyled_leaves styles leafless h = refl
restyled_leaves styles (tree x below after) h =
    λ i. tree (x.0, record x.1 { style = h x.0 (own_times x below after) x.1.style i }) (restyled_leaves styles below (λ k l. h k (omega arith)) i) (restyled_leaves styles after (λ k l. h k (omega arith)) i)

-- ---- a graft
pub restyled_joined : (styles : Styles) (s t : NodeTrees) → restyled styles (joined s t) ≡ joined (restyled styles s) (restyled styles t)
restyled_joined styles leafless t = refl
restyled_joined styles (tree x below after) t = λ i. tree (x.0, record x.1 { style = styled_from styles x.0 x.1.style }) (restyled styles below) (restyled_joined styles after t i)

restyled_put : (styles : Styles) (index : ℕ) (new t : NodeTrees) → restyled styles (put_at index new t) ≡ put_at index (restyled styles new) (restyled styles t)
restyled_put styles index new leafless = refl
restyled_put styles zero new (tree x below after) = restyled_joined styles new (tree x below after)
restyled_put styles (suc index) new (tree x below after) = λ i. tree (x.0, record x.1 { style = styled_from styles x.0 x.1.style }) (restyled styles below) (restyled_put styles index new after i)

pub restyled_grafted : (styles : Styles) (n : NodeId) (index : ℕ) (new t : NodeTrees) → restyled styles (grafted n index new t) ≡ grafted n index (restyled styles new) (restyled styles t)
restyled_grafted styles n index new leafless = refl
restyled_grafted styles n index new (tree x below after) = at (same x.0 n) refl (restyled_grafted styles n index new below) (restyled_grafted styles n index new after)
  where
    now : NodeId × Node
    now = (x.0, record x.1 { style = styled_from styles x.0 x.1.style })

    at : (c : Bool) → same x.0 n ≡ c → restyled styles (grafted n index new below) ≡ grafted n index (restyled styles new) (restyled styles below) → restyled styles (grafted n index new after) ≡ grafted n index (restyled styles new) (restyled styles after) →
        restyled styles (grafted n index new (tree x below after)) ≡ grafted n index (restyled styles new) (restyled styles (tree x below after))
    at true e b a =
        ap (restyled styles) (edited_here n (graft index new) x below after e) ∙ ap (λ u. tree (x.0, record x.1 { style = styled_from styles x.0 x.1.style }) u (restyled styles after)) (restyled_put styles index new below)
        ∙ sym (edited_here n (graft index (restyled styles new)) (x.0, record x.1 { style = styled_from styles x.0 x.1.style }) (restyled styles below) (restyled styles after) e)
    at false e b a =
        ap (restyled styles) (edited_not n (graft index new) x below after e) ∙ (λ i. tree (x.0, record x.1 { style = styled_from styles x.0 x.1.style }) (b i) (a i))
        ∙ sym (edited_not n (graft index (restyled styles new)) (x.0, record x.1 { style = styled_from styles x.0 x.1.style }) (restyled styles below) (restyled styles after) e)

-- ---- one list after another
from_joined : (first second : Styles) (k : NodeId) (old : StyleMap) → styled_from (first ++ second) k old ≡ styled_from first k (styled_from second k old)
from_joined [] second k old = refl
from_joined (s ∷ first) second k old = ap (λ y. cond (same s.0 k) s.1 y) (from_joined first second k old)

restyled_twice : (first second : Styles) (t : NodeTrees) → restyled first (restyled second t) ≡ restyled (first ++ second) t
restyled_twice first second leafless = refl
restyled_twice first second (tree x below after) =
    λ i. tree (x.0, record x.1 { style = sym (from_joined first second x.0 x.1.style) i }) (restyled_twice first second below i) (restyled_twice first second after i)

-- the last of a list is written, then those before it
pub last_written : (all left : Styles) (id : NodeId) (style : StyleMap) (old now : Nodes Node) → all ≡ left ++ (id, style) ∷ [] → now ≡ with_styles ((id, style) ∷ []) old → with_styles left now ≡ with_styles all old
last_written all left id style old now e w =
    ap (with_styles left) w ∙ (λ i. record old { tree = restyled_twice left ((id, style) ∷ []) old.tree i }) ∙ ap (λ s. with_styles s old) (sym e)

pub none_written : (nodes : Nodes Node) → with_styles [] nodes ≡ nodes
none_written nodes = λ i. record nodes { tree = restyled_leaves [] nodes.tree (λ k l old. refl) i }

-- one style written
one_written : (n : NodeId) (v : Node) (style : StyleMap) (whole t : NodeTrees) → Some v ≡ value_at whole n → EachNode (λ x. value_at whole x.0 ≡ Some x.1) t → replaced n (record v { style = style }) t ≡ restyled ((n, style) ∷ []) t
one_written n v style whole leafless e h = refl
one_written n v style whole (tree x below after) e h =
    λ i. tree (x.0, at (same x.0 n) refl i) (one_written n v style whole below e h.1.0 i) (one_written n v style whole after e h.1.1 i)
  where
    turned : same x.0 n ≡ same n x.0
    turned = turn (same x.0 n) (same n x.0) refl refl
      where
        turn : (a b : Bool) → same x.0 n ≡ a → same n x.0 ≡ b → same x.0 n ≡ same n x.0
        turn true b p q = p ∙ sym (same_from n x.0 (sym (same_is x.0 n p)))
        turn false true p q = same_from x.0 n (sym (same_is n x.0 q)) ∙ sym q
        turn false false p q = p ∙ sym q

    at : (c : Bool) → same x.0 n ≡ c → cond (same x.0 n) (record v { style = style }) x.1 ≡ record x.1 { style = cond (same n x.0) style x.1.style }
    at true p =
        let value : Some v ≡ Some x.1 = e ∙ ap (value_at whole) (sym (same_is x.0 n p)) ∙ h.0 in
        let is : v ≡ x.1 = cc in
        cond_yes (same x.0 n) (record v { style = style }) x.1 p ∙ (λ i. record (is i) { style = sym (cond_yes (same n x.0) style x.1.style (sym turned ∙ p)) i })
    at false p = cond_no (same x.0 n) (record v { style = style }) x.1 p ∙ (λ i. record x.1 { style = sym (cond_no (same n x.0) style x.1.style (sym turned ∙ p)) i })

nowhere_written : (n : NodeId) (style : StyleMap) (whole t : NodeTrees) → None ≡ value_at whole n → EachNode (λ x. value_at whole x.0 ≡ Some x.1) t → t ≡ restyled ((n, style) ∷ []) t
nowhere_written n style whole leafless e h = refl
nowhere_written n style whole (tree x below after) e h =
    λ i. tree (x.0, record x.1 { style = sym (cond_no (same n x.0) style x.1.style (at (same n x.0) refl)) i }) (nowhere_written n style whole below e h.1.0 i) (nowhere_written n style whole after e h.1.1 i)
  where
    at : (c : Bool) → same n x.0 ≡ c → same n x.0 ≡ false
    at true p = let none : None ≡ Some x.1 = e ∙ ap (value_at whole) (same_is n x.0 p) ∙ h.0 in absurd cc
    at false p = p

pub one_put : (n : NodeId) (v : Node) (style : StyleMap) (nodes : Nodes Node) → Some v ≡ value_at nodes.tree n → IsNumbered nodes.tree → with_value n (record v { style = style }) nodes ≡ with_styles ((n, style) ∷ []) nodes
one_put n v style nodes e h = λ i. record nodes { tree = one_written n v style nodes.tree nodes.tree e h.each i }

pub none_put : (n : NodeId) (style : StyleMap) (nodes : Nodes Node) → None ≡ value_at nodes.tree n → IsNumbered nodes.tree → nodes ≡ with_styles ((n, style) ∷ []) nodes
none_put n style nodes e h = λ i. record nodes { tree = nowhere_written n style nodes.tree nodes.tree e h.each i }

pub ruleset writing = (last_written, none_written, one_put, none_put)

-- ---- the styles of all nodes of a tree
styles_apart : (p r : ℤ) (t : NodeTrees) (k : NodeId) → times k t ≡ 0 → (old : StyleMap) → styled_from (styles_of p r t) k old ≡ old
styles_apart p r leafless k e old = refl
styles_apart p r (tree x below after) k e old =
    cond_no (same x.0 k) _ _ (no (same x.0 k) (omega arith)) ∙ from_joined (styles_of (font_of p r x.1.declared) r below) (styles_of p r after) k old
    ∙ styles_apart (font_of p r x.1.declared) r below k (omega arith) (styled_from (styles_of p r after) k old) ∙ styles_apart p r after k (omega arith) old
  where
    no : (c : Bool) → one c ≡ 0 → c ≡ false
    no true h = absurd (omega arith)
    no false h = refl

-- what gives each node of a tree its entry, whatever it had, gives each its computed style
covered : (p r : ℤ) (t : NodeTrees) (given : NodeId → StyleMap → StyleMap) (had : NodeId → StyleMap → StyleMap) → IsDistinct t → ((k : NodeId) → 1 ≤ times k t → (old : StyleMap) → given k old ≡ styled_from (styles_of p r t) k (had k old)) →
    AreStyled p r (mapped {A = Node} {B = Node} (λ k v. record v { style = given k v.style }) t)
covered p r leafless given had d h = tt
covered p r (tree x below after) given had d h = (
  h x.0 (own_times x below after) x.1.style ∙ cond_yes (same x.0 x.0) _ _ (same_refl x.0),
  (
    covered (font_of p r x.1.declared) r below given (λ k old. styled_from (styles_of p r after) k (had k old)) (λ k. let f = d k in omega arith)
        (λ k l old. h k (omega arith) old ∙ cond_no (same x.0 k) _ _ (not_own k (omega arith)) ∙ from_joined (styles_of (font_of p r x.1.declared) r below) (styles_of p r after) k (had k old)),
    covered p r after given had (λ k. let f = d k in omega arith)
        (λ k l old. let f = d k in
        h k (omega arith) old ∙ cond_no (same x.0 k) _ _ (not_own k (omega arith)) ∙ from_joined (styles_of (font_of p r x.1.declared) r below) (styles_of p r after) k (had k old)
        ∙ styles_apart (font_of p r x.1.declared) r below k (omega arith) (styled_from (styles_of p r after) k (had k old))),
  ),
)
  where
    not_own : (k : NodeId) → 1 ≤ times k below + times k after → same x.0 k ≡ false
    not_own k l = at (same x.0 k) refl
      where
        at : (c : Bool) → same x.0 k ≡ c → same x.0 k ≡ false
        at true e = let f = d k in absurd (omega (arith, one_yes (same x.0 k) e))
        at false e = e

-- they restyle the tree
all_restyles : (p r : ℤ) (styles : Styles) (t : NodeTrees) → IsDistinct t → styles ≡ styles_of p r t → Restyles p r styles t
all_restyles p r styles t d e =
    subst (λ s. Restyles p r s t) (sym e)
    (record { apart = λ k n old. styles_apart p r t k n old; styled = covered p r t (styled_from (styles_of p r t)) (λ k old. old) d (λ k l old. refl) })

-- where the font sizes are the same none is needed
same_styled : (p r : ℤ) (t : NodeTrees) → AreStyled p r t → AreStyled p r (restyled [] t)
same_styled p r leafless h = tt
same_styled p r (tree x below after) h = (h.0, (same_styled (font_of p r x.1.declared) r below h.1.0, same_styled p r after h.1.1))

none_restyles : (p r : ℤ) (t : NodeTrees) → AreStyled p r t → Restyles p r [] t
none_restyles p r t h = record { apart = λ k n old. refl; styled = same_styled p r t h }

-- ---- below a number
styled_below : (p r em : ℤ) (n : NodeId) (q : Part Node) (t : NodeTrees) → part_at t n ≡ Some q → HasFontBelow em p r n t → AreStyled p r t → AreStyled em r q.1
styled_below p r em n q leafless e f h = absurd cc
styled_below p r em n q (tree x below after) e f h =
    by_place x below n
    (λ g. let is : below ≡ q.1 = ap below_of (sym (part_here x below after n g) ∙ e) in
    subst (λ u. AreStyled em r u) is (subst (λ z. AreStyled z r below) (f.0 g.is) h.1.0))
    (λ g. styled_below (font_of p r x.1.declared) r em n q below (sym (part_below x below after n g) ∙ e) f.1.0 h.1.0)
    (λ g. styled_below p r em n q after (sym (part_after x below after n g) ∙ e) f.1.1 h.1.1)

part_styled : (em : ℤ) (n : NodeId) (q : Part Node) (t : NodeTrees) → count_of t ≡ 1 → part_at t n ≡ Some q → HasFont em n t → IsStyled t → AreStyled em (root_font_of t) q.1
part_styled em n q leafless c e f h = absurd cc
part_styled em n q (tree x below leafless) c e f h =
    by_place x below n
    (λ g. let is : below ≡ q.1 = ap below_of (sym (part_here x below leafless n g) ∙ e) in
    subst (λ u. AreStyled em (root_font x.1.declared) u) is (subst (λ z. AreStyled z (root_font x.1.declared) below) (f.0 g.is) h.1))
    (λ g. styled_below (root_font x.1.declared) (root_font x.1.declared) em n q below (sym (part_below x below leafless n g) ∙ e) f.1 h.1)
    (λ g. let none : None ≡ Some q = sym (part_after x below leafless n g) ∙ e in absurd cc)
part_styled em n q (tree x below (tree y b a)) c e f h = absurd (omega (arith, c))

own_below : (p r em : ℤ) (n : NodeId) (q : Part Node) (t : NodeTrees) → part_at t n ≡ Some q → HasFontBelow em p r n t → AreStyled p r t → HasStyle em r q.0
own_below p r em n q leafless e f h = absurd cc
own_below p r em n q (tree x below after) e f h =
    by_place x below n
    (λ g. let is : Some x.1 ≡ Some q.0 = ap value_of (sym (part_here x below after n g) ∙ e) in
    subst (λ (y : Node). HasStyle em r y) (some_is x.1 q.0 is) (subst (λ z. HasStyle z r x.1) (f.0 g.is) h.0))
    (λ g. own_below (font_of p r x.1.declared) r em n q below (sym (part_below x below after n g) ∙ e) f.1.0 h.1.0)
    (λ g. own_below p r em n q after (sym (part_after x below after n g) ∙ e) f.1.1 h.1.1)

own_styled : (em : ℤ) (n : NodeId) (q : Part Node) (t : NodeTrees) → count_of t ≡ 1 → part_at t n ≡ Some q → HasFont em n t → IsStyled t → HasStyle em (root_font_of t) q.0
own_styled em n q leafless c e f h = absurd cc
own_styled em n q (tree x below leafless) c e f h =
    by_place x below n
    (λ g. let is : Some x.1 ≡ Some q.0 = ap value_of (sym (part_here x below leafless n g) ∙ e) in
    subst (λ (y : Node). HasStyle em (root_font x.1.declared) y) (some_is x.1 q.0 is) (subst (λ z. HasStyle z (root_font x.1.declared) x.1) (f.0 g.is) h.0))
    (λ g. own_below (root_font x.1.declared) (root_font x.1.declared) em n q below (sym (part_below x below leafless n g) ∙ e) f.1 h.1)
    (λ g. let none : None ≡ Some q = sym (part_after x below leafless n g) ∙ e in absurd cc)
own_styled em n q (tree x below (tree y b a)) c e f h = absurd (omega (arith, c))

part_distinct : (n : NodeId) (q : Part Node) (t : NodeTrees) → IsDistinct t → part_at t n ≡ Some q → IsDistinct (tree (n, q.0) q.1 leafless)
part_distinct n q t d e k = omega (arith, d k, below_within t n k q e)

-- the nodes below a number where its font sizes stay
pub fonts_stay : (em rem : ℤ) (n : NodeId) (t : NodeTrees) → IsPage t → IsSome (part_at t n) → HasFont em n t → root_font_of t ≡ rem → (styles : Styles) → styles ≡ [] → Restyles em rem styles (below_at t n)
fonts_stay em rem n t page live f r styles e = subst (λ s. Restyles em rem s (below_at t n)) (sym e) (at (part_at t n) refl live)
  where
    at : (o : Option (Part Node)) → part_at t n ≡ o → IsSome o → Restyles em rem [] (below_of o)
    at None g l = absurd cc
    at (Some q) g l = none_restyles em rem q.1 (subst (λ z. AreStyled em z q.1) r (part_styled em n q t page.rooted g f page.styled))

pub fonts_change : (em rem : ℤ) (n : NodeId) (t : NodeTrees) → IsDistinct t → (styles : Styles) → styles ≡ styles_of em rem (below_at t n) → Restyles em rem styles (below_at t n)
fonts_change em rem n t d styles e = all_restyles em rem styles (below_at t n) (at (part_at t n) refl) e
  where
    at : (o : Option (Part Node)) → part_at t n ≡ o → IsDistinct (below_of o)
    at None g k = omega arith
    at (Some q) g k = omega (arith, part_distinct n q t d g k)

-- a node and all below it under another parent, where its font size stays
pub font_stays : (em font : ℤ) (parent n : NodeId) (v : Node) (t : NodeTrees) → IsPage t → IsDistinct t → Some v ≡ value_at t n → HasFont em parent t → font ≡ font_of em (root_font_of t) v.declared → HasFont font n t → (styles : Styles) → styles ≡ [] →
    RestylesUnder parent styles n t
font_stays em font parent n v t page d value above f has styles e = subst (λ s. RestylesUnder parent s n t) (sym e) (at (part_at t n) refl value)
  where
    at : (o : Option (Part Node)) → part_at t n ≡ o → Some v ≡ value_of o → RestylesUnder parent [] n t
    at None g l = absurd cc
    at (Some q) g l =
        let is : v ≡ q.0 = some_is v q.0 l in
        let own : font ≡ font_of em (root_font_of t) q.0.declared = f ∙ ap (λ (y : Node). font_of em (root_font_of t) y.declared) is in
        record {
          font = em;
          has = above;
          new = subst (λ u. Restyles em (root_font_of t) [] u) (sym (tree_is n t q (d n) g)) (none_restyles em (root_font_of t) (tree (n, q.0) q.1 leafless) (
            subst (λ z. HasStyle z (root_font_of t) q.0) own (own_styled font n q t page.rooted g has page.styled),
            (subst (λ z. AreStyled z (root_font_of t) q.1) own (part_styled font n q t page.rooted g has page.styled), tt),
          ));
        }

-- a node and all below it under another parent, where its font size changes
pub font_changes : (em font : ℤ) (parent n : NodeId) (v : Node) (style : StyleMap) (t : NodeTrees) → IsDistinct t → Some v ≡ value_at t n → HasFont em parent t → font ≡ font_of em (root_font_of t) v.declared → style ≡ computed_style font (root_font_of t) v.declared → (styles : Styles) →
    styles ≡ (n, style) ∷ styles_of font (root_font_of t) (below_at t n) → RestylesUnder parent styles n t
font_changes em font parent n v style t d value above f s styles e = at (part_at t n) refl value e
  where
    at : (o : Option (Part Node)) → part_at t n ≡ o → Some v ≡ value_of o → styles ≡ (n, style) ∷ styles_of font (root_font_of t) (below_at t n) → RestylesUnder parent styles n t
    at None g l k = absurd cc
    at (Some q) g l k =
        let is : v ≡ q.0 = some_is v q.0 l in
        let own : font ≡ font_of em (root_font_of t) q.0.declared = f ∙ ap (λ (y : Node). font_of em (root_font_of t) y.declared) is in
        let style_is : style ≡ computed_style (font_of em (root_font_of t) q.0.declared) (root_font_of t) q.0.declared = s ∙ (λ i. computed_style (own i) (root_font_of t) (is i).declared) in
        record {
          font = em;
          has = above;
          new = subst (λ u. Restyles em (root_font_of t) styles u) (sym (tree_is n t q (d n) g)) (all_restyles em (root_font_of t) styles (tree (n, q.0) q.1 leafless) (part_distinct n q t d g)
              (k ∙ (λ i. (n, style_is i) ∷ styles_of (own i) (root_font_of t) (below_of (g i))) ∙
              ap (λ l. (n, computed_style (font_of em (root_font_of t) q.0.declared) (root_font_of t) q.0.declared) ∷ l) (sym (append-nil (styles_of (font_of em (root_font_of t) q.0.declared) (root_font_of t) q.1)))));
        }

-- ---- a node with other values
put_here : (n : NodeId) (v : Node) (x : NodeId × Node) (below after : NodeTrees) → same x.0 n ≡ true → times n (tree x below after) ≤ 1 → replaced n v (tree x below after) ≡ tree (x.0, v) below after
put_here n v x below after e d =
    let here = one_yes (same x.0 n) e in
    λ i. tree (x.0, cond_yes (same x.0 n) v x.1 e i) (mapped_none n v below (omega arith) i) (mapped_none n v after (omega arith) i)

put_in : (n : NodeId) (v : Node) (x : NodeId × Node) (below after : NodeTrees) → same x.0 n ≡ false → times n after ≡ 0 → replaced n v (tree x below after) ≡ tree x (replaced n v below) after
put_in n v x below after e d = λ i. tree (x.0, cond_no (same x.0 n) v x.1 e i) (replaced n v below) (mapped_none n v after d i)

put_after : (n : NodeId) (v : Node) (x : NodeId × Node) (below after : NodeTrees) → same x.0 n ≡ false → times n below ≡ 0 → replaced n v (tree x below after) ≡ tree x below (replaced n v after)
put_after n v x below after e d = λ i. tree (x.0, cond_no (same x.0 n) v x.1 e i) (mapped_none n v below d i) (replaced n v after)

own_style : (em r : ℤ) (v : Node) (font : ℤ) (style : StyleMap) → style ≡ v.style → HasStyle em r v → font ≡ em → style ≡ computed_style font r v.declared
own_style em r v font style e s f = e ∙ s ∙ ap (λ z. computed_style z r v.declared) (sym f)

-- each of the trees has its computed style where a node and all below it have got other styles
put_below : (p r em : ℤ) (n : NodeId) (v : Node) (styles : Styles) (q : Part Node) (t : NodeTrees) → part_at t n ≡ Some q → GetsFontBelow em v.declared p r n t → HasStyle em r v → Restyles em r styles q.1 → IsDistinct t →
    AreStyled p r t → AreStyled p r (restyled styles (replaced n v t))
put_below p r em n v styles q leafless e f s w d h = tt
put_below p r em n v styles q (tree x below after) e f s w d h =
    by_place x below n here
    (in_below (λ g. put_below (font_of p r x.1.declared) r em n v styles q below g f.1.0 s w (λ k. let few = d k in omega arith) h.1.0))
    (in_after (λ g. put_below p r em n v styles q after g f.1.1 s w (λ k. let few = d k in omega arith) h.1.1))
  where
    here : Here x n → AreStyled p r (restyled styles (replaced n v (tree x below after)))
    here g =
        let is : below ≡ q.1 = ap below_of (sym (part_here x below after n g) ∙ e) in
        subst (λ u. AreStyled p r (restyled styles u)) (sym (put_here n v x below after g.is (d n))) (
          own_style em r v (font_of p r v.declared) (styled_from styles x.0 v.style) (w.apart x.0 (sym (ap (times x.0) is) ∙ own_none) v.style) s (f.0 g.is),
          (
            subst (λ u. AreStyled (font_of p r v.declared) r (restyled styles u)) (sym is) (subst (λ z. AreStyled z r (restyled styles q.1)) (sym (f.0 g.is)) w.styled),
            subst (λ u. AreStyled p r u) (sym (restyled_leaves styles after (λ k l old. w.apart k (sym (ap (times k) is) ∙ after_none k l) old))) h.1.1,
          ),
        )
      where
        own_none : times x.0 below ≡ 0
        own_none = let few = d x.0 in omega (arith, few, one_yes (same x.0 x.0) (same_refl x.0))

        after_none : (k : NodeId) → 1 ≤ times k after → times k below ≡ 0
        after_none k l = let few = d k in omega arith

    in_below : (part_at below n ≡ Some q → AreStyled (font_of p r x.1.declared) r (restyled styles (replaced n v below))) → Below x below n → AreStyled p r (restyled styles (replaced n v (tree x below after)))
    in_below under g =
        let g2 = sym (part_below x below after n g) ∙ e in
        subst (λ u. AreStyled p r (restyled styles u)) (sym (put_in n v x below after g.not (n_after g.in_below))) (
          w.apart x.0 (own_none g2) x.1.style ∙ h.0,
          (
            under g2,
            subst (λ u. AreStyled p r u) (sym (restyled_leaves styles after (λ k l old. w.apart k (after_none g2 k l) old))) h.1.1,
          ),
        )
      where
        n_after : 1 ≤ times n below → times n after ≡ 0
        n_after l = let few = d n in omega arith

        own_none : part_at below n ≡ Some q → times x.0 q.1 ≡ 0
        own_none g2 = let few = d x.0 in omega (arith, few, one_yes (same x.0 x.0) (same_refl x.0), below_within below n x.0 q g2)

        after_none : part_at below n ≡ Some q → (k : NodeId) → 1 ≤ times k after → times k q.1 ≡ 0
        after_none g2 k l = let few = d k in omega (arith, few, below_within below n k q g2)

    in_after : (part_at after n ≡ Some q → AreStyled p r (restyled styles (replaced n v after))) → After x below n → AreStyled p r (restyled styles (replaced n v (tree x below after)))
    in_after later g =
        let g2 = sym (part_after x below after n g) ∙ e in
        subst (λ u. AreStyled p r (restyled styles u)) (sym (put_after n v x below after g.not g.none)) (
          w.apart x.0 (own_none g2) x.1.style ∙ h.0,
          (
            subst (λ u. AreStyled (font_of p r x.1.declared) r u) (sym (restyled_leaves styles below (λ k l old. w.apart k (below_none g2 k l) old))) h.1.0,
            later g2,
          ),
        )
      where
        own_none : part_at after n ≡ Some q → times x.0 q.1 ≡ 0
        own_none g2 = let few = d x.0 in omega (arith, few, one_yes (same x.0 x.0) (same_refl x.0), below_within after n x.0 q g2)

        below_none : part_at after n ≡ Some q → (k : NodeId) → 1 ≤ times k below → times k q.1 ≡ 0
        below_none g2 k l = let few = d k in omega (arith, few, below_within after n k q g2)

put_restyled : (em rem : ℤ) (n : NodeId) (v : Node) (styles : Styles) (q : Part Node) (t : NodeTrees) → count_of t ≡ 1 → part_at t n ≡ Some q → GetsFonts em rem v.declared n t → HasStyle em rem v → Restyles em rem styles q.1 → IsDistinct t →
    IsStyled t → IsStyled (restyled styles (replaced n v t))
put_restyled em rem n v styles q leafless c e f s w d h = tt
put_restyled em rem n v styles q (tree x below (tree y b a)) c e f s w d h = absurd (omega (arith, c))
put_restyled em rem n v styles q (tree x below leafless) c e f s w d h = by_place x below n here in_below in_after
  where
    here : Here x n → IsStyled (restyled styles (replaced n v (tree x below leafless)))
    here g =
        let is : below ≡ q.1 = ap below_of (sym (part_here x below leafless n g) ∙ e) in
        let em_is : em ≡ root_font v.declared = (f.0 g.is).0 in
        let rem_is : rem ≡ root_font v.declared = (f.0 g.is).1 in
        subst (λ u. IsStyled (restyled styles u)) (sym (put_here n v x below leafless g.is (d n))) (
          w.apart x.0 (sym (ap (times x.0) is) ∙ own_none) v.style ∙ s ∙ (λ i. computed_style (em_is i) (rem_is i) v.declared),
          subst (λ u. AreStyled (root_font v.declared) (root_font v.declared) (restyled styles u)) (sym is) (subst (λ z. AreStyled z (root_font v.declared) (restyled styles q.1)) em_is (subst (λ z. AreStyled em z (restyled styles q.1)) rem_is w.styled)),
        )
      where
        own_none : times x.0 below ≡ 0
        own_none = let few = d x.0 in omega (arith, few, one_yes (same x.0 x.0) (same_refl x.0))

    in_below : Below x below n → IsStyled (restyled styles (replaced n v (tree x below leafless)))
    in_below g =
        let g2 = sym (part_below x below leafless n g) ∙ e in
        let rem_is : rem ≡ root_font x.1.declared = (f.1 g.not).0 in
        subst (λ u. IsStyled (restyled styles u)) (sym (put_in n v x below leafless g.not refl)) (
          w.apart x.0 (own_none g2) x.1.style ∙ h.0,
          put_below (root_font x.1.declared) (root_font x.1.declared) em n v styles q below g2 (f.1 g.not).1 (subst (λ z. HasStyle em z v) rem_is s) (subst (λ z. Restyles em z styles q.1) rem_is w) (λ k. let few = d k in omega arith) h.1,
        )
      where
        own_none : part_at below n ≡ Some q → times x.0 q.1 ≡ 0
        own_none g2 = let few = d x.0 in omega (arith, few, one_yes (same x.0 x.0) (same_refl x.0), below_within below n x.0 q g2)

    in_after : After x below n → IsStyled (restyled styles (replaced n v (tree x below leafless)))
    in_after g = let none : None ≡ Some q = sym (part_after x below leafless n g) ∙ e in absurd cc

pub put_at_number : (em rem : ℤ) (n : NodeId) (v : Node) (styles : Styles) (t : NodeTrees) → IsPage t → IsSome (part_at t n) → GetsFonts em rem v.declared n t → HasStyle em rem v → Restyles em rem styles (below_at t n) → IsDistinct t → IsPage (restyled styles (replaced n v t))
put_at_number em rem n v styles t page live f s w d = at (part_at t n) refl live w
  where
    at : (o : Option (Part Node)) → part_at t n ≡ o → IsSome o → Restyles em rem styles (below_of o) → IsPage (restyled styles (replaced n v t))
    at None g l w = absurd cc
    at (Some q) g l w =
        record {
          rooted = restyled_count styles (replaced n v t) ∙ count_of_mapped (λ k y. cond (same k n) v y) t ∙ page.rooted;
          styled = put_restyled em rem n v styles q t page.rooted g f s w d page.styled;
        }

-- ---- children by index
module _ {A : Type 0} where
  pub from_top : (u : Trees (NodeId × A)) (i : ℕ) (top : NodeId × Part A) → slice_get (tops u) i ≡ Some top → from_tree i u ≡ tree (top.0, top.1.0) top.1.1 (from_tree (i + 1) u)
  from_top leafless i top e = absurd cc
  from_top (tree x below after) zero top e =
      let is : (x.0, (x.1, below)) ≡ top = is_some (x.0, (x.1, below)) top e in
      λ i. tree ((is i).0, (is i).1.0) (is i).1.1 after
    where
      is_some : (a b : NodeId × Part A) → Some a ≡ Some b → a ≡ b
      is_some a b q = cc
  from_top (tree x below after) (suc i) top e =
      from_top after i top e ∙ ap (tree (top.0, top.1.0) top.1.1) (ap (λ k. from_tree k after) (add-one i) ∙ sym (ap (λ k. from_tree k (tree x below after)) (add-one (suc i))))

pub next_styled : (em rem : ℤ) (t : NodeTrees) (n : NodeId) (i : ℕ) (c : NodeId) (v : Node) (font : ℤ) (style : StyleMap) → IsChild t n i c → Some v ≡ value_at t c → font ≡ font_of em rem v.declared → style ≡ computed_style font rem v.declared →
    IsNextStyled em rem t n i c font style
next_styled em rem t n i c v font style h e f s = at (slice_get (tops (below_at t n)) i) refl h.number h.whole
  where
    at : (o : Option (NodeId × Part Node)) → slice_get (tops (below_at t n)) i ≡ o → number_of o ≡ Some c → part_at t c ≡ whole_of o → IsNextStyled em rem t n i c font style
    at None g m w = absurd cc
    at (Some top) g m w =
        let number : top.0 ≡ c = cc in
        let value : Some v ≡ Some top.1.0 = e ∙ ap value_of w in
        let same_value : v ≡ top.1.0 = cc in
        record {
          value = v;
          next = from_top (below_at t n) i top g ∙ (λ j. tree (number j, sym same_value j) (sym (ap below_of w) j) (from_tree (i + 1) (below_at t n)));
          font_is = sym f;
          style_is = sym s;
        }

pub next_smaller : (em rem : ℤ) (t : NodeTrees) (n : NodeId) (i : ℕ) (c : NodeId) (font : ℤ) (style : StyleMap) → IsNextStyled em rem t n i c font style → size_of (below_at t c) < size_of (below_at t n)
next_smaller em rem t n i c font style h = omega (arith, from_size (below_at t n) i, ap size_of h.next)

pub ruleset falls = (next_smaller)

pub none_next : (em rem : ℤ) (u : NodeTrees) (i : ℕ) (found whole : Styles) → from_tree i u ≡ leafless → found ++ styles_of em rem (from_tree i u) ≡ whole → found ++ styles_of em rem (from_tree (i + 1) u) ≡ whole
none_next em rem u i found whole e w = ap (λ z. found ++ styles_of em rem z) (past_none u i e ∙ sym e) ∙ w

-- what was collected, with one node and what is below it
pub next_collected : (em rem : ℤ) (t : NodeTrees) (n : NodeId) (i : ℕ) (c : NodeId) (font : ℤ) (style : StyleMap) (found pushed after whole : Styles) → IsNextStyled em rem t n i c font style → pushed ≡ found ++ (c, style) ∷ [] → after ≡ pushed ++ styles_of font rem (below_at t c) →
    found ++ styles_of em rem (from_tree i (below_at t n)) ≡ whole → after ++ styles_of em rem (from_tree (i + 1) (below_at t n)) ≡ whole
next_collected em rem t n i c font style found pushed after whole h p a w =
    ap (λ l. l ++ styles_of em rem (from_tree (i + 1) (below_at t n))) (a ∙ ap (λ l. l ++ styles_of font rem (below_at t c)) p ∙ append_assoc found ((c, style) ∷ []) (styles_of font rem (below_at t c)))
    ∙ append_assoc found ((c, style) ∷ styles_of font rem (below_at t c)) (styles_of em rem (from_tree (i + 1) (below_at t n)))
    ∙ ap (λ l. found ++ l)
    (sym
    (ap (styles_of em rem) h.next ∙ (λ j. (c, computed_style (h.font_is j) rem h.value.declared) ∷ styles_of (h.font_is j) rem (below_at t c) ++ styles_of em rem (from_tree (i + 1) (below_at t n))) ∙
    ap (λ (y : StyleMap). (c, y) ∷ styles_of font rem (below_at t c) ++ styles_of em rem (from_tree (i + 1) (below_at t n))) h.style_is))
    ∙ w

pub all_collected : (em rem : ℤ) (t : NodeTrees) (n : NodeId) (i : ℕ) (found whole : Styles) → from_tree i (below_at t n) ≡ leafless → found ++ styles_of em rem (from_tree i (below_at t n)) ≡ whole → found ≡ whole
all_collected em rem t n i found whole e w = sym (append-nil found) ∙ ap (λ u. found ++ styles_of em rem u) (sym e) ∙ w

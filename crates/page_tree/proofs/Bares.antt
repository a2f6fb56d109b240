-- What a page stands for is that of its bare tree, in which nothing is kept.
use Rattle.std.proofs.Common.{◌≡◌, ℕ, ◌+◌, ℤ, Bool, true, false, List, [], ◌∷◌, Option, Some, None, cond, refl, sym, ap, subst, ◌∙◌, arith, inl, inr}
use Rattle.std.specs.Prelude.{◌⊎◌, ◌&&◌, ◌||◌, ◌≤◌}
use Rattle.std.specs.Str.{bytes_eq}
use Rattle.std.specs.BTreeMap.{BTreeMap, get, is_at, values}
use Rattle.std.specs.Map.{lookup, values_of}
use Rattle.std.specs.Ordering.{nat_cmp}
use Rattle.std.specs.Cmp.Lexicographic.{slice_cmp}
use Rattle.plain_tree.specs.Trees.{Trees, leafless, tree, count_of}
use Rattle.node_arena.specs.declared.number.NodeId.{NodeId}
use Rattle.node_arena.specs.Numbers.{EachNode, IsNumbered, is_among, mapped, one, same, times, value_at}
use Rattle.node_arena.specs.Plain.{Nodes, with_value}
use Rattle.node_arena.proofs.Changed.{count_of_mapped, times_mapped}
use Rattle.node_arena.proofs.Same.{same_from, same_is, same_refl}
use Rattle.layout_cache.specs.Reach.{all_forgot, forgets, forgot}
use Rattle.layout_cache.proofs.Forgets.{emptied, skipped}
use Rattle.style_types.specs.Computed.{computed_style, font_of}
use Rattle.doc_text.specs.Label.{Label}
use Rattle.doc_text.proofs.Grown.{not_both, own_name}
use Rattle.placing.specs.declared.node.Node.{Node}
use Rattle.placing.specs.Keeping.{KeepsNone, without_answers}
use Rattle.placing.specs.Nodes.{BareTrees, NodeTrees, bare, bare_of}
use Rattle.page_tree.specs.Documents.{kind_of, plain_trees}
use Rattle.page_tree.specs.Fonts.{AreStyled, IsStyled, root_font}
use Rattle.page_tree.specs.Pages.{IsPage}
use Rattle.page_tree.specs.Registers.{IsRegister, named, told}

-- ---- the document
abbrev plain_bare : BareTrees → Trees Label
plain_bare leafless = leafless
plain_bare (tree x below after) = tree (record { name = x.1.name; kind = kind_of x.1.kind; style = x.1.declared }) (plain_bare below) (plain_bare after)

plain_by : (t : NodeTrees) → plain_trees t ≡ plain_bare (mapped (λ n v. bare_of v) t)
plain_by leafless = refl
plain_by (tree x below after) = λ i. tree (record { name = x.1.name; kind = kind_of x.1.kind; style = x.1.declared }) (plain_by below i) (plain_by after i)

bare_is : (t u : NodeTrees) → bare t ≡ bare u → mapped (λ n v. bare_of v) t ≡ mapped (λ n v. bare_of v) u
unfolding bare
bare_is t u e = e

pub same_plain : (t u : NodeTrees) → bare t ≡ bare u → plain_trees t ≡ plain_trees u
same_plain t u e = plain_by t ∙ ap plain_bare (bare_is t u e) ∙ sym (plain_by u)

pub same_count : (t u : NodeTrees) → bare t ≡ bare u → count_of t ≡ count_of u
same_count t u e = sym (count_of_mapped (λ n v. bare_of v) t) ∙ ap count_of (bare_is t u e) ∙ count_of_mapped (λ n v. bare_of v) u

-- ---- names and numbers
abbrev named_bare : List ℕ → NodeId → BareTrees → ℕ
named_bare name n leafless = 0
named_bare name n (tree x below after) = one (same x.0 n && bytes_eq x.1.name name) + named_bare name n below + named_bare name n after

named_by : (name : List ℕ) (n : NodeId) (t : NodeTrees) → named name n t ≡ named_bare name n (mapped (λ n v. bare_of v) t)
named_by name n leafless = refl
named_by name n (tree x below after) = λ i. one (same x.0 n && bytes_eq x.1.name name) + named_by name n below i + named_by name n after i

pub same_registered : (find : List ℕ → Option NodeId) (t u : NodeTrees) → bare t ≡ bare u → IsRegister find u → IsRegister find t
same_registered find t u e r =
    record {
      told = λ name n. named_by name n t ∙ ap (named_bare name n) (bare_is t u e) ∙ sym (named_by name n u) ∙ r.told name n;
      distinct = λ n. omega (arith, r.distinct n, times_mapped (λ n v. bare_of v) n t, ap (times n) (bare_is t u e), times_mapped (λ n v. bare_of v) n u);
    }

-- ---- styles
abbrev StyledBare : ℤ → ℤ → BareTrees → Type 0
StyledBare parent root leafless = Unit {0}
StyledBare parent root (tree x below after) =
    (x.1.style ≡ computed_style (font_of parent root x.1.declared) root x.1.declared) × (StyledBare (font_of parent root x.1.declared) root below × StyledBare parent root after)

styled_to : (p r : ℤ) (t : NodeTrees) → AreStyled p r t → StyledBare p r (mapped (λ n v. bare_of v) t)
styled_to p r leafless h = tt
styled_to p r (tree x below after) h = (h.0, (styled_to (font_of p r x.1.declared) r below h.1.0, styled_to p r after h.1.1))

styled_from : (p r : ℤ) (t : NodeTrees) → StyledBare p r (mapped (λ n v. bare_of v) t) → AreStyled p r t
styled_from p r leafless h = tt
styled_from p r (tree x below after) h = (h.0, (styled_from (font_of p r x.1.declared) r below h.1.0, styled_from p r after h.1.1))

abbrev WholeBare : BareTrees → Type 0
WholeBare leafless = Unit {0}
WholeBare (tree x below after) =
    (x.1.style ≡ computed_style (root_font x.1.declared) (root_font x.1.declared) x.1.declared) × StyledBare (root_font x.1.declared) (root_font x.1.declared) below

whole_to : (t : NodeTrees) → IsStyled t → WholeBare (mapped (λ n v. bare_of v) t)
whole_to leafless h = tt
whole_to (tree x below after) h = (h.0, styled_to (root_font x.1.declared) (root_font x.1.declared) below h.1)

whole_from : (t : NodeTrees) → WholeBare (mapped (λ n v. bare_of v) t) → IsStyled t
whole_from leafless h = tt
whole_from (tree x below after) h = (h.0, styled_from (root_font x.1.declared) (root_font x.1.declared) below h.1)

pub same_page : (t u : NodeTrees) → bare t ≡ bare u → IsPage u → IsPage t
same_page t u e p = record { rooted = same_count t u e ∙ p.rooted; styled = whole_from t (subst WholeBare (sym (bare_is t u e)) (whole_to u p.styled)) }

-- ---- all answers let go
pub passed_over : (s rest : List NodeId) (n : NodeId) (arena : Nodes Node) → s ≡ n ∷ rest → None ≡ value_at arena.tree n → IsNumbered arena.tree → all_forgot without_answers s arena ≡ all_forgot without_answers rest arena
passed_over s rest n arena e h k = ap (λ l. all_forgot without_answers l arena) e ∙ skipped without_answers (n ∷ rest) 0 n arena (omega arith) h k

pub one_emptied : (s rest : List NodeId) (n : NodeId) (v : Node) (arena : Nodes Node) → s ≡ n ∷ rest → Some v ≡ value_at arena.tree n → IsNumbered arena.tree →
    all_forgot without_answers s arena ≡ all_forgot without_answers rest (with_value n (without_answers v) arena)
one_emptied s rest n v arena e h k = ap (λ l. all_forgot without_answers l arena) e ∙ emptied without_answers (n ∷ rest) 0 n v arena (omega arith) h k

pub ruleset forgetting = (passed_over, one_emptied)

-- a node keeps nothing, or lets it go
abbrev LetsGo : List NodeId → NodeTrees → Type 0
LetsGo ns t = EachNode (λ x. (x.1.kept ≡ []) ⊎ (is_among x.0 ns ≡ true)) t

one_let : (n : NodeId) (ns : List NodeId) (t : NodeTrees) → LetsGo (n ∷ ns) t → LetsGo ns (forgot without_answers n t)
one_let n ns leafless h = tt
one_let n ns (tree x below after) h = (at (same x.0 n) refl h.0, (one_let n ns below h.1.0, one_let n ns after h.1.1))
  where
    turned : (b : Bool) → same n x.0 ≡ b → (same x.0 n ≡ false) → b ≡ false
    turned true e f = absurd (not_both (same x.0 n) (same_from x.0 n (sym (same_is n x.0 e))) f)
    turned false e f = refl

    at : (c : Bool) → same x.0 n ≡ c → (x.1.kept ≡ []) ⊎ (is_among x.0 (n ∷ ns) ≡ true) → ((cond c (without_answers x.1) x.1).kept ≡ []) ⊎ (is_among x.0 ns ≡ true)
    at true e g = inl refl
    at false e (inl k) = inl k
    at false e (inr k) = inr (sym (ap (λ b. b || is_among x.0 ns) (turned (same n x.0) refl e)) ∙ k)

all_let : (ns : List NodeId) (t : NodeTrees) → LetsGo ns t → KeepsNone (forgets without_answers ns t)
all_let [] leafless h = tt
all_let [] (tree x below after) h = (own h.0, (all_let [] below h.1.0, all_let [] after h.1.1))
  where
    own : (x.1.kept ≡ []) ⊎ (false ≡ true) → x.1.kept ≡ []
    own (inl k) = k
    own (inr k) = absurd (not_both false k refl)
all_let (n ∷ ns) t h = all_let ns (forgot without_answers n t) (one_let n ns t h)

-- a number that a name tells is one of the values
is_value : (test : List ℕ → Bool) (entries : List (List ℕ × NodeId)) (n : NodeId) → lookup test entries ≡ Some n → is_among n (values_of entries) ≡ true
is_value test [] n e = absurd cc
is_value test (x ∷ entries) n e = at (test x.0) e (is_value test entries n)
  where
    or_true : (b : Bool) → (b || true) ≡ true
    or_true true = refl
    or_true false = refl

    at : (c : Bool) → cond c (Some x.1) (lookup test entries) ≡ Some n → (lookup test entries ≡ Some n → is_among n (values_of entries) ≡ true) → is_among n (values_of (x ∷ entries)) ≡ true
    at true h f = let is : x.1 ≡ n = cc in ap (λ b. b || is_among n (values_of entries)) (same_from x.1 n is)
    at false h f = ap (λ b. same x.1 n || b) (f h) ∙ or_true (same x.1 n)

-- each node of a register has its number among the values
listed : (m : BTreeMap (List ℕ) NodeId) (t : NodeTrees) → ((name : List ℕ) (n : NodeId) → named name n t ≤ told (get (slice_cmp nat_cmp) m name) n) → LetsGo (values m) t
listed m leafless h = tt
listed m (tree x below after) h = (
  inr (at (get (slice_cmp nat_cmp) m x.1.name) refl (omega (arith, h x.1.name x.0, own))),
  (listed m below (λ name n. omega (arith, h name n)), listed m after (λ name n. omega (arith, h name n))),
)
  where
    own : one (same x.0 x.0 && bytes_eq x.1.name x.1.name) ≡ 1
    own = λ i. one (same_refl x.0 i && own_name x.1.name i)

    at : (o : Option NodeId) → get (slice_cmp nat_cmp) m x.1.name ≡ o → 1 ≤ told o x.0 → is_among x.0 (values m) ≡ true
    at None e l = absurd (omega (arith, l))
    at (Some k) e l = by (same k x.0) refl l
      where
        by : (c : Bool) → same k x.0 ≡ c → 1 ≤ one c → is_among x.0 (values m) ≡ true
        by true q l = ap (λ n. is_among n (values m)) (sym (same_is k x.0 q)) ∙ is_value (is_at (slice_cmp nat_cmp x.1.name)) m.entries k e
        by false q l = absurd (omega (arith, l))

pub all_forgotten : (m : BTreeMap (List ℕ) NodeId) (t : NodeTrees) → IsRegister (get (slice_cmp nat_cmp) m) t → KeepsNone (forgets without_answers (values m) t)
all_forgotten m t r = all_let (values m) t (listed m t (λ name n. omega (arith, r.told name n)))

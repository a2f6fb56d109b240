-- A tree kept as its last node on each level.
use Rattle.std.proofs.Common.{◌≡◌, ℕ, zero, suc, ◌+◌, ◌<◌, ◌≤◌, min, max, Bool, true, false, not, ◌||◌, List, [], ◌∷◌, ◌++◌, length, drop, get_or, Option, Some, None, refl, ap, sym, ◌∙◌, arith, cond, ◌⊎◌, inl, inr}
use Rattle.std.specs.Prelude.{nat_lt}
use Rattle.std.proofs.lemmas.List.{length-drop, length-append}
use Rattle.std.proofs.lemmas.Bool.{cases_lt, lt-ltb, le-ltb, ltb-false, not-false, not-true}
use Rattle.std.specs.Str.{bytes_eq}
use Rattle.std.specs.BTreeSet.{BTreeSet, contains, Updates, IsEmpty}
use Rattle.std.specs.Ordering.{nat_cmp}
use Rattle.std.specs.Cmp.Lexicographic.{slice_cmp}
use Rattle.std.proofs.lemmas.Map.Text.{is_eq-slice_cmp}
use Rattle.plain_tree.specs.Trees.{Trees, leafless, tree, joined, size_of, count_of}
use Rattle.plain_tree.proofs.Laws.{joined-leafless, size_of-joined, count_of-joined}
use Rattle.doc_text.specs.declared.document.Plain.{Plain}
use Rattle.doc_text.specs.Label.{Label}
use Rattle.doc_text.specs.View.{trees_of, label_of}
use Rattle.doc_text.specs.Texts.{Word}
use Rattle.doc_text.specs.Growth.{holds, last_or, open_levels, last_tree, last_on, alone, put_last}
use Rattle.doc_text.specs.Open.{assembled, EndsBare, HasMore, IsKept}
use Rattle.doc_text.specs.Documents.{has_root, is_second_root, child_count, is_leaf, is_leaf_node}

-- ---- behind other trees, one that is there is the last
last_or-joined : {A : Type 0} (x y : A) (s : Trees Label) (label : Label) (below after : Trees Label) → last_or x (joined s (tree label below after)) y ≡ y
last_or-joined x y leafless label below after = refl
last_or-joined x y (tree l b a) label below after = refl

levels-joined : (s : Trees Label) (label : Label) (below : Trees Label) → open_levels (joined s (tree label below leafless)) ≡ 1 + open_levels below
levels-joined leafless label below = refl
levels-joined (tree l b a) label below = last_or-joined (1 + open_levels b) (open_levels (joined a (tree label below leafless))) a label below leafless ∙ levels-joined a label below

last-joined : (s : Trees Label) (label : Label) (below : Trees Label) → last_tree (joined s (tree label below leafless)) ≡ Some (label, below)
last-joined leafless label below = refl
last-joined (tree l b a) label below = last_or-joined (Some (l, b)) (last_tree (joined a (tree label below leafless))) a label below leafless ∙ last-joined a label below

put-joined : (level : ℕ) (new : Label) (s : Trees Label) (label : Label) (below : Trees Label)
    → put_last (suc level) new (joined s (tree label below leafless)) ≡ joined s (tree label (put_last level new below) leafless)
put-joined level new leafless label below = refl
put-joined level new (tree l b a) label below = rw (last_or-joined (put_last level new b) b a label below leafless, put-joined level new a label below) refl

-- ---- the levels
pub levels_of : (path : List Plain) → EndsBare path → open_levels (assembled path) ≡ length path
levels_of [] h = refl
levels_of (node ∷ []) h = rw h refl
levels_of (node ∷ next ∷ nodes) h = omega (arith, levels-joined node.children (label_of next) (joined next.children (assembled nodes)), levels_of (next ∷ nodes) h)

on-joined : (level : ℕ) (s : Trees Label) (label : Label) (below : Trees Label) → last_on level (joined s (tree label below leafless)) ≡ last_on level (tree label below leafless)
on-joined zero s label below = last-joined s label below
on-joined (suc level) s label below = ap (λ (o : Option (Label × Trees Label)). elim o [ None ↦ None | Some node ↦ last_on level node.1 ]) (last-joined s label below)

-- the last node on a level, and what stands below it
abbrev pub node_at : List Plain → ℕ → Plain → Label × Trees Label
node_at path level d = (label_of (get_or path level d), joined (get_or path level d).children (assembled (drop (suc level) path)))

pub on_level : (path : List Plain) (level : ℕ) (d : Plain) → level < length path → last_on level (assembled path) ≡ Some (node_at path level d)
on_level [] level d h = absurd (omega arith)
on_level (node ∷ nodes) zero d h = refl
on_level (node ∷ []) (suc level) d h = absurd (omega arith)
on_level (node ∷ next ∷ nodes) (suc level) d h = on-joined level node.children (label_of next) (joined next.children (assembled nodes)) ∙ on_level (next ∷ nodes) level d (omega arith)

pub count-assembled : (path : List Plain) → count_of (assembled path) ≡ min (length path) 1
count-assembled [] = refl
count-assembled (node ∷ nodes) = omega arith

-- ---- one node more
pub put_is_push : (path : List Plain) (node : Plain) → node.children ≡ leafless → put_last (length path) (label_of node) (assembled path) ≡ assembled (path ++ node ∷ [])
put_is_push [] node e = rw e refl
put_is_push (x ∷ []) node e = ap (λ t. tree (label_of x) t leafless) (ap (λ t. joined t (alone (label_of node))) (joined-leafless x.children) ∙ rw e refl)
put_is_push (x ∷ next ∷ nodes) node e =
    ap (λ t. tree (label_of x) t leafless)
    (put-joined (length nodes) (label_of node) x.children (label_of next) (joined next.children (assembled nodes))
    ∙ ap (joined x.children) (put_is_push (next ∷ nodes) node e))

pub bare_push : (path : List Plain) (node : Plain) → node.children ≡ leafless → EndsBare (path ++ node ∷ [])
bare_push [] node e = e
bare_push (x ∷ []) node e = e
bare_push (x ∷ next ∷ nodes) node e = bare_push (next ∷ nodes) node e

pub size_push : (path : List Plain) (node : Plain) → node.children ≡ leafless → size_of (assembled (path ++ node ∷ [])) ≡ size_of (assembled path) + 1
size_push [] node e = rw e refl
size_push (x ∷ nodes) node e = omega (arith, size_of-joined x.children (assembled (nodes ++ node ∷ [])), size_of-joined x.children (assembled nodes), size_push nodes node e)

or_assoc : (a b c : Bool) → ((a || b) || c) ≡ (a || (b || c))
or_assoc true b c = refl
or_assoc false b c = refl

or_none : (a : Bool) → (a || false) ≡ a
or_none true = refl
or_none false = refl

pub holds-joined : (s t : Trees Label) (name : Word) → holds (joined s t) name ≡ (holds s name || holds t name)
holds-joined leafless t name = refl
holds-joined (tree label below after) t name = rw (holds-joined after t name) (
    ap (λ b. bytes_eq label.name name || b) (sym (or_assoc (holds below name) (holds after name) (holds t name)))
    ∙ sym (or_assoc (bytes_eq label.name name) (holds below name || holds after name) (holds t name)))

pub holds_push : (path : List Plain) (node : Plain) (name : Word) → node.children ≡ leafless → holds (assembled (path ++ node ∷ [])) name ≡ (holds (assembled path) name || bytes_eq node.name name)
holds_push [] node name e = rw e (or_none (bytes_eq node.name name))
holds_push (x ∷ nodes) node name e = rw (holds-joined x.children (assembled (nodes ++ node ∷ [])) name, holds-joined x.children (assembled nodes) name, holds_push nodes node name e)
    (moved (bytes_eq x.name name) (holds x.children name) (holds (assembled nodes) name) (bytes_eq node.name name))
  where
    moved : (a b c d : Bool) → (a || ((b || (c || d)) || false)) ≡ ((a || ((b || c) || false)) || d)
    moved true b c d = refl
    moved false true c d = refl
    moved false false true d = refl
    moved false false false true = refl
    moved false false false false = refl

-- ---- the last node becomes a child of the one before
pub adopted_last : (path : List Plain) (parent node : Plain) (children : Trees Label) → children ≡ joined parent.children (trees_of (node ∷ []))
    → assembled (path ++ record { name = parent.name; kind = parent.kind; style = parent.style; children = children } ∷ []) ≡ assembled ((path ++ parent ∷ []) ++ node ∷ [])
adopted_last [] parent node children e = rw e (ap (λ t. tree (label_of parent) t leafless) (joined-leafless (joined parent.children (trees_of (node ∷ []))) ∙ ap (λ t. joined parent.children (tree (label_of node) t leafless)) (sym (joined-leafless node.children))))
adopted_last (x ∷ path) parent node children e = ap (λ t. tree (label_of x) (joined x.children t) leafless) (adopted_last path parent node children e)

-- ---- nothing yet, and whether there is a node
pub kept_none : (names : BTreeSet Word) → IsEmpty names → IsKept [] names 0
kept_none names e = record { bare = tt; named = λ name. rw e refl; counted = refl }

pub root_of : (path : List Plain) → has_root (assembled path) ≡ nat_lt 0 (length path)
root_of [] = refl
root_of (node ∷ nodes) = sym (lt-ltb 0 (length (node ∷ nodes)) (omega arith))

-- ---- the children of the last node on a level, and its kind
leaf_at : (path : List Plain) (level : ℕ) (d : Plain) → level < length path → is_leaf_node (last_on level (assembled path)) ≡ is_leaf (get_or path level d).kind
leaf_at path level d h = ap is_leaf_node (on_level path level d h)

count_at : (path : List Plain) (level : ℕ) (d : Plain) → level < length path → child_count (last_on level (assembled path)) ≡ count_of (get_or path level d).children + min (length (drop (suc level) path)) 1
count_at path level d h =
    ap child_count (on_level path level d h)
    ∙ count_of-joined (get_or path level d).children (assembled (drop (suc level) path))
    ∙ ap (λ n. count_of (get_or path level d).children + n) (count-assembled (drop (suc level) path))

shifted : (n limit : ℕ) → nat_lt n limit ≡ nat_lt (n + 1) (limit + 1)
shifted n limit = by_cases (cases_lt n limit)
  where
    by_cases : (n < limit) ⊎ (limit ≤ n) → nat_lt n limit ≡ nat_lt (n + 1) (limit + 1)
    by_cases (inl h) = lt-ltb n limit h ∙ sym (lt-ltb (n + 1) (limit + 1) (omega arith))
    by_cases (inr h) = le-ltb n limit h ∙ sym (le-ltb (n + 1) (limit + 1) (omega arith))

-- the node at an index that was looked up, whatever else would have been given
pub is_leaf_there : (path : List Plain) (level : ℕ) (node : Plain) → level < length path → node ≡ get_or path level node → is_leaf node.kind ≡ is_leaf_node (last_on level (assembled path))
is_leaf_there path level node h e = ap (λ (x : Plain). is_leaf x.kind) e ∙ sym (leaf_at path level node h)

pub few_inner : (path : List Plain) (level : ℕ) (node : Plain) → level + 1 < length path → node ≡ get_or path level node → nat_lt (count_of node.children) 65535 ≡ nat_lt (child_count (last_on level (assembled path))) 65536
few_inner path level node h e =
    shifted (count_of node.children) 65535
    ∙ ap (λ n. nat_lt n 65536) (
    ap (λ n. count_of node.children + n) (let more : 1 ≡ min (length (drop (suc level) path)) 1 = omega (arith, length-drop (suc level) path, h) in more)
    ∙ ap (λ (x : Plain). count_of x.children + min (length (drop (suc level) path)) 1) e
    ∙ sym (count_at path level node (omega (arith, h))))

pub few_last : (path : List Plain) (level : ℕ) (node : Plain) → level < length path → length path ≤ level + 1 → node ≡ get_or path level node → nat_lt (count_of node.children) 65536 ≡ nat_lt (child_count (last_on level (assembled path))) 65536
few_last path level node h k e =
    ap (λ n. nat_lt n 65536) (
    (let none : count_of node.children ≡ count_of node.children + min (length (drop (suc level) path)) 1 = omega (arith, length-drop (suc level) path, h, k) in none)
    ∙ ap (λ (x : Plain). count_of x.children + min (length (drop (suc level) path)) 1) e
    ∙ sym (count_at path level node h))

pub ruleset on_levels = (is_leaf_there, few_inner, few_last)

-- ---- a node more, after those below its level are closed
level_is : (path left : List Plain) (level : ℕ) → length left ≡ min (max level 1) (length path) → level ≤ length path → is_second_root level (assembled path) ≡ false → length left ≡ level
level_is path left zero e h r = (let none : length path ≤ 0 = ltb-false 0 (length path) (sym (root_of path) ∙ r) in omega (arith, e, none))
level_is path left (suc level) e h r = omega (arith, e, h)

pub pushed_last : (path left : List Plain) (level : ℕ) (node : Plain) → assembled left ≡ assembled path → length left ≡ min (max level 1) (length path) → level ≤ length path → is_second_root level (assembled path) ≡ false
    → node.children ≡ leafless → assembled (left ++ node ∷ []) ≡ put_last level (label_of node) (assembled path)
pushed_last path left level node same e h r bare =
    sym (put_is_push left node bare)
    ∙ ap (λ n. put_last n (label_of node) (assembled left)) (level_is path left level e h r)
    ∙ ap (put_last level (label_of node)) same

pub pushed_names : (path left : List Plain) (node : Plain) → assembled left ≡ assembled path → node.children ≡ leafless → HasMore (left ++ node ∷ []) path node.name
pushed_names path left node same bare name = holds_push left node name bare ∙ ap (λ (t : Trees Label). holds t name || bytes_eq node.name name) same

pub pushed_count : (path left : List Plain) (node : Plain) → assembled left ≡ assembled path → node.children ≡ leafless → size_of (assembled (left ++ node ∷ [])) ≡ size_of (assembled path) + 1
pushed_count path left node same bare = size_push left node bare ∙ ap (λ (t : Trees Label). size_of t + 1) same

pub ruleset pushing = (pushed_last, pushed_names, pushed_count, bare_push)

-- a level that is there is one of the path
pub within_path : (path : List Plain) (level : ℕ) → EndsBare path → level ≤ open_levels (assembled path) → level ≤ length path
within_path path level h k = omega (arith, levels_of path h, k)

-- what is left of one node is the root
pub last_root : (path left : List Plain) (node : Plain) → assembled (left ++ node ∷ []) ≡ assembled path → length (left ++ node ∷ []) ≤ 1 → assembled path ≡ tree (label_of node) node.children leafless
last_root path [] node e h = sym e ∙ ap (λ (t : Trees Label). tree (label_of node) t leafless) (joined-leafless node.children)
last_root path (x ∷ left) node e h = absurd (omega (arith, h, length-append left (node ∷ [])))

-- ---- the names and the count with a node more
added : (here before : Bool) → cond here true before ≡ (before || here)
added true true = refl
added true false = refl
added false true = refl
added false false = refl

named_more : (names larger : BTreeSet Word) (path left : List Plain) (name : Word) → ((m : Word) → contains (slice_cmp nat_cmp) names m ≡ holds (assembled path) m) → Updates (slice_cmp nat_cmp) names larger name true
    → HasMore left path name → (m : Word) → contains (slice_cmp nat_cmp) larger m ≡ holds (assembled left) m
named_more names larger path left name h u more m = u.0 m ∙ rw (is_eq-slice_cmp name m, h m, more m) (added (bytes_eq name m) (holds (assembled path) m))

pub kept_grown : (names larger : BTreeSet Word) (path left : List Plain) (name : Word) (count : ℕ) → IsKept path names count → Updates (slice_cmp nat_cmp) names larger name true → HasMore left path name
    → EndsBare left → size_of (assembled left) ≡ size_of (assembled path) + 1 → IsKept left larger (count + 1)
kept_grown names larger path left name count k u more bare size = record {
  bare = bare;
  named = named_more names larger path left name k.named u more;
  counted = omega (arith, k.counted, size);
}

-- a name that the set had, or took
pub held_already : (path : List Plain) (names : BTreeSet Word) (count : ℕ) (name : Word) (added : Bool) → IsKept path names count → added ≡ not (contains (slice_cmp nat_cmp) names name) → added ≡ false → holds (assembled path) name ≡ true
held_already path names count name added k e f = sym (k.named name) ∙ not-false (contains (slice_cmp nat_cmp) names name) (sym e ∙ f)

pub held_not : (path : List Plain) (names : BTreeSet Word) (count : ℕ) (name : Word) (added : Bool) → IsKept path names count → added ≡ not (contains (slice_cmp nat_cmp) names name) → added ≡ true → holds (assembled path) name ≡ false
held_not path names count name added k e f = sym (k.named name) ∙ not-true (contains (slice_cmp nat_cmp) names name) (sym e ∙ f)

pub ruleset growing = (within_path, held_already, held_not)

-- The next node of a tree that is read again may stand where it stands.
use Rattle.std.proofs.Common.{◌≡◌, ℕ, zero, suc, ◌+◌, ◌≤◌, Bool, true, false, not, ◌&&◌, ◌||◌, ◌==◌, refl, ap, sym, subst, ◌∙◌, arith, if◌then◌else◌, Option, Some, None, Result, Ok, Err, add-one}
use Rattle.std.specs.Prelude.{nat_le, nat_lt}
use Rattle.std.specs.Str.{bytes_eq}
use Rattle.std.proofs.lemmas.Bool.{true≢false, and_from, eqb-true, lt-ltb, ltb-false, lt-leb}
use Rattle.text_scan.specs.declared.line.Fault.{Fault}
use Rattle.text_scan.specs.declared.line.Place.{Place}
use Rattle.track_text.specs.Gives.{fault_at}
use Rattle.plain_tree.specs.Trees.{Trees, leafless, tree, joined, size_of, height_of, count_of}
use Rattle.plain_tree.proofs.Laws.{count_of-joined}
use Rattle.doc_text.specs.Label.{Label}
use Rattle.doc_text.specs.Texts.{Word}
use Rattle.doc_text.specs.Growth.{holds, last_or, open_levels, last_tree, last_on, parent_on, alone}
use Rattle.doc_text.specs.Documents.{node_limit, child_count, has_room_below, has_room, is_leaf, is_leaf_node, has_root, is_second_root, standing}
use Rattle.doc_text.specs.Named.{IsDistinct}
use Rattle.doc_text.specs.Edits.{are_too_many}
use Rattle.doc_text.specs.Valid.{HasContainers, HasFewChildren}
use Rattle.doc_text.proofs.Grown.{same_name, own_name}
use Rattle.doc_text.proofs.Shapes.{fewer}
use Rattle.doc_writer.proofs.TreesBack.{join_last}

-- ---- sums over nodes

abbrev pub weight : {A : Type 0} → (A → ℕ) → Trees A → ℕ
weight w leafless = 0
weight w (tree x below after) = w x + (weight w below + weight w after)

weight_joined : {A : Type 0} (w : A → ℕ) (s t : Trees A) → weight w (joined s t) ≡ weight w s + weight w t
weight_joined w leafless t = omega arith
weight_joined w (tree x below after) t = omega (arith, weight_joined w after t)

pub size_weight : {A : Type 0} (t : Trees A) → weight (λ _. 1) t ≡ size_of t
size_weight leafless = refl
size_weight (tree x below after) = omega (arith, size_weight below, size_weight after)

-- nodes that are put on a level that is open are all there
pub weight_join : {A : Type 0} (w : A → ℕ) (level : ℕ) (new trees : Trees A) → level ≤ open_levels trees → weight w (join_last level new trees) ≡ weight w trees + weight w new
weight_join w zero new trees h = weight_joined w trees new
weight_join w (suc level) new leafless h = absurd (omega (arith, h))
weight_join w (suc level) new (tree upper below after) h = by_after after h (weight_join w level new below) (weight_join w (suc level) new after) where
  by_after : (a : Trees _) → suc level ≤ last_or (1 + open_levels below) a (open_levels a) → (level ≤ open_levels below → weight w (join_last level new below) ≡ weight w below + weight w new)
      → (suc level ≤ open_levels a → weight w (join_last (suc level) new a) ≡ weight w a + weight w new)
      → w upper + (weight w (last_or (join_last level new below) a below) + weight w (join_last (suc level) new a)) ≡ w upper + (weight w below + weight w a) + weight w new
  by_after leafless h inner rest = omega (arith, inner (omega (arith, h)))
  by_after (tree x b a) h inner rest = omega (arith, rest h)

-- ---- the levels that are open

open_joined : {A : Type 0} (s : Trees A) (x : A) (below : Trees A) → open_levels (joined s (tree x below leafless)) ≡ 1 + open_levels below
open_joined leafless x below = refl
open_joined (tree y b a) x below = by_after a (open_joined a x below) where
  by_after : (a : Trees _) → open_levels (joined a (tree x below leafless)) ≡ 1 + open_levels below → last_or (1 + open_levels b) (joined a (tree x below leafless)) (open_levels (joined a (tree x below leafless))) ≡ 1 + open_levels below
  by_after leafless e = e
  by_after (tree z c d) e = e

-- one more level is open below the node that is put last
pub open_join : {A : Type 0} (level : ℕ) (x : A) (below trees : Trees A) → level ≤ open_levels trees → open_levels (join_last level (tree x below leafless) trees) ≡ level + (1 + open_levels below)
open_join zero x below trees h = omega (arith, open_joined trees x below)
open_join (suc level) x below leafless h = absurd (omega (arith, h))
open_join (suc level) x below (tree upper inner after) h = by_after after h (open_join level x below inner) (open_join (suc level) x below after) where
  by_after : (a : Trees _) → suc level ≤ last_or (1 + open_levels inner) a (open_levels a) → (level ≤ open_levels inner → open_levels (join_last level (tree x below leafless) inner) ≡ level + (1 + open_levels below))
      → (suc level ≤ open_levels a → open_levels (join_last (suc level) (tree x below leafless) a) ≡ suc level + (1 + open_levels below))
      → open_levels (join_last (suc level) (tree x below leafless) (tree upper inner a)) ≡ suc level + (1 + open_levels below)
  by_after leafless h inside rest = omega (arith, inside (omega (arith, h)))
  by_after (tree y b a) h inside rest = rest h

-- ---- the last node on a level

last_joined : {A : Type 0} (s : Trees A) (x : A) (below : Trees A) → last_tree (joined s (tree x below leafless)) ≡ Some (x, below)
last_joined leafless x below = refl
last_joined (tree y b a) x below = by_after a (last_joined a x below) where
  by_after : (a : Trees _) → last_tree (joined a (tree x below leafless)) ≡ Some (x, below) → last_or (Some (y, b)) (joined a (tree x below leafless)) (last_tree (joined a (tree x below leafless))) ≡ Some (x, below)
  by_after leafless e = e
  by_after (tree z c d) e = e

-- the node that is put last is the last on its level
pub last_put : {A : Type 0} (level : ℕ) (x : A) (below trees : Trees A) → level ≤ open_levels trees → last_on level (join_last level (tree x below leafless) trees) ≡ Some (x, below)
last_put zero x below trees h = last_joined trees x below
last_put (suc level) x below leafless h = absurd (omega (arith, h))
last_put (suc level) x below (tree upper inner after) h = by_after after h (last_put level x below inner) (last_put (suc level) x below after) where
  by_after : (a : Trees _) → suc level ≤ last_or (1 + open_levels inner) a (open_levels a) → (level ≤ open_levels inner → last_on level (join_last level (tree x below leafless) inner) ≡ Some (x, below))
      → (suc level ≤ open_levels a → last_on (suc level) (join_last (suc level) (tree x below leafless) a) ≡ Some (x, below))
      → last_on (suc level) (join_last (suc level) (tree x below leafless) (tree upper inner a)) ≡ Some (x, below)
  by_after leafless h inside rest = inside (omega (arith, h))
  by_after (tree y b a) h inside rest = rest h

abbrev with_child : {A : Type 0} → Trees A → Option (A × Trees A) → Option (A × Trees A)
with_child new None = None
with_child new (Some parent) = Some (parent.0, joined parent.1 new)

-- the parent that nodes are put under has them as its last children
pub parent_join : {A : Type 0} (level : ℕ) (new trees : Trees A) → last_on level (join_last (suc level) new trees) ≡ with_child new (last_on level trees)
parent_join zero new leafless = refl
parent_join zero new (tree upper below after) = by_after after (parent_join zero new after) where
  by_after : (a : Trees _) → last_tree (join_last 1 new a) ≡ with_child new (last_tree a) → last_tree (join_last 1 new (tree upper below a)) ≡ with_child new (last_tree (tree upper below a))
  by_after leafless e = refl
  by_after (tree y b c) e = e
parent_join (suc level) new leafless = refl
parent_join (suc level) new (tree upper below after) = by_after after (parent_join level new below) (parent_join (suc level) new after) where
  by_after : (a : Trees _) → last_on level (join_last (suc level) new below) ≡ with_child new (last_on level below) → last_on (suc level) (join_last (suc (suc level)) new a) ≡ with_child new (last_on (suc level) a)
      → last_on (suc level) (join_last (suc (suc level)) new (tree upper below a)) ≡ with_child new (last_on (suc level) (tree upper below a))
  by_after leafless inside e = inside
  by_after (tree y b c) inside e = e

-- ---- names

abbrev once : Bool → ℕ
once true = 1
once false = 0

-- how many nodes have the name
abbrev pub times : Word → Trees Label → ℕ
times name trees = weight (λ x. once (bytes_eq x.name name)) trees

pub times_none : (name : Word) (trees : Trees Label) → times name trees ≡ 0 → holds trees name ≡ false
times_none name leafless h = refl
times_none name (tree x below after) h =
    by_name (bytes_eq x.name name) h (times_none name below (omega (arith, h))) (times_none name after (omega (arith, h))) where
      by_name : (b : Bool) → once b + (times name below + times name after) ≡ 0 → holds below name ≡ false → holds after name ≡ false → (b || (holds below name || holds after name)) ≡ false
      by_name true e p q = absurd (omega (arith, e))
      by_name false e p q = rw (p, q) refl

none_times : (name : Word) (trees : Trees Label) → holds trees name ≡ false → times name trees ≡ 0
none_times name leafless h = refl
none_times name (tree x below after) h = by_name (bytes_eq x.name name) (holds below name) (holds after name) h (none_times name below) (none_times name after) where
  by_name : (b c d : Bool) → (b || (c || d)) ≡ false → (c ≡ false → times name below ≡ 0) → (d ≡ false → times name after ≡ 0) → once b + (times name below + times name after) ≡ 0
  by_name true c d e p q = absurd (true≢false e)
  by_name false true d e p q = absurd (true≢false e)
  by_name false false true e p q = absurd (true≢false e)
  by_name false false false e p q = omega (arith, p refl, q refl)

-- no name stands twice
pub times_one : (name : Word) (trees : Trees Label) → IsDistinct trees → times name trees ≤ 1
times_one name leafless d = omega arith
times_one name (tree x below after) d =
    by_name (bytes_eq x.name name) refl (times_one name below d.1.1.1.0) (times_one name after d.1.1.1.1) where
      below_none : bytes_eq x.name name ≡ true → times name below ≡ 0
      below_none e = none_times name below (ap (holds below) (sym (same_name x.name name e)) ∙ d.0)

      after_none : bytes_eq x.name name ≡ true → times name after ≡ 0
      after_none e = none_times name after (ap (holds after) (sym (same_name x.name name e)) ∙ d.1.0)

      by_below : (b : Bool) → holds below name ≡ b → times name below ≤ 1 → times name after ≤ 1 → times name below + times name after ≤ 1
      by_below true e p q = omega (arith, p, none_times name after (d.1.1.0 name e))
      by_below false e p q = omega (arith, q, none_times name below e)

      by_name : (b : Bool) → bytes_eq x.name name ≡ b → times name below ≤ 1 → times name after ≤ 1 → once b + (times name below + times name after) ≤ 1
      by_name true e p q = omega (arith, below_none e, after_none e)
      by_name false e p q = omega (arith, by_below (holds below name) refl p q)

-- ---- what is left to read fits onto what is made

pub record Fits (version level : ℕ) (new trees : Trees Label) : Type 0 where
  pub opens : level ≤ open_levels trees
  pub names : (name : Word) → times name trees + times name new ≤ 1
  pub nodes : size_of trees + size_of new ≤ node_limit version
  pub levels : level + height_of new ≤ 64
  pub containers : HasContainers new
  pub children : HasFewChildren version new
  pub upper : has_root new ≡ true → is_leaf_node (parent_on level trees) ≡ false
  pub few : are_too_many version (child_count (parent_on level trees) + count_of new) ≡ false
  pub root : level ≡ 0 → count_of trees + count_of new ≤ 1

passes : (b : Bool) (fault : Fault) (other : Result (Unit {0}) Fault) → b ≡ false → other ≡ Ok tt → (if b then Err fault else other) ≡ Ok tt
passes true fault other e h = absurd (true≢false e)
passes false fault other e h = h

module _ (version level : ℕ) (x : Label) (below after trees : Trees Label) (f : Fits version level (tree x below after) trees) where
  -- ---- the node itself

  new_name : holds trees x.name ≡ false
  new_name =
      let own : once (bytes_eq x.name x.name) ≡ 1 = ap once (own_name x.name) in
      times_none x.name trees (omega (arith, f.names x.name, own))

  high : nat_le 64 level ≡ false
  high = lt-leb 64 level (omega (arith, f.levels))

  room : has_room version level trees ≡ true
  room = and_from (nat_lt (size_of trees) (node_limit version)) (has_room_below version (parent_on level trees)) (lt-ltb (size_of trees) (node_limit version) (omega (arith, f.nodes)))
      (below_room (version == 2) f.few) where
        below_room : (b : Bool) → (b && nat_lt 65536 (child_count (parent_on level trees) + count_of (tree x below after))) ≡ false → (not b || nat_lt (child_count (parent_on level trees)) 65536) ≡ true
        below_room false e = refl
        below_room true e = lt-ltb (child_count (parent_on level trees)) 65536 (omega (arith, ltb-false 65536 (child_count (parent_on level trees) + count_of (tree x below after)) e))

  one_root : is_second_root level trees ≡ false
  one_root = by_level (level == 0) refl where
    none : (t : Trees Label) → count_of t + count_of (tree x below after) ≤ 1 → has_root t ≡ false
    none leafless h = refl
    none (tree y b a) h = absurd (omega (arith, h))

    by_level : (b : Bool) → (level == 0) ≡ b → (b && has_root trees) ≡ false
    by_level false e = refl
    by_level true e = none trees (f.root (eqb-true level 0 e))

  -- the node may stand there
  pub stands : (at : Place) → standing version level x.name at trees ≡ Ok tt
  stands at =
      passes (holds trees x.name) (fault_at 6 at) _ new_name
      (passes (nat_le 64 level) (fault_at 12 at) _ high
      (passes (not (has_room version level trees)) (fault_at 13 at) _ (ap not room)
      (passes (is_leaf_node (parent_on level trees)) (fault_at 14 at) _ (f.upper refl)
      (passes (is_second_root level trees) (fault_at 15 at) _ one_root refl))))

  -- ---- what stands below it

  abbrev made : Trees Label
  made = join_last level (alone x) trees

  pub fits_below : Fits version (level + 1) below made
  fits_below = record {
    opens = omega (arith, open_join level x leafless trees f.opens);
    names = (λ name. omega (arith, f.names name, weight_join (λ (y : Label). once (bytes_eq y.name name)) level (alone x) trees f.opens));
    nodes = omega (arith, f.nodes, size_weight made, size_weight trees, weight_join (λ (y : Label). 1) level (alone x) trees f.opens);
    levels = omega (arith, f.levels);
    containers = f.containers.1.0;
    children = f.children.1.0;
    upper = (λ e. subst (λ (n : ℕ). is_leaf_node (parent_on n made) ≡ false) (sym (add-one level)) (ap is_leaf_node own ∙ no_leaf below f.containers.0 e));
    few = subst (λ (n : ℕ). are_too_many version (child_count (parent_on n made) + count_of below) ≡ false) (sym (add-one level)) (ap (λ (o : Option (Label × Trees Label)). are_too_many version (child_count o + count_of below)) own ∙ ap (are_too_many version) no_more ∙ f.children.0);
    root = (λ e. absurd (omega (arith, e)));
  } where
    own : last_on level made ≡ Some (x, leafless)
    own = last_put level x leafless trees f.opens

    no_more : 0 + count_of below ≡ count_of below
    no_more = omega arith

    no_leaf : (b : Trees Label) → (is_leaf x.kind ≡ true → b ≡ leafless) → has_root b ≡ true → is_leaf x.kind ≡ false
    no_leaf leafless h e = absurd (true≢false (sym e))
    no_leaf (tree y c d) h e = by_kind (is_leaf x.kind) h where
      by_kind : (k : Bool) → (k ≡ true → tree y c d ≡ leafless) → k ≡ false
      by_kind true g = absurd (true≢false (ap has_root (g refl)))
      by_kind false g = refl

  -- ---- what stands after it

  abbrev whole : Trees Label
  whole = join_last level (tree x below leafless) trees

  pub fits_after : Fits version level after whole
  fits_after = record {
    opens = omega (arith, open_join level x below trees f.opens);
    names = (λ name. omega (arith, f.names name, weight_join (λ (y : Label). once (bytes_eq y.name name)) level (tree x below leafless) trees f.opens));
    nodes = omega (arith, f.nodes, size_weight whole, size_weight trees, size_weight below, weight_join (λ (y : Label). 1) level (tree x below leafless) trees f.opens);
    levels = omega (arith, f.levels);
    containers = f.containers.1.1;
    children = f.children.1.1;
    upper = (λ e. same_upper level refl);
    few = same_few level refl;
    root = one_more;
  } where
    still : (n : ℕ) → is_leaf_node (with_child (tree x below leafless) (last_on n trees)) ≡ is_leaf_node (last_on n trees)
    still n = by_node (last_on n trees) where
      by_node : (o : Option (Label × Trees Label)) → is_leaf_node (with_child (tree x below leafless) o) ≡ is_leaf_node o
      by_node None = refl
      by_node (Some node) = refl

    same_upper : (n : ℕ) → n ≡ level → is_leaf_node (parent_on n (join_last n (tree x below leafless) trees)) ≡ false
    same_upper zero e = refl
    same_upper (suc n) e = ap is_leaf_node (parent_join n (tree x below leafless) trees) ∙ still n ∙ ap (λ (m : ℕ). is_leaf_node (parent_on m trees)) e ∙ f.upper refl

    same_few : (n : ℕ) → n ≡ level → are_too_many version (child_count (parent_on n (join_last n (tree x below leafless) trees)) + count_of after) ≡ false
    same_few zero e = fewer version (0 + count_of after) (child_count (parent_on level trees) + count_of (tree x below after)) (omega arith) f.few
    same_few (suc n) e =
        fewer version (child_count (last_on n (join_last (suc n) (tree x below leafless) trees)) + count_of after) (child_count (parent_on level trees) + count_of (tree x below after))
        (omega (arith, ap child_count (parent_join n (tree x below leafless) trees), one_child (last_on n trees), ap (λ (m : ℕ). child_count (parent_on m trees)) e)) f.few where
          one_child : (o : Option (Label × Trees Label)) → child_count (with_child (tree x below leafless) o) ≤ child_count o + 1
          one_child None = omega arith
          one_child (Some node) = omega (arith, count_of-joined node.1 (tree x below leafless))

    one_more : level ≡ 0 → count_of whole + count_of after ≤ 1
    one_more e =
        let count : count_of whole ≡ count_of trees + count_of (tree x below leafless) = subst (λ (n : ℕ). count_of (join_last n (tree x below leafless) trees) ≡ count_of trees + count_of (tree x below leafless)) (sym e) (count_of-joined trees (tree x below leafless)) in
        omega (arith, f.root e, count)

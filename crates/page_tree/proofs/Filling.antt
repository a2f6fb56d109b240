-- A node whose children, and all below them, are made one after another.
use Rattle.std.proofs.Common.{◌≡◌, ℕ, zero, suc, ◌+◌, ◌<◌, ◌≤◌, true, false, List, [], ◌∷◌, Some, IsSome, is_some, take, drop, get_or, length, refl, sym, ap, subst, ◌∙◌, arith, inl, inr}
use Rattle.std.specs.Prelude.{◌⊎◌, ⊤, Err, Ok, OnErr, Result}
use Rattle.std.specs.Str.{bytes_eq}
use Rattle.std.proofs.lemmas.Bool.{cases_Bool, or_left, or_right}
use Rattle.std.proofs.lemmas.List.{length-take-le, take_all, take_more}
use Rattle.plain_tree.specs.Trees.{Trees, leafless, tree, joined, count_of, size_of}
use Rattle.node_arena.specs.declared.number.NodeId.{NodeId}
use Rattle.node_arena.specs.Edits.{graft, grafted, put_at, removed}
use Rattle.node_arena.specs.Faults.{is_top}
use Rattle.node_arena.specs.Numbers.{EachNode, IsDistinct, part_at, same, times, top_numbers, value_at, value_of}
use Rattle.node_arena.proofs.Edited.{each_edited, each_joined, edited_here, edited_not, tops_grafted}
use Rattle.node_arena.proofs.Parts.{each_weaker}
use Rattle.node_arena.proofs.Same.{one_no, part_here, part_there, same_is, same_refl}
use Rattle.doc_text.specs.declared.document.Doc.{Doc}
use Rattle.doc_text.specs.declared.document.Plain.{Plain}
use Rattle.doc_text.specs.Edits.{tree_of}
use Rattle.doc_text.specs.Label.{Label}
use Rattle.doc_text.specs.View.{trees_of, label_of as plain_label}
use Rattle.doc_text.specs.Growth.{holds}
use Rattle.doc_text.specs.Named as doc
use Rattle.doc_text.specs.Texts.{Word}
use Rattle.doc_text.proofs.Grown.{differ, not_both, not_true, or_join, or_split, own_name}
use Rattle.doc_text.proofs.Nodes.{count_trees_of, trees_of-drop, trees_of-push}
use Rattle.doc_text.proofs.Opening.{holds-joined}
use Rattle.edit_journal.specs.Changes.{tree_of_node}
use Rattle.placing.specs.declared.node.Node.{Node}
use Rattle.placing.specs.Keeping.{HoldsNone, KeepsNone}
use Rattle.placing.specs.Nodes.{NodeTrees}
use Rattle.placing.specs.Told.{no_past}
use Rattle.reach_frame.proofs.Grafts.{graft_more, joined_times}
use Rattle.page_tree.specs.Documents.{label_of, plain_trees}
use Rattle.page_tree.specs.Filled.{AreNew, Fills, IsLone, filled, with_below}
use Rattle.page_tree.specs.Fits.{AreNamedAnew}
use Rattle.page_tree.specs.Pages.{Held, IsAround, IsRoot, document_of, plain_root, trees_in}
use Rattle.page_tree.specs.Registers.{Finds, HasName}
use Rattle.page_tree.specs.Shapes.{Adds, AreBegun, Brings, IsBegun}
use Rattle.page_tree.proofs.Changes.{plain_count, plain_joined}
use Rattle.page_tree.proofs.Fonts.{Declares, declares}
use Rattle.page_tree.proofs.Planting.{alone_edited, filled_part, filled_times, filled_tops, filled_within, grafted_new, grafted_within, last_edited, lone_filled, not_top, put_end, refilled, same_top, taken_back}

-- ---- names
filled_less : (id : NodeId) (new t : NodeTrees) (m : Word) → holds (plain_trees t) m ≡ false → holds (plain_trees new) m ≡ false → holds (plain_trees (filled id new t)) m ≡ false
filled_less id new leafless m h n = refl
filled_less id new (tree x below after) m h n =
    let p = or_split (bytes_eq x.1.name m) (holds (plain_trees below) m) (holds (plain_trees after) m) h in
    at p (cases_Bool (same x.0 id)) (filled_less id new below m p.1.0 n) (filled_less id new after m p.1.1 n)
  where
    at : (bytes_eq x.1.name m ≡ false) × ((holds (plain_trees below) m ≡ false) × (holds (plain_trees after) m ≡ false)) → (same x.0 id ≡ true) ⊎ (same x.0 id ≡ false) → holds (plain_trees (filled id new below)) m ≡ false → holds (plain_trees (filled id new after)) m ≡ false →
        holds (plain_trees (filled id new (tree x below after))) m ≡ false
    at p (inl e) b a = ap (λ u. holds (plain_trees u) m) (edited_here id (with_below new) x below after e) ∙ or_join (bytes_eq x.1.name m) (holds (plain_trees new) m) (holds (plain_trees after) m) p.0 n p.1.1
    at p (inr e) b a = ap (λ u. holds (plain_trees u) m) (edited_not id (with_below new) x below after e) ∙ or_join (bytes_eq x.1.name m) (holds (plain_trees (filled id new below)) m) (holds (plain_trees (filled id new after)) m) p.0 b a

holds_right : (s t : Trees Label) (m : Word) → holds t m ≡ true → holds (joined s t) m ≡ true
holds_right s t m h = holds-joined s t m ∙ or_right (holds s m) (holds t m) h

distinct_right : (s t : Trees Label) → doc.IsDistinct (joined s t) → doc.IsDistinct t
distinct_right leafless t d = d
distinct_right (tree x below after) t d = distinct_right after t d.1.1.1.1

distinct_apart : (s t : Trees Label) (m : Word) → doc.IsDistinct (joined s t) → holds t m ≡ true → holds s m ≡ false
distinct_apart leafless t m d h = refl
distinct_apart (tree x below after) t m d h =
    let there = holds_right after t m h in
    or_join (bytes_eq x.name m) (holds below m) (holds after m) (differ (joined after t) x.name m d.1.0 there) (not_true (holds below m) (λ e. not_both (holds (joined after t) m) there (d.1.1.0 m e))) (distinct_apart after t m d.1.1.1.1 h)

-- ---- nothing is made yet, and what is made in part
pub fills_none : (id : NodeId) (t : NodeTrees) → IsDistinct t → IsLone id t → Fills (λ s. s ≡ leafless) id t t
fills_none id t d lone = record { new = leafless; begun = record { fresh = λ n l. absurd (omega (arith, l)); begun = tt }; plain = refl; is = sym (lone_filled id t lone.value (d id) lone.part) }

pub fills_some : (fact : Trees Label → Type 0) (id : NodeId) (t u : NodeTrees) → Fills fact id t u → Fills (λ s. ⊤) id t u
fills_some fact id t u f = record { new = f.new; begun = f.begun; plain = tt; is = f.is }

pub fills_live : (fact : Trees Label → Type 0) (id : NodeId) (t u : NodeTrees) → IsLone id t → Fills fact id t u → IsSome (part_at u id)
fills_live fact id t u lone f = ap (λ s. is_some (part_at s id)) f.is ∙ ap is_some (filled_part id f.new t (lone.value, leafless) lone.part)

-- ---- a node that is added under one
module _ (parent : NodeId) (index : ℕ) (label : Label) (id : NodeId) (t w : NodeTrees) (few : IsDistinct t) (live : IsSome (part_at t parent)) (a : Adds parent index label id t w) where
  pub added_lone : IsLone id w
  added_lone = record { value = a.value; part = ap (λ u. part_at u id) a.is ∙ grafted_new parent index (id, a.value) leafless t a.fresh (part_there t parent live) (few parent) }

  -- the new node is filled where it stands
  pub added_within : (new : NodeTrees) → filled id new w ≡ grafted parent index (tree (id, a.value) new leafless) t
  added_within new = ap (filled id new) a.is ∙ grafted_within id parent (with_below new) index (tree (id, a.value) leafless leafless) t a.fresh ∙ ap (λ u. grafted parent index u t) (alone_edited (id, a.value) (with_below new))

  pub added_more : (n : NodeId) → times n t ≤ times n w
  added_more n = omega (arith, graft_more parent index (tree (id, a.value) leafless leafless) t n, ap (times n) a.is)

  -- all of them are new
  pub added_begun : (new : NodeTrees) → AreBegun new w → AreBegun (tree (id, a.value) new leafless) t
  added_begun new b =
      record {
        fresh = λ n l. fresh n l (cases_Bool (same id n));
        begun = (a.begun, (b.begun, tt));
      }
    where
      fresh : (n : NodeId) → 1 ≤ times n (tree (id, a.value) new leafless) → (same id n ≡ true) ⊎ (same id n ≡ false) → times n t ≡ 0
      fresh n l (inl e) = ap (λ m. times m t) (sym (same_is id n e)) ∙ a.fresh
      fresh n l (inr e) = let z : times n w ≡ 0 = b.fresh n (omega (arith, l, one_no (same id n) e)) in omega (arith, z, added_more n)

  -- the trees are brought
  pub added_brings : (name : Word) (node : Plain) (u : NodeTrees) → Finds t name (Some parent) → label ≡ plain_label node → Fills (λ s. s ≡ node.children) id w u → Brings name index (tree_of_node node) t u
  added_brings name node u found l f =
      record {
        upper = parent;
        found = found;
        new = tree (id, a.value) f.new leafless;
        begun = added_begun f.new f.begun;
        plain = λ i. tree ((a.label_is ∙ l) i) (f.plain i) leafless;
        is = f.is ∙ added_within f.new;
      }

  -- the filled node is taken out again
  pub added_back : (u : NodeTrees) → Fills (λ s. ⊤) id w u → removed id u ≡ t
  added_back u f = ap (removed id) (f.is ∙ ap (filled id f.new) a.is) ∙ taken_back parent index (id, a.value) f.new t a.fresh

  pub added_low : (u : NodeTrees) → Fills (λ s. ⊤) id w u → is_top u id ≡ false
  added_low u f = same_top u t id (ap top_numbers f.is ∙ filled_tops id f.new w ∙ ap top_numbers a.is ∙ tops_grafted parent index (tree (id, a.value) leafless leafless) t) ∙ not_top t id a.fresh

  pub added_named : (u : NodeTrees) → EachNode (λ x. value_at u x.0 ≡ Some x.1) u → Fills (λ s. ⊤) id w u → HasName id label.name u
  unfolding added_lone
  added_named u each f =
      each_weaker (λ x. same x.0 id ≡ true → x.1 ≡ a.value) (λ x. same x.0 id ≡ true → x.1.name ≡ label.name) u (λ x h e. ap (λ (v : Node). v.name) (h e) ∙ ap (λ (l : Label). l.name) a.label_is)
      (declares u id a.value (ap (λ s. value_at s id) f.is ∙ ap value_of (filled_part id f.new w (a.value, leafless) added_lone.part)) each)

  pub added_names : (below : Trees Label) → holds below label.name ≡ false → doc.IsDistinct below → AreNew below (plain_trees t) → AreNamedAnew below (plain_trees w)
  added_names below own d new =
      record {
        distinct = d;
        new = λ m h. ap (λ u. holds (plain_trees u) m) a.is ∙ graft_less t m (new m h) (ap (λ (l : Label). bytes_eq l.name m) a.label_is ∙ differ below label.name m own h);
      }
    where
      put_less : (i : ℕ) (s : NodeTrees) (m : Word) → holds (plain_trees s) m ≡ false → bytes_eq a.value.name m ≡ false → holds (plain_trees (put_at i (tree (id, a.value) leafless leafless) s)) m ≡ false
      put_less i leafless m h e = or_join (bytes_eq a.value.name m) false false e refl refl
      put_less zero (tree x low after) m h e = or_join (bytes_eq a.value.name m) false (holds (plain_trees (tree x low after)) m) e refl h
      put_less (suc i) (tree x low after) m h e = let p = or_split (bytes_eq x.1.name m) (holds (plain_trees low) m) (holds (plain_trees after) m) h in or_join (bytes_eq x.1.name m) (holds (plain_trees low) m) _ p.0 p.1.0 (put_less i after m p.1.1 e)

      graft_less : (s : NodeTrees) (m : Word) → holds (plain_trees s) m ≡ false → bytes_eq a.value.name m ≡ false → holds (plain_trees (grafted parent index (tree (id, a.value) leafless leafless) s)) m ≡ false
      graft_less leafless m h e = refl
      graft_less (tree x low after) m h e =
          let p = or_split (bytes_eq x.1.name m) (holds (plain_trees low) m) (holds (plain_trees after) m) h in
          at p (cases_Bool (same x.0 parent)) (graft_less low m p.1.0 e) (graft_less after m p.1.1 e)
        where
          at : (bytes_eq x.1.name m ≡ false) × ((holds (plain_trees low) m ≡ false) × (holds (plain_trees after) m ≡ false)) → (same x.0 parent ≡ true) ⊎ (same x.0 parent ≡ false) →
              holds (plain_trees (grafted parent index (tree (id, a.value) leafless leafless) low)) m ≡ false → holds (plain_trees (grafted parent index (tree (id, a.value) leafless leafless) after)) m ≡ false →
              holds (plain_trees (grafted parent index (tree (id, a.value) leafless leafless) (tree x low after))) m ≡ false
          at p (inl q) b c =
              ap (λ u. holds (plain_trees u) m) (edited_here parent (graft index (tree (id, a.value) leafless leafless)) x low after q) ∙
              or_join (bytes_eq x.1.name m) (holds (plain_trees (put_at index (tree (id, a.value) leafless leafless) low)) m) (holds (plain_trees after) m) p.0 (put_less index low m p.1.0 e) p.1.1
          at p (inr q) b c = ap (λ u. holds (plain_trees u) m) (edited_not parent (graft index (tree (id, a.value) leafless leafless)) x low after q) ∙ or_join (bytes_eq x.1.name m) _ _ p.0 b c

-- ---- one child more
taken_and_left : (i : ℕ) (nodes : List Plain) → trees_of nodes ≡ joined (trees_of (take i nodes)) (trees_of (drop i nodes))
taken_and_left zero nodes = refl
taken_and_left (suc i) [] = refl
taken_and_left (suc i) (node ∷ nodes) = ap (tree (plain_label node) node.children) (taken_and_left i nodes)

-- a child is added at the end of those that are made, and filled in whole or in part
module _ (id : NodeId) (t v : NodeTrees) (done : Trees Label) (i : ℕ) (label : Label) (c : NodeId) (w u : NodeTrees) (few : IsDistinct t) (lone : IsLone id t) (f : Fills (λ s. s ≡ done) id t v) (counted : count_of done ≡ i) (a : Adds id i label c v w) where
  times_held : (n : NodeId) → times n v ≡ times n t + times n f.new
  times_held n = ap (times n) f.is ∙ filled_times n id f.new t lone.value (few id) lone.part

  -- those that were made, and the child with these below it
  abbrev whole : NodeTrees → NodeTrees
  whole new = joined f.new (tree (c, a.value) new leafless)

  added_is : w ≡ filled id (whole leafless) t
  added_is =
      a.is ∙ ap (grafted id i (tree (c, a.value) leafless leafless)) f.is ∙ refilled id (graft i (tree (c, a.value) leafless leafless)) f.new t
      ∙ ap (λ s. filled id s t) (put_end i (tree (c, a.value) leafless leafless) f.new (sym (plain_count f.new) ∙ ap count_of f.plain ∙ counted))

  pub child_fills : (fact : Trees Label → Type 0) → Fills fact c w u → Fills (λ s. (below : Trees Label) × (fact below × (s ≡ joined done (tree label below leafless)))) id t u
  child_fills fact g =
      record {
        new = whole g.new;
        begun = record { fresh = fresh; begun = each_joined (λ x. IsBegun x.1) f.new (tree (c, a.value) g.new leafless) f.begun.begun (a.begun, (g.begun.begun, tt)) };
        plain = (plain_trees g.new, (g.plain, plain_joined f.new (tree (c, a.value) g.new leafless) ∙ (λ j. joined (f.plain j) (tree (a.label_is j) (plain_trees g.new) leafless))));
        is =
            g.is ∙ ap (filled c g.new) added_is ∙ filled_within c id (with_below g.new) (whole leafless) t (omega (arith, times_held c, a.fresh))
            ∙ ap (λ s. filled id s t) (last_edited (c, a.value) (with_below g.new) f.new (omega (arith, times_held c, a.fresh)));
      }
    where
      more : (n : NodeId) → times n v ≤ times n w
      more n = omega (arith, graft_more id i (tree (c, a.value) leafless leafless) v n, ap (times n) a.is)

      fresh : (n : NodeId) → 1 ≤ times n (whole g.new) → times n t ≡ 0
      fresh n l = at (times n f.new) refl (cases_Bool (same c n))
        where
          at : (k : ℕ) → times n f.new ≡ k → (same c n ≡ true) ⊎ (same c n ≡ false) → times n t ≡ 0
          at (suc k) e b = f.begun.fresh n (omega (arith, e))
          at zero e (inl b) = omega (arith, times_held n, ap (λ m. times m v) (sym (same_is c n b)) ∙ a.fresh)
          at zero e (inr b) = let z : times n w ≡ 0 = g.begun.fresh n (omega (arith, l, e, joined_times f.new (tree (c, a.value) g.new leafless) n, one_no (same c n) b)) in omega (arith, z, more n, times_held n)

-- what holds of the next child, and of the tree with it and with all below it
pub record NextChild (nodes : List Plain) (i : ℕ) (child : Plain) (id : NodeId) (t v : NodeTrees) : Type 0 where
  pub fresh : holds (plain_trees v) child.name ≡ false
  pub lone : (c : NodeId) (w : NodeTrees) → Adds id i (plain_label child) c v w → IsLone c w
  pub names : (c : NodeId) (w : NodeTrees) → Adds id i (plain_label child) c v w → AreNamedAnew child.children (plain_trees w)
  pub next : (c : NodeId) (w u : NodeTrees) → Adds id i (plain_label child) c v w → Fills (λ s. s ≡ child.children) c w u → Fills (λ s. s ≡ trees_of (take (i + 1) nodes)) id t u
  pub some : (c : NodeId) (w u : NodeTrees) → Adds id i (plain_label child) c v w → Fills (λ s. ⊤) c w u → Fills (λ s. ⊤) id t u

pub next_child : (nodes : List Plain) (i : ℕ) (d : Plain) (id : NodeId) (t v : NodeTrees) → i < length nodes → IsDistinct t → IsDistinct v → IsLone id t → AreNamedAnew (trees_of nodes) (plain_trees t) → Fills (λ s. s ≡ trees_of (take i nodes)) id t v →
    NextChild nodes i (get_or nodes i d) id t v
next_child nodes i d id t v l few fewer lone anew f =
    record {
      fresh = ap (λ s. holds (plain_trees s) child.name) f.is ∙ filled_less id f.new t child.name (anew.new child.name (anywhere child.name own)) (ap (λ s. holds s child.name) f.plain ∙ apart child.name own);
      lone = λ c w a. added_lone id i label c v w fewer (fills_live (λ s. s ≡ held) id t v lone f) a;
      names = λ c w a. added_names id i label c v w fewer (fills_live (λ s. s ≡ held) id t v lone f) a child.children here.0 here.1.1.1.0
          (λ m p. ap (λ s. holds (plain_trees s) m) f.is
          ∙ filled_less id f.new t m (anew.new m (anywhere m (or_right (bytes_eq child.name m) _ (or_left (holds child.children m) _ p)))) (ap (λ s. holds s m) f.plain ∙ apart m (or_right (bytes_eq child.name m) _ (or_left (holds child.children m) _ p))));
      next = λ c w u a g.
          let all = child_fills id t v held i label c w u few lone f counted a (λ s. s ≡ child.children) g in
          record {
            new = all.new;
            begun = all.begun;
            plain = all.plain.1.1 ∙ ap (λ s. joined held (tree label s leafless)) all.plain.1.0 ∙ sym (trees_of-push (take i nodes) child) ∙ ap trees_of (sym (take_more nodes i d l));
            is = all.is;
          };
      some = λ c w u a g. fills_some _ id t u (child_fills id t v held i label c w u few lone f counted a (λ s. ⊤) g);
    }
  where
    child : Plain
    child = get_or nodes i d

    label : Label
    label = plain_label child

    held : Trees Label
    held = trees_of (take i nodes)

    rest : Trees Label
    rest = trees_of (drop (i + 1) nodes)

    all : trees_of nodes ≡ joined held (tree label child.children rest)
    all = taken_and_left i nodes ∙ ap (joined held) (trees_of-drop nodes i d l)

    both : doc.IsDistinct (joined held (tree label child.children rest))
    both = subst doc.IsDistinct all anew.distinct

    here : doc.IsDistinct (tree label child.children rest)
    here = distinct_right held (tree label child.children rest) both

    own : holds (tree label child.children rest) child.name ≡ true
    own = or_left (bytes_eq child.name child.name) _ (own_name child.name)

    anywhere : (m : Word) → holds (tree label child.children rest) m ≡ true → holds (trees_of nodes) m ≡ true
    anywhere m p = ap (λ u. holds u m) all ∙ holds_right held (tree label child.children rest) m p

    apart : (m : Word) → holds (tree label child.children rest) m ≡ true → holds held m ≡ false
    apart m p = distinct_apart held (tree label child.children rest) m both p

    counted : count_of held ≡ i
    counted = count_trees_of (take i nodes) ∙ length-take-le i nodes (omega (arith, l))

pub all_filled : (nodes : List Plain) (i : ℕ) (id : NodeId) (t u : NodeTrees) → length nodes ≤ i → Fills (λ s. s ≡ trees_of (take i nodes)) id t u → Fills (λ s. s ≡ trees_of nodes) id t u
all_filled nodes i id t u l f = record { new = f.new; begun = f.begun; plain = f.plain ∙ ap trees_of (take_all i nodes l); is = f.is }

pub child_smaller : (nodes : List Plain) (i : ℕ) (d : Plain) → i < length nodes → size_of (get_or nodes i d).children < size_of (trees_of nodes)
child_smaller [] i d l = absurd (omega arith)
child_smaller (node ∷ nodes) zero d l = omega arith
child_smaller (node ∷ nodes) (suc i) d l = omega (arith, child_smaller nodes i d (omega (arith, l)))

-- a node without children has no child
pub no_child : (nodes : List Plain) (i : ℕ) → i < length nodes → trees_of nodes ≡ leafless → ⊥
no_child [] i l e = omega (arith, l)
no_child (node ∷ nodes) i l e = omega (arith, ap size_of e)

-- what holds anyway holds where memory is wanting
pub on_err : {A E P : Type 0} (r : Result A E) → P → OnErr r P
on_err (Ok x) h = tt
on_err (Err e) h = h

pub ruleset children_smaller = (child_smaller)

pub around_on : (a b c : Held) → IsAround a b → IsAround b c → IsAround a c
around_on a b c f g = record { version = g.version ∙ f.version; width = g.width ∙ f.width; height = g.height ∙ f.height }

pub ruleset filling = (child_smaller, around_on)

-- ---- a root
module _ (from : Doc) (id : NodeId) (first now : Held) (r : IsRoot from id first) (f : Fills (λ s. s ≡ from.root.children) id first.nodes.tree now.nodes.tree) where
  root_tree : now.nodes.tree ≡ tree (id, r.value) f.new leafless
  root_tree = f.is ∙ ap (filled id f.new) r.nodes ∙ alone_edited (id, r.value) (with_below f.new)

  pub whole_document : IsAround first now → document_of now ≡ from
  whole_document a =
      let all : trees_in now ≡ tree (plain_label from.root) from.root.children leafless = ap plain_trees root_tree ∙ (λ i. tree (r.label i) (f.plain i) leafless) in
      λ i. record { version = (a.version ∙ r.version) i; width = (a.width ∙ r.width) i; height = (a.height ∙ r.height) i; root = plain_root (all i) }

  pub root_keeps : KeepsNone now.nodes.tree
  root_keeps = subst KeepsNone (sym root_tree) (r.begun.kept, (each_weaker (λ x. IsBegun x.1) (λ x. x.1.kept ≡ []) f.new (λ x b. b.kept) f.begun.begun, tt))

  pub root_holds : HoldsNone now.nodes.tree
  root_holds = subst HoldsNone (sym root_tree) (r.begun.past, (each_weaker (λ x. IsBegun x.1) (λ x. x.1.past ≡ no_past) f.new (λ x b. b.past) f.begun.begun, tt))

pub root_lone : (from : Doc) (id : NodeId) (h : Held) → IsRoot from id h → IsLone id h.nodes.tree
root_lone from id h r = record { value = r.value; part = ap (λ s. part_at s id) r.nodes ∙ part_here (id, r.value) leafless leafless id (record { is = same_refl id }) }

pub root_names : (from : Doc) (id : NodeId) (h : Held) → doc.IsDistinct (tree_of from) → IsRoot from id h → AreNamedAnew from.root.children (trees_in h)
root_names from id h d r =
    record {
      distinct = d.1.1.1.0;
      new = λ m p. ap (λ s. holds (plain_trees s) m) r.nodes ∙ or_join (bytes_eq r.value.name m) false false (ap (λ (l : Label). bytes_eq l.name m) r.label ∙ differ from.root.children from.root.name m d.0 p) refl refl;
    }

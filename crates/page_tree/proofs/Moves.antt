-- A tree under another parent.
use Rattle.std.proofs.Common.{◌≡◌, ℕ, zero, suc, ◌+◌, ◌≤◌, ℤ, Bool, true, false, not, ◌||◌, List, [], ◌∷◌, ◌++◌, Option, Some, None, IsSome, length, refl, sym, ap, subst, ◌∙◌, arith, inl, inr}
use Rattle.std.specs.Prelude.{◌⊎◌, ◌&&◌, nat_lt, Result, Ok, Err, OnOk, OnErr}
use Rattle.std.proofs.lemmas.Bool.{cases_Bool}
use Rattle.std.specs.Str.{bytes_eq}
use Rattle.text_scan.specs.declared.line.Fault.{Fault}
use Rattle.text_scan.specs.declared.line.Place.{Place}
use Rattle.plain_tree.specs.Trees.{Trees, leafless, tree, joined, count_of, height_of}
use Rattle.node_arena.specs.declared.number.NodeId.{NodeId}
use Rattle.node_arena.specs.Numbers.{Part, below_at, below_of, count_at, is_among, one, part_at, same, times, value_of, way_up}
use Rattle.node_arena.specs.Edits.{moved, nothing, removed, tree_at}
use Rattle.node_arena.specs.Faults.{is_top}
use Rattle.node_arena.specs.Plain.{Nodes, with_move}
use Rattle.node_arena.specs.declared.error.ArenaError.{ArenaError}
use Rattle.node_arena.proofs.Same.{After, Below, Here, by_place, cond_no, cond_yes, one_no, one_yes, part_after, part_below, part_here, part_some, same_is}
use Rattle.node_arena.proofs.Parts.{below_within}
use Rattle.node_arena.proofs.Edited.{each_edited, each_tree, edited_here, edited_none, edited_not, graft_summed, summed, summed_joined, times_summed, tree_is, tree_none}
use Rattle.node_arena.proofs.Standing.{way_after, way_below, way_here}
use Rattle.node_arena.proofs.Ways.{way_removed, within_way}
use Rattle.style_types.specs.Computed.{font_of}
use Rattle.doc_text.specs.declared.edit.Edit.TheVariants as edit
use Rattle.doc_text.specs.declared.edit.Named.{Named}
use Rattle.doc_text.specs.declared.document.Doc.{Doc}
use Rattle.doc_text.specs.Edits.{Row, bad_index, child_count, cycle, duplicate_name, first_refusal, is_leaf_top, leaf_has_children, or_where, passes_children, passes_levels, refusals, root, too_deep, too_many_nodes, tree_of, where_}
use Rattle.doc_text.specs.Growth.{holds}
use Rattle.doc_text.specs.Label.{Label}
use Rattle.doc_text.specs.Named as doc
use Rattle.doc_text.proofs.Grown.{not_both}
use Rattle.placing.specs.declared.node.Node.{Node}
use Rattle.placing.specs.Nodes.{NodeTrees}
use Rattle.page_tree.specs.Rows.{or_later}
use Rattle.page_tree.specs.Documents.{plain_trees}
use Rattle.page_tree.specs.Fonts.{HasFont, HasFontBelow, root_font, root_font_of}
use Rattle.page_tree.specs.Moves.{AreApart, place_refusal}
use Rattle.page_tree.specs.Pages.{Held, document_of, trees_in}
use Rattle.page_tree.specs.Registers.{Finds, IsRegister, Tells, named}
use Rattle.page_tree.proofs.Changes.{plain_grafted, plain_height, plain_removed, plain_tree_at}
use Rattle.page_tree.proofs.Lookups.{found_count, found_leaf, found_level, tells_none, tells_some}
use Rattle.page_tree.proofs.Refusals.{whole}
use Rattle.page_tree.proofs.Registers.{named_summed}
use Rattle.page_tree.proofs.Removals.{parts_sum, parts_times, removed_count}

-- ---- what stands outside a tree
or_split : (a b : Bool) → (a || b) ≡ true → (a ≡ true) ⊎ (b ≡ true)
or_split true b e = inl refl
or_split false b e = inr e

among_split : (n x : NodeId) (xs : List NodeId) → is_among n (xs ++ x ∷ []) ≡ true → (is_among n xs ≡ true) ⊎ (same x n ≡ true)
among_split n x [] e = last (same x n) e
  where
    last : (b : Bool) → (b || false) ≡ true → (is_among n [] ≡ true) ⊎ (b ≡ true)
    last true e = inr refl
    last false e = inl e
among_split n x (y ∷ ys) e = at (or_split (same y n) (is_among n (ys ++ x ∷ [])) e) (among_split n x ys)
  where
    or_second : (b c : Bool) → c ≡ true → (b || c) ≡ true
    or_second true c e = refl
    or_second false c e = e

    next : (is_among n ys ≡ true) ⊎ (same x n ≡ true) → (is_among n (y ∷ ys) ≡ true) ⊎ (same x n ≡ true)
    next (inl r) = inl (or_second (same y n) (is_among n ys) r)
    next (inr r) = inr r

    at : (same y n ≡ true) ⊎ (is_among n (ys ++ x ∷ []) ≡ true) → (is_among n (ys ++ x ∷ []) ≡ true → (is_among n ys ≡ true) ⊎ (same x n ≡ true)) → (is_among n (y ∷ ys) ≡ true) ⊎ (same x n ≡ true)
    at (inl h) f = inl (ap (λ b. b || is_among n ys) h)
    at (inr h) f = next (f h)

-- what has a number on its way up stands in the tree of that number
pub way_in : (t : NodeTrees) (n c : NodeId) → times n t ≤ 1 → 1 ≤ times c t → is_among n (way_up t c) ≡ true → 1 ≤ times c (tree_at n t)
way_in leafless n c few l e = l
way_in (tree x below after) n c few l e =
    by_place x below c
    (λ g. let here : same x.0 n ≡ true = or_none (same x.0 n) (ap (λ m. is_among n (m ∷ [])) (same_is x.0 c g.is) ∙ sym (ap (is_among n) (way_here x below after c g)) ∙ e) in
    omega (arith, ap (times c) (cond_yes (same x.0 n) (tree x below leafless) (joined (tree_at n below) (tree_at n after)) here), one_yes (same x.0 c) g.is))
    (λ g. inside g (cases_Bool (same x.0 n)) (among_split n x.0 (way_up below c) (sym (ap (is_among n) (way_below x below after c g)) ∙ e)) (way_in below n c (omega (arith, few)) g.in_below))
    (λ g. beside g (cases_Bool (same x.0 n)) (way_in after n c (omega (arith, few)) (omega (arith, l, one_no (same x.0 c) g.not, g.none)) (sym (ap (is_among n) (way_after x below after c g)) ∙ e)))
  where
    or_none : (b : Bool) → (b || false) ≡ true → b ≡ true
    or_none true e = refl
    or_none false e = e

    times_joined : (s u : NodeTrees) → times c (joined s u) ≡ times c s + times c u
    times_joined s u = omega (arith, times_summed c (joined s u), summed_joined (λ y. one (same y.0 c)) s u, times_summed c s, times_summed c u)

    inside : Below x below c → (same x.0 n ≡ true) ⊎ (same x.0 n ≡ false) → (is_among n (way_up below c) ≡ true) ⊎ (same x.0 n ≡ true) → (is_among n (way_up below c) ≡ true → 1 ≤ times c (tree_at n below)) → 1 ≤ times c (tree_at n (tree x below after))
    inside g (inl q) s f = omega (arith, g.in_below, ap (times c) (cond_yes (same x.0 n) (tree x below leafless) (joined (tree_at n below) (tree_at n after)) q))
    inside g (inr q) (inl s) f = omega (arith, f s, times_joined (tree_at n below) (tree_at n after), ap (times c) (cond_no (same x.0 n) (tree x below leafless) (joined (tree_at n below) (tree_at n after)) q))
    inside g (inr q) (inr s) f = absurd (not_both (same x.0 n) s q)

    beside : After x below c → (same x.0 n ≡ true) ⊎ (same x.0 n ≡ false) → 1 ≤ times c (tree_at n after) → 1 ≤ times c (tree_at n (tree x below after))
    beside g (inl q) h = absurd (omega (arith, h, ap (times c) (tree_none n after (omega (arith, few, one_yes (same x.0 n) q)))))
    beside g (inr q) h = omega (arith, h, times_joined (tree_at n below) (tree_at n after), ap (times c) (cond_no (same x.0 n) (tree x below leafless) (joined (tree_at n below) (tree_at n after)) q))

-- what does not have a number on its way up does not stand in the tree of that number
pub way_out : (t : NodeTrees) (n c : NodeId) → IsSome (part_at t n) → times n t ≤ 1 → times c t ≤ 1 → is_among n (way_up t c) ≡ false → times c (tree_at n t) ≡ 0
way_out t n c live few fewer e = at (part_at t n) refl live
  where
    at : (o : Option (Part Node)) → part_at t n ≡ o → IsSome o → times c (tree_at n t) ≡ 0
    at None q l = absurd cc
    at (Some p) q l = by (times c (tree_at n t)) refl
      where
        by : (k : ℕ) → times c (tree_at n t) ≡ k → times c (tree_at n t) ≡ 0
        by zero h = h
        by (suc k) h = absurd (not_both (is_among n (way_up t c)) (within_way t n c p q fewer (omega (arith, h, ap (times c) (tree_is n t p few q)))) e)

-- what stands under a number outside, without the tree
pub part_left : (t : NodeTrees) (n c : NodeId) (p : Part Node) → times n t ≤ 1 → times c (tree_at n t) ≡ 0 → part_at t c ≡ Some p → part_at (removed n t) c ≡ Some (p.0, removed n p.1)
part_left leafless n c p few none e = absurd cc
part_left (tree x below after) n c p few none e =
    by_place x below c
    (λ g. here g (cases_Bool (same x.0 n)))
    (λ g. inside g (cases_Bool (same x.0 n)) (part_left below n c p (omega (arith, few))))
    (λ g. beside g (cases_Bool (same x.0 n)) (part_left after n c p (omega (arith, few))))
  where
    times_joined : (s u : NodeTrees) → times c (joined s u) ≡ times c s + times c u
    times_joined s u = omega (arith, times_summed c (joined s u), summed_joined (λ y. one (same y.0 c)) s u, times_summed c s, times_summed c u)

    all : same x.0 n ≡ true → one (same x.0 c) + times c below ≡ 0
    all q = omega (arith, none, ap (times c) (cond_yes (same x.0 n) (tree x below leafless) (joined (tree_at n below) (tree_at n after)) q))

    each : same x.0 n ≡ false → times c (tree_at n below) + times c (tree_at n after) ≡ 0
    each q = omega (arith, none, times_joined (tree_at n below) (tree_at n after), ap (times c) (cond_no (same x.0 n) (tree x below leafless) (joined (tree_at n below) (tree_at n after)) q))

    kept : same x.0 n ≡ false → removed n (tree x below after) ≡ tree x (removed n below) (removed n after)
    kept q = edited_not n nothing x below after q

    here : Here x c → (same x.0 n ≡ true) ⊎ (same x.0 n ≡ false) → part_at (removed n (tree x below after)) c ≡ Some (p.0, removed n p.1)
    here g (inl q) = absurd (omega (arith, all q, one_yes (same x.0 c) g.is))
    here g (inr q) =
        let is : Some (x.1, below) ≡ Some p = sym (part_here x below after c g) ∙ e in
        let own : (x.1, below) ≡ p = cc in
        ap (λ u. part_at u c) (kept q) ∙ part_here x (removed n below) (removed n after) c g ∙ (λ i. Some ((own i).0, removed n (own i).1))

    inside : Below x below c → (same x.0 n ≡ true) ⊎ (same x.0 n ≡ false) → (times c (tree_at n below) ≡ 0 → part_at below c ≡ Some p → part_at (removed n below) c ≡ Some (p.0, removed n p.1)) → part_at (removed n (tree x below after)) c ≡ Some (p.0, removed n p.1)
    inside g (inl q) f = absurd (omega (arith, all q, g.in_below))
    inside g (inr q) f =
        let there : part_at (removed n below) c ≡ Some (p.0, removed n p.1) = f (omega (arith, each q)) (sym (part_below x below after c g) ∙ e) in
        let in_left : 1 ≤ times c (removed n below) = omega (arith, g.in_below, parts_times c n below, each q) in
        ap (λ u. part_at u c) (kept q) ∙ part_below x (removed n below) (removed n after) c (record { not = g.not; in_below = in_left }) ∙ there

    beside : After x below c → (same x.0 n ≡ true) ⊎ (same x.0 n ≡ false) → (times c (tree_at n after) ≡ 0 → part_at after c ≡ Some p → part_at (removed n after) c ≡ Some (p.0, removed n p.1)) → part_at (removed n (tree x below after)) c ≡ Some (p.0, removed n p.1)
    beside g (inl q) f =
        let there : part_at after c ≡ Some p = sym (part_after x below after c g) ∙ e in
        let none_left : times n p.1 ≡ 0 = omega (arith, below_within after c n p there, few, one_yes (same x.0 n) q) in
        ap (λ u. part_at u c) (edited_here n nothing x below after q) ∙ there ∙ ap (λ u. Some (p.0, u)) (sym (edited_none n nothing p.1 none_left))
    beside g (inr q) f =
        let there : part_at after c ≡ Some p = sym (part_after x below after c g) ∙ e in
        ap (λ u. part_at u c) (kept q) ∙ part_after x (removed n below) (removed n after) c (record { not = g.not; none = omega (arith, g.none, parts_times c n below) }) ∙ f (omega (arith, each q)) there

-- the node of a name outside is found there
module _ (t : NodeTrees) (name parent : List ℕ) (n c : NodeId) (a : AreApart t name parent n c) where
  pub none_there : times c (tree_at n t) ≡ 0
  none_there = way_out t n c a.found.live (omega (arith, a.found.once)) (omega (arith, a.onto.once)) a.apart

  pub once_left : times c (removed n t) ≡ 1
  once_left = omega (arith, parts_times c n t, none_there, a.onto.once)

  pub tells_left : Tells c parent (removed n t)
  tells_left = each_edited (λ x. same x.0 c ≡ bytes_eq x.1.name parent) n nothing t (λ x below p b. tt) a.onto.tells

  pub live_left : IsSome (part_at (removed n t) c)
  live_left = part_some (removed n t) c (omega (arith, once_left))

  pub found_left : Finds (removed n t) parent (Some c)
  found_left = record { live = live_left; tells = tells_left; once = once_left; there = sym (tells_some c parent (removed n t) tells_left (omega (arith, once_left))) }

  plain_left : plain_trees (removed n t) ≡ doc.removed name (plain_trees t)
  plain_left = plain_removed n name t a.found.tells

  few : times n t ≤ 1
  few = omega (arith, a.found.once)

  pub leaf_left : is_leaf_top (doc.tree_at parent (plain_trees t)) ≡ is_leaf_top (doc.tree_at parent (doc.removed name (plain_trees t)))
  leaf_left = at (part_at t c) refl a.onto.live
    where
      at : (o : Option (Part Node)) → part_at t c ≡ o → IsSome o → is_leaf_top (doc.tree_at parent (plain_trees t)) ≡ is_leaf_top (doc.tree_at parent (doc.removed name (plain_trees t)))
      at None e l = absurd cc
      at (Some p) e l =
          sym (found_leaf t parent c p.0 a.onto (sym (ap value_of e)))
          ∙ found_leaf (removed n t) parent c p.0 found_left (sym (ap value_of (part_left t n c p few none_there e)))
          ∙ ap (λ u. is_leaf_top (doc.tree_at parent u)) plain_left

  pub level_left : doc.level_of parent (plain_trees t) ≡ doc.level_of parent (doc.removed name (plain_trees t))
  level_left =
      sym (found_level t parent c a.onto) ∙ sym (ap length (way_removed t n c (omega (arith, a.onto.once)) a.apart))
      ∙ found_level (removed n t) parent c found_left ∙ ap (doc.level_of parent) plain_left

  -- a child less, where the node is one
  one_less : (b : NodeTrees) → is_top b n ≡ true → count_of (removed n b) + 1 ≡ count_of b
  one_less leafless e = absurd cc
  one_less (tree x below after) e = at (cases_Bool (same x.0 n)) (one_less after)
    where
      at : (same x.0 n ≡ true) ⊎ (same x.0 n ≡ false) → (is_top after n ≡ true → count_of (removed n after) + 1 ≡ count_of after) → count_of (removed n (tree x below after)) + 1 ≡ count_of (tree x below after)
      at (inl q) f = omega (arith, ap count_of (edited_here n nothing x below after q))
      at (inr q) f = omega (arith, ap count_of (edited_not n nothing x below after q), f (sym (ap (λ b. b || is_top after n) q) ∙ e))

  pub count_left : count_of (removed n (below_at t c)) ≡ child_count parent (doc.removed name (plain_trees t))
  count_left = at (part_at t c) refl a.onto.live
    where
      at : (o : Option (Part Node)) → part_at t c ≡ o → IsSome o → count_of (removed n (below_at t c)) ≡ child_count parent (doc.removed name (plain_trees t))
      at None e l = absurd cc
      at (Some p) e l =
          ap (λ (o : Option (Part Node)). count_of (removed n (below_of o))) e
          ∙ sym (ap (λ (o : Option (Part Node)). count_of (below_of o)) (part_left t n c p few none_there e))
          ∙ found_count (removed n t) parent c found_left ∙ ap (child_count parent) plain_left

  pub with_child : (count : ℕ) → count ≡ count_at t c → is_top (below_at t c) n ≡ true → count ≡ child_count parent (doc.removed name (plain_trees t)) + 1
  with_child count e h = omega (arith, e, one_less (below_at t c) h, count_left)

  pub without_child : (count : ℕ) → count ≡ count_at t c → is_top (below_at t c) n ≡ false → count ≡ child_count parent (doc.removed name (plain_trees t))
  without_child count e h = omega (arith, e, removed_count n (below_at t c) h, count_left)

  pub height_is : height_of (below_at t n) + 1 ≡ height_of (doc.tree_at name (plain_trees t))
  height_is = at (part_at t n) refl a.found.live
    where
      at : (o : Option (Part Node)) → part_at t n ≡ o → IsSome o → height_of (below_at t n) + 1 ≡ height_of (doc.tree_at name (plain_trees t))
      at None e l = absurd cc
      at (Some p) e l =
          omega (arith, ap (λ (o : Option (Part Node)). height_of (below_of o)) e, ap height_of (tree_is n t p few e), plain_height (tree_at n t), ap height_of (plain_tree_at n name t a.found.tells))

  pub plain_moved : (index : ℕ) → plain_trees (moved n c index t) ≡ doc.moved name parent index (plain_trees t)
  plain_moved index =
      plain_grafted c parent index (tree_at n t) (removed n t) tells_left
      ∙ (λ i. doc.grafted parent index (plain_tree_at n name t a.found.tells i) (plain_left i))

-- ---- names and numbers of what was moved
moved_sum : (w : NodeId × Node → ℕ) (n c : NodeId) (index : ℕ) (t : NodeTrees) → IsSome (part_at (removed n t) c) → times c (removed n t) ≤ 1 → summed w (moved n c index t) ≡ summed w t
moved_sum w n c index t live few = at (part_at (removed n t) c) refl live
  where
    at : (o : Option (Part Node)) → part_at (removed n t) c ≡ o → IsSome o → summed w (moved n c index t) ≡ summed w t
    at None e l = absurd cc
    at (Some p) e l = graft_summed c index (tree_at n t) (removed n t) p few e w ∙ parts_sum w n t

pub moved_registered : (find : List ℕ → Option NodeId) (n c : NodeId) (index : ℕ) (t : NodeTrees) → IsSome (part_at (removed n t) c) → times c (removed n t) ≤ 1 → IsRegister find t → IsRegister find (moved n c index t)
moved_registered find n c index t live few r =
    record {
      told = λ name m. named_summed name m (moved n c index t) ∙ moved_sum (λ x. one (same x.0 m && bytes_eq x.1.name name)) n c index t live few ∙ sym (named_summed name m t) ∙ r.told name m;
      distinct = λ m. omega (arith, times_summed m (moved n c index t), moved_sum (λ x. one (same x.0 m)) n c index t live few, times_summed m t, r.distinct m);
    }

-- the register of the names after a move, where the arena may have refused it
pub moved_either : (find : List ℕ → Option NodeId) (n c : NodeId) (index : ℕ) (r : Result (Unit {0}) ArenaError) (old new : Nodes Node) → IsSome (part_at (removed n old.tree) c) → times c (removed n old.tree) ≤ 1 → IsRegister find old.tree →
    OnOk r (new ≡ with_move n c index old) → OnErr r (new ≡ old) → IsRegister find new.tree
moved_either find n c index (Ok x) old new live once r a b = subst (λ (m : Nodes Node). IsRegister find m.tree) (sym a) (moved_registered find n c index old.tree live once r)
moved_either find n c index (Err e) old new live once r a b = subst (λ (m : Nodes Node). IsRegister find m.tree) (sym b) r

-- ---- font sizes of what is left
font_below_left : (font p r : ℤ) (n c : NodeId) (t : NodeTrees) → HasFontBelow font p r c t → HasFontBelow font p r c (removed n t)
font_below_left font p r n c leafless h = tt
font_below_left font p r n c (tree x below after) h = at (cases_Bool (same x.0 n)) (font_below_left font (font_of p r x.1.declared) r n c below h.1.0) (font_below_left font p r n c after h.1.1)
  where
    at : (same x.0 n ≡ true) ⊎ (same x.0 n ≡ false) → HasFontBelow font (font_of p r x.1.declared) r c (removed n below) → HasFontBelow font p r c (removed n after) → HasFontBelow font p r c (removed n (tree x below after))
    at (inl e) b a = rw (edited_here n nothing x below after e) h.1.1
    at (inr e) b a = rw (edited_not n nothing x below after e) (h.0, (b, a))

first_no : (a b : Bool) → (a || b) ≡ false → a ≡ false
first_no true b e = absurd (not_both true refl e)
first_no false b e = refl

pub font_left : (font : ℤ) (n c : NodeId) (t : NodeTrees) → is_top t n ≡ false → HasFont font c t → HasFont font c (removed n t)
font_left font n c leafless top h = tt
font_left font n c (tree x below after) top h =
    rw (edited_not n nothing x below after (first_no (same x.0 n) (is_top after n) top)) (h.0, font_below_left font (root_font x.1.declared) (root_font x.1.declared) n c below h.1)

pub root_left : (n : NodeId) (t : NodeTrees) → is_top t n ≡ false → root_font_of (removed n t) ≡ root_font_of t
root_left n leafless top = refl
root_left n (tree x below after) top = ap root_font_of (edited_not n nothing x below after (first_no (same x.0 n) (is_top after n) top))

-- ---- the refusals of a move
two_unknown : (a b : Bool) (x y : Place) (rows : List Row) → first_refusal ((21, or_where (where_ a x) (where_ b y)) ∷ rows) ≡ or_later a 21 x (or_later b 21 y (first_refusal rows))
two_unknown true b x y rows = refl
two_unknown false true x y rows = refl
two_unknown false false x y rows = refl

abbrev move_rows : ℕ → Trees Label → List ℕ → Named → Named → ℕ → Place → Option Fault
move_rows version t root named parent index at =
    or_later (not (holds t named.name)) 21 named.at (or_later (not (holds t parent.name)) 21 parent.at (or_later (bytes_eq root named.name) 22 named.at (or_later (holds (doc.tree_at named.name t) parent.name) 23 parent.at (place_refusal version t named parent index at))))

abbrev rest_rows : Doc → Named → Named → ℕ → Place → List Row
rest_rows doc named parent index at =
    (22, root doc (edit.Move named parent index at)) ∷ (23, cycle doc (edit.Move named parent index at)) ∷ (24, bad_index doc (edit.Move named parent index at)) ∷ (6, duplicate_name doc (edit.Move named parent index at))
    ∷ (12, too_deep doc (edit.Move named parent index at)) ∷ (13, too_many_nodes doc (edit.Move named parent index at)) ∷ (14, leaf_has_children doc (edit.Move named parent index at)) ∷ []

pub move_told : (h : Held) → count_of h.nodes.tree ≡ 1 → (named parent : Named) (index : ℕ) (at : Place) (a b c d : Bool) → holds (trees_in h) named.name ≡ a → holds (trees_in h) parent.name ≡ b → bytes_eq (document_of h).root.name named.name ≡ c →
    holds (doc.tree_at named.name (trees_in h)) parent.name ≡ d →
    first_refusal (refusals (document_of h) (edit.Move named parent index at)) ≡ or_later (not a) 21 named.at (or_later (not b) 21 parent.at (or_later c 22 named.at (or_later d 23 parent.at (place_refusal h.version (trees_in h) named parent index at))))
move_told h one named parent index at a b c d p q r s =
    two_unknown (not (holds (tree_of (document_of h)) named.name)) (not (holds (tree_of (document_of h)) parent.name)) named.at parent.at (rest_rows (document_of h) named parent index at)
    ∙ ap (λ t. move_rows h.version t (document_of h).root.name named parent index at) (whole h one)
    ∙ (λ i. or_later (not (p i)) 21 named.at (or_later (not (q i)) 21 parent.at (or_later (r i) 22 named.at (or_later (s i) 23 parent.at (place_refusal h.version (trees_in h) named parent index at)))))

-- the new parent stands in the moved tree exactly where the node is on its way up
pub cycle_is : (t : NodeTrees) (name parent : List ℕ) (n c : NodeId) (b : Bool) → Finds t name (Some n) → Finds t parent (Some c) → is_among n (way_up t c) ≡ b → holds (doc.tree_at name (plain_trees t)) parent ≡ b
cycle_is t name parent n c true f g e =
    ap (λ u. holds u parent) (sym (plain_tree_at n name t f.tells)) ∙ tells_some c parent (tree_at n t) (each_tree n (λ x. same x.0 c ≡ bytes_eq x.1.name parent) t g.tells) (way_in t n c (omega (arith, f.once)) (omega (arith, g.once)) e)
cycle_is t name parent n c false f g e =
    ap (λ u. holds u parent) (sym (plain_tree_at n name t f.tells)) ∙ tells_none c parent (tree_at n t) (each_tree n (λ x. same x.0 c ≡ bytes_eq x.1.name parent) t g.tells) (way_out t n c f.live (omega (arith, f.once)) (omega (arith, g.once)) e)

pub place_told : (h : Held) (named parent : Named) (index : ℕ) (at : Place) (a b c d : Bool) → a ≡ nat_lt (child_count parent.name (doc.removed named.name (trees_in h))) index → b ≡ passes_levels (doc.removed named.name (trees_in h)) parent (height_of (doc.tree_at named.name (trees_in h))) →
    c ≡ passes_children h.version (doc.removed named.name (trees_in h)) parent → d ≡ is_leaf_top (doc.tree_at parent.name (doc.removed named.name (trees_in h))) →
    or_later a 24 at (or_later b 12 named.at (or_later c 13 named.at (or_later d 14 parent.at None))) ≡ place_refusal h.version (trees_in h) named parent index at
place_told h named parent index at a b c d p q r s = λ i. or_later (p i) 24 at (or_later (q i) 12 named.at (or_later (r i) 13 named.at (or_later (s i) 14 parent.at None)))

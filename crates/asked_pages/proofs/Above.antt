-- With a leaf of the document after it, a change touches its parent, and so does an edit.
use Rattle.std.proofs.Common.{◌≡◌, refl, sym, ap, subst, ◌∙◌, ℕ, ℤ, zero, suc, Bool, true, false, Option, Some, None, Result, Ok, Err, true≢false}
use Rattle.std.specs.Prelude.{◌||◌, ◌&&◌, not, if◌then◌else◌}
use Rattle.std.specs.Str.{bytes_eq}
use Rattle.std.proofs.lemmas.Bool.{and_from, and_parts, or_left, or_right}
use Rattle.text_scan.specs.declared.line.Fault.{Fault}
use Rattle.style_types.specs.declared.prop.Prop.TheVariants as prop
use Rattle.std.specs.FinMap as finmap
use Rattle.plain_tree.specs.Trees.{EachLabel, Trees, joined, leafless, tree}
use Rattle.plain_tree.proofs.Laws.{each_joined, each_weaker}
use Rattle.doc_text.specs.declared.document.Doc.{Doc}
use Rattle.doc_text.specs.declared.edit.Edit.{Edit}
use Rattle.doc_text.specs.declared.kind.Kind.{Kind}
use Rattle.doc_text.specs.declared.kind.Kind.TheVariants as kind
use Rattle.doc_text.specs.Documents.{is_leaf}
use Rattle.doc_text.specs.Edits.{applied, edited, first_refusal, refusals, tree_of, with_kind, with_root}
use Rattle.doc_text.specs.Growth.{holds}
use Rattle.doc_text.specs.Label.{Label}
use Rattle.doc_text.specs.Laws.{NamesItsNode}
use Rattle.doc_text.specs.Named.{IsDistinct, graft, grafted, nothing, put_at, relabel, relabelled, removed, replaced, tree_at}
use Rattle.doc_text.specs.Texts.{Word}
use Rattle.doc_text.specs.Valid.{HasContainers, IsShaped}
use Rattle.doc_text.proofs.Grown.{own_name, same_name}
use Rattle.doc_text.proofs.Kept.{edited_shaped}
use Rattle.doc_text.proofs.Told.{ok-not-err, same-ok}
use Rattle.edit_journal.specs.declared.change.Change.{Change}
use Rattle.edit_journal.specs.declared.change.Change.TheVariants as change
use Rattle.edit_journal.specs.Changes.{tree_of_node, turned, turned_size, turned_trees, with_style}
use Rattle.edit_journal.specs.Steps.{forward_of}
use Rattle.edit_journal.proofs.Stepping.{forward_is}
use Rattle.reach_frame.specs.Marks.{has_mark, is_reached}
use Rattle.page_tree.specs.Reach.{is_felt, is_grid, is_marked, is_subgrid_node, is_touched, reaches, tells_subgrid, touches}
use Rattle.asked_pages.specs.Leaves.{PassesUp, has_leaf_by}
use Rattle.asked_pages.proofs.Stays.{Ups, ups_root, ups_turned}

by_or : {P : Type 0} (a b : Bool) → (a || b) ≡ true → (a ≡ true → P) → (b ≡ true → P) → P
by_or true b e f g = f refl
by_or false b e f g = g e

-- ---- a reached leaf is marked itself

no_subgrid : (x : Label) → is_leaf x.kind ≡ true → is_subgrid_node x ≡ false
no_subgrid x e = at x.kind (tells_subgrid (finmap.get x.style prop.GridTemplateColumns) || tells_subgrid (finmap.get x.style prop.GridTemplateRows)) e
  where
    at : (k : Kind) (b : Bool) → is_leaf k ≡ true → (is_grid k && b) ≡ false
    at kind.Grid b f = absurd (true≢false (sym f))
    at kind.Flex b f = refl
    at (kind.Leaf content) b f = refl

module _ (mark : Word → Bool) (grid : Bool) where
  marks : Label → Bool
  marks x = mark x.name

  LeafNamed : Word → Label → Type 0
  LeafNamed n x = bytes_eq x.name n ≡ true → is_leaf x.kind ≡ true

  leaf_marked : (n : Word) (felt : Bool) (t : Trees Label) → HasContainers t → EachLabel (LeafNamed n) t → is_reached (λ (x : Label). bytes_eq x.name n) marks is_subgrid_node grid felt t ≡ true → mark n ≡ true
  unfolding marks LeafNamed
  leaf_marked n felt leafless h l e = absurd (true≢false (sym e))
  leaf_marked n felt (tree x below after) h l e =
      by_or _ _ e own
      (λ r. by_or _ _ r (leaf_marked n ((grid && mark x.name) || (felt && is_subgrid_node x)) below h.1.0 l.1.0) (leaf_marked n felt after h.1.1 l.1.1))
    where
      own : (bytes_eq x.name n && (marks x || (has_mark marks below || (felt && is_subgrid_node x)))) ≡ true → mark n ≡ true
      own r =
          let two = and_parts (bytes_eq x.name n) _ r in
          let leaf : is_leaf x.kind ≡ true = l.0 two.0 in
          by_or (marks x) _ two.1
          (λ m. ap mark (sym (same_name x.name n two.0)) ∙ m)
          (λ q. by_or (has_mark marks below) _ q (λ m. absurd (true≢false (sym m ∙ ap (has_mark marks) (h.0 leaf))))
          (λ m. absurd (true≢false (sym (and_parts felt _ m).1 ∙ no_subgrid x leaf))))

  -- ---- a node above a marked one is reached

  module _ (touched left test : Word → Bool) where
    -- a touched leaf is marked, or has one of the names that are left
    IsMarkedLeaf : Label → Type 0
    IsMarkedLeaf y = is_leaf y.kind ≡ true → touched y.name ≡ true → (mark y.name || left y.name) ≡ true

    top_marked : (t : Trees Label) → EachLabel IsMarkedLeaf t → has_leaf_by touched t ≡ true → (has_mark marks t || has_leaf_by left t) ≡ true
    unfolding marks IsMarkedLeaf
    top_marked leafless q e = absurd (true≢false (sym e))
    top_marked (tree x below after) q e =
        by_or _ _ e
        (λ own. let two = and_parts (is_leaf x.kind) _ own in by_or (mark x.name) (left x.name) (q.0 two.0 two.1) (λ m. or_left _ _ (or_left (mark x.name) _ m)) (λ l. or_right _ _ (or_left _ _ (and_from (is_leaf x.kind) (left x.name) two.0 l))))
        (λ rest.
        by_or (has_mark marks after) (has_leaf_by left after) (top_marked after q.1.1 rest) (λ m. or_left _ _ (or_right (mark x.name) _ (or_right (has_mark marks below) _ m)))
        (λ l. or_right (mark x.name || (has_mark marks below || has_mark marks after)) _ (or_right (is_leaf x.kind && left x.name) _ l)))

    passes_up : (felt : Bool) (t : Trees Label) → EachLabel IsMarkedLeaf t → ((n : Word) → is_reached (λ (x : Label). bytes_eq x.name n) marks is_subgrid_node grid felt t ≡ true → touched n ≡ true) → ((n : Word) → test n ≡ true → touched n ≡ true)
        → Ups left test t → PassesUp touched t
    unfolding marks
    passes_up felt leafless q r k u = tt
    passes_up felt (tree x below after) q r k u = (
      (λ has.
          by_or (has_mark marks below) (has_leaf_by left below) (top_marked below q.1.0 has)
          (λ m. r x.name (or_left _ _ (and_from (bytes_eq x.name x.name) _ (own_name x.name) (or_right (mark x.name) _ (or_left (has_mark marks below) _ m)))))
          (λ l. k x.name (u.0 l))),
      (
        passes_up ((grid && mark x.name) || (felt && is_subgrid_node x)) below q.1.0 (λ n e. r n (or_right (bytes_eq x.name n && (mark x.name || (has_mark marks below || (felt && is_subgrid_node x)))) _ (or_left _ _ e))) k u.1.0,
        passes_up felt after q.1.1
            (λ n e. r n (or_right (bytes_eq x.name n && (mark x.name || (has_mark marks below || (felt && is_subgrid_node x)))) _ (or_right (is_reached (λ (y : Label). bytes_eq y.name n) marks is_subgrid_node grid ((grid && mark x.name) || (felt && is_subgrid_node x)) below) _ e))) k u.1.1,
      ),
    )

-- ---- of one name there is one kind

-- whether the node of this name is a leaf
leaf_of : Word → Trees Label → Bool
leaf_of n leafless = false
leaf_of n (tree x below after) = if bytes_eq x.name n then is_leaf x.kind else (if holds below n then leaf_of n below else leaf_of n after)

abbrev IsLike : Word → Bool → Label → Type 0
IsLike n b x = bytes_eq x.name n ≡ true → is_leaf x.kind ≡ b

none_named : (n : Word) (b : Bool) (t : Trees Label) → holds t n ≡ false → EachLabel (IsLike n b) t
none_named n b leafless h = tt
none_named n b (tree x below after) h = at (bytes_eq x.name n) refl h (none_named n b below) (none_named n b after)
  where
    rest : (c d : Bool) → (c || d) ≡ false → (c ≡ false) × (d ≡ false)
    rest true d e = absurd (true≢false e)
    rest false d e = (refl, e)

    at : (c : Bool) → bytes_eq x.name n ≡ c → (c || (holds below n || holds after n)) ≡ false → (holds below n ≡ false → EachLabel (IsLike n b) below) → (holds after n ≡ false → EachLabel (IsLike n b) after) → EachLabel (IsLike n b) (tree x below after)
    at true e f p q = absurd (true≢false f)
    at false e f p q = let two = rest (holds below n) (holds after n) f in ((λ g. absurd (true≢false (sym g ∙ e))), (p two.0, q two.1))

one_kind : (n : Word) (t : Trees Label) → IsDistinct t → EachLabel (IsLike n (leaf_of n t)) t
unfolding leaf_of
one_kind n leafless d = tt
one_kind n (tree x below after) d = at (bytes_eq x.name n) (holds below n) refl refl (one_kind n below d.1.1.1.0) (one_kind n after d.1.1.1.1)
  where
    at : (b c : Bool) → bytes_eq x.name n ≡ b → holds below n ≡ c → EachLabel (IsLike n (leaf_of n below)) below → EachLabel (IsLike n (leaf_of n after)) after → EachLabel (IsLike n (if b then is_leaf x.kind else (if c then leaf_of n below else leaf_of n after))) (tree x below after)
    at true c e f p q =
        let is : x.name ≡ n = same_name x.name n e in
        ((λ g. refl), (none_named n (is_leaf x.kind) below (ap (holds below) (sym is) ∙ d.0), none_named n (is_leaf x.kind) after (ap (holds after) (sym is) ∙ d.1.0)))
    at false true e f p q = ((λ g. absurd (true≢false (sym g ∙ e))), (p, none_named n (leaf_of n below) after (d.1.1.0 n f)))
    at false false e f p q = ((λ g. absurd (true≢false (sym g ∙ e))), (none_named n (leaf_of n after) below f, q))

-- ---- a change leaves the kinds of other nodes

module _ (P : Label → Type 0) where
  each_replaced : (name : Word) (change : Label → Trees Label → Trees Label) → ((x : Label) (below : Trees Label) → bytes_eq x.name name ≡ true → P x → EachLabel P below → EachLabel P (change x below))
      → (t : Trees Label) → EachLabel P t → EachLabel P (replaced name change t)
  each_replaced name change h leafless p = tt
  each_replaced name change h (tree x below after) p = by_name (bytes_eq x.name name) refl (each_replaced name change h below p.1.0) (each_replaced name change h after p.1.1)
    where
      by_name : (b : Bool) → bytes_eq x.name name ≡ b → EachLabel P (replaced name change below) → EachLabel P (replaced name change after)
          → EachLabel P (if b then joined (change x below) after else tree x (replaced name change below) (replaced name change after))
      by_name true e q r = each_joined P (change x below) after (h x below e p.0 p.1.0) p.1.1
      by_name false e q r = (p.0, (q, r))

  each_put : (index : ℕ) (new t : Trees Label) → EachLabel P new → EachLabel P t → EachLabel P (put_at index new t)
  each_put index new leafless n p = n
  each_put zero new (tree x below after) n p = each_joined P new (tree x below after) n p
  each_put (suc index) new (tree x below after) n p = (p.0, (p.1.0, each_put index new after n p.1.1))

  each_at : (name : Word) (t : Trees Label) → EachLabel P t → EachLabel P (tree_at name t)
  each_at name leafless p = tt
  each_at name (tree x below after) p = by_name (bytes_eq x.name name) (each_at name below p.1.0) (each_at name after p.1.1)
    where
      by_name : (b : Bool) → EachLabel P (tree_at name below) → EachLabel P (tree_at name after) → EachLabel P (if b then tree x below leafless else joined (tree_at name below) (tree_at name after))
      by_name true q r = (p.0, (p.1.0, tt))
      by_name false q r = each_joined P (tree_at name below) (tree_at name after) q r

  each_relabelled : (name : Word) (change : Label → Label) → ((x : Label) → bytes_eq x.name name ≡ true → P x → P (change x)) → (t : Trees Label) → EachLabel P t → EachLabel P (relabelled name change t)
  each_relabelled name change h t p = each_replaced name (relabel change) (λ x below e q r. (h x e q, (r, tt))) t p

  each_grafted : (name : Word) (index : ℕ) (new t : Trees Label) → EachLabel P new → EachLabel P t → EachLabel P (grafted name index new t)
  each_grafted name index new t n p = each_replaced name (graft index new) (λ x below e q r. (q, (each_put index new below n r, tt))) t p

  each_removed : (name : Word) (t : Trees Label) → EachLabel P t → EachLabel P (removed name t)
  each_removed name t p = each_replaced name nothing (λ x below e q r. tt) t p

  each_root : (doc : Doc) (size : ℤ × ℤ) (t : Trees Label) → EachLabel P (tree_of doc) → EachLabel P t → EachLabel P (tree_of (with_root doc size t))
  each_root doc size leafless p q = p
  each_root doc size (tree x below after) p q = (q.0, (q.1.0, tt))

-- the first part of what is not marked
first_not : (a b : Bool) → (a || b) ≡ false → a ≡ false
first_not true b e = absurd (true≢false e)
first_not false b e = refl

second_not : (a b : Bool) → (a || b) ≡ false → b ≡ false
second_not true b e = absurd (true≢false e)
second_not false b e = e

-- two names that a third one cannot both be
other_name : {A : Type 0} (x n name : Word) → bytes_eq n name ≡ false → bytes_eq x n ≡ true → bytes_eq x name ≡ true → A
other_name x n name h e f = absurd (true≢false (sym (ap (λ w. bytes_eq w name) (sym (same_name x n e)) ∙ f) ∙ h))

kinds_kept : (n : Word) (b : Bool) (c : Change) (t : Trees Label) → is_marked c t n ≡ false → EachLabel (IsLike n b) t → EachLabel (IsLike n b) (turned_trees c t)
kinds_kept n b (change.Style name values) t m p = each_relabelled (IsLike n b) name (with_style values) (λ x e q. q) t p
kinds_kept n b (change.Take name) t m p = each_removed (IsLike n b) name t p
kinds_kept n b (change.Bring parent index node) t m p =
    each_grafted (IsLike n b) parent index (tree_of_node node) t (none_named n b (tree_of_node node) (second_not (bytes_eq n parent) _ m)) p
kinds_kept n b (change.Shift name parent index) t m p =
    each_grafted (IsLike n b) parent index (tree_at name t) (removed name t) (each_at (IsLike n b) name t p) (each_removed (IsLike n b) name t p)
kinds_kept n b (change.Kind name new) t m p =
    each_relabelled (IsLike n b) name (with_kind new) (λ x e q. λ f. other_name x.name n name (first_not (bytes_eq n name) _ m) f e) t p
kinds_kept n b (change.View width height) t m p = p

-- ---- facts of each label

each_family : {I : Type 0} (P : I → Label → Type 0) (t : Trees Label) → ((i : I) → EachLabel (P i) t) → EachLabel (λ x. (i : I) → P i x) t
each_family P leafless h = tt
each_family P (tree x below after) h = ((λ i. (h i).0), (each_family P below (λ i. (h i).1.0), each_family P after (λ i. (h i).1.1)))

each_both : (P Q : Label → Type 0) (t : Trees Label) → EachLabel P t → EachLabel Q t → EachLabel (λ x. P x × Q x) t
each_both P Q leafless p q = tt
each_both P Q (tree x below after) p q = ((p.0, q.0), (each_both P Q below p.1.0 q.1.0, each_both P Q after p.1.1 q.1.1))

is_applied : (doc made : Doc) (e : Edit) → edited e doc ≡ Ok made → made ≡ applied e doc
is_applied doc made e h = by_refusal (first_refusal (refusals doc e)) h
  where
    by_refusal : (o : Option Fault) → ◌≡◌ {A = Result Doc Fault} (elim o [ Some fault ↦ Err fault | None ↦ Ok (applied e doc) ]) (Ok made) → made ≡ applied e doc
    by_refusal (Some fault) g = absurd (ok-not-err made fault g)
    by_refusal None g = sym (same-ok (applied e doc) made g)

-- ---- the law

module _ (c : Change) (old : Doc) (before : IsShaped old.version (tree_of old)) (after : IsShaped (turned c old).version (tree_of (turned c old))) where
  abbrev new : Doc
  new = turned c old

  abbrev mark : Word → Bool
  mark = is_marked c (tree_of old)

  abbrev Unmarked : Type 0
  Unmarked = (n : Word) × (mark n ≡ false)

  abbrev Before : Unmarked → Label → Type 0
  Before i x = IsLike i.0 (leaf_of i.0 (tree_of old)) x

  abbrev Now : Word → Label → Type 0
  Now n x = IsLike n (leaf_of n (tree_of new)) x

  stood : EachLabel (λ x. (i : Unmarked) → Before i x) (tree_of new)
  stood =
      each_family Before (tree_of new)
      (λ i. each_root (Before i) old (turned_size c (old.width, old.height)) (turned_trees c (tree_of old)) (one_kind i.0 (tree_of old) before.distinct)
      (kinds_kept i.0 (leaf_of i.0 (tree_of old)) c (tree_of old) i.1 (one_kind i.0 (tree_of old) before.distinct)))

  stands : EachLabel (λ x. (n : Word) → Now n x) (tree_of new)
  stands = each_family Now (tree_of new) (λ n. one_kind n (tree_of new) after.distinct)

  marked_leaf : (y : Label) → ((i : Unmarked) → Before i y) × ((n : Word) → Now n y) → is_leaf y.kind ≡ true → touches c old new y.name ≡ true → mark y.name ≡ true
  unfolding marks LeafNamed
  marked_leaf y facts leaf touched =
      by_or (reaches c (tree_of old) (tree_of old) y.name) (reaches c (tree_of old) (tree_of new) y.name) touched (in_old (mark y.name) refl) in_new
    where
      all_leaves : (b : Bool) (t : Trees Label) → EachLabel (IsLike y.name b) t → b ≡ true → EachLabel (LeafNamed mark (is_felt c (tree_of old)) y.name) t
      all_leaves b t p q = each_weaker (IsLike y.name b) (λ (x : Label). bytes_eq x.name y.name ≡ true → is_leaf x.kind ≡ true) t (λ x g f. g f ∙ q) p

      in_new : reaches c (tree_of old) (tree_of new) y.name ≡ true → mark y.name ≡ true
      in_new r =
          leaf_marked mark (is_felt c (tree_of old)) y.name false (tree_of new) after.containers
          (all_leaves (leaf_of y.name (tree_of new)) (tree_of new) (one_kind y.name (tree_of new) after.distinct) (sym (facts.1 y.name (own_name y.name)) ∙ leaf)) r

      in_old : (b : Bool) → mark y.name ≡ b → reaches c (tree_of old) (tree_of old) y.name ≡ true → mark y.name ≡ true
      in_old true m r = m
      in_old false m r =
          leaf_marked mark (is_felt c (tree_of old)) y.name false (tree_of old) before.containers
          (all_leaves (leaf_of y.name (tree_of old)) (tree_of old) (one_kind y.name (tree_of old) before.distinct) (sym (facts.0 (y.name, m) (own_name y.name)) ∙ leaf)) r

  -- ---- with other names

  module _ (test : Word → Bool) (up : PassesUp test (tree_of old)) where
    abbrev left : Word → Bool
    left n = not (mark n) && test n

    abbrev joint : Word → Bool
    joint n = test n || touches c old new n

    not_left : (n : Word) → mark n ≡ true → left n ≡ false
    not_left n m = ap (λ b. not b && test n) m

    marked_or_left : (y : Label) → ((i : Unmarked) → Before i y) × ((n : Word) → Now n y) → IsMarkedLeaf mark (is_felt c (tree_of old)) joint left test y
    unfolding IsMarkedLeaf
    marked_or_left y facts leaf touched = by_mark (mark y.name) refl
      where
        by_mark : (b : Bool) → mark y.name ≡ b → (b || (not b && test y.name)) ≡ true
        by_mark true m = refl
        by_mark false m = by_or (test y.name) _ touched (λ e. e) (λ e. absurd (true≢false (sym (marked_leaf y facts leaf e) ∙ m)))

    pub touched_with : PassesUp joint (tree_of new)
    unfolding marks IsMarkedLeaf
    touched_with =
        passes_up mark (is_felt c (tree_of old)) joint left test false (tree_of new)
        (each_weaker _ _ (tree_of new) marked_or_left (each_both _ _ (tree_of new) stood stands))
        (λ n r. or_right (test n) _ (or_right (reaches c (tree_of old) (tree_of old) n) _ r))
        (λ n e. or_left _ _ e)
        (ups_root left test old (turned_size c (old.width, old.height)) (turned_trees c (tree_of old)) (ups_old (tree_of old) up) (ups_turned left test c (tree_of old) not_left (ups_old (tree_of old) up)))
      where
        weaker : (s : Trees Label) → has_leaf_by left s ≡ true → has_leaf_by test s ≡ true
        weaker leafless e = e
        weaker (tree x below after) e =
            by_or _ _ e
            (λ own. let two = and_parts (is_leaf x.kind) _ own in or_left _ _ (and_from (is_leaf x.kind) (test x.name) two.0 (and_parts (not (mark x.name)) _ two.1).1))
            (λ rest. or_right (is_leaf x.kind && test x.name) _ (weaker after rest))

        ups_old : (s : Trees Label) → PassesUp test s → Ups left test s
        ups_old leafless p = tt
        ups_old (tree x below after) p = ((λ e. p.0 (weaker below e)), (ups_old below p.1.0, ups_old after p.1.1))

  pub touched_up : PassesUp (touches c old new) (tree_of new)
  touched_up = touched_with (λ n. false) (none_up (tree_of old))
    where
      no_leaf : (s : Trees Label) → has_leaf_by (λ n. false) s ≡ false
      no_leaf leafless = refl
      no_leaf (tree x below after) = at (is_leaf x.kind) (no_leaf after)
        where
          at : (b : Bool) → has_leaf_by (λ n. false) after ≡ false → ((b && false) || has_leaf_by (λ n. false) after) ≡ false
          at true e = e
          at false e = e

      none_up : (s : Trees Label) → PassesUp (λ n. false) s
      none_up leafless = tt
      none_up (tree x below after) = ((λ e. absurd (true≢false (sym e ∙ no_leaf below))), (none_up below, none_up after))

-- what an edit touches passes up: with a leaf that it touches its parent is touched
pub edit_touched_up : (e : Edit) (old new : Doc) → IsShaped old.version (tree_of old) → NamesItsNode e → edited e old ≡ Ok new → PassesUp (is_touched e old new) (tree_of new)
edit_touched_up e old new before names made =
    let is : turned (forward_of e) old ≡ new = forward_is e old ∙ sym (is_applied old new e made) in
    subst (λ (d : Doc). PassesUp (is_touched e old d) (tree_of d)) is
    (touched_up (forward_of e) old before (subst (λ (d : Doc). IsShaped d.version (tree_of d)) (sym is) (edited_shaped e old new before names made)))

-- A leaf that a change does not mark stands after it under the parent that it stood under.
use Rattle.std.proofs.Common.{◌≡◌, refl, sym, ap, ◌∙◌, ℕ, ℤ, zero, suc, Bool, true, false, true≢false}
use Rattle.std.specs.Prelude.{◌||◌, ◌&&◌, if◌then◌else◌, ⊤}
use Rattle.std.specs.Str.{bytes_eq}
use Rattle.std.proofs.lemmas.Bool.{or_left, or_right}
use Rattle.plain_tree.specs.Trees.{Trees, joined, leafless, tree}
use Rattle.doc_text.specs.declared.document.Doc.{Doc}
use Rattle.doc_text.specs.Documents.{is_leaf}
use Rattle.doc_text.specs.Edits.{tree_of, with_kind, with_root}
use Rattle.doc_text.specs.Growth.{holds}
use Rattle.doc_text.specs.Label.{Label}
use Rattle.doc_text.specs.Named.{graft, grafted, nothing, put_at, relabel, relabelled, removed, replaced, tree_at}
use Rattle.doc_text.specs.Texts.{Word}
use Rattle.doc_text.proofs.Grown.{own_name, same_name}
use Rattle.edit_journal.specs.declared.change.Change.{Change}
use Rattle.edit_journal.specs.declared.change.Change.TheVariants as change
use Rattle.edit_journal.specs.Changes.{tree_of_node, turned_trees, with_style}
use Rattle.page_tree.specs.Reach.{is_marked}
use Rattle.asked_pages.specs.Leaves.{has_leaf_by}

module _ (left test : Word → Bool) where
  -- with a leaf of the names that are left its parent passes the test
  abbrev pub Ups : Trees Label → Type 0
  Ups leafless = ⊤
  Ups (tree x below after) = (has_leaf_by left below ≡ true → test x.name ≡ true) × (Ups below × Ups after)

  by_or : {P : Type 0} (a b : Bool) → (a || b) ≡ true → (a ≡ true → P) → (b ≡ true → P) → P
  by_or true b e f g = f refl
  by_or false b e f g = g e

  both_false : (a b c : Bool) → b ≡ false → c ≡ false → ((a && b) || c) ≡ false
  both_false true b c e f = ap (λ z. z || c) e ∙ f
  both_false false b c e f = f

  -- ---- trees one after another

  leaf_joined : (s u : Trees Label) → has_leaf_by left (joined s u) ≡ true → (has_leaf_by left s || has_leaf_by left u) ≡ true
  leaf_joined leafless u e = e
  leaf_joined (tree x below after) u e = at (is_leaf x.kind && left x.name) e (leaf_joined after u)
    where
      at : (b : Bool) → (b || has_leaf_by left (joined after u)) ≡ true → (has_leaf_by left (joined after u) ≡ true → (has_leaf_by left after || has_leaf_by left u) ≡ true) → ((b || has_leaf_by left after) || has_leaf_by left u) ≡ true
      at true e f = refl
      at false e f = f e

  ups_joined : (s u : Trees Label) → Ups s → Ups u → Ups (joined s u)
  ups_joined leafless u p q = q
  ups_joined (tree x below after) u p q = (p.0, (p.1.0, ups_joined after u p.1.1 q))

  -- ---- a node in whose place others stand

  module _ (name : Word) (becomes : Label → Trees Label → Trees Label)
      (top : (x : Label) (below : Trees Label) → bytes_eq x.name name ≡ true → has_leaf_by left (becomes x below) ≡ true → (is_leaf x.kind && left x.name) ≡ true)
      (under : (x : Label) (below : Trees Label) → (has_leaf_by left below ≡ true → test x.name ≡ true) → Ups below → Ups (becomes x below)) where
    leaf_replaced : (s : Trees Label) → has_leaf_by left (replaced name becomes s) ≡ true → has_leaf_by left s ≡ true
    leaf_replaced leafless e = e
    leaf_replaced (tree x below after) e = by_name (bytes_eq x.name name) refl e (leaf_replaced after)
      where
        by_name : (b : Bool) → bytes_eq x.name name ≡ b → has_leaf_by left (if b then joined (becomes x below) after else tree x (replaced name becomes below) (replaced name becomes after)) ≡ true
            → (has_leaf_by left (replaced name becomes after) ≡ true → has_leaf_by left after ≡ true) → has_leaf_by left (tree x below after) ≡ true
        by_name true g e f = by_or _ _ (leaf_joined (becomes x below) after e) (λ own. or_left _ _ (top x below g own)) (λ rest. or_right (is_leaf x.kind && left x.name) _ rest)
        by_name false g e f = by_or _ _ e (λ own. or_left _ _ own) (λ rest. or_right (is_leaf x.kind && left x.name) _ (f rest))

    ups_replaced : (s : Trees Label) → Ups s → Ups (replaced name becomes s)
    ups_replaced leafless p = tt
    ups_replaced (tree x below after) p = by_name (bytes_eq x.name name) (ups_replaced below p.1.0) (ups_replaced after p.1.1)
      where
        by_name : (b : Bool) → Ups (replaced name becomes below) → Ups (replaced name becomes after) → Ups (if b then joined (becomes x below) after else tree x (replaced name becomes below) (replaced name becomes after))
        by_name true q r = ups_joined (becomes x below) after (under x below p.0 p.1.0) p.1.1
        by_name false q r = ((λ e. p.0 (leaf_replaced below e)), (q, r))

  -- ---- each way to change

  first_of : (b : Bool) → (b || false) ≡ true → b ≡ true
  first_of true e = refl
  first_of false e = e

  not_named : (name n : Word) → left name ≡ false → bytes_eq n name ≡ true → left n ≡ false
  not_named name n h e = ap left (same_name n name e) ∙ h

  none_there : {A : Type 0} (b c : Bool) → c ≡ false → (b && c) ≡ true → A
  none_there true c e f = absurd (true≢false (sym f ∙ e))
  none_there false c e f = absurd (true≢false (sym f))

  ups_relabelled : (name : Word) (f : Label → Label) → ((x : Label) → (f x).name ≡ x.name) → left name ≡ false → (s : Trees Label) → Ups s → Ups (relabelled name f s)
  ups_relabelled name f same h =
      ups_replaced name (relabel f) (λ x below e own. none_there (is_leaf (f x).kind) (left (f x).name) (ap left (same x) ∙ not_named name x.name h e) (first_of (is_leaf (f x).kind && left (f x).name) own))
      (λ x below own p. ((λ e. ap test (same x) ∙ own e), (p, tt)))

  ups_removed : (name : Word) (s : Trees Label) → Ups s → Ups (removed name s)
  ups_removed name = ups_replaced name nothing (λ x below e own. absurd (true≢false (sym own))) (λ x below own p. tt)

  leaf_put : (index : ℕ) (new s : Trees Label) → has_leaf_by left new ≡ false → has_leaf_by left (put_at index new s) ≡ true → has_leaf_by left s ≡ true
  leaf_put index new leafless none e = absurd (true≢false (sym e ∙ none))
  leaf_put zero new (tree x below after) none e = by_or _ _ (leaf_joined new (tree x below after) e) (λ own. absurd (true≢false (sym own ∙ none))) (λ rest. rest)
  leaf_put (suc index) new (tree x below after) none e = by_or _ _ e (λ own. or_left _ _ own) (λ rest. or_right (is_leaf x.kind && left x.name) _ (leaf_put index new after none rest))

  ups_put : (index : ℕ) (new s : Trees Label) → Ups new → Ups s → Ups (put_at index new s)
  ups_put index new leafless n p = n
  ups_put zero new (tree x below after) n p = ups_joined new (tree x below after) n p
  ups_put (suc index) new (tree x below after) n p = (p.0, (p.1.0, ups_put index new after n p.1.1))

  ups_grafted : (parent : Word) (index : ℕ) (new : Trees Label) → has_leaf_by left new ≡ false → Ups new → (s : Trees Label) → Ups s → Ups (grafted parent index new s)
  ups_grafted parent index new none n =
      ups_replaced parent (graft index new) (λ x below e own. first_of (is_leaf x.kind && left x.name) own) (λ x below own p. ((λ e. own (leaf_put index new below none e)), (ups_put index new below n p, tt)))

  no_leaf : (s : Trees Label) → ((n : Word) → holds s n ≡ true → left n ≡ false) → has_leaf_by left s ≡ false
  no_leaf leafless h = refl
  no_leaf (tree x below after) h = both_false (is_leaf x.kind) (left x.name) _ (h x.name (or_left _ _ (own_name x.name))) (no_leaf after (λ n e. h n (or_right (bytes_eq x.name n) _ (or_right (holds below n) _ e))))

  no_ups : (s : Trees Label) → ((n : Word) → holds s n ≡ true → left n ≡ false) → Ups s
  no_ups leafless h = tt
  no_ups (tree x below after) h =
      let under : (n : Word) → holds below n ≡ true → left n ≡ false = λ n e. h n (or_right (bytes_eq x.name n) _ (or_left _ _ e)) in
      ((λ e. absurd (true≢false (sym e ∙ no_leaf below under))), (no_ups below under, no_ups after (λ n e. h n (or_right (bytes_eq x.name n) _ (or_right (holds below n) _ e)))))

  leaf_at : (name : Word) → left name ≡ false → (s : Trees Label) → has_leaf_by left (tree_at name s) ≡ false
  leaf_at name h leafless = refl
  leaf_at name h (tree x below after) = by_name (bytes_eq x.name name) refl (leaf_at name h below) (leaf_at name h after)
    where
      none_joined : (s u : Trees Label) → has_leaf_by left s ≡ false → has_leaf_by left u ≡ false → has_leaf_by left (joined s u) ≡ false
      none_joined leafless u e f = f
      none_joined (tree y low rest) u e f = at (is_leaf y.kind && left y.name) e (λ g. none_joined rest u g f)
        where
          at : (b : Bool) → (b || has_leaf_by left rest) ≡ false → (has_leaf_by left rest ≡ false → has_leaf_by left (joined rest u) ≡ false) → (b || has_leaf_by left (joined rest u)) ≡ false
          at true g k = absurd (true≢false g)
          at false g k = k g

      by_name : (b : Bool) → bytes_eq x.name name ≡ b → has_leaf_by left (tree_at name below) ≡ false → has_leaf_by left (tree_at name after) ≡ false
          → has_leaf_by left (if b then tree x below leafless else joined (tree_at name below) (tree_at name after)) ≡ false
      by_name true e f g = both_false (is_leaf x.kind) (left x.name) false (not_named name x.name h e) refl
      by_name false e f g = none_joined (tree_at name below) (tree_at name after) f g

  ups_at : (name : Word) (s : Trees Label) → Ups s → Ups (tree_at name s)
  ups_at name leafless p = tt
  ups_at name (tree x below after) p = by_name (bytes_eq x.name name) (ups_at name below p.1.0) (ups_at name after p.1.1)
    where
      by_name : (b : Bool) → Ups (tree_at name below) → Ups (tree_at name after) → Ups (if b then tree x below leafless else joined (tree_at name below) (tree_at name after))
      by_name true q r = (p.0, (p.1.0, tt))
      by_name false q r = ups_joined (tree_at name below) (tree_at name after) q r

  pub ups_root : (doc : Doc) (size : ℤ × ℤ) (s : Trees Label) → Ups (tree_of doc) → Ups s → Ups (tree_of (with_root doc size s))
  ups_root doc size leafless p q = p
  ups_root doc size (tree x below after) p q = (q.0, (q.1.0, tt))

  -- ---- a change of which no marked name is left

  pub ups_turned : (c : Change) (s : Trees Label) → ((n : Word) → is_marked c s n ≡ true → left n ≡ false) → Ups s → Ups (turned_trees c s)
  ups_turned (change.Style name values) s h = ups_relabelled name (with_style values) (λ x. refl) (h name (or_left _ _ (own_name name))) s
  ups_turned (change.Take name) s h = ups_removed name s
  ups_turned (change.Bring parent index node) s h =
      let brought : (n : Word) → holds (tree_of_node node) n ≡ true → left n ≡ false = λ n e. h n (or_right (bytes_eq n parent) _ e) in
      ups_grafted parent index (tree_of_node node) (no_leaf (tree_of_node node) brought) (no_ups (tree_of_node node) brought) s
  ups_turned (change.Shift name parent index) s h =
      λ p. ups_grafted parent index (tree_at name s) (leaf_at name (h name (or_left _ _ (own_name name))) s) (ups_at name s p) (removed name s) (ups_removed name s p)
  ups_turned (change.Kind name kind) s h = ups_relabelled name (with_kind kind) (λ x. refl) (h name (or_left _ _ (own_name name))) s
  ups_turned (change.View width height) s h = λ p. p

-- What an edit that is not refused asks of a document holds, and so does what a change asks of one that is valid after it.
use Rattle.std.proofs.Common.{◌≡◌, ℕ, zero, suc, Bool, true, false, cond, ◌||◌, None, Ok, refl, sym, ap, subst, ◌∙◌}
use Rattle.std.specs.Str.{bytes_eq}
use Rattle.std.proofs.lemmas.Bool.{or_left, or_parts, or_right}
use Rattle.plain_tree.specs.Trees.{Trees, leafless, tree, joined}
use Rattle.doc_text.specs.declared.document.Doc.{Doc}
use Rattle.doc_text.specs.declared.edit.Edit.{Edit}
use Rattle.doc_text.specs.declared.edit.Edit.TheVariants as edit
use Rattle.doc_text.specs.Edits.{edited, first_refusal, refusals, tree_of, with_root}
use Rattle.doc_text.specs.Growth.{holds}
use Rattle.doc_text.specs.Label.{Label}
use Rattle.doc_text.specs.Laws.{IsChange, NamesItsNode, NoneComes}
use Rattle.doc_text.specs.Named.{IsDistinct, grafted, put_at}
use Rattle.doc_text.specs.Texts.{Word}
use Rattle.doc_text.specs.View.{label_of}
use Rattle.doc_text.proofs.Grown.{differ, not_both, not_true, or_join, same_name}
use Rattle.doc_text.proofs.Kept.{none_comes, not_there}
use Rattle.doc_text.proofs.Opening.{holds-joined}
use Rattle.edit_journal.specs.declared.change.Change.{Change}
use Rattle.edit_journal.specs.declared.change.Change.TheVariants as change
use Rattle.edit_journal.specs.Changes.{CanTurn, IsFound, IsSound, tree_of_node}
use Rattle.edit_journal.specs.Steps.{forward_of, step_for}
use Rattle.edit_journal.proofs.Stepping.{forward_found, step_leads}
use Rattle.page_tree.specs.Fits.{AreNamedAnew, BringsNew, Fits, FitsBothWays}

-- ---- names of trees that stand under a node
joined_held : (new t : Trees Label) (m : Word) → holds new m ≡ true → holds (joined new t) m ≡ true
joined_held new t m h = holds-joined new t m ∙ or_left _ _ h

put_held : (i : ℕ) (new t : Trees Label) (m : Word) → holds new m ≡ true → holds (put_at i new t) m ≡ true
put_held i new leafless m h = h
put_held zero new (tree x below after) m h = joined_held new (tree x below after) m h
put_held (suc i) new (tree x below after) m h = or_right (bytes_eq x.name m) _ (or_right (holds below m) _ (put_held i new after m h))

put_kept : (i : ℕ) (new t : Trees Label) (m : Word) → holds t m ≡ true → holds (put_at i new t) m ≡ true
put_kept i new leafless m h = absurd (not_both false h refl)
put_kept zero new (tree x below after) m h = holds-joined new (tree x below after) m ∙ or_right _ _ h
put_kept (suc i) new (tree x below after) m h = or_third (bytes_eq x.name m) (holds below m) h (put_kept i new after m)
  where
    or_third : (a b : Bool) → (a || (b || holds after m)) ≡ true → (holds after m ≡ true → holds (put_at i new after) m ≡ true) → (a || (b || holds (put_at i new after) m)) ≡ true
    or_third true b e f = refl
    or_third false true e f = refl
    or_third false false e f = f e

-- the second of two trees whose names differ has no name of the first
apart_from : (new t : Trees Label) (m : Word) → IsDistinct (joined new t) → holds new m ≡ true → holds t m ≡ false
apart_from leafless t m d h = absurd (not_both false h refl)
apart_from (tree x below after) t m d h = not_true (holds t m) (λ e. at (bytes_eq x.name m) (holds below m) refl refl h (holds-joined after t m ∙ or_right _ _ e) (λ g. not_both (holds t m) e (apart_from after t m d.1.1.1.1 g)))
  where
    at : (a b : Bool) → bytes_eq x.name m ≡ a → holds below m ≡ b → (a || (b || holds after m)) ≡ true → holds (joined after t) m ≡ true → (holds after m ≡ true → ⊥) → ⊥
    at true b e f g there rest = not_both (bytes_eq x.name m) e (differ (joined after t) x.name m d.1.0 there)
    at false true e f g there rest = not_both (holds (joined after t) m) there (d.1.1.0 m f)
    at false false e f g there rest = rest g

distinct_left : (new t : Trees Label) → IsDistinct (joined new t) → IsDistinct new
distinct_left leafless t d = tt
distinct_left (tree x below after) t d = (
  d.0,
  (
    (or_parts (holds after x.name) (holds t x.name) (sym (holds-joined after t x.name) ∙ d.1.0)).0,
    ((λ m h. (or_parts (holds after m) (holds t m) (sym (holds-joined after t m) ∙ d.1.1.0 m h)).0), (d.1.1.1.0, distinct_left after t d.1.1.1.1)),
  ),
)

put_anew : (i : ℕ) (new t : Trees Label) → IsDistinct (put_at i new t) → AreNamedAnew new t
put_anew i new leafless d = record { distinct = d; new = λ m h. refl }
put_anew zero new (tree x below after) d = record { distinct = distinct_left new (tree x below after) d; new = λ m h. apart_from new (tree x below after) m d h }
put_anew (suc i) new (tree x below after) d =
    let rest = put_anew i new after d.1.1.1.1 in
    record {
      distinct = rest.distinct;
      new = λ m h.
          let there = put_held i new after m h in
          or_join (bytes_eq x.name m) (holds below m) (holds after m) (differ (put_at i new after) x.name m d.1.0 there) (not_true (holds below m) (λ e. not_both (holds (put_at i new after) m) there (d.1.1.0 m e))) (rest.new m h);
    }

module _ (parent : Word) (i : ℕ) (new : Trees Label) where
  graft_kept : (t : Trees Label) (m : Word) → holds t m ≡ true → holds (grafted parent i new t) m ≡ true
  graft_kept leafless m h = h
  graft_kept (tree x below after) m h = by_name (bytes_eq x.name parent) (graft_kept below m) (graft_kept after m)
    where
      three : (a b c p q : Bool) → (a || (b || c)) ≡ true → (b ≡ true → p ≡ true) → (c ≡ true → q ≡ true) → (a || (p || q)) ≡ true
      three true b c p q h f g = refl
      three false true c p q h f g = or_left p q (f refl)
      three false false c p q h f g = or_right p q (g h)

      by_name : (e : Bool) → (holds below m ≡ true → holds (grafted parent i new below) m ≡ true) → (holds after m ≡ true → holds (grafted parent i new after) m ≡ true) →
          holds (cond e (tree x (put_at i new below) after) (tree x (grafted parent i new below) (grafted parent i new after))) m ≡ true
      by_name true b a = three (bytes_eq x.name m) (holds below m) (holds after m) (holds (put_at i new below) m) (holds after m) h (put_kept i new below m) (λ e. e)
      by_name false b a = three (bytes_eq x.name m) (holds below m) (holds after m) (holds (grafted parent i new below) m) (holds (grafted parent i new after) m) h b a

  graft_held : (t : Trees Label) (m : Word) → holds new m ≡ true → holds t parent ≡ true → holds (grafted parent i new t) m ≡ true
  graft_held leafless m h k = absurd (not_both false k refl)
  graft_held (tree x below after) m h k = by_name (bytes_eq x.name parent) k (graft_held below m h) (graft_held after m h)
    where
      by_part : (b : Bool) → holds below parent ≡ b → (b || holds after parent) ≡ true → (holds below parent ≡ true → holds (grafted parent i new below) m ≡ true) → (holds after parent ≡ true → holds (grafted parent i new after) m ≡ true) →
          holds (tree x (grafted parent i new below) (grafted parent i new after)) m ≡ true
      by_part true e k b a = or_right (bytes_eq x.name m) _ (or_left _ _ (b e))
      by_part false e k b a = or_right (bytes_eq x.name m) _ (or_right (holds (grafted parent i new below) m) _ (a k))

      by_name : (e : Bool) → (e || (holds below parent || holds after parent)) ≡ true → (holds below parent ≡ true → holds (grafted parent i new below) m ≡ true) → (holds after parent ≡ true → holds (grafted parent i new after) m ≡ true) →
          holds (cond e (tree x (put_at i new below) after) (tree x (grafted parent i new below) (grafted parent i new after))) m ≡ true
      by_name true k b a = or_right (bytes_eq x.name m) _ (or_left _ _ (put_held i new below m h))
      by_name false k b a = by_part (holds below parent) refl k b a

  -- trees that stand under a node of trees whose names differ
  pub graft_anew : (t : Trees Label) → holds t parent ≡ true → IsDistinct (grafted parent i new t) → AreNamedAnew new t
  graft_anew leafless k d = absurd (not_both false k refl)
  graft_anew (tree x below after) k d = by_name (bytes_eq x.name parent) k d (graft_anew below) (graft_anew after)
    where
      under : IsDistinct (tree x (put_at i new below) after) → AreNamedAnew new (tree x below after)
      under d =
          let rest = put_anew i new below d.1.1.1.0 in
          record {
            distinct = rest.distinct;
            new = λ m h. let there = put_held i new below m h in or_join (bytes_eq x.name m) (holds below m) (holds after m) (differ (put_at i new below) x.name m d.0 there) (rest.new m h) (d.1.1.0 m there);
          }

      in_below : holds below parent ≡ true → IsDistinct (tree x (grafted parent i new below) (grafted parent i new after)) → (holds below parent ≡ true → IsDistinct (grafted parent i new below) → AreNamedAnew new below) → AreNamedAnew new (tree x below after)
      in_below g d b =
          let rest = b g d.1.1.1.0 in
          record {
            distinct = rest.distinct;
            new = λ m h.
                let there = graft_held below m h g in
                or_join (bytes_eq x.name m) (holds below m) (holds after m) (differ (grafted parent i new below) x.name m d.0 there) (rest.new m h)
                (not_true (holds after m) (λ e. not_both (holds (grafted parent i new after) m) (graft_kept after m e) (d.1.1.0 m there)));
          }

      in_after : holds after parent ≡ true → IsDistinct (tree x (grafted parent i new below) (grafted parent i new after)) → (holds after parent ≡ true → IsDistinct (grafted parent i new after) → AreNamedAnew new after) → AreNamedAnew new (tree x below after)
      in_after g d a =
          let rest = a g d.1.1.1.1 in
          record {
            distinct = rest.distinct;
            new = λ m h.
                let there = graft_held after m h g in
                or_join (bytes_eq x.name m) (holds below m) (holds after m) (differ (grafted parent i new after) x.name m d.1.0 there)
                (not_true (holds below m) (λ e. not_both (holds (grafted parent i new after) m) there (d.1.1.0 m (graft_kept below m e)))) (rest.new m h);
          }

      by_part : (b : Bool) → holds below parent ≡ b → (b || holds after parent) ≡ true → IsDistinct (tree x (grafted parent i new below) (grafted parent i new after)) →
          (holds below parent ≡ true → IsDistinct (grafted parent i new below) → AreNamedAnew new below) → (holds after parent ≡ true → IsDistinct (grafted parent i new after) → AreNamedAnew new after) → AreNamedAnew new (tree x below after)
      by_part true e k d b a = in_below e d b
      by_part false e k d b a = in_after k d a

      by_name : (e : Bool) → (e || (holds below parent || holds after parent)) ≡ true → IsDistinct (cond e (tree x (put_at i new below) after) (tree x (grafted parent i new below) (grafted parent i new after))) →
          (holds below parent ≡ true → IsDistinct (grafted parent i new below) → AreNamedAnew new below) → (holds after parent ≡ true → IsDistinct (grafted parent i new after) → AreNamedAnew new after) → AreNamedAnew new (tree x below after)
      by_name true k d b a = under d
      by_name false k d b a = by_part (holds below parent) refl k d b a

-- the tree of a document that keeps its root
rooted : (doc : Doc) (parent : Word) (i : ℕ) (new : Trees Label) → tree_of (with_root doc (doc.width, doc.height) (grafted parent i new (tree_of doc))) ≡ grafted parent i new (tree_of doc)
rooted doc parent i new = at (bytes_eq doc.root.name parent)
  where
    at : (e : Bool) →
        tree_of (with_root doc (doc.width, doc.height) (cond e (tree (label_of doc.root) (put_at i new doc.root.children) leafless) (tree (label_of doc.root) (grafted parent i new doc.root.children) leafless)))
        ≡ cond e (tree (label_of doc.root) (put_at i new doc.root.children) leafless) (tree (label_of doc.root) (grafted parent i new doc.root.children) leafless)
    at true = refl
    at false = refl

-- a change that can be applied fits
pub turning_fits : (c : Change) (doc : Doc) → CanTurn c doc → Fits c doc
turning_fits c doc can = record { found = can.found; new = at c can }
  where
    at : (c : Change) → CanTurn c doc → BringsNew c doc
    at (change.Style name values) can = tt
    at (change.Take name) can = tt
    at (change.Bring parent index node) can =
        graft_anew parent index (tree_of_node node) (tree_of doc) can.found.there (subst IsDistinct (rooted doc parent index (tree_of_node node)) can.sound.distinct)
    at (change.Shift name parent index) can = tt
    at (change.Kind name kind) can = tt
    at (change.View width height) can = tt

-- a step of an edit that a valid document accepts fits it, and its return the edited document
pub step_fits : (e : Edit) (doc made : Doc) → IsSound doc → IsChange e → NamesItsNode e → edited e doc ≡ Ok made → FitsBothWays (step_for doc e) doc made
step_fits e doc made s c n h =
    let leads = step_leads e doc made s c n h in
    record { forth = turning_fits (step_for doc e).forward doc leads.goes; back = turning_fits (step_for doc e).back made leads.returns }

-- ---- an edit that is not refused
pub accepted_found : (e : Edit) (doc : Doc) → IsChange e → first_refusal (refusals doc e) ≡ None → IsFound (forward_of e) doc
accepted_found e doc c h = forward_found e doc c (none_comes (refusals doc e) h)

pub accepted_new : (e : Edit) (doc : Doc) → IsChange e → NamesItsNode e → first_refusal (refusals doc e) ≡ None → BringsNew (forward_of e) doc
accepted_new e doc c names h = by e c names (none_comes (refusals doc e) h)
  where
    by : (e : Edit) → IsChange e → NamesItsNode e → NoneComes (refusals doc e) → BringsNew (forward_of e) doc
    by (edit.Set named settings) c names n = tt
    by (edit.Unset named props) c names n = tt
    by (edit.Insert parent index at named node) c names n =
        record {
          distinct = (refl, (refl, ((λ m h. refl), (tt, tt))));
          new = λ m h. ap (holds (tree_of doc)) (sym (same_name node.name m (alone_name (bytes_eq node.name m) h)) ∙ names) ∙ not_there (holds (tree_of doc) named.name) named.at n.1.1.1.1.0;
        }
      where
        alone_name : (b : Bool) → (b || (false || false)) ≡ true → b ≡ true
        alone_name true e = refl
        alone_name false e = e
    by (edit.Remove named) c names n = tt
    by (edit.Move named parent index at) c names n = tt
    by (edit.Content named kind) c names n = tt
    by (edit.Viewport width height) c names n = tt
    by (edit.Undo times at) c names n = absurd c
    by (edit.Redo times at) c names n = absurd c
    by (edit.Hit x y) c names n = absurd c

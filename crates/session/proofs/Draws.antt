-- What the drawn edits touch.
use Rattle.std.proofs.Common.{◌≡◌, refl, sym, ap, subst, ◌∙◌, ℕ, zero, suc, ◌+◌, ◌-◌, ◌<◌, ◌≤◌, Bool, List, Option, arith}
use Rattle.std.proofs.lemmas.Bool.{eq-eqb, ne_eqb}
use Rattle.std.specs.Prelude.{if◌then◌else◌}
use Rattle.outside.specs.declared.event.Event.{Event}
use Rattle.doc_text.specs.declared.document.Doc.{Doc}
use Rattle.doc_text.specs.declared.edit.Edit.{Edit}
use Rattle.doc_text.specs.Edits.{applied, tree_of}
use Rattle.page_maker.specs.Making.{made_document, last_state}
use Rattle.page_maker.specs.Scripts.{edit_from}
use Rattle.page_tree.specs.Pages.{Held, document_of}
use Rattle.page_tree.specs.Reach.{KeepsOthers, is_touched}
use Rattle.asked_pages.specs.Leaves.{IsEmptied, PassesUp}
use Rattle.sparing.specs.Sparing.{Touches}
use Rattle.session.specs.Made.{AgreesDraw, AgreeDraws, touched_by_draw, touched_drawn, touched_made}
use Rattle.session.specs.Replies.{is_new}
use Rattle.session.specs.Engine.{KeepsUntouched}
use Rattle.session.specs.Spares.{SparesDue, SparesPage}
use Rattle.session.proofs.Replies.{emptied_by}
use Rattle.session.proofs.Spares.{spares_due_by}

-- ---- all of them

drawn_agree : (touches : Touches) (count k nodes : ℕ) (doc : Doc) (x : ℕ) → ((n : ℕ) (name : List ℕ) → k ≤ n → touches n name ≡ touched_drawn count k nodes doc x n name) → AgreeDraws touches count k nodes doc x
unfolding touched_drawn AgreeDraws
drawn_agree touches zero k nodes doc x h = tt
drawn_agree touches (suc count) k nodes doc x h =
    let next = applied (edit_from nodes x).0 doc in
    let state = (edit_from nodes x).1 in (
      λ name. h k name (omega arith) ∙ ap (λ (b : Bool). if b then touched_by_draw nodes doc x name else touched_drawn count (k + 1) nodes next state k name) (eq-eqb k k refl),
      drawn_agree touches count (k + 1) nodes next state
          (λ n name l. h n name (omega (arith, l)) ∙ ap (λ (b : Bool). if b then touched_by_draw nodes doc x name else touched_drawn count (k + 1) nodes next state n name) (ne_eqb n k (λ e. absurd (omega (arith, l, e))))),
    )

pub made_agree : (seed nodes : ℕ) (doc : Doc) (x : ℕ) → doc ≡ made_document seed nodes → x ≡ last_state seed nodes → AgreeDraws (touched_made seed nodes) 8 1 nodes doc x
unfolding touched_made
made_agree seed nodes doc x d s =
    subst (λ (y : ℕ). AgreeDraws (touched_made seed nodes) 8 1 nodes doc y) (sym s)
    (subst (λ (e : Doc). AgreeDraws (touched_made seed nodes) 8 1 nodes e (last_state seed nodes)) (sym d)
    (drawn_agree (touched_made seed nodes) 8 1 nodes (made_document seed nodes) (last_state seed nodes) (λ n name l. refl)))

-- ---- one after another

module _ (touches : Touches) (k nodes : ℕ) (doc : Doc) (x : ℕ) (few : k < 9) (p : AgreeDraws touches (9 - k) k nodes doc x) where
  in_two : AgreesDraw touches k nodes doc x × AgreeDraws touches (9 - (k + 1)) (k + 1) nodes (applied (edit_from nodes x).0 doc) (edit_from nodes x).1
  unfolding AgreeDraws
  in_two =
      let count : 9 - k ≡ suc (9 - (k + 1)) = omega (arith, few) in
      subst (λ (n : ℕ). AgreeDraws touches n k nodes doc x) count p

  pub first_agrees : AgreesDraw touches k nodes doc x
  first_agrees = in_two.0

  pub later_agree : (edited now : Doc) (y : ℕ) → edited ≡ applied (edit_from nodes x).0 doc → now ≡ edited → y ≡ (edit_from nodes x).1 → AgreeDraws touches (9 - (k + 1)) (k + 1) nodes now y
  later_agree edited now y d n s =
      subst (λ (z : ℕ). AgreeDraws touches (9 - (k + 1)) (k + 1) nodes now z) (sym s)
      (subst (λ (e : Doc). AgreeDraws touches (9 - (k + 1)) (k + 1) nodes e (edit_from nodes x).1) (sym (n ∙ d)) in_two.1)

-- ---- what is kept after one

same_touched : (nodes x : ℕ) (e : Edit) (doc new : Doc) → e ≡ (edit_from nodes x).0 → new ≡ applied e doc → (λ (name : List ℕ). is_touched e doc new name) ≡ touched_by_draw nodes doc x
unfolding touched_by_draw
same_touched nodes x e doc new is n =
    (λ i. λ (name : List ℕ). is_touched e doc (n i) name) ∙ (λ i. λ (name : List ℕ). is_touched (is i) doc (applied (is i) doc) name)

module _ (touches : Touches) (k nodes x : ℕ) (e : Edit) (old new : Held) (is : e ≡ (edit_from nodes x).0) (agrees : AgreesDraw touches k nodes (document_of old) x) (made : document_of new ≡ applied e (document_of old)) (kept : KeepsOthers e old new) where
  untouched : KeepsUntouched (touched_by_draw nodes (document_of old) x) old new
  untouched = subst (λ (f : List ℕ → Bool). KeepsUntouched f old new) (same_touched nodes x e (document_of old) (document_of new) is made) kept

  pub due_after : (before log : Option (List Event)) → SparesPage touches before log old → SparesDue touches before log k new
  due_after before log p = spares_due_by touches before log k old new (touched_by_draw nodes (document_of old) x) p agrees untouched

  pub emptied_after : 1 ≤ k → PassesUp (is_touched e (document_of old) (document_of new)) (tree_of (document_of new)) → IsEmptied (is_new touches k) new
  emptied_after later up =
      emptied_by touches k old new (touched_by_draw nodes (document_of old) x) later agrees untouched
      (subst (λ (f : List ℕ → Bool). PassesUp f (tree_of (document_of new))) (same_touched nodes x e (document_of old) (document_of new) is made) up)

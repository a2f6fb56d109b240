-- What layouts tell, keep and take, one after another, until none of a whole is left.
use Rattle.std.proofs.Common.{◌≡◌, sym, ap, subst, ◌∙◌, refl, ℕ, ◌+◌, false, List, [], ◌∷◌, ◌++◌, Option, None, Ok, append_assoc, append-nil, length-append, arith}
use Rattle.outside.proofs.Laws.{stays_same}
use Rattle.outside.specs.declared.event.Event.{Event}
use Rattle.doc_text.specs.declared.document.Doc.{Doc}
use Rattle.page_tree.specs.Pages.{Held, document_of}
use Rattle.asked_pages.specs.Leaves.{IsEmptied}
use Rattle.sparing.specs.Sparing.{Touches}
use Rattle.session.specs.Boxes.{boxes_of}
use Rattle.session.specs.Laying.{Walks}
use Rattle.session.specs.Made.{TellsAllBut, TellsLayouts}
use Rattle.session.specs.Printing.{Box, counts, print}
use Rattle.session.specs.Replies.{is_new}
use Rattle.session.proofs.Logs.{Made}
use Rattle.session.proofs.Replies.{laid_reply, replies_more, replies_none, reply_written}

module _ (touches : Touches) where
  -- one layout
  pub laid_tells : (l l' : Option (List Event)) (k : ℕ) (old new : Held) (measured added p p' : ℕ) (boxes : List Box) → Walks k old new l l' measured added p p' → boxes ≡ boxes_of (document_of old) → IsEmptied (is_new touches k) old
      → TellsLayouts touches l l' p p' k (Ok (document_of old) ∷ [])
  laid_tells l l' k old new measured added p p' boxes w b empty =
      let text : List ℕ = print k boxes ++ counts false measured added in
      reply_written false touches l l' p p' k (Ok (document_of old)) text (laid_reply false touches l l' k old new measured added p p' boxes (print k boxes) text w b refl refl empty) None None tt

  module _ (a b : Option (List Event)) (p q first next : ℕ) where
    pub tells_start : (whole : List Made) → TellsAllBut touches a a p p first first whole whole
    tells_start whole =
        record { done = []; parts = refl; number = omega arith; told = replies_none false touches None None a a p p first (stays_same {A = ℕ} None) (stays_same a) refl }

    -- none is left
    pub tells_end : (rest whole : List Made) → TellsAllBut touches a b p q first next rest whole → rest ≡ [] → TellsLayouts touches a b p q first whole
    tells_end rest whole t e = subst (λ (made : List Made). TellsLayouts touches a b p q first made) (sym (append-nil t.done) ∙ ap (λ (l : List Made). t.done ++ l) (sym e) ∙ t.parts) t.told

  -- one layout more
  pub tells_next : (a b c : Option (List Event)) (p q r first next : ℕ) (doc : Doc) (rest whole left : List Made) → TellsAllBut touches a b p q first next left whole → left ≡ Ok doc ∷ rest → TellsLayouts touches b c q r next (Ok doc ∷ [])
      → TellsAllBut touches a c p r first (next + 1) rest whole
  tells_next a b c p q r first next doc rest whole left t e u =
      record {
        done = t.done ++ Ok doc ∷ [];
        parts = append_assoc t.done (Ok doc ∷ []) rest ∙ ap (λ (l : List Made). t.done ++ l) (sym e) ∙ t.parts;
        number = omega (arith, t.number, length-append t.done (Ok doc ∷ []));
        told = replies_more false touches None None None a b c p q r first t.done (Ok doc ∷ []) t.told (subst (λ (n : ℕ). TellsLayouts touches b c q r n (Ok doc ∷ [])) (sym t.number) u);
      }

  -- the first layout, and those after it
  pub tells_after : (a b c : Option (List Event)) (p q r : ℕ) (doc : Doc) (rest whole : List Made) → TellsLayouts touches a b p q 0 (Ok doc ∷ []) → whole ≡ Ok doc ∷ rest → TellsLayouts touches b c q r 1 rest → TellsLayouts touches a c p r 0 whole
  tells_after a b c p q r doc rest whole t e u = subst (λ (made : List Made). TellsLayouts touches a c p r 0 made) (sym e) (replies_more false touches None None None a b c p q r 0 (Ok doc ∷ []) rest t u)

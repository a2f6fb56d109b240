-- Answers, one after another.
use Rattle.std.proofs.Common.{◌≡◌, refl, ap, sym, subst, ◌∙◌, ℕ, Bool, List, [], ◌∷◌, Option, Result, Ok, Err}
use Rattle.std.specs.Prelude.{IfOk, IfErr, OnOk, OnErr}
use Rattle.text_scan.specs.declared.line.Fault.{Fault}
use Rattle.outside.specs.Told.{Adds, AddsPrefix}
use Rattle.outside.specs.declared.event.Event.{Event}
use Rattle.outside.proofs.Laws.{adds_none}
use Rattle.doc_text.specs.declared.document.Doc.{Doc}
use Rattle.session.specs.Printing.{refusal}
use Rattle.session.specs.Logs.{LogsFront}
use Rattle.session.specs.Runs.{StopsWriting}
use Rattle.session.specs.Script.{or_refused, said_line, text_of}
use Rattle.session.specs.FaultNames.{fault_name}
use Rattle.session.specs.Serving.{Answers, AnswersPrefix, EndsFirst, Begins}
use Rattle.session.specs.Written.{Prints}
use Rattle.session.specs.Standing.{Standing, doc_of}
use Rattle.session.specs.declared.said.Said.{Said}
use Rattle.session.specs.declared.said.Said.TheVariants as saying
use Rattle.session.specs.declared.status.Status.{Status}
use Rattle.session.specs.declared.status.Status.TheVariants.{Done, BadDocument, SomeRefused, ReadFault, WriteFault, NoMemory, InputLimit, TooLong, BadWords}
use Rattle.session.proofs.Logs.{Made}
use Rattle.session.proofs.Written.{front_none, text_all, text_part, text_none}

-- ---- the first layout

module _ (stats : Bool) where
  module _ (w w' : Option (List ℕ)) (l l' : Option (List Event)) (k : ℕ) (doc laid : Doc) (same : laid ≡ doc) (text : List ℕ) (p : Prints stats l l' k (Ok laid) text) where
    pub laid_first : Adds w w' text → Answers stats w w' l l' k (Ok doc)
    laid_first q = subst (λ (d : Doc). Answers stats w w' l l' k (Ok d)) same (text_all stats w w' l l' k (Ok laid) text p q)

    pub laid_prefix : AddsPrefix w w' text → AnswersPrefix stats w w' l l' k (Ok doc)
    laid_prefix q = subst (λ (d : Doc). AnswersPrefix stats w w' l l' k (Ok d)) same (text_part stats w w' l l' k (Ok laid) text p q)

  -- a layout of the document stopped
  pub laid_not : (w : Option (List ℕ)) (l l' : Option (List Event)) (k : ℕ) (doc laid : Doc) → laid ≡ doc → LogsFront l l' k (Ok laid ∷ []) → AnswersPrefix stats w w l l' k (Ok doc)
  laid_not w l l' k doc laid s q = subst (λ (d : Doc). AnswersPrefix stats w w l l' k (Ok d)) s (text_none stats w l l' k (Ok laid) q)

  pub nothing : (w : Option (List ℕ)) (l : Option (List Event)) (k : ℕ) (made : Made) → AnswersPrefix stats w w l l k made
  nothing w l k made = front_none stats w l k (made ∷ [])

  -- ---- the document, or its refusal

  -- the line of what is said
  pub said_prints : (l : Option (List Event)) (k : ℕ) (said : Said) (text : List ℕ) → text ≡ said_line k said → Prints stats l l k (Err said) text
  unfolding text_of
  said_prints l k said text t = record { told = []; log = adds_none l; each = (t, refl) }

  module _ (w w' : Option (List ℕ)) where
    pub document_refused : (fault : Fault) (text : List ℕ) (l : Option (List Event)) → text ≡ refusal 0 fault.place (fault_name fault.number) → Adds w w' text → EndsFirst stats w w' l l (Err fault) BadDocument
    document_refused fault text l t p = (refl, text_all stats w w' l l 0 (Err (saying.Refused fault)) text (said_prints l 0 (saying.Refused fault) text t) p)

    ends_prefix : (l l' : Option (List Event)) (read : Result Doc Fault) (status : Status) → StopsWriting status → AnswersPrefix stats w w' l l' 0 (or_refused read) → EndsFirst stats w w' l l' read status
    ends_prefix l l' read Done s p = absurd s
    ends_prefix l l' read BadDocument s p = absurd s
    ends_prefix l l' read SomeRefused s p = absurd s
    ends_prefix l l' read ReadFault s p = absurd s
    ends_prefix l l' read WriteFault s p = p
    ends_prefix l l' read NoMemory s p = p
    ends_prefix l l' read InputLimit s p = absurd s
    ends_prefix l l' read TooLong s p = absurd s
    ends_prefix l l' read BadWords s p = absurd s

    pub document_refused_prefix : (fault : Fault) (text : List ℕ) (l : Option (List Event)) (status : Status) → text ≡ refusal 0 fault.place (fault_name fault.number)
        → StopsWriting status → AddsPrefix w w' text → EndsFirst stats w w' l l (Err fault) status
    document_refused_prefix fault text l status t s p = ends_prefix l l (Err fault) status s (text_part stats w w' l l 0 (Err (saying.Refused fault)) text (said_prints l 0 (saying.Refused fault) text t) p)

  pub not_refused : (w : Option (List ℕ)) (l : Option (List Event)) (fault : Fault) → EndsFirst stats w w l l (Err fault) NoMemory
  not_refused w l fault = nothing w l 0 (Err (saying.Refused fault))

  module _ (w w' : Option (List ℕ)) (l l' : Option (List Event)) where
    pub begins_laid : (read : Result Doc Fault) (doc : Doc) (r : Result Standing Status) → read ≡ Ok doc → IfOk r (λ engine. doc_of engine ≡ doc) → OnOk r (Answers stats w w' l l' 0 (Ok doc))
        → OnErr r (AnswersPrefix stats w w' l l' 0 (Ok doc)) → IfErr r StopsWriting → Begins stats w w' l l' read r
    begins_laid read doc (Ok engine) f e p q s = (f ∙ ap (λ (d : Doc). Ok d) (sym e), subst (λ (d : Doc). Answers stats w w' l l' 0 (Ok d)) (sym e) p)
    begins_laid read doc (Err status) f e p q s =
        ends_prefix w w' l l' read status s (subst (λ (o : Result Doc Fault). AnswersPrefix stats w w' l l' 0 (or_refused o)) (sym f) q)

  pub begins_refused : (w w' : Option (List ℕ)) (l : Option (List Event)) (read : Result Doc Fault) (fault : Fault) (status : Status) → read ≡ Err fault
      → EndsFirst stats w w' l l (Err fault) status → Begins stats w w' l l read (Err status)
  begins_refused w w' l read fault status f p = subst (λ (o : Result Doc Fault). EndsFirst stats w w' l l o status) (sym f) p

  pub begins_not : (w : Option (List ℕ)) (l : Option (List Event)) (read : Result Doc Fault) → Begins stats w w l l read (Err NoMemory)
  begins_not w l read = nothing w l 0 (or_refused read)

  -- ---- one edit

  module _ (w w' : Option (List ℕ)) (l l' : Option (List Event)) (k : ℕ) (made : Made) (text : List ℕ) (p : Prints stats l l' k made text) where
    pub answered_all : Adds w w' text → Answers stats w w' l l' k made
    answered_all q = text_all stats w w' l l' k made text p q

    pub answered_part : AddsPrefix w w' text → AnswersPrefix stats w w' l l' k made
    answered_part q = text_part stats w w' l l' k made text p q

  pub unwritten : (w : Option (List ℕ)) (l l' : Option (List Event)) (k : ℕ) (made : Made) → LogsFront l l' k (made ∷ []) → AnswersPrefix stats w w l l' k made
  unwritten w l l' k made q = text_none stats w l l' k made q

pub ruleset first_laying = (laid_first, laid_prefix, laid_not, nothing)

pub ruleset document_refusing = (document_refused, document_refused_prefix, not_refused)

pub ruleset beginning = (begins_laid, begins_refused, begins_not)

pub ruleset edit_answering = (answered_all, answered_part, unwritten)

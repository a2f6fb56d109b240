-- An engine as contracts see it: the document as it is held, with the answers that its nodes keep, and the steps that led to it.
use Rattle.std.specs.Prelude.{◌≡◌, ℕ, Bool, List, [], ◌∷◌, reverse, refl, ⊤}
use Rattle.std.specs.Coded.{Coded, code_by, coded×, coded_ℕ, coded_bool}
use Rattle.doc_text.specs.declared.document.Doc.{Doc}
use Rattle.doc_text.specs.Histories.{History}
use Rattle.doc_text.specs.Valid.{IsValid}
use Rattle.edit_journal.specs.declared.change.Change.{Change}
use Rattle.edit_journal.specs.declared.change.Step.{Step}
use Rattle.edit_journal.specs.Changes.{turned, CanTurn}
use Rattle.edit_journal.specs.Journals.{Lists}
use Rattle.page_tree.specs.Pages.{Held, held_code, document_of}
use Rattle.box_layout.specs.FoundRoots.{IsRootFrame}
use Rattle.box_layout.specs.LastBoxes.{AreFound, Found}
use Rattle.box_layout.specs.declared.layout.RootFrame.{RootFrame}
use Rattle.placing.specs.Kept.{IsRight, kept_at}
use Rattle.placing.specs.Nodes.{bare}
use Rattle.session.specs.Courses.{Course, Steps, steps_code, history_by, back_of, forward_of}
use Rattle.session.specs.Laying.{KeepsPath}

-- the steps of a journal, whose lists have the last one at the end
abbrev pub steps_of : Lists → Steps
steps_of journal = record { done = reverse journal.done; undone = reverse journal.undone }

-- the held document, how many calls of apply there were, whether the document was laid out since it was made or changed, and the steps that led to it
pub record Standing : Type 0 where
  pub page : Held
  pub calls : ℕ
  pub laid : Bool
  pub steps : Steps

abbrev pub standing_code : Coded Standing
standing_code =
    code_by (Held × (ℕ × (Bool × Steps))) (coded× held_code (coded× coded_ℕ (coded× coded_bool steps_code))) (λ s. (s.page, (s.calls, (s.laid, s.steps))))
    (λ p. record { page = p.0; calls = p.1.0; laid = p.1.1.0; steps = p.1.1.1 }) (λ _. refl)

-- the document that is held
abbrev pub doc_of : Standing → Doc
doc_of s = document_of s.page

-- the history of that document: the documents to which the steps lead back, one after another, and those to which what was taken back leads again
abbrev pub history_of : Standing → History
history_of s = history_by s.steps (doc_of s)

-- the history with the steps
abbrev pub course_of : Standing → Course
course_of s = record { history = history_of s; steps = s.steps }

-- What holds of the frame of the root that is held where the document was laid out: it is that of the root in the viewport, and the containers keep the
-- questions for their frames that the boxes of the document give them.
pub record IsLaidBy (page : Held) (root : RootFrame) : Type 0 where
  pub frame : IsRootFrame (bare page.nodes.tree) page.width page.height root
  pub path : KeepsPath page page

-- the document is valid, and every answer that a node keeps is right
pub record IsSound (page : Held) : Type 0 where
  pub valid : IsValid (document_of page)
  pub right : IsRight page.nodes.tree

-- one change leads on from a document, to a valid one, and another leads back
pub record LeadsOn (ahead behind : Change) (doc : Doc) : Type 0 where
  pub goes : CanTurn ahead doc
  pub valid : IsValid (turned ahead doc)
  pub returns : CanTurn behind (turned ahead doc)
  pub back : turned behind (turned ahead doc) ≡ doc

-- the changes of steps lead on from a document, one after another
abbrev pub LeadAlong : (ahead behind : Step → Change) → List Step → Doc → Type 0
LeadAlong ahead behind [] doc = ⊤
LeadAlong ahead behind (step ∷ steps) doc = LeadsOn (ahead step) (behind step) doc × LeadAlong ahead behind steps (turned (ahead step) doc)

-- the steps led to this document
pub record HaveLed (steps : Steps) (doc : Doc) : Type 0 where
  pub past : LeadAlong back_of forward_of steps.done doc
  pub future : LeadAlong forward_of back_of steps.undone doc

-- what always holds of a held document, of the boxes of its containers that were found last, and of the steps that led to it
pub record IsWell (page : Held) (last : List Found) (steps : Steps) : Type 0 where
  pub sound : IsSound page
  pub found : AreFound (bare page.nodes.tree) (kept_at page.nodes.tree) last
  pub led : HaveLed steps (document_of page)

-- An engine keeps its document valid and its kept answers right.
use Rattle.std.proofs.Common.{◌≡◌, sym, subst, arith, ◌<◌, List, [], Contains, Option, Some, None, Result, Ok, Err, IfOk, IfSome, true}
use Rattle.std.proofs.lemmas.Bool.{false≢true}
use Rattle.doc_text.specs.declared.document.Doc.{Doc}
use Rattle.std.specs.Prelude.{is_some, reverse}
use Rattle.box_layout.specs.declared.layout.RootFrame.{RootFrame}
use Rattle.session.specs.Laying.{KeepsPath}
use Rattle.doc_text.specs.Valid.{IsValid}
use Rattle.edit_journal.specs.Journals.{Lists}
use Rattle.page_tree.specs.Pages.{Held, document_of}
use Rattle.box_layout.specs.LastBoxes.{AreFound, Found}
use Rattle.tree_rules.specs.declared.query.Query.{Query}
use Rattle.node_arena.specs.declared.number.NodeId.{NodeId}
use Rattle.placing.specs.declared.node.Answer.{Answer}
use Rattle.placing.specs.Kept.{IsRight, kept_at}
use Rattle.placing.specs.Nodes.{BareTrees, bare}
use Rattle.session.specs.Courses.{Steps, no_steps}
use Rattle.session.specs.Standing.{HaveLed, IsLaidBy, IsSound, IsWell, steps_of}

pub sound_first : (doc : Doc) (page : Held) → document_of page ≡ doc → IsRight page.nodes.tree → IsValid doc → IsSound page
sound_first doc page e r v = record { valid = subst IsValid (sym e) v; right = r }

-- where no boxes are kept, all are right
pub none_found : (b : BareTrees) (kept : NodeId → List (Query × Answer)) (all : List Found) → all ≡ [] → AreFound b kept all
none_found b kept all e f c live =
    let none : Contains [] f = subst (λ (l : List Found). Contains l f) e c in
    let few : none.0 < 0 = none.1 in
    absurd (omega arith)

-- without steps none led
no_steps_led : (steps : Steps) (doc : Doc) → steps ≡ no_steps → HaveLed steps doc
no_steps_led steps doc e = subst (λ (s : Steps). HaveLed s doc) (sym e) (record { past = tt; future = tt })

pub new_steps : (journal : Lists) → journal.done ≡ [] → journal.undone ≡ [] → steps_of journal ≡ no_steps
new_steps journal done undone = λ i. record { done = reverse (done i); undone = reverse (undone i) }

pub well_first : (doc : Doc) (page : Held) (all : List Found) (journal : Lists) → document_of page ≡ doc → IsRight page.nodes.tree → IsValid doc → all ≡ [] → journal.done ≡ [] → journal.undone ≡ [] → IsWell page all (steps_of journal)
well_first doc page all journal e r v a done undone =
    record {
      sound = sound_first doc page e r v;
      found = none_found (bare page.nodes.tree) (kept_at page.nodes.tree) all a;
      led = no_steps_led (steps_of journal) (document_of page) (new_steps journal done undone);
    }

-- what is written out of a valid document is valid
pub valid_copy : {E : Type 0} (r : Result Doc E) (page : Held) → IsValid (document_of page) → IfOk r (λ doc. doc ≡ document_of page) → IfOk r IsValid
valid_copy (Ok doc) page v e = subst IsValid (sym e) v
valid_copy (Err error) page v e = tt

-- where a page is laid out its containers keep the questions of the path
pub path_laid : (page : Held) (root : Option RootFrame) → IfSome root (IsLaidBy page) → is_some root ≡ true → KeepsPath page page
path_laid page None p e = absurd (false≢true e)
path_laid page (Some root) p e = p.path

pub ruleset beginning = (well_first, new_steps)

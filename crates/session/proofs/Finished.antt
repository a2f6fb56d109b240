-- What follows of all bytes of an input from how a run ended.
use Rattle.std.proofs.Common.{◌≡◌, ◌≢◌, refl, ap, sym, subst, ◌∙◌, ℕ, zero, suc, ◌≤◌, ◌<◌, Bool, true, false, List, [], ◌∷◌, ◌++◌, length, take, length-append, ◌⊎◌, inl, inr, Option, Some, None, Result, Ok, Err, IfSome, arith}
use Rattle.std.proofs.lemmas.Bool.{false≢true}
use Rattle.outside.specs.Told.{Adds, Loses, AddsPrefix}
use Rattle.outside.specs.Faults.{Rose}
use Rattle.outside.specs.declared.event.Event.{Event}
use Rattle.text_scan.specs.declared.line.Line.{Line}
use Rattle.text_scan.specs.Lines.{lines_of, whole_lines}
use Rattle.text_scan.specs.declared.line.Fault.{Fault}
use Rattle.doc_text.specs.declared.document.Doc.{Doc}
use Rattle.doc_text.specs.Histories.{begins}
use Rattle.session.specs.Boxes.{boxes_of}
use Rattle.session.specs.Input.{limit, IsReadToEnd, IsFront}
use Rattle.session.specs.Printing.{print}
use Rattle.session.specs.Script.{has_end, before_end, after_end, document_of_lines, made_in, made_from, all_made, text_of, texts, has_fault, or_refused}
use Rattle.session.specs.Outcome.{answer_of, document_in, out, verdict, early_lines, IsEarlyFault}
use Rattle.session.specs.Runs.{IsSilent, WritesAll, WritesPrefix, Stands, IsWhole, IsEnded, EndsAll, EndsBad, EndsEarly, Judged, Runs, HasRun, Permits, PermitsOver, IsComplete, IsOverComplete, IsHeadline, HasOutput}
use Rattle.session.specs.declared.status.Status.{Status}
use Rattle.session.specs.declared.status.Status.TheVariants.{Done, BadDocument, SomeRefused, ReadFault, WriteFault, NoMemory, InputLimit, TooLong, BadWords}
use Rattle.session.proofs.Due.{prefix_due}
use Rattle.session.proofs.Logs.{Made}
use Rattle.session.proofs.Scripts.{MadeMore, has_more, before_more, after_more, made_more}
use Rattle.session.proofs.Written.{front_all, front_stays, front_longer, plain_all, plain_front}
use Rattle.session.specs.Written.{Writes, WritesFront}
use Rattle.session.specs.Writing.{read_of}

-- ---- the first lines of an input and all of them

-- what more lines make comes behind
from_more : (form : Result Doc Fault) (script rest : List Line) → (more : List Made) × (made_from form (script ++ rest) ≡ made_from form script ++ more)
from_more (Err fault) script rest = ([], refl)
from_more (Ok doc) script rest = some_more (made_more (begins doc) script rest)
  where
    some_more : MadeMore (begins doc) script rest → (more : List Made) × (Ok doc ∷ made_in (begins doc) (script ++ rest) ≡ (Ok doc ∷ made_in (begins doc) script) ++ more)
    some_more m = (m.0, ap (λ (l : List Made). Ok doc ∷ l) m.1)

pub all_more : (given rest : List Line) → has_end given ≡ true → (more : List Made) × (all_made (given ++ rest) ≡ all_made given ++ more)
all_more given rest e = with_more (from_more (document_of_lines (before_end given)) (after_end given) rest)
  where
    with_more : (more : List Made) × (made_from (document_of_lines (before_end given)) (after_end given ++ rest) ≡ all_made given ++ more) → (more : List Made) × (all_made (given ++ rest) ≡ all_made given ++ more)
    with_more m =
        (m.0, ap (λ (l : List Line). made_from (document_of_lines l) (after_end (given ++ rest))) (before_more given rest e) ∙ ap (made_from (document_of_lines (before_end given))) (after_more given rest e) ∙ m.1)

prefix_front : (stats : Bool) (w w' : Option (List ℕ)) (l l' : Option (List Event)) (given all : List Line) → has_end given ≡ true → IsFront given all → WritesPrefix stats w w' l l' given → WritesPrefix stats w w' l l' all
prefix_front stats w w' l l' given all e f p = with_more (all_more given f.rest e)
  where
    with_more : (more : List Made) × (all_made (given ++ f.rest) ≡ all_made given ++ more) → WritesPrefix stats w w' l l' all
    with_more m = subst (λ (made : List Made). WritesFront stats w w' l l' 0 made) (sym m.1 ∙ ap all_made f.parts) (front_longer stats w w' l l' 0 (all_made given) m.0 p)

pub same_front : (given all : List Line) → has_end given ≡ true → IsFront given all → read_of all ≡ read_of given
same_front given all e f = ap read_of (sym f.parts) ∙ ap document_of_lines (before_more given f.rest e)

bad_made : (given : List Line) → has_fault (read_of given) ≡ true → all_made given ≡ or_refused (read_of given) ∷ []
bad_made given n = bad_from (read_of given) n
  where
    bad_from : (made : Result Doc Fault) → has_fault made ≡ true → made_from made (after_end given) ≡ or_refused made ∷ []
    bad_from (Ok doc) n = absurd (false≢true n)
    bad_from (Err fault) n = refl

bad_answer : (made : Result Doc Fault) (script : List Line) → has_fault made ≡ true → BadDocument ≡ answer_of made script
bad_answer (Ok doc) script n = absurd (false≢true n)
bad_answer (Err fault) script n = refl

take_short : (n : ℕ) (xs ys : List ℕ) → n ≤ length xs → take n (xs ++ ys) ≡ take n xs
take_short zero xs ys h = refl
take_short (suc n) [] ys h = absurd (omega (arith, h))
take_short (suc n) (x ∷ xs) ys h =
    let shorter : n ≤ length xs = omega (arith, h) in
    ap (λ (l : List ℕ). x ∷ l) (take_short n xs ys shorter)

-- ---- all bytes of an input

pub told_is : (told taken : List ℕ) (left' : Option (List ℕ)) → IsReadToEnd (Some told) left' taken → taken ≡ told
told_is told taken None p = absurd p
told_is told taken (Some rest) p = sym p.0

pub long_is : (told taken : List ℕ) (left' : Option (List ℕ)) → Loses (Some told) left' taken → length taken ≤ length told
long_is told taken None p = absurd p
long_is told taken (Some rest) p = omega (arith, ap (λ (l : List ℕ). length l) p, length-append taken rest)

pub early_is : (told taken : List ℕ) (left' : Option (List ℕ)) → Loses (Some told) left' taken → limit < length taken → early_lines taken ≡ early_lines told
early_is told taken None p many = absurd p
early_is told taken (Some rest) p many =
    let enough : limit ≤ length taken = omega (arith, many) in
    ap (λ (l : List ℕ). lines_of (whole_lines l)) (sym (ap (take limit) p ∙ take_short limit taken rest enough))

module _ (stats : Bool) (told : List ℕ) (left' w w' : Option (List ℕ)) (l l' : Option (List Event)) where
  lines_are : (taken : List ℕ) (given : List Line) → IsWhole (Some told) left' taken given → given ≡ lines_of told
  lines_are taken given p = p.lines ∙ ap lines_of (told_is told taken left' p.whole)

  not_whole : {A : Type 0} (taken : List ℕ) (given : List Line) → IsWhole (Some told) left' taken given → limit < length told → A
  not_whole taken given p many = absurd (omega (arith, ap (λ (x : List ℕ). length x) (told_is told taken left' p.whole), p.few, many))

  all_out : (taken : List ℕ) (given : List Line) → IsWhole (Some told) left' taken given → WritesAll stats w w' l l' given → WritesAll stats w w' l l' (lines_of told)
  all_out taken given i a = subst (λ (x : List Line). WritesAll stats w w' l l' x) (lines_are taken given i) a

  same_read : (taken : List ℕ) (given : List Line) → IsFront given (lines_of told) → EndsBad stats (Some told) left' w w' l l' taken given → read_of (lines_of told) ≡ read_of given
  same_read taken given f p = by_input p.input
    where
      by_input : IsEnded (Some told) left' taken given → read_of (lines_of told) ≡ read_of given
      by_input (inl e) = same_front given (lines_of told) e.0 f
      by_input (inr i) = ap read_of (sym (lines_are taken given i))

  bad_is : (taken : List ℕ) (given : List Line) → IsFront given (lines_of told) → EndsBad stats (Some told) left' w w' l l' taken given → has_fault (read_of (lines_of told)) ≡ true
  bad_is taken given f p = ap has_fault (same_read taken given f p) ∙ p.answer

  bad_out : (taken : List ℕ) (given : List Line) → IsFront given (lines_of told) → EndsBad stats (Some told) left' w w' l l' taken given → WritesAll stats w w' l l' (lines_of told)
  bad_out taken given f p =
      subst (λ (m : List Made). Writes stats w w' l l' 0 m) (bad_made given p.answer ∙ ap (λ (m : Result Doc Fault). or_refused m ∷ []) (sym (same_read taken given f p)) ∙ sym (bad_made (lines_of told) (bad_is taken given f p))) p.output

  all_front : WritesAll stats w w' l l' (lines_of told) → WritesPrefix stats w w' l l' (lines_of told)
  all_front p = front_all stats w w' l l' 0 (all_made (lines_of told)) p

  part_out : (taken : List ℕ) (given : List Line) → IsFront given (lines_of told) → EndsEarly stats (Some told) left' w w' l l' taken given → WritesPrefix stats w w' l l' (lines_of told)
  part_out taken given f p = by_input p.input
    where
      by_input : (has_end given ≡ true) ⊎ IsWhole (Some told) left' taken given → WritesPrefix stats w w' l l' (lines_of told)
      by_input (inl e) = prefix_front stats w w' l l' given (lines_of told) e f p.output
      by_input (inr i) = subst (λ (x : List Line). WritesPrefix stats w w' l l' x) (lines_are taken given i) p.output

  silent_out : IsSilent w w' l l' → WritesPrefix stats w w' l l' (lines_of told)
  silent_out s = front_stays stats w w' l l' 0 (all_made (lines_of told)) s.written s.log

  stands_out : (given : List Line) → IsFront given (lines_of told) → Stands stats w w' l l' given → WritesPrefix stats w w' l l' (lines_of told)
  stands_out given f (inl s) = silent_out s.1
  stands_out given f (inr s) = prefix_front stats w w' l l' given (lines_of told) s.0 f (front_all stats w w' l l' 0 (all_made given) s.2)

  prefix_told : (status : Status) (taken : List ℕ) (given : List Line) → IsFront given (lines_of told) → Judged stats (Some told) left' w w' l l' taken given status → WritesPrefix stats w w' l l' (lines_of told)
  prefix_told Done taken given f p = all_front (all_out taken given p.input p.output)
  prefix_told BadDocument taken given f p = all_front (bad_out taken given f p)
  prefix_told SomeRefused taken given f p = all_front (all_out taken given p.input p.output)
  prefix_told ReadFault taken given f p = stands_out given f p.2
  prefix_told WriteFault taken given f (inl p) = prefix_front stats w w' l l' given (lines_of told) p.ended f (prefix_due stats w w' l l' p.earlier given p.output)
  prefix_told WriteFault taken given f (inr p) = subst (λ (x : List Line). WritesPrefix stats w w' l l' x) (lines_are taken given p.input) p.output
  prefix_told NoMemory taken given f (inl p) = silent_out p
  prefix_told NoMemory taken given f (inr p) = part_out taken given f p
  prefix_told InputLimit taken given f p = stands_out given f p.2
  prefix_told TooLong taken given f p = absurd p
  prefix_told BadWords taken given f p = absurd p

  all_verdict : (status : Status) (taken : List ℕ) (given : List Line) → EndsAll stats (Some told) left' w w' l l' taken given status → (status ≡ verdict told) × WritesAll stats w w' l l' (lines_of told)
  all_verdict status taken given p =
      (sym p.answer ∙ ap (λ (x : List Line). answer_of (document_of_lines (before_end x)) (after_end x)) (lines_are taken given p.input), all_out taken given p.input p.output)

  bad_verdict : (taken : List ℕ) (given : List Line) → IsFront given (lines_of told) → EndsBad stats (Some told) left' w w' l l' taken given → (BadDocument ≡ verdict told) × WritesAll stats w w' l l' (lines_of told)
  bad_verdict taken given f p = (bad_answer (read_of (lines_of told)) (after_end (lines_of told)) (bad_is taken given f p), bad_out taken given f p)

  permitted : (status : Status) (taken : List ℕ) (given : List Line) → Loses (Some told) left' taken → IsFront given (lines_of told) → length told ≤ limit → Judged stats (Some told) left' w w' l l' taken given status
      → Permits (WritesAll stats w w' l l' (lines_of told)) told status
  permitted Done taken given t f few p = all_verdict Done taken given p
  permitted BadDocument taken given t f few p = bad_verdict taken given f p
  permitted SomeRefused taken given t f few p = all_verdict SomeRefused taken given p
  permitted ReadFault taken given t f few p = tt
  permitted WriteFault taken given t f few p = tt
  permitted NoMemory taken given t f few p = tt
  permitted InputLimit taken given t f few p = absurd (omega (arith, long_is told taken left' t, p.0, few))
  permitted TooLong taken given t f few p = absurd p
  permitted BadWords taken given t f few p = absurd p

  early_fault : (taken : List ℕ) (given : List Line) → limit < length told → EndsBad stats (Some told) left' w w' l l' taken given → IsEarlyFault (early_lines told)
  early_fault taken given many p = by_input p.input
    where
      with_front : has_end given ≡ true → IsFront given (early_lines told) → IsEarlyFault (early_lines told)
      with_front e f = (ap has_end (sym f.parts) ∙ has_more given f.rest e, ap has_fault (same_front given (early_lines told) e f) ∙ p.answer)

      by_input : IsEnded (Some told) left' taken given → IsEarlyFault (early_lines told)
      by_input (inl e) = with_front e.0 (e.1 many)
      by_input (inr i) = not_whole taken given i many

  no_early_fault : (given : List Line) → given ≡ early_lines told → Stands stats w w' l l' given → ¬ IsEarlyFault (early_lines told)
  no_early_fault given g (inl s) fault = absurd (false≢true (sym s.0 ∙ ap has_end g ∙ fault.0))
  no_early_fault given g (inr s) fault = absurd (false≢true (sym s.1 ∙ ap (λ (x : List Line). has_fault (read_of x)) g ∙ fault.1))

  permitted_over : (status : Status) (taken : List ℕ) (given : List Line) → Loses (Some told) left' taken → IsFront given (lines_of told) → limit < length told → Judged stats (Some told) left' w w' l l' taken given status
      → PermitsOver (WritesAll stats w w' l l' (lines_of told)) told status
  permitted_over Done taken given t f many p = not_whole taken given p.input many
  permitted_over BadDocument taken given t f many p = (early_fault taken given many p, bad_out taken given f p)
  permitted_over SomeRefused taken given t f many p = not_whole taken given p.input many
  permitted_over ReadFault taken given t f many p = tt
  permitted_over WriteFault taken given t f many p = tt
  permitted_over NoMemory taken given t f many p = tt
  permitted_over InputLimit taken given t f many p =
      let long : limit < length taken = omega (arith, p.0) in
      no_early_fault given (p.1 ∙ early_is told taken left' t long) p.2
  permitted_over TooLong taken given t f many p = absurd p
  permitted_over BadWords taken given t f many p = absurd p

-- ---- all that is known

module _ (stats : Bool) (left' w w' : Option (List ℕ)) (l l' : Option (List Event)) (status : Status) where
  prefix_of_out : (left : Option (List ℕ)) → Runs stats left left' w w' l l' status → IfSome left (λ b. WritesPrefix stats w w' l l' (lines_of b))
  prefix_of_out None p = tt
  prefix_of_out (Some told) p = prefix_told stats told left' w w' l l' status p.taken p.given p.first p.judged

  all_permitted : (left : Option (List ℕ)) → Runs stats left left' w w' l l' status → IfSome left (λ b. length b ≤ limit → Permits (WritesAll stats w w' l l' (lines_of b)) b status)
  all_permitted None p = tt
  all_permitted (Some told) p = λ few. permitted stats told left' w w' l l' status p.taken p.given p.took p.first few p.judged

  over_permitted : (left : Option (List ℕ)) → Runs stats left left' w w' l l' status → IfSome left (λ b. limit < length b → PermitsOver (WritesAll stats w w' l l' (lines_of b)) b status)
  over_permitted None p = tt
  over_permitted (Some told) p = λ many. permitted_over stats told left' w w' l l' status p.taken p.given p.took p.first many p.judged

-- where no count rose, the answer is the verdict, or want of memory
complete : (wrote : Type 0) (told : List ℕ) (status : Status) → Permits wrote told status → status ≢ ReadFault → status ≢ WriteFault
    → (status ≡ NoMemory) ⊎ ((status ≡ verdict told) × wrote)
complete wrote told Done p not_read not_write = inr p
complete wrote told BadDocument p not_read not_write = inr p
complete wrote told SomeRefused p not_read not_write = inr p
complete wrote told ReadFault p not_read not_write = absurd (not_read refl)
complete wrote told WriteFault p not_read not_write = absurd (not_write refl)
complete wrote told NoMemory p not_read not_write = inl refl
complete wrote told InputLimit p not_read not_write = inr p
complete wrote told TooLong p not_read not_write = inr p
complete wrote told BadWords p not_read not_write = inr p

all_complete : (left : Option (List ℕ)) (wrote : List ℕ → Type 0) (s s' k k' : ℕ) (status : Status) → IfSome left (λ b. length b ≤ limit → Permits (wrote b) b status)
    → (status ≡ ReadFault → Rose s s') → (status ≡ WriteFault → Rose k k')
    → IsComplete left wrote s s' k k' status
all_complete None wrote s s' k k' status p read write = tt
all_complete (Some told) wrote s s' k k' status p read write = λ few no_read no_write. complete (wrote told) told status (p few) (λ e. no_read (read e)) (λ e. no_write (write e))

pub over_complete : (left : Option (List ℕ)) (wrote : List ℕ → Type 0) (s s' k k' : ℕ) (status : Status) → IfSome left (λ b. limit < length b → PermitsOver (wrote b) b status)
    → (status ≡ ReadFault → Rose s s') → (status ≡ WriteFault → Rose k k')
    → IsOverComplete left s s' k k' status
over_complete None wrote s s' k k' status p read write = tt
over_complete (Some told) wrote s s' k k' status p read write = λ many no_read no_write. by_status status (p many) (λ e. no_read (read e)) (λ e. no_write (write e))
  where
    by_status : (status : Status) → PermitsOver (wrote told) told status → status ≢ ReadFault → status ≢ WriteFault
        → (status ≡ NoMemory) ⊎ (((status ≡ InputLimit) × ¬ IsEarlyFault (early_lines told)) ⊎ ((status ≡ BadDocument) × IsEarlyFault (early_lines told)))
    by_status Done p no_read no_write = absurd p
    by_status BadDocument p no_read no_write = inr (inr (refl, p.0))
    by_status SomeRefused p no_read no_write = absurd p
    by_status ReadFault p no_read no_write = absurd (no_read refl)
    by_status WriteFault p no_read no_write = absurd (no_write refl)
    by_status NoMemory p no_read no_write = inl refl
    by_status InputLimit p no_read no_write = inr (inl (refl, p))
    by_status TooLong p no_read no_write = absurd p
    by_status BadWords p no_read no_write = absurd p

pub has_run : (stats : Bool) (left left' w w' : Option (List ℕ)) (l l' : Option (List Event)) (s s' k k' : ℕ) (status : Status) → Runs stats left left' w w' l l' status
    → (status ≡ ReadFault → Rose s s') → (status ≡ WriteFault → Rose k k') → HasRun stats left left' w w' l l' s s' k k' status
has_run stats left left' w w' l l' s s' k k' status p read write =
    let few = all_permitted stats left' w w' l l' status left p in
    let many = over_permitted stats left' w w' l l' status left p in
    record {
      runs = p;
      prefix = prefix_of_out stats left' w w' l l' status left p;
      permits = few;
      over = many;
      complete = all_complete left (λ b. WritesAll stats w w' l l' (lines_of b)) s s' k k' status few read write;
      over_complete = over_complete left (λ b. WritesAll stats w w' l l' (lines_of b)) s s' k k' status many read write;
    }

-- ---- without counts

plain_prefix : (left left' w w' : Option (List ℕ)) (l l' : Option (List Event)) (s s' k k' : ℕ) (status : Status) → HasRun false left left' w w' l l' s s' k k' status → IfSome left (λ b. AddsPrefix w w' (out b))
plain_prefix None left' w w' l l' s s' k k' status p = tt
plain_prefix (Some told) left' w w' l l' s s' k k' status p = plain_front w w' l l' 0 (all_made (lines_of told)) p.prefix

module _ (w w' : Option (List ℕ)) (l l' : Option (List Event)) where
  plain_wrote : (told : List ℕ) → WritesAll false w w' l l' (lines_of told) → Adds w w' (out told)
  plain_wrote told p = plain_all w w' l l' 0 (all_made (lines_of told)) p

  as_plain : (told : List ℕ) (status : Status) → Permits (WritesAll false w w' l l' (lines_of told)) told status → Permits (Adds w w' (out told)) told status
  as_plain told Done p = (p.0, plain_wrote told p.1)
  as_plain told BadDocument p = (p.0, plain_wrote told p.1)
  as_plain told SomeRefused p = (p.0, plain_wrote told p.1)
  as_plain told ReadFault p = tt
  as_plain told WriteFault p = tt
  as_plain told NoMemory p = tt
  as_plain told InputLimit p = (p.0, plain_wrote told p.1)
  as_plain told TooLong p = (p.0, plain_wrote told p.1)
  as_plain told BadWords p = (p.0, plain_wrote told p.1)

  -- the answer and the output of a run where no count rose
  abbrev Ends : List ℕ → (List ℕ → Type 0) → Status → Type 0
  Ends told wrote status = (status ≡ NoMemory) ⊎ ((status ≡ verdict told) × wrote told)

  ends_plain : (told : List ℕ) (status : Status) → Ends told (λ b. WritesAll false w w' l l' (lines_of b)) status → Ends told (λ b. Adds w w' (out b)) status
  ends_plain told status (inl e) = inl e
  ends_plain told status (inr h) = inr (h.0, plain_wrote told h.1)

  plain_permits : (left left' : Option (List ℕ)) (s s' k k' : ℕ) (status : Status) → HasRun false left left' w w' l l' s s' k k' status
      → IfSome left (λ b. length b ≤ limit → Permits (Adds w w' (out b)) b status)
  plain_permits None left' s s' k k' status p = tt
  plain_permits (Some told) left' s s' k k' status p = λ few. as_plain told status (p.permits few)

  plain_complete : (left left' : Option (List ℕ)) (s s' k k' : ℕ) (status : Status) → HasRun false left left' w w' l l' s s' k k' status → IsComplete left (λ b. Adds w w' (out b)) s s' k k' status
  plain_complete None left' s s' k k' status p = tt
  plain_complete (Some told) left' s s' k k' status p = λ few no_read no_write. ends_plain told status (p.complete few no_read no_write)

out_is : (told : List ℕ) (doc : Doc) → document_in told ≡ Ok doc → out told ≡ print 0 (boxes_of doc) ++ texts 1 (made_in (begins doc) (after_end (lines_of told)))
unfolding text_of
out_is told doc is = ap (λ (made : Result Doc Fault). texts 0 (made_from made (after_end (lines_of told)))) is

headline : (left w w' : Option (List ℕ)) (s s' k k' : ℕ) (status : Status) → IsComplete left (λ b. Adds w w' (out b)) s s' k k' status → IsHeadline left w w' s s' k k' status
headline None w w' s s' k k' status p = tt
headline (Some told) w w' s s' k k' status p = λ few doc is no_read no_write memory. by_cases doc is memory (p few no_read no_write)
  where
    by_cases : (doc : Doc) → document_in told ≡ Ok doc → status ≢ NoMemory → (status ≡ NoMemory) ⊎ ((status ≡ verdict told) × Adds w w' (out told))
        → Adds w w' (print 0 (boxes_of doc) ++ texts 1 (made_in (begins doc) (after_end (lines_of told))))
    by_cases doc is memory (inl e) = absurd (memory e)
    by_cases doc is memory (inr h) = subst (λ (x : List ℕ). Adds w w' x) (out_is told doc is) h.1

-- the output of a run without counts
pub has_output : {left left' w w' : Option (List ℕ)} {l l' : Option (List Event)} {s s' k k' : ℕ} {status : Status} → HasRun false left left' w w' l l' s s' k k' status → HasOutput left w w' s s' k k' status
has_output {left = left} {left' = left'} {w = w} {w' = w'} {l = l} {l' = l'} {s = s} {s' = s'} {k = k} {k' = k'} {status = status} p =
    let whole = plain_complete w w' l l' left left' s s' k k' status p in
    record {
      prefix = plain_prefix left left' w w' l l' s s' k k' status p;
      permits = plain_permits w w' l l' left left' s s' k k' status p;
      complete = whole;
      headline = headline left w w' s s' k k' status whole;
    }

-- The lines of the script, one after another.
use Rattle.std.proofs.Common.{◌≡◌, ap, sym, subst, ◌∙◌, ℕ, ◌+◌, ◌||◌, Bool, true, false, List, [], ◌∷◌, ◌++◌, length, Option, Result, Ok, append-nil, arith, length-append}
use Rattle.std.specs.Prelude.{if◌then◌else◌}
use Rattle.text_scan.specs.declared.line.Fault.{Fault}
use Rattle.text_scan.specs.declared.line.Line.{Line}
use Rattle.text_scan.specs.Tokens.{is_skipped}
use Rattle.outside.specs.declared.event.Event.{Event}
use Rattle.doc_text.specs.declared.document.Doc.{Doc}
use Rattle.session.specs.Written.{Writes, WritesFront, WritesBehind}
use Rattle.session.specs.Runs.{WritesAll, WritesFrom}
use Rattle.doc_text.specs.Histories.{begins}
use Rattle.session.specs.Courses.{Course, begun, last_course, made_by, next_course}
use Rattle.session.specs.Engine.{IsAnswered}
use Rattle.session.specs.Script.{before_end, after_end, document_of_lines, made_in, made_from, all_made, is_refused, some_refused}
use Rattle.session.specs.Serving.{Answers, AnswersPrefix, IsLaid, HasAnswered}
use Rattle.session.proofs.Due.{all_due}
use Rattle.session.proofs.Logs.{Made}
use Rattle.session.proofs.Written.{writes_more, behind_more}
use Rattle.session.proofs.Scripts.{one_made, has_more, before_more, after_more, made_push, refused_push, last_push, one_course}

-- ---- what is made of one line more

skipped_one : (c : Course) (line : Line) → is_skipped line ≡ true → one_made c line ≡ []
skipped_one c line e = ap (λ (b : Bool). if b then [] else made_by c line ∷ []) e

edit_one : (c : Course) (line : Line) → is_skipped line ≡ false → one_made c line ≡ made_by c line ∷ []
edit_one c line e = ap (λ (b : Bool). if b then [] else made_by c line ∷ []) e

module _ (given : List Line) (c : Course) (k : ℕ) (bad : Bool) (p : IsLaid given c k bad) (line : Line) where
  document_push : document_of_lines (before_end (given ++ line ∷ [])) ≡ Ok p.first
  document_push = ap document_of_lines (before_more given (line ∷ []) p.ended) ∙ p.read

  script_push : made_in (begins p.first) (after_end (given ++ line ∷ [])) ≡ made_in (begins p.first) (after_end given) ++ one_made c line
  script_push =
      ap (made_in (begins p.first)) (after_more given (line ∷ []) p.ended)
      ∙ made_push (begun p.first) (after_end given) line
      ∙ ap (λ (d : Course). made_in (begins p.first) (after_end given) ++ one_made d line) (sym p.now)

  course_push : last_course (begun p.first) (after_end (given ++ line ∷ [])) ≡ one_course c line
  course_push = ap (last_course (begun p.first)) (after_more given (line ∷ []) p.ended) ∙ last_push (begun p.first) (after_end given) line ∙ ap (λ (d : Course). one_course d line) (sym p.now)

  all_given : all_made given ≡ Ok p.first ∷ made_in (begins p.first) (after_end given)
  all_given = ap (λ (o : Result Doc Fault). made_from o (after_end given)) p.read

  pub all_push : all_made (given ++ line ∷ []) ≡ all_made given ++ one_made c line
  all_push =
      ap (λ (o : Result Doc Fault). made_from o (after_end (given ++ line ∷ []))) document_push
      ∙ ap (λ (m : List Made). Ok p.first ∷ m) script_push
      ∙ ap (λ (m : List Made). m ++ one_made c line) (sym all_given)

  -- the number of what is made next
  next_number : k ≡ 0 + length (all_made given)
  next_number = omega (arith, p.count)

  long : length (given ++ line ∷ []) ≡ length given + 1
  long = length-append given (line ∷ [])

  -- a line that is skipped
  laid_skipped : is_skipped line ≡ true → IsLaid (given ++ line ∷ []) c k bad
  laid_skipped e =
      let same : made_in (begins p.first) (after_end (given ++ line ∷ [])) ≡ made_in (begins p.first) (after_end given) =
      script_push ∙ ap (λ (m : List Made). made_in (begins p.first) (after_end given) ++ m) (skipped_one c line e) ∙ append-nil (made_in (begins p.first) (after_end given)) in
      let all_same : all_made (given ++ line ∷ []) ≡ all_made given = all_push ∙ ap (λ (m : List Made). all_made given ++ m) (skipped_one c line e) ∙ append-nil (all_made given) in
      record {
        first = p.first;
        ended = has_more given (line ∷ []) p.ended;
        read = document_push;
        now = sym (course_push ∙ ap (λ (b : Bool). if b then c else next_course c line) e);
        count = p.count ∙ ap (λ (m : List Made). length m) (sym all_same);
        refused = p.refused ∙ ap some_refused (sym same);
        few = omega (arith, long, p.few);
      }

  -- an edit
  laid_edit : is_skipped line ≡ false → IsLaid (given ++ line ∷ []) (next_course c line) (k + 1) (bad || is_refused (made_by c line))
  laid_edit e =
      let made = made_by c line in
      let more : made_in (begins p.first) (after_end (given ++ line ∷ [])) ≡ made_in (begins p.first) (after_end given) ++ made ∷ [] =
      script_push ∙ ap (λ (m : List Made). made_in (begins p.first) (after_end given) ++ m) (edit_one c line e) in
      let all_more : all_made (given ++ line ∷ []) ≡ all_made given ++ made ∷ [] = all_push ∙ ap (λ (m : List Made). all_made given ++ m) (edit_one c line e) in
      record {
        first = p.first;
        ended = has_more given (line ∷ []) p.ended;
        read = document_push;
        now = sym (course_push ∙ ap (λ (b : Bool). if b then c else next_course c line) e);
        count = omega (arith, p.count, ap (λ (m : List Made). length m) all_more, length-append (all_made given) (made ∷ []));
        refused = ap (λ (b : Bool). b || is_refused made) p.refused ∙ sym (refused_push (made_in (begins p.first) (after_end given)) made) ∙ ap some_refused (sym more);
        few = omega (arith, long, p.few);
      }

  made_edit : is_skipped line ≡ false → all_made (given ++ line ∷ []) ≡ all_made given ++ made_by c line ∷ []
  made_edit e = all_push ∙ ap (λ (m : List Made). all_made given ++ m) (edit_one c line e)

  module _ (stats : Bool) (w w' : Option (List ℕ)) (l l' : Option (List Event)) where
    wrote_skipped : is_skipped line ≡ true → WritesAll stats w w' l l' given → WritesAll stats w w' l l' (given ++ line ∷ [])
    wrote_skipped e q =
        subst (λ (m : List Made). Writes stats w w' l l' 0 m) (sym (all_push ∙ ap (λ (m : List Made). all_made given ++ m) (skipped_one c line e) ∙ append-nil (all_made given))) q

    wrote_edit : (w'' : Option (List ℕ)) (l'' : Option (List Event)) → is_skipped line ≡ false → WritesAll stats w w' l l' given → Answers stats w' w'' l' l'' k (made_by c line)
        → WritesAll stats w w'' l l'' (given ++ line ∷ [])
    wrote_edit w'' l'' e q a =
        subst (λ (m : List Made). Writes stats w w'' l l'' 0 m) (sym (made_edit e))
        (writes_more stats w w' w'' l l' l'' (all_made given) (made_by c line ∷ []) 0 q (subst (λ (n : ℕ). Writes stats w' w'' l' l'' n (made_by c line ∷ [])) next_number a))

    wrote_part : (w'' : Option (List ℕ)) (l'' : Option (List Event)) → is_skipped line ≡ false → WritesAll stats w w' l l' given → AnswersPrefix stats w' w'' l' l'' k (made_by c line)
        → WritesFrom stats w w'' l l'' given (given ++ line ∷ [])
    wrote_part w'' l'' e q a =
        all_due stats w w'' l l'' given (given ++ line ∷ []) p.ended
        (subst (λ (m : List Made). WritesBehind stats w w'' l l'' (all_made given) m) (sym (made_edit e))
        (behind_more stats w w' w'' l l' l'' (all_made given) (made_by c line ∷ []) q (subst (λ (n : ℕ). WritesFront stats w' w'' l' l'' n (made_by c line ∷ [])) next_number a)))

-- ---- how far a run is

module _ (stats : Bool) (w w' : Option (List ℕ)) (l l' : Option (List Event)) (given : List Line) (c : Course) (k : ℕ) (bad : Bool) (line : Line) (p : HasAnswered stats w w' l l' given c k bad) where
  pub skips : is_skipped line ≡ true → HasAnswered stats w w' l l' (given ++ line ∷ []) c k bad
  skips e = record { laid = laid_skipped given c k bad p.laid line e; output = wrote_skipped given c k bad p.laid line stats w w' l l' e p.output }

  pub answers : (w'' : Option (List ℕ)) (l'' : Option (List Event)) (next : Course) (refused : Bool) → is_skipped line ≡ false → IsAnswered c line next refused
      → Answers stats w' w'' l' l'' k (made_by c line) → HasAnswered stats w w'' l l'' (given ++ line ∷ []) next (k + 1) (bad || refused)
  answers w'' l'' next refused e n a =
      record {
        laid =
            subst (λ (d : Course). IsLaid (given ++ line ∷ []) d (k + 1) (bad || refused)) (sym n.next)
            (subst (λ (b : Bool). IsLaid (given ++ line ∷ []) (next_course c line) (k + 1) (bad || b)) (sym n.refused) (laid_edit given c k bad p.laid line e));
        output = wrote_edit given c k bad p.laid line stats w w' l l' w'' l'' e p.output a;
      }

  pub answers_part : (w'' : Option (List ℕ)) (l'' : Option (List Event)) → is_skipped line ≡ false → AnswersPrefix stats w' w'' l' l'' k (made_by c line) → WritesFrom stats w w'' l l'' given (given ++ line ∷ [])
  answers_part w'' l'' e a = wrote_part given c k bad p.laid line stats w w' l l' w'' l'' e p.output a

pub ruleset line_answering = (skips, answers, answers_part)

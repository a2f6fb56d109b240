-- The replies of a run, one after another.
use Rattle.std.proofs.Common.{◌≡◌, refl, ap, sym, subst, ◌∙◌, ℕ, suc, ◌+◌, ◌*◌, ◌^◌, ◌≤◌, ◌<◌, ◌||◌, Bool, true, false, List, [], ◌∷◌, ◌++◌, length, Option, Some, None, Result, Ok, Err, IfSome, ◌⊎◌, inl, inr, append_assoc, append-nil, arith}
use Rattle.std.specs.Prelude.{◌-◌, ◌&&◌, if◌then◌else◌, IfErr, IfOk, OnErr, OnOk}
use Rattle.std.proofs.lemmas.Bool.{false≢true, ne_eqb}
use Rattle.text_scan.specs.declared.line.Fault.{Fault}
use Rattle.text_scan.specs.declared.line.Line.{Line}
use Rattle.text_scan.specs.Lines.{lines_of}
use Rattle.text_scan.specs.Stream.{Stream}
use Rattle.text_scan.specs.Tokens.{is_skipped}
use Rattle.outside.specs.Told.{Adds, Stays}
use Rattle.outside.specs.declared.event.Event.{Event}
use Rattle.outside.specs.declared.event.Event.TheVariants.{Begin}
use Rattle.outside.proofs.Laws.{adds_more, adds_none, adds_stays, stays_same}
use Rattle.plain_tree.specs.Trees.{Trees, leafless, tree}
use Rattle.node_arena.specs.declared.number.NodeId.{NodeId}
use Rattle.node_arena.proofs.Parts.{each_weaker}
use Rattle.doc_text.specs.declared.document.Doc.{Doc}
use Rattle.doc_text.specs.Histories.{begins}
use Rattle.doc_text.specs.Documents.{document_of as document_of_text, is_leaf}
use Rattle.doc_text.specs.Edits.{tree_of}
use Rattle.doc_text.specs.Label.{Label}
use Rattle.placing.specs.declared.node.Node.{Node}
use Rattle.placing.specs.Keeping.{KeepsNone}
use Rattle.placing.specs.Kept.{kept_at}
use Rattle.placing.specs.Nodes.{bare}
use Rattle.placing.specs.Walks.{events_of}
use Rattle.page_tree.specs.Pages.{Held, document_of}
use Rattle.page_tree.specs.Reach.{KeepsOn}
use Rattle.asked_pages.specs.AskedOf.{asked_of}
use Rattle.asked_pages.specs.Leaves.{IsEmptied, PassesUp, has_leaf_by}
use Rattle.sparing.specs.Sparing.{Touches}
use Rattle.session.specs.Boxes.{boxes_of}
use Rattle.session.specs.Courses.{Course, begun, last_course, made_by, next_course, touched_by}
use Rattle.session.specs.Engine.{KeepsUntouched, Spreads}
use Rattle.session.specs.Input.{HasGiven, HasGivenAll, Stops}
use Rattle.session.specs.Laying.{Walks}
use Rattle.session.specs.Printing.{Box, counts, print}
use Rattle.session.specs.Replies.{AreAllFew, AreExact, AreReplies, HasReplied, HasReply, IsIdle, Replies, RepliesFirst, RepliesFront, RepliesLines, RepliesTo, Reply, is_new, kept_in, questions_in, texts_in, told_in}
use Rattle.session.specs.Runs.{StopsWriting}
use Rattle.session.specs.Script.{after_end, all_made, document_of_lines, made_from, made_in, said_line, text_of}
use Rattle.session.specs.Serving.{EndsFirst, HasReadText, HasText, IsLaid}
use Rattle.session.specs.Standing.{Standing, course_of, doc_of}
use Rattle.session.specs.Touched.{Agrees, touched_lines}
use Rattle.session.specs.Words.{IsUnserved}
use Rattle.session.specs.declared.said.Said.{Said}
use Rattle.session.specs.declared.status.Status.{Status}
use Rattle.session.specs.declared.status.Status.TheVariants.{Done, BadDocument, SomeRefused, ReadFault, WriteFault, NoMemory, InputLimit, TooLong, BadWords}
use Rattle.session.specs.declared.text.Text.{Text}
use Rattle.session.proofs.Counts.{rising_exact, rising_most}
use Rattle.session.proofs.Finished.{all_more}
use Rattle.session.proofs.Follows.{follows_all}
use Rattle.session.proofs.Logs.{Made}
use Rattle.session.proofs.Pieces.{first_given}
use Rattle.session.proofs.Progress.{all_push}
use Rattle.session.proofs.Scripts.{after_none, before_none, one_made}

-- ---- replies, one after another

texts_join : (a b : List Reply) → texts_in (a ++ b) ≡ texts_in a ++ texts_in b
texts_join [] b = refl
texts_join (r ∷ a) b = ap (λ (z : List ℕ). r.text ++ z) (texts_join a b) ∙ sym (append_assoc r.text (texts_in a) (texts_in b))

told_join : (a b : List Reply) → told_in (a ++ b) ≡ told_in a ++ told_in b
told_join [] b = refl
told_join (r ∷ a) b = ap (λ (z : List Event). r.told ++ z) (told_join a b) ∙ sym (append_assoc r.told (told_in a) (told_in b))

kept_join : (a b : List Reply) → kept_in (a ++ b) ≡ kept_in a + kept_in b
kept_join [] b = omega arith
kept_join (r ∷ a) b = omega (arith, kept_join a b)

exact_first : (a b : List Reply) → AreExact (a ++ b) → AreExact a
exact_first [] b e = tt
exact_first (r ∷ a) b e = (e.0, exact_first a b e.1)

exact_later : (a b : List Reply) → AreExact (a ++ b) → AreExact b
exact_later [] b e = e
exact_later (r ∷ a) b e = exact_later a b e.1

module _ (stats : Bool) (touches : Touches) where
  replies_join : (k : ℕ) (made rest : List Made) (a b : List Reply) → AreReplies stats touches k made a → AreReplies stats touches (k + length made) rest b → AreReplies stats touches k (made ++ rest) (a ++ b)
  replies_join k [] rest [] b p q =
      let none : k + 0 ≡ k = omega arith in
      subst (λ (n : ℕ). AreReplies stats touches n rest b) none q
  replies_join k [] rest (r ∷ a) b p q = absurd p
  replies_join k (m ∷ made) rest [] b p q = absurd p
  replies_join k (m ∷ made) rest (r ∷ a) b p q =
      let next : k + suc (length made) ≡ k + 1 + length made = omega arith in
      (p.0, replies_join (k + 1) made rest a b p.1 (subst (λ (n : ℕ). AreReplies stats touches n rest b) next q))

pub replies_more : (stats : Bool) (touches : Touches) (w w' w'' : Option (List ℕ)) (l l' l'' : Option (List Event)) (p p' p'' k : ℕ) (made rest : List Made) → Replies stats w w' l l' p p' touches k made → Replies stats w' w'' l' l'' p' p'' touches (k + length made) rest
    → Replies stats w w'' l l'' p p'' touches k (made ++ rest)
replies_more stats touches w w' w'' l l' l'' p p' p'' k made rest a b =
    record {
      all = a.all ++ b.all;
      each = replies_join stats touches k made rest a.all b.all a.each b.each;
      written = adds_more w w' w'' (texts_in a.all) (texts_in b.all) (texts_in (a.all ++ b.all)) a.written b.written (texts_join a.all b.all);
      log = adds_more l l' l'' (told_in a.all) (told_in b.all) (told_in (a.all ++ b.all)) a.log b.log (told_join a.all b.all);
      ticks = λ e. omega (arith, a.ticks (exact_first a.all b.all e), b.ticks (exact_later a.all b.all e), kept_join a.all b.all);
    }

pub replies_none : (stats : Bool) (touches : Touches) (w w' : Option (List ℕ)) (l l' : Option (List Event)) (p p' k : ℕ) → Stays w w' → Stays l l' → p' ≡ p → Replies stats w w' l l' p p' touches k []
replies_none stats touches w w' l l' p p' k s t e =
    record { all = []; each = tt; written = adds_stays w w w' [] (adds_none w) s; log = adds_stays l l l' [] (adds_none l) t; ticks = λ x. omega (arith, e) }

module _ (stats : Bool) (touches : Touches) (l l' : Option (List Event)) (p p' k : ℕ) (made : Made) (text : List ℕ) (r : HasReply stats touches l l' p p' k made text) where
  pub reply_written : (w w' : Option (List ℕ)) → Adds w w' text → Replies stats w w' l l' p p' touches k (made ∷ [])
  reply_written w w' a =
      record {
        all = r.reply ∷ [];
        each = (r.is, tt);
        written = subst (Adds w w') (sym r.text ∙ sym (append-nil r.reply.text)) a;
        log = subst (Adds l l') (sym (append-nil r.reply.told)) r.log;
        ticks = λ e. omega (arith, r.ticks e.0);
      }

  pub reply_same : (other : Made) → made ≡ other → HasReply stats touches l l' p p' k other text
  reply_same other e = subst (λ (m : Made). HasReply stats touches l l' p p' k m text) e r

pub said_reply : (stats : Bool) (touches : Touches) (l : Option (List Event)) (p k : ℕ) (said : Said) (text : List ℕ) → text ≡ said_line k said → HasReply stats touches l l p p k (Err said) text
unfolding text_of
said_reply stats touches l p k said text t =
    record { reply = record { text = text; told = []; kept = 0 }; is = record { text = t; told = refl; kept = refl }; text = refl; log = adds_none l; ticks = λ e. omega arith }

pub unlaid_reply : (stats : Bool) (touches : Touches) (l : Option (List Event)) (p p' k : ℕ) (made : Made) (said : Said) (text : List ℕ) → made ≡ Err said → p' ≡ p → text ≡ said_line k said
    → HasReply stats touches l l p p' k made text
unlaid_reply stats touches l p p' k made said text e same t =
    subst (λ (n : ℕ). HasReply stats touches l l p n k made text) (sym same) (reply_same stats touches l l p p k (Err said) text (said_reply stats touches l p k said text t) made (sym e))

-- ---- a layout

pub laid_reply : (stats : Bool) (touches : Touches) (l l' : Option (List Event)) (k : ℕ) (old new : Held) (measured added p p' : ℕ) (boxes : List Box) (front text : List ℕ) → Walks k old new l l' measured added p p' → boxes ≡ boxes_of (document_of old) → front ≡ print k boxes
    → text ≡ front ++ counts stats measured added → IsEmptied (is_new touches k) old → HasReply stats touches l l' p p' k (Ok (document_of old)) text
unfolding text_of
laid_reply stats touches l l' k old new measured added p p' boxes front text w b f t empty =
    let events = events_of (bare old.nodes.tree) w.entries in
    record {
      reply = record { text = text; told = Begin k ∷ events; kept = added };
      is = record {
        measured = events;
        parts = refl;
        each = w.each;
        text =
            t ∙ ap (λ (x : List ℕ). x ++ counts stats measured added) (f ∙ ap (print k) b)
            ∙ ap (λ (m : ℕ). print k (boxes_of (document_of old)) ++ counts stats m added) w.events;
        leaves = w.bounded.leaves (is_new touches k) empty;
        least = w.least (is_new touches k) empty;
        most = λ few. let least : length w.entries ≤ length (asked_of (document_of old)) = w.bounded.most few in omega (arith, w.count, rising_most (length w.entries), least);
        added = record { page = old; document = refl; emptied = empty; entries = w.entries; fresh = w.fresh; asked = w.asked; events = refl; count = w.count };
      };
      text = refl;
      log = w.log;
      ticks = λ e. let whole : added ≡ length w.entries = w.count ∙ rising_exact (length w.entries) (subst (λ (n : ℕ). n < 2 ^ 64 - 1) w.count e) in omega (arith, w.ticks, whole);
    }

-- ---- passes by questions

few_exact : (stats : Bool) (touches : Touches) (k : ℕ) (made : List Made) (all : List Reply) → AreReplies stats touches k made all → AreAllFew made → AreExact all × (kept_in all ≤ questions_in made)
few_exact stats touches k [] [] r few = (tt, omega arith)
few_exact stats touches k [] (x ∷ all) r few = absurd r
few_exact stats touches k (m ∷ made) [] r few = absurd r
few_exact stats touches k (Ok doc ∷ made) (x ∷ all) r few =
    let rest = few_exact stats touches (k + 1) made all r.1 few.1 in
    let most : x.kept ≤ length (asked_of doc) = r.0.most few.0.0 in
    ((omega (arith, most, few.0.1), rest.0), omega (arith, most, rest.1))
few_exact stats touches k (Err said ∷ made) (x ∷ all) r few =
    let rest = few_exact stats touches (k + 1) made all r.1 few in
    ((omega (arith, r.0.kept), rest.0), omega (arith, r.0.kept, rest.1))

pub passes_few : (stats : Bool) (touches : Touches) (w w' : Option (List ℕ)) (l l' : Option (List Event)) (p p' k : ℕ) (made : List Made) → Replies stats w w' l l' p p' touches k made → AreAllFew made → p' ≤ p + 4 * questions_in made
passes_few stats touches w w' l l' p p' k made r few =
    let most = few_exact stats touches k made r.all r.each few in
    omega (arith, r.ticks most.0, most.1)

-- ---- nodes that keep nothing

passes_all : (test : List ℕ → Bool) → ((name : List ℕ) → test name ≡ true) → (t : Trees Label) → PassesUp test t
passes_all test h leafless = tt
passes_all test h (tree x below after) = ((λ e. h x.name), (passes_all test h below, passes_all test h after))

pub first_emptied : (touches : Touches) (page : Held) → KeepsNone page.nodes.tree → IsEmptied (is_new touches 0) page
first_emptied touches page none =
    record {
      each = each_weaker (λ (x : NodeId × Node). x.1.kept ≡ []) (λ (x : NodeId × Node). is_new touches 0 x.1.name ≡ true → x.1.kept ≡ []) page.nodes.tree (λ x e n. e) none;
      up = passes_all (is_new touches 0) (λ name. refl) (tree_of (document_of page));
    }

module _ (test other : List ℕ → Bool) (same : (name : List ℕ) → test name ≡ other name) where
  leaf_same : (t : Trees Label) → has_leaf_by test t ≡ has_leaf_by other t
  leaf_same leafless = refl
  leaf_same (tree x below after) = λ i. (is_leaf x.kind && same x.name i) || leaf_same after i

  pub passes_same : (t : Trees Label) → PassesUp other t → PassesUp test t
  passes_same leafless p = tt
  passes_same (tree x below after) p = ((λ e. same x.name ∙ p.0 (sym (leaf_same below) ∙ e)), (passes_same below p.1.0, passes_same after p.1.1))

pub emptied_by : (touches : Touches) (k : ℕ) (old new : Held) (touched : List ℕ → Bool) → 1 ≤ k → ((name : List ℕ) → touches k name ≡ touched name) → KeepsUntouched touched old new → PassesUp touched (tree_of (document_of new)) → IsEmptied (is_new touches k) new
emptied_by touches k old new touched later agrees kept up =
    record {
      each = each_weaker (λ (x : NodeId × Node). KeepsOn (touched x.1.name) old.nodes.tree x) (λ (x : NodeId × Node). is_new touches k x.1.name ≡ true → x.1.kept ≡ []) new.nodes.tree
          (λ x on e. on.kept ∙ ap (λ (b : Bool). if b then [] else kept_at old.nodes.tree x.0) (sym (same x.1.name) ∙ e)) kept;
      up = passes_same (is_new touches k) touched same (tree_of (document_of new)) up;
    }
  where
    same : (name : List ℕ) → is_new touches k name ≡ touched name
    same name = ap (λ (b : Bool). b || touches k name) (ne_eqb k 0 (λ e. absurd (omega (arith, later, e)))) ∙ agrees name

-- by the edit of a line
pub edit_emptied : (touches : Touches) (k : ℕ) (old new : Standing) (line : Line) → 1 ≤ k → Agrees touches k (course_of old) line → Spreads (touched_by (course_of old) line) old.page new.page → IsEmptied (is_new touches k) new.page
edit_emptied touches k old new line later agrees spreads = emptied_by touches k old.page new.page (touched_by (course_of old) line) later agrees spreads.kept spreads.up

-- ---- one line of the script

pub skipped_replies : (stats : Bool) (touches : Touches) (w : Option (List ℕ)) (l : Option (List Event)) (p k : ℕ) (c : Course) (line : Line) → is_skipped line ≡ true → Replies stats w w l l p p touches k (if is_skipped line then [] else made_by c line ∷ [])
skipped_replies stats touches w l p k c line e =
    subst (λ (b : Bool). Replies stats w w l l p p touches k (if b then [] else made_by c line ∷ [])) (sym e) (replies_none stats touches w w l l p p k (stays_same w) (stays_same l) refl)

pub edit_replies : (stats : Bool) (touches : Touches) (w w' : Option (List ℕ)) (l l' : Option (List Event)) (p p' k : ℕ) (c : Course) (line : Line) → is_skipped line ≡ false → Replies stats w w' l l' p p' touches k (made_by c line ∷ [])
    → Replies stats w w' l l' p p' touches k (if is_skipped line then [] else made_by c line ∷ [])
edit_replies stats touches w w' l l' p p' k c line e r = subst (λ (b : Bool). Replies stats w w' l l' p p' touches k (if b then [] else made_by c line ∷ [])) (sym e) r

-- ---- between two lines

abbrev laid_alone : Doc → List Made
laid_alone doc = Ok doc ∷ []

none_made : (made : List Made) → length made ≡ 0 → made ≡ []
none_made [] e = refl
none_made (m ∷ made) e = absurd (omega (arith, e))

-- where no line of a script is an edit the course stays
unmoved : (c : Course) (script : List Line) → length (made_in c.history script) ≡ 0 → last_course c script ≡ c
unmoved c [] e = refl
unmoved c (line ∷ script) e = by_skipped (is_skipped line) (unmoved c script) e
  where
    by_skipped : (b : Bool) → (length (made_in c.history script) ≡ 0 → last_course c script ≡ c) → length (if b then made_in c.history script else made_by c line ∷ made_in (next_course c line).history script) ≡ 0
        → (if b then last_course c script else last_course (next_course c line) script) ≡ c
    by_skipped true h e = h e
    by_skipped false h e = absurd (omega (arith, e))

module _ (given : List Line) (c : Course) (k : ℕ) (bad : Bool) (laid : IsLaid given c k bad) where
  all_given : all_made given ≡ Ok laid.first ∷ made_in (begins laid.first) (after_end given)
  all_given = ap (λ (o : Result Doc Fault). made_from o (after_end given)) laid.read

  pub later_number : 1 ≤ k
  later_number = omega (arith, laid.count, ap length all_given)

  module _ (stats : Bool) (w w' : Option (List ℕ)) (l l' : Option (List Event)) (p p' : ℕ) where
    -- after the document
    pub first_replies : k ≡ 1 → ((touches : Touches) → Replies stats w w' l l' p p' touches 0 (Ok c.history.doc ∷ [])) → RepliesLines stats w w' l l' p p' given
    first_replies one r touches f =
        let none : length (made_in (begins laid.first) (after_end given)) ≡ 0 = omega (arith, one, laid.count, ap length all_given) in
        subst (Replies stats w w' l l' p p' touches 0)
        (sym (all_given ∙ ap (λ (made : List Made). Ok laid.first ∷ made) (none_made (made_in (begins laid.first) (after_end given)) none)
        ∙ ap (λ (d : Course). laid_alone d.history.doc) (sym (laid.now ∙ unmoved (begun laid.first) (after_end given) none)))) (r touches)

    -- a line more
    pub more_replies : (touches : Touches) (w'' : Option (List ℕ)) (l'' : Option (List Event)) (p'' : ℕ) (line : Line) → Replies stats w w' l l' p p' touches 0 (all_made given) → Replies stats w' w'' l' l'' p' p'' touches k (if is_skipped line then [] else made_by c line ∷ [])
        → Replies stats w w'' l l'' p p'' touches 0 (all_made (given ++ line ∷ []))
    more_replies touches w'' l'' p'' line a b =
        let next : k ≡ 0 + length (all_made given) = omega (arith, laid.count) in
        subst (Replies stats w w'' l l'' p p'' touches 0) (sym (all_push given c k bad laid line))
        (replies_more stats touches w w' w'' l l' l'' p p' p'' 0 (all_made given) (one_made c line) a (subst (λ (n : ℕ). Replies stats w' w'' l' l'' p' p'' touches n (one_made c line)) next b))

    -- reading stopped
    pub stopped_replies : (left now : Option (List ℕ)) (stream : Stream) (ended : Bool) (status : Status) → HasGiven left now given stream ended → RepliesLines stats w w' l l' p p' given → (left' : Option (List ℕ)) → Stops left left' given status → RepliesTo stats w w' l l' p p' left status
    stopped_replies left now stream ended Done h r left' s = absurd s
    stopped_replies left now stream ended BadDocument h r left' s = absurd s
    stopped_replies left now stream ended SomeRefused h r left' s = absurd s
    stopped_replies left now stream ended ReadFault h r left' s = inr (record { given = given; first = first_given left now given stream ended h; ended = laid.ended; replies = r })
    stopped_replies left now stream ended WriteFault h r left' s = tt
    stopped_replies left now stream ended NoMemory h r left' s = tt
    stopped_replies left now stream ended InputLimit h r left' s = inr (record { given = given; first = first_given left now given stream ended h; ended = laid.ended; replies = r })
    stopped_replies left now stream ended TooLong h r left' s = tt
    stopped_replies left now stream ended BadWords h r left' s = tt

all_lines : (left left' : Option (List ℕ)) (given : List Line) → HasGivenAll left left' given → IfSome left (λ b. given ≡ lines_of b)
all_lines None left' given p = tt
all_lines (Some told) None given p = absurd p.whole
all_lines (Some told) (Some rest) given p = p.lines ∙ ap lines_of (sym p.whole.0)

-- all lines had their replies
pub ended_replies : (stats : Bool) (w w' : Option (List ℕ)) (l l' : Option (List Event)) (p p' : ℕ) (left left' : Option (List ℕ)) (given : List Line) (bad : Bool) (status : Status) → status ≡ (if bad then SomeRefused else Done) → HasGivenAll left left' given →
    RepliesLines stats w w' l l' p p' given
    → RepliesTo stats w w' l l' p p' left status
ended_replies stats w w' l l' p p' left left' given bad status e h r = subst (RepliesTo stats w w' l l' p p' left) (sym e) (at bad)
  where
    at : (b : Bool) → RepliesTo stats w w' l l' p p' left (if b then SomeRefused else Done)
    at true = record { given = given; all = all_lines left left' given h; replies = r }
    at false = record { given = given; all = all_lines left left' given h; replies = r }

-- writing stopped
pub unwritten_replies : (stats : Bool) (w w' : Option (List ℕ)) (l l' : Option (List Event)) (p p' : ℕ) (left : Option (List ℕ)) (status : Status) → StopsWriting status → RepliesTo stats w w' l l' p p' left status
unwritten_replies stats w w' l l' p p' left Done s = absurd s
unwritten_replies stats w w' l l' p p' left BadDocument s = absurd s
unwritten_replies stats w w' l l' p p' left SomeRefused s = absurd s
unwritten_replies stats w w' l l' p p' left ReadFault s = absurd s
unwritten_replies stats w w' l l' p p' left WriteFault s = tt
unwritten_replies stats w w' l l' p p' left NoMemory s = tt
unwritten_replies stats w w' l l' p p' left InputLimit s = absurd s
unwritten_replies stats w w' l l' p p' left TooLong s = absurd s
unwritten_replies stats w w' l l' p p' left BadWords s = absurd s

-- ---- the document

-- reading stopped before it ended
pub unread_replies : (stats : Bool) (w : Option (List ℕ)) (l : Option (List Event)) (p : ℕ) (left left' : Option (List ℕ)) (given : List Line) (status : Status) → Stops left left' given status → RepliesTo stats w w l l p p left status
unread_replies stats w l p left left' given Done s = absurd s
unread_replies stats w l p left left' given BadDocument s = absurd s
unread_replies stats w l p left left' given SomeRefused s = absurd s
unread_replies stats w l p left left' given ReadFault s = inl (record { written = stays_same w; log = stays_same l; ticks = refl })
unread_replies stats w l p left left' given WriteFault s = tt
unread_replies stats w l p left left' given NoMemory s = tt
unread_replies stats w l p left left' given InputLimit s = inl (record { written = stays_same w; log = stays_same l; ticks = refl })
unread_replies stats w l p left left' given TooLong s = tt
unread_replies stats w l p left left' given BadWords s = tt

-- it has a fault, or writing stopped
pub refused_replies : (stats : Bool) (w w' : Option (List ℕ)) (l l' : Option (List Event)) (p p' : ℕ) (left : Option (List ℕ)) (made : Result Doc Fault) (status : Status) → EndsFirst stats w w' l l' made status → (status ≡ BadDocument → p' ≡ p) → RepliesTo stats w w' l l' p p' left status
refused_replies stats w w' l l' p p' left made Done s e = absurd s
refused_replies stats w w' l l' p p' left made BadDocument s e = e refl
refused_replies stats w w' l l' p p' left made SomeRefused s e = absurd s
refused_replies stats w w' l l' p p' left made ReadFault s e = absurd s
refused_replies stats w w' l l' p p' left made WriteFault s e = tt
refused_replies stats w w' l l' p p' left made NoMemory s e = tt
refused_replies stats w w' l l' p p' left made InputLimit s e = absurd s
refused_replies stats w w' l l' p p' left made TooLong s e = absurd s
refused_replies stats w w' l l' p p' left made BadWords s e = absurd s

-- it was laid out
pub begun_replies : {E : Type 0} (stats : Bool) (w w' : Option (List ℕ)) (l l' : Option (List Event)) (p p' : ℕ) (touches : Touches) (doc : Doc) (r : Result Standing E) → IfOk r (λ engine. doc_of engine ≡ doc) → OnOk r (Replies stats w w' l l' p p' touches 0 (Ok doc ∷ []))
    → IfOk r (λ engine. Replies stats w w' l l' p p' touches 0 (Ok (doc_of engine) ∷ []))
begun_replies stats w w' l l' p p' touches doc (Ok engine) e q = subst (λ (d : Doc). Replies stats w w' l l' p p' touches 0 (Ok d ∷ [])) (sym e) q
begun_replies stats w w' l l' p p' touches doc (Err error) e q = tt

-- no stop of writing is a fault of the document
pub not_bad : {E : Type 0} (p p' : ℕ) (r : Result E Status) → IfErr r StopsWriting → r ≡ Err BadDocument → p' ≡ p
not_bad p p' (Ok x) s e = absurd cc
not_bad {E = E} p p' (Err status) s e = at status s e
  where
    at : (status : Status) → StopsWriting status → ◌≡◌ {A = Result E Status} (Err status) (Err BadDocument) → p' ≡ p
    at Done q f = absurd q
    at BadDocument q f = absurd q
    at SomeRefused q f = absurd q
    at ReadFault q f = absurd q
    at WriteFault q f = absurd cc
    at NoMemory q f = absurd cc
    at InputLimit q f = absurd q
    at TooLong q f = absurd q
    at BadWords q f = absurd q

-- it is all of the input
pub alone_replies : (stats : Bool) (w w' : Option (List ℕ)) (l l' : Option (List Event)) (p p' : ℕ) (left left' : Option (List ℕ)) (stream : Stream) (ended : Bool) (text : Text) (t : HasReadText left left' stream ended text) (doc : Doc)
    → text.has_script ≡ false → document_of_text text.lines text.end ≡ Ok doc → ((touches : Touches) → Replies stats w w' l l' p p' touches 0 (Ok doc ∷ [])) → RepliesTo stats w w' l l' p p' left Done
alone_replies stats w w' l l' p p' left left' stream ended text t doc none read r = at text.has_script none t.input
  where
    once : all_made t.given ≡ Ok doc ∷ []
    once =
        ap (λ (lines : List Line). made_from (document_of_lines lines) (after_end t.given)) (before_none t.given t.unended)
        ∙ ap (λ (m : Result Doc Fault). made_from m (after_end t.given)) (sym t.same ∙ read) ∙ ap (λ (lines : List Line). Ok doc ∷ made_in (begins doc) lines) (after_none t.given t.unended)

    at : (b : Bool) → b ≡ false → HasText left left' stream ended t.given b → RepliesTo stats w w' l l' p p' left Done
    at true e h = absurd (false≢true (sym e))
    at false e h = record { given = t.given; all = all_lines left left' t.given h; replies = λ touches f. subst (Replies stats w w' l l' p p' touches 0) (sym once) (r touches) }

-- ---- all lines of an input

module _ (stats : Bool) (w w' : Option (List ℕ)) (l l' : Option (List Event)) (p p' : ℕ) where
  all_replied : (b : List ℕ) (given : List Line) → given ≡ lines_of b → RepliesLines stats w w' l l' p p' given → Replies stats w w' l l' p p' (touched_lines (lines_of b)) 0 (all_made (lines_of b))
  all_replied b given e r =
      subst (λ (lines : List Line). Replies stats w w' l l' p p' (touched_lines (lines_of b)) 0 (all_made lines)) e
      (r (touched_lines (lines_of b)) (follows_all given [] (lines_of b) (append-nil given ∙ e)))

  front_replied : (b : List ℕ) → IsIdle stats w w' l l' p p' ⊎ RepliesFirst stats w w' l l' p p' (Some b) → RepliesFront stats w w' l l' p p' (lines_of b)
  front_replied b (inl i) =
      record { made = []; rest = all_made (lines_of b); parts = refl; replies = replies_none stats (touched_lines (lines_of b)) w w' l l' p p' 0 i.written i.log i.ticks }
  front_replied b (inr r) = with_more (all_more r.given r.first.rest r.ended)
    where
      with_more : (more : List Made) × (all_made (r.given ++ r.first.rest) ≡ all_made r.given ++ more) → RepliesFront stats w w' l l' p p' (lines_of b)
      with_more m =
          record {
            made = all_made r.given;
            rest = m.0;
            parts = sym m.1 ∙ ap all_made r.first.parts;
            replies = r.replies (touched_lines (lines_of b)) (follows_all r.given r.first.rest (lines_of b) r.first.parts);
          }

  pub replied : (left : Option (List ℕ)) (status : Status) → RepliesTo stats w w' l l' p p' left status → IfSome left (λ b. HasReplied stats w w' l l' p p' (lines_of b) status)
  replied None status r = tt
  replied (Some b) Done r = all_replied b r.given r.all r.replies
  replied (Some b) BadDocument r = r
  replied (Some b) SomeRefused r = all_replied b r.given r.all r.replies
  replied (Some b) ReadFault r = front_replied b r
  replied (Some b) WriteFault r = tt
  replied (Some b) NoMemory r = tt
  replied (Some b) InputLimit r = front_replied b r
  replied (Some b) TooLong r = tt
  replied (Some b) BadWords r = tt

-- the words are others, or memory was wanting
pub unserved_replied : (stats : Bool) (w : Option (List ℕ)) (l : Option (List Event)) (p : ℕ) (left : Option (List ℕ)) (status : Status) → IsUnserved status → IfSome left (λ b. HasReplied stats w w l l p p (lines_of b) status)
unserved_replied stats w l p None status s = tt
unserved_replied stats w l p (Some b) Done s = absurd s
unserved_replied stats w l p (Some b) BadDocument s = absurd s
unserved_replied stats w l p (Some b) SomeRefused s = absurd s
unserved_replied stats w l p (Some b) ReadFault s = absurd s
unserved_replied stats w l p (Some b) WriteFault s = absurd s
unserved_replied stats w l p (Some b) NoMemory s = tt
unserved_replied stats w l p (Some b) InputLimit s = absurd s
unserved_replied stats w l p (Some b) TooLong s = tt
unserved_replied stats w l p (Some b) BadWords s = tt

-- what holds is left where there is an error
pub on_any : {T E : Type 0} {P : Type 0} (r : Result T E) → P → OnErr r P
on_any (Ok x) p = tt
on_any (Err e) p = p

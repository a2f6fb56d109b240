-- Changes of a held document, one after another, and the steps to which they belong.
use Rattle.std.proofs.Common.{◌≡◌, refl, ap, sym, subst, ◌∙◌, ℕ, zero, suc, ◌+◌, ◌≤◌, ◌<◌, ◌||◌, Bool, true, false, List, [], ◌∷◌, ◌++◌, length, Option, Some, None, arith}
use Rattle.std.proofs.lemmas.Bool.{false≢true}
use Rattle.std.proofs.lemmas.List.{reverse-append}
use Rattle.std.specs.Prelude.{drop, reverse, if◌then◌else◌}
use Rattle.doc_text.specs.declared.document.Doc.{Doc}
use Rattle.doc_text.specs.Edits.{tree_of}
use Rattle.doc_text.specs.Histories.{History, redone, undone}
use Rattle.doc_text.specs.Valid.{IsValid}
use Rattle.edit_journal.specs.declared.change.Change.{Change}
use Rattle.edit_journal.specs.declared.change.Step.{Step}
use Rattle.edit_journal.specs.Changes.{CanTurn, turned}
use Rattle.edit_journal.specs.Journals.{IsMadeAgain, IsTakenBack, KeepsLists, Lists, MakesLastAgain, TakesBackLast}
use Rattle.node_arena.specs.declared.number.NodeId.{NodeId}
use Rattle.node_arena.specs.Numbers.{EachNode, Part, part_at, value_at, value_of}
use Rattle.node_arena.proofs.Parts.{each_weaker}
use Rattle.placing.specs.declared.node.Node.{Node}
use Rattle.placing.specs.Kept.{kept_at, kept_of}
use Rattle.placing.specs.Nodes.{NodeTrees}
use Rattle.asked_pages.specs.Leaves.{PassesUp}
use Rattle.asked_pages.proofs.Above.{touched_up, touched_with}
use Rattle.page_tree.specs.Pages.{Held, document_of}
use Rattle.page_tree.specs.Reach.{KeepsOn, LeavesOthers, touches}
use Rattle.session.specs.Courses.{Steps, back_of, docs_along, forward_of, history_by, made_again, taken_back, touched_along}
use Rattle.session.specs.Engine.{KeepsUntouched, MakesAgain, Spreads, TakesBack, Traced, history_in}
use Rattle.session.specs.Standing.{HaveLed, LeadAlong, LeadsOn, steps_of}
use Rattle.session.proofs.LeafNames.{each_there}
use Rattle.session.proofs.Replies.{passes_same}

-- ---- what two changes keep, one after the other

or_true : (a : Bool) → (a || true) ≡ true
or_true true = refl
or_true false = refl

or_false : (a : Bool) → (a || false) ≡ a
or_false true = refl
or_false false = refl

or_next : (a b c : Bool) → (a || (b || c)) ≡ ((a || b) || c)
or_next true b c = refl
or_next false b c = refl

value_there : (P : NodeId × Node → Type 0) (t : NodeTrees) (n : NodeId) (v : Node) → EachNode P t → value_at t n ≡ Some v → P (n, v)
value_there P t n v each there = by_part (part_at t n) refl there
  where
    some_same : (x y : Node) → Some x ≡ Some y → x ≡ y
    some_same x y e = cc

    by_part : (o : Option (Part Node)) → part_at t n ≡ o → value_of o ≡ Some v → P (n, v)
    by_part None e f = absurd cc
    by_part (Some p) e f = subst (λ (x : Node). P (n, x)) (some_same p.0 v f) (each_there P t n p each e)

module _ (first second : List ℕ → Bool) (a b c : Held) where
  abbrev both : List ℕ → Bool
  both name = first name || second name

  keeps_touched : (x : NodeId × Node) → KeepsOn (second x.1.name) b.nodes.tree x → second x.1.name ≡ true → KeepsOn (both x.1.name) a.nodes.tree x
  keeps_touched x on e =
      let all : both x.1.name ≡ true = ap (λ (t : Bool). first x.1.name || t) e ∙ or_true (first x.1.name) in
      record {
        kept = on.kept ∙ ap (λ (t : Bool). if t then [] else kept_at b.nodes.tree x.0) e ∙ ap (λ (t : Bool). if t then [] else kept_at a.nodes.tree x.0) (sym all);
        stood = λ f. absurd (false≢true (sym f ∙ all));
      }

  keeps_kept : (x : NodeId × Node) → KeepsUntouched first a b → KeepsOn (second x.1.name) b.nodes.tree x → second x.1.name ≡ false → KeepsOn (both x.1.name) a.nodes.tree x
  unfolding kept_at
  keeps_kept x p on e =
      let there = on.stood e in
      let v = there.0 in
      let name : v.name ≡ x.1.name = there.1.1.0 in
      let here = value_there (λ y. KeepsOn (first y.1.name) a.nodes.tree y) b.nodes.tree x.0 v p there.1.0 in
      let all : both x.1.name ≡ first x.1.name = ap (λ (t : Bool). first x.1.name || t) e ∙ or_false (first x.1.name) in
      record {
        kept =
            on.kept ∙ ap (λ (t : Bool). if t then [] else kept_at b.nodes.tree x.0) e ∙ ap kept_of there.1.0 ∙ here.kept
            ∙ ap (λ (w : List ℕ). if first w then [] else kept_at a.nodes.tree x.0) name ∙ ap (λ (t : Bool). if t then [] else kept_at a.nodes.tree x.0) (sym all);
        stood = λ f.
            let before = here.stood (ap first name ∙ sym all ∙ f) in
            (before.0, (before.1.0, (before.1.1.0 ∙ name, before.1.1.1 ∙ there.1.1.1)));
      }

  pub keeps_both : KeepsUntouched first a b → KeepsUntouched second b c → KeepsUntouched both a c
  keeps_both p q =
      each_weaker (λ (x : NodeId × Node). KeepsOn (second x.1.name) b.nodes.tree x) (λ (x : NodeId × Node). KeepsOn (both x.1.name) a.nodes.tree x) c.nodes.tree (λ x on. by_second x on (second x.1.name) refl) q
    where
      by_second : (x : NodeId × Node) → KeepsOn (second x.1.name) b.nodes.tree x → (s : Bool) → second x.1.name ≡ s → KeepsOn (both x.1.name) a.nodes.tree x
      by_second x on true e = keeps_touched x on e
      by_second x on false e = keeps_kept x p on e

-- what spreads by one test of names spreads by another that says the same
spreads_same : (test other : List ℕ → Bool) (a b : Held) → ((name : List ℕ) → test name ≡ other name) → Spreads test a b → Spreads other a b
spreads_same test other a b same s = subst (λ (f : List ℕ → Bool). Spreads f a b) (λ i. λ (name : List ℕ). same name i) s

-- where nothing is changed nothing is let go
pub spreads_none : (test : List ℕ → Bool) (a b c : Held) → document_of c ≡ document_of b → KeepsUntouched (λ name. false) b c → Spreads test a b → Spreads test a c
spreads_none test a b c doc kept s =
    spreads_same (λ name. test name || false) test a c (λ name. or_false (test name))
    (record {
      kept = keeps_both test (λ name. false) a b c s.kept kept;
      up = passes_same (λ name. test name || false) test (λ name. or_false (test name)) (tree_of (document_of c)) (subst (λ (d : Doc). PassesUp test (tree_of d)) (sym doc) s.up);
    })

-- ---- the changes of steps

module _ (ahead behind : Step → Change) where
  -- the document after so many of them
  abbrev pub doc_after : ℕ → List Step → Doc → Doc
  doc_after zero steps doc = doc
  doc_after (suc n) [] doc = doc
  doc_after (suc n) (step ∷ steps) doc = doc_after n steps (turned (ahead step) doc)

  touched_more : (n : ℕ) (steps : List Step) (doc : Doc) (name : List ℕ) → touched_along ahead (suc n) steps doc name ≡ (touched_along ahead n steps doc name || touched_along ahead 1 (drop n steps) (doc_after n steps doc) name)
  touched_more zero [] doc name = refl
  touched_more zero (step ∷ steps) doc name = refl
  touched_more (suc n) [] doc name = refl
  touched_more (suc n) (step ∷ steps) doc name =
      ap (λ (b : Bool). touches (ahead step) doc (turned (ahead step) doc) name || b) (touched_more n steps (turned (ahead step) doc) name)
      ∙ or_next (touches (ahead step) doc (turned (ahead step) doc) name) (touched_along ahead n steps (turned (ahead step) doc) name) (touched_along ahead 1 (drop n steps) (doc_after n steps (turned (ahead step) doc)) name)

  -- a change more, that of the first step of those that are left
  module _ (n : ℕ) (steps left : List Step) (a b c : Held) (is : left ≡ drop n steps) (at : document_of b ≡ doc_after n steps (document_of a)) (valid : IsValid (document_of b)) (led : LeadAlong ahead behind left (document_of b)) (some : 0 < length left)
      (moved : document_of c ≡ doc_after 1 left (document_of b)) where
    abbrev earlier : List ℕ → Bool
    earlier name = touched_along ahead n steps (document_of a) name

    abbrev later : List ℕ → Bool
    later name = touched_along ahead 1 left (document_of b) name

    up_more : PassesUp earlier (tree_of (document_of b)) → PassesUp (λ name. earlier name || later name) (tree_of (document_of c))
    up_more up = by_left left led some moved
      where
        by_left : (l : List Step) → LeadAlong ahead behind l (document_of b) → 0 < length l → document_of c ≡ doc_after 1 l (document_of b) → PassesUp (λ name. earlier name || touched_along ahead 1 l (document_of b) name) (tree_of (document_of c))
        by_left [] h s m = absurd (omega (arith, s))
        by_left (step ∷ l) h s m =
            let test : List ℕ → Bool = λ name. earlier name || touches (ahead step) (document_of b) (turned (ahead step) (document_of b)) name in
            subst (λ (d : Doc). PassesUp (λ name. earlier name || touched_along ahead 1 (step ∷ l) (document_of b) name) (tree_of d)) (sym m)
            (passes_same (λ name. earlier name || touched_along ahead 1 (step ∷ l) (document_of b) name) test
            (λ name. ap (λ (t : Bool). earlier name || t) (or_false (touches (ahead step) (document_of b) (turned (ahead step) (document_of b)) name))) (tree_of (turned (ahead step) (document_of b)))
            (touched_with (ahead step) (document_of b) valid.shaped h.0.goes.sound earlier up))

    pub spreads_more : Spreads earlier a b → Spreads later b c → Spreads (touched_along ahead (n + 1) steps (document_of a)) a c
    spreads_more p q =
        let next : n + 1 ≡ suc n = omega arith in
        subst (λ (m : ℕ). Spreads (touched_along ahead m steps (document_of a)) a c) (sym next)
        (spreads_same (λ name. earlier name || later name) (touched_along ahead (suc n) steps (document_of a)) a c
        (λ name. (λ i. earlier name || touched_along ahead 1 (is i) (at i) name) ∙ sym (touched_more n steps (document_of a) name))
        (record { kept = keeps_both earlier later a b c p.kept q.kept; up = up_more p.up }))

  -- ---- one step

  -- the first of some steps went over to others
  pub record GoesOver (nears fars nears' fars' : List Step) (change : Change) : Type 0 where
    pub step : Step
    pub first : nears ≡ step ∷ nears'
    pub over : fars' ≡ step ∷ fars
    pub is : change ≡ ahead step

  -- the steps on both sides of a document that lead from it, and it is valid
  pub record LeadBoth (nears fars : List Step) (doc : Doc) : Type 0 where
    pub near : LeadAlong ahead behind nears doc
    pub far : LeadAlong behind ahead fars doc
    pub valid : IsValid doc

  led_on : (step : Step) (nears fars : List Step) (doc : Doc) → LeadBoth (step ∷ nears) fars doc → LeadBoth nears (step ∷ fars) (turned (ahead step) doc)
  led_on step nears fars doc h =
      let on = h.near.0 in
      record {
        near = h.near.1;
        far = (
          record {
            goes = on.returns;
            valid = subst IsValid (sym on.back) h.valid;
            returns = subst (CanTurn (ahead step)) (sym on.back) on.goes;
            back = ap (turned (ahead step)) on.back;
          },
          subst (LeadAlong behind ahead fars) (sym on.back) h.far,
        );
        valid = on.valid;
      }

  module _ (nears fars nears' fars' : List Step) (change : Change) (g : GoesOver nears fars nears' fars' change) (doc made : Doc) (turns : made ≡ turned change doc) where
    made_is : made ≡ turned (ahead g.step) doc
    made_is = turns ∙ ap (λ (c : Change). turned c doc) g.is

    pub led_over : LeadBoth nears fars doc → LeadBoth nears' fars' made
    led_over h =
        subst (λ (l : List Step). LeadBoth nears' l made) (sym g.over)
        (subst (LeadBoth nears' (g.step ∷ fars)) (sym made_is) (led_on g.step nears' fars doc (subst (λ (l : List Step). LeadBoth l fars doc) g.first h)))

    pub after_one : made ≡ doc_after 1 nears doc
    after_one = made_is ∙ ap (λ (l : List Step). doc_after 1 l doc) (sym g.first)

    -- the document as it was is the first one on the other side
    pub back_again : LeadBoth nears fars doc → docs_along behind fars' made ≡ doc ∷ docs_along behind fars doc
    back_again h =
        let back : turned (behind g.step) made ≡ doc = ap (turned (behind g.step)) made_is ∙ (subst (λ (l : List Step). LeadBoth l fars doc) g.first h).near.0.back in
        ap (λ (l : List Step). docs_along behind l made) g.over ∙ (λ i. back i ∷ docs_along behind fars (back i))

    pub goes_first : docs_along ahead nears doc ≡ made ∷ docs_along ahead nears' made
    goes_first = ap (λ (l : List Step). docs_along ahead l doc) g.first ∙ (λ i. sym made_is i ∷ docs_along ahead nears' (sym made_is i))

    pub touched_one : (name : List ℕ) → touches change doc made name ≡ touched_along ahead 1 nears doc name
    touched_one name = (λ i. touches (g.is i) doc (made_is i) name) ∙ sym (or_false (touches (ahead g.step) doc (turned (ahead g.step) doc) name)) ∙ ap (λ (l : List Step). touched_along ahead 1 l doc name) (sym g.first)

  module _ (nears fars nears' fars' : List Step) (change : Change) (g : GoesOver nears fars nears' fars' change) (a b : Held) (turns : document_of b ≡ turned change (document_of a)) where
    pub spreads_one : LeadBoth nears fars (document_of a) → LeavesOthers change a b → Spreads (touched_along ahead 1 nears (document_of a)) a b
    spreads_one h kept =
        let can : CanTurn change (document_of a) = subst (λ (c : Change). CanTurn c (document_of a)) (sym g.is) (subst (λ (l : List Step). LeadBoth l fars (document_of a)) g.first h).near.0.goes in
        spreads_same (touches change (document_of a) (document_of b)) (touched_along ahead 1 nears (document_of a)) a b (touched_one nears fars nears' fars' change g (document_of a) (document_of b) turns)
        (record {
          kept = kept;
          up =
              subst (λ (d : Doc). PassesUp (touches change (document_of a) d) (tree_of d)) (sym turns)
              (touched_up change (document_of a) h.valid.shaped can.sound);
        })

-- ---- histories and steps, one more

undone_more : (n : ℕ) (past : List Doc) (doc : Doc) (future : List Doc) → undone 1 (undone n past doc future).past (undone n past doc future).doc (undone n past doc future).future ≡ undone (suc n) past doc future
undone_more zero past doc future = refl
undone_more (suc n) [] doc future = refl
undone_more (suc n) (before ∷ past) doc future = undone_more n past before (doc ∷ future)

redone_more : (n : ℕ) (past : List Doc) (doc : Doc) (future : List Doc) → redone 1 (redone n past doc future).past (redone n past doc future).doc (redone n past doc future).future ≡ redone (suc n) past doc future
redone_more zero past doc future = refl
redone_more (suc n) past doc [] = refl
redone_more (suc n) past doc (after ∷ future) = redone_more n (doc ∷ past) after future

back_more : (n : ℕ) (done undone : List Step) → taken_back 1 (taken_back n done undone).done (taken_back n done undone).undone ≡ taken_back (suc n) done undone
back_more zero done undone = refl
back_more (suc n) [] undone = refl
back_more (suc n) (step ∷ done) undone = back_more n done (step ∷ undone)

again_more : (n : ℕ) (done undone : List Step) → made_again 1 (made_again n done undone).done (made_again n done undone).undone ≡ made_again (suc n) done undone
again_more zero done undone = refl
again_more (suc n) done [] = refl
again_more (suc n) done (step ∷ undone) = again_more n (step ∷ done) undone

pub back_left : (n : ℕ) (done undone : List Step) → (taken_back n done undone).done ≡ drop n done
back_left zero done undone = refl
back_left (suc n) [] undone = refl
back_left (suc n) (step ∷ done) undone = back_left n done (step ∷ undone)

pub again_left : (n : ℕ) (done undone : List Step) → (made_again n done undone).undone ≡ drop n undone
again_left zero done undone = refl
again_left (suc n) done [] = refl
again_left (suc n) done (step ∷ undone) = again_left n (step ∷ done) undone

back_doc : (n : ℕ) (done : List Step) (doc : Doc) (future : List Doc) → (undone n (docs_along back_of done doc) doc future).doc ≡ doc_after back_of forward_of n done doc
back_doc zero done doc future = refl
back_doc (suc n) [] doc future = refl
back_doc (suc n) (step ∷ done) doc future = back_doc n done (turned step.back doc) (doc ∷ future)

again_doc : (n : ℕ) (undone : List Step) (doc : Doc) (past : List Doc) → (redone n past doc (docs_along forward_of undone doc)).doc ≡ doc_after forward_of back_of n undone doc
again_doc zero undone doc past = refl
again_doc (suc n) [] doc past = refl
again_doc (suc n) (step ∷ undone) doc past = again_doc n undone (turned step.forward doc) (doc ∷ past)

-- ---- steps taken back, one more

module _ (n : ℕ) (a b c : Traced) (valid : IsValid (document_of b.page)) (led : HaveLed b.steps (document_of b.page)) where
  next : suc n ≡ n + 1
  next = omega arith

  pub takes_more : 0 < length b.steps.done → TakesBack n a b → TakesBack 1 b c → TakesBack (n + 1) a c
  takes_more some p q =
      let h = history_in a in
      let at : document_of b.page ≡ doc_after back_of forward_of n a.steps.done (document_of a.page) = ap (λ (x : History). x.doc) p.history ∙ back_doc n a.steps.done (document_of a.page) h.future in
      let moved : document_of c.page ≡ doc_after back_of forward_of 1 b.steps.done (document_of b.page) = ap (λ (x : History). x.doc) q.history ∙ back_doc 1 b.steps.done (document_of b.page) (history_in b).future in
      record {
        history = q.history ∙ (λ i. undone 1 (p.history i).past (p.history i).doc (p.history i).future) ∙ undone_more n h.past h.doc h.future ∙ ap (λ (m : ℕ). undone m h.past h.doc h.future) next;
        steps = q.steps ∙ (λ i. taken_back 1 (p.steps i).done (p.steps i).undone) ∙ back_more n a.steps.done a.steps.undone ∙ ap (λ (m : ℕ). taken_back m a.steps.done a.steps.undone) next;
        spreads =
            spreads_more back_of forward_of n a.steps.done b.steps.done a.page b.page c.page (ap (λ (s : Steps). s.done) p.steps ∙ back_left n a.steps.done a.steps.undone) at valid led.past some moved p.spreads q.spreads;
      }

  pub makes_more : 0 < length b.steps.undone → MakesAgain n a b → MakesAgain 1 b c → MakesAgain (n + 1) a c
  makes_more some p q =
      let h = history_in a in
      let at : document_of b.page ≡ doc_after forward_of back_of n a.steps.undone (document_of a.page) = ap (λ (x : History). x.doc) p.history ∙ again_doc n a.steps.undone (document_of a.page) h.past in
      let moved : document_of c.page ≡ doc_after forward_of back_of 1 b.steps.undone (document_of b.page) = ap (λ (x : History). x.doc) q.history ∙ again_doc 1 b.steps.undone (document_of b.page) (history_in b).past in
      record {
        history = q.history ∙ (λ i. redone 1 (p.history i).past (p.history i).doc (p.history i).future) ∙ redone_more n h.past h.doc h.future ∙ ap (λ (m : ℕ). redone m h.past h.doc h.future) next;
        steps = q.steps ∙ (λ i. made_again 1 (p.steps i).done (p.steps i).undone) ∙ again_more n a.steps.done a.steps.undone ∙ ap (λ (m : ℕ). made_again m a.steps.done a.steps.undone) next;
        spreads =
            spreads_more forward_of back_of n a.steps.undone b.steps.undone a.page b.page c.page (ap (λ (s : Steps). s.undone) p.steps ∙ again_left n a.steps.done a.steps.undone) at valid led.future some moved p.spreads q.spreads;
      }

-- none more
module _ (n : ℕ) (a b c : Traced) where
  pub takes_none : TakesBack n a b → TakesBack 0 b c → TakesBack n a c
  takes_none p q =
      record {
        history = q.history ∙ p.history;
        steps = q.steps ∙ p.steps;
        spreads = spreads_none (touched_along back_of n a.steps.done (document_of a.page)) a.page b.page c.page (ap (λ (x : History). x.doc) q.history) q.spreads.kept p.spreads;
      }

  pub makes_none : MakesAgain n a b → MakesAgain 0 b c → MakesAgain n a c
  makes_none p q =
      record {
        history = q.history ∙ p.history;
        steps = q.steps ∙ p.steps;
        spreads = spreads_none (touched_along forward_of n a.steps.undone (document_of a.page)) a.page b.page c.page (ap (λ (x : History). x.doc) q.history) q.spreads.kept p.spreads;
      }

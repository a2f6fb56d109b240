-- What a layout of a held document measures and keeps.
use Rattle.std.proofs.Common.{◌≡◌, refl, sym, subst, ℕ, append-nil, Bool, true, false, List, [], ◌∷◌, ◌++◌, Option, Result, Ok, Err, ◌⊎◌, inl, inr, ℤ, pos, ◌≤◌, ◌^◌, ◌≤ℤ◌, arith}
use Rattle.std.specs.Prelude.{◌-◌, ◌&&◌, not, OnOk, OnErr, neg_ℤ, unsigned_abs}
use Rattle.std.proofs.lemmas.Int.{ints}
use Rattle.std.specs.List.{All}
use Rattle.node_arena.specs.declared.number.NodeId.{NodeId}
use Rattle.node_arena.specs.Numbers.{one, top_numbers}
use Rattle.plain_tree.specs.Trees.{Trees, leafless, size_of, tree}
use Rattle.outside.specs.declared.event.Event.{Event}
use Rattle.outside.specs.declared.tally.Tally.{Tally}
use Rattle.tree_rules.specs.declared.query.Query.{Query}
use Rattle.placing.specs.Kept.{IsRight}
use Rattle.placing.specs.Nodes.{bare}
use Rattle.placing.specs.Walks.{State, state, Walk, events_of}
use Rattle.placing.proofs.Each.{Each, all_each}
use Rattle.box_layout.specs.BoxesSeen.{AreNear}
use Rattle.box_layout.specs.LeafHeights.{AreMeasured}
use Rattle.box_layout.specs.Paths.{IsAsked, IsCutOff, IsCutShort, IsPathKept}
use Rattle.box_layout.specs.Ranges.{IsWithin}
use Rattle.page_tree.specs.Pages.{Held, document_of}
use Rattle.tree_rules.specs.Answers.{Box}
use Rattle.doc_text.specs.declared.document.Doc.{Doc}
use Rattle.doc_text.specs.Documents.{is_leaf, node_limit}
use Rattle.doc_text.specs.Edits.{tree_of}
use Rattle.doc_text.specs.Label.{Label}
use Rattle.doc_text.specs.Valid.{IsValid, IsVersion}
use Rattle.asked_pages.specs.AskedOf.{containers_by}
use Rattle.asked_pages.specs.Bounds.{IsBounded}
use Rattle.page_tree.specs.Boxes as defined
use Rattle.session.specs.Boxes.{boxes_of}
use Rattle.session.specs.Laying.{Measures, KeepsMore, Keeps, WalksPage}
use Rattle.session.specs.Printing.{IsPrintableBox}
use Rattle.session.specs.Logs.{AreMeasuring}
use Rattle.session.proofs.Measured.{all_named, each_whole, each_cut}

-- ---- how many containers a document has

some_most : (test : List ℕ → Bool) (t : Trees Label) → containers_by test t ≤ size_of t
some_most test leafless = omega arith
some_most test (tree x below after) = omega (arith, one_most (not (is_leaf x.kind) && test x.name), some_most test below, some_most test after)
  where
    one_most : (b : Bool) → one b ≤ 1
    one_most true = omega arith
    one_most false = omega arith

few_containers : (test : List ℕ → Bool) (doc : Doc) → IsValid doc → containers_by test (tree_of doc) ≤ 2 ^ 64 - 1
few_containers test doc v = omega (arith, some_most test (tree_of doc), v.shaped.nodes, at doc.version v.version)
  where
    at : (n : ℕ) → IsVersion n → node_limit n ≤ 200000
    at n (inl e) = subst (λ (m : ℕ). node_limit m ≤ 200000) (sym e) (omega arith)
    at n (inr e) = subst (λ (m : ℕ). node_limit m ≤ 200000) (sym e) (omega arith)

module _ (old new : Held) (tally tally' : Tally) (passes passes' : ℕ) (log log' : Option (List Event)) (root : NodeId) (top : top_numbers old.nodes.tree ≡ root ∷ []) where
  abbrev before : State
  before = state old.nodes tally passes log

  abbrev after : State
  after = state new.nodes tally' passes' log'

  -- a whole walk, and one that was cut short
  measures_all : (May : NodeId → Query → Type 0) → Walk May 0 [] before after → Measures (document_of old) log log' tally.measured tally'.measured
  measures_all May w =
      record { events = events_of (bare old.nodes.tree) w.added ++ []; each = each_whole (document_of old) (bare old.nodes.tree) (all_named old root top) w.added; log = w.log; count = w.measured }

  measures_some : IsCutShort (bare old.nodes.tree) old.width old.height before after → Measures (document_of old) log log' tally.measured tally'.measured
  measures_some p = by_cut p.rest p.walk p.cut
    where
      by_cut : (rest : List Event) → Walk (IsAsked (bare old.nodes.tree) old.width old.height) p.more rest before after → (rest ≡ []) ⊎ IsCutOff (bare old.nodes.tree) (IsAsked (bare old.nodes.tree) old.width old.height) after rest → Measures (document_of old) log log' tally.measured tally'.measured
      by_cut rest w (inl e) =
          record {
            events = events_of (bare old.nodes.tree) w.added ++ rest;
            each = subst (λ (r : List Event). AreMeasuring (document_of old) (events_of (bare old.nodes.tree) w.added ++ r)) (sym e) (each_whole (document_of old) (bare old.nodes.tree) (all_named old root top) w.added);
            log = w.log;
            count = w.measured;
          }
      by_cut rest w (inr c) =
          record {
            events = events_of (bare old.nodes.tree) w.added ++ rest;
            each = each_cut (document_of old) (bare old.nodes.tree) (all_named old root top) w.added rest c.left c.node c.query c.begun;
            log = w.log;
            count = w.measured;
          }

  pub measures : {T E : Type 0} (r : Result T E) → OnOk r (Walk (IsAsked (bare old.nodes.tree) old.width old.height) 0 [] before after) → OnErr r (IsCutShort (bare old.nodes.tree) old.width old.height before after)
      → Measures (document_of old) log log' tally.measured tally'.measured
  measures (Ok x) p q = measures_all (IsAsked (bare old.nodes.tree) old.width old.height) p
  measures (Err e) p q = measures_some q

  pub keeps : {T E : Type 0} (r : Result T E) → OnOk r (Walk (IsAsked (bare old.nodes.tree) old.width old.height) 0 [] before after) → OnOk r (Keeps old new tally.added tally'.added passes passes')
  keeps (Ok x) p = record { more = record { entries = p.added; kept = p.kept; fresh = p.fresh }; count = p.counted; ticks = omega (arith, p.ticks) }
  keeps (Err e) p = tt

  pub keeps_some : {T E : Type 0} (r : Result T E) → OnErr r (IsCutShort (bare old.nodes.tree) old.width old.height before after) → OnErr r (KeepsMore old new)
  keeps_some (Ok x) p = tt
  keeps_some (Err e) p = record { entries = p.walk.added; kept = p.walk.kept; fresh = p.walk.fresh }

  pub walks_page : {T E : Type 0} (r : Result T E) → OnOk r (Walk (IsAsked (bare old.nodes.tree) old.width old.height) 0 [] before after) → IsRight new.nodes.tree → OnOk r (IsPathKept (bare old.nodes.tree) old.width old.height after)
      → OnOk r (AreMeasured (bare old.nodes.tree) old.width old.height before after)
      → ((s t : State) → s.arena ≡ old.nodes → (walk : Walk (IsAsked (bare old.nodes.tree) old.width old.height) 0 [] s t) → IsRight t.arena.tree → IsPathKept (bare old.nodes.tree) old.width old.height t → AreMeasured (bare old.nodes.tree) old.width old.height s t → IsBounded old walk.added)
      → IsValid (document_of old) → OnOk r (WalksPage old new tally tally' passes passes' log log')
  walks_page (Ok x) w right path leaves bounded valid =
      record {
        walk = w;
        bounded = bounded before after refl w right path leaves;
        each = subst (AreMeasuring (document_of old)) (append-nil (events_of (bare old.nodes.tree) w.added)) (each_whole (document_of old) (bare old.nodes.tree) (all_named old root top) w.added);
        few = λ test. few_containers test (document_of old) valid;
      }
  walks_page (Err e) w right path leaves bounded valid = tt

-- ---- what can be printed

near_abs : (z : ℤ) → IsWithin (2 ^ 56) z → unsigned_abs z ≤ 2 ^ 56
near_abs z h =
    let low : neg_ℤ (pos (2 ^ 56)) ≤ℤ z = h.0 in
    let high : z ≤ℤ pos (2 ^ 56) = h.1 in
    omega (arith, ints)

each_near : (boxes : List Box) → AreNear boxes → Each IsPrintableBox boxes
each_near [] p = tt
each_near (b ∷ boxes) p =
    (record { x = near_abs b.1.x p.0.x; y = near_abs b.1.y p.0.y; width = near_abs b.1.width p.0.width; height = near_abs b.1.height p.0.height }, each_near boxes p.1)

pub all_printable : (boxes : List Box) → AreNear boxes → All IsPrintableBox boxes
all_printable boxes p = all_each IsPrintableBox boxes (each_near boxes p)

pub printable : {T E : Type 0} (r : Result T E) (boxes : List Box) → OnOk r (AreNear boxes) → OnOk r (All IsPrintableBox boxes)
printable (Ok x) boxes p = all_printable boxes p
printable (Err e) boxes p = tt

-- ---- the boxes

-- what holds of them as they are defined
pub hidden : {T E : Type 0} (P : List Box → Type 0) (r : Result T E) (doc : Doc) → OnOk r (P (defined.boxes_of doc)) → OnOk r (P (boxes_of doc))
unfolding boxes_of
hidden P r doc p = p

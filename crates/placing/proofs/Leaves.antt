-- A leaf that measures and keeps its answer.
use Rattle.std.proofs.Common.{◌≡◌, ℕ, ℤ, List, [], ◌∷◌, Option, Some, None, length, refl, sym, ap, ◌∙◌, arith, append-nil, subst, inr}
use Rattle.std.specs.Prelude.{Bool, false, ◌++◌, ◌||◌, OnErr, Result, Ok, Err}
use Rattle.node_arena.specs.declared.number.NodeId.{NodeId}
use Rattle.node_arena.specs.Plain.{Nodes}
use Rattle.outside.specs.Faults.{one_more}
use Rattle.outside.specs.Told.{Adds, Stays}
use Rattle.outside.specs.declared.event.Event.{Event}
use Rattle.outside.specs.declared.tally.Tally.{Tally}
use Rattle.tree_rules.specs.declared.query.Query.{Query}
use Rattle.tree_rules.specs.KeptAnswers.{IsAbsent}
use Rattle.outside.specs.declared.event.Event.TheVariants.{Measured}
use Rattle.outside.specs.declared.event.Width.TheVariants.{Narrowest, Widest, At}
use Rattle.part_rules.specs.declared.content.Content.{Content}
use Rattle.part_rules.specs.WordLines.{height_at, narrowest, widest}
use Rattle.tree_rules.specs.Chains.{above_of}
use Rattle.tree_rules.specs.Frames.{given_size}
use Rattle.tree_rules.specs.Places.{Seen}
use Rattle.tree_rules.specs.Queries.{answer_by, answer_of, block_size, inline_sizes}
use Rattle.tree_rules.specs.Whole.{answers_by, kids_of, leaf_answers}
use Rattle.tree_rules.specs.declared.kind.NodeKind.TheVariants as kind
use Rattle.tree_rules.specs.declared.query.Ask.TheVariants as ask
use Rattle.placing.specs.declared.node.Answer.{Answer}
use Rattle.placing.specs.declared.node.Node.{Node}
use Rattle.placing.specs.Keeping.{Counts, CountsSome, Keeps}
use Rattle.placing.specs.Kept.{IsRight, kept_at}
use Rattle.placing.specs.Nodes.{bare}
use Rattle.placing.specs.Walks.{Asks, State, Stopped, Walked, events_at, events_by, leaf_events, itself, rising, state}
use Rattle.placing.proofs.Puts.{keeps_walk, keeps_within, or_false}
use Rattle.placing.proofs.Walks.{adds_more, adds_none, kept_none}

pub on_err : {T E : Type 0} (r : Result T E) (P : Type 0) → P → OnErr r P
on_err (Ok x) P p = tt
on_err (Err e) P p = p

adds_stays : (a b c : Option (List Event)) (xs : List Event) → Adds a b xs → Stays b c → Adds a c xs
adds_stays None b c xs p q = tt
adds_stays (Some us) None c xs p q = absurd p
adds_stays (Some us) (Some vs) None xs p q = absurd q
adds_stays (Some us) (Some vs) (Some ws) xs p q = q ∙ p

-- nothing was measured
pub counts_none : (tally : Tally) (a b : Option (List Event)) (events : List Event) → Stays a b → CountsSome tally tally a b events
counts_none tally a b events stays =
    record { done = []; left = events; whole = refl; counts = record { added = refl; lost = refl; measured = refl; log = adds_stays a a b [] (adds_none a) stays } }

-- the first of two was measured
pub counts_first : (old new : Tally) (a b c : Option (List Event)) (x y : Event) → new ≡ record old { measured = one_more old.measured } → Adds a b (x ∷ []) → Stays b c → CountsSome old new a c (x ∷ y ∷ [])
counts_first old new a b c x y e log stays =
    record { done = x ∷ []; left = y ∷ []; whole = refl; counts = record { added = ap (λ t. t.added) e; lost = ap (λ t. t.lost) e; measured = ap (λ t. t.measured) e; log = adds_stays a b c (x ∷ []) log stays } }

-- the first and the second of two were measured
pub counts_both : (old mid new : Tally) (a b c : Option (List Event)) (x y : Event) → mid ≡ record old { measured = one_more old.measured } → new ≡ record mid { measured = one_more mid.measured } → Adds a b (x ∷ []) → Adds b c (y ∷ []) → Counts old new a c (x ∷ y ∷ [])
counts_both old mid new a b c x y e f p q =
    record {
      added = ap (λ t. t.added) f ∙ ap (λ t. t.added) e;
      lost = ap (λ t. t.lost) f ∙ ap (λ t. t.lost) e;
      measured = ap (λ t. t.measured) f ∙ ap (λ t. one_more t.measured) e;
      log = adds_more a b c (x ∷ []) (y ∷ []) p q;
    }

-- an answer is kept once all its events were measured
module _ (old new : Nodes Node) (x y z : Tally) (a b : Option (List Event)) (n : NodeId) (q : Query) (answer : Answer) (events : List Event) (k : Keeps old new n q answer) (right : IsRight old.tree) (absent : IsAbsent q (kept_at old.tree n))
    (is : events ≡ events_at (bare old.tree) n q) (c : Counts x y a b events) (gone : Bool) (more : z ≡ record y { added = one_more y.added; lost = y.lost || gone }) (all : gone ≡ false → kept_at new.tree n ≡ kept_at old.tree n ++ (q, answer) ∷ []) (passes : ℕ) where
  pub leaf_walked : Walked n q (state old x passes a) (state new z passes b)
  leaf_walked =
      let before : State = state old x passes a in
      let after : State = state new z passes b in
      record {
        walk =
            keeps_walk before after n q answer k right (Asks (bare old.tree) n q) (itself n q) absent (omega arith)
            (ap (λ t. t.added) more ∙ ap one_more c.added)
            (ap (λ t. t.measured) more ∙ c.measured ∙ ap (λ es. rising x.measured (length es)) is)
            (subst (Adds a b) is c.log)
            (λ e. let none = or_false y.lost gone (sym (ap (λ t. t.lost) more) ∙ e) in (sym c.lost ∙ none.0, all none.1));
        within = keeps_within before after n q answer k right;
      }

-- some of its events were measured, and no answer is kept
pub leaf_stopped : (arena : Nodes Node) (x y : Tally) (a b : Option (List Event)) (n : NodeId) (q : Query) (events : List Event) → IsRight arena.tree → IsAbsent q (kept_at arena.tree n) → events ≡ events_at (bare arena.tree) n q → CountsSome x y a b events → (passes : ℕ) →
    Stopped n q (state arena x passes a) (state arena y passes b)
leaf_stopped arena x y a b n q events right absent is c passes =
    record {
      more = 0;
      rest = c.done;
      walk = record {
        added = [];
        bare_same = refl;
        frame = refl;
        kept = λ m. sym (kept_none (kept_at arena.tree m) (right.lists m).few);
        fresh = tt;
        asked = tt;
        ticks = omega arith;
        counted = c.counts.added;
        measured = c.counts.measured;
        log = c.counts.log;
        lasting = λ e. (sym c.counts.lost ∙ e, λ m p some. some);
      };
      within = λ m out. refl;
      cut = inr (record { node = n; query = q; left = c.left; begun = c.whole ∙ is; asked = itself n q; absent = absent });
    }

-- all of its events were measured, and yet no answer is kept
pub counts_all : (x y : Tally) (a b : Option (List Event)) (events : List Event) → Counts x y a b events → CountsSome x y a b events
counts_all x y a b events c = record { done = events; left = []; whole = append-nil events; counts = c }

pub leaf_unkept : (old new : Nodes Node) (x y : Tally) (a b : Option (List Event)) (n : NodeId) (q : Query) (events : List Event) → new ≡ old → IsRight old.tree → IsAbsent q (kept_at old.tree n) → events ≡ events_at (bare old.tree) n q → Counts x y a b events →
    (passes : ℕ) → Stopped n q (state old x passes a) (state new y passes b)
leaf_unkept old new x y a b n q events e right absent is c passes =
    subst (λ (z : Nodes Node). Stopped n q (state old x passes a) (state z y passes b)) (sym e) (leaf_stopped old x y a b n q events right absent is (counts_all x y a b events c) passes)

-- ---- what a leaf is asked
module _ (s : Seen) (content : Content) (name : List ℕ) (q : Query) (leaf : kind.Leaf content ≡ s.label.kind) where
  pub sizes_events : name ≡ s.label.name → q.ask ≡ ask.Inline → Measured name Narrowest ∷ Measured name Widest ∷ [] ≡ events_by s.label.kind s.label.name q
  sizes_events e a = ap (λ z. leaf_events name z q) (sym a) ∙ (λ i. events_by (leaf i) (e i) q)

  pub height_events : name ≡ s.label.name → q.ask ≡ ask.Block → (width : ℤ) → width ≡ given_size q.inline → Measured name (At width) ∷ [] ≡ events_by s.label.kind s.label.name q
  height_events e a width w = ap (λ z. Measured name (At z) ∷ []) w ∙ ap (λ z. leaf_events name z q) (sym a) ∙ (λ i. events_by (leaf i) (e i) q)

  pub sizes_answer : q.ask ≡ ask.Inline → (low high : ℤ) → ◌≡◌ {A = ℤ × ℤ} (low, high) (narrowest content, widest content) → inline_sizes (low, high) ≡ answer_of s q
  sizes_answer a low high v =
      ap inline_sizes v ∙ ap (λ z. answer_by (leaf_answers content) z q) (sym a) ∙ ap (λ k. answer_by (answers_by k s.label s.chain (kids_of (above_of s.label s.chain s.below) 0 s.below)) q.ask q) leaf

  pub height_answer : q.ask ≡ ask.Block → (width height : ℤ) → width ≡ given_size q.inline → height ≡ height_at content width → block_size height ≡ answer_of s q
  height_answer a width height w v =
      ap block_size (v ∙ ap (height_at content) w) ∙ ap (λ z. answer_by (leaf_answers content) z q) (sym a) ∙ ap (λ k. answer_by (answers_by k s.label s.chain (kids_of (above_of s.label s.chain s.below) 0 s.below)) q.ask q) leaf

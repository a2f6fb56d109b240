-- States in which the same answers are kept: what begins in the one begins in the other.
use Rattle.std.proofs.Common.{◌≡◌, ℕ, List, [], ◌++◌, Option, length, ap, refl, sym, subst, ◌∙◌, inl, inr}
use Rattle.node_arena.specs.declared.number.NodeId.{NodeId}
use Rattle.node_arena.specs.Plain.{Nodes}
use Rattle.outside.specs.Told.{Adds}
use Rattle.outside.specs.declared.event.Event.{Event}
use Rattle.outside.specs.declared.tally.Tally.{Tally}
use Rattle.tree_rules.specs.declared.query.Query.{Query}
use Rattle.tree_rules.specs.KeptAnswers.{IsAbsent}
use Rattle.placing.specs.Children.{IsOutside}
use Rattle.placing.specs.Kept.{kept_at}
use Rattle.placing.specs.Nodes.{bare}
use Rattle.placing.specs.Walks.{AreFresh, Asks, IsAlike, IsCut, State, Stopped, Walk, Walked, WalkedBelow, entries_of, events_of, frame_of_arena, kept_with, rising, state}
use Rattle.placing.specs.declared.node.Node.{Node}
use Rattle.layout_cache.specs.Kept.{answer_to}
use Rattle.std.specs.Prelude.{◌⊎◌, IsSome}

module _ (a b : Nodes Node) (bares : bare b.tree ≡ bare a.tree) (frames : frame_of_arena b ≡ frame_of_arena a) (kept : (m : NodeId) → kept_at b.tree m ≡ kept_at a.tree m) (tally : Tally) (passes : ℕ) (log : Option (List Event)) (new : State) where
  walk_alike : (May : NodeId → Query → Type 0) (more : ℕ) (rest : List Event) → Walk May more rest (state b tally passes log) new → Walk May more rest (state a tally passes log) new
  walk_alike May more rest w =
      record {
        added = w.added;
        bare_same = w.bare_same ∙ bares;
        frame = w.frame ∙ frames;
        kept = λ m. w.kept m ∙ ap (λ k. kept_with k (entries_of m w.added)) (kept m);
        fresh = subst (λ f. AreFresh f [] w.added) (λ i m. kept m i) w.fresh;
        asked = w.asked;
        ticks = w.ticks;
        counted = w.counted;
        measured = w.measured ∙ ap (λ z. rising tally.measured (length (events_of z w.added ++ rest))) bares;
        log = subst (λ z. Adds log new.log (events_of z w.added ++ rest)) bares w.log;
        lasting = λ e. let last = w.lasting e in (last.0, λ m q some. last.1 m q (subst (λ k. IsSome (answer_to q k)) (sym (kept m)) some));
      }

  pub below_alike : (n : NodeId) (q : Query) (more : ℕ) → WalkedBelow n q more (state b tally passes log) new → WalkedBelow n q more (state a tally passes log) new
  below_alike n q more w =
      record {
        walk = walk_alike (Asks (bare a.tree) n q) more [] (subst (λ z. Walk (Asks z n q) more [] (state b tally passes log) new) bares w.walk);
        within = λ m out. w.within m (subst (λ z. IsOutside z n m) (sym bares) out) ∙ kept m;
        own = w.own ∙ kept n;
      }

  pub stopped_alike : (n : NodeId) (q : Query) → Stopped n q (state b tally passes log) new → Stopped n q (state a tally passes log) new
  stopped_alike n q w =
      record {
        more = w.more;
        rest = w.rest;
        walk = walk_alike (Asks (bare a.tree) n q) w.more w.rest (subst (λ z. Walk (Asks z n q) w.more w.rest (state b tally passes log) new) bares w.walk);
        within = λ m out. w.within m (subst (λ z. IsOutside z n m) (sym bares) out) ∙ kept m;
        cut = subst (λ z. (w.rest ≡ []) ⊎ IsCut z n q new w.rest) bares w.cut;
      }

-- ---- arenas that are alike but for what nodes keep longer than their answers
module _ (a c : Nodes Node) (h : IsAlike a c) (tally : Tally) (passes : ℕ) (log : Option (List Event)) where
  -- what begins after the change begins before it
  pub from_alike : (new : State) (n : NodeId) (q : Query) (more : ℕ) → WalkedBelow n q more (state c tally passes log) new → WalkedBelow n q more (state a tally passes log) new
  from_alike new n q more w = below_alike a c h.bare h.frame h.kept tally passes log new n q more w

  pub from_stopped_alike : (new : State) (n : NodeId) (q : Query) → Stopped n q (state c tally passes log) new → Stopped n q (state a tally passes log) new
  from_stopped_alike new n q w = stopped_alike a c h.bare h.frame h.kept tally passes log new n q w

  -- what ends before the change ends after it
  walk_to_alike : (old : State) (May : NodeId → Query → Type 0) (more : ℕ) (rest : List Event) → Walk May more rest old (state a tally passes log) → Walk May more rest old (state c tally passes log)
  walk_to_alike old May more rest w =
      record {
        added = w.added;
        bare_same = h.bare ∙ w.bare_same;
        frame = h.frame ∙ w.frame;
        kept = λ m. h.kept m ∙ w.kept m;
        fresh = w.fresh;
        asked = w.asked;
        ticks = w.ticks;
        counted = w.counted;
        measured = w.measured;
        log = w.log;
        lasting = λ e. let last = w.lasting e in (last.0, λ m q some. subst (λ k. IsSome (answer_to q k)) (sym (h.kept m)) (last.1 m q some));
      }

  pub then_alike : (old : State) (n : NodeId) (q : Query) (more : ℕ) → WalkedBelow n q more old (state a tally passes log) → WalkedBelow n q more old (state c tally passes log)
  then_alike old n q more w =
      record {
        walk = walk_to_alike old (Asks (bare old.arena.tree) n q) more [] w.walk;
        within = λ m out. h.kept m ∙ w.within m out;
        own = h.kept n ∙ w.own;
      }

  pub then_walked_alike : (old : State) (n : NodeId) (q : Query) → Walked n q old (state a tally passes log) → Walked n q old (state c tally passes log)
  then_walked_alike old n q w = record { walk = walk_to_alike old (Asks (bare old.arena.tree) n q) 0 [] w.walk; within = λ m out. h.kept m ∙ w.within m out }

  pub then_stopped_alike : (old : State) (n : NodeId) (q : Query) → Stopped n q old (state a tally passes log) → Stopped n q old (state c tally passes log)
  then_stopped_alike old n q w =
      record {
        more = w.more;
        rest = w.rest;
        walk = walk_to_alike old (Asks (bare old.arena.tree) n q) w.more w.rest w.walk;
        within = λ m out. h.kept m ∙ w.within m out;
        cut = cut w.cut;
      }
    where
      cut : (w.rest ≡ []) ⊎ IsCut (bare old.arena.tree) n q (state a tally passes log) w.rest → (w.rest ≡ []) ⊎ IsCut (bare old.arena.tree) n q (state c tally passes log) w.rest
      cut (inl none) = inl none
      cut (inr k) = inr (record { node = k.node; query = k.query; left = k.left; begun = k.begun; asked = k.asked; absent = subst (IsAbsent k.query) (sym (h.kept k.node)) k.absent })

-- What a container asks, and then more that it asks, before its own answer is kept.
use Rattle.std.proofs.Common.{arith, ◌≡◌, ℕ, ◌+◌, [], sym, ap, ◌∙◌, subst, inl, inr}
use Rattle.std.specs.Prelude.{◌⊎◌}
use Rattle.node_arena.specs.declared.number.NodeId.{NodeId}
use Rattle.placing.proofs.Walks.{walk_then}
use Rattle.placing.specs.Children.{IsOutside}
use Rattle.placing.specs.Walks.{Asks, IsCut, State, Stopped, WalkedBelow, bare_in, events_at}
use Rattle.tree_rules.specs.declared.query.Query.{Query}

module _ (n : NodeId) (q : Query) (more : ℕ) (s t u : State) (w : WalkedBelow n q more s t) where
  asked_before : (m : NodeId) (r : Query) → Asks (bare_in t) n q m r → Asks (bare_in s) n q m r
  asked_before m r a = subst (λ z. Asks z n q m r) w.walk.bare_same a

  outside_after : (m : NodeId) → IsOutside (bare_in s) n m → IsOutside (bare_in t) n m
  outside_after m out = subst (λ z. IsOutside z n m) (sym w.walk.bare_same) out

  pub chained : WalkedBelow n q 0 t u → WalkedBelow n q more s u
  chained x =
      record {
        walk = walk_then (Asks (bare_in s) n q) (Asks (bare_in t) n q) more 0 more [] s t u w.walk x.walk asked_before (omega (arith, w.walk.ticks, x.walk.ticks));
        within = λ m out. x.within m (outside_after m out) ∙ w.within m out;
        own = x.own ∙ w.own;
      }

  cut_before : (v : State) (x : Stopped n q t v) → (x.rest ≡ []) ⊎ IsCut (bare_in t) n q v x.rest → (x.rest ≡ []) ⊎ IsCut (bare_in s) n q v x.rest
  cut_before v x (inl e) = inl e
  cut_before v x (inr k) = inr (record { node = k.node; query = k.query; left = k.left; begun = k.begun ∙ ap (λ z. events_at z k.node k.query) w.walk.bare_same; asked = asked_before k.node k.query k.asked; absent = k.absent })

  pub chained_stopped : Stopped n q t u → Stopped n q s u
  chained_stopped x =
      record {
        more = more + x.more;
        rest = x.rest;
        walk = walk_then (Asks (bare_in s) n q) (Asks (bare_in t) n q) more x.more (more + x.more) x.rest s t u w.walk x.walk asked_before (omega (arith, w.walk.ticks, x.walk.ticks));
        within = λ m out. x.within m (outside_after m out) ∙ w.within m out;
        cut = cut_before u x x.cut;
      }

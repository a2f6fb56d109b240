use Rattle.std.proofs.Common.{sym, ap, ◌∙◌, inr}
use Rattle.node_arena.specs.Numbers.{value_at, value_of}
use Rattle.node_arena.specs.Inside.{of_turn}
use Rattle.node_arena.specs.Plain.{is_live, with_value}
use Rattle.node_arena.proofs.Reading.{live_slot, live_value, stale_part, numbers, no_value}
use Rattle.node_arena.proofs.Changed.{whole_fits_written, whole_written, same_lend}
use Rattle.node_arena.proofs.arena.Arena.get_mut.Goals as goal

pub returns-then-not-is_live : goal.returns-then-not-is_live
returns-then-not-is_live g c = (
  λ i. inr (c.self.view_is i),
  record {
    writes_back = tt;
    value = no_value _ c.args.id (ap (λ n. is_live n c.args.id) (sym c.self.view_is) ∙ sym c.is_live.ensures.live ∙ c.if-not-is_live.true);
    numbered = rw (← c.self.view_is) (numbers _ _ _ _ _ _ c.self.invariant);
  },
)

pub invariant_of-self-lent : goal.invariant_of-self-lent
invariant_of-self-lent g c =
    let e = live_slot _ _ _ _ _ _ c.self.invariant c.args.id c.in-Some.slot.now (sym c.is_live.ensures.live ∙ c.if-not-is_live.false) (sym c.in-Some.ensures.value) in
    λ w. whole_fits_written _ _ _ _ _ _ c.self.invariant c.args.id c.in-Some.slot.now e w

pub returns-in-Some : goal.returns-in-Some
returns-in-Some g c =
    let e = live_slot _ _ _ _ _ _ c.self.invariant c.args.id c.in-Some.slot.now (sym c.is_live.ensures.live ∙ c.if-not-is_live.false) (sym c.in-Some.ensures.value) in (
      same_lend _ _ _ (λ w. (λ i. record { tree = whole_written _ _ _ _ _ _ c.self.invariant c.args.id c.in-Some.slot.now e w i; made = c.self.inside.made; most_nodes = c.self.inside.most_nodes; most_children = c.self.inside.most_children }) ∙ ap (with_value c.args.id w) c.self.view_is),
      record {
        writes_back = tt;
        value = sym (live_value _ _ _ _ _ _ c.self.invariant c.args.id c.in-Some.slot.now e) ∙ ap (λ n. value_at n.tree c.args.id) c.self.view_is;
        numbered = rw (← c.self.view_is) (numbers _ _ _ _ _ _ c.self.invariant);
      },
    )

pub returns-in-None : goal.returns-in-None
returns-in-None g c = (
  λ i. inr (c.self.view_is i),
  record {
    writes_back = tt;
    value = ap value_of (sym (stale_part _ _ _ _ _ _ c.self.invariant c.args.id (ap (of_turn c.args.id.turn) (sym c.in-None.ensures.value)))) ∙ ap (λ n. value_at n.tree c.args.id) c.self.view_is;
    numbered = rw (← c.self.view_is) (numbers _ _ _ _ _ _ c.self.invariant);
  },
)

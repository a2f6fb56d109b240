use Rattle.std.proofs.Common.{sym, subst, ℤ}
use Rattle.tree_rules.specs.NodeSizes.{is_auto_margin}
use Rattle.box_layout.specs.Ranges.{IsRoom}
use Rattle.box_layout.proofs.Rooms.{after_room, before_room}
use Rattle.box_layout.proofs.aligned.taken.Goals as goal

pub returns-clause-before : goal.returns-clause-before
returns-clause-before c =
    let Is : ℤ × ℤ → Type 0 = λ p. IsRoom p.0 in
    subst Is (sym c.auto_taken.ensures) (before_room c.args.room (is_auto_margin c.args.margins.now.start) (is_auto_margin c.args.margins.now.end) c.requires)

pub returns-clause-after : goal.returns-clause-after
returns-clause-after c =
    let Is : ℤ × ℤ → Type 0 = λ p. IsRoom p.1 in
    subst Is (sym c.auto_taken.ensures) (after_room c.args.room (is_auto_margin c.args.margins.now.start) (is_auto_margin c.args.margins.now.end) c.requires)

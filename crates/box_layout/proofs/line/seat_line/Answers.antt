use Rattle.std.proofs.Common.{arith, ap, ◌≡◌, ◌≤◌, ◌∙◌, sym, subst, ℤ, pos, ◌-ℤ◌, List, ◌++◌, length}
use Rattle.std.specs.Prelude.{IfOk}
use Rattle.part_rules.specs.Lists.{sum_of}
use Rattle.box_layout.specs.declared.seats.Seat.{Seat}
use Rattle.box_layout.specs.Ranges.{IsFree}
use Rattle.box_layout.specs.Seats.{line_seats, moved_by_rest, seats_along}
use Rattle.box_layout.proofs.Steps.{line_is}
use Rattle.box_layout.proofs.Sums.{free_is}
use Rattle.box_layout.proofs.line.seat_line.Goals as goal

pub seat_along-requires-clause-free : goal.seat_along-requires-clause-free
seat_along-requires-clause-free c =
    let few : length c.deref.result.now ≤ 131072 = omega (arith, ap length c.deref.ensures.value, c.in_ok-taken.ensures.count, c.requires.few) in
    subst IsFree (sym c.sub-free.ensures) (free_is c.line_rest-rest.result c.total.result (length c.deref.result.now) c.line_rest-rest.ensures.range c.total.ensures.range few)

pub returns : goal.returns
returns c =
    let flex = c.args.flex.now in
    let line = c.args.line.now in
    let rest = c.line_rest-rest.result in
    let taken : List ℤ = c.in_ok-taken.taken.items in
    let free : c.sub-free.result ≡ rest -ℤ sum_of taken = c.sub-free.ensures ∙ ap (λ z. rest -ℤ z) (c.total.ensures.value ∙ ap sum_of c.deref.ensures.value) in
    let same : c.args.seats ++ seats_along flex (record { at = c.args.at; size = c.args.size }) (moved_by_rest flex.along c.sub-free.result (length line)) 0 (pos 0) c.deref-2.result.now line ≡ c.args.seats ++ line_seats flex (record { at = c.args.at; size = c.args.size }) line =
    ap (λ (ts : List ℤ). c.args.seats ++ seats_along flex (record { at = c.args.at; size = c.args.size }) (moved_by_rest flex.along c.sub-free.result (length line)) 0 (pos 0) ts line) c.deref-2.ensures.value
    ∙ ap (λ (ss : List Seat). c.args.seats ++ ss) (line_is flex (record { at = c.args.at; size = c.args.size }) line rest c.sub-free.result taken c.line_rest-rest.ensures.value c.in_ok-taken.ensures.value free) in
    let Is : List Seat → Type 0 = λ ss. IfOk c.seat_along.result (λ all. all ≡ ss) in
    subst Is same c.seat_along.ensures

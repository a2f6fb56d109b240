use Rattle.std.proofs.Common.{◌≡◌, ◌+◌, ◌≤◌, ℕ, List, Some, None, ap, ◌∙◌, length, drop, min, arith, length-drop}
use Rattle.std.specs.List.{position_or_len}
use Rattle.text_scan.specs.Lines.{is_line_feed}
use Rattle.text_scan.specs.Stream.{after_next}
use Rattle.text_scan.proofs.Front.{position_or_len-le}
use Rattle.text_scan.proofs.Due.{due_cases}
use Rattle.text_scan.proofs.Taken.{took}
use Rattle.text_scan.proofs.lines.Lines.take_due.Goals as goal

pub invariant_of-self : goal.invariant_of-self
invariant_of-self c =
    let held_is = c.from_index-held.ensures ∙ ap (λ (xs : List ℕ). drop c.self.inside.start xs) c.deref.ensures.value in
    let due = due_cases c.args.ended c.from_index-held.result.now None c.in-None.ensures in
    record {
      within = c.self.invariant.within;
      searched = omega (arith, due.no_feed, ap (λ (xs : List ℕ). position_or_len is_line_feed xs) held_is);
      stored = c.self.invariant.stored;
      from_one = c.self.invariant.from_one;
      counted = c.self.invariant.counted;
      bounded = c.self.invariant.bounded;
    }

pub read_line-requires-clause-front : goal.read_line-requires-clause-front
read_line-requires-clause-front c =
    let due = due_cases c.args.ended c.from_index-held.result.now (Some c.in-Some.end) c.in-Some.ensures in
    omega (arith, due.at_feed, position_or_len-le is_line_feed c.from_index-held.result.now)

pub read_line-requires-clause-fits : goal.read_line-requires-clause-fits
read_line-requires-clause-fits c =
    let held_is = c.from_index-held.ensures ∙ ap (λ (xs : List ℕ). drop c.self.inside.start xs) c.deref.ensures.value in
    omega (arith, ap (λ (xs : List ℕ). length xs) held_is, length-drop c.self.inside.start c.self.inside.held.items, c.self.invariant.stored, c.self.invariant.bounded)

pub overflow_add-self-inside : goal.overflow_add-self-inside
overflow_add-self-inside c =
    let held_is = c.from_index-held.ensures ∙ ap (λ (xs : List ℕ). drop c.self.inside.start xs) c.deref.ensures.value in
    let due = due_cases c.args.ended c.from_index-held.result.now (Some c.in-Some.end) c.in-Some.ensures in
    let end : c.in-Some.end ≤ length c.from_index-held.result.now = omega (arith, due.at_feed, position_or_len-le is_line_feed c.from_index-held.result.now) in
    omega (arith, end, ap (λ (xs : List ℕ). length xs) held_is, length-drop c.self.inside.start c.self.inside.held.items, c.self.invariant.within, c.self.invariant.stored, c.self.invariant.bounded)

pub overflow_add-self-inside-2 : goal.overflow_add-self-inside-2
overflow_add-self-inside-2 c =
    let held_is = c.from_index-held.ensures ∙ ap (λ (xs : List ℕ). drop c.self.inside.start xs) c.deref.ensures.value in
    let due = due_cases c.args.ended c.from_index-held.result.now (Some c.in-Some.end) c.in-Some.ensures in
    let end : c.in-Some.end ≤ length c.from_index-held.result.now = omega (arith, due.at_feed, position_or_len-le is_line_feed c.from_index-held.result.now) in
    omega (arith, end, ap (λ (xs : List ℕ). length xs) held_is, length-drop c.self.inside.start c.self.inside.held.items, c.self.invariant.within, c.self.invariant.stored, c.self.invariant.bounded)

pub returns-clause-ok : goal.returns-clause-ok
returns-clause-ok c =
    let a = c.self.inside in
    let held_is = c.from_index-held.ensures ∙ ap (λ (xs : List ℕ). drop a.start xs) c.deref.ensures.value in
    let due = due_cases c.args.ended c.from_index-held.result.now (Some c.in-Some.end) c.in-Some.ensures in
    let long : c.len.result ≡ length a.held.items = omega (arith, c.len.ensures, a.held.ok.0) in
    ap (λ (k : ℕ). record { number = a.number + 1; fed = a.fed; held = drop k a.held.items }) (c.min-self-inside.ensures ∙ ap (λ (k : ℕ). min (a.start + c.in-Some.end + 1) k) long)
    ∙ took c.args.ended a.number a.fed a.start c.in-Some.end a.held.items c.from_index-held.result.now held_is due
    ∙ ap (after_next c.args.ended) c.self.view_is

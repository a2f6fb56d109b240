use Rattle.std.proofs.Common.{ℕ, List, ap, ◌∙◌, length, arith, length-append}
use Rattle.text_scan.specs.Stream.{Stream}
use Rattle.text_scan.proofs.Taken.{still_searched}
use Rattle.text_scan.proofs.lines.Lines.feed.Goals as goal

pub invariant_of-self-2 : goal.invariant_of-self-2
invariant_of-self-2 c =
    let a = c.self.inside in
    let items = c.in_ok-extend_from_slice.ensures.items in
    let long = ap (λ (xs : List ℕ). length xs) items ∙ length-append a.held.items c.args.piece.now in
    let fed = ap (λ (s : Stream). s.fed) (c.self.view_is ∙ c.compact.ensures) in
    record {
      within = omega (arith, long, c.self.invariant.within);
      searched = still_searched a.held.items c.args.piece.now c.extend_from_slice.new.self.items a.start a.searched items c.self.invariant.within c.self.invariant.searched;
      stored = omega (arith, long, c.self.invariant.stored);
      from_one = c.self.invariant.from_one;
      counted = omega (arith, long, c.self.invariant.counted);
      bounded = omega (arith, fed, c.requires);
    }

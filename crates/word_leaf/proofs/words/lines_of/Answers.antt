use Rattle.std.proofs.Common.{arith, ap, sym, ◌≡◌, ◌∙◌, ◌+◌, ◌+ℤ◌, true, int_le, get_or, drop}
use Rattle.std.proofs.lemmas.Int.{ints}
use Rattle.word_leaf.proofs.Filling.{begun, joins_where, begins_where}
use Rattle.word_leaf.proofs.words.lines_of.Goals as goal
use Rattle.word_leaf.proofs.words.lines_of.Goals.{then-fits, else-fits}

pub loop-word-preserved : goal.loop-word-preserved
loop-word-preserved c =
    let joined : c.add-joined.result ≡ c.loop-word.line_width +ℤ c.args.space +ℤ get_or c.in-Some.rest.now c.loop-word.word-index c.word-item.result = omega (arith, ints) in
    let rest = drop (c.loop-word.word-index + 1) c.in-Some.rest.now in
    elim c.if-fits.branch [
      | then-fits w ↦
          let test : int_le c.add-joined.result c.args.width ≡ true = sym c.fits.ensures ∙ w.if-fits.true in
          record {
            so_far = ap (λ n. n + begun c.args.space c.args.width c.if-fits.line_width rest) w.lines-is ∙ ap (λ z. c.loop-word.lines + begun c.args.space c.args.width z rest) w.line_width-is
                ∙ joins_where c.args.space c.args.width c.loop-word.line_width c.add-joined.result c.in-Some.rest.now c.loop-word.word-index c.word-item.result c.loop-word.lines _ c.loop-word-test.true joined test c.loop-word.invariant.so_far;
            few = omega arith;
            low = omega (arith, ints);
            high = omega (arith, ints, test);
          }
      | else-fits w ↦ record {
        so_far = ap (λ n. n + begun c.args.space c.args.width c.if-fits.line_width rest) w.lines-is ∙ ap (λ z. (c.loop-word.lines + 1) + begun c.args.space c.args.width z rest) (w.line_width-is ∙ w.wide-line_width-else-fits.ensures.value ∙ c.word-item.is)
            ∙ begins_where c.args.space c.args.width c.loop-word.line_width c.add-joined.result c.in-Some.rest.now c.loop-word.word-index c.word-item.result c.loop-word.lines _ c.loop-word-test.true joined (sym c.fits.ensures ∙ w.if-fits.false) c.loop-word.invariant.so_far;
        few = omega arith;
        low = omega (arith, ints);
        high = omega (arith, ints);
      }
    ]

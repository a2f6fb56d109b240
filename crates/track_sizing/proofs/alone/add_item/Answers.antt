use Rattle.std.proofs.Common.{arith, ap, ◌∙◌, sym, ◌<◌, Bool, length}
use Rattle.std.proofs.lemmas.Int.{ints}
use Rattle.track_sizing.specs.declared.alone.Single.{Single}
use Rattle.track_sizing.specs.Alone.{single_alone}
use Rattle.track_sizing.proofs.Known.{alone_is}
use Rattle.track_sizing.proofs.Lone.{counts, flexible_stays}
use Rattle.track_sizing.proofs.Unchanged.{single_quiet}
use Rattle.track_sizing.proofs.alone.add_item.Goals as goal

pub returns-then-flexible-clause-singles : goal.returns-then-flexible-clause-singles
returns-then-flexible-clause-singles g c =
    let at : c.place_of-place.result < length c.args.rows.now = omega (arith, ints, c.place_of-place.ensures, c.requires.item.some, c.requires.item.end) in
    flexible_stays c.args.space.now c.args.gap c.args.first c.args.rows.now c.args.item.now c.args.rows.now c.args.singles.now c.place_of-place.result c.index-rows-place.result c.requires.length c.requires.set c.place_of-place.ensures at c.index-rows-place.is
    (sym c.flexible.ensures ∙ c.if-flexible.true)

pub returns-then-flexible-clause-quiet : goal.returns-then-flexible-clause-quiet
returns-then-flexible-clause-quiet g c = λ e. single_quiet c.args.gap c.args.item.now c.is_single.result c.is_single.ensures c.if-not-is_single.false

pub returns-clause-singles : goal.returns-clause-singles
returns-clause-singles g c =
    let at : c.place_of-place.result < length c.args.rows.now = omega (arith, ints, c.place_of-place.ensures, c.requires.item.some, c.requires.item.end) in
    counts c.args.space.now c.args.gap c.args.first c.args.rows.now c.args.item.now c.args.rows.now c.args.singles.now c.place_of-place.result c.index-rows-place.result c.index-singles-place.result c.single_more.result c.requires.length c.requires.set
    (sym c.is_single.ensures ∙ c.if-not-is_single.false) c.place_of-place.ensures at c.index-rows-place.is (sym c.flexible.ensures ∙ c.if-flexible.false) c.index-singles-place.is
    (c.single_more.ensures
    ∙ ap (λ (s : Single). single_alone c.is_definite.result c.args.item.now c.index-rows-place.result s) (sym c.index-singles-place.is)
    ∙ ap (λ (b : Bool). single_alone b c.args.item.now c.index-rows-place.result c.index-singles-place.result) c.is_definite.ensures
    ∙ alone_is c.args.space.now c.args.gap c.args.first c.args.rows.now c.args.item.now c.place_of-place.result c.index-rows-place.result c.index-singles-place.result c.requires.set c.place_of-place.ensures (sym c.is_single.ensures ∙ c.if-not-is_single.false) at c.index-rows-place.is)

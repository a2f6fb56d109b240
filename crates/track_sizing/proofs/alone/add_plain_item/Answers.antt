use Rattle.std.proofs.Common.{arith, ap, ◌≡◌, ◌∙◌, sym, ◌<◌, Bool, false, length}
use Rattle.std.proofs.lemmas.Int.{ints}
use Rattle.part_rules.specs.Tracks.{is_definite}
use Rattle.track_sizing.specs.declared.alone.Single.{Single}
use Rattle.track_sizing.specs.Alone.{is_special, single_plain}
use Rattle.track_sizing.proofs.Known.{alone_is, none_special, plain_alone, plain_rigid}
use Rattle.track_sizing.proofs.Lone.{counts}
use Rattle.track_sizing.proofs.Unchanged.{single_quiet}
use Rattle.track_sizing.proofs.alone.add_plain_item.Goals as goal

pub returns-clause-singles : goal.returns-clause-singles
returns-clause-singles g c =
    let at : c.place_of-place.result < length c.args.rows.now = omega (arith, ints, c.place_of-place.ensures, c.requires.item.some, c.requires.item.end) in
    let plain : is_special c.index-rows-place.result ≡ false = none_special c.args.rows.now c.place_of-place.result c.index-rows-place.result c.requires.plain at c.index-rows-place.is in
    counts c.args._space.now c.args.gap c.args.first c.args.rows.now c.args.item.now c.args.rows.now c.args.singles.now c.place_of-place.result c.index-rows-place.result c.index-singles-place.result c.single_plain.result c.requires.length c.requires.set
    (sym c.is_single.ensures ∙ c.if-not-is_single.false) c.place_of-place.ensures at c.index-rows-place.is (plain_rigid c.index-rows-place.result plain) c.index-singles-place.is
    (c.single_plain.ensures
    ∙ ap (λ (s : Single). single_plain c.args.definite c.args.item.now s) (sym c.index-singles-place.is)
    ∙ ap (λ (b : Bool). single_plain b c.args.item.now c.index-singles-place.result) c.requires.definite
    ∙ plain_alone (is_definite c.args._space.now) c.args.item.now c.index-rows-place.result c.index-singles-place.result plain
    ∙ alone_is c.args._space.now c.args.gap c.args.first c.args.rows.now c.args.item.now c.place_of-place.result c.index-rows-place.result c.index-singles-place.result c.requires.set c.place_of-place.ensures (sym c.is_single.ensures ∙ c.if-not-is_single.false) at c.index-rows-place.is)

pub returns-clause-quiet : goal.returns-clause-quiet
returns-clause-quiet g c = λ e. single_quiet c.args.gap c.args.item.now c.is_single.result c.is_single.ensures c.if-not-is_single.false

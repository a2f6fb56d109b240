use Rattle.std.proofs.Common.{arith, ap, ◌≡◌, ◌∙◌, sym, length}
use Rattle.part_rules.specs.Lists.{zipped}
use Rattle.track_sizing.specs.Alone.{fit_single}
use Rattle.track_sizing.proofs.Best.{whole_front}
use Rattle.track_sizing.proofs.Lone.{all_fit}
use Rattle.track_sizing.proofs.Unspanned.{unspanned}
use Rattle.track_sizing.proofs.alone.fit_alone.Goals as goal

pub returns-clause-rows : goal.returns-clause-rows
returns-clause-rows g c =
    let whole : c.deref.result.now ≡
    c.count_items-quiet.new.singles = c.deref.ensures.value ∙
    whole_front c.in_ok-singles.singles.len c.count_items-quiet.new.singles c.in_ok-singles.singles.items (omega (arith, ap length c.deref_mut.ensures.value, c.deref_mut.ensures.len)) (omega (arith, ap length c.deref_mut.ensures.value, c.count_items-quiet.auto.singles)) in
    c.fit_each.ensures ∙ ap (zipped fit_single c.args.rows.now) (whole ∙ c.count_items-quiet.ensures.singles) ∙ all_fit c.args.space.now c.args.gap c.args.rows.now c.args.items.now c.args.rows.now

pub returns-then-not-some_single-clause-rows : goal.returns-then-not-some_single-clause-rows
returns-then-not-some_single-clause-rows g c = c.fit_to_none.ensures ∙ sym (unspanned c.args.space.now c.args.gap c.args.items.now c.args.rows.now (sym c.some_single.ensures ∙ c.if-not-some_single.true))

use Rattle.std.proofs.Common.{arith, ap, subst, ◌≡◌, ◌∙◌, sym, ℤ, ◌-ℤ◌, List, map, take, drop, length}
use Rattle.std.proofs.lemmas.Int.{ints}
use Rattle.fr_tracks.specs.Settled.{HaveBases}
use Rattle.part_rules.specs.declared.fraction.FrRow.{FrRow}
use Rattle.part_rules.specs.Fractions.{fraction_of, left_flexible}
use Rattle.part_rules.specs.Tracks.{fr_row, inner_gutters, spanned}
use Rattle.track_sizing.proofs.Best.{bases_drop, bases_take, map_drop, map_take}
use Rattle.track_sizing.proofs.Singles.{spanned_at}
use Rattle.track_sizing.proofs.flex.item_fraction.Goals as goal

pub fraction_in-requires-clause-bases : goal.fraction_in-requires-clause-bases
fraction_in-requires-clause-bases c =
    subst HaveBases (sym (c.split_at-2.ensures.front ∙ ap (take c.span_length-tracks.result) c.split_at.ensures.back)) (bases_take c.span_length-tracks.result (drop c.place_of-start.result c.args.all.now) (bases_drop c.place_of-start.result c.args.all.now c.requires.bases))

pub returns-clause-value : goal.returns-clause-value
returns-clause-value c =
    let at = c.place_of-start.result in
    let n = c.span_length-tracks.result in
    let mine : c.split_at-2.result.0.now ≡ map fr_row (spanned c.args.item.now c.args.rows.now) =
    c.split_at-2.ensures.front ∙ ap (take n) c.split_at.ensures.back ∙ ap (λ (xs : List FrRow). take n (drop at xs)) c.requires.all ∙ ap (take n) (map_drop fr_row at c.args.rows.now) ∙ map_take fr_row n (drop at c.args.rows.now)
    ∙ ap (map fr_row) (sym (spanned_at c.args.item.now c.args.first c.args.rows.now at n c.requires.set c.place_of-start.ensures (omega (arith, ints, c.span_length-tracks.ensures.value)))) in
    let space : c.sub.result ≡ c.args.item.now.high -ℤ inner_gutters c.args.gap c.args.item.now = omega (arith, ints, c.sub.ensures, c.inner_gutters.ensures.value, c.wide.ensures.value) in
    c.fraction_in.ensures.value
    ∙ ap (λ (z : ℤ). fraction_of z (left_flexible (length c.split_at-2.result.0.now) z c.split_at-2.result.0.now)) space
    ∙ ap (λ (xs : List FrRow). fraction_of (c.args.item.now.high -ℤ inner_gutters c.args.gap c.args.item.now) (left_flexible (length xs) (c.args.item.now.high -ℤ inner_gutters c.args.gap c.args.item.now) xs)) mine

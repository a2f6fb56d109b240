use Rattle.std.proofs.Common.{rules, arith, ◌≡◌, ◌+◌, ◌*◌, ◌++◌, ℕ, List, drop, length, ap, ◌∙◌}
use Rattle.std.specs.Prelude.{slice_index_or}
use Rattle.std.proofs.lemmas.List.{get_or_default}
use Rattle.runs.specs.Times.{items_of, times}
use Rattle.runs.proofs.Times.{items_at}
use Rattle.style_types.specs.Parts.{IsPartBy}
use Rattle.style_types.specs.declared.track.TrackFn.{TrackFn}
use Rattle.style_types.proofs.Parts.{walk_fits, walk_next}
use Rattle.style_types.proofs.listed.parts_by.Goals as goal

pub with-requires : goal.with-requires
with-requires c =
    let part = c.index-tracks-at.result in
    let own = c.index-units-at.result in
    let tracks = c.args.tracks.now in
    let units = c.args.units.now in
    let after = items_of (drop (c.loop-at.at + 1) tracks) in
    let l : items_of (drop c.loop-at.at tracks) ≡ times part.0 part.1 ++ after = search (rules, items_at) in
    let p : IsPartBy c.args.em c.args.rem part own c.in-Some.body = search rules in
    let same : slice_index_or tracks c.loop-at.at c.index-tracks-at-in-Some.result ≡ part = search (rules, get_or_default) in
    let count : (slice_index_or tracks c.loop-at.at c.index-tracks-at-in-Some.result).0 * length c.in-Some.body ≡ part.0 * length c.in-Some.body = ap (λ (x : ℕ × List TrackFn). x.0 * length c.in-Some.body) same in
    let fits = walk_fits c.args.em c.args.rem (items_of tracks) (items_of (drop c.loop-at.at tracks)) after (items_of units) (items_of (drop c.loop-at.at units)) c.loop-at.made c.in-Some.body part own l p c.loop-at.invariant c.requires in
    omega (arith, count, fits)

pub loop-at-preserved : goal.loop-at-preserved
loop-at-preserved c =
    let part = c.index-tracks-at.result in
    let own = c.index-units-at.result in
    let tracks = c.args.tracks.now in
    let units = c.args.units.now in
    let after = items_of (drop (c.loop-at.at + 1) tracks) in
    let later = items_of (drop (c.loop-at.at + 1) units) in
    let l : items_of (drop c.loop-at.at tracks) ≡ times part.0 part.1 ++ after = search (rules, items_at) in
    let r : items_of (drop c.loop-at.at units) ≡ times own.0 own.1 ++ later = search (rules, items_at) in
    let p : IsPartBy c.args.em c.args.rem part own c.in-Some.body = search rules in
    let same : slice_index_or tracks c.loop-at.at c.index-tracks-at-in-Some.result ≡ part = search (rules, get_or_default) in
    let n : c.in_ok-made-in-Some.made ≡ c.loop-at.made ++ times part.0 c.in-Some.body = c.in_ok-made-in-Some.ensures ∙ ap (λ (x : ℕ × List TrackFn). c.loop-at.made ++ times x.0 c.in-Some.body) same in
    walk_next c.args.em c.args.rem (items_of tracks) (items_of (drop c.loop-at.at tracks)) after (items_of units) (items_of (drop c.loop-at.at units)) later c.loop-at.made c.in_ok-made-in-Some.made c.in-Some.body part own l r p n c.loop-at.invariant

use Rattle.std.proofs.Common.{◌≡◌, ap, ◌∙◌, subst, List, ℤ, ◌+ℤ◌}
use Rattle.std.specs.Prelude.{IfOk}
use Rattle.part_rules.specs.Views.{all_tracks, seen, first_start}
use Rattle.subgrid_view.specs.Moves.{moved_from}
use Rattle.subgrid_view.proofs.Tracks.{origin_in_range, all_seen}
use Rattle.subgrid_view.proofs.view.seen.Goals as goal

pub moves_for-requires-clause-origin : goal.moves_for-requires-clause-origin
moves_for-requires-clause-origin c =
    let origin : c.add-origin.result ≡ first_start c.args.tracks.now +ℤ c.args.before = c.add-origin.ensures ∙ ap (λ z. z +ℤ c.wide.result) c.first_start.ensures.value ∙ ap (λ z. first_start c.args.tracks.now +ℤ z) c.wide.ensures.value in
    origin_in_range c.args.tracks.now c.wide.result c.add-origin.result c.requires.near c.wide.ensures.range (c.add-origin.ensures ∙ ap (λ z. z +ℤ c.wide.result) c.first_start.ensures.value)

pub returns : goal.returns
returns c =
    let tracks = c.args.tracks.now in
    let d = c.args.difference in
    let origin : c.add-origin.result ≡ first_start tracks +ℤ c.args.before = c.add-origin.ensures ∙ ap (λ z. z +ℤ c.wide.result) c.first_start.ensures.value ∙ ap (λ z. first_start tracks +ℤ z) c.wide.ensures.value in
    let same : moved_from c.moves_for.result 0 tracks ≡ seen d c.args.before c.args.after tracks =
    all_seen c.moves_for.result d c.add-origin.result c.content_size-content.result tracks c.moves_for.ensures.start c.moves_for.ensures.end c.moves_for.ensures.last
    ∙ ap (λ z. all_tracks d z c.content_size-content.result tracks) origin
    ∙ ap (λ z. all_tracks d (first_start tracks +ℤ c.args.before) z tracks) c.content_size-content.ensures in
    let Is : List (ℤ × ℤ) → Type 0 = λ ts. IfOk c.moved.result (λ edges. edges ≡ ts) in
    subst Is same c.moved.ensures

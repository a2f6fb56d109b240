use Rattle.std.proofs.Common.{arith, ap, pos, ◌≡◌, ◌∙◌}
use Rattle.std.proofs.lemmas.Int.{ints}
use Rattle.lunit.specs.declared.geometry.Span.{Span}
use Rattle.grid_placement.proofs.Near.{falls}
use Rattle.grid_placement.proofs.Positions.{search_begins, search_less, search_goes_on, search_ends}
use Rattle.grid_placement.proofs.search.area_from.Goals as goal

pub search-init : goal.search-init
search-init g c = search_begins _ _ _ _ _ _ _ _ (omega (arith, ints)) (omega (arith, ints)) c.requires.first c.requires.fits c.requires.near_column c.tracks_from.ensures c.tracks_from-2.ensures

pub columns_before-requires-clause-span : goal.columns_before-requires-clause-span
columns_before-requires-clause-span g c = c.search.invariant.columns_are

pub columns_before-requires-clause-near : goal.columns_before-requires-clause-near
columns_before-requires-clause-near g c = c.search.invariant.near

pub returns-in-Some : goal.returns-in-Some
returns-in-Some g c = search_ends _ _ _ _ _ _ _ c.search.invariant c.in-Some.ensures

pub row_after-requires-clause-near : goal.row_after-requires-clause-near
row_after-requires-clause-near g c = search_less _ _ _ _ _ _ c.search.invariant c.requires.ends c.requires.near_row c.in_default.ensures

pub row_after-requires-clause-rows : goal.row_after-requires-clause-rows
row_after-requires-clause-rows g c = c.search.invariant.rows_are

pub row_after-requires-clause-none : goal.row_after-requires-clause-none
row_after-requires-clause-none g c = c.in_default.ensures

pub search-smaller : goal.search-smaller
search-smaller g c =
    let less = c.row_after.ensures.later in
    let near = c.row_after.ensures.near in
    let start : c.tracks_from-in-search-2.result.start ≡ c.row_after.result = ap (λ (s : Span). s.start) c.tracks_from-in-search-2.ensures ∙ omega (arith, ints) in
    falls (pos 1310805536) c.search.area.rows.start c.tracks_from-in-search-2.result.start (omega (arith, ints, less, start)) (omega (arith, ints, near, start))

pub search-preserved : goal.search-preserved
search-preserved g c =
    search_goes_on _ _ _ _ _ c.search.area _ _ _ _ c.row_after.result _ (omega (arith, ints)) (omega (arith, ints)) (omega (arith, ints)) c.search.invariant (omega (arith, ints)) c.in_default.ensures c.row_after.ensures.later c.row_after.ensures.none c.tracks_from-in-search.ensures
    c.tracks_from-in-search-2.ensures

use Rattle.std.proofs.Common.{arith, refl, sym, ap, subst, ◌∙◌, ◌∷◌, ◌++◌, ◌≡◌, ◌≤ℤ◌, ◌<◌, ◌+◌, [], get_or, true, pos, ◌+ℤ◌, List, ℕ}
use Rattle.std.proofs.lemmas.Int.{ints}
use Rattle.std.proofs.lemmas.Result.{IfOk-weaker}
use Rattle.lunit.specs.declared.geometry.Span.{Span}
use Rattle.part_rules.specs.LineNames.{Table, cut_areas, lines_by, names_by_areas, subgrid_table}
use Rattle.line_names.specs.Levels.{lines_under, HoldsLines}
use Rattle.line_names.specs.Tables.{are_areas, table_by}
use Rattle.line_names.specs.declared.levels.Level.{Level}
use Rattle.line_names.proofs.Cut.{all_fit}
use Rattle.line_names.proofs.Edges.{added_fit, parts_add_all, HaveNames}
use Rattle.line_names.proofs.Made.{subgrid_made}
use Rattle.line_names.proofs.Shared.{sub_table}
use Rattle.line_names.proofs.table.LineTable.inherit.Goals as goal

pub base_of-base-requires-clause-low : goal.base_of-base-requires-clause-low
base_of-base-requires-clause-low c = omega (arith, ints, c.parent.invariant.low, ap (λ t. t.low) c.parent.view_is, c.requires.low)

pub base_of-base-requires-clause-high : goal.base_of-base-requires-clause-high
base_of-base-requires-clause-high c = omega (arith, ints, c.parent.invariant.high, ap (λ t. t.high) c.parent.view_is, c.requires.high, c.requires.some)

pub index_with-requires-clause-areas : goal.index_with-requires-clause-areas
index_with-requires-clause-areas c =
    let whole : Span = record { start = pos 0; end = pos c.tracks_within-tracks.result } in
    let all : whole.end ≡ whole.start +ℤ pos c.tracks_within-tracks.result = omega (arith, ints) in
    let P : Table → Type 0 = λ t. are_areas t.tracks t.areas ≡ true in
    added_fit c.tracks_within-tracks.result 65536 c.args.parent.now.tracks whole c.args.span c.args.areas.now c.args.parent.now.areas _ all c.tracks_within-tracks.ensures.value c.requires.areas (subst P c.parent.view_is c.parent.invariant.areas)
    (c.as_slice-3.ensures ∙ c.in_ok-added.ensures)

pub of-requires : goal.of-requires
of-requires c =
    let level : Level = record { sets = c.in_ok-own.own; areas = c.in_ok-areas.areas; over = c.args.span; tracks = c.tracks_within-tracks.result; index = c.in_ok-index.index } in
    let whole : Span = record { start = pos 0; end = pos c.tracks_within-tracks.result } in
    let all : whole.end ≡ whole.start +ℤ pos c.tracks_within-tracks.result = omega (arith, ints) in
    let P : Table → Type 0 = λ t. are_areas t.tracks t.areas ≡ true in
    let lines : List (List (List ℕ)) = lines_under c.parent.inside.level c.parent.inside.above in
    let low : c.parent.inside.limit.start ≤ℤ c.args.span.start = omega (arith, ints, ap (λ t. t.low) c.parent.view_is, c.requires.low) in
    let high : (c.args.span.start +ℤ pos c.tracks_within-tracks.result) ≤ℤ c.parent.inside.limit.end = omega (arith, ints, ap (λ t. t.high) c.parent.view_is, c.requires.high, c.tracks_within-tracks.ensures.value) in
    let some : 0 < c.tracks_within-tracks.result = omega (arith, ints, c.requires.some, c.tracks_within-tracks.ensures.value) in
    let named : HaveNames lines c.args.parent.now.areas = subst (λ xs. HaveNames lines xs) (ap (λ t. t.areas) c.parent.view_is) c.parent.invariant.named in
    sub_table c.parent.inside.limit c.parent.inside.base.line c.parent.inside.level c.parent.inside.above level c.args.sets.now c.in_ok-added.added c.all_lines.result c.base_of-base.result.line c.in_ok-above.above c.all_lines.ensures c.base_of-base.ensures
    (c.in_ok-above.ensures ∙ ap (λ ls. c.parent.inside.level ∷ ls) c.as_slice.ensures) c.parent.invariant low high some c.tracks_within-tracks.ensures.few
    (all_fit c.tracks_within-tracks.result 65536 c.args.parent.now.tracks whole c.args.span c.args.areas.now c.args.parent.now.areas c.in_ok-areas.areas all c.tracks_within-tracks.ensures.value c.requires.areas
    (subst P c.parent.view_is c.parent.invariant.areas) c.in_ok-areas.ensures) c.in_ok-own.ensures
    (parts_add_all lines c.args.span (cut_areas whole c.args.areas.now) c.args.parent.now.areas c.in_ok-added.added c.in_ok-areas.areas named c.in_ok-added.ensures c.in_ok-areas.ensures)
    (subst (λ ls. HoldsLines c.in_ok-index.index ls c.base_of-base.result.line c.tracks_within-tracks.result (lines_by (λ line. get_or c.args.sets.now line [] ++ names_by_areas (pos line) c.in_ok-added.added) (c.tracks_within-tracks.result + 1) 0)) c.as_slice-2.ensures
    (subst (λ xs. HoldsLines c.in_ok-index.index c.as_slice-2.result.now c.base_of-base.result.line c.tracks_within-tracks.result (lines_by (λ line. get_or c.args.sets.now line [] ++ names_by_areas (pos line) xs) (c.tracks_within-tracks.result + 1) 0)) c.as_slice-3.ensures
    c.in_ok-index.ensures))

pub returns : goal.returns
returns c =
    let level : Level = record { sets = c.in_ok-own.own; areas = c.in_ok-areas.areas; over = c.args.span; tracks = c.tracks_within-tracks.result; index = c.in_ok-index.index } in
    let whole : Span = record { start = pos 0; end = pos c.tracks_within-tracks.result } in
    IfOk-weaker c.of.result _ _
    (λ table e.
    e
    ∙ ap (λ s. table_by s level c.in_ok-above.above) c.all_lines.ensures
    ∙ ap (λ ls. table_by whole level ls) (c.in_ok-above.ensures ∙ ap (λ ls. c.parent.inside.level ∷ ls) c.as_slice.ensures)
    ∙ subgrid_made c.parent.inside.limit c.parent.inside.level c.parent.inside.above level c.args.span c.args.sets.now c.args.areas.now c.tracks_within-tracks.ensures.value refl
    (c.in_ok-areas.ensures ∙ ap (λ t. cut_areas whole c.args.areas.now ++ cut_areas c.args.span t.areas) (sym c.parent.view_is)) c.in_ok-own.ensures
    ∙ ap (λ t. subgrid_table t c.args.span c.args.sets.now c.args.areas.now) c.parent.view_is)
    c.of.ensures

-- Tables as they are made.
use Rattle.std.proofs.Common.{arith, refl, sym, ap, ◌∙◌, ◌≡◌, ℕ, zero, suc, ◌+◌, ◌<◌, ◌≤◌, ℤ, pos, negsuc, neg_ℤ, ◌+ℤ◌, ◌-ℤ◌, List, [], ◌∷◌, ◌++◌, length, get_or}
use Rattle.std.proofs.lemmas.Int.{ints}
use Rattle.lunit.specs.declared.geometry.Span.{Span}
use Rattle.part_rules.specs.Lists.{above_zero}
use Rattle.part_rules.specs.LineNames.{Table, NamedSpan, lines_by, names_at, names_by_areas, cut_areas, own_table, subgrid_table}
use Rattle.line_names.specs.Levels.{names_in, lines_under, own_sets}
use Rattle.line_names.specs.Tables.{table_by, AreLines}
use Rattle.line_names.specs.declared.levels.Level.{Level}
use Rattle.line_names.proofs.Shared.{lines_by_same}

lines_by_is : (names : ℕ → List (List ℕ)) (count start : ℕ) (lines : List (List (List ℕ))) → length lines ≡ count → ((j : ℕ) → j < count → get_or lines j [] ≡ names (start + j)) → lines ≡ lines_by names count start
lines_by_is names zero start [] h g = refl
lines_by_is names zero start (x ∷ xs) h g = absurd (omega arith)
lines_by_is names (suc count) start [] h g = absurd (omega arith)
lines_by_is names (suc count) start (x ∷ xs) h g =
    let at : start + 0 ≡ start = omega arith in
    let first : x ≡ names start = g 0 (omega arith) ∙ ap names at in
    let rest : xs ≡ lines_by names count (start + 1) = lines_by_is names count (start + 1) xs (omega arith) (λ j k. let n : start + suc j ≡ start + 1 + j = omega arith in g (suc j) (omega arith) ∙ ap names n) in
    ap (λ y. y ∷ xs) first ∙ ap (λ ys. names start ∷ ys) rest

pub lines_made : (names : ℕ → List (List ℕ)) (count : ℕ) (lines : List (List (List ℕ))) → AreLines names count lines → lines ≡ lines_by names count 0
lines_made names count lines h = lines_by_is names count 0 lines h.counted (λ j k. let n : j ≡ 0 + j = omega arith in h.named j k ∙ ap names n)

-- names after names
pub are_then : (names more : ℕ → List (List ℕ)) (count : ℕ) (old now : List (List (List ℕ))) → AreLines names count old → AreLines (λ line. get_or old line [] ++ more line) (length old) now → AreLines (λ line. names line ++ more line) count now
are_then names more count old now h g =
    record {
      counted = g.counted ∙ h.counted;
      named = λ line k. g.named line (omega (arith, k, h.counted)) ∙ ap (λ n. n ++ more line) (h.named line k);
    }

pub own_made : (sets : List (List (List ℕ))) (tracks : ℕ) (areas : List NamedSpan) (lines : List (List (List ℕ))) → AreLines (λ line. get_or sets line [] ++ names_by_areas (pos line) areas) (tracks + 1) lines →
    (let t : Table = record { tracks = tracks; lines = lines; areas = areas; low = neg_ℤ (pos 10000); high = pos 10000 } in t) ≡ own_table sets tracks areas
own_made sets tracks areas lines h =
    ap (λ ls. let t : Table = record { tracks = tracks; lines = ls; areas = areas; low = neg_ℤ (pos 10000); high = pos 10000 } in t)
    (lines_made (λ line. get_or sets line [] ++ names_by_areas (pos line) areas) (tracks + 1) lines h)

-- the lines of a subgrid with these tracks and areas
abbrev below : Table → Span → List (List (List ℕ)) → ℕ → List NamedSpan → Table
below parent span sets tracks all = record { tracks = tracks; lines = lines_by (λ line. get_or sets line [] ++ names_by_areas (pos line) all ++ names_at parent (span.start +ℤ pos line)) (tracks + 1) 0; areas = all; low = pos 0; high = pos tracks }

pub names_in_at : (t : Table) (line : ℤ) → names_in t.lines line ≡ names_at t line
names_in_at t (pos line) = refl
names_in_at t (negsuc line) = refl

-- the table of a subgrid over a span, by its level and those above it
pub subgrid_made : (limit : Span) (parent : Level) (above : List Level) (level : Level) (span : Span) (sets : List (List (List ℕ))) (areas : List NamedSpan) → span.end ≡ span.start +ℤ pos level.tracks → level.over.start ≡ span.start →
    level.areas ≡ cut_areas (record { start = pos 0; end = pos level.tracks }) areas ++ cut_areas span parent.areas → ((line : ℕ) → line ≤ level.tracks → get_or (own_sets level) line [] ≡ get_or sets line []) →
    table_by (record { start = pos 0; end = pos level.tracks }) level (parent ∷ above) ≡ subgrid_table (table_by limit parent above) span sets areas
subgrid_made limit parent above level span sets areas e from is kept =
    let upper : Table = table_by limit parent above in
    let length_is : span.end -ℤ span.start ≡ pos level.tracks = omega (arith, ints, e) in
    let count : above_zero (span.end -ℤ span.start) ≡ level.tracks = ap above_zero length_is in
    ap (λ ls. let t : Table = record { tracks = level.tracks; lines = ls; areas = level.areas; low = pos 0; high = pos level.tracks } in t)
    (lines_by_same (λ line. get_or (own_sets level) line [] ++ names_by_areas (pos line) level.areas ++ names_in (lines_under parent above) (level.over.start +ℤ pos line))
    (λ line. get_or sets line [] ++ names_by_areas (pos line) level.areas ++ names_at upper (span.start +ℤ pos line)) (level.tracks + 1) 0
    (λ i a b. ap (λ ss. ss ++ names_by_areas (pos i) level.areas ++ names_in (lines_under parent above) (level.over.start +ℤ pos i)) (kept i (omega arith))
    ∙ ap (λ z. get_or sets i [] ++ names_by_areas (pos i) level.areas ++ names_in (lines_under parent above) (z +ℤ pos i)) from
    ∙ ap (λ ns. get_or sets i [] ++ names_by_areas (pos i) level.areas ++ ns) (names_in_at upper (span.start +ℤ pos i))))
    ∙ ap (λ a. below upper span sets level.tracks a) is
    ∙ ap (λ n. below upper span sets n (cut_areas (record { start = pos 0; end = pos n }) areas ++ cut_areas span parent.areas)) (sym count)

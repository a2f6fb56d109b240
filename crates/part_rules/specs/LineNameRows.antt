-- Rows of line names and of the lines that they stand for, worked by hand. They hold by computation.
use Rattle.std.specs.Prelude.{◌≡◌, refl, ℕ, ℤ, pos, negsuc, List, [], ◌∷◌, map, codes, Some, None}
use Rattle.lunit.specs.declared.geometry.Span.{Span}
use Rattle.lunit.specs.declared.geometry.Spot.TheVariants.{At, Free}
use Rattle.lunit.specs.declared.line_value.LineValue.TheVariants.{Auto, Line, Reach, Named}
use Rattle.part_rules.specs.LineNames.{NamedSpan, own_table, subgrid_table, named_lines, resolved}

abbrev a : List ℕ
a = codes "a"

abbrev b : List ℕ
b = codes "b"

abbrev a_start : List ℕ
a_start = codes "a-start"

abbrev a_end : List ℕ
a_end = codes "a-end"

abbrev span : ℤ → ℤ → Span
span start end = record { start = start; end = end }

abbrev area : List ℕ → ℤ → ℤ → NamedSpan
area name start end = (name, span start end)

-- `a` and `b`, each alone and with the two ends that areas give
abbrev all_names : List (List ℕ)
all_names = a ∷ a_start ∷ a_end ∷ b ∷ codes "b-start" ∷ codes "b-end" ∷ []

-- ---- one grid

-- The name stands on line 1 alone. The third line of it, going back from the end, is the second one before line 0. The automatic span is 2.
name_before_the_lines : resolved (own_table ((codes "b-end" ∷ []) ∷ (a ∷ []) ∷ ([]) ∷ []) 5 []) (Line (negsuc 2) (Some a)) Auto 2 ≡ At (span (negsuc 1) (pos 0))
name_before_the_lines = refl

-- The area starts at line 2. The second line of that name is the first one after line 4. No line after it has the name `a`, so a span to
-- the third is three lines on.
names_after_the_lines : resolved (own_table [] 4 (area a (pos 2) (pos 4) ∷ [])) (Line (pos 2) (Some a_start)) (Reach 3 (Some a)) 1 ≡ At (span (pos 5) (pos 8))
names_after_the_lines = refl

-- The name `a` alone stands for the first line `a-end`, at the end side: line 0, as the start. So the end is dropped, and an automatic span of
-- 12,000 is cut at the limit.
end_by_the_end_of_an_area : resolved (own_table ((a ∷ a_end ∷ []) ∷ (a_end ∷ []) ∷ []) 5 []) (Line (pos 1) (Some a)) (Named a) 12000 ≡
    At (span (pos 0) (pos 10000))
end_by_the_end_of_an_area = refl

-- `a-end` is no area's name, so it stands for its own line, 3. The line `a` before it, where line 3 itself does not count, is line 2.
span_back_to_a_name : resolved
    (own_table (([]) ∷ (a ∷ b ∷ []) ∷ (b ∷ a ∷ []) ∷ (a_end ∷ a ∷ []) ∷ ([]) ∷ (a ∷ []) ∷ (a_start ∷ []) ∷ []) 7 (area b (pos 1) (pos 5) ∷ []))
    (Reach 1 (Some a)) (Named a_end) 5 ≡ At (span (pos 2) (pos 3))
span_back_to_a_name = refl

-- `a` stands on line 4. No line after it has the name, where line 4 itself does not count, so the span goes to the first line after line 7.
span_on_past_a_name : resolved (own_table ((a_end ∷ []) ∷ ([]) ∷ ([]) ∷ ([]) ∷ (a ∷ []) ∷ []) 7 []) (Named a) (Reach 1 (Some a)) 2 ≡ At (span (pos 4) (pos 8))
span_on_past_a_name = refl

-- The third line from the end of no tracks is line -2. No line before it has the name, so three lines before it.
span_back_past_the_lines : resolved (own_table [] 0 []) (Reach 3 (Some a_end)) (Line (negsuc 2) None) 3 ≡ At (span (negsuc 4) (negsuc 1))
span_back_past_the_lines = refl

-- The third line is line 2, and the automatic span of 2 lies before it.
automatic_span_back : resolved (own_table [] 1 []) Auto (Line (pos 3) None) 2 ≡ At (span (pos 0) (pos 2))
automatic_span_back = refl

-- Of two spans the second is dropped, and a span to a name without a line beside it is 1.
span_with_a_name_is_one : resolved (own_table ((b ∷ codes "aa" ∷ []) ∷ []) 0 []) (Reach 3 (Some a)) (Reach 3 None) 20000 ≡ Free 1
span_with_a_name_is_one = refl

-- ---- subgrids

-- Counted from the end, the first line is line 4. No line has the name `a-end`, so `a` at the end side is its own line, 1. In the wrong order they
-- are swapped.
own_names_and_edges : resolved
    (subgrid_table (own_table (([]) ∷ ([]) ∷ ([]) ∷ []) 6 []) (span (pos 0) (pos 4))
    (([]) ∷ (a ∷ []) ∷ (a_start ∷ []) ∷ (a_start ∷ []) ∷ ([]) ∷ []) []) (Line (negsuc 0) None) (Named a) 12000 ≡ At (span (pos 1) (pos 4))
own_names_and_edges = refl

-- The sets of the lines 2 and 3 are left out, as the subgrid has one track. So `a` stands on line 1, and the third `b` is line 4. In the right
-- order they lie past the limit, and the last track is taken.
past_the_end_of_a_subgrid : resolved
    (subgrid_table (own_table (([]) ∷ []) 3 []) (span (pos 2) (pos 3)) (([]) ∷ (a ∷ []) ∷ (a ∷ []) ∷ (a ∷ []) ∷ []) [])
    (Line (pos 3) (Some b)) (Named a) 1 ≡ At (span (pos 0) (pos 1))
past_the_end_of_a_subgrid = refl

-- The parent's area is cut to the lines 0 to 1, so `b` starts at line 0. No line has the name itself, as the fifth set is left out, so its last
-- line is the one before line 0. Swapped they lie before the limit, and the first track is taken.
before_the_start_of_a_subgrid : resolved
    (subgrid_table (own_table [] 3 (area b (pos 1) (pos 2) ∷ [])) (span (pos 1) (pos 3))
    ((a ∷ []) ∷ ([]) ∷ ([]) ∷ (a_end ∷ []) ∷ (b ∷ []) ∷ []) []) (Named b) (Line (negsuc 0) (Some b)) 20000 ≡ At (span (pos 0) (pos 1))
before_the_start_of_a_subgrid = refl

-- An automatic span of 2 is no longer than the one track.
automatic_span_in_a_subgrid : resolved (subgrid_table (own_table [] 4 []) (span (pos 3) (pos 4)) (([]) ∷ []) []) Auto Auto 2 ≡ Free 1
automatic_span_in_a_subgrid = refl

-- A span of 2 that the item asks for is no longer than the one track either.
free_span_in_a_subgrid : resolved
    (subgrid_table (own_table [] 3 (area a (pos 0) (pos 3) ∷ [])) (span (pos 1) (pos 2)) ((a ∷ []) ∷ (a ∷ []) ∷ []) []) Auto (Reach 2 None) 1
    ≡ Free 1
free_span_in_a_subgrid = refl

-- The first subgrid cuts the parent's `a` to 0 to 2 and its own `b` to 1 to 2. The second has the lines 0 and 1 of it. Its own area lies past them and names
-- nothing. Of the areas above `a` is cut to 0 to 1; `b` has no track in common, but the name of its start comes with the parent's line 1, as
-- `b` does with both lines.
areas_in_two_levels : map
    (named_lines
    (subgrid_table
    (subgrid_table (own_table ((b ∷ []) ∷ ([]) ∷ []) 3 (area a (pos 0) (pos 3) ∷ [])) (span (pos 0) (pos 2)) (([]) ∷ (b ∷ []) ∷ [])
    (area b (pos 1) (pos 3) ∷ [])) (span (pos 0) (pos 1)) [] (area a (pos 2) (pos 3) ∷ []))) all_names ≡
    ([]) ∷ (pos 0 ∷ []) ∷ (pos 1 ∷ []) ∷ (pos 0 ∷ pos 1 ∷ []) ∷ (pos 1 ∷ []) ∷ ([]) ∷ []
areas_in_two_levels = refl

-- The first subgrid cuts its own `a` to its lines 0 to 6, and takes over `b` as 0 to 1. The second lies over its lines 1 to 4: `a` is cut again, and `b`
-- has no track there. The end of `b` is a name of the parent's line 1, which is line 0 here.
own_areas_passed_on : map
    (named_lines
    (subgrid_table
    (subgrid_table (own_table ((b ∷ []) ∷ []) 5 (area b (pos 1) (pos 2) ∷ [])) (span (pos 1) (pos 7)) [] (area a (pos 0) (pos 9) ∷ []))
    (span (pos 1) (pos 4)) [] [])) all_names ≡ ([]) ∷ (pos 0 ∷ []) ∷ (pos 3 ∷ []) ∷ ([]) ∷ ([]) ∷ (pos 0 ∷ []) ∷ []
own_areas_passed_on = refl

-- The areas that a span cuts.
use Rattle.std.specs.Prelude.{int_le, Bool, ◌&&◌, List, [], ◌∷◌, ◌++◌, if◌then◌else◌}
use Rattle.lunit.specs.declared.geometry.Span.{Span}
use Rattle.part_rules.specs.LineNames.{NamedSpan, cut_area}

-- whether a span has all tracks of another one
abbrev pub lies_in : Span → Span → Bool
lies_in span other = int_le span.start other.start && int_le other.end span.end

-- an area that does not lie in a span whole, cut to it and told from its start, if it has a track in common with it
abbrev pub cut_part : Span → NamedSpan → List NamedSpan
cut_part span a = if lies_in span a.1 then [] else cut_area span a

-- all these areas that do not lie in a span whole, cut to it
abbrev pub cut_parts : Span → List NamedSpan → List NamedSpan
cut_parts span [] = []
cut_parts span (a ∷ rest) = cut_part span a ++ cut_parts span rest

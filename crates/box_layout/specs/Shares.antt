-- The rows by which the margins of a line share what it leaves, two for each child.
use Rattle.std.specs.Prelude.{ℤ, pos, List, [], ◌∷◌, Option, Some, None}
use Rattle.part_rules.specs.declared.share.Share.{Share}
use Rattle.box_layout.specs.declared.sitting.Sitting.{Sitting}

-- a row without end for an `auto` margin, and one without room for another
abbrev pub share_of : Option ℤ → Share
share_of None = record { room = None; got = pos 0 }
share_of (Some x) = record { room = Some (pos 0); got = pos 0 }

-- nothing for both margins of each child
abbrev pub nothing_for : List Sitting → List ℤ
nothing_for [] = []
nothing_for (s ∷ rest) = pos 0 ∷ pos 0 ∷ nothing_for rest

abbrev pub shares_of : List Sitting → List Share
shares_of [] = []
shares_of (s ∷ rest) = share_of s.along.start ∷ share_of s.along.end ∷ shares_of rest

-- The parts of sizing that follow each other.
use Rattle.std.specs.Prelude.{ℕ, ℤ, List, map}
use Rattle.lunit.specs.declared.item.Item.{Item}
use Rattle.part_rules.specs.declared.track.Fit.{Fit}
use Rattle.part_rules.specs.Tracks.{Track, content_sized, flexed, maximised, stretched}

-- tracks that are sized for their items, once the rest of the space is given (CSS Grid 2, 12.6 to 12.8)
unfoldable pub rest_given : {axis : ℕ} → Fit axis → List Item → List Track → List Track
rest_given fit items ts = stretched fit (flexed fit items (maximised fit.space fit.max fit.gap ts))

-- the sizes of tracks that are initialised
unfoldable pub sizes_from : {axis : ℕ} → Fit axis → List Item → List Track → List ℤ
sizes_from fit items ts = map (λ (t : Track). t.base) (rest_given fit items (content_sized fit.space fit.gap items ts))

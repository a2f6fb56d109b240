-- The parts of sizing together.
use Rattle.std.proofs.Common.{ap, ◌≡◌, ◌∙◌, ℕ, ℤ, List, map}
use Rattle.lunit.specs.declared.item.Item.{Item}
use Rattle.part_rules.specs.declared.track.Fit.{Fit}
use Rattle.part_rules.specs.declared.track.Rule.{Rule}
use Rattle.part_rules.specs.Tracks.{Track, content_sized, flexed, initialised, maximised, sized, stretched, track_sizes}
use Rattle.track_sizing.specs.Whole.{rest_given, sizes_from}

pub rest_is : {axis : ℕ} (fit : Fit axis) (items : List Item) (ts most flex now : List Track) → most ≡ maximised fit.space fit.max fit.gap ts → flex ≡ flexed fit items most → now ≡ stretched fit flex → now ≡ rest_given fit items ts
unfolding rest_given
rest_is fit items ts most flex now m f n = n ∙ ap (stretched fit) (f ∙ ap (flexed fit items) m)

pub sizes_are : {axis : ℕ} (fit : Fit axis) (items : List Item) (ts content rest : List Track) (sizes : List ℤ) → content ≡ content_sized fit.space fit.gap items ts → rest ≡ rest_given fit items content → sizes ≡ map (λ (t : Track). t.base) rest → sizes ≡ sizes_from fit items ts
unfolding sizes_from
sizes_are fit items ts content rest sizes c r s = s ∙ ap (map (λ (t : Track). t.base)) (r ∙ ap (rest_given fit items) c)

pub started_sizes : {axis : ℕ} (rules : List Rule) (first at : ℤ) (items : List Item) (fit : Fit axis) (rows : List Track) → rows ≡ initialised at rules → at ≡ first → sizes_from fit items rows ≡ track_sizes rules first items fit
unfolding sizes_from rest_given sized
started_sizes rules first at items fit rows r a = ap (sizes_from fit items) (r ∙ ap (λ (z : ℤ). initialised z rules) a)

-- Values of templates past the limits. They hold by computation.
use Rattle.std.specs.Prelude.{◌≡◌, refl, ℕ, false, List, [], ◌∷◌, length, slice_get, Option, Some, None, codes}
use Rattle.style_types.specs.declared.track.Template.{Template}
use Rattle.style_types.specs.declared.track.Template.TheVariants as template
use Rattle.style_types.specs.declared.unit.Unit.{Unit}
use Rattle.track_text.specs.Words.{Word, words_of}
use Rattle.track_text.specs.Templates.{template_of}

-- how many tracks are kept, how many sets, and the last of these
abbrev counts : Option (Template × List Unit) → Option (ℕ × ℕ × Option (List Word))
counts None = None
counts (Some (template.Absent, units)) = None
counts (Some (template.Tracks list, units)) = Some (length list.sizes, length list.names, slice_get list.names 10000)
counts (Some (template.Subgrid names, units)) = Some (0, length names, slice_get names 20000)

abbrev counted : List ℕ → Option (ℕ × ℕ × Option (List Word))
counted text = counts (template_of false (words_of text))

full : counted (codes "repeat(10000, 1px) [a] [b]") ≡ Some (10000, 10001, Some (codes "a" ∷ codes "b" ∷ []))
full = refl

set_after_the_last_kept : counted (codes "repeat(10000, 1px) [a] 2px [b]") ≡ Some (10000, 10001, Some (codes "a" ∷ []))
set_after_the_last_kept = refl

past_in_a_repeat : counted (codes "[x] repeat(3334, [a] 1px [b] 1px [c] 1px) [d]") ≡ Some (10000, 10001, Some (codes "b" ∷ []))
past_in_a_repeat = refl

past_before_an_automatic_repeat : counted (codes "repeat(10000, 1px) 1px [a] repeat(auto-fill, 1px) [b] 2px") ≡ Some (10001, 10003, Some [])
past_before_an_automatic_repeat = refl

past_after_subgrid : counted (codes "subgrid repeat(10000, [a][b]) [c] [d]") ≡ Some (0, 20001, Some (codes "c" ∷ []))
past_after_subgrid = refl

-- Tracks that are sized for their content, and last.
use Rattle.std.proofs.Common.{◌≡◌, ℕ, ◌+◌, ◌<◌, ℤ, pos, List, [], ◌∷◌, ◌++◌, Some, length, take, get_or, ap, sym, subst, ◌∙◌, arith}
use Rattle.std.specs.Prelude.{◌≤ℤ◌}
use Rattle.std.proofs.lemmas.Int.{ints, clamps}
use Rattle.std.proofs.lemmas.List.{take_more, take_all}
use Rattle.lunit.specs.Units.{clamp, top}
use Rattle.lunit.specs.declared.geometry.Span.{Span}
use Rattle.lunit.specs.declared.item.Item.{Item}
use Rattle.part_rules.specs.declared.track.Fit.{Fit}
use Rattle.part_rules.specs.declared.track.Rule.{Rule}
use Rattle.part_rules.specs.declared.track.Space.TheVariants.{Definite, MaxContent}
use Rattle.part_rules.specs.Tracks.{track_sizes}
use Rattle.style_types.specs.Styles.{StyleMap}
use Rattle.track_sizing.specs.Again.{DoLast}
use Rattle.tree_rules.specs.Distribution.{Sized, total_of_tracks}
use Rattle.tree_rules.specs.GridSizes.{sized_for}
use Rattle.tree_rules.specs.Labels.{content_of}
use Rattle.tree_rules.specs.Repetitions.{gap_by}
use Rattle.tree_rules.specs.Templates.{written}
use Rattle.tree_rules.specs.TrackRules.{axis_rules, tracks_of}
use Rattle.inline_sizes.specs.Styled.{content_at, grid_at}
use Rattle.inline_sizes.specs.TrackAxes.{fit_in, track_axis}

-- ---- the same rules, one after the other
pub same_next : (a b : List Rule) (i : ℕ) (d : Rule) → i < length a → i < length b → take i a ≡ take i b → get_or a i d ≡ get_or b i d → take (i + 1) a ≡ take (i + 1) b
same_next a b i d h k e f = take_more a i d h ∙ (λ j. e j ++ f j ∷ []) ∙ sym (take_more b i d k)

pub same_all : (a b : List Rule) (i : ℕ) → i ≡ length a → length a ≡ length b → take i a ≡ take i b → a ≡ b
same_all a b i e f h = sym (take_all i a (omega (arith, e))) ∙ h ∙ take_all i b (omega (arith, e, f))

pub ruleset same_laws = (same_next, same_all)

-- ---- sums that are lengths
pub clamp_length : (x : ℤ) → pos 0 ≤ℤ x → x ≤ℤ top → clamp x ≡ x
unfolding clamp
clamp_length x low high = omega (arith, ints, clamps)

-- ---- sizes that last
module _ (axis : ℕ) (style : StyleMap) (count : ℕ) (spans : List Span) (tracks : Span) (items : List Item) where
  abbrev fit_with : ℤ → ℤ → Fit axis
  fit_with size gap = fit_in (content_of style).border_box (grid_at axis style) (content_at axis style) (Definite size) gap

  pub tracks_last : (rules : List Rule) (gap : ℤ) (sizes : List ℤ) (total : ℤ) → DoLast rules tracks.start items (fit_in {axis = axis} (content_of style).border_box (grid_at axis style) (content_at axis style) MaxContent gap) sizes
      → clamp total ≡ total → total ≡ total_of_tracks (record { rules = rules; sizes = sizes; gap = gap }) → total ≤ℤ top → rules ≡ axis_rules (Some (clamp total)) (grid_at axis style) (written (grid_at axis style).template count) spans (tracks_of tracks) →
      gap ≡ gap_by (Some (clamp total)) (pos 0) (grid_at axis style).gap
      → ◌≡◌ {A = Sized} (record { rules = rules; sizes = sizes; gap = gap }) (sized_for {axis = axis} (track_axis axis style count spans tracks items) (Definite (clamp total)) (Some (clamp total)))
  tracks_last rules gap sizes total last s t le r g =
      let same : track_sizes rules tracks.start items (fit_with (clamp total) gap) ≡ sizes = subst (λ z. track_sizes rules tracks.start items (fit_with z gap) ≡ sizes) (sym s) (last total t le) in
      ap (λ z. record { rules = rules; sizes = z; gap = gap }) (sym same)
      ∙ (λ i. record { rules = r i; sizes = track_sizes (r i) tracks.start items (fit_with (clamp total) (g i)); gap = g i })

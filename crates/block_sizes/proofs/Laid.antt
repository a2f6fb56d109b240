-- Tracks that are sized and then moved in their container are those of the definition.
use Rattle.std.proofs.Common.{ap, ◌≡◌, ◌∙◌, ℕ, ℤ, List, Some}
use Rattle.inline_sizes.specs.declared.tracks.SizedTracks.{SizedTracks}
use Rattle.inline_sizes.specs.TrackAxes.{sized_of}
use Rattle.part_rules.specs.declared.track.Rule.{Rule}
use Rattle.part_rules.specs.declared.track.Space.{Space}
use Rattle.part_rules.specs.declared.track.Space.TheVariants.{Definite}
use Rattle.part_rules.specs.declared.view.View.{View}
use Rattle.style_types.specs.declared.value.Align.{Align}
use Rattle.tree_rules.specs.Distribution.{Sized, edges_in}
use Rattle.tree_rules.specs.GridSizes.{TrackAxis, sized_for, view_for}

pub view_made : {axis : ℕ} (a : TrackAxis) (size : ℤ) (align : Align) (space : Space axis) (s : SizedTracks) (rules : List Rule) (sizes : List ℤ) (edges : List (ℤ × ℤ)) (view : View axis)
    → view ≡ record { edges = edges; gap = s.gap }
    → edges ≡ edges_in align size (record { rules = rules; sizes = sizes; gap = s.gap })
    → align ≡ a.content.distribution → rules ≡ s.rules → sizes ≡ s.sizes
    → sized_of s ≡ sized_for a space (Some size) → space ≡ Definite size
    → view ≡ view_for {axis = axis} a size
view_made {axis} a size align space s rules sizes edges view v e l r z d p =
    let with_edges : List (ℤ × ℤ) → View axis = λ es. record { edges = es; gap = s.gap } in
    let tracks : List Rule → List ℤ → Sized = λ rs ss. record { rules = rs; sizes = ss; gap = s.gap } in
    let laid : Sized → View axis = λ t. record { edges = edges_in a.content.distribution size t; gap = t.gap } in
    v
    ∙ ap with_edges e
    ∙ ap (λ (al : Align). with_edges (edges_in al size (tracks rules sizes))) l
    ∙ ap (λ (rs : List Rule). with_edges (edges_in a.content.distribution size (tracks rs sizes))) r
    ∙ ap (λ (ss : List ℤ). with_edges (edges_in a.content.distribution size (tracks s.rules ss))) z
    ∙ ap laid d
    ∙ ap (λ (sp : Space axis). laid (sized_for a sp (Some size))) p

-- The root's frame is the defined one, by what the root answers.
use Rattle.std.proofs.Common.{◌≡◌, refl, sym, ap, subst, ◌∙◌, ℤ, pos, ◌≤ℤ◌, ◌&&◌, true, false, [], List, length}
use Rattle.std.specs.Prelude.{not}
use Rattle.node_arena.specs.declared.number.NodeId.{NodeId}
use Rattle.placing.specs.Nodes.{BareTrees, sight_at}
use Rattle.tree_rules.specs.Answers.{Answers, Frame}
use Rattle.tree_rules.specs.AskedQueries.{block_query, inline_query}
use Rattle.tree_rules.specs.Boxes.{root_framed, root_inline, root_of, root_width}
use Rattle.tree_rules.specs.Chains.{Link, above_of, has_chain, is_subgrid}
use Rattle.tree_rules.specs.Frames.{given_box}
use Rattle.tree_rules.specs.NodeSizes.{content_of_box, inner}
use Rattle.tree_rules.specs.Places.{Seen, answers_of}
use Rattle.tree_rules.specs.Queries.{Answer, Fits, IsGivenFor, answer_of, block_size, inline_sizes, outer_context, sees_columns, sees_rows}
use Rattle.tree_rules.specs.Whole.{kids_of, step}
use Rattle.tree_rules.specs.declared.query.Given.{Given}
use Rattle.box_layout.specs.RootFrames.{root_frame_by, width_by}

-- ---- answers, out of their constructors

sizes_in : ℤ × ℤ → Answer → ℤ × ℤ
sizes_in other (inline_sizes sizes) = sizes
sizes_in other a = other

sizes_are : (x y : ℤ × ℤ) → inline_sizes x ≡ inline_sizes y → x ≡ y
unfolding sizes_in
sizes_are x y e = ap (sizes_in x) e

size_in : ℤ → Answer → ℤ
size_in other (block_size size) = size
size_in other a = other

size_is : (x y : ℤ) → block_size x ≡ block_size y → x ≡ y
unfolding size_in
size_is x y e = ap (size_in x) e

-- ---- a node that sees nothing above it

module _ (s : Seen) (alone : s.chain ≡ []) where
  no_columns : sees_columns s ≡ false
  no_columns = ap (λ (l : List Link). has_chain l && is_subgrid s.label.grid.columns.template) alone

  no_rows : sees_rows s ≡ false
  no_rows = ap (λ (l : List Link). has_chain l && is_subgrid s.label.grid.rows.template) alone

  pub inline_fits : Fits s (inline_query false [])
  inline_fits = record { ask = ap not no_columns; reps = sym (ap length alone); inline = refl; block = refl }

  -- once its border box is at least its borders and paddings
  pub block_fits : (across : ℤ) (inline : Given) → pos 0 ≤ℤ content_of_box (inner s.label.grid.columns) across → inline ≡ given_box s.label.grid.columns across → Fits s (block_query false [] inline)
  block_fits across inline some is =
      record {
        ask = ap not no_rows;
        reps = sym (ap length alone);
        inline = subst (IsGivenFor true (sees_columns s) (outer_context s []).columns.table.tracks) (sym is)
            (subst (λ t. IsGivenFor true t (outer_context s []).columns.table.tracks (given_box s.label.grid.columns across)) (sym no_columns) some);
        block = refl;
      }

  answers_are : answers_of s ≡ (root_of s.label s.below).answers
  answers_are = λ i. step s.label (alone i) (kids_of (above_of s.label (alone i) s.below) 0 s.below)

  module _ (width height : ℤ) (sizes : ℤ × ℤ) (across : ℤ) (known : inline_sizes sizes ≡ answer_of s (inline_query false [])) (box : across ≡ width_by width s.label sizes) where
    sizes_told : sizes ≡ (root_of s.label s.below).answers.inline []
    sizes_told = sizes_are sizes ((answers_of s).inline []) known ∙ ap (λ (a : Answers). a.inline []) answers_are

    pub across_is : across ≡ root_width width (root_of s.label s.below)
    across_is = box ∙ ap (width_by width s.label) sizes_told

    module _ (inline : Given) (given : inline ≡ given_box s.label.grid.columns across) where
      pub inline_is : inline ≡ root_inline (root_of s.label s.below) (root_width width (root_of s.label s.below))
      inline_is = given ∙ ap (given_box s.label.grid.columns) across_is

      module _ (content : ℤ) (found : block_size content ≡ answer_of s (block_query false [] inline)) where
        content_told : content ≡ ((root_of s.label s.below).answers.down [] (root_inline (root_of s.label s.below) (root_width width (root_of s.label s.below)))).block
        content_told = size_is content ((answers_of s).down [] inline).block found ∙ (λ i. ((answers_are i).down [] (inline_is i)).block)

        pub frame_is : (frame : Frame) → frame ≡ root_frame_by (width, height) s.label across inline content → frame ≡ (root_framed width height (root_of s.label s.below)).frame
        frame_is frame made = made ∙ (λ i. root_frame_by (width, height) s.label (across_is i) (inline_is i) (content_told i))

-- ---- in the arena, which the walk leaves as it is

pub framed_root : (b d e : BareTrees) (n : NodeId) → d ≡ b → e ≡ d → (sight_at b n).chain ≡ [] → (width height : ℤ) (sizes : ℤ × ℤ) (across : ℤ) → inline_sizes sizes ≡ answer_of (sight_at b n) (inline_query false []) → across ≡ width_by width (sight_at d n).label sizes
    → (inline : Given) → inline ≡ given_box (sight_at d n).label.grid.columns across → (content : ℤ) → block_size content ≡ answer_of (sight_at d n) (block_query false [] inline) → (frame : Frame) → frame ≡ root_frame_by (width, height) (sight_at e n).label across inline content
    → frame ≡ (root_framed width height (root_of (sight_at b n).label (sight_at b n).below)).frame
framed_root b d e n is also alone width height sizes across known box inline given content found frame made =
    frame_is (sight_at b n) alone width height sizes across known (box ∙ ap (λ (z : BareTrees). width_by width (sight_at z n).label sizes) is) inline (given ∙ ap (λ (z : BareTrees). given_box (sight_at z n).label.grid.columns across) is)
    content (found ∙ ap (λ (z : BareTrees). answer_of (sight_at z n) (block_query false [] inline)) is) frame (made ∙ ap (λ (z : BareTrees). root_frame_by (width, height) (sight_at z n).label across inline content) (also ∙ is))

pub given_root : (b d : BareTrees) (n : NodeId) → d ≡ b → (sight_at b n).chain ≡ [] → (width : ℤ) (sizes : ℤ × ℤ) (across : ℤ) → inline_sizes sizes ≡ answer_of (sight_at b n) (inline_query false []) → across ≡ width_by width (sight_at d n).label sizes
    → (inline : Given) → inline ≡ given_box (sight_at d n).label.grid.columns across → inline ≡ root_inline (root_of (sight_at b n).label (sight_at b n).below) (root_width width (root_of (sight_at b n).label (sight_at b n).below))
given_root b d n is alone width sizes across known box inline given =
    inline_is (sight_at b n) alone width (pos 0) sizes across known (box ∙ ap (λ (z : BareTrees). width_by width (sight_at z n).label sizes) is) inline (given ∙ ap (λ (z : BareTrees). given_box (sight_at z n).label.grid.columns across) is)

-- The frame of the child of a grid whose area is told at an index.
use Rattle.std.proofs.Common.{arith, refl, sym, ap, ◌∙◌, ◌≡◌, ℕ, zero, suc, ◌+◌, ◌<◌, ◌&&◌, Bool, List, [], ◌∷◌, drop, length, map, Some}
use Rattle.std.specs.Prelude.{get_or, IfOk, Result}
use Rattle.std.proofs.lemmas.List.{length-map}
use Rattle.lunit.specs.declared.geometry.Span.{Span}
use Rattle.node_arena.specs.Numbers.{child_at}
use Rattle.node_arena.specs.declared.number.NodeId.{NodeId}
use Rattle.part_rules.specs.declared.view.View.{View}
use Rattle.part_rules.specs.Lists.{zipped}
use Rattle.style_types.specs.Styles.{StyleMap}
use Rattle.tree_rules.specs.Answers.{Pair}
use Rattle.tree_rules.specs.Chains.{is_subgrid}
use Rattle.tree_rules.specs.Frames.{grid_child}
use Rattle.tree_rules.specs.GridSizes.{Entry, from_first, shares_rows}
use Rattle.tree_rules.specs.Labels.{content_of, grid_of}
use Rattle.tree_rules.specs.declared.query.Given.{Given}
use Rattle.placing.proofs.Numbers.{drop_within}
use Rattle.placing.specs.Areas.{entries_at, entry_by}
use Rattle.placing.specs.Kept.{frame_of}
use Rattle.placing.specs.Nodes.{BareTrees, kid_at, sight_at}
use Rattle.placing.specs.declared.items.ChildArea.{ChildArea}
use Rattle.placing.specs.declared.node.Frame.{Frame as NodeFrame}
use Rattle.inline_sizes.proofs.Asked.{shares_told}
use Rattle.inline_sizes.specs.Grids.{IsEntry, has_subgrid_kind}
use Rattle.inline_sizes.specs.GridsSeen.{grid_seen}
use Rattle.block_sizes.specs.Wides.{IsWide, columns_seen, wides_seen}
use Rattle.placing.specs.Wides.{child_of}
use Rattle.placing.specs.declared.wide.GridWide.{GridWide}
use Rattle.placing.specs.declared.wide.WideChild.{WideChild}
use Rattle.box_layout.specs.GridFrames.{IsFrameOf, frame_over, no_frame}
use Rattle.box_layout.proofs.GridFramed.{child_is, entry_is, frame_is, ok_both}

-- ---- lists

pub zipped_length : {A B C : Type 0} (f : A → B → C) (xs : List A) (ys : List B) → length ys ≡ length xs → length (zipped f xs ys) ≡ length xs
zipped_length f [] ys e = refl
zipped_length f (x ∷ xs) [] e = absurd (omega (arith, e))
zipped_length f (x ∷ xs) (y ∷ ys) e = ap suc (zipped_length f xs ys (omega (arith, e)))

drop_next : {A : Type 0} (u : A) (us : List A) (k : ℕ) → drop (suc k + 1) (u ∷ us) ≡ drop (k + 1) us
drop_next u us k = let e : suc k + 1 ≡ suc (k + 1) = omega arith in ap (λ n. drop n (u ∷ us)) e

drop_first : {A : Type 0} (u : A) (us : List A) → u ∷ us ≡ u ∷ drop (zero + 1) (u ∷ us)
drop_first u us = let e : zero + 1 ≡ suc zero = omega arith in sym (ap (λ n. u ∷ drop n (u ∷ us)) e)

-- what holds of the item that comes at an index holds of what is read there
pub read_at : {A B : Type 0} (f : A → B) (other : B) (P : B → Type 0) (xs : List A) (k : ℕ) → k < length xs → ((x : A) → drop k xs ≡ x ∷ drop (k + 1) xs → P (f x)) → P (get_or (map f xs) k other)
read_at f other P [] k l h = absurd (omega (arith, l))
read_at f other P (x ∷ xs) zero l h = h x (drop_first x xs)
read_at f other P (x ∷ xs) (suc k) l h = read_at f other P xs k (omega (arith, l)) (λ v e. h v (e ∙ ap (λ z. v ∷ z) (sym (drop_next x xs k))))

-- ---- the children of a grid

module _ (b : BareTrees) (n : NodeId) (outer : List Pair) (width : Given) where
  inlines_counted : length (grid_seen b n outer width).inlines ≡ length (grid_seen b n outer width).entries
  unfolding grid_seen
  inlines_counted = length-map (grid_seen b n outer width).entries _

  pub wides_counted : length (wides_seen b n outer width) ≡ length (grid_seen b n outer width).entries
  unfolding wides_seen
  wides_counted = zipped_length _ (grid_seen b n outer width).entries (grid_seen b n outer width).inlines inlines_counted

  module _ (wide : GridWide) (is : IsWide b n outer width wide) (index : ℕ) (e : ChildArea) (rest : List Entry) (entries : drop index (entries_at b n wide.parts.base.placed) ≡ entry_by b e ∷ rest) where
    within : index < length (wides_seen b n outer width)
    within = omega (arith, drop_within (entries_at b n wide.parts.base.placed) rest index (entry_by b e) entries, ap length is.grid.entries, wides_counted)

    -- the code holds it
    pub child_there : index < length wide.children
    child_there = omega (arith, within, ap length is.wide.children, length-map (wides_seen b n outer width) child_of)

    rows_told : IsEntry b n wide.parts.base e → shares_rows (kid_at b e.child) ≡ (has_subgrid_kind (sight_at b e.child).label && is_subgrid (sight_at b e.child).label.grid.rows.template)
    rows_told h = ap (λ (t : Bool). t && is_subgrid (sight_at b e.child).label.grid.rows.template) h.chain

    -- its frame
    pub framed_here : {E : Type 0} (rows : View 1) (container style : StyleMap) (s t : Bool) (child : WideChild) (column_span row_span : Span) → IsEntry b n wide.parts.base e
        → grid_of container ≡ (sight_at b n).label.grid → content_of container ≡ (sight_at b n).label.content
        → grid_of style ≡ (sight_at b e.child).label.grid → content_of style ≡ (sight_at b e.child).label.content
        → s ≡ (has_subgrid_kind (sight_at b e.child).label && is_subgrid (sight_at b e.child).label.grid.columns.template)
        → t ≡ (has_subgrid_kind (sight_at b e.child).label && is_subgrid (sight_at b e.child).label.grid.rows.template)
        → child ≡ get_or wide.children index child
        → column_span ≡ from_first wide.parts.base.placed.columns e.area.columns → row_span ≡ from_first wide.parts.base.placed.rows e.area.rows
        → (r : Result NodeFrame E) → IfOk r (λ (f : NodeFrame). f.child ≡ e.child)
        → IfOk r (λ (f : NodeFrame). frame_of f ≡ frame_over container style s t wide.columns column_span rows row_span child.box_ child.inline child.block)
        → IfOk r (IsFrameOf b n (get_or (map (grid_child (grid_seen b n outer width) (columns_seen b n outer width) rows) (wides_seen b n outer width)) index no_frame))
    framed_here rows container style s t child column_span row_span h cg cc_ xg xc p q held first across r made value =
        ok_both r _ _ _
        (λ (f : NodeFrame) (c : f.child ≡ e.child) (v : frame_of f ≡ frame_over container style s t wide.columns column_span rows row_span child.box_ child.inline child.block).
        read_at (grid_child (grid_seen b n outer width) (columns_seen b n outer width) rows) no_frame (λ z. IsFrameOf b n z f) (wides_seen b n outer width) index within
        (λ w next. record {
          child = ap (child_at b n) (ap (λ (z : Entry). z.number) (entry_is b n outer width wide is index e rest w (drop (index + 1) (wides_seen b n outer width)) entries next)) ∙ h.number ∙ ap Some (sym c);
          value =
              v ∙ (λ i. frame_over container style s t wide.columns (first i) rows (across i) child.box_ child.inline child.block) ∙
              frame_is b n outer width wide is index e rest w (drop (index + 1) (wides_seen b n outer width)) entries next rows container style s t child cg cc_ xg xc (shares_told b n wide.parts.base e h ∙ sym p) (rows_told h ∙ sym q)
              (held ∙ child_is b n outer width wide is index e rest w (drop (index + 1) (wides_seen b n outer width)) entries next child);
        }))
        made value

-- What the frames of a grid give its children fits them.
use Rattle.std.proofs.Common.{arith, ap, ◌≡◌, ◌∙◌, refl, subst, sym, ℕ, zero, suc, ◌+◌, ℤ, pos, ◌-ℤ◌, Bool, true, false, ◌&&◌, List, [], ◌∷◌, drop, length, map, true≢false, if◌then◌else◌}
use Rattle.std.specs.Prelude.{reverse}
use Rattle.lunit.specs.declared.geometry.Area.{Area}
use Rattle.lunit.specs.declared.geometry.Span.{Span}
use Rattle.part_rules.specs.declared.view.View.{View}
use Rattle.part_rules.specs.LineNames.{NamedSpan}
use Rattle.part_rules.specs.Lists.{above_zero, zipped}
use Rattle.part_rules.specs.Placement.{no_area, placed}
use Rattle.placing.proofs.Each.{Each}
use Rattle.placing.proofs.Numbers.{Differ, differ_in_order, each_sorted, of_number_at}
use Rattle.placing.specs.Ranges.{IsGridStyle}
use Rattle.plain_tree.specs.Trees.{Trees, leafless, tree}
use Rattle.tree_rules.proofs.Lengths.{length_map, length_placed}
use Rattle.tree_rules.proofs.Sorted.{EachTwo, back_in_order, number_of, sort_alike, without_numbers}
use Rattle.tree_rules.proofs.Pairs.{each_weaker}
use Rattle.tree_rules.specs.Answers.{Frame, Kid, Pair}
use Rattle.tree_rules.specs.Chains.{Above, Link, Sibling, above_of, chain_of, has_chain, has_subgrid, is_grid_kind, is_subgrid, link_to, sibling_of, siblings_of}
use Rattle.tree_rules.specs.Contexts.{AxisContext, Context, area_of, column_cells, context_by, context_under, cut_area, named_columns, named_rows, own_context, placed_children, row_cells, shape_of, shared_context, wish_of, with_area}
use Rattle.tree_rules.specs.Frames.{Framed, grid_child}
use Rattle.tree_rules.specs.GridSizes.{Entry, Grid, entry_of, grid_by, inline_of_entry, pairs_for, shares_columns, shares_rows, wide_of}
use Rattle.tree_rules.specs.Labels.{GridAxis, GridStyle, Label}
use Rattle.tree_rules.specs.Orders.{in_document_order, in_order, numbered_from, of_number, sorted_by}
use Rattle.tree_rules.specs.Queries.{IsGivenFor}
use Rattle.tree_rules.specs.Whole.{kids_of}
use Rattle.tree_rules.specs.declared.query.Given.{Given}
use Rattle.tree_rules.specs.declared.query.Given.TheVariants as given
use Rattle.inline_sizes.specs.GridsSeen.{AreEntriesIn}
use Rattle.box_layout.proofs.GivenTracks.{IsLaid, row_fits, wide_fits}

-- ---- what fits a child

-- its context along both axes, by the counts of the grids above it
abbrev pub context_of_kid : Kid → List Pair → Context
context_of_kid k reps = context_by k.label.grid k.chain ((1, 1) ∷ reverse reps)

-- it is given what its frame gives it, where its parent's subgrids see these counts
pub record IsGivenRight (pairs : List Pair) (k : Kid) (f : Frame) : Type 0 where
  pub inline : IsGivenFor true (shares_columns k) (context_of_kid k (pairs_for k pairs)).columns.table.tracks f.inline
  pub block : IsGivenFor true (shares_rows k) (context_of_kid k (pairs_for k pairs)).rows.table.tracks f.block

both_true : (x y : Bool) → (x && y) ≡ true → x ≡ true
both_true true y e = refl
both_true false y e = absurd (true≢false (sym e))

then_true : (x y : Bool) → (x && y) ≡ true → y ≡ true
then_true true y e = e
then_true false y e = absurd (true≢false (sym e))

-- a size fits whatever the tracks are
pub given_other : (shared : Bool) (m n : ℕ) (g : Given) → (shared ≡ true → n ≡ m) → IsGivenFor true shared m g → IsGivenFor true shared n g
given_other true m n g e h = subst (λ k. IsGivenFor true true k g) (sym (e refl)) h
given_other false m n (given.Size x) e h = h
given_other false m n (given.Tracks edges gap) e h = absurd h
given_other false m n given.None e h = absurd h

-- ---- the children by their numbers

-- the links of a child that is a subgrid begin with the one to its parent
pub linked : (above : Above) (way : ℕ) (y : Label) (l : List Link) → l ≡ chain_of above way y → has_chain l ≡ true → l ≡ link_to above way ∷ above.chain
linked above way y l same some = same ∙ go (above.is_grid && (is_grid_kind y.kind && has_subgrid y.grid)) (ap has_chain (sym same) ∙ some)
  where
    go : (t : Bool) → has_chain (if t then link_to above way ∷ above.chain else []) ≡ true → (if t then link_to above way ∷ above.chain else []) ≡ link_to above way ∷ above.chain
    go true h = refl
    go false h = absurd (true≢false (sym h))

shared_tracks : (parent : AxisContext) (span : Span) (a : GridAxis) (cells : ℕ) (named : List NamedSpan) (count : ℕ) → is_subgrid a.template ≡ true → (context_under parent span a cells named count).table.tracks ≡ above_zero (span.end -ℤ span.start)
shared_tracks parent span a cells named count e = ap (λ (t : Bool). (if t then shared_context parent span a named else own_context a cells named count).table.tracks) e

pub siblings_below : (above : Above) (n : ℕ) (below : Trees Label) → map (λ (k : Kid). sibling_of k.label) (kids_of above n below) ≡ siblings_of below
siblings_below above n leafless = refl
siblings_below above n (tree x below after) = ap (λ l. sibling_of x ∷ l) (siblings_below above (n + 1) after)

-- a child of this number under a node
record IsKidOf (above : Above) (e : ℕ × Kid) : Type 0 where
  chain : e.1.chain ≡ chain_of above e.0 e.1.label
  grid : IsGridStyle e.1.label.grid

kids_numbered : (above : Above) (n : ℕ) (t : Trees Label) → Each (λ (k : Kid). IsGridStyle k.label.grid) (kids_of above n t) → Each (IsKidOf above) (numbered_from n (kids_of above n t))
kids_numbered above n leafless h = tt
kids_numbered above n (tree x below after) h = (record { chain = refl; grid = h.0 }, kids_numbered above (n + 1) after h.1)

-- a child and what its parent sees of it, in the same order
record IsSeenAs (e : ℕ × Kid) (s : ℕ × Sibling) : Type 0 where
  number : e.0 ≡ s.0
  order : e.1.label.grid.order ≡ s.1.grid.order

seen_numbered : (n : ℕ) (kids : List Kid) → EachTwo IsSeenAs (numbered_from n kids) (numbered_from n (map (λ (k : Kid). sibling_of k.label) kids))
seen_numbered n [] = tt
seen_numbered n (k ∷ kids) = (record { number = refl; order = refl }, seen_numbered (n + 1) kids)

tail_drop : {A : Type 0} (xs rest : List A) (i : ℕ) (x : A) → drop i xs ≡ x ∷ rest → drop (suc i) xs ≡ rest
tail_drop [] rest zero x e = absurd cc
tail_drop [] rest (suc i) x e = absurd cc
tail_drop (u ∷ us) rest zero x e = cc
tail_drop (u ∷ us) rest (suc i) x e = tail_drop us rest i x e

-- ---- a grid

module _ (x : Label) (chain : List Link) (below : Trees Label) (outer : List Pair) (width : Given) (styled : Each (λ (k : Kid). IsGridStyle k.label.grid) (kids_of (above_of x chain below) 0 below)) where
  abbrev upper : Above
  upper = above_of x chain below

  abbrev kids : List Kid
  kids = kids_of upper 0 below

  abbrev g : Grid
  g = grid_by x chain kids outer width

  abbrev siblings : List Sibling
  siblings = map (λ (k : Kid). sibling_of k.label) kids

  abbrev ordered : List (ℕ × Sibling)
  ordered = in_order (λ (s : Sibling). s.grid.order) siblings

  abbrev cuts : List Area
  cuts = map (cut_area g.context) (placed (map (λ (e : ℕ × Sibling). wish_of g.context e.1) ordered) (shape_of g.context x.grid))

  abbrev areas : List (ℕ × Area)
  areas = zipped with_area ordered cuts

  differ : Differ areas
  differ = differ_in_order (λ (s : Sibling). s.grid.order) siblings with_area (λ e a. refl) cuts

  cuts_counted : length cuts ≡ length ordered
  cuts_counted =
      length_map (cut_area g.context) (placed (map (λ (e : ℕ × Sibling). wish_of g.context e.1) ordered) (shape_of g.context x.grid))
      ∙ length_placed (map (λ (e : ℕ × Sibling). wish_of g.context e.1) ordered) (shape_of g.context x.grid)
      ∙ length_map (λ (e : ℕ × Sibling). wish_of g.context e.1) ordered

  -- where a child that is a subgrid stands
  area_seen : (n : ℕ) → area_of (placed_children g.context x.grid (siblings_of below)) n ≡ of_number n no_area areas
  area_seen n = ap (λ (ss : List Sibling). area_of (placed_children g.context x.grid ss) n) (sym (siblings_below upper 0 below))

  pairs_same : (k : Kid) → has_chain k.chain ≡ true → pairs_for k g.pairs ≡ g.pairs
  pairs_same k some = ap (λ (t : Bool). if t then g.pairs else []) some

  kid_context : (n : ℕ) (k : Kid) → IsKidOf upper (n, k) → has_chain k.chain ≡ true → context_of_kid k (pairs_for k g.pairs) ≡ context_by k.label.grid (link_to upper n ∷ chain) ((1, 1) ∷ reverse g.pairs)
  kid_context n k is some = λ i. context_by k.label.grid (linked upper n k.label k.chain is.chain some i) ((1, 1) ∷ reverse (pairs_same k some i))

  kid_columns : (n : ℕ) (k : Kid) (a : Area) → IsKidOf upper (n, k) → of_number n no_area areas ≡ a → shares_columns k ≡ true → (context_of_kid k (pairs_for k g.pairs)).columns.table.tracks ≡ above_zero (a.columns.end -ℤ a.columns.start)
  kid_columns n k a is there shares =
      let y : GridStyle = k.label.grid in
      let place : Area = area_of (placed_children g.context x.grid (siblings_of below)) n in
      ap (λ (c : Context). c.columns.table.tracks) (kid_context n k is (both_true (has_chain k.chain) (is_subgrid y.columns.template) shares))
      ∙ shared_tracks g.context.columns place.columns y.columns (column_cells y.areas) (named_columns y.areas) 1 (then_true (has_chain k.chain) (is_subgrid y.columns.template) shares)
      ∙ ap (λ (z : Area). above_zero (z.columns.end -ℤ z.columns.start)) (area_seen n ∙ there)

  kid_rows : (n : ℕ) (k : Kid) (a : Area) → IsKidOf upper (n, k) → of_number n no_area areas ≡ a → shares_rows k ≡ true → (context_of_kid k (pairs_for k g.pairs)).rows.table.tracks ≡ above_zero (a.rows.end -ℤ a.rows.start)
  kid_rows n k a is there shares =
      let y : GridStyle = k.label.grid in
      let place : Area = area_of (placed_children g.context x.grid (siblings_of below)) n in
      ap (λ (c : Context). c.rows.table.tracks) (kid_context n k is (both_true (has_chain k.chain) (is_subgrid y.rows.template) shares))
      ∙ shared_tracks g.context.rows place.rows y.rows (row_cells y.areas) (named_rows y.areas) 1 (then_true (has_chain k.chain) (is_subgrid y.rows.template) shares)
      ∙ ap (λ (z : Area). above_zero (z.rows.end -ℤ z.rows.start)) (area_seen n ∙ there)

  -- a child with its number and a frame
  record IsRightAt (e : ℕ × Kid) (f : ℕ × Framed) : Type 0 where
    number : pos e.0 ≡ pos f.0
    given : IsGivenRight g.pairs e.1 f.1.frame

  module _ (columns : View 0) (rows : View 1) (in_columns : IsLaid g.placed.columns columns) (in_rows : IsLaid g.placed.rows rows) where
    abbrev framed_from : List Entry → List (ℕ × Framed)
    framed_from entries = map (grid_child g columns rows) (zipped (wide_of g columns) entries (map (inline_of_entry g.pairs) entries))

    all_right : (i : ℕ) (ks : List (ℕ × Kid)) (os : List (ℕ × Sibling)) (cs : List Area) → EachTwo IsSeenAs ks os → length cs ≡ length os → drop i areas ≡ zipped with_area os cs → Each (IsKidOf upper) ks
        → AreEntriesIn g.placed.columns g.placed.rows (zipped entry_of ks (zipped with_area os cs)) → EachTwo IsRightAt ks (framed_from (zipped entry_of ks (zipped with_area os cs)))
    all_right i [] [] cs seen count there kid inside = tt
    all_right i [] (o ∷ os) cs seen count there kid inside = absurd seen
    all_right i (k ∷ ks) [] cs seen count there kid inside = absurd seen
    all_right i (k ∷ ks) (o ∷ os) [] seen count there kid inside = absurd (omega (arith, count))
    all_right i (k ∷ ks) (o ∷ os) (c ∷ cs) seen count there kid inside =
        let e : Entry = record { number = k.0; kid = k.1; area = c } in
        let found : of_number k.0 no_area areas ≡ c = ap (λ (n : ℕ). of_number n no_area areas) seen.0.number ∙ of_number_at no_area areas (zipped with_area os cs) i o.0 c differ there in (
          record {
            number = refl;
            given = record {
              inline = given_other (shares_columns k.1) (above_zero (c.columns.end -ℤ c.columns.start)) (context_of_kid k.1 (pairs_for k.1 g.pairs)).columns.table.tracks (wide_of g columns e (inline_of_entry g.pairs e)).inline
                  (λ shares. kid_columns k.0 k.1 c kid.0 found shares) (wide_fits g columns e (inline_of_entry g.pairs e) in_columns inside.0.columns kid.0.grid);
              block = given_other (shares_rows k.1) (above_zero (c.rows.end -ℤ c.rows.start)) (context_of_kid k.1 (pairs_for k.1 g.pairs)).rows.table.tracks (grid_child g columns rows (wide_of g columns e (inline_of_entry g.pairs e))).1.frame.block
                  (λ shares. kid_rows k.0 k.1 c kid.0 found shares) (row_fits g rows (wide_of g columns e (inline_of_entry g.pairs e)) in_rows inside.0.rows kid.0.grid);
            };
          },
          all_right (suc i) ks os cs seen.1 (omega (arith, count)) (tail_drop areas (zipped with_area os cs) i (o.0, c) there) kid.1 inside.1,
        )

    pub frames_right : AreEntriesIn g.placed.columns g.placed.rows g.entries → EachTwo (λ (k : Kid) (f : Framed). IsGivenRight g.pairs k f.frame) kids (in_document_order (framed_from g.entries))
    frames_right inside =
        let order : Kid → ℤ = λ k. k.label.grid.order in
        let made : List (ℕ × Framed) = framed_from g.entries in
        let ks : List (ℕ × Kid) = in_order order kids in
        let seen : EachTwo IsSeenAs ks ordered = sort_alike IsSeenAs (λ (e : ℕ × Kid). order e.1) (λ (s : ℕ × Sibling). s.1.grid.order) (λ e s r. r.order) (numbered_from 0 kids) (numbered_from 0 siblings) (seen_numbered 0 kids) in
        let kid : Each (IsKidOf upper) ks = each_sorted (λ (e : ℕ × Kid). order e.1) (IsKidOf upper) (numbered_from 0 kids) (kids_numbered upper 0 below styled) in
        let right : EachTwo IsRightAt ks made = all_right 0 ks ordered cuts seen cuts_counted refl kid inside in
        let alike : EachTwo IsRightAt (sorted_by (number_of {A = Kid}) ks) (sorted_by (number_of {A = Framed}) made) = sort_alike IsRightAt (number_of {A = Kid}) (number_of {A = Framed}) (λ e f r. r.number) ks made right in
        let numbered : EachTwo IsRightAt (numbered_from 0 kids) (sorted_by (number_of {A = Framed}) made) = subst (λ l. EachTwo IsRightAt l (sorted_by (number_of {A = Framed}) made)) (back_in_order order kids) alike in
        without_numbers (λ (k : Kid) (f : Framed). IsGivenRight g.pairs k f.frame) 0 kids (sorted_by (number_of {A = Framed}) made)
        (each_weaker IsRightAt (λ (e : ℕ × Kid) (f : ℕ × Framed). IsGivenRight g.pairs e.1 f.1.frame) (λ e f r. r.given) (numbered_from 0 kids) (sorted_by (number_of {A = Framed}) made) numbered)

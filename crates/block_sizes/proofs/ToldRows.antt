-- What the children of a grid tell in its columns: one after the other, and once all of them told it.
use Rattle.std.proofs.Common.{arith, length-append, ◌≡◌, ◌∙◌, ℕ, zero, suc, ◌+◌, ◌<◌, ◌∷◌, ◌++◌, [], List, Option, Some, ℤ, drop, length, map, refl, sym, ap, subst, ◌≤◌, ◌^◌}
use Rattle.std.specs.Prelude.{◌&&◌, ◌==◌, IfSome, get_or, slice_get, slice_set, true}
use Rattle.std.specs.List.{All}
use Rattle.std.proofs.lemmas.List.{drop_all, drop_more}
use Rattle.std.proofs.lemmas.List.Elements.{All-get_or}
use Rattle.std.proofs.lemmas.Bool.{and_parts}
use Rattle.std.proofs.lemmas.Bool.Decides.{Decides-int_eq}
use Rattle.std.specs.Ordering.{int_eq}
use Rattle.layout_cache.proofs.Sames.{count_is, items_is}
use Rattle.lunit.specs.declared.geometry.Area.{Area}
use Rattle.lunit.specs.declared.item.Item.{Item}
use Rattle.node_arena.specs.declared.number.NodeId.{NodeId}
use Rattle.part_rules.specs.Lists.{joined, zipped}
use Rattle.part_rules.specs.declared.view.View.{View}
use Rattle.placing.proofs.Entries.{entries_counted, entries_told, places_alike, HasKid}
use Rattle.placing.proofs.Tellings.{told_all, told_as, told_lists, told_none, told_push, told_set}
use Rattle.placing.specs.Areas.{entries_at, entry_by}
use Rattle.placing.specs.Children.{IsTree}
use Rattle.placing.specs.Nodes.{BareTrees, children_at, kid_at, sight_at}
use Rattle.placing.specs.Seats.{context_at}
use Rattle.placing.specs.Spread.{AreSpread, IsSpread}
use Rattle.placing.specs.Told.{AllBut, AreColumns, AreRows, AreRowsFor, AreTold, Each, IsPastRows, TellsRows, ends_from, entry_with, inline_told, wide_told}
use Rattle.placing.specs.Wides.{child_of}
use Rattle.placing.specs.declared.contexts.Placed.{Placed}
use Rattle.placing.specs.declared.items.ChildArea.{ChildArea}
use Rattle.placing.specs.declared.told.PastRows.{PastRows}
use Rattle.placing.specs.declared.told.ToldRows.{ToldRows}
use Rattle.placing.specs.declared.wide.GridBase.{GridBase}
use Rattle.placing.specs.declared.wide.GridParts.{GridParts}
use Rattle.placing.specs.declared.wide.RowsAt.{RowsAt}
use Rattle.placing.specs.declared.wide.WideChild.{WideChild}
use Rattle.style_types.specs.declared.value.Align.{Align}
use Rattle.tree_rules.specs.Answers.{Kid, Pair}
use Rattle.tree_rules.specs.GridSizes.{Entry, Wide, from_first, inline_of_entry, pairs_for, row_items_of, shares_columns}
use Rattle.tree_rules.specs.Places.{Seen}
use Rattle.tree_rules.specs.Queries.{same_items}
use Rattle.tree_rules.specs.declared.query.Given.{Given}
use Rattle.inline_sizes.proofs.Held.{places_held}
use Rattle.inline_sizes.specs.Grids.{IsGrid}
use Rattle.inline_sizes.specs.GridsSeen.{grid_seen}
use Rattle.block_sizes.proofs.KnownRows.{rows_by, rows_held}
use Rattle.block_sizes.proofs.Leading.{map_drop}
use Rattle.block_sizes.proofs.Widths.{columns_are, context_is, rows_items}
use Rattle.block_sizes.specs.Told.{AreIn, AreLaid, ArePastIn, IsToldWide}
use Rattle.block_sizes.specs.Wides.{AreWide, columns_seen, items_of, items_seen, wide_in, wide_seen, wides_seen}

-- ---- the same tracks and counts

track_is : (x y : ℤ × ℤ) → (int_eq x.0 y.0 && int_eq x.1 y.1) ≡ true → x ≡ y
track_is x y e = let parts = and_parts (int_eq x.0 y.0) (int_eq x.1 y.1) e in λ i. ((Decides-int_eq x.0 y.0).0 parts.0 i, (Decides-int_eq x.1 y.1).0 parts.1 i)

pub tracks_are : (xs ys : List (ℤ × ℤ)) → same_items (λ (x : ℤ × ℤ) (y : ℤ × ℤ). int_eq x.0 y.0 && int_eq x.1 y.1) xs ys ≡ true → xs ≡ ys
tracks_are xs ys e = items_is (λ (x : ℤ × ℤ) (y : ℤ × ℤ). int_eq x.0 y.0 && int_eq x.1 y.1) track_is xs ys e

pub counts_are : (xs ys : List Pair) → same_items (λ (x : ℕ × ℕ) (y : ℕ × ℕ). (x.0 == y.0) && (x.1 == y.1)) xs ys ≡ true → xs ≡ ys
counts_are xs ys e = items_is (λ (x : ℕ × ℕ) (y : ℕ × ℕ). (x.0 == y.0) && (x.1 == y.1)) count_is xs ys e

-- ---- what one child tells

-- it depends on these parts of the grid alone
tells_as : (s : Seen) (kid : NodeId → Kid) (p q : GridBase) → p.pairs ≡ q.pairs → p.placed ≡ q.placed → (columns over : View 0) → columns ≡ over → (align aligned : Align) → align ≡ aligned → (k : ℕ) (x : WideChild) (made : List Item) → TellsRows s kid p columns align k x made
    → TellsRows s kid q over aligned k x made
tells_as s kid p q pairs placed columns over v align aligned w k x made h =
    let there : TellsRows s kid (record p { pairs = q.pairs; placed = q.placed }) over aligned k x made = subst (λ (l : Placed). TellsRows s kid (record p { pairs = q.pairs; placed = l }) over aligned k x made) placed
    (subst (λ (l : List Pair). TellsRows s kid (record p { pairs = l }) over aligned k x made) pairs (subst (λ (z : Align). TellsRows s kid p over z k x made) w (subst (λ (z : View 0). TellsRows s kid p z align k x made) v h))) in
    record { child = there.child; items = there.items }

-- the child of an index tells what it answers
tells_rows : (s : Seen) (kid : NodeId → Kid) (base : GridBase) (columns : View 0) (align : Align) (k : ℕ) (c : NodeId) (a : Area) (x : WideChild) (made : List Item) → slice_get base.placed.areas k ≡ Some (c, a) → x ≡ child_of (wide_told (kid c) a base columns align)
    → made ≡ row_items_of (context_at s base.pairs).rows (entry_with (kid c) a) (wide_told (kid c) a base columns align).down → TellsRows s kid base columns align k x made
tells_rows s kid base columns align k c a x made there w m =
    record {
      child = λ d e h. w ∙ ap (λ (p : NodeId × Area). child_of (wide_told (kid p.0) p.1 base columns align)) (same d e h);
      items = λ d e h. m ∙ ap (λ (p : NodeId × Area). row_items_of (context_at s base.pairs).rows (entry_with (kid p.0) p.1) (wide_told (kid p.0) p.1 base columns align).down) (same d e h);
    }
  where
    some_same : (p q : NodeId × Area) → Some p ≡ Some q → p ≡ q
    some_same p q h = cc

    own : NodeId × Area
    own = (c, a)

    pair : NodeId → Area → NodeId × Area
    pair d e = (d, e)

    same : (d : NodeId) (e : Area) → slice_get base.placed.areas k ≡ Some (d, e) → own ≡ pair d e
    same d e h = some_same own (pair d e) (sym there ∙ h)

module _ (b : BareTrees) (n : NodeId) (outer : List Pair) (width : Given) (parts : GridParts) (grid : IsGrid b n outer width parts) where
  -- the inline sizes of all children
  seen_inlines : (grid_seen b n outer width).inlines ≡ map (inline_of_entry (grid_seen b n outer width).pairs) (grid_seen b n outer width).entries
  unfolding grid_seen
  seen_inlines = refl

  inlines_are : parts.inlines ≡ map (inline_of_entry parts.base.pairs) (entries_at b n parts.base.placed)
  inlines_are = grid.inlines ∙ seen_inlines ∙ (λ i. map (inline_of_entry (sym grid.pairs i)) (sym grid.entries i))

  -- of the one at an index
  sizes_told : (k : ℕ) (e : Entry) (sizes : ℤ × ℤ) → drop k (entries_at b n parts.base.placed) ≡ e ∷ drop (k + 1) (entries_at b n parts.base.placed) → drop k parts.inlines ≡ sizes ∷ drop (k + 1) parts.inlines → sizes ≡ inline_of_entry parts.base.pairs e
  sizes_told k e sizes next there =
      first sizes (inline_of_entry parts.base.pairs e) (drop (k + 1) parts.inlines) (map (inline_of_entry parts.base.pairs) (drop (k + 1) (entries_at b n parts.base.placed)))
      (sym there ∙ ap (drop k) inlines_are ∙ map_drop (inline_of_entry parts.base.pairs) (entries_at b n parts.base.placed) (drop (k + 1) (entries_at b n parts.base.placed)) k e next)
    where
      first : (x y : ℤ × ℤ) (xs ys : List (ℤ × ℤ)) → x ∷ xs ≡ y ∷ ys → x ≡ y
      first x y xs ys h = cc

-- what the code asked of the child of an index, in the middle of a walk, is what it tells
pub tells_now : (b d : BareTrees) → d ≡ b → (n : NodeId) (outer : List Pair) (width : Given) (parts : GridParts) (read : GridBase) → read ≡ parts.base → (columns : View 0) (e : ChildArea) (sizes : ℤ × ℤ) (k : ℕ) (x : WideChild) (made : List Item) → IsGrid b n outer width parts →
    slice_get parts.base.placed.areas k ≡ Some (e.child, e.area) → drop k (entries_at d n parts.base.placed) ≡ entry_by d e ∷ drop (k + 1) (entries_at d n parts.base.placed) → drop k parts.inlines ≡ sizes ∷ drop (k + 1) parts.inlines → x ≡ child_of (wide_in d n read columns e sizes) →
    made ≡ items_seen d n read e (wide_in d n read columns e sizes).inline → TellsRows (sight_at b n) (kid_at b) parts.base columns (sight_at b n).label.content.inline.items k x made
tells_now b d is n outer width parts read same columns e sizes k x made grid told next there w m =
    let sized : sizes ≡ inline_of_entry parts.base.pairs (entry_by b e) = sizes_told b n outer width parts grid k (entry_by b e) sizes (subst (λ (z : BareTrees). drop k (entries_at z n parts.base.placed) ≡ entry_by z e ∷ drop (k + 1) (entries_at z n parts.base.placed)) is next) there in
    tells_rows (sight_at b n) (kid_at b) parts.base columns (sight_at b n).label.content.inline.items k e.child e.area x made told (w ∙ (λ i. child_of (wide_in (is i) n (same i) columns e (sized i))))
    (m ∙ (λ i. items_seen (is i) n (same i) e (wide_in (is i) n (same i) columns e (sized i)).inline))

-- ---- what all of them tell

map_two : {A B C : Type 0} (f : A → B) (g : B → C) (xs : List A) → map (λ x. g (f x)) xs ≡ map g (map f xs)
map_two f g [] = refl
map_two f g (x ∷ xs) = ap (λ l. g (f x) ∷ l) (map_two f g xs)

zipped_map : {A B C : Type 0} (f : A → B → C) (h : A → B) (xs : List A) → zipped f xs (map h xs) ≡ map (λ x. f x (h x)) xs
zipped_map f h [] = refl
zipped_map f h (x ∷ xs) = ap (λ l. f x (h x) ∷ l) (zipped_map f h xs)

module _ (b : BareTrees) (n : NodeId) (outer : List Pair) (width : Given) (parts : GridParts) (grid : IsGrid b n outer width parts) where
  -- a child of the definitions, by its entry
  wide_at : Entry → Wide
  wide_at e = wide_seen b n outer width e (inline_of_entry parts.base.pairs e)

  wides_are : wides_seen b n outer width ≡ map wide_at (entries_at b n parts.base.placed)
  unfolding wides_seen wide_seen wide_at
  wides_are =
      (λ i. zipped (wide_seen b n outer width) (sym grid.entries i) ((sym grid.inlines ∙ inlines_are b n outer width parts grid) i))
      ∙ zipped_map (wide_seen b n outer width) (inline_of_entry parts.base.pairs) (entries_at b n parts.base.placed)

  module _ (columns : View 0) (v : columns ≡ columns_seen b n outer width) (align : Align) (w : align ≡ (sight_at b n).label.content.inline.items) (e : Entry) (c : NodeId) (kid : e.kid ≡ kid_at b c) where
    child_is : child_of (wide_told (kid_at b c) e.area parts.base columns align) ≡ child_of (wide_at e)
    unfolding wide_at wide_seen grid_seen
    child_is = λ i.
        let inline : ℤ × Given = inline_told (w i) (v i) (from_first (columns_are b n outer width parts grid i) e.area.columns) (sym kid i).label (shares_columns (sym kid i)) (inline_of_entry parts.base.pairs (record e { kid = sym kid i })) in
        child_of (record { entry = record e { kid = sym kid i }; box = inline.0; inline = inline.1; down = (sym kid i).answers.down (pairs_for (sym kid i) (grid.pairs i)) inline.1 })

    items_are : row_items_of (context_at (sight_at b n) parts.base.pairs).rows (entry_with (kid_at b c) e.area) (wide_told (kid_at b c) e.area parts.base columns align).down ≡ items_of b n outer width (wide_at e)
    unfolding wide_at wide_seen grid_seen
    items_are = λ i.
        let inline : ℤ × Given = inline_told (w i) (v i) (from_first (columns_are b n outer width parts grid i) e.area.columns) (sym kid i).label (shares_columns (sym kid i)) (inline_of_entry parts.base.pairs (record e { kid = sym kid i })) in
        row_items_of (context_is b n outer width parts grid i).rows (record e { kid = sym kid i }) ((sym kid i).answers.down (pairs_for (sym kid i) (grid.pairs i)) inline.1)

  module _ (whole : IsTree b) (columns : View 0) (v : columns ≡ columns_seen b n outer width) (rows : ToldRows) (h : AreIn b n parts.base columns Each rows) where
    each_is : (k : ℕ) (e : Entry) (x : WideChild) (made : List Item) → slice_get (entries_at b n parts.base.placed) k ≡ Some e → TellsRows (sight_at b n) (kid_at b) parts.base rows.columns rows.align k x made → (x ≡ child_of (wide_at e)) × (made ≡ items_of b n outer width (wide_at e))
    each_is k e x made there t =
        let own : HasKid b n parts.base.placed k e = entries_told b n parts.base.placed k e whole grid.base.laid.placed.children there in
        (t.child own.child e.area own.area ∙ child_is rows.columns (h.over ∙ v) rows.align h.aligned e own.child own.kid, t.items own.child e.area own.area ∙ items_are rows.columns (h.over ∙ v) rows.align h.aligned e own.child own.kid)

    lists : (rows.children ≡ map (λ (e : Entry). child_of (wide_at e)) (entries_at b n parts.base.placed)) × (rows.items ≡ joined (map (λ (e : Entry). items_of b n outer width (wide_at e)) (entries_at b n parts.base.placed)))
    lists =
        told_lists (TellsRows (sight_at b n) (kid_at b) parts.base rows.columns rows.align) rows.children rows.items rows.ends (entries_at b n parts.base.placed) (λ (e : Entry). child_of (wide_at e)) (λ (e : Entry). items_of b n outer width (wide_at e))
        (h.told.counted ∙ sym (entries_counted b n parts.base.placed grid.base.laid.placed.children)) each_is h.told.told

    -- they are the children of the definitions
    pub wide_from : AreWide b n outer width rows.children rows.items
    wide_from =
        record {
          children = lists.0 ∙ map_two wide_at child_of (entries_at b n parts.base.placed) ∙ ap (map child_of) (sym wides_are);
          items = lists.1 ∙ ap joined (map_two wide_at (items_of b n outer width) (entries_at b n parts.base.placed) ∙ ap (map (items_of b n outer width)) (sym wides_are));
        }

  -- the grid with them
  pub told_made : IsTree b → (columns : View 0) (rows : ToldRows) (known : Option RowsAt) (ends : List ℕ) → AreColumns (sight_at b n) (kid_at b) Each (record { parts = parts; ends = ends }) → AreLaid b n outer width parts.base columns →
      ((by : ℕ) → 2 ^ 51 ≤ by → IsSpread by width → AreSpread by columns.edges) → AreIn b n parts.base columns Each rows → IfSome known (AreRowsFor (sight_at b n) parts.base rows.items) →
      IsToldWide b n outer width (record { wide = record { parts = parts; columns = rows.columns; children = rows.children; items = rows.items; rows = known }; column_ends = ends; row_ends = rows.ends })
  told_made whole columns rows known ends told laid far h lasting =
      let here : AreLaid b n outer width parts.base rows.columns = subst (AreLaid b n outer width parts.base) (sym h.over) laid in
      let made : AreWide b n outer width rows.children rows.items = wide_from whole columns laid.seen rows h in
      record {
        wide = record {
          grid = grid;
          columns = here.seen;
          wide = made;
          items = made.items ∙ rows_items b n outer width;
          counted = here.counted;
          gap = here.gap;
          range = here.range;
          spread = here.spread;
          far = subst (λ (z : View 0). (by : ℕ) → 2 ^ 51 ≤ by → IsSpread by width → AreSpread by z.edges) (sym h.over) far;
          rows = rows_held b n outer width parts grid rows.items (made.items ∙ rows_items b n outer width) known lasting;
        };
        columns = told;
        rows = subst (λ (z : Align). AreRows (sight_at b n) (kid_at b) parts.base Each (record rows { align = z })) h.aligned h.told;
        laid = lasting;
      }

-- ---- what they told last

pub past_in : (b : BareTrees) (n : NodeId) (outer : List Pair) (width : Given) (parts : GridParts) (columns : View 0) (p : PastRows) → IsGrid b n outer width parts → IsPastRows b n p → p.base.pairs ≡ parts.base.pairs → p.told.columns ≡ columns →
    p.told.align ≡ (sight_at b n).label.content.inline.items → ArePastIn b n parts.base columns p
past_in b n outer width parts columns p grid past pairs v w =
    let placed : p.base.placed ≡ parts.base.placed = places_alike (sight_at b n) (children_at b n) p.base parts.base past.places (places_held b n outer width parts.base grid.base) pairs in
    record {
      stale = subst (λ (z : Placed). All (λ k. k < length z.areas) p.stale) placed past.stale;
      told = record {
        over = v;
        aligned = w;
        told = record {
          counted = past.told.counted ∙ ap (λ (z : Placed). length z.areas) placed;
          told = told_as (AllBut p.stale) (TellsRows (sight_at b n) (kid_at b) p.base p.told.columns p.told.align) (TellsRows (sight_at b n) (kid_at b) parts.base p.told.columns p.told.align) p.told.children p.told.items p.told.ends past.told.told
              (tells_as (sight_at b n) (kid_at b) p.base parts.base pairs placed p.told.columns p.told.columns refl p.told.align p.told.align refl);
        };
      };
      laid = rows_by (sight_at b n) p.base parts.base placed p.told.items p.rows past.laid;
    }

-- the lists of them, by the columns and the alignment of the grid
pub rows_from : (b : BareTrees) (n : NodeId) (base : GridBase) (columns : View 0) (Counts : ℕ → Type 0) (t : ToldRows) → AreIn b n base columns Counts t → AreTold Counts (TellsRows (sight_at b n) (kid_at b) base columns (sight_at b n).label.content.inline.items) t.children t.items t.ends
rows_from b n base columns Counts t h =
    told_as Counts (TellsRows (sight_at b n) (kid_at b) base t.columns t.align) (TellsRows (sight_at b n) (kid_at b) base columns (sight_at b n).label.content.inline.items) t.children t.items t.ends h.told.told
    (tells_as (sight_at b n) (kid_at b) base base refl refl t.columns columns h.over t.align (sight_at b n).label.content.inline.items h.aligned)

-- what is told for the rows is what the lists of the grid hold
pub rows_in : (b : BareTrees) (n : NodeId) (base : GridBase) (columns : View 0) (Counts : ℕ → Type 0) (t : ToldRows) → t.columns ≡ columns → t.align ≡ (sight_at b n).label.content.inline.items → length t.children ≡ length base.placed.areas →
    AreTold Counts (TellsRows (sight_at b n) (kid_at b) base columns (sight_at b n).label.content.inline.items) t.children t.items t.ends → AreIn b n base columns Counts t
rows_in b n base columns Counts t v w counted h =
    record {
      over = v;
      aligned = w;
      told = record {
        counted = counted;
        told = told_as Counts (TellsRows (sight_at b n) (kid_at b) base columns (sight_at b n).label.content.inline.items) (TellsRows (sight_at b n) (kid_at b) base t.columns t.align) t.children t.items t.ends h
            (tells_as (sight_at b n) (kid_at b) base base refl refl columns t.columns (sym v) (sight_at b n).label.content.inline.items t.align (sym w));
      };
    }

-- ---- the lists, as the loops make them

module _ {X : Type 0} (T : ℕ → X → List Item → Type 0) where
  pub told_start : (xs : List X) (items : List Item) (ends : List ℕ) → xs ≡ [] → items ≡ [] → ends ≡ [] → AreTold Each T xs items ends
  told_start xs items ends e f g = subst (λ l. AreTold Each T l items ends) (sym e) (subst (λ l. AreTold Each T [] l ends) (sym f) (subst (λ l. AreTold Each T [] [] l) (sym g) (told_none T)))

  -- one more
  pub told_more : (xs : List X) (items : List Item) (ends : List ℕ) (k : ℕ) (x : X) (p : List Item) (more : List X) (all : List Item) (over : List ℕ) (count : ℕ) → length xs ≡ k → more ≡ xs ++ x ∷ [] → all ≡ items ++ p → count ≡ length all → over ≡ ends ++ count ∷ [] →
      AreTold Each T xs items ends → T k x p → AreTold Each T more all over
  told_more xs items ends k x p more all over count counted e f g h told own =
      let pushed : AreTold Each T (xs ++ x ∷ []) (items ++ p) (ends ++ (length (items ++ p)) ∷ []) = told_push T xs items ends x p told (subst (λ j. T j x p) (sym counted) own) in
      subst (λ l. AreTold Each T l all over) (sym e) (subst (λ l. AreTold Each T (xs ++ x ∷ []) l over) (sym f)
      (subst (λ l. AreTold Each T (xs ++ x ∷ []) (items ++ p) l) (sym (h ∙ ap (λ c. ends ++ c ∷ []) (g ∙ ap length f))) pushed))

  -- one again
  pub told_again : (xs : List X) (items : List Item) (ends stale : List ℕ) (i : ℕ) (x : X) (p : List Item) (more : List X) (all : List Item) (over : List ℕ) → i < length stale → get_or stale i 0 < length xs → more ≡ slice_set xs (get_or stale i 0) x →
      ((parts : List (List Item)) → items ≡ joined parts → ends ≡ ends_from 0 parts → all ≡ joined (slice_set parts (get_or stale i 0) p)) → ((parts : List (List Item)) → items ≡ joined parts → ends ≡ ends_from 0 parts → over ≡ ends_from 0 (slice_set parts (get_or stale i 0) p)) →
      AreTold (AllBut (drop i stale)) T xs items ends → T (get_or stale i 0) x p → AreTold (AllBut (drop (i + 1) stale)) T more all over
  told_again xs items ends stale i x p more all over there within e f g told own =
      subst (λ l. AreTold (AllBut (drop (i + 1) stale)) T l all over) (sym e)
      (told_set T xs items ends (get_or stale i 0) (drop (i + 1) stale) x p all over (subst (λ l. AreTold (AllBut l) T xs items ends) (drop_more stale i 0 there) told) within own f g)

  -- none are left to be asked again
  pub told_end : (xs : List X) (items : List Item) (ends stale : List ℕ) (i : ℕ) → length stale ≤ i → AreTold (AllBut (drop i stale)) T xs items ends → AreTold Each T xs items ends
  told_end xs items ends stale i end told = told_all T xs items ends (subst (λ l. AreTold (AllBut l) T xs items ends) (drop_all i stale end) told)

pub length_more : {X : Type 0} (xs : List X) (x : X) (k : ℕ) → length xs ≡ k → length (xs ++ x ∷ []) ≡ k + 1
length_more xs x k e = omega (arith, length-append xs (x ∷ []), e)

pub length_set : {X : Type 0} (xs : List X) (k : ℕ) (x : X) → length (slice_set xs k x) ≡ length xs
length_set [] k x = refl
length_set (y ∷ xs) zero x = refl
length_set (y ∷ xs) (suc k) x = ap suc (length_set xs k x)

-- an index that must be asked again is one of an area
pub stale_within : (count : ℕ) (stale read : List ℕ) (i : ℕ) → read ≡ stale → All (λ k. k < count) stale → i < length read → get_or read i 0 < count
stale_within count stale read i same h there = All-get_or (λ k. k < count) read i 0 there (subst (All (λ k. k < count)) (sym same) h)

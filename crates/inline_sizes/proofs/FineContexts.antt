-- Contexts down a chain of grids: their limits, how far their levels reach, and the areas in them.
use Rattle.std.proofs.Common.{arith, refl, ap, subst, sym, ◌∙◌, ◌≡◌, ℕ, ◌+◌, ◌==◌, ◌<◌, ◌≤◌, ℤ, pos, negsuc, neg_ℤ, ◌-ℤ◌, ◌≤ℤ◌, ◌<ℤ◌, Bool, true, false, List, [], ◌∷◌, length, map, take, true≢false, length-take}
use Rattle.std.specs.Prelude.{if◌then◌else◌}
use Rattle.std.proofs.lemmas.Int.{ints, int_max_is, int_min_is}
use Rattle.std.proofs.lemmas.List.{length-map}
use Rattle.lunit.specs.declared.geometry.Area.{Area}
use Rattle.lunit.specs.declared.geometry.Span.{Span}
use Rattle.part_rules.specs.declared.view.Level.{Level}
use Rattle.part_rules.specs.declared.wish.Wish.{Wish}
use Rattle.part_rules.specs.LineNames.{NamedSpan, Table}
use Rattle.part_rules.specs.Lists.{above_zero, zipped}
use Rattle.part_rules.specs.Placement.{no_area, placed, range_of, with_span}
use Rattle.style_types.specs.declared.track.Template.{Template}
use Rattle.style_types.specs.declared.track.Template.TheVariants as template
use Rattle.tree_rules.specs.Answers.{Pair}
use Rattle.tree_rules.specs.Chains.{Link, Sibling, is_subgrid}
use Rattle.tree_rules.specs.Contexts.{AxisContext, Context, area_of, column_cells, context_by, context_under, cut_area, first_pair, lower_context, named_columns, named_rows, outer_pairs, own_context, placed_children, row_cells, shape_of, shared_context, wish_of, with_area}
use Rattle.tree_rules.specs.Labels.{GridAxis, GridStyle}
use Rattle.tree_rules.specs.LentItems.{lifted}
use Rattle.tree_rules.specs.Orders.{in_order, numbered_from, of_number}
use Rattle.tree_rules.specs.Templates.{written, written_repeat}
use Rattle.placing.proofs.Each.{Each}
use Rattle.placing.proofs.Filled.{cut_within, filled}
use Rattle.placing.proofs.Full.{placed_count, placed_full}
use Rattle.placing.proofs.Named.{few_cells}
use Rattle.placing.proofs.Numbers.{each_sorted, has, has_all, numbers_of_items}
use Rattle.placing.specs.Covered.{IsNear}
use Rattle.placing.specs.Insides.{AreFilled, AreFull, IsInside, IsWithin}
use Rattle.placing.specs.Ranges.{IsGridStyle}
use Rattle.placing.specs.Wishes.{IsLimitOf, limit_of}
use Rattle.inline_sizes.proofs.Nested.{inside_lifted, top_lifted}
use Rattle.inline_sizes.specs.Lifted.{IsLifted, IsSelfLifted}
use Rattle.inline_sizes.specs.TrackAxes.{track_count}

-- ---- one axis

-- the limit of a subgrid has its own lines
abbrev pub AreNested : Table → List Level → Type 0
AreNested t [] = Unit {0}
AreNested t (l ∷ outer) = (t.low ≡ pos 0) × (t.high ≡ l.span.end -ℤ l.span.start)

-- What holds of the context of every grid along an axis.
pub record IsFineAxis (c : AxisContext) : Type 0 where
  pub limit : IsLimitOf c.table
  pub few : c.table.tracks ≤ 65536
  pub reach : IsSelfLifted c.levels
  pub nested : AreNested c.table c.levels
  pub own : c.subgrid ≡ false → c.levels ≡ []

-- what lies within the limit can be lifted
pub within_lifted : (c : AxisContext) (s : Span) → IsFineAxis c → IsWithin c.table.low c.table.high s → IsLifted c.levels s
within_lifted c s f w = go c.levels f.nested f.reach
  where
    go : (levels : List Level) → AreNested c.table levels → IsSelfLifted levels → IsLifted levels s
    go [] n h =
        let m = f.limit in
        top_lifted s
        (record { low = omega (arith, ints, m.low, w.low); high = omega (arith, ints, m.first, m.high, w.some, w.high) })
        (record { low = omega (arith, ints, m.low, w.low, w.some); high = omega (arith, ints, m.first, m.high, w.high) })
    go (l ∷ outer) n h =
        inside_lifted l outer s h (record { start = omega (arith, ints, n.0, w.low); order = omega (arith, ints, w.some); end = omega (arith, ints, n.1, w.high) })

-- and lies, lifted, within what the subgrid spans
pub within_span : (c : AxisContext) (l : Level) (outer : List Level) (s : Span) → c.levels ≡ l ∷ outer → IsFineAxis c → IsWithin c.table.low c.table.high s
    → IsWithin (lifted outer l.span).start (lifted outer l.span).end (lifted c.levels s)
within_span c l outer s e f w =
    let n : AreNested c.table (l ∷ outer) = subst (AreNested c.table) e f.nested in
    subst (λ (ls : List Level). IsWithin (lifted outer l.span).start (lifted outer l.span).end (lifted ls s)) (sym e)
    (record { low = omega (arith, ints, n.0, w.low); some = omega (arith, ints, w.some); high = omega (arith, ints, n.1, w.high) })

-- where the grid sizes its tracks itself, it stays where it is
pub within_own : (c : AxisContext) (low high : ℤ) (s : Span) → c.levels ≡ [] → IsWithin low high s → IsWithin low high (lifted c.levels s)
within_own c low high s e w =
    subst (λ (ls : List Level). IsWithin low high (lifted ls s)) (sym e)
    (record { low = omega (arith, ints, w.low); some = omega (arith, ints, w.some); high = omega (arith, ints, w.high) })

above_some : (z : ℤ) → pos 0 <ℤ z → pos (above_zero z) ≡ z
above_some (pos n) h = refl
above_some (negsuc n) h = absurd (omega (arith, ints, h))

above_few : (z : ℤ) (n : ℕ) → z ≤ℤ pos n → above_zero z ≤ n
above_few (pos m) n h = omega (arith, ints, h)
above_few (negsuc m) n h = omega arith

shared_fine : (parent : AxisContext) (span : Span) (g : GridAxis) (named : List NamedSpan) → IsFineAxis parent → IsWithin parent.table.low parent.table.high span → IsFineAxis (shared_context parent span g named)
shared_fine parent span g named f w =
    let m = f.limit in
    let whole : pos (above_zero (span.end -ℤ span.start)) ≡ span.end -ℤ span.start = above_some (span.end -ℤ span.start) (omega (arith, ints, w.some)) in
    let few : above_zero (span.end -ℤ span.start) ≤ 20000 = above_few (span.end -ℤ span.start) 20000 (omega (arith, ints, m.low, m.high, w.low, w.high)) in
    record {
      limit = record { low = omega (arith, ints); first = omega (arith, ints); some = omega (arith, ints, whole, w.some); high = omega (arith, ints, few) };
      few = omega (arith, few);
      reach = within_lifted parent span f w;
      nested = (refl, whole);
      own = λ e. absurd (true≢false e);
    }

kept_few : {A : Type 0} → (n : ℕ) (xs : List A) → length (take n xs) ≤ n
kept_few n xs = omega (arith, length-take n xs)

written_few : (t : Template) (count : ℕ) → length (written t count).sizes ≤ 10000
written_few template.Absent count = omega arith
written_few (template.Subgrid sets) count = omega arith
written_few (template.Tracks l) count = kept_few 10000 (written_repeat l l.repeat count).sizes

own_fine : (g : GridAxis) (cells : ℕ) (named : List NamedSpan) (count : ℕ) → cells ≤ 65536 → IsFineAxis (own_context g cells named count)
own_fine g cells named count h =
    let sizes : length (written g.template count).sizes ≤ 10000 = written_few g.template count in
    record {
      limit = record { low = omega (arith, ints); first = omega (arith, ints); some = omega (arith, ints); high = omega (arith, ints) };
      few = omega (arith, sizes, h);
      reach = tt;
      nested = tt;
      own = λ e. refl;
    }

under_fine : (parent : AxisContext) (span : Span) (g : GridAxis) (cells : ℕ) (named : List NamedSpan) (count : ℕ) → cells ≤ 65536 → IsFineAxis parent → IsWithin parent.table.low parent.table.high span → IsFineAxis (context_under parent span g cells named count)
under_fine parent span g cells named count h f w = go (is_subgrid g.template)
  where
    go : (b : Bool) → IsFineAxis (if b then shared_context parent span g named else own_context g cells named count)
    go true = shared_fine parent span g named f w
    go false = own_fine g cells named count h

-- ---- both axes

pub record IsFine (c : Context) : Type 0 where
  pub columns : IsFineAxis c.columns
  pub rows : IsFineAxis c.rows

-- ---- the areas of children

abbrev pub HasGridStyle : Sibling → Type 0
HasGridStyle s = IsGridStyle s.grid

-- the children in order, and their areas as they are cut
abbrev pub ordered : List Sibling → List (ℕ × Sibling)
ordered children = in_order (λ (s : Sibling). s.grid.order) children

abbrev pub wishes : Context → List Sibling → List Wish
wishes c children = map (λ (e : ℕ × Sibling). wish_of c e.1) (ordered children)

abbrev pub areas_cut : Context → GridStyle → List Sibling → List Area
areas_cut c g children = map (cut_area c) (placed (wishes c children) (shape_of c g))

pub each_numbered : {A : Type 0} → (P : A → Type 0) (n : ℕ) (xs : List A) → Each P xs → Each (λ (e : ℕ × A). P e.1) (numbered_from n xs)
each_numbered P n [] h = tt
each_numbered P n (x ∷ rest) h = (h.0, each_numbered P (n + 1) rest h.1)

pub each_in_order : {A : Type 0} → (P : A → Type 0) (key : A → ℤ) (xs : List A) → Each P xs → Each (λ (e : ℕ × A). P e.1) (in_order key xs)
each_in_order {A} P key xs h = each_sorted (λ (e : ℕ × A). key e.1) (λ (e : ℕ × A). P e.1) (numbered_from 0 xs) (each_numbered P 0 xs h)

all_filled : (c : Context) (es : List (ℕ × Sibling)) → IsFine c → Each (λ (e : ℕ × Sibling). HasGridStyle e.1) es → AreFilled (map (λ (e : ℕ × Sibling). wish_of c e.1) es)
all_filled c [] f h = tt
all_filled c (e ∷ es) f h =
    let s : Sibling = e.1 in
    let g : IsGridStyle s.grid = h.0 in (
      (
        filled c.columns.table s.grid.columns.start_line s.grid.columns.end_line s.is_grid s.grid.columns.template g.columns.start_line g.columns.end_line f.columns.limit,
        filled c.rows.table s.grid.rows.start_line s.grid.rows.end_line s.is_grid s.grid.rows.template g.rows.start_line g.rows.end_line f.rows.limit,
      ),
      all_filled c es f h.1,
    )

all_cut : (c : Context) (areas : List Area) → IsFine c → AreFull areas → Each (IsInside c) (map (cut_area c) areas)
all_cut c [] f h = tt
all_cut c (a ∷ rest) f h = (
  record { columns = cut_within (limit_of c.columns.table) a.columns f.columns.limit h.0.columns; rows = cut_within (limit_of c.rows.table) a.rows f.rows.limit h.0.rows },
  all_cut c rest f h.1,
)

-- each area lies within the limits
pub areas_inside : (c : Context) (g : GridStyle) (children : List Sibling) → IsFine c → Each HasGridStyle children → Each (IsInside c) (areas_cut c g children)
areas_inside c g children f h =
    all_cut c (placed (wishes c children) (shape_of c g)) f
    (placed_full (wishes c children) (shape_of c g) (all_filled c (ordered children) f (each_in_order HasGridStyle (λ (s : Sibling). s.grid.order) children h)))

areas_counted : (c : Context) (g : GridStyle) (children : List Sibling) → length (areas_cut c g children) ≡ length (ordered children)
areas_counted c g children = length-map (placed (wishes c children) (shape_of c g)) (cut_area c) ∙ placed_count (wishes c children) (shape_of c g) ∙ length-map (ordered children) (λ (e : ℕ × Sibling). wish_of c e.1)

found_each : (P : Area → Type 0) (way : ℕ) (other : Area) (es : List (ℕ × Sibling)) (areas : List Area) → length areas ≡ length es → has way (map (λ (e : ℕ × Sibling). e.0) es) ≡ true → Each P areas → P (of_number way other (zipped with_area es areas))
found_each P way other [] areas e h p = absurd (true≢false (sym h))
found_each P way other (x ∷ es) [] e h p = absurd (omega (arith, e))
found_each P way other (x ∷ es) (a ∷ areas) e h p = go (x.0 == way) h (λ k. found_each P way other es areas (omega (arith, e)) k p.1)
  where
    go : (b : Bool) → (if b then true else has way (map (λ (z : ℕ × Sibling). z.0) es)) ≡ true → (has way (map (λ (z : ℕ × Sibling). z.0) es) ≡ true → P (of_number way other (zipped with_area es areas)))
        → P (if b then a else of_number way other (zipped with_area es areas))
    go true k later = p.0
    go false k later = later k

-- what holds of each area holds of that of a child
pub area_each : (P : Area → Type 0) (c : Context) (g : GridStyle) (children : List Sibling) (way : ℕ) → way < length children → Each P (areas_cut c g children) → P (area_of (placed_children c g children) way)
area_each P c g children way h p =
    found_each P way no_area (ordered children) (areas_cut c g children) (areas_counted c g children)
    (ap (has way) (sym (numbers_of_items (λ (s : Sibling). s.grid.order) children)) ∙ has_all way (map (λ (s : Sibling). s.grid.order) children) (omega (arith, h, length-map children (λ (s : Sibling). s.grid.order))))
    p

-- ---- down a chain

pub record IsFineLink (l : Link) : Type 0 where
  pub grid : IsGridStyle l.grid
  pub children : Each HasGridStyle l.children
  pub way : l.way < length l.children

abbrev pub IsFineChain : List Link → Type 0
IsFineChain chain = Each IsFineLink chain

few_columns : (g : GridStyle) → IsGridStyle g → column_cells g.areas ≤ 65536
few_columns g h = few_cells 0 g.areas h.areas

few_rows : (g : GridStyle) → IsGridStyle g → row_cells g.areas ≤ 65536
few_rows g h = few_cells 1 g.areas h.areas

-- the area of a link lies within the limits
pub link_inside : (c : Context) (l : Link) → IsFine c → IsFineLink l → IsInside c (area_of (placed_children c l.grid l.children) l.way)
link_inside c l f h = area_each (IsInside c) c l.grid l.children l.way h.way (areas_inside c l.grid l.children f h.children)

pub lower_fine : (parent : Context) (a : Area) (g : GridStyle) (p : Pair) → IsFine parent → IsInside parent a → IsGridStyle g → IsFine (lower_context parent a g p)
lower_fine parent a g p f i h = record {
  columns = under_fine parent.columns a.columns g.columns (column_cells g.areas) (named_columns g.areas) p.0 (few_columns g h) f.columns i.columns;
  rows = under_fine parent.rows a.rows g.rows (row_cells g.areas) (named_rows g.areas) p.1 (few_rows g h) f.rows i.rows;
}

-- the context of every grid is so
pub context_fine : (g : GridStyle) (chain : List Link) (pairs : List Pair) → IsGridStyle g → IsFineChain chain → IsFine (context_by g chain pairs)
context_fine g [] pairs h k = record {
  columns = own_fine g.columns (column_cells g.areas) (named_columns g.areas) (first_pair pairs).0 (few_columns g h);
  rows = own_fine g.rows (row_cells g.areas) (named_rows g.areas) (first_pair pairs).1 (few_rows g h);
}
context_fine g (link ∷ chain) pairs h k =
    let parent : Context = context_by link.grid chain (outer_pairs pairs) in
    let fine : IsFine parent = context_fine link.grid chain (outer_pairs pairs) k.0.grid k.1 in
    lower_fine parent (area_of (placed_children parent link.grid link.children) link.way) g (first_pair pairs) fine (link_inside parent link fine k.0) h

-- ---- the tracks that the areas lie in

abbrev IsCovered : Span → Span → Type 0
IsCovered r s = (r.start ≤ℤ s.start) × (s.end ≤ℤ r.end)

pub each_weaker : {A : Type 0} → (P Q : A → Type 0) (xs : List A) → ((x : A) → P x → Q x) → Each P xs → Each Q xs
each_weaker P Q [] f h = tt
each_weaker P Q (x ∷ rest) f h = (f x h.0, each_weaker P Q rest f h.1)

module _ (along : Area → Span) (tracks : ℕ) where
  all_covered : (areas : List Area) → Each (λ a. IsCovered (range_of tracks (map along areas)) (along a)) areas
  all_covered [] = tt
  all_covered (a ∷ rest) =
      let r : Span = range_of tracks (map along rest) in (
        (omega (arith, ints, int_min_is (along a).start r.start), omega (arith, ints, int_max_is (along a).end r.end)),
        each_weaker (λ b. IsCovered r (along b)) (λ b. IsCovered (with_span (along a) r) (along b)) rest
            (λ b h. (omega (arith, ints, h.0, int_min_is (along a).start r.start), omega (arith, ints, h.1, int_max_is (along a).end r.end)))
            (all_covered rest),
      )

  pub record IsNearRange (r : Span) : Type 0 where
    pub low : neg_ℤ (pos 10000) ≤ℤ r.start
    pub first : r.start ≤ℤ pos 0
    pub high : r.end ≤ℤ pos 65536

  all_near : (low high : ℤ) (areas : List Area) → tracks ≤ 65536 → neg_ℤ (pos 10000) ≤ℤ low → high ≤ℤ pos 20000 → Each (λ a. IsWithin low high (along a)) areas → IsNearRange (range_of tracks (map along areas))
  all_near low high [] few l h w = record { low = omega (arith, ints); first = omega (arith, ints); high = omega (arith, ints, few) }
  all_near low high (a ∷ rest) few l h w =
      let r : Span = range_of tracks (map along rest) in
      let lower : IsNearRange r = all_near low high rest few l h w.1 in
      let own : IsWithin low high (along a) = w.0 in
      record {
        low = omega (arith, ints, lower.low, l, own.low, int_min_is (along a).start r.start);
        first = omega (arith, ints, lower.first, int_min_is (along a).start r.start);
        high = omega (arith, ints, lower.high, h, own.high, int_max_is (along a).end r.end);
      }

  -- each area lies in the range
  pub in_range : (low high : ℤ) (areas : List Area) → Each (λ a. IsWithin low high (along a)) areas → Each (λ a. IsWithin (range_of tracks (map along areas)).start (range_of tracks (map along areas)).end (along a)) areas
  in_range low high areas w = go areas (all_covered areas) w
    where
      r : Span
      r = range_of tracks (map along areas)

      go : (xs : List Area) → Each (λ a. IsCovered r (along a)) xs → Each (λ a. IsWithin low high (along a)) xs → Each (λ a. IsWithin r.start r.end (along a)) xs
      go [] c h = tt
      go (a ∷ rest) c h = (record { low = c.0.0; some = h.0.some; high = c.0.1 }, go rest c.1 h.1)

  -- which is near
  pub near_range : (t : Table) (areas : List Area) → tracks ≤ 65536 → IsLimitOf t → Each (λ a. IsWithin t.low t.high (along a)) areas → IsNear (range_of tracks (map along areas))
  near_range t areas few m w =
      let r = all_near t.low t.high areas few m.low (omega (arith, ints, m.first, m.high)) w in
      record { low = omega (arith, ints, r.low); first = omega (arith, ints, r.first); high = omega (arith, ints, r.high) }

  -- and has not many tracks
  pub few_in_range : (t : Table) (areas : List Area) → tracks ≤ 65536 → IsLimitOf t → Each (λ a. IsWithin t.low t.high (along a)) areas → track_count (range_of tracks (map along areas)) ≤ 131072
  few_in_range t areas few m w =
      let r : IsNearRange (range_of tracks (map along areas)) = all_near t.low t.high areas few m.low (omega (arith, ints, m.first, m.high)) w in
      above_few ((range_of tracks (map along areas)).end -ℤ (range_of tracks (map along areas)).start) 131072 (omega (arith, ints, r.low, r.high))

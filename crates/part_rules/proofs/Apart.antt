-- No two items overlap, unless both are definite in both axes.
use Rattle.std.proofs.Common.{arith, ap, subst, ◌≡◌, ◌∙◌, sym, refl, true≢false, ℕ, pos, Bool, true, false, not, ◌&&◌, List, [], ◌∷◌, ◌++◌, map, Option, Some, None, if◌then◌else◌, int_lt}
use Rattle.std.specs.Prelude.{option_to_list, unwrap_or}
use Rattle.std.specs.Int.{int_max, int_min}
use Rattle.std.proofs.lemmas.Int.{ints, clamps}
use Rattle.lunit.specs.Areas.{is_free, areas_overlap, spans_overlap}
use Rattle.lunit.specs.declared.geometry.Span.{Span}
use Rattle.lunit.specs.declared.geometry.Area.{Area}
use Rattle.lunit.specs.declared.geometry.Spot.{Spot}
use Rattle.lunit.specs.declared.geometry.Spot.TheVariants.{At, Free}
use Rattle.part_rules.specs.declared.wish.Wish.{Wish}
use Rattle.part_rules.specs.declared.wish.Shape.{Shape}
use Rattle.part_rules.specs.Placement.{Entry, Field, Position, IsFreeOf, MayMeet, EachApart, NoOverlap, is_definite, is_at, begun, fixed_area, areas_of, with_area, row_area, rows_placed, next_area, cursor_after, rest_placed, no_area, placed_by_rows, columns_for, first_row, turned_wish, turned_area, placed}
use Rattle.part_rules.proofs.Placed.{row_area_free, next_area_free}

both_pass : (u v : Bool) → (u && v) ≡ true → (u ≡ true) × (v ≡ true)
both_pass true v e = (refl, e)
both_pass false v e = (e, absurd (true≢false (sym e)))

pass_both : (u v : Bool) → u ≡ true → v ≡ true → (u && v) ≡ true
pass_both true v e f = f
pass_both false v e f = absurd (true≢false (sym e))

and_swap : (u v : Bool) → (u && v) ≡ (v && u)
and_swap true true = refl
and_swap true false = refl
and_swap false true = refl
and_swap false false = refl

not_true : (b : Bool) → not b ≡ true → b ≡ false
not_true true e = absurd (true≢false (sym e))
not_true false e = refl

-- ---- overlapping is mutual

spans_mutual : (a b : Span) → spans_overlap a b ≡ spans_overlap b a
spans_mutual a b = go (int_lt (int_max a.start b.start) (int_min a.end b.end)) (int_lt (int_max b.start a.start) (int_min b.end a.end)) refl refl
  where
    go : (s t : Bool) → int_lt (int_max a.start b.start) (int_min a.end b.end) ≡ s → int_lt (int_max b.start a.start) (int_min b.end a.end) ≡ t → s ≡ t
    go true true e f = refl
    go true false e f = absurd (omega (arith, ints, clamps))
    go false true e f = absurd (omega (arith, ints, clamps))
    go false false e f = refl

mutual_overlap : (a b : Area) → areas_overlap a b ≡ areas_overlap b a
mutual_overlap a b = λ i. spans_mutual a.columns b.columns i && spans_mutual a.rows b.rows i

-- ---- free of more is free of less

free-append : (x : Area) (first bs : List Area) → is_free x (first ++ bs) ≡ true → (is_free x first ≡ true) × (is_free x bs ≡ true)
free-append x [] bs e = (refl, e)
free-append x (a ∷ rest) bs e =
    let h = both_pass (not (areas_overlap x a)) (is_free x (rest ++ bs)) e in
    let r = free-append x rest bs h.1 in
    (pass_both (not (areas_overlap x a)) (is_free x rest) h.0 r.0, r.1)

-- what is free of the one list is free of the other
abbrev Covers : List Area → List Area → Type 0
Covers held bs = (x : Area) → is_free x held ≡ true → is_free x bs ≡ true

-- ---- a pass over entries that gives some of them areas, each free of all areas so far

pub record IsStep (held : List Area) (e f : Entry) (area : Option Area) : Type 0 where
  pub changed : with_area e area ≡ f
  pub free : IsFreeOf held area

abbrev Steps : List Area → List Entry → List Entry → Type 0
Steps held [] out = [] ≡ out
Steps held (e ∷ es) [] = ⊥
Steps held (e ∷ es) (f ∷ out) = (area : Option Area) × IsStep held e f area × Steps (held ++ option_to_list area) es out

rows_steps : (dense : Bool) (held mine : List Area) (es : List Entry) → Steps held es (rows_placed dense held mine es)
rows_steps dense held mine [] = refl
rows_steps dense held mine (e ∷ es) =
    let area = row_area dense held mine e.wish.column e.wish.row in
    (area, record { changed = refl; free = row_area_free dense held mine e.wish.column e.wish.row }, rows_steps dense (held ++ option_to_list area) (mine ++ option_to_list area) es)

rest_steps : (f : Field) (held : List Area) (cursor : Position) (es : List Entry) → Steps held es (rest_placed f held cursor es)
rest_steps f held cursor [] = refl
rest_steps f held cursor (e ∷ es) =
    let area = next_area f held cursor e.wish.column e.wish.row in
    (area, record { changed = refl; free = next_area_free f held cursor e.wish.column e.wish.row }, rest_steps f (held ++ option_to_list area) (cursor_after cursor area) es)

-- ---- pairs of entries

abbrev MeetsArea : Wish → Area → Wish → Option Area → Type 0
MeetsArea v a w None = Unit {0}
MeetsArea v a w (Some b) = MayMeet v a w b

abbrev Meets : Wish → Area → List Entry → Type 0
Meets v a [] = Unit {0}
Meets v a (f ∷ fs) = MeetsArea v a f.wish f.area × Meets v a fs

abbrev FirstMeets : Wish → Option Area → List Entry → Type 0
FirstMeets v None fs = Unit {0}
FirstMeets v (Some a) fs = Meets v a fs

abbrev Pairs : List Entry → Type 0
Pairs [] = Unit {0}
Pairs (e ∷ es) = FirstMeets e.wish e.area es × Pairs es

apart_meets : (v : Wish) (a : Area) (w : Wish) (b : Area) → areas_overlap a b ≡ false → MayMeet v a w b
apart_meets v a w b e h = absurd (true≢false (sym h ∙ e))

-- an area that is free of another does not overlap it, either way round
free_apart : (a b : Area) → is_free b (a ∷ []) ≡ true → areas_overlap a b ≡ false
free_apart a b e = mutual_overlap a b ∙ not_true (areas_overlap b a) ((both_pass (not (areas_overlap b a)) true e).0)

free_meets : (v : Wish) (a : Area) (es : List Entry) → is_free a (areas_of es) ≡ true → Meets v a es
free_meets v a [] h = tt
free_meets v a (e ∷ es) h =
    let parts = free-append a (option_to_list e.area) (areas_of es) h in
    (go e.wish e.area parts.0, free_meets v a es parts.1)
  where
    go : (w : Wish) (area : Option Area) → is_free a (option_to_list area) ≡ true → MeetsArea v a w area
    go w None p = tt
    go w (Some b) p = apart_meets v a w b (not_true (areas_overlap a b) ((both_pass (not (areas_overlap a b)) true p).0))

step_meets : (v : Wish) (a : Area) (held : List Area) (e : Entry) (area : Option Area) → IsFreeOf held area → Covers held (a ∷ []) → MeetsArea v a e.wish e.area → MeetsArea v a (with_area e area).wish (with_area e area).area
step_meets v a held e None free cover m = m
step_meets v a held e (Some b) free cover m = apart_meets v a e.wish b (free_apart a b (cover b free))

after_meets : (v : Wish) (a : Area) (held : List Area) (es out : List Entry) → Steps held es out → Meets v a es → Covers held (a ∷ []) → Meets v a out
after_meets v a held [] out s m cover = subst (Meets v a) s tt
after_meets v a held (e ∷ es) [] s m cover = absurd s
after_meets v a held (e ∷ es) (f ∷ out) s m cover = (
  subst (λ (g : Entry). MeetsArea v a g.wish g.area) s.1.changed (step_meets v a held e s.0 s.1.free cover m.0),
  after_meets v a (held ++ option_to_list s.0) es out s.2 m.1 (λ x h. cover x (free-append x held (option_to_list s.0) h).0),
)

step_first : (held : List Area) (e : Entry) (area : Option Area) (es out : List Entry) → IsFreeOf held area → Steps (held ++ option_to_list area) es out → FirstMeets e.wish e.area es → Covers held (option_to_list e.area) → Covers held (areas_of es) →
    FirstMeets (with_area e area).wish (with_area e area).area out
step_first held e None es out free s m own cover = go e.wish e.area m own
  where
    go : (v : Wish) (area : Option Area) → FirstMeets v area es → Covers held (option_to_list area) → FirstMeets v area out
    go v None m own = tt
    go v (Some a) m own = after_meets v a (held ++ []) es out s m (λ x h. own x (free-append x held [] h).0)
step_first held e (Some b) es out free s m own cover = after_meets e.wish b (held ++ b ∷ []) es out s (free_meets e.wish b es (cover b free)) (λ x h. (free-append x held (b ∷ []) h).1)

after_pairs : (held : List Area) (es out : List Entry) → Steps held es out → Pairs es → Covers held (areas_of es) → Pairs out
after_pairs held [] out s p cover = subst Pairs s tt
after_pairs held (e ∷ es) [] s p cover = absurd s
after_pairs held (e ∷ es) (f ∷ out) s p cover =
    let own : Covers held (option_to_list e.area) = λ x h. (free-append x (option_to_list e.area) (areas_of es) (cover x h)).0 in
    let rest : Covers held (areas_of es) = λ x h. (free-append x (option_to_list e.area) (areas_of es) (cover x h)).1 in (
      subst (λ (g : Entry). FirstMeets g.wish g.area out) s.1.changed (step_first held e s.0 es out s.1.free s.2 p.0 own rest),
      after_pairs (held ++ option_to_list s.0) es out s.2 p.1 (λ x h. rest x (free-append x held (option_to_list s.0) h).0),
    )

-- ---- the items with both axes definite

fixed_meets : (v : Wish) (a : Area) (column row : Spot) → is_definite v ≡ true → (let w : Wish = record { column = column; row = row } in MeetsArea v a w (fixed_area column row))
fixed_meets v a (At c) (At r) d = λ h. pass_both (is_definite v) true d refl
fixed_meets v a (At c) (Free l) d = tt
fixed_meets v a (Free k) (At r) d = tt
fixed_meets v a (Free k) (Free l) d = tt

begun_meets : (v : Wish) (a : Area) (ws : List Wish) → is_definite v ≡ true → Meets v a (map begun ws)
begun_meets v a [] d = tt
begun_meets v a (w ∷ ws) d = (fixed_meets v a w.column w.row d, begun_meets v a ws d)

begun_first : (column row : Spot) (ws : List Wish) → (let v : Wish = record { column = column; row = row } in FirstMeets v (fixed_area column row) (map begun ws))
begun_first (At c) (At r) ws = begun_meets (record { column = At c; row = At r }) (record { columns = c; rows = r }) ws refl
begun_first (At c) (Free l) ws = tt
begun_first (Free k) (At r) ws = tt
begun_first (Free k) (Free l) ws = tt

begun_pairs : (ws : List Wish) → Pairs (map begun ws)
begun_pairs [] = tt
begun_pairs (w ∷ ws) = (begun_first w.column w.row ws, begun_pairs ws)

-- ---- from entries to areas

abbrev final : Entry → Area
final e = unwrap_or e.area no_area

abbrev wish_of : Entry → Wish
wish_of e = e.wish

none_overlaps : (b : Area) → areas_overlap no_area b ≡ false
none_overlaps b = go (int_lt (int_max (pos 0) b.columns.start) (int_min (pos 0) b.columns.end)) refl
  where
    go : (t : Bool) → int_lt (int_max (pos 0) b.columns.start) (int_min (pos 0) b.columns.end) ≡ t → (t && spans_overlap no_area.rows b.rows) ≡ false
    go true e = absurd (omega (arith, ints, clamps))
    go false e = refl

final_meets : (v : Wish) (a : Area) (es : List Entry) → Meets v a es → EachApart v a (map wish_of es) (map final es)
final_meets v a [] m = tt
final_meets v a (e ∷ es) m = (go e.wish e.area m.0, final_meets v a es m.1)
  where
    go : (w : Wish) (area : Option Area) → MeetsArea v a w area → MayMeet v a w (unwrap_or area no_area)
    go w None m = apart_meets v a w no_area (mutual_overlap a no_area ∙ none_overlaps a)
    go w (Some b) m = m

nothing_meets : (v : Wish) (es : List Entry) → EachApart v no_area (map wish_of es) (map final es)
nothing_meets v [] = tt
nothing_meets v (e ∷ es) = (apart_meets v no_area e.wish (final e) (none_overlaps (final e)), nothing_meets v es)

final_pairs : (es : List Entry) → Pairs es → NoOverlap (map wish_of es) (map final es)
final_pairs [] p = tt
final_pairs (e ∷ es) p = (go e.wish e.area p.0, final_pairs es p.1)
  where
    go : (v : Wish) (area : Option Area) → FirstMeets v area es → EachApart v (unwrap_or area no_area) (map wish_of es) (map final es)
    go v None m = nothing_meets v es
    go v (Some a) m = final_meets v a es m

with_wish : (e : Entry) (area : Option Area) → wish_of (with_area e area) ≡ wish_of e
with_wish e None = refl
with_wish e (Some a) = refl

wishes_stay : (held : List Area) (es out : List Entry) → Steps held es out → map wish_of out ≡ map wish_of es
wishes_stay held [] out s = sym (ap (map wish_of) s)
wishes_stay held (e ∷ es) [] s = absurd s
wishes_stay held (e ∷ es) (f ∷ out) s = λ i. (ap wish_of (sym s.1.changed) ∙ with_wish e s.0) i ∷ wishes_stay (held ++ option_to_list s.0) es out s.2 i

begun_wishes : (ws : List Wish) → map wish_of (map begun ws) ≡ ws
begun_wishes [] = refl
begun_wishes (w ∷ ws) = ap (λ (t : List Wish). w ∷ t) (begun_wishes ws)

by_rows : (columns rows : ℕ) (dense : Bool) (items : List Wish) → NoOverlap items (placed_by_rows columns rows dense items)
unfolding placed_by_rows
by_rows columns rows dense items =
    let both = map begun items in
    let with_rows = rows_placed dense (areas_of both) [] both in
    let field : Field = record { columns = columns_for columns with_rows; first = first_row rows with_rows; dense = dense } in
    let start : Position = record { column = field.columns.start; row = field.first } in
    let out = rest_placed field (areas_of with_rows) start with_rows in
    let first : Steps (areas_of both) both with_rows = rows_steps dense (areas_of both) [] both in
    let second : Steps (areas_of with_rows) with_rows out = rest_steps field (areas_of with_rows) start with_rows in
    let some : Pairs with_rows = after_pairs (areas_of both) both with_rows first (begun_pairs items) (λ x h. h) in
    let all : Pairs out = after_pairs (areas_of with_rows) with_rows out second some (λ x h. h) in
    subst (λ (ws : List Wish). NoOverlap ws (map final out)) (wishes_stay (areas_of with_rows) with_rows out second ∙ wishes_stay (areas_of both) both with_rows first ∙ begun_wishes items) (final_pairs out all)

-- ---- both flows

turned_meets : (v : Wish) (a : Area) (w : Wish) (b : Area) → MayMeet (turned_wish v) a (turned_wish w) b → MayMeet v (turned_area a) w (turned_area b)
turned_meets v a w b m h =
    let e : (is_definite (turned_wish v) && is_definite (turned_wish w)) ≡ true = m (and_swap (spans_overlap a.columns b.columns) (spans_overlap a.rows b.rows) ∙ h) in
    (λ i. and_swap (is_at v.column) (is_at v.row) i && and_swap (is_at w.column) (is_at w.row) i) ∙ e

turned_each : (v : Wish) (a : Area) (ws : List Wish) (bs : List Area) → EachApart (turned_wish v) a (map turned_wish ws) bs → EachApart v (turned_area a) ws (map turned_area bs)
turned_each v a [] bs m = tt
turned_each v a (w ∷ ws) [] m = m
turned_each v a (w ∷ ws) (b ∷ bs) m = (turned_meets v a w b m.0, turned_each v a ws bs m.1)

turned_apart : (ws : List Wish) (bs : List Area) → NoOverlap (map turned_wish ws) bs → NoOverlap ws (map turned_area bs)
turned_apart [] bs m = tt
turned_apart (w ∷ ws) [] m = m
turned_apart (w ∷ ws) (b ∷ bs) m = (turned_each w b ws bs m.0, turned_apart ws bs m.1)

-- The area of an item that is not definite in both axes overlaps no other area.
pub no_overlap : (items : List Wish) (shape : Shape) → NoOverlap items (placed items shape)
no_overlap items shape = go shape.column_flow
  where
    go : (b : Bool) → NoOverlap items (if b then map turned_area (placed_by_rows shape.rows shape.columns shape.dense (map turned_wish items)) else placed_by_rows shape.columns shape.rows shape.dense items)
    go true = turned_apart items (placed_by_rows shape.rows shape.columns shape.dense (map turned_wish items)) (by_rows shape.rows shape.columns shape.dense (map turned_wish items))
    go false = by_rows shape.columns shape.rows shape.dense items

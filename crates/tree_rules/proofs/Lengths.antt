-- How long the lists are that the definitions make.
use Rattle.std.specs.Prelude.{◌≡◌, refl, ℕ, zero, suc, ◌+◌, ◌==◌, ◌&&◌, ℤ, pos, negsuc, int_le, Bool, true, false, List, [], ◌∷◌, ◌++◌, map, length, drop, slice_range, Option, Some, None, option_to_list, unwrap_or, if◌then◌else◌}
use Rattle.std.proofs.Common.{ap, sym, arith, ◌∙◌}
use Rattle.std.proofs.lemmas.List.{append_assoc, append-nil, length-append}
use Rattle.std.proofs.lemmas.List.Folds.{drop_split}
use Rattle.std.proofs.Math.ListN.{drop_of_length-le}
use Rattle.lunit.specs.declared.geometry.Area.{Area}
use Rattle.part_rules.specs.declared.flex.FlexItem.{FlexItem}
use Rattle.part_rules.specs.declared.share.Share.{Share}
use Rattle.part_rules.specs.declared.wish.Shape.{Shape}
use Rattle.part_rules.specs.declared.wish.Wish.{Wish}
use Rattle.part_rules.specs.FlexLines.{Piece, begin, free_space, frozen_by, given_parts, given_space, grows, line_crosses, line_length, line_margins, line_ranges, line_sizes, lines_of, main_sizes, one_line, own_cross, ranges_from, resolved, size_of, stretched_lines, tried, turn, violation, weight_of}
use Rattle.part_rules.specs.Lists.{filled, filled_from, joined, zipped, sum_of, total_of}
use Rattle.part_rules.specs.Placement.{Entry, Field, Position, areas_of, begun, columns_for, cursor_after, first_row, next_area, no_area, placed, placed_by_rows, rest_placed, row_area, rows_placed, turned_wish, turned_area}
use Rattle.part_rules.specs.Sharing.{Handed, after_row, apportioned_after, apportioned_whole, has_room, one_more, handed_by_level, round, shares}
use Rattle.tree_rules.specs.Orders.{in_order, numbered_from, put_before, sorted_by}

-- ---- of lists

pub length_map : {A B : Type 0} (f : A → B) (xs : List A) → length (map f xs) ≡ length xs
length_map f [] = refl
length_map f (x ∷ rest) = ap suc (length_map f rest)

pub length_zipped : {A B C : Type 0} (f : A → B → C) (xs : List A) (ys : List B) → length ys ≡ length xs → length (zipped f xs ys) ≡ length xs
length_zipped f [] ys h = refl
length_zipped f (x ∷ xs) [] h = absurd (omega arith)
length_zipped f (x ∷ xs) (y ∷ ys) h = ap suc (length_zipped f xs ys (omega arith))

length_if : {A : Type 0} (c : Bool) (xs ys : List A) (n : ℕ) → length xs ≡ n → length ys ≡ n → length (if c then xs else ys) ≡ n
length_if true xs ys n h k = h
length_if false xs ys n h k = k

length_put : {A : Type 0} (key : A → ℤ) (x : A) (xs : List A) → length (put_before key x xs) ≡ suc (length xs)
length_put key x [] = refl
length_put {A} key x (y ∷ rest) = length_if (int_le (key x) (key y)) (x ∷ y ∷ rest) (y ∷ put_before key x rest) (suc (suc (length rest))) refl (ap suc (length_put key x rest))

length_sorted : {A : Type 0} (key : A → ℤ) (xs : List A) → length (sorted_by key xs) ≡ length xs
length_sorted key [] = refl
length_sorted key (x ∷ rest) = length_put key x (sorted_by key rest) ∙ ap suc (length_sorted key rest)

length_numbered : {A : Type 0} (n : ℕ) (xs : List A) → length (numbered_from n xs) ≡ length xs
length_numbered n [] = refl
length_numbered n (x ∷ rest) = ap suc (length_numbered (n + 1) rest)

pub length_in_order : {A : Type 0} (order : A → ℤ) (xs : List A) → length (in_order order xs) ≡ length xs
length_in_order {A} order xs = length_sorted (λ (e : ℕ × A). order e.1) (numbered_from 0 xs) ∙ length_numbered 0 xs

-- ---- of areas

length_rows : (es : List Entry) (dense : Bool) (held mine : List Area) → length (rows_placed dense held mine es) ≡ length es
length_rows [] dense held mine = refl
length_rows (e ∷ rest) dense held mine =
    let new = option_to_list (row_area dense held mine e.wish.column e.wish.row) in
    ap suc (length_rows rest dense (held ++ new) (mine ++ new))

length_rest : (es : List Entry) (f : Field) (held : List Area) (cursor : Position) → length (rest_placed f held cursor es) ≡ length es
length_rest [] f held cursor = refl
length_rest (e ∷ rest) f held cursor =
    let area = next_area f held cursor e.wish.column e.wish.row in
    ap suc (length_rest rest f (held ++ option_to_list area) (cursor_after cursor area))

length_by_rows : (columns rows : ℕ) (dense : Bool) (items : List Wish) → length (placed_by_rows columns rows dense items) ≡ length items
unfolding placed_by_rows
length_by_rows columns rows dense items =
    let both = map begun items in
    let with_rows = rows_placed dense (areas_of both) [] both in
    let field : Field = record { columns = columns_for columns with_rows; first = first_row rows with_rows; dense = dense } in
    let start : Position = record { column = field.columns.start; row = field.first } in
    length_map (λ (e : Entry). unwrap_or e.area no_area) (rest_placed field (areas_of with_rows) start with_rows) ∙ length_rest with_rows field (areas_of with_rows) start ∙ length_rows both dense (areas_of both) [] ∙ length_map begun items

pub length_placed : (items : List Wish) (shape : Shape) → length (placed items shape) ≡ length items
length_placed items shape =
    length_if shape.column_flow (map turned_area (placed_by_rows shape.rows shape.columns shape.dense (map turned_wish items))) (placed_by_rows shape.columns shape.rows shape.dense items) (length items)
    (length_map turned_area (placed_by_rows shape.rows shape.columns shape.dense (map turned_wish items)) ∙ length_by_rows shape.rows shape.columns shape.dense (map turned_wish items) ∙ length_map turned_wish items)
    (length_by_rows shape.columns shape.rows shape.dense items)

-- ---- of shares

length_handed_if : (c : Bool) (h k : Handed) (n : ℕ) → length h.rows ≡ n → length k.rows ≡ n → length (if c then h else k).rows ≡ n
length_handed_if true h k n p q = p
length_handed_if false h k n p q = q

length_round : (n : ℕ) (rows : List Share) → length (round n rows).rows ≡ length rows
length_round zero rows = refl
length_round (suc n) [] = refl
length_round (suc n) (s ∷ rest) = length_handed_if (has_room s) (after_row (one_more s) (round n rest)) (after_row s (round (suc n) rest)) (suc (length rest)) (ap suc (length_round n rest)) (ap suc (length_round (suc n) rest))

length_by_level : (n : ℕ) (rows : List Share) → length (handed_by_level n rows).rows ≡ length rows
unfolding handed_by_level
length_by_level n rows = length_round _ _ ∙ length_map _ rows

pub length_shares : (space : ℤ) (rooms : List (Option ℤ)) → length (shares space rooms) ≡ length rooms
length_shares (pos n) rooms = length_map _ _ ∙ length_by_level n _ ∙ length_map _ rooms
length_shares (negsuc n) rooms = length_map _ rooms

-- ---- of flex lines

length_parts : (ws : List ℕ) (before : ℕ) (space : ℤ) (whole : ℕ) → length (apportioned_after before space whole ws) ≡ length ws
length_parts [] before space whole = refl
length_parts (w ∷ ws) before space whole = ap suc (length_parts ws (before + w) space whole)

length_given : (grow : Bool) (space : ℤ) (line : List Piece) → length (given_parts grow space line) ≡ length line
length_given grow space line =
    let weights = map (weight_of grow) line in
    length_if (total_of weights == 0) (map (λ (p : Piece). pos 0) line) (apportioned_whole space weights) (length line) (length_map (λ (p : Piece). pos 0) line) (length_parts weights 0 space (total_of weights) ∙ length_map (weight_of grow) line)

length_turn : (grow : Bool) (main gap initial : ℤ) (line : List Piece) → length (turn grow main gap initial line) ≡ length line
length_turn grow main gap initial line =
    let parts = given_parts grow (given_space grow main gap initial line) line in
    let sizes = zipped (tried grow) line parts in
    length_zipped (frozen_by (sum_of (zipped violation line sizes))) line sizes (length_zipped (tried grow) line parts (length_given grow (given_space grow main gap initial line) line))

length_resolved : (turns : ℕ) (grow : Bool) (main gap initial : ℤ) (line : List Piece) → length (resolved turns grow main gap initial line) ≡ length line
unfolding resolved
length_resolved zero grow main gap initial line = refl
length_resolved (suc turns) grow main gap initial line = length_resolved turns grow main gap initial (turn grow main gap initial line) ∙ length_turn grow main gap initial line

length_line : (main gap : ℤ) (line : List FlexItem) → length (line_sizes main gap line) ≡ length line
length_line main gap line =
    let grow = grows main gap line in
    let start = map (begin grow) line in
    length_map size_of (resolved (length line) grow main gap (free_space grow main gap start) start) ∙ length_resolved (length line) grow main gap (free_space grow main gap start) start ∙ length_map (begin grow) line

-- the items of ranges, one range after another
abbrev pub slices : {A : Type 0} → List A → List (ℕ × ℕ) → List A
slices xs [] = []
slices xs (r ∷ rest) = slice_range xs r.0 r.1 ++ slices xs rest

length_mains : (main gap : ℤ) (items : List FlexItem) (ranges : List (ℕ × ℕ)) → length (main_sizes main gap items ranges) ≡ length (slices items ranges)
length_mains main gap items [] = refl
length_mains main gap items (r ∷ rest) =
    length-append (line_sizes main gap (slice_range items r.0 r.1)) (main_sizes main gap items rest) ∙ ap (λ (n : ℕ). n + length (main_sizes main gap items rest)) (length_line main gap (slice_range items r.0 r.1)) ∙
    ap (λ (n : ℕ). length (slice_range items r.0 r.1) + n) (length_mains main gap items rest) ∙ sym (length-append (slice_range items r.0 r.1) (slices items rest))

filled_all_from : {A : Type 0} (fits : List A → Bool) (rest line : List A) → joined (filled_from fits line rest) ≡ line ++ rest
filled_all_from fits [] line = refl
filled_all_from {A} fits (x ∷ rest) line = go (fits (line ++ x ∷ [])) (filled_all_from fits rest (line ++ x ∷ [])) (filled_all_from fits rest (x ∷ []))
  where
    go : (c : Bool) → joined (filled_from fits (line ++ x ∷ []) rest) ≡ (line ++ x ∷ []) ++ rest → joined (filled_from fits (x ∷ []) rest) ≡ (x ∷ []) ++ rest → joined (if c then filled_from fits (line ++ x ∷ []) rest else line ∷ filled_from fits (x ∷ []) rest) ≡ line ++ x ∷ rest
    go true h k = h ∙ append_assoc line (x ∷ []) rest
    go false h k = ap (λ l. line ++ l) k

filled_all : {A : Type 0} (fits : List A → Bool) (xs : List A) → joined (filled fits xs) ≡ xs
filled_all fits [] = refl
filled_all fits (x ∷ rest) = filled_all_from fits rest (x ∷ [])

one_line_all : {A : Type 0} (xs : List A) → joined (one_line xs) ≡ xs
one_line_all [] = refl
one_line_all (x ∷ rest) = append-nil (x ∷ rest)

lines_all : (main gap : ℤ) (wrap : Bool) (items : List FlexItem) → joined (lines_of main gap wrap items) ≡ items
lines_all main gap true items = filled_all (λ line. int_le (line_length gap line) main) items
lines_all main gap false items = one_line_all items

-- ranges of lines that follow each other have all items from the first range on
slices_from : {A B : Type 0} (all : List A) (lines : List (List B)) (n : ℕ) → n + length (joined lines) ≡ length all → slices all (ranges_from n lines) ≡ drop n all
slices_from all [] n h = sym (drop_of_length-le all (omega arith))
slices_from all (line ∷ rest) n h =
    ap (λ l. slice_range all n (n + length line) ++ l) (slices_from all rest (n + length line) (omega (arith, length-append line (joined rest)))) ∙ sym (drop_split all n (n + length line) (omega arith))

pub slices_all : {A : Type 0} (all : List A) (main gap : ℤ) (wrap : Bool) (items : List FlexItem) → length all ≡ length items → slices all (line_ranges main gap wrap items) ≡ all
slices_all all main gap wrap items h = slices_from all (lines_of main gap wrap items) 0 (omega (arith, ap length (lines_all main gap wrap items), h))

pub length_main_sizes : (main gap : ℤ) (wrap : Bool) (items : List FlexItem) → length (main_sizes main gap items (line_ranges main gap wrap items)) ≡ length items
length_main_sizes main gap wrap items = length_mains main gap items (line_ranges main gap wrap items) ∙ ap length (slices_all items main gap wrap items refl)

length_stretched : (cross : Option ℤ) (gap : ℤ) (stretch : Bool) (sizes : List ℤ) → length (stretched_lines cross gap stretch sizes) ≡ length sizes
length_stretched (Some cross) gap true sizes = length_zipped _ sizes _ (length_shares _ _ ∙ length_map _ sizes)
length_stretched (Some cross) gap false sizes = refl
length_stretched None gap stretch sizes = refl

pub length_crosses : (outer : List ℤ) (lines : List (ℕ × ℕ)) (cross : Option ℤ) (gap : ℤ) (wrap stretch : Bool) → length (line_crosses outer lines cross gap wrap stretch) ≡ length lines
length_crosses outer lines cross gap wrap stretch = length_stretched cross gap (wrap && stretch) (map (own_cross outer cross wrap) lines) ∙ length_map (own_cross outer cross wrap) lines

pub length_margins : (rest : ℤ) (autos : List Bool) → length (line_margins rest autos) ≡ length autos
length_margins rest autos = length_shares _ _ ∙ length_map _ autos

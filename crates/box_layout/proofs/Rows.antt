-- The rows by which margins share a space.
use Rattle.std.proofs.Common.{arith, ap, ◌≡◌, ◌∙◌, sym, refl, ℕ, zero, suc, ◌+◌, ◌*◌, ◌<◌, ℤ, pos, negsuc, List, [], ◌∷◌, ◌++◌, drop, take, get_or, length, map, Option, Some, None, if◌then◌else◌, Bool, true, false, ◌||◌}
use Rattle.std.specs.List.{list_any}
use Rattle.std.proofs.lemmas.List.{append-nil, append_assoc, drop_all, drop_more, take_all}
use Rattle.lunit.specs.Units.{clamp}
use Rattle.part_rules.specs.declared.share.Share.{Share}
use Rattle.part_rules.specs.FlexLines.{line_margins}
use Rattle.part_rules.specs.Lists.{joined}
use Rattle.part_rules.specs.Sharing.{Handed, after_row, has_room, one_more, roomy, round, rounds, shared_rows, with_nothing}
use Rattle.part_rules.proofs.Sharing.{shares_are}
use Rattle.tree_rules.specs.NodeSizes.{is_auto_margin}
use Rattle.box_layout.specs.declared.sitting.Sitting.{Sitting}
use Rattle.box_layout.specs.Seats.{autos_of, has_auto}
use Rattle.box_layout.specs.Shares.{nothing_for, share_of, shares_of}

-- ---- the rows of a line

-- a child more
pub shares_next : (line : List Sitting) (i : ℕ) (s d : Sitting) (rows all : List Share) → i < length line → s ≡ get_or line i d
    → rows ++ shares_of (drop i line) ≡ all → ((rows ++ share_of s.along.start ∷ []) ++ share_of s.along.end ∷ []) ++ shares_of (drop (i + 1) line) ≡ all
shares_next line i s d rows all h is e =
    let rest : List Share = shares_of (drop (i + 1) line) in
    append_assoc (rows ++ share_of s.along.start ∷ []) (share_of s.along.end ∷ []) rest
    ∙ append_assoc rows (share_of s.along.start ∷ []) (share_of s.along.end ∷ rest)
    ∙ sym (ap (λ (xs : List Sitting). rows ++ shares_of xs) (drop_more line i d h ∙ ap (λ (x : Sitting). x ∷ drop (i + 1) line) (sym is))) ∙ e

pub shares_count : (line : List Sitting) → length (shares_of line) ≡ 2 * length line
shares_count [] = refl
shares_count (s ∷ rest) = omega (arith, shares_count rest)

-- the room of a margin, by whether it is `auto`
abbrev room_by : Option ℤ → Option ℤ
room_by m = if is_auto_margin m then None else Some (pos 0)

row_is : (m : Option ℤ) → share_of m ≡ roomy (room_by m)
row_is None = refl
row_is (Some x) = refl

-- they are rows with the rooms of the definition
rows_are : (line : List Sitting) → shares_of line ≡ map roomy (map (λ (auto : Bool). if auto then None else Some (pos 0)) (joined (map autos_of line)))
rows_are [] = refl
rows_are (s ∷ rest) =
    ap (λ (a : Share). a ∷ share_of s.along.end ∷ shares_of rest) (row_is s.along.start)
    ∙ ap (λ (b : Share). roomy (room_by s.along.start) ∷ b ∷ shares_of rest) (row_is s.along.end)
    ∙ ap (λ (xs : List Share). roomy (room_by s.along.start) ∷ roomy (room_by s.along.end) ∷ xs) (rows_are rest)

-- what they get is what the margins take
pub taken_are : (rest : ℤ) (line : List Sitting) (space : ℤ) (rows : List Share) → space ≡ clamp rest → rows ≡ shared_rows space (shares_of line)
    → map (λ (s : Share). s.got) rows ≡ line_margins rest (joined (map autos_of line))
taken_are rest line space rows e f =
    let rooms : List (Option ℤ) = map (λ (auto : Bool). if auto then None else Some (pos 0)) (joined (map autos_of line)) in
    ap (map (λ (s : Share). s.got)) (f ∙ ap (λ z. shared_rows z (shares_of line)) e ∙ ap (shared_rows (clamp rest)) (rows_are line))
    ∙ sym (shares_are (clamp rest) rooms)

-- ---- a line without `auto` margins

nothing_drop : (line : List Sitting) (i : ℕ) → i < length line → nothing_for (drop i line) ≡ pos 0 ∷ pos 0 ∷ nothing_for (drop (i + 1) line)
nothing_drop [] i h = absurd (omega (arith, h))
nothing_drop (s ∷ line) i h = ap nothing_for (drop_more (s ∷ line) i s h)

-- a child more
pub nothing_next : (line : List Sitting) (i : ℕ) (z : ℤ) (taken all : List ℤ) → i < length line → z ≡ pos 0
    → taken ++ nothing_for (drop i line) ≡ all → ((taken ++ z ∷ []) ++ z ∷ []) ++ nothing_for (drop (i + 1) line) ≡ all
nothing_next line i z taken all h is e =
    let rest : List ℤ = nothing_for (drop (i + 1) line) in
    append_assoc (taken ++ z ∷ []) (z ∷ []) rest
    ∙ append_assoc taken (z ∷ []) (z ∷ rest)
    ∙ ap (λ (y : ℤ). taken ++ y ∷ y ∷ rest) is
    ∙ sym (ap (λ (xs : List ℤ). taken ++ xs) (nothing_drop line i h)) ∙ e

pub nothing_count : (line : List Sitting) → length (nothing_for line) ≡ 2 * length line
nothing_count [] = refl
nothing_count (s ∷ rest) = omega (arith, nothing_count rest)

-- rows without room are not filled
round_full : (n : ℕ) (rows : List Share) → list_any has_room rows ≡ false → (let h : Handed = record { rows = rows; left = n } in round n rows ≡ h)
round_full zero rows none = refl
round_full (suc n) [] none = refl
round_full (suc n) (s ∷ rest) none = go (has_room s) none (round_full (suc n) rest)
  where
    go : (b : Bool) → (b || list_any has_room rest) ≡ false → (list_any has_room rest ≡ false → (let h : Handed = record { rows = rest; left = suc n } in round (suc n) rest ≡ h))
        → (let h : Handed = record { rows = s ∷ rest; left = suc n } in (if b then after_row (one_more s) (round n rest) else after_row s (round (suc n) rest)) ≡ h)
    go true e again = absurd cc
    go false e again = ap (after_row s) (again e)

rounds_full : (k n : ℕ) (rows : List Share) → list_any has_room rows ≡ false → (let h : Handed = record { rows = rows; left = n } in rounds k h ≡ h)
unfolding rounds
rounds_full zero n rows none = refl
rounds_full (suc k) n rows none = ap (rounds k) (round_full n rows none) ∙ rounds_full k n rows none

all_full : (line : List Sitting) → list_any (λ (s : Sitting). has_auto s.along) line ≡ false → list_any has_room (map with_nothing (shares_of line)) ≡ false
all_full [] h = refl
all_full (s ∷ rest) h = go s.along.start s.along.end h (all_full rest)
  where
    go : (a b : Option ℤ) → ((is_auto_margin a || is_auto_margin b) || list_any (λ (s : Sitting). has_auto s.along) rest) ≡ false
        → (list_any (λ (s : Sitting). has_auto s.along) rest ≡ false → list_any has_room (map with_nothing (shares_of rest)) ≡ false)
        → (has_room (with_nothing (share_of a)) || (has_room (with_nothing (share_of b)) || list_any has_room (map with_nothing (shares_of rest)))) ≡ false
    go None b h again = absurd cc
    go (Some x) None h again = absurd cc
    go (Some x) (Some y) h again = again h

nothing_got : (line : List Sitting) → map (λ (s : Share). s.got) (map with_nothing (shares_of line)) ≡ nothing_for line
nothing_got [] = refl
nothing_got (s ∷ rest) = ap (λ (xs : List ℤ). pos 0 ∷ pos 0 ∷ xs) (nothing_got rest)

nothing_shared : (space : ℤ) (line : List Sitting) → list_any (λ (s : Sitting). has_auto s.along) line ≡ false → map (λ (s : Share). s.got) (shared_rows space (shares_of line)) ≡ nothing_for line
nothing_shared (pos n) line h = ap (λ (k : Handed). map (λ (s : Share). s.got) k.rows) (rounds_full n n (map with_nothing (shares_of line)) (all_full line h)) ∙ nothing_got line
nothing_shared (negsuc n) line h = nothing_got line

-- its margins take nothing
pub nothing_taken : (rest : ℤ) (line : List Sitting) → list_any (λ (s : Sitting). has_auto s.along) line ≡ false → nothing_for line ≡ line_margins rest (joined (map autos_of line))
nothing_taken rest line h =
    let rooms : List (Option ℤ) = map (λ (auto : Bool). if auto then None else Some (pos 0)) (joined (map autos_of line)) in
    sym
    (shares_are (clamp rest) rooms
    ∙ sym (ap (λ (xs : List Share). map (λ (s : Share). s.got) (shared_rows (clamp rest) xs)) (rows_are line))
    ∙ nothing_shared (clamp rest) line h)

-- ---- a list that was lent whole is what was put in its place

pub lent_back : {A : Type 0} → (items new : List A) (len : ℕ) → len ≡ length items → length new ≡ length items → take len (new ++ drop (length new) items) ≡ new
lent_back items new len e f =
    ap (λ xs. take len (new ++ xs)) (drop_all (length new) items (omega (arith, f))) ∙ ap (take len) (append-nil new) ∙ take_all len new (omega (arith, e, f))

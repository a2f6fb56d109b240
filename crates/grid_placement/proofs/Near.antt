-- Areas that end by a line.
use Rattle.std.proofs.Common.{arith, rules, ◌<◌, ◌≡◌, refl, sym, true≢false, ℤ, pos, negsuc, ◌-ℤ◌, ◌≤ℤ◌, ◌<ℤ◌, Bool, true, false, not, ◌&&◌, int_le, List, [], ◌∷◌, ◌++◌}
use Rattle.std.specs.Int.{int_max, int_min}
use Rattle.std.specs.List.{list_all}
use Rattle.std.proofs.lemmas.Int.{ints, clamps}
use Rattle.lunit.specs.Areas.{is_free, areas_overlap, spans_overlap}
use Rattle.lunit.specs.declared.geometry.Area.{Area}
use Rattle.lunit.specs.declared.geometry.Span.{Span}
use Rattle.part_rules.specs.Lists.{above_zero}
use Rattle.grid_placement.specs.Near.{ends_by, AllEndBy}

pub both_pass : (u v : Bool) → (u && v) ≡ true → (u ≡ true) × (v ≡ true)
both_pass true v e = (refl, e)
both_pass false v e = (e, absurd (true≢false (sym e)))

pub pass_both : (u v : Bool) → u ≡ true → v ≡ true → (u && v) ≡ true
pass_both true v e f = f
pass_both false v e f = absurd (true≢false (sym e))

overlap_starts : (a b : Span) → spans_overlap a b ≡ true → a.start <ℤ b.end
overlap_starts a b h =
    let less : int_max a.start b.start <ℤ int_min a.end b.end = search rules in
    omega (arith, ints, clamps)

-- An area that is not free begins before the line that all end by.
pub taken_starts : (line : ℤ) (held : List Area) (a : Area) → AllEndBy line held → is_free a held ≡ false → (a.columns.start <ℤ line) × (a.rows.start <ℤ line)
taken_starts line [] a h e = absurd (true≢false e)
taken_starts line (b ∷ held) a h e =
    let parts = both_pass (ends_by line b) (list_all (ends_by line) held) h.each in
    go (areas_overlap a b) refl e (both_pass (int_le b.columns.end line) (int_le b.rows.end line) parts.0) (λ f. taken_starts line held a (record { each = parts.1 }) f)
  where
    go : (o : Bool) → areas_overlap a b ≡ o → (not o && is_free a held) ≡ false → (int_le b.columns.end line ≡ true) × (int_le b.rows.end line ≡ true)
        → (is_free a held ≡ false → (a.columns.start <ℤ line) × (a.rows.start <ℤ line)) → (a.columns.start <ℤ line) × (a.rows.start <ℤ line)
    go true o f ends later =
        let both = both_pass (spans_overlap a.columns b.columns) (spans_overlap a.rows b.rows) o in
        let first = overlap_starts a.columns b.columns both.0 in
        let second = overlap_starts a.rows b.rows both.1 in
        let e0 : b.columns.end ≤ℤ line = let t = ends.0 in search rules in
        let e1 : b.rows.end ≤ℤ line = let t = ends.1 in search rules in
        (omega (arith, ints), omega (arith, ints))
    go false o f ends later = later f

-- One more area.
all_append : (f : Area → Bool) (held : List Area) (a : Area) → list_all f held ≡ true → f a ≡ true → list_all f (held ++ a ∷ []) ≡ true
all_append f [] a h e = pass_both (f a) true e refl
all_append f (b ∷ held) a h e = let p = both_pass (f b) (list_all f held) h in pass_both (f b) (list_all f (held ++ a ∷ [])) p.0 (all_append f held a p.1 e)

pub ends_append : (line : ℤ) (held : List Area) (a : Area) → AllEndBy line held → a.columns.end ≤ℤ line → a.rows.end ≤ℤ line → AllEndBy line (held ++ a ∷ [])
ends_append line held a h c r = record { each = all_append (ends_by line) held a h.each (pass_both (int_le a.columns.end line) (int_le a.rows.end line) (search rules) (search rules)) }

-- A line after it.
pub ends_later : (line later : ℤ) (held : List Area) → line ≤ℤ later → AllEndBy line held → AllEndBy later held
ends_later line later [] l h = record { each = refl }
ends_later line later (a ∷ held) l h =
    let parts = both_pass (ends_by line a) (list_all (ends_by line) held) h.each in
    let ends = both_pass (int_le a.columns.end line) (int_le a.rows.end line) parts.0 in
    let e0 : a.columns.end ≤ℤ line = let t = ends.0 in search rules in
    let e1 : a.rows.end ≤ℤ line = let t = ends.1 in search rules in
    let f0 : a.columns.end ≤ℤ later = omega (arith, ints) in
    let f1 : a.rows.end ≤ℤ later = omega (arith, ints) in
    let rest = ends_later line later held l (record { each = parts.1 }) in
    record { each = pass_both (ends_by later a) (list_all (ends_by later) held) (pass_both (int_le a.columns.end later) (int_le a.rows.end later) (search rules) (search rules)) rest.each }

-- The measure of a search up to a line.
pub falls : (line x y : ℤ) → x <ℤ y → y ≤ℤ line → above_zero (line -ℤ y) < above_zero (line -ℤ x)
falls line x y less near = go (line -ℤ y) (line -ℤ x) (omega (arith, ints)) (omega (arith, ints))
  where
    go : (a b : ℤ) → a <ℤ b → pos 0 ≤ℤ a → above_zero a < above_zero b
    go (pos a) (pos b) e h = omega (arith, ints)
    go (pos a) (negsuc b) e h = absurd (omega (arith, ints))
    go (negsuc a) b e h = absurd (omega (arith, ints))

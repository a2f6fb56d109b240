-- Rooms that a space just fills.
use Rattle.std.proofs.Common.{arith, ap, ◌≡◌, ◌∙◌, sym, refl, ℕ, suc, ◌+◌, ◌-◌, ◌≤◌, ℤ, pos, negsuc, ◌+ℤ◌, ◌-ℤ◌, ◌≤ℤ◌, Bool, List, [], ◌∷◌, map, filter, length, not, Option, Some, if◌then◌else◌}
use Rattle.std.proofs.lemmas.Bool.{le-ltb}
use Rattle.std.proofs.lemmas.Int.{ints, clamps}
use Rattle.lunit.specs.Units.{clamp, top}
use Rattle.part_rules.specs.declared.share.Share.{Share}
use Rattle.part_rules.specs.Lists.{above_zero, sum_of, total_of, zipped}
use Rattle.part_rules.specs.Sharing.{Handed, above, filled_to, handed, roomy, shares, used}
use Rattle.part_rules.specs.Tracks.{Track, all_gutters, auto_room, free_of, full, grow_base, grown, limit_of, to_limit, total}
use Rattle.part_rules.proofs.Sharing.{shares_are}
use Rattle.share_out.proofs.Levels.{full_at}
use Rattle.track_sizing.specs.Here.{HaveUnits}
use Rattle.track_sizing.specs.declared.rooms.Rooms.TheVariants as rooms
use Rattle.track_sizing.proofs.Shares.{gots}
use Rattle.track_sizing.proofs.Sums.{times_some}
use Rattle.track_sizing.proofs.Ungrown.{grown_none}

-- ---- rows

abbrev ended : ℕ → Option ℤ
ended n = Some (pos n)

abbrev ended_row : ℕ → Share
ended_row n = record { room = Some (pos n); got = pos 0 }

rows_are : (ns : List ℕ) → map roomy (map ended ns) ≡ map ended_row ns
rows_are [] = refl
rows_are (n ∷ ns) = ap (λ (xs : List Share). ended_row n ∷ xs) (rows_are ns)

none_above : (level : ℕ) (ns : List ℕ) → total_of ns ≤ level → above level (map ended_row ns) ≡ 0
none_above level [] h = refl
none_above level (n ∷ ns) h = ap (λ (b : Bool). if b then suc (above level (map ended_row ns)) else above level (map ended_row ns)) (le-ltb level n (omega arith)) ∙ none_above level ns (omega arith)

all_used : (level : ℕ) (ns : List ℕ) → total_of ns ≤ level → used level (map ended_row ns) ≡ total_of ns
all_used level [] h = refl
all_used level (n ∷ ns) h = ap (λ (b : Bool). (if b then level else n) + used level (map ended_row ns)) (le-ltb level n (omega arith)) ∙ ap (λ (k : ℕ). n + k) (all_used level ns (omega arith))

all_got : (level : ℕ) (ns : List ℕ) → total_of ns ≤ level → gots (map (filled_to level) (map ended_row ns)) ≡ map pos ns
all_got level [] h = refl
all_got level (n ∷ ns) h = ap (λ (b : Bool). pos (if b then level else n) ∷ gots (map (filled_to level) (map ended_row ns))) (le-ltb level n (omega arith)) ∙ ap (λ (zs : List ℤ). pos n ∷ zs) (all_got level ns (omega arith))

-- Each row gets its room.
shares_filled : (ns : List ℕ) → shares (pos (total_of ns)) (map ended ns) ≡ map pos ns
shares_filled ns =
    let n : ℕ = total_of ns in
    shares_are (pos n) (map ended ns)
    ∙ ap (λ (rows : List Share). gots (handed n rows).rows) (rows_are ns)
    ∙ ap (λ (h : Handed). gots h.rows) (full_at n n (map ended_row ns) (omega (arith, all_used n ns)) (none_above n ns (omega arith)))
    ∙ all_got n ns (omega arith)

-- ---- tracks

-- a base size of at least 0, and a growth limit that is a length and not below it
pub record IsLimited (t : Track) : Type 0 where
  pub limit : t.limit ≡ Some (limit_of t)
  pub some : pos 0 ≤ℤ t.base
  pub reached : t.base ≤ℤ limit_of t
  pub units : limit_of t ≤ℤ top

abbrev pub AreLimited : List Track → Type 0
AreLimited [] = Unit {0}
AreLimited (t ∷ ts) = IsLimited t × AreLimited ts

abbrev room_left : Track → ℕ
room_left t = above_zero (limit_of t -ℤ t.base)

above_is : (z : ℤ) → pos 0 ≤ℤ z → pos (above_zero z) ≡ z
above_is (pos n) h = refl
above_is (negsuc n) h = absurd (omega (arith, ints))

left_is : (t : Track) → IsLimited t → pos (room_left t) ≡ limit_of t -ℤ t.base
left_is t h = above_is (limit_of t -ℤ t.base) (omega (arith, ints, h.reached))

rooms_are : (ts : List Track) → AreLimited ts → map to_limit ts ≡ map ended (map room_left ts)
rooms_are [] h = refl
rooms_are (t ∷ ts) h =
    ap (λ (o : Option ℤ). o ∷ map to_limit ts) (to_end t h.0) ∙ ap (λ (os : List (Option ℤ)). ended (room_left t) ∷ os) (rooms_are ts h.1)
  where
    to_end : (t : Track) → IsLimited t → to_limit t ≡ Some (pos (room_left t))
    to_end t h = ap (λ (l : Option ℤ). to_limit (record t { limit = l })) h.limit ∙ ap Some (sym (left_is t h))

grow_full : (t : Track) → IsLimited t → grow_base t (pos (room_left t)) ≡ full t
unfolding clamp
grow_full t h =
    let same : clamp (t.base +ℤ pos (room_left t)) ≡ limit_of t = omega (arith, ints, clamps, left_is t h, h.some, h.reached, h.units) in
    ap (λ (z : ℤ). record t { base = z }) same

all_full : (ts : List Track) → AreLimited ts → zipped grow_base ts (map pos (map room_left ts)) ≡ map full ts
all_full [] h = refl
all_full (t ∷ ts) h = ap (λ (x : Track). x ∷ zipped grow_base ts (map pos (map room_left ts))) (grow_full t h.0) ∙ ap (λ (xs : List Track). full t ∷ xs) (all_full ts h.1)

abbrev bases : List Track → List ℤ
bases ts = map (λ (t : Track). t.base) ts

left_sum : (ts : List Track) → AreLimited ts → pos (total_of (map room_left ts)) +ℤ sum_of (bases ts) ≡ sum_of (map limit_of ts)
left_sum [] h = refl
left_sum (t ∷ ts) h = omega (arith, ints, left_is t h.0, left_sum ts h.1)

bases_some : (ts : List Track) → AreLimited ts → pos 0 ≤ℤ sum_of (bases ts)
bases_some [] h = omega (arith, ints)
bases_some (t ∷ ts) h = omega (arith, ints, h.0.some, bases_some ts h.1)

-- What the limits leave of their own total is just the room of the tracks.
free_is : (gap a : ℤ) (ts : List Track) → pos 0 ≤ℤ gap → AreLimited ts → a ≡ sum_of (map limit_of ts) +ℤ all_gutters gap ts → a ≤ℤ top → free_of gap a ts ≡ pos (total_of (map room_left ts))
unfolding clamp
free_is gap a ts g h e u = omega (arith, ints, clamps, left_sum ts h, bases_some ts h, gutters_some, e, u)
  where
    gutters_some : pos 0 ≤ℤ all_gutters gap ts
    gutters_some = times_some gap (length (filter (λ (t : Track). not t.rule.collapsed) ts) - 1) g

-- Tracks grow by it to their limits (CSS Grid 2, 12.6).
pub grown_full : (gap a : ℤ) (ts : List Track) → pos 0 ≤ℤ gap → AreLimited ts → a ≡ sum_of (map limit_of ts) +ℤ all_gutters gap ts → a ≤ℤ top → grown to_limit (free_of gap a ts) ts ≡ map full ts
grown_full gap a ts g h e u =
    ap (λ (z : ℤ). grown to_limit z ts) (free_is gap a ts g h e u)
    ∙ ap (λ (rooms : List (Option ℤ)). zipped grow_base ts (shares (pos (total_of (map room_left ts))) rooms)) (rooms_are ts h)
    ∙ ap (zipped grow_base ts) (shares_filled (map room_left ts))
    ∙ all_full ts h

-- ---- then nothing is left

full_units : (ts : List Track) → AreLimited ts → HaveUnits (map full ts)
full_units [] h = tt
full_units (t ∷ ts) h = ((omega (arith, ints, h.0.some, h.0.reached), h.0.units), full_units ts h.1)

-- Tracks at their limits are not stretched (CSS Grid 2, 12.8).
pub stretched_none : (gap a : ℤ) (ts : List Track) → AreLimited ts → a ≤ℤ total gap (map full ts) → grown auto_room (free_of gap a (map full ts)) (map full ts) ≡ map full ts
unfolding clamp
stretched_none gap a ts h e =
    let none : free_of gap a (map full ts) ≡ pos 0 = omega (arith, ints, clamps, e) in
    sym (grown_none rooms.Stretch (free_of gap a (map full ts)) (map full ts) (full_units ts h) none)

-- Tracks that grow by nothing.
use Rattle.std.proofs.Common.{arith, ap, subst, ◌≡◌, ◌∙◌, sym, refl, ℕ, ◌+◌, ◌<◌, ◌≤◌, ℤ, pos, negsuc, ◌+ℤ◌, ◌-ℤ◌, List, [], ◌∷◌, map, drop, length, get_or, Option, Some}
use Rattle.std.proofs.lemmas.Int.{ints, clamps}
use Rattle.std.proofs.Math.ListN.{drop_of_length-le}
use Rattle.lunit.specs.Units.{IsUnits, clamp}
use Rattle.part_rules.specs.Lists.{zipped}
use Rattle.part_rules.specs.Sharing.{Handed, after_row, has_room, roomy, shares, with_nothing}
use Rattle.part_rules.specs.Tracks.{Track, free_of, grow_base, grown, to_limit, up_to}
use Rattle.part_rules.proofs.Rounds.{IsStill, passes, rounds_still, still_none}
use Rattle.part_rules.proofs.Sharing.{shares_are}
use Rattle.track_sizing.specs.declared.rooms.Rooms.{Rooms}
use Rattle.track_sizing.specs.Here.{AreFilled, HaveUnits, IsFilled, room_of}
use Rattle.track_sizing.proofs.Idle.{none_got, none_shared}
use Rattle.track_sizing.proofs.Local.{map_length}
use Rattle.track_sizing.proofs.Shares.{AreClosed, gots, nothings}
use Rattle.track_sizing.proofs.Sums.{drop_item}

-- Where those from this place on are in the range, all are.
pub record IsUnitsTo (ts : List Track) (i : ℕ) : Type 0 where
  pub whole : HaveUnits (drop i ts) → HaveUnits ts

pub none_units : (ts : List Track) → IsUnitsTo ts 0
none_units ts = record { whole = λ h. h }

pub more_units : (ts : List Track) (i : ℕ) (t : Track) (base units : ℤ) → IsUnitsTo ts i → i < length ts → t ≡ get_or ts i t → base ≡ t.base → units ≡ base → IsUnits units → IsUnitsTo ts (i + 1)
more_units ts i t base units so h e b u r =
    record { whole = λ rest. so.whole (subst HaveUnits (sym (drop_item ts i t h e)) (subst IsUnits (u ∙ b) r, rest)) }

pub all_units : (ts : List Track) (i : ℕ) → IsUnitsTo ts i → length ts ≤ i → HaveUnits ts
all_units ts i so h = let none : drop i ts ≡ [] = drop_of_length-le ts h in so.whole (subst HaveUnits (sym none) tt)

pub ruleset units_read = (none_units, more_units, all_units)

no_growth : (t : Track) → IsUnits t.base → grow_base t (pos 0) ≡ t
unfolding clamp
no_growth t u = let same : clamp (t.base +ℤ pos 0) ≡ t.base = omega (arith, ints, clamps, u.0, u.1) in ap (λ (z : ℤ). record t { base = z }) same

pub zipped_same : (ts : List Track) (rooms : List (Option ℤ)) → length rooms ≡ length ts → HaveUnits ts → zipped grow_base ts (nothings rooms) ≡ ts
zipped_same [] rooms e h = refl
zipped_same (t ∷ ts) [] e h = absurd (omega arith)
zipped_same (t ∷ ts) (r ∷ rs) e h = ap (λ (x : Track). x ∷ zipped grow_base ts (nothings rs)) (no_growth t h.0) ∙ ap (λ (xs : List Track). t ∷ xs) (zipped_same ts rs (omega arith) h.1)

pub grown_none : (r : Rooms) (space : ℤ) (ts : List Track) → HaveUnits ts → space ≡ pos 0 → ts ≡ grown (room_of r) space ts
grown_none r space ts h e =
    let each : List (Option ℤ) = map (room_of r) ts in
    sym (ap (λ (z : ℤ). grown (room_of r) z ts) e ∙ ap (zipped grow_base ts) (none_shared each) ∙ zipped_same ts each (map_length (room_of r) ts) h)

-- ---- tracks without room

pub filled_row : (t : Track) (limit : Option ℤ) (base units one : ℤ) → base ≡ t.base → units ≡ base → IsUnits units → limit ≡ t.limit → limit ≡ Some one → one ≡ base → IsFilled t
filled_row t limit base units one b u r l s e = record { units = subst IsUnits (u ∙ b) r; limit = sym l ∙ s ∙ ap Some (e ∙ b) }

-- Where those from this place on are filled, all are.
pub record IsFilledTo (ts : List Track) (i : ℕ) : Type 0 where
  pub whole : AreFilled (drop i ts) → AreFilled ts

pub filled_start : (ts : List Track) → IsFilledTo ts 0
filled_start ts = record { whole = λ h. h }

pub filled_more : (ts : List Track) (i : ℕ) (t : Track) → IsFilledTo ts i → i < length ts → t ≡ get_or ts i t → IsFilled t → IsFilledTo ts (i + 1)
filled_more ts i t so h e s = record { whole = λ rest. so.whole (subst AreFilled (sym (drop_item ts i t h e)) (s, rest)) }

pub filled_all : (ts : List Track) (i : ℕ) → IsFilledTo ts i → length ts ≤ i → AreFilled ts
filled_all ts i so h = let none : drop i ts ≡ [] = drop_of_length-le ts h in so.whole (subst AreFilled (sym none) tt)

pub ruleset rows_filled = (filled_start, filled_more, filled_all)

closed_still : (rooms : List (Option ℤ)) → AreClosed rooms → IsStill (map with_nothing (map roomy rooms))
closed_still [] h = still_none
closed_still (room ∷ rest) h = λ n.
    passes n (with_nothing (roomy room)) (map with_nothing (map roomy rest)) (ap (λ (r : Option ℤ). has_room (with_nothing (roomy r))) h.0)
    ∙ ap (after_row (with_nothing (roomy room))) (closed_still rest h.1 n)

closed_shared : (space : ℤ) (rooms : List (Option ℤ)) → AreClosed rooms → shares space rooms ≡ nothings rooms
closed_shared (pos n) rooms h =
    shares_are (pos n) rooms ∙ ap (λ (g : Handed). gots g.rows) (rounds_still n n (map with_nothing (map roomy rooms)) (closed_still rooms h)) ∙ none_got rooms
closed_shared (negsuc n) rooms h = shares_are (negsuc n) rooms ∙ none_got rooms

no_room : (t : Track) → IsFilled t → to_limit t ≡ Some (pos 0)
no_room t h = ap (up_to t.base) h.limit ∙ ap Some (let none : t.base -ℤ t.base ≡ pos 0 = omega (arith, ints) in none)

no_rooms : (ts : List Track) → AreFilled ts → AreClosed (map to_limit ts)
no_rooms [] h = tt
no_rooms (t ∷ ts) h = (no_room t h.0, no_rooms ts h.1)

filled_units : (ts : List Track) → AreFilled ts → HaveUnits ts
filled_units [] h = tt
filled_units (t ∷ ts) h = (h.0.units, filled_units ts h.1)

pub filled_grown : (gap space : ℤ) (ts : List Track) → AreFilled ts → ts ≡ grown to_limit (free_of gap space ts) ts
filled_grown gap space ts h =
    let each : List (Option ℤ) = map to_limit ts in
    sym (ap (zipped grow_base ts) (closed_shared (free_of gap space ts) each (no_rooms ts h)) ∙ zipped_same ts each (map_length to_limit ts) (filled_units ts h))

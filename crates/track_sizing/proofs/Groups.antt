-- Groups of items.
use Rattle.std.proofs.Common.{arith, ap, subst, ◌≡◌, ◌∙◌, sym, refl, ℕ, zero, suc, ◌==◌, ◌<◌, ℤ, pos, ◌+ℤ◌, ◌≤ℤ◌, Bool, true, false, List, [], ◌∷◌, ◌++◌, map, take, drop, length, get_or, Option, if◌then◌else◌}
use Rattle.std.specs.List.{list_any}
use Rattle.std.proofs.lemmas.Int.{ints, clamps}
use Rattle.std.proofs.lemmas.List.{take-append-drop}
use Rattle.lunit.specs.declared.item.Item.{Item}
use Rattle.part_rules.specs.Lists.{total_of, zipped}
use Rattle.part_rules.specs.Sharing.{apportioned_whole, shares, unshared}
use Rattle.part_rules.specs.Tracks.{Track, BaseStep, LimitStep, incur, in_turns, plan, only, without_end, affected_by, by_factors, crossing_weight, base_rooms, limit_rooms, base_incurred_by, limit_incurred_by, base_planned_by, limit_planned_by, base_of, limit_of, needed, raised_base, raise_limit}
use Rattle.track_sizing.specs.declared.kinds.Affected.{Affected}
use Rattle.track_sizing.specs.declared.kinds.Kind.{Kind}
use Rattle.track_sizing.specs.declared.item.Asks.{Asks}
use Rattle.track_sizing.specs.Here.{AreQuiet, base_planned_of, limit_planned_of}
use Rattle.track_sizing.specs.Placed.{ArePlaced, AreReady, AreSet, AreIn, IsIn, IsReady, base_step_of, limit_step_in}
use Rattle.track_sizing.proofs.Around.{around}
use Rattle.track_sizing.proofs.Local.{base_local, limit_local}
use Rattle.track_sizing.proofs.Sums.{drop_item}

-- ---- what is set

pub placed_of : (first : ℤ) (ts : List Track) → AreSet first ts → ArePlaced first ts
placed_of first [] h = tt
placed_of first (t ∷ ts) h = (h.0.0, placed_of (first +ℤ pos 1) ts h.1)

pub ready_of : (first : ℤ) (ts : List Track) → AreSet first ts → AreReady ts
ready_of first [] h = tt
ready_of first (t ∷ ts) h = (h.0.1, ready_of (first +ℤ pos 1) ts h.1)

pub quiet_of : (ts : List Track) → AreReady ts → AreQuiet ts
quiet_of [] h = tt
quiet_of (t ∷ ts) h = (h.0.0, quiet_of ts h.1)

ready_take : (n : ℕ) (ts : List Track) → AreReady ts → AreReady (take n ts)
ready_take zero ts h = tt
ready_take (suc n) [] h = tt
ready_take (suc n) (t ∷ ts) h = (h.0, ready_take n ts h.1)

ready_drop : (n : ℕ) (ts : List Track) → AreReady ts → AreReady (drop n ts)
ready_drop zero ts h = h
ready_drop (suc n) [] h = tt
ready_drop (suc n) (t ∷ ts) h = ready_drop n ts h.1

-- ---- what stays set

abbrev AreGoing : ℤ → List Track → Type 0
AreGoing first [] = Unit {0}
AreGoing first (t ∷ rest) = ((t.at ≡ first) × (pos 0 ≤ℤ t.planned)) × AreGoing (first +ℤ pos 1) rest

going_of : (first : ℤ) (ts : List Track) → AreSet first ts → AreGoing first ts
going_of first [] h = tt
going_of first (t ∷ ts) h = ((h.0.0, h.0.1.1), going_of (first +ℤ pos 1) ts h.1)

going_zipped : (first : ℤ) (ts : List Track) (ss : List ℤ) → AreGoing first ts → AreGoing first (zipped incur ts ss)
going_zipped first [] ss h = tt
going_zipped first (t ∷ ts) [] h = tt
going_zipped first (t ∷ ts) (s ∷ ss) h = (h.0, going_zipped (first +ℤ pos 1) ts ss h.1)

going_turns : (first : ℤ) (rooms : List (Track → Option ℤ)) (space : ℤ) (ts : List Track) → AreGoing first ts → AreGoing first (in_turns rooms space ts)
going_turns first [] space ts h = h
going_turns first (room ∷ rooms) space ts h = going_turns first rooms (unshared space (map room ts)) (zipped incur ts (shares space (map room ts))) (going_zipped first ts (shares space (map room ts)) h)

going_chosen : (first : ℤ) (b : Bool) (xs ys : List Track) → AreGoing first xs → AreGoing first ys → AreGoing first (if b then xs else ys)
going_chosen first true xs ys h g = h
going_chosen first false xs ys h g = g

going_factors : (first : ℤ) (a : Track → Bool) (i : Item) (space : ℤ) (ts : List Track) → AreGoing first ts → AreGoing first (by_factors a i space ts)
going_factors first a i space ts h =
    going_chosen first (total_of (map (crossing_weight a i) ts) == 0) (in_turns (only (affected_by a i) without_end ∷ []) space ts) (zipped incur ts (apportioned_whole space (map (crossing_weight a i) ts)))
    (going_turns first (only (affected_by a i) without_end ∷ []) space ts h) (going_zipped first ts (apportioned_whole space (map (crossing_weight a i) ts)) h)

set_planned : (first : ℤ) (ts : List Track) → AreGoing first ts → AreSet first (map plan ts)
set_planned first [] h = tt
set_planned first (t ∷ ts) h = ((h.0.0, (refl, omega (arith, ints, clamps, h.0.1))), set_planned (first +ℤ pos 1) ts h.1)

set_chosen : (first : ℤ) (b : Bool) (xs ys : List Track) → AreSet first xs → AreSet first ys → AreSet first (if b then xs else ys)
set_chosen first true xs ys h g = h
set_chosen first false xs ys h g = g

pub base_set : (s : BaseStep) (gap first : ℤ) (ts : List Track) (i : Item) → AreSet first ts → AreSet first (base_planned_by s gap ts i)
base_set s gap first ts i h =
    let space : ℤ = needed base_of gap (s.asks ts i) ts i in
    set_chosen first (list_any (affected_by s.affected i) ts) (map plan (base_incurred_by s i space ts)) ts
    (set_planned first (base_incurred_by s i space ts)
    (going_chosen first s.crossing (by_factors s.affected i space ts) (in_turns (base_rooms s i ts) space ts) (going_factors first s.affected i space ts (going_of first ts h)) (going_turns first (base_rooms s i ts) space ts (going_of first ts h)))) h

pub limit_set : (s : LimitStep) (gap first : ℤ) (ts : List Track) (i : Item) → AreSet first ts → AreSet first (limit_planned_by s gap ts i)
limit_set s gap first ts i h =
    let space : ℤ = needed limit_of gap (s.asks i) ts i in
    set_chosen first (list_any (affected_by s.affected i) ts) (map plan (limit_incurred_by s i space ts)) ts
    (set_planned first (limit_incurred_by s i space ts) (going_chosen first s.crossing (by_factors s.affected i space ts) (in_turns (limit_rooms s i) space ts) (going_factors first s.affected i space ts (going_of first ts h)) (going_turns first (limit_rooms s i) space ts (going_of first ts h)))) h

-- a change that keeps what is set
pub record Keeps (f : Track → Track) : Type 0 where
  pub at : (t : Track) → (f t).at ≡ t.at
  pub ready : (t : Track) → IsReady t → IsReady (f t)

pub set_map : (f : Track → Track) (first : ℤ) (ts : List Track) → Keeps f → AreSet first ts → AreSet first (map f ts)
set_map f first [] k h = tt
set_map f first (t ∷ ts) k h = ((k.at t ∙ h.0.0, k.ready t h.0.1), set_map f (first +ℤ pos 1) ts k h.1)

-- ---- one item

pub base_at : (a : Affected) (receives : Kind) (definite : Bool) (gap : ℤ) (k : Asks) (i : Item) (first : ℤ) (ts : List Track) (at n : ℕ) → AreSet first ts → i.span.start ≡ first +ℤ pos at → i.span.end ≡ i.span.start +ℤ pos n
    → base_planned_by (base_step_of a receives definite gap k) gap ts i ≡ take at ts ++ (base_planned_of a receives definite gap k i (take n (drop at ts)) ++ drop n (drop at ts))
base_at a receives definite gap k i first ts at n set s e =
    let whole : take at ts ++ (take n (drop at ts) ++ drop n (drop at ts)) ≡ ts = ap (λ (xs : List Track). take at ts ++ xs) (take-append-drop n (drop at ts)) ∙ take-append-drop at ts in
    let ready = ready_of first ts set in
    ap (λ (xs : List Track). base_planned_by (base_step_of a receives definite gap k) gap xs i) (sym whole)
    ∙ base_local i a receives definite gap k (take at ts) (take n (drop at ts)) (drop n (drop at ts)) (around i first ts at n (placed_of first ts set) s e) (ready_take at ts ready) (ready_drop n (drop at ts) (ready_drop at ts ready))

pub limit_at : (a : Affected) (second : Bool) (gap : ℤ) (i : Item) (first : ℤ) (ts : List Track) (at n : ℕ) → AreSet first ts → i.span.start ≡ first +ℤ pos at → i.span.end ≡ i.span.start +ℤ pos n
    → limit_planned_by (limit_step_in a second) gap ts i ≡ take at ts ++ (limit_planned_of a second gap i (take n (drop at ts)) ++ drop n (drop at ts))
limit_at a second gap i first ts at n set s e =
    let whole : take at ts ++ (take n (drop at ts) ++ drop n (drop at ts)) ≡ ts = ap (λ (xs : List Track). take at ts ++ xs) (take-append-drop n (drop at ts)) ∙ take-append-drop at ts in
    let ready = ready_of first ts set in
    ap (λ (xs : List Track). limit_planned_by (limit_step_in a second) gap xs i) (sym whole)
    ∙ limit_local i a second gap (take at ts) (take n (drop at ts)) (drop n (drop at ts)) (around i first ts at n (placed_of first ts set) s e) (ready_take at ts ready) (ready_drop n (drop at ts) (ready_drop at ts ready))

pub ready_mine : (first : ℤ) (ts : List Track) (at n : ℕ) → AreSet first ts → AreQuiet (take n (drop at ts))
ready_mine first ts at n set = quiet_of (take n (drop at ts)) (ready_take n (drop at ts) (ready_drop at ts (ready_of first ts set)))

pub still_mine : (first : ℤ) (ts : List Track) (at n : ℕ) → AreSet first ts → AreReady (take n (drop at ts))
still_mine first ts at n set = ready_take n (drop at ts) (ready_drop at ts (ready_of first ts set))

pub ruleset mine = (ready_mine, still_mine)

-- the list whose middle part was changed
pub joined_at : (f : List Track → List Track) (ts : List Track) (at n : ℕ) (before rest mine behind now : List Track) → before ≡ take at ts → rest ≡ drop at ts → mine ≡ take n rest → behind ≡ drop n rest → now ≡ f mine
    → before ++ (now ++ behind) ≡ take at ts ++ (f (take n (drop at ts)) ++ drop n (drop at ts))
joined_at f ts at n before rest mine behind now e r m b u =
    ap (λ (xs : List Track). xs ++ (now ++ behind)) e
    ∙ ap (λ (xs : List Track). take at ts ++ (xs ++ behind)) (u ∙ ap f (m ∙ ap (take n) r))
    ∙ ap (λ (xs : List Track). take at ts ++ (f (take n (drop at ts)) ++ xs)) (b ∙ ap (drop n) r)

pub first_in : (first : ℤ) (n : ℕ) (items : List Item) (k : ℕ) (i : Item) → AreIn first n (drop k items) → k < length items → i ≡ get_or items k i → IsIn first n i
first_in first n items k i h g e = (subst (λ (xs : List Item). AreIn first n xs) (drop_item items k i g e) h).0

pub base_keeps : Keeps raised_base
base_keeps = record { at = λ t. refl; ready = λ t h. (h.0, omega (arith, ints)) }

pub limit_keeps : Keeps raise_limit
limit_keeps = record { at = λ t. refl; ready = λ t h. h }

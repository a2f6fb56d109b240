-- Steps on growth limits.
use Rattle.std.proofs.Common.{arith, ap, ◌≡◌, ◌∙◌, refl, ℕ, ◌+◌, ◌==◌, ℤ, Bool, true, false, List, [], ◌∷◌, map, length, Option, if◌then◌else◌}
use Rattle.std.specs.List.{list_any}
use Rattle.std.proofs.lemmas.Int.{ints}
use Rattle.lunit.specs.declared.item.Item.{Item}
use Rattle.part_rules.specs.Lists.{total_of, zipped}
use Rattle.part_rules.specs.Sharing.{apportioned_after, apportioned_whole, shares, unshared}
use Rattle.part_rules.specs.Tracks.{Track, LimitStep, incur, in_turns, plan, only, without_end, affected_by, by_factors, crossing_weight, limit_rooms, limit_incurred_by, limit_planned_by, limit_planned_by_all, limit_of, needed, raised_limit, raised_limit_by, mark_endless}
use Rattle.track_sizing.specs.Placed.{IsReady, marked_limit_by}
use Rattle.track_sizing.proofs.Groups.{Keeps}
use Rattle.track_sizing.proofs.Shares.{shares_length}

-- two lists of tracks have the same growth limits
abbrev pub SameLimits : List Track → List Track → Type 0
SameLimits [] [] = Unit {0}
SameLimits [] (y ∷ ys) = ⊥
SameLimits (x ∷ xs) [] = ⊥
SameLimits (x ∷ xs) (y ∷ ys) = (x.limit ≡ y.limit) × SameLimits xs ys

same_self : (ts : List Track) → SameLimits ts ts
same_self [] = tt
same_self (t ∷ ts) = (refl, same_self ts)

same_zipped : (ts xs : List Track) (ss : List ℤ) → length ss ≡ length xs → SameLimits ts xs → SameLimits ts (zipped incur xs ss)
same_zipped [] [] ss e h = tt
same_zipped [] (x ∷ xs) ss e h = absurd h
same_zipped (t ∷ ts) [] ss e h = absurd h
same_zipped (t ∷ ts) (x ∷ xs) [] e h = absurd (omega arith)
same_zipped (t ∷ ts) (x ∷ xs) (s ∷ ss) e h = (h.0, same_zipped ts xs ss (omega arith) h.1)

map_length : {B : Type 0} (f : Track → B) (xs : List Track) → length (map f xs) ≡ length xs
map_length f [] = refl
map_length f (x ∷ xs) = omega (arith, map_length f xs)

parts_length : (before : ℕ) (space : ℤ) (whole : ℕ) (ws : List ℕ) → length (apportioned_after before space whole ws) ≡ length ws
parts_length before space whole [] = refl
parts_length before space whole (w ∷ ws) = omega (arith, parts_length (before + w) space whole ws)

same_turns : (rooms : List (Track → Option ℤ)) (space : ℤ) (ts xs : List Track) → SameLimits ts xs → SameLimits ts (in_turns rooms space xs)
same_turns [] space ts xs h = h
same_turns (room ∷ rooms) space ts xs h = same_turns rooms (unshared space (map room xs)) ts (zipped incur xs (shares space (map room xs))) (same_zipped ts xs (shares space (map room xs)) (shares_length space (map room xs) ∙ map_length room xs) h)

same_chosen : (b : Bool) (ts xs ys : List Track) → SameLimits ts xs → SameLimits ts ys → SameLimits ts (if b then xs else ys)
same_chosen true ts xs ys h g = h
same_chosen false ts xs ys h g = g

same_factors : (a : Track → Bool) (i : Item) (space : ℤ) (ts xs : List Track) → SameLimits ts xs → SameLimits ts (by_factors a i space xs)
same_factors a i space ts xs h =
    same_chosen (total_of (map (crossing_weight a i) xs) == 0) ts (in_turns (only (affected_by a i) without_end ∷ []) space xs) (zipped incur xs (apportioned_whole space (map (crossing_weight a i) xs)))
    (same_turns (only (affected_by a i) without_end ∷ []) space ts xs h)
    (same_zipped ts xs (apportioned_whole space (map (crossing_weight a i) xs)) (parts_length 0 space (total_of (map (crossing_weight a i) xs)) (map (crossing_weight a i) xs) ∙ map_length (crossing_weight a i) xs) h)

same_plan : (ts xs : List Track) → SameLimits ts xs → SameLimits ts (map plan xs)
same_plan [] [] h = tt
same_plan [] (x ∷ xs) h = absurd h
same_plan (t ∷ ts) [] h = absurd h
same_plan (t ∷ ts) (x ∷ xs) h = (h.0, same_plan ts xs h.1)

same_planned : (s : LimitStep) (gap : ℤ) (ts xs : List Track) (i : Item) → SameLimits ts xs → SameLimits ts (limit_planned_by s gap xs i)
same_planned s gap ts xs i h =
    let space : ℤ = needed limit_of gap (s.asks i) xs i in
    same_chosen (list_any (affected_by s.affected i) xs) ts (map plan (limit_incurred_by s i space xs)) xs
    (same_plan ts (limit_incurred_by s i space xs) (same_chosen s.crossing ts (by_factors s.affected i space xs) (in_turns (limit_rooms s i) space xs) (same_factors s.affected i space ts xs h) (same_turns (limit_rooms s i) space ts xs h))) h

same_all : (s : LimitStep) (gap : ℤ) (items : List Item) (ts xs : List Track) → SameLimits ts xs → SameLimits ts (limit_planned_by_all s gap items xs)
same_all s gap [] ts xs h = h
same_all s gap (i ∷ rest) ts xs h = same_all s gap rest ts (limit_planned_by s gap xs i) (same_planned s gap ts xs i h)

marked_same : (f : Track → Track) (ts xs : List Track) → SameLimits ts xs → zipped mark_endless ts (map f xs) ≡ map (λ t. mark_endless t (f t)) xs
marked_same f [] [] h = refl
marked_same f [] (x ∷ xs) h = absurd h
marked_same f (t ∷ ts) [] h = absurd h
marked_same f (t ∷ ts) (x ∷ xs) h =
    ap (λ (l : Option ℤ). mark_endless (record t { limit = l }) (f x) ∷ zipped mark_endless ts (map f xs)) h.0 ∙ ap (λ (ys : List Track). mark_endless x (f x) ∷ ys) (marked_same f ts xs h.1)

-- The marks by what the growth limits were before the step.
pub marked_all : (s : LimitStep) (gap : ℤ) (items : List Item) (f : Track → Track) (ts : List Track) → zipped mark_endless ts (map f (limit_planned_by_all s gap items ts)) ≡ map (λ t. mark_endless t (f t)) (limit_planned_by_all s gap items ts)
marked_all s gap items f ts = marked_same f ts (limit_planned_by_all s gap items ts) (same_all s gap items ts ts (same_self ts))

chosen_keeps : (b : Bool) (t : Track) → ((if b then raised_limit t else t).at ≡ t.at) × (IsReady t → IsReady (if b then raised_limit t else t))
chosen_keeps true t = (refl, λ h. (h.0, omega (arith, ints)))
chosen_keeps false t = (refl, λ h. h)

pub raised_keeps : (a : Track → Bool) (items : List Item) → Keeps (raised_limit_by a items)
raised_keeps a items = record { at = λ t. (chosen_keeps (list_any (λ i. affected_by a i t) items) t).0; ready = λ t h. (chosen_keeps (list_any (λ i. affected_by a i t) items) t).1 h }

pub marked_keeps : (a : Track → Bool) (items : List Item) → Keeps (marked_limit_by a items)
marked_keeps a items = record { at = λ t. (chosen_keeps (list_any (λ i. affected_by a i t) items) t).0; ready = λ t h. (chosen_keeps (list_any (λ i. affected_by a i t) items) t).1 h }

pub ruleset limits = (marked_all, raised_keeps, marked_keeps)

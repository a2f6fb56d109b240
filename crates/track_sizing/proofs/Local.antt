-- A step gives an item's tracks what it would give them alone, and nothing to others.
use Rattle.std.proofs.Common.{arith, ap, subst, ◌≡◌, ◌∙◌, sym, refl, ℕ, ◌+◌, ◌==◌, ℤ, pos, ◌+ℤ◌, ◌-ℤ◌, Bool, true, false, not, ◌&&◌, List, [], ◌∷◌, ◌++◌, map, length, Option, Some, if◌then◌else◌}
use Rattle.std.specs.Prelude.{is_none, unwrap_or}
use Rattle.std.specs.Int.{int_max}
use Rattle.std.specs.List.{list_any}
use Rattle.std.proofs.lemmas.Int.{ints, clamps}
use Rattle.lunit.specs.declared.item.Item.{Item}
use Rattle.lunit.specs.declared.item.Floor.{Floor}
use Rattle.lunit.specs.declared.item.Floor.TheVariants.{Known, Content}
use Rattle.part_rules.specs.Lists.{total_of, zipped, at_most}
use Rattle.part_rules.specs.Sharing.{part, apportioned_after, apportioned_whole, shares, unshared}
use Rattle.part_rules.specs.Tracks.{Track, spans, spanned, fit_argument, factor_of, incur, in_turns, plan, only, without_end, affected_by, base_to_limit, other_to_limit, base_to_argument, base_rooms, limit_rooms, limit_to_limit, limit_room, crossing_weight, by_factors, base_incurred_by, limit_incurred_by, base_planned_by, limit_planned_by, base_of, limit_of, needed, minimum_by, BaseStep, LimitStep}
use Rattle.track_sizing.specs.declared.kinds.Affected.{Affected}
use Rattle.track_sizing.specs.declared.kinds.Kind.{Kind}
use Rattle.track_sizing.specs.declared.item.Asks.{Asks}
use Rattle.track_sizing.specs.declared.item.Asks.TheVariants as asks
use Rattle.track_sizing.specs.declared.rooms.Rooms.TheVariants as rooms
use Rattle.track_sizing.specs.Kinds.{kind_of, affected_of}
use Rattle.track_sizing.specs.Here.{minimum_by_of, capped_of, limited_of, asked_of, needed_of, open_of, room_of, base_rooms_of, limit_rooms_of, weight_of, by_factors_of, base_given_of, limit_given_of, base_planned_of, limit_planned_of}
use Rattle.track_sizing.specs.Placed.{AreReady, IsReady, asks_in, base_step_of, limit_step_in}
use Rattle.track_sizing.proofs.Around.{AllSpanned, NoneSpanned, IsAround, IsTest, spanned_mine, any_mine}
use Rattle.track_sizing.proofs.Shares.{AreClosed, nothings, shares_beside, unshared_beside, shares_length}

-- ---- tests

off : (b : Bool) → (b && false) ≡ false
off true = refl
off false = refl

on : (b : Bool) → (b && true) ≡ b
on true = refl
on false = refl

affected_test : (i : Item) (a : Track → Bool) → IsTest i (affected_by a i) a
affected_test i a = record { none = λ t e. ap (λ (b : Bool). a t && b) e ∙ off (a t); some = λ t e. ap (λ (b : Bool). a t && b) e ∙ on (a t) }

others_test : (i : Item) (a : Track → Bool) → IsTest i (λ t. spans i t && not (a t)) (λ t. not (a t))
others_test i a = record { none = λ t e. ap (λ (b : Bool). b && not (a t)) e; some = λ t e. ap (λ (b : Bool). b && not (a t)) e }

and_test : (i : Item) (wide narrow more : Track → Bool) → IsTest i wide narrow → IsTest i (λ t. wide t && more t) (λ t. narrow t && more t)
and_test i wide narrow more h = record { none = λ t e. ap (λ (b : Bool). b && more t) (h.none t e); some = λ t e. ap (λ (b : Bool). b && more t) (h.some t e) }

open_test : (i : Item) (a : Affected) (receives : Kind) → IsTest i (λ t. (affected_by (affected_of a) i t && kind_of receives t) && is_none (fit_argument t.rule.most)) (open_of a receives)
open_test i a receives = and_test i (λ t. affected_by (affected_of a) i t && kind_of receives t) (λ t. affected_of a t && kind_of receives t) (λ t. is_none (fit_argument t.rule.most)) (and_test i (affected_by (affected_of a) i) (affected_of a) (kind_of receives) (affected_test i (affected_of a)))

-- ---- rooms

record IsSame (i : Item) (wide narrow : Track → Option ℤ) : Type 0 where
  none : (t : Track) → spans i t ≡ false → wide t ≡ Some (pos 0)
  some : (t : Track) → spans i t ≡ true → wide t ≡ narrow t

only_same : (i : Item) (p q : Track → Bool) (room : Track → Option ℤ) → IsTest i p q → IsSame i (only p room) (only q room)
only_same i p q room h = record { none = λ t e. ap (λ (b : Bool). if b then room t else Some (pos 0)) (h.none t e); some = λ t e. ap (λ (b : Bool). if b then room t else Some (pos 0)) (h.some t e) }

map_parts : {B : Type 0} (f : Track → B) (xs ys : List Track) → map f (xs ++ ys) ≡ map f xs ++ map f ys
map_parts f [] ys = refl
map_parts {B = B} f (x ∷ xs) ys = ap (λ (zs : List B). f x ∷ zs) (map_parts f xs ys)

closed_rooms : (i : Item) (wide narrow : Track → Option ℤ) (ts : List Track) → IsSame i wide narrow → NoneSpanned i ts → AreClosed (map wide ts)
closed_rooms i wide narrow [] h n = tt
closed_rooms i wide narrow (t ∷ ts) h n = (h.none t n.0, closed_rooms i wide narrow ts h n.1)

same_rooms : (i : Item) (wide narrow : Track → Option ℤ) (ts : List Track) → IsSame i wide narrow → AllSpanned i ts → map wide ts ≡ map narrow ts
same_rooms i wide narrow [] h n = refl
same_rooms i wide narrow (t ∷ ts) h n = ap (λ (r : Option ℤ). r ∷ map wide ts) (h.some t n.0) ∙ ap (λ (rs : List (Option ℤ)). narrow t ∷ rs) (same_rooms i wide narrow ts h n.1)

wide_rooms : (i : Item) (wide narrow : Track → Option ℤ) (before mine behind : List Track) → IsSame i wide narrow → IsAround i before mine behind → map wide (before ++ (mine ++ behind)) ≡ map wide before ++ (map narrow mine ++ map wide behind)
wide_rooms i wide narrow before mine behind h a =
    map_parts wide before (mine ++ behind)
    ∙ ap (λ (rs : List (Option ℤ)). map wide before ++ rs) (map_parts wide mine behind ∙ ap (λ (rs : List (Option ℤ)). rs ++ map wide behind) (same_rooms i wide narrow mine h a.its))

-- ---- turns

pub no_share : (t : Track) → incur t (pos 0) ≡ t
no_share t = ap (λ (z : ℤ). record t { incurred = z }) (let e : t.incurred +ℤ pos 0 ≡ t.incurred = omega (arith, ints) in e)

zipped_before : (before rest : List Track) (rooms : List (Option ℤ)) (ss : List ℤ) → length rooms ≡ length before → zipped incur (before ++ rest) (nothings rooms ++ ss) ≡ before ++ zipped incur rest ss
zipped_before [] rest [] ss e = refl
zipped_before [] rest (r ∷ rs) ss e = absurd (omega arith)
zipped_before (t ∷ ts) rest [] ss e = absurd (omega arith)
zipped_before (t ∷ ts) rest (r ∷ rs) ss e = ap (λ (x : Track). x ∷ zipped incur (ts ++ rest) (nothings rs ++ ss)) (no_share t) ∙ ap (λ (xs : List Track). t ∷ xs) (zipped_before ts rest rs ss (omega arith))

pub zipped_none : (ts : List Track) (rooms : List (Option ℤ)) → length rooms ≡ length ts → zipped incur ts (nothings rooms) ≡ ts
zipped_none [] rooms e = refl
zipped_none (t ∷ ts) [] e = absurd (omega arith)
zipped_none (t ∷ ts) (r ∷ rs) e = ap (λ (x : Track). x ∷ zipped incur ts (nothings rs)) (no_share t) ∙ ap (λ (xs : List Track). t ∷ xs) (zipped_none ts rs (omega arith))

zipped_behind : (mine behind : List Track) (ss : List ℤ) (rooms : List (Option ℤ)) → length ss ≡ length mine → length rooms ≡ length behind → zipped incur (mine ++ behind) (ss ++ nothings rooms) ≡ zipped incur mine ss ++ behind
zipped_behind [] behind [] rooms e d = zipped_none behind rooms d
zipped_behind [] behind (s ∷ ss) rooms e d = absurd (omega arith)
zipped_behind (t ∷ ts) behind [] rooms e d = absurd (omega arith)
zipped_behind (t ∷ ts) behind (s ∷ ss) rooms e d = ap (λ (xs : List Track). incur t s ∷ xs) (zipped_behind ts behind ss rooms (omega arith) d)

pub map_length : {B : Type 0} (f : Track → B) (xs : List Track) → length (map f xs) ≡ length xs
map_length f [] = refl
map_length f (x ∷ xs) = omega (arith, map_length f xs)

turn_local : (i : Item) (wide narrow : Track → Option ℤ) (space : ℤ) (before mine behind : List Track) → IsSame i wide narrow → IsAround i before mine behind
    → zipped incur (before ++ (mine ++ behind)) (shares space (map wide (before ++ (mine ++ behind)))) ≡ before ++ (zipped incur mine (shares space (map narrow mine)) ++ behind)
turn_local i wide narrow space before mine behind h a =
    ap (λ (rs : List (Option ℤ)). zipped incur (before ++ (mine ++ behind)) (shares space rs)) (wide_rooms i wide narrow before mine behind h a)
    ∙ ap (zipped incur (before ++ (mine ++ behind))) (shares_beside space (map wide before) (map narrow mine) (map wide behind) (closed_rooms i wide narrow before h a.before_it) (closed_rooms i wide narrow behind h a.behind_it))
    ∙ zipped_before before (mine ++ behind) (map wide before) (shares space (map narrow mine) ++ nothings (map wide behind)) (map_length wide before)
    ∙ ap (λ (xs : List Track). before ++ xs) (zipped_behind mine behind (shares space (map narrow mine)) (map wide behind) (shares_length space (map narrow mine) ∙ map_length narrow mine) (map_length wide behind))

left_local : (i : Item) (wide narrow : Track → Option ℤ) (space : ℤ) (before mine behind : List Track) → IsSame i wide narrow → IsAround i before mine behind → unshared space (map wide (before ++ (mine ++ behind))) ≡ unshared space (map narrow mine)
left_local i wide narrow space before mine behind h a =
    ap (unshared space) (wide_rooms i wide narrow before mine behind h a)
    ∙ unshared_beside space (map wide before) (map narrow mine) (map wide behind) (closed_rooms i wide narrow before h a.before_it) (closed_rooms i wide narrow behind h a.behind_it)

spanned_zipped : (i : Item) (ts : List Track) (ss : List ℤ) → AllSpanned i ts → AllSpanned i (zipped incur ts ss)
spanned_zipped i [] ss h = tt
spanned_zipped i (t ∷ ts) [] h = tt
spanned_zipped i (t ∷ ts) (s ∷ ss) h = (h.0, spanned_zipped i ts ss h.1)

abbrev AreSame : Item → List (Track → Option ℤ) → List (Track → Option ℤ) → Type 0
AreSame i [] [] = Unit {0}
AreSame i [] (n ∷ ns) = ⊥
AreSame i (w ∷ ws) [] = ⊥
AreSame i (w ∷ ws) (n ∷ ns) = IsSame i w n × AreSame i ws ns

turns_local : (i : Item) (wides narrows : List (Track → Option ℤ)) (space : ℤ) (before mine behind : List Track) → AreSame i wides narrows → IsAround i before mine behind
    → in_turns wides space (before ++ (mine ++ behind)) ≡ before ++ (in_turns narrows space mine ++ behind)
turns_local i [] [] space before mine behind h a = refl
turns_local i [] (n ∷ ns) space before mine behind h a = absurd h
turns_local i (w ∷ ws) [] space before mine behind h a = absurd h
turns_local i (w ∷ ws) (n ∷ ns) space before mine behind h a =
    ap (λ (z : ℤ). in_turns ws z (zipped incur (before ++ (mine ++ behind)) (shares space (map w (before ++ (mine ++ behind)))))) (left_local i w n space before mine behind h.0 a)
    ∙ ap (in_turns ws (unshared space (map n mine))) (turn_local i w n space before mine behind h.0 a)
    ∙ turns_local i ws ns (unshared space (map n mine)) before (zipped incur mine (shares space (map n mine))) behind h.1 (record { before_it = a.before_it; its = spanned_zipped i mine (shares space (map n mine)) a.its; behind_it = a.behind_it })

-- ---- factors

no_weight : (i : Item) (a : Track → Bool) (t : Track) → spans i t ≡ false → crossing_weight a i t ≡ 0
no_weight i a t e = ap (λ (b : Bool). if b then unwrap_or (factor_of t.rule.most) 0 else 0) ((affected_test i a).none t e)

own_weight : (i : Item) (a : Affected) (t : Track) → spans i t ≡ true → crossing_weight (affected_of a) i t ≡ weight_of a t
own_weight i a t e = ap (λ (b : Bool). if b then unwrap_or (factor_of t.rule.most) 0 else 0) ((affected_test i (affected_of a)).some t e)

abbrev weights : (Track → Bool) → Item → List Track → List ℕ
weights a i ts = map (crossing_weight a i) ts

total_none : (i : Item) (a : Track → Bool) (ts others : List Track) → NoneSpanned i ts → total_of (weights a i (ts ++ others)) ≡ total_of (weights a i others)
total_none i a [] others n = refl
total_none i a (t ∷ ts) others n = omega (arith, no_weight i a t n.0, total_none i a ts others n.1)

total_in : (i : Item) (a : Affected) (ts others : List Track) → AllSpanned i ts → NoneSpanned i others → total_of (weights (affected_of a) i (ts ++ others)) ≡ total_of (map (weight_of a) ts)
total_in i a [] [] n m = refl
total_in i a [] (t ∷ others) n m = omega (arith, no_weight i (affected_of a) t m.0, total_in i a [] others n m.1)
total_in i a (t ∷ ts) others n m = omega (arith, own_weight i a t n.0, total_in i a ts others n.1 m)

no_part : (space : ℤ) (whole before w : ℕ) (t : Track) → w ≡ 0 → incur t (part space whole (before + w) -ℤ part space whole before) ≡ t
no_part space whole before w t e = ap (incur t) (let z : part space whole (before + w) -ℤ part space whole before ≡ pos 0 = omega (arith, ints, ap (part space whole) (let n : before + w ≡ before = omega arith in n)) in z) ∙ no_share t

parts_none : (i : Item) (a : Track → Bool) (space : ℤ) (whole before : ℕ) (ts others : List Track) → NoneSpanned i ts →
    zipped incur (ts ++ others) (apportioned_after before space whole (weights a i (ts ++ others))) ≡ ts ++ zipped incur others (apportioned_after before space whole (weights a i others))
parts_none i a space whole before [] others n = refl
parts_none i a space whole before (t ∷ ts) others n =
    ap (λ (x : Track). x ∷ zipped incur (ts ++ others) (apportioned_after (before + crossing_weight a i t) space whole (weights a i (ts ++ others)))) (no_part space whole before (crossing_weight a i t) t (no_weight i a t n.0))
    ∙ ap (λ (k : ℕ). t ∷ zipped incur (ts ++ others) (apportioned_after k space whole (weights a i (ts ++ others)))) (let e : before + crossing_weight a i t ≡ before = omega (arith, no_weight i a t n.0) in e)
    ∙ ap (λ (xs : List Track). t ∷ xs) (parts_none i a space whole before ts others n.1)

append_none : (ts : List Track) → ts ++ [] ≡ ts
append_none [] = refl
append_none (t ∷ ts) = ap (λ (xs : List Track). t ∷ xs) (append_none ts)

parts_behind : (i : Item) (a : Track → Bool) (space : ℤ) (whole before : ℕ) (ts : List Track) → NoneSpanned i ts → zipped incur ts (apportioned_after before space whole (weights a i ts)) ≡ ts
parts_behind i a space whole before ts n = ap (λ (xs : List Track). zipped incur xs (apportioned_after before space whole (weights a i xs))) (sym (append_none ts)) ∙ parts_none i a space whole before ts [] n ∙ append_none ts

parts_in : (i : Item) (a : Affected) (space : ℤ) (whole before : ℕ) (ts others : List Track) → AllSpanned i ts → NoneSpanned i others
    → zipped incur (ts ++ others) (apportioned_after before space whole (weights (affected_of a) i (ts ++ others))) ≡ zipped incur ts (apportioned_after before space whole (map (weight_of a) ts)) ++ others
parts_in i a space whole before [] others n m = parts_behind i (affected_of a) space whole before others m
parts_in i a space whole before (t ∷ ts) others n m =
    ap (λ (k : ℕ). incur t (part space whole (before + k) -ℤ part space whole before) ∷ zipped incur (ts ++ others) (apportioned_after (before + k) space whole (weights (affected_of a) i (ts ++ others)))) (own_weight i a t n.0)
    ∙ ap (λ (xs : List Track). incur t (part space whole (before + weight_of a t) -ℤ part space whole before) ∷ xs) (parts_in i a space whole (before + weight_of a t) ts others n.1 m)

abbrev chosen : Bool → List Track → List Track → List Track
chosen b xs ys = if b then xs else ys

chosen_local : (b c : Bool) (before behind xs ys xs' ys' : List Track) → b ≡ c → xs' ≡ before ++ (xs ++ behind) → ys' ≡ before ++ (ys ++ behind) → chosen b xs' ys' ≡ before ++ (chosen c xs ys ++ behind)
chosen_local b true before behind xs ys xs' ys' e p q = ap (λ (d : Bool). chosen d xs' ys') e ∙ p
chosen_local b false before behind xs ys xs' ys' e p q = ap (λ (d : Bool). chosen d xs' ys') e ∙ q

factors_local : (i : Item) (a : Affected) (space : ℤ) (before mine behind : List Track) → IsAround i before mine behind → by_factors (affected_of a) i space (before ++ (mine ++ behind)) ≡ before ++ (by_factors_of a space mine ++ behind)
factors_local i a space before mine behind h =
    let wide : ℕ = total_of (weights (affected_of a) i (before ++ (mine ++ behind))) in
    let narrow : ℕ = total_of (map (weight_of a) mine) in
    let same : wide ≡ narrow = total_none i (affected_of a) before (mine ++ behind) h.before_it ∙ total_in i a mine behind h.its h.behind_it in
    chosen_local (wide == 0) (narrow == 0) before behind
    (in_turns (room_of (rooms.All a) ∷ []) space mine)
    (zipped incur mine (apportioned_whole space (map (weight_of a) mine)))
    (in_turns (only (affected_by (affected_of a) i) without_end ∷ []) space (before ++ (mine ++ behind)))
    (zipped incur (before ++ (mine ++ behind)) (apportioned_whole space (weights (affected_of a) i (before ++ (mine ++ behind)))))
    (ap (λ (n : ℕ). n == 0) same)
    (turns_local i (only (affected_by (affected_of a) i) without_end ∷ []) (room_of (rooms.All a) ∷ []) space before mine behind (only_same i (affected_by (affected_of a) i) (affected_of a) without_end (affected_test i (affected_of a)), tt) h)
    (ap (λ (n : ℕ). zipped incur (before ++ (mine ++ behind)) (apportioned_after 0 space n (weights (affected_of a) i (before ++ (mine ++ behind))))) same
    ∙ parts_none i (affected_of a) space narrow 0 before (mine ++ behind) h.before_it
    ∙ ap (λ (xs : List Track). before ++ xs) (parts_in i a space narrow 0 mine behind h.its h.behind_it))

-- ---- one item

plan_ready : (t : Track) → IsReady t → plan t ≡ t
plan_ready t h =
    ap (λ (z : ℤ). record t { planned = z; incurred = pos 0 }) (let e : int_max t.planned t.incurred ≡ t.planned = omega (arith, ints, clamps, h.0, h.1) in e)
    ∙ ap (λ (z : ℤ). record t { incurred = z }) (sym h.0)

plan_before : (before rest : List Track) → AreReady before → map plan (before ++ rest) ≡ before ++ map plan rest
plan_before [] rest h = refl
plan_before (t ∷ ts) rest h = ap (λ (x : Track). x ∷ map plan (ts ++ rest)) (plan_ready t h.0) ∙ ap (λ (xs : List Track). t ∷ xs) (plan_before ts rest h.1)

plan_mine : (mine behind : List Track) → AreReady behind → map plan (mine ++ behind) ≡ map plan mine ++ behind
plan_mine [] behind h = ap (map plan) (sym (append_none behind)) ∙ plan_before behind [] h ∙ append_none behind
plan_mine (t ∷ ts) behind h = ap (λ (xs : List Track). plan t ∷ xs) (plan_mine ts behind h)

planned_local : (b c : Bool) (before mine behind given wide : List Track) → b ≡ c → AreReady before → AreReady behind → wide ≡ before ++ (given ++ behind) → chosen b (map plan wide) (before ++ (mine ++ behind)) ≡ before ++ (chosen c (map plan given) mine ++ behind)
planned_local b c before mine behind given wide e r s d =
    chosen_local b c before behind (map plan given) mine (map plan wide) (before ++ (mine ++ behind)) e
    (ap (map plan) d ∙ plan_before before (given ++ behind) r ∙ ap (λ (xs : List Track). before ++ xs) (plan_mine given behind s)) refl

same_minimum : (gap : ℤ) (ts : List Track) (i : Item) (f : Floor) → minimum_by gap ts i f ≡ minimum_by_of gap (spanned i ts) i f
same_minimum gap ts i (Known x) = refl
same_minimum gap ts i (Content size margins inner) = refl

same_limited : (gap asked : ℤ) (ts : List Track) (i : Item) → int_max (minimum_by gap ts i i.floor) (at_most (capped_of (spanned i ts)) asked) ≡ limited_of gap asked (spanned i ts) i
same_limited gap asked ts i = ap (λ (z : ℤ). int_max z (at_most (capped_of (spanned i ts)) asked)) (same_minimum gap ts i i.floor)

pub same_asks : (definite : Bool) (gap : ℤ) (k : Asks) (ts : List Track) (i : Item) → asks_in definite gap k ts i ≡ asked_of definite gap k (spanned i ts) i
same_asks true gap asks.Minimum ts i = same_minimum gap ts i i.floor
same_asks false gap asks.Minimum ts i = same_limited gap i.low ts i
same_asks definite gap asks.Low ts i = refl
same_asks definite gap asks.LimitedHigh ts i = same_limited gap i.high ts i
same_asks definite gap asks.High ts i = refl

last_one : (i : Item) (a : Affected) (receives : Kind) (c : Bool) →
    IsSame i (only (if c then (λ t. (affected_by (affected_of a) i t && kind_of receives t) && is_none (fit_argument t.rule.most)) else affected_by (affected_of a) i) without_end) (room_of (if c then rooms.Open a receives else rooms.All a))
last_one i a receives true = only_same i (λ t. (affected_by (affected_of a) i t && kind_of receives t) && is_none (fit_argument t.rule.most)) (open_of a receives) without_end (open_test i a receives)
last_one i a receives false = only_same i (affected_by (affected_of a) i) (affected_of a) without_end (affected_test i (affected_of a))

last_same : (i : Item) (a : Affected) (receives : Kind) (b c : Bool) → b ≡ c →
    IsSame i (only (if b then (λ t. (affected_by (affected_of a) i t && kind_of receives t) && is_none (fit_argument t.rule.most)) else affected_by (affected_of a) i) without_end) (room_of (if c then rooms.Open a receives else rooms.All a))
last_same i a receives b c e =
    subst (λ (d : Bool). IsSame i (only (if d then (λ t. (affected_by (affected_of a) i t && kind_of receives t) && is_none (fit_argument t.rule.most)) else affected_by (affected_of a) i) without_end) (room_of (if c then rooms.Open a receives else rooms.All a))) (sym e)
    (last_one i a receives c)

base_same : (i : Item) (a : Affected) (receives : Kind) (definite : Bool) (gap : ℤ) (k : Asks) (before mine behind : List Track) → IsAround i before mine behind
    → AreSame i (base_rooms (base_step_of a receives definite gap k) i (before ++ (mine ++ behind))) (base_rooms_of a receives mine)
base_same i a receives definite gap k before mine behind h = (
  only_same i (affected_by (affected_of a) i) (affected_of a) base_to_limit (affected_test i (affected_of a)),
  (
    only_same i (λ t. spans i t && not (affected_of a t)) (λ t. not (affected_of a t)) other_to_limit (others_test i (affected_of a)),
    (
      only_same i (λ t. affected_by (affected_of a) i t && kind_of receives t) (λ t. affected_of a t && kind_of receives t) base_to_argument (and_test i (affected_by (affected_of a) i) (affected_of a) (kind_of receives) (affected_test i (affected_of a))),
      (
        last_same i a receives (list_any (λ t. (affected_by (affected_of a) i t && kind_of receives t) && is_none (fit_argument t.rule.most)) (before ++ (mine ++ behind))) (list_any (open_of a receives) mine)
            (any_mine i (λ t. (affected_by (affected_of a) i t && kind_of receives t) && is_none (fit_argument t.rule.most)) (open_of a receives) before mine behind (open_test i a receives) h),
        tt,
      ),
    ),
  ),
)

-- A step on base sizes gives an item's tracks what it would give them alone.
pub base_local : (i : Item) (a : Affected) (receives : Kind) (definite : Bool) (gap : ℤ) (k : Asks) (before mine behind : List Track) → IsAround i before mine behind → AreReady before → AreReady behind
    → base_planned_by (base_step_of a receives definite gap k) gap (before ++ (mine ++ behind)) i ≡ before ++ (base_planned_of a receives definite gap k i mine ++ behind)
base_local i a receives definite gap k before mine behind h r s =
    let ts : List Track = before ++ (mine ++ behind) in
    let step : BaseStep = base_step_of a receives definite gap k in
    let space : ℤ = needed_of base_of gap (asked_of definite gap k mine i) mine i in
    let same : needed base_of gap (asks_in definite gap k ts i) ts i ≡ space = ap (λ (z : ℤ). needed base_of gap z ts i) (same_asks definite gap k ts i) ∙ ap (λ (xs : List Track). needed_of base_of gap (asked_of definite gap k xs i) xs i) (spanned_mine i before mine behind h) in
    planned_local (list_any (affected_by (affected_of a) i) ts) (list_any (affected_of a) mine) before mine behind (base_given_of a receives space mine) (base_incurred_by step i (needed base_of gap (asks_in definite gap k ts i) ts i) ts)
    (any_mine i (affected_by (affected_of a) i) (affected_of a) before mine behind (affected_test i (affected_of a)) h) r s
    (ap (λ (z : ℤ). base_incurred_by step i z ts) same
    ∙ chosen_local a.crossing a.crossing before behind (by_factors_of a space mine) (in_turns (base_rooms_of a receives mine) space mine) (by_factors (affected_of a) i space ts) (in_turns (base_rooms step i ts) space ts) refl
    (factors_local i a space before mine behind h)
    (turns_local i (base_rooms step i ts) (base_rooms_of a receives mine) space before mine behind (base_same i a receives definite gap k before mine behind h) h))

limit_same : (i : Item) (a : Affected) (second : Bool) → AreSame i (limit_rooms (limit_step_in a second) i) (limit_rooms_of a second)
limit_same i a second = (
  only_same i (affected_by (affected_of a) i) (affected_of a) (limit_to_limit (limit_step_in a second)) (affected_test i (affected_of a)),
  (only_same i (affected_by (affected_of a) i) (affected_of a) (limit_room (limit_step_in a second)) (affected_test i (affected_of a)), tt),
)

-- A step on growth limits gives an item's tracks what it would give them alone.
pub limit_local : (i : Item) (a : Affected) (second : Bool) (gap : ℤ) (before mine behind : List Track) → IsAround i before mine behind → AreReady before → AreReady behind
    → limit_planned_by (limit_step_in a second) gap (before ++ (mine ++ behind)) i ≡ before ++ (limit_planned_of a second gap i mine ++ behind)
limit_local i a second gap before mine behind h r s =
    let ts : List Track = before ++ (mine ++ behind) in
    let step : LimitStep = limit_step_in a second in
    let asked : ℤ = if second then i.high else i.low in
    let space : ℤ = needed_of limit_of gap asked mine i in
    let same : needed limit_of gap asked ts i ≡ space = ap (λ (xs : List Track). needed_of limit_of gap asked xs i) (spanned_mine i before mine behind h) in
    planned_local (list_any (affected_by (affected_of a) i) ts) (list_any (affected_of a) mine) before mine behind (limit_given_of a second space mine) (limit_incurred_by step i (needed limit_of gap asked ts i) ts)
    (any_mine i (affected_by (affected_of a) i) (affected_of a) before mine behind (affected_test i (affected_of a)) h) r s
    (ap (λ (z : ℤ). limit_incurred_by step i z ts) same
    ∙ chosen_local a.crossing a.crossing before behind (by_factors_of a space mine) (in_turns (limit_rooms_of a second) space mine) (by_factors (affected_of a) i space ts) (in_turns (limit_rooms step i) space ts) refl
    (factors_local i a space before mine behind h)
    (turns_local i (limit_rooms step i) (limit_rooms_of a second) space before mine behind (limit_same i a second) h))

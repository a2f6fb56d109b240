-- Where no space is given and where no track is affected, tracks stay as they are.
use Rattle.std.proofs.Common.{arith, ap, ◌≡◌, ◌∙◌, sym, refl, ℕ, ◌+◌, ◌==◌, ℤ, pos, ◌-ℤ◌, ◌*ℤ◌, Bool, true, false, not, ◌&&◌, ◌||◌, List, [], ◌∷◌, map, cond, Option, if◌then◌else◌}
use Rattle.std.specs.Int.{int_max}
use Rattle.std.specs.List.{list_any}
use Rattle.std.proofs.lemmas.Int.{ints, clamps}
use Rattle.lunit.specs.Units.{floor_div}
use Rattle.lunit.specs.declared.item.Item.{Item}
use Rattle.part_rules.specs.Lists.{total_of, zipped}
use Rattle.part_rules.specs.Sharing.{apportioned_after, apportioned_whole, part, rounds, roomy, shares, unshared, with_nothing}
use Rattle.part_rules.proofs.Sharing.{shares_are, unshared_is}
use Rattle.part_rules.specs.Tracks.{Track, BaseStep, LimitStep, affected_by, base_incurred_by, base_of, base_planned_by, base_planned_by_all, crosses_flexible, flexible, incur, in_turns, limit_incurred_by, limit_of, limit_planned_by, limit_planned_by_all, needed, of_span, plan, span_length, spans, spanned}
use Rattle.track_sizing.specs.declared.kinds.Affected.{Affected}
use Rattle.track_sizing.specs.declared.kinds.Kind.{Kind}
use Rattle.track_sizing.specs.Kinds.{affected_of}
use Rattle.track_sizing.specs.declared.item.Asks.{Asks}
use Rattle.track_sizing.specs.declared.rooms.Rooms.TheVariants as rooms
use Rattle.track_sizing.specs.Here.{asked_of, base_given_of, base_planned_of, base_rooms_of, by_factors_of, limit_given_of, limit_planned_of, limit_rooms_of, needed_of, room_of, weight_of}
use Rattle.track_sizing.specs.Ordered.{AreOf}
use Rattle.track_sizing.specs.Placed.{AreReady}
use Rattle.track_sizing.proofs.Local.{map_length, no_share, zipped_none}
use Rattle.track_sizing.proofs.Order.{is_it}
use Rattle.track_sizing.proofs.Parted.{neither}
use Rattle.track_sizing.proofs.Shares.{gots, nothings}

-- ---- a space of 0

pub none_got : (rooms : List (Option ℤ)) → gots (map with_nothing (map roomy rooms)) ≡ nothings rooms
none_got [] = refl
none_got (room ∷ rest) = ap (λ (zs : List ℤ). pos 0 ∷ zs) (none_got rest)

pub none_shared : (rooms : List (Option ℤ)) → shares (pos 0) rooms ≡ nothings rooms
unfolding rounds
none_shared rooms = shares_are (pos 0) rooms ∙ none_got rooms

none_left : (rooms : List (Option ℤ)) → unshared (pos 0) rooms ≡ pos 0
unfolding rounds
none_left rooms = unshared_is (pos 0) rooms

pub turn_none : (room : Track → Option ℤ) (space : ℤ) (ts : List Track) → space ≡ pos 0 → ts ≡ zipped incur ts (shares space (map room ts))
turn_none room space ts e =
    let each : List (Option ℤ) = map room ts in
    sym (ap (λ (z : ℤ). zipped incur ts (shares z each)) e ∙ ap (zipped incur ts) (none_shared each) ∙ zipped_none ts each (map_length room ts))

pub turn_none_left : (room : Track → Option ℤ) (space : ℤ) (ts : List Track) → space ≡ pos 0 → space ≡ unshared space (map room ts)
turn_none_left room space ts e =
    let each : List (Option ℤ) = map room ts in
    e ∙ sym (ap (λ (z : ℤ). unshared z each) e ∙ none_left each)

pub ruleset turn_idle = (turn_none, turn_none_left)

pub idle_turns : (rooms : List (Track → Option ℤ)) (ts : List Track) → in_turns rooms (pos 0) ts ≡ ts
idle_turns [] ts = refl
idle_turns (room ∷ rooms) ts =
    let each : List (Option ℤ) = map room ts in
    ap (λ (z : ℤ). in_turns rooms z (zipped incur ts (shares (pos 0) each))) (none_left each)
    ∙ ap (λ (zs : List ℤ). in_turns rooms (pos 0) (zipped incur ts zs)) (none_shared each)
    ∙ ap (in_turns rooms (pos 0)) (zipped_none ts each (map_length room ts))
    ∙ idle_turns rooms ts

idle_part : (whole before weight : ℕ) → part (pos 0) whole (before + weight) -ℤ part (pos 0) whole before ≡ pos 0
idle_part whole before weight =
    let product : pos 0 *ℤ pos (before + weight) ≡ pos 0 *ℤ pos before = omega (arith, ints) in
    omega (arith, ints, ap (λ (z : ℤ). floor_div z whole) product)

pub idle_parts : (w : Track → ℕ) (whole before : ℕ) (ts : List Track) → zipped incur ts (apportioned_after before (pos 0) whole (map w ts)) ≡ ts
idle_parts w whole before [] = refl
idle_parts w whole before (t ∷ ts) =
    ap (λ (z : ℤ). incur t z ∷ zipped incur ts (apportioned_after (before + w t) (pos 0) whole (map w ts))) (idle_part whole before (w t))
    ∙ ap (λ (x : Track). x ∷ zipped incur ts (apportioned_after (before + w t) (pos 0) whole (map w ts))) (no_share t)
    ∙ ap (λ (xs : List Track). t ∷ xs) (idle_parts w whole (before + w t) ts)

pub either : (b : Bool) (xs ys ts : List Track) → xs ≡ ts → ys ≡ ts → (if b then xs else ys) ≡ ts
either true xs ys ts e d = e
either false xs ys ts e d = d

idle_factors : (a : Affected) (ts : List Track) → by_factors_of a (pos 0) ts ≡ ts
idle_factors a ts =
    let weights : List ℕ = map (weight_of a) ts in
    either (total_of weights == 0) (in_turns (room_of (rooms.All a) ∷ []) (pos 0) ts) (zipped incur ts (apportioned_whole (pos 0) weights)) ts (idle_turns (room_of (rooms.All a) ∷ []) ts) (idle_parts (weight_of a) (total_of weights) 0 ts)

idle_base : (a : Affected) (receives : Kind) (ts : List Track) → base_given_of a receives (pos 0) ts ≡ ts
idle_base a receives ts = either a.crossing (by_factors_of a (pos 0) ts) (in_turns (base_rooms_of a receives ts) (pos 0) ts) ts (idle_factors a ts) (idle_turns (base_rooms_of a receives ts) ts)

idle_limit : (a : Affected) (second : Bool) (ts : List Track) → limit_given_of a second (pos 0) ts ≡ ts
idle_limit a second ts = either a.crossing (by_factors_of a (pos 0) ts) (in_turns (limit_rooms_of a second) (pos 0) ts) ts (idle_factors a ts) (idle_turns (limit_rooms_of a second) ts)

idle_plan : (ts : List Track) → AreReady ts → map plan ts ≡ ts
idle_plan [] h = refl
idle_plan (t ∷ ts) h =
    let planned : int_max t.planned t.incurred ≡ t.planned = omega (arith, ints, clamps, h.0.0, h.0.1) in
    ap (λ (z : ℤ). record t { planned = z; incurred = pos 0 } ∷ map plan ts) planned
    ∙ ap (λ (z : ℤ). record t { incurred = z } ∷ map plan ts) (sym h.0.0)
    ∙ ap (λ (xs : List Track). t ∷ xs) (idle_plan ts h.1)

pub planned_idle : (b : Bool) (given ts : List Track) → given ≡ ts → AreReady ts → ts ≡ (if b then map plan given else ts)
planned_idle true given ts e h = sym (ap (map plan) e ∙ idle_plan ts h)
planned_idle false given ts e h = refl

pub base_idle : (a : Affected) (receives : Kind) (definite : Bool) (gap : ℤ) (k : Asks) (i : Item) (ts : List Track) (space : ℤ) → AreReady ts → space ≡ needed_of base_of gap (asked_of definite gap k ts i) ts i → space ≡ pos 0
    → ts ≡ base_planned_of a receives definite gap k i ts
base_idle a receives definite gap k i ts space h e z = planned_idle (list_any (affected_of a) ts) (base_given_of a receives (needed_of base_of gap (asked_of definite gap k ts i) ts i) ts) ts (ap (λ (y : ℤ). base_given_of a receives y ts) (sym e ∙ z) ∙ idle_base a receives ts) h

pub limit_idle : (a : Affected) (second : Bool) (gap : ℤ) (i : Item) (ts : List Track) (space : ℤ) → AreReady ts → space ≡ needed_of limit_of gap (if second then i.high else i.low) ts i → space ≡ pos 0
    → ts ≡ limit_planned_of a second gap i ts
limit_idle a second gap i ts space h e z = planned_idle (list_any (affected_of a) ts) (limit_given_of a second (needed_of limit_of gap (if second then i.high else i.low) ts i) ts) ts (ap (λ (y : ℤ). limit_given_of a second y ts) (sym e ∙ z) ∙ idle_limit a second ts) h

pub ruleset idle = (base_idle, limit_idle)

-- ---- no track that is affected

none_by : (p : Track → Bool) (i : Item) (ts : List Track) → list_any p ts ≡ false → list_any (affected_by p i) ts ≡ false
none_by p i [] e = refl
none_by p i (t ∷ ts) e =
    let one = neither (p t) (list_any p ts) e in
    ap (λ (b : Bool). (b && spans i t) || list_any (affected_by p i) ts) one.0 ∙ none_by p i ts one.1

pub bases_unplanned : (s : BaseStep) (gap : ℤ) (items : List Item) (ts : List Track) → list_any s.affected ts ≡ false → ts ≡ base_planned_by_all s gap items ts
bases_unplanned s gap [] ts e = refl
bases_unplanned s gap (i ∷ rest) ts e =
    let none : base_planned_by s gap ts i ≡ ts = ap (λ (b : Bool). if b then map plan (base_incurred_by s i (needed base_of gap (s.asks ts i) ts i) ts) else ts) (none_by s.affected i ts e) in
    bases_unplanned s gap rest ts e ∙ sym (ap (base_planned_by_all s gap rest) none)

pub limits_unplanned : (s : LimitStep) (gap : ℤ) (items : List Item) (ts : List Track) → list_any s.affected ts ≡ false → ts ≡ limit_planned_by_all s gap items ts
limits_unplanned s gap [] ts e = refl
limits_unplanned s gap (i ∷ rest) ts e =
    let none : limit_planned_by s gap ts i ≡ ts = ap (λ (b : Bool). if b then map plan (limit_incurred_by s i (needed limit_of gap (s.asks i) ts i) ts) else ts) (none_by s.affected i ts e) in
    limits_unplanned s gap rest ts e ∙ sym (ap (limit_planned_by_all s gap rest) none)

pub ruleset unplanned = (bases_unplanned, limits_unplanned)

-- ---- no flexible track

none_of : (p : Track → Bool) (i : Item) (ts : List Track) → list_any p ts ≡ false → list_any p (spanned i ts) ≡ false
none_of p i [] e = refl
none_of p i (t ∷ ts) e =
    let one = neither (p t) (list_any p ts) e in
    go (spans i t) one.0 (none_of p i ts one.1)
  where
    go : (b : Bool) → p t ≡ false → list_any p (spanned i ts) ≡ false → list_any p (cond b (t ∷ spanned i ts) (spanned i ts)) ≡ false
    go true d f = ap (λ (c : Bool). c || list_any p (spanned i ts)) d ∙ f
    go false d f = f

pub whole_run : (ts : List Track) (n : ℕ) (items : List Item) → list_any flexible ts ≡ false → AreOf (pos n) items → of_span ts items n ≡ items
whole_run ts n [] e h = refl
whole_run ts n (i ∷ rest) e h =
    ap (λ (b : Bool). cond (b && not (crosses_flexible ts i)) (i ∷ of_span ts rest n) (of_span ts rest n)) (is_it (span_length i) (pos n) h.0)
    ∙ ap (λ (b : Bool). cond (not b) (i ∷ of_span ts rest n) (of_span ts rest n)) (none_of flexible i ts e)
    ∙ ap (λ (xs : List Item). i ∷ xs) (whole_run ts n rest e h.1)

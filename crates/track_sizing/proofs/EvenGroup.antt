-- A group whose items span all tracks, of which none has another function than `auto` or a growth limit, as a whole.
use Rattle.std.proofs.Common.{arith, ap, subst, ◌≡◌, ◌∙◌, sym, refl, ℕ, zero, suc, ◌+◌, ◌-◌, ◌<◌, ◌≤◌, ℤ, pos, ◌+ℤ◌, ◌-ℤ◌, ◌*ℤ◌, ◌≤ℤ◌, Bool, true, false, not, ◌&&◌, ◌||◌, List, [], ◌∷◌, map, take, length, cond, nat_lt, Option, Some, None, if◌then◌else◌, true≢false}
use Rattle.std.specs.Prelude.{is_none, option_map}
use Rattle.std.specs.Int.{int_max}
use Rattle.std.specs.List.{list_any}
use Rattle.std.proofs.lemmas.Bool.{ltb-true, ltb-false}
use Rattle.std.proofs.lemmas.Int.{ints, clamps}
use Rattle.std.proofs.lemmas.List.{take_all}
use Rattle.lunit.specs.Units.{clamp}
use Rattle.lunit.specs.declared.item.Item.{Item}
use Rattle.part_rules.specs.declared.track.Least.TheVariants as least
use Rattle.part_rules.specs.declared.track.Most.TheVariants as most
use Rattle.part_rules.specs.declared.track.Space.{Space}
use Rattle.part_rules.specs.Lists.{sum_of, zipped}
use Rattle.part_rules.specs.Sharing.{shares}
use Rattle.part_rules.specs.Tracks.{Track, affected_by, base_distributed, base_of, close_limit, crosses_flexible, each_distributed, flexible, group_fitted, grow_base, has_intrinsic_least, high_limits, is_definite, is_max_content, limit_of, low_limits, mark_endless, of_span, raise_limit, raised_base, raised_limit, raised_limit_by, some_fitted, span_length, spans, spans_fitted, without_end}
use Rattle.track_sizing.specs.declared.kinds.Kind.{Kind}
use Rattle.track_sizing.specs.declared.kinds.Kind.TheVariants as kind
use Rattle.track_sizing.specs.declared.item.Asks.{Asks}
use Rattle.track_sizing.specs.declared.item.Asks.TheVariants as asks
use Rattle.track_sizing.specs.Even.{AreOpen, IsOpen, all_bases, ended, even_asks, even_shares, greatest_of, greatest_space, gutters_in, lifted, space_for, with_bases, with_ends, with_limits, with_lows}
use Rattle.track_sizing.specs.Groups.{affecting, base_steps_of, last_steps_of, passed, passed_closed}
use Rattle.track_sizing.specs.Kinds.{affected_of}
use Rattle.track_sizing.specs.Ordered.{AreOf}
use Rattle.track_sizing.specs.Placed.{AreIn, AreSet, IsIn, base_step_of, limit_step_in}
use Rattle.track_sizing.proofs.Around.{AllSpanned, around}
use Rattle.track_sizing.proofs.Evenly.{open_grown, open_limit}
use Rattle.track_sizing.proofs.EvenShares.{AllSome, even_length, even_some, plan_share}
use Rattle.track_sizing.proofs.EvenSteps.{Affects, AreEndless, ArePlain, HaveNoLimits, IsLike, affected_plain, auto_least, bases_planned, content_least, highs_planned, intrinsic_least, intrinsic_most, length_like, lows_planned, max_content_least, max_content_most, none_flexible, none_plain, plain_like, space_some}
use Rattle.track_sizing.proofs.Groups.{placed_of}
use Rattle.track_sizing.proofs.Idle.{bases_unplanned, whole_run}
use Rattle.track_sizing.proofs.Limits.{marked_all}
use Rattle.track_sizing.proofs.Order.{is_not}
use Rattle.track_sizing.proofs.Passed.{group_passed}

-- ---- what is fresh

open_plain : (ts : List Track) → AreOpen ts → ArePlain ts
open_plain [] h = tt
open_plain (t ∷ ts) h = ((h.0.plain.min, h.0.plain.max), open_plain ts h.1)

open_limits : (ts : List Track) → AreOpen ts → HaveNoLimits ts
open_limits [] h = tt
open_limits (t ∷ ts) h = (h.0.limit, open_limits ts h.1)

-- tracks of which no increase is planned
abbrev pub HaveNoPlans : List Track → Type 0
HaveNoPlans [] = Unit {0}
HaveNoPlans (t ∷ ts) = (t.planned ≡ pos 0) × HaveNoPlans ts

open_plans : (ts : List Track) → AreOpen ts → HaveNoPlans ts
open_plans [] h = tt
open_plans (t ∷ ts) h = (h.0.planned, open_plans ts h.1)

raised_open : (ts : List Track) → AreOpen ts → map raised_base ts ≡ ts
unfolding clamp
raised_open [] h = refl
raised_open (t ∷ ts) h =
    let same : clamp (t.base +ℤ t.planned) ≡ t.base = omega (arith, ints, clamps, h.0.planned, h.0.units.0, h.0.units.1) in
    ap (λ (z : ℤ). record t { base = z; planned = pos 0 } ∷ map raised_base ts) same
    ∙ ap (λ (z : ℤ). record t { planned = z } ∷ map raised_base ts) (sym h.0.planned)
    ∙ ap (λ (us : List Track). t ∷ us) (raised_open ts h.1)

raised_none : (ts : List Track) → HaveNoLimits ts → map raise_limit ts ≡ ts
raised_none [] h = refl
raised_none (t ∷ ts) h =
    ap (λ (o : Option ℤ). record t { limit = option_map (int_max t.base) o } ∷ map raise_limit ts) h.0
    ∙ ap (λ (o : Option ℤ). record t { limit = o } ∷ map raise_limit ts) (sym h.0)
    ∙ ap (λ (us : List Track). t ∷ us) (raised_none ts h.1)

raised_even : (ts : List Track) (zs : List ℤ) → HaveNoPlans ts → AllSome zs → map raised_base (zipped plan_share ts zs) ≡ zipped grow_base ts zs
raised_even [] zs h s = refl
raised_even (t ∷ ts) [] h s = refl
raised_even (t ∷ ts) (z ∷ zs) h s =
    let greatest : int_max t.planned z ≡ z = omega (arith, ints, clamps, h.0, s.0) in
    ap (λ (y : ℤ). record t { base = clamp (t.base +ℤ y); planned = pos 0 } ∷ map raised_base (zipped plan_share ts zs)) greatest
    ∙ ap (λ (y : ℤ). record t { base = clamp (t.base +ℤ z); planned = y } ∷ map raised_base (zipped plan_share ts zs)) (sym h.0)
    ∙ ap (λ (us : List Track). grow_base t z ∷ us) (raised_even ts zs h.1 s.1)

-- ---- the group

-- Items that span all of so many tracks, which stand between two steps.
pub record IsOver (first : ℤ) (n : ℕ) (items : List Item) (ts : List Track) : Type 0 where
  pub set : AreSet first ts
  pub count : n ≡ length ts
  pub some : 0 < n
  pub items_in : AreIn first n items
  pub items_of : AreOf (pos n) items

items_there : (first : ℤ) (n : ℕ) (items : List Item) (ts : List Track) → IsOver first n items ts → AreIn first (length ts) items
items_there first n items ts o = subst (λ (k : ℕ). AreIn first k items) o.count o.items_in

items_wide : (first : ℤ) (n : ℕ) (items : List Item) (ts : List Track) → IsOver first n items ts → AreOf (pos (length ts)) items
items_wide first n items ts o = subst (λ (k : ℕ). AreOf (pos k) items) o.count o.items_of

greatest_some : (f : Item → ℤ) (best : ℤ) (items : List Item) → ((i : Item) → pos 0 ≤ℤ f i) → pos 0 ≤ℤ best → pos 0 ≤ℤ greatest_of f best items
greatest_some f best [] p h = h
greatest_some f best (i ∷ rest) p h = greatest_some f (int_max (f i) best) rest p (omega (arith, ints, clamps, p i, h))

needs_some : (definite : Bool) (a : Asks) (size : Track → ℤ) (gap : ℤ) (items : List Item) (ts : List Track) → pos 0 ≤ℤ greatest_space definite a size gap items ts
needs_some definite a size gap items ts =
    greatest_some (space_for definite a (sum_of (map size ts)) (gutters_in gap ts)) (pos 0) items (λ i. space_some (even_asks definite a i -ℤ sum_of (map size ts) -ℤ gutters_in gap ts)) (omega (arith, ints))

ended_like : IsLike ended
ended_like = record { rule = λ t z. refl; at = λ t z. refl; incurred = λ t z. refl }

lifted_like : IsLike lifted
lifted_like = record { rule = λ t z. refl; at = λ t z. refl; incurred = λ t z. refl }

set_grown : (first : ℤ) (ts : List Track) (zs : List ℤ) → AreSet first ts → AreSet first (zipped grow_base ts zs)
set_grown first [] zs h = tt
set_grown first (t ∷ ts) [] h = tt
set_grown first (t ∷ ts) (z ∷ zs) h = (h.0, set_grown (first +ℤ pos 1) ts zs h.1)

set_ended : (first : ℤ) (ts : List Track) (zs : List ℤ) → AreSet first ts → AreSet first (zipped ended ts zs)
set_ended first [] zs h = tt
set_ended first (t ∷ ts) [] h = tt
set_ended first (t ∷ ts) (z ∷ zs) h = ((h.0.0, (h.0.1.0, omega (arith, ints))), set_ended (first +ℤ pos 1) ts zs h.1)

set_lifted : (first : ℤ) (ts : List Track) (zs : List ℤ) → AreSet first ts → AreSet first (zipped lifted ts zs)
set_lifted first [] zs h = tt
set_lifted first (t ∷ ts) [] h = tt
set_lifted first (t ∷ ts) (z ∷ zs) h = ((h.0.0, (h.0.1.0, omega (arith, ints))), set_lifted (first +ℤ pos 1) ts zs h.1)

over_bases : (definite : Bool) (a : Asks) (gap first : ℤ) (n : ℕ) (items : List Item) (ts : List Track) → IsOver first n items ts → IsOver first n items (with_bases definite a gap items ts)
over_bases definite a gap first n items ts o =
    let space : ℤ = greatest_space definite a base_of gap items ts in
    record {
      set = set_grown first ts (even_shares space ts) o.set;
      count = o.count ∙ sym (length_like grow_base ts (even_shares space ts) (even_length space ts));
      some = o.some;
      items_in = o.items_in;
      items_of = o.items_of;
    }

open_bases : (definite : Bool) (a : Asks) (gap : ℤ) (items : List Item) (ts : List Track) → AreOpen ts → AreOpen (with_bases definite a gap items ts)
open_bases definite a gap items ts h = open_grown ts (even_shares (greatest_space definite a base_of gap items ts) ts) h

-- a step that affects them
step_some : (k receives : Kind) (definite : Bool) (gap : ℤ) (a : Asks) (first : ℤ) (n : ℕ) (items : List Item) (ts : List Track) → Affects true k → IsOver first n items ts → AreOpen ts
    → base_distributed (base_step_of (affecting k false) receives definite gap a) gap items ts ≡ with_bases definite a gap items ts
step_some k receives definite gap a first n items ts affects o h =
    let space : ℤ = greatest_space definite a base_of gap items ts in
    let some : 0 < length ts = omega (arith, o.count, o.some) in
    ap (map raised_base) (bases_planned k receives definite gap a first ts items affects o.set (open_plain ts h) (open_limits ts h) some (items_there first n items ts o) (items_wide first n items ts o))
    ∙ raised_even ts (even_shares space ts) (open_plans ts h) (even_some space ts (needs_some definite a base_of gap items ts) some)

-- a step that does not
step_none : (k receives : Kind) (definite : Bool) (gap : ℤ) (a : Asks) (items : List Item) (ts : List Track) → Affects false k → AreOpen ts
    → base_distributed (base_step_of (affecting k false) receives definite gap a) gap items ts ≡ ts
step_none k receives definite gap a items ts affects h =
    ap (map raised_base) (sym (bases_unplanned (base_step_of (affecting k false) receives definite gap a) gap items ts (none_plain k ts affects (open_plain ts h)))) ∙ raised_open ts h

pub bases_even : (definite max : Bool) (gap first : ℤ) (n : ℕ) (items : List Item) (ts : List Track) → IsOver first n items ts → AreOpen ts → each_distributed (base_steps_of definite max gap false) gap items ts ≡ all_bases definite max gap items ts
bases_even definite max gap first n items ts o h =
    ap (each_distributed (base_step_of (affecting kind.ContentLeast false) kind.IntrinsicMost definite gap asks.Low ∷ last_steps_of definite max gap false) gap items)
    (step_some kind.IntrinsicLeast kind.IntrinsicMost definite gap asks.Minimum first n items ts intrinsic_least o h)
    ∙ ap (each_distributed (last_steps_of definite max gap false) gap items) (step_none kind.ContentLeast kind.IntrinsicMost definite gap asks.Low items bases content_least fresh)
    ∙ last max
  where
    bases : List Track
    bases = with_bases definite asks.Minimum gap items ts

    fresh : AreOpen bases
    fresh = open_bases definite asks.Minimum gap items ts h

    last : (b : Bool) → each_distributed (last_steps_of definite b gap false) gap items bases ≡ (if b then with_bases definite asks.LimitedHigh gap items bases else bases)
    last true =
        ap (each_distributed (base_step_of (affecting kind.MaxContentLeast false) kind.MaxContentMost definite gap asks.High ∷ []) gap items)
        (step_some kind.AutoOrMaxContentLeast kind.MaxContentMost definite gap asks.LimitedHigh first n items bases auto_least (over_bases definite asks.Minimum gap first n items ts o) fresh)
        ∙ step_none kind.MaxContentLeast kind.MaxContentMost definite gap asks.High items (with_bases definite asks.LimitedHigh gap items bases) max_content_least (open_bases definite asks.LimitedHigh gap items bases fresh)
    last false = step_none kind.MaxContentLeast kind.MaxContentMost definite gap asks.High items bases max_content_least fresh

over_all : (definite max : Bool) (gap first : ℤ) (n : ℕ) (items : List Item) (ts : List Track) → IsOver first n items ts → IsOver first n items (all_bases definite max gap items ts)
over_all definite true gap first n items ts o = over_bases definite asks.LimitedHigh gap first n items (with_bases definite asks.Minimum gap items ts) (over_bases definite asks.Minimum gap first n items ts o)
over_all definite false gap first n items ts o = over_bases definite asks.Minimum gap first n items ts o

open_all : (definite max : Bool) (gap : ℤ) (items : List Item) (ts : List Track) → AreOpen ts → AreOpen (all_bases definite max gap items ts)
open_all definite true gap items ts h = open_bases definite asks.LimitedHigh gap items (with_bases definite asks.Minimum gap items ts) (open_bases definite asks.Minimum gap items ts h)
open_all definite false gap items ts h = open_bases definite asks.Minimum gap items ts h

-- ---- growth limits

spanned_by : (first : ℤ) (i : Item) (ts : List Track) → AreSet first ts → IsIn first (length ts) i → span_length i ≡ pos (length ts) → AllSpanned i ts
spanned_by first i ts set at e =
    let its : AllSpanned i (take (length ts) ts) = (around i first ts 0 (length ts) (placed_of first ts set) (omega (arith, ints, at.start, at.end, e)) (omega (arith, ints, e))).its in
    subst (AllSpanned i) (take_all (length ts) ts (omega arith)) its

reached : (k : Kind) (i : Item) (rest : List Item) (t : Track) (p : (t.rule.least ≡ least.Auto) × (t.rule.most ≡ most.Auto)) → Affects true k → spans i t ≡ true → list_any (λ j. affected_by (affected_of (affecting k false)) j t) (i ∷ rest) ≡ true
reached k i rest t p affects s =
    ap (λ (b : Bool). (b && spans i t) || list_any (λ j. affected_by (affected_of (affecting k false)) j t) rest) (affected_plain true k t affects p.0 p.1)
    ∙ ap (λ (b : Bool). b || list_any (λ j. affected_by (affected_of (affecting k false)) j t) rest) s

ends_of : (i : Item) (rest : List Item) (ts : List Track) (zs : List ℤ) → ArePlain ts → HaveNoLimits ts → HaveNoPlans ts → AllSome zs → AllSpanned i ts
    → map (λ t. mark_endless t (raised_limit_by (affected_of (affecting kind.IntrinsicMost false)) (i ∷ rest) t)) (zipped plan_share ts zs) ≡ zipped ended ts zs
ends_of i rest [] zs p l n s o = refl
ends_of i rest (t ∷ ts) [] p l n s o = refl
ends_of i rest (t ∷ ts) (z ∷ zs) p l n s o =
    let x : Track = plan_share t z in
    let more : List Track = map (λ u. mark_endless u (raised_limit_by (affected_of (affecting kind.IntrinsicMost false)) (i ∷ rest) u)) (zipped plan_share ts zs) in
    let greatest : int_max t.planned z ≡ z = omega (arith, ints, clamps, n.0, s.0) in
    ap (λ (b : Bool). mark_endless x (if b then raised_limit x else x) ∷ more) (reached kind.IntrinsicMost i rest x p.0 intrinsic_most o.0)
    ∙ ap (λ (y : ℤ). record t { limit = Some (clamp (limit_of t +ℤ y)); planned = pos 0; endless = is_none t.limit && true } ∷ more) greatest
    ∙ ap (λ (e : Option ℤ). record t { limit = Some (clamp (limit_of t +ℤ z)); planned = pos 0; endless = is_none e && true } ∷ more) l.0
    ∙ ap (λ (us : List Track). ended t z ∷ us) (ends_of i rest ts zs p.1 l.1 n.1 s.1 o.1)

lifts_of : (i : Item) (rest : List Item) (ts : List Track) (zs : List ℤ) → ArePlain ts → HaveNoPlans ts → AllSome zs → AllSpanned i ts
    → map (raised_limit_by (affected_of (affecting kind.MaxContentMost false)) (i ∷ rest)) (zipped plan_share ts zs) ≡ zipped lifted ts zs
lifts_of i rest [] zs p n s o = refl
lifts_of i rest (t ∷ ts) [] p n s o = refl
lifts_of i rest (t ∷ ts) (z ∷ zs) p n s o =
    let x : Track = plan_share t z in
    let more : List Track = map (raised_limit_by (affected_of (affecting kind.MaxContentMost false)) (i ∷ rest)) (zipped plan_share ts zs) in
    let greatest : int_max t.planned z ≡ z = omega (arith, ints, clamps, n.0, s.0) in
    ap (λ (b : Bool). (if b then raised_limit x else x) ∷ more) (reached kind.MaxContentMost i rest x p.0 max_content_most o.0)
    ∙ ap (λ (y : ℤ). record t { limit = Some (clamp (limit_of t +ℤ y)); planned = pos 0 } ∷ more) greatest
    ∙ ap (λ (us : List Track). lifted t z ∷ us) (lifts_of i rest ts zs p.1 n.1 s.1 o.1)

pub lows_even : (gap first : ℤ) (n : ℕ) (i : Item) (rest : List Item) (ts : List Track) → IsOver first n (i ∷ rest) ts → AreOpen ts → low_limits false gap (i ∷ rest) ts ≡ with_ends gap (i ∷ rest) ts
lows_even gap first n i rest ts o h =
    let items : List Item = i ∷ rest in
    let some : 0 < length ts = omega (arith, o.count, o.some) in
    let there : AreIn first (length ts) items = items_there first n items ts o in
    let wide : AreOf (pos (length ts)) items = items_wide first n items ts o in
    let space : ℤ = greatest_space true asks.Low limit_of gap items ts in
    let f : Track → Track = raised_limit_by (affected_of (affecting kind.IntrinsicMost false)) items in
    marked_all (limit_step_in (affecting kind.IntrinsicMost false) false) gap items f ts
    ∙ ap (map (λ t. mark_endless t (f t))) (lows_planned gap first ts items o.set (open_plain ts h) (open_limits ts h) some there wide)
    ∙ ends_of i rest ts (even_shares space ts) (open_plain ts h) (open_limits ts h) (open_plans ts h) (even_some space ts (needs_some true asks.Low limit_of gap items ts) some) (spanned_by first i ts o.set there.0 wide.0)

endless_of : (ts : List Track) (zs : List ℤ) → AreEndless (zipped ended ts zs)
endless_of [] zs = tt
endless_of (t ∷ ts) [] = tt
endless_of (t ∷ ts) (z ∷ zs) = (refl, endless_of ts zs)

plans_of : (ts : List Track) (zs : List ℤ) → HaveNoPlans (zipped ended ts zs)
plans_of [] zs = tt
plans_of (t ∷ ts) [] = tt
plans_of (t ∷ ts) (z ∷ zs) = (refl, plans_of ts zs)

pub highs_even : (gap first : ℤ) (n : ℕ) (i : Item) (rest : List Item) (ts : List Track) → IsOver first n (i ∷ rest) ts → ArePlain ts → AreEndless ts → HaveNoPlans ts → high_limits false gap (i ∷ rest) ts ≡ with_limits gap (i ∷ rest) ts
highs_even gap first n i rest ts o p e h =
    let items : List Item = i ∷ rest in
    let some : 0 < length ts = omega (arith, o.count, o.some) in
    let there : AreIn first (length ts) items = items_there first n items ts o in
    let wide : AreOf (pos (length ts)) items = items_wide first n items ts o in
    let space : ℤ = greatest_space true asks.High limit_of gap items ts in
    ap (map (raised_limit_by (affected_of (affecting kind.MaxContentMost false)) items)) (highs_planned gap first ts items o.set p e some there wide)
    ∙ lifts_of i rest ts (even_shares space ts) p h (even_some space ts (needs_some true asks.High limit_of gap items ts) some) (spanned_by first i ts o.set there.0 wide.0)

over_ends : (gap first : ℤ) (n : ℕ) (items : List Item) (ts : List Track) → IsOver first n items ts → IsOver first n items (with_ends gap items ts)
over_ends gap first n items ts o =
    let space : ℤ = greatest_space true asks.Low limit_of gap items ts in
    record {
      set = set_ended first ts (even_shares space ts) o.set;
      count = o.count ∙ sym (length_like ended ts (even_shares space ts) (even_length space ts));
      some = o.some;
      items_in = o.items_in;
      items_of = o.items_of;
    }

-- ---- all steps

abbrev pub sized_evenly : {axis : ℕ} → Space axis → ℤ → List Item → List Track → List Track
sized_evenly space gap items ts = with_limits gap items (with_ends gap items (all_bases (is_definite space) (is_max_content space) gap items ts))

group_of : {axis : ℕ} (space : Space axis) (gap first : ℤ) (n : ℕ) (i : Item) (rest : List Item) (ts : List Track) → IsOver first n (i ∷ rest) ts → AreOpen ts → group_fitted space gap false (i ∷ rest) ts ≡ sized_evenly space gap (i ∷ rest) ts
unfolding group_fitted
group_of space gap first n i rest ts o h =
    let items : List Item = i ∷ rest in
    let bases : List Track = all_bases (is_definite space) (is_max_content space) gap items ts in
    let over : IsOver first n items bases = over_all (is_definite space) (is_max_content space) gap first n items ts o in
    let fresh : AreOpen bases = open_all (is_definite space) (is_max_content space) gap items ts h in
    let ends : List ℤ = even_shares (greatest_space true asks.Low limit_of gap items bases) bases in
    ap (λ (xs : List Track). high_limits false gap items (low_limits false gap items (map raise_limit xs))) (bases_even (is_definite space) (is_max_content space) gap first n items ts o h)
    ∙ ap (λ (xs : List Track). high_limits false gap items (low_limits false gap items xs)) (raised_none bases (open_limits bases fresh))
    ∙ ap (high_limits false gap items) (lows_even gap first n i rest bases over fresh)
    ∙ highs_even gap first n i rest (with_ends gap items bases) (over_ends gap first n items bases over) (plain_like ended bases ends ended_like (open_plain bases fresh)) (endless_of bases ends) (plans_of bases ends)

over_of : (first : ℤ) (items : List Item) (ts : List Track) → AreSet first ts → 0 < length ts → AreIn first (length ts) items → AreOf (pos (length ts)) items → IsOver first (length ts) items ts
over_of first items ts set some at e = record { set = set; count = refl; some = some; items_in = at; items_of = e }

group_even : {axis : ℕ} (space : Space axis) (gap first : ℤ) (items : List Item) (ts : List Track) → AreSet first ts → 0 < length ts → 0 < length items → AreIn first (length ts) items → AreOf (pos (length ts)) items → AreOpen ts
    → sized_evenly space gap items ts ≡ group_fitted space gap false items ts
group_even space gap first [] ts set some there at e h = absurd (omega arith)
group_even space gap first (i ∷ rest) ts set some there at e h = sym (group_of space gap first (length ts) i rest ts (over_of first (i ∷ rest) ts set some at e) h)

-- ---- without marks

-- the tracks after all steps, where the first step on growth limits sets no mark
abbrev pub closed_evenly : {axis : ℕ} → Space axis → ℤ → List Item → List Track → List Track
closed_evenly space gap items ts = with_limits gap items (with_lows gap items (all_bases (is_definite space) (is_max_content space) gap items ts))

closed_track : (t : Track) (s q : ℤ) → IsOpen t → pos 0 ≤ℤ s → pos 0 ≤ℤ q → passed_closed (lifted (ended t s) q) ≡ lifted (lifted t s) q
unfolding clamp
closed_track t s q h x y =
    let limit : ℤ = clamp (clamp (limit_of t +ℤ s) +ℤ q) in
    let base : clamp (t.base +ℤ pos 0) ≡ t.base = omega (arith, ints, clamps, h.units.0, h.units.1) in
    let above : int_max t.base limit ≡ limit = omega (arith, ints, clamps, open_limit t h, h.units.0, h.units.1, x, y) in
    ap (λ (z : ℤ). record (lifted (lifted t s) q) { base = z; limit = Some (int_max z limit); endless = false }) base
    ∙ ap (λ (z : ℤ). record (lifted (lifted t s) q) { limit = Some z; endless = false }) above
    ∙ ap (λ (b : Bool). record (lifted (lifted t s) q) { endless = b }) (sym h.unmarked)

closed_tracks : (ts : List Track) (ss qs : List ℤ) → AreOpen ts → AllSome ss → AllSome qs → map passed_closed (zipped lifted (zipped ended ts ss) qs) ≡ zipped lifted (zipped lifted ts ss) qs
closed_tracks [] ss qs h x y = refl
closed_tracks (t ∷ ts) [] qs h x y = refl
closed_tracks (t ∷ ts) (s ∷ ss) [] h x y = refl
closed_tracks (t ∷ ts) (s ∷ ss) (q ∷ qs) h x y =
    ap (λ (u : Track). u ∷ map passed_closed (zipped lifted (zipped ended ts ss) qs)) (closed_track t s q h.0 x.0 y.0)
    ∙ ap (λ (us : List Track). lifted (lifted t s) q ∷ us) (closed_tracks ts ss qs h.1 x.1 y.1)

-- marks change neither growth limits nor how many tracks there are
unmarked_limits : (ts : List Track) (ss : List ℤ) → map limit_of (zipped ended ts ss) ≡ map limit_of (zipped lifted ts ss)
unmarked_limits [] ss = refl
unmarked_limits (t ∷ ts) [] = refl
unmarked_limits (t ∷ ts) (s ∷ ss) = ap (λ (zs : List ℤ). limit_of (lifted t s) ∷ zs) (unmarked_limits ts ss)

unmarked_rooms : (ts : List Track) (ss : List ℤ) → map without_end (zipped ended ts ss) ≡ map without_end (zipped lifted ts ss)
unmarked_rooms [] ss = refl
unmarked_rooms (t ∷ ts) [] = refl
unmarked_rooms (t ∷ ts) (s ∷ ss) = ap (λ (rooms : List (Option ℤ)). None ∷ rooms) (unmarked_rooms ts ss)

closed_even : (gap : ℤ) (items : List Item) (ts : List Track) → AreOpen ts → 0 < length ts → map passed_closed (with_limits gap items (with_ends gap items ts)) ≡ with_limits gap items (with_lows gap items ts)
closed_even gap items ts h some =
    let ss : List ℤ = even_shares (greatest_space true asks.Low limit_of gap items ts) ts in
    let ends : List Track = zipped ended ts ss in
    let lows : List Track = zipped lifted ts ss in
    let one : length ends ≡ length ts = length_like ended ts ss (even_length (greatest_space true asks.Low limit_of gap items ts) ts) in
    let other : length lows ≡ length ts = length_like lifted ts ss (even_length (greatest_space true asks.Low limit_of gap items ts) ts) in
    let space : greatest_space true asks.High limit_of gap items ends ≡ greatest_space true asks.High limit_of gap items lows =
    ap (λ (zs : List ℤ). greatest_of (space_for true asks.High (sum_of zs) (gutters_in gap ends)) (pos 0) items) (unmarked_limits ts ss)
    ∙ ap (λ (n : ℕ). greatest_of (space_for true asks.High (sum_of (map limit_of lows)) (gap *ℤ pos (n - 1))) (pos 0) items) (one ∙ sym other) in
    let qs : List ℤ = even_shares (greatest_space true asks.High limit_of gap items ends) ends in
    let same : qs ≡ even_shares (greatest_space true asks.High limit_of gap items lows) lows =
    ap (λ (rooms : List (Option ℤ)). shares (greatest_space true asks.High limit_of gap items ends) rooms) (unmarked_rooms ts ss)
    ∙ ap (λ (z : ℤ). shares z (map without_end lows)) space in
    closed_tracks ts ss qs h (even_some (greatest_space true asks.Low limit_of gap items ts) ts (needs_some true asks.Low limit_of gap items ts) some)
    (even_some (greatest_space true asks.High limit_of gap items ends) ends (needs_some true asks.High limit_of gap items ends) (omega (arith, one, some)))
    ∙ ap (zipped lifted lows) same

all_closed : {axis : ℕ} (space : Space axis) (gap first : ℤ) (items : List Item) (ts : List Track) → AreSet first ts → 0 < length ts → AreIn first (length ts) items → AreOf (pos (length ts)) items → AreOpen ts
    → closed_evenly space gap items ts ≡ map passed_closed (sized_evenly space gap items ts)
all_closed space gap first items ts set some at e h =
    let bases : List Track = all_bases (is_definite space) (is_max_content space) gap items ts in
    let over : IsOver first (length ts) items bases = over_all (is_definite space) (is_max_content space) gap first (length ts) items ts (over_of first items ts set some at e) in
    sym (closed_even gap items bases (open_all (is_definite space) (is_max_content space) gap items ts h) (omega (arith, over.count, over.some)))

pub even_is : {axis : ℕ} (space : Space axis) (gap : ℤ) (items : List Item) (definite max : Bool) (ts bases lows now : List Track) → definite ≡ is_definite space → max ≡ is_max_content space →
    bases ≡ all_bases definite max gap items ts → lows ≡ with_lows gap items bases → now ≡ with_limits gap items lows
    → now ≡ closed_evenly space gap items ts
even_is space gap items definite max ts bases lows now d m b e n =
    n
    ∙ ap (with_limits gap items) e
    ∙ ap (λ (xs : List Track). with_limits gap items (with_lows gap items xs)) b
    ∙ ap (λ (x : Bool). with_limits gap items (with_lows gap items (all_bases x max gap items ts))) d
    ∙ ap (λ (x : Bool). with_limits gap items (with_lows gap items (all_bases (is_definite space) x gap items ts))) m

pub even_set : {axis : ℕ} (space : Space axis) (gap first : ℤ) (items : List Item) (ts : List Track) → AreSet first ts → 0 < length ts → AreIn first (length ts) items → AreOf (pos (length ts)) items → AreSet first (closed_evenly space gap items ts)
even_set space gap first items ts set some at e =
    let bases : List Track = all_bases (is_definite space) (is_max_content space) gap items ts in
    let over : IsOver first (length ts) items bases = over_all (is_definite space) (is_max_content space) gap first (length ts) items ts (over_of first items ts set some at e) in
    let lows : List Track = with_lows gap items bases in
    set_lifted first lows (even_shares (greatest_space true asks.High limit_of gap items lows) lows) (set_lifted first bases (even_shares (greatest_space true asks.Low limit_of gap items bases) bases) over.set)

even_plain : {axis : ℕ} (space : Space axis) (gap : ℤ) (items : List Item) (ts : List Track) → AreOpen ts → list_any flexible (sized_evenly space gap items ts) ≡ false
even_plain space gap items ts h =
    let bases : List Track = all_bases (is_definite space) (is_max_content space) gap items ts in
    let fresh : AreOpen bases = open_all (is_definite space) (is_max_content space) gap items ts h in
    let ends : List Track = with_ends gap items bases in
    let plain : ArePlain ends = plain_like ended bases (even_shares (greatest_space true asks.Low limit_of gap items bases) bases) ended_like (open_plain bases fresh) in
    none_flexible (sized_evenly space gap items ts) (plain_like lifted ends (even_shares (greatest_space true asks.High limit_of gap items ends) ends) lifted_like plain)

open_fixed : (ts : List Track) → AreOpen ts → list_any flexible ts ≡ false
open_fixed ts h = none_flexible ts (open_plain ts h)

-- ---- all groups

no_run : (ts : List Track) (items : List Item) (k m : ℕ) → AreOf (pos m) items → (pos m ≡ pos k → ⊥) → of_span ts items k ≡ []
no_run ts [] k m e n = refl
no_run ts (i ∷ rest) k m e n =
    ap (λ (b : Bool). cond (b && not (crosses_flexible ts i)) (i ∷ of_span ts rest k) (of_span ts rest k)) (is_not (span_length i) (pos k) (λ d. n (sym e.0 ∙ d))) ∙ no_run ts rest k m e.1 n

spans_behind : {axis : ℕ} (space : Space axis) (gap : ℤ) (items : List Item) (more k m : ℕ) (ts : List Track) → AreOf (pos m) items → m < k → spans_fitted space gap items more k ts ≡ ts
unfolding spans_fitted
spans_behind space gap items zero k m ts e h = refl
spans_behind space gap items (suc more) k m ts e h =
    ap (λ (xs : List Item). spans_fitted space gap items more (k + 1) (some_fitted space gap xs ts)) (no_run ts items k m e (λ d. omega (arith, ints, d, h)))
    ∙ spans_behind space gap items more (k + 1) m ts e (omega (arith, h))

spans_at : {axis : ℕ} (space : Space axis) (gap : ℤ) (items : List Item) (more k m : ℕ) (ts : List Track) → AreOf (pos m) items → list_any flexible ts ≡ false → k ≤ m → m < k + more → spans_fitted space gap items more k ts ≡ some_fitted space gap items ts
unfolding spans_fitted
spans_at space gap items zero k m ts e f h l = absurd (omega arith)
spans_at space gap items (suc more) k m ts e f h l = go (nat_lt k m) refl (λ p. spans_at space gap items more (k + 1) m ts e f p (omega (arith, l)))
  where
    go : (b : Bool) → nat_lt k m ≡ b → (k + 1 ≤ m → spans_fitted space gap items more (k + 1) ts ≡ some_fitted space gap items ts)
        → spans_fitted space gap items more (k + 1) (some_fitted space gap (of_span ts items k) ts) ≡ some_fitted space gap items ts
    go true p again =
        let less : k < m = ltb-true k m p in
        ap (λ (xs : List Item). spans_fitted space gap items more (k + 1) (some_fitted space gap xs ts)) (no_run ts items k m e (λ d. omega (arith, ints, d, less)))
        ∙ again (omega (arith, less))
    go false p again =
        let same : m ≡ k = omega (arith, ltb-false k m p, h) in
        ap (λ (xs : List Item). spans_fitted space gap items more (k + 1) (some_fitted space gap xs ts)) (whole_run ts k items f (subst (λ (j : ℕ). AreOf (pos j) items) same e))
        ∙ spans_behind space gap items more (k + 1) m (some_fitted space gap items ts) e (omega (arith, same))

some_items : {axis : ℕ} (space : Space axis) (gap : ℤ) (items : List Item) (ts : List Track) → 0 < length items → some_fitted space gap items ts ≡ group_fitted space gap false items ts
some_items space gap [] ts h = absurd (omega arith)
some_items space gap (i ∷ rest) ts h = refl

not_crossed : (ts : List Track) → list_any flexible ts ≡ false → list_any (affected_of (affecting kind.IntrinsicLeast true)) ts ≡ false
not_crossed [] f = refl
not_crossed (t ∷ ts) f = go (flexible t) (has_intrinsic_least t) f (λ r. not_crossed ts r)
  where
    go : (b c : Bool) → (b || list_any flexible ts) ≡ false → (list_any flexible ts ≡ false → list_any (affected_of (affecting kind.IntrinsicLeast true)) ts ≡ false)
        → ((c && (b || false)) || list_any (affected_of (affecting kind.IntrinsicLeast true)) ts) ≡ false
    go true c e again = absurd (true≢false e)
    go false true e again = again e
    go false false e again = again e

closed_both : (ts : List Track) → map passed_closed ts ≡ map close_limit (map passed ts)
closed_both [] = refl
closed_both (t ∷ ts) = ap (λ (us : List Track). passed_closed t ∷ us) (closed_both ts)

-- All groups, where all items span all tracks and none is flexible.
groups_of : {axis : ℕ} (space : Space axis) (gap : ℤ) (items crossing : List Item) (ts fitted now : List Track) → 2 ≤ length ts → 0 < length items → AreOf (pos (length ts)) items → list_any flexible ts ≡ false → fitted ≡ group_fitted space gap false items ts
    → list_any flexible fitted ≡ false → now ≡ map passed_closed fitted → now ≡ map close_limit (group_fitted space gap true crossing (spans_fitted space gap items (length ts) 2 ts))
groups_of space gap items crossing ts fitted now two some e f v p n =
    let spanned : spans_fitted space gap items (length ts) 2 ts ≡ fitted =
    spans_at space gap items (length ts) 2 (length ts) ts e f two (omega (arith, two)) ∙ some_items space gap items ts some ∙ sym v in
    n
    ∙ closed_both fitted
    ∙ ap (map close_limit) (group_passed space gap crossing fitted (map passed fitted) refl (not_crossed fitted p))
    ∙ ap (λ (xs : List Track). map close_limit (group_fitted space gap true crossing xs)) (sym spanned)

pub groups_even : {axis : ℕ} (space : Space axis) (gap first : ℤ) (items crossing : List Item) (ts now : List Track) → AreSet first ts → 2 ≤ length ts → 0 < length items → AreIn first (length ts) items → AreOf (pos (length ts)) items → AreOpen ts
    → now ≡ closed_evenly space gap items ts → now ≡ map close_limit (group_fitted space gap true crossing (spans_fitted space gap items (length ts) 2 ts))
groups_even space gap first items crossing ts now set two some at e h n =
    let tracks : 0 < length ts = omega (arith, two) in
    groups_of space gap items crossing ts (sized_evenly space gap items ts) now two some e (open_fixed ts h) (group_even space gap first items ts set tracks some at e h) (even_plain space gap items ts h)
    (n ∙ all_closed space gap first items ts set tracks at e h)

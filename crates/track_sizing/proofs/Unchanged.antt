-- Where no track and no item of two tracks or more asks for a change, the steps for groups change nothing.
use Rattle.std.proofs.Common.{arith, ap, subst, ◌≡◌, ◌∙◌, sym, refl, ℕ, zero, suc, ◌+◌, ◌<◌, ◌≤◌, ℤ, pos, ◌+ℤ◌, ◌≤ℤ◌, ◌<ℤ◌, Bool, true, false, not, ◌&&◌, ◌||◌, List, [], ◌∷◌, ◌++◌, map, drop, length, get_or, cond, Option, Some, int_lt, if◌then◌else◌, true≢false}
use Rattle.std.specs.Prelude.{unwrap_or, option_map}
use Rattle.std.specs.Int.{int_max}
use Rattle.std.specs.List.{list_any}
use Rattle.std.specs.Ordering.{int_eq}
use Rattle.std.proofs.lemmas.Int.{ints, clamps}
use Rattle.std.proofs.Math.ListN.{drop_of_length-le}
use Rattle.lunit.specs.Units.{IsUnits, clamp}
use Rattle.lunit.specs.declared.item.Item.{Item}
use Rattle.part_rules.specs.declared.track.Space.{Space}
use Rattle.part_rules.specs.Lists.{zipped}
use Rattle.part_rules.specs.Tracks.{Track, BaseStep, base_distributed, base_planned_by_all, close_limit, crosses_flexible, each_distributed, group_fitted, has_intrinsic_least, high_limits, is_definite, is_max_content, limit_distributed, limit_planned_by_all, low_limits, mark_endless, of_span, raise_limit, raised_base, raised_limit_by, some_fitted, span_length, spans_fitted, unmarked}
use Rattle.track_sizing.specs.declared.kinds.Affected.{Affected}
use Rattle.track_sizing.specs.declared.kinds.Kind.{Kind}
use Rattle.track_sizing.specs.declared.kinds.Kind.TheVariants as kind
use Rattle.track_sizing.specs.declared.item.Asks.{Asks}
use Rattle.track_sizing.specs.declared.item.Asks.TheVariants as asks
use Rattle.track_sizing.specs.Calm.{AreCalm, AreQuietItems, IsCalm, IsQuiet, IsSure}
use Rattle.track_sizing.specs.Groups.{affecting, base_steps_of, passed}
use Rattle.track_sizing.specs.Here.{HaveLengths, IsIdle}
use Rattle.track_sizing.specs.Kinds.{affected_of}
use Rattle.track_sizing.specs.Placed.{AreIn, AreReady, AreSet, IsIn, base_step_of, limit_step_in}
use Rattle.track_sizing.specs.Reached.{AllStay}
use Rattle.track_sizing.specs.Spans.{is_wide}
use Rattle.track_sizing.proofs.Groups.{ready_of}
use Rattle.track_sizing.proofs.Order.{is_not, that_number}
use Rattle.track_sizing.proofs.Passed.{group_passed, no_mark}
use Rattle.track_sizing.proofs.Staying.{raised_stay, row_stays}
use Rattle.track_sizing.proofs.Still.{base_still, limit_still}
use Rattle.track_sizing.proofs.Sums.{drop_item}

-- ---- one track

pub row_sure : (t : Track) (limit base end : ℤ) → t.limit ≡ Some limit → base ≡ t.base → IsUnits base → end ≡ limit → IsUnits end → base ≤ℤ end → pos 0 ≤ℤ t.base → t.endless ≡ false → t.planned ≡ pos 0 → IsSure t
unfolding clamp
row_sure t limit base end l b bu e eu m s n p =
    let based : clamp (t.base +ℤ t.planned) ≡ t.base = omega (arith, ints, clamps, b, bu.0, bu.1, p) in
    let ended : clamp (limit +ℤ t.planned) ≡ limit = omega (arith, ints, clamps, e, eu.0, eu.1, p) in
    let greater : int_max t.base limit ≡ limit = omega (arith, ints, clamps, b, e, m) in
    let old : unwrap_or t.limit t.base ≡ limit = ap (λ (x : Option ℤ). unwrap_or x t.base) l in
    record {
      base = ap (λ (z : ℤ). record t { base = z; planned = pos 0 }) based ∙ ap (λ (z : ℤ). record t { planned = z }) (sym p);
      limit = ap (λ (x : Option ℤ). record t { limit = option_map (int_max t.base) x }) l ∙ ap (λ (z : ℤ). record t { limit = Some z }) greater ∙ ap (λ (x : Option ℤ). record t { limit = x }) (sym l);
      stays = row_stays t limit l ended n p;
      closed = ap (λ (z : ℤ). record t { limit = Some z }) old ∙ ap (λ (x : Option ℤ). record t { limit = x }) (sym l);
      base_some = s;
      limit_some = subst (λ (z : ℤ). pos 0 ≤ℤ z) (sym old) (omega (arith, ints, b, e, m, s));
    }

-- Where those from this place on are calm, all are.
pub record IsCalmTo (ts : List Track) (i : ℕ) : Type 0 where
  pub whole : AreCalm (drop i ts) → AreCalm ts

pub calm_start : (ts : List Track) → IsCalmTo ts 0
calm_start ts = record { whole = λ h. h }

pub calm_more : (ts : List Track) (i : ℕ) (t : Track) → IsCalmTo ts i → i < length ts → t ≡ get_or ts i t → IsCalm t → IsCalmTo ts (i + 1)
calm_more ts i t so h e s = record { whole = λ rest. so.whole (subst AreCalm (sym (drop_item ts i t h e)) (s, rest)) }

pub calm_all : (ts : List Track) (i : ℕ) → IsCalmTo ts i → length ts ≤ i → AreCalm ts
calm_all ts i so h = let none : drop i ts ≡ [] = drop_of_length-le ts h in so.whole (subst AreCalm (sym none) tt)

pub ruleset rows_calm = (calm_start, calm_more, calm_all)

-- ---- items

pub single_quiet : (gap : ℤ) (i : Item) (b : Bool) → b ≡ int_eq i.span.end (i.span.start +ℤ pos 1) → b ≡ true → IsQuiet gap i
single_quiet gap i b e d =
    let last : i.span.end ≡ i.span.start +ℤ pos 1 = that_number i.span.end (i.span.start +ℤ pos 1) (sym e ∙ d) in
    λ h. absurd (omega (arith, ints, last, h))

pub idle_quiet : (gap : ℤ) (i : Item) → IsIdle gap i → IsQuiet gap i
idle_quiet gap i h = λ w. h

-- Those from this place on are quiet where it is said so.
pub record IsQuietFrom (gap : ℤ) (items : List Item) (at : ℕ) (quiet : Bool) : Type 0 where
  pub so : quiet ≡ true → AreQuietItems gap (drop at items)

pub quiet_none : (gap : ℤ) (items : List Item) (at : ℕ) (quiet : Bool) → length items ≤ at → IsQuietFrom gap items at quiet
quiet_none gap items at quiet h = record { so = λ e. subst (AreQuietItems gap) (sym (drop_of_length-le items h)) tt }

pub both_true : (b c : Bool) → (b && c) ≡ true → (b ≡ true) × (c ≡ true)
both_true true c e = (refl, e)
both_true false c e = absurd (true≢false (sym e))

pub quiet_more : (gap : ℤ) (items : List Item) (at next : ℕ) (i : Item) (quiet more now : Bool) → IsQuietFrom gap items at quiet → at ≡ next + 1 → next < length items → i ≡ get_or items next i → (more ≡ true → IsQuiet gap i) → now ≡ (more && quiet) → IsQuietFrom gap items next now
quiet_more gap items at next i quiet more now h d l e q n =
    record {
      so = λ t. let parts = both_true more quiet (sym n ∙ t) in
          subst (AreQuietItems gap) (sym (drop_item items next i l e)) (q parts.0, subst (λ (k : ℕ). AreQuietItems gap (drop k items)) d (h.so parts.1));
    }

pub quiet_all : (gap : ℤ) (items : List Item) (at : ℕ) (quiet : Bool) → IsQuietFrom gap items at quiet → at ≡ 0 → quiet ≡ true → AreQuietItems gap items
quiet_all gap items at quiet h e t = subst (λ (k : ℕ). AreQuietItems gap (drop k items)) e (h.so t)

pub ruleset item_quiet = (single_quiet, idle_quiet)

pub ruleset items_quiet = (quiet_none, quiet_more, quiet_all)

-- ---- lists of tracks

same_each : (f : Track → Track) (ts : List Track) → ((t : Track) → IsCalm t → f t ≡ t) → AreCalm ts → map f ts ≡ ts
same_each f [] w h = refl
same_each f (t ∷ ts) w h = ap (λ (x : Track). x ∷ map f ts) (w t h.0) ∙ ap (λ (xs : List Track). t ∷ xs) (same_each f ts w h.1)

one_passed : (t : Track) → IsCalm t → passed t ≡ t
one_passed t h = ap (λ (x : Track). unmarked (raise_limit x)) h.sure.base ∙ ap unmarked h.sure.limit ∙ sym (no_mark t) ∙ h.sure.stays.marked

same_marks : (ts : List Track) → AreCalm ts → zipped mark_endless ts ts ≡ ts
same_marks [] h = refl
same_marks (t ∷ ts) h = ap (λ (x : Track). x ∷ zipped mark_endless ts ts) h.0.sure.stays.marked ∙ ap (λ (xs : List Track). t ∷ xs) (same_marks ts h.1)

all_stay : (ts : List Track) → AreCalm ts → AllStay ts
all_stay [] h = tt
all_stay (t ∷ ts) h = (h.0.sure.stays, all_stay ts h.1)

lengths_of : (ts : List Track) → AreCalm ts → HaveLengths ts
lengths_of [] h = tt
lengths_of (t ∷ ts) h = ((h.0.sure.base_some, h.0.sure.limit_some), lengths_of ts h.1)

none_crossed : (ts : List Track) → AreCalm ts → list_any (affected_of (affecting kind.IntrinsicLeast true)) ts ≡ false
none_crossed [] h = refl
none_crossed (t ∷ ts) h = ap (λ (b : Bool). b || list_any (affected_of (affecting kind.IntrinsicLeast true)) ts) (ap (λ (b : Bool). has_intrinsic_least t && (b || false)) h.0.fixed ∙ go (has_intrinsic_least t)) ∙ none_crossed ts h.1
  where
    go : (b : Bool) → (b && (false || false)) ≡ false
    go true = refl
    go false = refl

-- ---- a group of items that ask for nothing

abbrev pub AreIdle : ℤ → List Item → Type 0
AreIdle gap [] = Unit {0}
AreIdle gap (i ∷ rest) = ((i.span.start <ℤ i.span.end) × IsIdle gap i) × AreIdle gap rest

bases_planned : (a : Affected) (receives : Kind) (definite : Bool) (gap : ℤ) (k : Asks) (items : List Item) (ts : List Track) → AreReady ts → HaveLengths ts → AreIdle gap items → base_planned_by_all (base_step_of a receives definite gap k) gap items ts ≡ ts
bases_planned a receives definite gap k [] ts r l h = refl
bases_planned a receives definite gap k (i ∷ rest) ts r l h =
    ap (base_planned_by_all (base_step_of a receives definite gap k) gap rest) (sym (base_still a receives definite gap k i ts r l h.0.0 h.0.1)) ∙ bases_planned a receives definite gap k rest ts r l h.1

pub limits_planned : (a : Affected) (second : Bool) (gap : ℤ) (items : List Item) (ts : List Track) → AreReady ts → HaveLengths ts → AreIdle gap items → limit_planned_by_all (limit_step_in a second) gap items ts ≡ ts
limits_planned a second gap [] ts r l h = refl
limits_planned a second gap (i ∷ rest) ts r l h =
    ap (limit_planned_by_all (limit_step_in a second) gap rest) (sym (limit_still a second gap i ts r l h.0.0 h.0.1)) ∙ limits_planned a second gap rest ts r l h.1

-- tracks without a length below 0, which stay as they are where base sizes are raised by nothing
pub record AreHeld (ts : List Track) : Type 0 where
  pub lengths : HaveLengths ts
  pub raised : map raised_base ts ≡ ts

one_step : (a : Affected) (receives : Kind) (definite : Bool) (gap : ℤ) (k : Asks) (items : List Item) (ts : List Track) → AreReady ts → AreHeld ts → AreIdle gap items → base_distributed (base_step_of a receives definite gap k) gap items ts ≡ ts
one_step a receives definite gap k items ts r c h = ap (map raised_base) (bases_planned a receives definite gap k items ts r c.lengths h) ∙ c.raised

steps_more : (s : BaseStep) (rest : List BaseStep) (gap : ℤ) (items : List Item) (ts : List Track) → base_distributed s gap items ts ≡ ts → each_distributed rest gap items ts ≡ ts → each_distributed (s ∷ rest) gap items ts ≡ ts
steps_more s rest gap items ts e d = ap (each_distributed rest gap items) e ∙ d

last_step : (definite : Bool) (gap : ℤ) (items : List Item) (ts : List Track) → AreReady ts → AreHeld ts → AreIdle gap items → each_distributed (base_step_of (affecting kind.MaxContentLeast false) kind.MaxContentMost definite gap asks.High ∷ []) gap items ts ≡ ts
last_step definite gap items ts r c h = one_step (affecting kind.MaxContentLeast false) kind.MaxContentMost definite gap asks.High items ts r c h

last_steps : (definite max : Bool) (gap : ℤ) (items : List Item) (ts : List Track) → AreReady ts → AreHeld ts → AreIdle gap items
    → each_distributed ((if max then base_step_of (affecting kind.AutoOrMaxContentLeast false) kind.MaxContentMost definite gap asks.LimitedHigh ∷ [] else []) ++ base_step_of (affecting kind.MaxContentLeast false) kind.MaxContentMost definite gap asks.High ∷ []) gap items ts ≡ ts
last_steps definite true gap items ts r c h =
    steps_more (base_step_of (affecting kind.AutoOrMaxContentLeast false) kind.MaxContentMost definite gap asks.LimitedHigh) (base_step_of (affecting kind.MaxContentLeast false) kind.MaxContentMost definite gap asks.High ∷ []) gap items ts
    (one_step (affecting kind.AutoOrMaxContentLeast false) kind.MaxContentMost definite gap asks.LimitedHigh items ts r c h) (last_step definite gap items ts r c h)
last_steps definite false gap items ts r c h = last_step definite gap items ts r c h

pub all_steps : (definite max : Bool) (gap : ℤ) (items : List Item) (ts : List Track) → AreReady ts → AreHeld ts → AreIdle gap items → each_distributed (base_steps_of definite max gap false) gap items ts ≡ ts
all_steps definite max gap items ts r c h =
    ap
    (
    each_distributed
    (
    base_step_of (affecting kind.ContentLeast false) kind.IntrinsicMost definite gap asks.Low
    ∷ (if max then base_step_of (affecting kind.AutoOrMaxContentLeast false) kind.MaxContentMost definite gap asks.LimitedHigh ∷ [] else [])
    ++ base_step_of (affecting kind.MaxContentLeast false) kind.MaxContentMost definite gap asks.High
    ∷ []
    )
    gap items
    )
    (one_step (affecting kind.IntrinsicLeast false) kind.IntrinsicMost definite gap asks.Minimum items ts r c h)
    ∙ ap (each_distributed ((if max then base_step_of (affecting kind.AutoOrMaxContentLeast false) kind.MaxContentMost definite gap asks.LimitedHigh ∷ [] else []) ++ base_step_of (affecting kind.MaxContentLeast false) kind.MaxContentMost definite gap asks.High ∷ []) gap items)
    (one_step (affecting kind.ContentLeast false) kind.IntrinsicMost definite gap asks.Low items ts r c h)
    ∙ last_steps definite max gap items ts r c h

limits_same : (a : Affected) (second : Bool) (gap : ℤ) (items : List Item) (ts : List Track) → AreReady ts → AreCalm ts → AreIdle gap items → limit_distributed (limit_step_in a second) gap items ts ≡ ts
limits_same a second gap items ts r c h =
    ap (map (raised_limit_by (affected_of a) items)) (limits_planned a second gap items ts r (lengths_of ts c) h) ∙ sym (raised_stay (affected_of a) items ts (all_stay ts c))

group_same : {axis : ℕ} (space : Space axis) (gap : ℤ) (items : List Item) (ts : List Track) → AreReady ts → AreCalm ts → AreIdle gap items → group_fitted space gap false items ts ≡ ts
unfolding group_fitted
group_same space gap items ts r c h =
    ap (λ (xs : List Track). high_limits false gap items (low_limits false gap items (map raise_limit xs))) (all_steps (is_definite space) (is_max_content space) gap items ts r (record { lengths = lengths_of ts c; raised = same_each raised_base ts (λ t s. s.sure.base) c }) h)
    ∙ ap (λ (xs : List Track). high_limits false gap items (low_limits false gap items xs)) (same_each raise_limit ts (λ t s. s.sure.limit) c)
    ∙ ap (λ (xs : List Track). high_limits false gap items (zipped mark_endless ts xs)) (limits_same (affecting kind.IntrinsicMost false) false gap items ts r c h)
    ∙ ap (high_limits false gap items) (same_marks ts c)
    ∙ limits_same (affecting kind.MaxContentMost false) true gap items ts r c h

some_same : {axis : ℕ} (space : Space axis) (gap : ℤ) (items : List Item) (ts : List Track) → AreReady ts → AreCalm ts → AreIdle gap items → some_fitted space gap items ts ≡ ts
some_same space gap [] ts r c h = refl
some_same space gap (i ∷ rest) ts r c h = group_same space gap (i ∷ rest) ts r c h

-- ---- all groups

wide_one : (i : Item) (n : ℕ) → span_length i ≡ pos n → 2 ≤ n → is_wide i ≡ true
wide_one i n e h = go (int_lt (pos 1) (span_length i)) refl
  where
    go : (b : Bool) → int_lt (pos 1) (span_length i) ≡ b → int_lt (pos 1) (span_length i) ≡ true
    go true d = d
    go false d = absurd (omega (arith, ints, d, e, h))

idle_one : (gap : ℤ) (i : Item) (n : ℕ) → 2 ≤ n → IsQuiet gap i → span_length i ≡ pos n → (i.span.start <ℤ i.span.end) × IsIdle gap i
idle_one gap i n h q e = (omega (arith, ints, e, h), q (wide_one i n e h))

idle_more : (gap : ℤ) (i : Item) (n : ℕ) (rest : List Item) (b c : Bool) → 2 ≤ n → IsQuiet gap i → AreIdle gap rest → int_eq (span_length i) (pos n) ≡ b → AreIdle gap (cond (b && c) (i ∷ rest) rest)
idle_more gap i n rest true true h q r e = (idle_one gap i n h q (that_number (span_length i) (pos n) e), r)
idle_more gap i n rest true false h q r e = r
idle_more gap i n rest false c h q r e = r

pub group_idle : (gap : ℤ) (ts : List Track) (n : ℕ) (items : List Item) → 2 ≤ n → AreQuietItems gap items → AreIdle gap (of_span ts items n)
group_idle gap ts n [] h q = tt
group_idle gap ts n (i ∷ rest) h q = idle_more gap i n (of_span ts rest n) (int_eq (span_length i) (pos n)) (not (crosses_flexible ts i)) h q.0 (group_idle gap ts n rest h q.1) refl

spans_same : {axis : ℕ} (space : Space axis) (gap : ℤ) (items : List Item) (more n : ℕ) (ts : List Track) → 2 ≤ n → AreReady ts → AreCalm ts → AreQuietItems gap items → spans_fitted space gap items more n ts ≡ ts
unfolding spans_fitted
spans_same space gap items zero n ts h r c q = refl
spans_same space gap items (suc more) n ts h r c q =
    ap (spans_fitted space gap items more (n + 1)) (some_same space gap (of_span ts items n) ts r c (group_idle gap ts n items h q)) ∙ spans_same space gap items more (n + 1) ts (omega (arith, h)) r c q

pub nothing_changed : {axis : ℕ} (space : Space axis) (gap first : ℤ) (crossing items : List Item) (n : ℕ) (ts : List Track) → AreSet first ts → AreCalm ts → AreQuietItems gap items
    → ts ≡ map close_limit (group_fitted space gap true crossing (spans_fitted space gap items n 2 ts))
nothing_changed space gap first crossing items n ts s c q =
    let spanned : spans_fitted space gap items n 2 ts ≡ ts = spans_same space gap items n 2 ts (omega arith) (ready_of first ts s) c q in
    let crossed : ts ≡ group_fitted space gap true crossing ts = sym (same_each passed ts one_passed c) ∙ group_passed space gap crossing ts (map passed ts) refl (none_crossed ts c) in
    sym (ap (λ (xs : List Track). map close_limit (group_fitted space gap true crossing xs)) spanned ∙ ap (map close_limit) (sym crossed) ∙ same_each close_limit ts (λ t k. k.sure.closed) c)

-- ---- one track

one_only : (first : ℤ) (i : Item) → IsIn first 1 i → int_eq (span_length i) (pos 2) ≡ false
one_only first i h = is_not (span_length i) (pos 2) (λ e. omega (arith, ints, e, h.start, h.some, h.end))

none_wider : (first : ℤ) (ts : List Track) (items : List Item) → AreIn first 1 items → of_span ts items 2 ≡ []
none_wider first ts [] h = refl
none_wider first ts (i ∷ rest) h =
    ap (λ (b : Bool). cond (b && not (crosses_flexible ts i)) (i ∷ of_span ts rest 2) (of_span ts rest 2)) (one_only first i h.0) ∙ none_wider first ts rest h.1

pub few_spans : {axis : ℕ} (space : Space axis) (gap first : ℤ) (items : List Item) (ts : List Track) → AreIn first (length ts) items → length ts < 2 → ts ≡ spans_fitted space gap items (length ts) 2 ts
unfolding spans_fitted
few_spans space gap first items [] h l = refl
few_spans space gap first items (t ∷ []) h l = sym (ap (λ (xs : List Item). some_fitted space gap xs (t ∷ [])) (none_wider first (t ∷ []) items h))
few_spans space gap first items (t ∷ u ∷ rest) h l = absurd (omega arith)

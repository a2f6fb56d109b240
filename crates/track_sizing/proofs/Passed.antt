-- The steps for items that cross flexible tracks, where no flexible track has an intrinsic min function.
use Rattle.std.proofs.Common.{arith, ap, ◌≡◌, ◌∙◌, sym, refl, ℕ, ℤ, pos, ◌+ℤ◌, Bool, true, false, not, ◌&&◌, ◌||◌, List, [], ◌∷◌, ◌++◌, map, Option, Some, None, if◌then◌else◌}
use Rattle.std.specs.Prelude.{is_none, is_some}
use Rattle.std.specs.List.{list_any}
use Rattle.std.proofs.lemmas.Int.{ints, clamps}
use Rattle.lunit.specs.Units.{clamp}
use Rattle.lunit.specs.declared.item.Item.{Item}
use Rattle.part_rules.specs.Lists.{zipped}
use Rattle.part_rules.specs.declared.track.Least.{Least}
use Rattle.part_rules.specs.declared.track.Least.TheVariants as least
use Rattle.part_rules.specs.declared.track.Most.{Most}
use Rattle.part_rules.specs.declared.track.Most.TheVariants as most
use Rattle.part_rules.specs.declared.track.Space.{Space}
use Rattle.part_rules.specs.Tracks.{Track, BaseStep, LimitStep, affected_by, auto_asks, base_distributed, base_step, base_steps, counts_as_max_content, each_distributed, fixed_least, flexible, group_fitted, has_auto_or_max_content_least, has_content_least, has_intrinsic_least, has_intrinsic_most, has_max_content_least, has_max_content_most, high, high_limit_step, high_limits, in_group, is_auto_least, is_flexible, is_max_content, is_max_content_least, is_min_content_most, limit_distributed, limited, low, low_limit_step, low_limits, mark_endless, raise_limit, raised_base, raised_limit, raised_limit_by, spans, unmarked}
use Rattle.track_sizing.specs.Groups.{affecting, passed}
use Rattle.track_sizing.specs.Kinds.{affected_of}
use Rattle.track_sizing.specs.declared.kinds.Kind.TheVariants as kind
use Rattle.track_sizing.proofs.Groups.{Keeps}
use Rattle.track_sizing.proofs.Idle.{bases_unplanned, limits_unplanned}
use Rattle.track_sizing.proofs.Parted.{neither}

pub passed_keeps : Keeps passed
passed_keeps = record { at = λ t. refl; ready = λ t h. (h.0, omega (arith, ints)) }

-- ---- which tracks the steps affect

-- a flexible track with an intrinsic min function
abbrev crossed : Track → Bool
crossed = in_group true has_intrinsic_least

-- such tracks are all that a step affects
abbrev IsWithin : (Track → Bool) → Type 0
IsWithin p = (t : Track) → crossed t ≡ false → p t ≡ false

within_content : IsWithin (in_group true has_content_least)
within_content t h = go (has_intrinsic_least t) (not (is_auto_least t.rule.least)) h
  where
    go : (a b : Bool) → (a && (flexible t || not true)) ≡ false → ((a && b) && (flexible t || not true)) ≡ false
    go true true e = e
    go true false e = refl
    go false b e = refl

within_auto : IsWithin (in_group true has_auto_or_max_content_least)
within_auto t h = go t.rule.least h
  where
    go : (l : Least) → (is_none (fixed_least l) && (flexible t || not true)) ≡ false → ((is_auto_least l || is_max_content_least l) && (flexible t || not true)) ≡ false
    go (least.Fixed x) e = refl
    go least.MinContent e = refl
    go least.MaxContent e = e
    go least.Auto e = e

within_max : IsWithin (in_group true has_max_content_least)
within_max t h = go t.rule.least h
  where
    go : (l : Least) → (is_none (fixed_least l) && (flexible t || not true)) ≡ false → (is_max_content_least l && (flexible t || not true)) ≡ false
    go (least.Fixed x) e = refl
    go least.MinContent e = refl
    go least.MaxContent e = e
    go least.Auto e = refl

-- A flexible max function is not intrinsic.
not_intrinsic : (t : Track) → in_group true has_intrinsic_most t ≡ false
not_intrinsic t = go t.rule.most
  where
    go : (m : Most) → ((is_min_content_most m || counts_as_max_content m) && (is_flexible m || not true)) ≡ false
    go (most.Fixed x) = refl
    go most.MinContent = refl
    go most.MaxContent = refl
    go most.Auto = refl
    go (most.Fit x) = refl
    go (most.Flex w) = refl

not_max : (t : Track) → in_group true has_max_content_most t ≡ false
not_max t = go t.rule.most
  where
    go : (m : Most) → (counts_as_max_content m && (is_flexible m || not true)) ≡ false
    go (most.Fixed x) = refl
    go most.MinContent = refl
    go most.MaxContent = refl
    go most.Auto = refl
    go (most.Fit x) = refl
    go (most.Flex w) = refl

none_within : (p : Track → Bool) (ts : List Track) → IsWithin p → list_any crossed ts ≡ false → list_any p ts ≡ false
none_within p [] w e = refl
none_within p (t ∷ ts) w e =
    let one = neither (crossed t) (list_any crossed ts) e in
    ap (λ (b : Bool). b || list_any p ts) (w t one.0) ∙ none_within p ts w one.1

none_at_all : (p : Track → Bool) (ts : List Track) → ((t : Track) → p t ≡ false) → list_any p ts ≡ false
none_at_all p [] w = refl
none_at_all p (t ∷ ts) w = ap (λ (b : Bool). b || list_any p ts) (w t) ∙ none_at_all p ts w

-- ---- base sizes

raised_any : (ts : List Track) → list_any crossed (map raised_base ts) ≡ list_any crossed ts
raised_any [] = refl
raised_any (t ∷ ts) = ap (λ (b : Bool). crossed t || b) (raised_any ts)

raised_once : (t : Track) → raised_base (raised_base t) ≡ raised_base t
unfolding clamp
raised_once t =
    let same : clamp (clamp (t.base +ℤ t.planned) +ℤ pos 0) ≡ clamp (t.base +ℤ t.planned) = omega (arith, ints, clamps) in
    ap (λ (z : ℤ). record t { base = z; planned = pos 0 }) same

all_once : (ts : List Track) → map raised_base (map raised_base ts) ≡ map raised_base ts
all_once [] = refl
all_once (t ∷ ts) = ap (λ (x : Track). x ∷ map raised_base (map raised_base ts)) (raised_once t) ∙ ap (λ (xs : List Track). raised_base t ∷ xs) (all_once ts)

abbrev AreWithin : List BaseStep → Type 0
AreWithin [] = Unit {0}
AreWithin (s ∷ rest) = IsWithin s.affected × AreWithin rest

one_raised : (s : BaseStep) (gap : ℤ) (items : List Item) (ts : List Track) → IsWithin s.affected → list_any crossed ts ≡ false → base_distributed s gap items ts ≡ map raised_base ts
one_raised s gap items ts w e = ap (map raised_base) (sym (bases_unplanned s gap items ts (none_within s.affected ts w e)))

more_raised : (steps : List BaseStep) (gap : ℤ) (items : List Item) (ts : List Track) → AreWithin steps → list_any crossed ts ≡ false → each_distributed steps gap items (map raised_base ts) ≡ map raised_base ts
more_raised [] gap items ts w e = refl
more_raised (s ∷ rest) gap items ts w e =
    ap (each_distributed rest gap items) (one_raised s gap items (map raised_base ts) w.0 (raised_any ts ∙ e) ∙ all_once ts) ∙ more_raised rest gap items ts w.1 e

-- the steps after the first
abbrev later : {axis : ℕ} → Space axis → ℤ → Bool → List BaseStep
later space gap max =
    base_step true has_content_least has_intrinsic_most (λ ts. low)
    ∷ (if max then base_step true has_auto_or_max_content_least has_max_content_most (limited gap high) ∷ [] else [])
    ++ base_step true has_max_content_least has_max_content_most (λ ts. high)
    ∷ []

later_within : {axis : ℕ} (space : Space axis) (gap : ℤ) (max : Bool) → AreWithin (later space gap max)
later_within space gap true = (within_content, (within_auto, (within_max, tt)))
later_within space gap false = (within_content, (within_max, tt))

-- ---- growth limits

none_by : (affected : Track → Bool) (items : List Item) (t : Track) → affected t ≡ false → list_any (λ i. affected_by affected i t) items ≡ false
none_by affected [] t e = refl
none_by affected (i ∷ rest) t e = ap (λ (b : Bool). (b && spans i t) || list_any (λ j. affected_by affected j t) rest) e ∙ none_by affected rest t e

none_raised : (affected : Track → Bool) (items : List Item) (ts : List Track) → ((t : Track) → affected t ≡ false) → map (raised_limit_by affected items) ts ≡ ts
none_raised affected items [] w = refl
none_raised affected items (t ∷ ts) w =
    ap (λ (b : Bool). (if b then raised_limit t else t) ∷ map (raised_limit_by affected items) ts) (none_by affected items t (w t)) ∙ ap (λ (xs : List Track). t ∷ xs) (none_raised affected items ts w)

no_limits : (s : LimitStep) (gap : ℤ) (items : List Item) (ts : List Track) → ((t : Track) → s.affected t ≡ false) → limit_distributed s gap items ts ≡ ts
no_limits s gap items ts w = ap (map (raised_limit_by s.affected items)) (sym (limits_unplanned s gap items ts (none_at_all s.affected ts w))) ∙ none_raised s.affected items ts w

pub no_mark : (t : Track) → mark_endless t t ≡ unmarked t
no_mark t = ap (λ (mark : Bool). record t { endless = mark }) (go t.limit)
  where
    go : (limit : Option ℤ) → (is_none limit && is_some limit) ≡ false
    go None = refl
    go (Some x) = refl

no_marks : (ts : List Track) → zipped mark_endless ts ts ≡ map unmarked ts
no_marks [] = refl
no_marks (t ∷ ts) = ap (λ (x : Track). x ∷ zipped mark_endless ts ts) (no_mark t) ∙ ap (λ (xs : List Track). unmarked t ∷ xs) (no_marks ts)

-- ---- all steps

all_passed : (ts : List Track) → map unmarked (map raise_limit (map raised_base ts)) ≡ map passed ts
all_passed [] = refl
all_passed (t ∷ ts) = ap (λ (xs : List Track). passed t ∷ xs) (all_passed ts)

bases_raised : {axis : ℕ} (space : Space axis) (gap : ℤ) (items : List Item) (ts : List Track) → list_any crossed ts ≡ false → each_distributed (base_steps space gap true) gap items ts ≡ map raised_base ts
bases_raised space gap items ts e =
    ap (each_distributed (later space gap (is_max_content space)) gap items) (one_raised (base_step true has_intrinsic_least has_intrinsic_most (auto_asks space gap)) gap items ts (λ t h. h) e)
    ∙ more_raised (later space gap (is_max_content space)) gap items ts (later_within space gap (is_max_content space)) e

pub group_passed : {axis : ℕ} (space : Space axis) (gap : ℤ) (items : List Item) (ts now : List Track) → now ≡ map passed ts → list_any (affected_of (affecting kind.IntrinsicLeast true)) ts ≡ false → now ≡ group_fitted space gap true items ts
unfolding group_fitted
group_passed space gap items ts now v e =
    let raised : List Track = map raise_limit (map raised_base ts) in
    v
    ∙ sym
    (
    ap (λ (xs : List Track). high_limits true gap items (low_limits true gap items (map raise_limit xs))) (bases_raised space gap items ts e)
    ∙ ap (λ (xs : List Track). high_limits true gap items (zipped mark_endless raised xs)) (no_limits (low_limit_step true) gap items raised not_intrinsic)
    ∙ ap (high_limits true gap items) (no_marks raised)
    ∙ no_limits (high_limit_step true) gap items (map unmarked raised) not_max
    ∙ all_passed ts
    )

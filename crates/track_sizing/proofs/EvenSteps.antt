-- Steps of a group whose items span all tracks, of which none has another function than `auto`: the greatest space that an item needs
-- counts, and goes to the tracks in equal parts.
use Rattle.std.proofs.Common.{arith, ap, ◌≡◌, ◌∙◌, sym, refl, suc, ◌-◌, ◌<◌, ◌≤◌, ℤ, pos, ◌+ℤ◌, ◌-ℤ◌, ◌*ℤ◌, ◌≤ℤ◌, Bool, true, false, not, ◌&&◌, ◌||◌, List, [], ◌∷◌, ◌++◌, map, take, length, Option, Some, None, if◌then◌else◌}
use Rattle.std.specs.Prelude.{is_none, option_map}
use Rattle.std.specs.Int.{int_max}
use Rattle.std.specs.List.{list_any}
use Rattle.std.specs.Ordering.{int_eq}
use Rattle.std.proofs.Math.ListN.{drop_of_length-le}
use Rattle.std.proofs.lemmas.Int.{ints, clamps}
use Rattle.std.proofs.lemmas.List.{append-nil, take_all}
use Rattle.lunit.specs.Units.{clamp}
use Rattle.lunit.specs.declared.item.Item.{Item}
use Rattle.lunit.specs.declared.item.Floor.{Floor}
use Rattle.lunit.specs.declared.item.Floor.TheVariants.{Known, Content}
use Rattle.part_rules.specs.declared.track.Least.{Least}
use Rattle.part_rules.specs.declared.track.Least.TheVariants as least
use Rattle.part_rules.specs.declared.track.Most.{Most}
use Rattle.part_rules.specs.declared.track.Most.TheVariants as most
use Rattle.part_rules.specs.declared.track.Rule.{Rule}
use Rattle.part_rules.specs.Lists.{at_most, sum_of, sum_of_known, zipped}
use Rattle.part_rules.specs.Sharing.{shares}
use Rattle.part_rules.specs.Tracks.{Track, BaseStep, LimitStep, base_of, base_planned_by, base_planned_by_all, base_so_far, base_to_limit, capped_most, fit_argument, fixed_most, flexible, in_turns, inner_gutters, is_auto_least, is_flexible, limit_of, limit_planned_by, limit_planned_by_all, limit_so_far, plan, span_length, up_to, without_end, lesser}
use Rattle.track_sizing.specs.declared.kinds.Affected.{Affected}
use Rattle.track_sizing.specs.declared.kinds.Kind.{Kind}
use Rattle.track_sizing.specs.declared.kinds.Kind.TheVariants as kind
use Rattle.track_sizing.specs.declared.item.Asks.{Asks}
use Rattle.track_sizing.specs.declared.item.Asks.TheVariants as asks
use Rattle.track_sizing.specs.declared.rooms.Rooms.TheVariants as rooms
use Rattle.track_sizing.specs.Alone.{plain_least}
use Rattle.track_sizing.specs.Even.{even_asks, even_shares, greatest_of, greatest_space, gutters_in, space_for}
use Rattle.track_sizing.specs.Groups.{affecting}
use Rattle.track_sizing.specs.Here.{asked_of, base_planned_of, capped_of, content_based_of, fixed_of, is_content_based_of, last_of, limit_planned_of, limit_room_of, minimum_by_of, needed_of, rises_of, room_of}
use Rattle.track_sizing.specs.Kinds.{affected_of}
use Rattle.track_sizing.specs.Ordered.{AreOf}
use Rattle.track_sizing.specs.Placed.{AreIn, AreReady, AreSet, IsIn, base_step_of, limit_step_in}
use Rattle.track_sizing.proofs.EvenShares.{even_length, given_even, plan_share, plan_twice, planned_evenly, planned_none, planned_shares}
use Rattle.track_sizing.proofs.Groups.{base_at, limit_at, ready_of}

-- ---- tracks that have no other function than `auto`

abbrev pub ArePlain : List Track → Type 0
ArePlain [] = Unit {0}
ArePlain (t ∷ ts) = ((t.rule.least ≡ least.Auto) × (t.rule.most ≡ most.Auto)) × ArePlain ts

-- a track with these functions
abbrev ruled : Track → Least → Most → Track
ruled t l m = let rule = record t.rule { least = l; most = m } in record t { rule = rule }

-- a step that affects such a track, and one that does not
abbrev pub Affects : Bool → Kind → Type 0
Affects b k = (t : Track) → affected_of (affecting k false) (ruled t least.Auto most.Auto) ≡ b

pub intrinsic_least : Affects true kind.IntrinsicLeast
intrinsic_least t = refl

pub content_least : Affects false kind.ContentLeast
content_least t = refl

pub auto_least : Affects true kind.AutoOrMaxContentLeast
auto_least t = refl

pub max_content_least : Affects false kind.MaxContentLeast
max_content_least t = refl

pub intrinsic_most : Affects true kind.IntrinsicMost
intrinsic_most t = refl

pub max_content_most : Affects true kind.MaxContentMost
max_content_most t = refl

pub affected_plain : (b : Bool) (k : Kind) (t : Track) → Affects b k → t.rule.least ≡ least.Auto → t.rule.most ≡ most.Auto → affected_of (affecting k false) t ≡ b
affected_plain b k t a e d =
    ap (λ (l : Least). affected_of (affecting k false) (ruled t l t.rule.most)) e
    ∙ ap (λ (m : Most). affected_of (affecting k false) (ruled t least.Auto m)) d
    ∙ a t

pub some_plain : (k : Kind) (ts : List Track) → Affects true k → ArePlain ts → 0 < length ts → list_any (affected_of (affecting k false)) ts ≡ true
some_plain k [] a p some = absurd (omega arith)
some_plain k (t ∷ ts) a p some = ap (λ (b : Bool). b || list_any (affected_of (affecting k false)) ts) (affected_plain true k t a p.0.0 p.0.1)

pub none_plain : (k : Kind) (ts : List Track) → Affects false k → ArePlain ts → list_any (affected_of (affecting k false)) ts ≡ false
none_plain k [] a p = refl
none_plain k (t ∷ ts) a p = ap (λ (b : Bool). b || list_any (affected_of (affecting k false)) ts) (affected_plain false k t a p.0.0 p.0.1) ∙ none_plain k ts a p.1

pub none_flexible : (ts : List Track) → ArePlain ts → list_any flexible ts ≡ false
none_flexible [] p = refl
none_flexible (t ∷ ts) p = ap (λ (m : Most). is_flexible m || list_any flexible ts) p.0.1 ∙ none_flexible ts p.1

-- a change that keeps how a track is sized, where it is, and what the item at hand gave it
pub record IsLike (f : Track → ℤ → Track) : Type 0 where
  pub rule : (t : Track) (z : ℤ) → (f t z).rule ≡ t.rule
  pub at : (t : Track) (z : ℤ) → (f t z).at ≡ t.at
  pub incurred : (t : Track) (z : ℤ) → (f t z).incurred ≡ t.incurred

pub plain_like : (f : Track → ℤ → Track) (ts : List Track) (zs : List ℤ) → IsLike f → ArePlain ts → ArePlain (zipped f ts zs)
plain_like f [] zs l p = tt
plain_like f (t ∷ ts) [] l p = tt
plain_like f (t ∷ ts) (z ∷ zs) l p = ((ap (λ (r : Rule). r.least) (l.rule t z) ∙ p.0.0, ap (λ (r : Rule). r.most) (l.rule t z) ∙ p.0.1), plain_like f ts zs l p.1)

pub nones_like : (f : Track → ℤ → Track) (ts : List Track) (zs : List ℤ) → length zs ≡ length ts → map without_end (zipped f ts zs) ≡ map without_end ts
nones_like f [] zs e = refl
nones_like f (t ∷ ts) [] e = absurd (omega arith)
nones_like f (t ∷ ts) (z ∷ zs) e = ap (λ (rs : List (Option ℤ)). None ∷ rs) (nones_like f ts zs (omega arith))

pub length_like : (f : Track → ℤ → Track) (ts : List Track) (zs : List ℤ) → length zs ≡ length ts → length (zipped f ts zs) ≡ length ts
length_like f [] zs e = refl
length_like f (t ∷ ts) [] e = absurd (omega arith)
length_like f (t ∷ ts) (z ∷ zs) e = ap suc (length_like f ts zs (omega arith))

pub share_like : IsLike plan_share
share_like = record { rule = λ t z. refl; at = λ t z. refl; incurred = λ t z. refl }

set_planned : (first : ℤ) (ts : List Track) (zs : List ℤ) → AreSet first ts → AreSet first (zipped plan_share ts zs)
set_planned first [] zs h = tt
set_planned first (t ∷ ts) [] h = tt
set_planned first (t ∷ ts) (z ∷ zs) h = ((h.0.0, (h.0.1.0, omega (arith, ints, clamps, h.0.1.1))), set_planned (first +ℤ pos 1) ts zs h.1)

same_sizes : (size : Track → ℤ) (ts : List Track) (zs : List ℤ) → ((t : Track) (z : ℤ) → size (plan_share t z) ≡ size t) → length zs ≡ length ts → map size (zipped plan_share ts zs) ≡ map size ts
same_sizes size [] zs k e = refl
same_sizes size (t ∷ ts) [] k e = absurd (omega arith)
same_sizes size (t ∷ ts) (z ∷ zs) k e = ap (λ (y : ℤ). y ∷ map size (zipped plan_share ts zs)) (k t z) ∙ ap (λ (ys : List ℤ). size t ∷ ys) (same_sizes size ts zs k (omega arith))

-- ---- what an item asks for

or_true : (b : Bool) → (b || true) ≡ true
or_true true = refl
or_true false = refl

abbrev has_auto : Track → Bool
has_auto t = is_auto_least t.rule.least

fixed_none : (t : Track) (ts : List Track) → t.rule.most ≡ most.Auto → fixed_of (t ∷ ts) ≡ None
fixed_none t ts d = ap (λ (m : Most). sum_of_known (fixed_most m ∷ map (λ (u : Track). fixed_most u.rule.most) ts)) d

capped_none : (t : Track) (ts : List Track) → t.rule.most ≡ most.Auto → capped_of (t ∷ ts) ≡ None
capped_none t ts d = ap (λ (m : Most). sum_of_known (capped_most m ∷ map (λ (u : Track). capped_most u.rule.most) ts)) d

content_plain : (t : Track) (ts : List Track) (i : Item) → ArePlain (t ∷ ts) → is_content_based_of (t ∷ ts) i ≡ true
content_plain t ts i p =
    ap (λ (l : Least). (is_auto_least l || list_any has_auto ts) && (int_eq (span_length i) (pos 1) || not (list_any flexible (t ∷ ts)))) p.0.0
    ∙ ap (λ (b : Bool). int_eq (span_length i) (pos 1) || not b) (none_flexible (t ∷ ts) p)
    ∙ or_true (int_eq (span_length i) (pos 1))

least_plain : (gap : ℤ) (t : Track) (ts : List Track) (i : Item) (f : Floor) → ArePlain (t ∷ ts) → minimum_by_of gap (t ∷ ts) i f ≡ plain_least f
least_plain gap t ts i (Known x) p = refl
least_plain gap t ts i (Content size margins inner) p =
    ap (λ (b : Bool). clamp (margins +ℤ int_max inner (if b then content_based_of gap (t ∷ ts) i size margins else pos 0))) (content_plain t ts i p)
    ∙ ap (λ (o : Option ℤ). clamp (margins +ℤ int_max inner (int_max (pos 0) (at_most (option_map (λ s. s -ℤ margins) (option_map (λ s. s +ℤ inner_gutters gap i) o)) size)))) (fixed_none t ts p.0.1)

pub asks_plain : (definite : Bool) (gap : ℤ) (k : Asks) (ts : List Track) (i : Item) → ArePlain ts → 0 < length ts → asked_of definite gap k ts i ≡ even_asks definite k i
asks_plain definite gap k [] i p some = absurd (omega arith)
asks_plain definite gap asks.Minimum (t ∷ ts) i p some =
    ap (λ (m : ℤ). if definite then m else int_max m (at_most (capped_of (t ∷ ts)) i.low)) (least_plain gap t ts i i.floor p)
    ∙ ap (λ (o : Option ℤ). if definite then plain_least i.floor else int_max (plain_least i.floor) (at_most o i.low)) (capped_none t ts p.0.1)
asks_plain definite gap asks.Low (t ∷ ts) i p some = refl
asks_plain definite gap asks.LimitedHigh (t ∷ ts) i p some =
    ap (λ (m : ℤ). int_max m (at_most (capped_of (t ∷ ts)) i.high)) (least_plain gap t ts i i.floor p)
    ∙ ap (λ (o : Option ℤ). int_max (plain_least i.floor) (at_most o i.high)) (capped_none t ts p.0.1)
asks_plain definite gap asks.High (t ∷ ts) i p some = refl

-- ---- the space that it needs

pub space_some : (x : ℤ) → pos 0 ≤ℤ clamp (int_max (pos 0) x)
unfolding clamp
space_some x = omega (arith, ints, clamps)

needed_same : (definite : Bool) (k : Asks) (size : Track → ℤ) (gap asked : ℤ) (i : Item) (ts us : List Track) → asked ≡ even_asks definite k i → map size us ≡ map size ts → span_length i ≡ pos (length ts) → 0 < length ts
    → needed_of size gap asked us i ≡ space_for definite k (sum_of (map size ts)) (gutters_in gap ts) i
needed_same definite k size gap asked i ts us a s e some =
    let between : span_length i -ℤ pos 1 ≡ pos (length ts - 1) = omega (arith, ints, e, some) in
    ap (λ (z : ℤ). clamp (int_max (pos 0) (z -ℤ sum_of (map size us) -ℤ inner_gutters gap i))) a
    ∙ ap (λ (zs : List ℤ). clamp (int_max (pos 0) (even_asks definite k i -ℤ sum_of zs -ℤ inner_gutters gap i))) s
    ∙ ap (λ (z : ℤ). clamp (int_max (pos 0) (even_asks definite k i -ℤ sum_of (map size ts) -ℤ gap *ℤ z))) between

-- ---- an item over all tracks

base_all : (k : Kind) (receives : Kind) (definite : Bool) (gap : ℤ) (a : Asks) (i : Item) (first : ℤ) (ts : List Track) → AreSet first ts → i.span.start ≡ first → i.span.end ≡ first +ℤ pos (length ts)
    → base_planned_by (base_step_of (affecting k false) receives definite gap a) gap ts i ≡ base_planned_of (affecting k false) receives definite gap a i ts
base_all k receives definite gap a i first ts set s e =
    let f : List Track → List Track = base_planned_of (affecting k false) receives definite gap a i in
    let whole : length ts ≤ length ts = omega arith in
    base_at (affecting k false) receives definite gap a i first ts 0 (length ts) set (omega (arith, ints, s)) (omega (arith, ints, s, e))
    ∙ ap (λ (xs : List Track). f (take (length ts) ts) ++ xs) (drop_of_length-le ts whole)
    ∙ append-nil (f (take (length ts) ts))
    ∙ ap f (take_all (length ts) ts whole)

limit_all : (k : Kind) (second : Bool) (gap : ℤ) (i : Item) (first : ℤ) (ts : List Track) → AreSet first ts → i.span.start ≡ first → i.span.end ≡ first +ℤ pos (length ts)
    → limit_planned_by (limit_step_in (affecting k false) second) gap ts i ≡ limit_planned_of (affecting k false) second gap i ts
limit_all k second gap i first ts set s e =
    let f : List Track → List Track = limit_planned_of (affecting k false) second gap i in
    let whole : length ts ≤ length ts = omega arith in
    limit_at (affecting k false) second gap i first ts 0 (length ts) set (omega (arith, ints, s)) (omega (arith, ints, s, e))
    ∙ ap (λ (xs : List Track). f (take (length ts) ts) ++ xs) (drop_of_length-le ts whole)
    ∙ append-nil (f (take (length ts) ts))
    ∙ ap f (take_all (length ts) ts whole)

-- what is planned where some track is affected and all have room without end
planned_all : (room : Track → Option ℤ) (rest : List (Track → Option ℤ)) (any : Bool) (space : ℤ) (ts : List Track) → any ≡ true → map room ts ≡ map without_end ts → pos 0 ≤ℤ space → 0 < length ts → AreReady ts
    → (if any then map plan (in_turns (room ∷ rest) space ts) else ts) ≡ zipped plan_share ts (even_shares space ts)
planned_all room rest any space ts a e h some ready =
    ap (λ (b : Bool). if b then map plan (in_turns (room ∷ rest) space ts) else ts) a
    ∙ ap (map plan) (given_even room rest space ts e h some)
    ∙ planned_shares ts (even_shares space ts) ready

-- ---- rooms without end

-- tracks without a growth limit, and tracks that are infinitely growable
abbrev pub HaveNoLimits : List Track → Type 0
HaveNoLimits [] = Unit {0}
HaveNoLimits (t ∷ ts) = (t.limit ≡ None) × HaveNoLimits ts

abbrev pub AreEndless : List Track → Type 0
AreEndless [] = Unit {0}
AreEndless (t ∷ ts) = (t.endless ≡ true) × AreEndless ts

no_limits_planned : (ts : List Track) (zs : List ℤ) → HaveNoLimits ts → HaveNoLimits (zipped plan_share ts zs)
no_limits_planned [] zs h = tt
no_limits_planned (t ∷ ts) [] h = tt
no_limits_planned (t ∷ ts) (z ∷ zs) h = (h.0, no_limits_planned ts zs h.1)

endless_planned : (ts : List Track) (zs : List ℤ) → AreEndless ts → AreEndless (zipped plan_share ts zs)
endless_planned [] zs h = tt
endless_planned (t ∷ ts) [] h = tt
endless_planned (t ∷ ts) (z ∷ zs) h = (h.0, endless_planned ts zs h.1)

room_base : (k : Kind) (t : Track) → Affects true k → t.rule.least ≡ least.Auto → t.rule.most ≡ most.Auto → t.limit ≡ None → room_of (rooms.ToLimit (affecting k false)) t ≡ None
room_base k t a e d l =
    ap (λ (b : Bool). if b then base_to_limit t else Some (pos 0)) (affected_plain true k t a e d)
    ∙ ap (λ (o : Option ℤ). lesser (up_to (base_so_far t) o) (up_to (base_so_far t) (fit_argument t.rule.most))) l
    ∙ ap (λ (m : Most). lesser (up_to (base_so_far t) None) (up_to (base_so_far t) (fit_argument m))) d

rooms_base : (k : Kind) (ts : List Track) → Affects true k → ArePlain ts → HaveNoLimits ts → map (room_of (rooms.ToLimit (affecting k false))) ts ≡ map without_end ts
rooms_base k [] a p l = refl
rooms_base k (t ∷ ts) a p l =
    ap (λ (r : Option ℤ). r ∷ map (room_of (rooms.ToLimit (affecting k false))) ts) (room_base k t a p.0.0 p.0.1 l.0)
    ∙ ap (λ (rs : List (Option ℤ)). None ∷ rs) (rooms_base k ts a p.1 l.1)

room_low : (t : Track) → t.rule.least ≡ least.Auto → t.rule.most ≡ most.Auto → t.limit ≡ None → room_of (rooms.Rising (affecting kind.IntrinsicMost false) false) t ≡ None
room_low t e d l =
    ap (λ (b : Bool). if b then (if rises_of false t then limit_room_of false t else Some (pos 0)) else Some (pos 0)) (affected_plain true kind.IntrinsicMost t intrinsic_most e d)
    ∙ ap (λ (o : Option ℤ). if is_none o then limit_room_of false t else Some (pos 0)) l

rooms_low : (ts : List Track) → ArePlain ts → HaveNoLimits ts → map (room_of (rooms.Rising (affecting kind.IntrinsicMost false) false)) ts ≡ map without_end ts
rooms_low [] p l = refl
rooms_low (t ∷ ts) p l =
    ap (λ (r : Option ℤ). r ∷ map (room_of (rooms.Rising (affecting kind.IntrinsicMost false) false)) ts) (room_low t p.0.0 p.0.1 l.0)
    ∙ ap (λ (rs : List (Option ℤ)). None ∷ rs) (rooms_low ts p.1 l.1)

room_high : (t : Track) → t.rule.least ≡ least.Auto → t.rule.most ≡ most.Auto → t.endless ≡ true → room_of (rooms.Rising (affecting kind.MaxContentMost false) true) t ≡ None
room_high t e d l =
    ap (λ (b : Bool). if b then (if rises_of true t then limit_room_of true t else Some (pos 0)) else Some (pos 0)) (affected_plain true kind.MaxContentMost t max_content_most e d)
    ∙ ap (λ (b : Bool). if is_none t.limit || b then limit_room_of true t else Some (pos 0)) l
    ∙ ap (λ (b : Bool). if b then limit_room_of true t else Some (pos 0)) (or_true (is_none t.limit))
    ∙ ap (λ (m : Most). up_to (limit_so_far t) (fit_argument m)) d

rooms_high : (ts : List Track) → ArePlain ts → AreEndless ts → map (room_of (rooms.Rising (affecting kind.MaxContentMost false) true)) ts ≡ map without_end ts
rooms_high [] p l = refl
rooms_high (t ∷ ts) p l =
    ap (λ (r : Option ℤ). r ∷ map (room_of (rooms.Rising (affecting kind.MaxContentMost false) true)) ts) (room_high t p.0.0 p.0.1 l.0)
    ∙ ap (λ (rs : List (Option ℤ)). None ∷ rs) (rooms_high ts p.1 l.1)

-- ---- one item

-- Tracks of which so much is planned, with an item that spans all of them.
record IsPlannedOver (first : ℤ) (ts us : List Track) (i : Item) : Type 0 where
  set : AreSet first us
  plain : ArePlain us
  some : 0 < length us
  nones : map without_end us ≡ map without_end ts
  start : i.span.start ≡ first
  end : i.span.end ≡ first +ℤ pos (length us)

planned_over : (first space : ℤ) (ts : List Track) (i : Item) → AreSet first ts → ArePlain ts → 0 < length ts → IsIn first (length ts) i → span_length i ≡ pos (length ts) → IsPlannedOver first ts (planned_evenly space ts) i
planned_over first space ts i set plain some at e =
    let zs : List ℤ = even_shares space ts in
    let same : length (zipped plan_share ts zs) ≡ length ts = length_like plan_share ts zs (even_length space ts) in
    record {
      set = set_planned first ts zs set;
      plain = plain_like plan_share ts zs share_like plain;
      some = omega (arith, same, some);
      nones = nones_like plan_share ts zs (even_length space ts);
      start = omega (arith, ints, at.start, at.end, e);
      end = omega (arith, ints, at.start, at.end, e, same);
    }

one_base : (k receives : Kind) (definite : Bool) (gap : ℤ) (a : Asks) (i : Item) (first space : ℤ) (ts : List Track) → Affects true k → AreSet first ts → ArePlain ts → HaveNoLimits ts → 0 < length ts → IsIn first (length ts) i → span_length i ≡ pos (length ts)
    → base_planned_by (base_step_of (affecting k false) receives definite gap a) gap (planned_evenly space ts) i
    ≡ zipped plan_share (planned_evenly space ts) (even_shares (space_for definite a (sum_of (map base_of ts)) (gutters_in gap ts) i) ts)
one_base k receives definite gap a i first space ts affects set plain limits some at e =
    let us : List Track = planned_evenly space ts in
    let over : IsPlannedOver first ts us i = planned_over first space ts i set plain some at e in
    let asked : ℤ = asked_of definite gap a us i in
    let rest : List (Track → Option ℤ) = rest_of (affecting k false) receives us in
    base_all k receives definite gap a i first us over.set over.start over.end
    ∙ planned_all (room_of (rooms.ToLimit (affecting k false))) rest (list_any (affected_of (affecting k false)) us) (needed_of base_of gap asked us i) us
    (some_plain k us affects over.plain over.some) (rooms_base k us affects over.plain (no_limits_planned ts (even_shares space ts) limits))
    (space_some (asked -ℤ sum_of (map base_of us) -ℤ inner_gutters gap i)) over.some (ready_of first us over.set)
    ∙ ap (λ (rs : List (Option ℤ)). zipped plan_share us (shares (needed_of base_of gap asked us i) rs)) over.nones
    ∙ ap (λ (z : ℤ). zipped plan_share us (even_shares z ts))
    (needed_same definite a base_of gap asked i ts us (asks_plain definite gap a us i over.plain over.some) (same_sizes base_of ts (even_shares space ts) (λ t z. refl) (even_length space ts)) e some)
  where
    rest_of : Affected → Kind → List Track → List (Track → Option ℤ)
    rest_of f r us = room_of (rooms.Others f) ∷ room_of (rooms.ToArgument f r) ∷ room_of (last_of f r us) ∷ []

-- the same for growth limits, by whether all have room without end
one_limit : (k : Kind) (second : Bool) (gap : ℤ) (i : Item) (first space : ℤ) (ts : List Track) → Affects true k → AreSet first ts → ArePlain ts → 0 < length ts → IsIn first (length ts) i → span_length i ≡ pos (length ts)
    → map (room_of (rooms.Rising (affecting k false) second)) (planned_evenly space ts) ≡ map without_end (planned_evenly space ts)
    → limit_planned_by (limit_step_in (affecting k false) second) gap (planned_evenly space ts) i
    ≡ zipped plan_share (planned_evenly space ts) (even_shares (space_for true (if second then asks.High else asks.Low) (sum_of (map limit_of ts)) (gutters_in gap ts) i) ts)
one_limit k second gap i first space ts affects set plain some at e free =
    let us : List Track = planned_evenly space ts in
    let over : IsPlannedOver first ts us i = planned_over first space ts i set plain some at e in
    let asked : ℤ = if second then i.high else i.low in
    limit_all k second gap i first us over.set over.start over.end
    ∙ planned_all (room_of (rooms.Rising (affecting k false) second)) (room_of (rooms.ToEnd (affecting k false) second) ∷ []) (list_any (affected_of (affecting k false)) us) (needed_of limit_of gap asked us i) us
    (some_plain k us affects over.plain over.some) free (space_some (asked -ℤ sum_of (map limit_of us) -ℤ inner_gutters gap i)) over.some (ready_of first us over.set)
    ∙ ap (λ (rs : List (Option ℤ)). zipped plan_share us (shares (needed_of limit_of gap asked us i) rs)) over.nones
    ∙ ap (λ (z : ℤ). zipped plan_share us (even_shares z ts))
    (needed_same true (if second then asks.High else asks.Low) limit_of gap asked i ts us (asked_is second) (same_sizes limit_of ts (even_shares space ts) (λ t z. refl) (even_length space ts)) e some)
  where
    asked_is : (b : Bool) → (if b then i.high else i.low) ≡ even_asks true (if b then asks.High else asks.Low) i
    asked_is true = refl
    asked_is false = refl

-- ---- all items

abbrev folded : (List Track → Item → List Track) → List Item → List Track → List Track
folded step [] ts = ts
folded step (i ∷ rest) ts = folded step rest (step ts i)

-- Each item plans its space, whatever is planned before it.
abbrev Plans : (List Track → Item → List Track) → (Item → ℤ) → List Track → List Item → Type 0
Plans step f ts [] = Unit {0}
Plans step f ts (i ∷ rest) = ((space : ℤ) → step (planned_evenly space ts) i ≡ zipped plan_share (planned_evenly space ts) (even_shares (f i) ts)) × Plans step f ts rest

folded_even : (step : List Track → Item → List Track) (f : Item → ℤ) (ts : List Track) (items : List Item) (best : ℤ) → Plans step f ts items → ((i : Item) → pos 0 ≤ℤ f i) → pos 0 ≤ℤ best → 0 < length ts
    → folded step items (planned_evenly best ts) ≡ planned_evenly (greatest_of f best items) ts
folded_even step f ts [] best w p h some = refl
folded_even step f ts (i ∷ rest) best w p h some =
    ap (folded step rest) (w.0 best ∙ plan_twice best (f i) ts h (p i) some)
    ∙ folded_even step f ts rest (int_max (f i) best) w.1 p (omega (arith, ints, clamps, p i, h)) some

bases_folded : (s : BaseStep) (gap : ℤ) (items : List Item) (ts : List Track) → base_planned_by_all s gap items ts ≡ folded (base_planned_by s gap) items ts
bases_folded s gap [] ts = refl
bases_folded s gap (i ∷ rest) ts = bases_folded s gap rest (base_planned_by s gap ts i)

limits_folded : (s : LimitStep) (gap : ℤ) (items : List Item) (ts : List Track) → limit_planned_by_all s gap items ts ≡ folded (limit_planned_by s gap) items ts
limits_folded s gap [] ts = refl
limits_folded s gap (i ∷ rest) ts = limits_folded s gap rest (limit_planned_by s gap ts i)

base_plans : (k receives : Kind) (definite : Bool) (gap : ℤ) (a : Asks) (first : ℤ) (ts : List Track) (items : List Item) → Affects true k → AreSet first ts → ArePlain ts → HaveNoLimits ts → 0 < length ts → AreIn first (length ts) items → AreOf (pos (length ts)) items
    → Plans (base_planned_by (base_step_of (affecting k false) receives definite gap a) gap) (space_for definite a (sum_of (map base_of ts)) (gutters_in gap ts)) ts items
base_plans k receives definite gap a first ts [] affects set plain limits some at e = tt
base_plans k receives definite gap a first ts (i ∷ rest) affects set plain limits some at e =
    (λ space. one_base k receives definite gap a i first space ts affects set plain limits some at.0 e.0, base_plans k receives definite gap a first ts rest affects set plain limits some at.1 e.1)

limit_plans : (k : Kind) (second : Bool) (gap first : ℤ) (ts : List Track) (items : List Item) → Affects true k → AreSet first ts → ArePlain ts → 0 < length ts → AreIn first (length ts) items → AreOf (pos (length ts)) items
    → ((space : ℤ) → map (room_of (rooms.Rising (affecting k false) second)) (planned_evenly space ts) ≡ map without_end (planned_evenly space ts))
    → Plans (limit_planned_by (limit_step_in (affecting k false) second) gap) (space_for true (if second then asks.High else asks.Low) (sum_of (map limit_of ts)) (gutters_in gap ts)) ts items
limit_plans k second gap first ts [] affects set plain some at e free = tt
limit_plans k second gap first ts (i ∷ rest) affects set plain some at e free =
    (λ space. one_limit k second gap i first space ts affects set plain some at.0 e.0 (free space), limit_plans k second gap first ts rest affects set plain some at.1 e.1 free)

-- What a step on base sizes plans.
pub bases_planned : (k receives : Kind) (definite : Bool) (gap : ℤ) (a : Asks) (first : ℤ) (ts : List Track) (items : List Item) → Affects true k → AreSet first ts → ArePlain ts → HaveNoLimits ts → 0 < length ts → AreIn first (length ts) items → AreOf (pos (length ts)) items
    → base_planned_by_all (base_step_of (affecting k false) receives definite gap a) gap items ts ≡ planned_evenly (greatest_space definite a base_of gap items ts) ts
bases_planned k receives definite gap a first ts items affects set plain limits some at e =
    let step : List Track → Item → List Track = base_planned_by (base_step_of (affecting k false) receives definite gap a) gap in
    let f : Item → ℤ = space_for definite a (sum_of (map base_of ts)) (gutters_in gap ts) in
    bases_folded (base_step_of (affecting k false) receives definite gap a) gap items ts
    ∙ ap (folded step items) (sym (planned_none ts (ready_of first ts set)))
    ∙ folded_even step f ts items (pos 0) (base_plans k receives definite gap a first ts items affects set plain limits some at e) (λ i. space_some (even_asks definite a i -ℤ sum_of (map base_of ts) -ℤ gutters_in gap ts)) (omega (arith, ints)) some

limits_planned : (k : Kind) (second : Bool) (gap first : ℤ) (ts : List Track) (items : List Item) → Affects true k → AreSet first ts → ArePlain ts → 0 < length ts → AreIn first (length ts) items → AreOf (pos (length ts)) items
    → ((space : ℤ) → map (room_of (rooms.Rising (affecting k false) second)) (planned_evenly space ts) ≡ map without_end (planned_evenly space ts))
    → limit_planned_by_all (limit_step_in (affecting k false) second) gap items ts ≡ planned_evenly (greatest_space true (if second then asks.High else asks.Low) limit_of gap items ts) ts
limits_planned k second gap first ts items affects set plain some at e free =
    let a : Asks = if second then asks.High else asks.Low in
    let step : List Track → Item → List Track = limit_planned_by (limit_step_in (affecting k false) second) gap in
    let f : Item → ℤ = space_for true a (sum_of (map limit_of ts)) (gutters_in gap ts) in
    limits_folded (limit_step_in (affecting k false) second) gap items ts
    ∙ ap (folded step items) (sym (planned_none ts (ready_of first ts set)))
    ∙ folded_even step f ts items (pos 0) (limit_plans k second gap first ts items affects set plain some at e free) (λ i. space_some (even_asks true a i -ℤ sum_of (map limit_of ts) -ℤ gutters_in gap ts)) (omega (arith, ints)) some

pub lows_planned : (gap first : ℤ) (ts : List Track) (items : List Item) → AreSet first ts → ArePlain ts → HaveNoLimits ts → 0 < length ts → AreIn first (length ts) items → AreOf (pos (length ts)) items
    → limit_planned_by_all (limit_step_in (affecting kind.IntrinsicMost false) false) gap items ts ≡ planned_evenly (greatest_space true asks.Low limit_of gap items ts) ts
lows_planned gap first ts items set plain limits some at e =
    limits_planned kind.IntrinsicMost false gap first ts items intrinsic_most set plain some at e
    (λ space. rooms_low (planned_evenly space ts) (plain_like plan_share ts (even_shares space ts) share_like plain) (no_limits_planned ts (even_shares space ts) limits))

pub highs_planned : (gap first : ℤ) (ts : List Track) (items : List Item) → AreSet first ts → ArePlain ts → AreEndless ts → 0 < length ts → AreIn first (length ts) items → AreOf (pos (length ts)) items
    → limit_planned_by_all (limit_step_in (affecting kind.MaxContentMost false) true) gap items ts ≡ planned_evenly (greatest_space true asks.High limit_of gap items ts) ts
highs_planned gap first ts items set plain ends some at e =
    limits_planned kind.MaxContentMost true gap first ts items max_content_most set plain some at e
    (λ space. rooms_high (planned_evenly space ts) (plain_like plan_share ts (even_shares space ts) share_like plain) (endless_planned ts (even_shares space ts) ends))

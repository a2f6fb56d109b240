-- What an item makes of the track that it spans alone, by that track alone.
use Rattle.std.proofs.Common.{arith, ap, subst, ◌≡◌, ◌∙◌, sym, refl, true≢false, ℕ, zero, suc, ◌<◌, ℤ, pos, ◌+ℤ◌, ◌-ℤ◌, ◌*ℤ◌, Bool, true, false, not, ◌&&◌, ◌||◌, List, [], ◌∷◌, map, take, length, get_or, Option, Some, None, if◌then◌else◌}
use Rattle.std.specs.Int.{int_max, int_min}
use Rattle.std.specs.List.{list_any}
use Rattle.std.specs.Option.{option_map}
use Rattle.std.specs.Ordering.{int_eq}
use Rattle.std.proofs.lemmas.Int.{ints, clamps}
use Rattle.lunit.specs.Units.{IsUnits, clamp}
use Rattle.lunit.specs.declared.item.Item.{Item}
use Rattle.lunit.specs.declared.item.Floor.{Floor}
use Rattle.lunit.specs.declared.item.Floor.TheVariants.{Known, Content}
use Rattle.part_rules.specs.declared.track.Least.{Least}
use Rattle.part_rules.specs.declared.track.Least.TheVariants as least
use Rattle.part_rules.specs.declared.track.Most.{Most}
use Rattle.part_rules.specs.declared.track.Most.TheVariants as most
use Rattle.part_rules.specs.declared.track.Space.{Space}
use Rattle.part_rules.specs.Lists.{at_most, sum_of_known}
use Rattle.part_rules.specs.Tracks.{Track, auto_asks, capped_most, content_based, crosses_flexible, fixed_most, fixed_sum, flexible, inner_gutters, is_auto_least, is_auto_most, is_content_based, is_flexible, is_definite, minimum, minimum_by, span_length, spanned}
use Rattle.track_sizing.specs.declared.alone.Single.{Single}
use Rattle.track_sizing.specs.Alone.{base_alone, base_more, is_special, limit_ask, plain_asks, plain_least, single_alone, single_asks, single_content, single_least, single_more, single_plain}
use Rattle.track_sizing.specs.Placed.{AreSet}
use Rattle.track_sizing.proofs.Order.{is_it, that_number}
use Rattle.track_sizing.proofs.Parted.{neither}
use Rattle.track_sizing.proofs.Singles.{spanned_at}
use Rattle.track_sizing.proofs.Sums.{drop_item}

-- an item that spans this track alone
pub record IsAlone (ts : List Track) (i : Item) (t : Track) : Type 0 where
  pub own : spanned i ts ≡ t ∷ []
  pub one : span_length i ≡ pos 1

one_known : (o : Option ℤ) → sum_of_known (o ∷ []) ≡ o
one_known None = refl
one_known (Some x) = ap Some (omega (arith, ints))

no_more : (o : Option ℤ) (g : ℤ) → g ≡ pos 0 → option_map (λ s. s +ℤ g) o ≡ o
no_more None g e = refl
no_more (Some x) g e = ap Some (omega (arith, ints, e))

no_gutters : (gap z : ℤ) → z ≡ pos 1 → gap *ℤ (z -ℤ pos 1) ≡ pos 0
no_gutters gap z e =
    let none : z -ℤ pos 1 ≡ pos 0 = omega (arith, ints, e) in
    let product : gap *ℤ pos 0 ≡ pos 0 = omega (arith, ints) in
    ap (λ (x : ℤ). gap *ℤ x) none ∙ product

fixed_is : (gap : ℤ) (ts : List Track) (i : Item) (t : Track) → IsAlone ts i t → fixed_sum gap ts i ≡ fixed_most t.rule.most
fixed_is gap ts i t h =
    ap (λ (xs : List Track). option_map (λ s. s +ℤ inner_gutters gap i) (sum_of_known (map (λ (u : Track). fixed_most u.rule.most) xs))) h.own
    ∙ ap (option_map (λ s. s +ℤ inner_gutters gap i)) (one_known (fixed_most t.rule.most))
    ∙ no_more (fixed_most t.rule.most) (inner_gutters gap i) (no_gutters gap (span_length i) h.one)

is_based : (ts : List Track) (i : Item) (t : Track) → IsAlone ts i t → t.rule.least ≡ least.Auto → is_content_based ts i ≡ true
is_based ts i t h e =
    ap (λ (xs : List Track). list_any (λ (u : Track). is_auto_least u.rule.least) xs && (int_eq (span_length i) (pos 1) || not (crosses_flexible ts i))) h.own
    ∙ ap (λ (l : Least). (is_auto_least l || false) && (int_eq (span_length i) (pos 1) || not (crosses_flexible ts i))) e
    ∙ ap (λ (b : Bool). b || not (crosses_flexible ts i)) (is_it (span_length i) (pos 1) h.one)

least_is : (gap : ℤ) (ts : List Track) (i : Item) (t : Track) (f : Floor) → IsAlone ts i t → t.rule.least ≡ least.Auto → minimum_by gap ts i f ≡ single_least t.rule.most f
least_is gap ts i t (Known x) h e = refl
least_is gap ts i t (Content size margins inner) h e =
    ap (λ (b : Bool). clamp (margins +ℤ int_max inner (if b then content_based gap ts i size margins else pos 0))) (is_based ts i t h e)
    ∙ ap (λ (o : Option ℤ). clamp (margins +ℤ int_max inner (int_max (pos 0) (at_most (option_map (λ s. s -ℤ margins) o) size)))) (fixed_is gap ts i t h)

pub asks_are : {axis : ℕ} (space : Space axis) (gap : ℤ) (ts : List Track) (i : Item) (t : Track) → IsAlone ts i t → t.rule.least ≡ least.Auto → single_asks (is_definite space) t.rule.most i ≡ auto_asks space gap ts i
asks_are space gap ts i t h e = go (is_definite space)
  where
    same : minimum gap ts i ≡ single_least t.rule.most i.floor
    same = least_is gap ts i t i.floor h e

    go : (b : Bool) → (if b then single_least t.rule.most i.floor else int_max (single_least t.rule.most i.floor) (at_most (capped_most t.rule.most) i.low))
        ≡ (if b then minimum gap ts i else int_max (minimum gap ts i) (at_most (sum_of_known (map (λ (u : Track). capped_most u.rule.most) (spanned i ts))) i.low))
    go true = sym same
    go false =
        sym
        (
        ap (λ (z : ℤ). int_max z (at_most (sum_of_known (map (λ (u : Track). capped_most u.rule.most) (spanned i ts))) i.low)) same
        ∙ ap (λ (xs : List Track). int_max (single_least t.rule.most i.floor) (at_most (sum_of_known (map (λ (u : Track). capped_most u.rule.most) xs)) i.low)) h.own
        ∙ ap (λ (o : Option ℤ). int_max (single_least t.rule.most i.floor) (at_most o i.low)) (one_known (capped_most t.rule.most))
        )

base_is : {axis : ℕ} (space : Space axis) (gap : ℤ) (ts : List Track) (i : Item) (t : Track) (base : ℤ) (l : Least) → IsAlone ts i t → t.rule.least ≡ l → base_alone (is_definite space) l t.rule.most i base ≡ base_more space gap ts i l base
base_is space gap ts i t base (least.Fixed x) h e = refl
base_is space gap ts i t base least.MinContent h e = refl
base_is space gap ts i t base least.MaxContent h e = refl
base_is space gap ts i t base least.Auto h e = ap (λ (z : ℤ). int_max z base) (asks_are space gap ts i t h e)

ended_by : (fixed : Option ℤ) (size margins : ℤ) → IsUnits size → int_max (pos 0) (at_most (option_map (λ x. clamp (x -ℤ margins)) fixed) size) ≡ int_max (pos 0) (at_most (option_map (λ x. x -ℤ margins) fixed) size)
unfolding clamp
ended_by None size margins u = refl
ended_by (Some x) size margins u = omega (arith, ints, clamps, u.0, u.1)

pub content_some : (m : Most) (x size margins units none ended least now : ℤ) → fixed_most m ≡ Some x → units ≡ size → IsUnits units → none ≡ pos 0 → ended ≡ clamp (x -ℤ margins) → least ≡ int_min ended size → now ≡ int_max none least → now ≡ single_content m size margins
content_some m x size margins units none ended least now f e u z d l v =
    v ∙ ap (λ (y : ℤ). int_max y least) z ∙ ap (int_max (pos 0)) (l ∙ ap (λ (y : ℤ). int_min y size) d) ∙ ended_by (Some x) size margins (subst IsUnits e u)
    ∙ ap (λ (o : Option ℤ). int_max (pos 0) (at_most (option_map (λ y. y -ℤ margins) o) size)) (sym f)

pub content_none : (m : Most) (size margins none now : ℤ) → fixed_most m ≡ None → none ≡ pos 0 → now ≡ int_max none size → now ≡ single_content m size margins
content_none m size margins none now f z v = v ∙ ap (λ (y : ℤ). int_max y size) z ∙ ap (λ (o : Option ℤ). int_max (pos 0) (at_most (option_map (λ y. y -ℤ margins) o) size)) (sym f)

pub ruleset content_by = (content_some, content_none)

pub alone_is : {axis : ℕ} (space : Space axis) (gap first : ℤ) (ts : List Track) (i : Item) (at : ℕ) (t : Track) (s : Single) → AreSet first ts → i.span.start ≡ first +ℤ pos at → int_eq i.span.end (i.span.start +ℤ pos 1) ≡ true → at < length ts → t ≡ get_or ts at t
    → single_alone (is_definite space) i t s ≡ single_more space gap ts i t s
alone_is space gap first ts i at t s set d one l e =
    let last : i.span.end ≡ i.span.start +ℤ pos 1 = that_number i.span.end (i.span.start +ℤ pos 1) one in
    let own : spanned i ts ≡ t ∷ [] = spanned_at i first ts at 1 set d last ∙ ap (take 1) (drop_item ts at t l e) in
    let tracks : span_length i ≡ pos 1 = omega (arith, ints, last) in
    let lone : IsAlone ts i t = record { own = own; one = tracks } in
    ap (λ (z : ℤ). record { some = 1; base = z; most = int_max (limit_ask t.rule.most i) s.most }) (base_is space gap ts i t s.base t.rule.least lone refl)

-- ---- a track with the functions `auto` alone

pub none_special : (ts : List Track) (at : ℕ) (t : Track) → list_any is_special ts ≡ false → at < length ts → t ≡ get_or ts at t → is_special t ≡ false
none_special [] at t n h e = absurd (omega arith)
none_special (x ∷ xs) zero t n h e = ap is_special e ∙ (neither (is_special x) (list_any is_special xs) n).0
none_special (x ∷ xs) (suc at) t n h e = none_special xs at t (neither (is_special x) (list_any is_special xs) n).1 (omega arith) e

auto_least : (l : Least) → not (is_auto_least l) ≡ false → l ≡ least.Auto
auto_least (least.Fixed x) e = absurd (true≢false e)
auto_least least.MinContent e = absurd (true≢false e)
auto_least least.MaxContent e = absurd (true≢false e)
auto_least least.Auto e = refl

auto_most : (m : Most) → not (is_auto_most m) ≡ false → m ≡ most.Auto
auto_most (most.Fixed x) e = absurd (true≢false e)
auto_most most.Auto e = refl
auto_most most.MinContent e = absurd (true≢false e)
auto_most most.MaxContent e = absurd (true≢false e)
auto_most (most.Fit x) e = absurd (true≢false e)
auto_most (most.Flex w) e = absurd (true≢false e)

least_of : (t : Track) → is_special t ≡ false → t.rule.least ≡ least.Auto
unfolding is_special
least_of t e = auto_least t.rule.least (neither (not (is_auto_least t.rule.least)) (not (is_auto_most t.rule.most)) e).0

most_of : (t : Track) → is_special t ≡ false → t.rule.most ≡ most.Auto
unfolding is_special
most_of t e = auto_most t.rule.most (neither (not (is_auto_least t.rule.least)) (not (is_auto_most t.rule.most)) e).1

pub plain_rigid : (t : Track) → is_special t ≡ false → flexible t ≡ false
plain_rigid t e = ap is_flexible (most_of t e)

least_plain : (f : Floor) → plain_least f ≡ single_least most.Auto f
least_plain (Known x) = refl
least_plain (Content size margins inner) = refl

asks_plain : (definite : Bool) (i : Item) → plain_asks definite i ≡ single_asks definite most.Auto i
asks_plain true i = least_plain i.floor
asks_plain false i = ap (λ (z : ℤ). int_max z i.low) (least_plain i.floor)

pub plain_alone : (definite : Bool) (i : Item) (t : Track) (s : Single) → is_special t ≡ false → single_plain definite i s ≡ single_alone definite i t s
plain_alone definite i t s e =
    ap (λ (z : ℤ). record { some = 1; base = int_max z s.base; most = int_max i.high s.most }) (asks_plain definite i)
    ∙ sym (ap (λ (l : Least). record { some = 1; base = base_alone definite l t.rule.most i s.base; most = int_max (limit_ask t.rule.most i) s.most }) (least_of t e)
    ∙ ap (λ (m : Most). record { some = 1; base = base_alone definite least.Auto m i s.base; most = int_max (limit_ask m i) s.most }) (most_of t e))

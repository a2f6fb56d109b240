-- What the items that span a track alone make of it, one item after another.
use Rattle.std.proofs.Common.{arith, ap, ◌≡◌, ◌∙◌, sym, refl, ℕ, zero, suc, ◌+◌, ◌<◌, ◌≤◌, ℤ, pos, ◌+ℤ◌, ◌<ℤ◌, Bool, true, false, not, ◌&&◌, ◌==◌, List, [], ◌∷◌, map, drop, set, length, get_or, cond, Option, if◌then◌else◌}
use Rattle.std.specs.Int.{int_max}
use Rattle.std.specs.Ordering.{int_eq}
use Rattle.std.proofs.lemmas.Int.{ints, clamps}
use Rattle.std.proofs.Math.ListN.{drop_of_length-le}
use Rattle.lunit.specs.declared.item.Item.{Item}
use Rattle.part_rules.specs.declared.track.Least.{Least}
use Rattle.part_rules.specs.declared.track.Least.TheVariants as least
use Rattle.part_rules.specs.declared.track.Most.{Most}
use Rattle.part_rules.specs.declared.track.Most.TheVariants as most
use Rattle.part_rules.specs.declared.track.Space.{Space}
use Rattle.part_rules.specs.Lists.{greatest_with, zipped}
use Rattle.part_rules.specs.Tracks.{Track, alone, auto_asks, base_for, fit_items, flexible, high, limit_for, low, raise_limit}
use Rattle.track_sizing.specs.declared.alone.Single.{Single}
use Rattle.track_sizing.specs.Alone.{base_more, fit_or_pass, fit_single, is_alone, limit_ask, limit_most, limit_single, single_by, single_more, single_none, single_of}
use Rattle.track_sizing.specs.Placed.{AreSet}
use Rattle.track_sizing.proofs.Order.{is_it, is_not, that_number}
use Rattle.track_sizing.proofs.Sums.{drop_item}

-- ---- one item, by the place of its track

-- tracks of which none is counted the item
abbrev NoneCounts : Item → List Track → Type 0
NoneCounts i [] = Unit {0}
NoneCounts i (t ∷ rest) = ((is_alone i t && not (flexible t)) ≡ false) × NoneCounts i rest

stays : {axis : ℕ} (space : Space axis) (gap : ℤ) (all : List Track) (i : Item) (ts : List Track) (ss : List Single) → length ss ≡ length ts → NoneCounts i ts → ss ≡ zipped (single_by space gap all i) ts ss
stays space gap all i [] [] e h = refl
stays space gap all i [] (s ∷ ss) e h = absurd (omega arith)
stays space gap all i (t ∷ ts) [] e h = absurd (omega arith)
stays space gap all i (t ∷ ts) (s ∷ ss) e h =
    ap (λ (xs : List Single). s ∷ xs) (stays space gap all i ts ss (omega arith) h.1)
    ∙ ap (λ (b : Bool). (if b then single_more space gap all i t s else s) ∷ zipped (single_by space gap all i) ts ss) (sym h.0)

elsewhere : (i : Item) (t : Track) → int_eq i.span.start t.at ≡ false → (is_alone i t && not (flexible t)) ≡ false
elsewhere i t e = ap (λ (b : Bool). (b && int_eq i.span.end (t.at +ℤ pos 1)) && not (flexible t)) e

-- one of another number of tracks
wide_one : (i : Item) (t : Track) → int_eq i.span.end (i.span.start +ℤ pos 1) ≡ false → (is_alone i t && not (flexible t)) ≡ false
wide_one i t e = go (int_eq i.span.start t.at) refl
  where
    go : (b : Bool) → int_eq i.span.start t.at ≡ b → (is_alone i t && not (flexible t)) ≡ false
    go false d = elsewhere i t d
    go true d =
        ap (λ (b : Bool). (b && int_eq i.span.end (t.at +ℤ pos 1)) && not (flexible t)) d
        ∙ ap (λ (z : ℤ). int_eq i.span.end (z +ℤ pos 1) && not (flexible t)) (sym (that_number i.span.start t.at d))
        ∙ ap (λ (b : Bool). b && not (flexible t)) e

none_wide : (i : Item) (ts : List Track) → int_eq i.span.end (i.span.start +ℤ pos 1) ≡ false → NoneCounts i ts
none_wide i [] e = tt
none_wide i (t ∷ ts) e = (wide_one i t e, none_wide i ts e)

pub wide_stays : {axis : ℕ} (space : Space axis) (gap : ℤ) (all : List Track) (i : Item) (ts : List Track) (ss : List Single) → length ss ≡ length ts → int_eq i.span.end (i.span.start +ℤ pos 1) ≡ false → ss ≡ zipped (single_by space gap all i) ts ss
wide_stays space gap all i ts ss e w = stays space gap all i ts ss e (none_wide i ts w)

-- tracks that follow the item's
none_later : (i : Item) (first : ℤ) (ts : List Track) → AreSet first ts → i.span.start <ℤ first → NoneCounts i ts
none_later i first [] h l = tt
none_later i first (t ∷ ts) h l = (elsewhere i t (is_not i.span.start t.at (λ e. omega (arith, ints, e, h.0.0, l))), none_later i (first +ℤ pos 1) ts h.1 (omega (arith, ints, l)))

passed : (a b : Bool) → b ≡ true → (a && not b) ≡ false
passed true b g = ap not g
passed false b g = refl

-- its track is flexible
none_flexible : (i : Item) (first : ℤ) (ts : List Track) (place : ℕ) (t : Track) → AreSet first ts → i.span.start ≡ first +ℤ pos place → place < length ts → t ≡ get_or ts place t → flexible t ≡ true → NoneCounts i ts
none_flexible i first [] place t h s l e f = tt
none_flexible i first (x ∷ xs) zero t h s l e f =
    (passed (is_alone i x) (flexible x) (ap flexible (sym e) ∙ f), none_later i (first +ℤ pos 1) xs h.1 (omega (arith, ints, s)))
none_flexible i first (x ∷ xs) (suc place) t h s l e f =
    (elsewhere i x (is_not i.span.start x.at (λ d. omega (arith, ints, d, h.0.0, s))), none_flexible i (first +ℤ pos 1) xs place t h.1 (omega (arith, ints, s)) (omega arith) e f)

pub flexible_stays : {axis : ℕ} (space : Space axis) (gap first : ℤ) (all : List Track) (i : Item) (ts : List Track) (ss : List Single) (place : ℕ) (t : Track) → length ss ≡ length ts → AreSet first ts → i.span.start ≡ first +ℤ pos place → place < length ts → t ≡ get_or ts place t →
    flexible t ≡ true
    → ss ≡ zipped (single_by space gap all i) ts ss
flexible_stays space gap first all i ts ss place t n h s l e f = stays space gap all i ts ss n (none_flexible i first ts place t h s l e f)

-- its track is not flexible
pub counts : {axis : ℕ} (space : Space axis) (gap first : ℤ) (all : List Track) (i : Item) (ts : List Track) (ss : List Single) (place : ℕ) (t : Track) (s now : Single) → length ss ≡ length ts → AreSet first ts → int_eq i.span.end (i.span.start +ℤ pos 1) ≡ true →
    i.span.start ≡ first +ℤ pos place → place < length ts
    → t ≡ get_or ts place t → flexible t ≡ false → s ≡ get_or ss place s → now ≡ single_more space gap all i t s → set ss place now ≡ zipped (single_by space gap all i) ts ss
counts space gap first all i [] ss place t s now n h one at l e f d v = absurd (omega arith)
counts space gap first all i (x ∷ xs) [] place t s now n h one at l e f d v = absurd (omega arith)
counts space gap first all i (x ∷ xs) (y ∷ ys) zero t s now n h one at l e f d v =
    let start : int_eq i.span.start x.at ≡ true = is_it i.span.start x.at (omega (arith, ints, at, h.0.0)) in
    let last : int_eq i.span.end (x.at +ℤ pos 1) ≡ true = ap (λ (z : ℤ). int_eq i.span.end (z +ℤ pos 1)) (sym (that_number i.span.start x.at start)) ∙ one in
    ap (λ (z : Single). z ∷ ys) (v ∙ ap (λ (u : Track). single_more space gap all i u s) e ∙ ap (single_more space gap all i x) d)
    ∙ ap (λ (zs : List Single). single_more space gap all i x y ∷ zs) (stays space gap all i xs ys (omega arith) (none_later i (first +ℤ pos 1) xs h.1 (omega (arith, ints, at))))
    ∙ sym (ap (λ (b : Bool). (if (b && int_eq i.span.end (x.at +ℤ pos 1)) && not (flexible x) then single_more space gap all i x y else y) ∷ zipped (single_by space gap all i) xs ys) start
    ∙ ap (λ (b : Bool). (if b && not (flexible x) then single_more space gap all i x y else y) ∷ zipped (single_by space gap all i) xs ys) last
    ∙ ap (λ (b : Bool). (if not b then single_more space gap all i x y else y) ∷ zipped (single_by space gap all i) xs ys) (ap flexible (sym e) ∙ f))
counts space gap first all i (x ∷ xs) (y ∷ ys) (suc place) t s now n h one at l e f d v =
    ap (λ (zs : List Single). y ∷ zs) (counts space gap (first +ℤ pos 1) all i xs ys place t s now (omega arith) h.1 one (omega (arith, ints, at)) (omega arith) e f d v)
    ∙ ap (λ (b : Bool). (if b then single_more space gap all i x y else y) ∷ zipped (single_by space gap all i) xs ys) (sym (elsewhere i x (is_not i.span.start x.at (λ w. omega (arith, ints, w, h.0.0, at)))))

pub ruleset item_laws = (wide_stays, flexible_stays, counts)

-- ---- all items, from the last to the first

map_none : {axis : ℕ} (space : Space axis) (gap : ℤ) (all ts : List Track) → map single_none ts ≡ map (single_of space gap all []) ts
map_none space gap all [] = refl
map_none space gap all (t ∷ ts) = ap (λ (ss : List Single). single_none t ∷ ss) (map_none space gap all ts)

map_more : {axis : ℕ} (space : Space axis) (gap : ℤ) (all : List Track) (i : Item) (rest : List Item) (ts : List Track) → zipped (single_by space gap all i) ts (map (single_of space gap all rest) ts) ≡ map (single_of space gap all (i ∷ rest)) ts
map_more space gap all i rest [] = refl
map_more space gap all i rest (t ∷ ts) = ap (λ (ss : List Single). single_by space gap all i t (single_of space gap all rest t) ∷ ss) (map_more space gap all i rest ts)

pub none_counted : {axis : ℕ} (space : Space axis) (gap : ℤ) (ts : List Track) (items : List Item) (at : ℕ) (ss : List Single) → ss ≡ map single_none ts → length items ≤ at → ss ≡ map (single_of space gap ts (drop at items)) ts
none_counted space gap ts items at ss e h = e ∙ map_none space gap ts ts ∙ ap (λ (xs : List Item). map (single_of space gap ts xs) ts) (sym (drop_of_length-le items h))

pub one_counted : {axis : ℕ} (space : Space axis) (gap : ℤ) (ts : List Track) (items : List Item) (at next : ℕ) (i : Item) (ss now : List Single) → ss ≡ map (single_of space gap ts (drop at items)) ts → at ≡ next + 1 → next < length items → i ≡ get_or items next i →
    now ≡ zipped (single_by space gap ts i) ts ss
    → now ≡ map (single_of space gap ts (drop next items)) ts
one_counted space gap ts items at next i ss now so d h e v =
    v ∙ ap (zipped (single_by space gap ts i) ts) (so ∙ ap (λ (k : ℕ). map (single_of space gap ts (drop k items)) ts) d)
    ∙ map_more space gap ts i (drop (next + 1) items) ts
    ∙ ap (λ (xs : List Item). map (single_of space gap ts xs) ts) (sym (drop_item items next i h e))

pub all_counted : {axis : ℕ} (space : Space axis) (gap : ℤ) (ts : List Track) (items : List Item) (at : ℕ) (ss : List Single) → ss ≡ map (single_of space gap ts (drop at items)) ts → at ≡ 0 → ss ≡ map (single_of space gap ts items) ts
all_counted space gap ts items at ss so e = so ∙ ap (λ (k : ℕ). map (single_of space gap ts (drop k items)) ts) e

pub ruleset list_laws = (none_counted, one_counted, all_counted)

-- ---- a track with all its items

abbrev has_some : List Item → ℕ
has_some [] = 0
has_some (i ∷ rest) = 1

abbrev made : {axis : ℕ} → Space axis → ℤ → List Track → Track → List Item → Single
made space gap ts t mine = record { some = has_some mine; base = base_for space gap ts mine t.rule.least t.base; most = greatest_with (pos 0) (map (limit_ask t.rule.most) mine) }

base_none : {axis : ℕ} (space : Space axis) (gap : ℤ) (ts : List Track) (l : Least) (base : ℤ) → base ≡ base_for space gap ts [] l base
base_none space gap ts (least.Fixed x) base = refl
base_none space gap ts least.MinContent base = refl
base_none space gap ts least.MaxContent base = refl
base_none space gap ts least.Auto base = refl

base_one : {axis : ℕ} (space : Space axis) (gap : ℤ) (ts : List Track) (i : Item) (mine : List Item) (l : Least) (base : ℤ) → base_more space gap ts i l (base_for space gap ts mine l base) ≡ base_for space gap ts (i ∷ mine) l base
base_one space gap ts i mine (least.Fixed x) base = refl
base_one space gap ts i mine least.MinContent base = refl
base_one space gap ts i mine least.MaxContent base = refl
base_one space gap ts i mine least.Auto base = refl

made_one : {axis : ℕ} (space : Space axis) (gap : ℤ) (ts : List Track) (t : Track) (i : Item) (mine : List Item) → single_more space gap ts i t (made space gap ts t mine) ≡ made space gap ts t (i ∷ mine)
made_one space gap ts t i mine =
    ap (λ (z : ℤ). record { some = 1; base = z; most = int_max (limit_ask t.rule.most i) (greatest_with (pos 0) (map (limit_ask t.rule.most) mine)) }) (base_one space gap ts i mine t.rule.least t.base)

single_is : {axis : ℕ} (space : Space axis) (gap : ℤ) (ts : List Track) (items : List Item) (t : Track) → flexible t ≡ false → single_of space gap ts items t ≡ made space gap ts t (alone items t)
single_is space gap ts [] t f = ap (λ (z : ℤ). record { some = 0; base = z; most = pos 0 }) (base_none space gap ts t.rule.least t.base)
single_is space gap ts (i ∷ rest) t f =
    ap (λ (b : Bool). if is_alone i t && not b then single_more space gap ts i t (single_of space gap ts rest t) else single_of space gap ts rest t) f
    ∙ go (is_alone i t) (single_is space gap ts rest t f)
  where
    go : (b : Bool) → single_of space gap ts rest t ≡ made space gap ts t (alone rest t)
        → (if b && true then single_more space gap ts i t (single_of space gap ts rest t) else single_of space gap ts rest t) ≡ made space gap ts t (cond b (i ∷ alone rest t) (alone rest t))
    go true h = ap (single_more space gap ts i t) h ∙ made_one space gap ts t i (alone rest t)
    go false h = h

greatest_own : (x : ℤ) (ys : List ℤ) → int_max x (greatest_with x ys) ≡ greatest_with x ys
greatest_own x [] = omega (arith, ints, clamps)
greatest_own x (y ∷ ys) = omega (arith, ints, clamps, greatest_own x ys)

base_least : {axis : ℕ} (space : Space axis) (gap : ℤ) (ts : List Track) (mine : List Item) (l : Least) (base : ℤ) → int_max base (base_for space gap ts mine l base) ≡ base_for space gap ts mine l base
base_least space gap ts mine (least.Fixed x) base = omega (arith, ints, clamps)
base_least space gap ts mine least.MinContent base = greatest_own base (map low mine)
base_least space gap ts mine least.MaxContent base = greatest_own base (map high mine)
base_least space gap ts mine least.Auto base = greatest_own base (map (auto_asks space gap ts) mine)

limit_is : (mine : List Item) (m : Most) (limit : Option ℤ) → (if has_some mine == 1 then limit_most m (greatest_with (pos 0) (map (limit_ask m) mine)) limit else limit) ≡ limit_for mine m limit
limit_is [] m limit = refl
limit_is (i ∷ rest) most.MinContent limit = refl
limit_is (i ∷ rest) most.Auto limit = refl
limit_is (i ∷ rest) most.MaxContent limit = refl
limit_is (i ∷ rest) (most.Fit x) limit = refl
limit_is (i ∷ rest) (most.Fixed x) limit = refl
limit_is (i ∷ rest) (most.Flex w) limit = refl

fits : {axis : ℕ} (space : Space axis) (gap : ℤ) (ts : List Track) (items : List Item) (t : Track) → fit_single t (single_of space gap ts items t) ≡ fit_or_pass space gap items ts t
fits space gap ts items t = go (flexible t) refl
  where
    go : (b : Bool) → flexible t ≡ b → (if b then t else raise_limit (record t { base = int_max t.base (single_of space gap ts items t).base; limit = limit_single t (single_of space gap ts items t) })) ≡ (if b then t else fit_items space gap ts (alone items t) t)
    go true f = refl
    go false f =
        ap (λ (s : Single). raise_limit (record t { base = int_max t.base s.base; limit = limit_single t s })) (single_is space gap ts items t f)
        ∙ ap (λ (z : ℤ). raise_limit (record t { base = z; limit = limit_single t (made space gap ts t (alone items t)) })) (base_least space gap ts (alone items t) t.rule.least t.base)
        ∙ ap (λ (l : Option ℤ). raise_limit (record t { base = base_for space gap ts (alone items t) t.rule.least t.base; limit = l })) (limit_is (alone items t) t.rule.most t.limit)

pub all_fit : {axis : ℕ} (space : Space axis) (gap : ℤ) (all : List Track) (items : List Item) (ts : List Track) → zipped fit_single ts (map (single_of space gap all items) ts) ≡ map (fit_or_pass space gap items all) ts
all_fit space gap all items [] = refl
all_fit space gap all items (t ∷ ts) =
    ap (λ (x : Track). x ∷ zipped fit_single ts (map (single_of space gap all items) ts)) (fits space gap all items t)
    ∙ ap (λ (xs : List Track). fit_or_pass space gap items all t ∷ xs) (all_fit space gap all items ts)

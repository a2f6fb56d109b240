-- The greatest fraction of items over one track is that of the greatest max-content contribution.
use Rattle.std.proofs.Common.{arith, ap, ◌≡◌, ◌∙◌, sym, refl, ℕ, zero, suc, max, ◌+◌, ◌<◌, ◌≤◌, ℤ, pos, ◌+ℤ◌, ◌-ℤ◌, ◌*ℤ◌, ◌≤ℤ◌, ◌<ℤ◌, Bool, true, false, ◌||◌, List, [], ◌∷◌, map, filter, drop, length, get_or, cond, Option, Some, None, if◌then◌else◌, int_lt, true≢false}
use Rattle.std.specs.Int.{int_max}
use Rattle.std.specs.List.{list_any}
use Rattle.std.proofs.Math.IntN.{*ℤ-zero, *ℤ_comm, zero-*ℤ, suc_ℤ-*ℤ}
use Rattle.std.proofs.Math.ListN.{drop_of_length-le}
use Rattle.std.proofs.lemmas.Int.{ints, clamps}
use Rattle.lunit.specs.Units.{clamp}
use Rattle.lunit.specs.declared.item.Item.{Item}
use Rattle.part_rules.specs.declared.track.Most.{Most}
use Rattle.part_rules.specs.declared.track.Most.TheVariants as most
use Rattle.part_rules.specs.declared.fraction.FrRow.{FrRow}
use Rattle.part_rules.specs.declared.fraction.Fraction.{Fraction}
use Rattle.part_rules.specs.Fractions.{found, no_fraction}
use Rattle.part_rules.specs.Tracks.{Track, crosses_flexible, factor_of, flexible, fr_row, greater, inner_gutters, is_flexible, item_fraction, spanned}
use Rattle.track_sizing.specs.Flex.{filled_fraction, greatest_alone, greatest_over, highest, item_fractions, lone_fraction}
use Rattle.track_sizing.specs.Placed.{AreIn, AreSet, IsIn}
use Rattle.track_sizing.proofs.Lonely.{one_found}
use Rattle.track_sizing.proofs.Singles.{spanned_at}
use Rattle.track_sizing.proofs.Sums.{drop_item}

-- ---- products

times_more : (x : ℤ) (k : ℕ) → x *ℤ pos (suc k) ≡ x *ℤ pos k +ℤ x
times_more x k = *ℤ_comm x (pos (suc k)) ∙ suc_ℤ-*ℤ (pos k) x ∙ ap (λ (z : ℤ). z +ℤ x) (*ℤ_comm (pos k) x)

times_least : (x y : ℤ) (k : ℕ) → x ≤ℤ y → (x *ℤ pos k) ≤ℤ (y *ℤ pos k)
times_least x y zero h = omega (arith, ints, *ℤ-zero x, *ℤ-zero y)
times_least x y (suc k) h = omega (arith, ints, times_more x k, times_more y k, times_least x y k h, h)

times_less : (x y : ℤ) (k : ℕ) → x <ℤ y → 0 < k → (x *ℤ pos k) <ℤ (y *ℤ pos k)
times_less x y zero h g = absurd (omega arith)
times_less x y (suc k) h g = omega (arith, ints, times_more x k, times_more y k, times_least x y k (omega (arith, ints, h)), h)

-- ---- the greater of two fractions

first_stays : (f g : Fraction) → (g.space *ℤ pos f.weight) ≤ℤ (f.space *ℤ pos g.weight) → greater f g ≡ f
first_stays f g h = go (int_lt (f.space *ℤ pos g.weight) (g.space *ℤ pos f.weight)) refl
  where
    go : (b : Bool) → int_lt (f.space *ℤ pos g.weight) (g.space *ℤ pos f.weight) ≡ b → (if b then g else f) ≡ f
    go true e = absurd (omega (arith, ints, e, h))
    go false e = refl

last_taken : (f g : Fraction) → (f.space *ℤ pos g.weight) <ℤ (g.space *ℤ pos f.weight) → greater f g ≡ g
last_taken f g h = go (int_lt (f.space *ℤ pos g.weight) (g.space *ℤ pos f.weight)) refl
  where
    go : (b : Bool) → int_lt (f.space *ℤ pos g.weight) (g.space *ℤ pos f.weight) ≡ b → (if b then g else f) ≡ g
    go true e = refl
    go false e = absurd (omega (arith, ints, e, h))

none_less : (f : Fraction) → pos 0 ≤ℤ f.space → greater f no_fraction ≡ f
none_less f h = first_stays f no_fraction (omega (arith, ints, zero-*ℤ (pos f.weight), h))

-- a fraction, where the track does not fall short
abbrev by_test : Bool → ℤ → ℕ → Fraction
by_test short left weight = if short then no_fraction else record { space = left; weight = weight }

higher_first : (x y c : ℤ) (w weight : ℕ) (p q : Bool) → y ≤ℤ x → pos 0 ≤ℤ y → int_lt (x *ℤ pos w) c ≡ p → int_lt (y *ℤ pos w) c ≡ q → greater (by_test p x weight) (by_test q y weight) ≡ by_test p x weight
higher_first x y c w weight false false h s e d = first_stays (record { space = x; weight = weight }) (record { space = y; weight = weight }) (times_least y x weight h)
higher_first x y c w weight false true h s e d = none_less (record { space = x; weight = weight }) (omega (arith, ints, h, s))
higher_first x y c w weight true false h s e d = absurd (omega (arith, ints, e, d, times_least y x w h))
higher_first x y c w weight true true h s e d = none_less no_fraction (omega (arith, ints))

higher_last : (x y c : ℤ) (w weight : ℕ) (p q : Bool) → 0 < weight → x ≤ℤ y → pos 0 ≤ℤ x → int_lt (x *ℤ pos w) c ≡ p → int_lt (y *ℤ pos w) c ≡ q → greater (by_test p x weight) (by_test q y weight) ≡ by_test q y weight
higher_last x y c w weight false false k h s e d = go (int_lt x y) refl
  where
    go : (b : Bool) → int_lt x y ≡ b → greater (record { space = x; weight = weight }) (record { space = y; weight = weight }) ≡ record { space = y; weight = weight }
    go true l = last_taken (record { space = x; weight = weight }) (record { space = y; weight = weight }) (times_less x y weight (omega (arith, ints, l)) k)
    go false l =
        let same : x ≡ y = omega (arith, ints, l, h) in
        first_stays (record { space = x; weight = weight }) (record { space = y; weight = weight }) (times_least y x weight (omega (arith, ints, l)))
        ∙ ap (λ (z : ℤ). record { space = z; weight = weight }) same
higher_last x y c w weight false true k h s e d = absurd (omega (arith, ints, e, d, times_least x y w h))
higher_last x y c w weight true false k h s e d = go (int_lt (pos 0) y) refl
  where
    go : (b : Bool) → int_lt (pos 0) y ≡ b → greater no_fraction (record { space = y; weight = weight }) ≡ record { space = y; weight = weight }
    go true l = last_taken no_fraction (record { space = y; weight = weight }) (omega (arith, ints, zero-*ℤ (pos weight), l))
    go false l = let same : x *ℤ pos w ≡ y *ℤ pos w = ap (λ (z : ℤ). z *ℤ pos w) (let own : x ≡ y = omega (arith, ints, l, h, s) in own) in absurd (omega (arith, ints, e, d, same))
higher_last x y c w weight true true k h s e d = none_less no_fraction (omega (arith, ints))

-- ---- the fractions of two spaces over one track

abbrev left_of : ℤ → ℤ
left_of z = clamp (int_max (pos 0) z)

left_some : (z : ℤ) → pos 0 ≤ℤ left_of z
unfolding clamp
left_some z = omega (arith, ints, clamps)

left_more : (a b : ℤ) → a ≤ℤ b → left_of a ≤ℤ left_of b
unfolding clamp
left_more a b h = omega (arith, ints, clamps, h)

some_weight : (w : ℕ) → 0 < max 1000 w
some_weight w = omega arith

filled_more : (base : ℤ) (w : ℕ) (a b : ℤ) → greater (filled_fraction base w a) (filled_fraction base w b) ≡ filled_fraction base w (int_max a b)
filled_more base w a b = go (int_lt a b) refl
  where
    go : (c : Bool) → int_lt a b ≡ c → greater (filled_fraction base w a) (filled_fraction base w b) ≡ filled_fraction base w (int_max a b)
    go true l =
        let most : b ≡ int_max a b = omega (arith, ints, clamps, l) in
        higher_last (left_of a) (left_of b) (base *ℤ pos (max 1000 w)) w (max 1000 w) (int_lt (left_of a *ℤ pos w) (base *ℤ pos (max 1000 w))) (int_lt (left_of b *ℤ pos w) (base *ℤ pos (max 1000 w))) (some_weight w)
        (left_more a b (omega (arith, ints, l))) (left_some a) refl refl
        ∙ ap (filled_fraction base w) most
    go false l =
        let most : a ≡ int_max a b = omega (arith, ints, clamps, l) in
        higher_first (left_of a) (left_of b) (base *ℤ pos (max 1000 w)) w (max 1000 w) (int_lt (left_of a *ℤ pos w) (base *ℤ pos (max 1000 w))) (int_lt (left_of b *ℤ pos w) (base *ℤ pos (max 1000 w)))
        (left_more b a (omega (arith, ints, l))) (left_some b) refl refl
        ∙ ap (filled_fraction base w) most

lone_more : (base : ℤ) (o : Option ℕ) (a b : ℤ) → greater (lone_fraction base o a) (lone_fraction base o b) ≡ lone_fraction base o (int_max a b)
lone_more base None a b = none_less no_fraction (omega (arith, ints))
lone_more base (Some w) a b = filled_more base w a b

test_some : (b : Bool) (left : ℤ) (weight : ℕ) → pos 0 ≤ℤ left → pos 0 ≤ℤ (by_test b left weight).space
test_some true left weight h = omega (arith, ints)
test_some false left weight h = h

lone_some : (base : ℤ) (o : Option ℕ) (z : ℤ) → pos 0 ≤ℤ (lone_fraction base o z).space
lone_some base None z = omega (arith, ints)
lone_some base (Some w) z = test_some (int_lt (left_of z *ℤ pos w) (base *ℤ pos (max 1000 w))) (left_of z) (max 1000 w) (left_some z)

-- ---- all items

highest_more : (a b : ℤ) (items : List Item) → int_max a (highest b items) ≡ highest (int_max a b) items
highest_more a b [] = refl
highest_more a b (i ∷ rest) =
    highest_more a (int_max b i.high) rest ∙ ap (λ (z : ℤ). highest z rest) (let e : int_max a (int_max b i.high) ≡ int_max (int_max a b) i.high = omega (arith, ints, clamps) in e)

highest_found : (base : ℤ) (o : Option ℕ) (i : Item) (rest : List Item) → greatest_over no_fraction (map (λ (j : Item). lone_fraction base o j.high) (i ∷ rest)) ≡ lone_fraction base o (highest i.high rest)
highest_found base o i [] = none_less (lone_fraction base o i.high) (lone_some base o i.high)
highest_found base o i (j ∷ rest) =
    ap (greater (lone_fraction base o i.high)) (highest_found base o j rest) ∙ lone_more base o i.high (highest j.high rest) ∙ ap (lone_fraction base o) (highest_more i.high j.high rest)

own_track : (gap first : ℤ) (t : Track) (i : Item) → AreSet first (t ∷ []) → IsIn first 1 i → spanned i (t ∷ []) ≡ t ∷ []
own_track gap first t i s h = spanned_at i first (t ∷ []) 0 1 s (omega (arith, ints, h.start, h.some, h.end)) (omega (arith, ints, h.start, h.some, h.end))

own_fraction : (gap first : ℤ) (t : Track) (i : Item) → AreSet first (t ∷ []) → IsIn first 1 i → item_fraction gap (t ∷ []) i ≡ lone_fraction t.base (factor_of t.rule.most) i.high
own_fraction gap first t i s h =
    let tracks : i.span.end -ℤ i.span.start -ℤ pos 1 ≡ pos 0 = omega (arith, ints, h.start, h.some, h.end) in
    let gutters : inner_gutters gap i ≡ pos 0 = ap (λ (z : ℤ). gap *ℤ z) tracks ∙ *ℤ-zero gap in
    ap (λ (ts : List Track). found (map fr_row ts) (inner_gutters gap i) i.high) (own_track gap first t i s h)
    ∙ ap (λ (z : ℤ). found (fr_row t ∷ []) z i.high) gutters
    ∙ sym (one_found t.base (i.high -ℤ pos 0) (factor_of t.rule.most))
    ∙ ap (lone_fraction t.base (factor_of t.rule.most)) (let e : i.high -ℤ pos 0 ≡ i.high = omega (arith, ints) in e)

own_crossed : (gap first : ℤ) (t : Track) (i : Item) (b : Bool) → AreSet first (t ∷ []) → IsIn first 1 i → flexible t ≡ b → crosses_flexible (t ∷ []) i ≡ b
own_crossed gap first t i b s h f = ap (list_any flexible) (own_track gap first t i s h) ∙ ap (λ (c : Bool). c || false) f ∙ go b
  where
    go : (b : Bool) → (b || false) ≡ b
    go true = refl
    go false = refl

all_crossed : (gap first : ℤ) (t : Track) (items : List Item) → AreSet first (t ∷ []) → AreIn first 1 items → flexible t ≡ true → item_fractions gap (t ∷ []) items ≡ map (λ (j : Item). lone_fraction t.base (factor_of t.rule.most) j.high) items
all_crossed gap first t [] s h f = refl
all_crossed gap first t (i ∷ rest) s h f =
    ap (λ (b : Bool). map (item_fraction gap (t ∷ [])) (cond b (i ∷ filter (crosses_flexible (t ∷ [])) rest) (filter (crosses_flexible (t ∷ [])) rest))) (own_crossed gap first t i true s h.0 f)
    ∙ ap (λ (x : Fraction). x ∷ item_fractions gap (t ∷ []) rest) (own_fraction gap first t i s h.0)
    ∙ ap (λ (xs : List Fraction). lone_fraction t.base (factor_of t.rule.most) i.high ∷ xs) (all_crossed gap first t rest s h.1 f)

none_crossed : (gap first : ℤ) (t : Track) (items : List Item) → AreSet first (t ∷ []) → AreIn first 1 items → flexible t ≡ false → item_fractions gap (t ∷ []) items ≡ []
none_crossed gap first t [] s h f = refl
none_crossed gap first t (i ∷ rest) s h f =
    ap (λ (b : Bool). map (item_fraction gap (t ∷ [])) (cond b (i ∷ filter (crosses_flexible (t ∷ [])) rest) (filter (crosses_flexible (t ∷ [])) rest))) (own_crossed gap first t i false s h.0 f)
    ∙ none_crossed gap first t rest s h.1 f

no_factor : (m : Most) (r : FrRow) (items : List Item) → is_flexible m ≡ false → r.factor ≡ factor_of m → greatest_alone r items ≡ no_fraction
no_factor m r [] f e = refl
no_factor m r (i ∷ rest) f e = ap (λ (o : Option ℕ). lone_fraction r.base o (highest i.high rest)) e ∙ go m f
  where
    go : (m : Most) → is_flexible m ≡ false → lone_fraction r.base (factor_of m) (highest i.high rest) ≡ no_fraction
    go (most.Fixed x) f = refl
    go most.Auto f = refl
    go most.MinContent f = refl
    go most.MaxContent f = refl
    go (most.Fit x) f = refl
    go (most.Flex w) f = absurd (true≢false f)

one_alone : (gap first : ℤ) (t : Track) (items : List Item) → AreSet first (t ∷ []) → AreIn first 1 items → greatest_alone (fr_row t) items ≡ greatest_over no_fraction (item_fractions gap (t ∷ []) items)
one_alone gap first t items s h = go (flexible t) refl items h
  where
    go : (b : Bool) → flexible t ≡ b → (items : List Item) → AreIn first 1 items → greatest_alone (fr_row t) items ≡ greatest_over no_fraction (item_fractions gap (t ∷ []) items)
    go true f [] h = refl
    go true f (i ∷ rest) h = sym (ap (greatest_over no_fraction) (all_crossed gap first t (i ∷ rest) s h f) ∙ highest_found t.base (factor_of t.rule.most) i rest)
    go false f items h = no_factor t.rule.most (fr_row t) items f refl ∙ sym (ap (greatest_over no_fraction) (none_crossed gap first t items s h f))

pub alone_greatest : (gap first : ℤ) (ts : List Track) (all : List FrRow) (r : FrRow) (items : List Item) (now : Fraction) → now ≡ greatest_alone r items → AreSet first ts → AreIn first (length ts) items → all ≡ map fr_row ts → length all ≡ 1 → r ≡ get_or all 0 r →
    now ≡ greatest_over no_fraction (item_fractions gap ts items)
alone_greatest gap first [] all r items now v s h a n e = absurd (omega (arith, ap length a))
alone_greatest gap first (t ∷ []) all r items now v s h a n e =
    let own : r ≡ fr_row t = e ∙ ap (λ (xs : List FrRow). get_or xs 0 r) a in
    v ∙ ap (λ (x : FrRow). greatest_alone x items) own ∙ one_alone gap first t items s h
alone_greatest gap first (t ∷ u ∷ rest) all r items now v s h a n e = absurd (omega (arith, ap length a))

-- ---- the loop

-- The greatest so far with those from this place on is the greatest.
pub record IsHighest (one : ℤ) (items : List Item) (at : ℕ) (best : ℤ) : Type 0 where
  pub same : highest best (drop at items) ≡ highest one items

pub highest_start : (one : ℤ) (items : List Item) → IsHighest one items 0 one
highest_start one items = record { same = refl }

pub highest_turn : (one : ℤ) (items : List Item) (at : ℕ) (best now : ℤ) (i : Item) → IsHighest one items at best → at < length items → i ≡ get_or items at i → now ≡ int_max best i.high → IsHighest one items (at + 1) now
highest_turn one items at best now i so h e v =
    record { same = ap (λ (z : ℤ). highest z (drop (at + 1) items)) v ∙ sym (ap (highest best) (drop_item items at i h e)) ∙ so.same }

pub highest_end : (one : ℤ) (items : List Item) (at : ℕ) (best : ℤ) → IsHighest one items at best → length items ≤ at → best ≡ highest one items
highest_end one items at best so h = sym (ap (highest best) (drop_of_length-le items h)) ∙ so.same

pub ruleset highest_of = (highest_start, highest_turn, highest_end)

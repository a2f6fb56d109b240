-- All items of a flex line are frozen in the end.
use Rattle.std.proofs.Common.{arith, ap, subst, ◌≡◌, ◌∙◌, sym, refl, true≢false, ℕ, zero, suc, ℤ, pos, negsuc, ◌+◌, ◌<◌, ◌≤◌, ◌+ℤ◌, ◌-ℤ◌, ◌⊎◌, inl, inr, Bool, true, false, ◌&&◌, ◌||◌, List, [], ◌∷◌, map, length, Some, if◌then◌else◌}
use Rattle.std.specs.Prelude.{is_some, ◌==◌}
use Rattle.std.specs.List.{list_all}
use Rattle.std.proofs.lemmas.Bool.{cases_lt}
use Rattle.std.proofs.lemmas.Int.{ints}
use Rattle.lunit.specs.Units.{clamp}
use Rattle.part_rules.specs.declared.flex.FlexItem.{FlexItem}
use Rattle.part_rules.specs.Lists.{sum_of, total_of, zipped, above_zero}
use Rattle.part_rules.specs.Sharing.{apportioned_after, apportioned_whole}
use Rattle.part_rules.specs.FlexLines.{Piece, is_free, violation, freezes, frozen_by, limited_main, tried, given_parts, given_space, weight_of, turn, resolved, begin}

abbrev one_if : Bool → ℕ
one_if true = 1
one_if false = 0

-- how many are not frozen
abbrev free_count : List Piece → ℕ
free_count [] = 0
free_count (p ∷ rest) = one_if (is_free p) + free_count rest

-- ---- one turn freezes those that it hits

-- one that is not frozen has a change of this kind
abbrev hits : (ℤ → Bool) → List Piece → List ℤ → Bool
hits f [] sizes = false
hits f (p ∷ rest) [] = false
hits f (p ∷ rest) (size ∷ sizes) = (is_free p && f (violation p size)) || hits f rest sizes

freezes_one : (sum : ℤ) (p : Piece) (size : ℤ) → (one_if (is_free (frozen_by sum p size)) ≤ one_if (is_free p)) × ((is_free p && freezes sum (violation p size)) ≡ true → one_if (is_free (frozen_by sum p size)) < one_if (is_free p))
freezes_one sum p size = go (is_free p) (freezes sum (violation p size)) refl
  where
    go : (f s : Bool) → is_free p ≡ f → (one_if (is_free (if f && s then record p { frozen = Some (clamp (limited_main p.item size)) } else p)) ≤ one_if f) × ((f && s) ≡ true → one_if (is_free (if f && s then record p { frozen = Some (clamp (limited_main p.item size)) } else p)) < one_if f)
    go true true e = (omega arith, λ h. omega arith)
    go true false e = (subst (λ (b : Bool). one_if b ≤ 1) (sym e) (omega arith), λ h. absurd (true≢false (sym h)))
    go false s e = (subst (λ (b : Bool). one_if b ≤ 0) (sym e) (omega arith), λ h. absurd (true≢false (sym h)))

fewer : (sum : ℤ) (line : List Piece) (sizes : List ℤ) → (free_count (zipped (frozen_by sum) line sizes) ≤ free_count line) × (hits (freezes sum) line sizes ≡ true → free_count (zipped (frozen_by sum) line sizes) < free_count line)
fewer sum [] sizes = (omega arith, λ h. absurd (true≢false (sym h)))
fewer sum (p ∷ rest) [] = (omega arith, λ h. absurd (true≢false (sym h)))
fewer sum (p ∷ rest) (size ∷ sizes) =
    let one = freezes_one sum p size in
    let more = fewer sum rest sizes in
    (omega (arith, one.0, more.0), λ h. go (is_free p && freezes sum (violation p size)) (hits (freezes sum) rest sizes) h one.1 more.1 one.0 more.0)
  where
    go : (a b : Bool) → (a || b) ≡ true
        → (a ≡ true → one_if (is_free (frozen_by sum p size)) < one_if (is_free p))
        → (b ≡ true → free_count (zipped (frozen_by sum) rest sizes) < free_count rest)
        → one_if (is_free (frozen_by sum p size)) ≤ one_if (is_free p)
        → free_count (zipped (frozen_by sum) rest sizes) ≤ free_count rest
        → one_if (is_free (frozen_by sum p size)) + free_count (zipped (frozen_by sum) rest sizes) < one_if (is_free p) + free_count rest
    go true b h f g p q = omega (arith, f refl, q)
    go false true h f g p q = omega (arith, g refl, p)
    go false false h f g p q = absurd (true≢false (sym h))

-- ---- and it hits one

abbrev is_raise : ℤ → Bool
is_raise (pos zero) = false
is_raise (pos (suc n)) = true
is_raise (negsuc n) = false

abbrev is_fall : ℤ → Bool
is_fall (pos n) = false
is_fall (negsuc n) = true

raise_freezes : (n : ℕ) (change : ℤ) → is_raise change ≡ true → freezes (pos (suc n)) change ≡ true
raise_freezes n (pos zero) h = absurd (true≢false (sym h))
raise_freezes n (pos (suc m)) h = grind arith
raise_freezes n (negsuc m) h = absurd (true≢false (sym h))

fall_freezes : (n : ℕ) (change : ℤ) → is_fall change ≡ true → freezes (negsuc n) change ≡ true
fall_freezes n (pos m) h = absurd (true≢false (sym h))
fall_freezes n (negsuc m) h = grind arith

hits_more : (f g : ℤ → Bool) → ((change : ℤ) → f change ≡ true → g change ≡ true) → (line : List Piece) (sizes : List ℤ) → hits f line sizes ≡ true → hits g line sizes ≡ true
hits_more f g more [] sizes h = absurd (true≢false (sym h))
hits_more f g more (p ∷ rest) [] h = absurd (true≢false (sym h))
hits_more f g more (p ∷ rest) (size ∷ sizes) h = go (is_free p) (f (violation p size)) (g (violation p size)) (more (violation p size)) h (hits_more f g more rest sizes)
  where
    go : (a b c : Bool) → (b ≡ true → c ≡ true) → ((a && b) || hits f rest sizes) ≡ true → (hits f rest sizes ≡ true → hits g rest sizes ≡ true) → ((a && c) || hits g rest sizes) ≡ true
    go true true c m h rec = ap (λ (x : Bool). x || hits g rest sizes) (m refl)
    go true false true m h rec = refl
    go true false false m h rec = rec h
    go false b c m h rec = rec h

-- the change of a frozen item is 0
changed_free : (b : Bool) (x : ℤ) (f : ℤ → Bool) → f (pos 0) ≡ false → f (if b then x else pos 0) ≡ true → (b && f (if b then x else pos 0)) ≡ true
changed_free true x f z h = h
changed_free false x f z h = absurd (true≢false (sym h ∙ z))

or_first : (a b : Bool) → a ≡ true → (a || b) ≡ true
or_first true b h = refl
or_first false b h = absurd (true≢false (sym h))

or_second : (a b : Bool) → b ≡ true → (a || b) ≡ true
or_second true b h = refl
or_second false b h = h

raised : (n : ℕ) (line : List Piece) (sizes : List ℤ) → sum_of (zipped violation line sizes) ≡ pos (suc n) → hits is_raise line sizes ≡ true
raised n [] sizes e = absurd (omega (arith, ap above_zero e))
raised n (p ∷ rest) [] e = absurd (omega (arith, ap above_zero e))
raised n (p ∷ rest) (size ∷ sizes) e = go (λ m. raised m rest sizes) (violation p size) refl (sum_of (zipped violation rest sizes)) refl e
  where
    first : is_raise (violation p size) ≡ true → hits is_raise (p ∷ rest) (size ∷ sizes) ≡ true
    first h = or_first (is_free p && is_raise (violation p size)) (hits is_raise rest sizes) (changed_free (is_free p) (limited_main p.item size -ℤ size) is_raise refl h)

    second : hits is_raise rest sizes ≡ true → hits is_raise (p ∷ rest) (size ∷ sizes) ≡ true
    second h = or_second (is_free p && is_raise (violation p size)) (hits is_raise rest sizes) h

    go : ((m : ℕ) → sum_of (zipped violation rest sizes) ≡ pos (suc m) → hits is_raise rest sizes ≡ true) → (v : ℤ) → violation p size ≡ v → (s : ℤ) → sum_of (zipped violation rest sizes) ≡ s → v +ℤ s ≡ pos (suc n) → hits is_raise (p ∷ rest) (size ∷ sizes) ≡ true
    go rec (pos (suc m)) a s b e = first (ap is_raise a)
    go rec (pos zero) a (pos (suc m)) b e = second (rec m b)
    go rec (pos zero) a (pos zero) b e = absurd (omega (arith, ints))
    go rec (pos zero) a (negsuc m) b e = absurd (omega (arith, ints))
    go rec (negsuc k) a (pos (suc m)) b e = second (rec m b)
    go rec (negsuc k) a (pos zero) b e = absurd (omega (arith, ints))
    go rec (negsuc k) a (negsuc m) b e = absurd (omega (arith, ints))

fallen : (n : ℕ) (line : List Piece) (sizes : List ℤ) → sum_of (zipped violation line sizes) ≡ negsuc n → hits is_fall line sizes ≡ true
fallen n [] sizes e = absurd (omega (arith, ints, e))
fallen n (p ∷ rest) [] e = absurd (omega (arith, ints, e))
fallen n (p ∷ rest) (size ∷ sizes) e = go (λ m. fallen m rest sizes) (violation p size) refl (sum_of (zipped violation rest sizes)) refl e
  where
    first : is_fall (violation p size) ≡ true → hits is_fall (p ∷ rest) (size ∷ sizes) ≡ true
    first h = or_first (is_free p && is_fall (violation p size)) (hits is_fall rest sizes) (changed_free (is_free p) (limited_main p.item size -ℤ size) is_fall refl h)

    second : hits is_fall rest sizes ≡ true → hits is_fall (p ∷ rest) (size ∷ sizes) ≡ true
    second h = or_second (is_free p && is_fall (violation p size)) (hits is_fall rest sizes) h

    go : ((m : ℕ) → sum_of (zipped violation rest sizes) ≡ negsuc m → hits is_fall rest sizes ≡ true) → (v : ℤ) → violation p size ≡ v → (s : ℤ) → sum_of (zipped violation rest sizes) ≡ s → v +ℤ s ≡ negsuc n → hits is_fall (p ∷ rest) (size ∷ sizes) ≡ true
    go rec (negsuc m) a s b e = first (ap is_fall a)
    go rec (pos k) a (negsuc m) b e = second (rec m b)
    go rec (pos k) a (pos m) b e = absurd (omega (arith, ints))

evened : (line : List Piece) (sizes : List ℤ) → length sizes ≡ length line → 0 < free_count line → hits (freezes (pos 0)) line sizes ≡ true
evened [] sizes l h = absurd (omega (arith, h))
evened (p ∷ rest) [] l h = absurd (omega (arith, l))
evened (p ∷ rest) (size ∷ sizes) l h = go (is_free p) h (evened rest sizes (omega (arith, l)))
  where
    go : (b : Bool) → 0 < one_if b + free_count rest → (0 < free_count rest → hits (freezes (pos 0)) rest sizes ≡ true) → ((b && true) || hits (freezes (pos 0)) rest sizes) ≡ true
    go true h f = refl
    go false h f = f (omega (arith, h))

hits_one : (line : List Piece) (sizes : List ℤ) → length sizes ≡ length line → 0 < free_count line → hits (freezes (sum_of (zipped violation line sizes))) line sizes ≡ true
hits_one line sizes l h = go (sum_of (zipped violation line sizes)) refl
  where
    go : (s : ℤ) → sum_of (zipped violation line sizes) ≡ s → hits (freezes s) line sizes ≡ true
    go (pos zero) e = evened line sizes l h
    go (pos (suc n)) e = hits_more is_raise (freezes (pos (suc n))) (raise_freezes n) line sizes (raised n line sizes e)
    go (negsuc n) e = hits_more is_fall (freezes (negsuc n)) (fall_freezes n) line sizes (fallen n line sizes e)

-- ---- all turns

zipped-length : {A B C : Type 0} (f : A → B → C) (xs : List A) (ys : List B) → length ys ≡ length xs → length (zipped f xs ys) ≡ length xs
zipped-length f [] ys h = refl
zipped-length f (x ∷ xs) [] h = absurd (omega (arith, h))
zipped-length f (x ∷ xs) (y ∷ ys) h =
    let rest : length ys ≡ length xs = omega (arith, h) in
    ap (λ (n : ℕ). suc n) (zipped-length f xs ys rest)

mapped-length : {A B : Type 0} (f : A → B) (xs : List A) → length (map f xs) ≡ length xs
mapped-length f [] = refl
mapped-length f (x ∷ xs) = ap (λ (n : ℕ). suc n) (mapped-length f xs)

parts-length : (before : ℕ) (space : ℤ) (whole : ℕ) (weights : List ℕ) → length (apportioned_after before space whole weights) ≡ length weights
parts-length before space whole [] = refl
parts-length before space whole (w ∷ ws) = ap (λ (n : ℕ). suc n) (parts-length (before + w) space whole ws)

given-length : (grow : Bool) (space : ℤ) (line : List Piece) → length (given_parts grow space line) ≡ length line
given-length grow space line = go (total_of (map (weight_of grow) line) == 0)
  where
    go : (b : Bool) → length (if b then map (λ (p : Piece). pos 0) line else apportioned_whole space (map (weight_of grow) line)) ≡ length line
    go true = mapped-length (λ (p : Piece). pos 0) line
    go false = parts-length 0 space (total_of (map (weight_of grow) line)) (map (weight_of grow) line) ∙ mapped-length (weight_of grow) line

turn_fewer : (grow : Bool) (main gap initial : ℤ) (line : List Piece) (turns : ℕ) → free_count line ≤ suc turns → free_count (turn grow main gap initial line) ≤ turns
turn_fewer grow main gap initial line turns h = go (cases_lt 0 (free_count line))
  where
    parts : List ℤ
    parts = given_parts grow (given_space grow main gap initial line) line

    sizes : List ℤ
    sizes = zipped (tried grow) line parts

    sum : ℤ
    sum = sum_of (zipped violation line sizes)

    go : (0 < free_count line) ⊎ (free_count line ≤ 0) → free_count (zipped (frozen_by sum) line sizes) ≤ turns
    go (inl some) = omega (arith, h, (fewer sum line sizes).1 (hits_one line sizes (zipped-length (tried grow) line parts (given-length grow (given_space grow main gap initial line) line)) some))
    go (inr none) = omega (arith, none, (fewer sum line sizes).0)

none_free : (turns : ℕ) (grow : Bool) (main gap initial : ℤ) (line : List Piece) → free_count line ≤ turns → free_count (resolved turns grow main gap initial line) ≤ 0
unfolding resolved
none_free zero grow main gap initial line h = h
none_free (suc turns) grow main gap initial line h = none_free turns grow main gap initial (turn grow main gap initial line) (turn_fewer grow main gap initial line turns h)

begun_count : (grow : Bool) (items : List FlexItem) → free_count (map (begin grow) items) ≤ length items
begun_count grow [] = omega arith
begun_count grow (i ∷ items) = go (is_free (begin grow i)) (begun_count grow items)
  where
    go : (b : Bool) → free_count (map (begin grow) items) ≤ length items → one_if b + free_count (map (begin grow) items) ≤ suc (length items)
    go true h = omega (arith, h)
    go false h = omega (arith, h)

frozen_all : (line : List Piece) → free_count line ≤ 0 → list_all (λ (p : Piece). is_some p.frozen) line ≡ true
frozen_all [] h = refl
frozen_all (p ∷ rest) h = go (is_some p.frozen) h (frozen_all rest)
  where
    go : (b : Bool) → one_if (if b then false else true) + free_count rest ≤ 0 → (free_count rest ≤ 0 → list_all (λ (p : Piece). is_some p.frozen) rest ≡ true) → (b && list_all (λ (p : Piece). is_some p.frozen) rest) ≡ true
    go true h f = f (omega (arith, h))
    go false h f = absurd (omega (arith, h))

-- as many turns as items are enough
pub all_frozen : (grow : Bool) (main gap initial : ℤ) (items : List FlexItem) → list_all (λ (p : Piece). is_some p.frozen) (resolved (length items) grow main gap initial (map (begin grow) items)) ≡ true
all_frozen grow main gap initial items =
    frozen_all (resolved (length items) grow main gap initial (map (begin grow) items)) (none_free (length items) grow main gap initial (map (begin grow) items) (begun_count grow items))

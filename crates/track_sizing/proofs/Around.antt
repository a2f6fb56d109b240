-- The tracks that an item spans, and those before and behind them.
use Rattle.std.proofs.Common.{arith, ap, subst, ◌≡◌, ◌∙◌, sym, refl, ℕ, zero, suc, ℤ, pos, ◌+ℤ◌, ◌≤ℤ◌, ◌<ℤ◌, Bool, true, false, ◌&&◌, ◌||◌, List, [], ◌∷◌, ◌++◌, take, drop, cond, int_le, int_lt}
use Rattle.std.specs.List.{list_any}
use Rattle.std.proofs.lemmas.Int.{ints}
use Rattle.std.proofs.lemmas.List.{append-nil}
use Rattle.std.proofs.lemmas.List.Elements.{filter-append}
use Rattle.lunit.specs.declared.item.Item.{Item}
use Rattle.part_rules.specs.Tracks.{Track, spans, spanned}
use Rattle.track_sizing.specs.Placed.{ArePlaced}

abbrev pub AllSpanned : Item → List Track → Type 0
AllSpanned i [] = Unit {0}
AllSpanned i (t ∷ ts) = (spans i t ≡ true) × AllSpanned i ts

abbrev pub NoneSpanned : Item → List Track → Type 0
NoneSpanned i [] = Unit {0}
NoneSpanned i (t ∷ ts) = (spans i t ≡ false) × NoneSpanned i ts

-- the tracks before an item, its own, and those behind it
pub record IsAround (i : Item) (before mine behind : List Track) : Type 0 where
  pub before_it : NoneSpanned i before
  pub its : AllSpanned i mine
  pub behind_it : NoneSpanned i behind

pub spanned_all : (i : Item) (ts : List Track) → AllSpanned i ts → spanned i ts ≡ ts
spanned_all i [] h = refl
spanned_all i (t ∷ ts) h = ap (λ (b : Bool). cond b (t ∷ spanned i ts) (spanned i ts)) h.0 ∙ ap (λ (xs : List Track). t ∷ xs) (spanned_all i ts h.1)

pub spanned_none : (i : Item) (ts : List Track) → NoneSpanned i ts → spanned i ts ≡ []
spanned_none i [] h = refl
spanned_none i (t ∷ ts) h = ap (λ (b : Bool). cond b (t ∷ spanned i ts) (spanned i ts)) h.0 ∙ spanned_none i ts h.1

pub spanned_mine : (i : Item) (before mine behind : List Track) → IsAround i before mine behind → spanned i (before ++ (mine ++ behind)) ≡ mine
spanned_mine i before mine behind h =
    filter-append (spans i) before (mine ++ behind)
    ∙ ap (λ (xs : List Track). xs ++ spanned i (mine ++ behind)) (spanned_none i before h.before_it)
    ∙ filter-append (spans i) mine behind
    ∙ ap (λ (xs : List Track). spanned i mine ++ xs) (spanned_none i behind h.behind_it)
    ∙ append-nil (spanned i mine)
    ∙ spanned_all i mine h.its

-- ---- where they stand

before_test : (x y z : ℤ) → x <ℤ y → (int_le y x && int_lt x z) ≡ false
before_test x y z h = go (int_le y x) refl
  where
    go : (b : Bool) → int_le y x ≡ b → (b && int_lt x z) ≡ false
    go true e = absurd (omega (arith, ints))
    go false e = refl

behind_test : (x y z : ℤ) → z ≤ℤ x → (int_le y x && int_lt x z) ≡ false
behind_test x y z h = go (int_le y x) (int_lt x z) refl
  where
    go : (a b : Bool) → int_lt x z ≡ b → (a && b) ≡ false
    go true true e = absurd (omega (arith, ints))
    go true false e = refl
    go false b e = refl

in_test : (x y z : ℤ) → y ≤ℤ x → x <ℤ z → (int_le y x && int_lt x z) ≡ true
in_test x y z h g = go (int_le y x) (int_lt x z) refl refl
  where
    go : (a b : Bool) → int_le y x ≡ a → int_lt x z ≡ b → (a && b) ≡ true
    go true true e d = refl
    go true false e d = absurd (omega (arith, ints))
    go false b e d = absurd (omega (arith, ints))

none_before : (i : Item) (n : ℕ) (first : ℤ) (ts : List Track) → ArePlaced first ts → (first +ℤ pos n) ≤ℤ i.span.start → NoneSpanned i (take n ts)
none_before i zero first ts p h = tt
none_before i (suc n) first [] p h = tt
none_before i (suc n) first (t ∷ ts) p h = (before_test t.at i.span.start i.span.end (omega (arith, ints, p.0)), none_before i n (first +ℤ pos 1) ts p.1 (omega (arith, ints)))

all_in : (i : Item) (n : ℕ) (first : ℤ) (ts : List Track) → ArePlaced first ts → i.span.start ≤ℤ first → (first +ℤ pos n) ≤ℤ i.span.end → AllSpanned i (take n ts)
all_in i zero first ts p h g = tt
all_in i (suc n) first [] p h g = tt
all_in i (suc n) first (t ∷ ts) p h g = (in_test t.at i.span.start i.span.end (omega (arith, ints, p.0)) (omega (arith, ints, p.0)), all_in i n (first +ℤ pos 1) ts p.1 (omega (arith, ints)) (omega (arith, ints)))

none_behind : (i : Item) (first : ℤ) (ts : List Track) → ArePlaced first ts → i.span.end ≤ℤ first → NoneSpanned i ts
none_behind i first [] p h = tt
none_behind i first (t ∷ ts) p h = (behind_test t.at i.span.start i.span.end (omega (arith, ints, p.0)), none_behind i (first +ℤ pos 1) ts p.1 (omega (arith, ints)))

pub placed_drop : (n : ℕ) (first : ℤ) (ts : List Track) → ArePlaced first ts → ArePlaced (first +ℤ pos n) (drop n ts)
placed_drop zero first ts p = subst (λ (z : ℤ). ArePlaced z ts) (let e : first ≡ first +ℤ pos 0 = omega (arith, ints) in e) p
placed_drop (suc n) first [] p = tt
placed_drop (suc n) first (t ∷ ts) p = subst (λ (z : ℤ). ArePlaced z (drop n ts)) (let e : (first +ℤ pos 1) +ℤ pos n ≡ first +ℤ pos (suc n) = omega (arith, ints) in e) (placed_drop n (first +ℤ pos 1) ts p.1)

-- The tracks of an item that begins after so many tracks and spans so many.
pub around : (i : Item) (first : ℤ) (ts : List Track) (at n : ℕ) → ArePlaced first ts → i.span.start ≡ first +ℤ pos at → i.span.end ≡ i.span.start +ℤ pos n → IsAround i (take at ts) (take n (drop at ts)) (drop n (drop at ts))
around i first ts at n p s e =
    let mine = placed_drop at first ts p in
    record {
      before_it = none_before i at first ts p (omega (arith, ints));
      its = all_in i n (first +ℤ pos at) (drop at ts) mine (omega (arith, ints)) (omega (arith, ints));
      behind_it = none_behind i ((first +ℤ pos at) +ℤ pos n) (drop n (drop at ts)) (placed_drop n (first +ℤ pos at) (drop at ts) mine) (omega (arith, ints));
    }

-- ---- tests and rooms that other tracks do not pass

-- a test of all tracks that the item's own pass as another test
pub record IsTest (i : Item) (wide narrow : Track → Bool) : Type 0 where
  pub none : (t : Track) → spans i t ≡ false → wide t ≡ false
  pub some : (t : Track) → spans i t ≡ true → wide t ≡ narrow t

any_none : (i : Item) (wide narrow : Track → Bool) (ts others : List Track) → IsTest i wide narrow → NoneSpanned i ts → list_any wide (ts ++ others) ≡ list_any wide others
any_none i wide narrow [] others h n = refl
any_none i wide narrow (t ∷ ts) others h n = ap (λ (b : Bool). b || list_any wide (ts ++ others)) (h.none t n.0) ∙ any_none i wide narrow ts others h n.1

any_in : (i : Item) (wide narrow : Track → Bool) (ts others : List Track) → IsTest i wide narrow → AllSpanned i ts → list_any wide others ≡ false → list_any wide (ts ++ others) ≡ list_any narrow ts
any_in i wide narrow [] others h n e = e
any_in i wide narrow (t ∷ ts) others h n e = ap (λ (b : Bool). b || list_any wide (ts ++ others)) (h.some t n.0) ∙ ap (λ (b : Bool). narrow t || b) (any_in i wide narrow ts others h n.1 e)

pub any_mine : (i : Item) (wide narrow : Track → Bool) (before mine behind : List Track) → IsTest i wide narrow → IsAround i before mine behind → list_any wide (before ++ (mine ++ behind)) ≡ list_any narrow mine
any_mine i wide narrow before mine behind h a =
    any_none i wide narrow before (mine ++ behind) h a.before_it
    ∙ any_in i wide narrow mine behind h a.its (ap (list_any wide) (sym (append-nil behind)) ∙ any_none i wide narrow behind [] h a.behind_it)

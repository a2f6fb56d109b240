-- What a leaf remembers is the last of what was measured for it since it was last touched.
use Rattle.std.proofs.Common.{◌≡◌, refl, ap, sym, subst, ◌∙◌, ℕ, ◌-◌, ◌≤◌, ◌<◌, Bool, true, false, ◌||◌, List, [], ◌∷◌, ◌++◌, length, drop, append_assoc, append-nil, length-append, arith, inl, inr}
use Rattle.std.specs.Prelude.{◌⊎◌, if◌then◌else◌}
use Rattle.std.specs.Str.{bytes_eq}
use Rattle.std.proofs.lemmas.Bool.{false≢true, cases_lt}
use Rattle.std.proofs.lemmas.Slice.Eq.{bytes_eq-Decides}
use Rattle.outside.specs.declared.event.Event.{Event}
use Rattle.outside.specs.declared.event.Event.TheVariants.{Begin, Measured}
use Rattle.outside.specs.declared.event.Width.{Width}
use Rattle.outside.specs.declared.event.Width.TheVariants.{Narrowest, Widest, At}
use Rattle.sparing.specs.Memory.{since, spread, all_spread, IsFirst, AreFirst, Remembers}
use Rattle.sparing.specs.Sparing.{Touches, is_reached, widths_of, IsOneOf, IsNoneOf, AllDiffer, AreAmong, HasOthers, IsSpared, AreSpared}

-- ---- since a leaf was last touched

module _ (touches : Touches) (name : List ℕ) where
  pub since_more : (done : List Width) (xs ys : List Event) → since touches name done (xs ++ ys) ≡ since touches name (since touches name done xs) ys
  unfolding since
  since_more done [] ys = refl
  since_more done (Begin k ∷ xs) ys = since_more (if touches k name then [] else done) xs ys
  since_more done (Measured leaf width ∷ xs) ys = since_more (if bytes_eq leaf name then done ++ width ∷ [] else done) xs ys

  -- where none of the layouts is one that touches it, all that is measured comes on top
  since_calm : (done : List Width) (xs : List Event) → is_reached touches name xs ≡ false → since touches name done xs ≡ done ++ widths_of name xs
  unfolding since
  since_calm done [] h = sym (append-nil done)
  since_calm done (Begin k ∷ xs) h = by_test (touches k name) h (since_calm done xs)
    where
      by_test : (b : Bool) → (b || is_reached touches name xs) ≡ false → (is_reached touches name xs ≡ false → since touches name done xs ≡ done ++ widths_of name xs)
          → since touches name (if b then [] else done) xs ≡ done ++ widths_of name xs
      by_test true g later = absurd (false≢true (sym g))
      by_test false g later = later g
  since_calm done (Measured leaf width ∷ xs) h = by_test (bytes_eq leaf name) (since_calm (done ++ width ∷ []) xs h) (since_calm done xs h)
    where
      by_test : (b : Bool) → since touches name (done ++ width ∷ []) xs ≡ (done ++ width ∷ []) ++ widths_of name xs → since touches name done xs ≡ done ++ widths_of name xs
          → since touches name (if b then done ++ width ∷ [] else done) xs ≡ done ++ (if b then width ∷ widths_of name xs else widths_of name xs)
      by_test true own other = own ∙ append_assoc done (width ∷ []) (widths_of name xs)
      by_test false own other = other

  -- its own measuring comes at the end
  since_own : (done : List Width) (width : Width) (xs : List Event) → since touches name done (Measured name width ∷ xs) ≡ since touches name (done ++ width ∷ []) xs
  unfolding since
  since_own done width xs = ap (λ (b : Bool). since touches name (if b then done ++ width ∷ [] else done) xs) ((bytes_eq-Decides name name).1 refl)

  -- what was measured before stands either before a touch, or in what was measured since
  pub since_split : (before between : List Event) (width : Width) → is_reached touches name between ≡ false
      → since touches name [] (before ++ Measured name width ∷ between) ≡ since touches name [] before ++ width ∷ widths_of name between
  since_split before between width h =
      since_more [] before (Measured name width ∷ between)
      ∙ since_own (since touches name [] before) width between
      ∙ since_calm (since touches name [] before ++ width ∷ []) between h
      ∙ append_assoc (since touches name [] before) (width ∷ []) (widths_of name between)

-- ---- widths that belong together

-- the one that is measured first with it
abbrev pub first_of : Width → Width
first_of Narrowest = Narrowest
first_of Widest = Narrowest
first_of (At width) = At width

first_own : (w : Width) → IsFirst w → first_of w ≡ w
first_own Narrowest f = refl
first_own Widest f = absurd f
first_own (At width) f = refl

spread_more : (xs ys : List Width) → all_spread (xs ++ ys) ≡ all_spread xs ++ all_spread ys
spread_more [] ys = refl
spread_more (x ∷ xs) ys = ap (λ (l : List Width). spread x ++ l) (spread_more xs ys) ∙ sym (append_assoc (spread x) (all_spread xs) (all_spread ys))

spread_one : (xs : List Width) (w : Width) → all_spread (xs ++ w ∷ []) ≡ all_spread xs ++ spread w
spread_one xs w = spread_more xs (w ∷ []) ∙ ap (λ (l : List Width). all_spread xs ++ l) (append-nil (spread w))

-- ---- widths that are none of others

none_both : (w : Width) (xs ys : List Width) → IsNoneOf w xs → IsNoneOf w ys → IsNoneOf w (xs ++ ys)
none_both w [] ys p q = q
none_both w (x ∷ xs) ys p q = (p.0, none_both w xs ys p.1 q)

none_after : (w : Width) (xs ys : List Width) → IsNoneOf w (xs ++ w ∷ ys) → ⊥
none_after w [] ys p = p.0 refl
none_after w (x ∷ xs) ys p = none_after w xs ys p.1

none_spread_one : (w x : Width) → ¬ (x ≡ first_of w) → IsFirst x → IsNoneOf w (spread x)
none_spread_one w Narrowest p f = (λ e. p (ap first_of e), (λ e. p (ap first_of e), tt))
none_spread_one w Widest p f = absurd f
none_spread_one w (At width) p f = (λ e. p (ap first_of e), tt)

none_spread : (w : Width) (kept : List Width) → IsNoneOf (first_of w) kept → AreFirst kept → IsNoneOf w (all_spread kept)
none_spread w [] p f = tt
none_spread w (x ∷ kept) p f = none_both w (spread x) (all_spread kept) (none_spread_one w x p.0 f.0) (none_spread w kept p.1 f.1)

none_first : (w : Width) (kept : List Width) → IsNoneOf (first_of w) kept → AreFirst kept → IsNoneOf w kept
none_first w [] p f = tt
none_first w (x ∷ kept) p f = ((λ e. p.0 (sym (first_own x f.0) ∙ ap first_of e)), none_first w kept p.1 f.1)

-- ---- widths that are among others

one_later : (w : Width) (xs ys : List Width) → IsOneOf w ys → IsOneOf w (xs ++ ys)
one_later w [] ys p = p
one_later w (x ∷ xs) ys p = inr (one_later w xs ys p)

-- each first one is among all that are measured
among_spread : (kept before after : List Width) → AreFirst kept → AreAmong kept (before ++ (all_spread kept ++ after))
among_spread [] before after f = tt
among_spread (Narrowest ∷ kept) before after f =
    let next = among_spread kept (before ++ Narrowest ∷ Widest ∷ []) after f.1 in
    (one_later Narrowest before (Narrowest ∷ Widest ∷ (all_spread kept ++ after)) (inl refl), subst (AreAmong kept) (append_assoc before (Narrowest ∷ Widest ∷ []) (all_spread kept ++ after)) next)
among_spread (Widest ∷ kept) before after f = absurd f.0
among_spread (At width ∷ kept) before after f =
    let next = among_spread kept (before ++ At width ∷ []) after f.1 in
    (one_later (At width) before (At width ∷ (all_spread kept ++ after)) (inl refl), subst (AreAmong kept) (append_assoc before (At width ∷ []) (all_spread kept ++ after)) next)

-- ---- what is remembered

pub remembers_none : Remembers [] []
remembers_none = record { front = []; parts = refl; whole = inl refl; few = omega arith; differ = tt; first = tt }

-- ---- what is measured and not remembered is spared

-- a width that stands before all of these stands in front of them
record IsInFront (front last behind : List Width) : Type 0 where
  some : ¬ (front ≡ [])
  between : List Width
  parts : behind ≡ between ++ last

rest_of : List Width → List Width
rest_of [] = []
rest_of (w ∷ ws) = ws

in_front : (w : Width) (before behind front last : List Width) → before ++ w ∷ behind ≡ front ++ last → IsNoneOf w last → IsInFront front last behind
unfolding rest_of
in_front w before behind [] last e none = absurd (none_after w before behind (subst (IsNoneOf w) (sym e) none))
in_front w [] behind (f ∷ front) last e none = record { some = λ g. absurd (cc g); between = front; parts = ap rest_of e }
in_front w (x ∷ before) behind (f ∷ front) last e none =
    let further = in_front w before behind front last (ap rest_of e) none in
    record { some = λ g. absurd (cc g); between = further.between; parts = further.parts }

module _ (touches : Touches) (name : List ℕ) (done : List Event) where
  -- measured after what is remembered and a tail
  spared_one : (w : Width) (kept front tail : List Width) → since touches name [] done ≡ front ++ (all_spread kept ++ tail) → (front ≡ []) ⊎ (length kept ≡ 16) → AllDiffer kept → AreFirst kept
      → IsNoneOf (first_of w) kept → IsNoneOf w tail → IsSpared touches done (Measured name w)
  spared_one w kept front tail is whole differ first new other before between e = by_reach (is_reached touches name between) refl
    where
      last : List Width
      last = all_spread kept ++ tail

      by_front : (front ≡ []) ⊎ (length kept ≡ 16) → IsInFront front last (widths_of name between) → HasOthers name w between
      by_front (inl none) c = absurd (c.some none)
      by_front (inr full) c =
          record {
            widths = kept;
            many = omega (arith, full);
            differ = differ;
            others = none_first w kept new first;
            measured = subst (AreAmong kept) (sym c.parts) (among_spread kept c.between tail first);
          }

      by_reach : (b : Bool) → is_reached touches name between ≡ b → (is_reached touches name between ≡ true) ⊎ HasOthers name w between
      by_reach true r = inl r
      by_reach false r =
          let parts : since touches name [] before ++ w ∷ widths_of name between ≡ front ++ last = sym (since_split touches name before between w r) ∙ ap (since touches name []) (sym e) ∙ is in
          inr (by_front whole (in_front w (since touches name [] before) (widths_of name between) front last parts (none_both w (all_spread kept) tail (none_spread w kept new first) other)))

-- these widths of a leaf, as they are measured
abbrev pub marks : List ℕ → List Width → List Event
marks name [] = []
marks name (w ∷ ws) = Measured name w ∷ marks name ws

-- they come on top
pub since_marks : (touches : Touches) (name : List ℕ) (done : List Event) (ws : List Width) → since touches name [] (done ++ marks name ws) ≡ since touches name [] done ++ ws
unfolding since
since_marks touches name done [] = ap (since touches name []) (append-nil done) ∙ sym (append-nil (since touches name [] done))
since_marks touches name done (w ∷ ws) =
    ap (since touches name []) (sym (append_assoc done (Measured name w ∷ []) (marks name ws)))
    ∙ since_marks touches name (done ++ Measured name w ∷ []) ws
    ∙ ap (λ (l : List Width). l ++ ws) (since_more touches name [] done (Measured name w ∷ []) ∙ since_own touches name (since touches name [] done) w [])
    ∙ append_assoc (since touches name [] done) (w ∷ []) ws

-- the widths of one leaf change nothing for another leaf
since_other : (touches : Touches) (name other : List ℕ) (found ws : List Width) → bytes_eq name other ≡ false → since touches other found (marks name ws) ≡ found
unfolding since
since_other touches name other found [] h = refl
since_other touches name other found (w ∷ ws) h = ap (λ (b : Bool). since touches other (if b then found ++ w ∷ [] else found) (marks name ws)) h ∙ since_other touches name other found ws h

pub since_others : (touches : Touches) (name other : List ℕ) (done : List Event) (ws : List Width) → bytes_eq name other ≡ false → since touches other [] (done ++ marks name ws) ≡ since touches other [] done
since_others touches name other done ws h = since_more touches other [] done (marks name ws) ∙ since_other touches name other (since touches other [] done) ws h

module _ (touches : Touches) (name : List ℕ) (done : List Event) (kept : List Width) (p : Remembers (since touches name [] done) kept) where
  -- a width that is measured and not remembered
  pub spared_new : (w : Width) → IsFirst w → IsNoneOf w kept → AreSpared touches done (marks name (spread w))
  unfolding since
  spared_new Narrowest f none =
      let whole : since touches name [] done ≡ p.front ++ (all_spread kept ++ []) = p.parts ∙ ap (λ (l : List Width). p.front ++ l) (sym (append-nil (all_spread kept))) in
      let more : since touches name [] (done ++ Measured name Narrowest ∷ []) ≡ p.front ++ (all_spread kept ++ Narrowest ∷ []) = since_marks touches name done (Narrowest ∷ []) ∙ ap (λ (l : List Width). l ++ Narrowest ∷ []) p.parts ∙ append_assoc p.front (all_spread kept) (Narrowest ∷ []) in (
        spared_one touches name done Narrowest kept p.front [] whole p.whole p.differ p.first none tt,
        (spared_one touches name (done ++ Measured name Narrowest ∷ []) Widest kept p.front (Narrowest ∷ []) more p.whole p.differ p.first none ((λ e. absurd (cc e)), tt), tt),
      )
  spared_new Widest f none = absurd f
  spared_new (At width) f none =
      let whole : since touches name [] done ≡ p.front ++ (all_spread kept ++ []) = p.parts ∙ ap (λ (l : List Width). p.front ++ l) (sym (append-nil (all_spread kept))) in
      (spared_one touches name done (At width) kept p.front [] whole p.whole p.differ p.first none tt, tt)

-- ---- one more is remembered

differ_put : (kept : List Width) (w : Width) → AllDiffer kept → IsNoneOf w kept → AllDiffer (kept ++ w ∷ [])
differ_put [] w d none = (tt, tt)
differ_put (x ∷ kept) w d none = (none_both x kept (w ∷ []) d.0 ((λ e. none.0 (sym e)), tt), differ_put kept w d.1 none.1)

first_put : (kept : List Width) (w : Width) → AreFirst kept → IsFirst w → AreFirst (kept ++ w ∷ [])
first_put [] w f g = (g, tt)
first_put (x ∷ kept) w f g = (f.0, first_put kept w f.1 g)

-- the last sixteen
abbrev pub last_sixteen : {A : Type 0} → List A → List A
last_sixteen xs = drop (length xs - 16) xs

module _ (measured : List Width) (w : Width) (f : IsFirst w) where
  -- there was room
  put_more : (kept : List Width) → Remembers measured kept → IsNoneOf w kept → length kept ≤ 15 → Remembers (measured ++ spread w) (kept ++ w ∷ [])
  put_more kept p none room =
      record {
        front = p.front;
        parts = ap (λ (l : List Width). l ++ spread w) p.parts ∙ append_assoc p.front (all_spread kept) (spread w) ∙ ap (λ (l : List Width). p.front ++ l) (sym (spread_one kept w));
        whole = by_whole p.whole;
        few = omega (arith, length-append kept (w ∷ []));
        differ = differ_put kept w p.differ none;
        first = first_put kept w p.first f;
      }
    where
      by_whole : (p.front ≡ []) ⊎ (length kept ≡ 16) → (p.front ≡ []) ⊎ (length (kept ++ w ∷ []) ≡ 16)
      by_whole (inl e) = inl e
      by_whole (inr e) = absurd (omega arith)

  -- there was none, and the oldest is forgotten
  put_full : (x : Width) (kept : List Width) → Remembers measured (x ∷ kept) → IsNoneOf w (x ∷ kept) → length (x ∷ kept) ≡ 16 → Remembers (measured ++ spread w) (kept ++ w ∷ [])
  put_full x kept p none full =
      record {
        front = p.front ++ spread x;
        parts =
            ap (λ (l : List Width). l ++ spread w) (p.parts ∙ sym (append_assoc p.front (spread x) (all_spread kept)))
            ∙ append_assoc (p.front ++ spread x) (all_spread kept) (spread w)
            ∙ ap (λ (l : List Width). (p.front ++ spread x) ++ l) (sym (spread_one kept w));
        whole = inr (omega (arith, length-append kept (w ∷ [])));
        few = omega (arith, length-append kept (w ∷ []));
        differ = differ_put kept w p.differ.1 none.1;
        first = first_put kept w p.first.1 f;
      }

  pub remembers_put : (kept : List Width) → Remembers measured kept → IsNoneOf w kept → Remembers (measured ++ spread w) (last_sixteen (kept ++ w ∷ []))
  remembers_put kept p none = by_room (cases_lt (length kept) 16)
    where
      dropped : (n : ℕ) (xs : List Width) → length xs - 16 ≡ n → last_sixteen xs ≡ drop n xs
      dropped n xs e = ap (λ k. drop k xs) e

      by_first : (kept : List Width) → Remembers measured kept → IsNoneOf w kept → 16 ≤ length kept → Remembers (measured ++ spread w) (last_sixteen (kept ++ w ∷ []))
      by_first [] q none full = absurd (omega arith)
      by_first (x ∷ kept) q none full =
          let size : length (x ∷ kept) ≡ 16 = omega (arith, q.few) in
          let one : length ((x ∷ kept) ++ w ∷ []) - 16 ≡ 1 = omega (arith, length-append (x ∷ kept) (w ∷ [])) in
          subst (Remembers (measured ++ spread w)) (sym (dropped 1 ((x ∷ kept) ++ w ∷ []) one)) (put_full x kept q none size)

      by_room : (length kept < 16) ⊎ (16 ≤ length kept) → Remembers (measured ++ spread w) (last_sixteen (kept ++ w ∷ []))
      by_room (inl room) =
          let none_dropped : length (kept ++ w ∷ []) - 16 ≡ 0 = omega (arith, length-append kept (w ∷ [])) in
          let less : length kept ≤ 15 = omega arith in
          subst (Remembers (measured ++ spread w)) (sym (dropped 0 (kept ++ w ∷ []) none_dropped)) (put_more kept p none less)
      by_room (inr full) = by_first kept p none full

-- Which boxes changed, by the boxes before one by one and then by their names.
use Rattle.std.proofs.Common.{◌≡◌, refl, ap, sym, ◌∙◌, ℕ, zero, suc, ◌+◌, ◌<◌, ◌≤◌, Bool, true, false, ◌&&◌, ◌||◌, if◌then◌else◌, List, [], ◌∷◌, ◌++◌, length, drop, take, Option, Some, None, is_some, slice_get, inl, inr, ◌⊎◌, arith, take_all}
use Rattle.std.proofs.lemmas.Bool.{cases_lt, true≢false}
use Rattle.std.proofs.Math.ListN.{length-take}
use Rattle.std.specs.Str.{bytes_eq}
use Rattle.lunit.specs.declared.geometry.Rect.{Rect}
use Rattle.session.specs.Printing.{Box}
use Rattle.open_document.specs.Apart.{AreApart}
use Rattle.open_document.specs.Changed.{changed_from, changed_in, has_box, rect_in, same_rect}
use Rattle.open_document.specs.Steps.{HasStepped, compared, name_of, noted}
use Rattle.open_document.proofs.Naming.{absent_at, agrees, has_by_name, itself, rect_at, same_bytes, same_some, take_next}

-- ---- one box more

changed_more : (k : ℕ) (before boxes : List Box) (x : Box) → changed_from k before (boxes ++ x ∷ []) ≡ changed_from k before boxes ++ noted (has_box before x) (k + length boxes)
changed_more k before [] x = by_test (has_box before x)
  where
    by_test : (t : Bool) → (if t then [] else k ∷ []) ≡ noted t (k + 0)
    by_test true = refl
    by_test false = ap (λ (n : ℕ). n ∷ []) (omega arith)
changed_more k before (b ∷ boxes) x = by_test (has_box before b) (changed_more (k + 1) before boxes x ∙ ap (λ (n : ℕ). changed_from (k + 1) before boxes ++ noted (has_box before x) n) (omega arith))
  where
    by_test : (t : Bool) → changed_from (k + 1) before (boxes ++ x ∷ []) ≡ changed_from (k + 1) before boxes ++ noted (has_box before x) (k + suc (length boxes))
        → (if t then changed_from (k + 1) before (boxes ++ x ∷ []) else k ∷ changed_from (k + 1) before (boxes ++ x ∷ [])) ≡ (if t then changed_from (k + 1) before boxes else k ∷ changed_from (k + 1) before boxes) ++ noted (has_box before x) (k + suc (length boxes))
    by_test true e = e
    by_test false e = ap (λ (l : List ℕ). k ∷ l) e

pub within_of : {A : Type 0} (xs : List A) (i : ℕ) (x : A) → slice_get xs i ≡ Some x → i < length xs
within_of [] i x at = absurd (true≢false (ap is_some (sym at)))
within_of (y ∷ ys) zero x at = omega arith
within_of (y ∷ ys) (suc i) x at = omega (arith, within_of ys i x at)

-- what is noted of the boxes up to an index, and of the one there
noted_next : (before boxes : List Box) (i : ℕ) (x : Box) → slice_get boxes i ≡ Some x → changed_from 0 before (take (i + 1) boxes) ≡ changed_from 0 before (take i boxes) ++ noted (has_box before x) i
noted_next before boxes i x at =
    ap (changed_from 0 before) (take_next boxes i x at) ∙ changed_more 0 before (take i boxes) x
    ∙ ap (λ (n : ℕ). changed_from 0 before (take i boxes) ++ noted (has_box before x) n) (omega (arith, length-take i boxes, within_of boxes i x at))

-- ---- in step

module _ (before boxes : List Box) (i : ℕ) where
  -- two boxes of one name
  record AreTwo (same : Bool) : Type 0 where
    old : Box
    new : Box
    at_old : slice_get before i ≡ Some old
    at_new : slice_get boxes i ≡ Some new
    name : old.0 ≡ new.0
    is : same ≡ same_rect old.1 new.1

  two_of : (a b : Option Box) (same : Bool) → slice_get before i ≡ a → slice_get boxes i ≡ b → compared a b ≡ Some same → AreTwo same
  two_of None b same at_a at_b e = absurd (true≢false (ap is_some (sym e)))
  two_of (Some old) None same at_a at_b e = absurd (true≢false (ap is_some (sym e)))
  two_of (Some old) (Some new) same at_a at_b e = by_test (bytes_eq old.0 new.0) refl e
    where
      by_test : (t : Bool) → bytes_eq old.0 new.0 ≡ t → (if t then Some (same_rect old.1 new.1) else None) ≡ Some same → AreTwo same
      by_test true n e = record { old = old; new = new; at_old = at_a; at_new = at_b; name = same_bytes old.0 new.0 n; is = sym (same_some (same_rect old.1 new.1) same e) }
      by_test false n e = absurd (true≢false (ap is_some (sym e)))

  has_of : AreApart before → (same : Bool) (two : AreTwo same) → has_box before two.new ≡ same
  has_of apart same two =
      has_by_name before two.new apart
      ∙ ap (λ (n : List ℕ). agrees (rect_in before n) two.new.1) (sym two.name)
      ∙ ap (λ (o : Option Rect). agrees o two.new.1) (rect_at before i two.old apart two.at_old)
      ∙ sym two.is

  names_more : (same : Bool) → AreTwo same → ((k : ℕ) → k < i → name_of (slice_get boxes k) ≡ name_of (slice_get before k)) → (k : ℕ) → k < i + 1 → name_of (slice_get boxes k) ≡ name_of (slice_get before k)
  names_more same two names k l = by_cases (cases_lt k i)
    where
      by_cases : (k < i) ⊎ (i ≤ k) → name_of (slice_get boxes k) ≡ name_of (slice_get before k)
      by_cases (inl l) = names k l
      by_cases (inr ge) =
          let is : k ≡ i = omega arith in
          ap (λ (n : ℕ). name_of (slice_get boxes n)) is ∙ ap name_of two.at_new ∙ ap Some (sym two.name) ∙ ap name_of (sym two.at_old) ∙ ap (λ (n : ℕ). name_of (slice_get before n)) (sym is)

  pub stepped : (changed changed' : List ℕ) (same : Bool) → AreApart before → HasStepped before boxes i changed → changed' ≡ changed ++ noted same i → Some same ≡ compared (slice_get before i) (slice_get boxes i) → HasStepped before boxes (i + 1) changed'
  stepped changed changed' same apart p e c =
      let two : AreTwo same = two_of (slice_get before i) (slice_get boxes i) same refl refl (sym c) in
      record {
        within = omega (arith, within_of boxes i two.new two.at_new);
        names = names_more same two p.names;
        noted = e ∙ ap (λ (l : List ℕ). l ++ noted same i) p.noted ∙ ap (λ (t : Bool). changed_from 0 before (take i boxes) ++ noted t i) (sym (has_of apart same two)) ∙ sym (noted_next before boxes i two.new two.at_new);
      }

pub stepped_none : (before boxes : List Box) (changed : List ℕ) → changed ≡ [] → HasStepped before boxes 0 changed
stepped_none before boxes changed e = record { within = omega arith; names = λ k l. absurd (omega arith); noted = e }

-- ---- out of step

-- a box behind those in step is not among the ones before that they were compared with
behind : (count : ℕ) (before boxes : List Box) (i : ℕ) (box : Box) → AreApart boxes → ((k : ℕ) → k < count → name_of (slice_get boxes k) ≡ name_of (slice_get before k)) → count ≤ i → slice_get boxes i ≡ Some box
    → has_box before box ≡ has_box (drop count before) box
behind zero before boxes i box apart names l at = refl
behind (suc count) [] boxes i box apart names l at = refl
behind (suc count) (b ∷ before) [] i box apart names l at = absurd (true≢false (ap is_some (sym at)))
behind (suc count) (b ∷ before) (x ∷ boxes) zero box apart names l at = absurd (omega arith)
behind (suc count) (b ∷ before) (x ∷ boxes) (suc i) box apart names l at =
    ap (λ (t : Bool). (t && same_rect b.1 box.1) || has_box before box) other
    ∙ behind count before boxes i box apart.1 (λ k h. names (suc k) (omega (arith, h))) (omega arith) at
  where
    name : x.0 ≡ b.0
    name = same_some x.0 b.0 (names 0 (omega arith))

    other : bytes_eq b.0 box.0 ≡ false
    other = by_test (bytes_eq b.0 box.0) refl
      where
        by_test : (t : Bool) → bytes_eq b.0 box.0 ≡ t → t ≡ false
        by_test true e = absurd (true≢false (sym (itself box.0 x.0 (sym (name ∙ same_bytes b.0 box.0 e))) ∙ absent_at boxes x.0 i box apart.0 at))
        by_test false e = refl

-- the boxes up to an index are noted
pub record HasNoted (before boxes : List Box) (index : ℕ) (changed : List ℕ) : Type 0 where
  pub noted : changed ≡ changed_from 0 before (take index boxes)

module _ (before boxes : List Box) (count : ℕ) (index : ℕ) (first changed : List ℕ) (apart : AreApart boxes) (p : HasStepped before boxes count first) (box : Box) (l : count ≤ index) (at : slice_get boxes index ≡ Some box) (q : HasNoted before boxes index changed) where
  pub noted_more : (changed' : List ℕ) (same : Bool) → same ≡ has_box (drop count before) box → changed' ≡ changed ++ noted same index → HasNoted before boxes (index + 1) changed'
  noted_more changed' same is e =
      record {
        noted = e ∙ ap (λ (l : List ℕ). l ++ noted same index) q.noted
            ∙ ap (λ (t : Bool). changed_from 0 before (take index boxes) ++ noted t index) (is ∙ sym (behind count before boxes index box apart p.names l at)) ∙ sym (noted_next before boxes index box at);
      }

pub noted_first : (before boxes : List Box) (count : ℕ) (changed : List ℕ) → HasStepped before boxes count changed → HasNoted before boxes count changed
noted_first before boxes count changed p = record { noted = p.noted }

-- all are noted
pub all_noted : (before boxes : List Box) (index : ℕ) (changed : List ℕ) → length boxes ≤ index → HasNoted before boxes index changed → changed ≡ changed_in before boxes
unfolding changed_in
all_noted before boxes index changed l p = p.noted ∙ ap (changed_from 0 before) (take_all index boxes (omega (arith, l)))

pub all_stepped : (before boxes : List Box) (count : ℕ) (changed : List ℕ) → length boxes ≤ count → HasStepped before boxes count changed → changed ≡ changed_in before boxes
all_stepped before boxes count changed l p = all_noted before boxes count changed l (record { noted = p.noted })

pub drop_apart : (boxes : List Box) (n : ℕ) → AreApart boxes → AreApart (drop n boxes)
drop_apart boxes zero a = a
drop_apart [] (suc n) a = tt
drop_apart (b ∷ boxes) (suc n) a = drop_apart boxes n a.1

pub ruleset comparing = (noted_more, noted_first, all_noted, all_stepped, drop_apart)

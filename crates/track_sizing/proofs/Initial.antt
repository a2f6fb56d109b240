-- Tracks before they are sized.
use Rattle.std.proofs.Common.{arith, ap, subst, ◌≡◌, ◌∙◌, sym, refl, ℕ, ◌+◌, ◌<◌, ◌≤◌, ℤ, pos, ◌+ℤ◌, Bool, true, if◌then◌else◌, List, [], ◌∷◌, ◌++◌, drop, length, get_or, append_assoc}
use Rattle.std.proofs.Math.ListN.{drop_of_length-le}
use Rattle.std.proofs.lemmas.Int.{ints}
use Rattle.std.proofs.lemmas.List.{append-nil}
use Rattle.part_rules.specs.declared.track.Rule.{Rule}
use Rattle.part_rules.specs.Tracks.{Track, counted_rule, initial, initialised}
use Rattle.track_sizing.specs.Fits.{HaveFixed, IsFixed, collapsed_rule}
use Rattle.track_sizing.specs.Placed.{AreSet}
use Rattle.track_sizing.proofs.Sums.{drop_item}

pub collapsed_fixed : (r : Rule) → r ≡ collapsed_rule → IsFixed r
collapsed_fixed r e = subst IsFixed (sym e) (omega (arith, ints))

pub collapsed_counted : (r c : Rule) → c ≡ collapsed_rule → r.collapsed ≡ true → c ≡ counted_rule r
collapsed_counted r c e t = e ∙ sym (ap (λ (b : Bool). if b then collapsed_rule else r) t)

pub ruleset counting = (collapsed_fixed, collapsed_counted)

pub record AreStarted (first : ℤ) (rules : List Rule) (i : ℕ) (at : ℤ) (rows : List Track) : Type 0 where
  pub same : rows ++ initialised at (drop i rules) ≡ initialised first rules
  pub at_is : at ≡ first +ℤ pos i
  pub fixed : HaveFixed (drop i rules)

pub none_started : (first at : ℤ) (rules : List Rule) (rows : List Track) → rows ≡ [] → at ≡ first → HaveFixed rules → AreStarted first rules 0 at rows
none_started first at rules rows e d h = record { same = ap (λ (xs : List Track). xs ++ initialised at rules) e ∙ ap (λ (z : ℤ). initialised z rules) d; at_is = omega (arith, ints); fixed = h }

pub more_started : (first at next : ℤ) (rules : List Rule) (i : ℕ) (rows now : List Track) (r : Rule) (t : Track) → AreStarted first rules i at rows → i < length rules → r ≡ get_or rules i r → t ≡ initial at (counted_rule r) → now ≡ rows ++ t ∷ [] → next ≡ at +ℤ pos 1 →
    AreStarted first rules (i + 1) next now
more_started first at next rules i rows now r t so h e v n a =
    let rest : drop i rules ≡ r ∷ drop (i + 1) rules = drop_item rules i r h e in
    record {
      same =
          ap (λ (z : ℤ). now ++ initialised z (drop (i + 1) rules)) a
          ∙ ap (λ (xs : List Track). xs ++ initialised (at +ℤ pos 1) (drop (i + 1) rules)) n
          ∙ append_assoc rows (t ∷ []) (initialised (at +ℤ pos 1) (drop (i + 1) rules))
          ∙ ap (λ (x : Track). rows ++ x ∷ initialised (at +ℤ pos 1) (drop (i + 1) rules)) v
          ∙ sym (ap (λ (rs : List Rule). rows ++ initialised at rs) rest)
          ∙ so.same;
      at_is = omega (arith, ints, so.at_is);
      fixed = (subst HaveFixed rest so.fixed).1;
    }

pub fixed_started : (first at : ℤ) (rules : List Rule) (i : ℕ) (rows : List Track) (r : Rule) → AreStarted first rules i at rows → i < length rules → r ≡ get_or rules i r → IsFixed r
fixed_started first at rules i rows r so h e = (subst HaveFixed (drop_item rules i r h e) so.fixed).0

pub all_started : (first at : ℤ) (rules : List Rule) (i : ℕ) (rows : List Track) → AreStarted first rules i at rows → length rules ≤ i → rows ≡ initialised first rules
all_started first at rules i rows so h = sym (append-nil rows) ∙ sym (ap (λ (rs : List Rule). rows ++ initialised at rs) (drop_of_length-le rules h)) ∙ so.same

pub ruleset started = (none_started, more_started, fixed_started, all_started)

pub set_started : (first : ℤ) (rules : List Rule) → AreSet first (initialised first rules)
set_started first [] = tt
set_started first (r ∷ rest) = ((refl, (refl, omega (arith, ints))), set_started (first +ℤ pos 1) rest)

pub length_started : (first : ℤ) (rules : List Rule) → length (initialised first rules) ≡ length rules
length_started first [] = refl
length_started first (r ∷ rest) = omega (arith, length_started (first +ℤ pos 1) rest)

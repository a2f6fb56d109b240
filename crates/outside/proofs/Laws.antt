-- Laws of told lists and of counts over several calls, for the callers of sources, sinks and rulers.
use Rattle.std.proofs.Common.{◌≡◌, ℕ, ◌-◌, ◌^◌, ◌<◌, ◌≤◌, List, [], ◌++◌, Option, Some, None, IfSome, length, drop, sym, ap, ◌∙◌, append_assoc, append-nil, refl, arith, ◌⊎◌, inl, inr}
use Rattle.std.proofs.Math.Seq.{drop-append_seam}
use Rattle.std.proofs.lemmas.Bool.{cases_lt}
use Rattle.outside.specs.Told.{Stays, Adds, Loses, IsSpent, AddsAllBut, AddsPrefix}
use Rattle.outside.specs.Reading.{IsZeroAtEnd}
use Rattle.outside.specs.Faults.{Rose}

-- ---- a list that grows

pub stays_same : {A : Type 0} (a : Option (List A)) → Stays a a
stays_same None = tt
stays_same (Some xs) = refl

pub stays_more : {A : Type 0} (a b c : Option (List A)) → Stays a b → Stays b c → Stays a c
stays_more None b c p q = tt
stays_more (Some us) None c p q = absurd p
stays_more (Some us) (Some vs) None p q = absurd q
stays_more (Some us) (Some vs) (Some ws) p q = q ∙ p

pub adds_none : {A : Type 0} (a : Option (List A)) → Adds a a []
adds_none None = tt
adds_none (Some xs) = sym (append-nil xs)

pub adds_more : {A : Type 0} (a b c : Option (List A)) (xs ys zs : List A) → Adds a b xs → Adds b c ys → zs ≡ xs ++ ys → Adds a c zs
adds_more None b c xs ys zs p q e = tt
adds_more (Some us) None c xs ys zs p q e = absurd p
adds_more (Some us) (Some vs) None xs ys zs p q e = absurd q
adds_more (Some us) (Some vs) (Some ws) xs ys zs p q e = q ∙ ap (λ x. x ++ ys) p ∙ append_assoc us xs ys ∙ ap (λ x. us ++ x) (sym e)

pub adds_stays : {A : Type 0} (a b c : Option (List A)) (xs : List A) → Adds a b xs → Stays b c → Adds a c xs
adds_stays None b c xs p q = tt
adds_stays (Some us) None c xs p q = absurd p
adds_stays (Some us) (Some vs) None xs p q = absurd q
adds_stays (Some us) (Some vs) (Some ws) xs p q = q ∙ p

-- a list that is told stays told
pub adds_told : {A : Type 0} (us : List A) (b : Option (List A)) (xs : List A) → Adds (Some us) b xs → b ≡ Some (us ++ xs)
adds_told us None xs p = absurd p
adds_told us (Some vs) xs p = ap (λ l. Some l) p

-- ---- a whole list that is added part by part

pub all_but_start : {A : Type 0} (a : Option (List A)) (whole : List A) → AddsAllBut a a whole whole
all_but_start a whole = record { done = []; added = adds_none a; parts = refl }

pub all_but_more : {A : Type 0} (a b c : Option (List A)) (xs rest whole left : List A) → AddsAllBut a b left whole → Adds b c xs → left ≡ xs ++ rest → AddsAllBut a c rest whole
all_but_more a b c xs rest whole left p q e =
    record {
      done = p.done ++ xs;
      added = adds_more a b c p.done xs _ p.added q refl;
      parts = append_assoc p.done xs rest ∙ ap (λ x. p.done ++ x) (sym e) ∙ p.parts;
    }

pub all_but_stays : {A : Type 0} (a b c : Option (List A)) (rest whole : List A) → AddsAllBut a b rest whole → Stays b c → AddsAllBut a c rest whole
all_but_stays a b c rest whole p q = record { done = p.done; added = adds_stays a b c p.done p.added q; parts = p.parts }

pub all_but_nothing : {A : Type 0} (a b : Option (List A)) (rest whole : List A) → AddsAllBut a b rest whole → rest ≡ [] → Adds a b whole
all_but_nothing a b rest whole p e =
    let done : whole ≡ p.done ++ [] = sym p.parts ∙ ap (λ x. p.done ++ x) e in
    adds_more a b b p.done [] whole p.added (adds_none b) done

-- ---- a prefix of a whole list

pub prefix_none : {A : Type 0} (a : Option (List A)) (whole : List A) → AddsPrefix a a whole
prefix_none a whole = record { rest = whole; added = all_but_start a whole }

pub prefix_all : {A : Type 0} (a b : Option (List A)) (whole : List A) → Adds a b whole → AddsPrefix a b whole
prefix_all a b whole p = record { rest = []; added = record { done = whole; added = p; parts = append-nil whole } }

pub prefix_all_but : {A : Type 0} (a b : Option (List A)) (rest whole : List A) → AddsAllBut a b rest whole → AddsPrefix a b whole
prefix_all_but a b rest whole p = record { rest = rest; added = p }

-- a prefix of what comes next
pub prefix_more : {A : Type 0} (a b c : Option (List A)) (xs rest whole left : List A) → AddsAllBut a b left whole → AddsPrefix b c xs → left ≡ xs ++ rest → AddsPrefix a c whole
prefix_more a b c xs rest whole left p q e =
    record {
      rest = q.rest ++ rest;
      added =
          all_but_more a b c q.added.done (q.rest ++ rest) whole left p q.added.added (e ∙ ap (λ l. l ++ rest) (sym q.added.parts) ∙ append_assoc q.added.done q.rest rest);
    }

pub prefix_next : {A : Type 0} (a b c : Option (List A)) (xs rest whole : List A) → AddsAllBut a b (xs ++ rest) whole → AddsPrefix b c xs → AddsPrefix a c whole
prefix_next a b c xs rest whole p q = prefix_more a b c xs rest whole (xs ++ rest) p q refl

-- a prefix of a prefix
pub prefix_longer : {A : Type 0} (a b : Option (List A)) (xs ys whole : List A) → AddsPrefix a b xs → whole ≡ xs ++ ys → AddsPrefix a b whole
prefix_longer a b xs ys whole p e = prefix_more a a b xs ys whole whole (all_but_start a whole) p e

-- all of a part, and a prefix of the next
pub prefix_after : {A : Type 0} (a b c : Option (List A)) (xs ys whole : List A) → Adds a b xs → AddsPrefix b c ys → whole ≡ xs ++ ys → AddsPrefix a c whole
prefix_after a b c xs ys whole p q e =
    prefix_more a b c ys [] whole ys (record { done = xs; added = p; parts = sym e }) q (sym (append-nil ys))

pub ruleset adding =
    (adds_none, adds_more, all_but_start, all_but_more, all_but_stays, all_but_nothing, prefix_none, prefix_all, prefix_all_but, prefix_next, prefix_longer, prefix_after)

-- ---- a list that loses its front

pub loses_none : {A : Type 0} (a : Option (List A)) → Loses a a []
loses_none None = tt
loses_none (Some xs) = refl

pub loses_more : {A : Type 0} (a b c : Option (List A)) (xs ys zs : List A) → Loses a b xs → Loses b c ys → zs ≡ xs ++ ys → Loses a c zs
loses_more None b c xs ys zs p q e = tt
loses_more (Some us) None c xs ys zs p q e = absurd p
loses_more (Some us) (Some vs) None xs ys zs p q e = absurd q
loses_more (Some us) (Some vs) (Some ws) xs ys zs p q e = p ∙ ap (λ x. xs ++ x) q ∙ sym (append_assoc xs ys ws) ∙ ap (λ x. x ++ ws) (sym e)

pub loses_stays : {A : Type 0} (a b c : Option (List A)) (xs : List A) → Loses a b xs → Stays b c → Loses a c xs
loses_stays None b c xs p q = tt
loses_stays (Some us) None c xs p q = absurd p
loses_stays (Some us) (Some vs) None xs p q = absurd q
loses_stays (Some us) (Some vs) (Some ws) xs p q = p ∙ ap (λ x. xs ++ x) (sym q)

-- what was lost once nothing is left is all that there was
pub loses_all : {A : Type 0} (a b : Option (List A)) (xs : List A) → Loses a b xs → IsSpent b → IfSome a (λ us. us ≡ xs)
loses_all None b xs p q = tt
loses_all (Some us) None xs p q = absurd p
loses_all (Some us) (Some vs) xs p q = p ∙ ap (λ x. xs ++ x) q ∙ append-nil xs

-- what was lost is the front of what there was
pub loses_front : {A : Type 0} (a b : Option (List A)) (xs : List A) → Loses a b xs → IfSome a (λ us. us ≡ xs ++ drop (length xs) us)
loses_front None b xs p = tt
loses_front (Some us) None xs p = absurd p
loses_front (Some us) (Some vs) xs p = p ∙ ap (λ x. xs ++ x) (sym (ap (drop (length xs)) p ∙ drop-append_seam xs vs))

-- a source that answers 0 for a room that is not empty is at its end
pub spent_at_zero : (a : Option (List ℕ)) → IsZeroAtEnd a 0 → IsSpent a
spent_at_zero None p = tt
spent_at_zero (Some xs) p = p.0 refl

pub ruleset losing = (loses_none, loses_more, loses_stays, loses_all, spent_at_zero)

-- ---- counts

-- what rose is greater than before, or stands at its last value
pub greater_or_last : (before now : ℕ) → now < 2 ^ 64 → Rose before now → (before < now) ⊎ (now ≡ 2 ^ 64 - 1)
greater_or_last before now fits rose = by_cases (cases_lt before now)
  where
    by_cases : (before < now) ⊎ (now ≤ before) → (before < now) ⊎ (now ≡ 2 ^ 64 - 1)
    by_cases (inl less) = inl less
    by_cases (inr more) = inr (omega arith)

pub rose_where_greater : (before now : ℕ) → before < now → Rose before now
rose_where_greater before now less = omega arith

pub rose_where_last : (before : ℕ) → Rose before (2 ^ 64 - 1)
rose_where_last before = omega arith

-- a count that stands where it was, below its last value, did not rise
pub steady : (n : ℕ) → n < 2 ^ 64 - 1 → ¬ Rose n n
steady n low rose = absurd (omega arith)

-- A list of kept answers stays right where a right answer is put.
use Rattle.std.specs.Prelude.{◌≢◌, ℕ, zero, suc, ◌-◌, ◌≤◌, List, [], ◌∷◌, ◌++◌, length, drop}
use Rattle.std.proofs.Common.{sym, arith}
use Rattle.std.proofs.lemmas.List.{length-drop}
use Rattle.tree_rules.specs.declared.query.Query.{Query}
use Rattle.tree_rules.specs.Places.{Seen}
use Rattle.tree_rules.specs.Queries.{Answer}
use Rattle.tree_rules.specs.KeptAnswers.{AreDistinct, AreRight, EachPair, IsAbsent, IsRightPair, last_of, most_kept}

-- ---- a pair put at the end

absent_put : {A : Type 0} (q : Query) (xs : List (Query × A)) (e : Query × A) → IsAbsent q xs → e.0 ≢ q → IsAbsent q (xs ++ e ∷ [])
absent_put q [] e h other = (other, tt)
absent_put q (x ∷ xs) e h other = (h.0, absent_put q xs e h.1 other)

distinct_put : {A : Type 0} (xs : List (Query × A)) (e : Query × A) → AreDistinct xs → IsAbsent e.0 xs → AreDistinct (xs ++ e ∷ [])
distinct_put [] e h absent = (tt, tt)
distinct_put (x ∷ xs) e h absent = (absent_put x.0 xs e h.0 (λ same. absent.0 (sym same)), distinct_put xs e h.1 absent.1)

each_put : {A : Type 0} (P : Query → A → Type 0) (xs : List (Query × A)) (e : Query × A) → EachPair P xs → P e.0 e.1 → EachPair P (xs ++ e ∷ [])
each_put P [] e h fact = (fact, tt)
each_put P (x ∷ xs) e h fact = (h.0, each_put P xs e h.1 fact)

-- ---- the first pairs dropped

distinct_drop : {A : Type 0} (n : ℕ) (xs : List (Query × A)) → AreDistinct xs → AreDistinct (drop n xs)
distinct_drop zero xs h = h
distinct_drop (suc n) [] h = h
distinct_drop (suc n) (x ∷ xs) h = distinct_drop n xs h.1

each_drop : {A : Type 0} (P : Query → A → Type 0) (n : ℕ) (xs : List (Query × A)) → EachPair P xs → EachPair P (drop n xs)
each_drop P zero xs h = h
each_drop P (suc n) [] h = h
each_drop P (suc n) (x ∷ xs) h = each_drop P n xs h.1

few_last : {A : Type 0} (n : ℕ) (xs : List A) → length (last_of n xs) ≤ n
few_last n xs = omega (arith, length-drop (length xs - n) xs)

pub right_put : {A : Type 0} (s : Seen) (plain : A → Answer) (kept : List (Query × A)) (q : Query) (a : A) → AreRight s plain kept → IsAbsent q kept → IsRightPair s plain q a → AreRight s plain (last_of most_kept (kept ++ (q, a) ∷ []))
right_put {A} s plain kept q a right absent new =
    let all : List (Query × A) = kept ++ (q, a) ∷ [] in
    record {
      distinct = distinct_drop (length all - most_kept) all (distinct_put kept (q, a) right.distinct absent);
      each = each_drop (IsRightPair s plain) (length all - most_kept) all (each_put (IsRightPair s plain) kept (q, a) right.each new);
      few = few_last most_kept all;
    }

-- no answers are right
pub none_right : {A : Type 0} (s : Seen) (plain : A → Answer) → AreRight {A = A} s plain []
none_right s plain = record { distinct = tt; each = tt; few = omega arith }

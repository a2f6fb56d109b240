-- The name sets of lines.
use Rattle.std.proofs.Common.{arith, rules, tests, refl, sym, ap, subst, ◌≢◌, ◌==◌, ◌∙◌, ◌≡◌, ◌⊎◌, inl, inr, ℕ, zero, suc, ◌+◌, ◌<◌, ◌≤◌, ℤ, pos, ◌+ℤ◌, Bool, true, false, true≢false, ◌||◌, List, [], ◌∷◌, ◌++◌, length, length-append, get_or, take}
use Rattle.std.specs.BTreeMap.{BTreeMap}
use Rattle.std.specs.Prelude.{Some, None, if◌then◌else◌, replicate, slice_get, slice_set}
use Rattle.std.proofs.Math.ListN.{length-take}
use Rattle.std.proofs.Math.Seq.{get_or-append_seam}
use Rattle.std.proofs.lemmas.Bool.{cases_eq, cases_lt}
use Rattle.std.proofs.lemmas.Int.{ints}
use Rattle.std.proofs.lemmas.List.{append-nil, get_or-set_same, get_or-set_other, get_or_append_left, get_or-take, get_or_past, take_all, length-map, map-append}
use Rattle.std.proofs.lemmas.List.Folds.{list_any_more}
use Rattle.std.proofs.lemmas.Option.{slice_get-get_or, slice_get_past}
use Rattle.part_rules.specs.LineNames.{holds_name, named_from}
use Rattle.std.specs.Ordering.{int_eq}
use Rattle.line_names.specs.Indexes.{ends_before, IsIndexOf, IsPart}
use Rattle.line_names.specs.Levels.{names_in}
use Rattle.line_names.specs.Passing.{among, passing, picked}
use Rattle.line_names.specs.SetLists.{has_name, is_of, sets_of, AreKinds, AreLists, IsKind}
use Rattle.line_names.specs.Tables.{AreLines}
use Rattle.line_names.specs.declared.set_list.SetList.{SetList}
use Rattle.line_names.proofs.LineLists.{passed_before, passed_next}
use Rattle.line_names.proofs.Passing.{among_inside, among_outside, named_passes}

pub counted : (sets : List (List (List ℕ))) (kinds : List ℕ) → length (sets_of sets kinds) ≡ length kinds
counted sets kinds = length-map kinds (λ kind. get_or sets kind [])

pub as_many : (old new : List (List (List ℕ))) → take (length old) new ≡ old → length old ≤ length new
as_many old new e = omega (arith, ap (λ ls. length ls) e, length-take (length old) new)

-- lists that begin alike have the sets of their common part
pub kept_set : (old new : List (List (List ℕ))) (kind : ℕ) → take (length old) new ≡ old → length new < 4294967295 → IsKind (length old) kind → get_or new kind [] ≡ get_or old kind []
kept_set old new kind e few (inl h) = sym (get_or-take (length old) new kind [] h) ∙ ap (λ ls. get_or ls kind []) e
kept_set old new kind e few (inr h) = get_or_past new kind [] (omega (arith, h, few)) ∙ sym (get_or_past old kind [] (omega (arith, h, few, as_many old new e)))

pub kept_sets : (old new : List (List (List ℕ))) (kinds : List ℕ) → take (length old) new ≡ old → length new < 4294967295 → AreKinds (length old) kinds → sets_of new kinds ≡ sets_of old kinds
kept_sets old new [] e few h = refl
kept_sets old new (kind ∷ kinds) e few h =
    ap (λ s. s ∷ sets_of new kinds) (kept_set old new kind e few (h 0 (omega arith)))
    ∙ ap (λ ls. get_or old kind [] ∷ ls) (kept_sets old new kinds e few (λ line k. h (suc line) (omega (arith, k))))

-- a line more
pub lines_more : (old new : List (List (List ℕ))) (kinds : List ℕ) (kind : ℕ) (sets : List (List (List ℕ))) (i : ℕ) → take (length old) new ≡ old → length new < 4294967295 → AreKinds (length old) kinds → get_or new kind [] ≡ get_or sets i [] →
    AreLines (λ line. get_or sets line []) i (sets_of old kinds) → AreLines (λ line. get_or sets line []) (i + 1) (sets_of new (kinds ++ kind ∷ []))
lines_more old new kinds kind sets i kept few below is so_far =
    record {
      counted = ap (λ ls. length ls) all ∙ length-append (sets_of old kinds) (get_or new kind [] ∷ []) ∙ ap (λ n. n + 1) so_far.counted;
      named = λ line h. ap (λ ls. get_or ls line []) all ∙ by line h (cases_lt line i);
    }
  where
    all : sets_of new (kinds ++ kind ∷ []) ≡ sets_of old kinds ++ get_or new kind [] ∷ []
    all = map-append (λ k. get_or new k []) kinds (kind ∷ []) ∙ ap (λ ls. ls ++ get_or new kind [] ∷ []) (kept_sets old new kinds kept few below)

    by : (line : ℕ) → line < i + 1 → (line < i) ⊎ (i ≤ line) → get_or (sets_of old kinds ++ get_or new kind [] ∷ []) line [] ≡ get_or sets line []
    by line h (inl less) = get_or_append_left (sets_of old kinds) (get_or new kind [] ∷ []) [] line (omega (arith, less, so_far.counted)) ∙ so_far.named line less
    by line h (inr more) =
        let at : line ≡ length (sets_of old kinds) = omega (arith, h, more, so_far.counted) in
        let same : i ≡ line = omega (arith, h, more) in
        ap (λ k. get_or (sets_of old kinds ++ get_or new kind [] ∷ []) k []) at
        ∙ get_or-append_seam (sets_of old kinds) (get_or new kind []) [] []
        ∙ is
        ∙ ap (λ k. get_or sets k []) same

wider : (old now kind : ℕ) → old ≤ now → IsKind old kind → IsKind now kind
wider old now kind h (inl k) = inl (omega (arith, h, k))
wider old now kind h (inr k) = inr k

pub kinds_more : (old now : ℕ) (kinds : List ℕ) (kind : ℕ) → AreKinds old kinds → old ≤ now → IsKind now kind → AreKinds now (kinds ++ kind ∷ [])
kinds_more old now kinds kind below h k line inside = by (cases_lt line (length kinds))
  where
    by : (line < length kinds) ⊎ (length kinds ≤ line) → IsKind now (get_or (kinds ++ kind ∷ []) line 0)
    by (inl less) =
        let here : get_or (kinds ++ kind ∷ []) line 0 ≡ get_or kinds line 0 = get_or_append_left kinds (kind ∷ []) 0 line less in
        subst (λ n. IsKind now n) (sym here) (wider old now (get_or kinds line 0) h (below line less))
    by (inr more) =
        let at : line ≡ length kinds = omega (arith, inside, more, length-append kinds (kind ∷ [])) in
        let here : get_or (kinds ++ kind ∷ []) line 0 ≡ kind = ap (λ i. get_or (kinds ++ kind ∷ []) i 0) at ∙ get_or-append_seam kinds kind [] 0 in
        subst (λ n. IsKind now n) (sym here) k

-- a set by its place among all
kind_named : (name : List ℕ) (sets : List (List (List ℕ))) (kind : ℕ) → among (named_from name (pos 0) sets) (pos kind) ≡ holds_name name (get_or sets kind [])
kind_named name sets kind =
    ap (λ ls. among ls (pos kind)) (named_passes name (pos 0) sets (λ l. holds_name name (names_in sets l)) (λ i h. let at : pos 0 +ℤ pos i ≡ pos i = omega (arith, ints) in ap (λ l. holds_name name (names_in sets l)) at))
    ∙ by (cases_lt kind (length sets))
  where
    by : (kind < length sets) ⊎ (length sets ≤ kind) → among (passing (λ l. holds_name name (names_in sets l)) (pos 0) (length sets)) (pos kind) ≡ holds_name name (get_or sets kind [])
    by (inl less) = among_inside (λ l. holds_name name (names_in sets l)) (pos 0) (length sets) (pos kind) (omega (arith, ints)) (omega (arith, ints, less))
    by (inr more) =
        among_outside (λ l. holds_name name (names_in sets l)) (pos 0) (length sets) (pos kind) (inr (omega (arith, ints, more)))
        ∙ ap (λ ns. holds_name name ns) (sym (get_or_past sets kind [] more))

get_or_map : (sets : List (List (List ℕ))) (kinds : List ℕ) (i : ℕ) → i < length kinds → get_or (sets_of sets kinds) i [] ≡ get_or sets (get_or kinds i 0) []
get_or_map sets [] i h = absurd (omega (arith, h))
get_or_map sets (kind ∷ kinds) zero h = refl
get_or_map sets (kind ∷ kinds) (suc i) h = get_or_map sets kinds i (omega (arith, h))

-- the lines of the kinds that have a name
pub named_kinds : (name : List ℕ) (sets : List (List (List ℕ))) (kinds : List ℕ) (some : List ℤ) → some ≡ named_from name (pos 0) sets → passing (is_of some kinds) (pos 0) (length kinds) ≡ named_from name (pos 0) (sets_of sets kinds)
named_kinds name sets kinds some e =
    sym (named_passes name (pos 0) (sets_of sets kinds) (is_of some kinds) (λ i h. each i (omega (arith, h, counted sets kinds)))
    ∙ ap (λ n. passing (is_of some kinds) (pos 0) n) (counted sets kinds))
  where
    each : (i : ℕ) → i < length kinds → is_of some kinds (pos 0 +ℤ pos i) ≡ holds_name name (get_or (sets_of sets kinds) i [])
    each i h =
        let at : pos 0 +ℤ pos i ≡ pos i = omega (arith, ints) in
        ap (λ l. is_of some kinds l) at
        ∙ ap (λ ls. among ls (pos (get_or kinds i 0))) e
        ∙ kind_named name sets (get_or kinds i 0)
        ∙ ap (λ ns. holds_name name ns) (sym (get_or_map sets kinds i h))

-- ---- the names of sets

-- a set more
pub has_more : (sets : List (List (List ℕ))) (i : ℕ) (names : List (List ℕ)) → i < length sets → names ≡ get_or sets i names → (name : List ℕ) → (has_name (take i sets) name || holds_name name names) ≡ has_name (take (i + 1) sets) name
has_more sets i names h e name = ap (λ ns. has_name (take i sets) name || holds_name name ns) e ∙ sym (list_any_more (λ ns. holds_name name ns) sets i names h)

or_parts : (a b : Bool) → (a || b) ≡ false → (a ≡ false) × (b ≡ false)
or_parts true b h = absurd (true≢false h)
or_parts false b h = (refl, h)

-- a name that no set has
pub no_set : (name : List ℕ) (sets : List (List (List ℕ))) (kind : ℕ) → has_name sets name ≡ false → holds_name name (get_or sets kind []) ≡ false
no_set name [] kind h = refl
no_set name (s ∷ sets) zero h = (or_parts (holds_name name s) (has_name sets name) h).0
no_set name (s ∷ sets) (suc kind) h = no_set name sets kind (or_parts (holds_name name s) (has_name sets name) h).1

pub no_name_at : (name : List ℕ) (sets : List (List (List ℕ))) (kinds : List ℕ) (line : ℕ) → has_name sets name ≡ false → holds_name name (get_or (sets_of sets kinds) line []) ≡ false
no_name_at name sets [] line h = refl
no_name_at name sets (kind ∷ kinds) zero h = no_set name sets kind h
no_name_at name sets (kind ∷ kinds) (suc line) h = no_name_at name sets kinds line h

no_line : (name : List ℕ) (line : ℤ) (sets : List (List (List ℕ))) (kinds : List ℕ) → has_name sets name ≡ false → named_from name line (sets_of sets kinds) ≡ []
no_line name line sets [] h = refl
no_line name line sets (kind ∷ kinds) h =
    ap (λ b. if b then line ∷ named_from name (line +ℤ pos 1) (sets_of sets kinds) else named_from name (line +ℤ pos 1) (sets_of sets kinds)) (no_set name sets kind h)
    ∙ no_line name (line +ℤ pos 1) sets kinds h

-- an index of the names of all sets
pub whole_part : (index : BTreeMap (List ℕ) (List ℤ)) (sets : List (List (List ℕ))) (kinds : List ℕ) (n : ℕ) → length sets ≤ n → IsPart index (has_name (take n sets)) (λ name. named_from name (pos 0) (sets_of sets kinds)) → IsIndexOf index (sets_of sets kinds)
whole_part index sets kinds n h part = λ name. part name ∙ ap (λ ls. if has_name ls name then named_from name (pos 0) (sets_of sets kinds) else []) (take_all n sets h) ∙ by name (has_name sets name) refl
  where
    by : (name : List ℕ) (b : Bool) → has_name sets name ≡ b → (if b then named_from name (pos 0) (sets_of sets kinds) else []) ≡ named_from name (pos 0) (sets_of sets kinds)
    by name true e = refl
    by name false e = sym (no_line name (pos 0) sets kinds e)

-- ---- lists of the lines of kinds

pub one_empty_more : (n : ℕ) (lists : List (List ℤ)) → lists ≡ replicate n [] → lists ++ [] ∷ [] ≡ replicate (n + 1) []
one_empty_more n lists e = ap (λ ls. ls ++ [] ∷ []) e ∙ more n
  where
    none : List ℤ
    none = []

    more : (n : ℕ) → replicate n none ++ none ∷ [] ≡ replicate (n + 1) none
    more zero = refl
    more (suc n) = let count : suc n + 1 ≡ suc (n + 1) = omega arith in ap (λ ls. [] ∷ ls) (more n) ∙ ap (λ k. replicate k []) (sym count)

same_kind : (n : ℕ) → (n == n) ≡ true
same_kind n = search (rules, tests)

other_kind : (n m : ℕ) → n ≢ m → (n == m) ≡ false
other_kind n m h = search (rules, tests)

some_list : (a b : List ℤ) → Some a ≡ Some b → a ≡ b
some_list a b e = search rules

none_list : (a : List ℤ) → None ≡ Some a → ⊥
none_list a e = search rules

-- a line more of a kind
pub list_more : (lists : List (List ℤ)) (kind : ℕ) (list now : List ℤ) (line : ℤ) → slice_get lists kind ≡ Some list → now ≡ list ++ line ∷ [] → (k : ℕ) → k < length lists → get_or (slice_set lists kind now) k [] ≡ get_or lists k [] ++ picked (k == kind) line []
list_more lists kind list now line e is k inside = by (cases_eq k kind)
  where
    by : (k ≡ kind) ⊎ (k ≢ kind) → get_or (slice_set lists kind now) k [] ≡ get_or lists k [] ++ picked (k == kind) line []
    by (inl same) =
        let here : list ≡ get_or lists kind [] = some_list list (get_or lists kind []) (sym e ∙ slice_get-get_or lists kind [] (omega (arith, same, inside))) in
        ap (λ i. get_or (slice_set lists kind now) i []) same
        ∙ get_or-set_same lists kind now [] (omega (arith, same, inside))
        ∙ is
        ∙ ap (λ l. l ++ line ∷ []) here
        ∙ ap (λ i. get_or lists i [] ++ line ∷ []) (sym same)
        ∙ ap (λ b. get_or lists k [] ++ picked b line []) (sym (ap (λ n. n == kind) same ∙ same_kind kind))
    by (inr apart) =
        get_or-set_other lists kind k now [] apart
        ∙ sym (append-nil (get_or lists k []))
        ∙ ap (λ b. get_or lists k [] ++ picked b line []) (sym (other_kind k kind apart))

pub list_past : (lists : List (List ℤ)) (kind : ℕ) (line : ℤ) → slice_get lists kind ≡ None → (k : ℕ) → k < length lists → get_or lists k [] ≡ get_or lists k [] ++ picked (k == kind) line []
list_past lists kind line e k inside =
    sym (append-nil (get_or lists k []))
    ∙ ap (λ b. get_or lists k [] ++ picked b line [])
    (sym (other_kind k kind (λ same. none_list (get_or lists kind []) (sym e ∙ slice_get-get_or lists kind [] (omega (arith, same, inside))))))

-- a line comes after those of each kind before it
pub kind_last : (l : SetList) (n : ℕ) (lists : List (List ℤ)) (kind : ℕ) (line : ℤ) → line ≡ pos n → AreLists l n lists → ends_before (get_or lists kind []) line ≡ true
kind_last l n lists kind line e h = by (cases_lt kind (length l.sets))
  where
    at : line ≡ pos 0 +ℤ pos n
    at = omega (arith, ints, e)

    by : (kind < length l.sets) ⊎ (length l.sets ≤ kind) → ends_before (get_or lists kind []) line ≡ true
    by (inl less) = passed_before (is_of (pos kind ∷ []) l.kinds) (pos 0) n (get_or lists kind []) line (h.passed kind less) at
    by (inr more) = ap (λ ls. ends_before ls line) (get_or_past lists kind [] (omega (arith, h.counted, more)))

-- a line more in the list of its kind
pub lists_more : (l : SetList) (n : ℕ) (lists now : List (List ℤ)) (kind : ℕ) (line : ℤ) → kind ≡ get_or l.kinds n 0 → line ≡ pos n → AreLists l n lists → length now ≡ length lists →
    ((k : ℕ) → k < length lists → get_or now k [] ≡ get_or lists k [] ++ picked (k == kind) line []) → AreLists l (n + 1) now
lists_more l n lists now kind line is e h count added =
    record {
      counted = count ∙ h.counted;
      passed = λ k inside. passed_next (is_of (pos k ∷ []) l.kinds) (pos 0) n (get_or lists k []) (get_or now k []) (k == kind) line (h.passed k inside) at (held k) (added k (omega (arith, h.counted, inside)));
    }
  where
    at : line ≡ pos 0 +ℤ pos n
    at = omega (arith, ints, e)

    alone : (b : Bool) → b ≡ (b || false)
    alone true = refl
    alone false = refl

    same_numbers : (a b : ℕ) → (a == b) ≡ int_eq (pos a) (pos b)
    same_numbers a b = search (rules, tests)

    held : (k : ℕ) → (k == kind) ≡ is_of (pos k ∷ []) l.kinds line
    held k =
        ap (λ m. k == m) is
        ∙ same_numbers k (get_or l.kinds n 0)
        ∙ alone (int_eq (pos k) (pos (get_or l.kinds n 0)))
        ∙ ap (λ z. is_of (pos k ∷ []) l.kinds z) (sym e)

-- the list of the one kind of these
pub list_of_kind : (l : SetList) (lists : List (List ℤ)) (kind : ℕ) (list some : List ℤ) → AreLists l (length l.kinds) lists → slice_get lists kind ≡ Some list → some ≡ pos kind ∷ [] → list ≡ passing (is_of some l.kinds) (pos 0) (length l.kinds)
list_of_kind l lists kind list some h e only = by (cases_lt kind (length lists))
  where
    by : (kind < length lists) ⊎ (length lists ≤ kind) → list ≡ passing (is_of some l.kinds) (pos 0) (length l.kinds)
    by (inl less) =
        some_list list (get_or lists kind []) (sym e ∙ slice_get-get_or lists kind [] less)
        ∙ h.passed kind (omega (arith, h.counted, less))
        ∙ ap (λ ks. passing (is_of ks l.kinds) (pos 0) (length l.kinds)) (sym only)
    by (inr more) = absurd (none_list list (sym (slice_get_past lists kind more) ∙ e))

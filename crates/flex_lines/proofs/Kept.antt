-- What is kept of a line tells all that its next round needs.
use Rattle.std.proofs.Common.{arith, ap, ◌≡◌, ◌∙◌, sym, refl, ℕ, suc, ◌+◌, ℤ, pos, ◌+ℤ◌, ◌-ℤ◌, Bool, true, false, List, [], ◌∷◌, ◌++◌, length, map, set, Option, Some, None, if◌then◌else◌, append_assoc}
use Rattle.std.specs.Prelude.{◌==◌}
use Rattle.std.proofs.lemmas.Int.{ints}
use Rattle.std.proofs.lemmas.List.{length-append}
use Rattle.std.proofs.Math.Seq.{set-append_seam}
use Rattle.part_rules.specs.declared.flex.FlexItem.{FlexItem}
use Rattle.part_rules.specs.Lists.{sum_of, total_of, zipped}
use Rattle.part_rules.specs.Sharing.{part, apportioned_after}
use Rattle.part_rules.specs.FlexLines.{Piece, factor_of, free_factor, frozen_by, given_space, outer_now, size_of, tried, turn, violation, weight_of}
use Rattle.flex_lines.specs.declared.flexible.Flexible.{Flexible}
use Rattle.flex_lines.specs.Rounds.{flexible_from, free_item, given, held_by, left, newly_held, pieces, settled, stopped, stops, tries}

-- ---- the sizes that are tried

abbrev part_if : Bool → ℤ → ℕ → ℕ → ℤ
part_if b space whole weight = if b then pos 0 else part space whole weight

-- the sizes that are tried, from the parts in one list
tries_are : (grow : Bool) (space : ℤ) (whole before : ℕ) (b : Bool) (line : List Piece) → whole == 0 ≡ b
    → zipped (tried grow) line (if b then map (λ (p : Piece). pos 0) line else apportioned_after before space whole (map (weight_of grow) line)) ≡ tries grow space whole before line
tries_are grow space whole before true [] e = refl
tries_are grow space whole before false [] e = refl
tries_are grow space whole before true (p ∷ rest) e =
    let none : pos 0 ≡ given space whole before (weight_of grow p) = sym (ap (λ (b : Bool). part_if b space whole (before + weight_of grow p) -ℤ part_if b space whole before) e) in
    ap (λ (z : ℤ). tried grow p z ∷ zipped (tried grow) rest (map (λ (p : Piece). pos 0) rest)) none
    ∙ ap (λ (ts : List ℤ). tried grow p (given space whole before (weight_of grow p)) ∷ ts) (tries_are grow space whole (before + weight_of grow p) true rest e)
tries_are grow space whole before false (p ∷ rest) e =
    let same : part space whole (before + weight_of grow p) -ℤ part space whole before ≡ given space whole before (weight_of grow p) = sym (ap (λ (b : Bool). part_if b space whole (before + weight_of grow p) -ℤ part_if b space whole before) e) in
    ap (λ (z : ℤ). tried grow p z ∷ zipped (tried grow) rest (apportioned_after (before + weight_of grow p) space whole (map (weight_of grow) rest))) same
    ∙ ap (λ (ts : List ℤ). tried grow p (given space whole before (weight_of grow p)) ∷ ts) (tries_are grow space whole (before + weight_of grow p) false rest e)

-- one turn, from the sizes that it tries
pub turn_is : (grow : Bool) (main gap initial : ℤ) (line : List Piece) → (let ts : List ℤ = tries grow (given_space grow main gap initial line) (total_of (map (weight_of grow) line)) 0 line in turn grow main gap initial line ≡ zipped (frozen_by (sum_of (zipped violation line ts))) line ts)
turn_is grow main gap initial line =
    ap (λ (ts : List ℤ). zipped (frozen_by (sum_of (zipped violation line ts))) line ts) (tries_are grow (given_space grow main gap initial line) (total_of (map (weight_of grow) line)) 0 (total_of (map (weight_of grow) line) == 0) line refl)

-- ---- an item that is frozen has no weight and takes no part

no_weight : (grow : Bool) (i : FlexItem) (s : ℤ) → weight_of grow (record { item = i; frozen = Some s }) ≡ 0
no_weight true i s = refl
no_weight false i s = omega arith

past : (grow : Bool) (i : FlexItem) (s : ℤ) (before : ℕ) → before + weight_of grow (record { item = i; frozen = Some s }) ≡ before
past grow i s before = omega (arith, no_weight grow i s)

-- the line after a round
abbrev next : Bool → ℤ → ℕ → ℤ → ℕ → List Piece → List Piece
next grow space whole sum before line = zipped (frozen_by sum) line (tries grow space whole before line)

-- the sizes that are tried for the items that are not frozen
abbrev trials : Bool → ℤ → ℕ → ℕ → List Flexible → List ℤ
trials grow space whole before fs = tries grow space whole before (pieces fs)

abbrev frozen_item : FlexItem → ℤ → Piece
frozen_item i s = record { item = i; frozen = Some s }

abbrev at : ℕ → FlexItem → Flexible
at place i = record { place = place; item = i }

-- ---- the items that are left

pub left_is : (grow : Bool) (space : ℤ) (whole : ℕ) (sum : ℤ) (place before : ℕ) (line : List Piece)
    → left sum (flexible_from place line) (trials grow space whole before (flexible_from place line)) ≡ flexible_from place (next grow space whole sum before line)
left_is grow space whole sum place before [] = refl
left_is grow space whole sum place before (p ∷ rest) = go p.item p.frozen (λ b. left_is grow space whole sum (suc place) b rest)
  where
    Ih : ℕ → Type 0
    Ih b = left sum (flexible_from (suc place) rest) (trials grow space whole b (flexible_from (suc place) rest)) ≡ flexible_from (suc place) (next grow space whole sum b rest)

    free : (i : FlexItem) (after : ℕ) (t : ℤ) (b : Bool) → Ih after
        → (if b then left sum (flexible_from (suc place) rest) (trials grow space whole after (flexible_from (suc place) rest)) else at place i ∷ left sum (flexible_from (suc place) rest) (trials grow space whole after (flexible_from (suc place) rest)))
        ≡ flexible_from place ((if b then frozen_item i (stopped (at place i) t) else free_item i) ∷ next grow space whole sum after rest)
    free i after t true ih = ih
    free i after t false ih = ap (λ (fs : List Flexible). at place i ∷ fs) ih

    go : (i : FlexItem) (o : Option ℤ) → ((b : ℕ) → Ih b)
        → left sum (flexible_from place (record { item = i; frozen = o } ∷ rest)) (trials grow space whole before (flexible_from place (record { item = i; frozen = o } ∷ rest))) ≡ flexible_from place (next grow space whole sum before (record { item = i; frozen = o } ∷ rest))
    go i None ih =
        free i (before + weight_of grow (free_item i)) (tried grow (free_item i) (given space whole before (weight_of grow (free_item i)))) (stops sum (at place i) (tried grow (free_item i) (given space whole before (weight_of grow (free_item i)))))
        (ih (before + weight_of grow (free_item i)))
    go i (Some s) ih = ih before ∙ sym (ap (λ (b : ℕ). flexible_from (suc place) (next grow space whole sum b rest)) (past grow i s before))

-- ---- what is held

pub held_is : (grow : Bool) (space : ℤ) (whole : ℕ) (sum : ℤ) (place before : ℕ) (line : List Piece)
    → held_by line +ℤ newly_held sum (flexible_from place line) (trials grow space whole before (flexible_from place line)) ≡ held_by (next grow space whole sum before line)
held_is grow space whole sum place before [] = refl
held_is grow space whole sum place before (p ∷ rest) = go p.item p.frozen (λ b. held_is grow space whole sum (suc place) b rest)
  where
    new : ℕ → ℤ
    new b = newly_held sum (flexible_from (suc place) rest) (trials grow space whole b (flexible_from (suc place) rest))

    Ih : ℕ → Type 0
    Ih b = held_by rest +ℤ newly_held sum (flexible_from (suc place) rest) (trials grow space whole b (flexible_from (suc place) rest)) ≡ held_by (next grow space whole sum b rest)

    free : (i : FlexItem) (after : ℕ) (t : ℤ) (b : Bool) → Ih after
        → (pos 0 +ℤ held_by rest) +ℤ ((if b then stopped (at place i) t +ℤ i.margins else pos 0) +ℤ newly_held sum (flexible_from (suc place) rest) (trials grow space whole after (flexible_from (suc place) rest)))
        ≡ held_by ((if b then frozen_item i (stopped (at place i) t) else free_item i) ∷ next grow space whole sum after rest)
    free i after t true ih = omega (arith, ints, ih)
    free i after t false ih = omega (arith, ints, ih)

    go : (i : FlexItem) (o : Option ℤ) → ((b : ℕ) → Ih b)
        → held_by (record { item = i; frozen = o } ∷ rest) +ℤ newly_held sum (flexible_from place (record { item = i; frozen = o } ∷ rest)) (trials grow space whole before (flexible_from place (record { item = i; frozen = o } ∷ rest))) ≡
        held_by (next grow space whole sum before (record { item = i; frozen = o } ∷ rest))
    go i None ih =
        free i (before + weight_of grow (free_item i)) (tried grow (free_item i) (given space whole before (weight_of grow (free_item i)))) (stops sum (at place i) (tried grow (free_item i) (given space whole before (weight_of grow (free_item i)))))
        (ih (before + weight_of grow (free_item i)))
    go i (Some s) ih =
        let rest_same : held_by rest +ℤ newly_held sum (flexible_from (suc place) rest) (trials grow space whole before (flexible_from (suc place) rest)) ≡
        held_by (next grow space whole sum (before + weight_of grow (frozen_item i s)) rest) = ih before ∙ sym (ap (λ (b : ℕ). held_by (next grow space whole sum b rest)) (past grow i s before)) in
        omega (arith, ints, rest_same)

-- ---- the sizes

pub sizes_are : (grow : Bool) (space : ℤ) (whole : ℕ) (sum : ℤ) (place before : ℕ) (line : List Piece) (done : List ℤ) → length done ≡ place
    → settled sum (flexible_from place line) (trials grow space whole before (flexible_from place line)) (done ++ map size_of line) ≡ done ++ map size_of (next grow space whole sum before line)
sizes_are grow space whole sum place before [] done h = refl
sizes_are grow space whole sum place before (p ∷ rest) done h = go p.item p.frozen (λ b more k. sizes_are grow space whole sum (suc place) b rest more k)
  where
    Ih : ℕ → Type 0
    Ih b = (more : List ℤ) → length more ≡ suc place → settled sum (flexible_from (suc place) rest) (trials grow space whole b (flexible_from (suc place) rest)) (more ++ map size_of rest) ≡ more ++ map size_of (next grow space whole sum b rest)

    longer : (z : ℤ) → length (done ++ z ∷ []) ≡ suc place
    longer z = omega (arith, h, length-append done (z ∷ []))

    -- with the size of one item, the rest follows
    follows : (b : ℕ) (z : ℤ) → Ih b → settled sum (flexible_from (suc place) rest) (trials grow space whole b (flexible_from (suc place) rest)) (done ++ z ∷ map size_of rest) ≡ done ++ z ∷ map size_of (next grow space whole sum b rest)
    follows b z ih =
        sym (ap (settled sum (flexible_from (suc place) rest) (trials grow space whole b (flexible_from (suc place) rest))) (append_assoc done (z ∷ []) (map size_of rest)))
        ∙ ih (done ++ z ∷ []) (longer z)
        ∙ append_assoc done (z ∷ []) (map size_of (next grow space whole sum b rest))

    free : (i : FlexItem) (after : ℕ) (t : ℤ) (b : Bool) → Ih after
        → settled sum (flexible_from (suc place) rest) (trials grow space whole after (flexible_from (suc place) rest)) (if b then set (done ++ i.base ∷ map size_of rest) place (stopped (at place i) t) else done ++ i.base ∷ map size_of rest)
        ≡ done ++ map size_of ((if b then frozen_item i (stopped (at place i) t) else free_item i) ∷ next grow space whole sum after rest)
    free i after t true ih =
        ap (settled sum (flexible_from (suc place) rest) (trials grow space whole after (flexible_from (suc place) rest)))
        (ap (λ (n : ℕ). set (done ++ i.base ∷ map size_of rest) n (stopped (at place i) t)) (sym h) ∙ set-append_seam done i.base (map size_of rest) (stopped (at place i) t))
        ∙ follows after (stopped (at place i) t) ih
    free i after t false ih = follows after i.base ih

    go : (i : FlexItem) (o : Option ℤ) → ((b : ℕ) → Ih b)
        → settled sum (flexible_from place (record { item = i; frozen = o } ∷ rest)) (trials grow space whole before (flexible_from place (record { item = i; frozen = o } ∷ rest))) (done ++ map size_of (record { item = i; frozen = o } ∷ rest)) ≡
        done ++ map size_of (next grow space whole sum before (record { item = i; frozen = o } ∷ rest))
    go i None ih =
        free i (before + weight_of grow (free_item i)) (tried grow (free_item i) (given space whole before (weight_of grow (free_item i)))) (stops sum (at place i) (tried grow (free_item i) (given space whole before (weight_of grow (free_item i)))))
        (ih (before + weight_of grow (free_item i)))
    go i (Some s) ih = follows before s (ih before) ∙ sym (ap (λ (b : ℕ). done ++ s ∷ map size_of (next grow space whole sum b rest)) (past grow i s before))

-- ---- the sums

pub changes_are : (grow : Bool) (space : ℤ) (whole : ℕ) (place before : ℕ) (line : List Piece)
    → sum_of (zipped violation (pieces (flexible_from place line)) (trials grow space whole before (flexible_from place line))) ≡ sum_of (zipped violation line (tries grow space whole before line))
changes_are grow space whole place before [] = refl
changes_are grow space whole place before (p ∷ rest) = go p.item p.frozen (λ b. changes_are grow space whole (suc place) b rest)
  where
    Ih : ℕ → Type 0
    Ih b = sum_of (zipped violation (pieces (flexible_from (suc place) rest)) (trials grow space whole b (flexible_from (suc place) rest))) ≡ sum_of (zipped violation rest (tries grow space whole b rest))

    go : (i : FlexItem) (o : Option ℤ) → ((b : ℕ) → Ih b)
        → sum_of (zipped violation (pieces (flexible_from place (record { item = i; frozen = o } ∷ rest))) (trials grow space whole before (flexible_from place (record { item = i; frozen = o } ∷ rest)))) ≡
        sum_of (zipped violation (record { item = i; frozen = o } ∷ rest) (tries grow space whole before (record { item = i; frozen = o } ∷ rest)))
    go i None ih = ap (λ (z : ℤ). violation (free_item i) (tried grow (free_item i) (given space whole before (weight_of grow (free_item i)))) +ℤ z) (ih (before + weight_of grow (free_item i)))
    go i (Some s) ih =
        let same : sum_of (zipped violation (pieces (flexible_from (suc place) rest)) (trials grow space whole before (flexible_from (suc place) rest))) ≡
        sum_of (zipped violation rest (tries grow space whole (before + weight_of grow (frozen_item i s)) rest)) = ih before ∙ sym (ap (λ (b : ℕ). sum_of (zipped violation rest (tries grow space whole b rest))) (past grow i s before)) in
        omega (arith, ints, same)

pub weights_are : (grow : Bool) (place : ℕ) (line : List Piece) → total_of (map (weight_of grow) (pieces (flexible_from place line))) ≡ total_of (map (weight_of grow) line)
weights_are grow place [] = refl
weights_are grow place (p ∷ rest) = go p.item p.frozen (weights_are grow (suc place) rest)
  where
    go : (i : FlexItem) (o : Option ℤ) → total_of (map (weight_of grow) (pieces (flexible_from (suc place) rest))) ≡ total_of (map (weight_of grow) rest)
        → total_of (map (weight_of grow) (pieces (flexible_from place (record { item = i; frozen = o } ∷ rest)))) ≡ total_of (map (weight_of grow) (record { item = i; frozen = o } ∷ rest))
    go i None ih = ap (λ (n : ℕ). weight_of grow (free_item i) + n) ih
    go i (Some s) ih = omega (arith, ih, no_weight grow i s)

pub factors_are : (grow : Bool) (place : ℕ) (line : List Piece) → total_of (map (free_factor grow) (pieces (flexible_from place line))) ≡ total_of (map (free_factor grow) line)
factors_are grow place [] = refl
factors_are grow place (p ∷ rest) = go p.item p.frozen (factors_are grow (suc place) rest)
  where
    go : (i : FlexItem) (o : Option ℤ) → total_of (map (free_factor grow) (pieces (flexible_from (suc place) rest))) ≡ total_of (map (free_factor grow) rest)
        → total_of (map (free_factor grow) (pieces (flexible_from place (record { item = i; frozen = o } ∷ rest)))) ≡ total_of (map (free_factor grow) (record { item = i; frozen = o } ∷ rest))
    go i None ih = ap (λ (n : ℕ). factor_of grow i + n) ih
    go i (Some s) ih = omega (arith, ih)

pub outer_is : (place : ℕ) (line : List Piece) → held_by line +ℤ sum_of (map outer_now (pieces (flexible_from place line))) ≡ sum_of (map outer_now line)
outer_is place [] = refl
outer_is place (p ∷ rest) = go p.item p.frozen (outer_is (suc place) rest)
  where
    go : (i : FlexItem) (o : Option ℤ) → held_by rest +ℤ sum_of (map outer_now (pieces (flexible_from (suc place) rest))) ≡ sum_of (map outer_now rest)
        → held_by (record { item = i; frozen = o } ∷ rest) +ℤ sum_of (map outer_now (pieces (flexible_from place (record { item = i; frozen = o } ∷ rest)))) ≡ sum_of (map outer_now (record { item = i; frozen = o } ∷ rest))
    go i None ih = omega (arith, ints, ih)
    go i (Some s) ih = omega (arith, ints, ih)

-- ---- a line whose items are all frozen does not change

pub next-length : (grow : Bool) (space : ℤ) (whole : ℕ) (sum : ℤ) (before : ℕ) (line : List Piece) → length (next grow space whole sum before line) ≡ length line
next-length grow space whole sum before [] = refl
next-length grow space whole sum before (p ∷ rest) = ap suc (next-length grow space whole sum (before + weight_of grow p) rest)

pub still : (grow : Bool) (space : ℤ) (whole : ℕ) (sum : ℤ) (place before : ℕ) (line : List Piece) → flexible_from place line ≡ [] → next grow space whole sum before line ≡ line
still grow space whole sum place before [] h = refl
still grow space whole sum place before (p ∷ rest) h = go p.item p.frozen (λ b k. still grow space whole sum (suc place) b rest k) h
  where
    go : (i : FlexItem) (o : Option ℤ) → ((b : ℕ) → flexible_from (suc place) rest ≡ [] → next grow space whole sum b rest ≡ rest) → flexible_from place (record { item = i; frozen = o } ∷ rest) ≡ []
        → next grow space whole sum before (record { item = i; frozen = o } ∷ rest) ≡ record { item = i; frozen = o } ∷ rest
    go i None ih k = absurd cc
    go i (Some s) ih k = ap (λ (ps : List Piece). frozen_item i s ∷ ps) (ih (before + weight_of grow (frozen_item i s)) k)

-- The lines of a name, one line after another.
use Rattle.std.proofs.Common.{arith, rules, refl, sym, ap, ◌∙◌, ◌≡◌, ℕ, zero, suc, ◌+◌, ◌-◌, ◌<◌, ◌≤◌, ℤ, pos, ◌+ℤ◌, ◌<ℤ◌, ◌≤ℤ◌, Bool, true, false, ◌||◌, List, [], ◌∷◌, ◌++◌, length, take, get_or, int_lt, if◌then◌else◌, length-append}
use Rattle.std.specs.Cmp.Lexicographic.{pointwise, pointwise_decides}
use Rattle.std.proofs.lemmas.Slice.Eq.{bytes_eq-Decides}
use Rattle.std.proofs.Math.ListN.{length-take}
use Rattle.std.proofs.Math.Seq.{get_or-append_seam}
use Rattle.std.proofs.lemmas.List.{append-nil, take_more}
use Rattle.std.specs.Prelude.{Some, slice_get}
use Rattle.std.specs.Str.{bytes_eq}
use Rattle.std.proofs.lemmas.Int.{ints}
use Rattle.std.proofs.lemmas.List.Folds.{list_any_more}
use Rattle.std.proofs.lemmas.Map.Text.{is_eq-slice_cmp}
use Rattle.std.proofs.lemmas.Option.{slice_get-get_or}
use Rattle.part_rules.specs.LineNames.{named_from, holds_name}
use Rattle.std.specs.BTreeMap.{BTreeMap}
use Rattle.line_names.specs.Indexes.{lines_in, precedes, ends_before, noted, marked, IsPart}
use Rattle.line_names.specs.Passing.{picked}

-- the order of names as bytes tells the same names apart
pub ruleset found = (is_eq-slice_cmp)

picked-append : (held : Bool) (line : ℤ) (xs ys : List ℤ) → picked held line (xs ++ ys) ≡ picked held line xs ++ ys
picked-append true line xs ys = refl
picked-append false line xs ys = refl

pub named_from-append : (name : List ℕ) (line : ℤ) (xs ys : List (List (List ℕ))) → named_from name line (xs ++ ys) ≡ named_from name line xs ++ named_from name (line +ℤ pos (length xs)) ys
named_from-append name line [] ys = ap (λ z. named_from name z ys) (omega (arith, ints))
named_from-append name line (x ∷ xs) ys =
    let at : line +ℤ pos 1 +ℤ pos (length xs) ≡ line +ℤ pos (length (x ∷ xs)) = omega (arith, ints) in
    let rest : named_from name (line +ℤ pos 1) (xs ++ ys) ≡ named_from name (line +ℤ pos 1) xs ++ named_from name (line +ℤ pos (length (x ∷ xs))) ys = named_from-append name (line +ℤ pos 1) xs ys ∙ ap (λ z. named_from name (line +ℤ pos 1) xs ++ named_from name z ys) at in
    ap (λ more. picked (holds_name name x) line more) rest ∙ picked-append (holds_name name x) line (named_from name (line +ℤ pos 1) xs) (named_from name (line +ℤ pos (length (x ∷ xs))) ys)

pub picked-low : (held : Bool) (line : ℤ) (more : List ℤ) (d : ℤ) → ((k : ℕ) → k < length more → (line +ℤ pos 1) ≤ℤ get_or more k d) → (i : ℕ) → i < length (picked held line more) → line ≤ℤ get_or (picked held line more) i d
picked-low true line more d f zero h = omega (arith, ints)
picked-low true line more d f (suc i) h = omega (arith, ints, f i (omega arith))
picked-low false line more d f i h = omega (arith, ints, f i h)

pub picked-high : (held : Bool) (line high : ℤ) (more : List ℤ) (d : ℤ) → line <ℤ high → ((k : ℕ) → k < length more → get_or more k d <ℤ high) → (i : ℕ) → i < length (picked held line more) → get_or (picked held line more) i d <ℤ high
picked-high true line high more d l f zero h = l
picked-high true line high more d l f (suc i) h = f i (omega arith)
picked-high false line high more d l f i h = f i h

pub picked-ascends : (held : Bool) (line : ℤ) (more : List ℤ) (d : ℤ) → ((k : ℕ) → k < length more → (line +ℤ pos 1) ≤ℤ get_or more k d) → ((i j : ℕ) → i ≤ j → j < length more → get_or more i d ≤ℤ get_or more j d) → (i j : ℕ) → i ≤ j → j < length (picked held line more) →
    get_or (picked held line more) i d ≤ℤ get_or (picked held line more) j d
picked-ascends true line more d f g zero zero h k = omega (arith, ints)
picked-ascends true line more d f g zero (suc j) h k = omega (arith, ints, f j (omega arith))
picked-ascends true line more d f g (suc i) zero h k = absurd (omega arith)
picked-ascends true line more d f g (suc i) (suc j) h k = g i j (omega arith) (omega arith)
picked-ascends false line more d f g i j h k = g i j h k

-- all lines of a name are at or after the first of the lines, and before the line after the last of them
pub named_from-low : (name : List ℕ) (line : ℤ) (xs : List (List (List ℕ))) (d : ℤ) (i : ℕ) → i < length (named_from name line xs) → line ≤ℤ get_or (named_from name line xs) i d
named_from-low name line [] d i h = absurd (omega arith)
named_from-low name line (x ∷ xs) d i h = picked-low (holds_name name x) line (named_from name (line +ℤ pos 1) xs) d (λ k g. named_from-low name (line +ℤ pos 1) xs d k g) i h

pub named_from-high : (name : List ℕ) (line : ℤ) (xs : List (List (List ℕ))) (d : ℤ) (i : ℕ) → i < length (named_from name line xs) → get_or (named_from name line xs) i d <ℤ (line +ℤ pos (length xs))
named_from-high name line [] d i h = absurd (omega arith)
named_from-high name line (x ∷ xs) d i h =
    let at : line +ℤ pos 1 +ℤ pos (length xs) ≡ line +ℤ pos (length (x ∷ xs)) = omega (arith, ints) in
    picked-high (holds_name name x) line (line +ℤ pos (length (x ∷ xs))) (named_from name (line +ℤ pos 1) xs) d (omega (arith, ints)) (λ k g. omega (arith, ints, at, named_from-high name (line +ℤ pos 1) xs d k g)) i h

-- they ascend
pub named_from-ascends : (name : List ℕ) (line : ℤ) (xs : List (List (List ℕ))) (d : ℤ) (i j : ℕ) → i ≤ j → j < length (named_from name line xs) → get_or (named_from name line xs) i d ≤ℤ get_or (named_from name line xs) j d
named_from-ascends name line [] d i j h k = absurd (omega arith)
named_from-ascends name line (x ∷ xs) d i j h k = picked-ascends (holds_name name x) line (named_from name (line +ℤ pos 1) xs) d (λ n g. named_from-low name (line +ℤ pos 1) xs d n g) (λ m n g e. named_from-ascends name (line +ℤ pos 1) xs d m n g e) i j h k

-- ---- one line more

int_lt-from : (a b : ℤ) → a <ℤ b → int_lt a b ≡ true
int_lt-from a b h = search rules

int_lt-same : (a : ℤ) → int_lt a a ≡ false
int_lt-same a = search rules

pub ends_before-from : (xs : List ℤ) (line : ℤ) → ((i : ℕ) → i < length xs → get_or xs i line <ℤ line) → ends_before xs line ≡ true
ends_before-from [] line h = refl
ends_before-from (x ∷ xs) line h =
    let e : slice_get (x ∷ xs) (length (x ∷ xs) - 1) ≡ Some (get_or (x ∷ xs) (length (x ∷ xs) - 1) line) = slice_get-get_or (x ∷ xs) (length (x ∷ xs) - 1) line (omega arith) in
    ap (λ o. precedes o line) e ∙ int_lt-from (get_or (x ∷ xs) (length (x ∷ xs) - 1) line) line (h (length (x ∷ xs) - 1) (omega arith))

ends_before-pushed : (xs : List ℤ) (line : ℤ) → ends_before (xs ++ line ∷ []) line ≡ false
ends_before-pushed xs line =
    let n : length (xs ++ line ∷ []) - 1 ≡ length xs = omega (arith, length-append xs (line ∷ [])) in
    let e : slice_get (xs ++ line ∷ []) (length xs) ≡ Some (get_or (xs ++ line ∷ []) (length xs) line) = slice_get-get_or (xs ++ line ∷ []) (length xs) line (omega (arith, length-append xs (line ∷ []))) in
    ap (λ k. precedes (slice_get (xs ++ line ∷ []) k) line) n ∙ ap (λ o. precedes o line) e ∙ ap (λ z. int_lt z line) (get_or-append_seam xs line [] line) ∙ int_lt-same line

marked_end : (held : Bool) (xs : List ℤ) (line : ℤ) → ends_before xs line ≡ true → xs ++ picked held line [] ≡ marked held xs line
marked_end true xs line e = sym (ap (λ b. if b then xs ++ line ∷ [] else xs) e)
marked_end false xs line e = append-nil xs

-- the lines of a name, when a line comes after these
pub named_more : (name : List ℕ) (xs : List (List (List ℕ))) (x : List (List ℕ)) → named_from name (pos 0) (xs ++ x ∷ []) ≡ marked (holds_name name x) (named_from name (pos 0) xs) (pos (length xs))
named_more name xs x =
    let at : pos 0 +ℤ pos (length xs) ≡ pos (length xs) = omega (arith, ints) in
    let ends : ends_before (named_from name (pos 0) xs) (pos (length xs)) ≡ true = ends_before-from (named_from name (pos 0) xs) (pos (length xs)) (λ i h. omega (arith, ints, at, named_from-high name (pos 0) xs (pos (length xs)) i h)) in
    named_from-append name (pos 0) xs (x ∷ []) ∙ ap (λ z. named_from name (pos 0) xs ++ named_from name z (x ∷ [])) at ∙ marked_end (holds_name name x) (named_from name (pos 0) xs) (pos (length xs)) ends

-- the lines of a name among the lines up to one of them
pub named_step : (name : List ℕ) (xs : List (List (List ℕ))) (k : ℕ) (d : List (List ℕ)) → k < length xs → named_from name (pos 0) (take (k + 1) xs) ≡ marked (holds_name name (get_or xs k d)) (named_from name (pos 0) (take k xs)) (pos k)
named_step name xs k d h =
    let n : length (take k xs) ≡ k = omega (arith, length-take k xs) in
    ap (λ ys. named_from name (pos 0) ys) (take_more xs k d h) ∙ named_more name (take k xs) (get_or xs k d) ∙ ap (λ m. marked (holds_name name (get_or xs k d)) (named_from name (pos 0) (take k xs)) (pos m)) n

-- ---- lines with the same names

pub same_names : (a b : List (List ℕ)) → pointwise bytes_eq a b ≡ true → a ≡ b
same_names a b h = (pointwise_decides bytes_eq-Decides a b).0 h

int_lt-not : (a b : ℤ) → b ≤ℤ a → int_lt a b ≡ false
int_lt-not a b h = search rules

-- once a line is noted, it is not noted again
noted-again : (xs : List ℤ) (line : ℤ) → noted (noted xs line) line ≡ noted xs line
noted-again xs line = by (ends_before xs line) refl
  where
    kept : (ys : List ℤ) → ends_before ys line ≡ false → noted ys line ≡ ys
    kept ys e = ap (λ b. if b then ys ++ line ∷ [] else ys) e

    by : (t : Bool) → ends_before xs line ≡ t → noted (if t then xs ++ line ∷ [] else xs) line ≡ (if t then xs ++ line ∷ [] else xs)
    by true e = kept (xs ++ line ∷ []) (ends_before-pushed xs line)
    by false e = kept xs e

-- marked twice is marked by either
marked-again : (one two : Bool) (xs : List ℤ) (line : ℤ) → marked two (marked one xs line) line ≡ marked (one || two) xs line
marked-again true true xs line = noted-again xs line
marked-again true false xs line = refl
marked-again false true xs line = refl
marked-again false false xs line = refl

-- a name of a line more
pub marked_step : (other : List ℕ) (names : List (List ℕ)) (i : ℕ) (name : List ℕ) (now before : List ℤ) (line : ℤ) → i < length names → name ≡ get_or names i name → now ≡ marked (holds_name other (take i names)) before line →
    marked (bytes_eq name other) now line ≡ marked (holds_name other (take (i + 1) names)) before line
marked_step other names i name now before line h e f =
    ap (λ xs. marked (bytes_eq name other) xs line) f ∙ marked-again (holds_name other (take i names)) (bytes_eq name other) before line ∙ ap (λ m. marked (holds_name other (take i names) || bytes_eq m other) before line) e ∙
    ap (λ b. marked b before line) (sym (list_any_more (λ held. bytes_eq held other) names i name h))

-- a line more
pub index_step : (name : List ℕ) (lines : List (List (List ℕ))) (at : ℕ) (names : List (List ℕ)) (now : List ℤ) → at < length lines → names ≡ get_or lines at names → now ≡ named_from name (pos 0) (take at lines) →
    marked (holds_name name names) now (pos at) ≡ named_from name (pos 0) (take (at + 1) lines)
index_step name lines at names now h e f =
    ap (λ xs. marked (holds_name name names) xs (pos at)) f
    ∙ ap (λ m. marked (holds_name name m) (named_from name (pos 0) (take at lines)) (pos at)) e
    ∙ sym (named_step name lines at names h)

-- ---- indexes in part

names_same : (a b : List ℕ) → bytes_eq a b ≡ true → a ≡ b
names_same a b h = search rules

-- the lines of a name are put
pub part_put : (old new : BTreeMap (List ℕ) (List ℤ)) (done : List ℕ → Bool) (value : List ℕ → List ℤ) (name : List ℕ) (lines : List ℤ) → lines ≡ value name →
    ((other : List ℕ) → lines_in new other ≡ (if bytes_eq name other then lines else lines_in old other)) → IsPart old done value → IsPart new (λ other. done other || bytes_eq name other) value
part_put old new done value name lines e put part = λ other. put other ∙ by other (bytes_eq name other) refl
  where
    both : (a : Bool) → (a || true) ≡ true
    both true = refl
    both false = refl

    by : (other : List ℕ) (b : Bool) → bytes_eq name other ≡ b → (if b then lines else lines_in old other) ≡ (if (done other || b) then value other else [])
    by other true same = e ∙ ap value (names_same name other same) ∙ ap (λ t. if t then value other else []) (sym (both (done other)))
    by other false apart = part other ∙ ap (λ t. if t then value other else []) (sym (or_none (done other)))
      where
        or_none : (a : Bool) → (a || false) ≡ a
        or_none true = refl
        or_none false = refl

-- a name that has lines is put already
pub part_there : (old : BTreeMap (List ℕ) (List ℤ)) (done : List ℕ → Bool) (value : List ℕ → List ℤ) (name : List ℕ) → ¬ (lines_in old name ≡ []) → IsPart old done value → IsPart old (λ other. done other || bytes_eq name other) value
part_there old done value name some part = λ other. part other ∙ ap (λ t. if t then value other else []) (by other (done other) refl (bytes_eq name other) refl)
  where
    by : (other : List ℕ) (a : Bool) → done other ≡ a → (b : Bool) → bytes_eq name other ≡ b → a ≡ (a || b)
    by other true e b f = refl
    by other false e false f = refl
    by other false e true f = absurd (some (ap (λ n. lines_in old n) (names_same name other f) ∙ part other ∙ ap (λ t. if t then value other else []) e))

-- a test more
pub part_same : (index : BTreeMap (List ℕ) (List ℤ)) (done now : List ℕ → Bool) (value : List ℕ → List ℤ) → ((name : List ℕ) → done name ≡ now name) → IsPart index done value → IsPart index now value
part_same index done now value e part = λ name. part name ∙ ap (λ t. if t then value name else []) (e name)

-- a name of some more
pub part_step : (done : List ℕ → Bool) (names : List (List ℕ)) (i : ℕ) (name : List ℕ) → i < length names → name ≡ get_or names i name → (other : List ℕ) →
    ((done other || holds_name other (take i names)) || bytes_eq name other) ≡ (done other || holds_name other (take (i + 1) names))
part_step done names i name h e other =
    together (done other) (holds_name other (take i names)) (bytes_eq name other)
    ∙ ap (λ m. done other || (holds_name other (take i names) || bytes_eq m other)) e
    ∙ ap (λ b. done other || b) (sym (list_any_more (λ held. bytes_eq held other) names i name h))
  where
    together : (a b c : Bool) → ((a || b) || c) ≡ (a || (b || c))
    together true b c = refl
    together false b c = refl

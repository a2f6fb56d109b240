-- A search that goes on past columns that are taken.
use Rattle.std.proofs.Common.{arith, rules, refl, sym, ap, subst, ◌∙◌, ◌≡◌, ℕ, ◌%◌, ◌==◌, ◌<◌, ◌≤◌, ℤ, pos, ◌+ℤ◌, ◌≤ℤ◌, ◌<ℤ◌, Bool, true, false, not, ◌&&◌, List, [], ◌∷◌, ◌++◌, length, take, drop, int_le, int_lt, if◌then◌else◌, take-append-drop, length-take-le, true≢false, ◌+◌, get_or}
use Rattle.std.specs.Int.{int_max}
use Rattle.std.specs.List.{AllByRecursion}
use Rattle.std.proofs.lemmas.Int.{ints, clamps}
use Rattle.std.proofs.lemmas.List.{drop_all, drop_more}
use Rattle.cell_index.specs.Rising.{AreRising}
use Rattle.cell_index.specs.Passed.{last_line, passed, reach, IsPassedOver}
use Rattle.cell_index.proofs.Edges.{all_weaker, leaves_open, open_told, taken_shut, turned, turned_once}

-- ---- choices

pub if_true : {B : Type 0} (b : Bool) (x y : B) → b ≡ true → (if b then x else y) ≡ x
if_true b x y e = ap (λ t. if t then x else y) e

pub if_false : {B : Type 0} (b : Bool) (x y : B) → b ≡ false → (if b then x else y) ≡ y
if_false b x y e = ap (λ t. if t then x else y) e

pub if_same : {B : Type 0} (b : Bool) (x y z : B) → x ≡ z → y ≡ z → (if b then x else y) ≡ z
if_same true x y z h k = h
if_same false x y z h k = k

pub to_le : (x y : ℤ) → x ≤ℤ y → int_le x y ≡ true
to_le x y h = search rules

pub to_gt : (x y : ℤ) → y <ℤ x → int_le x y ≡ false
to_gt x y h = search rules

pub to_lt : (x y : ℤ) → x <ℤ y → int_lt x y ≡ true
to_lt x y h = search rules

pub from_le : (x y : ℤ) → int_le x y ≡ true → x ≤ℤ y
from_le x y h = search rules

pub from_gt : (x y : ℤ) → int_le x y ≡ false → y <ℤ x
from_gt x y h = search rules

pub from_lt : (x y : ℤ) → int_lt x y ≡ true → x <ℤ y
from_lt x y h = search rules

pub from_ge : (x y : ℤ) → int_lt x y ≡ false → y ≤ℤ x
from_ge x y h = search rules

pub max_is : (x y : ℤ) → y ≤ℤ x → int_max x y ≡ x
max_is x y h = omega (arith, ints, clamps, h)

pub same_test : (x y u v : ℤ) → x ≡ u → y ≡ v → int_lt x y ≡ int_lt u v
same_test x y u v e f = ap (λ z. int_lt z y) e ∙ ap (λ z. int_lt u z) f

pub max_other : (x y : ℤ) → x ≤ℤ y → int_max x y ≡ y
max_other x y h = omega (arith, ints, clamps, h)

pub to_ge : (x y : ℤ) → y ≤ℤ x → int_lt x y ≡ false
to_ge x y h = search rules

-- ---- the line that is found

pub passed_later : (inside : Bool) (es : List ℤ) (line : ℤ) (k : ℕ) → line ≤ℤ passed inside es line k
passed_later false [] line k = omega (arith, ints)
passed_later true [] line k = omega (arith, ints, clamps)
passed_later false (e ∷ es) line k = by (int_lt e (line +ℤ pos k)) (passed_later true es line k)
  where
    by : (b : Bool) → line ≤ℤ passed true es line k → line ≤ℤ (if b then passed true es line k else line)
    by true h = h
    by false h = omega (arith, ints)
passed_later true (e ∷ es) line k =
    let h : int_max line e ≤ℤ passed false es (int_max line e) k = passed_later false es (int_max line e) k in
    omega (arith, ints, clamps, h)

-- so many columns from each line before it are not open
pub passed_shut : (inside : Bool) (es : List ℤ) (line z : ℤ) (k : ℕ) → 0 < k → line ≤ℤ z → z <ℤ passed inside es line k → leaves_open inside es (reach z k) ≡ false
passed_shut false [] line z k some low high = absurd (omega (arith, ints, low, high))
passed_shut true [] line z k some low high = refl
passed_shut false (e ∷ es) line z k some low high = by (int_lt e (line +ℤ pos k)) (int_le e z) refl refl high (λ h. passed_shut true es line z k some low h)
  where
    by : (b c : Bool) → int_lt e (line +ℤ pos k) ≡ b → int_le e z ≡ c → z <ℤ (if b then passed true es line k else line) → (z <ℤ passed true es line k → leaves_open true es (reach z k) ≡ false) → (if c then leaves_open true es (reach z k) else (true && int_le (z +ℤ pos k) e)) ≡ false
    by false c f g h again = absurd (omega (arith, ints, low, h))
    by true true f g h again = again h
    by true false f g h again =
        let less : e <ℤ (line +ℤ pos k) = from_lt e (line +ℤ pos k) f in
        to_gt (z +ℤ pos k) e (omega (arith, ints, low, less))
passed_shut true (e ∷ es) line z k some low high = by (int_le e z) refl (λ g. passed_shut false es (int_max line e) z k some (omega (arith, ints, clamps, low, g)) high)
  where
    by : (c : Bool) → int_le e z ≡ c → (e ≤ℤ z → leaves_open false es (reach z k) ≡ false) → (if c then leaves_open false es (reach z k) else (false && int_le (z +ℤ pos k) e)) ≡ false
    by true g again = again (from_le e z g)
    by false g again = refl

-- where it is the line itself, so many columns from it are open
pub passed_clear : (inside : Bool) (es : List ℤ) (line : ℤ) (k : ℕ) → AreRising es → 0 < k → line <ℤ last_line → passed inside es line k ≡ line → leaves_open inside es (reach line k) ≡ true
passed_clear false [] line k rising some less same = refl
passed_clear true [] line k rising some less same = absurd (omega (arith, ints, clamps, less, same))
passed_clear false (e ∷ es) line k rising some less same = by (int_lt e (line +ℤ pos k)) (int_le e line) refl refl same (λ h. passed_clear true es line k rising.1 some less h)
  where
    by : (b c : Bool) → int_lt e (line +ℤ pos k) ≡ b → int_le e line ≡ c → (if b then passed true es line k else line) ≡ line → (passed true es line k ≡ line → leaves_open true es (reach line k) ≡ true) → (if c then leaves_open true es (reach line k) else (true && int_le (line +ℤ pos k) e)) ≡ true
    by true true f g h again = again h
    by true false f g h again =
        let far : line <ℤ e = from_gt e line g in
        absurd (true≢false (sym (again h) ∙ taken_shut es (reach line k) (all_weaker (λ y. e <ℤ y) (λ y. line <ℤ y) (λ y l. omega (arith, ints, far, l)) es rising.0)))
    by false true f g h again =
        let far : (line +ℤ pos k) ≤ℤ e = from_ge e (line +ℤ pos k) f in
        let near : e ≤ℤ line = from_le e line g in
        absurd (omega (arith, ints, far, near, some))
    by false false f g h again = to_le (line +ℤ pos k) e (from_ge e (line +ℤ pos k) f)
passed_clear true (e ∷ es) line k rising some less same =
    let low : int_max line e ≤ℤ passed false es (int_max line e) k = passed_later false es (int_max line e) k in
    let near : e ≤ℤ line = omega (arith, ints, clamps, low, same) in
    let here : int_max line e ≡ line = max_is line e near in
    if_true (int_le e line) (leaves_open false es (reach line k)) (false && int_le (line +ℤ pos k) e) (to_le e line near)
    ∙ passed_clear false es line k rising.1 some less (subst (λ z. passed false es z k ≡ line) here same)

-- ---- the lines up to where the search begins

passed_front : (inside : Bool) (xs ys : List ℤ) (line : ℤ) (k : ℕ) → 0 < k → AllByRecursion (λ edge. edge ≤ℤ line) xs → passed inside (xs ++ ys) line k ≡ passed (turned inside (length xs)) ys line k
passed_front inside [] ys line k some h = refl
passed_front false (x ∷ xs) ys line k some h = if_true (int_lt x (line +ℤ pos k)) (passed true (xs ++ ys) line k) line (to_lt x (line +ℤ pos k) (omega (arith, ints, some, h.0))) ∙ passed_front true xs ys line k some h.1
passed_front true (x ∷ xs) ys line k some h = ap (λ z. passed false (xs ++ ys) z k) (max_is line x h.0) ∙ passed_front false xs ys line k some h.1

pub passed_behind : (es : List ℤ) (n : ℕ) (line : ℤ) (k : ℕ) → 0 < k → n ≤ length es → AllByRecursion (λ edge. edge ≤ℤ line) (take n es) → passed false es line k ≡ passed (not (n % 2 == 0)) (drop n es) line k
passed_behind es n line k some within h =
    ap (λ l. passed false l line k) (sym (take-append-drop n es))
    ∙ passed_front false (take n es) (drop n es) line k some h
    ∙ ap (λ m. passed (turned false m) (drop n es) line k) (length-take-le n es within)
    ∙ ap (λ b. passed b (drop n es) line k) (turned_once n)

-- all of it, where the search began behind the lines up to its start
pub is_passed : (es : List ℤ) (n : ℕ) (line found : ℤ) (k : ℕ) → AreRising es → 0 < k → n ≤ length es → AllByRecursion (λ edge. edge ≤ℤ line) (take n es) → found ≡ passed (not (n % 2 == 0)) (drop n es) line k → IsPassedOver es k line found
is_passed es n line found k rising some within h e =
    let same : found ≡ passed false es line k = e ∙ sym (passed_behind es n line k some within h) in
    let low : line ≤ℤ passed false es line k = passed_later false es line k in
    record {
      later = omega (arith, ints, low, same);
      shut = λ z from to. sym (open_told false es (reach z k) rising (omega (arith, ints, some)) (sym (passed_shut false es line z k some from (omega (arith, ints, to, same)))));
      clear = λ f less. sym (open_told true es (reach line k) rising (omega (arith, ints, some)) (sym (passed_clear false es line k rising some less (sym same ∙ f))));
    }

-- where the lines are those of the columns, and what is left of them is looked at
pub passed_from : (es now left : List ℤ) (n : ℕ) (start at found out : ℤ) (k : ℕ) (inside : Bool) → es ≡ now → AreRising es → 0 < k → n ≤ length es → AllByRecursion (λ edge. edge ≤ℤ at) (take n es) → at ≡ start → out ≡ found → left ≡ drop n es
    → inside ≡ not (n % 2 == 0) → found ≡ passed inside left at k → IsPassedOver now k start out
passed_from es now left n start at found out k inside same rising some within h e f g i j =
    let told : found ≡ passed (not (n % 2 == 0)) (drop n es) at k = j ∙ ap (λ b. passed b left at k) i ∙ ap (λ xs. passed (not (n % 2 == 0)) xs at k) g in
    let over : IsPassedOver es k at found = is_passed es n at found k rising some within h told in
    subst (λ z. IsPassedOver now k start z) (sym f) (subst (λ z. IsPassedOver now k z found) e (subst (λ xs. IsPassedOver xs k at found) same over))

-- ---- one line of those that are left

pub passed_stops : (inside : Bool) (es : List ℤ) (i : ℕ) (line : ℤ) (k : ℕ) → inside ≡ false → i < length es → (line +ℤ pos k) ≤ℤ get_or es i (pos 0) → passed inside (drop i es) line k ≡ line
passed_stops true es i line k e within far = absurd (true≢false e)
passed_stops false es i line k e within far =
    ap (λ xs. passed false xs line k) (drop_more es i (pos 0) within)
    ∙ if_false (int_lt (get_or es i (pos 0)) (line +ℤ pos k)) (passed true (drop (i + 1) es) line k) line (to_ge (get_or es i (pos 0)) (line +ℤ pos k) far)

pub passed_in : (inside : Bool) (es : List ℤ) (i : ℕ) (line next : ℤ) (k : ℕ) → inside ≡ true → i < length es → next ≡ int_max line (get_or es i (pos 0)) → passed (not inside) (drop (i + 1) es) next k ≡ passed inside (drop i es) line k
passed_in false es i line next k e within f = absurd (true≢false (sym e))
passed_in true es i line next k e within f = ap (λ z. passed false (drop (i + 1) es) z k) f ∙ sym (ap (λ xs. passed true xs line k) (drop_more es i (pos 0) within))

pub passed_out : (inside : Bool) (es : List ℤ) (i : ℕ) (line next : ℤ) (k : ℕ) → inside ≡ false → i < length es → get_or es i (pos 0) <ℤ (line +ℤ pos k) → next ≡ line → passed (not inside) (drop (i + 1) es) next k ≡ passed inside (drop i es) line k
passed_out true es i line next k e within near f = absurd (true≢false e)
passed_out false es i line next k e within near f =
    ap (λ z. passed true (drop (i + 1) es) z k) f
    ∙ sym (ap (λ xs. passed false xs line k) (drop_more es i (pos 0) within)
    ∙ if_true (int_lt (get_or es i (pos 0)) (line +ℤ pos k)) (passed true (drop (i + 1) es) line k) line (to_lt (get_or es i (pos 0)) (line +ℤ pos k) near))

pub passed_ends : (inside : Bool) (es : List ℤ) (i : ℕ) (line : ℤ) (k : ℕ) → inside ≡ false → length es ≤ i → passed inside (drop i es) line k ≡ line
passed_ends true es i line k e all = absurd (true≢false e)
passed_ends false es i line k e all = ap (λ xs. passed false xs line k) (drop_all i es all)

pub passed_never : (inside : Bool) (es : List ℤ) (i : ℕ) (line : ℤ) (k : ℕ) → inside ≡ true → length es ≤ i → line ≤ℤ last_line → passed inside (drop i es) line k ≡ last_line
passed_never false es i line k e all low = absurd (true≢false (sym e))
passed_never true es i line k e all low = ap (λ xs. passed true xs line k) (drop_all i es all) ∙ max_other line last_line low

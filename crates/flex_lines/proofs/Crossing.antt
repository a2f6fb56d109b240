-- The cross sizes of lines.
use Rattle.std.proofs.Common.{arith, ap, ◌≡◌, ◌∙◌, sym, refl, ℕ, ◌+◌, ◌<◌, ◌≤◌, ℤ, pos, ◌+ℤ◌, ◌≤ℤ◌, Bool, ◌&&◌, List, [], ◌∷◌, ◌++◌, drop, take, get_or, length, map, Option, Some, None, true}
use Rattle.std.specs.Int.{int_max}
use Rattle.std.proofs.lemmas.Int.{ints, int_max_is}
use Rattle.std.proofs.lemmas.List.{append-nil, drop_all, drop_more, take_all}
use Rattle.lunit.specs.Units.{clamp}
use Rattle.part_rules.specs.declared.share.Share.{Share}
use Rattle.part_rules.specs.Lists.{greatest_with, sum_of, zipped}
use Rattle.part_rules.specs.FlexLines.{cross_rest, line_crosses, own_cross, stretched_lines}
use Rattle.part_rules.specs.Sharing.{roomy, shared_rows}
use Rattle.part_rules.proofs.Sharing.{shares_are}
use Rattle.flex_lines.specs.Crosses.{added, open_rows}

some-greatest : (ws : List ℤ) → pos 0 ≤ℤ greatest_with (pos 0) ws
some-greatest [] = omega (arith, ints)
some-greatest (w ∷ ws) = omega (arith, ints, int_max_is w (greatest_with (pos 0) ws), some-greatest ws)

pub zero-first : (ws : List ℤ) → int_max (pos 0) (greatest_with (pos 0) ws) ≡ greatest_with (pos 0) ws
zero-first ws = omega (arith, ints, int_max_is (pos 0) (greatest_with (pos 0) ws), some-greatest ws)

zero-last : (g : ℤ) → pos 0 ≤ℤ g → int_max g (pos 0) ≡ g
zero-last g h = omega (arith, ints, int_max_is g (pos 0))

pub max-next : (g w m : ℤ) → int_max (int_max g w) m ≡ int_max g (int_max w m)
max-next g w m = omega (arith, ints, int_max_is g w, int_max_is (int_max g w) m, int_max_is w m, int_max_is g (int_max w m))

-- after all sizes the greatest so far is the greatest of all
pub all_passed : (g : ℤ) (ws : List ℤ) (i : ℕ) → int_max g (greatest_with (pos 0) (drop i ws)) ≡ greatest_with (pos 0) ws → length ws ≤ i → pos 0 ≤ℤ g → g ≡ greatest_with (pos 0) ws
all_passed g ws i e h some = sym (zero-last g some) ∙ ap (λ l. int_max g (greatest_with (pos 0) l)) (sym (drop_all i ws h)) ∙ e

pub ruleset greatest_laws = (zero-first, max-next)

pub sum_next : (sizes : List ℤ) (i : ℕ) (d : ℤ) → i < length sizes → sum_of (drop i sizes) ≡ get_or sizes i d +ℤ sum_of (drop (i + 1) sizes)
sum_next sizes i d h = ap sum_of (drop_more sizes i d h)

-- the shares of rows without end are those of the definition
rows_open : (sizes : List ℤ) → open_rows sizes ≡ map roomy (map (λ (size : ℤ). let none : Option ℤ = None in none) sizes)
rows_open [] = refl
rows_open (x ∷ xs) = ap (λ rows. record { room = None; got = pos 0 } ∷ rows) (rows_open xs)

added_got : (sizes : List ℤ) (rows : List Share) → added sizes rows ≡ zipped (λ size share. clamp (size +ℤ share)) sizes (map (λ (s : Share). s.got) rows)
added_got [] rows = refl
added_got (x ∷ xs) [] = refl
added_got (x ∷ xs) (s ∷ rows) = ap (λ zs. clamp (x +ℤ s.got) ∷ zs) (added_got xs rows)

pub stretched_is : (cross gap rest : ℤ) (sizes : List ℤ) (rows : List Share) → rest ≡ cross_rest cross gap sizes → rows ≡ shared_rows rest (open_rows sizes) → added sizes rows ≡ stretched_lines (Some cross) gap true sizes
stretched_is cross gap rest sizes rows e f =
    let rooms : List (Option ℤ) = map (λ (size : ℤ). let none : Option ℤ = None in none) sizes in
    added_got sizes rows
    ∙ ap (λ (xs : List Share). zipped (λ size share. clamp (size +ℤ share)) sizes (map (λ (s : Share). s.got) xs)) (f ∙ ap (λ z. shared_rows z (open_rows sizes)) e ∙ ap (shared_rows (cross_rest cross gap sizes)) (rows_open sizes))
    ∙ ap (zipped (λ size share. clamp (size +ℤ share)) sizes) (sym (shares_are (cross_rest cross gap sizes) rooms))

-- the sum so far is the whole sum at the end
pub all_summed : (sizes : List ℤ) (i : ℕ) (sum : ℤ) → length sizes ≤ i → sum +ℤ sum_of (drop i sizes) ≡ sum_of sizes → sum ≡ sum_of sizes
all_summed sizes i sum h e = let none : sum_of (drop i sizes) ≡ pos 0 = ap sum_of (drop_all i sizes h) in omega (arith, ints, e, none)

-- a list that was lent whole is what was put in its place
pub lent_back : {A : Type 0} → (items new : List A) (len : ℕ) → len ≡ length items → length new ≡ length items → take len (new ++ drop (length new) items) ≡ new
lent_back items new len e f =
    ap (λ xs. take len (new ++ xs)) (drop_all (length new) items (omega (arith, f))) ∙ ap (take len) (append-nil new) ∙ take_all len new (omega (arith, e, f))

-- lines that share the rest are those of the definition where that is wanted
pub crosses_are : (outer : List ℤ) (lines : List (ℕ × ℕ)) (cross : Option ℤ) (size gap : ℤ) (wrap stretch : Bool) (sizes : List ℤ) → cross ≡ Some size → wrap ≡ true → stretch ≡ true
    → sizes ≡ map (own_cross outer cross wrap) lines → stretched_lines (Some size) gap true sizes ≡ line_crosses outer lines cross gap wrap stretch
crosses_are outer lines cross size gap wrap stretch sizes known wraps stretches e =
    let both : wrap && stretch ≡ true = ap (λ (b : Bool). b && stretch) wraps ∙ stretches in
    let own : List ℤ = map (own_cross outer cross wrap) lines in
    ap (stretched_lines (Some size) gap true) e
    ∙ sym (ap (λ (o : Option ℤ). stretched_lines o gap true own) known)
    ∙ sym (ap (λ (b : Bool). stretched_lines cross gap b own) both)

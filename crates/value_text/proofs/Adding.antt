-- A cell more of a name, by the place of the name.
use Rattle.std.proofs.Common.{◌≡◌, ℕ, suc, ◌+◌, Bool, true, false, cond, if◌then◌else◌, List, [], ◌∷◌, ◌++◌, length, Option, Some, None, is_some, slice_get, slice_set, refl, ap, sym, ◌∙◌, arith, subst}
use Rattle.std.proofs.lemmas.Bool.{true≢false}
use Rattle.std.proofs.lemmas.Map.Text.{is_eq-slice_cmp}
use Rattle.std.proofs.lemmas.Slice.Eq.{bytes_eq-Decides}
use Rattle.std.specs.Bool.{one_answer}
use Rattle.std.specs.BTreeMap.{BTreeMap, get, Updates}
use Rattle.std.specs.Cmp.Lexicographic.{slice_cmp}
use Rattle.std.specs.Option.{unwrap_or}
use Rattle.std.specs.Ordering.{nat_cmp}
use Rattle.std.specs.Str.{bytes_eq}
use Rattle.track_text.specs.Words.{Word}
use Rattle.value_text.specs.declared.found.Found.{Found}
use Rattle.value_text.specs.Places.{place_from}
use Rattle.value_text.specs.AreaText.{new_found, with_cell, add_cell}

same_held : {A : Type 0} (x y : A) → Some x ≡ Some y → x ≡ y
same_held x y e = ap (λ (o : Option _). unwrap_or o x) e

-- ---- a name that is there

-- the name stands at this place of the list
pub record IsAt (name : Word) (list : List Found) (i : ℕ) : Type 0 where
  pub adds : (f : Found) (row column : ℕ) → slice_get list i ≡ Some f → slice_set list i (with_cell f row column) ≡ add_cell list name row column
  pub stays : (f : Found) (row column : ℕ) → slice_get list i ≡ Some f → (q : Word) (m : ℕ) → place_from m q list ≡ place_from m q (slice_set list i (with_cell f row column))

first : (name : Word) (f : Found) (list : List Found) → bytes_eq f.name name ≡ true → IsAt name (f ∷ list) 0
first name f list h = record {
  adds = λ g row column e. ap (λ (x : Found). with_cell x row column ∷ list) (sym (same_held f g e)) ∙ ap (λ (b : Bool). if b then with_cell f row column ∷ list else f ∷ add_cell list name row column) (sym h);
  stays = λ g row column e q m. ap (λ (x : Found). if bytes_eq x.name q then Some m else place_from (m + 1) q list) (same_held f g e);
}

later : (name : Word) (f : Found) (list : List Found) (i : ℕ) → bytes_eq f.name name ≡ false → IsAt name list i → IsAt name (f ∷ list) (suc i)
later name f list i h at = record {
  adds = λ g row column e. ap (λ (xs : List Found). f ∷ xs) (at.adds g row column e) ∙ ap (λ (b : Bool). if b then with_cell f row column ∷ list else f ∷ add_cell list name row column) (sym h);
  stays = λ g row column e q m. ap (λ (o : Option ℕ). if bytes_eq f.name q then Some m else o) (at.stays g row column e q (m + 1));
}

abbrev Somewhere : ℕ → ℕ → Word → List Found → Type 0
Somewhere n k name list = (i : ℕ) × (k ≡ n + i) × IsAt name list i

found_by : (n k : ℕ) (name : Word) (f : Found) (list : List Found) (b : Bool) → bytes_eq f.name name ≡ b → (if b then Some n else place_from (n + 1) name list) ≡ Some k → (place_from (n + 1) name list ≡ Some k → Somewhere (n + 1) k name list) → Somewhere n k name (f ∷ list)
found_by n k name f list true t e rest =
    let at : n ≡ k = same_held n k e in
    (0, omega (arith, at), first name f list t)
found_by n k name f list false t e rest =
    let after = rest e in
    (suc after.0, omega (arith, after.1), later name f list after.0 t after.2)

found_from : (n : ℕ) (name : Word) (list : List Found) (k : ℕ) → place_from n name list ≡ Some k → Somewhere n k name list
found_from n name [] k e = elim (true≢false (sym (ap is_some e))) [ ]
found_from n name (f ∷ list) k e = found_by n k name f list (bytes_eq f.name name) refl e (found_from (n + 1) name list k)

pub found : (name : Word) (list : List Found) (k : ℕ) → place_from 0 name list ≡ Some k → IsAt name list k
found name list k e =
    let at = found_from 0 name list k e in
    let same : at.0 ≡ k = omega (arith, at.1) in
    subst (IsAt name list) same at.2

-- ---- a name that is new

absent_if : (b : Bool) (n : ℕ) (o : Option ℕ) → (if b then Some n else o) ≡ None → (b ≡ false) × (o ≡ None)
absent_if true n o e = elim (true≢false (ap is_some e)) [ ]
absent_if false n o e = (refl, e)

adds_from : (n : ℕ) (name : Word) (list : List Found) (row column : ℕ) → place_from n name list ≡ None → list ++ new_found name row column ∷ [] ≡ add_cell list name row column
adds_from n name [] row column e = refl
adds_from n name (f ∷ list) row column e =
    let none = absent_if (bytes_eq f.name name) n (place_from (n + 1) name list) e in
    ap (λ (xs : List Found). f ∷ xs) (adds_from (n + 1) name list row column none.1) ∙ ap (λ (b : Bool). if b then with_cell f row column ∷ list else f ∷ add_cell list name row column) (sym none.0)

pub adds_new : (name : Word) (list : List Found) (row column : ℕ) → place_from 0 name list ≡ None → list ++ new_found name row column ∷ [] ≡ add_cell list name row column
adds_new name list row column e = adds_from 0 name list row column e

-- the place of a name after one was added at the end
place_behind : (n : ℕ) (q : Word) (list : List Found) (x : Found) → place_from n q (list ++ x ∷ []) ≡ cond (is_some (place_from n q list)) (place_from n q list) (if bytes_eq x.name q then Some (n + length list) else None)
place_behind n q [] x = by_test (bytes_eq x.name q) where
  by_test : (b : Bool) → (if b then Some n else None) ≡ (if b then Some (n + 0) else None)
  by_test true = ap Some (omega arith)
  by_test false = refl
place_behind n q (f ∷ list) x = by_test (bytes_eq f.name q) (place_behind (n + 1) q list x) where
  last : (b : Bool) → (if b then Some ((n + 1) + length list) else None) ≡ (if b then Some (n + suc (length list)) else None)
  last true = ap Some (omega arith)
  last false = refl

  by_test : (b : Bool) → place_from (n + 1) q (list ++ x ∷ []) ≡ cond (is_some (place_from (n + 1) q list)) (place_from (n + 1) q list) (if bytes_eq x.name q then Some ((n + 1) + length list) else None)
      → (if b then Some n else place_from (n + 1) q (list ++ x ∷ [])) ≡ cond (is_some (if b then Some n else place_from (n + 1) q list)) (if b then Some n else place_from (n + 1) q list) (if bytes_eq x.name q then Some (n + suc (length list)) else None)
  by_test true e = refl
  by_test false e = e ∙ ap (cond (is_some (place_from (n + 1) q list)) (place_from (n + 1) q list)) (last (bytes_eq x.name q))

same_either_way : (xs ys : Word) → bytes_eq xs ys ≡ bytes_eq ys xs
same_either_way xs ys = one_answer (bytes_eq xs ys) (bytes_eq ys xs) (bytes_eq-Decides xs ys) (λ h. sym ((bytes_eq-Decides ys xs).0 h), λ e. (bytes_eq-Decides ys xs).1 (sym e))

-- the places are those of the names in the list
pub record Tells (places : BTreeMap Word ℕ) (list : List Found) : Type 0 where
  pub place : (q : Word) → get (slice_cmp nat_cmp) places q ≡ place_from 0 q list

pub tells_new : (places more : BTreeMap Word ℕ) (list : List Found) (name : Word) (row column : ℕ) → Tells places list → place_from 0 name list ≡ None → Updates (slice_cmp nat_cmp) places more name (Some (length list))
    → Tells more (list ++ new_found name row column ∷ [])
tells_new places more list name row column t none u = record {
  place = λ q. u.0 q ∙ rw (is_eq-slice_cmp name q, t.place q) (by_test q (bytes_eq name q) refl) ∙ sym (place_behind 0 q list (new_found name row column));
} where
  by_test : (q : Word) (b : Bool) → bytes_eq name q ≡ b → cond b (Some (length list)) (place_from 0 q list) ≡ cond (is_some (place_from 0 q list)) (place_from 0 q list) (if bytes_eq name q then Some (0 + length list) else None)
  by_test q true e =
      let absent : place_from 0 q list ≡ None = ap (λ (w : Word). place_from 0 w list) (sym ((bytes_eq-Decides name q).0 e)) ∙ none in
      rw (absent, e) (ap Some (omega arith))
  by_test q false e = rw e (or_none (place_from 0 q list)) where
    or_none : (o : Option ℕ) → o ≡ cond (is_some o) o None
    or_none None = refl
    or_none (Some k) = refl

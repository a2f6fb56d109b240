-- The shape of a tree of numbered nodes.
use Rattle.std.proofs.Common.{◌≡◌, sym, ap, subst, ◌∙◌, refl, ℕ, zero, suc, ◌+◌, ◌-◌, ◌*◌, ◌<◌, ◌≤◌, ◌⊎◌, inl, inr, min, Bool, true, false, ◌||◌, arith}
use Rattle.std.specs.Str.{bytes_eq}
use Rattle.std.proofs.lemmas.Bool.{true≢false, cases_lt}
use Rattle.plain_tree.specs.Trees.{Trees, leafless, tree, size_of, height_of, EachLabel}
use Rattle.doc_text.specs.Label.{Label}
use Rattle.doc_text.specs.Texts.{Word}
use Rattle.doc_text.specs.Growth.{holds}
use Rattle.doc_text.specs.Documents.{is_leaf}
use Rattle.doc_text.specs.Named.{IsDistinct}
use Rattle.doc_text.specs.Valid.{HasContainers, HasFewChildren}
use Rattle.doc_text.proofs.Grown.{same_name, own_name, not_true}
use Rattle.page_maker.specs.Nodes.{name_of}
use Rattle.page_maker.specs.Growing.{child_count, grown}
use Rattle.page_maker.specs.Standing.{IsBare}
use Rattle.page_maker.proofs.Naming.{same_number}
use Rattle.page_maker.proofs.Numbers.{Under, not_before, wider, none_under, apart, split, clipped, held, held_none, held_both}

first_true : (a b : Bool) → a ≡ true → (a || b) ≡ true
first_true true b p = refl
first_true false b p = absurd (true≢false (sym p))

last_true : (a b : Bool) → b ≡ true → (a || b) ≡ true
last_true true b q = refl
last_true false b q = q

module _ (label : ℕ → Label) (nodes : ℕ) where
  abbrev below_of : ℕ → ℕ → Trees Label
  below_of levels i = grown label nodes levels (8 * i + 1) (child_count nodes i)

  of_zero : (levels first : ℕ) → grown label nodes levels first 0 ≡ leafless
  unfolding grown
  of_zero zero first = refl
  of_zero (suc levels) first = refl

  pub none_grown : (levels first count : ℕ) → count ≡ 0 → grown label nodes levels first count ≡ leafless
  none_grown levels first count h = ap (grown label nodes levels first) h ∙ of_zero levels first

  -- ---- facts of each label, levels, numbers of children and of nodes

  pub each_grown : (P : Label → Type 0) → ((i : ℕ) → i < nodes → P (label i)) → (levels first count : ℕ) → first + count ≤ nodes → EachLabel P (grown label nodes levels first count)
  unfolding grown
  each_grown P h zero first count f = tt
  each_grown P h (suc levels) first zero f = tt
  each_grown P h (suc levels) first (suc count) f =
      let here : first < nodes = omega (arith, f) in
      (h first here, (each_below (cases_lt (8 * first + 1) nodes) (each_grown P h levels (8 * first + 1) (child_count nodes first)), each_grown P h (suc levels) (first + 1) count (omega (arith, f))))
    where
      each_below : (8 * first + 1 < nodes) ⊎ (nodes ≤ 8 * first + 1) → (8 * first + 1 + child_count nodes first ≤ nodes → EachLabel P (below_of levels first)) → EachLabel P (below_of levels first)
      each_below (inl l) r = r (omega (arith, l))
      each_below (inr l) r =
          let none : child_count nodes first ≡ 0 = omega (arith, l) in
          subst (EachLabel P) (sym (none_grown levels (8 * first + 1) (child_count nodes first) none)) tt

  pub few_grown : (levels first count : ℕ) → HasFewChildren 1 (grown label nodes levels first count)
  unfolding grown
  few_grown zero first count = tt
  few_grown (suc levels) first zero = tt
  few_grown (suc levels) first (suc count) = (refl, (few_grown levels (8 * first + 1) (child_count nodes first), few_grown (suc levels) (first + 1) count))

  pub height_grown : (levels first count : ℕ) → height_of (grown label nodes levels first count) ≤ levels
  unfolding grown
  height_grown zero first count = omega arith
  height_grown (suc levels) first zero = omega arith
  height_grown (suc levels) first (suc count) = omega (arith, height_grown levels (8 * first + 1) (child_count nodes first), height_grown (suc levels) (first + 1) count)

  pub size_grown : (levels first count : ℕ) → size_of (grown label nodes levels first count) ≡ held nodes levels first (first + count)
  unfolding grown
  size_grown zero first count = refl
  size_grown (suc levels) first zero = sym (ap (held nodes (suc levels) first) (let e : first + 0 ≡ first = omega arith in e) ∙ held_none nodes (suc levels) first)
  size_grown (suc levels) first (suc count) =
      let here : size_of (below_of levels first) ≡ held nodes levels (min nodes (8 * first + 1)) (min nodes (8 * (first + 1) + 1)) = below (cases_lt (8 * first + 1) nodes) (size_grown levels (8 * first + 1) (child_count nodes first)) in
      let rest : size_of (grown label nodes (suc levels) (first + 1) count) ≡ held nodes (suc levels) (first + 1) (first + 1 + count) = size_grown (suc levels) (first + 1) count in
      let sum : held nodes (suc levels) first (first + 1) + held nodes (suc levels) (first + 1) (first + 1 + count) ≡ held nodes (suc levels) first (first + 1 + count) = held_both nodes (suc levels) first (first + 1) (first + 1 + count) (omega arith) (omega arith) in
      let one : first + 1 - first ≡ 1 = omega arith in
      let end : first + 1 + count ≡ first + suc count = omega arith in
      subst (λ (n : ℕ). 1 + size_of (below_of levels first) + size_of (grown label nodes (suc levels) (first + 1) count) ≡ held nodes (suc levels) first n) end (omega (arith, here, rest, sum, one))
    where
      below : (8 * first + 1 < nodes) ⊎ (nodes ≤ 8 * first + 1) → size_of (below_of levels first) ≡ held nodes levels (8 * first + 1) (8 * first + 1 + child_count nodes first)
          → size_of (below_of levels first) ≡ held nodes levels (min nodes (8 * first + 1)) (min nodes (8 * (first + 1) + 1))
      below (inl l) r =
          let from : 8 * first + 1 ≡ min nodes (8 * first + 1) = omega (arith, l) in
          let to : 8 * first + 1 + child_count nodes first ≡ min nodes (8 * (first + 1) + 1) = omega (arith, l) in
          r ∙ (λ i. held nodes levels (from i) (to i))
      below (inr l) r =
          let none : child_count nodes first ≡ 0 = omega (arith, l) in
          let from : nodes ≡ min nodes (8 * first + 1) = omega (arith, l) in
          let to : nodes ≡ min nodes (8 * (first + 1) + 1) = omega (arith, l) in
          ap size_of (none_grown levels (8 * first + 1) (child_count nodes first) none) ∙ sym (held_none nodes levels nodes) ∙ (λ i. held nodes levels (from i) (to i))

  pub containers_grown : ((i : ℕ) → is_leaf (label i).kind ≡ true → nodes ≤ 8 * i + 1) → (levels first count : ℕ) → HasContainers (grown label nodes levels first count)
  unfolding grown
  containers_grown h zero first count = tt
  containers_grown h (suc levels) first zero = tt
  containers_grown h (suc levels) first (suc count) =
      ((λ e. none_grown levels (8 * first + 1) (child_count nodes first) (let n = h first e in omega (arith, n))), (containers_grown h levels (8 * first + 1) (child_count nodes first), containers_grown h (suc levels) (first + 1) count))

-- ---- names

-- a name that stands there is that of a number
record IsNumbered (nodes levels first last : ℕ) (word : Word) : Type 0 where
  pub number : ℕ
  pub name : word ≡ name_of number
  pub under : Under levels first last number
  pub small : number < nodes

module _ (label : ℕ → Label) (nodes : ℕ) (few : nodes ≤ 20000) (named : (i : ℕ) → (label i).name ≡ name_of i) where
  abbrev Held : ℕ → ℕ → ℕ → Word → Type 0
  Held levels first last word = IsNumbered nodes levels first last word

  numbered : (levels first count : ℕ) (word : Word) → first + count ≤ nodes → holds (grown label nodes levels first count) word ≡ true → Held levels first (first + count) word
  unfolding grown
  numbered zero first count word f h = absurd (true≢false (sym h))
  numbered (suc levels) first zero word f h = absurd (true≢false (sym h))
  numbered (suc levels) first (suc count) word f h = by_place (bytes_eq (label first).name word) refl (holds (below_of label nodes levels first) word) refl h
      (numbered levels (8 * first + 1) (child_count nodes first) word) (numbered (suc levels) (first + 1) count word (omega (arith, f)))
    where
      BelowNumbered : Type 0
      BelowNumbered = 8 * first + 1 + child_count nodes first ≤ nodes → holds (below_of label nodes levels first) word ≡ true → Held levels (8 * first + 1) (8 * first + 1 + child_count nodes first) word

      AfterNumbered : Type 0
      AfterNumbered = holds (grown label nodes (suc levels) (first + 1) count) word ≡ true → Held (suc levels) (first + 1) (first + 1 + count) word

      below : holds (below_of label nodes levels first) word ≡ true → (8 * first + 1 < nodes) ⊎ (nodes ≤ 8 * first + 1) → BelowNumbered → Held (suc levels) first (first + suc count) word
      below e (inl l) r =
          let k = r (omega (arith, l)) e in
          record { number = k.number; name = k.name; under = inr (wider levels (8 * first + 1) (8 * first + 1) (8 * first + 1 + child_count nodes first) (8 * (first + suc count) + 1) k.number (omega arith) (omega arith) k.under); small = k.small }
      below e (inr l) r = absurd (true≢false (sym e ∙ ap (λ (t : Trees Label). holds t word) (none_grown label nodes levels (8 * first + 1) (child_count nodes first) (omega (arith, l)))))

      by_place : (a : Bool) → bytes_eq (label first).name word ≡ a → (b : Bool) → holds (below_of label nodes levels first) word ≡ b → (a || (b || holds (grown label nodes (suc levels) (first + 1) count) word)) ≡ true → BelowNumbered → AfterNumbered → Held (suc levels) first (first + suc count) word
      by_place true e b g h r s = record { number = first; name = sym (same_name (label first).name word e) ∙ named first; under = inl (omega arith, omega arith); small = omega (arith, f) }
      by_place false e true g h r s = below g (cases_lt (8 * first + 1) nodes) r
      by_place false e false g h r s =
          let k = s h in
          record { number = k.number; name = k.name; under = wider (suc levels) first (first + 1) (first + 1 + count) (first + suc count) k.number (omega arith) (omega arith) k.under; small = k.small }

  one_number : (m n : ℕ) → m < nodes → n < nodes → name_of m ≡ name_of n → m ≡ n
  one_number m n p q e = same_number m n (omega (arith, few, p)) (omega (arith, few, q)) e

  -- names differ
  pub distinct_grown : (levels first count : ℕ) → first + count ≤ nodes → first + count ≤ 8 * first + 1 → IsDistinct (grown label nodes levels first count)
  unfolding grown
  distinct_grown zero first count f s = tt
  distinct_grown (suc levels) first zero f s = tt
  distinct_grown (suc levels) first (suc count) f s =
      by_children (cases_lt (8 * first + 1) nodes) (distinct_grown levels (8 * first + 1) (child_count nodes first)) (distinct_grown (suc levels) (first + 1) count (omega (arith, f)) (omega (arith, s)))
    where
      not_later : holds (grown label nodes (suc levels) (first + 1) count) (label first).name ≡ false
      not_later = not_true _ (λ e.
          let k = numbered (suc levels) (first + 1) count (label first).name (omega (arith, f)) e in
          let same : first ≡ k.number = one_number first k.number (omega (arith, f)) k.small (sym (named first) ∙ k.name) in
          let low : first + 1 ≤ k.number = not_before (suc levels) (first + 1) (first + 1 + count) k.number k.under in
          omega (arith, same, low))

      BelowDistinct : Type 0
      BelowDistinct = 8 * first + 1 + child_count nodes first ≤ nodes → 8 * first + 1 + child_count nodes first ≤ 8 * (8 * first + 1) + 1 → IsDistinct (below_of label nodes levels first)

      AfterDistinct : Type 0
      AfterDistinct = IsDistinct (grown label nodes (suc levels) (first + 1) count)

      with_children : 8 * first + 1 < nodes → BelowDistinct → AfterDistinct → IsDistinct (tree (label first) (below_of label nodes levels first) (grown label nodes (suc levels) (first + 1) count))
      with_children l r later_distinct = (
        not_true _ (λ e.
            let k = numbered levels (8 * first + 1) (child_count nodes first) (label first).name (omega (arith, l)) e in
            let same : first ≡ k.number = one_number first k.number (omega (arith, f)) k.small (sym (named first) ∙ k.name) in
            let low : 8 * first + 1 ≤ k.number = not_before levels (8 * first + 1) (8 * first + 1 + child_count nodes first) k.number k.under in
            omega (arith, same, low)),
        (
          not_later,
          (
            (λ word d. not_true _ (λ e.
                let j = numbered levels (8 * first + 1) (child_count nodes first) word (omega (arith, l)) d in
                let k = numbered (suc levels) (first + 1) count word (omega (arith, f)) e in
                let same : k.number ≡ j.number = one_number k.number j.number k.small j.small (sym k.name ∙ j.name) in
                let one : Under (suc levels) first (first + 1) j.number = inr (wider levels (8 * first + 1) (8 * first + 1) (8 * first + 1 + child_count nodes first) (8 * (first + 1) + 1) j.number (omega arith) (omega arith) j.under) in
                apart (suc levels) first (first + 1) (first + 1 + count) j.number (omega arith) (omega arith) (omega (arith, s)) one (subst (Under (suc levels) (first + 1) (first + 1 + count)) same k.under))),
            (r (omega (arith, l)) (omega arith), later_distinct),
          ),
        ),
      )

      by_children : (8 * first + 1 < nodes) ⊎ (nodes ≤ 8 * first + 1) → BelowDistinct → AfterDistinct → IsDistinct (tree (label first) (below_of label nodes levels first) (grown label nodes (suc levels) (first + 1) count))
      by_children (inl l) r later_distinct = with_children l r later_distinct
      by_children (inr l) r later_distinct =
          subst (λ (t : Trees Label). IsDistinct (tree (label first) t (grown label nodes (suc levels) (first + 1) count))) (sym (none_grown label nodes levels (8 * first + 1) (child_count nodes first) (omega (arith, l))))
          (refl, (not_later, ((λ word d. absurd (true≢false (sym d))), (tt, later_distinct))))

  -- each number is there
  pub there_grown : (levels first count n : ℕ) → first + count ≤ nodes → n < nodes → Under levels first (first + count) n → holds (grown label nodes levels first count) (name_of n) ≡ true
  unfolding grown
  there_grown zero first count n f h u = absurd u
  there_grown (suc levels) first zero n f h u = absurd (none_under (suc levels) first n (subst (λ (z : ℕ). Under (suc levels) first z n) (let e : first + 0 ≡ first = omega arith in e) u))
  there_grown (suc levels) first (suc count) n f h u =
      by_side (split (suc levels) first (first + 1) (first + suc count) n (omega arith) u) (λ k. there_grown levels (8 * first + 1) (child_count nodes first) n k h) (there_grown (suc levels) (first + 1) count n (omega (arith, f)) h)
    where
      BelowThere : Type 0
      BelowThere = 8 * first + 1 + child_count nodes first ≤ nodes → Under levels (8 * first + 1) (8 * first + 1 + child_count nodes first) n → holds (below_of label nodes levels first) (name_of n) ≡ true

      AfterThere : Type 0
      AfterThere = Under (suc levels) (first + 1) (first + 1 + count) n → holds (grown label nodes (suc levels) (first + 1) count) (name_of n) ≡ true

      below : Under levels (8 * first + 1) (8 * (first + 1) + 1) n → BelowThere → holds (below_of label nodes levels first) (name_of n) ≡ true
      below v r =
          let low : 8 * first + 1 ≤ n = not_before levels (8 * first + 1) (8 * (first + 1) + 1) n v in
          let end : min (8 * (first + 1) + 1) nodes ≡ 8 * first + 1 + child_count nodes first = omega (arith, low, h) in
          r (omega (arith, low, h)) (subst (λ (z : ℕ). Under levels (8 * first + 1) z n) end (clipped levels (8 * first + 1) (8 * (first + 1) + 1) nodes n h v))

      here : n ≡ first → bytes_eq (label first).name (name_of n) ≡ true
      here e = ap (λ (w : Word). bytes_eq w (name_of n)) (named first ∙ ap name_of (sym e)) ∙ own_name (name_of n)

      by_side : Under (suc levels) first (first + 1) n ⊎ Under (suc levels) (first + 1) (first + suc count) n → BelowThere → AfterThere
          → (bytes_eq (label first).name (name_of n) || (holds (below_of label nodes levels first) (name_of n) || holds (grown label nodes (suc levels) (first + 1) count) (name_of n))) ≡ true
      by_side (inl (inl k)) r s = first_true _ _ (here (omega (arith, k.0, k.1)))
      by_side (inl (inr v)) r s = last_true _ _ (first_true _ _ (below v r))
      by_side (inr v) r s =
          let end : first + suc count ≡ first + 1 + count = omega arith in
          last_true _ _ (last_true (holds (below_of label nodes levels first) (name_of n)) _ (s (subst (λ (z : ℕ). Under (suc levels) (first + 1) z n) end v)))

  -- nothing stands below a number without children
  pub bare_grown : (levels first count n : ℕ) → first + count ≤ nodes → n < nodes → nodes ≤ 8 * n + 1 → IsBare (name_of n) (grown label nodes levels first count)
  unfolding grown
  bare_grown zero first count n f h l = tt
  bare_grown (suc levels) first zero n f h l = tt
  bare_grown (suc levels) first (suc count) n f h l = (here, (below (cases_lt (8 * first + 1) nodes) (λ k. bare_grown levels (8 * first + 1) (child_count nodes first) n k h l), bare_grown (suc levels) (first + 1) count n (omega (arith, f)) h l))
    where
      here : bytes_eq (label first).name (name_of n) ≡ true → below_of label nodes levels first ≡ leafless
      here e =
          let same : first ≡ n = one_number first n (omega (arith, f)) h (sym (named first) ∙ same_name (label first).name (name_of n) e) in
          none_grown label nodes levels (8 * first + 1) (child_count nodes first) (omega (arith, l, same))

      below : (8 * first + 1 < nodes) ⊎ (nodes ≤ 8 * first + 1) → (8 * first + 1 + child_count nodes first ≤ nodes → IsBare (name_of n) (below_of label nodes levels first)) → IsBare (name_of n) (below_of label nodes levels first)
      below (inl k) r = r (omega (arith, k))
      below (inr k) r = subst (IsBare (name_of n)) (sym (none_grown label nodes levels (8 * first + 1) (child_count nodes first) (omega (arith, k)))) tt

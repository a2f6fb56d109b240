-- What a node more, as the last of all, leaves of a tree.
use Rattle.std.proofs.Common.{◌≡◌, ℕ, zero, suc, ◌+◌, ◌≤◌, max, Bool, true, false, ◌||◌, ◌&&◌, refl, ap, sym, ◌∙◌, arith}
use Rattle.std.specs.Prelude.{nat_lt, ◌==◌}
use Rattle.std.specs.Str.{bytes_eq}
use Rattle.std.specs.Bool.{one_answer}
use Rattle.std.proofs.lemmas.Bool.{true≢false}
use Rattle.std.proofs.lemmas.Slice.Eq.{bytes_eq-Decides}
use Rattle.plain_tree.specs.Trees.{Trees, leafless, tree, joined, size_of, height_of, count_of, EachLabel}
use Rattle.plain_tree.proofs.Laws.{each_joined, size_of-joined, height_of-joined, count_of-joined}
use Rattle.doc_text.specs.Label.{Label}
use Rattle.doc_text.specs.Texts.{Word}
use Rattle.doc_text.specs.Growth.{holds, last_or, parent_on, alone, put_last}
use Rattle.doc_text.specs.Documents.{child_count, is_leaf, is_leaf_node}
use Rattle.doc_text.specs.Named.{IsDistinct}
use Rattle.doc_text.specs.Edits.{are_too_many}
use Rattle.doc_text.specs.Valid.{HasContainers, HasFewChildren}
use Rattle.doc_text.proofs.Opening.{holds-joined}

-- ---- truth values and names
pub or_parts : (a b : Bool) → (a || b) ≡ false → (a ≡ false) × (b ≡ false)
or_parts true b h = absurd (true≢false h)
or_parts false b h = (refl, h)

pub or_split : (a b c : Bool) → (a || (b || c)) ≡ false → (a ≡ false) × ((b ≡ false) × (c ≡ false))
or_split a b c h = let p = or_parts a (b || c) h in (p.0, or_parts b c p.1)

pub or_join : (a b c : Bool) → a ≡ false → b ≡ false → c ≡ false → (a || (b || c)) ≡ false
or_join a b c d e f = rw (d, e, f) refl

pub same_either_way : (xs ys : Word) → bytes_eq xs ys ≡ bytes_eq ys xs
same_either_way xs ys = one_answer (bytes_eq xs ys) (bytes_eq ys xs) (bytes_eq-Decides xs ys) (λ h. sym ((bytes_eq-Decides ys xs).0 h), λ e. (bytes_eq-Decides ys xs).1 (sym e))

pub same_name : (xs ys : Word) → bytes_eq xs ys ≡ true → xs ≡ ys
same_name xs ys h = (bytes_eq-Decides xs ys).0 h

pub own_name : (xs : Word) → bytes_eq xs xs ≡ true
own_name xs = (bytes_eq-Decides xs xs).1 refl

pub not_true : (b : Bool) → (b ≡ true → ⊥) → b ≡ false
not_true true h = absurd (h refl)
not_true false h = refl

pub not_both : (b : Bool) → b ≡ true → b ≡ false → ⊥
not_both b h k = true≢false (sym h ∙ k)

-- a name that is there differs from one that is not
pub differ : (t : Trees Label) (a m : Word) → holds t a ≡ false → holds t m ≡ true → bytes_eq a m ≡ false
differ t a m h k = not_true (bytes_eq a m) (λ e. not_both (holds t m) k (ap (holds t) (sym (same_name a m e)) ∙ h))

-- ---- a fact of each label, and numbers
module _ (P : Label → Type 0) (y : Label) (q : P y) where
  each_or : (s a t : Trees Label) → EachLabel P s → EachLabel P t → EachLabel P (last_or s a t)
  each_or s leafless t p r = p
  each_or s (tree l b c) t p r = r

  pub each_put : (level : ℕ) (t : Trees Label) → EachLabel P t → EachLabel P (put_last level y t)
  each_put zero t p = each_joined P t (alone y) p (q, (tt, tt))
  each_put (suc level) leafless p = tt
  each_put (suc level) (tree x below after) p = (p.0, (each_or (put_last level y below) after below (each_put level below p.1.0) p.1.0, each_put (suc level) after p.1.1))

module _ (y : Label) where
  pub size_put : (level : ℕ) (t : Trees Label) → size_of (put_last level y t) ≤ size_of t + 1
  size_put zero t = omega (arith, size_of-joined t (alone y))
  size_put (suc level) leafless = omega arith
  size_put (suc level) (tree x below after) = by_after after (size_put level below) (size_put (suc level) after)
    where
      by_after : (a : Trees Label) → size_of (put_last level y below) ≤ size_of below + 1 → size_of (put_last (suc level) y a) ≤ size_of a + 1
          → 1 + size_of (last_or (put_last level y below) a below) + size_of (put_last (suc level) y a) ≤ 1 + size_of below + size_of a + 1
      by_after leafless h k = omega (arith, h)
      by_after (tree l b c) h k = omega (arith, k)

  pub height_put : (level : ℕ) (t : Trees Label) → height_of (put_last level y t) ≤ max (height_of t) (level + 1)
  height_put zero t = omega (arith, height_of-joined t (alone y))
  height_put (suc level) leafless = omega arith
  height_put (suc level) (tree x below after) = by_after after (height_put level below) (height_put (suc level) after)
    where
      by_after : (a : Trees Label) → height_of (put_last level y below) ≤ max (height_of below) (level + 1) → height_of (put_last (suc level) y a) ≤ max (height_of a) (suc level + 1)
          → max (1 + height_of (last_or (put_last level y below) a below)) (height_of (put_last (suc level) y a)) ≤ max (max (1 + height_of below) (height_of a)) (suc level + 1)
      by_after leafless h k = omega (arith, h)
      by_after (tree l b c) h k = omega (arith, k)

  -- no list but that of the parent has a tree more
  pub count_put : (level : ℕ) (t : Trees Label) → count_of (put_last (suc level) y t) ≡ count_of t
  count_put level leafless = refl
  count_put level (tree x below after) = ap (λ n. 1 + n) (count_put level after)

  pub count_alone : (t : Trees Label) → count_of (put_last zero y t) ≡ count_of t + 1
  count_alone t = count_of-joined t (alone y)

pub few_none : (version : ℕ) → are_too_many version 0 ≡ false
few_none version = by_test (version == 2) where
  by_test : (b : Bool) → (b && nat_lt 65536 0) ≡ false
  by_test true = refl
  by_test false = refl

pub few_joined : (version : ℕ) (s t : Trees Label) → HasFewChildren version s → HasFewChildren version t → HasFewChildren version (joined s t)
few_joined version leafless t p q = q
few_joined version (tree x below after) t p q = (p.0, (p.1.0, few_joined version after t p.1.1 q))

module _ (version : ℕ) (y : Label) where
  abbrev HasRoom : ℕ → Trees Label → Type 0
  HasRoom level t = are_too_many version (child_count (parent_on level t) + 1) ≡ false

  pub few_put : (level : ℕ) (t : Trees Label) → HasFewChildren version t → HasRoom level t → HasFewChildren version (put_last level y t)
  few_put zero t p h = few_joined version t (alone y) p (few_none version, (tt, tt))
  few_put (suc level) leafless p h = tt
  few_put (suc zero) (tree x below after) p h = by_after after h (few_put (suc zero) after p.1.1)
    where
      by_after : (a : Trees Label) → HasRoom (suc zero) (tree x below a) → (HasRoom (suc zero) a → HasFewChildren version (put_last (suc zero) y a))
          → HasFewChildren version (tree x (last_or (put_last zero y below) a below) (put_last (suc zero) y a))
      by_after leafless k rest = (ap (are_too_many version) (count_alone y below) ∙ k, (few_joined version below (alone y) p.1.0 (few_none version, (tt, tt)), tt))
      by_after (tree z b c) k rest = (p.0, (p.1.0, rest k))
  few_put (suc (suc n)) (tree x below after) p h = by_after after h (few_put (suc n) below p.1.0) (few_put (suc (suc n)) after p.1.1)
    where
      by_after : (a : Trees Label) → HasRoom (suc (suc n)) (tree x below a) → (HasRoom (suc n) below → HasFewChildren version (put_last (suc n) y below))
          → (HasRoom (suc (suc n)) a → HasFewChildren version (put_last (suc (suc n)) y a))
          → HasFewChildren version (tree x (last_or (put_last (suc n) y below) a below) (put_last (suc (suc n)) y a))
      by_after leafless k inner rest = (ap (are_too_many version) (count_put y n below) ∙ p.0, (inner k, tt))
      by_after (tree z b c) k inner rest = (p.0, (p.1.0, rest k))

pub containers_joined : (s t : Trees Label) → HasContainers s → HasContainers t → HasContainers (joined s t)
containers_joined leafless t p q = q
containers_joined (tree x below after) t p q = (p.0, (p.1.0, containers_joined after t p.1.1 q))

module _ (y : Label) where
  abbrev IsOpen : ℕ → Trees Label → Type 0
  IsOpen level t = is_leaf_node (parent_on level t) ≡ false

  pub containers_put : (level : ℕ) (t : Trees Label) → HasContainers t → IsOpen level t → HasContainers (put_last level y t)
  containers_put zero t p h = containers_joined t (alone y) p ((λ _. refl), (tt, tt))
  containers_put (suc level) leafless p h = tt
  containers_put (suc zero) (tree x below after) p h = by_after after h (containers_put (suc zero) after p.1.1)
    where
      by_after : (a : Trees Label) → IsOpen (suc zero) (tree x below a) → (IsOpen (suc zero) a → HasContainers (put_last (suc zero) y a))
          → HasContainers (tree x (last_or (put_last zero y below) a below) (put_last (suc zero) y a))
      by_after leafless k rest = ((λ e. absurd (not_both (is_leaf x.kind) e k)), (containers_joined below (alone y) p.1.0 ((λ _. refl), (tt, tt)), tt))
      by_after (tree z b c) k rest = (p.0, (p.1.0, rest k))
  containers_put (suc (suc n)) (tree x below after) p h = by_after after h (containers_put (suc n) below p.1.0) (containers_put (suc (suc n)) after p.1.1)
    where
      by_after : (a : Trees Label) → IsOpen (suc (suc n)) (tree x below a) → (IsOpen (suc n) below → HasContainers (put_last (suc n) y below))
          → (IsOpen (suc (suc n)) a → HasContainers (put_last (suc (suc n)) y a))
          → HasContainers (tree x (last_or (put_last (suc n) y below) a below) (put_last (suc (suc n)) y a))
      by_after leafless k inner rest = ((λ e. ap (put_last (suc n) y) (p.0 e)), (inner k, tt))
      by_after (tree z b c) k inner rest = (p.0, (p.1.0, rest k))

  -- ---- the names
  pub put_less : (level : ℕ) (t : Trees Label) (m : Word) → bytes_eq y.name m ≡ false → holds t m ≡ false → holds (put_last level y t) m ≡ false
  put_less zero t m e h = holds-joined t (alone y) m ∙ rw (h, e) refl
  put_less (suc level) leafless m e h = h
  put_less (suc level) (tree x below after) m e h =
      let parts = or_split (bytes_eq x.name m) (holds below m) (holds after m) h in
      or_join _ _ _ parts.0 (by_after after (put_less level below m e parts.1.0) parts.1.0) (put_less (suc level) after m e parts.1.1)
    where
      by_after : (a : Trees Label) → holds (put_last level y below) m ≡ false → holds below m ≡ false → holds (last_or (put_last level y below) a below) m ≡ false
      by_after leafless p q = p
      by_after (tree z b c) p q = q

  distinct_alone : (t : Trees Label) → IsDistinct t → holds t y.name ≡ false → IsDistinct (joined t (alone y))
  distinct_alone leafless d h = (refl, (refl, ((λ _ _. refl), (tt, tt))))
  distinct_alone (tree x below after) d h =
      let parts = or_split (bytes_eq x.name y.name) (holds below y.name) (holds after y.name) h in (
        d.0,
        (
          put_less zero after x.name (same_either_way y.name x.name ∙ parts.0) d.1.0,
          ((λ m k. put_less zero after m (differ below y.name m parts.1.0 k) (d.1.1.0 m k)), (d.1.1.1.0, distinct_alone after d.1.1.1.1 parts.1.1)),
        ),
      )

  pub distinct_put : (level : ℕ) (t : Trees Label) → IsDistinct t → holds t y.name ≡ false → IsDistinct (put_last level y t)
  distinct_put zero t d h = distinct_alone t d h
  distinct_put (suc level) leafless d h = tt
  distinct_put (suc level) (tree x below after) d h =
      let parts = or_split (bytes_eq x.name y.name) (holds below y.name) (holds after y.name) h in
      by_after after (same_either_way y.name x.name ∙ parts.0) parts.1.0 (distinct_put level below d.1.1.1.0 parts.1.0) (distinct_put (suc level) after d.1.1.1.1 parts.1.1) d.1.0 d.1.1.0
    where
      by_after : (a : Trees Label) → bytes_eq y.name x.name ≡ false → holds below y.name ≡ false → IsDistinct (put_last level y below) → IsDistinct (put_last (suc level) y a)
          → holds a x.name ≡ false → ((m : Word) → holds below m ≡ true → holds a m ≡ false)
          → IsDistinct (tree x (last_or (put_last level y below) a below) (put_last (suc level) y a))
      by_after leafless e k p q r apart = (put_less level below x.name e d.0, (refl, ((λ _ _. refl), (p, tt))))
      by_after (tree z b c) e k p q r apart =
          (d.0, (put_less (suc level) (tree z b c) x.name e r, ((λ m g. put_less (suc level) (tree z b c) m (differ below y.name m k g) (apart m g)), (d.1.1.1.0, q))))

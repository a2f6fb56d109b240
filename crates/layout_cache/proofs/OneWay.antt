-- Where one node is touched and subgrids feel nothing, it and all above it are reached, and no more.
use Rattle.std.proofs.Common.{arith, ◌≡◌, ℕ, zero, suc, ◌+◌, ◌≤◌, Bool, true, false, List, [], ◌∷◌, ◌++◌, length, get_or, Option, None, refl, sym, ap, ◌∙◌, append_assoc, append-nil}
use Rattle.std.specs.Prelude.{◌||◌, ◌&&◌, if◌then◌else◌, reverse}
use Rattle.std.proofs.lemmas.Bool.{or_left}
use Rattle.std.proofs.lemmas.List.{reverse-append}
use Rattle.plain_tree.specs.Trees.{Trees, leafless, tree}
use Rattle.node_arena.specs.declared.number.NodeId.{NodeId}
use Rattle.node_arena.specs.Numbers.{IsDistinct, is_among, same, times, way_of, way_up}
use Rattle.node_arena.proofs.Same.{After, Below, Here, by_place, one_yes, same_from, same_is, same_refl}
use Rattle.node_arena.proofs.Standing.{way_after, way_below, way_here}
use Rattle.layout_cache.specs.Reach.{IsLone, is_above, reached, reached_by}

or_none : (b : Bool) → (b || false) ≡ b
or_none true = refl
or_none false = refl

or_three : (a b c : Bool) → (a || (b || c)) ≡ ((a || b) || c)
or_three true b c = refl
or_three false b c = refl

among_end : (n x : NodeId) (xs : List NodeId) → is_among n (xs ++ x ∷ []) ≡ (is_among n xs || (same x n || false))
among_end n x [] = refl
among_end n x (y ∷ ys) = ap (λ b. same y n || b) (among_end n x ys) ∙ or_three (same y n) (is_among n ys) (same x n || false)

one_of : (a b : Bool) → (a || (b || false)) ≡ true → a ≡ false → b ≡ true
one_of a b e f = sym (or_none b) ∙ ap (λ z. z || (b || false)) (sym f) ∙ e

module _ {A : Type 0} where
  -- what is on the way up in some trees stands in them
  way_times : (s : Trees (NodeId × A)) (m k : NodeId) → is_among k (way_up s m) ≡ true → 1 ≤ times k s
  way_times leafless m k e = absurd cc
  way_times (tree x below after) m k e = by_place x below m here (λ p. under p (way_times below m k)) (λ p. later p (way_times after m k))
    where
      here : Here x m → 1 ≤ times k (tree x below after)
      here p =
          let found : same m k ≡ true = sym (or_none (same m k)) ∙ sym (ap (is_among k) (way_here x below after m p)) ∙ e in
          omega (arith, one_yes (same x.0 k) (ap (λ z. same z k) (same_is x.0 m p.is) ∙ found))

      under : Below x below m → (is_among k (way_up below m) ≡ true → 1 ≤ times k below) → 1 ≤ times k (tree x below after)
      under p inner = at (is_among k (way_up below m)) refl
        where
          among : (is_among k (way_up below m) || (same x.0 k || false)) ≡ true
          among = sym (among_end k x.0 (way_up below m)) ∙ sym (ap (is_among k) (way_below x below after m p)) ∙ e

          at : (b : Bool) → is_among k (way_up below m) ≡ b → 1 ≤ times k (tree x below after)
          at true f = omega (arith, inner f)
          at false f = omega (arith, one_yes (same x.0 k) (one_of (is_among k (way_up below m)) (same x.0 k) among f))

      later : After x below m → (is_among k (way_up after m) ≡ true → 1 ≤ times k after) → 1 ≤ times k (tree x below after)
      later p inner = omega (arith, inner (sym (ap (is_among k) (way_after x below after m p)) ∙ e))

  module _ (subgrid : A → Bool) (touched above : NodeId → Bool) where
    abbrev found : Trees (NodeId × A) → List NodeId
    found s = reached subgrid touched above false false s

    -- one node, which is reached or is not
    step : (x : NodeId × A) (below after : Trees (NodeId × A)) (b : Bool) → above x.0 ≡ b → found (tree x below after) ≡ (if b then x.0 ∷ found below else []) ++ found after
    step x below after b e = ap (λ z. (if z || false then x.0 ∷ found below else []) ++ found after) e ∙ at b
      where
        at : (b : Bool) → ◌≡◌ {A = List NodeId} ((if b || false then x.0 ∷ found below else []) ++ found after) ((if b then x.0 ∷ found below else []) ++ found after)
        at true = refl
        at false = refl

    none_on : (s : Trees (NodeId × A)) → ((k : NodeId) → 1 ≤ times k s → above k ≡ false) → found s ≡ []
    none_on leafless h = refl
    none_on (tree x below after) h =
        step x below after false (h x.0 (omega (arith, one_yes (same x.0 x.0) (same_refl x.0)))) ∙ none_on after (λ k l. h k (omega (arith, l)))

    -- where what is above is the way up of a number, that is reached
    abbrev Inner : NodeId → Trees (NodeId × A) → Type 0
    Inner m s = ((k : NodeId) → 1 ≤ times k s → above k ≡ is_among k (way_up s m)) → found s ≡ reverse (way_up s m)

    way_reached : (m : NodeId) (s : Trees (NodeId × A)) → ((k : NodeId) → times k s ≤ 1) → ((k : NodeId) → 1 ≤ times k s → above k ≡ is_among k (way_up s m)) → found s ≡ reverse (way_up s m)
    way_reached m leafless d h = refl
    way_reached m (tree x below after) d h =
        by_place x below m here (λ p. under p (λ g. way_reached m below (λ k. omega (arith, d k)) g)) (λ p. later p (λ g. way_reached m after (λ k. omega (arith, d k)) g))
      where
        own : 1 ≤ times x.0 (tree x below after)
        own = omega (arith, one_yes (same x.0 x.0) (same_refl x.0))

        -- no node of the rest has the number of this one
        other : (k : NodeId) → 1 ≤ times k below + times k after → same x.0 k ≡ false
        other k l = at (same x.0 k) refl
          where
            at : (b : Bool) → same x.0 k ≡ b → same x.0 k ≡ false
            at true e = absurd (omega (arith, d k, l, one_yes (same x.0 k) e))
            at false e = e

        here : Here x m → found (tree x below after) ≡ reverse (way_up (tree x below after) m)
        here p =
            step x below after true (h x.0 own ∙ ap (is_among x.0) way ∙ or_left (same m x.0) false (same_from m x.0 (sym is)))
            ∙ (λ i. x.0 ∷ (none_on below (λ k l. none k (omega (arith, l))) i ++ none_on after (λ k l. none k (omega (arith, l))) i))
            ∙ ap (λ z. z ∷ []) is
            ∙ ap reverse (sym way)
          where
            is : x.0 ≡ m
            is = same_is x.0 m p.is

            way : way_up (tree x below after) m ≡ m ∷ []
            way = way_here x below after m p

            none : (k : NodeId) → 1 ≤ times k below + times k after → above k ≡ false
            none k l = h k (omega (arith, l)) ∙ ap (is_among k) way ∙ ap (λ z. same z k || false) (sym is) ∙ ap (λ b. b || false) (other k l)

        under : Below x below m → Inner m below → found (tree x below after) ≡ reverse (way_up (tree x below after) m)
        under p inner =
            step x below after true (among x.0 own ∙ ends)
            ∙ (λ i. x.0 ∷ (inner in_below i ++ none_on after in_after i))
            ∙ ap (λ l. x.0 ∷ l) (append-nil (reverse (way_up below m)))
            ∙ sym (reverse-append (way_up below m) (x.0 ∷ []))
            ∙ ap reverse (sym way)
          where
            way : way_up (tree x below after) m ≡ way_up below m ++ x.0 ∷ []
            way = way_below x below after m p

            among : (k : NodeId) → 1 ≤ times k (tree x below after) → above k ≡ (is_among k (way_up below m) || (same x.0 k || false))
            among k l = h k l ∙ ap (is_among k) way ∙ among_end k x.0 (way_up below m)

            ends : (is_among x.0 (way_up below m) || (same x.0 x.0 || false)) ≡ true
            ends = at (is_among x.0 (way_up below m))
              where
                at : (b : Bool) → (b || (same x.0 x.0 || false)) ≡ true
                at true = refl
                at false = ap (λ z. z || false) (same_refl x.0)

            in_below : (k : NodeId) → 1 ≤ times k below → above k ≡ is_among k (way_up below m)
            in_below k l = among k (omega (arith, l)) ∙ ap (λ b. is_among k (way_up below m) || (b || false)) (other k (omega (arith, l))) ∙ or_none (is_among k (way_up below m))

            in_after : (k : NodeId) → 1 ≤ times k after → above k ≡ false
            in_after k l = among k (omega (arith, l)) ∙ ap (λ b. is_among k (way_up below m) || (b || false)) (other k (omega (arith, l))) ∙ or_none (is_among k (way_up below m)) ∙ at (is_among k (way_up below m)) refl
              where
                at : (b : Bool) → is_among k (way_up below m) ≡ b → is_among k (way_up below m) ≡ false
                at true e = absurd (omega (arith, d k, l, way_times below m k e))
                at false e = e

        later : After x below m → Inner m after → found (tree x below after) ≡ reverse (way_up (tree x below after) m)
        later p inner =
            step x below after false (h x.0 own ∙ ap (is_among x.0) way ∙ at (is_among x.0 (way_up after m)) refl)
            ∙ inner (λ k l. h k (omega (arith, l)) ∙ ap (is_among k) way)
            ∙ ap reverse (sym way)
          where
            way : way_up (tree x below after) m ≡ way_up after m
            way = way_after x below after m p

            at : (b : Bool) → is_among x.0 (way_up after m) ≡ b → is_among x.0 (way_up after m) ≡ false
            at true e = absurd (omega (arith, d x.0, one_yes (same x.0 x.0) (same_refl x.0), way_times after m x.0 e))
            at false e = e

pub lone_is : (touched : List NodeId) (grid : Bool) (id : NodeId) → length touched ≡ 1 → id ≡ get_or touched 0 id → grid ≡ false → IsLone touched grid id
lone_is [] grid id n e g = absurd (omega (arith, n))
lone_is (x ∷ []) grid id n e g = record { only = ap (λ z. z ∷ []) (sym e); calm = g }
lone_is (x ∷ y ∷ rest) grid id n e g = absurd (omega (arith, n))

pub ruleset lone_laws = (lone_is)

-- ---- the way down
pub added_down : (start mid end : List NodeId) (id : NodeId) (above way : List NodeId) → mid ≡ start ++ reverse above → end ≡ mid ++ id ∷ [] → way ≡ id ∷ above → end ≡ start ++ reverse way
added_down start mid end id above way m e w =
    e
    ∙ ap (λ l. l ++ id ∷ []) m
    ∙ append_assoc start (reverse above) (id ∷ [])
    ∙ ap (λ l. start ++ l) (sym (reverse-append (id ∷ []) above) ∙ ap reverse (sym w))

pub none_added : {A : Type 0} (t : Trees (NodeId × A)) (next : Option NodeId) (l : List NodeId) → next ≡ None → l ≡ l ++ reverse (way_of t next)
none_added t next l e = sym (append-nil l) ∙ ap (λ o. l ++ reverse (way_of t o)) (sym e)

pub ruleset way_down_laws = (none_added)

pub one_way : {A : Type 0} (subgrid : A → Bool) (t : Trees (NodeId × A)) (touched : List NodeId) (grid : Bool) (id : NodeId) → IsDistinct t → IsLone touched grid id → reached_by subgrid t touched grid ≡ reverse (way_up t id)
one_way subgrid t touched grid id d h =
    (λ i. reached_by subgrid t (h.only i) (h.calm i))
    ∙ way_reached subgrid (λ n. is_among n (id ∷ [])) (is_above t (id ∷ [])) id t d (λ k l. or_none (is_among k (way_up t id)))

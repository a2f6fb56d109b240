-- What the children of a flex container told last: which of it still holds.
use Rattle.std.proofs.Common.{◌≡◌, ℕ, zero, suc, ◌+◌, ◌<◌, ◌≤◌, Bool, true, false, ℤ, List, [], ◌∷◌, ◌++◌, Some, refl, sym, ap, ◌∙◌, arith, drop, map, subst}
use Rattle.std.specs.Prelude.{◌==◌, slice_get, if◌then◌else◌}
use Rattle.std.proofs.lemmas.Bool.{eqb-true}
use Rattle.node_arena.specs.declared.number.NodeId.{NodeId}
use Rattle.tree_rules.specs.Answers.{Kid}
use Rattle.tree_rules.specs.Labels.{Label}
use Rattle.placing.specs.Children.{IsNext}
use Rattle.placing.specs.Members.{AreInOrder, Every, Place, Tells, TellsAlong, along_place, along_turn, place_of, turn_in}
use Rattle.placing.specs.Nodes.{BareTrees, children_at, kid_at, sight_at}
use Rattle.placing.specs.Told.{AreNow, ArePast, ArePastMembers, AreToldAlong, AreToldMembers, HoldsAlong, HoldsEach, HoldsMembers, IsPastAlong, along_marked, along_turned, last_turn, marked_at, marked_turn, turned_at}
use Rattle.placing.specs.declared.lined.KeptAlong.{KeptAlong}
use Rattle.placing.specs.declared.lined.ToldAlong.{ToldAlong}
use Rattle.placing.specs.declared.lined.ToldMember.{ToldMember}

-- ---- lists
-- what comes next in a list stands there
get_next : {A : Type 0} (xs ys : List A) (k : ℕ) (y : A) → drop k xs ≡ y ∷ ys → slice_get xs k ≡ Some y
get_next [] ys zero y e = absurd cc
get_next [] ys (suc k) y e = absurd cc
get_next (x ∷ xs) ys zero y e = let same : x ≡ y = cc in ap Some same
get_next (x ∷ xs) ys (suc k) y e = get_next xs ys k y e

pub child_of_number : (b : BareTrees) (n c : NodeId) (k : ℕ) → IsNext b n k c → slice_get (children_at b n) k ≡ Some c
child_of_number b n c k next = get_next (children_at b n) (drop (k + 1) (children_at b n)) k c next.children

module _ {A : Type 0} where
  pub every_push : (P : A → Type 0) (es : List A) (e : A) → Every P es → P e → Every P (es ++ e ∷ [])
  every_push P [] e h p = (p, tt)
  every_push P (x ∷ es) e h p = (h.0, every_push P es e h.1 p)

  pub map_push : {B : Type 0} (f : A → B) (es : List A) (e : A) → map f (es ++ e ∷ []) ≡ map f es ++ f e ∷ []
  map_push f [] e = refl
  map_push f (x ∷ es) e = ap (λ l. f x ∷ l) (map_push f es e)

  -- ---- another turn
  module _ (place : A → Place) (last : A → ℕ) (T : Kid → A → Type 0) (turn : NodeId → ℕ) (other : A → A) (same : (e : A) → place (other e) ≡ place e) (tells : (k : Kid) (e : A) → T k e → T k (other e)) where
    same_places : (es : List A) → map place (map other es) ≡ map place es
    same_places [] = refl
    same_places (e ∷ es) = λ i. same e i ∷ same_places es i

    -- what is taken
    module _ (marks : (e : A) → last (other e) ≡ marked_turn (last e) (turn (place e).1)) where
      one_marked : (kid : NodeId → Kid) (e : A) → (last e ≡ turn (place e).1 → last e < last_turn → T (kid (place e).1) e) → last (other e) < last_turn → T (kid (place (other e)).1) (other e)
      one_marked kid e h few = subst (λ (p : Place). T (kid p.1) (other e)) (sym (same e)) (tells (kid (place e).1) e (at (last e == turn (place e).1) refl (subst (λ k. k < last_turn) (marks e) few)))
        where
          at : (c : Bool) → (last e == turn (place e).1) ≡ c → (if c then last e else last_turn) < last_turn → T (kid (place e).1) e
          at true is low = h (eqb-true (last e) (turn (place e).1) is) low
          at false is low = absurd (omega (arith, low))

      all_marked : (kid : NodeId → Kid) (es : List A) → Every (λ e. last e ≡ turn (place e).1 → last e < last_turn → T (kid (place e).1) e) es → Every (λ e. last e < last_turn → T (kid (place e).1) e) (map other es)
      all_marked kid [] h = tt
      all_marked kid (e ∷ es) h = (one_marked kid e h.0, all_marked kid es h.1)

      pub each_taken : (b : BareTrees) (n : NodeId) (es : List A) → HoldsEach place last T b turn n es → ArePast place last T b n (map other es)
      each_taken b n es h = record { order = subst (AreInOrder (sight_at b n) (children_at b n)) (sym (same_places es)) h.order; told = all_marked (kid_at b) es h.told }

    -- what is kept
    module _ (turns : (e : A) → last (other e) ≡ turn (place e).1) where
      all_turned : (es : List A) → Every (λ e. last e ≤ turn (place e).1) (map other es)
      all_turned [] = tt
      all_turned (e ∷ es) =
          let own : last (other e) ≤ turn (place (other e)).1 = subst (λ (p : Place). last (other e) ≤ turn p.1) (sym (same e)) (omega (arith, turns e)) in
          (own, all_turned es)

      all_told : (kid : NodeId → Kid) (es : List A) → Every (λ e. T (kid (place e).1) e) es → Every (λ e. last e ≡ turn (place e).1 → last e < last_turn → T (kid (place e).1) e) (map other es)
      all_told kid [] h = tt
      all_told kid (e ∷ es) h = (λ now few. subst (λ (p : Place). T (kid p.1) (other e)) (sym (same e)) (tells (kid (place e).1) e h.0), all_told kid es h.1)

      pub each_kept : (b : BareTrees) (n : NodeId) (es : List A) → AreNow place T b n es → HoldsEach place last T b turn n (map other es)
      each_kept b n es h =
          record {
            order = subst (AreInOrder (sight_at b n) (children_at b n)) (sym (same_places es)) h.order;
            turns = all_turned es;
            told = all_told (kid_at b) es h.told;
          }

-- ---- for the inline sizes
marked_tells : (turn : NodeId → ℕ) (k : Kid) (e : ToldMember) → Tells k e → Tells k (marked_at turn e)
marked_tells turn k e h = record { inline = h.inline; low = h.low; high = h.high }

turned_tells : (turn : NodeId → ℕ) (k : Kid) (e : ToldMember) → Tells k e → Tells k (turned_at turn e)
turned_tells turn k e h = record { inline = h.inline; low = h.low; high = h.high }

pub members_taken : (b : BareTrees) (turn late : NodeId → ℕ) (n : NodeId) (es new : List ToldMember) → late ≡ turn → HoldsMembers b turn n es → new ≡ map (marked_at late) es → ArePastMembers b n new
members_taken b turn late n es new same h e =
    subst (ArePastMembers b n) (sym (e ∙ ap (λ t. map (marked_at t) es) same)) (each_taken place_of turn_in Tells turn (marked_at turn) (λ x. refl) (marked_tells turn) (λ x. refl) b n es h)

pub members_kept : (b : BareTrees) (turn : NodeId → ℕ) (n : NodeId) (es new : List ToldMember) → AreToldMembers b n es → new ≡ map (turned_at turn) es → HoldsMembers b turn n new
members_kept b turn n es new h e = subst (HoldsMembers b turn n) (sym e) (each_kept place_of turn_in Tells turn (turned_at turn) (λ x. refl) (turned_tells turn) (λ x. refl) b n es h)

-- ---- for the block size
along_marks : (turn : NodeId → ℕ) (x : Label) (width : ℤ) (k : Kid) (e : ToldAlong) → TellsAlong x width k e → TellsAlong x width k (along_marked turn e)
along_marks turn x width k e h = record { size = h.size; block = h.block; item = h.item }

along_turns : (turn : NodeId → ℕ) (x : Label) (width : ℤ) (k : Kid) (e : ToldAlong) → TellsAlong x width k e → TellsAlong x width k (along_turned turn e)
along_turns turn x width k e h = record { size = h.size; block = h.block; item = h.item }

pub along_taken : (b : BareTrees) (turn late : NodeId → ℕ) (n : NodeId) (w : KeptAlong) (new : List ToldAlong) → late ≡ turn → HoldsAlong b turn n w → new ≡ map (along_marked late) w.told → IsPastAlong b n (record { width = w.width; told = new })
along_taken b turn late n w new same h e =
    let x = (sight_at b n).label in
    subst (λ l. IsPastAlong b n (record { width = w.width; told = l })) (sym (e ∙ ap (λ t. map (along_marked t) w.told) same))
    (each_taken along_place along_turn (TellsAlong x w.width) turn (along_marked turn) (λ y. refl) (along_marks turn x w.width) (λ y. refl) b n w.told h)

pub along_kept : (b : BareTrees) (turn : NodeId → ℕ) (n : NodeId) (width : ℤ) (es new : List ToldAlong) → AreToldAlong b n width es → new ≡ map (along_turned turn) es → HoldsAlong b turn n (record { width = width; told = new })
along_kept b turn n width es new h e =
    let x = (sight_at b n).label in
    subst (λ l. HoldsAlong b turn n (record { width = width; told = l })) (sym e) (each_kept along_place along_turn (TellsAlong x width) turn (along_turned turn) (λ y. refl) (along_turns turn x width) (λ y. refl) b n es h)

-- ---- none is asked yet
pub unasked_told : (kid : NodeId → Kid) (e : ToldMember) → e.turn ≡ last_turn → e.turn < last_turn → Tells (kid e.member.child) e
unasked_told kid e is few = absurd (omega (arith, is, few))

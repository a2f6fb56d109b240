-- The frames that a grid gave its children last: which of them still hold.
use Rattle.std.proofs.Common.{◌≡◌, ℕ, ◌+◌, ◌<◌, ◌≤◌, Bool, true, List, [], ◌∷◌, ◌++◌, Option, Some, None, Result, Ok, Err, sym, ap, ◌∙◌, arith, length, map, inl, inr, subst}
use Rattle.std.specs.Prelude.{◌⊎◌, IfOk, IfSome, slice_get}
use Rattle.std.proofs.lemmas.Bool.{cases_lt}
use Rattle.std.proofs.lemmas.Option.{slice_get_within}
use Rattle.lunit.specs.declared.NoMemory.{NoMemory}
use Rattle.lunit.specs.declared.geometry.Area.{Area}
use Rattle.node_arena.specs.declared.number.NodeId.{NodeId}
use Rattle.part_rules.specs.declared.view.View.{View}
use Rattle.tree_rules.specs.Answers.{Kid}
use Rattle.tree_rules.specs.Places.{Seen}
use Rattle.placing.specs.Bases.{HoldsPlaces}
use Rattle.placing.specs.Nodes.{BareTrees, children_at, kid_at, sight_at}
use Rattle.placing.specs.Told.{AreFrames, ArePastFrames, Each, Fresh, HoldsFrames, Marked, is_fresh}
use Rattle.placing.specs.declared.node.Frame.{Frame}
use Rattle.placing.specs.declared.told.KeptFrames.{KeptFrames}
use Rattle.placing.specs.declared.told.PastFrames.{PastFrames}
use Rattle.placing.specs.declared.wide.GridBase.{GridBase}
use Rattle.placing.proofs.Stale.{turns_are}
use Rattle.placing.proofs.Tellings.{get_last, get_old, length_push, some_same}

-- the marks of the first so many children, of which each that is marked is fresh
pub record AreMarked (turn : NodeId → ℕ) (areas : List (NodeId × Area)) (turns : List ℕ) (count : ℕ) (marks : List Bool) : Type 0 where
  pub counted : length marks ≡ count
  pub fresh : (k : ℕ) → slice_get marks k ≡ Some true → is_fresh turn areas turns k ≡ true

pub none_marked : (turn : NodeId → ℕ) (areas : List (NodeId × Area)) (turns : List ℕ) (fresh : List Bool) → fresh ≡ [] → AreMarked turn areas turns 0 fresh
none_marked turn areas turns fresh e = record { counted = ap length e; fresh = λ k m. none k (ap (λ l. slice_get l k) (sym e) ∙ m) }
  where
    none : (k : ℕ) → slice_get {X = Bool} [] k ≡ Some true → is_fresh turn areas turns k ≡ true
    none k m = absurd cc

pub marked_more : (turn : NodeId → ℕ) (areas : List (NodeId × Area)) (turns : List ℕ) (count : ℕ) (fresh new : List Bool) (own : Bool) → AreMarked turn areas turns count fresh
    → (own ≡ true → is_fresh turn areas turns count ≡ true) → new ≡ fresh ++ own ∷ [] → AreMarked turn areas turns (count + 1) new
marked_more turn areas turns count fresh new own h f e =
    record {
      counted = omega (arith, ap length e, length_push fresh own, h.counted);
      fresh = λ k m. at k (ap (λ l. slice_get l k) (sym e) ∙ m) (cases_lt k (length fresh));
    }
  where
    at : (k : ℕ) → slice_get (fresh ++ own ∷ []) k ≡ Some true → (k < length fresh) ⊎ (length fresh ≤ k) → is_fresh turn areas turns k ≡ true
    at k m (inl l) = h.fresh k (sym (get_old fresh own k l) ∙ m)
    at k m (inr l) =
        let within : k < length (fresh ++ own ∷ []) = slice_get_within (fresh ++ own ∷ []) k true m in
        let last : k ≡ length fresh = omega (arith, l, within, length_push fresh own) in
        let marked : own ≡ true = some_same own true (sym (get_last fresh own) ∙ ap (slice_get (fresh ++ own ∷ [])) (sym last) ∙ m) in
        ap (is_fresh turn areas turns) (last ∙ h.counted) ∙ f marked

pub marked_as : (turn : NodeId → ℕ) (xs ys : List (NodeId × Area)) (us vs : List ℕ) (fresh : List Bool) → ys ≡ xs → vs ≡ us → ((k : ℕ) → slice_get fresh k ≡ Some true → is_fresh turn ys vs k ≡ true)
    → (k : ℕ) → slice_get fresh k ≡ Some true → is_fresh turn xs us k ≡ true
marked_as turn xs ys us vs fresh f g h k m = (λ i. is_fresh turn (sym f i) (sym g i) k) ∙ h k m

-- ---- what is taken, and what is kept
frames_fewer : (s : Seen) (kid : NodeId → Kid) (base : GridBase) (columns : View 0) (rows : View 1) (C D : ℕ → Type 0) (frames : List Frame) → AreFrames s kid base columns rows C frames → ((k : ℕ) → D k → C k)
    → AreFrames s kid base columns rows D frames
frames_fewer s kid base columns rows C D frames h f = record { counted = h.counted; each = λ i k m x there own d. h.each i k m x there own (f k d) }

pub frames_kept : (b : BareTrees) (turn : NodeId → ℕ) (n : NodeId) (w : KeptFrames) → w.turns ≡ map (λ (e : NodeId × Area). turn e.0) w.base.placed.areas → HoldsPlaces (sight_at b n) (children_at b n) w.base
    → AreFrames (sight_at b n) (kid_at b) w.base w.columns w.rows Each w.frames → HoldsFrames b turn n w
frames_kept b turn n w e places frames =
    record {
      places = places;
      turns = turns_are turn w.base.placed.areas w.turns e;
      frames = frames_fewer (sight_at b n) (kid_at b) w.base w.columns w.rows Each (Fresh turn w.base.placed.areas w.turns) w.frames frames (λ k d. tt);
    }

frames_past : (b : BareTrees) (turn : NodeId → ℕ) (n : NodeId) (w : KeptFrames) (p : PastFrames) → HoldsFrames b turn n w → p ≡ record { base = w.base; columns = w.columns; rows = w.rows; frames = w.frames; fresh = p.fresh }
    → length p.fresh ≡ length w.base.placed.areas → ((k : ℕ) → slice_get p.fresh k ≡ Some true → is_fresh turn w.base.placed.areas w.turns k ≡ true) → ArePastFrames b n p
frames_past b turn n w p h e count f = subst (ArePastFrames b n) (sym e) whole
  where
    whole : ArePastFrames b n (record { base = w.base; columns = w.columns; rows = w.rows; frames = w.frames; fresh = p.fresh })
    whole =
        record {
          places = h.places;
          counted = count;
          frames = frames_fewer (sight_at b n) (kid_at b) w.base w.columns w.rows (Fresh turn w.base.placed.areas w.turns) (Marked p.fresh) w.frames h.frames f;
        }

pub past_frames : (b : BareTrees) (turn late : NodeId → ℕ) (n : NodeId) (w : KeptFrames) (r : Result (Option PastFrames) NoMemory) → late ≡ turn → HoldsFrames b turn n w
    → IfOk r (λ past. IfSome past (λ (p : PastFrames). p ≡ record { base = w.base; columns = w.columns; rows = w.rows; frames = w.frames; fresh = p.fresh }))
    → IfOk r (λ past. IfSome past (λ (p : PastFrames). length p.fresh ≡ length w.base.placed.areas))
    → IfOk r (λ past. IfSome past (λ (p : PastFrames). (k : ℕ) → slice_get p.fresh k ≡ Some true → is_fresh late w.base.placed.areas w.turns k ≡ true))
    → IfOk r (λ past. IfSome past (ArePastFrames b n))
past_frames b turn late n w (Err e) f h parts count fresh = tt
past_frames b turn late n w (Ok None) f h parts count fresh = tt
past_frames b turn late n w (Ok (Some p)) f h parts count fresh =
    frames_past b turn n w p h parts count (subst (λ (t : NodeId → ℕ). (k : ℕ) → slice_get p.fresh k ≡ Some true → is_fresh t w.base.placed.areas w.turns k ≡ true) f fresh)

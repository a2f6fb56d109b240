-- Which children must be asked again.
use Rattle.std.proofs.Common.{◌≡◌, ℕ, zero, suc, ◌+◌, ◌<◌, Bool, true, false, List, [], ◌∷◌, ◌++◌, Option, Some, None, Result, Ok, Err, refl, sym, ap, ◌∙◌, arith, length, map, inl, inr, subst}
use Rattle.std.specs.Prelude.{◌==◌, ◌&&◌, ◌||◌, ◌⊎◌, ◌≢◌, IfOk, IfSome, get_or}
use Rattle.std.specs.List.{All}
use Rattle.std.proofs.lemmas.Bool.{cases_eq, eq-eqb, lt-ltb}
use Rattle.lunit.specs.declared.NoMemory.{NoMemory}
use Rattle.lunit.specs.declared.geometry.Area.{Area}
use Rattle.node_arena.specs.declared.number.NodeId.{NodeId}
use Rattle.tree_rules.specs.Answers.{Kid}
use Rattle.tree_rules.specs.Places.{Seen}
use Rattle.placing.specs.Bases.{HoldsPlaces}
use Rattle.placing.specs.Nodes.{BareTrees, children_at, kid_at, sight_at}
use Rattle.placing.specs.Told.{AllBut, AreColumns, AreRows, AreRowsFor, AreTurns, Each, Fresh, HoldsColumns, HoldsTold, IsPastColumns, IsPastOf, IsPastRows, IsPastWide, TellsColumns, TellsRows, columns_in, is_fresh, is_listed, last_turn, rows_in}
use Rattle.placing.specs.declared.told.KeptColumns.{KeptColumns}
use Rattle.placing.specs.declared.told.KeptWide.{KeptWide}
use Rattle.placing.specs.declared.told.PastWide.{PastWide}
use Rattle.placing.specs.declared.told.ToldColumns.{ToldColumns}
use Rattle.placing.specs.declared.told.ToldRows.{ToldRows}
use Rattle.placing.specs.declared.wide.GridBase.{GridBase}
use Rattle.placing.specs.declared.wide.RowsAt.{RowsAt}
use Rattle.placing.proofs.Tellings.{told_fewer}

-- those of the first so many that are not listed are fresh
pub record AreStale (turn : NodeId → ℕ) (areas : List (NodeId × Area)) (turns : List ℕ) (count : ℕ) (stale : List ℕ) : Type 0 where
  pub fresh : (k : ℕ) → k < count → is_listed k stale ≡ false → is_fresh turn areas turns k ≡ true
  pub within : All (λ k. k < length areas) stale

pub none_stale : (turn : NodeId → ℕ) (areas : List (NodeId × Area)) (turns : List ℕ) (stale : List ℕ) → stale ≡ [] → AreStale turn areas turns 0 stale
none_stale turn areas turns stale e = record { fresh = λ k l h. absurd (omega (arith, l)); within = λ k d l. absurd (omega (arith, l, ap length e)) }

pub turns_counted : (turn : NodeId → ℕ) (areas : List (NodeId × Area)) (turns : List ℕ) → AreTurns turn areas turns → length turns ≡ length areas
turns_counted turn [] [] h = refl
turns_counted turn [] (s ∷ turns) h = absurd h
turns_counted turn (e ∷ areas) [] h = absurd h
turns_counted turn (e ∷ areas) (s ∷ turns) h = ap suc (turns_counted turn areas turns h.1)

pub turns_same : (turn : NodeId → ℕ) (areas : List (NodeId × Area)) → AreTurns turn areas (map (λ (e : NodeId × Area). turn e.0) areas)
turns_same turn [] = tt
turns_same turn (e ∷ areas) = (omega arith, turns_same turn areas)

listed_push : (k i : ℕ) (stale : List ℕ) → is_listed k (stale ++ i ∷ []) ≡ false → (is_listed k stale ≡ false) × (k ≢ i)
listed_push k i [] h = (refl, λ e. at (i == k) (eq-eqb i k (sym e)) h)
  where
    at : (b : Bool) → b ≡ true → (b || false) ≡ false → ⊥
    at true e f = absurd cc
    at false e f = absurd cc
listed_push k i (x ∷ stale) h = at (x == k) refl h (listed_push k i stale)
  where
    at : (b : Bool) → (x == k) ≡ b → (b || is_listed k (stale ++ i ∷ [])) ≡ false → (is_listed k (stale ++ i ∷ []) ≡ false → (is_listed k stale ≡ false) × (k ≢ i)) → ((b || is_listed k stale) ≡ false) × (k ≢ i)
    at true e f g = absurd cc
    at false e f g = g f

pub fresh_read : (turn : NodeId → ℕ) (areas : List (NodeId × Area)) (turns : List ℕ) (k : ℕ) (d : NodeId × Area) → length turns ≡ length areas → k < length areas → get_or turns k 0 ≡ turn (get_or areas k d).0 → get_or turns k 0 < last_turn
    → is_fresh turn areas turns k ≡ true
fresh_read turn [] turns k d c l e f = absurd (omega (arith, l))
fresh_read turn (x ∷ areas) [] k d c l e f = absurd (omega (arith, c))
fresh_read turn (x ∷ areas) (s ∷ turns) zero d c l e f = (λ i. eq-eqb s (turn x.0) e i && lt-ltb s last_turn f i)
fresh_read turn (x ∷ areas) (s ∷ turns) (suc k) d c l e f = fresh_read turn areas turns k d (omega (arith, c)) (omega (arith, l)) e f

pub stale_more : (turn : NodeId → ℕ) (areas : List (NodeId × Area)) (turns : List ℕ) (count : ℕ) (stale new : List ℕ) → AreStale turn areas turns count stale → count < length areas → new ≡ stale ++ count ∷ [] → AreStale turn areas turns (count + 1) new
stale_more turn areas turns count stale new h l e =
    record {
      fresh = λ k j f. at k j (listed_push k count stale (ap (is_listed k) (sym e) ∙ f));
      within = λ k d j. subst (λ (xs : List ℕ). get_or xs k d < length areas) (sym e) (all stale k d h.within (omega (arith, j, ap length e)));
    }
  where
    at : (k : ℕ) → k < count + 1 → (is_listed k stale ≡ false) × (k ≢ count) → is_fresh turn areas turns k ≡ true
    at k j both = h.fresh k (omega (arith, j, both.1)) both.0

    all : (xs : List ℕ) (k d : ℕ) → All (λ i. i < length areas) xs → k < length (xs ++ count ∷ []) → get_or (xs ++ count ∷ []) k d < length areas
    all [] zero d g j = l
    all [] (suc k) d g j = absurd (omega (arith, j))
    all (x ∷ xs) zero d g j = g 0 d (omega arith)
    all (x ∷ xs) (suc k) d g j = all xs k d (λ i c m. g (suc i) c (omega (arith, m))) (omega (arith, j))

pub fresh_more : (turn : NodeId → ℕ) (areas : List (NodeId × Area)) (turns : List ℕ) (count : ℕ) (stale : List ℕ) (d : NodeId × Area) → AreTurns turn areas turns → AreStale turn areas turns count stale → count < length areas
    → get_or turns count 0 ≡ turn (get_or areas count d).0 → get_or turns count 0 < last_turn → AreStale turn areas turns (count + 1) stale
fresh_more turn areas turns count stale d t h l e f = record { fresh = λ k j n. at k j n (cases_eq k count); within = h.within }
  where
    at : (k : ℕ) → k < count + 1 → is_listed k stale ≡ false → (k ≡ count) ⊎ (k ≢ count) → is_fresh turn areas turns k ≡ true
    at k j n (inl same) = ap (is_fresh turn areas turns) same ∙ fresh_read turn areas turns count d (turns_counted turn areas turns t) l e f
    at k j n (inr other) = h.fresh k (omega (arith, j, other)) n

-- ---- what is taken, and what is kept
columns_fewer : (s : Seen) (kid : NodeId → Kid) (C D : ℕ → Type 0) (t : ToldColumns) → AreColumns s kid C t → ((k : ℕ) → k < length t.parts.base.placed.areas → D k → C k) → AreColumns s kid D t
columns_fewer s kid C D t h f =
    record {
      counted = h.counted;
      told = told_fewer C D (TellsColumns s kid t.parts.base) (TellsColumns s kid t.parts.base) t.parts.inlines t.parts.items t.ends h.told (λ k x p l d. f k (omega (arith, l, h.counted)) d) (λ k x p l d y. y);
    }

rows_fewer : (s : Seen) (kid : NodeId → Kid) (base : GridBase) (C D : ℕ → Type 0) (t : ToldRows) → AreRows s kid base C t → ((k : ℕ) → k < length base.placed.areas → D k → C k) → AreRows s kid base D t
rows_fewer s kid base C D t h f =
    record {
      counted = h.counted;
      told = told_fewer C D (TellsRows s kid base t.columns t.align) (TellsRows s kid base t.columns t.align) t.children t.items t.ends h.told (λ k x p l d. f k (omega (arith, l, h.counted)) d) (λ k x p l d y. y);
    }

pub columns_past : (b : BareTrees) (turn : NodeId → ℕ) (n : NodeId) (w : KeptColumns) (stale : List ℕ) → HoldsColumns b turn n w
    → ((k : ℕ) → k < length w.told.parts.base.placed.areas → is_listed k stale ≡ false → is_fresh turn w.told.parts.base.placed.areas w.turns k ≡ true) → All (λ k. k < length w.told.parts.base.placed.areas) stale
    → IsPastColumns b n (record { told = w.told; stale = stale })
columns_past b turn n w stale h f within =
    record {
      places = h.places;
      stale = within;
      told = columns_fewer (sight_at b n) (kid_at b) (Fresh turn w.told.parts.base.placed.areas w.turns) (AllBut stale) w.told h.told f;
    }

pub wide_past : (b : BareTrees) (turn : NodeId → ℕ) (n : NodeId) (w : KeptWide) (p : PastWide) → HoldsTold b turn n w → IsPastOf turn w p → IsPastWide b n p
wide_past b turn n w p h o =
    record {
      columns = subst (λ (t : ToldColumns). IsPastColumns b n (record { told = t; stale = p.columns.stale })) (sym o.columns) columns;
      rows = subst (λ (z : GridBase). IsPastRows b n (record { base = z; told = p.rows.told; rows = p.rows.rows; stale = p.rows.stale })) (sym o.base)
          (subst (λ (t : ToldRows). IsPastRows b n (record { base = w.wide.parts.base; told = t; rows = p.rows.rows; stale = p.rows.stale })) (sym o.rows)
          (subst (λ (l : List ℕ). IsPastRows b n (record { base = w.wide.parts.base; told = rows_in w; rows = p.rows.rows; stale = l })) (sym o.again)
          (subst (λ (r : Option RowsAt). IsPastRows b n (record { base = w.wide.parts.base; told = rows_in w; rows = r; stale = p.columns.stale })) (sym o.laid) rows)));
    }
  where
    columns : IsPastColumns b n (record { told = columns_in w; stale = p.columns.stale })
    columns =
        record {
          places = h.places;
          stale = o.within;
          told = columns_fewer (sight_at b n) (kid_at b) (Fresh turn w.wide.parts.base.placed.areas w.turns) (AllBut p.columns.stale) (columns_in w) h.columns o.fresh;
        }

    rows : IsPastRows b n (record { base = w.wide.parts.base; told = rows_in w; rows = w.wide.rows; stale = p.columns.stale })
    rows =
        record {
          places = h.places;
          laid = h.laid;
          stale = o.within;
          told = rows_fewer (sight_at b n) (kid_at b) w.wide.parts.base (Fresh turn w.wide.parts.base.placed.areas w.turns) (AllBut p.columns.stale) (rows_in w) h.rows o.fresh;
        }

pub turns_are : (turn : NodeId → ℕ) (areas : List (NodeId × Area)) (turns : List ℕ) → turns ≡ map (λ (e : NodeId × Area). turn e.0) areas → AreTurns turn areas turns
turns_are turn areas turns e = subst (AreTurns turn areas) (sym e) (turns_same turn areas)

pub columns_kept : (b : BareTrees) (turn : NodeId → ℕ) (n : NodeId) (w : KeptColumns) → w.turns ≡ map (λ (e : NodeId × Area). turn e.0) w.told.parts.base.placed.areas → HoldsPlaces (sight_at b n) (children_at b n) w.told.parts.base
    → AreColumns (sight_at b n) (kid_at b) Each w.told → HoldsColumns b turn n w
columns_kept b turn n w e places told =
    record {
      places = places;
      turns = turns_are turn w.told.parts.base.placed.areas w.turns e;
      told = columns_fewer (sight_at b n) (kid_at b) Each (Fresh turn w.told.parts.base.placed.areas w.turns) w.told told (λ k l d. tt);
    }

pub wide_kept : (b : BareTrees) (turn : NodeId → ℕ) (n : NodeId) (w : KeptWide) → w.turns ≡ map (λ (e : NodeId × Area). turn e.0) w.wide.parts.base.placed.areas → HoldsPlaces (sight_at b n) (children_at b n) w.wide.parts.base
    → AreColumns (sight_at b n) (kid_at b) Each (columns_in w) → AreRows (sight_at b n) (kid_at b) w.wide.parts.base Each (rows_in w)
    → IfSome w.wide.rows (AreRowsFor (sight_at b n) w.wide.parts.base w.wide.items) → HoldsTold b turn n w
wide_kept b turn n w e places columns rows laid =
    record {
      places = places;
      turns = turns_are turn w.wide.parts.base.placed.areas w.turns e;
      columns = columns_fewer (sight_at b n) (kid_at b) Each (Fresh turn w.wide.parts.base.placed.areas w.turns) (columns_in w) columns (λ k l d. tt);
      rows = rows_fewer (sight_at b n) (kid_at b) w.wide.parts.base Each (Fresh turn w.wide.parts.base.placed.areas w.turns) (rows_in w) rows (λ k l d. tt);
      laid = laid;
    }

-- ---- the same by equal lists
pub turns_as : (turn late : NodeId → ℕ) (xs ys : List (NodeId × Area)) (us vs : List ℕ) → late ≡ turn → ys ≡ xs → vs ≡ us → AreTurns turn xs us → AreTurns late ys vs
turns_as turn late xs ys us vs e f g h = subst (λ t. AreTurns t ys vs) (sym e) (subst (λ a. AreTurns turn a vs) (sym f) (subst (AreTurns turn xs) (sym g) h))

pub fresh_as : (turn late : NodeId → ℕ) (xs ys : List (NodeId × Area)) (us vs stale : List ℕ) → late ≡ turn → ys ≡ xs → vs ≡ us → ((k : ℕ) → k < length ys → is_listed k stale ≡ false → is_fresh late ys vs k ≡ true)
    → (k : ℕ) → k < length xs → is_listed k stale ≡ false → is_fresh turn xs us k ≡ true
fresh_as turn late xs ys us vs stale e f g h k l n = (λ i. is_fresh (sym e i) (sym f i) (sym g i) k) ∙ h k (subst (λ a. k < length a) (sym f) l) n

pub within_as : (xs ys : List (NodeId × Area)) (stale : List ℕ) → ys ≡ xs → All (λ k. k < length ys) stale → All (λ k. k < length xs) stale
within_as xs ys stale f h = subst (λ (a : List (NodeId × Area)). All (λ k. k < length a) stale) f h

pub some_holds : {A : Type 0} (P : A → Type 0) (o : Option A) (x y : A) → o ≡ Some x → y ≡ x → IfSome o P → P y
some_holds P None x y e f h = absurd cc
some_holds P (Some z) x y e f h = let same : z ≡ x = cc in subst P (same ∙ sym f) h

pub past_wide : (b : BareTrees) (turn late : NodeId → ℕ) (n : NodeId) (w : KeptWide) (r : Result (Option PastWide) NoMemory) → late ≡ turn → HoldsTold b turn n w → IfOk r (λ past. IfSome past (IsPastOf late w)) → IfOk r (λ past. IfSome past (IsPastWide b n))
past_wide b turn late n w (Err e) f h g = tt
past_wide b turn late n w (Ok None) f h g = tt
past_wide b turn late n w (Ok (Some p)) f h g = wide_past b turn n w p h (subst (λ t. IsPastOf t w p) f g)

-- What the children of a grid tell for its columns, one after the other, and again.
use Rattle.std.proofs.Common.{add-one, ◌≡◌, ℕ, zero, suc, ◌+◌, ◌<◌, ◌≤◌, ◌∷◌, ◌++◌, [], List, Bool, true, length, map, drop, refl, sym, ap, ◌∙◌, subst, arith, length-append, ℤ, Some}
use Rattle.std.specs.Prelude.{◌==◌, ◌&&◌, All, get_or, slice_get, slice_set}
use Rattle.std.proofs.Math.Seq.{drop-cons}
use Rattle.std.proofs.lemmas.List.{drop_all}
use Rattle.layout_cache.proofs.Sames.{count_is, items_is}
use Rattle.lunit.specs.declared.geometry.Area.{Area}
use Rattle.lunit.specs.declared.item.Item.{Item}
use Rattle.node_arena.specs.declared.number.NodeId.{NodeId}
use Rattle.part_rules.specs.Lists.{joined, zipped}
use Rattle.placing.specs.Areas.{HasChildren, entries_at}
use Rattle.placing.specs.Bases.{HoldsPlaces, same_pairs}
use Rattle.placing.specs.Children.{IsTree}
use Rattle.placing.specs.Nodes.{BareTrees, children_at, kid_at, sight_at}
use Rattle.placing.specs.Seats.{context_at}
use Rattle.placing.specs.Told.{AllBut, AreColumns, AreTold, Each, IsPastColumns, TellsColumns, ends_from, entry_with}
use Rattle.placing.specs.declared.items.ChildArea.{ChildArea}
use Rattle.placing.specs.declared.told.PastColumns.{PastColumns}
use Rattle.placing.specs.declared.wide.GridBase.{GridBase}
use Rattle.placing.proofs.Entries.{HasKid, entries_counted, entries_told, places_alike}
use Rattle.placing.proofs.Tellings.{told_all, told_as, told_lists, told_none, told_push, told_set}
use Rattle.tree_rules.specs.Answers.{Kid, Pair}
use Rattle.tree_rules.specs.GridSizes.{Entry, column_items_of, inline_of_entry}
use Rattle.tree_rules.specs.declared.query.Given.{Given}
use Rattle.inline_sizes.specs.Grids.{AreAnswers, HaveTold, IsBase, IsLaid, items_seen, sizes_seen}
use Rattle.inline_sizes.proofs.Grids.{base_there}
use Rattle.inline_sizes.proofs.Held.{places_held}

-- ---- a child, as it is asked

some_same : {X : Type 0} (x y : X) → Some x ≡ Some y → x ≡ y
some_same x y e = cc

module _ (b d : BareTrees) (is : d ≡ b) (n : NodeId) (base : GridBase) (e : ChildArea) (k : ℕ) (there : slice_get base.placed.areas k ≡ Some (e.child, e.area)) where
  same_place : (c : NodeId) (a : Area) → slice_get base.placed.areas k ≡ Some (c, a) → ◌≡◌ {A = NodeId × Area} (e.child, e.area) (c, a)
  same_place c a h = some_same (e.child, e.area) (c, a) (sym there ∙ h)

  abbrev Tells : ℕ → ℤ × ℤ → List Item → Type 0
  Tells = TellsColumns (sight_at b n) (kid_at b) base

  tells_here : (sizes : ℤ × ℤ) → sizes ≡ sizes_seen d base e → Tells k sizes (items_seen b n base e)
  tells_here sizes value =
      record {
        sizes = λ c a h. value ∙ ap (λ z. sizes_seen z base e) is ∙ ap (λ (x : NodeId × Area). inline_of_entry base.pairs (entry_with (kid_at b x.0) x.1)) (same_place c a h);
        items = λ c a h. ap (λ (x : NodeId × Area). column_items_of (context_at (sight_at b n) base.pairs).columns base.pairs (entry_with (kid_at b x.0) x.1) (inline_of_entry base.pairs (entry_with (kid_at b x.0) x.1))) (same_place c a h);
      }

  -- after those before it
  pub told_then : (xs new_xs : List (ℤ × ℤ)) (made new_made : List Item) (ends new_ends : List ℕ) (sizes : ℤ × ℤ) (end : ℕ) → length xs ≡ k → AreTold Each Tells xs made ends → sizes ≡ sizes_seen d base e →
      new_made ≡ made ++ items_seen d n base e → new_xs ≡ xs ++ sizes ∷ [] → end ≡ length new_made → new_ends ≡ ends ++ end ∷ [] → AreTold Each Tells new_xs new_made new_ends
  told_then xs new_xs made new_made ends new_ends sizes end count told value grown pushed counted ended =
      let more : new_made ≡ made ++ items_seen b n base e = grown ∙ ap (λ z. made ++ items_seen z n base e) is in
      let here : Tells (length xs) sizes (items_seen b n base e) = subst (λ m. Tells m sizes (items_seen b n base e)) (sym count) (tells_here sizes value) in
      let ends_are : new_ends ≡ ends ++ length (made ++ items_seen b n base e) ∷ [] = ended ∙ ap (λ m. ends ++ m ∷ []) (counted ∙ ap length more) in
      subst (λ l. AreTold Each Tells l new_made new_ends) (sym pushed)
      (subst (λ l. AreTold Each Tells (xs ++ sizes ∷ []) l new_ends) (sym more)
      (subst (λ l. AreTold Each Tells (xs ++ sizes ∷ []) (made ++ items_seen b n base e) l) (sym ends_are) (told_push Tells xs made ends sizes (items_seen b n base e) told here)))

  -- in place of what it told
  pub told_again : (rest : List ℕ) (xs new_xs : List (ℤ × ℤ)) (made new_made : List Item) (ends new_ends : List ℕ) (sizes : ℤ × ℤ) (own : List Item) → k < length xs → AreTold (AllBut (k ∷ rest)) Tells xs made ends → sizes ≡ sizes_seen d base e →
      own ≡ items_seen d n base e →
      ((parts : List (List Item)) → made ≡ joined parts → ends ≡ ends_from 0 parts → new_made ≡ joined (slice_set parts k own)) →
      ((parts : List (List Item)) → made ≡ joined parts → ends ≡ ends_from 0 parts → new_ends ≡ ends_from 0 (slice_set parts k own)) →
      new_xs ≡ slice_set xs k sizes → AreTold (AllBut rest) Tells new_xs new_made new_ends
  told_again rest xs new_xs made new_made ends new_ends sizes own within told value items made_are ends_are set =
      let here : Tells k sizes own = subst (Tells k sizes) (sym (items ∙ ap (λ z. items_seen z n base e) is)) (tells_here sizes value) in
      subst (λ l. AreTold (AllBut rest) Tells l new_made new_ends) (sym set) (told_set Tells xs made ends k rest sizes own new_made new_ends told within here made_are ends_are)

-- ---- lists

length_set : {X : Type 0} (xs : List X) (k : ℕ) (x : X) → length (slice_set xs k x) ≡ length xs
length_set [] k x = refl
length_set (y ∷ xs) zero x = refl
length_set (y ∷ xs) (suc k) x = ap suc (length_set xs k x)

-- as many as before
pub counted_again : {X : Type 0} (xs new : List X) (k : ℕ) (x : X) (m : ℕ) → new ≡ slice_set xs k x → length xs ≡ m → length new ≡ m
counted_again xs new k x m set count = ap length set ∙ length_set xs k x ∙ count

-- the next of those that are asked again
pub next_stale : (stale : List ℕ) (i : ℕ) → i < length stale → drop i stale ≡ get_or stale i 0 ∷ drop (i + 1) stale
next_stale stale i h = rw add-one (drop-cons stale i 0 h)

-- ---- of all of them

module _ (b : BareTrees) (n : NodeId) (base : GridBase) where
  -- none is left to ask
  pub none_stale : (stale : List ℕ) (i : ℕ) (sizes : List (ℤ × ℤ)) (made : List Item) (ends : List ℕ) → length stale ≤ i → HaveTold b n base (AllBut (drop i stale)) sizes made ends → HaveTold b n base Each sizes made ends
  none_stale stale i sizes made ends h t =
      record {
        counted = t.counted;
        told = told_all (TellsColumns (sight_at b n) (kid_at b) base) sizes made ends (subst (λ l. AreTold (AllBut l) (TellsColumns (sight_at b n) (kid_at b) base) sizes made ends) (drop_all i stale h) t.told);
      }

  -- what they told is what they answer
  have_answers : IsTree b → HasChildren b n base.placed → (sizes : List (ℤ × ℤ)) (made : List Item) (ends : List ℕ) → HaveTold b n base Each sizes made ends → AreAnswers b n base sizes made
  have_answers tree children sizes made ends t =
      let lists =
      told_lists (TellsColumns (sight_at b n) (kid_at b) base) sizes made ends (entries_at b n base.placed) (inline_of_entry base.pairs) (λ (e : Entry). column_items_of (context_at (sight_at b n) base.pairs).columns base.pairs e (inline_of_entry base.pairs e))
      (t.counted ∙ sym (entries_counted b n base.placed children)) each t.told in
      record { inlines = lists.0; items = lists.1 ∙ ap joined (maps (entries_at b n base.placed)) }
    where
      maps : (entries : List Entry) →
          map (λ (e : Entry). column_items_of (context_at (sight_at b n) base.pairs).columns base.pairs e (inline_of_entry base.pairs e)) entries ≡ zipped (column_items_of (context_at (sight_at b n) base.pairs).columns base.pairs) entries (map (inline_of_entry base.pairs) entries)
      maps [] = refl
      maps (e ∷ rest) = ap (λ l. column_items_of (context_at (sight_at b n) base.pairs).columns base.pairs e (inline_of_entry base.pairs e) ∷ l) (maps rest)

      each : (k : ℕ) (e : Entry) (x : ℤ × ℤ) (p : List Item) → slice_get (entries_at b n base.placed) k ≡ Some e → TellsColumns (sight_at b n) (kid_at b) base k x p →
          (x ≡ inline_of_entry base.pairs e) × (p ≡ column_items_of (context_at (sight_at b n) base.pairs).columns base.pairs e (inline_of_entry base.pairs e))
      each k e x p there h =
          let kid : HasKid b n base.placed k e = entries_told b n base.placed k e tree children there in (
            h.sizes kid.child e.area kid.area ∙ ap (λ (z : Kid). inline_of_entry base.pairs (entry_with z e.area)) (sym kid.kid),
            h.items kid.child e.area kid.area ∙ ap (λ (z : Kid). column_items_of (context_at (sight_at b n) base.pairs).columns base.pairs (entry_with z e.area) (inline_of_entry base.pairs (entry_with z e.area))) (sym kid.kid),
          )

-- by another base with the same counts and the same areas
tells_as : (b : BareTrees) (n : NodeId) (p q : GridBase) → p.pairs ≡ q.pairs → p.placed ≡ q.placed → (k : ℕ) (x : ℤ × ℤ) (made : List Item) → TellsColumns (sight_at b n) (kid_at b) p k x made → TellsColumns (sight_at b n) (kid_at b) q k x made
tells_as b n p q pairs placed k x made h =
    record {
      sizes = λ c a there. h.sizes c a (ap (λ z. slice_get z.areas k) placed ∙ there) ∙ ap (λ (ps : List Pair). inline_of_entry ps (entry_with (kid_at b c) a)) pairs;
      items = λ c a there. h.items c a (ap (λ z. slice_get z.areas k) placed ∙ there)
          ∙ ap (λ (ps : List Pair). column_items_of (context_at (sight_at b n) ps).columns ps (entry_with (kid_at b c) a) (inline_of_entry ps (entry_with (kid_at b c) a))) pairs;
    }

-- what was told by the same counts
module _ (b : BareTrees) (n : NodeId) (past : PastColumns) (base : GridBase) (is : IsPastColumns b n past) (places : HoldsPlaces (sight_at b n) (children_at b n) base) (counts : List Pair) (counted : counts ≡ past.told.parts.base.pairs) (t : Bool)
    (same : t ≡ same_pairs counts base.pairs) (yes : t ≡ true) where
  pairs_same : past.told.parts.base.pairs ≡ base.pairs
  pairs_same = sym counted ∙ items_is (λ (x : Pair) (y : Pair). (x.0 == y.0) && (x.1 == y.1)) count_is counts base.pairs (sym same ∙ yes)

  placed_same : past.told.parts.base.placed ≡ base.placed
  placed_same = places_alike (sight_at b n) (children_at b n) past.told.parts.base base is.places places pairs_same

  pub past_stale : All (λ k. k < length base.placed.areas) past.stale
  past_stale = subst (λ p. All (λ k. k < length p.areas) past.stale) placed_same is.stale

  pub past_told : HaveTold b n base (AllBut past.stale) past.told.parts.inlines past.told.parts.items past.told.ends
  past_told =
      record {
        counted = is.told.counted ∙ ap (λ p. length p.areas) placed_same;
        told = told_as (AllBut past.stale) (TellsColumns (sight_at b n) (kid_at b) past.told.parts.base) (TellsColumns (sight_at b n) (kid_at b) base) past.told.parts.inlines past.told.parts.items past.told.ends is.told.told
            (tells_as b n past.told.parts.base base pairs_same placed_same);
      }

-- ---- of a grid of the tree that keeps it, as the code reads it there

module _ (b d : BareTrees) (same : d ≡ b) (n : NodeId) (outer : List Pair) (width : Given) (base read : GridBase) (is : read ≡ base) (h : IsBase b n outer width base) where
  pub places_there : HoldsPlaces (sight_at d n) (children_at d n) read
  places_there = places_held d n outer width read (base_there b d same n outer width base read is h)

  pub laid_there : IsLaid d n read
  laid_there = (base_there b d same n outer width base read is h).laid

  module _ (sizes : List (ℤ × ℤ)) (made : List Item) (ends : List ℕ) (t : HaveTold d n read Each sizes made ends) where
    told_here : HaveTold b n base Each sizes made ends
    told_here = subst (λ z. HaveTold z n base Each sizes made ends) same (subst (λ x. HaveTold d n x Each sizes made ends) is t)

    pub columns_there : AreColumns (sight_at b n) (kid_at b) Each (record { parts = record { base = base; inlines = sizes; items = made }; ends = ends })
    columns_there = record { counted = told_here.counted; told = told_here.told }

    pub answers_there : IsTree d → AreAnswers d n read sizes made
    answers_there tree = have_answers d n read tree laid_there.placed.children sizes made ends t

-- ---- before the first, and the count after one

pub told_empty : (T : ℕ → ℤ × ℤ → List Item → Type 0) (xs : List (ℤ × ℤ)) (made : List Item) (ends : List ℕ) → xs ≡ [] → made ≡ [] → ends ≡ [] → AreTold Each T xs made ends
told_empty T xs made ends x m e = subst (λ l. AreTold Each T l made ends) (sym x) (subst (λ l. AreTold Each T [] l ends) (sym m) (subst (λ l. AreTold Each T [] [] l) (sym e) (told_none T)))

pub counted_then : {X : Type 0} (xs new : List X) (x : X) (k m : ℕ) → new ≡ xs ++ x ∷ [] → length xs ≡ k → k < m → (length new ≡ k + 1) × (k + 1 ≤ m)
counted_then xs new x k m pushed count within = (omega (arith, ap length pushed, length-append xs (x ∷ []), count), omega (arith, within))

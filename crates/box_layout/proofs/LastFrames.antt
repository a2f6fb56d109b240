-- The frames that a grid gives its children are what its children tell, whatever else the grid is, and the other way round.
use Rattle.std.proofs.Common.{arith, refl, sym, ap, subst, ◌∙◌, ◌≡◌, ℕ, zero, suc, ◌+◌, ◌<◌, ◌≤◌, ℤ, Bool, List, [], ◌∷◌, length, map, Some, true, ◌⊎◌, inl, inr}
use Rattle.std.specs.Prelude.{get_or, slice_get, slice_set, IfOk, Result, Ok, Err}
use Rattle.std.proofs.lemmas.Bool.{cases_eq, cases_lt}
use Rattle.std.proofs.lemmas.Option.{slice_get-get_or, slice_get_within}
use Rattle.lunit.specs.declared.geometry.Area.{Area}
use Rattle.node_arena.specs.Numbers.{child_at}
use Rattle.node_arena.specs.declared.number.NodeId.{NodeId}
use Rattle.part_rules.specs.Lists.{zipped}
use Rattle.part_rules.specs.Placement.{no_area}
use Rattle.part_rules.specs.declared.view.View.{View}
use Rattle.placing.proofs.Entries.{entries_counted, entries_told, places_alike, HasKid}
use Rattle.placing.specs.Areas.{entries_at, placed_of}
use Rattle.placing.specs.Children.{IsTree}
use Rattle.placing.specs.Nodes.{BareTrees, children_at, kid_at, sight_at}
use Rattle.placing.specs.Told.{AreFrames, ArePastFrames, Each, Marked, TellsFrame, entry_with, inline_told, wide_told}
use Rattle.placing.specs.Turns.{turns}
use Rattle.placing.specs.declared.contexts.Placed.{Placed}
use Rattle.placing.specs.declared.node.Frame.{Frame as NodeFrame}
use Rattle.placing.specs.declared.told.PastFrames.{PastFrames}
use Rattle.placing.specs.declared.wide.GridBase.{GridBase}
use Rattle.placing.specs.declared.wide.GridWide.{GridWide}
use Rattle.tree_rules.specs.Answers.{Frame, Kid, Pair}
use Rattle.tree_rules.specs.Contexts as rules
use Rattle.tree_rules.specs.Frames.{Framed, grid_child}
use Rattle.tree_rules.specs.GridSizes.{Entry, Grid, Wide, from_first, inline_of_entry, pairs_for, shares_columns, wide_of}
use Rattle.tree_rules.specs.Places.{Seen}
use Rattle.tree_rules.specs.declared.query.Given.{Given}
use Rattle.inline_sizes.proofs.Held.{places_held}
use Rattle.inline_sizes.specs.GridsSeen.{grid_seen}
use Rattle.block_sizes.specs.Wides.{IsWide, columns_seen, wides_seen}
use Rattle.box_layout.specs.GridFrames.{AreAgain, AreFramesAt, IsFrameOf, IsLastOf, no_frame}

-- ---- lists

read_maps : {A B C : Type 0} (f : A → B) (g : B → C) (xs : List A) (k : ℕ) (x : A) (other : C) → slice_get xs k ≡ Some x → get_or (map g (map f xs)) k other ≡ g (f x)
read_maps f g [] k x other h = absurd cc
read_maps f g (y ∷ xs) zero x other h = let same : y ≡ x = cc in ap (λ z. g (f z)) same
read_maps f g (y ∷ xs) (suc k) x other h = read_maps f g xs k x other h

zipped_same : {A B C : Type 0} (f : A → B → C) (h : A → B) (xs : List A) → zipped f xs (map h xs) ≡ map (λ x. f x (h x)) xs
zipped_same f h [] = refl
zipped_same f h (x ∷ xs) = ap (λ l. f x (h x) ∷ l) (zipped_same f h xs)

some_same : {A : Type 0} (x y : A) → Some x ≡ Some y → x ≡ y
some_same x y h = cc

set_counted : {A : Type 0} (xs : List A) (k : ℕ) (x : A) → length (slice_set xs k x) ≡ length xs
set_counted [] k x = refl
set_counted (y ∷ xs) zero x = refl
set_counted (y ∷ xs) (suc k) x = ap suc (set_counted xs k x)

-- what is set is read there
set_here : {A : Type 0} (xs : List A) (k : ℕ) (x y : A) → slice_get (slice_set xs k x) k ≡ Some y → x ≡ y
set_here [] k x y h = absurd cc
set_here (z ∷ xs) zero x y h = some_same x y h
set_here (z ∷ xs) (suc k) x y h = set_here xs k x y h

-- what is set at one place leaves all other places as they were
set_there : {A : Type 0} (xs : List A) (k i : ℕ) (x : A) → (i ≡ k → ⊥) → slice_get (slice_set xs k x) i ≡ slice_get xs i
set_there [] k i x h = refl
set_there (z ∷ xs) zero zero x h = absurd (h refl)
set_there (z ∷ xs) zero (suc i) x h = refl
set_there (z ∷ xs) (suc k) zero x h = refl
set_there (z ∷ xs) (suc k) (suc i) x h = set_there xs k i x (λ e. h (ap suc e))

-- ---- frames at places

module _ (b : BareTrees) (n : NodeId) (framed : List (ℕ × Framed)) where
  frames_counted : (places : List (ℕ × ℤ)) (frames : List NodeFrame) → AreFramesAt b n framed places frames → length frames ≡ length places
  frames_counted [] [] h = refl
  frames_counted [] (f ∷ fs) h = absurd h
  frames_counted (p ∷ ps) [] h = absurd h
  frames_counted (p ∷ ps) (f ∷ fs) h = ap suc (frames_counted ps fs h.1)

  -- each is the one of its place
  each_at : (places : List (ℕ × ℤ)) (frames : List NodeFrame) (i : ℕ) (p : ℕ × ℤ) (f : NodeFrame) → AreFramesAt b n framed places frames → slice_get places i ≡ Some p → slice_get frames i ≡ Some f → IsFrameOf b n (get_or framed p.0 no_frame) f
  each_at [] [] i p f h x y = absurd cc
  each_at [] (g ∷ fs) i p f h x y = absurd h
  each_at (q ∷ ps) [] i p f h x y = absurd h
  each_at (q ∷ ps) (g ∷ fs) zero p f h x y =
      subst (IsFrameOf b n (get_or framed p.0 no_frame)) (some_same g f y) (subst (λ (z : ℕ × ℤ). IsFrameOf b n (get_or framed z.0 no_frame) g) (some_same q p x) h.0)
  each_at (q ∷ ps) (g ∷ fs) (suc i) p f h x y = each_at ps fs i p f h.1 x y

  -- the frames are all of these children, where each is the one of its place
  all_at : (places : List (ℕ × ℤ)) (frames : List NodeFrame) → length frames ≡ length places → ((i : ℕ) (p : ℕ × ℤ) (f : NodeFrame) → slice_get places i ≡ Some p → slice_get frames i ≡ Some f → IsFrameOf b n (get_or framed p.0 no_frame) f) → AreFramesAt b n framed places frames
  all_at [] [] c h = tt
  all_at [] (f ∷ fs) c h = absurd (omega (arith, c))
  all_at (p ∷ ps) [] c h = absurd (omega (arith, c))
  all_at (p ∷ ps) (f ∷ fs) c h = (h zero p f refl refl, all_at ps fs (omega (arith, c)) (λ i q g x y. h (suc i) q g x y))

  module _ (places : List (ℕ × ℤ)) (fresh : List Bool) (at : ℕ) (frames : List NodeFrame) (h : AreAgain b n framed places fresh at frames) (p : ℕ × ℤ) (here : slice_get places at ≡ Some p) where
    -- one that is marked stays
    pub again_kept : Marked fresh p.0 → AreAgain b n framed places fresh (at + 1) frames
    again_kept marked = record { counted = h.counted; each = λ i q f x y w. h.each i q f x y (by i q x w) }
      where
        old : (i : ℕ) (q : ℕ × ℤ) → slice_get places i ≡ Some q → i < at + 1 → (i < at) ⊎ (at ≤ i) → (i < at) ⊎ Marked fresh q.0
        old i q x l (inl less) = inl less
        old i q x l (inr least) =
            let e : at ≡ i = omega (arith, l, least) in
            inr (subst (λ (z : ℕ × ℤ). Marked fresh z.0) (some_same p q (sym here ∙ ap (slice_get places) e ∙ x)) marked)

        by : (i : ℕ) (q : ℕ × ℤ) → slice_get places i ≡ Some q → (i < at + 1) ⊎ Marked fresh q.0 → (i < at) ⊎ Marked fresh q.0
        by i q x (inl l) = old i q x l (cases_lt i at)
        by i q x (inr m) = inr m

    -- another is made again
    pub again_made : (new : NodeFrame) → IsFrameOf b n (get_or framed p.0 no_frame) new → AreAgain b n framed places fresh (at + 1) (slice_set frames at new)
    again_made new made = record { counted = set_counted frames at new ∙ h.counted; each = λ i q f x y w. by i q f x y w (cases_eq i at) }
      where
        less : (i : ℕ) → i < at + 1 → (i ≡ at → ⊥) → (i < at) ⊎ (at ≤ i) → i < at
        less i l other (inl below) = below
        less i l other (inr least) = let e : i ≡ at = omega (arith, l, least) in absurd (other e)

        before : (i : ℕ) (q : ℕ × ℤ) → (i < at + 1) ⊎ Marked fresh q.0 → (i ≡ at → ⊥) → (i < at) ⊎ Marked fresh q.0
        before i q (inl l) other = inl (less i l other (cases_lt i at))
        before i q (inr m) other = inr m

        by : (i : ℕ) (q : ℕ × ℤ) (f : NodeFrame) → slice_get places i ≡ Some q → slice_get (slice_set frames at new) i ≡ Some f → (i < at + 1) ⊎ Marked fresh q.0 → (i ≡ at) ⊎ (i ≡ at → ⊥) → IsFrameOf b n (get_or framed q.0 no_frame) f
        by i q f x y w (inl e) =
            subst (IsFrameOf b n (get_or framed q.0 no_frame)) (set_here frames at new f (ap (slice_get (slice_set frames at new)) (sym e) ∙ y))
            (subst (λ (z : ℕ × ℤ). IsFrameOf b n (get_or framed z.0 no_frame) new) (some_same p q (sym here ∙ ap (slice_get places) (sym e) ∙ x)) made)
        by i q f x y w (inr other) = h.each i q f x (sym (set_there frames at i new other) ∙ y) (before i q w other)

  -- at the end all are right
  pub again_end : (places : List (ℕ × ℤ)) (fresh : List Bool) (at : ℕ) (frames : List NodeFrame) → AreAgain b n framed places fresh at frames → length places ≤ at → AreFramesAt b n framed places frames
  again_end places fresh at frames h end = all_at places frames h.counted (λ i p f x y. h.each i p f x y (inl (omega (arith, end, slice_get_within places i p x))))

-- ---- what a grid and its children tell of a frame

-- It depends on these parts of the grid alone.
tells_by : (s : Seen) (kid : NodeId → Kid) (p q : GridBase) → p.pairs ≡ q.pairs → p.placed ≡ q.placed → (columns over : View 0) → columns ≡ over → (rows across : View 1) → rows ≡ across → (k : ℕ) (f : NodeFrame) → TellsFrame s kid p columns rows k f → TellsFrame s kid q over across k f
tells_by s kid p q pairs placed columns over v rows across w k f h =
    let there : TellsFrame s kid (record p { pairs = q.pairs; placed = q.placed }) over across k f = subst (λ (l : Placed). TellsFrame s kid (record p { pairs = q.pairs; placed = l }) over across k f) placed
    (subst (λ (l : List Pair). TellsFrame s kid (record p { pairs = l }) over across k f) pairs (subst (λ (z : View 1). TellsFrame s kid p over z k f) w (subst (λ (z : View 0). TellsFrame s kid p z rows k f) v h))) in
    record { child = there.child; frame = λ c a at. record { same = (there.frame c a at).same } }

frames_by : (s : Seen) (kid : NodeId → Kid) (p q : GridBase) → p.pairs ≡ q.pairs → p.placed ≡ q.placed → (columns over : View 0) → columns ≡ over → (rows across : View 1) → rows ≡ across → (Counts : ℕ → Type 0) (frames : List NodeFrame) → AreFrames s kid p columns rows Counts frames
    → AreFrames s kid q over across Counts frames
frames_by s kid p q pairs placed columns over v rows across w Counts frames h =
    record {
      counted = h.counted ∙ ap (λ (z : Placed). length (turns z.numbers)) placed;
      each = λ i k m f x y count. tells_by s kid p q pairs placed columns over v rows across w k f (h.each i k m f (ap (λ (z : Placed). slice_get (turns z.numbers) i) placed ∙ x) y count);
    }

-- The child of an index, with its entry.
record IsAt (b : BareTrees) (n : NodeId) (p : Placed) (k : ℕ) (c : NodeId) (a : Area) : Type 0 where
  entry : Entry
  there : slice_get (entries_at b n p) k ≡ Some entry
  number : child_at b n entry.number ≡ Some c
  kid : entry.kid ≡ kid_at b c
  area : entry.area ≡ a

module _ (b : BareTrees) (n : NodeId) (outer : List Pair) (width : Given) (wide : GridWide) (is : IsWide b n outer width wide) where
  -- what it gave its children last in these columns and rows
  pub last_in : (rows : View 1) (p : PastFrames) → ArePastFrames b n p → p.base.pairs ≡ wide.parts.base.pairs → p.columns ≡ wide.columns → p.rows ≡ rows → IsLastOf b n wide.parts.base wide.columns rows p
  last_in rows p past pairs v w =
      let placed : p.base.placed ≡ wide.parts.base.placed = places_alike (sight_at b n) (children_at b n) p.base wide.parts.base past.places (places_held b n outer width wide.parts.base is.grid.base) pairs in
      record {
        counted = past.counted ∙ ap (λ (z : Placed). length z.areas) placed;
        frames = frames_by (sight_at b n) (kid_at b) p.base wide.parts.base pairs placed p.columns wide.columns v p.rows rows w (Marked p.fresh) p.frames past.frames;
      }

  -- a child of the definitions, by its entry
  wide_at : Entry → Wide
  wide_at e = wide_of (grid_seen b n outer width) (columns_seen b n outer width) e (inline_of_entry wide.parts.base.pairs e)

  inlines_are : (grid_seen b n outer width).inlines ≡ map (inline_of_entry wide.parts.base.pairs) (entries_at b n wide.parts.base.placed)
  unfolding grid_seen
  inlines_are = λ i. map (inline_of_entry (sym is.grid.pairs i)) (sym is.grid.entries i)

  wides_are : wides_seen b n outer width ≡ map wide_at (entries_at b n wide.parts.base.placed)
  unfolding wides_seen wide_at
  wides_are =
      (λ i. zipped (wide_of (grid_seen b n outer width) (columns_seen b n outer width)) (sym is.grid.entries i) (inlines_are i))
      ∙ zipped_same (wide_of (grid_seen b n outer width) (columns_seen b n outer width)) (inline_of_entry wide.parts.base.pairs) (entries_at b n wide.parts.base.placed)

  placed_is : placed_of wide.parts.base.placed ≡ (grid_seen b n outer width).placed
  unfolding grid_seen
  placed_is = is.grid.placed.placed

  label_is : (grid_seen b n outer width).label ≡ (sight_at b n).label
  unfolding grid_seen sight_at
  label_is = refl

  columns_are : wide.parts.base.placed.columns ≡ (grid_seen b n outer width).placed.columns
  columns_are = ap (λ (p : rules.Placed). p.columns) placed_is

  entry_at : IsTree b → (k : ℕ) (c : NodeId) (a : Area) → slice_get wide.parts.base.placed.areas k ≡ Some (c, a) → IsAt b n wide.parts.base.placed k c a
  entry_at whole k c a h =
      record {
        entry = e;
        there = there;
        number = own.number ∙ ap (λ (z : NodeId × Area). Some z.0) same;
        kid = own.kid ∙ ap (λ (z : NodeId × Area). kid_at b z.0) same;
        area = ap (λ (z : NodeId × Area). z.1) same;
      }
    where
      e : Entry
      e = get_or (entries_at b n wide.parts.base.placed) k (entry_with (kid_at b c) a)

      there : slice_get (entries_at b n wide.parts.base.placed) k ≡ Some e
      there = slice_get-get_or (entries_at b n wide.parts.base.placed) k (entry_with (kid_at b c) a) (omega (arith, slice_get_within wide.parts.base.placed.areas k (c, a) h, entries_counted b n wide.parts.base.placed is.grid.placed.children))

      own : HasKid b n wide.parts.base.placed k e
      own = entries_told b n wide.parts.base.placed k e whole is.grid.placed.children there

      pair : NodeId → Area → NodeId × Area
      pair d z = (d, z)

      same : pair own.child e.area ≡ pair c a
      same = some_same (pair own.child e.area) (pair c a) (sym own.area ∙ h)

  module _ (rows : View 1) where
    abbrev framed : List (ℕ × Framed)
    framed = map (grid_child (grid_seen b n outer width) (columns_seen b n outer width) rows) (wides_seen b n outer width)

    read_framed : (k : ℕ) (e : Entry) → slice_get (entries_at b n wide.parts.base.placed) k ≡ Some e → get_or framed k no_frame ≡ grid_child (grid_seen b n outer width) (columns_seen b n outer width) rows (wide_at e)
    read_framed k e h =
        ap (λ (l : List Wide). get_or (map (grid_child (grid_seen b n outer width) (columns_seen b n outer width) rows) l) k no_frame) wides_are
        ∙ read_maps wide_at (grid_child (grid_seen b n outer width) (columns_seen b n outer width) rows) (entries_at b n wide.parts.base.placed) k e no_frame h

    number_is : (e : Entry) → (grid_child (grid_seen b n outer width) (columns_seen b n outer width) rows (wide_at e)).0 ≡ e.number
    unfolding wide_at
    number_is e = refl

    -- the frame of a child, as a grid of these values and areas tells it
    frame_with : Grid → NodeId → Area → Frame
    frame_with g c a = (grid_child g wide.columns rows (wide_told (kid_at b c) a wide.parts.base wide.columns (sight_at b n).label.content.inline.items)).1.frame

    -- is that of the definitions, which reads the number of the child nowhere
    frame_same : (g : Grid) (e : Entry) (c : NodeId) → g.label ≡ (sight_at b n).label → g.placed ≡ placed_of wide.parts.base.placed → e.kid ≡ kid_at b c → frame_with g c e.area ≡ (grid_child (grid_seen b n outer width) (columns_seen b n outer width) rows (wide_at e)).1.frame
    unfolding frame_with wide_at grid_seen
    frame_same g e c label placed kid = λ i.
        let inline : ℤ × Given = inline_told (sight_at b n).label.content.inline.items (is.columns i) (from_first (columns_are i) e.area.columns) (sym kid i).label (shares_columns (sym kid i)) (inline_of_entry wide.parts.base.pairs (record e { kid = sym kid i })) in
        (grid_child (record g { label = label i; placed = (placed ∙ placed_is) i }) (is.columns i) rows (record { entry = record e { kid = sym kid i }; box = inline.0; inline = inline.1; down = (sym kid i).answers.down (pairs_for (sym kid i) (is.grid.pairs i)) inline.1 })).1.frame

    value_is : (g : Grid) (k : ℕ) (c : NodeId) (a : Area) → IsAt b n wide.parts.base.placed k c a → g.label ≡ (sight_at b n).label → g.placed ≡ placed_of wide.parts.base.placed → (get_or framed k no_frame).1.frame ≡ frame_with g c a
    value_is g k c a own label placed =
        ap (λ (z : ℕ × Framed). z.1.frame) (read_framed k own.entry own.there) ∙ sym (frame_same g own.entry c label placed own.kid) ∙ ap (frame_with g c) own.area

    child_is : (k : ℕ) (c : NodeId) (a : Area) → IsAt b n wide.parts.base.placed k c a → child_at b n (get_or framed k no_frame).0 ≡ Some c
    child_is k c a own = ap (λ (z : ℕ × Framed). child_at b n z.0) (read_framed k own.entry own.there) ∙ ap (child_at b n) (number_is own.entry) ∙ own.number

    module _ (whole : IsTree b) where
      -- a frame of the definitions is told
      tells : (k : ℕ) (f : NodeFrame) → IsFrameOf b n (get_or framed k no_frame) f → TellsFrame (sight_at b n) (kid_at b) wide.parts.base wide.columns rows k f
      unfolding frame_with
      tells k f h =
          record {
            child = λ c a there. some_same f.child c (sym h.child ∙ child_is k c a (entry_at whole k c a there));
            frame = λ c a there. record { same = λ g label placed. h.value ∙ value_is g k c a (entry_at whole k c a there) label placed };
          }

      -- a frame that is told is one of the definitions
      told : (k : ℕ) (f : NodeFrame) → k < length wide.parts.base.placed.areas → TellsFrame (sight_at b n) (kid_at b) wide.parts.base wide.columns rows k f → IsFrameOf b n (get_or framed k no_frame) f
      unfolding frame_with
      told k f within t =
          record {
            child = child_is k own.0 own.1 at ∙ ap Some (sym (t.child own.0 own.1 there));
            value = (t.frame own.0 own.1 there).same (grid_seen b n outer width) label_is (sym placed_is) ∙ sym (value_is (grid_seen b n outer width) k own.0 own.1 at label_is (sym placed_is));
          }
        where
          own : NodeId × Area
          own = get_or wide.parts.base.placed.areas k (n, no_area)

          there : slice_get wide.parts.base.placed.areas k ≡ Some (own.0, own.1)
          there = slice_get-get_or wide.parts.base.placed.areas k (n, no_area) within

          at : IsAt b n wide.parts.base.placed k own.0 own.1
          at = entry_at whole k own.0 own.1 there

      -- all of them
      frames_told : (frames : List NodeFrame) → AreFramesAt b n framed (turns wide.parts.base.placed.numbers) frames → AreFrames (sight_at b n) (kid_at b) wide.parts.base wide.columns rows Each frames
      frames_told frames h =
          record {
            counted = frames_counted b n framed (turns wide.parts.base.placed.numbers) frames h;
            each = λ i k m f x y count. tells k f (each_at b n framed (turns wide.parts.base.placed.numbers) frames i (k, m) f h x y);
          }

      pub told_ok : {E : Type 0} (r : Result (List NodeFrame) E) (places : List (ℕ × ℤ)) → places ≡ turns wide.parts.base.placed.numbers → IfOk r (AreFramesAt b n framed places) → IfOk r (AreFrames (sight_at b n) (kid_at b) wide.parts.base wide.columns rows Each)
      told_ok (Ok frames) places e h = frames_told frames (subst (λ (l : List (ℕ × ℤ)). AreFramesAt b n framed l frames) e h)
      told_ok (Err x) places e h = tt

      -- those that are marked hold before any is made again
      pub again_start : (fresh : List Bool) (frames : List NodeFrame) (places : List (ℕ × ℤ)) → places ≡ turns wide.parts.base.placed.numbers → length fresh ≡ length wide.parts.base.placed.areas
          → AreFrames (sight_at b n) (kid_at b) wide.parts.base wide.columns rows (Marked fresh) frames → AreAgain b n framed places fresh 0 frames
      again_start fresh frames places e counted last =
          subst (λ (l : List (ℕ × ℤ)). AreAgain b n framed l fresh 0 frames) (sym e) (record { counted = last.counted; each = each })
        where
          each : (i : ℕ) (q : ℕ × ℤ) (f : NodeFrame) → slice_get (turns wide.parts.base.placed.numbers) i ≡ Some q → slice_get frames i ≡ Some f → (i < 0) ⊎ Marked fresh q.0 → IsFrameOf b n (get_or framed q.0 no_frame) f
          each i q f x y (inl l) = absurd (omega (arith, l))
          each i q f x y (inr m) = told q.0 f (omega (arith, slice_get_within fresh q.0 true m, counted)) (last.each i q.0 q.1 f x y m)

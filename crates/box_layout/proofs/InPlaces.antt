-- Frames of the children at some places, and back in document order.
use Rattle.std.proofs.Common.{arith, refl, sym, ap, subst, ◌∙◌, ◌≡◌, ℕ, zero, suc, ◌+◌, ◌^◌, ◌<◌, ◌≤◌, ℤ, pos, List, [], ◌∷◌, ◌++◌, drop, take, length, map, Option, Some}
use Rattle.std.specs.Prelude.{All, get_or, IfOk, Result, Ok, Err}
use Rattle.std.proofs.lemmas.List.{drop_all, length-map, take_more}
use Rattle.node_arena.specs.Numbers.{child_at}
use Rattle.node_arena.specs.declared.number.NodeId.{NodeId}
use Rattle.part_rules.specs.declared.view.View.{View}
use Rattle.part_rules.specs.Lists.{zipped}
use Rattle.tree_rules.proofs.Sorted.{back_in_order, number_of}
use Rattle.tree_rules.specs.Answers.{Kid, Pair}
use Rattle.tree_rules.specs.Frames.{Framed, grid_child}
use Rattle.tree_rules.specs.GridSizes.{Entry, Wide, entry_of, wide_of}
use Rattle.tree_rules.specs.Orders.{in_document_order, in_order, numbered_from, sorted_by}
use Rattle.tree_rules.specs.declared.query.Given.{Given}
use Rattle.placing.proofs.Each.{Each}
use Rattle.placing.proofs.Entries.{counts}
use Rattle.placing.proofs.Numbers.{each_sorted, map_sorted, numbers_of_items, within_order}
use Rattle.placing.specs.Areas.{HasChildren, entries_at, numbered_area, orders_at, placed_of}
use Rattle.placing.specs.Children.{IsTree}
use Rattle.placing.specs.Kept.{frame_of}
use Rattle.placing.specs.Nodes.{BareTrees, children_at, kids_at}
use Rattle.placing.specs.declared.contexts.Placed.{Placed}
use Rattle.placing.specs.declared.node.Frame.{Frame as NodeFrame}
use Rattle.inline_sizes.specs.GridsSeen.{grid_seen}
use Rattle.block_sizes.specs.Wides.{IsWide, columns_seen, wides_seen}
use Rattle.placing.specs.declared.wide.GridWide.{GridWide}
use Rattle.box_layout.specs.GridFrames.{AreFramesAt, AreIndices, IsFrameOf, no_frame}
use Rattle.placing.specs.Turns.{pairs_from, turns}
use Rattle.box_layout.proofs.Backward.{read_in_order}
use Rattle.box_layout.proofs.ChildFrames.{zipped_length}

-- ---- lists

map_twice : {A B C : Type 0} (f : A → B) (g : B → C) (xs : List A) → map g (map f xs) ≡ map (λ x. g (f x)) xs
map_twice f g [] = refl
map_twice f g (x ∷ xs) = ap (λ l. g (f x) ∷ l) (map_twice f g xs)

map_same : {A B : Type 0} (f g : A → B) → ((x : A) → f x ≡ g x) → (xs : List A) → map f xs ≡ map g xs
map_same f g h [] = refl
map_same f g h (x ∷ xs) = λ i. h x i ∷ map_same f g h xs i

get_map : {A B : Type 0} (f : A → B) (xs : List A) (k : ℕ) (d : A) → f (get_or xs k d) ≡ get_or (map f xs) k (f d)
get_map f [] zero d = refl
get_map f [] (suc k) d = refl
get_map f (x ∷ xs) zero d = refl
get_map f (x ∷ xs) (suc k) d = get_map f xs k d

zipped_map : {A B C D : Type 0} (f : A → B → C) (g : C → D) (h : A → D) → ((x : A) (y : B) → g (f x y) ≡ h x) → (xs : List A) (ys : List B) → length xs ≤ length ys → map g (zipped f xs ys) ≡ map h xs
zipped_map f g h same [] ys l = refl
zipped_map f g h same (x ∷ xs) [] l = absurd (omega (arith, l))
zipped_map f g h same (x ∷ xs) (y ∷ ys) l = λ i. same x y i ∷ zipped_map f g h same xs ys (omega (arith, l)) i

-- ---- places

pub index_at : (count : ℕ) (places : List (ℕ × ℤ)) (k : ℕ) (p : ℕ × ℤ) → AreIndices count places → k < length places → p ≡ get_or places k p → p.0 < count
index_at count [] k p h l e = absurd (omega (arith, l))
index_at count (x ∷ xs) zero p h l e = subst (λ (z : ℕ × ℤ). z.0 < count) (sym e) h.0
index_at count (x ∷ xs) (suc k) p h l e = index_at count xs k p h.1 (omega (arith, l)) e

-- an item that is there is read whatever would stand for none
pub read_again : (places : List (ℕ × ℤ)) (k : ℕ) (d e : ℕ × ℤ) → k < length places → get_or places k d ≡ get_or places k e
read_again [] k d e l = absurd (omega (arith, l))
read_again (x ∷ xs) zero d e l = refl
read_again (x ∷ xs) (suc k) d e l = read_again xs k d e (omega (arith, l))

indices : (count : ℕ) (places : List (ℕ × ℤ)) → Each (λ (p : ℕ × ℤ). p.0 < count) places → AreIndices count places
indices count [] h = tt
indices count (p ∷ ps) h = (h.0, indices count ps h.1)

pairs_within : (count at : ℕ) (numbers : List ℕ) → at + length numbers ≤ count → Each (λ (p : ℕ × ℤ). p.0 < count) (pairs_from at numbers)
pairs_within count at [] h = tt
pairs_within count at (n ∷ ns) h = (omega (arith, h), pairs_within count (at + 1) ns (omega (arith, h)))

pub turns_within : (count : ℕ) (numbers : List ℕ) → length numbers ≤ count → AreIndices count (turns numbers)
turns_within count numbers h =
    indices count (turns numbers) (each_sorted (λ (e : ℕ × ℤ). e.1) (λ (p : ℕ × ℤ). p.0 < count) (pairs_from 0 numbers) (pairs_within count 0 numbers (omega (arith, h))))

-- the numbers of children are small
pub numbers_small : (b : BareTrees) (n : NodeId) (p : Placed) (numbers : List ℕ) → HasChildren b n p → numbers ≡ p.numbers → length (kids_at b n) ≤ 65536 → All (λ m. m < 2 ^ 32) numbers
numbers_small b n p numbers named same few = λ k d l.
    let w : get_or numbers k d < length (orders_at b n) = within_order (orders_at b n) numbers (same ∙ named.numbers) k d l in
    omega (arith, w, few, length-map (kids_at b n) (λ (x : Kid). x.label.grid.order))

-- ---- one frame more

frames_push : (b : BareTrees) (n : NodeId) (framed : List (ℕ × Framed)) (places : List (ℕ × ℤ)) (frames : List NodeFrame) (p : ℕ × ℤ) (f : NodeFrame) → AreFramesAt b n framed places frames → IsFrameOf b n (get_or framed p.0 no_frame) f → AreFramesAt b n framed (places ++ p ∷ []) (frames ++ f ∷ [])
frames_push b n framed [] [] p f h new = (new, tt)
frames_push b n framed [] (x ∷ xs) p f h new = absurd h
frames_push b n framed (q ∷ qs) [] p f h new = absurd h
frames_push b n framed (q ∷ qs) (x ∷ xs) p f h new = (h.0, frames_push b n framed qs xs p f h.1 new)

pub frames_next : (b : BareTrees) (n : NodeId) (framed : List (ℕ × Framed)) (places : List (ℕ × ℤ)) (k : ℕ) (p : ℕ × ℤ) (f : NodeFrame) (old new : List NodeFrame) → k < length places → p ≡ get_or places k p → new ≡ old ++ f ∷ []
    → IsFrameOf b n (get_or framed p.0 no_frame) f → AreFramesAt b n framed (take k places) old → AreFramesAt b n framed (take (k + 1) places) new
frames_next b n framed places k p f old new l is grown value so_far =
    subst (AreFramesAt b n framed (take (k + 1) places)) (sym grown)
    (subst (λ (z : List (ℕ × ℤ)). AreFramesAt b n framed z (old ++ f ∷ [])) (sym (take_more places k p l ∙ ap (λ (z : ℕ × ℤ). take k places ++ z ∷ []) (sym is)))
    (frames_push b n framed (take k places) old p f so_far value))

-- ---- all frames

frames_value : (b : BareTrees) (n : NodeId) (framed : List (ℕ × Framed)) (places : List (ℕ × ℤ)) (frames : List NodeFrame) → AreFramesAt b n framed places frames → map frame_of frames ≡ map (λ (p : ℕ × ℤ). (get_or framed p.0 no_frame).1.frame) places
frames_value b n framed [] [] h = refl
frames_value b n framed [] (f ∷ fs) h = absurd h
frames_value b n framed (p ∷ ps) [] h = absurd h
frames_value b n framed (p ∷ ps) (f ∷ fs) h = λ i. h.0.value i ∷ frames_value b n framed ps fs h.1 i

frames_named : (b : BareTrees) (n : NodeId) (framed : List (ℕ × Framed)) (places : List (ℕ × ℤ)) (frames : List NodeFrame) → AreFramesAt b n framed places frames
    → map (λ (f : NodeFrame). Some f.child) frames ≡ map (λ (p : ℕ × ℤ). child_at b n (get_or framed p.0 no_frame).0) places
frames_named b n framed [] [] h = refl
frames_named b n framed [] (f ∷ fs) h = absurd h
frames_named b n framed (p ∷ ps) [] h = absurd h
frames_named b n framed (p ∷ ps) (f ∷ fs) h = λ i. sym h.0.child i ∷ frames_named b n framed ps fs h.1 i

-- ---- the numbers of the children are those of the areas

kids_counted : (b : BareTrees) (n : NodeId) (p : Placed) → HasChildren b n p → length (in_order (λ (k : Kid). k.label.grid.order) (kids_at b n)) ≡ length p.numbers
kids_counted b n p named =
    sym (length-map (in_order (λ (k : Kid). k.label.grid.order) (kids_at b n)) (λ (e : ℕ × Kid). e.0))
    ∙ ap length (sym (numbers_of_items (λ (k : Kid). k.label.grid.order) (kids_at b n)) ∙ sym named.numbers)

entry_numbers : (b : BareTrees) (n : NodeId) (p : Placed) → HasChildren b n p → map (λ (e : Entry). e.number) (entries_at b n p) ≡ p.numbers
entry_numbers b n p named =
    zipped_map entry_of (λ (e : Entry). e.number) (λ (k : ℕ × Kid). k.0) (λ x y. refl) (in_order (λ (k : Kid). k.label.grid.order) (kids_at b n)) (placed_of p).areas
    (omega (arith, kids_counted b n p named, zipped_length numbered_area p.numbers p.areas (sym (counts b n p named))))
    ∙ sym (numbers_of_items (λ (k : Kid). k.label.grid.order) (kids_at b n)) ∙ sym named.numbers

module _ (b : BareTrees) (n : NodeId) (outer : List Pair) (width : Given) (wide : GridWide) (is : IsWide b n outer width wide) where
  abbrev wides : List Wide
  wides = wides_seen b n outer width

  abbrev num : Wide → ℕ
  num w = w.entry.number

  same_count : length (grid_seen b n outer width).inlines ≡ length (grid_seen b n outer width).entries
  unfolding grid_seen
  same_count = length-map (grid_seen b n outer width).entries _

  enough : length (grid_seen b n outer width).entries ≤ length (grid_seen b n outer width).inlines
  enough = omega (arith, same_count)

  wide_entries : map (λ (w : Wide). w.entry) (wides_seen b n outer width) ≡ (grid_seen b n outer width).entries
  unfolding wides_seen
  wide_entries =
      zipped_map (wide_of (grid_seen b n outer width) (columns_seen b n outer width)) (λ (w : Wide). w.entry) (λ (e : Entry). e) (λ x y. refl) (grid_seen b n outer width).entries (grid_seen b n outer width).inlines enough
      ∙ same (grid_seen b n outer width).entries
    where
      same : (es : List Entry) → map (λ (e : Entry). e) es ≡ es
      same [] = refl
      same (e ∷ es) = ap (λ l. e ∷ l) (same es)

  numbers_are : map num wides ≡ wide.parts.base.placed.numbers
  numbers_are =
      sym (map_twice (λ (w : Wide). w.entry) (λ (e : Entry). e.number) wides)
      ∙ ap (map (λ (e : Entry). e.number)) (wide_entries ∙ sym is.grid.entries)
      ∙ entry_numbers b n wide.parts.base.placed is.grid.placed.children

  module _ (rows : View 1) where
    abbrev made : Wide → Framed
    made w = (grid_child (grid_seen b n outer width) (columns_seen b n outer width) rows w).1

    abbrev framed : List (ℕ × Framed)
    framed = map (grid_child (grid_seen b n outer width) (columns_seen b n outer width) rows) (wides_seen b n outer width)

    by_place : (p : ℕ × ℤ) → (get_or framed p.0 no_frame).1.frame ≡ (get_or (map made wides) p.0 no_frame.1).frame
    by_place p =
        ap (λ (z : Framed). z.frame) (get_map (λ (x : ℕ × Framed). x.1) framed p.0 no_frame ∙ ap (λ (l : List Framed). get_or l p.0 no_frame.1) (map_twice (grid_child (grid_seen b n outer width) (columns_seen b n outer width) rows) (λ (x : ℕ × Framed). x.1) wides))

    -- back in document order
    frames_in_order : (places : List (ℕ × ℤ)) (frames : List NodeFrame) → places ≡ turns wide.parts.base.placed.numbers → AreFramesAt b n framed places frames
        → map frame_of frames ≡ map (λ (f : Framed). f.frame) (in_document_order framed)
    frames_in_order places frames e h =
        frames_value b n framed places frames h
        ∙ map_same (λ (p : ℕ × ℤ). (get_or framed p.0 no_frame).1.frame) (λ (p : ℕ × ℤ). (get_or (map made wides) p.0 no_frame.1).frame) by_place places
        ∙ ap (map (λ (p : ℕ × ℤ). (get_or (map made wides) p.0 no_frame.1).frame)) (e ∙ ap turns (sym numbers_are))
        ∙ sym (map_twice (λ (p : ℕ × ℤ). get_or (map made wides) p.0 no_frame.1) (λ (f : Framed). f.frame) (turns (map num wides)))
        ∙ ap (map (λ (f : Framed). f.frame)) (sym (read_in_order num made no_frame.1 wides))

    by_number : (p : ℕ × ℤ) → child_at b n (get_or framed p.0 no_frame).0 ≡ get_or (map (child_at b n) wide.parts.base.placed.numbers) p.0 (child_at b n no_frame.0)
    by_number p =
        get_map (λ (x : ℕ × Framed). child_at b n x.0) framed p.0 no_frame
        ∙ ap (λ (l : List (Option NodeId)). get_or l p.0 (child_at b n no_frame.0))
        (map_twice (grid_child (grid_seen b n outer width) (columns_seen b n outer width) rows) (λ (x : ℕ × Framed). child_at b n x.0) wides ∙ sym (map_twice num (child_at b n) wides) ∙ ap (map (child_at b n)) numbers_are)

    some_in_order : (places : List (ℕ × ℤ)) (frames : List NodeFrame) → places ≡ turns wide.parts.base.placed.numbers → AreFramesAt b n framed places frames
        → map (λ (f : NodeFrame). Some f.child) frames ≡ in_document_order (map (λ (m : ℕ). (m, child_at b n m)) wide.parts.base.placed.numbers)
    some_in_order places frames e h =
        frames_named b n framed places frames h
        ∙ map_same (λ (p : ℕ × ℤ). child_at b n (get_or framed p.0 no_frame).0) (λ (p : ℕ × ℤ). get_or (map (child_at b n) wide.parts.base.placed.numbers) p.0 (child_at b n no_frame.0)) by_number places
        ∙ ap (map (λ (p : ℕ × ℤ). get_or (map (child_at b n) wide.parts.base.placed.numbers) p.0 (child_at b n no_frame.0))) (e ∙ ap turns (sym (same wide.parts.base.placed.numbers)))
        ∙ sym (read_in_order (λ (m : ℕ). m) (child_at b n) (child_at b n no_frame.0) wide.parts.base.placed.numbers)
      where
        same : (ns : List ℕ) → map (λ (m : ℕ). m) ns ≡ ns
        same [] = refl
        same (m ∷ ns) = ap (λ l. m ∷ l) (same ns)

    -- the children of these numbers are all children, in document order
    numbered_children : map (λ (e : ℕ × Kid). child_at b n e.0) (numbered_from 0 (kids_at b n)) ≡ in_document_order (map (λ (m : ℕ). (m, child_at b n m)) wide.parts.base.placed.numbers)
    numbered_children =
        ap (map (λ (e : ℕ × Kid). child_at b n e.0)) (sym (back_in_order (λ (k : Kid). k.label.grid.order) (kids_at b n)))
        ∙ sym (map_twice (λ (e : ℕ × Kid). (e.0, child_at b n e.0)) (λ (e : ℕ × Option NodeId). e.1) (sorted_by (number_of {A = Kid}) (in_order (λ (k : Kid). k.label.grid.order) (kids_at b n))))
        ∙ ap (map (λ (e : ℕ × Option NodeId). e.1)) (sym (map_sorted (λ (e : ℕ × Kid). (e.0, child_at b n e.0)) (number_of {A = Kid}) (λ (e : ℕ × Option NodeId). pos e.0) (λ x. refl) (in_order (λ (k : Kid). k.label.grid.order) (kids_at b n))))
        ∙ ap (in_document_order {A = Option NodeId})
        (sym (map_twice (λ (e : ℕ × Kid). e.0) (λ (m : ℕ). (m, child_at b n m)) (in_order (λ (k : Kid). k.label.grid.order) (kids_at b n)))
        ∙ ap (map (λ (m : ℕ). (m, child_at b n m))) (sym (numbers_of_items (λ (k : Kid). k.label.grid.order) (kids_at b n)) ∙ sym is.grid.placed.children.numbers))

    children_from : {A : Type 0} → IsTree b → (xs : List A) (frames : List NodeFrame) (k : ℕ) → map (λ (f : NodeFrame). Some f.child) frames ≡ map (λ (e : ℕ × A). child_at b n e.0) (numbered_from k xs) → k + length xs ≡ length (children_at b n) →
        map (λ (f : NodeFrame). f.child) frames ≡ drop k (children_at b n)
    children_from tree [] [] k h l = sym (drop_all k (children_at b n) (omega (arith, l)))
    children_from tree [] (f ∷ fs) k h l = absurd cc
    children_from tree (x ∷ xs) [] k h l = absurd cc
    children_from {A} tree (x ∷ xs) (f ∷ fs) k h l =
        let here : child_at b n k ≡ Some f.child = cc in
        let later : map (λ (f : NodeFrame). Some f.child) fs ≡ map (λ (e : ℕ × A). child_at b n e.0) (numbered_from (k + 1) xs) = cc in
        ap (λ l. f.child ∷ l) (children_from tree xs fs (k + 1) later (omega (arith, l))) ∙ sym (tree.next n f.child k here).children

    children_in_order : IsTree b → length (kids_at b n) ≡ length (children_at b n) → (places : List (ℕ × ℤ)) (frames : List NodeFrame) → places ≡ turns wide.parts.base.placed.numbers → AreFramesAt b n framed places frames
        → map (λ (f : NodeFrame). f.child) frames ≡ children_at b n
    children_in_order tree counted places frames e h = children_from tree (kids_at b n) frames 0 (some_in_order places frames e h ∙ sym numbered_children) (omega (arith, counted))

    -- what a call answers
    pub value_ok : {E : Type 0} (r : Result (List NodeFrame) E) (places : List (ℕ × ℤ)) → places ≡ turns wide.parts.base.placed.numbers → IfOk r (AreFramesAt b n framed places) → IfOk r (λ frames. map frame_of frames ≡ map (λ (f : Framed). f.frame) (in_document_order framed))
    value_ok (Ok frames) places e h = frames_in_order places frames e h
    value_ok (Err x) places e h = tt

    pub children_ok : {E : Type 0} (r : Result (List NodeFrame) E) (places : List (ℕ × ℤ)) → IsTree b → length (kids_at b n) ≡ length (children_at b n) → places ≡ turns wide.parts.base.placed.numbers → IfOk r (AreFramesAt b n framed places)
        → IfOk r (λ frames. map (λ (f : NodeFrame). f.child) frames ≡ children_at b n)
    children_ok (Ok frames) places tree counted e h = children_in_order tree counted places frames e h
    children_ok (Err x) places tree counted e h = tt

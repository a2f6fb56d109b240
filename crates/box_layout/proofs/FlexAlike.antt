-- The children of a flex container of a tree are those of the definitions.
use Rattle.std.proofs.Common.{arith, ap, ◌≡◌, ◌∙◌, sym, subst, refl, ℕ, suc, ◌+◌, ◌<◌, ◌≤◌, ℤ, pos, Bool, true, false, List, [], ◌∷◌, ◌++◌, drop, take, get_or, length, map, Option, Some}
use Rattle.std.specs.Prelude.{All, unwrap_or}
use Rattle.std.proofs.lemmas.List.{append_assoc, append-nil, drop_all, drop_more, length-map, take_all, take_more}
use Rattle.lunit.specs.Units.{IsUnits, clamp}
use Rattle.inline_sizes.proofs.Limits.{clamp_units}
use Rattle.node_arena.specs.declared.number.NodeId.{NodeId}
use Rattle.part_rules.specs.Lists.{zipped}
use Rattle.placing.proofs.Each.{Each}
use Rattle.placing.specs.Nodes.{BareTrees, kid_at, kids_at, sight_at}
use Rattle.style_types.specs.Styles.{StyleMap}
use Rattle.tree_rules.proofs.Lengths.{length_crosses, length_in_order}
use Rattle.tree_rules.specs.Answers.{Kid}
use Rattle.tree_rules.specs.FlexSizes as rules
use Rattle.tree_rules.specs.Frames as frames
use Rattle.tree_rules.specs.Frames.{given_box}
use Rattle.tree_rules.specs.Labels.{ContentStyle, GridStyle, Label, content_of, grid_of}
use Rattle.tree_rules.specs.NodeSizes.{stretches}
use Rattle.tree_rules.specs.Orders.{in_order}
use Rattle.tree_rules.specs.Repetitions.{gap_by}
use Rattle.block_sizes.specs.Flexes.{crosses_by}
use Rattle.inline_sizes.specs.Flexes.{AreMembers, IsChild, flex_seen, member_of}
use Rattle.placing.specs.declared.lined.Member.{Member}
use Rattle.box_layout.specs.declared.sitting.Sitting.{Sitting}
use Rattle.box_layout.specs.FlexFrames.{block_of, member_cross, member_outer, member_sitting, numbered, settled_by, zipped3}
use Rattle.box_layout.specs.Near.{AreUnits}
use Rattle.box_layout.specs.Sittings.{AreGiven, HasStyle, sitting_of}

-- ---- by style

-- what depends on the values of a node alone
pub by_style : {A : Type 0} → (f : GridStyle → ContentStyle → A) (s : StyleMap) (y : Label) → HasStyle s y → f (grid_of s) (content_of s) ≡ f y.grid y.content
by_style f s y h = ap (λ g. f g (content_of s)) (sym h.grid) ∙ ap (f y.grid) (sym h.content)

-- ---- lists item by item

pub pair_step : {A B D : Type 0} → (da : A) (db : B) (f : A → B → D) (xs : List A) (ys : List B) (k : ℕ) (x : A) (y : B) (w : D) (done pushed all : List D) → k < length xs → length ys ≡ length xs
    → x ≡ get_or xs k da → y ≡ get_or ys k db → w ≡ f x y → pushed ≡ done ++ w ∷ [] → done ++ zipped f (drop k xs) (drop k ys) ≡ all → pushed ++ zipped f (drop (k + 1) xs) (drop (k + 1) ys) ≡ all
pair_step {A} {B} {D} da db f xs ys k x y w done pushed all h same is_x is_y is_w push holds =
    let rest : List D = zipped f (drop (k + 1) xs) (drop (k + 1) ys) in
    let first : zipped f (drop k xs) (drop k ys) ≡ w ∷ rest =
    ap (λ us. zipped f us (drop k ys)) (drop_more xs k da h ∙ ap (λ u. u ∷ drop (k + 1) xs) (sym is_x))
    ∙ ap (zipped f (x ∷ drop (k + 1) xs)) (drop_more ys k db (omega (arith, h, same)) ∙ ap (λ u. u ∷ drop (k + 1) ys) (sym is_y))
    ∙ ap (λ u. u ∷ rest) (sym is_w) in
    ap (λ us. us ++ rest) push ∙ append_assoc done (w ∷ []) rest ∙ sym (ap (λ us. done ++ us) first) ∙ holds

pub triple_step : {A B C D : Type 0} → (da : A) (db : B) (dc : C) (f : A → B → C → D) (xs : List A) (ys : List B) (zs : List C) (k : ℕ) (x : A) (y : B) (z : C) (w : D) (done pushed all : List D) → k < length xs → length ys ≡ length xs → length zs ≡ length xs
    → x ≡ get_or xs k da → y ≡ get_or ys k db → z ≡ get_or zs k dc → w ≡ f x y z → pushed ≡ done ++ w ∷ [] → done ++ zipped3 f (drop k xs) (drop k ys) (drop k zs) ≡ all → pushed ++ zipped3 f (drop (k + 1) xs) (drop (k + 1) ys) (drop (k + 1) zs) ≡ all
triple_step {A} {B} {C} {D} da db dc f xs ys zs k x y z w done pushed all h same_y same_z is_x is_y is_z is_w push holds =
    let rest : List D = zipped3 f (drop (k + 1) xs) (drop (k + 1) ys) (drop (k + 1) zs) in
    let first : zipped3 f (drop k xs) (drop k ys) (drop k zs) ≡ w ∷ rest =
    ap (λ us. zipped3 f us (drop k ys) (drop k zs)) (drop_more xs k da h ∙ ap (λ u. u ∷ drop (k + 1) xs) (sym is_x))
    ∙ ap (λ us. zipped3 f (x ∷ drop (k + 1) xs) us (drop k zs)) (drop_more ys k db (omega (arith, h, same_y)) ∙ ap (λ u. u ∷ drop (k + 1) ys) (sym is_y))
    ∙ ap (zipped3 f (x ∷ drop (k + 1) xs) (y ∷ drop (k + 1) ys)) (drop_more zs k dc (omega (arith, h, same_z)) ∙ ap (λ u. u ∷ drop (k + 1) zs) (sym is_z))
    ∙ ap (λ u. u ∷ rest) (sym is_w) in
    ap (λ us. us ++ rest) push ∙ append_assoc done (w ∷ []) rest ∙ sym (ap (λ us. done ++ us) first) ∙ holds

-- ---- lengths

units_append : (xs : List ℤ) (z : ℤ) → AreUnits xs → IsUnits z → AreUnits (xs ++ z ∷ [])
units_append [] z h k = (k, tt)
units_append (x ∷ xs) z h k = (h.0, units_append xs z h.1 k)

pub units_step : (d : ℤ) (xs : List ℤ) (k : ℕ) (z : ℤ) → k < length xs → z ≡ get_or xs k d → AreUnits (take k xs) → IsUnits z → AreUnits (take (k + 1) xs)
units_step d xs k z h is a u = subst AreUnits (ap (λ y. take k xs ++ y ∷ []) is ∙ sym (take_more xs k d h)) (units_append (take k xs) z a u)

-- ---- the children

pub each_child : {A : Type 0} → (P : A → Type 0) (xs : List A) → All P xs → Each P xs
each_child P [] h = tt
each_child P (x ∷ rest) h = (h 0 x (omega arith), each_child P rest (λ k d l. h (suc k) d (omega (arith, l))))

module _ (b : BareTrees) (n : NodeId) (column : Bool) (cross : ℤ) where
  pub crosses_alike : (members : List Member) (boxes : List ℤ) → zipped3 (member_cross b column cross) members boxes (map block_of (settled_by b members boxes)) ≡ map (rules.cross_box column (Some cross)) (settled_by b members boxes)
  crosses_alike [] boxes = refl
  crosses_alike (m ∷ members) [] = refl
  crosses_alike (m ∷ members) (box ∷ boxes) =
      ap (λ z. z ∷ zipped3 (member_cross b column cross) members boxes (map block_of (settled_by b members boxes))) (one column)
      ∙ ap (λ zs. rules.cross_box column (Some cross) (rules.settled_at (member_of b m) box) ∷ zs) (crosses_alike members boxes)
    where
      one : (c : Bool) → member_cross b c cross m box (rules.settled_at (member_of b m) box).down.block ≡ rules.cross_box c (Some cross) (rules.settled_at (member_of b m) box)
      one true = refl
      one false = refl

  pub outers_alike : (members : List Member) (boxes : List ℤ) → zipped (member_outer b column) members (map (rules.cross_box column (Some cross)) (settled_by b members boxes)) ≡ map (rules.outer_cross column (Some cross)) (settled_by b members boxes)
  outers_alike [] boxes = refl
  outers_alike (m ∷ members) [] = refl
  outers_alike (m ∷ members) (box ∷ boxes) = ap (λ zs. rules.outer_cross column (Some cross) (rules.settled_at (member_of b m) box) ∷ zs) (outers_alike members boxes)

  child_is : (m : Member) → IsChild b n m → m.child ≡ numbered b n m.number
  child_is m h = sym (ap (λ (o : Option NodeId). unwrap_or o n) h.number)

  pub sittings_alike : (members : List Member) (boxes mains : List ℤ) → Each (IsChild b n) members → AreUnits mains
      → zipped3 (member_sitting b n column cross) members mains (map (rules.cross_box column (Some cross)) (settled_by b members boxes))
      ≡ map (sitting_of column cross (sight_at b n).label (numbered b n)) (zipped (frames.sitting_of column (Some cross)) (settled_by b members boxes) mains)
  sittings_alike [] boxes mains h u = refl
  sittings_alike (m ∷ members) [] [] h u = refl
  sittings_alike (m ∷ members) [] (main ∷ mains) h u = refl
  sittings_alike (m ∷ members) (box ∷ boxes) [] h u = refl
  sittings_alike (m ∷ members) (box ∷ boxes) (main ∷ mains) h u =
      let s : rules.Settled = rules.settled_at (member_of b m) box in
      let rest : List Sitting = zipped3 (member_sitting b n column cross) members mains (map (rules.cross_box column (Some cross)) (settled_by b members boxes)) in
      ap (λ z. member_sitting b n column cross m z (rules.cross_box column (Some cross) s) ∷ rest) (sym (clamp_units main u.0))
      ∙ ap (λ (c : NodeId). record (member_sitting b n column cross m (clamp main) (rules.cross_box column (Some cross) s)) { child = c } ∷ rest) (child_is m h.0)
      ∙ ap (λ ss. sitting_of column cross (sight_at b n).label (numbered b n) (frames.sitting_of column (Some cross) s main) ∷ ss) (sittings_alike members boxes mains h.1 u.1)

pub given_column : (b : BareTrees) (cross : Option ℤ) (members : List Member) (boxes mains : List ℤ) → AreGiven true (zipped (frames.sitting_of true cross) (settled_by b members boxes) mains)
given_column b cross [] boxes mains = tt
given_column b cross (m ∷ members) [] mains = tt
given_column b cross (m ∷ members) (box ∷ boxes) [] = tt
given_column b cross (m ∷ members) (box ∷ boxes) (main ∷ mains) = (refl, given_column b cross members boxes mains)

pub given_row : (b : BareTrees) (cross : Option ℤ) (members : List Member) (mains : List ℤ) → AreUnits mains → AreGiven false (zipped (frames.sitting_of false cross) (settled_by b members mains) mains)
given_row b cross [] mains u = tt
given_row b cross (m ∷ members) [] u = tt
given_row b cross (m ∷ members) (main ∷ mains) u = (ap (given_box (kid_at b m.child).label.grid.columns) (sym (clamp_units main u.0)), given_row b cross members mains u.1)

pub given_alike : (b : BareTrees) (column : Bool) (cross : Option ℤ) (members : List Member) (boxes mains : List ℤ) → (column ≡ false → boxes ≡ mains) → AreUnits mains → AreGiven column (zipped (frames.sitting_of column cross) (settled_by b members boxes) mains)
given_alike b true cross members boxes mains h u = given_column b cross members boxes mains
given_alike b false cross members boxes mains h u = subst (λ (zs : List ℤ). AreGiven false (zipped (frames.sitting_of false cross) (settled_by b members zs) mains)) (sym (h refl)) (given_row b cross members mains u)

-- ---- how many there are

pub settled_count : (b : BareTrees) (members : List Member) (boxes : List ℤ) → length boxes ≡ length members → length (settled_by b members boxes) ≡ length members
settled_count b [] boxes h = refl
settled_count b (m ∷ members) [] h = omega (arith, h)
settled_count b (m ∷ members) (box ∷ boxes) h = ap suc (settled_count b members boxes (omega (arith, h)))

pub blocks_count : (b : BareTrees) (members : List Member) (boxes blocks : List ℤ) → length boxes ≡ length members → blocks ≡ map block_of (settled_by b members boxes) → length blocks ≡ length members
blocks_count b members boxes blocks h e = ap length e ∙ length-map (settled_by b members boxes) block_of ∙ settled_count b members boxes h

pub pair_count : {A B D : Type 0} → (f : A → B → D) (xs : List A) (ys : List B) → length ys ≡ length xs → length (zipped f xs ys) ≡ length xs
pair_count f [] ys h = refl
pair_count f (x ∷ xs) [] h = omega (arith, h)
pair_count f (x ∷ xs) (y ∷ ys) h = ap suc (pair_count f xs ys (omega (arith, h)))

pub triple_count : {A B C D : Type 0} → (f : A → B → C → D) (xs : List A) (ys : List B) (zs : List C) → length ys ≡ length xs → length zs ≡ length xs → length (zipped3 f xs ys zs) ≡ length xs
triple_count f [] ys zs h k = refl
triple_count f (x ∷ xs) [] zs h k = omega (arith, h)
triple_count f (x ∷ xs) (y ∷ ys) [] h k = omega (arith, k)
triple_count f (x ∷ xs) (y ∷ ys) (z ∷ zs) h k = ap suc (triple_count f xs ys zs (omega (arith, h)) (omega (arith, k)))

pub members_few : (b : BareTrees) (n : NodeId) (members : List Member) → AreMembers b n members → length (kids_at b n) ≤ 65536 → length members ≤ 65536
unfolding flex_seen
members_few b n members h few =
    let order : Kid → ℤ = λ k. k.label.grid.order in
    let count : length members ≡ length (kids_at b n) =
    sym (length-map members (member_of b)) ∙ ap length h.same ∙ length-map (in_order order (kids_at b n)) rules.member_of ∙ length_in_order order (kids_at b n) in
    omega (arith, count, few)

-- the cross sizes of the lines are as many as the lines
pub crosses_count : (column : Bool) (x : Label) (outers : List ℤ) (ranges : List (ℕ × ℕ)) (cross : Option ℤ) → length (crosses_by column x outers ranges cross) ≡ length ranges
crosses_count column x outers ranges cross = length_crosses outers ranges cross (gap_by cross (pos 0) (rules.cross_grid column x).gap) x.content.wrap (stretches x.content.block.distribution.mode)

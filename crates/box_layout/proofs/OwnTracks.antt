-- Where the tracks lie that a grid sizes itself: near each other and near 0.
use Rattle.std.proofs.Common.{arith, ◌≡◌, refl, subst, ℕ, ◌+◌, ◌-◌, ◌*◌, ◌^◌, ◌<◌, ◌≤◌, nat_le, ℤ, pos, negsuc, neg_ℤ, ◌+ℤ◌, ◌-ℤ◌, ◌*ℤ◌, ◌≤ℤ◌, int_lt, unsigned_abs, Bool, true, false, ◌&&◌, ◌||◌, List, [], ◌∷◌, length, Some, if◌then◌else◌}
use Rattle.std.proofs.lemmas.Int.{ints}
use Rattle.std.proofs.lemmas.Bool.{leb-false}
use Rattle.box_align.proofs.Parts.{within}
use Rattle.lunit.specs.Units.{IsUnits, floor_div}
use Rattle.part_rules.specs.declared.mode.Mode.{Mode}
use Rattle.part_rules.specs.declared.mode.Mode.TheVariants as mode
use Rattle.part_rules.specs.declared.track.Fit.{Fit}
use Rattle.part_rules.specs.declared.track.Rule.{Rule}
use Rattle.part_rules.specs.declared.track.Space.{Space}
use Rattle.part_rules.specs.declared.track.Space.TheVariants.{Definite}
use Rattle.part_rules.specs.Alignment.{content_moved, moved, spreads}
use Rattle.part_rules.specs.Lists.{sum_of}
use Rattle.part_rules.specs.Tracks.{track_sizes}
use Rattle.placing.specs.Ranges.{IsSize}
use Rattle.style_types.specs.declared.value.Align.{Align}
use Rattle.tree_rules.specs.Distribution.{edges_from, edges_in, is_safe, mode_of, open_tracks}
use Rattle.tree_rules.specs.GridSizes.{TrackAxis, fit_of_axis, view_by, view_for}
use Rattle.tree_rules.specs.NodeSizes.{stretches}
use Rattle.tree_rules.specs.Repetitions.{gap_by}
use Rattle.tree_rules.specs.TrackRules.{axis_rules, tracks_of}
use Rattle.tree_rules.specs.declared.query.Given.{Given}
use Rattle.tree_rules.specs.declared.query.Given.TheVariants as given
use Rattle.inline_sizes.proofs.Fixing.{rules_counted}
use Rattle.inline_sizes.proofs.Lengths.{sizes_counted}
use Rattle.inline_sizes.specs.TrackAxes.{track_count}
use Rattle.block_sizes.proofs.Seen.{spread_grows}
use Rattle.block_sizes.specs.Moving.{IsFree, first_place, last_place}
use Rattle.placing.specs.Spread.{AreBetween, AreSpread, IsBetween}
use Rattle.box_layout.proofs.Near.{gap_units, sum_near}
use Rattle.box_layout.proofs.TrackSizes.{sizes_units}
use Rattle.box_layout.specs.Near.{AreUnits}
use Rattle.box_layout.specs.Ranges.{IsSum}
use Rattle.box_layout.specs.Stands.{IsGivenNear, near_by}

-- ---- how far a track is moved

near_choice : (b : Bool) (x y : ℤ) (n : ℕ) → unsigned_abs x ≤ n → unsigned_abs y ≤ n → unsigned_abs (if b then x else y) ≤ n
near_choice true x y n h k = h
near_choice false x y n h k = k

between_small : (free : ℤ) (k n : ℕ) → k < n → unsigned_abs (moved mode.Between free k n) ≤ unsigned_abs free
between_small free k n h = go (nat_le n 1) refl
  where
    go : (t : Bool) → nat_le n 1 ≡ t → unsigned_abs (if t then pos 0 else floor_div (free *ℤ pos k) (n - 1)) ≤ unsigned_abs free
    go true e = omega arith
    go false e = within free k (n - 1) (omega (arith, leb-false)) (omega (arith, h))

center_small : (free : ℤ) → unsigned_abs (floor_div free 2) ≤ unsigned_abs free
center_small free =
    let whole : free *ℤ pos 1 ≡ free = omega (arith, ints) in
    let small : unsigned_abs (floor_div (free *ℤ pos 1) 2) ≤ unsigned_abs free = within free 1 2 (omega arith) (omega arith) in
    subst (λ (z : ℤ). unsigned_abs (floor_div z 2) ≤ unsigned_abs free) whole small

moved_small : (m : Mode) (free : ℤ) (k n : ℕ) → k < n → unsigned_abs (moved m free k n) ≤ unsigned_abs free
moved_small mode.Start free k n h = omega arith
moved_small mode.End free k n h = omega arith
moved_small mode.Center free k n h = center_small free
moved_small mode.Stretch free k n h = omega arith
moved_small mode.Between free k n h = between_small free k n h
moved_small mode.Around free k n h = within free (2 * k + 1) (2 * n) (omega (arith, h)) (omega (arith, h))
moved_small mode.Evenly free k n h = within free (k + 1) (n + 1) (omega arith) (omega (arith, h))

moved_near : (m : Mode) (safe : Bool) (free : ℤ) (k n : ℕ) → IsFree free → k < n → IsFree (content_moved m safe free k n)
moved_near m safe free k n h l =
    let small : unsigned_abs (content_moved m safe free k n) ≤ unsigned_abs free = near_choice (int_lt free (pos 0) && (safe || spreads m)) (pos 0) (moved m free k n) (unsigned_abs free) (omega arith) (moved_small m free k n l) in
    (omega (arith, ints, h.0, h.1, small), omega (arith, ints, h.0, h.1, small))

-- ---- tracks one after another

open_none : (r : Rule) (rest : List Rule) → r.collapsed ≡ true → open_tracks (r ∷ rest) ≡ open_tracks rest
open_none r rest e = rw e refl

open_more : (r : Rule) (rest : List Rule) → r.collapsed ≡ false → open_tracks (r ∷ rest) ≡ open_tracks rest + 1
open_more r rest e = rw e (omega arith)

open_few : (rules : List Rule) → open_tracks rules ≤ length rules
open_few [] = omega arith
open_few (r ∷ rest) = go r.collapsed refl (open_few rest)
  where
    go : (b : Bool) → r.collapsed ≡ b → open_tracks rest ≤ length rest → open_tracks (r ∷ rest) ≤ length (r ∷ rest)
    go true e h = omega (arith, h, open_none r rest e)
    go false e h = omega (arith, h, open_more r rest e)

no_track : IsBetween first_place last_place (pos 0, pos 0)
no_track = record { start_low = omega (arith, ints); start_high = omega (arith, ints); end_low = omega (arith, ints); end_high = omega (arith, ints) }

one_track : (j : ℕ) (at m s : ℤ) → j ≤ 131072 → neg_ℤ (pos (2147483648 * j)) ≤ℤ at → at ≤ℤ pos (2147483648 * j) → IsFree m → IsUnits s → IsBetween first_place last_place (at +ℤ m, at +ℤ m +ℤ s)
one_track j at m s few low high h u = record {
  start_low = omega (arith, ints, few, low, h.0);
  start_high = omega (arith, ints, few, high, h.1);
  end_low = omega (arith, ints, few, low, h.0, u.0);
  end_high = omega (arith, ints, few, high, h.1, u.1);
}

next_low : (j : ℕ) (at s gap : ℤ) → neg_ℤ (pos (2147483648 * j)) ≤ℤ at → IsUnits s → IsUnits gap → neg_ℤ (pos (2147483648 * (j + 1))) ≤ℤ (at +ℤ s +ℤ gap)
next_low j at s gap low u g = omega (arith, ints, low, u.0, g.0)

next_high : (j : ℕ) (at s gap : ℤ) → at ≤ℤ pos (2147483648 * j) → IsUnits s → IsUnits gap → (at +ℤ s +ℤ gap) ≤ℤ pos (2147483648 * (j + 1))
next_high j at s gap high u g = omega (arith, ints, high, u.1, g.1)

module _ (moves : ℕ → ℤ) (n : ℕ) (gap : ℤ) (gap_is : IsUnits gap) (near : (k : ℕ) → k < n → IsFree (moves k)) where
  edges_between : (j k : ℕ) (at : ℤ) (rules : List Rule) (sizes : List ℤ) → k + open_tracks rules ≤ n → j + length rules ≤ 131072 → neg_ℤ (pos (2147483648 * j)) ≤ℤ at → at ≤ℤ pos (2147483648 * j) → AreUnits sizes
      → AreBetween first_place last_place (edges_from moves gap k at rules sizes)
  edges_between j k at [] sizes opened few low high units = tt
  edges_between j k at (r ∷ rules) [] opened few low high units = tt
  edges_between j k at (r ∷ rules) (s ∷ sizes) opened few low high units =
      go r.collapsed refl
      (λ c. edges_between (j + 1) k at rules sizes c (omega (arith, few)) (omega (arith, ints, low)) (omega (arith, ints, high)) units.1)
      (λ c. edges_between (j + 1) (k + 1) (at +ℤ s +ℤ gap) rules sizes c (omega (arith, few)) (next_low j at s gap low units.0 gap_is) (next_high j at s gap high units.0 gap_is) units.1)
    where
      go : (b : Bool) → r.collapsed ≡ b → (k + open_tracks rules ≤ n → AreBetween first_place last_place (edges_from moves gap k at rules sizes)) → (k + 1 + open_tracks rules ≤ n → AreBetween first_place last_place (edges_from moves gap (k + 1) (at +ℤ s +ℤ gap) rules sizes))
          → AreBetween first_place last_place (if b then (pos 0, pos 0) ∷ edges_from moves gap k at rules sizes else (at +ℤ moves k, at +ℤ moves k +ℤ s) ∷ edges_from moves gap (k + 1) (at +ℤ s +ℤ gap) rules sizes)
      go true e none some = (no_track, none (omega (arith, opened, open_none r rules e)))
      go false e none some = (one_track j at (moves k) s (omega (arith, few)) low high (near k (omega (arith, opened, open_more r rules e))) units.0, some (omega (arith, opened, open_more r rules e)))

-- ---- what tracks leave of a container

less : (a b m n : ℕ) → a ≤ b → m ≤ n → a * m ≤ b * n
less a b m n h k = grind arith

abbrev IsGutters : ℤ → Type 0
IsGutters z = (neg_ℤ (pos (1073741824 * 131072)) ≤ℤ z) × (z ≤ℤ pos (1073741824 * 131072))

gutters_are : (gap : ℤ) (n : ℕ) → IsUnits gap → n ≤ 131072 → IsGutters (gap *ℤ pos (n - 1))
gutters_are (pos a) n h k =
    let few : a * (n - 1) ≤ 1073741824 * 131072 = less a 1073741824 (n - 1) 131072 (omega (arith, ints, h.1)) (omega (arith, k)) in
    (omega (arith, ints, few), omega (arith, ints, few))
gutters_are (negsuc a) n h k =
    let few : (a + 1) * (n - 1) ≤ 1073741824 * 131072 = less (a + 1) 1073741824 (n - 1) 131072 (omega (arith, ints, h.0)) (omega (arith, k)) in
    (omega (arith, ints, few), omega (arith, ints, few))

left_is : (size sum gutters : ℤ) (n : ℕ) → IsUnits size → IsSum n sum → IsGutters gutters → n ≤ 131072 → IsFree (size -ℤ (sum +ℤ gutters))
left_is size sum gutters n h k l few = (omega (arith, ints, h.0, h.1, k.0, k.1, l.0, l.1, few), omega (arith, ints, h.0, h.1, k.0, k.1, l.0, l.1, few))

pub places_spread : (edges : List (ℤ × ℤ)) → AreBetween first_place last_place edges → AreSpread (2 ^ 50 + 2 ^ 34) edges
places_spread edges h = record { low = first_place; high = last_place; below = omega (arith, ints); above = omega (arith, ints); width = omega (arith, ints); between = h }

edges_spread : (a : Align) (size gap : ℤ) (rules : List Rule) (sizes : List ℤ) → IsUnits size → IsUnits gap → length rules ≤ 131072 → length sizes ≡ length rules → AreUnits sizes
    → AreSpread (2 ^ 50 + 2 ^ 34) (edges_in a size (record { rules = rules; sizes = sizes; gap = gap }))
edges_spread a size gap rules sizes size_is gap_is few counted units =
    let n = open_tracks rules in
    let free = size -ℤ (sum_of sizes +ℤ gap *ℤ pos (n - 1)) in
    let opened : n ≤ 131072 = omega (arith, few, open_few rules) in
    let free_is : IsFree free = left_is size (sum_of sizes) (gap *ℤ pos (n - 1)) (length sizes) size_is (sum_near sizes units) (gutters_are gap n gap_is opened) (omega (arith, few, counted)) in
    let moves : ℕ → ℤ = λ k. content_moved (mode_of a.mode) (is_safe a) free k n in
    places_spread (edges_from moves gap 0 (pos 0) rules sizes)
    (edges_between moves n gap gap_is (λ k l. moved_near (mode_of a.mode) (is_safe a) free k n free_is l) 0 0 (pos 0) rules sizes (omega arith) (omega (arith, few)) (omega (arith, ints)) (omega (arith, ints)) units)

-- ---- the tracks of an axis

own_spread : (axis : ℕ) (a : TrackAxis) (size : ℤ) → IsUnits size → IsSize a.grid.gap → track_count a.tracks ≤ 131072 → AreSpread (2 ^ 50 + 2 ^ 34) (view_for {axis = axis} a size).edges
own_spread axis a size size_is gap_size few =
    let rules : List Rule = axis_rules (Some size) a.grid a.written a.spans (tracks_of a.tracks) in
    let gap : ℤ = gap_by (Some size) (pos 0) a.grid.gap in
    let space : Space axis = Definite size in
    let fit : Fit axis = fit_of_axis a space gap in
    let sizes : List ℤ = track_sizes rules a.tracks.start a.items fit in
    let count : length rules ≡ track_count a.tracks = rules_counted (Some size) a.grid a.written a.spans a.tracks in
    edges_spread a.content.distribution size gap rules sizes size_is (gap_units (Some size) a.grid.gap gap_size) (omega (arith, few, count)) (sizes_counted rules a.tracks.start a.items fit)
    (sizes_units axis size fit.min fit.max gap (stretches a.content.distribution.mode) rules a.tracks.start a.items)

own_gap : (axis : ℕ) (a : TrackAxis) (size : ℤ) → IsSize a.grid.gap → IsUnits (view_for {axis = axis} a size).gap
own_gap axis a size gap_size = gap_units (Some size) a.grid.gap gap_size

zero_length : IsUnits (pos 0)
zero_length = (omega (arith, ints), omega (arith, ints))

-- the tracks of an axis by what the grid is given there
pub view_near : (axis : ℕ) (a : TrackAxis) (level : ℕ) (g : Given) → IsSize a.grid.gap → track_count a.tracks ≤ 131072 → IsGivenNear level g → AreSpread (near_by level) (view_by {axis = axis} a g).edges
view_near axis a level given.None gap_size few h = spread_grows (2 ^ 50 + 2 ^ 34) (near_by level) (view_for {axis = axis} a (pos 0)).edges (omega arith) (own_spread axis a (pos 0) zero_length gap_size few)
view_near axis a level (given.Size size) gap_size few h = spread_grows (2 ^ 50 + 2 ^ 34) (near_by level) (view_for {axis = axis} a size).edges (omega arith) (own_spread axis a size h gap_size few)
view_near axis a level (given.Tracks edges gap) gap_size few h = h.0

pub view_gap : (axis : ℕ) (a : TrackAxis) (level : ℕ) (g : Given) → IsSize a.grid.gap → IsGivenNear level g → IsUnits (view_by {axis = axis} a g).gap
view_gap axis a level given.None gap_size h = own_gap axis a (pos 0) gap_size
view_gap axis a level (given.Size size) gap_size h = own_gap axis a size gap_size
view_gap axis a level (given.Tracks edges gap) gap_size h = h.1

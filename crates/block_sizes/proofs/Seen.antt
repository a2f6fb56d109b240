-- The tracks that a subgrid sees of its parent's: how many they are, and how far from each other.
use Rattle.std.proofs.Common.{arith, ap, ◌≡◌, ◌∙◌, refl, ℕ, suc, ◌+◌, ◌-◌, ◌^◌, ◌≤◌, ℤ, pos, negsuc, neg_ℤ, ◌+ℤ◌, ◌-ℤ◌, ◌≤ℤ◌, ◌<ℤ◌, List, [], ◌∷◌, drop, take, length, zero, Some, ◌*ℤ◌}
use Rattle.std.specs.Int.{int_max, int_min}
use Rattle.std.proofs.lemmas.Int.{ints, int_max_is, int_min_is}
use Rattle.std.proofs.lemmas.List.{length-drop, length-take-le}
use Rattle.inline_sizes.proofs.Fixing.{gap_some}
use Rattle.inline_sizes.proofs.InRange.{outer_start_units}
use Rattle.inline_sizes.proofs.Limits.{some_size}
use Rattle.lunit.specs.Units.{IsUnits, clamp, floor_div}
use Rattle.lunit.specs.declared.geometry.Span.{Span}
use Rattle.part_rules.specs.declared.view.View.{View}
use Rattle.part_rules.specs.Lists.{above_zero}
use Rattle.part_rules.specs.Views.{all_tracks, area_size, content_size, end_in, first_start, half_after, half_before, later_tracks, track_between, tracks_over}
use Rattle.placing.specs.Ranges.{IsGridAxis, IsSize}
use Rattle.style_types.specs.declared.value.Size.{Size}
use Rattle.style_types.specs.declared.value.Size.TheVariants as size
use Rattle.tree_rules.specs.Distribution.{view_in}
use Rattle.tree_rules.specs.Labels.{GridAxis}
use Rattle.tree_rules.specs.NodeSizes.{outer_end, outer_start}
use Rattle.tree_rules.specs.Repetitions.{gap_by}
use Rattle.part_rules.proofs.Floor.{floor_div_high, floor_div_low}
use Rattle.placing.specs.Spread.{AreBetween, AreSpread, IsBetween}

abbrev Edges : Type 0
Edges = List (ℤ × ℤ)

-- ---- how many

later_counted : (d origin content : ℤ) (tracks : Edges) → length (later_tracks d origin content tracks) ≡ length tracks
later_counted d origin content [] = refl
later_counted d origin content (e ∷ rest) = ap suc (later_counted d origin content rest)

all_counted : (d origin content : ℤ) (tracks : Edges) → length (all_tracks d origin content tracks) ≡ length tracks
all_counted d origin content [] = refl
all_counted d origin content (e ∷ rest) = ap suc (later_counted d origin content rest)

slice_counted : (edges : Edges) (a b : ℕ) → b ≤ length edges → length (take (b - a) (drop a edges)) ≡ b - a
slice_counted edges a b h =
    let rest : length (drop a edges) ≡ length edges - a = length-drop a edges in
    length-take-le (b - a) (drop a edges) (omega (arith, h, rest))

between_counted : (start end : ℤ) → pos 0 ≤ℤ start → start ≤ℤ end → above_zero end - above_zero start ≡ above_zero (end -ℤ start)
between_counted (pos a) (pos b) h k = go (pos b -ℤ pos a) refl
  where
    go : (z : ℤ) → pos b -ℤ pos a ≡ z → b - a ≡ above_zero z
    go (pos n) e = omega (arith, ints, e, k)
    go (negsuc n) e = absurd (omega (arith, ints, e, k))
between_counted (pos a) (negsuc b) h k = absurd (omega (arith, ints, k))
between_counted (negsuc a) end h k = absurd (omega (arith, ints, h))

end_near : (end : ℤ) (n : ℕ) → end ≤ℤ pos n → above_zero end ≤ n
end_near (pos b) n h = omega (arith, ints, h)
end_near (negsuc b) n h = omega arith

pub over_counted : (edges : Edges) (span : Span) → pos 0 ≤ℤ span.start → span.start ≤ℤ span.end → span.end ≤ℤ pos (length edges) → length (tracks_over edges span) ≡ above_zero (span.end -ℤ span.start)
over_counted edges span h k l = slice_counted edges (above_zero span.start) (above_zero span.end) (end_near span.end (length edges) l) ∙ between_counted span.start span.end h k

pub view_counted : {axis : ℕ} (outer : View axis) (span : Span) (g : GridAxis) → pos 0 ≤ℤ span.start → span.start ≤ℤ span.end → span.end ≤ℤ pos (length outer.edges) → length (view_in outer span g).edges ≡ above_zero (span.end -ℤ span.start)
view_counted outer span g h k l = all_counted _ _ _ (tracks_over outer.edges span) ∙ over_counted outer.edges span h k l

-- ---- the gap

gap_kept : (content outer : ℤ) (s : Size) → pos 0 ≤ℤ content → pos 0 ≤ℤ outer → IsSize s → pos 0 ≤ℤ gap_by (Some content) outer s
gap_kept content outer size.Auto h k i = omega (arith, ints)
gap_kept content outer size.Absent h k i = omega (arith, ints)
gap_kept content outer size.Normal h k i = k
gap_kept content outer size.Content h k i = omega (arith, ints)
gap_kept content outer (size.Length x) h k i = i.low
gap_kept content outer (size.Percent t) h k i = gap_some (Some content) (size.Percent t) i h

pub view_gap : {axis : ℕ} (outer : View axis) (span : Span) (g : GridAxis) → IsGridAxis g → pos 0 ≤ℤ outer.gap → pos 0 ≤ℤ (view_in outer span g).gap
view_gap outer span g i h =
    let tracks : Edges = tracks_over outer.edges span in
    gap_kept (content_size tracks (outer_start g) (outer_end g)) outer.gap g.gap (some_size (area_size tracks -ℤ outer_start g -ℤ outer_end g)) h i.gap

-- ---- how far from each other

take_between : (low high : ℤ) (n : ℕ) (edges : Edges) → AreBetween low high edges → AreBetween low high (take n edges)
take_between low high n [] h = take_none n
  where
    take_none : (m : ℕ) → AreBetween low high (take m [])
    take_none zero = tt
    take_none (suc m) = tt
take_between low high zero (e ∷ rest) h = tt
take_between low high (suc n) (e ∷ rest) h = (h.0, take_between low high n rest h.1)

drop_between : (low high : ℤ) (n : ℕ) (edges : Edges) → AreBetween low high edges → AreBetween low high (drop n edges)
drop_between low high zero edges h = h
drop_between low high (suc n) [] h = tt
drop_between low high (suc n) (e ∷ rest) h = drop_between low high n rest h.1

over_between : (low high : ℤ) (edges : Edges) (span : Span) → AreBetween low high edges → AreBetween low high (tracks_over edges span)
over_between low high edges span h = take_between low high (above_zero span.end - above_zero span.start) (drop (above_zero span.start) edges) (drop_between low high (above_zero span.start) edges h)

-- What the edges of tracks are moved by, and the size of the content box, in range.
record AreSmall (d before content : ℤ) : Type 0 where
  start_low : neg_ℤ (pos 4294967296) ≤ℤ (half_after d -ℤ before)
  start_high : (half_after d -ℤ before) ≤ℤ pos 4294967296
  end_low : neg_ℤ (pos 4294967296) ≤ℤ neg_ℤ (half_before d +ℤ before)
  end_high : neg_ℤ (half_before d +ℤ before) ≤ℤ pos 4294967296
  content_low : neg_ℤ (pos 4294967296) ≤ℤ content
  content_high : content ≤ℤ pos 4294967296

end_between : (d first before content low high : ℤ) (e : ℤ × ℤ) (rest : Edges) → AreSmall d before content → low ≤ℤ first → first ≤ℤ high → IsBetween low high e
    → end_in d (first +ℤ before) content e rest ≤ℤ (high -ℤ first +ℤ pos 4294967296)
end_between d first before content low high e [] s a b h = omega (arith, ints, s.content_high, b)
end_between d first before content low high e (f ∷ rest) s a b h = omega (arith, ints, s.end_high, h.end_high)

track_near : (start end low high : ℤ) → low ≤ℤ start → start ≤ℤ high → end ≤ℤ high → IsBetween low high (track_between start end)
track_near start end low high a b c = record {
  start_low = a;
  start_high = b;
  end_low = omega (arith, ints, a, int_max_is start end);
  end_high = omega (arith, ints, b, c, int_max_is start end);
}

later_between : (d first before content low high : ℤ) (tracks : Edges) → AreSmall d before content → low ≤ℤ first → first ≤ℤ high → AreBetween low high tracks
    → AreBetween (low -ℤ first -ℤ pos 4294967296) (high -ℤ first +ℤ pos 4294967296) (later_tracks d (first +ℤ before) content tracks)
later_between d first before content low high [] s a b h = tt
later_between d first before content low high (e ∷ rest) s a b h = (
  track_near (e.0 -ℤ (first +ℤ before) +ℤ half_after d) (end_in d (first +ℤ before) content e rest) (low -ℤ first -ℤ pos 4294967296) (high -ℤ first +ℤ pos 4294967296)
      (omega (arith, ints, s.start_low, h.0.start_low)) (omega (arith, ints, s.start_high, h.0.start_high)) (end_between d first before content low high e rest s a b h.0),
  later_between d first before content low high rest s a b h.1,
)

all_between : (d first before content low high : ℤ) (tracks : Edges) → AreSmall d before content → low ≤ℤ first → first ≤ℤ high → AreBetween low high tracks
    → AreBetween (low -ℤ first -ℤ pos 4294967296) (high -ℤ first +ℤ pos 4294967296) (all_tracks d (first +ℤ before) content tracks)
all_between d first before content low high [] s a b h = tt
all_between d first before content low high (e ∷ rest) s a b h = (
  track_near (pos 0) (end_in d (first +ℤ before) content e rest) (low -ℤ first -ℤ pos 4294967296) (high -ℤ first +ℤ pos 4294967296)
      (omega (arith, ints, a)) (omega (arith, ints, b)) (end_between d first before content low high e rest s a b h.0),
  later_between d first before content low high rest s a b h.1,
)

first_low : (low high : ℤ) (tracks : Edges) → low ≤ℤ pos 0 → AreBetween low high tracks → low ≤ℤ first_start tracks
first_low low high [] a h = a
first_low low high (e ∷ rest) a h = h.0.start_low

first_high : (low high : ℤ) (tracks : Edges) → pos 0 ≤ℤ high → AreBetween low high tracks → first_start tracks ≤ℤ high
first_high low high [] a h = a
first_high low high (e ∷ rest) a h = h.0.start_high

small : (gap outer before content : ℤ) → IsUnits gap → IsUnits outer → IsUnits before → IsUnits content → AreSmall (gap -ℤ outer) before content
small gap outer before content g o b c =
    let below : (half_before (gap -ℤ outer) *ℤ pos 2) ≤ℤ (gap -ℤ outer) = floor_div_low (gap -ℤ outer) 2 (omega arith) in
    let above : (gap -ℤ outer) <ℤ (half_before (gap -ℤ outer) *ℤ pos 2 +ℤ pos 2) = floor_div_high (gap -ℤ outer) 2 (omega arith) in
    record {
      start_low = omega (arith, ints, below, above, g.0, g.1, o.0, o.1, b.0, b.1);
      start_high = omega (arith, ints, below, above, g.0, g.1, o.0, o.1, b.0, b.1);
      end_low = omega (arith, ints, below, above, g.0, g.1, o.0, o.1, b.0, b.1);
      end_high = omega (arith, ints, below, above, g.0, g.1, o.0, o.1, b.0, b.1);
      content_low = omega (arith, ints, c.0);
      content_high = omega (arith, ints, c.1);
    }

clamped : (z : ℤ) → IsUnits (clamp z)
unfolding clamp
clamped z = (omega (arith, ints, int_min_is (pos 1073741824) z, int_max_is (neg_ℤ (pos 1073741824)) (int_min (pos 1073741824) z)), omega (arith, ints, int_min_is (pos 1073741824) z, int_max_is (neg_ℤ (pos 1073741824)) (int_min (pos 1073741824) z)))

gap_units : (content outer : ℤ) (s : Size) → IsUnits outer → IsSize s → IsUnits (gap_by (Some content) outer s)
gap_units content outer size.Auto k i = (omega (arith, ints), omega (arith, ints))
gap_units content outer size.Absent k i = (omega (arith, ints), omega (arith, ints))
gap_units content outer size.Normal k i = k
gap_units content outer size.Content k i = (omega (arith, ints), omega (arith, ints))
gap_units content outer (size.Length x) k i = (omega (arith, ints, i.low), omega (arith, ints, i.high))
gap_units content outer (size.Percent t) k i = clamped (floor_div (content *ℤ pos t) 100000)

-- What a subgrid sees is spread little more than its parent's tracks.
pub view_spread : {axis : ℕ} (outer : View axis) (span : Span) (g : GridAxis) (by : ℕ) → IsGridAxis g → IsUnits outer.gap → AreSpread by outer.edges → AreSpread (by + 2 ^ 33) (view_in outer span g).edges
view_spread outer span g by i u h =
    let tracks : Edges = tracks_over outer.edges span in
    let content : ℤ = content_size tracks (outer_start g) (outer_end g) in
    let inside : AreBetween h.low h.high tracks = over_between h.low h.high outer.edges span h.between in
    let low : h.low ≤ℤ first_start tracks = first_low h.low h.high tracks h.below inside in
    let high : first_start tracks ≤ℤ h.high = first_high h.low h.high tracks h.above inside in
    let s : AreSmall (gap_by (Some content) outer.gap g.gap -ℤ outer.gap) (outer_start g) content = small (gap_by (Some content) outer.gap g.gap) outer.gap (outer_start g) content (gap_units content outer.gap g.gap u i.gap) u (outer_start_units g i)
    (clamped (int_max (pos 0) (area_size tracks -ℤ outer_start g -ℤ outer_end g))) in
    record {
      low = h.low -ℤ first_start tracks -ℤ pos 4294967296;
      high = h.high -ℤ first_start tracks +ℤ pos 4294967296;
      below = omega (arith, ints, low);
      above = omega (arith, ints, high);
      width = omega (arith, ints, h.width);
      between = all_between (gap_by (Some content) outer.gap g.gap -ℤ outer.gap) (first_start tracks) (outer_start g) content h.low h.high tracks s low high inside;
    }

-- ---- wider ranges

pub spread_grows : (a b : ℕ) (edges : Edges) → a ≤ b → AreSpread a edges → AreSpread b edges
spread_grows a b edges l h = record { low = h.low; high = h.high; below = h.below; above = h.above; width = omega (arith, ints, l, h.width); between = h.between }

-- Items that span one track.
use Rattle.std.specs.Prelude.{ℕ, ℤ, pos, ◌+ℤ◌, ◌-ℤ◌, Bool, not, ◌&&◌, ◌||◌, ◌==◌, List, [], ◌∷◌, Option, Some, option_map, if◌then◌else◌}
use Rattle.std.specs.Int.{int_max, int_min}
use Rattle.std.specs.Ordering.{int_eq}
use Rattle.lunit.specs.Units.{clamp}
use Rattle.lunit.specs.declared.item.Item.{Item}
use Rattle.lunit.specs.declared.item.Floor.{Floor}
use Rattle.lunit.specs.declared.item.Floor.TheVariants.{Known, Content}
use Rattle.part_rules.specs.declared.track.Least.{Least}
use Rattle.part_rules.specs.declared.track.Least.TheVariants as least
use Rattle.part_rules.specs.declared.track.Most.{Most}
use Rattle.part_rules.specs.declared.track.Most.TheVariants as most
use Rattle.part_rules.specs.declared.track.Space.{Space}
use Rattle.part_rules.specs.Lists.{at_most}
use Rattle.part_rules.specs.Tracks.{Track, alone, auto_asks, capped_most, fit_items, fixed_most, flexible, high, is_auto_least, is_auto_most, low, raise_limit}
use Rattle.track_sizing.specs.declared.alone.Single.{Single}

-- an item that spans this track alone
abbrev pub is_alone : Item → Track → Bool
is_alone i t = int_eq i.span.start t.at && int_eq i.span.end (t.at +ℤ pos 1)

-- the track by its items; a flexible track is left as it is
abbrev pub fit_or_pass : {axis : ℕ} → Space axis → ℤ → List Item → List Track → Track → Track
fit_or_pass space gap items ts t = if flexible t then t else fit_items space gap ts (alone items t) t

-- an item that spans one track
abbrev pub is_single : Item → Bool
is_single i = int_eq i.span.end (i.span.start +ℤ pos 1)

-- the track by no item
abbrev pub fit_none : Track → Track
fit_none t = if flexible t then t else raise_limit t

-- ---- the same, one item after another

-- the contribution by which a growth limit goes
abbrev pub limit_ask : Most → Item → ℤ
limit_ask most.MinContent = low
limit_ask other = high

-- a base size with one item more
abbrev pub base_more : {axis : ℕ} → Space axis → ℤ → List Track → Item → Least → ℤ → ℤ
base_more space gap ts i (least.Fixed x) base = base
base_more space gap ts i least.MinContent base = int_max i.low base
base_more space gap ts i least.MaxContent base = int_max i.high base
base_more space gap ts i least.Auto base = int_max (auto_asks space gap ts i) base

-- a track without an item
abbrev pub single_none : Track → Single
single_none t = record { some = 0; base = t.base; most = pos 0 }

-- a track with one item more
abbrev pub single_more : {axis : ℕ} → Space axis → ℤ → List Track → Item → Track → Single → Single
single_more space gap ts i t s = record { some = 1; base = base_more space gap ts i t.rule.least s.base; most = int_max (limit_ask t.rule.most i) s.most }

-- a track with one item more, where the item spans the track alone and the track is not flexible
abbrev pub single_by : {axis : ℕ} → Space axis → ℤ → List Track → Item → Track → Single → Single
single_by space gap ts i t s = if is_alone i t && not (flexible t) then single_more space gap ts i t s else s

-- a track with these items
abbrev pub single_of : {axis : ℕ} → Space axis → ℤ → List Track → List Item → Track → Single
single_of space gap ts [] t = single_none t
single_of space gap ts (i ∷ rest) t = single_by space gap ts i t (single_of space gap ts rest t)

-- the growth limit by the greatest contribution of at least one item
abbrev pub limit_most : Most → ℤ → Option ℤ → Option ℤ
limit_most most.MinContent greatest limit = Some greatest
limit_most most.Auto greatest limit = Some greatest
limit_most most.MaxContent greatest limit = Some greatest
limit_most (most.Fit x) greatest limit = Some (int_min x greatest)
limit_most other greatest limit = limit

-- the growth limit by what the items make of a track
abbrev pub limit_single : Track → Single → Option ℤ
limit_single t s = if s.some == 1 then limit_most t.rule.most s.most t.limit else t.limit

-- the track by what its items make of it
abbrev pub fit_single : Track → Single → Track
fit_single t s =
    let base = int_max t.base s.base in
    if flexible t then t else raise_limit (record t { base = base; limit = limit_single t s })

-- ---- the same by the track alone, for an item that spans it alone

-- the automatic minimum in a track with the min function `auto`
abbrev pub single_content : Most → ℤ → ℤ → ℤ
single_content m size margins = int_max (pos 0) (at_most (option_map (λ x. x -ℤ margins) (fixed_most m)) size)

-- the minimum contribution there
abbrev pub single_least : Most → Floor → ℤ
single_least m (Known x) = x
single_least m (Content size margins inner) = clamp (margins +ℤ int_max inner (single_content m size margins))

-- what the item asks for there
abbrev pub single_asks : Bool → Most → Item → ℤ
single_asks definite m i = if definite then single_least m i.floor else int_max (single_least m i.floor) (at_most (capped_most m) i.low)

-- the contribution that the min functions `min-content` and `max-content` ask for
abbrev pub content_ask : Least → Item → ℤ
content_ask least.MinContent = low
content_ask other = high

-- the base size
abbrev pub base_alone : Bool → Least → Most → Item → ℤ → ℤ
base_alone definite (least.Fixed x) m i base = base
base_alone definite least.MinContent m i base = int_max i.low base
base_alone definite least.MaxContent m i base = int_max i.high base
base_alone definite least.Auto m i base = int_max (single_asks definite m i) base

-- the track
abbrev pub single_alone : Bool → Item → Track → Single → Single
single_alone definite i t s = record { some = 1; base = base_alone definite t.rule.least t.rule.most i s.base; most = int_max (limit_ask t.rule.most i) s.most }

-- ---- the same where the min function and the max function are `auto`

-- a track of which one is not
unfoldable pub is_special : Track → Bool
is_special t = not (is_auto_least t.rule.least) || not (is_auto_most t.rule.most)

-- the minimum contribution
abbrev pub plain_least : Floor → ℤ
plain_least (Known x) = x
plain_least (Content size margins inner) = clamp (margins +ℤ int_max inner (int_max (pos 0) size))

-- what the item asks for
abbrev pub plain_asks : Bool → Item → ℤ
plain_asks definite i = if definite then plain_least i.floor else int_max (plain_least i.floor) i.low

-- the track
abbrev pub single_plain : Bool → Item → Single → Single
single_plain definite i s = record { some = 1; base = int_max (plain_asks definite i) s.base; most = int_max i.high s.most }

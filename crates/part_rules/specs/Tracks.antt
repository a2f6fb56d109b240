-- The sizes of the tracks of one axis (CSS Grid 2, section 12).
use Rattle.std.specs.Prelude.{◌≡◌, ◌≤ℤ◌, ℕ, zero, suc, ◌+◌, ◌-◌, ◌==◌, max, ℤ, pos, ◌+ℤ◌, ◌-ℤ◌, ◌*ℤ◌, int_lt, int_le, Bool, true, false, not, ◌&&◌, ◌||◌, List, [], ◌∷◌, ◌++◌, map, filter, length, Option, Some, None, option_map, is_some, is_none, unwrap_or, if◌then◌else◌}
use Rattle.std.specs.Int.{int_max, int_min}
use Rattle.std.specs.List.{list_any}
use Rattle.std.specs.Ordering.{int_eq}
use Rattle.lunit.specs.Units.{clamp, IsUnits}
use Rattle.lunit.specs.declared.item.Item.{Item}
use Rattle.lunit.specs.declared.item.Floor.{Floor}
use Rattle.lunit.specs.declared.item.Floor.TheVariants.{Known, Content}
use Rattle.part_rules.specs.declared.track.Least.{Least}
use Rattle.part_rules.specs.declared.track.Least.TheVariants as least
use Rattle.part_rules.specs.declared.track.Most.{Most}
use Rattle.part_rules.specs.declared.track.Most.TheVariants as most
use Rattle.part_rules.specs.declared.track.Rule.{Rule}
use Rattle.part_rules.specs.declared.track.Space.{Space}
use Rattle.part_rules.specs.declared.track.Space.TheVariants.{Definite, MinContent, MaxContent}
use Rattle.part_rules.specs.declared.track.Fit.{Fit}
use Rattle.part_rules.specs.declared.fraction.FrRow.{FrRow}
use Rattle.part_rules.specs.declared.fraction.Fraction.{Fraction}
use Rattle.part_rules.specs.Lists.{sum_of, total_of, zipped, at_most, at_least, sum_of_known, greatest_with}
use Rattle.part_rules.specs.Sharing.{apportioned_whole, shares, unshared}
use Rattle.part_rules.specs.Fractions.{found, expanded, no_fraction}

-- ---- tracks and their functions

-- a track while it is sized (CSS Grid 2, 12.3)
pub record Track : Type 0 where
  -- the coordinate of its first line
  pub at : ℤ
  -- its min and its max track sizing function
  pub rule : Rule
  -- the base size
  pub base : ℤ
  -- the growth limit; None is without end, infinite in the words of CSS
  pub limit : Option ℤ
  -- the growth limit is infinitely growable (CSS Grid 2, 12.5, step 3)
  pub endless : Bool
  -- the item-incurred increase: what the item at hand has given it (CSS Grid 2, 12.5.1)
  pub incurred : ℤ
  -- the planned increase: the greatest that one of the items gave it (CSS Grid 2, 12.5.1)
  pub planned : ℤ

-- a flexible max function (CSS Grid 2, 7.2.4)
abbrev pub is_flexible : Most → Bool
is_flexible (most.Flex w) = true
is_flexible other = false

-- a flexible track
abbrev pub flexible : Track → Bool
flexible t = is_flexible t.rule.most

-- the factor of a flexible track
abbrev pub factor_of : Most → Option ℕ
factor_of (most.Flex w) = Some w
factor_of other = None

-- a min track sizing function that is fixed
abbrev pub fixed_least : Least → Option ℤ
fixed_least (least.Fixed x) = Some x
fixed_least other = None

-- a max track sizing function that is fixed
abbrev pub fixed_most : Most → Option ℤ
fixed_most (most.Fixed x) = Some x
fixed_most other = None

-- the argument of `fit-content`
abbrev pub fit_argument : Most → Option ℤ
fit_argument (most.Fit x) = Some x
fit_argument other = None

-- the max function `auto`
abbrev pub is_auto_most : Most → Bool
is_auto_most most.Auto = true
is_auto_most other = false

-- the max function `min-content`
abbrev pub is_min_content_most : Most → Bool
is_min_content_most most.MinContent = true
is_min_content_most other = false

-- a max function that counts as `max-content`: `auto` and `fit-content` do
abbrev pub counts_as_max_content : Most → Bool
counts_as_max_content most.Auto = true
counts_as_max_content most.MaxContent = true
counts_as_max_content (most.Fit x) = true
counts_as_max_content other = false

-- a track with an intrinsic max function
abbrev pub has_intrinsic_most : Track → Bool
has_intrinsic_most t = is_min_content_most t.rule.most || counts_as_max_content t.rule.most

-- a track whose max function counts as `max-content`
abbrev pub has_max_content_most : Track → Bool
has_max_content_most t = counts_as_max_content t.rule.most

-- the min function `auto`
abbrev pub is_auto_least : Least → Bool
is_auto_least least.Auto = true
is_auto_least other = false

-- the min function `max-content`
abbrev pub is_max_content_least : Least → Bool
is_max_content_least least.MaxContent = true
is_max_content_least other = false

-- a track with an intrinsic min function: one that is not fixed
abbrev pub has_intrinsic_least : Track → Bool
has_intrinsic_least t = is_none (fixed_least t.rule.least)

-- `min-content` or `max-content`
abbrev pub has_content_least : Track → Bool
has_content_least t = has_intrinsic_least t && not (is_auto_least t.rule.least)

-- a track with the min function `max-content`
abbrev pub has_max_content_least : Track → Bool
has_max_content_least t = is_max_content_least t.rule.least

-- `auto` or `max-content`
abbrev pub has_auto_or_max_content_least : Track → Bool
has_auto_or_max_content_least t = is_auto_least t.rule.least || is_max_content_least t.rule.least

-- A collapsed track is sized as one of the fixed size 0 (CSS Grid 2, 7.2.3.2).
abbrev pub counted_rule : Rule → Rule
counted_rule r = if r.collapsed then record { least = least.Fixed (pos 0); most = most.Fixed (pos 0); collapsed = true } else r

-- Initialised (CSS Grid 2, 12.4). The growth limit of a flexible track is without end (it could also be the base size: no
-- step tells the two apart).
abbrev pub initial : ℤ → Rule → Track
initial at r =
    let base = unwrap_or (fixed_least r.least) (pos 0) in
    record { at = at; rule = r; base = base; limit = option_map (int_max base) (fixed_most r.most); endless = false; incurred = pos 0; planned = pos 0 }

-- the tracks from this coordinate on
abbrev pub initialised : ℤ → List Rule → List Track
initialised at [] = []
initialised at (r ∷ rest) = initial at (counted_rule r) ∷ initialised (at +ℤ pos 1) rest

-- ---- items

-- whether an item spans a track
abbrev pub spans : Item → Track → Bool
spans i t = int_le i.span.start t.at && int_lt t.at i.span.end

-- the tracks that an item spans
abbrev pub spanned : Item → List Track → List Track
spanned i ts = filter (spans i) ts

-- the number of tracks that an item spans
abbrev pub span_length : Item → ℤ
span_length i = i.span.end -ℤ i.span.start

-- the gutters between the tracks of an item, of which none is collapsed
abbrev pub inner_gutters : ℤ → Item → ℤ
inner_gutters gap i = gap *ℤ (span_length i -ℤ pos 1)

-- whether an item spans a flexible track
abbrev pub crosses_flexible : List Track → Item → Bool
crosses_flexible ts i = list_any flexible (spanned i ts)

-- Whether the automatic minimum is content-based for these tracks (CSS Grid 2, 6.6): one has the min function `auto`, and the item
-- spans one track or crosses no flexible one.
abbrev pub is_content_based : List Track → Item → Bool
is_content_based ts i = list_any (λ (t : Track). is_auto_least t.rule.least) (spanned i ts) && (int_eq (span_length i) (pos 1) || not (crosses_flexible ts i))

-- the fixed max functions of the spanned tracks with the gutters between them, if all are fixed (CSS Grid 2, 6.6);
-- the argument of `fit-content` is none here (it could also count)
abbrev pub fixed_sum : ℤ → List Track → Item → Option ℤ
fixed_sum gap ts i = option_map (λ s. s +ℤ inner_gutters gap i) (sum_of_known (map (λ (t : Track). fixed_most t.rule.most) (spanned i ts)))

-- the automatic minimum, where it is content-based (CSS Grid 2, 6.6)
abbrev pub content_based : ℤ → List Track → Item → ℤ → ℤ → ℤ
content_based gap ts i size margins = int_max (pos 0) (at_most (option_map (λ s. s -ℤ margins) (fixed_sum gap ts i)) size)

-- the minimum contribution, which is known or goes by the automatic minimum (CSS Grid 2, 12.5)
abbrev pub minimum_by : ℤ → List Track → Item → Floor → ℤ
minimum_by gap ts i (Known x) = x
minimum_by gap ts i (Content size margins inner) =
    clamp (margins +ℤ int_max inner (if is_content_based ts i then content_based gap ts i size margins else pos 0))

-- The minimum contribution (CSS Grid 2, 12.5).
abbrev pub minimum : ℤ → List Track → Item → ℤ
minimum gap ts i = minimum_by gap ts i i.floor

-- a fixed max function, as which the argument of `fit-content` counts
abbrev pub capped_most : Most → Option ℤ
capped_most m = if is_some (fit_argument m) then fit_argument m else fixed_most m

-- A contribution limited by the max functions of the spanned tracks where all are fixed, and at least the minimum contribution
-- (CSS Grid 2, 12.5). The gutters are not counted here (they could be, as for the automatic minimum).
abbrev pub limited : ℤ → (Item → ℤ) → List Track → Item → ℤ
limited gap contribution ts i =
    int_max (minimum gap ts i) (at_most (sum_of_known (map (λ (t : Track). capped_most t.rule.most) (spanned i ts))) (contribution i))

-- the min-content contribution
abbrev pub low : Item → ℤ
low i = i.low

-- the max-content contribution
abbrev pub high : Item → ℤ
high i = i.high

-- ---- the kind of the space (CSS Grid 2, 12.2)

-- a definite space
abbrev pub is_definite : {axis : ℕ} → Space axis → Bool
is_definite (Definite a) = true
is_definite other = false

-- a max-content space
abbrev pub is_max_content : {axis : ℕ} → Space axis → Bool
is_max_content MaxContent = true
is_max_content other = false

-- what an item asks of an `auto` minimum: its minimum contribution, or its limited min-content contribution where the grid is
-- sized for its content (CSS Grid 2, 12.5)
abbrev pub auto_asks : {axis : ℕ} → Space axis → ℤ → List Track → Item → ℤ
auto_asks space gap ts i = if is_definite space then minimum gap ts i else limited gap low ts i

-- ---- items that span one track (CSS Grid 2, 12.5, step 2)

-- the items that span this track alone
abbrev pub alone : List Item → Track → List Item
alone items t = filter (λ (i : Item). int_eq i.span.start t.at && int_eq i.span.end (t.at +ℤ pos 1)) items

-- the base size by the items that span this track alone
abbrev pub base_for : {axis : ℕ} → Space axis → ℤ → List Track → List Item → Least → ℤ → ℤ
base_for space gap ts mine (least.Fixed x) base = base
base_for space gap ts mine least.MinContent base = greatest_with base (map low mine)
base_for space gap ts mine least.MaxContent base = greatest_with base (map high mine)
base_for space gap ts mine least.Auto base = greatest_with base (map (auto_asks space gap ts) mine)

-- the growth limit by at least one item
abbrev pub limit_by : List Item → Most → Option ℤ → Option ℤ
limit_by mine most.MinContent limit = Some (greatest_with (pos 0) (map low mine))
limit_by mine most.Auto limit = Some (greatest_with (pos 0) (map high mine))
limit_by mine most.MaxContent limit = Some (greatest_with (pos 0) (map high mine))
limit_by mine (most.Fit x) limit = Some (int_min x (greatest_with (pos 0) (map high mine)))
limit_by mine other limit = limit

-- the growth limit by these items; without items it stays
abbrev pub limit_for : List Item → Most → Option ℤ → Option ℤ
limit_for [] m limit = limit
limit_for (i ∷ rest) m limit = limit_by (i ∷ rest) m limit

-- a growth limit below the base size is raised to it
abbrev pub raise_limit : Track → Track
raise_limit t = let limit = option_map (int_max t.base) t.limit in record t { limit = limit }

-- the track by the items that span it alone
abbrev pub fit_items : {axis : ℕ} → Space axis → ℤ → List Track → List Item → Track → Track
fit_items space gap ts mine t =
    let base = base_for space gap ts mine t.rule.least t.base in
    let limit = limit_for mine t.rule.most t.limit in
    raise_limit (record t { base = base; limit = limit })

-- A flexible track is left out here: its items of span 1 are among those that cross flexible tracks.
abbrev pub fit_alone : {axis : ℕ} → Space axis → ℤ → List Item → List Track → List Track
fit_alone space gap items ts = map (λ (t : Track). if flexible t then t else fit_items space gap ts (alone items t) t) ts

-- ---- one step of distribution (modelled after CSS Grid 2, 12.5.1; own rule as a whole)

-- A step that raises base sizes.
pub record BaseStep : Type 0 where
  -- the items are those that cross a flexible track
  pub crossing : Bool
  -- the tracks that are affected
  pub affected : Track → Bool
  -- those of them that receive beyond their limits
  pub receives : Track → Bool
  -- what an item asks for: one of its contributions
  pub asks : List Track → Item → ℤ

-- A step that raises growth limits.
pub record LimitStep : Type 0 where
  -- the items are those that cross a flexible track
  pub crossing : Bool
  -- the tracks that are affected
  pub affected : Track → Bool
  -- the growth limits that rise before the others do: those that had no end and, in the second of the two steps, those that are
  -- infinitely growable
  pub rises : Track → Bool
  -- the end of a growth limit that rises: none in the first step, the argument of `fit-content` in the second
  pub end : Track → Option ℤ
  -- what an item asks for: one of its contributions
  pub asks : Item → ℤ

-- the base size
abbrev pub base_of : Track → ℤ
base_of t = t.base

-- a growth limit without end counts as the base size
abbrev pub limit_of : Track → ℤ
limit_of t = unwrap_or t.limit t.base

-- the base size with what the item at hand has given
abbrev pub base_so_far : Track → ℤ
base_so_far t = t.base +ℤ t.incurred

-- the growth limit with what the item at hand has given
abbrev pub limit_so_far : Track → ℤ
limit_so_far t = limit_of t +ℤ t.incurred

-- The space that an item needs for what it asks, beyond the affected sizes of its tracks and the gutters between them.
abbrev pub needed : (Track → ℤ) → ℤ → ℤ → List Track → Item → ℤ
needed size gap asked ts i = clamp (int_max (pos 0) (asked -ℤ sum_of (map size (spanned i ts)) -ℤ inner_gutters gap i))

-- the room from a size to an end
abbrev pub up_to : ℤ → Option ℤ → Option ℤ
up_to size None = None
up_to size (Some end) = let room = end -ℤ size in Some room

-- the lesser of two rooms
abbrev pub lesser : Option ℤ → Option ℤ → Option ℤ
lesser None b = b
lesser (Some a) b = Some (at_most b a)

-- the room for those tracks, and none for the others
abbrev pub only : (Track → Bool) → (Track → Option ℤ) → Track → Option ℤ
only p room t = if p t then room t else Some (pos 0)

-- a track that is affected and that the item spans
abbrev pub affected_by : (Track → Bool) → Item → Track → Bool
affected_by affected i t = affected t && spans i t

-- up to limits: of base sizes, up to the growth limit, and for `fit-content` at most up to its argument
abbrev pub base_to_limit : Track → Option ℤ
base_to_limit t = lesser (up_to (base_so_far t) t.limit) (up_to (base_so_far t) (fit_argument t.rule.most))

-- not affected tracks: up to the growth limit; one without end has room without end, also under `fit-content` (its argument
-- could also be a cap here)
abbrev pub other_to_limit : Track → Option ℤ
other_to_limit t = up_to (base_so_far t) t.limit

-- beyond limits: without end, but for `fit-content` up to its argument
abbrev pub base_to_argument : Track → Option ℤ
base_to_argument t = up_to (base_so_far t) (fit_argument t.rule.most)

-- room without end
abbrev pub without_end : Track → Option ℤ
without_end t = None

-- a track that receives beyond limits from this item
abbrev pub receiving : BaseStep → Item → Track → Bool
receiving s i t = affected_by s.affected i t && s.receives t

-- a receiver that is no `fit-content` track
abbrev pub receiving_open : BaseStep → Item → Track → Bool
receiving_open s i t = receiving s i t && is_none (fit_argument t.rule.most)

-- the receivers that are no `fit-content` tracks or, if there are none, all affected tracks of the item
abbrev pub receiving_last : BaseStep → Item → List Track → Track → Bool
receiving_last s i ts = if list_any (receiving_open s i) ts then receiving_open s i else affected_by s.affected i

-- Base sizes: to the affected tracks up to limits, to the other tracks, to the receivers, and last without limit.
abbrev pub base_rooms : BaseStep → Item → List Track → List (Track → Option ℤ)
base_rooms s i ts =
    only (affected_by s.affected i) base_to_limit
    ∷ only (λ t. spans i t && not (s.affected t)) other_to_limit
    ∷ only (receiving s i) base_to_argument
    ∷ only (receiving_last s i ts) without_end
    ∷ []

-- the room of a growth limit that rises
abbrev pub limit_room : LimitStep → Track → Option ℤ
limit_room s t = up_to (limit_so_far t) (s.end t)

-- up to limits: only those that rise first have room
abbrev pub limit_to_limit : LimitStep → Track → Option ℤ
limit_to_limit s t = if s.rises t then limit_room s t else Some (pos 0)

-- Growth limits: to the affected tracks up to limits, and then to all of them. What then remains is dropped, so `fit-content`
-- tracks alone are not lifted past their arguments (it could also be given without limit, as to base sizes).
abbrev pub limit_rooms : LimitStep → Item → List (Track → Option ℤ)
limit_rooms s i = only (affected_by s.affected i) (limit_to_limit s) ∷ only (affected_by s.affected i) (limit_room s) ∷ []

-- a track with this share more from the item at hand
abbrev pub incur : Track → ℤ → Track
incur t share = let sum = t.incurred +ℤ share in record t { incurred = sum }

-- a space handed out in turns: in equal parts as far as there is room, and what remains to the next rooms
abbrev pub in_turns : List (Track → Option ℤ) → ℤ → List Track → List Track
in_turns [] space ts = ts
in_turns (room ∷ rooms) space ts =
    let each = map room ts in
    let next = zipped incur ts (shares space each) in
    let left = unshared space each in
    in_turns rooms left next

-- the factor of a track that is affected by the item, and 0 for another
abbrev pub crossing_weight : (Track → Bool) → Item → Track → ℕ
crossing_weight affected i t = if affected_by affected i t then unwrap_or (factor_of t.rule.most) 0 else 0

-- Items that cross a flexible track: the whole space by the factors where they sum to more than 0, else in equal parts.
abbrev pub by_factors : (Track → Bool) → Item → ℤ → List Track → List Track
by_factors affected i space ts =
    let weights = map (crossing_weight affected i) ts in
    if total_of weights == 0
    then in_turns (only (affected_by affected i) without_end ∷ []) space ts
    else zipped incur ts (apportioned_whole space weights)

-- the tracks with what the item at hand gives their base sizes (CSS Grid 2, 12.5.1)
abbrev pub base_incurred_by : BaseStep → Item → ℤ → List Track → List Track
base_incurred_by s i space ts = if s.crossing then by_factors s.affected i space ts else in_turns (base_rooms s i ts) space ts

-- the tracks with what the item at hand gives their growth limits (CSS Grid 2, 12.5.1)
abbrev pub limit_incurred_by : LimitStep → Item → ℤ → List Track → List Track
limit_incurred_by s i space ts = if s.crossing then by_factors s.affected i space ts else in_turns (limit_rooms s i) space ts

-- The planned increase is the greatest that one of the items gave (CSS Grid 2, 12.5.1).
abbrev pub plan : Track → Track
plan t = let greatest = int_max t.planned t.incurred in record t { planned = greatest; incurred = pos 0 }

-- base sizes: an item of the group gives something where it spans an affected track
abbrev pub base_planned_by : BaseStep → ℤ → List Track → Item → List Track
base_planned_by s gap ts i =
    if list_any (affected_by s.affected i) ts
    then map plan (base_incurred_by s i (needed base_of gap (s.asks ts i) ts i) ts)
    else ts

-- base sizes after all items of the group, one after another
abbrev pub base_planned_by_all : BaseStep → ℤ → List Item → List Track → List Track
base_planned_by_all s gap [] ts = ts
base_planned_by_all s gap (i ∷ rest) ts = base_planned_by_all s gap rest (base_planned_by s gap ts i)

-- growth limits: an item of the group gives something where it spans an affected track
abbrev pub limit_planned_by : LimitStep → ℤ → List Track → Item → List Track
limit_planned_by s gap ts i =
    if list_any (affected_by s.affected i) ts
    then map plan (limit_incurred_by s i (needed limit_of gap (s.asks i) ts i) ts)
    else ts

-- growth limits after all items of the group, one after another
abbrev pub limit_planned_by_all : LimitStep → ℤ → List Item → List Track → List Track
limit_planned_by_all s gap [] ts = ts
limit_planned_by_all s gap (i ∷ rest) ts = limit_planned_by_all s gap rest (limit_planned_by s gap ts i)

-- a base size is raised by its planned increase
abbrev pub raised_base : Track → Track
raised_base t = let base = clamp (t.base +ℤ t.planned) in record t { base = base; planned = pos 0 }

-- a growth limit is raised by its planned increase; one without end becomes the base size and the increase
abbrev pub raised_limit : Track → Track
raised_limit t = let limit = clamp (limit_of t +ℤ t.planned) in record t { limit = Some limit; planned = pos 0 }

-- The growth limit of a track that some item of the group affects is raised.
abbrev pub raised_limit_by : (Track → Bool) → List Item → Track → Track
raised_limit_by affected items t = if list_any (λ i. affected_by affected i t) items then raised_limit t else t

-- One step on base sizes for a group of items.
abbrev pub base_distributed : BaseStep → ℤ → List Item → List Track → List Track
base_distributed s gap items ts = map raised_base (base_planned_by_all s gap items ts)

-- One step on growth limits for a group of items.
abbrev pub limit_distributed : LimitStep → ℤ → List Item → List Track → List Track
limit_distributed s gap items ts = map (raised_limit_by s.affected items) (limit_planned_by_all s gap items ts)

-- ---- the steps for a group of items (CSS Grid 2, 12.5, step 3)

-- among the tracks of the step only the flexible ones are affected by items that cross a flexible track
abbrev pub in_group : Bool → (Track → Bool) → Track → Bool
in_group crossing p t = p t && (flexible t || not crossing)

-- a step for base sizes
abbrev pub base_step : Bool → (Track → Bool) → (Track → Bool) → (List Track → Item → ℤ) → BaseStep
base_step crossing affected receives asks = record { crossing = crossing; affected = in_group crossing affected; receives = receives; asks = asks }

-- a growth limit that had no end
abbrev pub is_without_limit : Track → Bool
is_without_limit t = is_none t.limit

-- a growth limit that had no end, or that is infinitely growable
abbrev pub is_endless : Track → Bool
is_endless t = is_none t.limit || t.endless

-- the argument of a `fit-content` track
abbrev pub argument_of : Track → Option ℤ
argument_of t = fit_argument t.rule.most

-- the step for growth limits by min-content contributions
abbrev pub low_limit_step : Bool → LimitStep
low_limit_step crossing = record
    { crossing = crossing; affected = in_group crossing has_intrinsic_most; rises = is_without_limit; end = without_end; asks = low }

-- the step for growth limits by max-content contributions
abbrev pub high_limit_step : Bool → LimitStep
high_limit_step crossing = record { crossing = crossing; affected = in_group crossing has_max_content_most; rises = is_endless; end = argument_of; asks = high }

-- infinitely growable in the next step: its growth limit had no end before this one, and has one after it
abbrev pub mark_endless : Track → Track → Track
mark_endless before after = record after { endless = is_none before.limit && is_some after.limit }

-- growth limits for min-content contributions, with the marks for the next step
abbrev pub low_limits : Bool → ℤ → List Item → List Track → List Track
low_limits crossing gap items ts = zipped mark_endless ts (limit_distributed (low_limit_step crossing) gap items ts)

-- growth limits for max-content contributions
abbrev pub high_limits : Bool → ℤ → List Item → List Track → List Track
high_limits crossing gap items ts = limit_distributed (high_limit_step crossing) gap items ts

-- the steps for base sizes, in their order
abbrev pub base_steps : {axis : ℕ} → Space axis → ℤ → Bool → List BaseStep
base_steps space gap crossing =
    base_step crossing has_intrinsic_least has_intrinsic_most (auto_asks space gap)
    ∷ base_step crossing has_content_least has_intrinsic_most (λ ts. low)
    ∷ (if is_max_content space then base_step crossing has_auto_or_max_content_least has_max_content_most (limited gap high) ∷ [] else [])
    ++ base_step crossing has_max_content_least has_max_content_most (λ ts. high)
    ∷ []

-- these steps, one after another
abbrev pub each_distributed : List BaseStep → ℤ → List Item → List Track → List Track
each_distributed [] gap items ts = ts
each_distributed (s ∷ rest) gap items ts = each_distributed rest gap items (base_distributed s gap items ts)

-- The six steps for a group of items.
unfoldable pub group_fitted : {axis : ℕ} → Space axis → ℤ → Bool → List Item → List Track → List Track
group_fitted space gap crossing items ts =
    let bases = each_distributed (base_steps space gap crossing) gap items ts in
    let raised = map raise_limit bases in
    let lows = low_limits crossing gap items raised in
    high_limits crossing gap items lows

-- the items of one span that cross no flexible track
abbrev pub of_span : List Track → List Item → ℕ → List Item
of_span ts items n = filter (λ i. int_eq (span_length i) (pos n) && not (crosses_flexible ts i)) items

-- the steps for a group, where some item is in it; a group that no item is in is passed over (see the laws)
abbrev pub some_fitted : {axis : ℕ} → Space axis → ℤ → List Item → List Track → List Track
some_fitted space gap [] ts = ts
some_fitted space gap (i ∷ rest) ts = group_fitted space gap false (i ∷ rest) ts

-- the groups of so many spans, from this one up
unfoldable pub spans_fitted : {axis : ℕ} → Space axis → ℤ → List Item → ℕ → ℕ → List Track → List Track
spans_fitted space gap items zero n ts = ts
spans_fitted space gap items (suc more) n ts = spans_fitted space gap items more (n + 1) (some_fitted space gap (of_span ts items n) ts)

-- the growth limits that still have no end become the base size (CSS Grid 2, 12.5, step 5)
abbrev pub close_limit : Track → Track
close_limit t = let limit = unwrap_or t.limit t.base in record t { limit = Some limit }

-- Intrinsic sizes (CSS Grid 2, 12.5): items of span 1, then those of span 2 and so on that cross no flexible track, then those that
-- cross one as one group (this group is an own rule).
abbrev pub content_sized : {axis : ℕ} → Space axis → ℤ → List Item → List Track → List Track
content_sized space gap items ts =
    let singles = fit_alone space gap items ts in
    let spanning = spans_fitted space gap items (length ts) 2 singles in
    let crossing = filter (crosses_flexible ts) items in
    let all = group_fitted space gap true crossing spanning in
    map close_limit all

-- no growth limit below the base size
abbrev pub IsReached : ℤ → Option ℤ → Type 0
IsReached base None = Unit {0}
IsReached base (Some limit) = base ≤ℤ limit

-- a track between two groups: its base size is in the range of lengths and not above its growth limit, and no increase is planned
pub record IsSettled (t : Track) : Type 0 where
  pub base : IsUnits t.base
  pub limit : IsReached t.base t.limit
  pub planned : t.planned ≡ pos 0

-- each of these tracks
abbrev pub AreSettled : List Track → Type 0
AreSettled [] = Unit {0}
AreSettled (t ∷ ts) = IsSettled t × AreSettled ts

-- a track without its mark, which the next group makes anew before it reads it
abbrev pub unmarked : Track → Track
unmarked t = record t { endless = false }

-- ---- the rest of the space (CSS Grid 2, 12.6 to 12.8)

-- the gutters between the tracks that are not collapsed (CSS Grid 2, 7.2.3.2)
abbrev pub all_gutters : ℤ → List Track → ℤ
all_gutters gap ts = gap *ℤ pos (length (filter (λ (t : Track). not t.rule.collapsed) ts) - 1)

-- the base sizes and the gutters
abbrev pub total : ℤ → List Track → ℤ
total gap ts = sum_of (map (λ (t : Track). t.base) ts) +ℤ all_gutters gap ts

-- what a definite space leaves
abbrev pub free_of : ℤ → ℤ → List Track → ℤ
free_of gap a ts = clamp (int_max (pos 0) (a -ℤ total gap ts))

-- a track whose base size grows by a share
abbrev pub grow_base : Track → ℤ → Track
grow_base t share = let base = clamp (t.base +ℤ share) in record t { base = base }

-- base sizes grown by a space in equal parts, as far as there is room
abbrev pub grown : (Track → Option ℤ) → ℤ → List Track → List Track
grown room space ts = zipped grow_base ts (shares space (map room ts))

-- the room up to the growth limit
abbrev pub to_limit : Track → Option ℤ
to_limit t = up_to t.base t.limit

-- a track whose base size is its growth limit
abbrev pub full : Track → Track
full t = let base = unwrap_or t.limit t.base in record t { base = base }

-- under a max-content space: each base size becomes its growth limit, unless the total then passes the declared maximum: then what
-- that leaves is handed out up to the limits (it could also be without limit)
abbrev pub maximised_within : Option ℤ → ℤ → List Track → List Track
maximised_within None gap ts = map full ts
maximised_within (Some most) gap ts = if int_lt most (total gap (map full ts)) then grown to_limit (free_of gap most ts) ts else map full ts

-- Maximised (CSS Grid 2, 12.6).
abbrev pub maximised : {axis : ℕ} → Space axis → Option ℤ → ℤ → List Track → List Track
maximised (Definite a) most gap ts = grown to_limit (free_of gap a ts) ts
maximised MinContent most gap ts = ts
maximised MaxContent most gap ts = maximised_within most gap ts

-- a track as the size of an `fr` sees it
abbrev pub fr_row : Track → FrRow
fr_row t = record { base = t.base; factor = factor_of t.rule.most }

-- the fraction of a definite space: 0 where none of it is free
abbrev pub definite_fraction : ℤ → ℤ → List Track → Fraction
definite_fraction gap a ts = if int_lt (pos 0) (free_of gap a ts) then found (map fr_row ts) (all_gutters gap ts) a else no_fraction

-- the greater of two fractions
abbrev pub greater : Fraction → Fraction → Fraction
greater f g = if int_lt (f.space *ℤ pos g.weight) (g.space *ℤ pos f.weight) then g else f

-- the fraction by which a flexible track keeps its base size: over its factor, or over 1 where that is less
abbrev pub base_fraction : Track → Fraction
base_fraction t = record { space = t.base; weight = max 1000 (unwrap_or (factor_of t.rule.most) 0) }

-- the fraction by which the tracks of an item have room for its max-content contribution
abbrev pub item_fraction : ℤ → List Track → Item → Fraction
item_fraction gap ts i = found (map fr_row (spanned i ts)) (inner_gutters gap i) i.high

-- the greatest of some fractions, or none
abbrev pub greatest_fraction : List Fraction → Fraction
greatest_fraction [] = no_fraction
greatest_fraction (f ∷ rest) = greater f (greatest_fraction rest)

-- The fraction (CSS Grid 2, 12.7).
abbrev pub fraction_for : {axis : ℕ} → Space axis → ℤ → List Item → List Track → Fraction
fraction_for (Definite a) gap items ts = definite_fraction gap a ts
fraction_for MinContent gap items ts = no_fraction
fraction_for MaxContent gap items ts =
    greatest_fraction (map base_fraction (filter flexible ts) ++ map (item_fraction gap ts) (filter (crosses_flexible ts) items))

-- a track with the base size that a fraction gave it
abbrev pub with_base : Track → FrRow → Track
with_base t r = record t { base = r.base }

-- the tracks with the sizes that a fraction gives
abbrev pub expanded_by : Fraction → List Track → List Track
expanded_by f ts = zipped with_base ts (expanded f (map fr_row ts))

-- Under a max-content space the step is done again, from the sizes as they were, with the total limited by the declared lengths as
-- a definite space, where that is another (it could also be done on the sizes that it gave). The fraction is 0 there where nothing
-- is free.
abbrev pub expanded_within : Option ℤ → Option ℤ → ℤ → List Track → List Track → List Track
expanded_within min most gap ts done =
    let bounded = at_least min (at_most most (total gap done)) in
    if int_eq bounded (total gap done) then done else expanded_by (definite_fraction gap bounded ts) ts

-- Flexible tracks expanded (CSS Grid 2, 12.7).
abbrev pub flexed : {axis : ℕ} → Fit axis → List Item → List Track → List Track
flexed fit items ts =
    let done = expanded_by (fraction_for fit.space fit.gap items ts) ts in
    if is_max_content fit.space then expanded_within fit.min fit.max fit.gap ts done else done

-- the space that `auto` tracks are stretched over: a definite space, else the declared minimum
abbrev pub stretch_space : {axis : ℕ} → Space axis → Option ℤ → Option ℤ
stretch_space (Definite a) min = Some a
stretch_space MinContent min = min
stretch_space MaxContent min = min

-- room without end for the max function `auto`, and none for another
abbrev pub auto_room : Track → Option ℤ
auto_room t = if is_auto_most t.rule.most then None else Some (pos 0)

-- `auto` tracks that share what this space leaves; without a space nothing is done
abbrev pub stretched_over : Option ℤ → ℤ → List Track → List Track
stretched_over None gap ts = ts
stretched_over (Some a) gap ts = grown auto_room (free_of gap a ts) ts

-- `auto` tracks stretched (CSS Grid 2, 12.8).
abbrev pub stretched : {axis : ℕ} → Fit axis → List Track → List Track
stretched fit ts = if fit.stretch then stretched_over (stretch_space fit.space fit.min) fit.gap ts else ts

-- ---- the whole (CSS Grid 2, 12.3)

-- the tracks once sized
unfoldable pub sized : {axis : ℕ} → List Rule → ℤ → List Item → Fit axis → List Track
sized rules first items fit =
    let start = initialised first rules in
    let content = content_sized fit.space fit.gap items start in
    let most = maximised fit.space fit.max fit.gap content in
    let flex = flexed fit items most in
    stretched fit flex

-- The sizes of the tracks, the first of which lies at this coordinate, in their order.
abbrev pub track_sizes : {axis : ℕ} → List Rule → ℤ → List Item → Fit axis → List ℤ
track_sizes rules first items fit = map (λ (t : Track). t.base) (sized rules first items fit)

-- A track size that words read as is in range.
use Rattle.std.proofs.Common.{◌≡◌, refl, ap, ◌∙◌, ℕ, zero, suc, ℤ, pos, int_le, Bool, true, false, ◌&&◌, List, [], ◌∷◌, Option, Some, None, if◌then◌else◌}
use Rattle.std.specs.Prelude.{IfSome, codes, ⊤}
use Rattle.std.specs.Option.{option_map}
use Rattle.std.specs.Str.{bytes_eq}
use Rattle.style_types.specs.declared.track.TrackFn.{TrackFn}
use Rattle.style_types.specs.declared.unit.Unit.{Unit}
use Rattle.track_text.specs.declared.side.Side.{Side}
use Rattle.track_text.specs.declared.side.Side.TheVariants as side
use Rattle.track_text.specs.declared.side.Track.{Track}
use Rattle.track_text.specs.Words.{Word, Form, bind, with_first, with_first_taken, one_more_taken, all_of, up_to}
use Rattle.track_text.specs.Values.{ends_in, flex_of, length_in, percentage_of}
use Rattle.track_text.specs.TrackSizes.{length_side, length_or_percentage, breadth_of, track_alone, minmax, minmax_after, fit_to, fit_after, track_first}
use Rattle.track_text.specs.Sides.{breadth_of_side, size_of_track, side_units, fit_units, track_units, sizes_of, units_before}
use Rattle.track_text.specs.Templates.{some_tracks, auto_tracks}
use Rattle.placing.specs.Ranges.{is_breadth, is_track, are_tracks}
use Rattle.page_tree.specs.Ranges.{is_unit, breadth_units, tracks_units}
use Rattle.page_tree.specs.Ranges.{fit_units as taken_fit, track_units as taken_track}
use Rattle.page_tree.proofs.ToldOptions.{some_if, some_where, some_map, some_bind, some_weaker, some_any, Each, and_true}
use Rattle.page_tree.proofs.ToldLengths.{IsLength, length_read, test_low}

-- ---- sides

abbrev pub IsSide : Side → Type 0
IsSide (side.Length px unit) = (int_le (pos 0) px ≡ true) × (is_unit unit ≡ true)
IsSide s = ⊤

length_in_side : (read : ℤ × Unit) → IsLength false read → IsSide (length_side read)
length_in_side read h = (test_low read.0 (h.edge refl).low, h.unit refl)

length_or_in : (relative : Bool) (word : Word) → IfSome (length_or_percentage relative false word) IsSide
length_or_in relative word =
    some_if IsSide (ends_in (codes "%") word) (option_map side.Percent (percentage_of word)) (option_map length_side (length_in relative false word))
    (some_map IsSide side.Percent (percentage_of word) (some_any (λ t. IsSide (side.Percent t)) (percentage_of word) (λ t. tt)))
    (some_map IsSide length_side (length_in relative false word)
    (some_weaker (IsLength false) (λ read. IsSide (length_side read)) (length_in relative false word) length_in_side (length_read relative false word)))

breadth_in : (relative : Bool) (word : Word) → IfSome (breadth_of relative word) IsSide
breadth_in relative word = by_tests (bytes_eq word (codes "auto")) (bytes_eq word (codes "min-content")) (bytes_eq word (codes "max-content")) (ends_in (codes "fr") word)
  where
    by_tests : (a b c d : Bool)
        → IfSome (if a then Some side.Auto else if b then Some side.MinContent else if c then Some side.MaxContent else if d then option_map side.Flex (flex_of word) else length_or_percentage relative false word) IsSide
    by_tests true b c d = tt
    by_tests false true c d = tt
    by_tests false false true d = tt
    by_tests false false false true = some_map IsSide side.Flex (flex_of word) (some_any (λ f. IsSide (side.Flex f)) (flex_of word) (λ f. tt))
    by_tests false false false false = length_or_in relative word

-- ---- track sizes

pub record IsTrack (t : Track) : Type 0 where
  pub least : IsSide t.least
  pub most : IsSide t.most

alone_in : (b : Side) → IsSide b → IsTrack (track_alone b)
alone_in (side.Length px unit) h = record { least = h; most = h }
alone_in (side.Percent t) h = record { least = tt; most = tt }
alone_in side.Auto h = record { least = tt; most = tt }
alone_in side.MinContent h = record { least = tt; most = tt }
alone_in side.MaxContent h = record { least = tt; most = tt }
alone_in (side.Flex f) h = record { least = tt; most = tt }

minmax_in : (least most : Side) → IsSide least → IsSide most → IfSome (minmax least most) IsTrack
minmax_in (side.Flex f) most l m = tt
minmax_in (side.Length px unit) most l m = record { least = l; most = m }
minmax_in (side.Percent t) most l m = record { least = tt; most = m }
minmax_in side.Auto most l m = record { least = tt; most = m }
minmax_in side.MinContent most l m = record { least = tt; most = m }
minmax_in side.MaxContent most l m = record { least = tt; most = m }

minmax_after_in : (relative : Bool) (words : List Word) → IfSome (minmax_after relative words) IsTrack
minmax_after_in relative [] = tt
minmax_after_in relative (a ∷ []) = tt
minmax_after_in relative (a ∷ b ∷ []) = tt
minmax_after_in relative (a ∷ b ∷ c ∷ []) = tt
minmax_after_in relative (a ∷ b ∷ c ∷ d ∷ []) = tt
minmax_after_in relative (opening ∷ least ∷ comma ∷ most ∷ close ∷ words) =
    some_where IsTrack (bytes_eq opening (codes "(") && (bytes_eq comma (codes ",") && bytes_eq close (codes ")")))
    (bind (breadth_of relative least) (λ least. bind (breadth_of relative most) (λ most. minmax least most)))
    (λ _.
    some_bind IsTrack (breadth_of relative least) (λ least. bind (breadth_of relative most) (λ most. minmax least most))
    (some_weaker IsSide (λ least. IfSome (bind (breadth_of relative most) (λ most. minmax least most)) IsTrack) (breadth_of relative least) (λ one h.
    some_bind IsTrack (breadth_of relative most) (λ most. minmax one most)
    (some_weaker IsSide (λ most. IfSome (minmax one most) IsTrack) (breadth_of relative most) (λ other k. minmax_in one other h k) (breadth_in relative most)))
    (breadth_in relative least)))

fit_after_in : (relative : Bool) (words : List Word) → IfSome (fit_after relative words) IsTrack
fit_after_in relative [] = tt
fit_after_in relative (a ∷ []) = tt
fit_after_in relative (a ∷ b ∷ []) = tt
fit_after_in relative (opening ∷ argument ∷ close ∷ words) =
    some_where IsTrack (bytes_eq opening (codes "(") && bytes_eq close (codes ")")) (option_map fit_to (length_or_percentage relative true argument))
    (λ _. some_map IsTrack fit_to (length_or_percentage relative true argument) (some_any (λ b. IsTrack (fit_to b)) (length_or_percentage relative true argument) (λ b. record { least = tt; most = tt })))

abbrev pub IsTrackRead : Track × ℕ → Type 0
IsTrackRead read = IsTrack read.0

pub track_read : (relative : Bool) (words : List Word) → IfSome (track_first relative words) IsTrackRead
track_read relative [] = tt
track_read relative (word ∷ words) =
    some_if IsTrackRead (bytes_eq word (codes "minmax")) (option_map (λ track. (track, 5)) (minmax_after relative words))
    (if bytes_eq word (codes "fit-content") then option_map (λ track. (track, 3)) (fit_after relative words) else option_map (λ b. (track_alone b, 0)) (breadth_of relative word))
    (some_map IsTrackRead (λ track. (track, 5)) (minmax_after relative words) (minmax_after_in relative words))
    (some_if IsTrackRead (bytes_eq word (codes "fit-content")) (option_map (λ track. (track, 3)) (fit_after relative words)) (option_map (λ b. (track_alone b, 0)) (breadth_of relative word))
    (some_map IsTrackRead (λ track. (track, 3)) (fit_after relative words) (fit_after_in relative words))
    (some_map IsTrackRead (λ b. (track_alone b, 0)) (breadth_of relative word)
    (some_weaker IsSide (λ b. IsTrack (track_alone b)) (breadth_of relative word) alone_in (breadth_in relative word))))

-- ---- one after another

abbrev pub IsReadBy : {A : Type 0} → (A → Type 0) → Form A → Type 0
IsReadBy P form = (words : List Word) → IfSome (form words) (λ read. P read.0)

pub all_read : {A : Type 0} (P : A → Type 0) (form : Form A) (taken : ℕ) (words : List Word) → IsReadBy P form → IfSome (all_of form taken words) (Each P)
all_read P form taken [] h = tt
all_read P form (suc taken) (word ∷ words) h = all_read P form taken words h
all_read {A = A} P form zero (word ∷ words) h = by_first (form (word ∷ words)) (h (word ∷ words)) (λ (taken : ℕ). all_read P form taken words h)
  where
    by_first : (o : Option (A × ℕ)) → IfSome o (λ read. P read.0) → ((taken : ℕ) → IfSome (all_of form taken words) (Each P))
        → IfSome (bind o (λ read. option_map (with_first read.0) (all_of form read.1 words))) (Each P)
    by_first None first rest = tt
    by_first (Some read) first rest =
        some_map (Each P) (with_first read.0) (all_of form read.1 words)
        (some_weaker (Each P) (λ more. P read.0 × Each P more) (all_of form read.1 words) (λ more k. (first, k)) (rest read.1))

pub up_to_read : {A : Type 0} (P : A → Type 0) (close : Word) (form : Form A) (taken : ℕ) (words : List Word) → IsReadBy P form → IfSome (up_to close form taken words) (λ read. Each P read.0)
up_to_read P close form taken [] h = tt
up_to_read P close form (suc taken) (word ∷ words) h = some_map (λ read. Each P read.0) one_more_taken (up_to close form taken words) (up_to_read P close form taken words h)
up_to_read {A = A} P close form zero (word ∷ words) h =
    some_if (λ read. Each P read.0) (bytes_eq word close) (Some ([], 1)) (bind (form (word ∷ words)) (λ read. option_map (with_first_taken read.0) (up_to close form read.1 words)))
    tt (by_first (form (word ∷ words)) (h (word ∷ words)) (λ (taken : ℕ). up_to_read P close form taken words h))
  where
    by_first : (o : Option (A × ℕ)) → IfSome o (λ read. P read.0) → ((taken : ℕ) → IfSome (up_to close form taken words) (λ read. Each P read.0))
        → IfSome (bind o (λ read. option_map (with_first_taken read.0) (up_to close form read.1 words))) (λ read. Each P read.0)
    by_first None first rest = tt
    by_first (Some read) first rest =
        some_map (λ more. Each P more.0) (with_first_taken read.0) (up_to close form read.1 words)
        (some_weaker (λ more. Each P more.0) (λ more. P read.0 × Each P more.0) (up_to close form read.1 words) (λ more k. (first, k)) (rest read.1))

-- ---- as values of a style

side_breadth : (s : Side) → IsSide s → is_breadth (breadth_of_side s) ≡ true
side_breadth (side.Length px unit) h = h.0
side_breadth (side.Percent t) h = refl
side_breadth side.Auto h = refl
side_breadth side.MinContent h = refl
side_breadth side.MaxContent h = refl
side_breadth (side.Flex f) h = refl

pub tracks_are : (tracks : List Track) → Each IsTrack tracks → are_tracks (sizes_of tracks) ≡ true
tracks_are [] h = refl
tracks_are (track ∷ tracks) h =
    and_true (is_track (size_of_track track)) (are_tracks (sizes_of tracks))
    (and_true (is_breadth (breadth_of_side track.least)) (is_breadth (breadth_of_side track.most)) (side_breadth track.least h.0.least) (side_breadth track.most h.0.most))
    (tracks_are tracks h.1)

-- ---- their units, which are those of their lengths one after another

side_taken : (s : Side) (units : List Unit) → IsSide s → breadth_units (breadth_of_side s) (side_units s units) ≡ (true, units)
side_taken (side.Length px unit) units h = ap (λ b. (b, units)) h.1
side_taken (side.Percent t) units h = refl
side_taken side.Auto units h = refl
side_taken side.MinContent units h = refl
side_taken side.MaxContent units h = refl
side_taken (side.Flex f) units h = refl

fit_taken : (fit : Option Side) (units : List Unit) → taken_fit (option_map breadth_of_side fit) (fit_units fit units) ≡ units
fit_taken None units = refl
fit_taken (Some (side.Length px unit)) units = refl
fit_taken (Some (side.Percent t)) units = refl
fit_taken (Some side.Auto) units = refl
fit_taken (Some side.MinContent) units = refl
fit_taken (Some side.MaxContent) units = refl
fit_taken (Some (side.Flex f)) units = refl

abbrev Taken : Type 0
Taken = Bool × List Unit

chained : (first : Taken) (next : List Unit → Taken) (last : List Unit → List Unit) (a b rest : List Unit) → first ≡ (true, a) → next a ≡ (true, b) → last b ≡ rest
    → ◌≡◌ {A = Taken} (first.0 && (next first.1).0, last (next first.1).1) (true, rest)
chained first next last a b rest e f g =
    ap (λ (r : Taken). (r.0 && (next r.1).0, last (next r.1).1)) e ∙ ap (λ (r : Taken). (r.0, last r.1)) f ∙ ap (λ (l : List Unit). (true, l)) g

track_taken : (track : Track) (units : List Unit) → IsTrack track → taken_track (size_of_track track) (track_units track units) ≡ (true, units)
track_taken track units h =
    let fit = fit_units track.fit units in
    let most = side_units track.most fit in
    chained (breadth_units (breadth_of_side track.least) (side_units track.least most)) (breadth_units (breadth_of_side track.most)) (taken_fit (option_map breadth_of_side track.fit)) most fit units
    (side_taken track.least most h.least) (side_taken track.most fit h.most) (fit_taken track.fit units)

pub tracks_taken : (tracks : List Track) (units : List Unit) → Each IsTrack tracks → tracks_units (sizes_of tracks) (units_before tracks units) ≡ (true, units)
tracks_taken [] units h = refl
tracks_taken (track ∷ tracks) units h =
    chained (taken_track (size_of_track track) (track_units track (units_before tracks units))) (tracks_units (sizes_of tracks)) (λ left. left) (units_before tracks units) units units
    (track_taken track (units_before tracks units) h.0) (tracks_taken tracks units h.1) refl

-- ---- track sizes alone

pub record AreSizes (read : List TrackFn × List Unit) : Type 0 where
  pub tracks : are_tracks read.0 ≡ true
  pub units : (tracks_units read.0 read.1).0 ≡ true

pub auto_read : (relative : Bool) (words : List Word) → IfSome (auto_tracks relative words) AreSizes
auto_read relative words =
    some_bind AreSizes (all_of (track_first relative) 0 words) some_tracks
    (some_weaker (Each IsTrack) (λ tracks. IfSome (some_tracks tracks) AreSizes) (all_of (track_first relative) 0 words) some_in (all_read IsTrack (track_first relative) 0 words (track_read relative)))
  where
    some_in : (tracks : List Track) → Each IsTrack tracks → IfSome (some_tracks tracks) AreSizes
    some_in [] h = tt
    some_in (track ∷ tracks) h = record { tracks = tracks_are (track ∷ tracks) h; units = ap (λ (r : Taken). r.0) (tracks_taken (track ∷ tracks) [] h) }

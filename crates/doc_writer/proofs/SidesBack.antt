-- Track sizes as they are written, read again.
use Rattle.std.proofs.Common.{◌≡◌, ℕ, zero, suc, ℤ, pos, ◌/◌, ◌^◌, ◌<◌, ◌≤◌, Bool, true, false, ◌&&◌, List, [], ◌∷◌, ◌++◌, is_some, refl, ap, sym, subst, ◌∙◌, arith, if◌then◌else◌, Option, Some, None, codes}
use Rattle.std.specs.Prelude.{⊤}
use Rattle.std.specs.List.{list_all}
use Rattle.std.specs.Option.{option_map}
use Rattle.std.specs.Ordering.{int_eq}
use Rattle.std.specs.Str.{bytes_eq}
use Rattle.std.proofs.lemmas.Bool.{and_parts, and_from, true≢false, eqb-true}
use Rattle.std.proofs.lemmas.Bool.Decides.{Decides-int_eq}
use Rattle.std.proofs.lemmas.List.{append_assoc}
use Rattle.std.proofs.Math.Nat.{div-le_self}
use Rattle.style_types.specs.declared.track.Breadth.{Breadth}
use Rattle.style_types.specs.declared.unit.Unit.{Unit}
use Rattle.style_types.specs.declared.unit.Unit.TheVariants as unit
use Rattle.track_text.specs.declared.side.Side.{Side}
use Rattle.track_text.specs.declared.side.Side.TheVariants as side
use Rattle.track_text.specs.declared.side.Track.{Track}
use Rattle.track_text.specs.Words.{Word, Form, bind, front, with_first, all_of, all_from, begins_with}
use Rattle.track_text.specs.Values.{ends_in, length_in, percentage_of, flex_of}
use Rattle.track_text.specs.Sides.{breadth_of_side, size_of_track, side_units, fit_units, track_units, sizes_of, units_before}
use Rattle.track_text.specs.TrackSizes.{length_side, length_or_percentage, breadth_of, track_alone, minmax, minmax_after, fit_to, fit_after, track_first}
use Rattle.track_text.specs.Templates.{sizes_value, some_tracks, auto_tracks}
use Rattle.track_text.specs.Unsupported.{wide_keywords, functions, is_one_of, is_measured}
use Rattle.track_text.proofs.Fronts.{at_minmax, at_fit, at_breadth}
use Rattle.track_text.proofs.Joins.{next_of_all}
use Rattle.track_text.proofs.Units.{sizes_read}
use Rattle.track_text.proofs.Suffixes.{breadth_not, argument_not}
use Rattle.value_text.specs.declared.form.Form.TheVariants as form
use Rattle.value_text.specs.declared.form.Refused.TheVariants as refused
use Rattle.value_text.specs.Refusals.{holds_refused}
use Rattle.value_text.specs.ValueText.{tracks_value, value_of}
use Rattle.doc_writer.specs.Numbers.{percentage, factor, length_word}
use Rattle.doc_writer.specs.Tracks.{side_with, fit_with, track_of, track_with, tracks_with, side_word, same_unit, same_side, is_alone, minmax_words, sides_words, track_words, each_track}
use Rattle.doc_writer.proofs.WordsBack.{is_plain}
use Rattle.doc_writer.proofs.LengthsBack.{IsLength, IsNumeral, length_back, no_percent, no_flex, length_plain, percent_back, is_percent, percent_plain, flex_back, is_flex, flex_plain, ends_behind, head_not, no_such, digit_below, factor_numeral}
use Rattle.doc_writer.proofs.Told.{Every, every_map, every_bind, every_if, every_so, length_told, percent_told, flex_told}
use Rattle.doc_writer.proofs.QuietBack.{starts, starts_more, starts_some, number_starts, starts_not, none_starts, quiet_word}
use Rattle.doc_writer.proofs.SizesBack.{length_starts, percent_starts}
use Rattle.doc_writer.proofs.ValuesBack.{is_value_token, plain_token, IsBack}

-- ---- sides that a text tells

abbrev pub IsSide : Bool → Side → Type 0
IsSide relative (side.Length px u) = IsLength relative false px u
IsSide relative (side.Percent t) = t ≤ 1000000
IsSide relative (side.Flex t) = t ≤ 10000000
IsSide relative s = ⊤

abbrev pub IsArgument : Bool → Side → Type 0
IsArgument relative (side.Length px u) = IsLength relative true px u
IsArgument relative (side.Percent t) = t ≤ 1000000
IsArgument relative s = ⊥

abbrev pub IsNoFactor : Side → Type 0
IsNoFactor (side.Flex t) = ⊥
IsNoFactor s = ⊤

abbrev pub AreSides : Bool → Side → Side → Option Side → Type 0
AreSides relative least most None = (IsSide relative least × IsNoFactor least) × IsSide relative most
AreSides relative least most (Some a) = ((least ≡ side.Auto) × (most ≡ side.MaxContent)) × IsArgument relative a

abbrev pub IsTrack : Bool → Track → Type 0
IsTrack relative t = AreSides relative t.least t.most t.fit

breadth_told : (relative : Bool) (word : Word) → Every (IsSide relative) (breadth_of relative word)
breadth_told relative word =
    every_if (IsSide relative) (bytes_eq word (codes "auto")) (Some side.Auto) after_auto (λ _. tt)
    (λ _. every_if (IsSide relative) (bytes_eq word (codes "min-content")) (Some side.MinContent) after_min (λ _. tt)
    (λ _. every_if (IsSide relative) (bytes_eq word (codes "max-content")) (Some side.MaxContent) after_max (λ _. tt)
    (λ _. every_if (IsSide relative) (ends_in (codes "fr") word) (option_map side.Flex (flex_of word)) (length_or_percentage relative false word) (λ _. every_map (IsSide relative) side.Flex (flex_of word) (flex_told word))
    (λ _. every_if (IsSide relative) (ends_in (codes "%") word) (option_map side.Percent (percentage_of word)) (option_map length_side (length_in relative false word))
    (λ _. every_map (IsSide relative) side.Percent (percentage_of word) (percent_told word))
    (λ _. every_map (IsSide relative) length_side (length_in relative false word) (length_told relative false word)))))) where
      after_max : Option Side
      after_max = if ends_in (codes "fr") word then option_map side.Flex (flex_of word) else length_or_percentage relative false word

      after_min : Option Side
      after_min = if bytes_eq word (codes "max-content") then Some side.MaxContent else after_max

      after_auto : Option Side
      after_auto = if bytes_eq word (codes "min-content") then Some side.MinContent else after_min

argument_told : (relative : Bool) (word : Word) → Every (IsArgument relative) (length_or_percentage relative true word)
argument_told relative word =
    every_if (IsArgument relative) (ends_in (codes "%") word) (option_map side.Percent (percentage_of word)) (option_map length_side (length_in relative true word))
    (λ _. every_map (IsArgument relative) side.Percent (percentage_of word) (percent_told word))
    (λ _. every_map (IsArgument relative) length_side (length_in relative true word) (length_told relative true word))

alone_fits : (relative : Bool) (b : Side) → IsSide relative b → IsTrack relative (track_alone b)
alone_fits relative (side.Length px u) h = ((h, tt), h)
alone_fits relative (side.Percent t) h = ((h, tt), h)
alone_fits relative side.Auto h = ((tt, tt), tt)
alone_fits relative side.MinContent h = ((tt, tt), tt)
alone_fits relative side.MaxContent h = ((tt, tt), tt)
alone_fits relative (side.Flex t) h = ((tt, tt), h)

minmax_fits : (relative : Bool) (least most : Side) → IsSide relative least → IsSide relative most → Every (IsTrack relative) (minmax least most)
minmax_fits relative (side.Length px u) most h k = ((h, tt), k)
minmax_fits relative (side.Percent t) most h k = ((h, tt), k)
minmax_fits relative side.Auto most h k = ((tt, tt), k)
minmax_fits relative side.MinContent most h k = ((tt, tt), k)
minmax_fits relative side.MaxContent most h k = ((tt, tt), k)
minmax_fits relative (side.Flex t) most h k = tt

minmax_told : (relative : Bool) (words : List Word) → Every (IsTrack relative) (minmax_after relative words)
minmax_told relative [] = tt
minmax_told relative (a ∷ []) = tt
minmax_told relative (a ∷ b ∷ []) = tt
minmax_told relative (a ∷ b ∷ c ∷ []) = tt
minmax_told relative (a ∷ b ∷ c ∷ d ∷ []) = tt
minmax_told relative (a ∷ b ∷ c ∷ d ∷ e ∷ words) =
    every_if (IsTrack relative) (bytes_eq a (codes "(") && (bytes_eq c (codes ",") && bytes_eq e (codes ")"))) (bind (breadth_of relative b) (λ least. bind (breadth_of relative d) (λ most. minmax least most))) None
    (λ _. every_bind (IsTrack relative) (IsSide relative) (λ least. bind (breadth_of relative d) (λ most. minmax least most)) (breadth_of relative b) (breadth_told relative b)
    (λ least h. every_bind (IsTrack relative) (IsSide relative) (λ most. minmax least most) (breadth_of relative d) (breadth_told relative d) (λ most k. minmax_fits relative least most h k)))
    (λ _. tt)

fit_told : (relative : Bool) (words : List Word) → Every (IsTrack relative) (fit_after relative words)
fit_told relative [] = tt
fit_told relative (a ∷ []) = tt
fit_told relative (a ∷ b ∷ []) = tt
fit_told relative (a ∷ b ∷ c ∷ words) =
    every_if (IsTrack relative) (bytes_eq a (codes "(") && bytes_eq c (codes ")")) (option_map fit_to (length_or_percentage relative true b)) None
    (λ _. every_map (IsTrack relative) fit_to (length_or_percentage relative true b) (every_so (IsArgument relative) (λ s. IsTrack relative (fit_to s)) (length_or_percentage relative true b) (λ s h. ((refl, refl), h)) (argument_told relative b)))
    (λ _. tt)

abbrev pub IsFirstTrack : Bool → Track × ℕ → Type 0
IsFirstTrack relative read = IsTrack relative read.0

pub track_told : (relative : Bool) (words : List Word) → Every (IsFirstTrack relative) (track_first relative words)
track_told relative [] = tt
track_told relative (word ∷ words) =
    every_if (IsFirstTrack relative) (bytes_eq word (codes "minmax")) (option_map (λ track. (track, 5)) (minmax_after relative words)) other (λ _. every_map (IsFirstTrack relative) (λ track. (track, 5)) (minmax_after relative words) (minmax_told relative words))
    (λ _. every_if (IsFirstTrack relative) (bytes_eq word (codes "fit-content")) (option_map (λ track. (track, 3)) (fit_after relative words)) (option_map (λ b. (track_alone b, 0)) (breadth_of relative word))
    (λ _. every_map (IsFirstTrack relative) (λ track. (track, 3)) (fit_after relative words) (fit_told relative words))
    (λ _. every_map (IsFirstTrack relative) (λ b. (track_alone b, 0)) (breadth_of relative word) (every_so (IsSide relative) (λ b. IsTrack relative (track_alone b)) (breadth_of relative word) (alone_fits relative) (breadth_told relative word)))) where
      other : Option (Track × ℕ)
      other = if bytes_eq word (codes "fit-content") then option_map (λ track. (track, 3)) (fit_after relative words) else option_map (λ b. (track_alone b, 0)) (breadth_of relative word)

-- ---- sides read again

small_factor : (t : ℕ) → t ≤ 10000000 → t / 1000 < 2 ^ 64
small_factor t h = omega (arith, h, div-le_self t 1000)

pub flex_starts : (t : ℕ) → t ≤ 10000000 → starts (factor t ++ codes "fr") ≡ true
flex_starts t h = starts_more (factor t) (codes "fr") (number_starts 1000 (pos t) (small_factor t h))

percent_no_flex : (t : ℕ) → t ≤ 1000000 → ends_in (codes "fr") (percentage t) ≡ false
percent_no_flex t h =
    let n : IsNumeral (factor t) = factor_numeral t (omega (arith, h)) in
    ap (ends_in (codes "fr")) (ap (λ (w : Word). w ++ codes "%") n.is ∙ append_assoc n.front (n.digit ∷ []) (codes "%"))
    ∙ ends_behind (codes "fr") n.front (n.digit ∷ codes "%") (omega arith)
    ∙ head_not n.digit 102 (codes "%") (codes "r") (λ e. omega (arith, e, digit_below n.digit n.ok))

-- a number is a breadth by its unit
by_unit : (relative : Bool) (word : Word) → starts word ≡ true → breadth_of relative word ≡ (if ends_in (codes "fr") word then option_map side.Flex (flex_of word) else length_or_percentage relative false word)
by_unit relative word s =
    ap
    (λ (b : Bool). if b then Some side.Auto else if bytes_eq word (codes "min-content") then Some side.MinContent else if bytes_eq word (codes "max-content") then Some side.MaxContent else if ends_in (codes "fr") word then option_map side.Flex (flex_of word) else
    length_or_percentage relative false word) (starts_not word (codes "auto") s refl)
    ∙ ap (λ (b : Bool). if b then Some side.MinContent else if bytes_eq word (codes "max-content") then Some side.MaxContent else if ends_in (codes "fr") word then option_map side.Flex (flex_of word) else length_or_percentage relative false word) (starts_not word (codes "min-content") s refl)
    ∙ ap (λ (b : Bool). if b then Some side.MaxContent else if ends_in (codes "fr") word then option_map side.Flex (flex_of word) else length_or_percentage relative false word) (starts_not word (codes "max-content") s refl)

length_or : (relative below : Bool) (px : ℤ) (u : Unit) → IsLength relative below px u → length_or_percentage relative below (length_word px u) ≡ Some (side.Length px u)
length_or relative below px u h =
    ap (λ (b : Bool). if b then option_map side.Percent (percentage_of (length_word px u)) else option_map length_side (length_in relative below (length_word px u))) (no_percent px u)
    ∙ ap (option_map length_side) (length_back relative below px u h)

percent_or : (relative below : Bool) (t : ℕ) → t ≤ 1000000 → length_or_percentage relative below (percentage t) ≡ Some (side.Percent t)
percent_or relative below t h =
    ap (λ (b : Bool). if b then option_map side.Percent (percentage_of (percentage t)) else option_map length_side (length_in relative below (percentage t))) (is_percent t)
    ∙ ap (option_map side.Percent) (percent_back t h)

pub breadth_back : (relative : Bool) (s : Side) → IsSide relative s → breadth_of relative (side_word s) ≡ Some s
breadth_back relative (side.Length px u) h =
    let w : Word = length_word px u in
    by_unit relative w (length_starts relative false px u h)
    ∙ ap (λ (b : Bool). if b then option_map side.Flex (flex_of w) else length_or_percentage relative false w) (no_flex px u)
    ∙ length_or relative false px u h
breadth_back relative (side.Percent t) h =
    let w : Word = percentage t in
    by_unit relative w (percent_starts t (omega (arith, h)))
    ∙ ap (λ (b : Bool). if b then option_map side.Flex (flex_of w) else length_or_percentage relative false w) (percent_no_flex t h)
    ∙ percent_or relative false t h
breadth_back relative side.Auto h = refl
breadth_back relative side.MinContent h = refl
breadth_back relative side.MaxContent h = refl
breadth_back relative (side.Flex t) h =
    let w : Word = factor t ++ codes "fr" in
    by_unit relative w (flex_starts t h)
    ∙ ap (λ (b : Bool). if b then option_map side.Flex (flex_of w) else length_or_percentage relative false w) (is_flex t)
    ∙ ap (option_map side.Flex) (flex_back t h)

pub argument_back : (relative : Bool) (s : Side) → IsArgument relative s → length_or_percentage relative true (side_word s) ≡ Some s
argument_back relative (side.Length px u) h = length_or relative true px u h
argument_back relative (side.Percent t) h = percent_or relative true t h
argument_back relative side.Auto h = absurd h
argument_back relative side.MinContent h = absurd h
argument_back relative side.MaxContent h = absurd h
argument_back relative (side.Flex t) h = absurd h

-- ---- equal sides

same_unit_is : (a b : Unit) → same_unit a b ≡ true → a ≡ b
same_unit_is unit.Px unit.Px h = refl
same_unit_is unit.Px (unit.Em n) h = absurd (true≢false (sym h))
same_unit_is unit.Px (unit.Rem n) h = absurd (true≢false (sym h))
same_unit_is (unit.Em m) unit.Px h = absurd (true≢false (sym h))
same_unit_is (unit.Em m) (unit.Em n) h = ap unit.Em ((Decides-int_eq m n).0 h)
same_unit_is (unit.Em m) (unit.Rem n) h = absurd (true≢false (sym h))
same_unit_is (unit.Rem m) unit.Px h = absurd (true≢false (sym h))
same_unit_is (unit.Rem m) (unit.Em n) h = absurd (true≢false (sym h))
same_unit_is (unit.Rem m) (unit.Rem n) h = ap unit.Rem ((Decides-int_eq m n).0 h)

pub same_side_is : (a b : Side) → same_side a b ≡ true → a ≡ b
same_side_is (side.Length px u) (side.Length py v) h =
    let parts = and_parts (int_eq px py) (same_unit u v) h in
    ap (λ (z : ℤ). side.Length z u) ((Decides-int_eq px py).0 parts.0) ∙ ap (side.Length py) (same_unit_is u v parts.1)
same_side_is (side.Length px u) (side.Percent t) h = absurd (true≢false (sym h))
same_side_is (side.Length px u) side.Auto h = absurd (true≢false (sym h))
same_side_is (side.Length px u) side.MinContent h = absurd (true≢false (sym h))
same_side_is (side.Length px u) side.MaxContent h = absurd (true≢false (sym h))
same_side_is (side.Length px u) (side.Flex t) h = absurd (true≢false (sym h))
same_side_is (side.Percent s) (side.Length px u) h = absurd (true≢false (sym h))
same_side_is (side.Percent s) (side.Percent t) h = ap side.Percent (eqb-true s t h)
same_side_is (side.Percent s) side.Auto h = absurd (true≢false (sym h))
same_side_is (side.Percent s) side.MinContent h = absurd (true≢false (sym h))
same_side_is (side.Percent s) side.MaxContent h = absurd (true≢false (sym h))
same_side_is (side.Percent s) (side.Flex t) h = absurd (true≢false (sym h))
same_side_is side.Auto (side.Length px u) h = absurd (true≢false (sym h))
same_side_is side.Auto (side.Percent t) h = absurd (true≢false (sym h))
same_side_is side.Auto side.Auto h = refl
same_side_is side.Auto side.MinContent h = absurd (true≢false (sym h))
same_side_is side.Auto side.MaxContent h = absurd (true≢false (sym h))
same_side_is side.Auto (side.Flex t) h = absurd (true≢false (sym h))
same_side_is side.MinContent (side.Length px u) h = absurd (true≢false (sym h))
same_side_is side.MinContent (side.Percent t) h = absurd (true≢false (sym h))
same_side_is side.MinContent side.Auto h = absurd (true≢false (sym h))
same_side_is side.MinContent side.MinContent h = refl
same_side_is side.MinContent side.MaxContent h = absurd (true≢false (sym h))
same_side_is side.MinContent (side.Flex t) h = absurd (true≢false (sym h))
same_side_is side.MaxContent (side.Length px u) h = absurd (true≢false (sym h))
same_side_is side.MaxContent (side.Percent t) h = absurd (true≢false (sym h))
same_side_is side.MaxContent side.Auto h = absurd (true≢false (sym h))
same_side_is side.MaxContent side.MinContent h = absurd (true≢false (sym h))
same_side_is side.MaxContent side.MaxContent h = refl
same_side_is side.MaxContent (side.Flex t) h = absurd (true≢false (sym h))
same_side_is (side.Flex s) (side.Length px u) h = absurd (true≢false (sym h))
same_side_is (side.Flex s) (side.Percent t) h = absurd (true≢false (sym h))
same_side_is (side.Flex s) side.Auto h = absurd (true≢false (sym h))
same_side_is (side.Flex s) side.MinContent h = absurd (true≢false (sym h))
same_side_is (side.Flex s) side.MaxContent h = absurd (true≢false (sym h))
same_side_is (side.Flex s) (side.Flex t) h = ap side.Flex (eqb-true s t h)

abbrev two_sides : Side → Side → Track
two_sides least most = record { least = least; most = most; fit = None }

plain_alone : (s : Side) → IsNoFactor s → track_alone s ≡ two_sides s s
plain_alone (side.Length px u) h = refl
plain_alone (side.Percent t) h = refl
plain_alone side.Auto h = refl
plain_alone side.MinContent h = refl
plain_alone side.MaxContent h = refl
plain_alone (side.Flex t) h = absurd h

both_same : (least most : Side) → IsNoFactor least → same_side least most ≡ true → track_alone most ≡ two_sides least most
both_same least most n h =
    let e : least ≡ most = same_side_is least most h in
    plain_alone most (subst IsNoFactor e n) ∙ ap (λ (s : Side). two_sides s most) (sym e)

alone_is : (least most : Side) → IsNoFactor least → is_alone least most ≡ true → track_alone most ≡ two_sides least most
alone_is (side.Length px u) most n h = both_same (side.Length px u) most n h
alone_is (side.Percent t) most n h = both_same (side.Percent t) most n h
alone_is side.MinContent most n h = both_same side.MinContent most n h
alone_is side.MaxContent most n h = both_same side.MaxContent most n h
alone_is (side.Flex t) most n h = absurd n
alone_is side.Auto (side.Length px u) n h = absurd (true≢false (sym h))
alone_is side.Auto (side.Percent t) n h = absurd (true≢false (sym h))
alone_is side.Auto side.Auto n h = refl
alone_is side.Auto side.MinContent n h = absurd (true≢false (sym h))
alone_is side.Auto side.MaxContent n h = absurd (true≢false (sym h))
alone_is side.Auto (side.Flex t) n h = refl

-- ---- track sizes read again

minmax_kept : (least most : Side) → IsNoFactor least → minmax least most ≡ Some (two_sides least most)
minmax_kept (side.Length px u) most h = refl
minmax_kept (side.Percent t) most h = refl
minmax_kept side.Auto most h = refl
minmax_kept side.MinContent most h = refl
minmax_kept side.MaxContent most h = refl
minmax_kept (side.Flex t) most h = absurd h

no_minmax : (relative : Bool) → breadth_of relative (codes "minmax") ≡ None
no_minmax true = refl
no_minmax false = refl

no_fit : (relative : Bool) → breadth_of relative (codes "fit-content") ≡ None
no_fit true = refl
no_fit false = refl

sides_back : (relative : Bool) (least most : Side) (fit : Option Side) (rest : List Word) → AreSides relative least most fit → front (track_first relative) (sides_words least most fit ++ rest) ≡ Some (track_of least most fit, rest)
sides_back relative least most (Some a) rest h =
    at_fit relative (codes "fit-content") (codes "(" ∷ side_word a ∷ codes ")" ∷ rest) refl refl
    ∙ ap (λ (o : Option Side). option_map (λ (track : Track). (track, rest)) (option_map fit_to o)) (argument_back relative a h.1)
    ∙ ap (λ (s : Side). Some (track_of s side.MaxContent (Some a), rest)) (sym h.0.0)
    ∙ ap (λ (s : Side). Some (track_of least s (Some a), rest)) (sym h.0.1)
sides_back relative least most None rest h = by_test (is_alone least most) refl where
  by_test : (b : Bool) → is_alone least most ≡ b → front (track_first relative) ((if b then side_word most ∷ [] else minmax_words least most) ++ rest) ≡ Some (track_of least most None, rest)
  by_test true e =
      let read : breadth_of relative (side_word most) ≡ Some most = breadth_back relative most h.1 in
      at_breadth relative (side_word most) rest (Some most) (no_such (breadth_of relative) (side_word most) (codes "minmax") most read (no_minmax relative)) (no_such (breadth_of relative) (side_word most) (codes "fit-content") most read (no_fit relative)) read
      ∙ ap (λ (t : Track). Some (t, rest)) (alone_is least most h.0.1 e)
  by_test false e =
      at_minmax relative (codes "minmax") (codes "(" ∷ side_word least ∷ codes "," ∷ side_word most ∷ codes ")" ∷ rest) refl
      ∙ ap (λ (o : Option Side). option_map (λ (track : Track). (track, rest)) (bind o (λ least. bind (breadth_of relative (side_word most)) (λ most. minmax least most)))) (breadth_back relative least h.0.0)
      ∙ ap (λ (o : Option Side). option_map (λ (track : Track). (track, rest)) (bind o (λ most. minmax least most))) (breadth_back relative most h.1)
      ∙ ap (option_map (λ (track : Track). (track, rest))) (minmax_kept least most h.0.1)

pub track_back : (relative : Bool) (t : Track) (rest : List Word) → IsTrack relative t → front (track_first relative) (track_words t ++ rest) ≡ Some (t, rest)
track_back relative t rest h = sides_back relative t.least t.most t.fit rest h

-- ---- lists of tracks

abbrev pub AllHold : {A : Type 0} → (A → Type 0) → List A → Type 0
AllHold P [] = ⊤
AllHold P (x ∷ xs) = P x × AllHold P xs

pub all_told : {A : Type 0} (P : A → Type 0) (f : Form A) (taken : ℕ) (words : List Word) → ((words : List Word) → Every (λ read. P read.0) (f words)) → Every (AllHold P) (all_of f taken words)
all_told P f taken [] h = tt
all_told P f (suc taken) (word ∷ words) h = all_told P f taken words h
all_told P f zero (word ∷ words) h =
    every_bind (AllHold P) (λ read. P read.0) (λ read. option_map (with_first read.0) (all_of f read.1 words)) (f (word ∷ words)) (h (word ∷ words))
    (λ read p. every_map (AllHold P) (with_first read.0) (all_of f read.1 words) (every_so (AllHold P) (λ xs. P read.0 × AllHold P xs) (all_of f read.1 words) (λ xs a. (p, a)) (all_told P f read.1 words h)))

pub all_next : {A : Type 0} (f : Form A) (words rest : List Word) (x : A) → front f words ≡ Some (x, rest) → all_from f words ≡ option_map (with_first x) (all_from f rest)
unfolding front
all_next f [] rest x e = absurd (true≢false (sym (ap is_some e)))
all_next f (word ∷ words) rest x e = next_of_all f word words ∙ ap (λ (o : Option (_ × List Word)). bind o (λ read. option_map (with_first read.0) (all_from f read.1))) e

none_from : {A : Type 0} (f : Form A) → all_from f [] ≡ Some []
unfolding all_from
none_from f = refl

each_back : (relative : Bool) (tracks : List Track) → AllHold (IsTrack relative) tracks → all_from (track_first relative) (each_track tracks) ≡ Some tracks
each_back relative [] h = none_from (track_first relative)
each_back relative (t ∷ tracks) h =
    all_next (track_first relative) (track_words t ++ each_track tracks) (each_track tracks) t (track_back relative t (each_track tracks) h.0)
    ∙ ap (option_map (with_first t)) (each_back relative tracks h.1)

-- ---- tracks with their units

side_again : (s : Side) (units : List Unit) → side_with (breadth_of_side s) (side_units s units) ≡ (s, units)
side_again (side.Length px u) units = refl
side_again (side.Percent t) units = refl
side_again side.Auto units = refl
side_again side.MinContent units = refl
side_again side.MaxContent units = refl
side_again (side.Flex t) units = refl

fit_again : (f : Option Side) (units : List Unit) → fit_with (option_map breadth_of_side f) (fit_units f units) ≡ (f, units)
fit_again None units = refl
fit_again (Some s) units = ap (λ (read : Side × List Unit). (Some read.0, read.1)) (side_again s units)

track_again : (t : Track) (units : List Unit) → track_with (size_of_track t) (track_units t units) ≡ (t, units)
track_again t units =
    let f : Option Breadth = option_map breadth_of_side t.fit in
    let b : Breadth = breadth_of_side t.most in
    ap (λ (least : Side × List Unit). (track_of least.0 (side_with b least.1).0 (fit_with f (side_with b least.1).1).0, (fit_with f (side_with b least.1).1).1)) (side_again t.least (side_units t.most (fit_units t.fit units)))
    ∙ ap (λ (most : Side × List Unit). (track_of t.least most.0 (fit_with f most.1).0, (fit_with f most.1).1)) (side_again t.most (fit_units t.fit units))
    ∙ ap (λ (fit : Option Side × List Unit). (track_of t.least t.most fit.0, fit.1)) (fit_again t.fit units)

pub tracks_again : (tracks : List Track) (units : List Unit) → tracks_with (sizes_of tracks) (units_before tracks units) ≡ (tracks, units)
tracks_again [] units = refl
tracks_again (t ∷ tracks) units =
    ap (λ (first : Track × List Unit). (first.0 ∷ (tracks_with (sizes_of tracks) first.1).0, (tracks_with (sizes_of tracks) first.1).1)) (track_again t (units_before tracks units))
    ∙ ap (λ (rest : List Track × List Unit). (t ∷ rest.0, rest.1)) (tracks_again tracks units)

-- ---- the words of tracks

-- a word outside brackets of which nothing is to be said
pub record IsStill (relative : Bool) (word : Word) : Type 0 where
  pub wide : is_one_of wide_keywords word ≡ false
  pub measured : is_measured relative word ≡ false
  pub function : is_one_of functions word ≡ false
  pub masonry : bytes_eq word (codes "masonry") ≡ false
  pub subgrid : bytes_eq word (codes "subgrid") ≡ false
  pub bracket : bytes_eq word (codes "[") ≡ false
  pub token : is_value_token word ≡ true

still_number : (relative : Bool) (word : Word) → starts word ≡ true → is_measured relative word ≡ false → list_all is_plain word ≡ true → IsStill relative word
still_number relative word s m p = record {
  wide = none_starts word wide_keywords s refl;
  measured = m;
  function = none_starts word functions s refl;
  masonry = starts_not word (codes "masonry") s refl;
  subgrid = starts_not word (codes "subgrid") s refl;
  bracket = starts_not word (codes "[") s refl;
  token = plain_token word (starts_some word s) p;
}

abbrev Constant : Word → Type 0
Constant word = (relative : Bool) → IsStill relative word

still_auto : Constant (codes "auto")
still_auto true = record { wide = refl; measured = refl; function = refl; masonry = refl; subgrid = refl; bracket = refl; token = refl }
still_auto false = record { wide = refl; measured = refl; function = refl; masonry = refl; subgrid = refl; bracket = refl; token = refl }

still_min : Constant (codes "min-content")
still_min true = record { wide = refl; measured = refl; function = refl; masonry = refl; subgrid = refl; bracket = refl; token = refl }
still_min false = record { wide = refl; measured = refl; function = refl; masonry = refl; subgrid = refl; bracket = refl; token = refl }

still_max : Constant (codes "max-content")
still_max true = record { wide = refl; measured = refl; function = refl; masonry = refl; subgrid = refl; bracket = refl; token = refl }
still_max false = record { wide = refl; measured = refl; function = refl; masonry = refl; subgrid = refl; bracket = refl; token = refl }

pub still_minmax : Constant (codes "minmax")
still_minmax true = record { wide = refl; measured = refl; function = refl; masonry = refl; subgrid = refl; bracket = refl; token = refl }
still_minmax false = record { wide = refl; measured = refl; function = refl; masonry = refl; subgrid = refl; bracket = refl; token = refl }

pub still_fit : Constant (codes "fit-content")
still_fit true = record { wide = refl; measured = refl; function = refl; masonry = refl; subgrid = refl; bracket = refl; token = refl }
still_fit false = record { wide = refl; measured = refl; function = refl; masonry = refl; subgrid = refl; bracket = refl; token = refl }

pub still_opening : Constant (codes "(")
still_opening true = record { wide = refl; measured = refl; function = refl; masonry = refl; subgrid = refl; bracket = refl; token = refl }
still_opening false = record { wide = refl; measured = refl; function = refl; masonry = refl; subgrid = refl; bracket = refl; token = refl }

pub still_comma : Constant (codes ",")
still_comma true = record { wide = refl; measured = refl; function = refl; masonry = refl; subgrid = refl; bracket = refl; token = refl }
still_comma false = record { wide = refl; measured = refl; function = refl; masonry = refl; subgrid = refl; bracket = refl; token = refl }

pub still_closing : Constant (codes ")")
still_closing true = record { wide = refl; measured = refl; function = refl; masonry = refl; subgrid = refl; bracket = refl; token = refl }
still_closing false = record { wide = refl; measured = refl; function = refl; masonry = refl; subgrid = refl; bracket = refl; token = refl }

still_side : (relative : Bool) (s : Side) → IsSide relative s → IsStill relative (side_word s)
still_side relative (side.Length px u) h = still_number relative (length_word px u) (length_starts relative false px u h) (breadth_not relative (length_word px u) (side.Length px u) (breadth_back relative (side.Length px u) h)) (length_plain relative false px u h)
still_side relative (side.Percent t) h = still_number relative (percentage t) (percent_starts t (omega (arith, h))) (breadth_not relative (percentage t) (side.Percent t) (breadth_back relative (side.Percent t) h)) (percent_plain t h)
still_side relative side.Auto h = still_auto relative
still_side relative side.MinContent h = still_min relative
still_side relative side.MaxContent h = still_max relative
still_side relative (side.Flex t) h = still_number relative (factor t ++ codes "fr") (flex_starts t h) (breadth_not relative (factor t ++ codes "fr") (side.Flex t) (breadth_back relative (side.Flex t) h)) (flex_plain t h)

still_argument : (relative : Bool) (s : Side) → IsArgument relative s → IsStill relative (side_word s)
still_argument relative (side.Length px u) h = still_number relative (length_word px u) (length_starts relative true px u h) (argument_not relative true (length_word px u) (side.Length px u) (argument_back relative (side.Length px u) h)) (length_plain relative true px u h)
still_argument relative (side.Percent t) h = still_number relative (percentage t) (percent_starts t (omega (arith, h))) (argument_not relative true (percentage t) (side.Percent t) (argument_back relative (side.Percent t) h)) (percent_plain t h)
still_argument relative side.Auto h = absurd h
still_argument relative side.MinContent h = absurd h
still_argument relative side.MaxContent h = absurd h
still_argument relative (side.Flex t) h = absurd h

pub still_sides : (relative : Bool) (least most : Side) (fit : Option Side) → AreSides relative least most fit → AllHold (IsStill relative) (sides_words least most fit)
still_sides relative least most (Some a) h = (still_fit relative, (still_opening relative, (still_argument relative a h.1, (still_closing relative, tt))))
still_sides relative least most None h = by_test (is_alone least most) where
  by_test : (b : Bool) → AllHold (IsStill relative) (if b then side_word most ∷ [] else minmax_words least most)
  by_test true = (still_side relative most h.1, tt)
  by_test false = (still_minmax relative, (still_opening relative, (still_side relative least h.0.0, (still_comma relative, (still_side relative most h.1, (still_closing relative, tt))))))

pub still_track : (relative : Bool) (t : Track) → IsTrack relative t → AllHold (IsStill relative) (track_words t)
still_track relative t h = still_sides relative t.least t.most t.fit h

pub both_hold : {A : Type 0} (P : A → Type 0) (xs ys : List A) → AllHold P xs → AllHold P ys → AllHold P (xs ++ ys)
both_hold P [] ys h k = k
both_hold P (x ∷ xs) ys h k = (h.0, both_hold P xs ys h.1 k)

still_each : (relative : Bool) (tracks : List Track) → AllHold (IsTrack relative) tracks → AllHold (IsStill relative) (each_track tracks)
still_each relative [] h = tt
still_each relative (t ∷ tracks) h = both_hold (IsStill relative) (track_words t) (each_track tracks) (still_track relative t h.0) (still_each relative tracks h.1)

still_quiet : (relative : Bool) (words : List Word) → AllHold (IsStill relative) words → holds_refused false relative refused.Nothing words ≡ false
still_quiet relative [] h = refl
still_quiet relative (word ∷ words) h =
    let s : IsStill relative word = h.0 in
    quiet_word relative refused.Nothing word words (record { wide = s.wide; measured = s.measured; function = ap (λ (b : Bool). b && begins_with (codes "(") words) s.function; not_refused = refl; bracket = s.bracket })
    ∙ still_quiet relative words h.1

pub still_tokens : (relative : Bool) (words : List Word) → AllHold (IsStill relative) words → list_all is_value_token words ≡ true
still_tokens relative [] h = refl
still_tokens relative (word ∷ words) h =
    let s : IsStill relative word = h.0 in
    and_from (is_value_token word) (list_all is_value_token words) s.token (still_tokens relative words h.1)

-- ---- `grid-auto-columns` and `grid-auto-rows`

some_back : (relative : Bool) (t : Track) (tracks : List Track) → AllHold (IsTrack relative) (t ∷ tracks) → IsBack relative form.Tracks refused.Nothing (tracks_value (sizes_value (t ∷ tracks)))
some_back relative t tracks h =
    let all : List Track = t ∷ tracks in
    let again : (tracks_with (sizes_of all) (units_before all [])).0 ≡ all = ap (λ (read : List Track × List Unit). read.0) (tracks_again all []) in
    record {
      reads =
          ap (λ (ts : List Track). option_map tracks_value (auto_tracks relative (each_track ts))) again
          ∙ ap (option_map tracks_value) (sizes_read relative (each_track all) ∙ ap (λ (o : Option (List Track)). bind o some_tracks) (each_back relative all h));
      quiet = ap (λ (ts : List Track). holds_refused false relative refused.Nothing (each_track ts)) again ∙ still_quiet relative (each_track all) (still_each relative all h);
      tokens = ap (λ (ts : List Track). list_all is_value_token (each_track ts)) again ∙ still_tokens relative (each_track all) (still_each relative all h);
    }

some_told : (relative : Bool) (tracks : List Track) → AllHold (IsTrack relative) tracks → Every (λ read. IsBack relative form.Tracks refused.Nothing (tracks_value read)) (some_tracks tracks)
some_told relative [] h = tt
some_told relative (t ∷ tracks) h = some_back relative t tracks h

pub auto_told : (relative : Bool) (words : List Word) → Every (IsBack relative form.Tracks refused.Nothing) (value_of relative form.Tracks words)
auto_told relative words =
    every_map (IsBack relative form.Tracks refused.Nothing) tracks_value (auto_tracks relative words)
    (every_bind (λ read. IsBack relative form.Tracks refused.Nothing (tracks_value read)) (AllHold (IsTrack relative)) some_tracks (all_of (track_first relative) 0 words)
    (all_told (IsTrack relative) (track_first relative) 0 words (track_told relative)) (some_told relative))

-- Sizes and keywords as they are written, read again.
use Rattle.std.proofs.Common.{◌≡◌, ℕ, ℤ, pos, ◌/◌, ◌^◌, ◌<◌, ◌≤◌, Bool, true, false, ◌&&◌, unsigned_abs, List, [], ◌∷◌, ◌++◌, refl, ap, sym, ◌∙◌, arith, if◌then◌else◌, Option, Some, None, codes}
use Rattle.std.specs.Prelude.{⊤}
use Rattle.std.specs.Option.{option_map}
use Rattle.std.specs.Str.{bytes_eq}
use Rattle.std.proofs.lemmas.Bool.{and_parts, true≢false}
use Rattle.std.proofs.Math.Nat.{div-le_self}
use Rattle.style_types.specs.declared.unit.Unit.{Unit}
use Rattle.style_types.specs.declared.unit.Unit.TheVariants as unit
use Rattle.style_types.specs.declared.value.Size.{Size}
use Rattle.style_types.specs.declared.value.Size.TheVariants as size
use Rattle.style_types.specs.declared.value.Align.{Align}
use Rattle.style_types.specs.declared.value.AlignMode.{AlignMode}
use Rattle.style_types.specs.declared.value.AlignMode.TheVariants as mode
use Rattle.track_text.specs.Words.{Word, bind, ended}
use Rattle.track_text.specs.Values.{ends_in, length_in, percentage_of}
use Rattle.value_text.specs.declared.form.Refused.{Refused}
use Rattle.value_text.specs.declared.form.Refused.TheVariants as refused
use Rattle.value_text.specs.declared.keyword.AlignForm.{AlignForm}
use Rattle.value_text.specs.declared.size.Measured.{Measured}
use Rattle.value_text.specs.declared.size.SizeForm.{SizeForm}
use Rattle.value_text.specs.Keywords.{position_of, space_of, space_in, or_position, mode_of, align, safe_of, guarded, align_of}
use Rattle.value_text.specs.Refusals.{holds_refused}
use Rattle.value_text.specs.Sizes.{plain_size, keyword_size, length_size, measured_size, or_measured, size_of, units_of, size_first, size_or, if_ended, one_size, second_after, two_sizes, Sides, left_after, bottom_after, right_after, side_sizes}
use Rattle.doc_writer.specs.Numbers.{number, percentage, factor, length_word}
use Rattle.doc_writer.specs.Values.{size_word, mode_word, safe_words, align_words}
use Rattle.doc_writer.proofs.LengthsBack.{IsLength, length_back, no_percent, percent_back, is_percent}
use Rattle.doc_writer.proofs.Told.{Every, every_map, every_bind, every_if, every_so, length_told, percent_told}
use Rattle.doc_writer.proofs.QuietBack.{starts, starts_more, number_starts, starts_not, length_not_measured, percent_not_measured, quiet_word, quiet_number, quiet_percent, AllowsPercent}
use Rattle.doc_writer.proofs.LinesBack.{ended_told}

-- ---- which sizes a text tells

abbrev pub IsSize : Bool → SizeForm → Size → Option Unit → Type 0
IsSize relative form size.Auto None = form.auto ≡ true
IsSize relative form size.Absent None = form.none ≡ true
IsSize relative form size.Normal None = form.normal ≡ true
IsSize relative form size.Content None = form.content ≡ true
IsSize relative form (size.Percent t) None = (form.percent ≡ true) × (t ≤ 1000000)
IsSize relative form (size.Length px) (Some u) = IsLength relative form.below_zero px u
IsSize relative form s u = ⊥

abbrev pub IsMeasured : Bool → SizeForm → Measured → Type 0
IsMeasured relative form m = IsSize relative form m.size m.unit

abbrev IsKeyword : Bool → SizeForm → Size → Type 0
IsKeyword relative form s = IsSize relative form s None

keyword_told : (relative : Bool) (form : SizeForm) (word : Word) → Every (IsKeyword relative form) (keyword_size form word)
keyword_told relative form word =
    every_if (IsKeyword relative form) (form.auto && bytes_eq word (codes "auto")) (Some size.Auto) after_auto (λ e. (and_parts form.auto (bytes_eq word (codes "auto")) e).0)
    (λ _. every_if (IsKeyword relative form) (form.none && bytes_eq word (codes "none")) (Some size.Absent) after_none (λ e. (and_parts form.none (bytes_eq word (codes "none")) e).0)
    (λ _. every_if (IsKeyword relative form) (form.normal && bytes_eq word (codes "normal")) (Some size.Normal) after_normal (λ e. (and_parts form.normal (bytes_eq word (codes "normal")) e).0)
    (λ _. every_if (IsKeyword relative form) (form.content && bytes_eq word (codes "content")) (Some size.Content) None (λ e. (and_parts form.content (bytes_eq word (codes "content")) e).0) (λ _. tt)))) where
      after_normal : Option Size
      after_normal = if form.content && bytes_eq word (codes "content") then Some size.Content else None

      after_none : Option Size
      after_none = if form.normal && bytes_eq word (codes "normal") then Some size.Normal else after_normal

      after_auto : Option Size
      after_auto = if form.none && bytes_eq word (codes "none") then Some size.Absent else after_none

measured_told : (relative : Bool) (form : SizeForm) (word : Word) → Every (IsMeasured relative form) (measured_size relative form word)
measured_told relative form word =
    every_if (IsMeasured relative form) (form.percent && ends_in (codes "%") word) (option_map (λ t. plain_size (size.Percent t)) (percentage_of word)) (option_map length_size (length_in relative form.below_zero word))
    (λ e. every_map (IsMeasured relative form) (λ t. plain_size (size.Percent t)) (percentage_of word) (every_so (λ t. t ≤ 1000000) (λ t. (form.percent ≡ true) × (t ≤ 1000000)) (percentage_of word) (λ t h. ((and_parts form.percent (ends_in (codes "%") word) e).0, h)) (percent_told word)))
    (λ e. every_map (IsMeasured relative form) length_size (length_in relative form.below_zero word) (length_told relative form.below_zero word))

either_told : (relative : Bool) (form : SizeForm) (o : Option Size) (m : Option Measured) → Every (IsKeyword relative form) o → Every (IsMeasured relative form) m → Every (IsMeasured relative form) (or_measured o m)
either_told relative form None m k h = h
either_told relative form (Some s) m k h = k

pub size_told : (relative : Bool) (form : SizeForm) (word : Word) → Every (IsMeasured relative form) (size_of relative form word)
unfolding size_of
size_told relative form word = either_told relative form (keyword_size form word) (measured_size relative form word) (keyword_told relative form word) (measured_told relative form word)

-- ---- lists of sizes

abbrev IsFirst : Bool → SizeForm → Measured × List Word → Type 0
IsFirst relative form read = IsMeasured relative form read.0

first_told : (relative : Bool) (form : SizeForm) (words : List Word) → Every (IsFirst relative form) (size_first relative form words)
first_told relative form [] = tt
first_told relative form (word ∷ words) = every_map (IsFirst relative form) (λ measured. (measured, words)) (size_of relative form word) (size_told relative form word)

or_told : (relative : Bool) (form : SizeForm) (default : Measured) (words : List Word) → IsMeasured relative form default → Every (IsFirst relative form) (size_or relative form default words)
or_told relative form default [] h = h
or_told relative form default (word ∷ words) h = first_told relative form (word ∷ words)

pub one_size_told : (relative : Bool) (form : SizeForm) (words : List Word) → Every (IsMeasured relative form) (one_size relative form words)
one_size_told relative form words =
    every_bind (IsMeasured relative form) (IsFirst relative form) (λ read. if_ended read.1 read.0) (size_first relative form words) (first_told relative form words)
    (λ read h. ended_told (IsMeasured relative form) read.1 read.0 h)

abbrev pub AreTwoSizes : Bool → SizeForm → Measured × Measured → Type 0
AreTwoSizes relative form two = IsMeasured relative form two.0 × IsMeasured relative form two.1

pub two_sizes_told : (relative : Bool) (form : SizeForm) (words : List Word) → Every (AreTwoSizes relative form) (two_sizes relative form words)
two_sizes_told relative form words =
    every_bind (AreTwoSizes relative form) (IsFirst relative form) (λ first. second_after relative form first.0 first.1) (size_first relative form words) (first_told relative form words)
    (λ first h. every_bind (AreTwoSizes relative form) (IsFirst relative form) (λ second. if_ended second.1 (first.0, second.0)) (size_or relative form first.0 first.1) (or_told relative form first.0 first.1 h)
    (λ second k. ended_told (AreTwoSizes relative form) second.1 (first.0, second.0) (h, k)))

abbrev pub AreSides : Bool → SizeForm → Sides → Type 0
AreSides relative form sides = (IsMeasured relative form sides.0 × IsMeasured relative form sides.1) × (IsMeasured relative form sides.2 × IsMeasured relative form sides.3)

left_told : (relative : Bool) (form : SizeForm) (top right bottom : Measured) (words : List Word) → IsMeasured relative form top → IsMeasured relative form right → IsMeasured relative form bottom → Every (AreSides relative form) (left_after relative form top right bottom words)
left_told relative form top right bottom words t r b =
    every_bind (AreSides relative form) (IsFirst relative form) (λ left. if_ended left.1 (top, right, bottom, left.0)) (size_or relative form right words) (or_told relative form right words r)
    (λ left h. ended_told (AreSides relative form) left.1 (top, right, bottom, left.0) ((t, r), (b, h)))

bottom_told : (relative : Bool) (form : SizeForm) (top right : Measured) (words : List Word) → IsMeasured relative form top → IsMeasured relative form right → Every (AreSides relative form) (bottom_after relative form top right words)
bottom_told relative form top right words t r =
    every_bind (AreSides relative form) (IsFirst relative form) (λ bottom. left_after relative form top right bottom.0 bottom.1) (size_or relative form top words) (or_told relative form top words t)
    (λ bottom h. left_told relative form top right bottom.0 bottom.1 t r h)

right_told : (relative : Bool) (form : SizeForm) (top : Measured) (words : List Word) → IsMeasured relative form top → Every (AreSides relative form) (right_after relative form top words)
right_told relative form top words t =
    every_bind (AreSides relative form) (IsFirst relative form) (λ right. bottom_after relative form top right.0 right.1) (size_or relative form top words) (or_told relative form top words t)
    (λ right h. bottom_told relative form top right.0 right.1 t h)

pub side_sizes_told : (relative : Bool) (form : SizeForm) (words : List Word) → Every (AreSides relative form) (side_sizes relative form words)
side_sizes_told relative form words =
    every_bind (AreSides relative form) (IsFirst relative form) (λ top. right_after relative form top.0 top.1) (size_first relative form words) (first_told relative form words)
    (λ top h. right_told relative form top.0 top.1 h)

-- ---- read again

skip : {A : Type 0} (b : Bool) (x y : A) → (if b && false then x else y) ≡ y
skip true x y = refl
skip false x y = refl

this : {A : Type 0} (b : Bool) (x y : A) → b ≡ true → (if b && true then x else y) ≡ x
this true x y h = refl
this false x y h = absurd (true≢false (sym h))

none_if : {A : Type 0} (b t : Bool) (x y : A) → t ≡ false → (if b && t then x else y) ≡ y
none_if true t x y h = ap (λ (t : Bool). if t then x else y) h
none_if false t x y h = refl

both_if : {A : Type 0} (b t : Bool) (x y : A) → b ≡ true → t ≡ true → (if b && t then x else y) ≡ x
both_if true t x y h k = ap (λ (t : Bool). if t then x else y) k
both_if false t x y h k = absurd (true≢false (sym h))

-- the keywords after the first ones
abbrev content_or : SizeForm → Word → Option Size
content_or form word = if form.content && bytes_eq word (codes "content") then Some size.Content else None

abbrev normal_or : SizeForm → Word → Option Size
normal_or form word = if form.normal && bytes_eq word (codes "normal") then Some size.Normal else content_or form word

abbrev none_or : SizeForm → Word → Option Size
none_or form word = if form.none && bytes_eq word (codes "none") then Some size.Absent else normal_or form word

-- a number is no keyword
no_keyword : (form : SizeForm) (word : Word) → starts word ≡ true → keyword_size form word ≡ None
no_keyword form word s =
    none_if form.auto (bytes_eq word (codes "auto")) (Some size.Auto) (none_or form word) (starts_not word (codes "auto") s refl)
    ∙ none_if form.none (bytes_eq word (codes "none")) (Some size.Absent) (normal_or form word) (starts_not word (codes "none") s refl)
    ∙ none_if form.normal (bytes_eq word (codes "normal")) (Some size.Normal) (content_or form word) (starts_not word (codes "normal") s refl)
    ∙ none_if form.content (bytes_eq word (codes "content")) (Some size.Content) None (starts_not word (codes "content") s refl)

small_at : (n k m : ℕ) → n ≤ m → m < 2 ^ 64 → n / k < 2 ^ 64
small_at n k m h g = omega (arith, h, g, div-le_self n k)

pub length_starts : (relative below : Bool) (px : ℤ) (u : Unit) → IsLength relative below px u → starts (length_word px u) ≡ true
length_starts relative below px unit.Px h = starts_more (number 64 px) (codes "px") (number_starts 64 px (small_at (unsigned_abs px) 64 67108864 h.0 (omega arith)))
length_starts relative below px (unit.Em m) h = starts_more (number 1000000 m) (codes "em") (number_starts 1000000 m (small_at (unsigned_abs m) 1000000 10000000000 h.1.1.0 (omega arith)))
length_starts relative below px (unit.Rem m) h = starts_more (number 1000000 m) (codes "rem") (number_starts 1000000 m (small_at (unsigned_abs m) 1000000 10000000000 h.1.1.0 (omega arith)))

pub percent_starts : (t : ℕ) → t ≤ 10000000 → starts (percentage t) ≡ true
percent_starts t h = starts_more (factor t) (codes "%") (number_starts 1000 (pos t) (small_at t 1000 10000000 h (omega arith)))

abbrev measured : Size → Option Unit → Measured
measured s u = record { size = s; unit = u }

pub size_back : (relative : Bool) (form : SizeForm) (s : Size) (u : Option Unit) → IsSize relative form s u → size_of relative form (size_word s (units_of u)) ≡ Some (measured s u)
unfolding size_of
size_back relative form size.Auto None h = ap (λ (o : Option Size). or_measured o (measured_size relative form (codes "auto"))) (this form.auto (Some size.Auto) (none_or form (codes "auto")) h)
size_back relative form size.Absent None h = ap (λ (o : Option Size). or_measured o (measured_size relative form (codes "none"))) (skip form.auto (Some size.Auto) (none_or form (codes "none")) ∙ this form.none (Some size.Absent) (normal_or form (codes "none")) h)
size_back relative form size.Normal None h =
    ap (λ (o : Option Size). or_measured o (measured_size relative form (codes "normal")))
    (skip form.auto (Some size.Auto) (none_or form (codes "normal")) ∙ skip form.none (Some size.Absent) (normal_or form (codes "normal")) ∙ this form.normal (Some size.Normal) (content_or form (codes "normal")) h)
size_back relative form size.Content None h =
    ap (λ (o : Option Size). or_measured o (measured_size relative form (codes "content")))
    (skip form.auto (Some size.Auto) (none_or form (codes "content")) ∙ skip form.none (Some size.Absent) (normal_or form (codes "content")) ∙ skip form.normal (Some size.Normal) (content_or form (codes "content")) ∙ this form.content (Some size.Content) None h)
size_back relative form (size.Percent t) None h =
    let w : Word = percentage t in
    ap (λ (o : Option Size). or_measured o (measured_size relative form w)) (no_keyword form w (percent_starts t (omega (arith, h.1))))
    ∙ both_if form.percent (ends_in (codes "%") w) (option_map (λ (t : ℕ). plain_size (size.Percent t)) (percentage_of w)) (option_map length_size (length_in relative form.below_zero w)) h.0 (is_percent t)
    ∙ ap (option_map (λ (t : ℕ). plain_size (size.Percent t))) (percent_back t h.1)
size_back relative form (size.Length px) (Some u) h =
    let w : Word = length_word px u in
    ap (λ (o : Option Size). or_measured o (measured_size relative form w)) (no_keyword form w (length_starts relative form.below_zero px u h))
    ∙ none_if form.percent (ends_in (codes "%") w) (option_map (λ (t : ℕ). plain_size (size.Percent t)) (percentage_of w)) (option_map length_size (length_in relative form.below_zero w)) (no_percent px u)
    ∙ ap (option_map length_size) (length_back relative form.below_zero px u h)
size_back relative form size.Auto (Some u) h = absurd h
size_back relative form size.Absent (Some u) h = absurd h
size_back relative form size.Normal (Some u) h = absurd h
size_back relative form size.Content (Some u) h = absurd h
size_back relative form (size.Percent t) (Some u) h = absurd h
size_back relative form (size.Length px) None h = absurd h

pub one_size_back : (relative : Bool) (form : SizeForm) (m : Measured) → IsMeasured relative form m → one_size relative form (size_word m.size (units_of m.unit) ∷ []) ≡ Some m
one_size_back relative form m h = ap (λ (o : Option Measured). bind {A = Measured × List Word} (option_map (λ (measured : Measured). (measured, [])) o) (λ read. if_ended read.1 read.0)) (size_back relative form m.size m.unit h)

-- ---- nothing is refused

keyword_quiet : (relative : Bool) (r : Refused) →
    (holds_refused false relative r (codes "auto" ∷ []) ≡ false) × ((holds_refused false relative r (codes "none" ∷ []) ≡ false) × ((holds_refused false relative r (codes "normal" ∷ []) ≡ false) × (holds_refused false relative r (codes "content" ∷ []) ≡ false)))
keyword_quiet true refused.Nothing = (refl, (refl, (refl, refl)))
keyword_quiet true refused.Template = (refl, (refl, (refl, refl)))
keyword_quiet true refused.Baselines = (refl, (refl, (refl, refl)))
keyword_quiet true refused.Contents = (refl, (refl, (refl, refl)))
keyword_quiet true refused.Percentages = (refl, (refl, (refl, refl)))
keyword_quiet true refused.Reversed = (refl, (refl, (refl, refl)))
keyword_quiet false refused.Nothing = (refl, (refl, (refl, refl)))
keyword_quiet false refused.Template = (refl, (refl, (refl, refl)))
keyword_quiet false refused.Baselines = (refl, (refl, (refl, refl)))
keyword_quiet false refused.Contents = (refl, (refl, (refl, refl)))
keyword_quiet false refused.Percentages = (refl, (refl, (refl, refl)))
keyword_quiet false refused.Reversed = (refl, (refl, (refl, refl)))

-- where the form has percentages the property allows them
pub size_quiet : (relative : Bool) (form : SizeForm) (r : Refused) (s : Size) (u : Option Unit) → (form.percent ≡ true → AllowsPercent r) → IsSize relative form s u → holds_refused false relative r (size_word s (units_of u) ∷ []) ≡ false
size_quiet relative form r size.Auto None a h = (keyword_quiet relative r).0
size_quiet relative form r size.Absent None a h = (keyword_quiet relative r).1.0
size_quiet relative form r size.Normal None a h = (keyword_quiet relative r).1.1.0
size_quiet relative form r size.Content None a h = (keyword_quiet relative r).1.1.1
size_quiet relative form r (size.Percent t) None a h = quiet_word relative r (percentage t) [] (quiet_percent relative r (percentage t) [] (percent_starts t (omega (arith, h.1))) (percent_not_measured relative t h.1) (a h.0))
size_quiet relative form r (size.Length px) (Some u) a h = quiet_word relative r (length_word px u) [] (quiet_number relative r (length_word px u) [] (length_starts relative form.below_zero px u h) (length_not_measured relative form.below_zero px u h) (no_percent px u))
size_quiet relative form r size.Auto (Some u) a h = absurd h
size_quiet relative form r size.Absent (Some u) a h = absurd h
size_quiet relative form r size.Normal (Some u) a h = absurd h
size_quiet relative form r size.Content (Some u) a h = absurd h
size_quiet relative form r (size.Percent t) (Some u) a h = absurd h
size_quiet relative form r (size.Length px) None a h = absurd h

-- ---- alignments

-- the form has the mode
abbrev pub IsModeIn : AlignForm → AlignMode → Type 0
IsModeIn form mode.Auto = form.auto ≡ true
IsModeIn form mode.Between = form.spaces ≡ true
IsModeIn form mode.Around = form.spaces ≡ true
IsModeIn form mode.Evenly = form.spaces ≡ true
IsModeIn form m = ⊤

abbrev pub IsPosition : AlignMode → Type 0
IsPosition mode.Start = ⊤
IsPosition mode.End = ⊤
IsPosition mode.Center = ⊤
IsPosition mode.FlexStart = ⊤
IsPosition mode.FlexEnd = ⊤
IsPosition m = ⊥

abbrev pub IsAlignIn : AlignForm → AlignMode → Option Bool → Type 0
IsAlignIn form m None = IsModeIn form m
IsAlignIn form m (Some safe) = IsPosition m

abbrev pub IsAlign : AlignForm → Align → Type 0
IsAlign form a = IsAlignIn form a.mode a.safe

position_told : (word : Word) → Every IsPosition (position_of word)
position_told word =
    every_if IsPosition (bytes_eq word (codes "start")) (Some mode.Start) from_end (λ _. tt)
    (λ _. every_if IsPosition (bytes_eq word (codes "end")) (Some mode.End) from_center (λ _. tt)
    (λ _. every_if IsPosition (bytes_eq word (codes "center")) (Some mode.Center) from_flex (λ _. tt)
    (λ _. every_if IsPosition (bytes_eq word (codes "flex-start")) (Some mode.FlexStart) from_last (λ _. tt)
    (λ _. every_if IsPosition (bytes_eq word (codes "flex-end")) (Some mode.FlexEnd) None (λ _. tt) (λ _. tt))))) where
      from_last : Option AlignMode
      from_last = if bytes_eq word (codes "flex-end") then Some mode.FlexEnd else None

      from_flex : Option AlignMode
      from_flex = if bytes_eq word (codes "flex-start") then Some mode.FlexStart else from_last

      from_center : Option AlignMode
      from_center = if bytes_eq word (codes "center") then Some mode.Center else from_flex

      from_end : Option AlignMode
      from_end = if bytes_eq word (codes "end") then Some mode.End else from_center

position_in : (form : AlignForm) (m : AlignMode) → IsPosition m → IsModeIn form m
position_in form mode.Auto h = absurd h
position_in form mode.Normal h = absurd h
position_in form mode.Stretch h = absurd h
position_in form mode.Start h = tt
position_in form mode.End h = tt
position_in form mode.Center h = tt
position_in form mode.FlexStart h = tt
position_in form mode.FlexEnd h = tt
position_in form mode.Between h = absurd h
position_in form mode.Around h = absurd h
position_in form mode.Evenly h = absurd h

space_told : (form : AlignForm) (word : Word) → form.spaces ≡ true → Every (IsModeIn form) (space_of word)
space_told form word h =
    every_if (IsModeIn form) (bytes_eq word (codes "space-between")) (Some mode.Between) from_around (λ _. h)
    (λ _. every_if (IsModeIn form) (bytes_eq word (codes "space-around")) (Some mode.Around) from_evenly (λ _. h)
    (λ _. every_if (IsModeIn form) (bytes_eq word (codes "space-evenly")) (Some mode.Evenly) None (λ _. h) (λ _. tt))) where
      from_evenly : Option AlignMode
      from_evenly = if bytes_eq word (codes "space-evenly") then Some mode.Evenly else None

      from_around : Option AlignMode
      from_around = if bytes_eq word (codes "space-around") then Some mode.Around else from_evenly

or_position_told : (form : AlignForm) (o : Option AlignMode) (word : Word) → Every (IsModeIn form) o → Every (IsModeIn form) (or_position o word)
or_position_told form (Some m) word h = h
or_position_told form None word h = every_so IsPosition (IsModeIn form) (position_of word) (position_in form) (position_told word)

mode_told : (form : AlignForm) (word : Word) → Every (IsModeIn form) (mode_of form word)
mode_told form word =
    every_if (IsModeIn form) (bytes_eq word (codes "normal")) (Some mode.Normal) from_stretch (λ _. tt)
    (λ _. every_if (IsModeIn form) (bytes_eq word (codes "stretch")) (Some mode.Stretch) from_auto (λ _. tt)
    (λ _. every_if (IsModeIn form) (form.auto && bytes_eq word (codes "auto")) (Some mode.Auto) (or_position (space_in form word) word) (λ e. (and_parts form.auto (bytes_eq word (codes "auto")) e).0)
    (λ _. or_position_told form (space_in form word) word (every_if (IsModeIn form) form.spaces (space_of word) None (λ e. space_told form word e) (λ _. tt))))) where
      from_auto : Option AlignMode
      from_auto = if form.auto && bytes_eq word (codes "auto") then Some mode.Auto else or_position (space_in form word) word

      from_stretch : Option AlignMode
      from_stretch = if bytes_eq word (codes "stretch") then Some mode.Stretch else from_auto

guarded_told : (form : AlignForm) (a b : Word) → Every (IsAlign form) (guarded a b)
guarded_told form a b =
    every_bind (IsAlign form) (λ _. ⊤) (λ safe. option_map (λ m. align m (Some safe)) (position_of b)) (safe_of a) (anything (safe_of a))
    (λ safe h. every_map (IsAlign form) (λ m. align m (Some safe)) (position_of b) (position_told b)) where
      anything : {A : Type 0} (o : Option A) → Every (λ _. ⊤) o
      anything None = tt
      anything (Some x) = tt

pub align_told : (form : AlignForm) (words : List Word) → Every (IsAlign form) (align_of form words)
align_told form [] = tt
align_told form (a ∷ []) = every_map (IsAlign form) (λ m. align m None) (mode_of form a) (mode_told form a)
align_told form (a ∷ b ∷ words) = every_if (IsAlign form) (ended words) (guarded a b) None (λ _. guarded_told form a b) (λ _. tt)

-- a position where the form has no space word
at_position : (form : AlignForm) (word : Word) (m : AlignMode) → space_of word ≡ None → position_of word ≡ Some m → or_position (space_in form word) word ≡ Some m
at_position form word m s p = ap (λ (o : Option AlignMode). or_position o word) (by_form form.spaces) ∙ p where
  by_form : (b : Bool) → (if b then space_of word else None) ≡ None
  by_form true = s
  by_form false = refl

at_space : (form : AlignForm) (word : Word) (m : AlignMode) → form.spaces ≡ true → space_of word ≡ Some m → or_position (space_in form word) word ≡ Some m
at_space form word m h s = ap (λ (b : Bool). or_position (if b then space_of word else None) word) h ∙ ap (λ (o : Option AlignMode). or_position o word) s

mode_back : (form : AlignForm) (m : AlignMode) → IsModeIn form m → mode_of form (mode_word m) ≡ Some m
mode_back form mode.Auto h = this form.auto (Some mode.Auto) (or_position (space_in form (codes "auto")) (codes "auto")) h
mode_back form mode.Normal h = refl
mode_back form mode.Stretch h = refl
mode_back form mode.Start h = skip form.auto (Some mode.Auto) (or_position (space_in form (codes "start")) (codes "start")) ∙ at_position form (codes "start") mode.Start refl refl
mode_back form mode.End h = skip form.auto (Some mode.Auto) (or_position (space_in form (codes "end")) (codes "end")) ∙ at_position form (codes "end") mode.End refl refl
mode_back form mode.Center h = skip form.auto (Some mode.Auto) (or_position (space_in form (codes "center")) (codes "center")) ∙ at_position form (codes "center") mode.Center refl refl
mode_back form mode.FlexStart h = skip form.auto (Some mode.Auto) (or_position (space_in form (codes "flex-start")) (codes "flex-start")) ∙ at_position form (codes "flex-start") mode.FlexStart refl refl
mode_back form mode.FlexEnd h = skip form.auto (Some mode.Auto) (or_position (space_in form (codes "flex-end")) (codes "flex-end")) ∙ at_position form (codes "flex-end") mode.FlexEnd refl refl
mode_back form mode.Between h = skip form.auto (Some mode.Auto) (or_position (space_in form (codes "space-between")) (codes "space-between")) ∙ at_space form (codes "space-between") mode.Between h refl
mode_back form mode.Around h = skip form.auto (Some mode.Auto) (or_position (space_in form (codes "space-around")) (codes "space-around")) ∙ at_space form (codes "space-around") mode.Around h refl
mode_back form mode.Evenly h = skip form.auto (Some mode.Auto) (or_position (space_in form (codes "space-evenly")) (codes "space-evenly")) ∙ at_space form (codes "space-evenly") mode.Evenly h refl

position_back : (m : AlignMode) → IsPosition m → position_of (mode_word m) ≡ Some m
position_back mode.Auto h = absurd h
position_back mode.Normal h = absurd h
position_back mode.Stretch h = absurd h
position_back mode.Start h = refl
position_back mode.End h = refl
position_back mode.Center h = refl
position_back mode.FlexStart h = refl
position_back mode.FlexEnd h = refl
position_back mode.Between h = absurd h
position_back mode.Around h = absurd h
position_back mode.Evenly h = absurd h

pub align_back : (form : AlignForm) (m : AlignMode) (safe : Option Bool) → IsAlignIn form m safe → align_of form (align_words (align m safe)) ≡ Some (align m safe)
align_back form m None h = ap (option_map (λ (m : AlignMode). align m None)) (mode_back form m h)
align_back form m (Some true) h = ap (option_map (λ (m : AlignMode). align m (Some true))) (position_back m h)
align_back form m (Some false) h = ap (option_map (λ (m : AlignMode). align m (Some false))) (position_back m h)

mode_quiet : (relative : Bool) (m : AlignMode) → holds_refused false relative refused.Baselines (mode_word m ∷ []) ≡ false
mode_quiet true mode.Auto = refl
mode_quiet true mode.Normal = refl
mode_quiet true mode.Stretch = refl
mode_quiet true mode.Start = refl
mode_quiet true mode.End = refl
mode_quiet true mode.Center = refl
mode_quiet true mode.FlexStart = refl
mode_quiet true mode.FlexEnd = refl
mode_quiet true mode.Between = refl
mode_quiet true mode.Around = refl
mode_quiet true mode.Evenly = refl
mode_quiet false mode.Auto = refl
mode_quiet false mode.Normal = refl
mode_quiet false mode.Stretch = refl
mode_quiet false mode.Start = refl
mode_quiet false mode.End = refl
mode_quiet false mode.Center = refl
mode_quiet false mode.FlexStart = refl
mode_quiet false mode.FlexEnd = refl
mode_quiet false mode.Between = refl
mode_quiet false mode.Around = refl
mode_quiet false mode.Evenly = refl

safe_quiet : (relative safe : Bool) (rest : List Word) → holds_refused false relative refused.Baselines (safe_words (Some safe) ++ rest) ≡ holds_refused false relative refused.Baselines rest
safe_quiet true true rest = refl
safe_quiet true false rest = refl
safe_quiet false true rest = refl
safe_quiet false false rest = refl

pub align_quiet : (relative : Bool) (m : AlignMode) (safe : Option Bool) → holds_refused false relative refused.Baselines (align_words (align m safe)) ≡ false
align_quiet relative m None = mode_quiet relative m
align_quiet relative m (Some safe) = safe_quiet relative safe (mode_word m ∷ []) ∙ mode_quiet relative m

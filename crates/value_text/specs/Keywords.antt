-- Values of keywords: alignments, the flow of placement, and the others.
use Rattle.std.specs.Prelude.{Bool, true, false, ◌&&◌, List, [], ◌∷◌, if◌then◌else◌, Option, Some, None, codes}
use Rattle.std.specs.Option.{option_map}
use Rattle.std.specs.Str.{bytes_eq}
use Rattle.style_types.specs.declared.value.Align.{Align}
use Rattle.style_types.specs.declared.value.AlignMode.{AlignMode}
use Rattle.style_types.specs.declared.value.AlignMode.TheVariants as mode
use Rattle.style_types.specs.declared.value.Scroll.{Scroll}
use Rattle.style_types.specs.declared.value.Scroll.TheVariants as scroll
use Rattle.track_text.specs.Words.{Word, bind, ended}
use Rattle.value_text.specs.declared.keyword.AlignForm.{AlignForm}

-- a value of one word, which this reads
abbrev pub word_alone : {A : Type 0} → (Word → Option A) → List Word → Option A
word_alone read [] = None
word_alone read (word ∷ words) = if ended words then read word else None

-- one of two keywords: whether it is the second
abbrev pub either : Word → Word → Word → Option Bool
either first second word = if bytes_eq word first then Some false else if bytes_eq word second then Some true else None

-- `visible`, `clip`, `hidden`, `scroll` or `auto` (CSS Overflow 3, 3.1)
abbrev pub scroll_of : Word → Option Scroll
scroll_of word =
    if bytes_eq word (codes "visible") then Some scroll.Visible
    else if bytes_eq word (codes "clip") then Some scroll.Clip
    else if bytes_eq word (codes "hidden") then Some scroll.Hidden
    else if bytes_eq word (codes "scroll") then Some scroll.Scroll
    else if bytes_eq word (codes "auto") then Some scroll.Auto
    else None

-- ---- the flow of placement (CSS Grid 2, 7.7): whether it goes by columns, and whether it is dense

abbrev pub axis_of : Word → Option Bool
axis_of word = either (codes "row") (codes "column") word

abbrev pub is_dense : Word → Bool
is_dense word = bytes_eq word (codes "dense")

abbrev pub one_flow : Word → Option (Bool × Bool)
one_flow word = if is_dense word then Some (false, true) else option_map (λ column. (column, false)) (axis_of word)

abbrev pub dense_flow : Word → Option (Bool × Bool)
dense_flow word = option_map (λ column. (column, true)) (axis_of word)

abbrev pub two_flows : Word → Word → Option (Bool × Bool)
two_flows a b = if is_dense a then dense_flow b else if is_dense b then dense_flow a else None

abbrev pub flow_after : Word → List Word → Option (Bool × Bool)
flow_after a [] = one_flow a
flow_after a (b ∷ words) = if ended words then two_flows a b else None

-- `row`, `column`, `dense`, or one of the first two with `dense` in either order
abbrev pub flow_of : List Word → Option (Bool × Bool)
flow_of [] = None
flow_of (word ∷ words) = flow_after word words

-- ---- alignments (CSS Box Alignment 3, 4)

abbrev pub position_of : Word → Option AlignMode
position_of word =
    if bytes_eq word (codes "start") then Some mode.Start
    else if bytes_eq word (codes "end") then Some mode.End
    else if bytes_eq word (codes "center") then Some mode.Center
    else if bytes_eq word (codes "flex-start") then Some mode.FlexStart
    else if bytes_eq word (codes "flex-end") then Some mode.FlexEnd
    else None

abbrev pub space_of : Word → Option AlignMode
space_of word =
    if bytes_eq word (codes "space-between") then Some mode.Between
    else if bytes_eq word (codes "space-around") then Some mode.Around
    else if bytes_eq word (codes "space-evenly") then Some mode.Evenly
    else None

-- where the form has the space words, one of these
abbrev pub space_in : AlignForm → Word → Option AlignMode
space_in form word = if form.spaces then space_of word else None

abbrev pub or_position : Option AlignMode → Word → Option AlignMode
or_position (Some m) word = Some m
or_position None word = position_of word

-- the mode that a word alone is: `normal`, `stretch`, `auto` or a space word where the form has these, or a position
abbrev pub mode_of : AlignForm → Word → Option AlignMode
mode_of form word =
    if bytes_eq word (codes "normal") then Some mode.Normal
    else if bytes_eq word (codes "stretch") then Some mode.Stretch
    else if form.auto && bytes_eq word (codes "auto") then Some mode.Auto
    else or_position (space_in form word) word

abbrev pub align : AlignMode → Option Bool → Align
align m safe = record { mode = m; safe = safe }

abbrev pub safe_of : Word → Option Bool
safe_of word = either (codes "unsafe") (codes "safe") word

-- a position after `safe` or `unsafe` (CSS Box Alignment 3, 4.4)
abbrev pub guarded : Word → Word → Option Align
guarded a b = bind (safe_of a) (λ safe. option_map (λ m. align m (Some safe)) (position_of b))

abbrev pub align_after : AlignForm → Word → List Word → Option Align
align_after form a [] = option_map (λ m. align m None) (mode_of form a)
align_after form a (b ∷ words) = if ended words then guarded a b else None

abbrev pub align_of : AlignForm → List Word → Option Align
align_of form [] = None
align_of form (word ∷ words) = align_after form word words

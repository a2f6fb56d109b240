-- Track sizes as they are read, against those of a style and the units of their lengths.
use Rattle.std.specs.Prelude.{List, [], ◌∷◌, map, Option, Some, None}
use Rattle.std.specs.Option.{option_map}
use Rattle.style_types.specs.declared.track.Breadth.{Breadth}
use Rattle.style_types.specs.declared.track.Breadth.TheVariants as breadth
use Rattle.style_types.specs.declared.track.TrackFn.{TrackFn}
use Rattle.style_types.specs.declared.track.Repeat.{Repeat}
use Rattle.style_types.specs.declared.track.TrackList.{TrackList}
use Rattle.style_types.specs.declared.unit.Unit.{Unit}
use Rattle.track_text.specs.declared.side.Side.{Side}
use Rattle.track_text.specs.declared.side.Side.TheVariants as side
use Rattle.track_text.specs.declared.side.Track.{Track}
use Rattle.track_text.specs.declared.side.ReadRepeat.{ReadRepeat}
use Rattle.track_text.specs.declared.side.ReadList.{ReadList}

abbrev pub breadth_of_side : Side → Breadth
breadth_of_side (side.Length px unit) = breadth.Length px
breadth_of_side (side.Percent thousandths) = breadth.Percent thousandths
breadth_of_side side.Auto = breadth.Auto
breadth_of_side side.MinContent = breadth.MinContent
breadth_of_side side.MaxContent = breadth.MaxContent
breadth_of_side (side.Flex factor) = breadth.Flex factor

abbrev pub track_of : Breadth → Breadth → Option Breadth → TrackFn
track_of least most fit = record { least = least; most = most; fit = fit }

abbrev pub size_of_track : Track → TrackFn
size_of_track track = track_of (breadth_of_side track.least) (breadth_of_side track.most) (option_map breadth_of_side track.fit)

-- the unit of the side's length, where it is one, before other units
abbrev pub side_units : Side → List Unit → List Unit
side_units (side.Length px unit) units = unit ∷ units
side_units s units = units

abbrev pub fit_units : Option Side → List Unit → List Unit
fit_units None units = units
fit_units (Some s) units = side_units s units

-- the units of the lengths of a size: of its least side, its most side, and the argument of `fit-content`
abbrev pub track_units : Track → List Unit → List Unit
track_units track units = side_units track.least (side_units track.most (fit_units track.fit units))

abbrev pub sizes_of : List Track → List TrackFn
sizes_of tracks = map size_of_track tracks

-- the units of one track after another, before other units
abbrev pub units_before : List Track → List Unit → List Unit
units_before [] units = units
units_before (track ∷ tracks) units = track_units track (units_before tracks units)

abbrev pub repeat_value : ReadRepeat → Repeat
repeat_value r = record { before = r.before; auto_fit = r.auto_fit; sizes = sizes_of r.sizes; names = r.names }

abbrev pub list_value : ReadList → TrackList
list_value list = record { sizes = sizes_of list.sizes; names = list.names; repeat = option_map repeat_value list.repeat }

abbrev pub repeat_units : Option ReadRepeat → List Unit
repeat_units None = []
repeat_units (Some r) = units_before r.sizes []

-- the units of a list: of the tracks outside the automatic repeat, then of those of one repetition
abbrev pub list_units : ReadList → List Unit
list_units list = units_before list.sizes (repeat_units list.repeat)

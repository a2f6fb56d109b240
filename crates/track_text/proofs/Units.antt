-- The units of tracks, behind others.
use Rattle.std.proofs.Common.{◌≡◌, List, [], ◌∷◌, ◌++◌, Option, Some, None, ap, refl, sym, ◌∙◌}
use Rattle.std.proofs.lemmas.List.{append_assoc}
use Rattle.style_types.specs.declared.unit.Unit.{Unit}
use Rattle.track_text.specs.declared.side.Side.{Side}
use Rattle.track_text.specs.declared.side.Side.TheVariants as side
use Rattle.track_text.specs.declared.side.Track.{Track}
use Rattle.track_text.specs.declared.side.ReadList.{ReadList}
use Rattle.std.proofs.Common.{Bool}
use Rattle.track_text.specs.Words.{Word, bind, all_from}
use Rattle.track_text.specs.TrackSizes.{track_first}
use Rattle.track_text.specs.Templates.{some_tracks, sizes_value, auto_tracks}
use Rattle.track_text.specs.Sides.{side_units, fit_units, track_units, units_before, repeat_units, list_units}

pub side_before : (s : Side) (units more : List Unit) → side_units s (units ++ more) ≡ side_units s units ++ more
side_before (side.Length px unit) units more = refl
side_before (side.Percent t) units more = refl
side_before side.Auto units more = refl
side_before side.MinContent units more = refl
side_before side.MaxContent units more = refl
side_before (side.Flex t) units more = refl

fit_before : (s : Option Side) (units more : List Unit) → fit_units s (units ++ more) ≡ fit_units s units ++ more
fit_before None units more = refl
fit_before (Some s) units more = side_before s units more

track_before : (track : Track) (units more : List Unit) → track_units track (units ++ more) ≡ track_units track units ++ more
track_before track units more =
    ap (λ (u : List Unit). side_units track.least (side_units track.most u)) (fit_before track.fit units more)
    ∙ ap (side_units track.least) (side_before track.most (fit_units track.fit units) more)
    ∙ side_before track.least (side_units track.most (fit_units track.fit units)) more

all_before : (tracks : List Track) (units more : List Unit) → units_before tracks (units ++ more) ≡ units_before tracks units ++ more
all_before [] units more = refl
all_before (track ∷ tracks) units more = ap (track_units track) (all_before tracks units more) ∙ track_before track (units_before tracks units) more

-- the units of one side after another are those of the track
pub track_behind : (held : List Unit) (track : Track) → ((held ++ side_units track.least []) ++ side_units track.most []) ++ fit_units track.fit [] ≡ held ++ track_units track []
track_behind held track =
    ap (λ (u : List Unit). u ++ fit_units track.fit []) (append_assoc held (side_units track.least []) (side_units track.most []))
    ∙ append_assoc held (side_units track.least [] ++ side_units track.most []) (fit_units track.fit [])
    ∙ ap (λ (u : List Unit). held ++ u) (append_assoc (side_units track.least []) (side_units track.most []) (fit_units track.fit [])
    ∙ ap (λ (u : List Unit). side_units track.least [] ++ u) (sym (side_before track.most [] (fit_units track.fit [])))
    ∙ sym (side_before track.least [] (side_units track.most (fit_units track.fit []))))

pub units_next : (track : Track) (tracks : List Track) → units_before (track ∷ tracks) [] ≡ track_units track [] ++ units_before tracks []
units_next track tracks = track_before track [] (units_before tracks [])

-- the units of some tracks after those of others
pub units_append : (tracks more : List Track) → units_before (tracks ++ more) [] ≡ units_before tracks [] ++ units_before more []
units_append [] more = refl
units_append (track ∷ tracks) more = ap (track_units track) (units_append tracks more) ∙ track_before track (units_before tracks []) (units_before more [])

-- the units of the list are those of its tracks, then those of the repeat
pub list_behind : (list : ReadList) → ([] ++ units_before list.sizes []) ++ repeat_units list.repeat ≡ list_units list
list_behind list = sym (all_before list.sizes [] (repeat_units list.repeat))

-- ---- one track size or more

pub some_sizes : (tracks : List Track) → (tracks ≡ [] → ⊥) → some_tracks tracks ≡ Some (sizes_value tracks)
some_sizes [] h = elim (h refl) [ ]
some_sizes (track ∷ tracks) h = refl

pub sizes_read : (relative : Bool) (words : List Word) → auto_tracks relative words ≡ bind (all_from (track_first relative) words) some_tracks
unfolding all_from
sizes_read relative words = refl

-- The template of an axis with its automatic repeat written out (CSS Grid 2, 7.2.3).
use Rattle.std.specs.Prelude.{◌≡◌, refl, ℕ, zero, suc, ◌+◌, ◌*◌, pos, true, false, List, [], ◌∷◌, ◌++◌, take, drop, length, min, codes, Option, Some, None}
use Rattle.style_types.specs.declared.track.Breadth.TheVariants as breadth
use Rattle.style_types.specs.declared.track.Repeat.{Repeat}
use Rattle.style_types.specs.declared.track.Template.{Template}
use Rattle.style_types.specs.declared.track.Template.TheVariants as template
use Rattle.style_types.specs.declared.track.TrackFn.{TrackFn}
use Rattle.style_types.specs.declared.track.TrackList.{TrackList}
use Rattle.style_types.specs.Table.{auto_track}

-- the names of one line
abbrev pub Names : Type 0
Names = List (List ℕ)

-- A template written out: the sizes of its tracks and the names of its lines; and of `auto-fit` the first repeated track and the one after
-- the last.
pub record Written : Type 0 where
  pub sizes : List TrackFn
  pub names : List Names
  pub fit : Option (ℕ × ℕ)

-- two lists of lines, where the last line of the first is the first line of the second
abbrev pub seamed : List Names → List Names → List Names
seamed [] ys = ys
seamed (x ∷ []) [] = x ∷ []
seamed (x ∷ []) (y ∷ ys) = (x ++ y) ∷ ys
seamed (x ∷ z ∷ xs) ys = x ∷ seamed (z ∷ xs) ys

-- the lines of so many repetitions
abbrev pub repeated_names : ℕ → List Names → List Names
repeated_names zero names = []
repeated_names (suc n) names = seamed names (repeated_names n names)

-- the tracks of so many repetitions
abbrev pub repeated_sizes : ℕ → List TrackFn → List TrackFn
repeated_sizes zero sizes = []
repeated_sizes (suc n) sizes = sizes ++ repeated_sizes n sizes

-- a list in which an automatic repeat stands so often
abbrev pub written_repeat : TrackList → Option Repeat → ℕ → Written
written_repeat l None count = record { sizes = l.sizes; names = l.names; fit = None }
written_repeat l (Some r) count = record {
  sizes = take r.before l.sizes ++ repeated_sizes count r.sizes ++ drop r.before l.sizes;
  names = seamed (take (r.before + 1) l.names) (seamed (repeated_names count r.names) (drop (r.before + 1) l.names));
  fit = elim r.auto_fit [ true ↦ Some (r.before, r.before + count * length r.sizes) | false ↦ None ];
}

-- the repeated tracks of `auto-fit` among so many
abbrev pub fit_within : ℕ → Option (ℕ × ℕ) → Option (ℕ × ℕ)
fit_within most None = None
fit_within most (Some fit) = Some (min fit.0 most, min fit.1 most)

-- at most so many tracks (own rule): those after them go, and the lines after them with their names; the last line that is left keeps all its
-- names (it could also lose those that come from what goes)
abbrev pub cut_at : ℕ → Written → Written
cut_at most w = record { sizes = take most w.sizes; names = take (most + 1) w.names; fit = fit_within most w.fit }

-- A template in which the automatic repeat stands so often. `subgrid` has no tracks of its own, and is `none` where there is no grid to be
-- a subgrid of.
abbrev pub written : Template → ℕ → Written
written template.Absent count = record { sizes = []; names = []; fit = None }
written (template.Subgrid sets) count = record { sizes = []; names = []; fit = None }
written (template.Tracks l) count = cut_at 10000 (written_repeat l l.repeat count)

-- the name sets after `subgrid`
abbrev pub subgrid_sets : Template → List Names
subgrid_sets template.Absent = []
subgrid_sets (template.Subgrid sets) = sets
subgrid_sets (template.Tracks l) = []

-- ---- worked rows

abbrev pub a_name : List ℕ
a_name = codes "a"

abbrev pub z_name : List ℕ
z_name = codes "z"

abbrev pub px_track : ℕ → TrackFn
px_track n = record { least = breadth.Length (pos n); most = breadth.Length (pos n); fit = None }

-- repeat(auto-fill, [a] 100px) [z], three times: the lines a, a, a and z
abbrev three_times : Written
three_times =
    written
    (template.Tracks
    (record {
      sizes = [];
      names = [] ∷ (z_name ∷ []) ∷
          [];
      repeat = Some (record { before = 0; auto_fit = false; sizes = px_track 6400 ∷ []; names = (a_name ∷ []) ∷ [] ∷ [] });
    })) 3

three_names : three_times.names ≡ (a_name ∷ []) ∷ (a_name ∷ []) ∷ (a_name ∷ []) ∷ (z_name ∷ []) ∷ []
three_names = refl

three_sizes : three_times.sizes ≡ px_track 6400 ∷ px_track 6400 ∷ px_track 6400 ∷ []
three_sizes = refl

-- auto [a] repeat(auto-fit, [z] 1px [a]) [z] 2px, twice: the line before the repeat is `a z`, the seam `a z`, the line after it `a z`
abbrev twice : Written
twice =
    written
    (template.Tracks
    (record {
      sizes = auto_track ∷ px_track 128 ∷ [];
      names = [] ∷ (a_name ∷ []) ∷ (z_name ∷ []) ∷ [] ∷
          [];
      repeat = Some (record { before = 1; auto_fit = true; sizes = px_track 64 ∷ []; names = (z_name ∷ []) ∷ (a_name ∷ []) ∷ [] });
    })) 2

seams : twice.names ≡ [] ∷ (a_name ∷ z_name ∷ []) ∷ (a_name ∷ z_name ∷ []) ∷ (a_name ∷ z_name ∷ []) ∷ [] ∷ []
seams = refl

fit_tracks : twice.fit ≡ Some (1, 3)
fit_tracks = refl

-- of three tracks, the last two of which are repeated, two are kept: one repeated track may collapse; of one, none
fit_of_kept : fit_within 2 (Some (1, 3)) ≡ Some (1, 2)
fit_of_kept = refl

fit_of_none : fit_within 1 (Some (1, 3)) ≡ Some (1, 1)
fit_of_none = refl

around_repeat : twice.sizes ≡ auto_track ∷ px_track 64 ∷ px_track 64 ∷ px_track 128 ∷ []
around_repeat = refl

no_tracks : (written (template.Subgrid ((a_name ∷ []) ∷ [])) 3).names ≡ []
no_tracks = refl

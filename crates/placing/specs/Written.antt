-- The template of an axis as the code writes it out: what stands before the automatic repeat, the repeat, and what stands after it.
use Rattle.std.specs.Prelude.{ℕ, ◌≤◌, List, [], ◌++◌, length, take, drop}
use Rattle.std.specs.Option.{option_copied, unwrap_or}
use Rattle.style_types.specs.declared.track.TrackFn.{TrackFn}
use Rattle.style_types.specs.declared.track.TrackList.{TrackList}
use Rattle.tree_rules.specs.Templates.{Names, Written, cut_at, repeated_names, repeated_sizes, seamed, written_repeat}
use Rattle.placing.specs.declared.template.TrackSizes.TheInside.{Inside}

-- some tracks, put in after so many of others
abbrev pub around : ℕ → List TrackFn → List TrackFn → List TrackFn
around before listed repeated = take before listed ++ repeated ++ drop before listed

-- the tracks that are kept
abbrev pub sizes_by : ℕ → List TrackFn → ℕ → List TrackFn → List TrackFn
sizes_by before listed count repeated = take 10000 (around before listed (repeated_sizes count repeated))

-- the lines that are kept
abbrev pub names_by : List Names → List Names → ℕ → List Names → List Names
names_by before repeated count after = take 10001 (seamed before (seamed (repeated_names count repeated) after))

-- the tracks outside of the repeat
abbrev pub listed_of : Inside → List TrackFn
listed_of t = unwrap_or (option_copied t.listed) []

abbrev pub sizes_of : Inside → List TrackFn
sizes_of t = sizes_by t.before (listed_of t) t.count t.repeated.now

-- the numbers of tracks can be added
pub record AreFew (t : Inside) : Type 0 where
  pub before : t.before ≤ length (listed_of t)
  pub listed : length (listed_of t) ≤ 20000
  pub repeated : length t.repeated.now ≤ 10000

-- a list written out
abbrev pub list_written : TrackList → ℕ → Written
list_written l count = cut_at 10000 (written_repeat l l.repeat count)

-- Track lists that a text tells.
use Rattle.std.proofs.Common.{◌≡◌, ℕ, zero, suc, ◌≤◌, Bool, true, ◌&&◌, List, [], ◌∷◌, ◌++◌, length, take, refl, sym, arith, Option, Some, None}
use Rattle.std.specs.List.{list_all}
use Rattle.std.proofs.lemmas.Bool.{and_parts, and_from, true≢false}
use Rattle.track_text.specs.declared.side.Track.{Track}
use Rattle.track_text.specs.declared.side.ReadRepeat.{ReadRepeat}
use Rattle.track_text.specs.declared.side.ReadList.{ReadList}
use Rattle.track_text.specs.declared.entry.Entry.{Entry}
use Rattle.track_text.specs.declared.entry.Entry.TheVariants as entry
use Rattle.track_text.specs.declared.entry.Filling.{Filling}
use Rattle.track_text.specs.declared.entry.Part.{Part}
use Rattle.track_text.specs.declared.entry.Part.TheVariants as part
use Rattle.track_text.specs.Words.{Word, all_of}
use Rattle.track_text.specs.Repeats.{has_track, times, part_first}
use Rattle.track_text.specs.TrackSizes.{is_fixed}
use Rattle.track_text.specs.Templates.{tracks_of, kept_tracks, kept_names, all_fixed, plain_list, repeat_of, automatic_list, written_out, list_of, track_list}
use Rattle.doc_writer.proofs.Told.{Every, every_map, every_bind, every_if, every_so}
use Rattle.doc_writer.proofs.SidesBack.{AllHold, all_told, both_hold}
use Rattle.doc_writer.proofs.EntriesBack.{IsEntry, AreEntries, IsBody, IsPart, part_told, IsRun, run_told}

-- ---- track lists that a text tells

-- tracks that may stand beside an automatic repeat
abbrev pub AreFixed : List Track → Type 0
AreFixed tracks = list_all is_fixed tracks ≡ true

-- the tracks of a list are those before its automatic repeat and those after it
pub record IsAround (relative : Bool) (sizes : List Track) (names : List (List Word)) (r : ReadRepeat) : Type 0 where
  pub front : List Track
  pub back : List Track
  pub front_names : List (List Word)
  pub back_names : List (List Word)
  pub tracks : sizes ≡ front ++ back
  pub lines : names ≡ front_names ++ back_names
  pub front_run : IsRun relative front front_names
  pub back_run : IsRun relative back back_names
  pub body_run : IsRun relative r.sizes r.names
  pub some : 1 ≤ length r.sizes
  pub before : r.before ≡ length front
  pub front_fixed : AreFixed front
  pub back_fixed : AreFixed back
  pub body_fixed : AreFixed r.sizes

abbrev pub IsListOf : Bool → List Track → List (List Word) → Option ReadRepeat → Type 0
IsListOf relative sizes names None = IsRun relative sizes names × (1 ≤ length sizes)
IsListOf relative sizes names (Some r) = IsAround relative sizes names r

abbrev pub IsList : Bool → ReadList → Type 0
IsList relative list = IsListOf relative list.sizes list.names list.repeat

some_track : (es : List Entry) → has_track es ≡ true → 1 ≤ length (kept_tracks es)
some_track [] h = absurd (true≢false (sym h))
some_track (entry.Track t ∷ es) h = omega arith
some_track (entry.Named name ∷ es) h = some_track es h

plain_told : (relative : Bool) (es : List Entry) → AreEntries relative es → Every (IsList relative) (plain_list es)
plain_told relative es h = every_if (IsList relative) (has_track es) (Some (record { sizes = kept_tracks es; names = kept_names es; repeat = None })) None (λ e. (run_told relative es h, some_track es e)) (λ _. tt)

fixed_take : (n : ℕ) (es : List Entry) → all_fixed es ≡ true → AreFixed (take n (tracks_of es))
fixed_take zero es h = refl
fixed_take (suc n) [] h = refl
fixed_take (suc n) (entry.Track t ∷ es) h =
    let parts = and_parts (is_fixed t) (all_fixed es) h in
    and_from (is_fixed t) (list_all is_fixed (take n (tracks_of es))) parts.0 (fixed_take n es parts.1)
fixed_take (suc n) (entry.Named name ∷ es) h = fixed_take (suc n) es h

automatic_told : (relative : Bool) (front : List Entry) (f : Filling) (body back : List Entry) → AreEntries relative front → IsBody relative body → AreEntries relative back → Every (IsList relative) (automatic_list front f body back)
automatic_told relative front f body back h b k = every_if (IsList relative) (all_fixed front && (all_fixed body && all_fixed back)) (Some all) None told (λ _. tt) where
  all : ReadList
  all = record { sizes = kept_tracks front ++ kept_tracks back; names = kept_names front ++ kept_names back; repeat = Some (repeat_of front f body) }

  told : (all_fixed front && (all_fixed body && all_fixed back)) ≡ true → IsList relative all
  told e =
      let first = and_parts (all_fixed front) (all_fixed body && all_fixed back) e in
      let second = and_parts (all_fixed body) (all_fixed back) first.1 in
      record {
        front = kept_tracks front;
        back = kept_tracks back;
        front_names = kept_names front;
        back_names = kept_names back;
        tracks = refl;
        lines = refl;
        front_run = run_told relative front h;
        back_run = run_told relative back k;
        body_run = run_told relative body b.0;
        some = some_track body b.1;
        before = refl;
        front_fixed = fixed_take 10000 front first.0;
        back_fixed = fixed_take 10000 back second.1;
        body_fixed = fixed_take 10000 body second.0;
      }

times_hold : (relative : Bool) (count : ℕ) (es : List Entry) → AreEntries relative es → AreEntries relative (times count es)
times_hold relative zero es h = tt
times_hold relative (suc count) es h = both_hold (IsEntry relative) es (times count es) h (times_hold relative count es h)

out_told : (relative : Bool) (parts : List Part) → AllHold (IsPart relative) parts → Every (AreEntries relative) (written_out parts)
out_told relative [] h = tt
out_told relative (part.Written count body ∷ parts) h =
    every_map (AreEntries relative) (λ rest. times count body ++ rest) (written_out parts) (every_so (AreEntries relative) (λ rest. AreEntries relative (times count body ++ rest)) (written_out parts)
    (λ rest k. both_hold (IsEntry relative) (times count body) rest (times_hold relative count body h.0) k) (out_told relative parts h.1))
out_told relative (part.Automatic f body ∷ parts) h = tt

list_told : (relative : Bool) (front : List Entry) (parts : List Part) → AreEntries relative front → AllHold (IsPart relative) parts → Every (IsList relative) (list_of front parts)
list_told relative front [] h k = plain_told relative front h
list_told relative front (part.Written count body ∷ parts) h k = list_told relative (front ++ times count body) parts (both_hold (IsEntry relative) front (times count body) h (times_hold relative count body k.0)) k.1
list_told relative front (part.Automatic f body ∷ parts) h k =
    every_bind (IsList relative) (AreEntries relative) (automatic_list front f body) (written_out parts) (out_told relative parts k.1) (λ back b. automatic_told relative front f body back h k.0 b)

pub track_list_told : (relative : Bool) (words : List Word) → Every (IsList relative) (track_list relative words)
track_list_told relative words =
    every_bind (IsList relative) (AllHold (IsPart relative)) (list_of []) (all_of (part_first relative) 0 words) (all_told (IsPart relative) (part_first relative) 0 words (part_told relative)) (λ parts h. list_told relative [] parts tt h)

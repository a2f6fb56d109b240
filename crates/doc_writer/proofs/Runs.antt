-- Tracks with their units, one after another.
use Rattle.std.proofs.Common.{◌≡◌, ℕ, zero, suc, ◌+◌, ◌<◌, ◌≤◌, Bool, true, false, ◌&&◌, nat_lt, if◌then◌else◌, arith, List, [], ◌∷◌, ◌++◌, length, take, drop, get_or, refl, ap, sym, ◌∙◌, add-one, drop-cons}
use Rattle.std.proofs.lemmas.Bool.{and_parts, ltb-true}
use Rattle.std.proofs.lemmas.List.{drop_all, drop-drop}
use Rattle.style_types.specs.declared.track.TrackFn.{TrackFn}
use Rattle.style_types.specs.declared.unit.Unit.{Unit}
use Rattle.track_text.specs.declared.side.Track.{Track}
use Rattle.track_text.specs.Words.{Word}
use Rattle.doc_writer.specs.Runs.{IsRun}
use Rattle.doc_writer.specs.Spaces.{put}
use Rattle.doc_writer.proofs.Kept.{put_more}
use Rattle.doc_writer.specs.Tracks.{track_with, tracks_with, same_track, each_track, plain_words, track_words, shown_set, repeated, is_empty, first_set, goes_on, run_words, tracks_words}

abbrev pub Read : Type 0
Read = List Track × List Unit

abbrev pub one_before : Track × List Unit → Read → Read
one_before first rest = (first.0 ∷ rest.0, rest.1)

pub tracks_next : (sizes : List TrackFn) (i : ℕ) (d : TrackFn) (units after : List Unit) (next : Track) → i < length sizes → (let r : Track × List Unit = (next, after) in r) ≡ track_with (get_or sizes i d) units
    → tracks_with (drop i sizes) units ≡ one_before (next, after) (tracks_with (drop (i + 1) sizes) after)
tracks_next sizes i d units after next h e =
    let left : drop i sizes ≡ get_or sizes i d ∷ drop (i + 1) sizes = rw add-one (drop-cons sizes i d h) in
    ap (λ (left : List TrackFn). tracks_with left units) left
    ∙ ap (λ (first : Track × List Unit). one_before first (tracks_with (drop (i + 1) sizes) first.1)) (sym e)

pub tracks_last : (sizes : List TrackFn) (i : ℕ) (units : List Unit) → length sizes ≤ i → tracks_with (drop i sizes) units ≡ (let r : Read = ([], units) in r)
tracks_last sizes i units h = ap (λ (left : List TrackFn). tracks_with left units) (drop_all i sizes h)

-- the tracks up to an index, and those from there on
pub tracks_front : (k : ℕ) (sizes : List TrackFn) (units : List Unit) → (tracks_with (take k sizes) units).0 ≡ take k (tracks_with sizes units).0
tracks_front zero sizes units = refl
tracks_front (suc k) [] units = refl
tracks_front (suc k) (size ∷ sizes) units = ap (λ (tracks : List Track). (track_with size units).0 ∷ tracks) (tracks_front k sizes (track_with size units).1)

pub tracks_back : (k : ℕ) (sizes : List TrackFn) (units : List Unit) → (tracks_with (drop k sizes) (tracks_with (take k sizes) units).1).0 ≡ drop k (tracks_with sizes units).0
tracks_back zero sizes units = refl
tracks_back (suc k) [] units = refl
tracks_back (suc k) (size ∷ sizes) units = tracks_back k sizes (track_with size units).1

pub units_back : (k : ℕ) (sizes : List TrackFn) (units : List Unit) → (tracks_with (drop k sizes) (tracks_with (take k sizes) units).1).1 ≡ (tracks_with sizes units).1
units_back zero sizes units = refl
units_back (suc k) [] units = refl
units_back (suc k) (size ∷ sizes) units = units_back k sizes (track_with size units).1

pub ruleset cut_tracks = (tracks_front, tracks_back, units_back)

pub ruleset turns = (tracks_next, tracks_last)

-- ---- runs of equal tracks

run_at_end : (track : Track) (count : ℕ) (lines : List (List Word)) (tracks : List Track) → tracks ≡ [] → run_words track count lines tracks ≡ repeated count (track_words track) ++ tracks_words lines tracks
run_at_end track count lines [] e = refl
run_at_end track count lines (next ∷ tracks) e = absurd (omega (arith, ap length e))

run_at_other : (track next : Track) (count : ℕ) (lines : List (List Word)) (tracks : List Track) → goes_on track count (first_set lines) next ≡ false → run_words track count lines (next ∷ tracks) ≡ repeated count (track_words track) ++ tracks_words lines (next ∷ tracks)
run_at_other track next count lines tracks h =
    ap (λ (b : Bool). if b then run_words track (count + 1) (drop 1 lines) tracks else repeated count (track_words track) ++ (shown_set (first_set lines) ++ run_words next 1 (drop 1 lines) tracks)) h

-- a run as far as it is found: the tracks that are left go on from there
pub record SoFar (track : Track) (lines cur_lines : List (List Word)) (sizes cur_sizes : List TrackFn) (units left : List Unit) (more : ℕ) : Type 0 where
  pub few : more < 10000
  pub lines_left : cur_lines ≡ drop more lines
  pub sizes_left : cur_sizes ≡ drop more sizes
  pub text : run_words track 1 lines (tracks_with sizes units).0 ≡ run_words track (more + 1) cur_lines (tracks_with cur_sizes left).0
  pub after : (tracks_with cur_sizes left).1 ≡ (tracks_with sizes units).1

pub run_first : (track : Track) (lines : List (List Word)) (sizes : List TrackFn) (units : List Unit) → SoFar track lines lines sizes sizes units units 0
run_first track lines sizes units = record { few = omega arith; lines_left = refl; sizes_left = refl; text = refl; after = refl }

one_more : (track next : Track) (count : ℕ) (lines : List (List Word)) (tracks : List Track) → goes_on track count (first_set lines) next ≡ true → run_words track count lines (next ∷ tracks) ≡ run_words track (count + 1) (drop 1 lines) tracks
one_more track next count lines tracks h =
    ap (λ (b : Bool). if b then run_words track (count + 1) (drop 1 lines) tracks else repeated count (track_words track) ++ (shown_set (first_set lines) ++ run_words next 1 (drop 1 lines) tracks)) h

drop_more : {A : Type 0} (k : ℕ) (xs : List A) → drop 1 (drop k xs) ≡ drop (k + 1) xs
drop_more k xs = drop-drop 1 k xs

room_left : (count : ℕ) (a b : Bool) → (nat_lt count 10000 && (a && b)) ≡ true → count < 10000
room_left count a b h = ltb-true count 10000 (and_parts (nat_lt count 10000) (a && b) h).0

pub run_more : (track next : Track) (lines cur_lines new_lines : List (List Word)) (sizes cur_sizes rest : List TrackFn) (size : TrackFn) (units left after : List Unit) (more : ℕ) → SoFar track lines cur_lines sizes cur_sizes units left more
    → new_lines ≡ drop 1 cur_lines → cur_sizes ≡ size ∷ rest → (let r : Track × List Unit = (next, after) in r) ≡ track_with size left → goes_on track (more + 1) (first_set cur_lines) next ≡ true
    → SoFar track lines new_lines sizes rest units after (more + 1)
run_more track next lines cur_lines new_lines sizes cur_sizes rest size units left after more s d e r g =
    let read : tracks_with cur_sizes left ≡ one_before (next, after) (tracks_with rest after) =
    ap (λ (left_sizes : List TrackFn). tracks_with left_sizes left) e ∙ ap (λ (first : Track × List Unit). one_before first (tracks_with rest first.1)) (sym r) in
    record {
      few = room_left (more + 1) (is_empty (first_set cur_lines)) (same_track track next) g;
      lines_left = d ∙ ap (drop 1) s.lines_left ∙ drop_more more lines;
      sizes_left = ap (drop 1) (sym e ∙ s.sizes_left) ∙ drop_more more sizes;
      text = s.text ∙ ap (λ (x : Read). run_words track (more + 1) cur_lines x.0) read ∙ one_more track next (more + 1) cur_lines (tracks_with rest after).0 g
          ∙ ap (λ (left_lines : List (List Word)). run_words track (more + 1 + 1) left_lines (tracks_with rest after).0) (sym d);
      after = sym (ap (λ (x : Read). x.1) read) ∙ s.after;
    }

done : (track : Track) (lines cur_lines : List (List Word)) (sizes cur_sizes : List TrackFn) (units left : List Unit) (more : ℕ) → SoFar track lines cur_lines sizes cur_sizes units left more
    → run_words track (more + 1) cur_lines (tracks_with cur_sizes left).0 ≡ repeated (more + 1) (track_words track) ++ tracks_words cur_lines (tracks_with cur_sizes left).0
    → IsRun track lines sizes units more left
done track lines cur_lines sizes cur_sizes units left more s e = record {
  few = s.few;
  text = s.text ∙ e ∙ (λ i. repeated (more + 1) (track_words track) ++ tracks_words (s.lines_left i) (tracks_with (s.sizes_left i) left).0);
  after = ap (λ (x : List TrackFn). (tracks_with x left).1) (sym s.sizes_left) ∙ s.after;
}

pub run_last : (track : Track) (lines cur_lines : List (List Word)) (sizes cur_sizes : List TrackFn) (units left : List Unit) (more : ℕ) → SoFar track lines cur_lines sizes cur_sizes units left more → cur_sizes ≡ []
    → IsRun track lines sizes units more left
run_last track lines cur_lines sizes cur_sizes units left more s e =
    done track lines cur_lines sizes cur_sizes units left more s (run_at_end track (more + 1) cur_lines (tracks_with cur_sizes left).0 (ap (λ (x : List TrackFn). (tracks_with x left).0) e))

pub run_stopped : (track next : Track) (lines cur_lines : List (List Word)) (sizes cur_sizes rest : List TrackFn) (size : TrackFn) (units left after : List Unit) (more : ℕ) → SoFar track lines cur_lines sizes cur_sizes units left more
    → cur_sizes ≡ size ∷ rest → (let r : Track × List Unit = (next, after) in r) ≡ track_with size left → goes_on track (more + 1) (first_set cur_lines) next ≡ false
    → IsRun track lines sizes units more left
run_stopped track next lines cur_lines sizes cur_sizes rest size units left after more s e r g =
    let read : tracks_with cur_sizes left ≡ one_before (next, after) (tracks_with rest after) =
    ap (λ (left_sizes : List TrackFn). tracks_with left_sizes left) e ∙ ap (λ (first : Track × List Unit). one_before first (tracks_with rest first.1)) (sym r) in
    done track lines cur_lines sizes cur_sizes units left more s
    (ap (λ (x : Read). run_words track (more + 1) cur_lines x.0) read
    ∙ run_at_other track next (more + 1) cur_lines (tracks_with rest after).0 g
    ∙ sym (ap (λ (x : Read). repeated (more + 1) (track_words track) ++ tracks_words cur_lines x.0) read))

-- the words from a track on are the set before it, its run, and what is left
pub run_written : (lines : List (List Word)) (sizes rest : List TrackFn) (size : TrackFn) (track : Track) (units inner after : List Unit) (more : ℕ) → sizes ≡ size ∷ rest → (let r : Track × List Unit = (track, inner) in r) ≡ track_with size units
    → IsRun track (drop 1 lines) rest inner more after
    → tracks_words lines (tracks_with sizes units).0 ≡ shown_set (first_set lines) ++ (repeated (more + 1) (track_words track) ++ tracks_words (drop (more + 1) lines) (tracks_with (drop more rest) after).0)
run_written lines sizes rest size track units inner after more e r h =
    let read : tracks_with sizes units ≡ one_before (track, inner) (tracks_with rest inner) =
    ap (λ (x : List TrackFn). tracks_with x units) e ∙ ap (λ (first : Track × List Unit). one_before first (tracks_with rest first.1)) (sym r) in
    ap (λ (x : Read). tracks_words lines x.0) read
    ∙ ap (λ (words : List Word). shown_set (first_set lines) ++ words) (h.text
    ∙ ap (λ (left : List (List Word)). repeated (more + 1) (track_words track) ++ tracks_words left (tracks_with (drop more rest) after).0) (drop-drop more 1 lines ∙ ap (λ (n : ℕ). drop n lines) (let n : 1 + more ≡ more + 1 = omega arith in n)))

pub units_written : (lines : List (List Word)) (sizes rest : List TrackFn) (size : TrackFn) (track : Track) (units inner after : List Unit) (more : ℕ) → sizes ≡ size ∷ rest → (let r : Track × List Unit = (track, inner) in r) ≡ track_with size units
    → IsRun track (drop 1 lines) rest inner more after
    → (tracks_with (drop more rest) after).1 ≡ (tracks_with sizes units).1
units_written lines sizes rest size track units inner after more e r h =
    h.after ∙ sym (ap (λ (x : List TrackFn). (tracks_with x units).1) e ∙ ap (λ (first : Track × List Unit). (tracks_with rest first.1).1) (sym r))

pub ruleset running = (run_first, run_more, run_last, run_stopped)

pub ruleset writing = (run_written, units_written)

-- ---- one track more that is written out

pub plain_next : (line line1 line2 : List ℕ) (lines new_lines : List (List Word)) (sizes : List TrackFn) (i : ℕ) (size : TrackFn) (units after : List Unit) (track : Track) → i < length sizes → size ≡ get_or sizes i size
    → (let r : Track × List Unit = (track, after) in r) ≡ track_with size units → line1 ≡ put line (shown_set (first_set lines)) → line2 ≡ put line1 (track_words track) → new_lines ≡ drop 1 lines
    → put line2 (plain_words new_lines (tracks_with (drop (i + 1) sizes) after).0) ≡ put line (plain_words lines (tracks_with (drop i sizes) units).0)
plain_next line line1 line2 lines new_lines sizes i size units after track h s r e f d =
    let rest : List Track = (tracks_with (drop (i + 1) sizes) after).0 in
    let read : tracks_with (drop i sizes) units ≡ one_before (track, after) (tracks_with (drop (i + 1) sizes) after) = tracks_next sizes i size units after track h (r ∙ ap (λ (x : TrackFn). track_with x units) s) in
    (λ i. put (f i) (plain_words (d i) rest))
    ∙ put_more line1 (track_words track) (plain_words (drop 1 lines) rest)
    ∙ ap (λ (l : List ℕ). put l (track_words track ++ plain_words (drop 1 lines) rest)) e
    ∙ put_more line (shown_set (first_set lines)) (track_words track ++ plain_words (drop 1 lines) rest)
    ∙ sym (ap (λ (x : Read). put line (plain_words lines x.0)) read)

pub each_next : (line line1 : List ℕ) (sizes : List TrackFn) (i : ℕ) (size : TrackFn) (units after : List Unit) (track : Track) → i < length sizes → size ≡ get_or sizes i size
    → (let r : Track × List Unit = (track, after) in r) ≡ track_with size units → line1 ≡ put line (track_words track)
    → put line1 (each_track (tracks_with (drop (i + 1) sizes) after).0) ≡ put line (each_track (tracks_with (drop i sizes) units).0)
each_next line line1 sizes i size units after track h s r e =
    let rest : List Track = (tracks_with (drop (i + 1) sizes) after).0 in
    let read : tracks_with (drop i sizes) units ≡ one_before (track, after) (tracks_with (drop (i + 1) sizes) after) = tracks_next sizes i size units after track h (r ∙ ap (λ (x : TrackFn). track_with x units) s) in
    ap (λ (l : List ℕ). put l (each_track rest)) e
    ∙ put_more line (track_words track) (each_track rest)
    ∙ sym (ap (λ (x : Read). put line (each_track x.0)) read)

-- Templates as they are written, read again.
use Rattle.std.proofs.Common.{◌≡◌, ℕ, ◌+◌, ◌≤◌, Bool, true, false, ◌&&◌, List, [], ◌∷◌, ◌++◌, length, map, take, drop, is_some, refl, ap, sym, ◌∙◌, arith, if◌then◌else◌, Option, Some, None, codes}
use Rattle.std.specs.List.{list_all}
use Rattle.std.specs.Option.{option_map}
use Rattle.std.specs.Str.{bytes_eq}
use Rattle.std.proofs.lemmas.Bool.{and_parts, and_from, true≢false, false_from_ne_true}
use Rattle.std.proofs.lemmas.List.{append-nil, take_all, take_at, drop_at}
use Rattle.std.proofs.lemmas.Slice.Eq.{bytes_eq-Decides}
use Rattle.style_types.specs.declared.track.Template.TheVariants as template
use Rattle.style_types.specs.declared.unit.Unit.{Unit}
use Rattle.track_text.specs.declared.side.Track.{Track}
use Rattle.track_text.specs.declared.side.ReadRepeat.{ReadRepeat}
use Rattle.track_text.specs.declared.side.ReadList.{ReadList}
use Rattle.track_text.specs.declared.entry.Entry.{Entry}
use Rattle.track_text.specs.declared.entry.Entry.TheVariants as entry
use Rattle.track_text.specs.declared.entry.Filling.{Filling}
use Rattle.track_text.specs.declared.entry.Filling.TheVariants as filling
use Rattle.track_text.specs.declared.entry.Often.TheVariants as often
use Rattle.track_text.specs.declared.entry.Part.{Part}
use Rattle.track_text.specs.declared.entry.Part.TheVariants as part
use Rattle.track_text.specs.Words.{Word, bind, is_alone, with_first, all_from}
use Rattle.track_text.specs.NameSets.{distinct}
use Rattle.track_text.specs.Repeats.{has_track, often_of, part_first}
use Rattle.track_text.specs.Sides.{repeat_value, list_value, repeat_units, list_units}
use Rattle.track_text.specs.TrackSizes.{is_fixed}
use Rattle.track_text.specs.Templates.{tracks_of, kept_tracks, kept_names, all_fixed, plain_list, is_fit, repeat_of, automatic_list, list_of, track_list, tracks_value, ReadTemplate, subgrid_value, subgrid_of, tracks_or_subgrid, template_of}
use Rattle.track_text.specs.PlainText.{AreSets}
use Rattle.track_text.specs.Kept.{entries_of}
use Rattle.track_text.specs.Unsupported.{is_unsupported}
use Rattle.track_text.proofs.TrackLists.{list-parts, list-plain, list-around, list-after}
use Rattle.value_text.specs.declared.form.Form.TheVariants as form
use Rattle.value_text.specs.declared.form.Refused.TheVariants as refused
use Rattle.value_text.specs.ValueText.{template_value, value_of}
use Rattle.doc_writer.specs.Tracks.{first_set, filling_word, automatic_words, tracks_words, around_words, list_words, template_words}
use Rattle.doc_writer.proofs.Told.{Every, every_map, every_if, every_so}
use Rattle.doc_writer.proofs.ValuesBack.{is_value_token, IsBack}
use Rattle.doc_writer.proofs.SidesBack.{all_next, tracks_again}
use Rattle.doc_writer.proofs.EntriesBack.{IsRun, list_entries, tracks_are, lines_are, HasParts, list_parts, automatic_read}
use Rattle.doc_writer.proofs.ListsTold.{AreFixed, IsAround, IsListOf, IsList, track_list_told}
use Rattle.doc_writer.proofs.StillBack.{list_quiet, list_tokens, subgrid_told}

-- ---- read again

sets_same : (lines : List (List Word)) → AreSets lines → map distinct lines ≡ lines
sets_same [] s = refl
sets_same (names ∷ lines) s = ap (λ (xs : List Word). xs ∷ map distinct lines) s.1 ∙ ap (λ (xs : List (List Word)). names ∷ xs) (sets_same lines s.2)

tracks_kept : (relative : Bool) (names : List (List Word)) (sizes : List Track) → IsRun relative sizes names → kept_tracks (list_entries names sizes) ≡ sizes
tracks_kept relative names sizes r = ap (take 10000) (tracks_are names sizes) ∙ take_all 10000 sizes r.few

names_kept : (relative : Bool) (names : List (List Word)) (sizes : List Track) → IsRun relative sizes names → kept_names (list_entries names sizes) ≡ names
names_kept relative names sizes r =
    ap (λ (xs : List (List Word)). map distinct (take 10001 xs)) (lines_are names sizes r.lines)
    ∙ ap (map distinct) (take_all 10001 names (omega (arith, r.few, r.lines)))
    ∙ sets_same names r.sets

has_one : (es : List Entry) → 1 ≤ length (tracks_of es) → has_track es ≡ true
has_one [] h = absurd (omega (arith, h))
has_one (entry.Track t ∷ es) h = refl
has_one (entry.Named name ∷ es) h = has_one es h

some_in : (names : List (List Word)) (sizes : List Track) → 1 ≤ length sizes → has_track (list_entries names sizes) ≡ true
some_in names sizes h = has_one (list_entries names sizes) (omega (arith, h, ap length (tracks_are names sizes)))

named_fixed : (names : List Word) (es : List Entry) → all_fixed (map entry.Named names ++ es) ≡ all_fixed es
named_fixed [] es = refl
named_fixed (name ∷ names) es = named_fixed names es

named_only : (names : List Word) → all_fixed (map entry.Named names) ≡ true
named_only [] = refl
named_only (name ∷ names) = named_only names

fixed_entries : (names : List (List Word)) (sizes : List Track) → AreFixed sizes → all_fixed (list_entries names sizes) ≡ true
fixed_entries names [] h = named_only (first_set names)
fixed_entries names (t ∷ sizes) h =
    let parts = and_parts (is_fixed t) (list_all is_fixed sizes) h in
    named_fixed (first_set names) (entry.Track t ∷ list_entries (drop 1 names) sizes)
    ∙ and_from (is_fixed t) (all_fixed (list_entries (drop 1 names) sizes)) parts.0 (fixed_entries (drop 1 names) sizes parts.1)

no_parts_left : (relative : Bool) → all_from (part_first relative) [] ≡ Some []
unfolding all_from
no_parts_left relative = refl

abbrev a_list : List Track → List (List Word) → Option ReadRepeat → ReadList
a_list sizes names repeat = record { sizes = sizes; names = names; repeat = repeat }

plain_back : (relative : Bool) (names : List (List Word)) (sizes : List Track) → IsRun relative sizes names → 1 ≤ length sizes → track_list relative (tracks_words names sizes) ≡ Some (a_list sizes names None)
plain_back relative names sizes r some =
    let p : HasParts relative (tracks_words names sizes) (list_entries names sizes) = list_parts relative names sizes r.sets r.tracks in
    let es : List Entry = list_entries names sizes in
    list-parts relative (tracks_words names sizes)
    ∙ ap (λ (o : Option (List Part)). bind o (list_of [])) (ap (all_from (part_first relative)) (sym (append-nil (tracks_words names sizes))) ∙ p.reads [] ∙ ap (option_map (λ (more : List Part). p.parts ++ more)) (no_parts_left relative))
    ∙ ap (list_of []) (append-nil p.parts)
    ∙ list-plain [] p.parts p.written
    ∙ ap plain_list p.entries
    ∙ ap (λ (b : Bool). if b then Some (a_list (kept_tracks es) (kept_names es) None) else None) (some_in names sizes some)
    ∙ ap (λ (xs : List Track). Some (a_list xs (kept_names es) None)) (tracks_kept relative names sizes r)
    ∙ ap (λ (xs : List (List Word)). Some (a_list sizes xs None)) (names_kept relative names sizes r)

-- the filling that a word tells
abbrev filling_of : Bool → Filling
filling_of true = filling.Fit
filling_of false = filling.Fill

filling_read : (fit : Bool) → often_of (filling_word fit) ≡ Some (often.Automatic (filling_of fit))
filling_read true = refl
filling_read false = refl

is_filling : (fit : Bool) → is_fit (filling_of fit) ≡ fit
is_filling true = refl
is_filling false = refl

abbrev a_repeat : ℕ → Bool → List Track → List (List Word) → ReadRepeat
a_repeat before fit sizes names = record { before = before; auto_fit = fit; sizes = sizes; names = names }

around_back : (relative : Bool) (sizes : List Track) (names : List (List Word)) (r : ReadRepeat) → IsAround relative sizes names r → track_list relative (around_words names sizes (repeat_value r) r.sizes) ≡ Some (a_list sizes names (Some r))
around_back relative sizes names r a =
    let front : HasParts relative (tracks_words a.front_names a.front) (list_entries a.front_names a.front) = list_parts relative a.front_names a.front a.front_run.sets a.front_run.tracks in
    let back : HasParts relative (tracks_words a.back_names a.back) (list_entries a.back_names a.back) = list_parts relative a.back_names a.back a.back_run.sets a.back_run.tracks in
    let f : Filling = filling_of r.auto_fit in
    let fs : List Entry = list_entries a.front_names a.front in
    let bs : List Entry = list_entries a.back_names a.back in
    let body : List Entry = list_entries r.names r.sizes in
    let middle : List Word = automatic_words (repeat_value r) r.sizes in
    let cut : around_words names sizes (repeat_value r) r.sizes ≡ tracks_words a.front_names a.front ++ (middle ++ tracks_words a.back_names a.back) =
    ap (λ (n : ℕ). tracks_words (take (n + 1) names) (take n sizes) ++ (middle ++ tracks_words (drop (n + 1) names) (drop n sizes))) a.before
    ∙ ap (λ (ns : List (List Word)). tracks_words (take (length a.front + 1) ns) (take (length a.front) sizes) ++ (middle ++ tracks_words (drop (length a.front + 1) ns) (drop (length a.front) sizes))) a.lines
    ∙ ap (λ (ts : List Track). tracks_words (take (length a.front + 1) (a.front_names ++ a.back_names)) (take (length a.front) ts) ++ (middle ++ tracks_words (drop (length a.front + 1) (a.front_names ++ a.back_names)) (drop (length a.front) ts))) a.tracks
    ∙ ap (λ (ns : List (List Word)). tracks_words ns (take (length a.front) (a.front ++ a.back)) ++ (middle ++ tracks_words (drop (length a.front + 1) (a.front_names ++ a.back_names)) (drop (length a.front) (a.front ++ a.back))))
    (take_at a.front_names a.back_names (length a.front + 1) a.front_run.lines)
    ∙ ap (λ (ts : List Track). tracks_words a.front_names ts ++ (middle ++ tracks_words (drop (length a.front + 1) (a.front_names ++ a.back_names)) (drop (length a.front) (a.front ++ a.back)))) (take_at a.front a.back (length a.front) refl)
    ∙ ap (λ (ns : List (List Word)). tracks_words a.front_names a.front ++ (middle ++ tracks_words ns (drop (length a.front) (a.front ++ a.back)))) (drop_at a.front_names a.back_names (length a.front + 1) a.front_run.lines)
    ∙ ap (λ (ts : List Track). tracks_words a.front_names a.front ++ (middle ++ tracks_words a.back_names ts)) (drop_at a.front a.back (length a.front) refl) in
    let read : all_from (part_first relative) (tracks_words a.front_names a.front ++ (middle ++ tracks_words a.back_names a.back)) ≡ Some (front.parts ++ part.Automatic f body ∷ (back.parts ++ [])) =
    front.reads (middle ++ tracks_words a.back_names a.back)
    ∙ ap (option_map (λ (more : List Part). front.parts ++ more))
    (all_next (part_first relative) (middle ++ tracks_words a.back_names a.back) (tracks_words a.back_names a.back) (part.Automatic f body)
    (automatic_read relative r.auto_fit f r.names r.sizes (tracks_words a.back_names a.back) (filling_read r.auto_fit) a.body_run.sets a.body_run.tracks (some_in r.names r.sizes a.some))
    ∙ ap (option_map (with_first (part.Automatic f body))) (ap (all_from (part_first relative)) (sym (append-nil (tracks_words a.back_names a.back))) ∙ back.reads [] ∙ ap (option_map (λ (more : List Part). back.parts ++ more)) (no_parts_left relative))) in
    let fixed : (all_fixed fs && (all_fixed body && all_fixed bs)) ≡
    true = and_from (all_fixed fs) (all_fixed body && all_fixed bs) (fixed_entries a.front_names a.front a.front_fixed) (and_from (all_fixed body) (all_fixed bs) (fixed_entries r.names r.sizes a.body_fixed) (fixed_entries a.back_names a.back a.back_fixed)) in
    ap (track_list relative) cut
    ∙ list-parts relative (tracks_words a.front_names a.front ++ (middle ++ tracks_words a.back_names a.back))
    ∙ ap (λ (o : Option (List Part)). bind o (list_of [])) read
    ∙ ap (λ (ps : List Part). list_of [] (front.parts ++ part.Automatic f body ∷ ps)) (append-nil back.parts)
    ∙ list-around [] front.parts f body back.parts front.written
    ∙ list-after (entries_of front.parts) f body back.parts back.written
    ∙ ap (λ (es : List Entry). automatic_list es f body (entries_of back.parts)) front.entries
    ∙ ap (automatic_list fs f body) back.entries
    ∙ ap (λ (b : Bool). if b then Some (a_list (kept_tracks fs ++ kept_tracks bs) (kept_names fs ++ kept_names bs) (Some (repeat_of fs f body))) else None) fixed
    ∙ ap (λ (ts : List Track). Some (a_list (ts ++ kept_tracks bs) (kept_names fs ++ kept_names bs) (Some (a_repeat (length ts) (is_fit f) (kept_tracks body) (kept_names body))))) (tracks_kept relative a.front_names a.front a.front_run)
    ∙ ap (λ (ts : List Track). Some (a_list (a.front ++ ts) (kept_names fs ++ kept_names bs) (Some (a_repeat (length a.front) (is_fit f) (kept_tracks body) (kept_names body))))) (tracks_kept relative a.back_names a.back a.back_run)
    ∙ ap (λ (ns : List (List Word)). Some (a_list (a.front ++ a.back) (ns ++ kept_names bs) (Some (a_repeat (length a.front) (is_fit f) (kept_tracks body) (kept_names body))))) (names_kept relative a.front_names a.front a.front_run)
    ∙ ap (λ (ns : List (List Word)). Some (a_list (a.front ++ a.back) (a.front_names ++ ns) (Some (a_repeat (length a.front) (is_fit f) (kept_tracks body) (kept_names body))))) (names_kept relative a.back_names a.back a.back_run)
    ∙ ap (λ (ts : List Track). Some (a_list (a.front ++ a.back) (a.front_names ++ a.back_names) (Some (a_repeat (length a.front) (is_fit f) ts (kept_names body))))) (tracks_kept relative r.names r.sizes a.body_run)
    ∙ ap (λ (ns : List (List Word)). Some (a_list (a.front ++ a.back) (a.front_names ++ a.back_names) (Some (a_repeat (length a.front) (is_fit f) r.sizes ns)))) (names_kept relative r.names r.sizes a.body_run)
    ∙ ap (λ (b : Bool). Some (a_list (a.front ++ a.back) (a.front_names ++ a.back_names) (Some (a_repeat (length a.front) b r.sizes r.names)))) (is_filling r.auto_fit)
    ∙ ap (λ (n : ℕ). Some (a_list (a.front ++ a.back) (a.front_names ++ a.back_names) (Some (a_repeat n r.auto_fit r.sizes r.names)))) (sym a.before)
    ∙ ap (λ (ts : List Track). Some (a_list ts (a.front_names ++ a.back_names) (Some r))) (sym a.tracks)
    ∙ ap (λ (ns : List (List Word)). Some (a_list sizes ns (Some r))) (sym a.lines)

-- ---- the template of a list

-- a track list is neither `none` nor a subgrid
list_template : (relative : Bool) (words : List Word) (list : ReadList) → track_list relative words ≡ Some list → template_of relative words ≡ Some (tracks_value list)
list_template relative words list e = by_words words e where
  not_read : (due : Word) (words : List Word) → track_list relative (due ∷ words) ≡ Some list → track_list relative (due ∷ words) ≡ None → ⊥
  not_read due words e n = true≢false (sym (ap is_some e) ∙ ap is_some n)

  no_none : (relative : Bool) → track_list relative (codes "none" ∷ []) ≡ None
  no_none true = refl
  no_none false = refl

  no_subgrid : (relative : Bool) (words : List Word) → track_list relative (codes "subgrid" ∷ words) ≡ None
  no_subgrid true words = refl
  no_subgrid false words = refl

  not_word : (word : Word) (words : List Word) → track_list relative (word ∷ words) ≡ Some list → bytes_eq word (codes "subgrid") ≡ false
  not_word word words e = false_from_ne_true (bytes_eq word (codes "subgrid")) (λ t. true≢false (sym (ap is_some e) ∙ ap (λ (w : Word). is_some (track_list relative (w ∷ words))) ((bytes_eq-Decides word (codes "subgrid")).0 t) ∙ ap is_some (no_subgrid relative words)))

  not_alone : (word : Word) (words : List Word) → track_list relative (word ∷ words) ≡ Some list → is_alone (codes "none") (word ∷ words) ≡ false
  not_alone word [] e = false_from_ne_true (bytes_eq word (codes "none")) (λ t. true≢false (sym (ap is_some e) ∙ ap (λ (w : Word). is_some (track_list relative (w ∷ []))) ((bytes_eq-Decides word (codes "none")).0 t) ∙ ap is_some (no_none relative)))
  not_alone word (next ∷ words) e = refl

  by_words : (words : List Word) → track_list relative words ≡ Some list → template_of relative words ≡ Some (tracks_value list)
  by_words [] e = absurd (true≢false (sym (ap is_some e)))
  by_words (word ∷ words) e =
      ap (λ (b : Bool). if b then Some (template.Absent, []) else tracks_or_subgrid relative (word ∷ words)) (not_alone word words e)
      ∙ ap (λ (b : Bool). if b then option_map subgrid_value (subgrid_of words) else option_map tracks_value (track_list relative (word ∷ words))) (not_word word words e)
      ∙ ap (option_map tracks_value) e

-- the words of a list that is read
list_back : (relative : Bool) (sizes : List Track) (names : List (List Word)) (repeat : Option ReadRepeat) → IsListOf relative sizes names repeat → track_list relative (list_words names (option_map repeat_value repeat) (sizes, repeat_units repeat)) ≡ Some (a_list sizes names repeat)
list_back relative sizes names None h = plain_back relative names sizes h.0 h.1
list_back relative sizes names (Some r) h =
    ap (λ (read : List Track × List Unit). track_list relative (around_words names sizes (repeat_value r) read.0)) (tracks_again r.sizes [])
    ∙ around_back relative sizes names r h

written_list : (list : ReadList) → template_words (template.Tracks (list_value list)) (list_units list) ≡ list_words list.names (option_map repeat_value list.repeat) (list.sizes, repeat_units list.repeat)
written_list list = ap (list_words list.names (option_map repeat_value list.repeat)) (tracks_again list.sizes (repeat_units list.repeat))

list_is_back : (relative : Bool) (list : ReadList) → IsList relative list → IsBack relative form.Template refused.Template (template_value (tracks_value list))
list_is_back relative list h = record {
  reads =
      ap (λ (ws : List Word). option_map template_value (template_of relative ws)) (written_list list)
      ∙ ap (option_map template_value) (list_template relative (list_words list.names (option_map repeat_value list.repeat) (list.sizes, repeat_units list.repeat)) list (list_back relative list.sizes list.names list.repeat h));
  quiet = ap (is_unsupported relative) (written_list list) ∙ list_quiet relative list h;
  tokens = ap (list_all is_value_token) (written_list list) ∙ list_tokens relative list h;
}

absent_back : (relative : Bool) → IsBack relative form.Template refused.Template (template_value (template.Absent, []))
absent_back true = record { reads = refl; quiet = refl; tokens = refl }
absent_back false = record { reads = refl; quiet = refl; tokens = refl }

abbrev IsTemplate : Bool → ReadTemplate → Type 0
IsTemplate relative read = IsBack relative form.Template refused.Template (template_value read)

or_subgrid_told : (relative : Bool) (words : List Word) → Every (IsTemplate relative) (tracks_or_subgrid relative words)
or_subgrid_told relative [] = tt
or_subgrid_told relative (word ∷ words) =
    every_if (IsTemplate relative) (bytes_eq word (codes "subgrid")) (option_map subgrid_value (subgrid_of words)) (option_map tracks_value (track_list relative (word ∷ words)))
    (λ _. every_map (IsTemplate relative) subgrid_value (subgrid_of words) (subgrid_told relative words))
    (λ _. every_map (IsTemplate relative) tracks_value (track_list relative (word ∷ words)) (every_so (IsList relative) (λ list. IsTemplate relative (tracks_value list)) (track_list relative (word ∷ words)) (list_is_back relative) (track_list_told relative (word ∷ words))))

pub template_told : (relative : Bool) (words : List Word) → Every (IsBack relative form.Template refused.Template) (value_of relative form.Template words)
template_told relative words =
    every_map (IsBack relative form.Template refused.Template) template_value (template_of relative words)
    (every_if (IsTemplate relative) (is_alone (codes "none") words) (Some (template.Absent, [])) (tracks_or_subgrid relative words) (λ _. absent_back relative) (λ _. or_subgrid_told relative words))

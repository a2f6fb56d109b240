-- A template that words read as is in range.
use Rattle.std.proofs.Common.{◌≡◌, refl, sym, ap, arith, true≢false, ◌∙◌, ℕ, ◌+◌, ◌<◌, ◌≤◌, Bool, true, ◌&&◌, List, [], ◌∷◌, ◌++◌, length, map, take, Option, Some, None}
use Rattle.std.specs.Prelude.{IfSome, codes, ⊤}
use Rattle.std.specs.Option.{option_map}
use Rattle.std.specs.Str.{bytes_eq}
use Rattle.std.proofs.lemmas.List.{length-take, length-append, length-map}
use Rattle.style_types.specs.declared.unit.Unit.{Unit}
use Rattle.style_types.specs.declared.track.Template.TheVariants as template
use Rattle.track_text.specs.declared.entry.Entry.{Entry}
use Rattle.track_text.specs.declared.entry.Entry.TheVariants as entry
use Rattle.track_text.specs.declared.entry.Filling.{Filling}
use Rattle.track_text.specs.declared.entry.Often.{Often}
use Rattle.track_text.specs.declared.entry.Often.TheVariants as often
use Rattle.track_text.specs.declared.entry.Part.{Part}
use Rattle.track_text.specs.declared.entry.Part.TheVariants as part
use Rattle.track_text.specs.declared.side.ReadList.{ReadList}
use Rattle.track_text.specs.declared.side.ReadRepeat.{ReadRepeat}
use Rattle.track_text.specs.Words.{Word, bind, is_alone, all_of, up_to}
use Rattle.track_text.specs.NameSets.{names_after}
use Rattle.track_text.specs.TrackSizes.{track_first}
use Rattle.track_text.specs.Repeats.{has_track, joined, times, named, one_track, entry_first, body_or_none, body_after, often_of, part_of, repeat_after, once, part_first}
use Rattle.track_text.specs.Sides.{size_of_track, sizes_of, repeat_value, list_units}
use Rattle.track_text.specs.Sides.{repeat_units as told_repeat}
use Rattle.track_text.specs.Templates.{tracks_of, kept_tracks, kept_names, all_fixed, plain_list, repeat_of, automatic_list, written_out, list_of, track_list, sets_first, sets_of, subgrid_of, ReadTemplate, tracks_value, subgrid_value, tracks_or_subgrid, template_of}
use Rattle.placing.specs.Ranges.{IsTemplate, IsRepeated}
use Rattle.page_tree.specs.Ranges.{tracks_units, repeat_units, template_units}
use Rattle.page_tree.proofs.ToldOptions.{some_if, some_where, some_map, some_bind, some_weaker, some_any, Each, each_append, each_take, each_joined, each_times}
use Rattle.page_tree.proofs.ToldTracks.{IsTrack, IsTrackRead, track_read, all_read, up_to_read, tracks_are, tracks_taken}

-- ---- what stands in a list

abbrev IsEntry : Entry → Type 0
IsEntry (entry.Track size) = IsTrack size
IsEntry (entry.Named name) = ⊤

abbrev AreEntries : List Entry → Type 0
AreEntries = Each IsEntry

names_in : (names : List Word) → AreEntries (map entry.Named names)
names_in [] = tt
names_in (name ∷ names) = (tt, names_in names)

abbrev AreRead : List Entry × ℕ → Type 0
AreRead read = AreEntries read.0

entry_in : (relative : Bool) (words : List Word) → IfSome (entry_first relative words) AreRead
entry_in relative [] = tt
entry_in relative (word ∷ words) =
    some_if AreRead (bytes_eq word (codes "[")) (option_map named (names_after words)) (option_map one_track (track_first relative (word ∷ words)))
    (some_map AreRead named (names_after words) (some_any (λ read. AreEntries (map entry.Named read.0)) (names_after words) (λ read. names_in read.0)))
    (some_map AreRead one_track (track_first relative (word ∷ words))
    (some_weaker IsTrackRead (λ read. IsTrack read.0 × ⊤) (track_first relative (word ∷ words)) (λ read h. (h, tt)) (track_read relative (word ∷ words))))

-- what an automatic repeat holds
record IsBody (body : List Entry) : Type 0 where
  pub entries : AreEntries body
  pub some : has_track body ≡ true

abbrev IsBodyRead : List Entry × ℕ → Type 0
IsBodyRead read = IsBody read.0

body_in : (relative : Bool) (words : List Word) → IfSome (body_after relative words) IsBodyRead
body_in relative words =
    some_bind IsBodyRead (up_to (codes ")") (entry_first relative) 0 words) body_or_none
    (some_weaker (λ (read : List (List Entry) × ℕ). Each AreEntries read.0) (λ read. IfSome (body_or_none read) IsBodyRead) (up_to (codes ")") (entry_first relative) 0 words)
    (λ read h. some_where IsBodyRead (has_track (joined read.0)) (Some (joined read.0, read.1)) (λ some. record { entries = each_joined IsEntry read.0 h; some = some }))
    (up_to_read AreEntries (codes ")") (entry_first relative) 0 words (entry_in relative)))

abbrev IsPart : Part → Type 0
IsPart (part.Written count body) = AreEntries body
IsPart (part.Automatic filling body) = IsBody body

abbrev IsPartRead : Part × ℕ → Type 0
IsPartRead read = IsPart read.0

part_in : (o : Often) (body : List Entry) → IsBody body → IsPart (part_of o body)
part_in (often.Times count) body h = h.entries
part_in (often.Automatic filling) body h = h

repeat_in : (relative : Bool) (words : List Word) → IfSome (repeat_after relative words) IsPartRead
repeat_in relative [] = tt
repeat_in relative (a ∷ []) = tt
repeat_in relative (a ∷ b ∷ []) = tt
repeat_in relative (opening ∷ word ∷ comma ∷ words) =
    some_where IsPartRead (bytes_eq opening (codes "(") && bytes_eq comma (codes ","))
    (bind (often_of word) (λ often. option_map (λ body. (part_of often body.0, body.1 + 3)) (body_after relative words)))
    (λ _. some_bind IsPartRead (often_of word) (λ often. option_map (λ body. (part_of often body.0, body.1 + 3)) (body_after relative words))
    (some_any (λ often. IfSome (option_map (λ body. (part_of often body.0, body.1 + 3)) (body_after relative words)) IsPartRead) (often_of word) (λ often.
    some_map IsPartRead (λ body. (part_of often body.0, body.1 + 3)) (body_after relative words)
    (some_weaker IsBodyRead (λ body. IsPart (part_of often body.0)) (body_after relative words) (λ body h. part_in often body.0 h) (body_in relative words)))))

first_in : (relative : Bool) (words : List Word) → IfSome (part_first relative words) IsPartRead
first_in relative [] = tt
first_in relative (word ∷ words) =
    some_if IsPartRead (bytes_eq word (codes "repeat")) (repeat_after relative words) (option_map once (entry_first relative (word ∷ words)))
    (repeat_in relative words)
    (some_map IsPartRead once (entry_first relative (word ∷ words)) (entry_in relative (word ∷ words)))

-- ---- lists

tracks_in : (entries : List Entry) → AreEntries entries → Each IsTrack (tracks_of entries)
tracks_in [] h = tt
tracks_in (entry.Track size ∷ entries) h = (h.0, tracks_in entries h.1)
tracks_in (entry.Named name ∷ entries) h = tracks_in entries h.1

kept_in : (entries : List Entry) → AreEntries entries → Each IsTrack (kept_tracks entries)
kept_in entries h = each_take IsTrack 10000 (tracks_of entries) (tracks_in entries h)

kept_few : (entries : List Entry) → length (kept_tracks entries) ≤ 10000
kept_few entries = omega (arith, length-take 10000 (tracks_of entries))

tracks_some : (entries : List Entry) → has_track entries ≡ true → 0 < length (tracks_of entries)
tracks_some [] h = absurd (true≢false (sym h))
tracks_some (entry.Track size ∷ entries) h = omega arith
tracks_some (entry.Named name ∷ entries) h = tracks_some entries h

record IsRepeatRead (r : ReadRepeat) : Type 0 where
  pub some : 0 < length r.sizes
  pub few : length r.sizes ≤ 10000
  pub tracks : Each IsTrack r.sizes

abbrev IsRepeatedRead : Option ReadRepeat → Type 0
IsRepeatedRead None = ⊤
IsRepeatedRead (Some r) = IsRepeatRead r

record IsListRead (l : ReadList) : Type 0 where
  pub few : length l.sizes ≤ 20000
  pub tracks : Each IsTrack l.sizes
  pub repeated : IsRepeatedRead l.repeat

plain_in : (entries : List Entry) → AreEntries entries → IfSome (plain_list entries) IsListRead
plain_in entries h =
    some_where IsListRead (has_track entries) (Some (record { sizes = kept_tracks entries; names = kept_names entries; repeat = None }))
    (λ _. record { few = (let few : length (kept_tracks entries) ≤ 10000 = kept_few entries in omega (arith, few)); tracks = kept_in entries h; repeated = tt })

repeat_read : (front : List Entry) (filling : Filling) (body : List Entry) → IsBody body → IsRepeatRead (repeat_of front filling body)
repeat_read front filling body h = record {
  some = (let some : 0 < length (tracks_of body) = tracks_some body h.some in omega (arith, length-take 10000 (tracks_of body), some));
  few = kept_few body;
  tracks = kept_in body h.entries;
}

automatic_in : (front : List Entry) (filling : Filling) (body back : List Entry) → AreEntries front → IsBody body → AreEntries back → IfSome (automatic_list front filling body back) IsListRead
automatic_in front filling body back f b k =
    some_where IsListRead (all_fixed front && (all_fixed body && all_fixed back))
    (Some (record { sizes = kept_tracks front ++ kept_tracks back; names = kept_names front ++ kept_names back; repeat = Some (repeat_of front filling body) }))
    (λ _. record {
      few = (let one : length (kept_tracks front) ≤ 10000 = kept_few front in let other : length (kept_tracks back) ≤ 10000 = kept_few back in omega (arith, length-append (kept_tracks front) (kept_tracks back), one, other));
      tracks = each_append IsTrack (kept_tracks front) (kept_tracks back) (kept_in front f) (kept_in back k);
      repeated = repeat_read front filling body b;
    })

written_in : (parts : List Part) → Each IsPart parts → IfSome (written_out parts) AreEntries
written_in [] h = tt
written_in (part.Written count body ∷ parts) h =
    some_map AreEntries (λ rest. times count body ++ rest) (written_out parts)
    (some_weaker AreEntries (λ rest. AreEntries (times count body ++ rest)) (written_out parts) (λ rest k. each_append IsEntry (times count body) rest (each_times IsEntry count body h.0) k) (written_in parts h.1))
written_in (part.Automatic filling body ∷ parts) h = tt

list_in : (front : List Entry) (parts : List Part) → AreEntries front → Each IsPart parts → IfSome (list_of front parts) IsListRead
list_in front [] f h = plain_in front f
list_in front (part.Written count body ∷ parts) f h = list_in (front ++ times count body) parts (each_append IsEntry front (times count body) f (each_times IsEntry count body h.0)) h.1
list_in front (part.Automatic filling body ∷ parts) f h =
    some_bind IsListRead (written_out parts) (automatic_list front filling body)
    (some_weaker AreEntries (λ back. IfSome (automatic_list front filling body back) IsListRead) (written_out parts) (λ back k. automatic_in front filling body back f h.0 k) (written_in parts h.1))

list_read : (relative : Bool) (words : List Word) → IfSome (track_list relative words) IsListRead
list_read relative words =
    some_bind IsListRead (all_of (part_first relative) 0 words) (list_of [])
    (some_weaker (Each IsPart) (λ parts. IfSome (list_of [] parts) IsListRead) (all_of (part_first relative) 0 words) (λ parts h. list_in [] parts tt h) (all_read IsPart (part_first relative) 0 words (first_in relative)))

-- ---- templates

pub record IsTemplateRead (read : ReadTemplate) : Type 0 where
  pub range : IsTemplate read.0
  pub units : template_units read.0 read.1 ≡ true

repeated_is : (o : Option ReadRepeat) → IsRepeatedRead o → IsRepeated (option_map repeat_value o)
repeated_is None h = tt
repeated_is (Some r) h = record {
  some = (let some : 0 < length r.sizes = h.some in omega (arith, length-map r.sizes size_of_track, some));
  few = (let few : length r.sizes ≤ 10000 = h.few in omega (arith, length-map r.sizes size_of_track, few));
  tracks = tracks_are r.sizes h.tracks;
}

repeat_taken : (o : Option ReadRepeat) → IsRepeatedRead o → repeat_units (option_map repeat_value o) (told_repeat o) ≡ true
repeat_taken None h = refl
repeat_taken (Some r) h = ap (λ (t : Bool × List Unit). t.0) (tracks_taken r.sizes [] h.tracks)

list_taken : (l : ReadList) → IsListRead l → ◌≡◌ {A = Bool} ((tracks_units (sizes_of l.sizes) (list_units l)).0 && repeat_units (option_map repeat_value l.repeat) (tracks_units (sizes_of l.sizes) (list_units l)).1) true
list_taken l h =
    ap (λ (t : Bool × List Unit). t.0 && repeat_units (option_map repeat_value l.repeat) t.1) (tracks_taken l.sizes (told_repeat l.repeat) h.tracks)
    ∙ repeat_taken l.repeat h.repeated

list_is : (l : ReadList) → IsListRead l → IsTemplateRead (tracks_value l)
list_is l h = record {
  range = record {
    few = (let few : length l.sizes ≤ 20000 = h.few in omega (arith, length-map l.sizes size_of_track, few));
    tracks = tracks_are l.sizes h.tracks;
    repeated = repeated_is l.repeat h.repeated;
  };
  units = list_taken l h;
}

subgrid_in : (words : List Word) → IfSome (subgrid_of words) (λ sets. length sets ≤ 20001)
subgrid_in words =
    some_map (λ (sets : List (List Word)). length sets ≤ 20001) (λ parts. take 20001 (sets_of parts)) (all_of sets_first 0 words)
    (some_any (λ parts. length (take 20001 (sets_of parts)) ≤ 20001) (all_of sets_first 0 words) (λ parts. omega (arith, length-take 20001 (sets_of parts))))

either_in : (relative : Bool) (words : List Word) → IfSome (tracks_or_subgrid relative words) IsTemplateRead
either_in relative [] = tt
either_in relative (word ∷ words) =
    some_if IsTemplateRead (bytes_eq word (codes "subgrid")) (option_map subgrid_value (subgrid_of words)) (option_map tracks_value (track_list relative (word ∷ words)))
    (some_map IsTemplateRead subgrid_value (subgrid_of words)
    (some_weaker (λ (sets : List (List Word)). length sets ≤ 20001) (λ sets. IsTemplateRead (subgrid_value sets)) (subgrid_of words) (λ sets h. record { range = h; units = refl }) (subgrid_in words)))
    (some_map IsTemplateRead tracks_value (track_list relative (word ∷ words))
    (some_weaker IsListRead (λ l. IsTemplateRead (tracks_value l)) (track_list relative (word ∷ words)) list_is (list_read relative (word ∷ words))))

pub template_read : (relative : Bool) (words : List Word) → IfSome (template_of relative words) IsTemplateRead
template_read relative words =
    some_if IsTemplateRead (is_alone (codes "none") words) (Some (template.Absent, [])) (tracks_or_subgrid relative words)
    (record { range = tt; units = refl }) (either_in relative words)

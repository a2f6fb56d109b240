-- The tracks and lines of parts, as they are listed: what stands many times is listed once, with how often it stands.
use Rattle.std.proofs.Common.{◌≡◌, ℕ, zero, suc, ◌+◌, ◌-◌, ◌≤◌, ◌<◌, true, false, Result, Ok, Err, IfOk, List, [], ◌∷◌, ◌++◌, map, take, drop, length, ap, refl, sym, ◌∙◌, arith, length-take}
use Rattle.std.proofs.lemmas.List.{append-nil, append_assoc, drop_all, take-append-le}
use Rattle.std.proofs.lemmas.Bool.{true≢false}
use Rattle.runs.specs.Times.{times as runs_times}
use Rattle.runs.proofs.Times.{times_once}
use Rattle.track_text.specs.declared.side.Track.{Track}
use Rattle.track_text.specs.declared.entry.Entry.{Entry}
use Rattle.track_text.specs.declared.entry.Entry.TheVariants as entry
use Rattle.track_text.specs.declared.entry.Filling.{Filling}
use Rattle.track_text.specs.declared.entry.Part.{Part}
use Rattle.track_text.specs.declared.entry.Part.TheVariants as part
use Rattle.track_text.specs.declared.entry.Sets.{Sets}
use Rattle.track_text.specs.Words.{Word}
use Rattle.track_text.specs.NameSets.{distinct}
use Rattle.track_text.specs.Repeats.{times, has_track}
use Rattle.track_text.specs.Templates.{tracks_of, lines_of, sets_of}
use Rattle.track_text.specs.Kept.{entries_of}
use Rattle.track_text.specs.Lines.{closed_by, open_after}
use Rattle.track_text.proofs.Holding.{from_there, seam, seam_name, seam_first}
use Rattle.track_text.proofs.SubgridSets.{take-behind, take-few}

-- ---- the first so many

pub few_taken : {A : Type 0} (n : ℕ) (xs : List A) → length (take n xs) ≤ n
few_taken n xs = omega (arith, length-take n xs)

pub few_are : {A : Type 0} (n : ℕ) (made xs : List A) → made ≡ take n xs → length made ≤ n
few_are n made xs e = let f : length made ≡ length (take n xs) = ap length e in omega (arith, f, few_taken n xs)

pub few_ok : {A E : Type 0} (n : ℕ) (xs : List A) (r : Result (List A) E) → IfOk r (λ made. made ≡ take n xs) → IfOk r (λ made. length made ≤ n)
few_ok n xs (Ok made) h = few_are n made xs h
few_ok n xs (Err e) h = h

map-take : {A B : Type 0} (f : A → B) (n : ℕ) (xs : List A) → map f (take n xs) ≡ take n (map f xs)
map-take f zero xs = refl
map-take f (suc n) [] = refl
map-take f (suc n) (x ∷ xs) = ap (λ (ys : List _). f x ∷ ys) (map-take f n xs)

-- one part more, where so many are kept of those before
pub kept_more : {A : Type 0} (n : ℕ) (held next more rest : List A) → next ≡ take n (held ++ more) → take n (next ++ rest) ≡ take n (held ++ (more ++ rest))
kept_more n held next more rest e =
    ap (λ (xs : List _). take n (xs ++ rest)) e
    ∙ take-behind n (held ++ more) rest
    ∙ ap (take n) (append_assoc held more rest)

pub kept_all : {A : Type 0} (n : ℕ) (held : List A) → length held ≤ n → take n (held ++ []) ≡ held
kept_all n held h = ap (take n) (append-nil held) ∙ take-few n held h

-- ---- tracks

tracks-append : (xs ys : List Entry) → tracks_of (xs ++ ys) ≡ tracks_of xs ++ tracks_of ys
tracks-append [] ys = refl
tracks-append (entry.Track size ∷ xs) ys = ap (λ (ts : List Track). size ∷ ts) (tracks-append xs ys)
tracks-append (entry.Named name ∷ xs) ys = tracks-append xs ys

tracks-times : (count : ℕ) (body : List Entry) → tracks_of (times count body) ≡ runs_times count (tracks_of body)
tracks-times zero body = refl
tracks-times (suc count) body = tracks-append body (times count body) ∙ ap (λ (ts : List Track). tracks_of body ++ ts) (tracks-times count body)

-- the tracks of one part more
pub tracks_next : (n : ℕ) (held next all more : List Track) (count : ℕ) (body : List Entry) (left rest : List Part) (x : Part) → left ≡ x ∷ rest → x ≡ part.Written count body → more ≡ tracks_of body → next ≡ take n (held ++ runs_times count more)
    → take n (held ++ tracks_of (entries_of left)) ≡ all → take n (next ++ tracks_of (entries_of rest)) ≡ all
tracks_next n held next all more count body left rest x e k t m h =
    kept_more n held next (runs_times count (tracks_of body)) (tracks_of (entries_of rest)) (m ∙ ap (λ (ts : List Track). take n (held ++ runs_times count ts)) t)
    ∙ ap (λ (ts : List Track). take n (held ++ (ts ++ tracks_of (entries_of rest)))) (sym (tracks-times count body))
    ∙ ap (λ (ts : List Track). take n (held ++ ts)) (sym (tracks-append (times count body) (entries_of rest)))
    ∙ ap (λ (ps : List Part). take n (held ++ tracks_of (entries_of ps))) (sym (e ∙ ap (λ (y : Part). y ∷ rest) k))
    ∙ h

-- the tracks of an automatic repeat are not among them
pub tracks_skip : (n : ℕ) (held all : List Track) (filling : Filling) (body : List Entry) (left rest : List Part) (x : Part) → left ≡ x ∷ rest → x ≡ part.Automatic filling body
    → take n (held ++ tracks_of (entries_of left)) ≡ all → take n (held ++ tracks_of (entries_of rest)) ≡ all
tracks_skip n held all filling body left rest x e k h = ap (λ (ps : List Part). take n (held ++ tracks_of (entries_of ps))) (sym (e ∙ ap (λ (y : Part). y ∷ rest) k)) ∙ h

pub tracks_last : (n : ℕ) (held all : List Track) (parts : List Part) (i : ℕ) → length parts ≤ i → length held ≤ n → take n (held ++ tracks_of (entries_of (drop i parts))) ≡ all → held ≡ all
tracks_last n held all parts i p f h =
    sym (kept_all n held f) ∙ ap (λ (ps : List Part). take n (held ++ tracks_of (entries_of ps))) (sym (drop_all i parts p)) ∙ h

-- ---- sets after `subgrid`

sets-times : (count : ℕ) (body : List (List Word)) → times count body ≡ runs_times count body
sets-times zero body = refl
sets-times (suc count) body = ap (λ (sets : List (List Word)). body ++ sets) (sets-times count body)

-- the sets of one part more
pub sets_next : (n : ℕ) (held next all more : List (List Word)) (left rest : List Sets) (x : Sets) → left ≡ x ∷ rest → more ≡ x.sets → next ≡ take n (held ++ runs_times x.count more)
    → take n (held ++ sets_of left) ≡ all → take n (next ++ sets_of rest) ≡ all
sets_next n held next all more left rest x e s m h =
    kept_more n held next (times x.count x.sets) (sets_of rest) (m ∙ ap (λ (sets : List (List Word)). take n (held ++ sets)) (ap (runs_times x.count) s ∙ sym (sets-times x.count x.sets)))
    ∙ ap (λ (parts : List Sets). take n (held ++ sets_of parts)) (sym e)
    ∙ h

pub sets_last : (n : ℕ) (held all : List (List Word)) (parts : List Sets) (i : ℕ) → length parts ≤ i → length held ≤ n → take n (held ++ sets_of (drop i parts)) ≡ all → held ≡ all
sets_last n held all parts i p f h = sym (kept_all n held f) ∙ ap (λ (ps : List Sets). take n (held ++ sets_of ps)) (sym (drop_all i parts p)) ∙ h

-- sets past the last that has room
pub sets_full : (n : ℕ) (held all : List (List Word)) (left : List Sets) → n ≤ length held → length held ≤ n → take n (held ++ sets_of left) ≡ all → held ≡ all
sets_full n held all left f k h = sym (take-few n held k) ∙ sym (take-append-le n held (sets_of left) f) ∙ h

-- ---- the lines that entries close

pub closing_last : (closed : List (List Word)) (line : List Word) (es : List Entry) (i : ℕ) → length es ≤ i → closed ++ closed_by line (drop i es) ≡ closed
closing_last closed line es i h = ap (λ (left : List Entry). closed ++ closed_by line left) (drop_all i es h) ∙ append-nil closed

pub open_last : (line : List Word) (es : List Entry) (i : ℕ) → length es ≤ i → open_after line (drop i es) ≡ line
open_last line es i h = ap (open_after line) (drop_all i es h)

pub closing_track : (closed : List (List Word)) (line : List Word) (left rest : List Entry) (x : Entry) (size : Track) → left ≡ x ∷ rest → x ≡ entry.Track size → (closed ++ distinct line ∷ []) ++ closed_by [] rest ≡ closed ++ closed_by line left
closing_track closed line left rest x size e k =
    append_assoc closed (distinct line ∷ []) (closed_by [] rest)
    ∙ ap (λ (es : List Entry). closed ++ closed_by line es) (sym (e ∙ ap (λ (y : Entry). y ∷ rest) k))

pub open_track : (line : List Word) (left rest : List Entry) (x : Entry) (size : Track) → left ≡ x ∷ rest → x ≡ entry.Track size → open_after [] rest ≡ open_after line left
open_track line left rest x size e k = ap (open_after line) (sym (e ∙ ap (λ (y : Entry). y ∷ rest) k))

pub closing_name : (closed : List (List Word)) (line : List Word) (left rest : List Entry) (x : Entry) (name : Word) → left ≡ x ∷ rest → x ≡ entry.Named name → closed ++ closed_by (line ++ name ∷ []) rest ≡ closed ++ closed_by line left
closing_name closed line left rest x name e k = ap (λ (es : List Entry). closed ++ closed_by line es) (sym (e ∙ ap (λ (y : Entry). y ∷ rest) k))

pub open_name : (line : List Word) (left rest : List Entry) (x : Entry) (name : Word) → left ≡ x ∷ rest → x ≡ entry.Named name → open_after (line ++ name ∷ []) rest ≡ open_after line left
open_name line left rest x name e k = ap (open_after line) (sym (e ∙ ap (λ (y : Entry). y ∷ rest) k))

pub ruleset closing = (from_there, closing_last, open_last, closing_track, open_track, closing_name, open_name)

-- ---- entries one after another

pub closed_append : (line : List Word) (xs ys : List Entry) → closed_by line (xs ++ ys) ≡ closed_by line xs ++ closed_by (open_after line xs) ys
closed_append line [] ys = refl
closed_append line (entry.Track size ∷ xs) ys = ap (λ (lines : List (List Word)). distinct line ∷ lines) (closed_append [] xs ys)
closed_append line (entry.Named name ∷ xs) ys = closed_append (line ++ name ∷ []) xs ys

pub open_append : (line : List Word) (xs ys : List Entry) → open_after line (xs ++ ys) ≡ open_after (open_after line xs) ys
open_append line [] ys = refl
open_append line (entry.Track size ∷ xs) ys = open_append [] xs ys
open_append line (entry.Named name ∷ xs) ys = open_append (line ++ name ∷ []) xs ys

-- with a track among them, what stood on the first line before is not on the last
open_same : (a b : List Word) (es : List Entry) → has_track es ≡ true → open_after a es ≡ open_after b es
open_same a b [] h = elim (true≢false (sym h)) [ ]
open_same a b (entry.Track size ∷ es) h = refl
open_same a b (entry.Named name ∷ es) h = open_same (a ++ name ∷ []) (b ++ name ∷ []) es h

-- from the line that is open after them on, each time closes the same lines
open_again : (line : List Word) (body : List Entry) → has_track body ≡ true → open_after (open_after line body) body ≡ open_after line body
open_again line body h = open_same (open_after line body) line body h

closed_times : (count : ℕ) (line : List Word) (body : List Entry) → open_after line body ≡ line → closed_by line (times count body) ≡ runs_times count (closed_by line body)
closed_times zero line body h = refl
closed_times (suc count) line body h =
    closed_append line body (times count body)
    ∙ ap (λ (last : List Word). closed_by line body ++ closed_by last (times count body)) h
    ∙ ap (λ (lines : List (List Word)). closed_by line body ++ lines) (closed_times count line body h)

open_times : (count : ℕ) (line : List Word) (body : List Entry) → open_after line body ≡ line → open_after line (times count body) ≡ line
open_times zero line body h = refl
open_times (suc count) line body h = open_append line body (times count body) ∙ ap (λ (last : List Word). open_after last (times count body)) h ∙ open_times count line body h

times-some : (count : ℕ) (es : List Entry) → 0 < count → times count es ≡ es ++ times (count - 1) es
times-some zero es h = let no : ⊥ = omega arith in elim no [ ]
times-some (suc count) es h =
    let n : count ≡ suc count - 1 = omega arith in
    ap (λ (n : ℕ). es ++ times n es) n

pub closed_repeated : (count : ℕ) (line : List Word) (body : List Entry) → 0 < count → has_track body ≡ true → closed_by line (times count body) ≡ closed_by line body ++ runs_times (count - 1) (closed_by (open_after line body) body)
closed_repeated count line body some h =
    ap (closed_by line) (times-some count body some)
    ∙ closed_append line body (times (count - 1) body)
    ∙ ap (λ (lines : List (List Word)). closed_by line body ++ lines) (closed_times (count - 1) (open_after line body) body (open_again line body h))

pub open_repeated : (count : ℕ) (line : List Word) (body : List Entry) → 0 < count → has_track body ≡ true → open_after line (times count body) ≡ open_after (open_after line body) body
open_repeated count line body some h =
    ap (open_after line) (times-some count body some)
    ∙ open_append line body (times (count - 1) body)
    ∙ open_times (count - 1) (open_after line body) body (open_again line body h)
    ∙ sym (open_again line body h)

-- ---- the lines of a state of the reading

-- entries that stand once
pub once_closed : (n : ℕ) (held made more : List (List Word)) (line : List Word) (es : List Entry) → more ≡ closed_by line es → made ≡ take n (held ++ runs_times 1 more) → made ≡ take n (held ++ closed_by line es)
once_closed n held made more line es m e =
    e
    ∙ ap (λ (xs : List (List Word)). take n (held ++ xs)) (times_once more)
    ∙ ap (λ (xs : List (List Word)). take n (held ++ xs)) m

pub ruleset once = (few_are, once_closed)

-- entries that stand many times: the first time, then those after it
pub repeated_closed : (n count : ℕ) (held first made more : List (List Word)) (line last : List Word) (body : List Entry) → 0 < count → has_track body ≡ true → last ≡ open_after line body
    → first ≡ take n (held ++ closed_by line body) → more ≡ closed_by last body → made ≡ take n (first ++ runs_times (count - 1) more) → made ≡ take n (held ++ closed_by line (times count body))
repeated_closed n count held first made more line last body some h o f k m =
    m
    ∙ ap (λ (xs : List (List Word)). take n (first ++ runs_times (count - 1) xs)) (k ∙ ap (λ (names : List Word). closed_by names body) o)
    ∙ kept_more n held first (closed_by line body) (runs_times (count - 1) (closed_by (open_after line body) body)) f
    ∙ ap (λ (xs : List (List Word)). take n (held ++ xs)) (sym (closed_repeated count line body some h))

pub repeated_open : (count : ℕ) (line first last : List Word) (body : List Entry) → 0 < count → has_track body ≡ true → first ≡ open_after line body → last ≡ open_after first body → last ≡ open_after line (times count body)
repeated_open count line first last body some h o l = l ∙ ap (λ (names : List Word). open_after names body) o ∙ sym (open_repeated count line body some h)

pub ruleset repeating = (few_are, repeated_closed, repeated_open)

-- some entries more, before those that are left
pub more_closed : (n : ℕ) (held next : List (List Word)) (line last : List Word) (more left : List Entry) → next ≡ take n (held ++ closed_by line more) → last ≡ open_after line more
    → take n (next ++ closed_by last left) ≡ take n (held ++ closed_by line (more ++ left))
more_closed n held next line last more left e o =
    kept_more n held next (closed_by line more) (closed_by last left) e
    ∙ ap (λ (xs : List (List Word)). take n (held ++ xs)) (ap (λ (last : List Word). closed_by line more ++ closed_by last left) o ∙ sym (closed_append line more left))

pub more_open : (line last : List Word) (more left : List Entry) → last ≡ open_after line more → open_after last left ≡ open_after line (more ++ left)
more_open line last more left o = ap (λ (last : List Word). open_after last left) o ∙ sym (open_append line more left)

-- one time more
pub time_closed : (n count : ℕ) (held next all : List (List Word)) (line last : List Word) (body : List Entry) → 0 < count → next ≡ take n (held ++ closed_by line body) → last ≡ open_after line body
    → take n (held ++ closed_by line (times count body)) ≡ all → take n (next ++ closed_by last (times (count - 1) body)) ≡ all
time_closed n count held next all line last body some e o h =
    more_closed n held next line last body (times (count - 1) body) e o
    ∙ ap (λ (es : List Entry). take n (held ++ closed_by line es)) (sym (times-some count body some))
    ∙ h

pub time_open : (count : ℕ) (line last all : List Word) (body : List Entry) → 0 < count → last ≡ open_after line body → open_after line (times count body) ≡ all → open_after last (times (count - 1) body) ≡ all
time_open count line last all body some o h = more_open line last body (times (count - 1) body) o ∙ ap (open_after line) (sym (times-some count body some)) ∙ h

pub times_closed : (n count : ℕ) (held all : List (List Word)) (line : List Word) (body : List Entry) → count ≡ 0 → length held ≤ n → take n (held ++ closed_by line (times count body)) ≡ all → held ≡ all
times_closed n count held all line body z f h = sym (kept_all n held f) ∙ ap (λ (c : ℕ). take n (held ++ closed_by line (times c body))) (sym z) ∙ h

pub times_open : (count : ℕ) (line all : List Word) (body : List Entry) → count ≡ 0 → open_after line (times count body) ≡ all → line ≡ all
times_open count line all body z h = ap (λ (c : ℕ). open_after line (times c body)) (sym z) ∙ h

pub ruleset one_by_one = (time_closed, time_open, times_closed, times_open)

-- ---- part by part

pub lines_next : (n : ℕ) (held next all : List (List Word)) (line last : List Word) (count : ℕ) (body : List Entry) (left rest : List Part) (x : Part) → left ≡ x ∷ rest → x ≡ part.Written count body
    → next ≡ take n (held ++ closed_by line (times count body)) → last ≡ open_after line (times count body) → take n (held ++ closed_by line (entries_of left)) ≡ all → take n (next ++ closed_by last (entries_of rest)) ≡ all
lines_next n held next all line last count body left rest x e k m o h =
    more_closed n held next line last (times count body) (entries_of rest) m o
    ∙ ap (λ (ps : List Part). take n (held ++ closed_by line (entries_of ps))) (sym (e ∙ ap (λ (y : Part). y ∷ rest) k))
    ∙ h

pub open_next : (line last all : List Word) (count : ℕ) (body : List Entry) (left rest : List Part) (x : Part) → left ≡ x ∷ rest → x ≡ part.Written count body
    → last ≡ open_after line (times count body) → open_after line (entries_of left) ≡ all → open_after last (entries_of rest) ≡ all
open_next line last all count body left rest x e k o h =
    more_open line last (times count body) (entries_of rest) o
    ∙ ap (λ (ps : List Part). open_after line (entries_of ps)) (sym (e ∙ ap (λ (y : Part). y ∷ rest) k))
    ∙ h

pub lines_skip : (n : ℕ) (held all : List (List Word)) (line : List Word) (filling : Filling) (body : List Entry) (left rest : List Part) (x : Part) → left ≡ x ∷ rest → x ≡ part.Automatic filling body
    → take n (held ++ closed_by line (entries_of left)) ≡ all → take n (held ++ closed_by line (entries_of rest)) ≡ all
lines_skip n held all line filling body left rest x e k h = ap (λ (ps : List Part). take n (held ++ closed_by line (entries_of ps))) (sym (e ∙ ap (λ (y : Part). y ∷ rest) k)) ∙ h

pub open_skip : (line all : List Word) (filling : Filling) (body : List Entry) (left rest : List Part) (x : Part) → left ≡ x ∷ rest → x ≡ part.Automatic filling body → open_after line (entries_of left) ≡ all → open_after line (entries_of rest) ≡ all
open_skip line all filling body left rest x e k h = ap (λ (ps : List Part). open_after line (entries_of ps)) (sym (e ∙ ap (λ (y : Part). y ∷ rest) k)) ∙ h

pub lines_last : (n : ℕ) (held all : List (List Word)) (line : List Word) (parts : List Part) (i : ℕ) → length parts ≤ i → length held ≤ n → take n (held ++ closed_by line (entries_of (drop i parts))) ≡ all → held ≡ all
lines_last n held all line parts i p f h = sym (kept_all n held f) ∙ ap (λ (ps : List Part). take n (held ++ closed_by line (entries_of ps))) (sym (drop_all i parts p)) ∙ h

pub open_ended : (line all : List Word) (parts : List Part) (i : ℕ) → length parts ≤ i → open_after line (entries_of (drop i parts)) ≡ all → line ≡ all
open_ended line all parts i p h = ap (λ (ps : List Part). open_after line (entries_of ps)) (sym (drop_all i parts p)) ∙ h

-- ---- the names of all lines

named_lines : (line : List Word) (es : List Entry) → map distinct (seam line (lines_of es)) ≡ closed_by line es ++ distinct (open_after line es) ∷ []
named_lines line [] = ap (λ (names : List Word). distinct names ∷ []) (append-nil line)
named_lines line (entry.Track size ∷ es) =
    ap (λ (names : List Word). distinct names ∷ map distinct (lines_of es)) (append-nil line)
    ∙ ap (λ (lines : List (List Word)). distinct line ∷ map distinct lines) (sym (seam_first es))
    ∙ ap (λ (lines : List (List Word)). distinct line ∷ lines) (named_lines [] es)
named_lines line (entry.Named name ∷ es) = ap (map distinct) (sym (seam_name line name (lines_of es))) ∙ named_lines (line ++ name ∷ []) es

pub names_are_kept : (n : ℕ) (closed made more : List (List Word)) (es : List Entry) (last : List Word) → closed ≡ take n (closed_by [] es) → last ≡ open_after [] es
    → more ≡ distinct last ∷ [] → made ≡ take n (closed ++ runs_times 1 more) → made ≡ map distinct (take n (lines_of es))
names_are_kept n closed made more es last c o k m =
    m
    ∙ ap (λ (xs : List (List Word)). take n (closed ++ xs)) (times_once more ∙ k)
    ∙ ap (λ (xs : List (List Word)). take n (xs ++ distinct last ∷ [])) c
    ∙ take-behind n (closed_by [] es) (distinct last ∷ [])
    ∙ ap (λ (names : List Word). take n (closed_by [] es ++ distinct names ∷ [])) o
    ∙ ap (take n) (sym (named_lines [] es) ∙ ap (map distinct) (seam_first es))
    ∙ sym (map-take distinct n (lines_of es))

pub names_ok : {E : Type 0} (n : ℕ) (closed more : List (List Word)) (es : List Entry) (last : List Word) (r : Result (List (List Word)) E) → closed ≡ take n (closed_by [] es) → last ≡ open_after [] es
    → more ≡ distinct last ∷ [] → IfOk r (λ made. made ≡ take n (closed ++ runs_times 1 more)) → IfOk r (λ made. made ≡ map distinct (take n (lines_of es)))
names_ok n closed more es last (Ok made) c o k m = names_are_kept n closed made more es last c o k m
names_ok n closed more es last (Err e) c o k m = m

pub ruleset names = (names_are_kept, few_are)

pub ruleset tracks = (from_there, tracks_next, tracks_skip, tracks_last, few_are)

pub ruleset lines = (from_there, lines_next, lines_skip, lines_last, open_next, open_skip, open_ended)

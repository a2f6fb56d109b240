-- Tracks that are written out.
use Rattle.std.proofs.Common.{arith, refl, sym, ap, subst, ◌∙◌, ◌≡◌, ◌⊎◌, inl, inr, ℕ, zero, suc, ◌+◌, ◌-◌, ◌*◌, ◌%◌, ◌<◌, ◌≤◌, min, List, [], ◌∷◌, ◌++◌, length, take, drop, take-append-drop, Option, Some, None, length-append, length-take, mod-eq_of_lt, suc-mul}
use Rattle.std.specs.Prelude.{slice_get}
use Rattle.std.proofs.Math.Nat.{add-mod_left}
use Rattle.std.proofs.lemmas.Bool.{cases_lt}
use Rattle.std.proofs.lemmas.Option.{slice_get_past}
use Rattle.std.proofs.lemmas.List.{take_min, drop_min}
use Rattle.style_types.specs.declared.track.Template.{Template}
use Rattle.style_types.specs.declared.track.Template.TheVariants as template
use Rattle.style_types.specs.declared.track.TrackFn.{TrackFn}
use Rattle.style_types.specs.declared.track.TrackList.{TrackList}
use Rattle.tree_rules.specs.Templates.{Written, repeated_sizes, written}
use Rattle.placing.specs.Axes.{listed}
use Rattle.placing.specs.Ranges.{IsTemplate, IsTrackList}
use Rattle.placing.specs.Written.{around, list_written, sizes_by}

-- ---- templates

abbrev pub nothing : Written
nothing = record { sizes = []; names = []; fit = None }

pub written_list : (t : Template) (l : TrackList) (count : ℕ) → Some l ≡ listed t → written t count ≡ list_written l count
written_list template.Absent l count h = absurd (cc)
written_list (template.Tracks k) l count h = let e : l ≡ k = (cc) in ap (λ (x : TrackList). list_written x count) (sym e)
written_list (template.Subgrid sets) l count h = absurd (cc)

pub written_none : (t : Template) (count : ℕ) → None ≡ listed t → written t count ≡ nothing
written_none template.Absent count h = refl
written_none (template.Tracks k) count h = absurd (cc)
written_none (template.Subgrid sets) count h = refl

pub fit_list : (t : Template) (l : TrackList) (count : ℕ) (fit : Option (ℕ × ℕ)) → Some l ≡ listed t → fit ≡ (list_written l count).fit → fit ≡ (written t count).fit
fit_list t l count fit h e = e ∙ ap (λ (w : Written). w.fit) (sym (written_list t l count h))

pub list_is : (t : Template) (l : TrackList) → Some l ≡ listed t → IsTemplate t → IsTrackList l
list_is template.Absent l h r = absurd (cc)
list_is (template.Tracks k) l h r = let e : k ≡ l = (cc) in subst IsTrackList e r
list_is (template.Subgrid sets) l h r = absurd (cc)

-- ---- reading a track

get_left : {A : Type 0} → (xs ys : List A) (i : ℕ) → i < length xs → slice_get (xs ++ ys) i ≡ slice_get xs i
get_left [] ys i h = absurd (omega arith)
get_left (x ∷ xs) ys zero h = refl
get_left (x ∷ xs) ys (suc i) h = get_left xs ys i (omega arith)

get_right : {A : Type 0} → (xs ys : List A) (i : ℕ) → length xs ≤ i → slice_get (xs ++ ys) i ≡ slice_get ys (i - length xs)
get_right [] ys i h = let e : i ≡ i - 0 = omega arith in ap (slice_get ys) e
get_right (x ∷ xs) ys zero h = absurd (omega arith)
get_right (x ∷ xs) ys (suc i) h = let e : i - length xs ≡ suc i - suc (length xs) = omega arith in get_right xs ys i (omega arith) ∙ ap (slice_get ys) e

length_repeated : (count : ℕ) (sizes : List TrackFn) → length (repeated_sizes count sizes) ≡ count * length sizes
length_repeated zero sizes = omega arith
length_repeated (suc n) sizes = omega (arith, length-append sizes (repeated_sizes n sizes), length_repeated n sizes, suc-mul n (length sizes))

-- a track of some repetition is that of one
get_repeated : (count : ℕ) (sizes : List TrackFn) (i : ℕ) → i < count * length sizes → slice_get (repeated_sizes count sizes) i ≡ slice_get sizes (i % length sizes)
get_repeated zero sizes i h = absurd (omega arith)
get_repeated (suc n) sizes i h = either (cases_lt i (length sizes)) (get_repeated n sizes (i - length sizes))
  where
    either : (i < length sizes) ⊎ (length sizes ≤ i) → (i - length sizes < n * length sizes → slice_get (repeated_sizes n sizes) (i - length sizes) ≡ slice_get sizes ((i - length sizes) % length sizes)) → slice_get (sizes ++ repeated_sizes n sizes) i ≡ slice_get sizes (i % length sizes)
    either (inl less) rest = get_left sizes (repeated_sizes n sizes) i less ∙ ap (slice_get sizes) (sym (mod-eq_of_lt less))
    either (inr more) rest =
        let within : i - length sizes < n * length sizes = omega (arith, suc-mul n (length sizes)) in
        let sum : i ≡ length sizes + (i - length sizes) = omega (arith, more) in
        get_right sizes (repeated_sizes n sizes) i more
        ∙ rest within
        ∙ ap (slice_get sizes) (sym (ap (λ (k : ℕ). k % length sizes) sum ∙ add-mod_left (length sizes) (i - length sizes)))

first_part : (before repeated after : List TrackFn) (count at : ℕ) → at < length before → slice_get (before ++ repeated_sizes count repeated ++ after) at ≡ slice_get before at
first_part before repeated after count at h =
    get_left (before ++ repeated_sizes count repeated) after at (omega (arith, length-append before (repeated_sizes count repeated)))
    ∙ get_left before (repeated_sizes count repeated) at h

second_part : (before repeated after : List TrackFn) (count at : ℕ) → length before ≤ at → at - length before < count * length repeated → slice_get (before ++ repeated_sizes count repeated ++ after) at ≡ slice_get repeated ((at - length before) % length repeated)
second_part before repeated after count at h f =
    get_left (before ++ repeated_sizes count repeated) after at (omega (arith, length-append before (repeated_sizes count repeated), length_repeated count repeated))
    ∙ get_right before (repeated_sizes count repeated) at h
    ∙ get_repeated count repeated (at - length before) f

third_part : (before repeated after : List TrackFn) (count at : ℕ) → length before ≤ at → count * length repeated ≤ at - length before → slice_get (before ++ repeated_sizes count repeated ++ after) at ≡ slice_get after (at - length before - count * length repeated)
third_part before repeated after count at h f =
    let past : length (before ++ repeated_sizes count repeated) ≡ length before + count * length repeated = omega (arith, length-append before (repeated_sizes count repeated), length_repeated count repeated) in
    let left : at - length (before ++ repeated_sizes count repeated) ≡ at - length before - count * length repeated = omega (arith, past) in
    get_right (before ++ repeated_sizes count repeated) after at (omega (arith, past)) ∙ ap (slice_get after) left

pub kept_get : {A : Type 0} → (n : ℕ) (xs : List A) (at : ℕ) → at < n → slice_get (take n xs) at ≡ slice_get xs at
kept_get zero xs at h = absurd (omega arith)
kept_get (suc n) [] at h = refl
kept_get (suc n) (x ∷ xs) zero h = refl
kept_get (suc n) (x ∷ xs) (suc at) h = kept_get n xs at (omega arith)

pub not_kept : {A : Type 0} → (n : ℕ) (xs : List A) (at : ℕ) → n ≤ at → slice_get (take n xs) at ≡ None
not_kept n xs at h = slice_get_past (take n xs) at (omega (arith, length-take n xs))

-- ---- tracks put in among those of a list

get_dropped : {A : Type 0} → (n : ℕ) (xs : List A) (at : ℕ) → slice_get (drop n xs) at ≡ slice_get xs (n + at)
get_dropped zero xs at = let e : at ≡ 0 + at = omega arith in ap (slice_get xs) e
get_dropped (suc n) [] at = refl
get_dropped (suc n) (x ∷ xs) at = let e : suc (n + at) ≡ suc n + at = omega arith in get_dropped n xs at ∙ ap (slice_get (x ∷ xs)) e

taken : (before : ℕ) (listed : List TrackFn) → before ≤ length listed → length (take before listed) ≡ before
taken before listed h = omega (arith, length-take before listed, h)

pub listed_first : (before : ℕ) (listed repeated : List TrackFn) (count at : ℕ) → before ≤ length listed → at < before → slice_get (around before listed (repeated_sizes count repeated)) at ≡ slice_get listed at
listed_first before listed repeated count at h f =
    first_part (take before listed) repeated (drop before listed) count at (omega (arith, taken before listed h, f))
    ∙ kept_get before listed at f

pub listed_second : (before : ℕ) (listed repeated : List TrackFn) (count at : ℕ) → before ≤ length listed → before ≤ at → at - before < count * length repeated → slice_get (around before listed (repeated_sizes count repeated)) at ≡ slice_get repeated ((at - before) % length repeated)
listed_second before listed repeated count at h f g =
    let e : at - length (take before listed) ≡ at - before = ap (λ (n : ℕ). at - n) (taken before listed h) in
    second_part (take before listed) repeated (drop before listed) count at (omega (arith, taken before listed h, f)) (omega (arith, e, g))
    ∙ ap (λ (n : ℕ). slice_get repeated (n % length repeated)) e

pub listed_third : (before : ℕ) (listed repeated : List TrackFn) (count at : ℕ) → before ≤ length listed → before ≤ at → count * length repeated ≤ at - before → slice_get (around before listed (repeated_sizes count repeated)) at ≡ slice_get listed (at - count * length repeated)
listed_third before listed repeated count at h f g =
    let e : at - length (take before listed) ≡ at - before = ap (λ (n : ℕ). at - n) (taken before listed h) in
    let left : before + (at - length (take before listed) - count * length repeated) ≡ at - count * length repeated = omega (arith, e, f, g) in
    third_part (take before listed) repeated (drop before listed) count at (omega (arith, taken before listed h, f)) (omega (arith, e, g))
    ∙ get_dropped before listed (at - length (take before listed) - count * length repeated)
    ∙ ap (slice_get listed) left

pub count_kept : (before : ℕ) (listed repeated : List TrackFn) (count : ℕ) → length (sizes_by before listed count repeated) ≡ min (length listed + count * length repeated) 10000
count_kept before listed repeated count =
    let front = take before listed in
    let back = drop before listed in
    let parts : length front + length back ≡ length listed = sym (length-append front back) ∙ ap length (take-append-drop before listed) in
    let all : length (around before listed (repeated_sizes count repeated)) ≡ length listed + count * length repeated = omega (arith, length-append (front ++ repeated_sizes count repeated) back, length-append front (repeated_sizes count repeated), length_repeated count repeated, parts) in
    omega (arith, length-take 10000 (around before listed (repeated_sizes count repeated)), all)

-- so many tracks as there are stand before the repeat
pub listed_around : (before : ℕ) (listed repeated : List TrackFn) → around (min before (length listed)) listed repeated ≡ around before listed repeated
listed_around before listed repeated =
    ap (λ (xs : List TrackFn). xs ++ repeated ++ drop (min before (length listed)) listed) (take_min before listed)
    ∙ ap (λ (xs : List TrackFn). take before listed ++ repeated ++ xs) (drop_min before listed)

pub ruleset reading = (listed_first, listed_second, listed_third)

pub ruleset listing = (listed_around)

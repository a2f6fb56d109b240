-- The sizes and the units of a list of which what stands many times is held once.
use Rattle.std.proofs.Common.{◌≡◌, ℕ, zero, suc, ◌+◌, ◌*◌, ◌≤◌, List, [], ◌++◌, length, ap, refl, sym, ◌∙◌, arith, length-append}
use Rattle.std.proofs.lemmas.List.{append-nil, append_assoc, map-append, length-map}
use Rattle.style_types.specs.declared.unit.Unit.{Unit}
use Rattle.style_types.specs.declared.track.TrackFn.{TrackFn}
use Rattle.runs.specs.Times.{times}
use Rattle.runs.proofs.Times.{length_times, items_at, items_past}
use Rattle.track_text.specs.declared.side.Track.{Track}
use Rattle.track_text.specs.Sides.{size_of_track, sizes_of, units_before}
use Rattle.track_text.proofs.Units.{units_append}

-- ---- sizes

sizes_times : (count : ℕ) (tracks : List Track) → sizes_of (times count tracks) ≡ times count (sizes_of tracks)
sizes_times zero tracks = refl
sizes_times (suc count) tracks = map-append size_of_track tracks (times count tracks) ∙ ap (λ (xs : List TrackFn). sizes_of tracks ++ xs) (sizes_times count tracks)

-- the sizes so far before those of the parts that are left
pub sizes_next : (made next sizes : List TrackFn) (left rest tracks : List Track) (count : ℕ) (body : List Track) → left ≡ times count body ++ rest → sizes ≡ sizes_of body → next ≡ made ++ times count sizes
    → made ++ sizes_of left ≡ sizes_of tracks → next ++ sizes_of rest ≡ sizes_of tracks
sizes_next made next sizes left rest tracks count body e s n h =
    ap (λ (xs : List TrackFn). xs ++ sizes_of rest) n
    ∙ ap (λ (xs : List TrackFn). (made ++ times count xs) ++ sizes_of rest) s
    ∙ append_assoc made (times count (sizes_of body)) (sizes_of rest)
    ∙ ap (λ (xs : List TrackFn). made ++ (xs ++ sizes_of rest)) (sym (sizes_times count body))
    ∙ ap (λ (xs : List TrackFn). made ++ xs) (sym (map-append size_of_track (times count body) rest))
    ∙ ap (λ (xs : List Track). made ++ sizes_of xs) (sym e)
    ∙ h

-- there is room for the sizes of the next part
pub sizes_fit : (made sizes : List TrackFn) (left rest tracks : List Track) (count : ℕ) (body : List Track) → left ≡ times count body ++ rest → sizes ≡ sizes_of body → made ++ sizes_of left ≡ sizes_of tracks
    → length tracks ≤ 4294967296 → length made + count * length sizes ≤ 4294967296
sizes_fit made sizes left rest tracks count body e s h few =
    let all : length made + length left ≡ length tracks = omega (arith, length-append made (sizes_of left), length-map left size_of_track, length-map tracks size_of_track, ap length h) in
    let parts : length left ≡ count * length body + length rest = omega (arith, ap length e, length-append (times count body) rest, length_times count body) in
    let same : length sizes ≡ length body = ap length s ∙ length-map body size_of_track in
    let by : count * length sizes ≡ count * length body = ap (λ (n : ℕ). count * n) same in
    omega (arith, all, parts, by, few)

pub sizes_last : (made : List TrackFn) (left : List Track) → left ≡ [] → made ++ sizes_of left ≡ made
sizes_last made left e = ap (λ (xs : List Track). made ++ sizes_of xs) e ∙ append-nil made

pub ruleset sizes = (items_at, items_past, sizes_next, sizes_fit, sizes_last)

-- ---- units

units_times : (count : ℕ) (tracks : List Track) → units_before (times count tracks) [] ≡ times count (units_before tracks [])
units_times zero tracks = refl
units_times (suc count) tracks = units_append tracks (times count tracks) ∙ ap (λ (units : List Unit). units_before tracks [] ++ units) (units_times count tracks)

-- the units so far before those of the parts that are left
pub units_next_part : (held next more all : List Unit) (left rest : List Track) (count : ℕ) (body : List Track) → left ≡ times count body ++ rest → more ≡ units_before body [] → next ≡ held ++ times count more
    → held ++ units_before left [] ≡ all → next ++ units_before rest [] ≡ all
units_next_part held next more all left rest count body e m n h =
    ap (λ (units : List Unit). units ++ units_before rest []) n
    ∙ ap (λ (units : List Unit). (held ++ times count units) ++ units_before rest []) m
    ∙ append_assoc held (times count (units_before body [])) (units_before rest [])
    ∙ ap (λ (units : List Unit). held ++ (units ++ units_before rest [])) (sym (units_times count body))
    ∙ ap (λ (units : List Unit). held ++ units) (sym (units_append (times count body) rest))
    ∙ ap (λ (ts : List Track). held ++ units_before ts []) (sym e)
    ∙ h

pub units_last : (held : List Unit) (left : List Track) → left ≡ [] → held ++ units_before left [] ≡ held
units_last held left e = ap (λ (ts : List Track). held ++ units_before ts []) e ∙ append-nil held

pub ruleset units = (items_at, items_past, units_next_part, units_last)

-- Tracks computed part by part.
use Rattle.std.proofs.Common.{◌≡◌, ℤ, ℕ, zero, suc, ◌+◌, ◌-◌, ◌*◌, ◌≤◌, List, [], ◌∷◌, ◌++◌, length, Option, Some, None, ap, refl, sym, ◌∙◌, arith, append_assoc, append-nil, length-append, suc-mul}
use Rattle.std.proofs.lemmas.List.{drop_all}
use Rattle.runs.specs.Times.{times}
use Rattle.runs.proofs.Times.{items_at, items_past, length_times}
use Rattle.style_types.specs.Computed.{onto, computed_breadth, computed_fit, computed_track, computed_tracks, computed_repeat, computed_list, list_with, track_of}
use Rattle.style_types.specs.Parts.{breadth_lengths, fit_lengths, track_lengths, tracks_lengths, IsPartBy}
use Rattle.style_types.specs.declared.track.Breadth.{Breadth}
use Rattle.style_types.specs.declared.track.Breadth.TheVariants as breadth
use Rattle.style_types.specs.declared.track.TrackFn.{TrackFn}
use Rattle.style_types.specs.declared.track.Repeat.{Repeat}
use Rattle.style_types.specs.declared.track.TrackList.{TrackList}
use Rattle.style_types.specs.declared.unit.Unit.{Unit}
use Rattle.style_types.proofs.Computing.{tracks_stay}

-- ---- just so many units are read, whatever stands behind them

abbrev Reads : {A : Type 0} → (List Unit → A × List Unit) → ℕ → Type 0
Reads f n = (us rest : List Unit) → n ≤ length us → (f (us ++ rest) ≡ ((f us).0, (f us).1 ++ rest)) × (length (f us).1 + n ≡ length us)

breadth_reads : (em rem : ℤ) (b : Breadth) → Reads (computed_breadth em rem b) (breadth_lengths b)
breadth_reads em rem (breadth.Length px) [] rest h = absurd (omega arith)
breadth_reads em rem (breadth.Length px) (u ∷ us) rest h = (refl, omega arith)
breadth_reads em rem (breadth.Percent p) us rest h = (refl, omega arith)
breadth_reads em rem breadth.Auto us rest h = (refl, omega arith)
breadth_reads em rem breadth.MinContent us rest h = (refl, omega arith)
breadth_reads em rem breadth.MaxContent us rest h = (refl, omega arith)
breadth_reads em rem (breadth.Flex f) us rest h = (refl, omega arith)

fit_reads : (em rem : ℤ) (b : Option Breadth) → Reads (computed_fit em rem b) (fit_lengths b)
fit_reads em rem None us rest h = (refl, omega arith)
fit_reads em rem (Some b) us rest h =
    let read = breadth_reads em rem b us rest h in
    (ap (λ (r : Breadth × List Unit). onto Some r) read.0, read.1)

track_reads : (em rem : ℤ) (track : TrackFn) → Reads (computed_track em rem track) (track_lengths track)
track_reads em rem track us rest h =
    let least = computed_breadth em rem track.least us in
    let most = computed_breadth em rem track.most least.1 in
    let fit = computed_fit em rem track.fit most.1 in
    let a = breadth_reads em rem track.least us rest (omega (arith, h)) in
    let b = breadth_reads em rem track.most least.1 rest (omega (arith, h, a.1)) in
    let c = fit_reads em rem track.fit most.1 rest (omega (arith, h, a.1, b.1)) in (
      ap (λ (l : Breadth × List Unit). (track_of l.0 (computed_breadth em rem track.most l.1).0 (computed_fit em rem track.fit (computed_breadth em rem track.most l.1).1).0, (computed_fit em rem track.fit (computed_breadth em rem track.most l.1).1).1)) a.0
          ∙ ap (λ (m : Breadth × List Unit). (track_of least.0 m.0 (computed_fit em rem track.fit m.1).0, (computed_fit em rem track.fit m.1).1)) b.0
          ∙ ap (λ (f : Option Breadth × List Unit). (track_of least.0 most.0 f.0, f.1)) c.0,
      omega (arith, a.1, b.1, c.1),
    )

tracks_reads : (em rem : ℤ) (tracks : List TrackFn) → Reads (computed_tracks em rem tracks) (tracks_lengths tracks)
tracks_reads em rem [] us rest h = (refl, omega arith)
tracks_reads em rem (track ∷ tracks) us rest h =
    let first = computed_track em rem track us in
    let a = track_reads em rem track us rest (omega (arith, h)) in
    let b = tracks_reads em rem tracks first.1 rest (omega (arith, h, a.1)) in (
      ap (λ (f : TrackFn × List Unit). (f.0 ∷ (computed_tracks em rem tracks f.1).0, (computed_tracks em rem tracks f.1).1)) a.0
          ∙ ap (λ (r : List TrackFn × List Unit). (first.0 ∷ r.0, r.1)) b.0,
      omega (arith, a.1, b.1),
    )

none_left : {A : Type 0} (xs : List A) (n m : ℕ) → length xs + n ≡ m → m ≡ n → xs ≡ []
none_left [] n m h e = refl
none_left (x ∷ xs) n m h e = absurd (omega (arith, h, e))

-- all units are read where there are just so many
pub own_read : (em rem : ℤ) (tracks : List TrackFn) (own rest : List Unit) → length own ≡ tracks_lengths tracks → computed_tracks em rem tracks (own ++ rest) ≡ ((computed_tracks em rem tracks own).0, rest)
own_read em rem tracks own rest h =
    let read = tracks_reads em rem tracks own rest (omega (arith, h)) in
    read.0 ∙ ap (λ (left : List Unit). ((computed_tracks em rem tracks own).0, left ++ rest)) (none_left (computed_tracks em rem tracks own).1 (tracks_lengths tracks) (length own) read.1 h)

-- ---- tracks one after another

tracks_append : (em rem : ℤ) (xs ys : List TrackFn) (us : List Unit) → computed_tracks em rem (xs ++ ys) us ≡ ((computed_tracks em rem xs us).0 ++ (computed_tracks em rem ys (computed_tracks em rem xs us).1).0, (computed_tracks em rem ys (computed_tracks em rem xs us).1).1)
tracks_append em rem [] ys us = refl
tracks_append em rem (x ∷ xs) ys us = ap (λ (r : List TrackFn × List Unit). ((computed_track em rem x us).0 ∷ r.0, r.1)) (tracks_append em rem xs ys (computed_track em rem x us).1)

-- a part that stands many times with its own units, before others
times_by : (em rem : ℤ) (n : ℕ) (body more : List TrackFn) (own rest : List Unit) → length own ≡ tracks_lengths body
    → (computed_tracks em rem (times n body ++ more) (times n own ++ rest)).0 ≡ times n (computed_tracks em rem body own).0 ++ (computed_tracks em rem more rest).0
times_by em rem zero body more own rest h = refl
times_by em rem (suc n) body more own rest h =
    let some = (computed_tracks em rem body own).0 in
    ap (λ (ts : List TrackFn). (computed_tracks em rem ts ((own ++ times n own) ++ rest)).0) (append_assoc body (times n body) more)
    ∙ ap (λ (us : List Unit). (computed_tracks em rem (body ++ (times n body ++ more)) us).0) (append_assoc own (times n own) rest)
    ∙ ap (λ (r : List TrackFn × List Unit). r.0) (tracks_append em rem body (times n body ++ more) (own ++ (times n own ++ rest)))
    ∙ ap (λ (r : List TrackFn × List Unit). r.0 ++ (computed_tracks em rem (times n body ++ more) r.1).0) (own_read em rem body own (times n own ++ rest) h)
    ∙ ap (λ (ts : List TrackFn). some ++ ts) (times_by em rem n body more own rest h)
    ∙ sym (append_assoc some (times n some) (computed_tracks em rem more rest).0)

lengths_append : (xs ys : List TrackFn) → tracks_lengths (xs ++ ys) ≡ tracks_lengths xs + tracks_lengths ys
lengths_append [] ys = omega arith
lengths_append (x ∷ xs) ys = omega (arith, lengths_append xs ys)

lengths_times : (n : ℕ) (body : List TrackFn) → tracks_lengths (times n body) ≡ n * tracks_lengths body
lengths_times zero body = omega arith
lengths_times (suc n) body = omega (arith, lengths_append body (times n body), lengths_times n body, suc-mul n (tracks_lengths body))

-- ---- part by part

-- what is made before the parts that are left is what all parts are made to, and there are as many units as lengths before them
pub record IsWalkedBy (em rem : ℤ) (tracks left : List TrackFn) (units rest : List Unit) (front : List TrackFn) : Type 0 where
  pub made : front ++ (computed_tracks em rem left rest).0 ≡ (computed_tracks em rem tracks units).0
  pub fits : length rest + tracks_lengths tracks ≡ tracks_lengths left + length units

pub walk_next : (em rem : ℤ) (tracks left after : List TrackFn) (units rest later : List Unit) (made next body : List TrackFn) (part : ℕ × List TrackFn) (own : ℕ × List Unit)
    → left ≡ times part.0 part.1 ++ after → rest ≡ times own.0 own.1 ++ later → IsPartBy em rem part own body → next ≡ made ++ times part.0 body
    → IsWalkedBy em rem tracks left units rest made → IsWalkedBy em rem tracks after units later next
walk_next em rem tracks left after units rest later made next body part own l r p n w =
    let again : rest ≡ times part.0 own.1 ++ later = r ∙ ap (λ (k : ℕ). times k own.1 ++ later) (sym p.same) in
    let by : (computed_tracks em rem left rest).0 ≡ times part.0 body ++ (computed_tracks em rem after later).0 =
    ap (λ (ts : List TrackFn). (computed_tracks em rem ts rest).0) l
    ∙ ap (λ (us : List Unit). (computed_tracks em rem (times part.0 part.1 ++ after) us).0) again
    ∙ times_by em rem part.0 part.1 after own.1 later p.fits
    ∙ ap (λ (ts : List TrackFn). times part.0 ts ++ (computed_tracks em rem after later).0) (sym p.made) in
    let lengths : tracks_lengths left ≡ part.0 * tracks_lengths part.1 + tracks_lengths after = omega (arith, ap tracks_lengths l, lengths_append (times part.0 part.1) after, lengths_times part.0 part.1) in
    let many : length rest ≡ part.0 * length own.1 + length later = omega (arith, ap length again, length-append (times part.0 own.1) later, length_times part.0 own.1) in
    let same : part.0 * length own.1 ≡ part.0 * tracks_lengths part.1 = ap (λ (k : ℕ). part.0 * k) p.fits in
    record {
      made = ap (λ (ts : List TrackFn). ts ++ (computed_tracks em rem after later).0) n
          ∙ append_assoc made (times part.0 body) (computed_tracks em rem after later).0
          ∙ ap (λ (ts : List TrackFn). made ++ ts) (sym by)
          ∙ w.made;
      fits = omega (arith, lengths, many, same, w.fits);
    }

-- there is room for the next part
pub walk_fits : (em rem : ℤ) (tracks left after : List TrackFn) (units rest : List Unit) (made body : List TrackFn) (part : ℕ × List TrackFn) (own : ℕ × List Unit)
    → left ≡ times part.0 part.1 ++ after → IsPartBy em rem part own body → IsWalkedBy em rem tracks left units rest made → length tracks ≤ 4294967296 → length made + part.0 * length body ≤ 4294967296
walk_fits em rem tracks left after units rest made body part own l p w few =
    let stays : length body ≡ length part.1 = ap length p.made ∙ tracks_stay em rem part.1 own.1 in
    let all : length made + length left ≡ length tracks = omega (arith, ap length w.made, length-append made (computed_tracks em rem left rest).0, tracks_stay em rem left rest, tracks_stay em rem tracks units) in
    let parts : length left ≡ part.0 * length part.1 + length after = omega (arith, ap length l, length-append (times part.0 part.1) after, length_times part.0 part.1) in
    let same : part.0 * length body ≡ part.0 * length part.1 = ap (λ (k : ℕ). part.0 * k) stays in
    omega (arith, all, parts, same, few)

pub walk_done : (em rem : ℤ) (tracks left : List TrackFn) (units rest : List Unit) (made : List TrackFn) → left ≡ [] → rest ≡ [] → IsWalkedBy em rem tracks left units rest made → IsPartBy em rem (1, tracks) (1, units) made
walk_done em rem tracks left units rest made l r w =
    let none : (computed_tracks em rem left rest).0 ≡ [] = ap (λ (ts : List TrackFn). (computed_tracks em rem ts rest).0) l in
    record {
      same = refl;
      fits = omega (arith, w.fits, ap length r, ap tracks_lengths l);
      made = sym (append-nil made) ∙ ap (λ (ts : List TrackFn). made ++ ts) (sym none) ∙ w.made;
    }

pub walk_begun : (em rem : ℤ) (tracks : List TrackFn) (units : List Unit) (made : List TrackFn) → made ≡ [] → IsWalkedBy em rem tracks tracks units units made
walk_begun em rem tracks units made e = record { made = ap (λ (ts : List TrackFn). ts ++ (computed_tracks em rem tracks units).0) e; fits = omega arith }

-- ---- a list

pub list_exact : (em rem : ℤ) (list : TrackList) (parts others left : List Unit) (sizes : List TrackFn) (repeat : Option Repeat) → IsPartBy em rem (1, list.sizes) (1, parts) sizes
    → (repeat, left) ≡ computed_repeat em rem list.repeat others → list_with list sizes repeat ≡ computed_list em rem list (parts ++ others)
list_exact em rem list parts others left sizes repeat p r =
    let read : computed_tracks em rem list.sizes (parts ++ others) ≡ (sizes, others) = own_read em rem list.sizes parts others p.fits ∙ ap (λ (ts : List TrackFn). (ts, others)) (sym p.made) in
    ap (λ (q : Option Repeat × List Unit). list_with list sizes q.0) r
    ∙ ap (λ (s : List TrackFn × List Unit). list_with list s.0 (computed_repeat em rem list.repeat s.1).0) (sym read)

pub ruleset reading = (walk_next, walk_fits, walk_done, walk_begun, items_at, items_past)

pub ruleset exact = (list_exact)

-- ---- as many units as lengths

pub fit_next : (tracks left : List TrackFn) (units before after each : ℕ) (track : TrackFn) (rest : List TrackFn) → left ≡ track ∷ rest → each ≡ track_lengths track → each ≤ before → after ≡ before - each
    → units + tracks_lengths left ≡ before + tracks_lengths tracks → units + tracks_lengths rest ≡ after + tracks_lengths tracks
fit_next tracks left units before after each track rest l e b a h = omega (arith, ap tracks_lengths l, e, b, a, h)

pub fit_done : (tracks left : List TrackFn) (units before : ℕ) → left ≡ [] → before ≡ 0 → units + tracks_lengths left ≡ before + tracks_lengths tracks → units ≡ tracks_lengths tracks
fit_done tracks left units before l b h = omega (arith, ap tracks_lengths l, b, h)

pub ruleset fitting = (fit_next, fit_done, drop_all)

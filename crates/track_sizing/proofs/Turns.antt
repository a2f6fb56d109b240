-- Turns: what tracks incur, and how much that can be.
use Rattle.std.proofs.Common.{arith, ap, subst, ◌≡◌, ◌∙◌, sym, refl, ℕ, zero, suc, ◌+◌, ◌<◌, ℤ, pos, ◌+ℤ◌, ◌-ℤ◌, ◌≤ℤ◌, List, [], ◌∷◌, map, drop, length, get_or}
use Rattle.std.proofs.lemmas.Int.{ints}
use Rattle.lunit.specs.Units.{top, IsUnits}
use Rattle.part_rules.specs.declared.share.Share.{Share}
use Rattle.part_rules.specs.Lists.{zipped}
use Rattle.part_rules.specs.Sharing.{shared_rows, left_over, shares, unshared}
use Rattle.part_rules.specs.Tracks.{Track, incur}
use Rattle.track_sizing.specs.declared.rooms.Rooms.{Rooms}
use Rattle.track_sizing.specs.Here.{AreBelow, AreFitting, incur_share, room_of, share_of}
use Rattle.track_sizing.proofs.Sums.{drop_item}
use Rattle.track_sizing.proofs.Loops.{IsZipped}
use Rattle.track_sizing.proofs.Shares.{gots, HaveAtMost, shared_most, left_most, left_some, shares_of_rows, left_of_rows, floored_share}

-- ---- shares that fit

drop_fitting : (i : ℕ) (ts : List Track) (ss : List Share) → AreFitting ts ss → AreFitting (drop i ts) (drop i ss)
drop_fitting zero ts ss h = h
drop_fitting (suc i) [] ss h = tt
drop_fitting (suc i) (t ∷ ts) [] h = absurd h
drop_fitting (suc i) (t ∷ ts) (s ∷ ss) h = drop_fitting i ts ss h.1

pub fitting_at : (from : List Track) (ss : List Share) (now : List Track) (i : ℕ) (t : Track) (s : Share) → AreFitting from ss → IsZipped incur_share from ss now i → i < length now → i < length ss → t ≡ get_or now i t → s ≡ get_or ss i s
    → (pos 0 ≤ℤ s.got) × IsUnits (t.incurred +ℤ s.got)
fitting_at from ss now i t s fits so h g e d = head (subst (λ (xs : List Track). AreFitting xs (s ∷ drop (i + 1) ss)) (sym so.rest ∙ drop_item now i t h e) (subst (λ (ys : List Share). AreFitting (drop i from) ys) (drop_item ss i s g d) (drop_fitting i from ss fits)))
  where
    head : AreFitting (t ∷ drop (i + 1) now) (s ∷ drop (i + 1) ss) → (pos 0 ≤ℤ s.got) × IsUnits (t.incurred +ℤ s.got)
    head h = h.0

fitting : (before left : ℤ) (ts : List Track) (ss : List Share) → length ss ≡ length ts → pos 0 ≤ℤ left → left ≤ℤ before → AreBelow (top -ℤ before) ts → HaveAtMost (before -ℤ left) ss → AreFitting ts ss × AreBelow (top -ℤ left) (zipped incur_share ts ss)
fitting before left [] ss e some less b m = (tt, tt)
fitting before left (t ∷ ts) [] e some less b m = absurd (omega arith)
fitting before left (t ∷ ts) (s ∷ ss) e some less b m =
    let rest = fitting before left ts ss (omega arith) some less b.1 m.1 in
    (((m.0.0, (omega (arith, ints), omega (arith, ints))), rest.0), ((omega (arith, ints), omega (arith, ints)), rest.1))

-- ---- one turn

zipped_gots : (ts : List Track) (ss : List Share) → zipped incur_share ts ss ≡ zipped incur ts (gots ss)
zipped_gots [] ss = refl
zipped_gots (t ∷ ts) [] = refl
zipped_gots (t ∷ ts) (s ∷ ss) = ap (λ (xs : List Track). incur_share t s ∷ xs) (zipped_gots ts ss)

pub shares_in : (r : Rooms) (ts : List Track) → map (share_of r) ts ≡ map floored_share (map (room_of r) ts)
shares_in r [] = refl
shares_in r (t ∷ ts) = ap (λ (xs : List Share). share_of r t ∷ xs) (shares_in r ts)

pub turn_fits : (r : Rooms) (space left : ℤ) (ts : List Track) (set shared : List Share) → length shared ≡ length ts → pos 0 ≤ℤ space → AreBelow (top -ℤ space) ts → set ≡ map (share_of r) ts → shared ≡ shared_rows space set → left ≡ left_over space set
    → AreFitting ts shared × AreBelow (top -ℤ left) (zipped incur_share ts shared)
turn_fits r space left ts set shared same some below e d l =
    let least : pos 0 ≤ℤ left = omega (arith, ints, left_some space set some) in
    fitting space left ts shared same least (omega (arith, ints, left_most space set)) below (subst (λ (xs : List Share). HaveAtMost (space -ℤ left) xs) (sym d) (subst (λ (z : ℤ). HaveAtMost (space -ℤ z) (shared_rows space set)) (sym l) (shared_most space set)))

pub turn_rows : (r : Rooms) (space : ℤ) (ts now : List Track) (set shared : List Share) → set ≡ map (share_of r) ts → shared ≡ shared_rows space set → now ≡ zipped incur_share ts shared → now ≡ zipped incur ts (shares space (map (room_of r) ts))
turn_rows r space ts now set shared e d n =
    n ∙ zipped_gots ts shared ∙ ap (λ (xs : List Share). zipped incur ts (gots xs)) d ∙ ap (λ (xs : List Share). zipped incur ts (gots (shared_rows space xs))) (e ∙ shares_in r ts) ∙ ap (zipped incur ts) (shares_of_rows space (map (room_of r) ts))

pub turn_left : (r : Rooms) (space left : ℤ) (ts : List Track) (set : List Share) → set ≡ map (share_of r) ts → left ≡ left_over space set → left ≡ unshared space (map (room_of r) ts)
turn_left r space left ts set e l = l ∙ ap (left_over space) (e ∙ shares_in r ts) ∙ left_of_rows space (map (room_of r) ts)

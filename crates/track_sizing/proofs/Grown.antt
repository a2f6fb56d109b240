-- The rest of the space.
use Rattle.std.proofs.Common.{arith, ap, subst, ◌≡◌, ◌∙◌, sym, refl, ℕ, zero, suc, ◌+◌, ◌<◌, ℤ, pos, ◌-◌, ◌+ℤ◌, ◌*ℤ◌, ◌≤ℤ◌, Bool, true, false, not, List, [], ◌∷◌, map, drop, length, get_or, cond, filter}
use Rattle.part_rules.specs.declared.share.Share.{Share}
use Rattle.part_rules.specs.Lists.{sum_of, zipped}
use Rattle.part_rules.specs.Sharing.{shared_rows}
use Rattle.part_rules.specs.Tracks.{Track, grow_base, grown, full, limit_of, total, all_gutters}
use Rattle.track_sizing.specs.declared.rooms.Rooms.{Rooms}
use Rattle.track_sizing.specs.Here.{HaveShares, grow_share, room_of, share_of}
use Rattle.track_sizing.proofs.Sums.{drop_item}
use Rattle.track_sizing.proofs.Turns.{shares_in}
use Rattle.track_sizing.proofs.Shares.{gots, shared_got, shares_of_rows}

pub shared_some : (space : ℤ) (rows : List Share) → HaveShares (shared_rows space rows)
shared_some space rows = shared_got space rows

shares_drop : (i : ℕ) (ss : List Share) → HaveShares ss → HaveShares (drop i ss)
shares_drop zero ss h = h
shares_drop (suc i) [] h = tt
shares_drop (suc i) (s ∷ ss) h = shares_drop i ss h.1

pub share_at : (ss : List Share) (i : ℕ) (s : Share) → HaveShares ss → i < length ss → s ≡ get_or ss i s → pos 0 ≤ℤ s.got
share_at ss i s h g e = (subst HaveShares (drop_item ss i s g e) (shares_drop i ss h)).0

zipped_grown : (ts : List Track) (ss : List Share) → zipped grow_share ts ss ≡ zipped grow_base ts (gots ss)
zipped_grown [] ss = refl
zipped_grown (t ∷ ts) [] = refl
zipped_grown (t ∷ ts) (s ∷ ss) = ap (λ (xs : List Track). grow_share t s ∷ xs) (zipped_grown ts ss)

pub grown_rows : (r : Rooms) (space : ℤ) (ts now : List Track) (set shared : List Share) → set ≡ map (share_of r) ts → shared ≡ shared_rows space set → now ≡ zipped grow_share ts shared → now ≡ grown (room_of r) space ts
grown_rows r space ts now set shared e d n =
    n ∙ zipped_grown ts shared ∙ ap (λ (xs : List Share). zipped grow_base ts (gots xs)) d ∙ ap (λ (xs : List Share). zipped grow_base ts (gots (shared_rows space xs))) (e ∙ shares_in r ts) ∙ ap (zipped grow_base ts) (shares_of_rows space (map (room_of r) ts))

-- one more track that is counted, or not
pub count_more : (test : Track → Bool) (ts : List Track) (i n : ℕ) (t : Track) → i < length ts → t ≡ get_or ts i t → test t ≡ true → n + length (filter test (drop i ts)) ≡ (n + 1) + length (filter test (drop (i + 1) ts))
count_more test ts i n t h e y = omega (arith, ap (λ (xs : List Track). length (filter test xs)) (drop_item ts i t h e), ap (λ (b : Bool). length (cond b (t ∷ filter test (drop (i + 1) ts)) (filter test (drop (i + 1) ts)))) y)

pub count_none : (test : Track → Bool) (ts : List Track) (i : ℕ) (t : Track) → i < length ts → t ≡ get_or ts i t → test t ≡ false → length (filter test (drop i ts)) ≡ length (filter test (drop (i + 1) ts))
count_none test ts i t h e y = omega (arith, ap (λ (xs : List Track). length (filter test xs)) (drop_item ts i t h e), ap (λ (b : Bool). length (cond b (t ∷ filter test (drop (i + 1) ts)) (filter test (drop (i + 1) ts)))) y)

pub ruleset counts = (count_more, count_none)

full_sum : (ts : List Track) → sum_of (map (λ (t : Track). t.base) (map full ts)) ≡ sum_of (map limit_of ts)
full_sum [] = refl
full_sum (t ∷ ts) = ap (λ (z : ℤ). limit_of t +ℤ z) (full_sum ts)

full_count : (ts : List Track) → length (filter (λ (t : Track). not t.rule.collapsed) (map full ts)) ≡ length (filter (λ (t : Track). not t.rule.collapsed) ts)
full_count [] = refl
full_count (t ∷ ts) = go (not t.rule.collapsed) (full_count ts)
  where
    go : (b : Bool) → length (filter (λ (t : Track). not t.rule.collapsed) (map full ts)) ≡ length (filter (λ (t : Track). not t.rule.collapsed) ts)
        → length (cond b (full t ∷ filter (λ (t : Track). not t.rule.collapsed) (map full ts)) (filter (λ (t : Track). not t.rule.collapsed) (map full ts))) ≡ length (cond b (t ∷ filter (λ (t : Track). not t.rule.collapsed) ts) (filter (λ (t : Track). not t.rule.collapsed) ts))
    go true e = omega (arith, e)
    go false e = e

pub full_sums : (gap sum gutters all : ℤ) (ts : List Track) → sum ≡ sum_of (map limit_of ts) → gutters ≡ all_gutters gap ts → all ≡ sum +ℤ gutters → all ≡ total gap (map full ts)
full_sums gap sum gutters all ts s g a =
    a ∙ ap (λ (z : ℤ). z +ℤ gutters) (s ∙ sym (full_sum ts)) ∙ ap (λ (z : ℤ). sum_of (map (λ (t : Track). t.base) (map full ts)) +ℤ z) (g ∙ ap (λ (n : ℕ). gap *ℤ pos (n - 1)) (sym (full_count ts)))

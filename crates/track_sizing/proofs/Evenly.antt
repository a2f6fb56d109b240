-- What the code of equal parts stands on.
use Rattle.std.proofs.Common.{arith, ap, subst, ◌≡◌, ◌∙◌, sym, refl, ℕ, zero, suc, ◌+◌, ◌-◌, ◌*◌, ◌/◌, ◌%◌, ◌<◌, ◌≤◌, ℤ, pos, negsuc, ◌+ℤ◌, ◌-ℤ◌, ◌≤ℤ◌, Bool, true, false, not, ◌||◌, List, [], ◌∷◌, ◌++◌, map, take, drop, length, get_or, Option, None, Some, if◌then◌else◌, true≢false}
use Rattle.std.specs.Prelude.{unwrap_or}
use Rattle.std.specs.Int.{int_max}
use Rattle.std.specs.List.{list_any}
use Rattle.std.proofs.Math.ListN.{drop_of_length-le}
use Rattle.std.proofs.lemmas.Int.{ints, clamps}
use Rattle.std.proofs.lemmas.Nat.{div-add-mod', mod_below}
use Rattle.lunit.specs.Units.{IsUnits, clamp, top}
use Rattle.lunit.specs.declared.item.Item.{Item}
use Rattle.part_rules.specs.declared.track.Least.{Least}
use Rattle.part_rules.specs.declared.track.Least.TheVariants as least
use Rattle.part_rules.specs.declared.track.Most.{Most}
use Rattle.part_rules.specs.declared.track.Most.TheVariants as most
use Rattle.part_rules.specs.Lists.{above_zero, sum_of, zipped}
use Rattle.part_rules.specs.Sharing.{shares}
use Rattle.part_rules.specs.Tracks.{Track, auto_room, base_of, grow_base, grown, is_auto_least, is_auto_most, limit_of, span_length, without_end}
use Rattle.track_sizing.specs.declared.even.Gains.{Gains}
use Rattle.track_sizing.specs.declared.even.Gains.TheVariants as gain
use Rattle.track_sizing.specs.declared.item.Asks.{Asks}
use Rattle.track_sizing.specs.declared.item.Asks.TheVariants as asks
use Rattle.track_sizing.specs.Alone.{is_special}
use Rattle.track_sizing.specs.Even.{AreEnded, AreFresh, AreOpen, AreSome, HaveSum, IsEnded, IsFresh, IsOpen, even_shares, gain_of, gained, gained_evenly, greatest_of, greatest_space, gutters_in, lifted, space_for, with_bases, with_limits, with_lows}
use Rattle.track_sizing.specs.Here.{HaveUnits}
use Rattle.track_sizing.specs.Ordered.{AreOf, has}
use Rattle.track_sizing.proofs.EvenShares.{AllSome, even_length, even_parts, even_some, even_sum, parts}
use Rattle.track_sizing.proofs.Idle.{none_shared}
use Rattle.track_sizing.proofs.Local.{map_length}
use Rattle.track_sizing.proofs.Order.{that_number}
use Rattle.track_sizing.proofs.Parted.{neither}
use Rattle.track_sizing.proofs.Shares.{nothings}
use Rattle.track_sizing.proofs.Sums.{drop_item}
use Rattle.track_sizing.proofs.Ungrown.{zipped_same}

-- ---- one track

plain_rule : (l : Least) (m : Most) → (not (is_auto_least l) || not (is_auto_most m)) ≡ false → (l ≡ least.Auto) × (m ≡ most.Auto)
plain_rule (least.Fixed x) m e = absurd (true≢false e)
plain_rule least.MinContent m e = absurd (true≢false e)
plain_rule least.MaxContent m e = absurd (true≢false e)
plain_rule least.Auto (most.Fixed x) e = absurd (true≢false e)
plain_rule least.Auto most.MinContent e = absurd (true≢false e)
plain_rule least.Auto most.MaxContent e = absurd (true≢false e)
plain_rule least.Auto most.Auto e = (refl, refl)
plain_rule least.Auto (most.Fit x) e = absurd (true≢false e)
plain_rule least.Auto (most.Flex w) e = absurd (true≢false e)

pub fresh_row : (t : Track) (special endless : Bool) (base : ℤ) (limit : Option ℤ) → special ≡ is_special t → special ≡ false → t.planned ≡ pos 0 → base ≡ t.base → base ≡ pos 0 → endless ≡ t.endless → endless ≡ false → limit ≡ t.limit → limit ≡ None → IsFresh t
unfolding is_special
fresh_row t special endless base limit s e p b z m f l n =
    let rule = plain_rule t.rule.least t.rule.most (sym s ∙ e) in
    let none : t.base ≡ pos 0 = sym b ∙ z in
    record {
      opens = record { plain = record { min = rule.0; max = rule.1 }; limit = sym l ∙ n; planned = p; units = (omega (arith, ints, none), omega (arith, ints, none)); unmarked = sym m ∙ f };
      none = none;
    }

-- Where those from this place on are fresh, all are.
pub record IsFreshTo (ts : List Track) (i : ℕ) : Type 0 where
  pub whole : AreFresh (drop i ts) → AreFresh ts

pub fresh_start : (ts : List Track) → IsFreshTo ts 0
fresh_start ts = record { whole = λ h. h }

pub fresh_more : (ts : List Track) (i : ℕ) (t : Track) → IsFreshTo ts i → i < length ts → t ≡ get_or ts i t → IsFresh t → IsFreshTo ts (i + 1)
fresh_more ts i t so h e s = record { whole = λ rest. so.whole (subst AreFresh (sym (drop_item ts i t h e)) (s, rest)) }

pub fresh_all : (ts : List Track) (i : ℕ) → IsFreshTo ts i → length ts ≤ i → AreFresh ts
fresh_all ts i so h = let none : drop i ts ≡ [] = drop_of_length-le ts h in so.whole (subst AreFresh (sym none) tt)

pub ruleset rows_fresh = (fresh_start, fresh_more, fresh_all)

pub open_fresh : (ts : List Track) → AreFresh ts → AreOpen ts
open_fresh [] h = tt
open_fresh (t ∷ ts) h = (h.0.opens, open_fresh ts h.1)

-- ---- items

-- Where those from this place on span so many tracks, all do.
pub record IsOfTo (k : ℤ) (items : List Item) (at : ℕ) : Type 0 where
  pub whole : AreOf k (drop at items) → AreOf k items

pub of_start : (k : ℤ) (items : List Item) → IsOfTo k items 0
of_start k items = record { whole = λ h. h }

pub of_more : (k : ℤ) (items : List Item) (at : ℕ) (i : Item) (b : Bool) → IsOfTo k items at → at < length items → i ≡ get_or items at i → b ≡ has k i → b ≡ true → IsOfTo k items (at + 1)
of_more k items at i b so h e d t = record { whole = λ rest. so.whole (subst (AreOf k) (sym (drop_item items at i h e)) (that_number (span_length i) k (sym d ∙ t), rest)) }

pub of_all : (k : ℤ) (items : List Item) (at : ℕ) → IsOfTo k items at → length items ≤ at → AreOf k items
of_all k items at so h = let none : drop at items ≡ [] = drop_of_length-le items h in so.whole (subst (AreOf k) (sym none) tt)

pub ruleset items_over = (of_start, of_more, of_all)

-- ---- the greatest space

pub space_most : (asked sum gutters rest left space : ℤ) → IsUnits asked → rest ≡ asked -ℤ sum → left ≡ rest -ℤ gutters → space ≡ clamp (int_max (pos 0) left) → IsUnits sum → pos 0 ≤ℤ gutters → space ≤ℤ (top -ℤ sum)
unfolding clamp
space_most asked sum gutters rest left space u r l e s g = omega (arith, ints, clamps, u.0, u.1, r, l, e, s.0, s.1, g)

-- The greatest of those before this place, which is at most so much.
pub record IsGreatest (f : Item → ℤ) (room : ℤ) (items : List Item) (at : ℕ) (best : ℤ) : Type 0 where
  pub same : greatest_of f best (drop at items) ≡ greatest_of f (pos 0) items
  pub some : pos 0 ≤ℤ best
  pub most : best ≤ℤ room

pub greatest_start : (f : Item → ℤ) (sum : ℤ) (items : List Item) (best : ℤ) → best ≡ pos 0 → IsUnits sum → IsGreatest f (top -ℤ sum) items 0 best
greatest_start f sum items best e u = record { same = ap (λ (z : ℤ). greatest_of f z items) e; some = omega (arith, ints, e); most = omega (arith, ints, e, u.1) }

pub greatest_more : (f : Item → ℤ) (room : ℤ) (items : List Item) (at : ℕ) (i : Item) (best one next : ℤ) → IsGreatest f room items at best → at < length items → i ≡ get_or items at i → one ≡ f i → one ≤ℤ room → next ≡ int_max one best → IsGreatest f room items (at + 1) next
greatest_more f room items at i best one next so h e d m n =
    record {
      same =
          ap (λ (z : ℤ). greatest_of f z (drop (at + 1) items)) (n ∙ ap (λ (z : ℤ). int_max z best) d)
          ∙ sym (ap (greatest_of f best) (drop_item items at i h e))
          ∙ so.same;
      some = omega (arith, ints, clamps, n, so.some);
      most = omega (arith, ints, clamps, n, m, so.most);
    }

pub greatest_all : (f : Item → ℤ) (room : ℤ) (items : List Item) (at : ℕ) (best : ℤ) → IsGreatest f room items at best → length items ≤ at → best ≡ greatest_of f (pos 0) items
greatest_all f room items at best so h = sym (ap (greatest_of f best) (drop_of_length-le items h)) ∙ so.same

pub greatest_above : (f : Item → ℤ) (room : ℤ) (items : List Item) (at : ℕ) (best : ℤ) → IsGreatest f room items at best → pos 0 ≤ℤ best
greatest_above f room items at best so = so.some

pub greatest_most : (f : Item → ℤ) (room : ℤ) (items : List Item) (at : ℕ) (best : ℤ) → IsGreatest f room items at best → best ≤ℤ room
greatest_most f room items at best so = so.most

pub ruleset greatest = (greatest_start, greatest_more, greatest_all, greatest_above, greatest_most)

-- ---- equal parts

pub parts_whole : (units tracks whole : ℕ) → units ≡ whole → units / tracks * tracks + units % tracks ≡ whole
parts_whole units tracks whole e = div-add-mod' units tracks ∙ e

pub parts_more : (units tracks : ℕ) → 2 ≤ tracks → units % tracks < tracks
parts_more units tracks h = mod_below units tracks (omega (arith, h))

twice : (q b : ℕ) → q * (2 + b) ≡ q + q + q * b
twice q b = grind arith

halved : (q a n : ℕ) → 2 ≤ a → q * a ≤ n → q + q ≤ n
halved q a n h e = let is : a ≡ 2 + (a - 2) = omega (arith, h) in omega (arith, e, twice q (a - 2), ap (λ (k : ℕ). q * k) is)

pub parts_range : (units tracks : ℕ) → 2 ≤ tracks → units ≤ 1073741824 → units / tracks < 1073741824
parts_range units tracks h m =
    let half : units / tracks + units / tracks ≤ units = halved (units / tracks) tracks units h (omega (arith, div-add-mod' units tracks)) in
    omega (arith, half, m)

pub ruleset parted = (parts_whole, parts_more, parts_range)

gained_rest : (g : Gains) (level : ℕ) (ts : List Track) → map (gained g (pos level)) ts ≡ zipped (gain_of g) ts (parts level zero ts)
gained_rest g level [] = refl
gained_rest g level (t ∷ ts) = ap (λ (us : List Track). gain_of g t (pos level) ∷ us) (gained_rest g level ts)

gained_parts : (g : Gains) (level odd : ℕ) (ts : List Track) → map (gained g (pos (suc level))) (take odd ts) ++ map (gained g (pos level)) (drop odd ts) ≡ zipped (gain_of g) ts (parts level odd ts)
gained_parts g level zero ts = gained_rest g level ts
gained_parts g level (suc odd) [] = refl
gained_parts g level (suc odd) (t ∷ ts) = ap (λ (us : List Track). gain_of g t (pos (suc level)) ∷ us) (gained_parts g level odd ts)

above_is : (space : ℤ) → pos 0 ≤ℤ space → pos (above_zero space) ≡ space
above_is (pos n) h = refl
above_is (negsuc n) h = absurd (omega (arith, ints))

pub gains : (g : Gains) (space more each : ℤ) (level odd tracks : ℕ) (ts now : List Track) → pos 0 ≤ℤ space → tracks ≡ length ts → level * tracks + odd ≡ above_zero space → odd < tracks → more ≡ pos (level + 1) → each ≡ pos level
    → now ≡ map (gained g more) (take odd ts) ++ map (gained g each) (drop odd ts) → now ≡ gained_evenly g space ts
gains g space more each level odd tracks ts now h l e b m k n =
    let higher : more ≡ pos (suc level) = m ∙ ap pos (let next : level + 1 ≡ suc level = omega arith in next) in
    let whole : level * length ts + odd ≡ above_zero space = ap (λ (a : ℕ). level * a + odd) (sym l) ∙ e in
    n
    ∙ ap (λ (z : ℤ). map (gained g z) (take odd ts) ++ map (gained g each) (drop odd ts)) higher
    ∙ ap (λ (z : ℤ). map (gained g (pos (suc level))) (take odd ts) ++ map (gained g z) (drop odd ts)) k
    ∙ gained_parts g level odd ts
    ∙ ap (zipped (gain_of g) ts) (sym (even_parts level odd (above_zero space) ts whole (omega (arith, b, l))) ∙ ap (λ (z : ℤ). even_shares z ts) (above_is space h))

space_is : (definite : Bool) (k : Asks) (size : Track → ℤ) (gap : ℤ) (items : List Item) (ts : List Track) (space sum gutters : ℤ) → space ≡ greatest_of (space_for definite k sum gutters) (pos 0) items → sum ≡ sum_of (map size ts) → gutters ≡ gutters_in gap ts
    → space ≡ greatest_space definite k size gap items ts
space_is definite k size gap items ts space sum gutters v s g =
    v
    ∙ ap (λ (z : ℤ). greatest_of (space_for definite k z gutters) (pos 0) items) s
    ∙ ap (λ (z : ℤ). greatest_of (space_for definite k (sum_of (map size ts)) z) (pos 0) items) g

-- ---- sums

kept : (z : ℤ) → pos 0 ≤ℤ z → z ≤ℤ top → clamp z ≡ z
unfolding clamp
kept z h m = omega (arith, ints, clamps, h, m)

clamp_some : (z : ℤ) → pos 0 ≤ℤ z → pos 0 ≤ℤ clamp z
unfolding clamp
clamp_some z h = omega (arith, ints, clamps, h)

all_sum : (zs : List ℤ) → AllSome zs → pos 0 ≤ℤ sum_of zs
all_sum [] h = omega (arith, ints)
all_sum (z ∷ zs) h = omega (arith, ints, h.0, all_sum zs h.1)

some_sum : (size : Track → ℤ) (ts : List Track) → AreSome size ts → pos 0 ≤ℤ sum_of (map size ts)
some_sum size [] h = omega (arith, ints)
some_sum size (t ∷ ts) h = omega (arith, ints, h.0, some_sum size ts h.1)

-- A share makes the size greater.
abbrev Gives : (Track → ℤ) → (Track → ℤ → Track) → Type 0
Gives size f = (t : Track) (s : ℤ) → size (f t s) ≡ clamp (size t +ℤ s)

zipped_some : (size : Track → ℤ) (f : Track → ℤ → Track) (ts : List Track) (ss : List ℤ) → Gives size f → AllSome ss → AreSome size ts → AreSome size (zipped f ts ss)
zipped_some size f [] ss law p h = tt
zipped_some size f (t ∷ ts) [] law p h = tt
zipped_some size f (t ∷ ts) (s ∷ ss) law p h =
    (subst (λ (z : ℤ). pos 0 ≤ℤ z) (sym (law t s)) (clamp_some (size t +ℤ s) (omega (arith, ints, h.0, p.0))), zipped_some size f ts ss law p.1 h.1)

zipped_sum : (size : Track → ℤ) (f : Track → ℤ → Track) (ts : List Track) (ss : List ℤ) → Gives size f → length ss ≡ length ts → AllSome ss → AreSome size ts → (sum_of (map size ts) +ℤ sum_of ss) ≤ℤ top
    → sum_of (map size (zipped f ts ss)) ≡ sum_of (map size ts) +ℤ sum_of ss
zipped_sum size f [] [] law l p h m = refl
zipped_sum size f [] (s ∷ ss) law l p h m = absurd (omega arith)
zipped_sum size f (t ∷ ts) [] law l p h m = absurd (omega arith)
zipped_sum size f (t ∷ ts) (s ∷ ss) law l p h m =
    let rest : pos 0 ≤ℤ sum_of (map size ts) = some_sum size ts h.1 in
    let more : pos 0 ≤ℤ sum_of ss = all_sum ss p.1 in
    let one : size (f t s) ≡ size t +ℤ s = law t s ∙ kept (size t +ℤ s) (omega (arith, ints, h.0, p.0)) (omega (arith, ints, m, rest, more)) in
    let others : sum_of (map size (zipped f ts ss)) ≡ sum_of (map size ts) +ℤ sum_of ss = zipped_sum size f ts ss law (omega (arith, l)) p.1 h.1 (omega (arith, ints, m, h.0, p.0)) in
    omega (arith, ints, one, others)

sum_more : (size : Track → ℤ) (f : Track → ℤ → Track) (ts : List Track) (sum space : ℤ) → Gives size f → HaveSum size ts sum → pos 0 ≤ℤ space → space ≤ℤ (top -ℤ sum) → 0 < length ts → HaveSum size (zipped f ts (even_shares space ts)) (sum +ℤ space)
sum_more size f ts sum space law so h m some =
    let shares : List ℤ = even_shares space ts in
    let whole : sum_of shares ≡ space = even_sum space ts h some in
    let fits : (sum_of (map size ts) +ℤ sum_of shares) ≤ℤ top = omega (arith, ints, so.same, whole, m) in
    let done : sum_of (map size (zipped f ts shares)) ≡ sum_of (map size ts) +ℤ sum_of shares = zipped_sum size f ts shares law (even_length space ts) (even_some space ts h some) so.some fits in
    record {
      some = zipped_some size f ts shares law (even_some space ts h some) so.some;
      same = omega (arith, ints, done, so.same, whole);
      units = (omega (arith, ints, so.units.0, h), omega (arith, ints, m));
    }

fresh_some : (ts : List Track) → AreFresh ts → AreSome base_of ts
fresh_some [] h = tt
fresh_some (t ∷ ts) h = (omega (arith, ints, h.0.none), fresh_some ts h.1)

fresh_sum : (ts : List Track) → AreFresh ts → pos 0 ≡ sum_of (map base_of ts)
fresh_sum [] h = refl
fresh_sum (t ∷ ts) h = omega (arith, ints, h.0.none, fresh_sum ts h.1)

pub start_sum : (ts : List Track) (sum : ℤ) → AreFresh ts → sum ≡ pos 0 → HaveSum base_of ts sum
start_sum ts sum h e = record { some = fresh_some ts h; same = e ∙ fresh_sum ts h; units = (omega (arith, ints, e), omega (arith, ints, e)) }

pub base_units : (ts : List Track) (sum : ℤ) → HaveSum base_of ts sum → IsUnits sum
base_units ts sum so = so.units

pub limit_units : (ts : List Track) (sum : ℤ) → HaveSum limit_of ts sum → IsUnits sum
limit_units ts sum so = so.units

pub open_limit : (t : Track) → IsOpen t → limit_of t ≡ base_of t
open_limit t h = ap (λ (o : Option ℤ). unwrap_or o t.base) h.limit

open_some : (ts : List Track) → AreOpen ts → AreSome base_of ts → AreSome limit_of ts
open_some [] h so = tt
open_some (t ∷ ts) h so = (omega (arith, ints, open_limit t h.0, so.0), open_some ts h.1 so.1)

open_sum : (ts : List Track) → AreOpen ts → sum_of (map limit_of ts) ≡ sum_of (map base_of ts)
open_sum [] h = refl
open_sum (t ∷ ts) h = omega (arith, ints, open_limit t h.0, open_sum ts h.1)

limit_sum : (ts : List Track) (sum : ℤ) → AreOpen ts → HaveSum base_of ts sum → HaveSum limit_of ts sum
limit_sum ts sum h so = record { some = open_some ts h so.some; same = so.same ∙ sym (open_sum ts h); units = so.units }

-- ---- base sizes

pub open_grown : (ts : List Track) (ss : List ℤ) → AreOpen ts → AreOpen (zipped grow_base ts ss)
unfolding clamp
open_grown [] ss h = tt
open_grown (t ∷ ts) [] h = tt
open_grown (t ∷ ts) (s ∷ ss) h =
    (record { plain = record { min = h.0.plain.min; max = h.0.plain.max }; limit = h.0.limit; planned = h.0.planned; units = (omega (arith, ints, clamps), omega (arith, ints, clamps)); unmarked = h.0.unmarked }, open_grown ts ss h.1)

open_units : (ts : List Track) → AreOpen ts → HaveUnits ts
open_units [] h = tt
open_units (t ∷ ts) h = (h.0.units, open_units ts h.1)

pub bases_none : (space : ℤ) (ts : List Track) → AreOpen ts → space ≡ pos 0 → ts ≡ gained_evenly gain.Base space ts
bases_none space ts h e = sym (ap (λ (z : ℤ). gained_evenly gain.Base z ts) e ∙ ap (zipped grow_base ts) (none_shared (map without_end ts)) ∙ zipped_same ts (map without_end ts) (map_length without_end ts) (open_units ts h))

pub bases_idle : (definite : Bool) (k : Asks) (gap : ℤ) (items : List Item) (ts : List Track) (space sum gutters : ℤ) → AreOpen ts → space ≡ greatest_of (space_for definite k sum gutters) (pos 0) items → HaveSum base_of ts sum → gutters ≡ gutters_in gap ts → space ≡ pos 0
    → ts ≡ with_bases definite k gap items ts
bases_idle definite k gap items ts space sum gutters h v so g e = bases_none space ts h e ∙ ap (λ (z : ℤ). gained_evenly gain.Base z ts) (space_is definite k base_of gap items ts space sum gutters v so.same g)

pub bases_done : (definite : Bool) (k : Asks) (gap : ℤ) (items : List Item) (ts now : List Track) (space sum gutters : ℤ) → now ≡ gained_evenly gain.Base space ts → space ≡ greatest_of (space_for definite k sum gutters) (pos 0) items → HaveSum base_of ts sum → gutters ≡ gutters_in gap ts
    → now ≡ with_bases definite k gap items ts
bases_done definite k gap items ts now space sum gutters n v so g = n ∙ ap (λ (z : ℤ). gained_evenly gain.Base z ts) (space_is definite k base_of gap items ts space sum gutters v so.same g)

pub bases_open : (space : ℤ) (ts now : List Track) → AreOpen ts → now ≡ gained_evenly gain.Base space ts → AreOpen now
bases_open space ts now h n = subst AreOpen (sym n) (open_grown ts (even_shares space ts) h)

pub bases_sum : (ts now : List Track) (sum space more next : ℤ) → HaveSum base_of ts sum → now ≡ gained_evenly gain.Base space ts → pos 0 ≤ℤ space → space ≤ℤ (top -ℤ sum) → 2 ≤ length ts → more ≡ space → next ≡ sum +ℤ more → HaveSum base_of now next
bases_sum ts now sum space more next so n h m two e d =
    subst (λ (z : ℤ). HaveSum base_of now z) (sym (d ∙ ap (λ (z : ℤ). sum +ℤ z) e))
    (subst (λ (us : List Track). HaveSum base_of us (sum +ℤ space)) (sym n) (sum_more base_of grow_base ts sum space (λ t s. refl) so h m (omega (arith, two))))

pub ruleset bases = (bases_idle, bases_done, bases_open, base_units)

-- ---- growth limits

pub lows_done : (gap : ℤ) (items : List Item) (ts now : List Track) (space sum gutters : ℤ) → now ≡ gained_evenly gain.Limit space ts → space ≡ greatest_of (space_for true asks.Low sum gutters) (pos 0) items → AreOpen ts → HaveSum base_of ts sum → gutters ≡ gutters_in gap ts
    → now ≡ with_lows gap items ts
lows_done gap items ts now space sum gutters n v h so g = n ∙ ap (λ (z : ℤ). gained_evenly gain.Limit z ts) (space_is true asks.Low limit_of gap items ts space sum gutters v (limit_sum ts sum h so).same g)

pub lows_sum : (ts now : List Track) (sum space more next : ℤ) → AreOpen ts → HaveSum base_of ts sum → now ≡ gained_evenly gain.Limit space ts → pos 0 ≤ℤ space → space ≤ℤ (top -ℤ sum) → 2 ≤ length ts → more ≡ space → next ≡ sum +ℤ more → HaveSum limit_of now next
lows_sum ts now sum space more next o so n h m two e d =
    subst (λ (z : ℤ). HaveSum limit_of now z) (sym (d ∙ ap (λ (z : ℤ). sum +ℤ z) e))
    (subst (λ (us : List Track). HaveSum limit_of us (sum +ℤ space)) (sym n) (sum_more limit_of lifted ts sum space (λ t s. refl) (limit_sum ts sum o so) h m (omega (arith, two))))

pub limits_done : (gap : ℤ) (items : List Item) (ts now : List Track) (space sum gutters : ℤ) → now ≡ gained_evenly gain.Limit space ts → space ≡ greatest_of (space_for true asks.High sum gutters) (pos 0) items → HaveSum limit_of ts sum → gutters ≡ gutters_in gap ts
    → now ≡ with_limits gap items ts
limits_done gap items ts now space sum gutters n v so g = n ∙ ap (λ (z : ℤ). gained_evenly gain.Limit z ts) (space_is true asks.High limit_of gap items ts space sum gutters v so.same g)

same_limit : (z : ℤ) → IsUnits z → clamp (z +ℤ pos 0) ≡ z
unfolding clamp
same_limit z u = omega (arith, ints, clamps, u.0, u.1)

in_units : (z : ℤ) → IsUnits (clamp z)
unfolding clamp
in_units z = (omega (arith, ints, clamps), omega (arith, ints, clamps))

is_ended : (t : Track) (s : ℤ) → IsEnded (lifted t s)
is_ended t s =
    let limit : ℤ = clamp (limit_of t +ℤ s) in
    record { same = ap (λ (z : ℤ). record (lifted t s) { limit = Some z }) (same_limit limit (in_units (limit_of t +ℤ s))) }

all_ended : (ts : List Track) (ss : List ℤ) → AreEnded (zipped lifted ts ss)
all_ended [] ss = tt
all_ended (t ∷ ts) [] = tt
all_ended (t ∷ ts) (s ∷ ss) = (is_ended t s, all_ended ts ss)

pub lows_ended : (space : ℤ) (ts now : List Track) → now ≡ gained_evenly gain.Limit space ts → AreEnded now
lows_ended space ts now n = subst AreEnded (sym n) (all_ended ts (even_shares space ts))

lifted_same : (ts : List Track) (rooms : List (Option ℤ)) → length rooms ≡ length ts → AreEnded ts → zipped lifted ts (nothings rooms) ≡ ts
lifted_same [] rooms e h = refl
lifted_same (t ∷ ts) [] e h = absurd (omega arith)
lifted_same (t ∷ ts) (r ∷ rs) e h = ap (λ (x : Track). x ∷ zipped lifted ts (nothings rs)) h.0.same ∙ ap (λ (xs : List Track). t ∷ xs) (lifted_same ts rs (omega arith) h.1)

limits_none : (space : ℤ) (ts : List Track) → AreEnded ts → space ≡ pos 0 → ts ≡ gained_evenly gain.Limit space ts
limits_none space ts h e = sym (ap (λ (z : ℤ). gained_evenly gain.Limit z ts) e ∙ ap (zipped lifted ts) (none_shared (map without_end ts)) ∙ lifted_same ts (map without_end ts) (map_length without_end ts) h)

pub limits_idle : (gap : ℤ) (items : List Item) (ts : List Track) (space sum gutters : ℤ) → AreEnded ts → space ≡ greatest_of (space_for true asks.High sum gutters) (pos 0) items → HaveSum limit_of ts sum → gutters ≡ gutters_in gap ts → space ≡ pos 0
    → ts ≡ with_limits gap items ts
limits_idle gap items ts space sum gutters h v so g e = limits_none space ts h e ∙ ap (λ (z : ℤ). gained_evenly gain.Limit z ts) (space_is true asks.High limit_of gap items ts space sum gutters v so.same g)

pub ruleset lows = (lows_ended, base_units)

pub ruleset limits = (limits_done, limits_idle, limit_units)

-- ---- the rest of the space

most_plain : (t : Track) → is_special t ≡ false → is_auto_most t.rule.most ≡ true
unfolding is_special
most_plain t e = ap is_auto_most (plain_rule t.rule.least t.rule.most e).1

rooms_plain : (ts : List Track) → list_any is_special ts ≡ false → map auto_room ts ≡ map without_end ts
rooms_plain [] e = refl
rooms_plain (t ∷ ts) e =
    let one = neither (is_special t) (list_any is_special ts) e in
    ap (λ (b : Bool). (if b then None else Some (pos 0)) ∷ map auto_room ts) (most_plain t one.0) ∙ ap (λ (rooms : List (Option ℤ)). None ∷ rooms) (rooms_plain ts one.1)

pub stretch_even : (space : ℤ) (special : Bool) (ts now : List Track) → special ≡ list_any is_special ts → special ≡ false → now ≡ gained_evenly gain.Base space ts → now ≡ grown auto_room space ts
stretch_even space special ts now s e n = n ∙ ap (λ (rooms : List (Option ℤ)). zipped grow_base ts (shares space rooms)) (sym (rooms_plain ts (sym s ∙ e)))

-- Items that are kept, and groups by span.
use Rattle.std.proofs.Common.{arith, ap, subst, ◌≡◌, ◌∙◌, sym, refl, ℕ, suc, ◌+◌, ◌<◌, ◌≤◌, ℤ, pos, Bool, true, false, List, [], ◌∷◌, ◌++◌, drop, length, get_or, cond, filter, append_assoc, if◌then◌else◌}
use Rattle.std.proofs.lemmas.List.{append-nil}
use Rattle.std.specs.List.{list_any}
use Rattle.std.proofs.Math.ListN.{drop_of_length-le}
use Rattle.lunit.specs.declared.item.Item.{Item}
use Rattle.part_rules.specs.declared.track.Space.{Space}
use Rattle.part_rules.specs.Tracks.{Track, flexible, some_fitted, spans_fitted, of_span, group_fitted}
use Rattle.track_sizing.specs.Ordered.{AreOf}
use Rattle.track_sizing.specs.Placed.{AreIn, IsIn}
use Rattle.track_sizing.proofs.Idle.{whole_run}
use Rattle.track_sizing.proofs.Sums.{drop_item}

-- The items that are kept so far, all of which are in the tracks.
pub record AreKept (test : Item → Bool) (first : ℤ) (n : ℕ) (items : List Item) (i : ℕ) (kept : List Item) : Type 0 where
  pub same : kept ++ filter test (drop i items) ≡ filter test items
  pub in_them : AreIn first n kept
  pub left : AreIn first n (drop i items)

pub none_kept : (test : Item → Bool) (first : ℤ) (n : ℕ) (items kept : List Item) → AreIn first n items → kept ≡ [] → AreKept test first n items 0 kept
none_kept test first n items kept h e = subst (λ (xs : List Item). AreKept test first n items 0 xs) (sym e) (record { same = refl; in_them = tt; left = h })

in_more : (first : ℤ) (n : ℕ) (xs : List Item) (x : Item) → AreIn first n xs → IsIn first n x → AreIn first n (xs ++ x ∷ [])
in_more first n [] x h g = (g, tt)
in_more first n (y ∷ ys) x h g = (h.0, in_more first n ys x h.1 g)

pub more_kept : (test : Item → Bool) (first : ℤ) (n : ℕ) (items : List Item) (i : ℕ) (kept now : List Item) (x : Item) → AreKept test first n items i kept → i < length items → x ≡ get_or items i x → test x ≡ true → now ≡ kept ++ x ∷ [] → AreKept test first n items (i + 1) now
more_kept test first n items i kept now x so h e t v =
    let rest : drop i items ≡ x ∷ drop (i + 1) items = drop_item items i x h e in
    let both : AreIn first n (x ∷ drop (i + 1) items) = subst (AreIn first n) rest so.left in
    record {
      same =
          ap (λ (xs : List Item). xs ++ filter test (drop (i + 1) items)) v
          ∙ append_assoc kept (x ∷ []) (filter test (drop (i + 1) items))
          ∙ sym (ap (λ (xs : List Item). kept ++ filter test xs) rest ∙ ap (λ (b : Bool). kept ++ cond b (x ∷ filter test (drop (i + 1) items)) (filter test (drop (i + 1) items))) t)
          ∙ so.same;
      in_them = subst (AreIn first n) (sym v) (in_more first n kept x so.in_them both.0);
      left = both.1;
    }

pub passed_kept : (test : Item → Bool) (first : ℤ) (n : ℕ) (items : List Item) (i : ℕ) (kept : List Item) (x : Item) → AreKept test first n items i kept → i < length items → x ≡ get_or items i x → test x ≡ false → AreKept test first n items (i + 1) kept
passed_kept test first n items i kept x so h e t =
    let rest : drop i items ≡ x ∷ drop (i + 1) items = drop_item items i x h e in
    record {
      same =
          sym (ap (λ (xs : List Item). kept ++ filter test xs) rest ∙ ap (λ (b : Bool). kept ++ cond b (x ∷ filter test (drop (i + 1) items)) (filter test (drop (i + 1) items))) t)
          ∙ so.same;
      in_them = so.in_them;
      left = (subst (AreIn first n) rest so.left).1;
    }

pub kept_step : (test : Item → Bool) (first : ℤ) (n : ℕ) (items : List Item) (i : ℕ) (kept now : List Item) (x : Item) (b : Bool) → AreKept test first n items i kept → i < length items → x ≡ get_or items i x → b ≡ test x → now ≡ (if b then kept ++ x ∷ [] else kept) →
    AreKept test first n items (i + 1) now
kept_step test first n items i kept now x true so h e t v = more_kept test first n items i kept now x so h e (sym t) v
kept_step test first n items i kept now x false so h e t v = subst (λ (xs : List Item). AreKept test first n items (i + 1) xs) (sym v) (passed_kept test first n items i kept x so h e (sym t))

pub kept_in : (test : Item → Bool) (first : ℤ) (n : ℕ) (items : List Item) (i : ℕ) (kept : List Item) (x : Item) → AreKept test first n items i kept → i < length items → x ≡ get_or items i x → IsIn first n x
kept_in test first n items i kept x so h e = (subst (AreIn first n) (drop_item items i x h e) so.left).0

pub all_kept : (test : Item → Bool) (first : ℤ) (n : ℕ) (items : List Item) (i : ℕ) (kept : List Item) → AreKept test first n items i kept → length items ≤ i → kept ≡ filter test items
all_kept test first n items i kept so h = sym (append-nil kept) ∙ sym (ap (λ (xs : List Item). kept ++ filter test xs) (drop_of_length-le items h)) ∙ so.same

pub ruleset kept_items = (none_kept, kept_step, kept_in, all_kept)

-- The items that pass a test so far.
pub record IsFiltered (test : Item → Bool) (items : List Item) (i : ℕ) (kept : List Item) : Type 0 where
  pub same : kept ++ filter test (drop i items) ≡ filter test items

pub none_filtered : (test : Item → Bool) (items kept : List Item) → kept ≡ [] → IsFiltered test items 0 kept
none_filtered test items kept e = record { same = ap (λ (xs : List Item). xs ++ filter test items) e }

pub more_filtered : (test : Item → Bool) (items : List Item) (i : ℕ) (kept now : List Item) (x : Item) → IsFiltered test items i kept → i < length items → x ≡ get_or items i x → test x ≡ true → now ≡ kept ++ x ∷ [] → IsFiltered test items (i + 1) now
more_filtered test items i kept now x so h e t v =
    record {
      same =
          ap (λ (xs : List Item). xs ++ filter test (drop (i + 1) items)) v
          ∙ append_assoc kept (x ∷ []) (filter test (drop (i + 1) items))
          ∙ sym (ap (λ (xs : List Item). kept ++ filter test xs) (drop_item items i x h e) ∙ ap (λ (b : Bool). kept ++ cond b (x ∷ filter test (drop (i + 1) items)) (filter test (drop (i + 1) items))) t)
          ∙ so.same;
    }

pub passed_filtered : (test : Item → Bool) (items : List Item) (i : ℕ) (kept : List Item) (x : Item) → IsFiltered test items i kept → i < length items → x ≡ get_or items i x → test x ≡ false → IsFiltered test items (i + 1) kept
passed_filtered test items i kept x so h e t =
    record { same = sym (ap (λ (xs : List Item). kept ++ filter test xs) (drop_item items i x h e) ∙ ap (λ (b : Bool). kept ++ cond b (x ∷ filter test (drop (i + 1) items)) (filter test (drop (i + 1) items))) t) ∙ so.same }

pub all_filtered : (test : Item → Bool) (items : List Item) (i : ℕ) (kept : List Item) → IsFiltered test items i kept → length items ≤ i → kept ≡ filter test items
all_filtered test items i kept so h = sym (append-nil kept) ∙ sym (ap (λ (xs : List Item). kept ++ filter test xs) (drop_of_length-le items h)) ∙ so.same

pub ruleset filtered = (none_filtered, all_filtered)

-- ---- groups

pub some_group : {axis : ℕ} (space : Space axis) (gap : ℤ) (items : List Item) (ts : List Track) → 0 < length items → some_fitted space gap items ts ≡ group_fitted space gap false items ts
some_group space gap [] ts h = absurd (omega arith)
some_group space gap (i ∷ rest) ts h = refl

pub no_group : {axis : ℕ} (space : Space axis) (gap : ℤ) (items : List Item) (ts : List Track) → length items ≤ 0 → some_fitted space gap items ts ≡ ts
no_group space gap [] ts h = refl
no_group space gap (i ∷ rest) ts h = absurd (omega arith)

pub run_empty : {axis : ℕ} (space : Space axis) (gap : ℤ) (items : List Item) (span : ℕ) (ts : List Track) → length items ≡ 0 → ts ≡ some_fitted space gap (of_span ts items span) ts
run_empty space gap [] span ts h = refl
run_empty space gap (i ∷ rest) span ts h = absurd (omega arith)

pub run_whole : {axis : ℕ} (space : Space axis) (gap : ℤ) (items : List Item) (span : ℕ) (ts now : List Track) → now ≡ some_fitted space gap items ts → list_any flexible ts ≡ false → AreOf (pos span) items → now ≡ some_fitted space gap (of_span ts items span) ts
run_whole space gap items span ts now v e h = v ∙ sym (ap (λ (xs : List Item). some_fitted space gap xs ts) (whole_run ts span items e h))

pub one_turn : {axis : ℕ} (space : Space axis) (gap : ℤ) (items : List Item) (more next n m : ℕ) (ts now : List Track) → more ≡ next + 1 → m ≡ n + 1 → now ≡ some_fitted space gap (of_span ts items n) ts
    → spans_fitted space gap items next m now ≡ spans_fitted space gap items more n ts
unfolding spans_fitted
one_turn space gap items more next n m ts now e d v =
    let k : more ≡ suc next = omega arith in
    ap (λ (j : ℕ). spans_fitted space gap items next j now) d ∙ ap (spans_fitted space gap items next (n + 1)) v ∙ sym (ap (λ (j : ℕ). spans_fitted space gap items j n ts) k)

pub no_turn : {axis : ℕ} (space : Space axis) (gap : ℤ) (items : List Item) (more n : ℕ) (ts : List Track) → more ≡ 0 → spans_fitted space gap items more n ts ≡ ts
unfolding spans_fitted
no_turn space gap items more n ts e = ap (λ (j : ℕ). spans_fitted space gap items j n ts) e

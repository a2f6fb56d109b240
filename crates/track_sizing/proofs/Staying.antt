-- Tracks that stay as they are where growth limits are raised.
use Rattle.std.proofs.Common.{ap, subst, ◌≡◌, ◌∙◌, sym, refl, ℕ, ◌+◌, ◌<◌, ◌≤◌, ℤ, pos, ◌+ℤ◌, Bool, true, false, ◌&&◌, List, [], ◌∷◌, map, drop, length, get_or, Option, Some, if◌then◌else◌}
use Rattle.std.specs.Prelude.{is_none, is_some, unwrap_or}
use Rattle.std.specs.List.{list_any}
use Rattle.std.proofs.Math.ListN.{drop_of_length-le}
use Rattle.lunit.specs.Units.{clamp}
use Rattle.lunit.specs.declared.item.Item.{Item}
use Rattle.part_rules.specs.Tracks.{Track, affected_by, mark_endless, raised_limit, raised_limit_by}
use Rattle.track_sizing.specs.Placed.{marked_limit_by}
use Rattle.track_sizing.specs.Reached.{AllRaised, AllStay, Stays}
use Rattle.track_sizing.proofs.Sums.{drop_item}

pub row_raised : (t : Track) (limit : ℤ) → t.limit ≡ Some limit → clamp (limit +ℤ t.planned) ≡ limit → t.planned ≡ pos 0 → raised_limit t ≡ t
row_raised t limit e u p =
    let old : unwrap_or t.limit t.base ≡ limit = ap (λ (l : Option ℤ). unwrap_or l t.base) e in
    ap (λ (z : ℤ). record t { limit = Some z; planned = pos 0 }) (ap (λ (z : ℤ). clamp (z +ℤ t.planned)) old ∙ u)
    ∙ ap (λ (l : Option ℤ). record t { limit = l; planned = pos 0 }) (sym e)
    ∙ ap (λ (z : ℤ). record t { planned = z }) (sym p)

pub row_stays : (t : Track) (limit : ℤ) → t.limit ≡ Some limit → clamp (limit +ℤ t.planned) ≡ limit → t.endless ≡ false → t.planned ≡ pos 0 → Stays t
row_stays t limit e u n p =
    record {
      raised = row_raised t limit e u p;
      marked = ap (λ (l : Option ℤ). record t { endless = is_none l && is_some l }) e ∙ ap (λ (b : Bool). record t { endless = b }) (sym n);
    }

-- Where those from this place on stay, all do.
pub record IsStayingTo (ts : List Track) (i : ℕ) : Type 0 where
  pub whole : AllStay (drop i ts) → AllStay ts

pub staying_start : (ts : List Track) → IsStayingTo ts 0
staying_start ts = record { whole = λ h. h }

pub staying_more : (ts : List Track) (i : ℕ) (t : Track) → IsStayingTo ts i → i < length ts → t ≡ get_or ts i t → Stays t → IsStayingTo ts (i + 1)
staying_more ts i t so h e s = record { whole = λ rest. so.whole (subst AllStay (sym (drop_item ts i t h e)) (s, rest)) }

pub staying_all : (ts : List Track) (i : ℕ) → IsStayingTo ts i → length ts ≤ i → AllStay ts
staying_all ts i so h = let none : drop i ts ≡ [] = drop_of_length-le ts h in so.whole (subst AllStay (sym none) tt)

pub ruleset rows_stay = (staying_start, staying_more, staying_all)

one_raised : (b : Bool) (t : Track) → Stays t → (if b then raised_limit t else t) ≡ t
one_raised true t h = h.raised
one_raised false t h = refl

pub raised_stay : (affected : Track → Bool) (items : List Item) (ts : List Track) → AllStay ts → ts ≡ map (raised_limit_by affected items) ts
raised_stay affected items [] h = refl
raised_stay affected items (t ∷ ts) h =
    ap (λ (x : Track). x ∷ ts) (sym (one_raised (list_any (λ i. affected_by affected i t) items) t h.0))
    ∙ ap (λ (xs : List Track). raised_limit_by affected items t ∷ xs) (raised_stay affected items ts h.1)

pub marked_stay : (affected : Track → Bool) (items : List Item) (ts : List Track) → AllStay ts → ts ≡ map (marked_limit_by affected items) ts
marked_stay affected items [] h = refl
marked_stay affected items (t ∷ ts) h =
    ap (λ (x : Track). x ∷ ts) (sym (ap (mark_endless t) (one_raised (list_any (λ i. affected_by affected i t) items) t h.0) ∙ h.0.marked))
    ∙ ap (λ (xs : List Track). marked_limit_by affected items t ∷ xs) (marked_stay affected items ts h.1)

pub ruleset limits_stay = (raised_stay, marked_stay)

-- Where those from this place on stay as growth limits are raised, all do.
pub record IsRaisedTo (ts : List Track) (i : ℕ) : Type 0 where
  pub whole : AllRaised (drop i ts) → AllRaised ts

pub raised_start : (ts : List Track) → IsRaisedTo ts 0
raised_start ts = record { whole = λ h. h }

pub raised_more : (ts : List Track) (i : ℕ) (t : Track) → IsRaisedTo ts i → i < length ts → t ≡ get_or ts i t → raised_limit t ≡ t → IsRaisedTo ts (i + 1)
raised_more ts i t so h e s = record { whole = λ rest. so.whole (subst AllRaised (sym (drop_item ts i t h e)) (s, rest)) }

pub raised_all : (ts : List Track) (i : ℕ) → IsRaisedTo ts i → length ts ≤ i → AllRaised ts
raised_all ts i so h = let none : drop i ts ≡ [] = drop_of_length-le ts h in so.whole (subst AllRaised (sym none) tt)

pub ruleset rows_raised = (raised_start, raised_more, raised_all)

one_kept : (b : Bool) (t : Track) → raised_limit t ≡ t → (if b then raised_limit t else t) ≡ t
one_kept true t h = h
one_kept false t h = refl

pub raised_same : (affected : Track → Bool) (items : List Item) (ts : List Track) → AllRaised ts → ts ≡ map (raised_limit_by affected items) ts
raised_same affected items [] h = refl
raised_same affected items (t ∷ ts) h =
    ap (λ (x : Track). x ∷ ts) (sym (one_kept (list_any (λ i. affected_by affected i t) items) t h.0))
    ∙ ap (λ (xs : List Track). raised_limit_by affected items t ∷ xs) (raised_same affected items ts h.1)

pub ruleset limits_raised = (raised_same)

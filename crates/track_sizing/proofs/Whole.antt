-- What stays set from one part to the next.
use Rattle.std.proofs.Common.{arith, subst, ◌≡◌, refl, ℕ, ℤ, pos, ◌+ℤ◌, Bool, true, false, ◌&&◌, ◌||◌, ap, ◌∙◌, List, [], ◌∷◌, map, filter, cond, length, Option, Some, None, if◌then◌else◌, int_le, int_lt}
use Rattle.std.specs.List.{list_any}
use Rattle.lunit.specs.declared.item.Item.{Item}
use Rattle.part_rules.specs.declared.track.Space.{Space}
use Rattle.part_rules.specs.declared.track.Space.TheVariants.{Definite, MinContent, MaxContent}
use Rattle.part_rules.specs.Lists.{zipped}
use Rattle.part_rules.specs.Sharing.{shares}
use Rattle.part_rules.specs.Tracks.{Track, alone, close_limit, content_sized, crosses_flexible, fit_alone, fit_items, flexible, free_of, full, group_fitted, grow_base, grown, maximised, maximised_within, spanned, spans_fitted, to_limit, total}
use Rattle.track_sizing.specs.Alone.{fit_or_pass}
use Rattle.track_sizing.specs.Placed.{AreIn, AreSet, IsReady}
use Rattle.track_sizing.proofs.Groups.{Keeps, set_map}

fit_keeps_one : {axis : ℕ} (space : Space axis) (gap : ℤ) (mine : List Item) (ts : List Track) (b : Bool) (t : Track) → ((if b then t else fit_items space gap ts mine t).at ≡ t.at) × (IsReady t → IsReady (if b then t else fit_items space gap ts mine t))
fit_keeps_one space gap mine ts true t = (refl, λ h. h)
fit_keeps_one space gap mine ts false t = (refl, λ h. h)

fit_keeps : {axis : ℕ} (space : Space axis) (gap : ℤ) (items : List Item) (ts : List Track) → Keeps (fit_or_pass space gap items ts)
fit_keeps space gap items ts = record { at = λ t. (fit_keeps_one space gap (alone items t) ts (flexible t) t).0; ready = λ t h. (fit_keeps_one space gap (alone items t) ts (flexible t) t).1 h }

pub set_alone : {axis : ℕ} (space : Space axis) (gap first : ℤ) (items : List Item) (ts : List Track) → AreSet first ts → AreSet first (fit_alone space gap items ts)
set_alone space gap first items ts h = set_map (fit_or_pass space gap items ts) first ts (fit_keeps space gap items ts) h

map_length : {B : Type 0} (f : Track → B) (xs : List Track) → length (map f xs) ≡ length xs
map_length f [] = refl
map_length f (x ∷ xs) = omega (arith, map_length f xs)

pub length_alone : {axis : ℕ} (space : Space axis) (gap : ℤ) (items : List Item) (ts : List Track) → length (fit_alone space gap items ts) ≡ length ts
length_alone space gap items ts = map_length (fit_or_pass space gap items ts) ts

pub set_closed : (first : ℤ) (ts : List Track) → AreSet first ts → AreSet first (map close_limit ts)
set_closed first ts h = set_map close_limit first ts (record { at = λ t. refl; ready = λ t r. r }) h

set_zipped : (first : ℤ) (ts : List Track) (ss : List ℤ) → AreSet first ts → AreSet first (zipped grow_base ts ss)
set_zipped first [] ss h = tt
set_zipped first (t ∷ ts) [] h = tt
set_zipped first (t ∷ ts) (s ∷ ss) h = (h.0, set_zipped (first +ℤ pos 1) ts ss h.1)

set_chosen : (first : ℤ) (b : Bool) (xs ys : List Track) → AreSet first xs → AreSet first ys → AreSet first (if b then xs else ys)
set_chosen first true xs ys h g = h
set_chosen first false xs ys h g = g

set_full : (first : ℤ) (ts : List Track) → AreSet first ts → AreSet first (map full ts)
set_full first ts h = set_map full first ts (record { at = λ t. refl; ready = λ t r. r }) h

set_within : (first : ℤ) (most : Option ℤ) (gap : ℤ) (ts : List Track) → AreSet first ts → AreSet first (maximised_within most gap ts)
set_within first None gap ts h = set_full first ts h
set_within first (Some most) gap ts h =
    set_chosen first (int_lt most (total gap (map full ts))) (grown to_limit (free_of gap most ts) ts) (map full ts) (set_zipped first ts (shares (free_of gap most ts) (map to_limit ts)) h) (set_full first ts h)

pub set_maximised : {axis : ℕ} (space : Space axis) (first : ℤ) (most : Option ℤ) (gap : ℤ) (ts : List Track) → AreSet first ts → AreSet first (maximised space most gap ts)
set_maximised (Definite a) first most gap ts h = set_zipped first ts (shares (free_of gap a ts) (map to_limit ts)) h
set_maximised MinContent first most gap ts h = h
set_maximised MaxContent first most gap ts h = set_within first most gap ts h

pub in_same : (first : ℤ) (n m : ℕ) (items : List Item) → n ≡ m → AreIn first n items → AreIn first m items
in_same first n m items e h = subst (λ (k : ℕ). AreIn first k items) e h

-- ---- items that cross a flexible track, by the tracks once they are fitted

crosses_map : (f : Track → Track) (i : Item) (ts : List Track) → ((t : Track) → (f t).at ≡ t.at) → ((t : Track) → flexible (f t) ≡ flexible t) → crosses_flexible (map f ts) i ≡ crosses_flexible ts i
crosses_map f i [] a x = refl
crosses_map f i (t ∷ ts) a x =
    ap (λ (z : ℤ). list_any flexible (cond (int_le i.span.start z && int_lt z i.span.end) (f t ∷ spanned i (map f ts)) (spanned i (map f ts)))) (a t) ∙ go (int_le i.span.start t.at && int_lt t.at i.span.end) (crosses_map f i ts a x)
  where
    go : (b : Bool) → list_any flexible (spanned i (map f ts)) ≡ list_any flexible (spanned i ts) → list_any flexible (cond b (f t ∷ spanned i (map f ts)) (spanned i (map f ts))) ≡ list_any flexible (cond b (t ∷ spanned i ts) (spanned i ts))
    go true e = ap (λ (c : Bool). c || list_any flexible (spanned i (map f ts))) (x t) ∙ ap (λ (c : Bool). flexible t || c) e
    go false e = e

same_filter : (p q : Item → Bool) (items : List Item) → ((i : Item) → p i ≡ q i) → filter p items ≡ filter q items
same_filter p q [] h = refl
same_filter p q (i ∷ rest) h =
    ap (λ (b : Bool). cond b (i ∷ filter p rest) (filter p rest)) (h i) ∙ ap (λ (xs : List Item). cond (q i) (i ∷ xs) xs) (same_filter p q rest h)

fit_flexible : {axis : ℕ} (space : Space axis) (gap : ℤ) (mine : List Item) (ts : List Track) (b : Bool) (t : Track) → flexible (if b then t else fit_items space gap ts mine t) ≡ flexible t
fit_flexible space gap mine ts true t = refl
fit_flexible space gap mine ts false t = refl

crosses_alone : {axis : ℕ} (space : Space axis) (gap : ℤ) (items : List Item) (ts : List Track) (i : Item) → crosses_flexible (fit_alone space gap items ts) i ≡ crosses_flexible ts i
crosses_alone space gap items ts i = crosses_map (fit_or_pass space gap items ts) i ts (λ t. (fit_keeps_one space gap (alone items t) ts (flexible t) t).0) (λ t. fit_flexible space gap (alone items t) ts (flexible t) t)

pub content_whole : {axis : ℕ} (space : Space axis) (gap : ℤ) (items : List Item) (ts fitted now : List Track) → fitted ≡ fit_alone space gap items ts
    → now ≡ map close_limit (group_fitted space gap true (filter (crosses_flexible fitted) items) (spans_fitted space gap items (length fitted) 2 fitted)) → now ≡ content_sized space gap items ts
content_whole space gap items ts fitted now f n =
    n
    ∙ ap (λ (xs : List Track). map close_limit (group_fitted space gap true (filter (crosses_flexible xs) items) (spans_fitted space gap items (length xs) 2 xs))) f
    ∙ ap (λ (xs : List Item). map close_limit (group_fitted space gap true xs (spans_fitted space gap items (length (fit_alone space gap items ts)) 2 (fit_alone space gap items ts))))
    (same_filter (crosses_flexible (fit_alone space gap items ts)) (crosses_flexible ts) items (crosses_alone space gap items ts))
    ∙ ap (λ (n : ℕ). map close_limit (group_fitted space gap true (filter (crosses_flexible ts) items) (spans_fitted space gap items n 2 (fit_alone space gap items ts)))) (length_alone space gap items ts)

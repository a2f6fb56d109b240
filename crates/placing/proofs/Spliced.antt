-- The items of one child in the place of others, and where the items of each child end after that.
use Rattle.std.proofs.Common.{◌≡◌, ℕ, zero, suc, ◌+◌, ◌-◌, ◌^◌, ◌<◌, ◌≤◌, Bool, true, false, List, [], ◌∷◌, ◌++◌, Some, None, refl, sym, ap, ◌∙◌, arith, length, length-append, length-take, length-drop, map, subst, append-nil, add-one}
use Rattle.std.specs.Prelude.{drop, get_or, slice_get, slice_set, take}
use Rattle.lunit.specs.declared.item.Item.{Item}
use Rattle.part_rules.specs.Lists.{joined}
use Rattle.placing.specs.Told.{AreMovable, ends_from}
use Rattle.placing.proofs.Tellings.{ends_counted}

-- ---- items written in the place of as many
-- the first so many of these are written
pub record IsWritten {A : Type 0} (old own : List A) (start at : ℕ) (now : List A) : Type 0 where
  pub is : now ≡ take start old ++ take at own ++ drop (start + at) old
  pub long : length now ≡ length old

seam : {A : Type 0} (n : ℕ) (xs : List A) → take n xs ++ drop n xs ≡ xs
seam zero xs = refl
seam (suc n) [] = refl
seam (suc n) (x ∷ xs) = ap (λ l. x ∷ l) (seam n xs)

set_next : {A : Type 0} (old own : List A) (start at k : ℕ) (d : A) → k ≡ start + at → start + length own ≤ length old → at < length own
    → slice_set (take start old ++ take at own ++ drop k old) k (get_or own at d) ≡ take start old ++ take (suc at) own ++ drop (suc k) old
set_next [] [] start at k d e f g = absurd (omega (arith, g))
set_next [] (x ∷ own) start at k d e f g = absurd (omega (arith, f))
set_next (y ∷ old) [] start at k d e f g = absurd (omega (arith, g))
set_next (y ∷ old) (x ∷ own) zero zero zero d e f g = refl
set_next (y ∷ old) (x ∷ own) zero zero (suc k) d e f g = absurd (omega (arith, e))
set_next (y ∷ old) (x ∷ own) zero (suc at) zero d e f g = absurd (omega (arith, e))
set_next (y ∷ old) (x ∷ own) zero (suc at) (suc k) d e f g = ap (λ l. x ∷ l) (set_next old own zero at k d (omega (arith, e)) (omega (arith, f)) (omega (arith, g)))
set_next (y ∷ old) (x ∷ own) (suc start) at zero d e f g = absurd (omega (arith, e))
set_next (y ∷ old) (x ∷ own) (suc start) at (suc k) d e f g = ap (λ l. y ∷ l) (set_next old (x ∷ own) start at k d (omega (arith, e)) (omega (arith, f)) g)

length_set : {A : Type 0} (xs : List A) (k : ℕ) (x : A) → length (slice_set xs k x) ≡ length xs
length_set [] k x = refl
length_set (y ∷ xs) zero x = refl
length_set (y ∷ xs) (suc k) x = ap suc (length_set xs k x)

-- the first so many are written; where none of them is another one than before, nothing has changed
pub record IsRewritten {A : Type 0} (old own : List A) (start at : ℕ) (other : Bool) (now : List A) : Type 0 where
  pub written : IsWritten old own start at now
  pub same : other ≡ false → now ≡ old

set_there : {A : Type 0} (xs : List A) (n : ℕ) (d : A) → n < length xs → slice_set xs n (get_or xs n d) ≡ xs
set_there [] n d h = refl
set_there (x ∷ xs) zero d h = refl
set_there (x ∷ xs) (suc n) d h = ap (λ l. x ∷ l) (set_there xs n d (omega (arith, h)))

get_as : {A : Type 0} (xs : List A) (n : ℕ) (d e : A) → n < length xs → get_or xs n d ≡ get_or xs n e
get_as [] n d e h = absurd (omega (arith, h))
get_as (x ∷ xs) zero d e h = refl
get_as (x ∷ xs) (suc n) d e h = get_as xs n d e (omega (arith, h))

pub written_none : {A : Type 0} (old own : List A) (start : ℕ) → IsWritten old own start 0 old
written_none old own start = let same : start ≡ start + 0 = omega arith in record { is = sym (seam start old) ∙ (λ i. sym (append-nil (take start old)) i ++ drop (same i) old); long = refl }

pub written_more : {A : Type 0} (old own now new : List A) (start at : ℕ) (d : A) → IsWritten old own start at now → start + length own ≤ length old → at < length own → new ≡ slice_set now (start + at) (get_or own at d) → IsWritten old own start (at + 1) new
written_more old own now new start at d w f g e =
    let next : suc (start + at) ≡ start + (at + 1) = omega arith in
    record {
      is = e ∙ ap (λ l. slice_set l (start + at) (get_or own at d)) w.is ∙ set_next old own start at (start + at) d refl f g ∙ (λ i. take start old ++ take (sym (add-one at) i) own ++ drop (next i) old);
      long = ap length e ∙ length_set now (start + at) (get_or own at d) ∙ w.long;
    }

take_all : {A : Type 0} (n : ℕ) (xs : List A) → length xs ≤ n → take n xs ≡ xs
take_all zero [] h = refl
take_all zero (x ∷ xs) h = absurd (omega (arith, h))
take_all (suc n) [] h = refl
take_all (suc n) (x ∷ xs) h = ap (λ l. x ∷ l) (take_all n xs (omega (arith, h)))

pub written_all : {A : Type 0} (old own now : List A) (start at : ℕ) → IsWritten old own start at now → at ≡ length own → now ≡ take start old ++ own ++ drop (start + length own) old
written_all old own now start at w e = w.is ∙ (λ i. take start old ++ take (e i) own ++ drop (start + e i) old) ∙ ap (λ l. take start old ++ l ++ drop (start + length own) old) (take_all (length own) own (omega arith))

pub rewritten_other : {A : Type 0} (old own now new : List A) (start at : ℕ) (d : A) (before : Bool) → IsRewritten old own start at before now → start + length own ≤ length old → at < length own
    → new ≡ slice_set now (start + at) (get_or own at d) → IsRewritten old own start (at + 1) true new
rewritten_other old own now new start at d before w f g e = record { written = written_more old own now new start at d w.written f g e; same = λ x. absurd cc }

pub rewritten_same : {A : Type 0} (old own now new : List A) (start at : ℕ) (d z v : A) (before : Bool) → IsRewritten old own start at before now → start + length own ≤ length old → at < length own
    → get_or now (start + at) z ≡ get_or own at v → new ≡ slice_set now (start + at) (get_or own at d) → IsRewritten old own start (at + 1) before new
rewritten_same old own now new start at d z v before w f g same e =
    record {
      written = written_more old own now new start at d w.written f g e;
      same = λ x. e ∙ ap (slice_set now (start + at)) (sym (same ∙ get_as own at v d g)) ∙ set_there now (start + at) z (omega (arith, f, g, w.written.long)) ∙ w.same x;
    }

-- ---- ends moved
abbrev pub moved : ℕ → ℕ → ℕ → ℕ
moved less more end = end - less + more

-- those from an index on are moved, up to another
pub record AreMoved (old : List ℕ) (index less more at : ℕ) (now : List ℕ) : Type 0 where
  pub from : index ≤ at
  pub is : now ≡ take index old ++ map (moved less more) (take (at - index) (drop index old)) ++ drop at old
  pub long : length now ≡ length old

mix_next : (f : ℕ → ℕ) (old : List ℕ) (i k at : ℕ) → at ≡ i + k → at < length old
    → slice_set (take i old ++ map f (take k (drop i old)) ++ drop at old) at (f (get_or old at 0)) ≡ take i old ++ map f (take (suc k) (drop i old)) ++ drop (suc at) old
mix_next f [] i k at e l = absurd (omega (arith, l))
mix_next f (x ∷ old) zero zero zero e l = refl
mix_next f (x ∷ old) zero zero (suc at) e l = absurd (omega (arith, e))
mix_next f (x ∷ old) zero (suc k) zero e l = absurd (omega (arith, e))
mix_next f (x ∷ old) zero (suc k) (suc at) e l = ap (λ z. f x ∷ z) (mix_next f old zero k at (omega (arith, e)) (omega (arith, l)))
mix_next f (x ∷ old) (suc i) k zero e l = absurd (omega (arith, e))
mix_next f (x ∷ old) (suc i) k (suc at) e l = ap (λ z. x ∷ z) (mix_next f old i k at (omega (arith, e)) (omega (arith, l)))

mix_get : (f : ℕ → ℕ) (old : List ℕ) (i k at : ℕ) → at ≡ i + k → slice_get (take i old ++ map f (take k (drop i old)) ++ drop at old) at ≡ slice_get old at
mix_get f [] zero zero at e = none at
  where
    none : (n : ℕ) → slice_get (drop n []) n ≡ slice_get {X = ℕ} [] n
    none zero = refl
    none (suc n) = refl
mix_get f [] zero (suc k) at e = none at
  where
    none : (n : ℕ) → slice_get (drop n []) n ≡ slice_get {X = ℕ} [] n
    none zero = refl
    none (suc n) = refl
mix_get f [] (suc i) zero at e = none at
  where
    none : (n : ℕ) → slice_get (drop n []) n ≡ slice_get {X = ℕ} [] n
    none zero = refl
    none (suc n) = refl
mix_get f [] (suc i) (suc k) at e = none at
  where
    none : (n : ℕ) → slice_get (drop n []) n ≡ slice_get {X = ℕ} [] n
    none zero = refl
    none (suc n) = refl
mix_get f (x ∷ old) zero zero zero e = refl
mix_get f (x ∷ old) zero zero (suc at) e = absurd (omega (arith, e))
mix_get f (x ∷ old) zero (suc k) zero e = absurd (omega (arith, e))
mix_get f (x ∷ old) zero (suc k) (suc at) e = mix_get f old zero k at (omega (arith, e))
mix_get f (x ∷ old) (suc i) k zero e = absurd (omega (arith, e))
mix_get f (x ∷ old) (suc i) k (suc at) e = mix_get f old i k at (omega (arith, e))

-- the end at the index that comes next
pub moved_next : (old now : List ℕ) (index less more at end : ℕ) → AreMoved old index less more at now → slice_get now at ≡ Some end → slice_get old at ≡ Some end
moved_next old now index less more at end m e = sym (mix_get (moved less more) old index (at - index) at (omega (arith, m.from))) ∙ ap (λ l. slice_get l at) (sym m.is) ∙ e

get_is : (xs : List ℕ) (k x : ℕ) → slice_get xs k ≡ Some x → get_or xs k 0 ≡ x
get_is [] k x e = absurd cc
get_is (y ∷ xs) zero x e = cc
get_is (y ∷ xs) (suc k) x e = get_is xs k x e

get_within : (xs : List ℕ) (k x : ℕ) → slice_get xs k ≡ Some x → k < length xs
get_within [] k x e = absurd cc
get_within (y ∷ xs) zero x e = omega arith
get_within (y ∷ xs) (suc k) x e = omega (arith, get_within xs k x e)

pub not_past : (xs : List ℕ) (k : ℕ) → slice_get xs k ≡ None → k < length xs → ⊥
not_past [] k e l = omega (arith, l)
not_past (x ∷ xs) zero e l = absurd cc
not_past (x ∷ xs) (suc k) e l = not_past xs k e (omega (arith, l))

pub moved_more : (old now new : List ℕ) (index less more at end to : ℕ) → AreMoved old index less more at now → slice_get now at ≡ Some end → to ≡ end - less + more → new ≡ slice_set now at to → AreMoved old index less more (at + 1) new
moved_more old now new index less more at end to m e v h =
    let there : slice_get old at ≡ Some end = moved_next old now index less more at end m e in
    let value : to ≡ moved less more (get_or old at 0) = v ∙ ap (moved less more) (sym (get_is old at end there)) in
    let next : suc (at - index) ≡ at + 1 - index = omega (arith, m.from) in
    record {
      from = omega (arith, m.from);
      is =
          h ∙ (λ i. slice_set (m.is i) at (value i)) ∙ mix_next (moved less more) old index (at - index) at (omega (arith, m.from)) (get_within old at end there)
          ∙ (λ i. take index old ++ map (moved less more) (take (next i) (drop index old)) ++ drop (sym (add-one at) i) old);
      long = ap length h ∙ length_set now at to ∙ m.long;
    }

drop_all : {A : Type 0} (n : ℕ) (xs : List A) → length xs ≤ n → drop n xs ≡ []
drop_all zero [] h = refl
drop_all zero (x ∷ xs) h = absurd (omega (arith, h))
drop_all (suc n) [] h = refl
drop_all (suc n) (x ∷ xs) h = drop_all n xs (omega (arith, h))

-- one of these ends, which the code can move
pub record IsMovable (end less more : ℕ) : Type 0 where
  pub low : less ≤ end
  pub fits : end - less + more < 2 ^ 64

pub movable_at : (old : List ℕ) (index less more at end : ℕ) → AreMovable (drop index old) less more → index ≤ at → slice_get old at ≡ Some end → IsMovable end less more
movable_at [] index less more at end m h e = absurd cc
movable_at (x ∷ old) zero less more zero end m h e = let is : x ≡ end = cc in subst (λ z. IsMovable z less more) is (record { low = m.0.0; fits = m.0.1 })
movable_at (x ∷ old) zero less more (suc at) end m h e = movable_at old zero less more at end m.1 (omega arith) e
movable_at (x ∷ old) (suc index) less more zero end m h e = absurd (omega (arith, h))
movable_at (x ∷ old) (suc index) less more (suc at) end m h e = movable_at old index less more at end m (omega (arith, h)) e

-- ---- the ends of parts
pub end_at : (n : ℕ) (ps : List (List Item)) (k : ℕ) → k < length ps → get_or (ends_from n ps) k 0 ≡ n + length (joined (take (suc k) ps))
end_at n [] k h = absurd (omega (arith, h))
end_at n (p ∷ ps) zero h = omega (arith, length-append p [])
end_at n (p ∷ ps) (suc k) h = end_at (n + length p) ps k (omega (arith, h)) ∙ omega (arith, length-append p (joined (take (suc k) ps)))

pub start_at : (ends : List ℕ) (ps : List (List Item)) (k : ℕ) → ends ≡ ends_from 0 ps → suc k < length ends → get_or ends k 0 ≡ length (joined (take (suc k) ps))
start_at ends ps k e h = ap (λ l. get_or l k 0) e ∙ end_at 0 ps k (omega (arith, h, ap length e, ends_counted 0 ps)) ∙ omega arith

joined_take : (ps : List (List Item)) (k : ℕ) → length (joined (take k ps)) ≤ length (joined (take (suc k) ps))
joined_take [] zero = omega arith
joined_take [] (suc k) = omega arith
joined_take (p ∷ ps) zero = omega arith
joined_take (p ∷ ps) (suc k) = omega (arith, length-append p (joined (take k ps)), length-append p (joined (take (suc k) ps)), joined_take ps k)

joined_within : (ps : List (List Item)) (k : ℕ) → length (joined (take k ps)) ≤ length (joined ps)
joined_within [] zero = omega arith
joined_within [] (suc k) = omega arith
joined_within (p ∷ ps) zero = omega arith
joined_within (p ∷ ps) (suc k) = omega (arith, length-append p (joined (take k ps)), length-append p (joined ps), joined_within ps k)

-- where the items of a part lie
pub record LiesAt (items : List Item) (ends : List ℕ) (k start end : ℕ) : Type 0 where
  pub forth : start ≤ end
  pub within : end ≤ length items

pub lies_at : (items : List Item) (ends : List ℕ) (ps : List (List Item)) (k start end : ℕ) → items ≡ joined ps → ends ≡ ends_from 0 ps → k < length ends → start ≡ length (joined (take k ps)) → end ≡ get_or ends k 0 → LiesAt items ends k start end
lies_at items ends ps k start end e f h s g =
    let last : get_or ends k 0 ≡ 0 + length (joined (take (suc k) ps)) = ap (λ l. get_or l k 0) f ∙ end_at 0 ps k (omega (arith, h, ap length f, ends_counted 0 ps)) in
    record { forth = omega (arith, s, g, last, joined_take ps k); within = omega (arith, g, last, joined_within ps (suc k), ap length e) }

-- items in the place of those of a part
joined_set : (ps : List (List Item)) (k : ℕ) (own : List Item) → k < length ps → take (length (joined (take k ps))) (joined ps) ++ own ++ drop (length (joined (take (suc k) ps))) (joined ps) ≡ joined (slice_set ps k own)
joined_set [] k own h = absurd (omega (arith, h))
joined_set (p ∷ ps) zero own h = ap (λ l. own ++ l) (ap (λ n. drop n (p ++ joined ps)) (omega (arith, length-append p [])) ∙ over p)
  where
    over : (xs : List Item) → drop (length xs) (xs ++ joined ps) ≡ joined ps
    over [] = refl
    over (x ∷ xs) = over xs
joined_set (p ∷ ps) (suc k) own h =
    (λ i. take (length-append p (joined (take k ps)) i) (p ++ joined ps) ++ own ++ drop (length-append p (joined (take (suc k) ps)) i) (p ++ joined ps))
    ∙ under p ∙ ap (λ l. p ++ l) (joined_set ps k own (omega (arith, h)))
  where
    a : ℕ
    a = length (joined (take k ps))

    b : ℕ
    b = length (joined (take (suc k) ps))

    under : (xs : List Item) → take (length xs + a) (xs ++ joined ps) ++ own ++ drop (length xs + b) (xs ++ joined ps) ≡ xs ++ (take a (joined ps) ++ own ++ drop b (joined ps))
    under [] = let x : 0 + a ≡ a = omega arith in let y : 0 + b ≡ b = omega arith in (λ i. take (x i) (joined ps) ++ own ++ drop (y i) (joined ps))
    under (x ∷ xs) =
        let u : suc (length xs) + a ≡ suc (length xs + a) = omega arith in
        let v : suc (length xs) + b ≡ suc (length xs + b) = omega arith in
        (λ i. take (u i) (x ∷ xs ++ joined ps) ++ own ++ drop (v i) (x ∷ xs ++ joined ps)) ∙ ap (λ l. x ∷ l) (under xs)

pub items_put : (items : List Item) (ends : List ℕ) (ps : List (List Item)) (k start end : ℕ) (own new : List Item) → items ≡ joined ps → ends ≡ ends_from 0 ps → k < length ends → start ≡ length (joined (take k ps)) → end ≡ get_or ends k 0
    → new ≡ take start items ++ own ++ drop end items → new ≡ joined (slice_set ps k own)
items_put items ends ps k start end own new e f h s g is =
    let within : k < length ps = omega (arith, h, ap length f, ends_counted 0 ps) in
    let last : end ≡ length (joined (take (suc k) ps)) = g ∙ ap (λ l. get_or l k 0) f ∙ end_at 0 ps k within ∙ omega arith in
    is ∙ (λ i. take (s i) (e i) ++ own ++ drop (last i) (e i)) ∙ joined_set ps k own within

-- the ends after that
moved_from : (n less more : ℕ) (ps : List (List Item)) → less ≤ n → map (moved less more) (ends_from n ps) ≡ ends_from (n - less + more) ps
moved_from n less more [] h = refl
moved_from n less more (p ∷ ps) h =
    let next : n + length p - less + more ≡ n - less + more + length p = omega (arith, h) in
    (λ i. next i ∷ moved_from (n + length p) less more ps (omega (arith, h)) i) ∙ ap (λ m. (n - less + more + length p) ∷ ends_from m ps) next

ends_set : (n : ℕ) (ps : List (List Item)) (k : ℕ) (own : List Item) (less : ℕ) → k < length ps → less + length (joined (take k ps)) ≡ length (joined (take (suc k) ps))
    → take k (ends_from n ps) ++ map (moved less (length own)) (drop k (ends_from n ps)) ≡ ends_from n (slice_set ps k own)
ends_set n [] k own less h e = absurd (omega (arith, h))
ends_set n (p ∷ ps) zero own less h e =
    let same : less ≡ length p = omega (arith, e, length-append p []) in
    let first : n + length p - less + length own ≡ n + length own = omega (arith, same) in
    (λ i. first i ∷ moved_from (n + length p) less (length own) ps (omega (arith, same)) i) ∙ ap (λ m. (n + length own) ∷ ends_from m ps) first
ends_set n (p ∷ ps) (suc k) own less h e =
    ap (λ l. (n + length p) ∷ l) (ends_set (n + length p) ps k own less (omega (arith, h)) (omega (arith, e, length-append p (joined (take k ps)), length-append p (joined (take (suc k) ps)))))

pub ends_put : (ends : List ℕ) (ps : List (List Item)) (k start end : ℕ) (own : List Item) (new : List ℕ) → ends ≡ ends_from 0 ps → k < length ends → start ≡ length (joined (take k ps)) → end ≡ get_or ends k 0
    → new ≡ take k ends ++ map (λ (e : ℕ). e - (end - start) + length own) (drop k ends) → new ≡ ends_from 0 (slice_set ps k own)
ends_put ends ps k start end own new f h s g is =
    let within : k < length ps = omega (arith, h, ap length f, ends_counted 0 ps) in
    let last : end ≡ length (joined (take (suc k) ps)) = g ∙ ap (λ l. get_or l k 0) f ∙ end_at 0 ps k within ∙ omega arith in
    is ∙ ap (λ l. take k l ++ map (moved (end - start) (length own)) (drop k l)) f ∙ ends_set 0 ps k own (end - start) within (omega (arith, s, last, joined_take ps k))

-- as many items in their place move none
ends_stay : (n : ℕ) (ps : List (List Item)) (k : ℕ) (own : List Item) → k < length ps → length own + length (joined (take k ps)) ≡ length (joined (take (suc k) ps)) → ends_from n ps ≡ ends_from n (slice_set ps k own)
ends_stay n [] k own h e = absurd (omega (arith, h))
ends_stay n (p ∷ ps) zero own h e = let same : n + length p ≡ n + length own = omega (arith, e, length-append p []) in ap (λ m. m ∷ ends_from m ps) same
ends_stay n (p ∷ ps) (suc k) own h e = ap (λ l. (n + length p) ∷ l) (ends_stay (n + length p) ps k own (omega (arith, h)) (omega (arith, e, length-append p (joined (take k ps)), length-append p (joined (take (suc k) ps)))))

movable_from : (n k less more : ℕ) (ps : List (List Item)) → (k < length ps → less ≤ get_or (ends_from n ps) k 0) → n + length (joined ps) - less + more < 2 ^ 64 → AreMovable (drop k (ends_from n ps)) less more
movable_from n zero less more [] h f = tt
movable_from n (suc k) less more [] h f = tt
movable_from n zero less more (p ∷ ps) h f =
    let first : less ≤ n + length p = h (omega arith) in
    ((first, omega (arith, f, length-append p (joined ps), first)), movable_from (n + length p) zero less more ps (low first ps) (omega (arith, f, length-append p (joined ps))))
  where
    low : less ≤ n + length p → (qs : List (List Item)) → 0 < length qs → less ≤ get_or (ends_from (n + length p) qs) 0 0
    low g [] l = absurd (omega (arith, l))
    low g (q ∷ qs) l = omega (arith, g)
movable_from n (suc k) less more (p ∷ ps) h f = movable_from (n + length p) k less more ps (λ l. h (omega (arith, l))) (omega (arith, f, length-append p (joined ps)))

pub are_movable : (items : List Item) (ends : List ℕ) (ps : List (List Item)) (k start end : ℕ) (own new : List Item) → items ≡ joined ps → ends ≡ ends_from 0 ps → k < length ends → start ≡ length (joined (take k ps)) → end ≡ get_or ends k 0
    → new ≡ take start items ++ own ++ drop end items → length new < 2 ^ 64 → AreMovable (drop k ends) (end - start) (length own)
are_movable items ends ps k start end own new e f h s g is few =
    let lies : LiesAt items ends k start end = lies_at items ends ps k start end e f h s g in
    let count : length new ≡ start + length own + (length items - end) =
    ap length is ∙ omega (arith, length-append (take start items ++ own) (drop end items), length-append (take start items) own, length-take start items, length-drop end items, lies.forth, lies.within) in
    let low : end - start ≤ get_or (ends_from 0 ps) k 0 = omega (arith, g, ap (λ l. get_or l k 0) f) in
    subst (λ l. AreMovable (drop k l) (end - start) (length own)) (sym f) (movable_from 0 k (end - start) (length own) ps (λ l. low) (omega (arith, few, count, ap length e, lies.forth, lies.within)))

pub ends_same : (ends : List ℕ) (ps : List (List Item)) (k start end : ℕ) (own : List Item) → ends ≡ ends_from 0 ps → k < length ends → start ≡ length (joined (take k ps)) → end ≡ get_or ends k 0 → end - start ≡ length own → ends ≡ ends_from 0 (slice_set ps k own)
ends_same ends ps k start end own f h s g few =
    let within : k < length ps = omega (arith, h, ap length f, ends_counted 0 ps) in
    let last : end ≡ 0 + length (joined (take (suc k) ps)) = g ∙ ap (λ l. get_or l k 0) f ∙ end_at 0 ps k within in
    f ∙ ends_stay 0 ps k own within (omega (arith, s, last, few, joined_take ps k))

-- Which tracks the items of a group reach in a step.
use Rattle.std.proofs.Common.{arith, ap, ◌≡◌, ◌∙◌, sym, refl, ℕ, zero, suc, ℤ, pos, ◌+ℤ◌, Bool, true, false, ◌&&◌, ◌||◌, List, [], ◌∷◌, ◌++◌, map, take, drop, length, if◌then◌else◌}
use Rattle.std.proofs.lemmas.List.{take-append-drop}
use Rattle.lunit.specs.declared.item.Item.{Item}
use Rattle.part_rules.specs.Lists.{zipped}
use Rattle.std.specs.List.{list_any}
use Rattle.part_rules.specs.Tracks.{Track, affected_by, spans, mark_endless, raised_limit, raised_limit_by}
use Rattle.part_rules.specs.declared.share.Share.{Share}
use Rattle.track_sizing.specs.declared.kinds.Affected.{Affected}
use Rattle.track_sizing.specs.Kinds.{affected_of}
use Rattle.track_sizing.specs.Placed.{AreSet, marked_limit_by}
use Rattle.track_sizing.specs.Reached.{all_noted, is_reached_by, marked_where, note_of, noted_by, noted_for, raised_where}
use Rattle.track_sizing.proofs.Around.{AllSpanned, IsAround, NoneSpanned, around}
use Rattle.track_sizing.proofs.Groups.{placed_of}
use Rattle.track_sizing.proofs.Parted.{neither}

-- ---- one item

off : (b : Bool) → (b && false) ≡ false
off true = refl
off false = refl

on : (b : Bool) → (b && true) ≡ b
on true = refl
on false = refl

zipped_parts : (f : Share → Track → Share) (ss rest : List Share) (ts others : List Track) → length ss ≡ length ts → zipped f (ss ++ rest) (ts ++ others) ≡ zipped f ss ts ++ zipped f rest others
zipped_parts f [] rest [] others e = refl
zipped_parts f [] rest (t ∷ ts) others e = absurd (omega arith)
zipped_parts f (s ∷ ss) rest [] others e = absurd (omega arith)
zipped_parts f (s ∷ ss) rest (t ∷ ts) others e = ap (λ (xs : List Share). f s t ∷ xs) (zipped_parts f ss rest ts others (omega arith))

none_noted : (a : Affected) (i : Item) (ss : List Share) (ts : List Track) → length ss ≡ length ts → NoneSpanned i ts → noted_for a ts ss i ≡ ss
none_noted a i [] ts e h = refl
none_noted a i (s ∷ ss) [] e h = absurd (omega arith)
none_noted a i (s ∷ ss) (t ∷ ts) e h =
    ap (λ (b : Bool). (if affected_of a t && b then note_of true else s) ∷ noted_for a ts ss i) h.0
    ∙ ap (λ (b : Bool). (if b then note_of true else s) ∷ noted_for a ts ss i) (off (affected_of a t))
    ∙ ap (λ (xs : List Share). s ∷ xs) (none_noted a i ss ts (omega arith) h.1)

its_noted : (a : Affected) (i : Item) (ss : List Share) (ts : List Track) → AllSpanned i ts → noted_for a ts ss i ≡ zipped (noted_by (affected_of a)) ss ts
its_noted a i [] ts h = refl
its_noted a i (s ∷ ss) [] h = refl
its_noted a i (s ∷ ss) (t ∷ ts) h =
    ap (λ (b : Bool). (if affected_of a t && b then note_of true else s) ∷ noted_for a ts ss i) h.0
    ∙ ap (λ (b : Bool). (if b then note_of true else s) ∷ noted_for a ts ss i) (on (affected_of a t))
    ∙ ap (λ (xs : List Share). noted_by (affected_of a) s t ∷ xs) (its_noted a i ss ts h.1)

noted_around : (a : Affected) (i : Item) (front mid back : List Share) (before mine behind : List Track) → length front ≡ length before → length mid ≡ length mine → length back ≡ length behind → IsAround i before mine behind
    → noted_for a (before ++ (mine ++ behind)) (front ++ (mid ++ back)) i ≡ front ++ (zipped (noted_by (affected_of a)) mid mine ++ back)
noted_around a i front mid back before mine behind d e f h =
    zipped_parts (noted_by (affected_by (affected_of a) i)) front (mid ++ back) before (mine ++ behind) d
    ∙ ap (λ (xs : List Share). xs ++ noted_for a (mine ++ behind) (mid ++ back) i) (none_noted a i front before d h.before_it)
    ∙ ap (λ (xs : List Share). front ++ xs) (zipped_parts (noted_by (affected_by (affected_of a) i)) mid back mine behind e
    ∙ ap (λ (xs : List Share). xs ++ noted_for a behind back i) (its_noted a i mid mine h.its)
    ∙ ap (λ (xs : List Share). zipped (noted_by (affected_of a)) mid mine ++ xs) (none_noted a i back behind f h.behind_it))

same_take : {A B : Type 0} (n : ℕ) (xs : List A) (ys : List B) → length xs ≡ length ys → length (take n xs) ≡ length (take n ys)
same_take zero xs ys e = refl
same_take (suc n) [] [] e = refl
same_take (suc n) [] (y ∷ ys) e = absurd (omega arith)
same_take (suc n) (x ∷ xs) [] e = absurd (omega arith)
same_take (suc n) (x ∷ xs) (y ∷ ys) e = omega (arith, same_take n xs ys (omega arith))

same_drop : {A B : Type 0} (n : ℕ) (xs : List A) (ys : List B) → length xs ≡ length ys → length (drop n xs) ≡ length (drop n ys)
same_drop zero xs ys e = e
same_drop (suc n) [] [] e = refl
same_drop (suc n) [] (y ∷ ys) e = absurd (omega arith)
same_drop (suc n) (x ∷ xs) [] e = absurd (omega arith)
same_drop (suc n) (x ∷ xs) (y ∷ ys) e = same_drop n xs ys (omega arith)

split_at : {A : Type 0} (at n : ℕ) (xs : List A) → take at xs ++ (take n (drop at xs) ++ drop n (drop at xs)) ≡ xs
split_at {A = A} at n xs = ap (λ (ys : List A). take at xs ++ ys) (take-append-drop n (drop at xs)) ∙ take-append-drop at xs

pub noted_at : (a : Affected) (i : Item) (first : ℤ) (ts : List Track) (ss : List Share) (at n : ℕ) → AreSet first ts → length ss ≡ length ts → i.span.start ≡ first +ℤ pos at → i.span.end ≡ i.span.start +ℤ pos n
    → noted_for a ts ss i ≡ take at ss ++ (zipped (noted_by (affected_of a)) (take n (drop at ss)) (take n (drop at ts)) ++ drop n (drop at ss))
noted_at a i first ts ss at n set l s e =
    let rest : length (drop at ss) ≡ length (drop at ts) = same_drop at ss ts l in
    ap (λ (xs : List Track). noted_for a xs ss i) (sym (split_at at n ts))
    ∙ ap (λ (xs : List Share). noted_for a (take at ts ++ (take n (drop at ts) ++ drop n (drop at ts))) xs i) (sym (split_at at n ss))
    ∙ noted_around a i (take at ss) (take n (drop at ss)) (drop n (drop at ss)) (take at ts) (take n (drop at ts)) (drop n (drop at ts)) (same_take at ss ts l) (same_take n (drop at ss) (drop at ts) rest) (same_drop n (drop at ss) (drop at ts) rest)
    (around i first ts at n (placed_of first ts set) s e)

-- the rows whose middle part was changed
pub joined_notes : (f : Share → Track → Share) (ss : List Share) (ts : List Track) (at n : ℕ) (front left own back now : List Share) (rest mine : List Track) → front ≡ take at ss → left ≡ drop at ss → own ≡ take n left → back ≡ drop n left → rest ≡ drop at ts → mine ≡ take n rest →
    now ≡ zipped f own mine
    → front ++ (now ++ back) ≡ take at ss ++ (zipped f (take n (drop at ss)) (take n (drop at ts)) ++ drop n (drop at ss))
joined_notes f ss ts at n front left own back now rest mine e l o b r m v =
    ap (λ (xs : List Share). xs ++ (now ++ back)) e
    ∙ ap (λ (xs : List Share). take at ss ++ (xs ++ back)) (v ∙ ap (λ (xs : List Share). zipped f xs mine) (o ∙ ap (take n) l) ∙ ap (zipped f (take n (drop at ss))) (m ∙ ap (take n) r))
    ∙ ap (λ (xs : List Share). take at ss ++ (zipped f (take n (drop at ss)) (take n (drop at ts)) ++ xs)) (b ∙ ap (drop n) l)

-- ---- all items

same_map : {B : Type 0} (f g : Track → B) (ts : List Track) → ((t : Track) → f t ≡ g t) → map f ts ≡ map g ts
same_map f g [] h = refl
same_map {B = B} f g (t ∷ ts) h = ap (λ (y : B). y ∷ map f ts) (h t) ∙ ap (λ (ys : List B). g t ∷ ys) (same_map f g ts h)

note_one : (p b : Bool) → (if p then note_of true else note_of b) ≡ note_of (p || b)
note_one true b = refl
note_one false b = refl

one_noted : (p g : Track → Bool) (ts : List Track) → zipped (noted_by p) (map (λ t. note_of (g t)) ts) ts ≡ map (λ t. note_of (p t || g t)) ts
one_noted p g [] = refl
one_noted p g (t ∷ ts) = ap (λ (s : Share). s ∷ zipped (noted_by p) (map (λ t. note_of (g t)) ts) ts) (note_one (p t) (g t)) ∙ ap (λ (ss : List Share). note_of (p t || g t) ∷ ss) (one_noted p g ts)

either : (b c : Bool) → (b || false) ≡ b
either true c = refl
either false c = refl

turned : (p g r : Bool) → ((p || g) || r) ≡ (g || (p || r))
turned true true r = refl
turned true false r = refl
turned false true r = refl
turned false false r = refl

noted_so_far : (a : Affected) (items : List Item) (ts : List Track) (g : Track → Bool) → all_noted a items ts (map (λ t. note_of (g t)) ts) ≡ map (λ t. note_of (g t || is_reached_by a items t)) ts
noted_so_far a [] ts g = same_map (λ t. note_of (g t)) (λ t. note_of (g t || false)) ts (λ t. ap note_of (sym (either (g t) true)))
noted_so_far a (i ∷ rest) ts g =
    ap (all_noted a rest ts) (one_noted (affected_by (affected_of a) i) g ts)
    ∙ noted_so_far a rest ts (λ t. affected_by (affected_of a) i t || g t)
    ∙ same_map (λ t. note_of ((affected_by (affected_of a) i t || g t) || is_reached_by a rest t)) (λ t. note_of (g t || (affected_by (affected_of a) i t || is_reached_by a rest t))) ts (λ t. ap note_of (turned (affected_by (affected_of a) i t) (g t) (is_reached_by a rest t)))

none_so_far : (ss : List Share) (ts : List Track) → length ss ≡ length ts → map (λ (s : Share). note_of false) ss ≡ map (λ (t : Track). note_of false) ts
none_so_far [] [] e = refl
none_so_far [] (t ∷ ts) e = absurd (omega arith)
none_so_far (s ∷ ss) [] e = absurd (omega arith)
none_so_far (s ∷ ss) (t ∷ ts) e = ap (λ (xs : List Share). note_of false ∷ xs) (none_so_far ss ts (omega arith))

pub all_notes : (a : Affected) (items : List Item) (ts : List Track) (ss notes : List Share) → length ss ≡ length ts → notes ≡ all_noted a items ts (map (λ (s : Share). note_of false) ss) → notes ≡ map (λ t. note_of (is_reached_by a items t)) ts
all_notes a items ts ss notes e v = v ∙ ap (all_noted a items ts) (none_so_far ss ts e) ∙ noted_so_far a items ts (λ t. false)

-- where no track is affected
none_reached : (a : Affected) (items : List Item) (t : Track) → affected_of a t ≡ false → is_reached_by a items t ≡ false
none_reached a [] t e = refl
none_reached a (i ∷ rest) t e = ap (λ (b : Bool). (b && spans i t) || is_reached_by a rest t) e ∙ none_reached a rest t e

unreached : (a : Affected) (items : List Item) (ts : List Track) → list_any (affected_of a) ts ≡ false → map (λ (t : Track). note_of false) ts ≡ map (λ t. note_of (is_reached_by a items t)) ts
unreached a items [] e = refl
unreached a items (t ∷ ts) e =
    let one = neither (affected_of a t) (list_any (affected_of a) ts) e in
    ap (λ (b : Bool). note_of b ∷ map (λ (t : Track). note_of false) ts) (sym (none_reached a items t one.0)) ∙ ap (λ (ss : List Share). note_of (is_reached_by a items t) ∷ ss) (unreached a items ts one.1)

pub no_notes : (a : Affected) (items : List Item) (ts : List Track) (ss notes : List Share) → length ss ≡ length ts → notes ≡ map (λ (s : Share). note_of false) ss → list_any (affected_of a) ts ≡ false → notes ≡ map (λ t. note_of (is_reached_by a items t)) ts
no_notes a items ts ss notes e v n = v ∙ none_so_far ss ts e ∙ unreached a items ts n

pub ruleset notes = (all_notes, no_notes)

-- ---- growth limits

raise_one : (b : Bool) (t : Track) → raised_where t (note_of b) ≡ (if b then raised_limit t else t)
raise_one true t = refl
raise_one false t = refl

pub raised_all : (a : Affected) (items : List Item) (ts now : List Track) (notes : List Share) → notes ≡ map (λ t. note_of (is_reached_by a items t)) ts → now ≡ zipped raised_where ts notes → now ≡ map (raised_limit_by (affected_of a) items) ts
raised_all a items ts now notes e v = v ∙ ap (zipped raised_where ts) e ∙ go ts
  where
    go : (xs : List Track) → zipped raised_where xs (map (λ t. note_of (is_reached_by a items t)) xs) ≡ map (raised_limit_by (affected_of a) items) xs
    go [] = refl
    go (t ∷ xs) = ap (λ (x : Track). x ∷ zipped raised_where xs (map (λ t. note_of (is_reached_by a items t)) xs)) (raise_one (is_reached_by a items t) t) ∙ ap (λ (ys : List Track). raised_limit_by (affected_of a) items t ∷ ys) (go xs)

pub marked_each : (a : Affected) (items : List Item) (ts now : List Track) (notes : List Share) → notes ≡ map (λ t. note_of (is_reached_by a items t)) ts → now ≡ zipped marked_where ts notes → now ≡ map (marked_limit_by (affected_of a) items) ts
marked_each a items ts now notes e v = v ∙ ap (zipped marked_where ts) e ∙ go ts
  where
    go : (xs : List Track) → zipped marked_where xs (map (λ t. note_of (is_reached_by a items t)) xs) ≡ map (marked_limit_by (affected_of a) items) xs
    go [] = refl
    go (t ∷ xs) = ap (λ (x : Track). mark_endless t x ∷ zipped marked_where xs (map (λ t. note_of (is_reached_by a items t)) xs)) (raise_one (is_reached_by a items t) t) ∙ ap (λ (ys : List Track). marked_limit_by (affected_of a) items t ∷ ys) (go xs)

pub ruleset reaches = (raised_all, marked_each)

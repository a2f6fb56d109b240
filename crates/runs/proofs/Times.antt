-- Lists of parts that stand many times: their lengths, their items, and the first of them.
use Rattle.std.proofs.Common.{arith, refl, sym, ap, ◌∙◌, ◌≡◌, ◌⊎◌, inl, inr, ℕ, zero, suc, ◌+◌, ◌-◌, ◌*◌, ◌/◌, ◌%◌, ◌<◌, ◌≤◌, List, [], ◌∷◌, ◌++◌, length, take, drop, get_or, append_assoc, append-nil, length-append, take_all, mod-lt, mod-eq_of_lt, suc-mul, div-add-mod', div-lt_iff_lt-mul, drop-cons, add-one}
use Rattle.std.specs.Prelude.{Bool, true, false, ◌&&◌, slice_get}
use Rattle.std.specs.Cmp.Lexicographic.{pointwise, as_long}
use Rattle.std.specs.Option.{option_eq}
use Rattle.std.proofs.Math.Nat.{add-mod_left}
use Rattle.std.proofs.Math.Seq.{take-append-add}
use Rattle.std.proofs.lemmas.Bool.{cases_lt}
use Rattle.std.proofs.lemmas.List.{drop_all, take-append-le}
use Rattle.runs.specs.Times.{times, items_of}

-- ---- lengths

pub length_times : {A : Type 0} → (n : ℕ) (xs : List A) → length (times n xs) ≡ n * length xs
length_times zero xs = omega arith
length_times (suc n) xs = omega (arith, length-append xs (times n xs), length_times n xs, suc-mul n (length xs))

-- ---- one time more

pub times_once : {A : Type 0} → (xs : List A) → times 1 xs ≡ xs
times_once xs = append-nil xs

times_before : {A : Type 0} → (n : ℕ) (xs : List A) → times n xs ++ xs ≡ xs ++ times n xs
times_before zero xs = sym (append-nil xs)
times_before (suc n) xs = append_assoc xs (times n xs) xs ∙ ap (λ (ys : _). xs ++ ys) (times_before n xs)

pub times_more : {A : Type 0} → (n : ℕ) (xs : List A) → times (n + 1) xs ≡ times n xs ++ xs
times_more n xs =
    let e : n + 1 ≡ suc n = omega arith in
    ap (λ (m : ℕ). times m xs) e ∙ sym (times_before n xs)

-- one time more behind others
pub times_behind : {A : Type 0} → (held now next body : List A) (n : ℕ) → now ≡ held ++ times n body → next ≡ now ++ body → next ≡ held ++ times (n + 1) body
times_behind held now next body n h e =
    e
    ∙ ap (λ (xs : List _). xs ++ body) h
    ∙ append_assoc held (times n body) body
    ∙ ap (λ (xs : List _). held ++ xs) (sym (times_more n body))

-- ---- parts one after another

pub items_joined : {A : Type 0} → (front back : List (ℕ × List A)) → items_of (front ++ back) ≡ items_of front ++ items_of back
items_joined [] back = refl
items_joined (run ∷ front) back = ap (λ (xs : _). times run.0 run.1 ++ xs) (items_joined front back) ∙ sym (append_assoc (times run.0 run.1) (items_of front) (items_of back))

pub items_with : {A : Type 0} → (parts : List (ℕ × List A)) (count : ℕ) (body : List A) → items_of (parts ++ (count, body) ∷ []) ≡ items_of parts ++ times count body
items_with parts count body = items_joined parts ((count, body) ∷ []) ∙ ap (λ (xs : _). items_of parts ++ xs) (append-nil (times count body))

pub items_with_one : {A : Type 0} → (parts : List (ℕ × List A)) (body : List A) → items_of (parts ++ (1, body) ∷ []) ≡ items_of parts ++ body
items_with_one parts body = items_with parts 1 body ∙ ap (λ (xs : _). items_of parts ++ xs) (times_once body)

pub items_at : {A : Type 0} → (parts : List (ℕ × List A)) (i : ℕ) (run : ℕ × List A) → i < length parts → run ≡ get_or parts i run → items_of (drop i parts) ≡ times run.0 run.1 ++ items_of (drop (i + 1) parts)
items_at parts i run h e =
    let left : drop i parts ≡ get_or parts i run ∷ drop (i + 1) parts = rw add-one (drop-cons parts i run h) in
    ap items_of left ∙ ap (λ (r : ℕ × List _). times r.0 r.1 ++ items_of (drop (i + 1) parts)) (sym e)

-- the items of the part that is next, before those of the parts after it
pub items_next : {A : Type 0} → (made next all : List A) (parts : List (ℕ × List A)) (i : ℕ) (run : ℕ × List A) → i < length parts → run ≡ get_or parts i run → next ≡ made ++ times run.0 run.1
    → made ++ items_of (drop i parts) ≡ all → next ++ items_of (drop (i + 1) parts) ≡ all
items_next made next all parts i run h e n k =
    ap (λ (xs : List _). xs ++ items_of (drop (i + 1) parts)) n
    ∙ append_assoc made (times run.0 run.1) (items_of (drop (i + 1) parts))
    ∙ ap (λ (xs : List _). made ++ xs) (sym (items_at parts i run h e))
    ∙ k

pub items_past : {A : Type 0} → (parts : List (ℕ × List A)) (i : ℕ) → length parts ≤ i → items_of (drop i parts) ≡ []
items_past parts i h = ap items_of (drop_all i parts h)

-- ---- an item

get_left : {A : Type 0} → (xs ys : List A) (i : ℕ) → i < length xs → slice_get (xs ++ ys) i ≡ slice_get xs i
get_left [] ys i h = absurd (omega arith)
get_left (x ∷ xs) ys zero h = refl
get_left (x ∷ xs) ys (suc i) h = get_left xs ys i (omega arith)

get_right : {A : Type 0} → (xs ys : List A) (i : ℕ) → length xs ≤ i → slice_get (xs ++ ys) i ≡ slice_get ys (i - length xs)
get_right [] ys i h = let e : i ≡ i - 0 = omega arith in ap (slice_get ys) e
get_right (x ∷ xs) ys zero h = absurd (omega arith)
get_right (x ∷ xs) ys (suc i) h = let e : i - length xs ≡ suc i - suc (length xs) = omega arith in get_right xs ys i (omega arith) ∙ ap (slice_get ys) e

-- an item of some time is that of the body
get_times : {A : Type 0} → (n : ℕ) (xs : List A) (i : ℕ) → i < n * length xs → slice_get (times n xs) i ≡ slice_get xs (i % length xs)
get_times zero xs i h = absurd (omega arith)
get_times {A} (suc n) xs i h = either (cases_lt i (length xs)) (get_times n xs (i - length xs))
  where
    either : (i < length xs) ⊎ (length xs ≤ i) → (i - length xs < n * length xs → slice_get (times n xs) (i - length xs) ≡ slice_get xs ((i - length xs) % length xs)) → slice_get (xs ++ times n xs) i ≡ slice_get xs (i % length xs)
    either (inl less) rest = get_left xs (times n xs) i less ∙ ap (slice_get xs) (sym (mod-eq_of_lt less))
    either (inr more) rest =
        let within : i - length xs < n * length xs = omega (arith, suc-mul n (length xs)) in
        let sum : i ≡ length xs + (i - length xs) = omega (arith, more) in
        get_right xs (times n xs) i more
        ∙ rest within
        ∙ ap (slice_get xs) (sym (ap (λ (k : ℕ). k % length xs) sum ∙ add-mod_left (length xs) (i - length xs)))

pub get_here : {A : Type 0} → (count : ℕ) (body rest : List A) (i : ℕ) → i < count * length body → slice_get (times count body ++ rest) i ≡ slice_get body (i % length body)
get_here count body rest i h = get_left (times count body) rest i (omega (arith, length_times count body, h)) ∙ get_times count body i h

pub get_there : {A : Type 0} → (count : ℕ) (body rest : List A) (i : ℕ) → count * length body ≤ i → slice_get (times count body ++ rest) i ≡ slice_get rest (i - count * length body)
get_there count body rest i h = get_right (times count body) rest i (omega (arith, length_times count body, h)) ∙ ap (λ (n : ℕ). slice_get rest (i - n)) (length_times count body)

-- ---- the first so many

-- so many whole times and a part of one more
first_times : {A : Type 0} → (whole rest count : ℕ) (body : List A) → rest < length body → whole * length body + rest < count * length body → take (whole * length body + rest) (times count body) ≡ times whole body ++ take rest body
first_times whole rest zero body r h = absurd (omega arith)
first_times zero rest (suc count) body r h =
    let e : 0 * length body + rest ≡ rest = omega arith in
    ap (λ (n : ℕ). take n (body ++ times count body)) e ∙ take-append-le rest body (times count body) (omega (arith, r))
first_times (suc whole) rest (suc count) body r h =
    let e : suc whole * length body + rest ≡ length body + (whole * length body + rest) = omega (arith, suc-mul whole (length body)) in
    let g : whole * length body + rest < count * length body = omega (arith, h, suc-mul whole (length body), suc-mul count (length body)) in
    ap (λ (n : ℕ). take n (body ++ times count body)) e
    ∙ take-append-add body (times count body) (whole * length body + rest)
    ∙ ap (λ (xs : _). body ++ xs) (first_times whole rest count body r g)
    ∙ sym (append_assoc body (times whole body) (take rest body))

some_length : (room count length : ℕ) → room < count * length → 0 < length
some_length room count zero h = absurd (omega arith)
some_length room count (suc n) h = omega arith

pub whole_few : (room count length : ℕ) → room < count * length → room / length < count
whole_few room count length h = (div-lt_iff_lt-mul (some_length room count length h)).1 h

pub rest_few : (room count length : ℕ) → room < count * length → room % length < length
rest_few room count length h = mod-lt room (some_length room count length h)

-- as many of the items as there is room for
first_by : {A : Type 0} → (room count : ℕ) (body : List A) → room < count * length body → take room (times count body) ≡ times (room / length body) body ++ take (room % length body) body
first_by room count body h =
    let e : room / length body * length body + room % length body ≡ room = div-add-mod' room (length body) in
    let less : room / length body * length body + room % length body < count * length body = omega (arith, e, h) in
    ap (λ (n : ℕ). take n (times count body)) (sym e)
    ∙ first_times (room / length body) (room % length body) count body (rest_few room count (length body) h) less

-- a list and a body behind it, as far as there is room
pub first_with : {A : Type 0} → (limit count : ℕ) (items body : List A) → length items ≤ limit → limit - length items < count * length body → take limit (items ++ times count body) ≡ (items ++ times ((limit - length items) / length body) body) ++ take ((limit - length items) % length body) body
first_with limit count items body h room =
    let e : limit ≡ length items + (limit - length items) = omega (arith, h) in
    ap (λ (n : ℕ). take n (items ++ times count body)) e
    ∙ take-append-add items (times count body) (limit - length items)
    ∙ ap (λ (xs : _). items ++ xs) (first_by (limit - length items) count body room)
    ∙ sym (append_assoc items (times ((limit - length items) / length body) body) (take ((limit - length items) % length body) body))

pub all_with : {A : Type 0} → (limit count : ℕ) (items body : List A) → length items ≤ limit → count * length body ≤ limit - length items → take limit (items ++ times count body) ≡ items ++ times count body
all_with limit count items body h room = take_all limit (items ++ times count body) (omega (arith, h, room, length-append items (times count body), length_times count body))

-- as far as there is room, where the numbers are those of the lists
pub limited : {A : Type 0} → (limit count whole long each again : ℕ) (items body slice made rest : List A) → long ≡ length items → each ≡ length body → again ≡ length body → slice ≡ body → length items ≤ limit
    → limit - long < count * each → whole ≡ (limit - long) / each → made ≡ items ++ times whole body → rest ≡ take ((limit - long) % again) slice → take limit (items ++ times count body) ≡ made ++ rest
limited limit count whole long each again items body slice made rest l e a s h room w m r =
    let product : count * each ≡ count * length body = ap (λ (n : ℕ). count * n) e in
    let full : limit - length items < count * length body = omega (arith, l, product, room) in
    let left : limit - length items ≡ limit - long = ap (λ (n : ℕ). limit - n) (sym l) in
    let by : (limit - length items) / length body ≡ whole = ap (λ (n : ℕ). n / length body) left ∙ ap (λ (n : ℕ). (limit - long) / n) (sym e) ∙ sym w in
    let over : (limit - length items) % length body ≡ (limit - long) % again = ap (λ (n : ℕ). n % length body) left ∙ ap (λ (n : ℕ). (limit - long) % n) (sym a) in
    first_with limit count items body h full
    ∙ ap (λ (n : ℕ). (items ++ times n body) ++ take ((limit - length items) % length body) body) by
    ∙ ap (λ (n : ℕ). (items ++ times whole body) ++ take n body) over
    ∙ ap (λ (xs : List _). (items ++ times whole body) ++ take ((limit - long) % again) xs) (sym s)
    ∙ ap (λ (xs : List _). xs ++ take ((limit - long) % again) slice) (sym m)
    ∙ ap (λ (xs : List _). made ++ xs) (sym r)

-- ---- counts

pub length_with : {A : Type 0} → (items body : List A) (count : ℕ) → length (items ++ times count body) ≡ length items + count * length body
length_with items body count = omega (arith, length-append items (times count body), length_times count body)

pub none_is : {A : Type 0} → (xs : List A) → length xs ≡ 0 → xs ≡ []
none_is [] h = refl
none_is (x ∷ xs) h = absurd (omega arith)

-- ---- the part of an index

pub part_few : {A : Type 0} → (parts : List (ℕ × List A)) (i most : ℕ) (run : ℕ × List A) → i < length parts → run ≡ get_or parts i run → length (items_of (drop i parts)) ≤ most → run.0 * length run.1 + length (items_of (drop (i + 1) parts)) ≤ most
part_few parts i most run h e few =
    let all : length (items_of (drop i parts)) ≡ length (times run.0 run.1 ++ items_of (drop (i + 1) parts)) = ap length (items_at parts i run h e) in
    omega (arith, all, length-append (times run.0 run.1) (items_of (drop (i + 1) parts)), length_times run.0 run.1, few)

-- ---- equal items

left_by : {A : Type 0} → (E : A → A → Bool) (xs ys : List A) (i : ℕ) → i < length xs → i < length ys → pointwise E (drop i xs) (drop i ys) ≡ (option_eq E (slice_get xs i) (slice_get ys i) && pointwise E (drop (suc i) xs) (drop (suc i) ys))
left_by E [] ys i h k = absurd (omega arith)
left_by E (x ∷ xs) [] i h k = absurd (omega arith)
left_by E (x ∷ xs) (y ∷ ys) zero h k = refl
left_by E (x ∷ xs) (y ∷ ys) (suc i) h k = left_by E xs ys i (omega arith) (omega arith)

pub same_next : {A : Type 0} → (E : A → A → Bool) (xs ys : List A) (i : ℕ) (test all : Bool) → test ≡ option_eq E (slice_get xs i) (slice_get ys i) → test ≡ true → i < length xs → length xs ≡ length ys
    → pointwise E (drop i xs) (drop i ys) ≡ all → pointwise E (drop (i + 1) xs) (drop (i + 1) ys) ≡ all
same_next E xs ys i test all t h k l s =
    let n : i + 1 ≡ suc i = omega arith in
    ap (λ (m : ℕ). pointwise E (drop m xs) (drop m ys)) n
    ∙ ap (λ (b : Bool). b && pointwise E (drop (suc i) xs) (drop (suc i) ys)) (sym h ∙ t)
    ∙ sym (left_by E xs ys i k (omega (arith, k, l)))
    ∙ s

pub other_here : {A : Type 0} → (E : A → A → Bool) (xs ys : List A) (i : ℕ) (test all : Bool) → test ≡ option_eq E (slice_get xs i) (slice_get ys i) → test ≡ false → i < length xs → length xs ≡ length ys → pointwise E (drop i xs) (drop i ys) ≡ all → false ≡ all
other_here E xs ys i test all t h k l s =
    ap (λ (b : Bool). b && pointwise E (drop (suc i) xs) (drop (suc i) ys)) (sym h ∙ t)
    ∙ sym (left_by E xs ys i k (omega (arith, k, l)))
    ∙ s

pub same_ended : {A : Type 0} → (E : A → A → Bool) (xs ys : List A) (i : ℕ) (all : Bool) → length xs ≤ i → length xs ≡ length ys → pointwise E (drop i xs) (drop i ys) ≡ all → true ≡ all
same_ended E xs ys i all h l s =
    sym (ap (λ (ls : List _). pointwise E ls (drop i ys)) (drop_all i xs h) ∙ ap (pointwise E []) (drop_all i ys (omega (arith, h, l))))
    ∙ s

pub other_long : {A : Type 0} → (E : A → A → Bool) (xs ys : List A) → (length xs ≡ length ys → ⊥) → false ≡ pointwise E xs ys
other_long E xs ys h = by (pointwise E xs ys) refl
  where
    by : (b : Bool) → pointwise E xs ys ≡ b → false ≡ b
    by true e = elim (h (as_long E xs ys e)) [ ]
    by false e = refl

pub ruleset comparing_items = (same_next, other_here, same_ended, other_long)

pub ruleset reading = (items_at, items_past, get_here, get_there, part_few)

pub ruleset writing = (items_next, items_past, times_behind, append-nil)

pub ruleset adding = (items_with, items_with_one, items_joined, times_once, append_assoc)

pub ruleset counting = (items_joined, times_once, length_with, length-append)

pub ruleset limiting = (all_with, whole_few, rest_few)

pub ruleset none = (none_is)

-- What is kept of a line while words are added to it.
use Rattle.std.proofs.Common.{◌≡◌, ℕ, zero, suc, ◌+◌, ◌-◌, ◌<◌, ◌≤◌, Option, Some, None, is_some, slice_get, get_or, drop, drop-cons, add-one, List, [], ◌∷◌, ◌++◌, take, length, replicate, refl, ap, sym, ◌∙◌, arith, inl, inr, ◌⊎◌}
use Rattle.std.proofs.lemmas.List.{append-nil, append_assoc, drop_all, take_all, take-append-le, length-take-le}
use Rattle.std.proofs.lemmas.Bool.{cases_lt, true≢false}
use Rattle.std.specs.Option.{unwrap_or}
use Rattle.track_text.specs.Words.{Word}
use Rattle.doc_writer.specs.Spaces.{gap, last_or, words_after, put}

take_again : (n : ℕ) (xs ys : List ℕ) → take n (take n xs ++ ys) ≡ take n (xs ++ ys)
take_again zero xs ys = refl
take_again (suc n) [] ys = refl
take_again (suc n) (x ∷ xs) ys = ap (λ (zs : List ℕ). x ∷ zs) (take_again n xs ys)

-- a word behind the gap before it
pub word_put : (text : List ℕ) (word : Word) → take 65537 (take 65537 (text ++ gap (last_or 32 text) word) ++ word) ≡ put text (word ∷ [])
unfolding put
word_put text word =
    take_again 65537 (text ++ gap (last_or 32 text) word) word
    ∙ ap (take 65537) (append_assoc text (gap (last_or 32 text) word) word ∙ ap (λ (end : List ℕ). text ++ (gap (last_or 32 text) word ++ end)) (sym (append-nil word)))

-- ---- the last byte

pub last-append : (byte : ℕ) (xs ys : List ℕ) → last_or byte (xs ++ ys) ≡ last_or (last_or byte xs) ys
last-append byte [] ys = refl
last-append byte (x ∷ xs) ys = last-append x xs ys

pub after_gap : (byte : ℕ) (word : Word) → last_or (last_or byte (gap byte word)) word ≡ last_or byte word
after_gap byte [] = refl
after_gap byte (first ∷ word) = refl

pub last_spaces : (count : ℕ) → last_or 32 (replicate count 32) ≡ 32
last_spaces zero = refl
last_spaces (suc count) = last_spaces count

-- ---- more words

pub after-append : (last : ℕ) (words more : List Word) → words_after last (words ++ more) ≡ words_after last words ++ words_after (last_or last (words_after last words)) more
after-append last [] more = refl
after-append last (word ∷ words) more =
    let rest : List ℕ = words_after (last_or last word) words in
    let end : last_or (last_or last word) rest ≡ last_or last (gap last word ++ (word ++ rest)) =
    ap (λ (byte : ℕ). last_or byte rest) (sym (after_gap last word)) ∙ sym (last-append (last_or last (gap last word)) word rest) ∙ sym (last-append last (gap last word) (word ++ rest)) in
    ap (λ (text : List ℕ). gap last word ++ (word ++ text)) (after-append (last_or last word) words more ∙ ap (λ (byte : ℕ). rest ++ words_after byte more) end)
    ∙ ap (λ (text : List ℕ). gap last word ++ text) (sym (append_assoc word rest (words_after (last_or last (gap last word ++ (word ++ rest))) more)))
    ∙ sym (append_assoc (gap last word) (word ++ rest) (words_after (last_or last (gap last word ++ (word ++ rest))) more))

-- words after what is kept of a text, against words after the text
keeps : (n : ℕ) (text : List ℕ) (words : List Word) → take n (take n text ++ words_after (last_or 32 (take n text)) words) ≡ take n (text ++ words_after (last_or 32 text) words)
keeps n text words = by_length (cases_lt n (length text)) where
  by_length : (n < length text) ⊎ (length text ≤ n) → take n (take n text ++ words_after (last_or 32 (take n text)) words) ≡ take n (text ++ words_after (last_or 32 text) words)
  by_length (inl long) =
      let kept : length (take n text) ≡ n = length-take-le n text (omega arith) in
      take-append-le n (take n text) (words_after (last_or 32 (take n text)) words) (omega arith)
      ∙ take_all n (take n text) (omega arith)
      ∙ sym (take-append-le n text (words_after (last_or 32 text) words) (omega arith))
  by_length (inr short) = ap (λ (kept : List ℕ). take n (kept ++ words_after (last_or 32 kept) words)) (take_all n text short)

more_words : (text : List ℕ) (words more : List Word) → take 65537 (take 65537 (text ++ words_after (last_or 32 text) words) ++ words_after (last_or 32 (take 65537 (text ++ words_after (last_or 32 text) words))) more)
    ≡ take 65537 (text ++ words_after (last_or 32 text) (words ++ more))
more_words text words more =
    let start : ℕ = last_or 32 text in
    let all : List ℕ = text ++ words_after start words in
    keeps 65537 all more
    ∙ ap (take 65537) (append_assoc text (words_after start words) (words_after (last_or 32 all) more)
    ∙ ap (λ (byte : ℕ). text ++ (words_after start words ++ words_after byte more)) (last-append 32 text (words_after start words))
    ∙ ap (λ (end : List ℕ). text ++ end) (sym (after-append start words more)))

pub put_more : (text : List ℕ) (words more : List Word) → put (put text words) more ≡ put text (words ++ more)
unfolding put
put_more text [] more = refl
put_more text (word ∷ words) [] = ap (λ (all : List Word). take 65537 (text ++ words_after (last_or 32 text) (word ∷ all))) (sym (append-nil words))
put_more text (word ∷ words) (next ∷ more) = more_words text (word ∷ words) (next ∷ more)

pub put_none : (text : List ℕ) → put text [] ≡ text
unfolding put
put_none text = refl

-- ---- one word more of a list

-- the words from an index on, after those before it
pub put_from : (text : List ℕ) (words : List Word) (i : ℕ) (d : Word) → i < length words → put (put text (get_or words i d ∷ [])) (drop (i + 1) words) ≡ put text (drop i words)
put_from text words i d h = put_more text (get_or words i d ∷ []) (drop (i + 1) words) ∙ ap (put text) (sym (rw add-one (drop-cons words i d h)))

pub put_last : (text : List ℕ) (words : List Word) (i : ℕ) → length words ≤ i → put text (drop i words) ≡ text
put_last text words i h = ap (put text) (drop_all i words h) ∙ put_none text

-- ---- the parts of a word

-- bytes that are cut before they are added
pub cut_before : (n : ℕ) (text bytes : List ℕ) → length text ≤ n → text ++ take (n - length text) bytes ≡ take n (text ++ bytes)
cut_before n [] bytes h = ap (λ (k : ℕ). take k bytes) (let e : n - 0 ≡ n = omega arith in e)
cut_before zero (x ∷ text) bytes h = absurd (omega (arith, h))
cut_before (suc n) (x ∷ text) bytes h =
    ap (λ (k : ℕ). x ∷ (text ++ take k bytes)) (let e : suc n - suc (length text) ≡ n - length text = omega arith in e)
    ∙ ap (λ (rest : List ℕ). x ∷ rest) (cut_before n text bytes (omega (arith, h)))

pub last_found : (bytes : List ℕ) (last : ℕ) → Some last ≡ slice_get bytes (length bytes - 1) → last ≡ last_or 32 bytes
last_found [] last e = absurd (true≢false (ap is_some e))
last_found (x ∷ []) last e = ap (λ (o : Option ℕ). unwrap_or o last) e
last_found (x ∷ y ∷ bytes) last e =
    last_found (y ∷ bytes) last (e ∙ ap (slice_get (x ∷ y ∷ bytes)) (let n : suc (suc (length bytes)) - 1 ≡ suc (suc (length bytes) - 1) = omega arith in n))

pub none_last : (bytes : List ℕ) → None ≡ slice_get bytes (length bytes - 1) → 32 ≡ last_or 32 bytes
none_last [] e = refl
none_last (x ∷ []) e = absurd (true≢false (ap is_some (sym e)))
none_last (x ∷ y ∷ bytes) e =
    let rest : 32 ≡ last_or 32 (y ∷ bytes) = none_last (y ∷ bytes) (e ∙ ap (slice_get (x ∷ y ∷ bytes)) (let n : suc (suc (length bytes)) - 1 ≡ suc (suc (length bytes) - 1) = omega arith in n)) in
    rest

pub ruleset ends = (last_found, none_last)

pub ruleset adding = (put_more, put_none)

pub ruleset one_by_one = (put_more, put_none, put_from, put_last)

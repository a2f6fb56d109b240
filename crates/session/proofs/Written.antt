-- What is written and told, one part after another.
use Rattle.std.proofs.Common.{◌≡◌, refl, ap, sym, subst, ◌∙◌, ℕ, suc, ◌+◌, Bool, false, List, [], ◌∷◌, ◌++◌, length, Option, Ok, Err, append_assoc, append-nil, arith}
use Rattle.outside.specs.Told.{Stays, Adds, AddsPrefix}
use Rattle.outside.specs.declared.event.Event.{Event}
use Rattle.outside.specs.declared.event.Event.TheVariants.{Begin}
use Rattle.outside.proofs.Laws.{adds_none, adds_more, adds_stays}
use Rattle.placing.specs.Walks.{rising}
use Rattle.session.specs.Logs.{TellsAll, LogsFront}
use Rattle.session.specs.Printing.{counts}
use Rattle.session.specs.Script.{text_of, texts}
use Rattle.session.specs.Written.{Told, ToldAll, Prints, Writes, WritesFront, WritesBehind}
use Rattle.session.proofs.Logs.{Made}

module _ (stats : Bool) where
  -- ---- bytes and events

  same_told : (k : ℕ) (made : List Made) (xs ys : List ℕ) (es fs : List Event) → xs ≡ ys → es ≡ fs → ToldAll stats k made xs es → ToldAll stats k made ys fs
  same_told k made xs ys es fs e f p = subst (λ (z : List ℕ). ToldAll stats k made z fs) e (subst (λ (z : List Event). ToldAll stats k made xs z) f p)

  told_more : (k : ℕ) (made rest : List Made) (xs ys : List ℕ) (es fs : List Event) → ToldAll stats k made xs es → ToldAll stats (k + length made) rest ys fs → ToldAll stats k (made ++ rest) (xs ++ ys) (es ++ fs)
  told_more k [] rest xs ys es fs p q =
      let none : k + 0 ≡ k = omega arith in
      same_told k rest ys (xs ++ ys) fs (es ++ fs) (ap (λ (z : List ℕ). z ++ ys) (sym p.0)) (ap (λ (z : List Event). z ++ fs) (sym p.1)) (subst (λ (n : ℕ). ToldAll stats n rest ys fs) none q)
  told_more k (first ∷ made) rest xs ys es fs p q =
      let next : k + suc (length made) ≡ k + 1 + length made = omega arith in
      record {
        text = p.text;
        texts = p.texts ++ ys;
        first = p.first;
        later = p.later ++ fs;
        whole = sym (append_assoc p.text p.texts ys) ∙ ap (λ (z : List ℕ). z ++ ys) p.whole;
        parts = sym (append_assoc p.first p.later fs) ∙ ap (λ (z : List Event). z ++ fs) p.parts;
        front = p.front;
        back = told_more (k + 1) made rest p.texts ys p.later fs p.back (subst (λ (n : ℕ). ToldAll stats n rest ys fs) next q);
      }

  -- the least that can be written and told: that layouts begin, and measure and keep nothing
  told_least : (k : ℕ) (made : List Made) → (xs : List ℕ) × (es : List Event) × ToldAll stats k made xs es
  told_least k [] = ([], [], (refl, refl))
  told_least k (Ok doc ∷ made) =
      let text : List ℕ = text_of k (Ok doc) ++ counts stats 0 0 in (
        text ++ (told_least (k + 1) made).0,
        Begin k ∷ (told_least (k + 1) made).1,
        record {
          text = text;
          texts = (told_least (k + 1) made).0;
          first = Begin k ∷ [];
          later = (told_least (k + 1) made).1;
          whole = refl;
          parts = refl;
          front = record { measured = []; parts = refl; each = tt; added = 0; text = refl };
          back = (told_least (k + 1) made).2;
        },
      )
  told_least k (Err said ∷ made) = (
    text_of k (Err said) ++ (told_least (k + 1) made).0,
    (told_least (k + 1) made).1,
    record {
      text = text_of k (Err said);
      texts = (told_least (k + 1) made).0;
      first = [];
      later = (told_least (k + 1) made).1;
      whole = refl;
      parts = refl;
      front = (refl, refl);
      back = (told_least (k + 1) made).2;
    },
  )

  -- a text to events that are told
  text_for : (k : ℕ) (made : List Made) (es : List Event) → TellsAll k made es → (xs : List ℕ) × ToldAll stats k made xs es
  text_for k [] es p = ([], (refl, p))
  text_for k (Ok doc ∷ made) es p =
      let text : List ℕ = text_of k (Ok doc) ++ counts stats (rising 0 (length p.front.measured)) 0 in (
        text ++ (text_for (k + 1) made p.later p.back).0,
        record {
          text = text;
          texts = (text_for (k + 1) made p.later p.back).0;
          first = p.first;
          later = p.later;
          whole = refl;
          parts = p.parts;
          front = record { measured = p.front.measured; parts = p.front.parts; each = p.front.each; added = 0; text = refl };
          back = (text_for (k + 1) made p.later p.back).1;
        },
      )
  text_for k (Err said ∷ made) es p = (
    text_of k (Err said) ++ (text_for (k + 1) made p.later p.back).0,
    record {
      text = text_of k (Err said);
      texts = (text_for (k + 1) made p.later p.back).0;
      first = p.first;
      later = p.later;
      whole = refl;
      parts = p.parts;
      front = (refl, p.front);
      back = (text_for (k + 1) made p.later p.back).1;
    },
  )

  told_one : (k : ℕ) (made : Made) (xs : List ℕ) (es : List Event) → Told stats k made xs es → ToldAll stats k (made ∷ []) xs es
  told_one k made xs es p = record { text = xs; texts = []; first = es; later = []; whole = append-nil xs; parts = append-nil es; front = p; back = (refl, refl) }

  -- ---- a sink and a log

  module _ (w w' : Option (List ℕ)) (l l' : Option (List Event)) (k : ℕ) where
    pub front_all : (made : List Made) → Writes stats w w' l l' k made → WritesFront stats w w' l l' k made
    front_all made p =
        record {
          bytes = p.bytes;
          bytes_left = [];
          told = p.told;
          told_left = [];
          written = p.written;
          log = p.log;
          each = same_told k made p.bytes (p.bytes ++ []) p.told (p.told ++ []) (sym (append-nil p.bytes)) (sym (append-nil p.told)) p.each;
        }

    pub front_stays : (made : List Made) → Stays w w' → Stays l l' → WritesFront stats w w' l l' k made
    front_stays made s t =
        let least = told_least k made in
        record {
          bytes = [];
          bytes_left = least.0;
          told = [];
          told_left = least.1;
          written = adds_stays w w w' [] (adds_none w) s;
          log = adds_stays l l l' [] (adds_none l) t;
          each = least.2;
        }

    pub front_longer : (made rest : List Made) → WritesFront stats w w' l l' k made → WritesFront stats w w' l l' k (made ++ rest)
    front_longer made rest p =
        let least = told_least (k + length made) rest in
        record {
          bytes = p.bytes;
          bytes_left = p.bytes_left ++ least.0;
          told = p.told;
          told_left = p.told_left ++ least.1;
          written = p.written;
          log = p.log;
          each =
              same_told k (made ++ rest) ((p.bytes ++ p.bytes_left) ++ least.0) (p.bytes ++ (p.bytes_left ++ least.0)) ((p.told ++ p.told_left) ++ least.1) (p.told ++ (p.told_left ++ least.1))
              (append_assoc p.bytes p.bytes_left least.0) (append_assoc p.told p.told_left least.1)
              (told_more k made rest (p.bytes ++ p.bytes_left) least.0 (p.told ++ p.told_left) least.1 p.each least.2);
        }

    -- a text was written, or a prefix of it
    pub text_all : (made : Made) (text : List ℕ) → Prints stats l l' k made text → Adds w w' text → Writes stats w w' l l' k (made ∷ [])
    text_all made text p q = record { bytes = text; told = p.told; written = q; log = p.log; each = told_one k made text p.told p.each }

    pub text_part : (made : Made) (text : List ℕ) → Prints stats l l' k made text → AddsPrefix w w' text → WritesFront stats w w' l l' k (made ∷ [])
    text_part made text p q =
        record {
          bytes = q.added.done;
          bytes_left = q.rest;
          told = p.told;
          told_left = [];
          written = q.added.added;
          log = p.log;
          each = same_told k (made ∷ []) text (q.added.done ++ q.rest) p.told (p.told ++ []) (sym q.added.parts) (sym (append-nil p.told)) (told_one k made text p.told p.each);
        }

  -- no text was made
  pub text_none : (w : Option (List ℕ)) (l l' : Option (List Event)) (k : ℕ) (made : Made) → LogsFront l l' k (made ∷ []) → WritesFront stats w w l l' k (made ∷ [])
  text_none w l l' k made p =
      let text = text_for k (made ∷ []) (p.events ++ p.rest) p.told in
      record {
        bytes = [];
        bytes_left = text.0;
        told = p.events;
        told_left = p.rest;
        written = adds_none w;
        log = p.added;
        each = text.1;
      }

  pub front_none : (w : Option (List ℕ)) (l : Option (List Event)) (k : ℕ) (made : List Made) → WritesFront stats w w l l k made
  front_none w l k made =
      let least = told_least k made in
      record { bytes = []; bytes_left = least.0; told = []; told_left = least.1; written = adds_none w; log = adds_none l; each = least.2 }

  module _ (w w' w'' : Option (List ℕ)) (l l' l'' : Option (List Event)) (made rest : List Made) where
    pub writes_more : (k : ℕ) → Writes stats w w' l l' k made → Writes stats w' w'' l' l'' (k + length made) rest → Writes stats w w'' l l'' k (made ++ rest)
    writes_more k p q =
        record {
          bytes = p.bytes ++ q.bytes;
          told = p.told ++ q.told;
          written = adds_more w w' w'' p.bytes q.bytes _ p.written q.written refl;
          log = adds_more l l' l'' p.told q.told _ p.log q.log refl;
          each = told_more k made rest p.bytes q.bytes p.told q.told p.each q.each;
        }

    -- all that is due, and a front of what comes behind it
    pub behind_more : Writes stats w w' l l' 0 made → WritesFront stats w' w'' l' l'' (0 + length made) rest → WritesBehind stats w w'' l l'' made (made ++ rest)
    behind_more p q =
        record {
          done = p.bytes;
          bytes = q.bytes;
          bytes_left = q.bytes_left;
          fore = p.told;
          told = q.told;
          told_left = q.told_left;
          written = adds_more w w' w'' p.bytes q.bytes _ p.written q.written refl;
          log = adds_more l l' l'' p.told q.told _ p.log q.log refl;
          due = p.each;
          each =
              same_told 0 (made ++ rest) (p.bytes ++ (q.bytes ++ q.bytes_left)) ((p.bytes ++ q.bytes) ++ q.bytes_left) (p.told ++ (q.told ++ q.told_left)) ((p.told ++ q.told) ++ q.told_left)
              (sym (append_assoc p.bytes q.bytes q.bytes_left)) (sym (append_assoc p.told q.told q.told_left))
              (told_more 0 made rest p.bytes (q.bytes ++ q.bytes_left) p.told (q.told ++ q.told_left) p.each q.each);
        }

  module _ (w w' : Option (List ℕ)) (l l' : Option (List Event)) where
    pub behind_front : (made : List Made) → WritesFront stats w w' l l' 0 made → WritesBehind stats w w' l l' [] made
    behind_front made p =
        record { done = []; bytes = p.bytes; bytes_left = p.bytes_left; fore = []; told = p.told; told_left = p.told_left; written = p.written; log = p.log; due = (refl, refl); each = p.each }

    pub front_behind : (owed made : List Made) → WritesBehind stats w w' l l' owed made → WritesFront stats w w' l l' 0 made
    front_behind owed made p =
        record { bytes = p.done ++ p.bytes; bytes_left = p.bytes_left; told = p.fore ++ p.told; told_left = p.told_left; written = p.written; log = p.log; each = p.each }

-- ---- without counts

plain_told : (k : ℕ) (made : List Made) (xs : List ℕ) (es : List Event) → ToldAll false k made xs es → xs ≡ texts k made
plain_told k [] xs es p = p.0
plain_told k (Ok doc ∷ made) xs es p =
    sym p.whole ∙ ap (λ (z : List ℕ). z ++ p.texts) (p.front.text ∙ append-nil (text_of k (Ok doc))) ∙ ap (λ (z : List ℕ). text_of k (Ok doc) ++ z) (plain_told (k + 1) made p.texts p.later p.back)
plain_told k (Err said ∷ made) xs es p =
    sym p.whole ∙ ap (λ (z : List ℕ). z ++ p.texts) p.front.0 ∙ ap (λ (z : List ℕ). text_of k (Err said) ++ z) (plain_told (k + 1) made p.texts p.later p.back)

pub plain_all : (w w' : Option (List ℕ)) (l l' : Option (List Event)) (k : ℕ) (made : List Made) → Writes false w w' l l' k made → Adds w w' (texts k made)
plain_all w w' l l' k made p = subst (λ (x : List ℕ). Adds w w' x) (plain_told k made p.bytes p.told p.each) p.written

pub plain_front : (w w' : Option (List ℕ)) (l l' : Option (List Event)) (k : ℕ) (made : List Made) → WritesFront false w w' l l' k made → AddsPrefix w w' (texts k made)
plain_front w w' l l' k made p =
    record { rest = p.bytes_left; added = record { done = p.bytes; added = p.written; parts = plain_told k made (p.bytes ++ p.bytes_left) (p.told ++ p.told_left) p.each } }

-- What a ruler is told, of one thing that was made after another.
use Rattle.std.proofs.Common.{◌≡◌, refl, ap, sym, subst, ◌∙◌, ℕ, ◌+◌, suc, List, [], ◌∷◌, ◌++◌, length, Option, Result, Ok, Err, append_assoc, append-nil, arith}
use Rattle.outside.specs.Told.{Stays}
use Rattle.outside.specs.declared.event.Event.{Event}
use Rattle.outside.specs.declared.event.Event.TheVariants.{Begin}
use Rattle.outside.proofs.Laws.{adds_none, adds_more, adds_stays}
use Rattle.doc_text.specs.declared.document.Doc.{Doc}
use Rattle.session.specs.Logs.{Tells, TellsAll, Logs, LogsFront, LogsFrom}
use Rattle.session.specs.declared.said.Said.{Said}

abbrev pub Made : Type 0
Made = Result Doc Said

-- ---- events

pub tells_more : (k : ℕ) (made rest : List Made) (xs ys : List Event) → TellsAll k made xs → TellsAll (k + length made) rest ys → TellsAll k (made ++ rest) (xs ++ ys)
tells_more k [] rest xs ys p q =
    let none : k + 0 ≡ k = omega arith in
    subst (λ (e : List Event). TellsAll k rest (e ++ ys)) (sym p) (subst (λ (n : ℕ). TellsAll n rest ys) none q)
tells_more k (first ∷ made) rest xs ys p q =
    let next : k + suc (length made) ≡ k + 1 + length made = omega arith in
    record {
      first = p.first;
      later = p.later ++ ys;
      parts = sym (append_assoc p.first p.later ys) ∙ ap (λ (e : List Event). e ++ ys) p.parts;
      front = p.front;
      back = tells_more (k + 1) made rest p.later ys p.back (subst (λ (n : ℕ). TellsAll n rest ys) next q);
    }

-- the least that can be told: that layouts begin
least : ℕ → List Made → List Event
least k [] = []
least k (Ok doc ∷ made) = Begin k ∷ least (k + 1) made
least k (Err said ∷ made) = least (k + 1) made

tells_least : (k : ℕ) (made : List Made) → TellsAll k made (least k made)
unfolding least
tells_least k [] = refl
tells_least k (Ok doc ∷ made) = record { first = Begin k ∷ []; later = least (k + 1) made; parts = refl; front = record { measured = []; parts = refl; each = tt }; back = tells_least (k + 1) made }
tells_least k (Err said ∷ made) = record { first = []; later = least (k + 1) made; parts = refl; front = refl; back = tells_least (k + 1) made }

-- one thing that was made
pub tells_one : (k : ℕ) (made : Made) (events : List Event) → Tells k made events → TellsAll k (made ∷ []) events
tells_one k made events p = record { first = events; later = []; parts = append-nil events; front = p; back = refl }

-- ---- logs

pub logs_none : (a : Option (List Event)) (k : ℕ) → Logs a a k []
logs_none a k = record { events = []; added = adds_none a; told = refl }

pub front_none : (a : Option (List Event)) (k : ℕ) (made : List Made) → LogsFront a a k made
front_none a k made = record { events = []; rest = least k made; added = adds_none a; told = tells_least k made }

pub front_stays : (a b : Option (List Event)) (k : ℕ) (made : List Made) → Stays a b → LogsFront a b k made
front_stays a b k made p = record { events = []; rest = least k made; added = adds_stays a a b [] (adds_none a) p; told = tells_least k made }

pub front_all : (a b : Option (List Event)) (k : ℕ) (made : List Made) → Logs a b k made → LogsFront a b k made
front_all a b k made p = record { events = p.events; rest = []; added = p.added; told = subst (TellsAll k made) (sym (append-nil p.events)) p.told }

module _ (a b c : Option (List Event)) (k : ℕ) (made rest : List Made) (p : Logs a b k made) where
  pub logs_more : Logs b c (k + length made) rest → Logs a c k (made ++ rest)
  logs_more q = record { events = p.events ++ q.events; added = adds_more a b c p.events q.events _ p.added q.added refl; told = tells_more k made rest p.events q.events p.told q.told }

  pub front_more : LogsFront b c (k + length made) rest → LogsFront a c k (made ++ rest)
  front_more q =
      record {
        events = p.events ++ q.events;
        rest = q.rest;
        added = adds_more a b c p.events q.events _ p.added q.added refl;
        told = subst (TellsAll k (made ++ rest)) (sym (append_assoc p.events q.events q.rest)) (tells_more k made rest p.events (q.events ++ q.rest) p.told q.told);
      }

-- all that is due, and a front of what comes behind it
pub from_more : (a b c : Option (List Event)) (made rest : List Made) → Logs a b 0 made → LogsFront b c (0 + length made) rest → LogsFrom a c made (made ++ rest)
from_more a b c made rest p q =
    record {
      done = p.events;
      events = q.events;
      rest = q.rest;
      added = adds_more a b c p.events q.events _ p.added q.added refl;
      due = p.told;
      told = subst (TellsAll 0 (made ++ rest)) (sym (append_assoc p.events q.events q.rest)) (tells_more 0 made rest p.events (q.events ++ q.rest) p.told q.told);
    }

-- A log that grows by one layout after another, until none of a whole is left.
use Rattle.std.proofs.Common.{◌≡◌, sym, ap, subst, ◌∙◌, refl, ℕ, ◌+◌, List, [], ◌∷◌, ◌++◌, length, Option, None, Ok, append_assoc, append-nil, length-append, arith}
use Rattle.outside.specs.declared.event.Event.{Event}
use Rattle.doc_text.specs.declared.document.Doc.{Doc}
use Rattle.session.specs.Logs.{TellsAll, Logs, LogsFront}
use Rattle.session.specs.Made.{LogsAllBut}
use Rattle.session.proofs.Logs.{Made, front_all, front_more, front_none, logs_more, logs_none, tells_more}

-- a front of what is told of more
pub front_longer : (a b : Option (List Event)) (k : ℕ) (made rest : List Made) → LogsFront a b k made → LogsFront a b k (made ++ rest)
front_longer a b k made rest p =
    let none : LogsFront None None (k + length made) rest = front_none None (k + length made) rest in
    record {
      events = p.events;
      rest = p.rest ++ (none.events ++ none.rest);
      added = p.added;
      told = subst (TellsAll k (made ++ rest)) (append_assoc p.events p.rest (none.events ++ none.rest)) (tells_more k made rest (p.events ++ p.rest) (none.events ++ none.rest) p.told none.told);
    }

pub but_start : (a : Option (List Event)) (first : ℕ) (whole : List Made) → LogsAllBut a a first first whole whole
but_start a first whole = record { done = []; parts = refl; number = omega arith; log = logs_none a first }

module _ (a b : Option (List Event)) (first next : ℕ) (rest whole : List Made) (p : LogsAllBut a b first next rest whole) where
  -- none is left
  pub but_end : rest ≡ [] → Logs a b first whole
  but_end e = subst (λ (made : List Made). Logs a b first made) (sym (append-nil p.done) ∙ ap (λ (l : List Made). p.done ++ l) (sym e) ∙ p.parts) p.log

  pub but_stays : LogsFront a b first whole
  but_stays = subst (λ (made : List Made). LogsFront a b first made) p.parts (front_longer a b first p.done rest (front_all a b first p.done p.log))

-- one layout more, or a front of it
module _ (a b c : Option (List Event)) (first next : ℕ) (doc : Doc) (rest whole left : List Made) (p : LogsAllBut a b first next left whole) (e : left ≡ Ok doc ∷ rest) where
  whole_is : (p.done ++ Ok doc ∷ []) ++ rest ≡ whole
  whole_is = append_assoc p.done (Ok doc ∷ []) rest ∙ ap (λ (l : List Made). p.done ++ l) (sym e) ∙ p.parts

  pub but_next : Logs b c next (Ok doc ∷ []) → LogsAllBut a c first (next + 1) rest whole
  but_next q =
      record {
        done = p.done ++ Ok doc ∷ [];
        parts = whole_is;
        number = omega (arith, p.number, length-append p.done (Ok doc ∷ []));
        log = logs_more a b c first p.done (Ok doc ∷ []) p.log (subst (λ (n : ℕ). Logs b c n (Ok doc ∷ [])) (sym p.number) q);
      }

  pub but_stop : LogsFront b c next (Ok doc ∷ []) → LogsFront a c first whole
  but_stop q =
      subst (λ (made : List Made). LogsFront a c first made) whole_is
      (front_longer a c first (p.done ++ Ok doc ∷ []) rest (front_more a b c first p.done (Ok doc ∷ []) p.log (subst (λ (n : ℕ). LogsFront b c n (Ok doc ∷ [])) (sym p.number) q)))

-- the first layout, and those after it
module _ (a b c : Option (List Event)) (doc : Doc) (rest whole : List Made) (p : Logs a b 0 (Ok doc ∷ [])) (e : whole ≡ Ok doc ∷ rest) where
  pub first_and_all : Logs b c 1 rest → Logs a c 0 whole
  first_and_all q = subst (λ (made : List Made). Logs a c 0 made) (sym e) (logs_more a b c 0 (Ok doc ∷ []) rest p q)

  pub first_and_some : LogsFront b c 1 rest → LogsFront a c 0 whole
  first_and_some q = subst (λ (made : List Made). LogsFront a c 0 made) (sym e) (front_more a b c 0 (Ok doc ∷ []) rest p q)

-- the first layout stopped
pub first_stopped : (a b : Option (List Event)) (doc : Doc) (rest whole : List Made) → LogsFront a b 0 (Ok doc ∷ []) → whole ≡ Ok doc ∷ rest → LogsFront a b 0 whole
first_stopped a b doc rest whole q e = subst (λ (made : List Made). LogsFront a b 0 made) (sym e) (front_longer a b 0 (Ok doc ∷ []) rest q)

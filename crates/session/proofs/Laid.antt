-- What a layout tells its ruler.
use Rattle.std.proofs.Common.{◌≡◌, refl, ap, subst, ◌∙◌, ℕ, Bool, false, List, [], ◌∷◌, ◌++◌, length, Option, None, Ok}
use Rattle.outside.specs.Told.{Stays, Adds}
use Rattle.outside.specs.declared.event.Event.{Event}
use Rattle.outside.specs.declared.event.Event.TheVariants.{Begin}
use Rattle.outside.proofs.Laws.{adds_more}
use Rattle.doc_text.specs.declared.document.Doc.{Doc}
use Rattle.placing.specs.Walks.{rising, state}
use Rattle.placing.proofs.Walks.{walk_none}
use Rattle.page_tree.specs.Pages.{Held}
use Rattle.session.specs.Boxes.{boxes_of}
use Rattle.session.specs.Printing.{box_lines, counts, layout_line, print}
use Rattle.session.specs.Script.{text_of}
use Rattle.session.specs.Written.{Prints}
use Rattle.session.specs.Laying.{Measures, LaysOut, KeepsMore}
use Rattle.session.specs.Standing.{IsSound}
use Rattle.session.specs.Logs.{Logs, LogsFront}
use Rattle.session.proofs.Logs.{tells_one, front_stays, front_all}

module _ (a b c : Option (List Event)) (k : ℕ) (doc : Doc) (before after : ℕ) where
  laid_begun : (b' : Adds a b (Begin k ∷ [])) (p : Measures doc b c before after) → Adds a c (Begin k ∷ p.events)
  laid_begun q p = adds_more a b c (Begin k ∷ []) p.events _ q p.log refl

module _ (a b c : Option (List Event)) (k : ℕ) (doc : Doc) where
  -- a layout
  pub laid_out : (before after : ℕ) → Adds a b (Begin k ∷ []) → Measures doc b c before after → before ≡ 0 → LaysOut k doc a c after
  laid_out before after q p z =
      record {
        events = p.events;
        each = p.each;
        log = laid_begun a b c k doc before after q p;
        count = subst (λ (n : ℕ). after ≡ rising n (length p.events)) z p.count;
      }

  -- one that stopped
  pub laid_part : (before after : ℕ) → Adds a b (Begin k ∷ []) → Measures doc b c before after → LogsFront a c k (Ok doc ∷ [])
  laid_part before after q p =
      front_all a c k (Ok doc ∷ [])
      (record { events = Begin k ∷ p.events; added = laid_begun a b c k doc before after q p; told = tells_one k (Ok doc) (Begin k ∷ p.events) (record { measured = p.events; parts = refl; each = p.each }) })

pub laid_not : (a b : Option (List Event)) (k : ℕ) (doc : Doc) → Stays a b → LogsFront a b k (Ok doc ∷ [])
laid_not a b k doc p = front_stays a b k (Ok doc ∷ []) p

-- nothing was kept yet
pub kept_none : (page : Held) → IsSound page → KeepsMore page page
kept_none page s =
    let none = walk_none (λ n q. Unit {0}) (state page.nodes (record { measured = 0; added = 0; lost = false }) 0 None) s.right in
    record { entries = none.added; kept = none.kept; fresh = none.fresh }

pub ruleset laying = (laid_out, laid_part, laid_not, kept_none)

pub laid_logs : (a c : Option (List Event)) (k : ℕ) (doc : Doc) (measured : ℕ) → LaysOut k doc a c measured → Logs a c k (Ok doc ∷ [])
laid_logs a c k doc measured p =
    record { events = Begin k ∷ p.events; added = p.log; told = tells_one k (Ok doc) (Begin k ∷ p.events) (record { measured = p.events; parts = refl; each = p.each }) }

pub laid_front : (a c : Option (List Event)) (k : ℕ) (doc : Doc) (measured : ℕ) → LaysOut k doc a c measured → LogsFront a c k (Ok doc ∷ [])
laid_front a c k doc measured p = front_all a c k (Ok doc ∷ []) (laid_logs a c k doc measured p)

-- its text, with its counts where they are wanted
pub laid_prints : (stats : Bool) (a c : Option (List Event)) (k : ℕ) (doc : Doc) (measured added : ℕ) (first old new : List ℕ) → LaysOut k doc a c measured → first ≡ layout_line k → old ≡ first ++ box_lines (boxes_of doc)
    → new ≡ old ++ counts stats measured added → Prints stats a c k (Ok doc) new
unfolding text_of
laid_prints stats a c k doc measured added first old new p f o n =
    record {
      told = Begin k ∷ p.events;
      log = p.log;
      each = record {
        measured = p.events;
        parts = refl;
        each = p.each;
        added = added;
        text =
            n ∙ ap (λ (x : List ℕ). x ++ counts stats measured added) (o ∙ ap (λ (x : List ℕ). x ++ box_lines (boxes_of doc)) f)
            ∙ ap (λ (m : ℕ). print k (boxes_of doc) ++ counts stats m added) p.count;
      };
    }

pub ruleset laid_text = (laid_prints, laid_front)

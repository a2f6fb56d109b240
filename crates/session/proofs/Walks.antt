-- A layout as its engine tells it: its begin, and the walk over its page.
use Rattle.std.proofs.Common.{◌≡◌, ap, sym, subst, ◌∙◌, ℕ, ◌≤◌, false, List, [], ◌∷◌, ◌++◌, length, Option, append-nil, arith}
use Rattle.outside.specs.Told.{Adds}
use Rattle.outside.specs.declared.event.Event.{Event}
use Rattle.outside.specs.declared.event.Event.TheVariants.{Begin}
use Rattle.outside.specs.declared.tally.Tally.{Tally}
use Rattle.outside.proofs.Laws.{adds_more}
use Rattle.placing.specs.Nodes.{bare}
use Rattle.placing.specs.Walks.{State, events_of, rising, state}
use Rattle.box_layout.specs.Paths.{IsAllKept, IsPathKept}
use Rattle.page_tree.specs.Pages.{Held, document_of}
use Rattle.doc_text.specs.Edits.{tree_of}
use Rattle.asked_pages.specs.AskedOf.{containers_by}
use Rattle.session.proofs.Counts.{rising_least}
use Rattle.session.specs.Laying.{IsQuiet, KeepsAll, KeepsPath, Walks, WalksPage}

module _ (k : ℕ) (old new : Held) (told began told' : Option (List Event)) (tally tally' : Tally) (passes passes' : ℕ) (start : Adds told began (Begin k ∷ [])) (none : tally ≡ record { measured = 0; added = 0; lost = false }) where
  pub walks_there : WalksPage old new tally tally' passes passes' began told' → Walks k old new told told' tally'.measured tally'.added passes passes'
  walks_there p =
      let w = p.walk in
      let events = events_of (bare old.nodes.tree) w.added in
      let whole : events ++ [] ≡ events = append-nil events in
      let counted : tally'.added ≡ rising 0 (length w.added) = w.counted ∙ ap (λ (t : Tally). rising t.added (length w.added)) none in
      record {
        entries = w.added;
        log = adds_more told began told' (Begin k ∷ []) (events ++ []) (Begin k ∷ events) start w.log (ap (λ (l : List Event). Begin k ∷ l) (sym whole));
        kept = w.kept;
        fresh = w.fresh;
        asked = w.asked;
        events = w.measured ∙ ap (λ (l : List Event). rising tally.measured (length l)) whole ∙ ap (λ (t : Tally). rising t.measured (length events)) none;
        count = counted;
        ticks = omega (arith, w.ticks);
        each = p.each;
        bounded = p.bounded;
        least = λ test empty. subst (λ (n : ℕ). containers_by test (tree_of (document_of old)) ≤ n) (sym counted) (rising_least (containers_by test (tree_of (document_of old))) (length w.added) (p.bounded.least test empty) (p.few test));
      }

  pub path_there : IsPathKept (bare old.nodes.tree) old.width old.height (state new.nodes tally' passes' told') → KeepsPath old new
  path_there p = p

  all_there : KeepsAll old → IsAllKept (bare old.nodes.tree) old.width old.height (state old.nodes tally passes began)
  all_there p = record { inline = p.inline; block = p.block; path = p.path }

  pub quiet_there : KeepsAll old → (IsAllKept (bare old.nodes.tree) old.width old.height (state old.nodes tally passes began) → state new.nodes tally' passes' told' ≡ state old.nodes tally passes began) → IsQuiet k old new told told' tally'.measured tally'.added passes passes'
  quiet_there p h =
      let same = h (all_there p) in
      record {
        nodes = ap (λ (s : State). s.arena) same;
        log = subst (λ (l : Option (List Event)). Adds told l (Begin k ∷ [])) (sym (ap (λ (s : State). s.log) same)) start;
        events = ap (λ (s : State). s.tally.measured) same ∙ ap (λ (t : Tally). t.measured) none;
        count = ap (λ (s : State). s.tally.added) same ∙ ap (λ (t : Tally). t.added) none;
        ticks = ap (λ (s : State). s.passes) same;
      }

pub ruleset walking = (walks_there, path_there, quiet_there)

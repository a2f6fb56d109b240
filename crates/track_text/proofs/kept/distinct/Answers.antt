use Rattle.std.proofs.Common.{rules, ◌≡◌, ◌+◌, ◌++◌, ◌∷◌, [], List, drop, ap, ◌∙◌, sym, subst, true, false}
use Rattle.track_text.specs.Words.{Word}
use Rattle.track_text.specs.NameSets.{with_names, is_among}
use Rattle.track_text.proofs.Holding.{from_there, Holds, holds_more, holds_old, is_taken, is_free, distinct_new, distinct_old}
use Rattle.track_text.proofs.kept.distinct.Goals.{then-branch+in_ok-push, else-branch}
use Rattle.track_text.proofs.kept.distinct.Goals as goal

pub loop-name-preserved : goal.loop-name-preserved
loop-name-preserved c =
    let item = c.name-item.result in
    let rest = drop (c.loop-name.name-index + 1) c.args.names.now in
    let e : drop c.loop-name.name-index c.args.names.now ≡ item ∷ rest = search (rules, from_there) in
    elim c.if-branch.branch [
      | then-branch+in_ok-push w ↦
          let s : c.if-branch.set ≡ c.loop-name.set ++ item ∷ [] = search rules in
          let free : is_among c.loop-name.set item ≡ false = is_free c.loop-name.seen c.loop-name.set item c.in_ok-insert.field-0 c.loop-name.invariant.holds c.in_ok-insert.ensures.added (search rules) in
          record {
            holds = subst (λ (names : List Word). Holds c.insert.new.self names) (sym s) (holds_more c.loop-name.seen c.insert.new.self c.loop-name.set item c.loop-name.invariant.holds c.in_ok-insert.ensures.updates);
            rest = ap (λ (names : List Word). with_names names rest) s ∙ sym (distinct_new c.loop-name.set (drop c.loop-name.name-index c.args.names.now) item rest e free) ∙ c.loop-name.invariant.rest;
          }
      | else-branch w ↦
          let s : c.if-branch.set ≡ c.loop-name.set = search rules in
          let taken : is_among c.loop-name.set item ≡ true = is_taken c.loop-name.seen c.loop-name.set item c.in_ok-insert.field-0 c.loop-name.invariant.holds c.in_ok-insert.ensures.added (search rules) in
          record {
            holds = subst (λ (names : List Word). Holds c.insert.new.self names) (sym s) (holds_old c.loop-name.seen c.insert.new.self c.loop-name.set item c.loop-name.invariant.holds c.in_ok-insert.ensures.updates taken);
            rest = ap (λ (names : List Word). with_names names rest) s ∙ sym (distinct_old c.loop-name.set (drop c.loop-name.name-index c.args.names.now) item rest e taken) ∙ c.loop-name.invariant.rest;
          }
    ]

use Rattle.std.proofs.Common.{rules, ◌≡◌, ◌+◌, ◌++◌, ◌∷◌, [], List, drop, sym, subst}
use Rattle.std.specs.BTreeSet.{BTreeSet}
use Rattle.track_text.specs.declared.entry.Entry.{Entry}
use Rattle.track_text.specs.Words.{Word}
use Rattle.track_text.proofs.Holding.{from_there, Thinning, thinning_track, thinning_new, thinning_old}
use Rattle.track_text.proofs.kept.thinned.Goals.{in-Track+in_ok-push-in-Track, in-Named+in_ok-insert-in-Named+then-branch+in_ok-push-in-Named, in-Named+in_ok-insert-in-Named+else-branch}
use Rattle.track_text.proofs.kept.thinned.Goals as goal

pub loop-entry-preserved : goal.loop-entry-preserved
loop-entry-preserved c =
    let item = c.entry-item.result in
    let left = drop c.loop-entry.entry-index c.args.entries.now in
    let rest = drop (c.loop-entry.entry-index + 1) c.args.entries.now in
    let e : drop c.loop-entry.entry-index c.args.entries.now ≡ item ∷ rest = search (rules, from_there) in
    elim c.match-entry.branch [
      | in-Track+in_ok-push-in-Track w ↦
          let pushed : c.match-entry.thinned ≡ c.loop-entry.thinned ++ item ∷ [] = search rules in
          subst (λ (set : BTreeSet Word). Thinning set c.match-entry.thinned rest c.args.entries.now) (sym w.seen-is)
          (subst (λ (out : List Entry). Thinning w.new-seen-in-Track.result out rest c.args.entries.now) (sym pushed)
          (thinning_track c.loop-entry.seen w.new-seen-in-Track.result c.loop-entry.thinned left rest c.args.entries.now item w.in-Track.field-0 c.loop-entry.invariant e (search rules) w.new-seen-in-Track.ensures.empty))
      | in-Named+in_ok-insert-in-Named+then-branch+in_ok-push-in-Named w ↦
          let pushed : c.match-entry.thinned ≡ c.loop-entry.thinned ++ item ∷ [] = search rules in
          subst (λ (set : BTreeSet Word). Thinning set c.match-entry.thinned rest c.args.entries.now) (sym w.seen-is)
          (subst (λ (out : List Entry). Thinning w.insert.new.self out rest c.args.entries.now) (sym pushed)
          (thinning_new c.loop-entry.seen w.insert.new.self c.loop-entry.thinned left rest c.args.entries.now item w.in-Named.name w.in_ok-insert-in-Named.field-0 c.loop-entry.invariant e (search rules) w.in_ok-insert-in-Named.ensures.updates w.in_ok-insert-in-Named.ensures.added w.if-branch.true))
      | in-Named+in_ok-insert-in-Named+else-branch w ↦
          subst (λ (set : BTreeSet Word). Thinning set c.match-entry.thinned rest c.args.entries.now) (sym w.seen-is)
          (subst (λ (out : List Entry). Thinning w.insert.new.self out rest c.args.entries.now) (sym w.thinned-is)
          (thinning_old c.loop-entry.seen w.insert.new.self c.loop-entry.thinned left rest c.args.entries.now item w.in-Named.name w.in_ok-insert-in-Named.field-0 c.loop-entry.invariant e (search rules) w.in_ok-insert-in-Named.ensures.updates w.in_ok-insert-in-Named.ensures.added w.if-branch.false))
    ]

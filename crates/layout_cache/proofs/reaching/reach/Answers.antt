use Rattle.std.proofs.Common.{◌++◌, ◌∷◌, [], sym, ap, ◌∙◌}
use Rattle.layout_cache.proofs.Reaches.{none_by, found_by}
use Rattle.layout_cache.proofs.Once.{once_in}
use Rattle.layout_cache.proofs.OneWay.{one_way}
use Rattle.layout_cache.proofs.reaching.reach.Goals as goal

pub returns-then-not-has-clause-list : goal.returns-then-not-has-clause-list
returns-then-not-has-clause-list g c =
    c.new-found.ensures.items
    ∙ none_by g.T.Linked.subgrid c.args.tree.now.tree c.args.touched.now c.args.grid c.root-root.result c.root-root.ensures.root c.in_ok-marks.marks.touched c.in_ok-marks.marks.above c.in_ok-marks.marks.grid c.in_ok-marks.ensures.touched c.in_ok-marks.ensures.above c.in_ok-marks.ensures.grid
    (sym c.has.ensures ∙ c.if-not-has.true)

pub returns-clause-list : goal.returns-clause-list
returns-clause-list g c =
    found_by g.T.Linked.subgrid c.args.tree.now.tree c.args.touched.now c.args.grid c.root-root.result c.root-root.ensures.root c.in_ok-marks.marks.touched c.in_ok-marks.marks.above c.in_ok-marks.marks.grid c.in_ok-marks.ensures.touched c.in_ok-marks.ensures.above c.in_ok-marks.ensures.grid
    c.visit.new.found.items c.push.new.self.items c.feels.result (sym c.has.ensures ∙ c.if-not-has.false) (c.in_ok-push.ensures.items ∙ ap (λ l. l ++ c.root-root.result ∷ []) c.new-found.ensures.items) c.feels.ensures c.in_ok-visit.ensures

pub returns-then-not-has-clause-once : goal.returns-then-not-has-clause-once
returns-then-not-has-clause-once g c = once_in g.T.Linked.subgrid c.args.tree.now.tree c.args.touched.now c.args.grid _ c.root-root.ensures.sound.distinct (returns-then-not-has-clause-list g c)

pub returns-clause-once : goal.returns-clause-once
returns-clause-once g c = once_in g.T.Linked.subgrid c.args.tree.now.tree c.args.touched.now c.args.grid _ c.root-root.ensures.sound.distinct (returns-clause-list g c)

pub returns-in-Some-clause-list : goal.returns-in-Some-clause-list
returns-in-Some-clause-list g c =
    c.in_ok-list.ensures ∙ sym (one_way g.T.Linked.subgrid c.args.tree.now.tree c.args.touched.now c.args.grid c.in-Some.id c.root-root.ensures.sound.distinct c.in-Some.ensures)

pub returns-in-Some-clause-once : goal.returns-in-Some-clause-once
returns-in-Some-clause-once g c = once_in g.T.Linked.subgrid c.args.tree.now.tree c.args.touched.now c.args.grid _ c.root-root.ensures.sound.distinct (returns-in-Some-clause-list g c)

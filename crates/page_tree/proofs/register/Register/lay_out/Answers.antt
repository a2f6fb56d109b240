use Rattle.std.proofs.Common.{subst, sym}
use Rattle.std.specs.Prelude.{IfOk, OnOk}
use Rattle.node_arena.specs.Plain.{Nodes}
use Rattle.placing.specs.declared.node.Node.{Node}
use Rattle.placing.specs.Kept.{kept_at}
use Rattle.placing.specs.Nodes.{bare}
use Rattle.placing.specs.Walks.{state}
use Rattle.std.specs.BTreeMap.{get}
use Rattle.std.specs.Ordering.{nat_cmp}
use Rattle.std.specs.Cmp.Lexicographic.{slice_cmp}
use Rattle.box_layout.specs.FoundRoots.{IsRootFrame}
use Rattle.box_layout.specs.LastBoxes.{AreFound}
use Rattle.box_layout.specs.LeafHeights.{AreMeasured}
use Rattle.box_layout.specs.Paths.{IsPathKept}
use Rattle.page_tree.proofs.Bares.{same_registered}
use Rattle.page_tree.proofs.register.Register.lay_out.Goals as goal

pub invariant_of-self : goal.invariant_of-self
invariant_of-self g c = same_registered (get (slice_cmp nat_cmp) c.self.inside.numbers) _ c.self.inside.tree.tree c.walk_boxes.ensures.bare c.self.invariant

pub returns-clause-paths : goal.returns-clause-paths
returns-clause-paths g c =
    subst (λ (n : Nodes Node). OnOk c.walk_boxes.result (IsPathKept (bare n.tree) c.args.size.0 c.args.size.1 (state c.walk_boxes.new.tree c.walk_boxes.new.tally c.walk_boxes.new.passes (g.R.Ruler.log c.walk_boxes.new.ruler)))) c.self.view_is c.walk_boxes.ensures.paths

pub returns-clause-leaves : goal.returns-clause-leaves
returns-clause-leaves g c =
    subst
    (λ (n : Nodes Node). OnOk c.walk_boxes.result
    (AreMeasured (bare n.tree) c.args.size.0 c.args.size.1 (state n c.args.tally.now c.args.passes.now (g.R.Ruler.log c.args.ruler.now)) (state c.walk_boxes.new.tree c.walk_boxes.new.tally c.walk_boxes.new.passes (g.R.Ruler.log c.walk_boxes.new.ruler)))) c.self.view_is
    c.walk_boxes.ensures.leaves

pub walk_boxes-requires-clause-last : goal.walk_boxes-requires-clause-last
walk_boxes-requires-clause-last g c = subst (λ (n : Nodes Node). AreFound (bare n.tree) (kept_at n.tree) c.args.last.now) (sym c.self.view_is) c.requires.last

pub returns-clause-root : goal.returns-clause-root
returns-clause-root g c = subst (λ (n : Nodes Node). IfOk c.walk_boxes.result (λ root. IsRootFrame (bare n.tree) c.args.size.0 c.args.size.1 root)) c.self.view_is c.walk_boxes.ensures.root

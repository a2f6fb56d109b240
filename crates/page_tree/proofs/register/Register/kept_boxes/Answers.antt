use Rattle.std.proofs.Common.{subst, sym, ◌∙◌}
use Rattle.std.specs.BTreeMap.{get}
use Rattle.std.specs.Ordering.{nat_cmp}
use Rattle.std.specs.Cmp.Lexicographic.{slice_cmp}
use Rattle.node_arena.specs.Plain.{Nodes}
use Rattle.placing.specs.declared.node.Node.{Node}
use Rattle.placing.specs.Kept.{kept_at}
use Rattle.placing.specs.Nodes.{bare}
use Rattle.box_layout.specs.FoundRoots.{IsRootFrame}
use Rattle.box_layout.specs.LastBoxes.{AreFound}
use Rattle.box_layout.specs.Paths.{IsPathKept, kept_state}
use Rattle.page_tree.specs.Registers.{IsRegister}
use Rattle.page_tree.proofs.register.Register.kept_boxes.Goals as goal

pub invariant_of-self : goal.invariant_of-self
invariant_of-self g c = subst (λ (n : Nodes Node). IsRegister (get (slice_cmp nat_cmp) c.self.inside.numbers) n.tree) (sym c.kept_boxes.ensures.same) c.self.invariant

pub kept_boxes-requires-clause-last : goal.kept_boxes-requires-clause-last
kept_boxes-requires-clause-last g c = subst (λ (n : Nodes Node). AreFound (bare n.tree) (kept_at n.tree) c.args.last.now) (sym c.self.view_is) c.requires.last

pub kept_boxes-requires-clause-root : goal.kept_boxes-requires-clause-root
kept_boxes-requires-clause-root g c = subst (λ (n : Nodes Node). IsRootFrame (bare n.tree) c.args.root_frame.now.width c.args.root_frame.now.height c.args.root_frame.now) (sym c.self.view_is) c.requires.root

pub kept_boxes-requires-clause-kept : goal.kept_boxes-requires-clause-kept
kept_boxes-requires-clause-kept g c = subst (λ (n : Nodes Node). IsPathKept (bare n.tree) c.args.root_frame.now.width c.args.root_frame.now.height (kept_state n)) (sym c.self.view_is) c.requires.kept

pub returns-clause-same : goal.returns-clause-same
returns-clause-same g c = c.kept_boxes.ensures.same ∙ c.self.view_is

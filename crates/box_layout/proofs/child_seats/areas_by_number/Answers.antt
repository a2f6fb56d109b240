use Rattle.std.proofs.Common.{arith, ap, ◌∙◌, ◌<◌, length, map}
use Rattle.std.proofs.lemmas.List.{length-map, length-set}
use Rattle.lunit.specs.declared.geometry.Area.{Area}
use Rattle.node_arena.specs.declared.number.NodeId.{NodeId}
use Rattle.placing.specs.Nodes.{bare}
use Rattle.box_layout.proofs.Seating.{all_come, all_coming, areas_counted, coming_next, number_there}
use Rattle.box_layout.proofs.child_seats.areas_by_number.Goals as goal

pub loop-index-init : goal.loop-index-init
loop-index-init c =
    record {
      counted = ap length (c.in_ok-areas.ensures ∙ ap (map (λ (e : NodeId × Area). e.1)) c.as_slice.ensures) ∙ length-map c.args.placed.now.areas (λ (e : NodeId × Area). e.1) ∙ areas_counted (bare c.args.tree.now.tree) c.args.id c.args.placed.now c.requires.children;
      coming = λ number within. all_coming (bare c.args.tree.now.tree) c.args.id c.args.placed.now c.requires.children c.in_ok-areas.areas number within;
    }

pub set-requires : goal.set-requires
set-requires c = omega (arith, c.loop-index.invariant.counted, number_there (bare c.args.tree.now.tree) c.args.id c.entry-child.result.child c.entry-child.result.number c.root.ensures.tree c.entry-child.ensures.child)

pub loop-index-preserved : goal.loop-index-preserved
loop-index-preserved c =
    let within : c.entry-child.result.number < length c.loop-index.areas = omega (arith, c.loop-index.invariant.counted, number_there (bare c.args.tree.now.tree) c.args.id c.entry-child.result.child c.entry-child.result.number c.root.ensures.tree c.entry-child.ensures.child) in
    record {
      counted = ap length c.set.ensures ∙ length-set c.loop-index.areas c.entry-child.result.number c.entry-child.result.area ∙ c.loop-index.invariant.counted;
      coming =
          λ number small. coming_next (bare c.args.tree.now.tree) c.args.id c.args.placed.now c.loop-index.areas c.set.new.self c.loop-index.index c.entry-child.result c.entry-child.ensures.next c.set.ensures within c.entry-child.ensures.child c.entry-child.ensures.seat number
          (c.loop-index.invariant.coming number small);
    }

pub returns-clause-areas : goal.returns-clause-areas
returns-clause-areas c =
    λ number within d. all_come (bare c.args.tree.now.tree) c.args.id c.args.placed.now c.requires.children c.loop-index.areas c.loop-index.index number (omega (arith, c.loop-index-test.false, c.len-index-end.ensures)) (c.loop-index.invariant.coming number within) d

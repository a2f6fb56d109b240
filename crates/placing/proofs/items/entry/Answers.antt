use Rattle.std.proofs.Common.{◌∙◌, ap, arith, length, pos, sym}
use Rattle.std.specs.Prelude.{get_or, slice_get}
use Rattle.std.proofs.lemmas.Option.{slice_get-get_or}
use Rattle.lunit.specs.declared.geometry.Area.{Area}
use Rattle.node_arena.specs.declared.number.NodeId.{NodeId}
use Rattle.placing.specs.Nodes.{bare}
use Rattle.placing.proofs.Entries.{alone_there, is_entry}
use Rattle.placing.proofs.items.entry.Goals as goal

abbrev no_child : NodeId × Area
no_child = (record { slot = 0; turn = 0 }, record { columns = record { start = pos 0; end = pos 0 }; rows = record { start = pos 0; end = pos 0 } })

pub returns-clause-live : goal.returns-clause-live
returns-clause-live c = (is_entry (bare c.args.tree.now.tree) c.args.id c.args.placed.now c.as_slice.result.now c.as_slice-2.result.now c.args.index no_child c.root.ensures.tree c.requires.children c.as_slice.ensures c.as_slice-2.ensures c.requires.index).next.live

pub returns-clause-child : goal.returns-clause-child
returns-clause-child c = (is_entry (bare c.args.tree.now.tree) c.args.id c.args.placed.now c.as_slice.result.now c.as_slice-2.result.now c.args.index no_child c.root.ensures.tree c.requires.children c.as_slice.ensures c.as_slice-2.ensures c.requires.index).next.number

pub returns-clause-told : goal.returns-clause-told
returns-clause-told c = ap (λ l. slice_get l c.args.index) (sym c.as_slice-2.ensures) ∙ slice_get-get_or c.as_slice-2.result.now c.args.index no_child (omega (arith, c.requires.index, ap length c.as_slice-2.ensures))

pub returns-clause-next : goal.returns-clause-next
returns-clause-next c = (is_entry (bare c.args.tree.now.tree) c.args.id c.args.placed.now c.as_slice.result.now c.as_slice-2.result.now c.args.index no_child c.root.ensures.tree c.requires.children c.as_slice.ensures c.as_slice-2.ensures c.requires.index).entry

pub returns-clause-inside : goal.returns-clause-inside
returns-clause-inside c = (is_entry (bare c.args.tree.now.tree) c.args.id c.args.placed.now c.as_slice.result.now c.as_slice-2.result.now c.args.index no_child c.root.ensures.tree c.requires.children c.as_slice.ensures c.as_slice-2.ensures c.requires.index).inside

pub returns-clause-seat : goal.returns-clause-seat
returns-clause-seat c = (is_entry (bare c.args.tree.now.tree) c.args.id c.args.placed.now c.as_slice.result.now c.as_slice-2.result.now c.args.index no_child c.root.ensures.tree c.requires.children c.as_slice.ensures c.as_slice-2.ensures c.requires.index).seat

pub returns-clause-alone : goal.returns-clause-alone
returns-clause-alone c = alone_there (bare c.args.tree.now.tree) (get_or c.as_slice-2.result.now c.args.index no_child).0 (get_or c.as_slice-2.result.now c.args.index no_child).1

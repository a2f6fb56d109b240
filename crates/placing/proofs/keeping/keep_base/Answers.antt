use Rattle.std.proofs.Common.{◌∷◌, ◌∙◌, ap, is_some, sym}
use Rattle.std.specs.Prelude.{take}
use Rattle.std.specs.Option.{option_copied_mut}
use Rattle.placing.specs.declared.told.Past.{Past}
use Rattle.placing.proofs.Alike.{from_alike, from_stopped_alike}
use Rattle.placing.proofs.Bares.{value_some}
use Rattle.placing.proofs.Loans.{mut_some}
use Rattle.placing.proofs.Puts.{base_more, base_put, changes_alike, changes_own, changes_right, past_there}
use Rattle.placing.proofs.keeping.keep_base.Goals as goal

pub unwrap-node-requires : goal.unwrap-node-requires
unwrap-node-requires c = mut_some c.get_mut.result (ap is_some c.get_mut.ensures.value ∙ value_some c.args.tree.now.tree c.args.id c.requires.live)

pub returns-clause-right : goal.returns-clause-right
returns-clause-right c =
    let k = base_put c.args.tree.now c.args.id c.unwrap-node.result.now c.args.base c.put.new.self (ap option_copied_mut (sym c.unwrap-node.ensures) ∙ c.get_mut.ensures.value) c.get_mut.ensures.numbered c.put.ensures in
    changes_right _ _ _ _ k c.requires.right
    (base_more c.args.tree.now.tree c.args.id c.args.base c.unwrap-node.result.now.past c.requires.right c.requires.holds (past_there c.args.tree.now.tree c.args.id c.unwrap-node.result.now (ap option_copied_mut (sym c.unwrap-node.ensures) ∙ c.get_mut.ensures.value)))

pub returns-clause-same : goal.returns-clause-same
returns-clause-same c =
    let k = base_put c.args.tree.now c.args.id c.unwrap-node.result.now c.args.base c.put.new.self (ap option_copied_mut (sym c.unwrap-node.ensures) ∙ c.get_mut.ensures.value) c.get_mut.ensures.numbered c.put.ensures in
    (changes_alike _ _ _ _ k).bare

pub returns-clause-kept : goal.returns-clause-kept
returns-clause-kept c =
    let k = base_put c.args.tree.now c.args.id c.unwrap-node.result.now c.args.base c.put.new.self (ap option_copied_mut (sym c.unwrap-node.ensures) ∙ c.get_mut.ensures.value) c.get_mut.ensures.numbered c.put.ensures in
    (changes_alike _ _ _ _ k).kept

pub returns-clause-own : goal.returns-clause-own
returns-clause-own c =
    let k = base_put c.args.tree.now c.args.id c.unwrap-node.result.now c.args.base c.put.new.self (ap option_copied_mut (sym c.unwrap-node.ensures) ∙ c.get_mut.ensures.value) c.get_mut.ensures.numbered c.put.ensures in
    ap (λ (p : Past). p.bases) (changes_own _ _ _ _ k) ∙ ap (λ (p : Past). c.args.base ∷ take 1 p.bases) (past_there c.args.tree.now.tree c.args.id c.unwrap-node.result.now (ap option_copied_mut (sym c.unwrap-node.ensures) ∙ c.get_mut.ensures.value))

pub returns-clause-below : goal.returns-clause-below
returns-clause-below c = λ q more passes tally log new below.
    let k = base_put c.args.tree.now c.args.id c.unwrap-node.result.now c.args.base c.put.new.self (ap option_copied_mut (sym c.unwrap-node.ensures) ∙ c.get_mut.ensures.value) c.get_mut.ensures.numbered c.put.ensures in
    from_alike _ _ (changes_alike _ _ _ _ k) tally passes log new c.args.id q more below

pub returns-clause-stopped : goal.returns-clause-stopped
returns-clause-stopped c = λ q passes tally log new stopped.
    let k = base_put c.args.tree.now c.args.id c.unwrap-node.result.now c.args.base c.put.new.self (ap option_copied_mut (sym c.unwrap-node.ensures) ∙ c.get_mut.ensures.value) c.get_mut.ensures.numbered c.put.ensures in
    from_stopped_alike _ _ (changes_alike _ _ _ _ k) tally passes log new c.args.id q stopped

use Rattle.std.proofs.Common.{None, ◌∙◌, ap, is_some, sym}
use Rattle.std.specs.Option.{option_copied_mut}
use Rattle.node_arena.specs.Plain.{with_value}
use Rattle.placing.specs.declared.told.Past.{Past}
use Rattle.placing.proofs.Bares.{value_some}
use Rattle.placing.proofs.Loans.{mut_some}
use Rattle.placing.proofs.Puts.{past_there}
use Rattle.placing.proofs.last_along.lose_along.Goals as goal

pub unwrap-node-requires : goal.unwrap-node-requires
unwrap-node-requires c = mut_some c.get_mut.result (ap is_some c.get_mut.ensures.value ∙ value_some c.args.tree.now.tree c.args.id c.requires)

pub returns-clause-lost : goal.returns-clause-lost
returns-clause-lost c =
    record {
      value = c.unwrap-node.result.now;
      there = ap option_copied_mut (sym c.unwrap-node.ensures) ∙ c.get_mut.ensures.value;
      numbered = c.get_mut.ensures.numbered;
      new_is =
          ap (λ o. with_value c.args.id (record c.unwrap-node.result.now { past = record c.unwrap-node.result.now.past { along = o } }) c.args.tree.now) c.take.ensures.after ∙
          ap (λ (p : Past). with_value c.args.id (record c.unwrap-node.result.now { past = record p { along = None } }) c.args.tree.now) (past_there c.args.tree.now.tree c.args.id c.unwrap-node.result.now (ap option_copied_mut (sym c.unwrap-node.ensures) ∙ c.get_mut.ensures.value));
    }

pub returns-clause-kept : goal.returns-clause-kept
returns-clause-kept c = c.take.ensures.value ∙ ap (λ (p : Past). p.along) (past_there c.args.tree.now.tree c.args.id c.unwrap-node.result.now (ap option_copied_mut (sym c.unwrap-node.ensures) ∙ c.get_mut.ensures.value))

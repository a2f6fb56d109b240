use Rattle.std.proofs.Common.{[], ◌∷◌, ◌++◌, ◌∙◌, ap, is_some, subst, sym}
use Rattle.std.specs.Option.{option_copied_mut}
use Rattle.tree_rules.specs.KeptAnswers.{IsAbsent}
use Rattle.node_arena.specs.Plain.{with_value}
use Rattle.placing.proofs.Bares.{value_some}
use Rattle.placing.proofs.Leaves.{on_err}
use Rattle.placing.proofs.Loans.{mut_some}
use Rattle.placing.proofs.Puts.{kept_same, kept_there, same_again}
use Rattle.placing.proofs.keeping.keep.Goals as goal

pub unwrap-node-requires : goal.unwrap-node-requires
unwrap-node-requires c = mut_some c.get_mut.result (ap is_some c.get_mut.ensures.value ∙ value_some c.args.tree.now.tree c.args.id c.requires.live)

pub put-requires : goal.put-requires
put-requires c = subst (IsAbsent c.args.query) (sym (kept_there c.args.tree.now.tree c.args.id c.unwrap-node.result.now (ap option_copied_mut (sym c.unwrap-node.ensures) ∙ c.get_mut.ensures.value))) c.requires.absent

pub returns-in_err-gone-clause-err : goal.returns-in_err-gone-clause-err
returns-in_err-gone-clause-err c =
    on_err _ _ (ap (λ k. with_value c.args.id (record c.unwrap-node.result.now { kept = k }) c.args.tree.now) c.in_err-gone.ensures.err
    ∙ same_again c.args.tree.now c.args.id c.unwrap-node.result.now (ap option_copied_mut (sym c.unwrap-node.ensures) ∙ c.get_mut.ensures.value) c.get_mut.ensures.numbered)

pub returns-clause-ok : goal.returns-clause-ok
returns-clause-ok c =
    record {
      value = c.unwrap-node.result.now;
      there = ap option_copied_mut (sym c.unwrap-node.ensures) ∙ c.get_mut.ensures.value;
      numbered = c.get_mut.ensures.numbered;
      new_is = ap (λ k. with_value c.args.id (record c.unwrap-node.result.now { kept = k }) c.args.tree.now) c.in_ok-gone.ensures.ok;
    }

pub returns-clause-all : goal.returns-clause-all
returns-clause-all c = λ gone.
    kept_same c.args.tree.now.tree c.args.id c.unwrap-node.result.now (record c.unwrap-node.result.now { kept = c.put.new.self }) (ap option_copied_mut (sym c.unwrap-node.ensures) ∙ c.get_mut.ensures.value)
    ∙ c.in_ok-gone.ensures.all gone
    ∙ ap (λ k. k ++ (c.args.query, c.args.answer) ∷ []) (kept_there c.args.tree.now.tree c.args.id c.unwrap-node.result.now (ap option_copied_mut (sym c.unwrap-node.ensures) ∙ c.get_mut.ensures.value))

use Rattle.std.proofs.Common.{◌∙◌, ap, is_some, sym}
use Rattle.std.specs.Option.{option_copied}
use Rattle.tree_rules.specs.Labels.{Label}
use Rattle.placing.specs.Nodes.{bare, bare_of, label_of_bare}
use Rattle.placing.proofs.Bares.{bare_there, value_some}
use Rattle.placing.proofs.Loans.{loan_some}
use Rattle.placing.proofs.Puts.{kept_there, past_there}
use Rattle.placing.proofs.Sights.{sight_label}
use Rattle.placing.proofs.sight.node_at.Goals as goal

pub unwrap-requires : goal.unwrap-requires
unwrap-requires c = loan_some c.get.result (ap is_some c.get.ensures ∙ value_some c.args.tree.now.tree c.args.id c.requires)

pub returns-clause-value : goal.returns-clause-value
returns-clause-value c = ap option_copied (sym c.unwrap.ensures) ∙ c.get.ensures

pub returns-clause-bare : goal.returns-clause-bare
returns-clause-bare c = bare_there c.args.tree.now.tree c.args.id c.unwrap.result.now (ap option_copied (sym c.unwrap.ensures) ∙ c.get.ensures)

pub returns-clause-label : goal.returns-clause-label
returns-clause-label c = sight_label (bare c.args.tree.now.tree) c.args.id (bare_of c.unwrap.result.now) (bare_there c.args.tree.now.tree c.args.id c.unwrap.result.now (ap option_copied (sym c.unwrap.ensures) ∙ c.get.ensures))

pub returns-clause-name : goal.returns-clause-name
unfolding label_of_bare
returns-clause-name c =
    ap (λ (x : Label). x.name) (sight_label (bare c.args.tree.now.tree) c.args.id (bare_of c.unwrap.result.now) (bare_there c.args.tree.now.tree c.args.id c.unwrap.result.now (ap option_copied (sym c.unwrap.ensures) ∙ c.get.ensures)))

pub returns-clause-kind : goal.returns-clause-kind
unfolding label_of_bare
returns-clause-kind c =
    ap (λ (x : Label). x.kind) (sight_label (bare c.args.tree.now.tree) c.args.id (bare_of c.unwrap.result.now) (bare_there c.args.tree.now.tree c.args.id c.unwrap.result.now (ap option_copied (sym c.unwrap.ensures) ∙ c.get.ensures)))

pub returns-clause-grid : goal.returns-clause-grid
unfolding label_of_bare
returns-clause-grid c =
    ap (λ (x : Label). x.grid) (sight_label (bare c.args.tree.now.tree) c.args.id (bare_of c.unwrap.result.now) (bare_there c.args.tree.now.tree c.args.id c.unwrap.result.now (ap option_copied (sym c.unwrap.ensures) ∙ c.get.ensures)))

pub returns-clause-content : goal.returns-clause-content
unfolding label_of_bare
returns-clause-content c =
    ap (λ (x : Label). x.content) (sight_label (bare c.args.tree.now.tree) c.args.id (bare_of c.unwrap.result.now) (bare_there c.args.tree.now.tree c.args.id c.unwrap.result.now (ap option_copied (sym c.unwrap.ensures) ∙ c.get.ensures)))

pub returns-clause-kept : goal.returns-clause-kept
returns-clause-kept c = kept_there c.args.tree.now.tree c.args.id c.unwrap.result.now (ap option_copied (sym c.unwrap.ensures) ∙ c.get.ensures)

pub returns-clause-past : goal.returns-clause-past
returns-clause-past c = past_there c.args.tree.now.tree c.args.id c.unwrap.result.now (ap option_copied (sym c.unwrap.ensures) ∙ c.get.ensures)

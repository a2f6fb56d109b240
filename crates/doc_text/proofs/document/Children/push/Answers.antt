use Rattle.std.proofs.Common.{[], ◌∷◌, ap, ◌∙◌}
use Rattle.plain_tree.specs.Trees.{joined}
use Rattle.doc_text.specs.View.{trees_of}
use Rattle.doc_text.proofs.Nodes.{trees_of-push}
use Rattle.doc_text.proofs.document.Children.push.Goals as goal

pub returns-clause-ok : goal.returns-clause-ok
returns-clause-ok c =
    rw c.in_ok-push.ensures.items (trees_of-push _ _ ∙ ap (λ t. joined t (trees_of (c.args.node ∷ []))) c.self.view_is)

-- Each list of nodes is smaller than the one that it stands in.
use Rattle.std.specs.Prelude.{◌≤◌, List, [], ◌∷◌}
use Rattle.std.proofs.Common.{arith}
use denote.Param.Weighed.{most}
use Rattle.plain_tree.specs.Trees.{size_of}
use Rattle.doc_text.specs.declared.document.Plain.{Plain}
use Rattle.doc_text.specs.declared.document.Children.TheDeep.{deep-Plain}
use Rattle.doc_text.specs.View.{trees_of}

pub most_le-size : (nodes : List Plain) → most (λ x. deep-Plain x) nodes ≤ size_of (trees_of nodes)
most_le-size [] = omega arith
most_le-size (node ∷ nodes) = omega (arith, most_le-size nodes)

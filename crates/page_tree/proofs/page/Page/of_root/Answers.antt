use Rattle.std.proofs.Common.{refl, ap, ◌∙◌}
use Rattle.node_arena.specs.Plain.{Nodes}
use Rattle.placing.specs.declared.node.Node.{Node}
use Rattle.page_tree.specs.Documents.{kind_of}
use Rattle.page_tree.proofs.page.Page.of_root.Goals as goal

pub returns : goal.returns
returns c =
    let made = c.in_ok-root.ensures in
    record {
      version = refl;
      width = refl;
      height = refl;
      value = c.in_ok-root.root;
      label = λ i. record { name = made.name i; kind = (ap kind_of made.kind ∙ c.in_ok-kind.ensures) i; style = (made.declared ∙ c.in_ok-declared.ensures) i };
      begun = record { kept = made.kept; past = made.past; turn = made.turn };
      nodes = ap (λ (n : Nodes Node). n.tree) c.in_ok-nodes.ensures;
    }

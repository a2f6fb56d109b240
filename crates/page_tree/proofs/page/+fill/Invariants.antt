use Rattle.std.proofs.Common.{◌≡◌, take}
use Rattle.plain_tree.specs.Trees.{size_of}
use Rattle.doc_text.specs.View.{trees_of}
use Rattle.page_tree.specs.Filled.{Fills}
use Rattle.page_tree.specs.Pages.{IsAround}
use Rattle.page_tree.proofs.page.+fill.Given as goal

abbrev pub decreases-fill : goal.decreases-fill
decreases-fill l = size_of l.node.now.children

-- the children so far are made, with all below them
abbrev pub invariant-loop-index : goal.invariant-loop-index
invariant-loop-index l =
    record {
      fills : Fills (λ s. s ≡ trees_of (take l.index l.children)) l.id l.fn.page.nodes.tree l.page.nodes.tree;
      around : IsAround l.fn.page l.page;
    }

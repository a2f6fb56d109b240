-- A page in which a tree was moved and has its computed styles again.
use Rattle.std.proofs.Common.{◌≡◌, ℕ, List, sym, ap, subst, ◌∙◌, arith}
use Rattle.node_arena.specs.declared.number.NodeId.{NodeId}
use Rattle.node_arena.specs.Numbers.{IsDistinct}
use Rattle.node_arena.specs.Edits.{grafted, moved, removed, tree_at}
use Rattle.placing.specs.Nodes.{NodeTrees}
use Rattle.page_tree.specs.Fonts.{AreStyled, IsStyled}
use Rattle.page_tree.specs.Moves.{AreApart}
use Rattle.page_tree.specs.Pages.{IsPage}
use Rattle.page_tree.specs.Restyled.{RestylesUnder, Styles, restyled}
use Rattle.page_tree.proofs.Changes.{grafted_count}
use Rattle.page_tree.proofs.Fonts.{grafted_styled}
use Rattle.page_tree.proofs.Moves.{font_left, root_left}
use Rattle.page_tree.proofs.Removals.{parts_times, removed_count, removed_styled}
use Rattle.page_tree.proofs.Restyled.{restyled_count, restyled_grafted, restyled_leaves}

pub moved_page : (t : NodeTrees) (name parent : List ℕ) (n c : NodeId) (index : ℕ) (styles : Styles) → AreApart t name parent n c → IsDistinct t → RestylesUnder c styles n t → IsPage t → IsPage (restyled styles (moved n c index t))
moved_page t name parent n c index styles a distinct u p =
    record {
      rooted = restyled_count styles (moved n c index t) ∙ grafted_count c index (tree_at n t) (removed n t) ∙ removed_count n t a.low ∙ p.rooted;
      styled = subst IsStyled (sym is)
          (grafted_styled u.font c index (restyled styles (tree_at n t)) (removed n t) (font_left u.font n c t a.low u.has)
          (subst (λ r. AreStyled u.font r (restyled styles (tree_at n t))) (sym (root_left n t a.low)) u.new.styled) (removed_styled n t a.low p.styled));
    }
  where
    left : restyled styles (removed n t) ≡ removed n t
    left = restyled_leaves styles (removed n t) (λ k l. u.new.apart k (omega (arith, l, distinct k, parts_times k n t)))

    is : restyled styles (moved n c index t) ≡ grafted c index (restyled styles (tree_at n t)) (removed n t)
    is = restyled_grafted styles c index (tree_at n t) (removed n t) ∙ ap (grafted c index (restyled styles (tree_at n t))) left

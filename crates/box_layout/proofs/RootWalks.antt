-- The first two questions of a layout, which go to the root.
use Rattle.std.proofs.Common.{◌≡◌, sym, subst, ◌∙◌, ℤ, false, [], ◌∷◌}
use Rattle.std.specs.Prelude.{Contains, IsSome}
use Rattle.std.proofs.lemmas.List.Elements.{Contains-append_left, Contains-append_right, Contains-push}
use Rattle.layout_cache.specs.Kept.{answer_to}
use Rattle.node_arena.specs.declared.number.NodeId.{NodeId}
use Rattle.node_arena.specs.Numbers.{top_numbers}
use Rattle.plain_tree.specs.Trees.{Trees}
use Rattle.placing.specs.Kept.{IsRight}
use Rattle.placing.specs.Nodes.{sight_at}
use Rattle.placing.specs.Walks.{State, Stopped, Walk, Walked, bare_in, kept_in}
use Rattle.placing.proofs.Walks.{walk_none}
use Rattle.tree_rules.specs.AskedQueries.{ToChild, block_query, inline_query, root_query}
use Rattle.tree_rules.specs.Boxes.{root_inline, root_of, root_width}
use Rattle.tree_rules.specs.Labels.{Label}
use Rattle.tree_rules.specs.declared.query.Given.{Given}
use Rattle.tree_rules.specs.declared.query.Query.{Query}
use Rattle.inline_sizes.specs.Calls.{Found}
use Rattle.box_layout.specs.Paths.{IsAsked, IsCutShort, first_asked}
use Rattle.box_layout.proofs.LaidWalks.{cut_more, laid_first, part_first, walk_more}

abbrev iq : Query
iq = inline_query false []

abbrev bq : Given → Query
bq inline = block_query false [] inline

first_own : (width height : ℤ) (x : Label) (below : Trees Label) → Contains (first_asked width height x below) (0, iq)
first_own width height x below =
    let r = root_of x below in
    let asked : ToChild = (0, iq) in
    Contains-append_left (asked ∷ []) ((0, bq (root_inline r (root_width width r))) ∷ root_query width height x below) asked (Contains-push [] asked)

second_own : (width height : ℤ) (x : Label) (below : Trees Label) → Contains (first_asked width height x below) (0, bq (root_inline (root_of x below) (root_width width (root_of x below))))
second_own width height x below =
    let r = root_of x below in
    let asked : ToChild = (0, bq (root_inline r (root_width width r))) in
    let before : ToChild = (0, iq) in
    Contains-append_right (before ∷ []) (asked ∷ root_query width height x below) asked (Contains-append_left (asked ∷ []) (root_query width height x below) asked (Contains-push [] asked))

module _ (width height : ℤ) (n : NodeId) (s t : State) (top : top_numbers (bare_in s) ≡ n ∷ []) (right : IsRight s.arena.tree) where
  start : Walk (IsAsked (bare_in s) width height) 0 [] s s
  start = walk_none (IsAsked (bare_in s) width height) s right

  own_first : Contains (first_asked width height (sight_at (bare_in s) n).label (sight_at (bare_in s) n).below) (0, iq)
  own_first = first_own width height (sight_at (bare_in s) n).label (sight_at (bare_in s) n).below

  -- memory was wanting at the first one
  pub first_cut : Stopped n iq s t → IsCutShort (bare_in s) width height s t
  first_cut w = cut_more width height n s top s start iq own_first t (part_first n iq s t w)

  module _ (w : Walked n iq s t) (u : State) (inline : Given) (is : inline ≡ root_inline (root_of (sight_at (bare_in s) n).label (sight_at (bare_in s) n).below) (root_width width (root_of (sight_at (bare_in s) n).label (sight_at (bare_in s) n).below))) where
    after_first : Walk (IsAsked (bare_in s) width height) 0 [] s t
    after_first = walk_more width height n s top s start iq own_first t (laid_first n iq s t w)

    own_second : Contains (first_asked width height (sight_at (bare_in s) n).label (sight_at (bare_in s) n).below) (0, bq inline)
    own_second =
        subst (λ (g : Given). Contains (first_asked width height (sight_at (bare_in s) n).label (sight_at (bare_in s) n).below) (0, bq g)) (sym is) (second_own width height (sight_at (bare_in s) n).label (sight_at (bare_in s) n).below)

    -- the first two questions were answered
    pub both_walked : Walked n (bq inline) t u → Walk (IsAsked (bare_in s) width height) 0 [] s u
    both_walked x = walk_more width height n s top t after_first (bq inline) own_second u (laid_first n (bq inline) t u x)

    -- memory was wanting at the second one
    pub second_cut : Stopped n (bq inline) t u → IsCutShort (bare_in s) width height s u
    second_cut x = cut_more width height n s top t after_first (bq inline) own_second u (part_first n (bq inline) t u x)

-- where both answers are kept nothing changes
pub both_quiet : (n : NodeId) (s t u : State) (inline other : Given) → inline ≡ other → Found n iq s t → Found n (bq inline) t u → IsSome (answer_to iq (kept_in s n)) → IsSome (answer_to (bq other) (kept_in s n)) → u ≡ s
both_quiet n s t u inline other is first second some also =
    let same : t ≡ s = first some in
    let kept : IsSome (answer_to (bq inline) (kept_in s n)) = subst (λ (g : Given). IsSome (answer_to (bq g) (kept_in s n))) (sym is) also in
    second (subst (λ (z : State). IsSome (answer_to (bq inline) (kept_in z n))) (sym same) kept) ∙ same

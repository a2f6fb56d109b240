use Rattle.std.proofs.Common.{rules, arith, ◌≡◌, ◌∙◌, sym, subst, refl, ◌∷◌, ◌+◌, drop, false, true, []}
use Rattle.placing.proofs.Bares.{distinct_bare}
use Rattle.placing.proofs.Leaves.{on_err}
use Rattle.placing.specs.Children.{IsNext}
use Rattle.placing.specs.Keeping.{is_leaf}
use Rattle.placing.specs.Nodes.{IsLive, sight_at}
use Rattle.placing.specs.Walks.{State, Stopped, Walked, bare_in}
use Rattle.tree_rules.specs.Queries.{IsGivenFor}
use Rattle.tree_rules.specs.declared.query.Query.{Query}
use Rattle.box_layout.specs.LeafHeights.{UsesLeaves}
use Rattle.box_layout.proofs.KidLeaves.{leaf_chain}
use Rattle.box_layout.proofs.LeafWalks.{all_held, leaf_held, leaf_own, leaf_same, leaf_stopped, leaf_walked, next_leaf, none_held, there}
use Rattle.walker.specs.Walkers.{nodes, seen}
use Rattle.walker.proofs.Parts.{parts_then, same_parts}
use Rattle.box_layout.proofs.leaves.ask_leaves.Goals as goal

pub loop-index-init : goal.loop-index-init
loop-index-init g c =
    record {
      stands = c.requires.stands;
      parts = same_parts c.args.walk.now;
      same = refl;
      walked = λ q s uses start w. w;
      own = refl;
      held = none_held (nodes c.args.walk.now) c.args.frames.now (seen g.R.Ruler.log c.args.walk.now);
    }

pub ask_leaf-requires : goal.ask_leaf-requires
ask_leaf-requires g c =
    let b = nodes c.args.walk.now in
    let d = nodes c.loop-index.walk in
    let f = c.index-frames-index.result in
    let at : drop c.loop-index.index c.args.frames.now ≡ f ∷ drop (c.loop-index.index + 1) c.args.frames.now = there c.args.frames.now c.loop-index.index f (omega (arith, c.loop-index-test.true)) c.index-frames-index.is in
    let next : IsNext b c.args.id c.loop-index.index f.child = next_leaf b (distinct_bare c.args.walk.now.tree.now.tree c.stands.ensures.distinct) c.args.id c.args.frames.now c.requires.frames c.root.ensures.tree c.loop-index.index f at in
    let live : IsLive d f.child = subst (λ z. IsLive z f.child) (sym c.loop-index.invariant.same) next.live in
    let alone : is_leaf (sight_at d f.child).label.kind ≡ true →
    (sight_at d f.child).chain ≡ [] = subst (λ z. is_leaf (sight_at z f.child).label.kind ≡ true → (sight_at z f.child).chain ≡ []) (sym c.loop-index.invariant.same) (λ leaf. next.chain ∙ leaf_chain _ c.loop-index.index (sight_at b f.child).label leaf) in
    let given : is_leaf (sight_at d f.child).label.kind ≡ true →
    IsGivenFor true false 0 f.inline = subst (λ z. is_leaf (sight_at z f.child).label.kind ≡ true → IsGivenFor true false 0 f.inline) (sym c.loop-index.invariant.same)
    (λ leaf. (c.requires.frames.leaf c.loop-index.index f (drop (c.loop-index.index + 1) c.args.frames.now) at leaf).given) in
    search rules

pub loop-index-preserved : goal.loop-index-preserved
loop-index-preserved g c =
    let b = nodes c.args.walk.now in
    let f = c.index-frames-index.result in
    let frames = c.args.frames.now in
    let i = c.loop-index.index in
    let distinct = distinct_bare c.args.walk.now.tree.now.tree c.stands.ensures.distinct in
    let at : drop i frames ≡ f ∷ drop (i + 1) frames = there frames i f (omega (arith, c.loop-index-test.true)) c.index-frames-index.is in
    let t : State = seen g.R.Ruler.log c.loop-index.walk in
    let u : State = seen g.R.Ruler.log c.ask_leaf.new.walk in
    record {
      stands = c.ask_leaf.ensures.stands;
      parts = parts_then _ _ _ c.loop-index.invariant.parts c.ask_leaf.ensures.parts;
      same = leaf_same b distinct c.args.id frames c.requires.frames c.root.ensures.tree i f at t u c.loop-index.invariant.same c.in_ok-ask_leaf.ensures.asked ∙ c.loop-index.invariant.same;
      walked = λ q s uses start w. leaf_walked b distinct c.args.id frames c.requires.frames c.root.ensures.tree i f at s t u start c.loop-index.invariant.same q uses (c.loop-index.invariant.walked q s uses start w) c.in_ok-ask_leaf.ensures.asked;
      own = leaf_own b distinct c.args.id frames c.requires.frames c.root.ensures.tree i f at t u c.loop-index.invariant.same c.in_ok-ask_leaf.ensures.asked ∙ c.loop-index.invariant.own;
      held = leaf_held b distinct c.args.id frames c.requires.frames c.root.ensures.tree i f at t u c.loop-index.invariant.same c.in_ok-ask_leaf.ensures.asked c.loop-index.invariant.held c.in_ok-ask_leaf.ensures.held;
    }

pub returns-in_err-ask_leaf-clause-stopped : goal.returns-in_err-ask_leaf-clause-stopped
returns-in_err-ask_leaf-clause-stopped g c =
    let b = nodes c.args.walk.now in
    let f = c.index-frames-index.result in
    let frames = c.args.frames.now in
    let i = c.loop-index.index in
    let distinct = distinct_bare c.args.walk.now.tree.now.tree c.stands.ensures.distinct in
    let at : drop i frames ≡ f ∷ drop (i + 1) frames = there frames i f (omega (arith, c.loop-index-test.true)) c.index-frames-index.is in
    let t : State = seen g.R.Ruler.log c.loop-index.walk in
    let u : State = seen g.R.Ruler.log c.ask_leaf.new.walk in
    let all : (q : Query) (s : State) → UsesLeaves b c.args.id q frames → bare_in s ≡ b → Walked c.args.id q s (seen g.R.Ruler.log c.args.walk.now) → Stopped c.args.id q s u =
    λ q s uses start w. leaf_stopped b distinct c.args.id frames c.requires.frames c.root.ensures.tree i f at s t u start c.loop-index.invariant.same q uses (c.loop-index.invariant.walked q s uses start w) c.in_err-ask_leaf.ensures.stopped in
    on_err _ _ all

pub returns-clause-walked : goal.returns-clause-walked
returns-clause-walked g c = c.loop-index.invariant.walked

pub returns-clause-own : goal.returns-clause-own
returns-clause-own g c = c.loop-index.invariant.own

pub returns-clause-held : goal.returns-clause-held
returns-clause-held g c = all_held (nodes c.args.walk.now) c.args.frames.now c.loop-index.index (seen g.R.Ruler.log c.loop-index.walk) (omega (arith, c.loop-index-test.false)) c.loop-index.invariant.held

pub returns-in_err-ask_leaf-clause-parts : goal.returns-in_err-ask_leaf-clause-parts
returns-in_err-ask_leaf-clause-parts g c = parts_then _ _ _ c.loop-index.invariant.parts c.ask_leaf.ensures.parts

pub returns-in_err-ask_leaf-clause-stands : goal.returns-in_err-ask_leaf-clause-stands
returns-in_err-ask_leaf-clause-stands g c = c.ask_leaf.ensures.stands

pub returns-clause-parts : goal.returns-clause-parts
returns-clause-parts g c = c.loop-index.invariant.parts

pub returns-clause-stands : goal.returns-clause-stands
returns-clause-stands g c = c.loop-index.invariant.stands

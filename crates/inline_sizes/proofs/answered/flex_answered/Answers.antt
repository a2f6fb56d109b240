use Rattle.std.proofs.Common.{arith, sym, ap, subst, ◌∙◌, ◌≡◌, ◌∷◌, []}
use Rattle.placing.specs.Nodes.{BareTrees, IsLive, sight_at}
use Rattle.placing.specs.Walks.{State, Stopped, WalkedBelow, kept_with}
use Rattle.placing.specs.declared.node.Answer.TheVariants as answer
use Rattle.placing.proofs.Leaves.{on_err}
use Rattle.placing.proofs.Walks.{stopped, walked_none}
use Rattle.tree_rules.specs.KeptAnswers.{IsAbsent}
use Rattle.tree_rules.specs.Queries.{Fits, answer_of, inline_sizes}
use Rattle.tree_rules.specs.declared.kind.NodeKind.TheVariants as kind
use Rattle.inline_sizes.proofs.Anew.{flex_answer, flex_quiet}
use Rattle.walker.specs.Walkers.{nodes, seen}
use Rattle.inline_sizes.proofs.answered.flex_answered.Goals as goal

pub returns-in_err-low-clause-stopped : goal.returns-in_err-low-clause-stopped
returns-in_err-low-clause-stopped g c =
    let all : (old : State) → WalkedBelow c.args.id c.args.query 0 old (seen g.R.Ruler.log c.args.walk.now) → Stopped c.args.id c.args.query old (seen g.R.Ruler.log c.args.walk.now) =
    λ old w. stopped c.args.id c.args.query 0 _ _ w in
    on_err _ _ all

pub returns-in_err-keep_members-clause-stopped : goal.returns-in_err-keep_members-clause-stopped
returns-in_err-keep_members-clause-stopped g c =
    let all : (old : State) → WalkedBelow c.args.id c.args.query 0 old (seen g.R.Ruler.log c.args.walk.now) → Stopped c.args.id c.args.query old (seen g.R.Ruler.log c.keep_members.new.walk) =
    λ old w. stopped c.args.id c.args.query 0 _ _ (c.keep_members.ensures.below c.args.query 0 _ w) in
    on_err _ _ all

pub put-requires : goal.put-requires
put-requires g c =
    let quiet = c.keep_members.ensures.below c.args.query 0 _ (walked_none c.args.id c.args.query (seen g.R.Ruler.log c.args.walk.now) c.requires.stands.right) in
    let back = sym quiet.walk.bare_same in
    record {
      stands = c.keep_members.ensures.stands;
      live = subst (λ (z : BareTrees). IsLive z c.args.id) back c.requires.live;
      absent = subst (IsAbsent c.args.query) (sym quiet.own) c.requires.absent;
      fits = subst (λ (z : BareTrees). Fits (sight_at z c.args.id) c.args.query) back c.requires.fits;
      value =
          ap inline_sizes c.in_ok-low.ensures
          ∙ flex_answer (nodes c.args.walk.now) c.args.id c.args.query c.requires.kind c.requires.ask
          ∙ ap (λ (z : BareTrees). answer_of (sight_at z c.args.id) c.args.query) back;
      children = tt;
      quiet = flex_quiet (nodes c.keep_members.new.walk) c.args.id c.args.query (subst (λ (z : BareTrees). (sight_at z c.args.id).label.kind ≡ kind.Flex) back c.requires.kind);
    }

pub returns-in_err-put-clause-stopped : goal.returns-in_err-put-clause-stopped
returns-in_err-put-clause-stopped g c =
    let all : (old : State) → WalkedBelow c.args.id c.args.query 0 old (seen g.R.Ruler.log c.args.walk.now) → Stopped c.args.id c.args.query old (seen g.R.Ruler.log c.put.new.self) =
    λ old w. c.in_err-put.ensures.stopped old 0 (c.keep_members.ensures.below c.args.query 0 _ w) in
    on_err _ _ all

pub returns-clause-value : goal.returns-clause-value
returns-clause-value g c = ap inline_sizes c.in_ok-low.ensures ∙ flex_answer (nodes c.args.walk.now) c.args.id c.args.query c.requires.kind c.requires.ask

pub returns-clause-walked : goal.returns-clause-walked
returns-clause-walked g c = λ old w. c.in_ok-put.ensures.joins old 0 (omega arith) (c.keep_members.ensures.below c.args.query 0 _ w)

pub returns-clause-own : goal.returns-clause-own
returns-clause-own g c =
    c.in_ok-put.ensures.own
    ∙ ap (λ l. kept_with l ((c.args.query, answer.Sizes c.in_ok-low.low c.in_ok-low.high) ∷ []))
    (c.keep_members.ensures.below c.args.query 0 _ (walked_none c.args.id c.args.query (seen g.R.Ruler.log c.args.walk.now) c.requires.stands.right)).own

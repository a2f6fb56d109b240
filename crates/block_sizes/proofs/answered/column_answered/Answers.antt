use Rattle.std.proofs.Common.{arith, refl, sym, ap, subst, ◌∙◌, ◌≡◌, ◌∷◌, [], ℤ}
use Rattle.placing.specs.Children.{IsTree}
use Rattle.placing.specs.Lined.{HoldsColumn}
use Rattle.placing.specs.Nodes.{BareTrees, IsLive, children_at, sight_at}
use Rattle.placing.specs.Walks.{State, Stopped, WalkedBelow, kept_with}
use Rattle.placing.specs.declared.node.Answer.TheVariants as answer
use Rattle.placing.proofs.Leaves.{on_err}
use Rattle.placing.proofs.Walks.{stopped, walked_none}
use Rattle.tree_rules.specs.FlexSizes as rules
use Rattle.tree_rules.specs.Frames.{given_size}
use Rattle.tree_rules.specs.KeptAnswers.{IsAbsent}
use Rattle.tree_rules.specs.Queries.{Fits, answer_of, block_size}
use Rattle.tree_rules.specs.declared.kind.NodeKind.TheVariants as kind
use Rattle.inline_sizes.specs.Flexes.{flex_seen}
use Rattle.block_sizes.proofs.NodeAnswers.{column_answer, flex_quiet}
use Rattle.block_sizes.proofs.HeldLines.{column_held}
use Rattle.block_sizes.specs.Settling.{AreKnown, IsColumn}
use Rattle.walker.specs.Walkers.{nodes, seen}
use Rattle.block_sizes.proofs.answered.column_answered.Goals as goal

pub column_size-requires : goal.column_size-requires
column_size-requires g c =
    record {
      live = c.requires.live;
      readable = c.requires.stands.readable;
      direction = c.requires.direction;
      column = subst (λ (w : ℤ). IsColumn (nodes c.args.walk.now) c.args.id w c.args.parts)
          (sym c.size_of-width.ensures) c.requires.column;
      past = subst (λ (w : ℤ). AreKnown (nodes c.args.walk.now) c.args.id w c.args.past.now) (sym c.size_of-width.ensures) c.requires.past;
    }

pub keep_column-requires : goal.keep_column-requires
keep_column-requires g c =
    record {
      stands = c.requires.stands;
      live = c.requires.live;
      direction = c.requires.direction;
      column = subst (λ (w : ℤ). IsColumn (nodes c.args.walk.now) c.args.id w c.args.parts)
          (sym c.size_of-width.ensures) c.requires.column;
      items = c.deref.ensures.value ∙ c.in_ok-size.ensures.items;
    }

pub put-requires : goal.put-requires
put-requires g c =
    let back = sym c.keep_column.ensures.bare in
    let is : IsColumn (nodes c.keep_column.new.walk) c.args.id (given_size c.args.query.inline) c.args.parts = subst (λ (z : BareTrees). IsColumn z c.args.id (given_size c.args.query.inline) c.args.parts) back c.requires.column in
    record {
      live = subst (λ (z : BareTrees). IsLive z c.args.id) back c.requires.live;
      stands = c.keep_column.ensures.stands;
      absent = subst (IsAbsent c.args.query) (sym (c.keep_column.ensures.below c.args.query 0 _ (walked_none c.args.id c.args.query (seen g.R.Ruler.log c.args.walk.now) c.requires.stands.right)).own) c.requires.absent;
      fits = subst (λ (z : BareTrees). Fits (sight_at z c.args.id) c.args.query) back c.requires.fits;
      value = ap block_size (c.in_ok-size.ensures.value ∙ ap (λ (w : ℤ). rules.column_block (flex_seen (nodes c.args.walk.now) c.args.id) (rules.column_settled (flex_seen (nodes c.args.walk.now) c.args.id) w)) c.size_of-width.ensures)
          ∙ column_answer (nodes c.args.walk.now) c.args.id c.args.query c.requires.kind c.requires.direction c.requires.ask
          ∙ ap (λ (z : BareTrees). answer_of (sight_at z c.args.id) c.args.query) back;
      children = subst (HoldsColumn (sight_at (nodes c.keep_column.new.walk) c.args.id) (children_at (nodes c.keep_column.new.walk) c.args.id) (given_size c.args.query.inline)) (sym c.in_ok-held.ensures)
          (column_held (nodes c.keep_column.new.walk) c.args.id (subst IsTree back c.root.ensures.tree) (given_size c.args.query.inline) c.args.parts is);
      quiet = flex_quiet (nodes c.keep_column.new.walk) c.args.id c.args.query (subst (λ (z : BareTrees). (sight_at z c.args.id).label.kind ≡ kind.Flex) back c.requires.kind);
    }

pub returns-clause-value : goal.returns-clause-value
returns-clause-value g c =
    ap block_size (c.in_ok-size.ensures.value ∙ ap (λ (w : ℤ). rules.column_block (flex_seen (nodes c.args.walk.now) c.args.id) (rules.column_settled (flex_seen (nodes c.args.walk.now) c.args.id) w)) c.size_of-width.ensures)
    ∙ column_answer (nodes c.args.walk.now) c.args.id c.args.query c.requires.kind c.requires.direction c.requires.ask

pub returns-in_err-size-clause-stopped : goal.returns-in_err-size-clause-stopped
returns-in_err-size-clause-stopped g c =
    let all : (old : State) → WalkedBelow c.args.id c.args.query 0 old (seen g.R.Ruler.log c.args.walk.now) → Stopped c.args.id c.args.query old (seen g.R.Ruler.log c.args.walk.now) =
    λ old w. stopped c.args.id c.args.query 0 _ _ w in
    on_err _ _ all

pub returns-in_err-keep_column-clause-stopped : goal.returns-in_err-keep_column-clause-stopped
returns-in_err-keep_column-clause-stopped g c =
    let all : (old : State) → WalkedBelow c.args.id c.args.query 0 old (seen g.R.Ruler.log c.args.walk.now) → Stopped c.args.id c.args.query old (seen g.R.Ruler.log c.keep_column.new.walk) =
    λ old w. stopped c.args.id c.args.query 0 _ _ (c.keep_column.ensures.below c.args.query 0 _ w) in
    on_err _ _ all

pub returns-in_err-held-clause-stopped : goal.returns-in_err-held-clause-stopped
returns-in_err-held-clause-stopped g c =
    let all : (old : State) → WalkedBelow c.args.id c.args.query 0 old (seen g.R.Ruler.log c.args.walk.now) → Stopped c.args.id c.args.query old (seen g.R.Ruler.log c.keep_column.new.walk) =
    λ old w. stopped c.args.id c.args.query 0 _ _ (c.keep_column.ensures.below c.args.query 0 _ w) in
    on_err _ _ all

pub returns-in_err-put-clause-stopped : goal.returns-in_err-put-clause-stopped
returns-in_err-put-clause-stopped g c =
    let all : (old : State) → WalkedBelow c.args.id c.args.query 0 old (seen g.R.Ruler.log c.args.walk.now) → Stopped c.args.id c.args.query old (seen g.R.Ruler.log c.put.new.self) =
    λ old w. c.in_err-put.ensures.stopped old 0 (c.keep_column.ensures.below c.args.query 0 _ w) in
    on_err _ _ all

pub returns-clause-walked : goal.returns-clause-walked
returns-clause-walked g c = λ old w. c.in_ok-put.ensures.joins old 0 (omega arith) (c.keep_column.ensures.below c.args.query 0 _ w)

pub returns-clause-own : goal.returns-clause-own
returns-clause-own g c = (
  answer.Column c.in_ok-size.size c.in_ok-held.held,
  (
    refl,
    c.in_ok-put.ensures.own ∙
        ap (λ l. kept_with l ((c.args.query, answer.Column c.in_ok-size.size c.in_ok-held.held) ∷ []))
        (c.keep_column.ensures.below c.args.query 0 _ (walked_none c.args.id c.args.query (seen g.R.Ruler.log c.args.walk.now) c.requires.stands.right)).own,
  ),
)

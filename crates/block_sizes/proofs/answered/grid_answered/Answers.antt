use Rattle.std.proofs.Common.{arith, refl, sym, ap, subst, ◌∙◌, ◌≡◌, ◌∷◌, [], List}
use Rattle.placing.specs.Nodes.{BareTrees, IsLive, children_at, sight_at}
use Rattle.placing.specs.Walks.{State, Stopped, WalkedBelow, kept_with}
use Rattle.placing.specs.Wides.{HoldsWide}
use Rattle.placing.specs.declared.node.Answer.TheVariants as answer
use Rattle.placing.proofs.Leaves.{on_err}
use Rattle.placing.proofs.Walks.{stopped, ticked, walked_none}
use Rattle.tree_rules.specs.Answers.{Pair}
use Rattle.tree_rules.specs.KeptAnswers.{IsAbsent}
use Rattle.tree_rules.specs.Queries.{Fits, answer_of, block_size}
use Rattle.tree_rules.specs.declared.kind.NodeKind.TheVariants as kind
use Rattle.tree_rules.specs.declared.query.Query.{Query}
use Rattle.block_sizes.proofs.NodeAnswers.{grid_quiet}
use Rattle.block_sizes.proofs.Fitting.{block_fit}
use Rattle.block_sizes.proofs.HeldWide.{wide_held}
use Rattle.block_sizes.proofs.KeptGrids.{keepable, laid_answer, IsKeepable}
use Rattle.block_sizes.specs.Wides.{IsWide}
use Rattle.walker.specs.Walkers.{nodes, seen}
use Rattle.block_sizes.proofs.answered.grid_answered.Goals as goal

pub laid_rows-requires : goal.laid_rows-requires
laid_rows-requires g c =
    record {
      live = c.requires.live;
      readable = c.requires.stands.readable;
      kind = c.requires.kind;
      own = block_fit (sight_at (nodes c.args.walk.now) c.args.id) c.args.query (ap (λ (q : Query). q.ask) c.requires.query) c.requires.fits;
      wide = c.requires.told.wide;
      laid = c.requires.told.laid;
    }

pub keep_told-requires : goal.keep_told-requires
keep_told-requires g c =
    let kept : IsKeepable (nodes c.args.walk.now) c.args.id c.in_ok-held.held c.args.told.column_ends c.args.told.row_ends =
    keepable (nodes c.args.walk.now) c.args.id c.args.reps.now c.args.query.inline c.args.told c.in_ok-size.laid c.in_ok-held.held c.requires.told c.in_ok-held.ensures c.in_ok-size.ensures.same c.in_ok-size.ensures.laid in
    record { live = c.requires.live; stands = c.requires.stands; places = kept.places; columns = kept.columns; rows = kept.rows; laid = kept.laid }

pub put-requires : goal.put-requires
put-requires g c =
    let quiet = c.keep_told.ensures.below c.args.query 0 _ (walked_none c.args.id c.args.query (record (seen g.R.Ruler.log c.args.walk.now) { passes = c.laid_rows.new.passes }) c.requires.stands.right) in
    let back = sym quiet.walk.bare_same in
    let held : IsWide (nodes c.args.walk.now) c.args.id c.args.query.reps c.args.query.inline c.in_ok-held.held = subst (IsWide (nodes c.args.walk.now) c.args.id c.args.query.reps c.args.query.inline) (sym c.in_ok-held.ensures)
    (subst (λ (r : List Pair). IsWide (nodes c.args.walk.now) c.args.id r c.args.query.inline c.in_ok-size.laid) (sym (ap (λ (q : Query). q.reps) c.requires.query)) c.in_ok-size.ensures.wide) in
    record {
      live = subst (λ (z : BareTrees). IsLive z c.args.id) back c.requires.live;
      stands = c.keep_told.ensures.stands;
      absent = subst (IsAbsent c.args.query) (sym quiet.own) c.requires.absent;
      fits = subst (λ (z : BareTrees). Fits (sight_at z c.args.id) c.args.query) back c.requires.fits;
      value = subst (λ (z : BareTrees). block_size c.in_ok-size.size ≡ answer_of (sight_at z c.args.id) c.args.query) back
          (laid_answer (nodes c.args.walk.now) (nodes c.args.walk.now) refl c.args.id c.args.query c.args.reps.now c.in_ok-size.size
          (sym (ap (λ (q : Query). q.reps) c.requires.query)) c.requires.kind (ap (λ (q : Query). q.ask) c.requires.query) c.in_ok-size.ensures.value);
      children = subst (λ (z : BareTrees). HoldsWide (sight_at z c.args.id) (children_at z c.args.id) c.args.query.reps c.args.query.inline c.in_ok-held.held) back (wide_held (nodes c.args.walk.now) c.args.id c.args.query.reps c.args.query.inline c.in_ok-held.held held);
      quiet = grid_quiet (nodes c.keep_told.new.walk) c.args.id c.args.query (subst (λ (z : BareTrees). (sight_at z c.args.id).label.kind ≡ kind.Grid) back c.requires.kind);
    }

pub returns-clause-value : goal.returns-clause-value
returns-clause-value g c =
    laid_answer (nodes c.args.walk.now) (nodes c.args.walk.now) refl c.args.id c.args.query c.args.reps.now c.in_ok-size.size (sym (ap (λ (q : Query). q.reps) c.requires.query)) c.requires.kind (ap (λ (q : Query). q.ask) c.requires.query) c.in_ok-size.ensures.value

pub returns-in_err-size-clause-stopped : goal.returns-in_err-size-clause-stopped
returns-in_err-size-clause-stopped g c =
    let all : (old : State) → WalkedBelow c.args.id c.args.query 1 old (seen g.R.Ruler.log c.args.walk.now) →
    Stopped c.args.id c.args.query old (record (seen g.R.Ruler.log c.args.walk.now) { passes = c.laid_rows.new.passes }) =
    λ old w. stopped c.args.id c.args.query 2 _ _ (ticked c.args.id c.args.query 1 1 _ _ c.laid_rows.new.passes c.laid_rows.ensures.ticks w) in
    on_err _ _ all

pub returns-in_err-held-clause-stopped : goal.returns-in_err-held-clause-stopped
returns-in_err-held-clause-stopped g c =
    let all : (old : State) → WalkedBelow c.args.id c.args.query 1 old (seen g.R.Ruler.log c.args.walk.now) →
    Stopped c.args.id c.args.query old (record (seen g.R.Ruler.log c.args.walk.now) { passes = c.laid_rows.new.passes }) =
    λ old w. stopped c.args.id c.args.query 2 _ _ (ticked c.args.id c.args.query 1 1 _ _ c.laid_rows.new.passes c.laid_rows.ensures.ticks w) in
    on_err _ _ all

pub returns-in_err-keep_told-clause-stopped : goal.returns-in_err-keep_told-clause-stopped
returns-in_err-keep_told-clause-stopped g c =
    let all : (old : State) → WalkedBelow c.args.id c.args.query 1 old (seen g.R.Ruler.log c.args.walk.now) → Stopped c.args.id c.args.query old (seen g.R.Ruler.log c.keep_told.new.walk) =
    λ old w. stopped c.args.id c.args.query 2 _ _ (c.keep_told.ensures.below c.args.query 2 _ (ticked c.args.id c.args.query 1 1 _ _ c.laid_rows.new.passes c.laid_rows.ensures.ticks w)) in
    on_err _ _ all

pub returns-in_err-put-clause-stopped : goal.returns-in_err-put-clause-stopped
returns-in_err-put-clause-stopped g c =
    let all : (old : State) → WalkedBelow c.args.id c.args.query 1 old (seen g.R.Ruler.log c.args.walk.now) → Stopped c.args.id c.args.query old (seen g.R.Ruler.log c.put.new.self) =
    λ old w. c.in_err-put.ensures.stopped old 2 (c.keep_told.ensures.below c.args.query 2 _ (ticked c.args.id c.args.query 1 1 _ _ c.laid_rows.new.passes c.laid_rows.ensures.ticks w)) in
    on_err _ _ all

pub returns-clause-walked : goal.returns-clause-walked
returns-clause-walked g c =
    λ old w. c.in_ok-put.ensures.joins old 2 (omega arith) (c.keep_told.ensures.below c.args.query 2 _ (ticked c.args.id c.args.query 1 1 _ _ c.laid_rows.new.passes c.laid_rows.ensures.ticks w))

pub returns-clause-own : goal.returns-clause-own
returns-clause-own g c = (
  answer.Laid c.in_ok-size.size c.in_ok-held.held,
  (
    refl,
    c.in_ok-put.ensures.own ∙
        ap (λ l. kept_with l ((c.args.query, answer.Laid c.in_ok-size.size c.in_ok-held.held) ∷ []))
        (c.keep_told.ensures.below c.args.query 0 _ (walked_none c.args.id c.args.query (record (seen g.R.Ruler.log c.args.walk.now) { passes = c.laid_rows.new.passes }) c.requires.stands.right)).own,
  ),
)

use Rattle.std.proofs.Common.{rules, arith, refl, sym, ap, subst, ◌≡◌, ◌∙◌, ◌∷◌, [], List, Bool, true, length, map}
use Rattle.placing.specs.Kept.{frame_of}
use Rattle.placing.specs.Nodes.{BareTrees, IsLive, children_at, level_at, sight_at}
use Rattle.placing.specs.Ranges.{AreReadable}
use Rattle.placing.specs.Seats.{IsSeat}
use Rattle.placing.specs.Walks.{kept_with}
use Rattle.placing.specs.declared.wide.GridWide.{GridWide}
use Rattle.placing.specs.declared.node.Answer.TheVariants as answer
use Rattle.placing.specs.declared.node.Frame.{Frame as NodeFrame}
use Rattle.placing.proofs.Leaves.{on_err}
use Rattle.placing.proofs.Walks.{stopped, ticked}
use Rattle.tree_rules.specs.Answers.{Pair}
use Rattle.tree_rules.specs.KeptAnswers.{IsAbsent}
use Rattle.tree_rules.specs.Queries.{Fits, IsGivenFor, answer_of, child_frames, needs_block, needs_inline, outer_context, sees_columns, sees_rows}
use Rattle.tree_rules.specs.declared.kind.NodeKind.TheVariants as kind
use Rattle.tree_rules.specs.declared.query.Query.{Query}
use Rattle.placing.specs.Spread.{IsSpread}
use Rattle.block_sizes.specs.Wides.{IsWide, farthest}
use Rattle.box_layout.specs.GridFrames.{AreTracks}
use Rattle.box_layout.proofs.FramesAnswered.{frames_told, grid_quiet}
use Rattle.box_layout.proofs.OwnRows.{are_tracks}
use Rattle.walker.specs.Walkers.{nodes, seen}
use Rattle.box_layout.proofs.framing.grid_frames_anew.Goals as goal

pub wide_for-requires : goal.wide_for-requires
wide_for-requires g c =
    let grid : (sight_at (nodes c.args.walk.now) c.args.id).label.kind ≡ kind.Grid = c.requires.grid in
    let counts : length c.args.seat.now.reps.now ≡ length (sight_at (nodes c.args.walk.now) c.args.id).chain = ap length (sym (ap (λ (q : Query). q.reps) c.requires.query)) ∙ c.requires.fits.reps in
    let seat : IsSeat (sight_at (nodes c.args.walk.now) c.args.id) c.args.seat.now.reps.now c.args.seat.now.above.now c.args.seat.now.area = c.requires.seat in
    let inline : IsGivenFor true (sees_columns (sight_at (nodes c.args.walk.now) c.args.id)) (outer_context (sight_at (nodes c.args.walk.now) c.args.id) c.args.seat.now.reps.now).columns.table.tracks c.args.query.inline =
    (subst (λ (r : List Pair). IsGivenFor true (sees_columns (sight_at (nodes c.args.walk.now) c.args.id)) (outer_context (sight_at (nodes c.args.walk.now) c.args.id) r).columns.table.tracks c.args.query.inline) (ap (λ (q : Query). q.reps) c.requires.query)
    (subst (λ (t : Bool). IsGivenFor t (sees_columns (sight_at (nodes c.args.walk.now) c.args.id)) (outer_context (sight_at (nodes c.args.walk.now) c.args.id) c.args.query.reps).columns.table.tracks c.args.query.inline)
    (ap (λ (q : Query). needs_inline q.ask) c.requires.query) c.requires.fits.inline)) in
    let spread : IsSpread (farthest (level_at (nodes c.args.walk.now) c.args.id)) c.args.query.inline = c.requires.columns in
    search rules

pub rows_of-requires-clause-live : goal.rows_of-requires-clause-live
rows_of-requires-clause-live g c = subst (λ (z : BareTrees). IsLive z c.args.id) (sym (c.in_ok-wide.ensures.below c.args.query (ap (λ (q : Query). q.reps) c.requires.query) refl (ap (λ (q : Query). needs_inline q.ask) c.requires.query)).walk.bare_same) c.requires.live

pub rows_of-requires-clause-readable : goal.rows_of-requires-clause-readable
rows_of-requires-clause-readable g c = subst (AreReadable) (sym (c.in_ok-wide.ensures.below c.args.query (ap (λ (q : Query). q.reps) c.requires.query) refl (ap (λ (q : Query). needs_inline q.ask) c.requires.query)).walk.bare_same) c.requires.stands.readable

pub rows_of-requires-clause-kind : goal.rows_of-requires-clause-kind
rows_of-requires-clause-kind g c = subst (λ (z : BareTrees). (sight_at z c.args.id).label.kind ≡ kind.Grid) (sym (c.in_ok-wide.ensures.below c.args.query (ap (λ (q : Query). q.reps) c.requires.query) refl (ap (λ (q : Query). needs_inline q.ask) c.requires.query)).walk.bare_same) c.requires.grid

pub rows_of-requires-clause-wide : goal.rows_of-requires-clause-wide
rows_of-requires-clause-wide g c =
    subst (λ (w : GridWide). IsWide (nodes c.wide_for.new.walk) c.args.id c.args.seat.now.reps.now c.args.query.inline w) (sym c.grid-held.ensures)
    (subst (λ (z : BareTrees). IsWide z c.args.id c.args.seat.now.reps.now c.args.query.inline c.in_ok-wide.wide)
    (sym (c.in_ok-wide.ensures.below c.args.query (ap (λ (q : Query). q.reps) c.requires.query) refl (ap (λ (q : Query). needs_inline q.ask) c.requires.query)).walk.bare_same) c.in_ok-wide.ensures.value)

pub rows_of-requires-clause-block : goal.rows_of-requires-clause-block
rows_of-requires-clause-block g c =
    subst (λ (z : BareTrees). IsGivenFor true (sees_rows (sight_at z c.args.id)) (outer_context (sight_at z c.args.id) c.args.seat.now.reps.now).rows.table.tracks c.args.query.block)
    (sym (c.in_ok-wide.ensures.below c.args.query (ap (λ (q : Query). q.reps) c.requires.query) refl (ap (λ (q : Query). needs_inline q.ask) c.requires.query)).walk.bare_same)
    (subst (λ (r : List Pair). IsGivenFor true (sees_rows (sight_at (nodes c.args.walk.now) c.args.id)) (outer_context (sight_at (nodes c.args.walk.now) c.args.id) r).rows.table.tracks c.args.query.block) (ap (λ (q : Query). q.reps) c.requires.query)
    (subst (λ (t : Bool). IsGivenFor t (sees_rows (sight_at (nodes c.args.walk.now) c.args.id)) (outer_context (sight_at (nodes c.args.walk.now) c.args.id) c.args.query.reps).rows.table.tracks c.args.query.block) (ap (λ (q : Query). needs_block q.ask) c.requires.query)
    c.requires.fits.block))

pub rows_of-requires-clause-spread : goal.rows_of-requires-clause-spread
rows_of-requires-clause-spread g c = subst (λ (z : BareTrees). IsSpread (farthest (level_at z c.args.id)) c.args.query.block)
    (sym (c.in_ok-wide.ensures.below c.args.query (ap (λ (q : Query). q.reps) c.requires.query) refl (ap (λ (q : Query). needs_inline q.ask) c.requires.query)).walk.bare_same) c.requires.rows

pub grid_framed-requires-clause-live : goal.grid_framed-requires-clause-live
grid_framed-requires-clause-live g c =
    subst (λ (z : BareTrees). IsLive z c.args.id) (sym (c.in_ok-wide.ensures.below c.args.query (ap (λ (q : Query). q.reps) c.requires.query) refl (ap (λ (q : Query). needs_inline q.ask) c.requires.query)).walk.bare_same) c.requires.live

pub grid_framed-requires-clause-kind : goal.grid_framed-requires-clause-kind
grid_framed-requires-clause-kind g c =
    subst (λ (z : BareTrees). (sight_at z c.args.id).label.kind ≡ kind.Grid) (sym (c.in_ok-wide.ensures.below c.args.query (ap (λ (q : Query). q.reps) c.requires.query) refl (ap (λ (q : Query). needs_inline q.ask) c.requires.query)).walk.bare_same) c.requires.grid

pub grid_framed-requires-clause-wide : goal.grid_framed-requires-clause-wide
grid_framed-requires-clause-wide g c =
    subst (λ (w : GridWide). IsWide (nodes c.wide_for.new.walk) c.args.id c.args.seat.now.reps.now c.args.query.inline w) (sym c.grid-held.ensures)
    (subst (λ (z : BareTrees). IsWide z c.args.id c.args.seat.now.reps.now c.args.query.inline c.in_ok-wide.wide) (sym
    (c.in_ok-wide.ensures.below c.args.query (ap (λ (q : Query). q.reps) c.requires.query) refl (ap (λ (q : Query). needs_inline q.ask) c.requires.query)).walk.bare_same) c.in_ok-wide.ensures.value)

pub grid_framed-requires-clause-columns : goal.grid_framed-requires-clause-columns
grid_framed-requires-clause-columns g c =
    subst (λ (w : GridWide). AreTracks w.parts.base.placed.columns w.columns.edges) (sym c.grid-held.ensures)
    (are_tracks c.in_ok-wide.wide.parts.base.placed.columns c.in_ok-wide.wide.columns.edges (level_at (nodes c.args.walk.now) c.args.id) (c.root.ensures.tree.level c.args.id) c.in_ok-wide.ensures.value.counted c.in_ok-wide.ensures.value.spread)

pub frames_kept-requires-clause-live : goal.frames_kept-requires-clause-live
frames_kept-requires-clause-live g c =
    subst (λ (z : BareTrees). IsLive z c.args.id) (sym (c.grid_framed.ensures.bare ∙ (c.in_ok-wide.ensures.below c.args.query (ap (λ (q : Query). q.reps) c.requires.query) refl (ap (λ (q : Query). needs_inline q.ask) c.requires.query)).walk.bare_same)) c.requires.live

pub frames_kept-requires-clause-fits : goal.frames_kept-requires-clause-fits
frames_kept-requires-clause-fits g c =
    subst (λ (z : BareTrees). Fits (sight_at z c.args.id) c.args.query) (sym (c.grid_framed.ensures.bare ∙ (c.in_ok-wide.ensures.below c.args.query (ap (λ (q : Query). q.reps) c.requires.query) refl (ap (λ (q : Query). needs_inline q.ask) c.requires.query)).walk.bare_same)) c.requires.fits

pub frames_kept-requires-clause-absent : goal.frames_kept-requires-clause-absent
frames_kept-requires-clause-absent g c =
    subst (IsAbsent c.args.query) (sym (c.grid_framed.ensures.kept c.args.id ∙ (c.in_ok-wide.ensures.below c.args.query (ap (λ (q : Query). q.reps) c.requires.query) refl (ap (λ (q : Query). needs_inline q.ask) c.requires.query)).own)) c.requires.absent

pub frames_kept-requires-clause-quiet : goal.frames_kept-requires-clause-quiet
frames_kept-requires-clause-quiet g c =
    grid_quiet (nodes c.grid_framed.new.walk) c.args.id c.args.query
    (subst (λ (z : BareTrees). (sight_at z c.args.id).label.kind ≡ kind.Grid) (sym (c.grid_framed.ensures.bare ∙ (c.in_ok-wide.ensures.below c.args.query (ap (λ (q : Query). q.reps) c.requires.query) refl (ap (λ (q : Query). needs_inline q.ask) c.requires.query)).walk.bare_same)) c.requires.grid)

pub frames_kept-requires-clause-value : goal.frames_kept-requires-clause-value
frames_kept-requires-clause-value g c =
    frames_told (nodes c.args.walk.now) (nodes c.wide_for.new.walk) (c.in_ok-wide.ensures.below c.args.query (ap (λ (q : Query). q.reps) c.requires.query) refl (ap (λ (q : Query). needs_inline q.ask) c.requires.query)).walk.bare_same c.args.id c.args.query c.args.seat.now.reps.now
    (sym (ap (λ (q : Query). q.reps) c.requires.query)) c.in_ok-rows.rows
    (map frame_of c.in_ok-frames.frames) c.requires.grid (ap (λ (q : Query). q.ask) c.requires.query) c.in_ok-rows.ensures.value c.in_ok-frames.ensures.value
    ∙ ap (λ (z : BareTrees). answer_of (sight_at z c.args.id) c.args.query) (sym (c.grid_framed.ensures.bare ∙ (c.in_ok-wide.ensures.below c.args.query (ap (λ (q : Query). q.reps) c.requires.query) refl (ap (λ (q : Query). needs_inline q.ask) c.requires.query)).walk.bare_same))

pub frames_kept-requires-clause-children : goal.frames_kept-requires-clause-children
frames_kept-requires-clause-children g c =
    c.in_ok-frames.ensures.children ∙ ap (λ (z : BareTrees). children_at z c.args.id) (sym c.grid_framed.ensures.bare)

pub returns-clause-value : goal.returns-clause-value
returns-clause-value g c =
    ap (λ (l : List NodeFrame). child_frames (map frame_of l)) c.in_ok-told.ensures.same ∙
    frames_told (nodes c.args.walk.now) (nodes c.wide_for.new.walk) (c.in_ok-wide.ensures.below c.args.query (ap (λ (q : Query). q.reps) c.requires.query) refl (ap (λ (q : Query). needs_inline q.ask) c.requires.query)).walk.bare_same c.args.id c.args.query c.args.seat.now.reps.now
    (sym (ap (λ (q : Query). q.reps) c.requires.query)) c.in_ok-rows.rows
    (map frame_of c.in_ok-frames.frames) c.requires.grid (ap (λ (q : Query). q.ask) c.requires.query) c.in_ok-rows.ensures.value c.in_ok-frames.ensures.value

pub returns-clause-children : goal.returns-clause-children
returns-clause-children g c =
    ap (map (λ (f : NodeFrame). f.child)) c.in_ok-told.ensures.same ∙ c.in_ok-frames.ensures.children ∙
    ap (λ (z : BareTrees). children_at z c.args.id) (c.in_ok-wide.ensures.below c.args.query (ap (λ (q : Query). q.reps) c.requires.query) refl (ap (λ (q : Query). needs_inline q.ask) c.requires.query)).walk.bare_same

pub returns-clause-walked : goal.returns-clause-walked
returns-clause-walked g c =
    c.in_ok-told.ensures.walked _ 2 (omega arith)
    (c.grid_framed.ensures.below c.args.query 2 (seen g.R.Ruler.log c.args.walk.now)
    (ticked c.args.id c.args.query 1 1 _ _ c.rows_of.new.passes c.rows_of.ensures.ticks (c.in_ok-wide.ensures.below c.args.query (ap (λ (q : Query). q.reps) c.requires.query) refl (ap (λ (q : Query). needs_inline q.ask) c.requires.query))))

pub returns-in_err-told-clause-stopped : goal.returns-in_err-told-clause-stopped
returns-in_err-told-clause-stopped g c =
    on_err _ _ (c.in_err-told.ensures.stopped _ 2
    (c.grid_framed.ensures.below c.args.query 2 (seen g.R.Ruler.log c.args.walk.now)
    (ticked c.args.id c.args.query 1 1 _ _ c.rows_of.new.passes c.rows_of.ensures.ticks (c.in_ok-wide.ensures.below c.args.query (ap (λ (q : Query). q.reps) c.requires.query) refl (ap (λ (q : Query). needs_inline q.ask) c.requires.query)))))

pub returns-clause-own : goal.returns-clause-own
returns-clause-own g c =
    c.in_ok-told.ensures.own ∙
    (λ i. kept_with ((c.grid_framed.ensures.kept c.args.id ∙ (c.in_ok-wide.ensures.below c.args.query (ap (λ (q : Query). q.reps) c.requires.query) refl (ap (λ (q : Query). needs_inline q.ask) c.requires.query)).own) i) ((c.args.query, answer.Frames c.in_ok-told.told) ∷ []))

pub returns-in_err-wide-clause-stopped : goal.returns-in_err-wide-clause-stopped
returns-in_err-wide-clause-stopped g c = on_err _ _ (c.in_err-wide.ensures.stopped c.args.query (ap (λ (q : Query). q.reps) c.requires.query) refl (ap (λ (q : Query). needs_inline q.ask) c.requires.query))

pub returns-in_err-rows-clause-stopped : goal.returns-in_err-rows-clause-stopped
returns-in_err-rows-clause-stopped g c =
    on_err _ _ (stopped c.args.id c.args.query 2 _ _ (ticked c.args.id c.args.query 1 1 _ _ c.rows_of.new.passes c.rows_of.ensures.ticks (c.in_ok-wide.ensures.below c.args.query (ap (λ (q : Query). q.reps) c.requires.query) refl (ap (λ (q : Query). needs_inline q.ask) c.requires.query))))

pub returns-in_err-frames-clause-stopped : goal.returns-in_err-frames-clause-stopped
returns-in_err-frames-clause-stopped g c =
    on_err _ _ (stopped c.args.id c.args.query 2 _ _
    (c.grid_framed.ensures.below c.args.query 2 (seen g.R.Ruler.log c.args.walk.now)
    (ticked c.args.id c.args.query 1 1 _ _ c.rows_of.new.passes c.rows_of.ensures.ticks (c.in_ok-wide.ensures.below c.args.query (ap (λ (q : Query). q.reps) c.requires.query) refl (ap (λ (q : Query). needs_inline q.ask) c.requires.query)))))

pub returns-in_err-wide-clause-parts : goal.returns-in_err-wide-clause-parts
returns-in_err-wide-clause-parts g c = c.wide_for.ensures.parts

pub returns-in_err-wide-clause-stands : goal.returns-in_err-wide-clause-stands
returns-in_err-wide-clause-stands g c = c.wide_for.ensures.stands

pub returns-in_err-rows-clause-parts : goal.returns-in_err-rows-clause-parts
returns-in_err-rows-clause-parts g c =
    record {
      tree = c.wide_for.ensures.parts.tree;
      ruler = c.wide_for.ensures.parts.ruler;
      tally = c.wide_for.ensures.parts.tally;
      passes = c.wide_for.ensures.parts.passes;
    }

pub returns-in_err-rows-clause-stands : goal.returns-in_err-rows-clause-stands
returns-in_err-rows-clause-stands g c = c.wide_for.ensures.stands

pub returns-in_err-frames-clause-parts : goal.returns-in_err-frames-clause-parts
returns-in_err-frames-clause-parts g c =
    record {
      tree = c.grid_framed.ensures.parts.tree ∙ c.wide_for.ensures.parts.tree;
      ruler = c.grid_framed.ensures.parts.ruler ∙ c.wide_for.ensures.parts.ruler;
      tally = c.grid_framed.ensures.parts.tally ∙ c.wide_for.ensures.parts.tally;
      passes = c.grid_framed.ensures.parts.passes ∙ c.wide_for.ensures.parts.passes;
    }

pub returns-in_err-frames-clause-stands : goal.returns-in_err-frames-clause-stands
returns-in_err-frames-clause-stands g c =
    c.grid_framed.ensures.stands

pub returns-in_err-told-clause-parts : goal.returns-in_err-told-clause-parts
returns-in_err-told-clause-parts g c =
    record {
      tree = c.frames_kept.ensures.parts.tree ∙ c.grid_framed.ensures.parts.tree ∙ c.wide_for.ensures.parts.tree;
      ruler = c.frames_kept.ensures.parts.ruler ∙ c.grid_framed.ensures.parts.ruler ∙ c.wide_for.ensures.parts.ruler;
      tally = c.frames_kept.ensures.parts.tally ∙ c.grid_framed.ensures.parts.tally ∙ c.wide_for.ensures.parts.tally;
      passes = c.frames_kept.ensures.parts.passes ∙ c.grid_framed.ensures.parts.passes ∙ c.wide_for.ensures.parts.passes;
    }

pub returns-in_err-told-clause-stands : goal.returns-in_err-told-clause-stands
returns-in_err-told-clause-stands g c =
    c.frames_kept.ensures.stands

pub returns-clause-parts : goal.returns-clause-parts
returns-clause-parts g c =
    record {
      tree = c.frames_kept.ensures.parts.tree ∙ c.grid_framed.ensures.parts.tree ∙ c.wide_for.ensures.parts.tree;
      ruler = c.frames_kept.ensures.parts.ruler ∙ c.grid_framed.ensures.parts.ruler ∙ c.wide_for.ensures.parts.ruler;
      tally = c.frames_kept.ensures.parts.tally ∙ c.grid_framed.ensures.parts.tally ∙ c.wide_for.ensures.parts.tally;
      passes = c.frames_kept.ensures.parts.passes ∙ c.grid_framed.ensures.parts.passes ∙ c.wide_for.ensures.parts.passes;
    }

pub returns-clause-stands : goal.returns-clause-stands
returns-clause-stands g c =
    c.frames_kept.ensures.stands

use Rattle.std.proofs.Common.{ap, subst, sym, ◌≡◌, ◌∙◌, map}
use Rattle.std.specs.Prelude.{IfSome}
use Rattle.placing.specs.Kept.{frame_of}
use Rattle.placing.specs.Nodes.{BareTrees, IsLive, children_at, kid_at, sight_at}
use Rattle.placing.specs.Told.{AreFrames, ArePastFrames, Each}
use Rattle.placing.specs.declared.node.Frame.{Frame as NodeFrame}
use Rattle.tree_rules.specs.declared.kind.NodeKind.TheVariants as kind
use Rattle.inline_sizes.proofs.Held.{places_held}
use Rattle.block_sizes.specs.Wides.{IsWide}
use Rattle.box_layout.specs.GridFrames.{framed_in}
use Rattle.walker.specs.Walkers.{nodes}
use Rattle.walker.proofs.Parts.{parts_then}
use Rattle.box_layout.proofs.answered.grid_framed.Goals as goal

pub grid_frames-requires-clause-live : goal.grid_frames-requires-clause-live
grid_frames-requires-clause-live g c =
    subst (λ (z : BareTrees). IsLive z c.args.id) (sym c.take_frames.ensures.bare) c.requires.live

pub grid_frames-requires-clause-readable : goal.grid_frames-requires-clause-readable
grid_frames-requires-clause-readable g c =
    c.take_frames.ensures.stands.readable

pub grid_frames-requires-clause-kind : goal.grid_frames-requires-clause-kind
grid_frames-requires-clause-kind g c =
    subst (λ (z : BareTrees). (sight_at z c.args.id).label.kind ≡ kind.Grid) (sym c.take_frames.ensures.bare) c.requires.kind

pub grid_frames-requires-clause-wide : goal.grid_frames-requires-clause-wide
grid_frames-requires-clause-wide g c =
    subst (λ (z : BareTrees). IsWide z c.args.id c.args.reps.now c.args.width.now c.args.wide.now) (sym c.take_frames.ensures.bare) c.requires.wide

pub grid_frames-requires-clause-past : goal.grid_frames-requires-clause-past
grid_frames-requires-clause-past g c =
    subst (λ (z : BareTrees). IfSome c.in_ok-past.past (ArePastFrames z c.args.id)) (sym c.take_frames.ensures.bare) c.in_ok-past.ensures.frames

pub keep_last-requires-clause-live : goal.keep_last-requires-clause-live
keep_last-requires-clause-live g c =
    subst (λ (z : BareTrees). IsLive z c.args.id) (sym c.take_frames.ensures.bare) c.requires.live

pub keep_last-requires-clause-places : goal.keep_last-requires-clause-places
keep_last-requires-clause-places g c =
    places_held (nodes c.take_frames.new.self) c.args.id c.args.reps.now c.args.width.now c.args.wide.now.parts.base
    (subst (λ (z : BareTrees). IsWide z c.args.id c.args.reps.now c.args.width.now c.args.wide.now) (sym c.take_frames.ensures.bare) c.requires.wide).grid.base

pub keep_last-requires-clause-frames : goal.keep_last-requires-clause-frames
keep_last-requires-clause-frames g c =
    subst (AreFrames (sight_at (nodes c.take_frames.new.self) c.args.id) (kid_at (nodes c.take_frames.new.self)) c.args.wide.now.parts.base c.args.wide.now.columns c.args.rows Each) (sym c.in_ok-shared.ensures) c.in_ok-frames.ensures.frames

pub returns-clause-value : goal.returns-clause-value
returns-clause-value g c =
    ap (map frame_of) c.in_ok-shared.ensures ∙ c.in_ok-frames.ensures.value ∙ ap (λ (z : BareTrees). framed_in z c.args.id c.args.reps.now c.args.width.now c.args.rows) c.take_frames.ensures.bare

pub returns-clause-children : goal.returns-clause-children
returns-clause-children g c =
    ap (map (λ (f : NodeFrame). f.child)) c.in_ok-shared.ensures ∙ c.in_ok-frames.ensures.children ∙ ap (λ (z : BareTrees). children_at z c.args.id) c.take_frames.ensures.bare

pub returns-in_err-past-clause-parts : goal.returns-in_err-past-clause-parts
returns-in_err-past-clause-parts g c =
    c.take_frames.ensures.parts

pub returns-in_err-past-clause-stands : goal.returns-in_err-past-clause-stands
returns-in_err-past-clause-stands g c =
    c.take_frames.ensures.stands

pub returns-in_err-past-clause-bare : goal.returns-in_err-past-clause-bare
returns-in_err-past-clause-bare g c =
    c.take_frames.ensures.bare

pub returns-in_err-past-clause-kept : goal.returns-in_err-past-clause-kept
returns-in_err-past-clause-kept g c =
    c.take_frames.ensures.kept

pub returns-in_err-past-clause-below : goal.returns-in_err-past-clause-below
returns-in_err-past-clause-below g c =
    c.take_frames.ensures.below

pub returns-in_err-frames-clause-parts : goal.returns-in_err-frames-clause-parts
returns-in_err-frames-clause-parts g c =
    c.take_frames.ensures.parts

pub returns-in_err-frames-clause-stands : goal.returns-in_err-frames-clause-stands
returns-in_err-frames-clause-stands g c =
    c.take_frames.ensures.stands

pub returns-in_err-frames-clause-bare : goal.returns-in_err-frames-clause-bare
returns-in_err-frames-clause-bare g c =
    c.take_frames.ensures.bare

pub returns-in_err-frames-clause-kept : goal.returns-in_err-frames-clause-kept
returns-in_err-frames-clause-kept g c =
    c.take_frames.ensures.kept

pub returns-in_err-frames-clause-below : goal.returns-in_err-frames-clause-below
returns-in_err-frames-clause-below g c =
    c.take_frames.ensures.below

pub returns-in_err-shared-clause-parts : goal.returns-in_err-shared-clause-parts
returns-in_err-shared-clause-parts g c =
    c.take_frames.ensures.parts

pub returns-in_err-shared-clause-stands : goal.returns-in_err-shared-clause-stands
returns-in_err-shared-clause-stands g c =
    c.take_frames.ensures.stands

pub returns-in_err-shared-clause-bare : goal.returns-in_err-shared-clause-bare
returns-in_err-shared-clause-bare g c =
    c.take_frames.ensures.bare

pub returns-in_err-shared-clause-kept : goal.returns-in_err-shared-clause-kept
returns-in_err-shared-clause-kept g c =
    c.take_frames.ensures.kept

pub returns-in_err-shared-clause-below : goal.returns-in_err-shared-clause-below
returns-in_err-shared-clause-below g c =
    c.take_frames.ensures.below

pub returns-in_err-keep_last-clause-parts : goal.returns-in_err-keep_last-clause-parts
returns-in_err-keep_last-clause-parts g c =
    parts_then _ _ _ c.take_frames.ensures.parts c.keep_last.ensures.parts

pub returns-in_err-keep_last-clause-stands : goal.returns-in_err-keep_last-clause-stands
returns-in_err-keep_last-clause-stands g c =
    c.keep_last.ensures.stands

pub returns-in_err-keep_last-clause-bare : goal.returns-in_err-keep_last-clause-bare
returns-in_err-keep_last-clause-bare g c =
    c.keep_last.ensures.bare ∙ c.take_frames.ensures.bare

pub returns-in_err-keep_last-clause-kept : goal.returns-in_err-keep_last-clause-kept
returns-in_err-keep_last-clause-kept g c =
    λ n. c.keep_last.ensures.kept n ∙ c.take_frames.ensures.kept n

pub returns-in_err-keep_last-clause-below : goal.returns-in_err-keep_last-clause-below
returns-in_err-keep_last-clause-below g c =
    λ q more old w. c.keep_last.ensures.below q more old (c.take_frames.ensures.below q more old w)

pub returns-clause-parts : goal.returns-clause-parts
returns-clause-parts g c =
    parts_then _ _ _ c.take_frames.ensures.parts c.keep_last.ensures.parts

pub returns-clause-stands : goal.returns-clause-stands
returns-clause-stands g c =
    c.keep_last.ensures.stands

pub returns-clause-bare : goal.returns-clause-bare
returns-clause-bare g c =
    c.keep_last.ensures.bare ∙ c.take_frames.ensures.bare

pub returns-clause-kept : goal.returns-clause-kept
returns-clause-kept g c =
    λ n. c.keep_last.ensures.kept n ∙ c.take_frames.ensures.kept n

pub returns-clause-below : goal.returns-clause-below
returns-clause-below g c =
    λ q more old w. c.keep_last.ensures.below q more old (c.take_frames.ensures.below q more old w)

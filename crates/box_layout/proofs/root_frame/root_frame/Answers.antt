use Rattle.std.proofs.Common.{◌≡◌, ◌∙◌, [], false, true, rules, refl, sym, ap, subst}
use Rattle.placing.proofs.Leaves.{on_err}
use Rattle.placing.specs.Kept.{frame_of}
use Rattle.placing.specs.Nodes.{BareTrees, IsLive, level_at, sight_at}
use Rattle.placing.specs.Ranges.{AreReadable}
use Rattle.tree_rules.specs.Boxes.{root_of}
use Rattle.tree_rules.specs.Answers.{Frame}
use Rattle.tree_rules.specs.AskedQueries.{block_query, inline_query}
use Rattle.tree_rules.specs.NodeSizes.{inner}
use Rattle.tree_rules.specs.Queries.{Fits, IsGivenFor}
use Rattle.inline_sizes.proofs.Limits.{content_some}
use Rattle.placing.specs.Spread.{IsSpread}
use Rattle.block_sizes.specs.Wides.{farthest}
use Rattle.box_layout.proofs.RootFramed.{block_fits, framed_root, given_root, inline_fits}
use Rattle.box_layout.proofs.RootFits.{frames_fit_alone}
use Rattle.box_layout.proofs.RootNear.{near_root}
use Rattle.box_layout.proofs.RootWalks.{both_quiet, both_walked, first_cut, second_cut}
use Rattle.box_layout.proofs.Unframed.{sizes_only}
use Rattle.walker.specs.Walkers.{nodes, seen}
use Rattle.walker.proofs.Parts.{parts_then}
use Rattle.box_layout.proofs.root_frame.root_frame.Goals as goal

pub widths_alone-requires : goal.widths_alone-requires
widths_alone-requires g c =
    let fits : Fits (sight_at (nodes c.args.walk.now) c.args.id) (inline_query false []) = inline_fits (sight_at (nodes c.args.walk.now) c.args.id) c.requires.alone in
    search rules

pub root_box-across-requires-clause-live : goal.root_box-across-requires-clause-live
root_box-across-requires-clause-live g c =
    subst (λ (z : BareTrees). IsLive z c.args.id) (sym c.in_ok-sizes.ensures.walked.walk.bare_same) c.requires.live

pub root_box-across-requires-clause-readable : goal.root_box-across-requires-clause-readable
root_box-across-requires-clause-readable g c =
    subst AreReadable (sym c.in_ok-sizes.ensures.walked.walk.bare_same) c.requires.stands.readable

pub root_given-inline-requires-clause-live : goal.root_given-inline-requires-clause-live
root_given-inline-requires-clause-live g c =
    subst (λ (z : BareTrees). IsLive z c.args.id) (sym c.in_ok-sizes.ensures.walked.walk.bare_same) c.requires.live

pub root_given-inline-requires-clause-readable : goal.root_given-inline-requires-clause-readable
root_given-inline-requires-clause-readable g c =
    subst AreReadable (sym c.in_ok-sizes.ensures.walked.walk.bare_same) c.requires.stands.readable

pub root_placed-requires-clause-live : goal.root_placed-requires-clause-live
root_placed-requires-clause-live g c =
    subst (λ (z : BareTrees). IsLive z c.args.id) (sym (c.in_ok-content.ensures.walked.walk.bare_same ∙ c.in_ok-sizes.ensures.walked.walk.bare_same)) c.requires.live

pub root_placed-requires-clause-readable : goal.root_placed-requires-clause-readable
root_placed-requires-clause-readable g c =
    subst AreReadable (sym (c.in_ok-content.ensures.walked.walk.bare_same ∙ c.in_ok-sizes.ensures.walked.walk.bare_same)) c.requires.stands.readable

pub height_alone-requires : goal.height_alone-requires
height_alone-requires g c =
    let live : IsLive (nodes c.widths_alone.new.walk) c.args.id = subst (λ (z : BareTrees). IsLive z c.args.id) (sym c.in_ok-sizes.ensures.walked.walk.bare_same) c.requires.live in
    let alone : (sight_at (nodes c.widths_alone.new.walk) c.args.id).chain ≡ [] = subst (λ (z : BareTrees). (sight_at z c.args.id).chain ≡ []) (sym c.in_ok-sizes.ensures.walked.walk.bare_same) c.requires.alone in
    let fits : Fits (sight_at (nodes c.widths_alone.new.walk) c.args.id) (block_query false [] c.root_given-inline.result) = block_fits (sight_at (nodes c.widths_alone.new.walk) c.args.id) alone c.root_box-across.result c.root_given-inline.result
    (content_some (inner (sight_at (nodes c.widths_alone.new.walk) c.args.id).label.grid.columns) c.root_box-across.result c.root_box-across.ensures.least) c.root_given-inline.ensures in
    let spread : IsSpread (farthest (level_at (nodes c.widths_alone.new.walk) c.args.id)) c.root_given-inline.result = subst (IsSpread (farthest (level_at (nodes c.widths_alone.new.walk) c.args.id))) (sym c.root_given-inline.ensures) tt in
    search rules

pub returns-clause-value : goal.returns-clause-value
returns-clause-value g c =
    framed_root (nodes c.args.walk.now) (nodes c.widths_alone.new.walk) (nodes c.height_alone.new.walk) c.args.id c.in_ok-sizes.ensures.walked.walk.bare_same c.in_ok-content.ensures.walked.walk.bare_same c.requires.alone c.args.width c.args.height c.in_ok-sizes.sizes
    c.root_box-across.result c.in_ok-sizes.ensures.value c.root_box-across.ensures.value c.root_given-inline.result c.root_given-inline.ensures c.in_ok-content.content c.in_ok-content.ensures.value (frame_of c.root_placed.result) c.root_placed.ensures.value

pub returns-clause-fits : goal.returns-clause-fits
returns-clause-fits g c =
    λ container. frames_fit_alone (sight_at (nodes c.args.walk.now) c.args.id) c.requires.alone container c.root_placed.result.inline c.root_placed.result.block
    (subst (IsGivenFor true false 0) (sym (ap (λ (f : Frame). f.inline) c.root_placed.ensures.value ∙ c.root_given-inline.ensures)) (content_some (inner (sight_at (nodes c.widths_alone.new.walk) c.args.id).label.grid.columns) c.root_box-across.result c.root_box-across.ensures.least))
    c.root_placed.ensures.some

pub returns-clause-near : goal.returns-clause-near
returns-clause-near g c =
    λ level h. near_root c.args.width c.args.height (root_of (sight_at (nodes c.args.walk.now) c.args.id).label (sight_at (nodes c.args.walk.now) c.args.id).below) level (frame_of c.root_placed.result)
    (framed_root (nodes c.args.walk.now) (nodes c.widths_alone.new.walk) (nodes c.height_alone.new.walk) c.args.id c.in_ok-sizes.ensures.walked.walk.bare_same c.in_ok-content.ensures.walked.walk.bare_same c.requires.alone c.args.width c.args.height c.in_ok-sizes.sizes
    c.root_box-across.result c.in_ok-sizes.ensures.value c.root_box-across.ensures.value c.root_given-inline.result c.root_given-inline.ensures c.in_ok-content.content c.in_ok-content.ensures.value (frame_of c.root_placed.result) c.root_placed.ensures.value)
    h c.root_placed.ensures.x c.root_placed.ensures.y

pub returns-clause-bare : goal.returns-clause-bare
returns-clause-bare g c =
    c.in_ok-content.ensures.walked.walk.bare_same ∙ c.in_ok-sizes.ensures.walked.walk.bare_same

pub returns-clause-laid : goal.returns-clause-laid
returns-clause-laid g c =
    both_walked c.args.width c.args.height c.args.id (seen g.R.Ruler.log c.args.walk.now) (seen g.R.Ruler.log c.widths_alone.new.walk) c.requires.top
    c.requires.stands.right c.in_ok-sizes.ensures.walked (seen g.R.Ruler.log c.height_alone.new.walk) c.root_given-inline.result
    (given_root (nodes c.args.walk.now) (nodes c.widths_alone.new.walk) c.args.id c.in_ok-sizes.ensures.walked.walk.bare_same c.requires.alone c.args.width c.in_ok-sizes.sizes c.root_box-across.result c.in_ok-sizes.ensures.value c.root_box-across.ensures.value
    c.root_given-inline.result c.root_given-inline.ensures) c.in_ok-content.ensures.walked

pub returns-clause-quiet : goal.returns-clause-quiet
returns-clause-quiet g c =
    both_quiet c.args.id (seen g.R.Ruler.log c.args.walk.now) (seen g.R.Ruler.log c.widths_alone.new.walk)
    (seen g.R.Ruler.log c.height_alone.new.walk) c.root_given-inline.result _
    (given_root (nodes c.args.walk.now) (nodes c.widths_alone.new.walk) c.args.id c.in_ok-sizes.ensures.walked.walk.bare_same c.requires.alone c.args.width c.in_ok-sizes.sizes c.root_box-across.result c.in_ok-sizes.ensures.value c.root_box-across.ensures.value
    c.root_given-inline.result c.root_given-inline.ensures) c.in_ok-sizes.ensures.found c.in_ok-content.ensures.found

pub returns-in_err-sizes-clause-bare : goal.returns-in_err-sizes-clause-bare
returns-in_err-sizes-clause-bare g c =
    c.in_err-sizes.ensures.stopped.walk.bare_same

pub returns-in_err-sizes-clause-cut : goal.returns-in_err-sizes-clause-cut
returns-in_err-sizes-clause-cut g c =
    on_err _ _
    (first_cut c.args.width c.args.height c.args.id (seen g.R.Ruler.log c.args.walk.now) (seen g.R.Ruler.log c.widths_alone.new.walk) c.requires.top
    c.requires.stands.right c.in_err-sizes.ensures.stopped)

pub returns-in_err-sizes-clause-quiet : goal.returns-in_err-sizes-clause-quiet
returns-in_err-sizes-clause-quiet g c =
    λ some also. c.in_err-sizes.ensures.found some

pub returns-in_err-content-clause-bare : goal.returns-in_err-content-clause-bare
returns-in_err-content-clause-bare g c =
    c.in_err-content.ensures.stopped.walk.bare_same ∙ c.in_ok-sizes.ensures.walked.walk.bare_same

pub returns-in_err-content-clause-cut : goal.returns-in_err-content-clause-cut
returns-in_err-content-clause-cut g c =
    on_err _ _
    (second_cut c.args.width c.args.height c.args.id (seen g.R.Ruler.log c.args.walk.now) (seen g.R.Ruler.log c.widths_alone.new.walk) c.requires.top
    c.requires.stands.right c.in_ok-sizes.ensures.walked (seen g.R.Ruler.log c.height_alone.new.walk) c.root_given-inline.result
    (given_root (nodes c.args.walk.now) (nodes c.widths_alone.new.walk) c.args.id c.in_ok-sizes.ensures.walked.walk.bare_same c.requires.alone c.args.width c.in_ok-sizes.sizes c.root_box-across.result c.in_ok-sizes.ensures.value c.root_box-across.ensures.value
    c.root_given-inline.result c.root_given-inline.ensures) c.in_err-content.ensures.stopped)

pub returns-in_err-content-clause-quiet : goal.returns-in_err-content-clause-quiet
returns-in_err-content-clause-quiet g c =
    both_quiet c.args.id (seen g.R.Ruler.log c.args.walk.now) (seen g.R.Ruler.log c.widths_alone.new.walk)
    (seen g.R.Ruler.log c.height_alone.new.walk) c.root_given-inline.result _
    (given_root (nodes c.args.walk.now) (nodes c.widths_alone.new.walk) c.args.id c.in_ok-sizes.ensures.walked.walk.bare_same c.requires.alone c.args.width c.in_ok-sizes.sizes c.root_box-across.result c.in_ok-sizes.ensures.value c.root_box-across.ensures.value
    c.root_given-inline.result c.root_given-inline.ensures) c.in_ok-sizes.ensures.found c.in_err-content.ensures.found

pub returns-clause-frames : goal.returns-clause-frames
returns-clause-frames g c =
    λ m p framed none. sizes_only c.args.id (block_query false [] c.root_given-inline.result) (seen g.R.Ruler.log c.widths_alone.new.walk)
    (seen g.R.Ruler.log c.height_alone.new.walk) c.in_ok-content.ensures.walked refl m p framed
    (sizes_only c.args.id (inline_query false []) (seen g.R.Ruler.log c.args.walk.now) (seen g.R.Ruler.log c.widths_alone.new.walk) c.in_ok-sizes.ensures.walked
    refl m p framed none)

pub returns-in_err-sizes-clause-parts : goal.returns-in_err-sizes-clause-parts
returns-in_err-sizes-clause-parts g c = c.widths_alone.ensures.parts

pub returns-in_err-sizes-clause-stands : goal.returns-in_err-sizes-clause-stands
returns-in_err-sizes-clause-stands g c = c.widths_alone.ensures.stands

pub returns-in_err-content-clause-parts : goal.returns-in_err-content-clause-parts
returns-in_err-content-clause-parts g c = parts_then _ _ _ c.widths_alone.ensures.parts c.height_alone.ensures.parts

pub returns-in_err-content-clause-stands : goal.returns-in_err-content-clause-stands
returns-in_err-content-clause-stands g c = c.height_alone.ensures.stands

pub returns-clause-parts : goal.returns-clause-parts
returns-clause-parts g c = parts_then _ _ _ c.widths_alone.ensures.parts c.height_alone.ensures.parts

pub returns-clause-stands : goal.returns-clause-stands
returns-clause-stands g c = c.height_alone.ensures.stands

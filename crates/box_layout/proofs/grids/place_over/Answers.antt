use Rattle.std.proofs.Common.{ap, ◌∙◌}
use Rattle.part_rules.specs.Views.{first_start}
use Rattle.box_layout.proofs.Starts.{place_near, place_over_shared, place_within}
use Rattle.box_layout.proofs.grids.place_over.Goals as goal

pub returns-clause-value : goal.returns-clause-value
returns-clause-value g c =
    c.place_in_area.ensures.value
    ∙ place_over_shared g.row.AXIS c.args.shares c.args.container.now c.args.style.now c.args.edges.now c.args.span c.args.size c.start_of-start.result c.room_over-room.result c.tracks_over-tracks.result.now c.tracks_over-tracks.ensures c.start_of-start.ensures.value c.room_over-room.ensures

pub returns-clause-range : goal.returns-clause-range
returns-clause-range g c = place_near c.args.edges.now c.args.span c.start_of-start.result c.place_in_area.result c.requires (c.start_of-start.ensures.value ∙ ap first_start c.tracks_over-tracks.ensures) c.place_in_area.ensures.near

pub returns-clause-near : goal.returns-clause-near
returns-clause-near g c = λ by s. place_within by c.args.edges.now c.args.span c.start_of-start.result c.place_in_area.result s (c.start_of-start.ensures.value ∙ ap first_start c.tracks_over-tracks.ensures) c.place_in_area.ensures.near

use Rattle.block_sizes.proofs.last_tracks.box_over.Goals as goal

pub tracks_over-tracks-requires-clause-end : goal.tracks_over-tracks-requires-clause-end
tracks_over-tracks-requires-clause-end g c = rw c.as_slice.ensures c.requires.span.end

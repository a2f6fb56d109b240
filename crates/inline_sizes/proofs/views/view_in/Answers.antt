use Rattle.inline_sizes.proofs.views.view_in.Goals as goal

pub gap_in-gap-requires-clause-end : goal.gap_in-gap-requires-clause-end
gap_in-gap-requires-clause-end g c = rw c.as_slice.ensures c.requires.end

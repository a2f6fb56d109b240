use Rattle.std.proofs.Common.{◌∙◌, refl, subst, sym}
use Rattle.part_rules.specs.Views.{tracks_over}
use Rattle.block_sizes.specs.Sharing.{AreSeenAlike}
use Rattle.block_sizes.proofs.SeenAlike.{made_again, seen_again}
use Rattle.block_sizes.proofs.last_tracks.again_for.Goals as goal

pub returns-clause-value : goal.returns-clause-value
returns-clause-value g c =
    seen_again c.args.outer.now c.args.last.now c.args.parts.now c.in_ok-tracks.tracks c.in_ok-tracks.ensures c.requires.last (sym c.same_sides.ensures ∙ c.if-not-same_sides.false)
    (subst (λ edges. AreSeenAlike (tracks_over edges c.args.last.now.parts.span) (tracks_over edges c.args.parts.now.span)) c.as_slice.ensures (c.seen_alike.ensures c.if-not-seen_alike.false))

pub returns-clause-last : goal.returns-clause-last
returns-clause-last g c =
    made_again c.args.outer.now c.args.last.now c.args.parts.now c.requires.span
    (seen_again c.args.outer.now c.args.last.now c.args.parts.now c.args.last.now.tracks refl c.requires.last (sym c.same_sides.ensures ∙ c.if-not-same_sides.false)
    (subst (λ edges. AreSeenAlike (tracks_over edges c.args.last.now.parts.span) (tracks_over edges c.args.parts.now.span)) c.as_slice.ensures (c.seen_alike.ensures c.if-not-seen_alike.false)))

use Rattle.std.proofs.Common.{ap, ◌∙◌, Bool, map}
use Rattle.part_rules.specs.Tracks.{group_fitted, each_distributed, high_limits, is_definite, low_limits, raise_limit}
use Rattle.track_sizing.specs.Groups.{base_steps_of}
use Rattle.track_sizing.proofs.group.fit_group.Goals as goal

pub returns-clause-rows : goal.returns-clause-rows
unfolding group_fitted
returns-clause-rows g c =
    c.distribute_high_limits.ensures.rows
    ∙ ap (high_limits c.args.crossing c.args.gap c.args.items.now) (c.distribute_low_limits.ensures.rows
    ∙ ap (low_limits c.args.crossing c.args.gap c.args.items.now) (c.raise_limits_to_bases.ensures.rows
    ∙ ap (map raise_limit) (c.fit_bases.ensures.rows
    ∙ ap (λ (b : Bool). each_distributed (base_steps_of b c.is_max_content-max.result c.args.gap c.args.crossing) c.args.gap c.args.items.now c.args.rows.now) c.is_definite-definite.ensures
    ∙ ap (λ (b : Bool). each_distributed (base_steps_of (is_definite c.args.space.now) b c.args.gap c.args.crossing) c.args.gap c.args.items.now c.args.rows.now) c.is_max_content-max.ensures)))

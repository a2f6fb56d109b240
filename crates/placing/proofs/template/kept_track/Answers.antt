use Rattle.std.proofs.Common.{arith, ◌∙◌, sym, [], List}
use Rattle.std.specs.Option.{option_copied, unwrap_or}
use Rattle.style_types.specs.declared.track.TrackFn.{TrackFn}
use Rattle.tree_rules.specs.Templates.{repeated_sizes}
use Rattle.placing.specs.Written.{around}
use Rattle.placing.proofs.Written.{kept_get, not_kept}
use Rattle.placing.proofs.template.kept_track.Goals as goal

pub returns-then-at-lt-MOST_TRACKS : goal.returns-then-at-lt-MOST_TRACKS
returns-then-at-lt-MOST_TRACKS c =
    let all : List TrackFn = around c.args.before (unwrap_or (option_copied c.args.listed) []) (repeated_sizes c.args.count c.args.repeated.now) in
    c.written_track.ensures ∙ sym (kept_get 10000 all c.args.at (omega arith))

pub returns-else-at-lt-MOST_TRACKS : goal.returns-else-at-lt-MOST_TRACKS
returns-else-at-lt-MOST_TRACKS c =
    let all : List TrackFn = around c.args.before (unwrap_or (option_copied c.args.listed) []) (repeated_sizes c.args.count c.args.repeated.now) in
    sym (not_kept 10000 all c.args.at (omega arith))

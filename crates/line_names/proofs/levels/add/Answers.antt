use Rattle.std.proofs.Common.{ap, ◌∙◌, ◌+◌}
use Rattle.line_names.specs.Levels.{either, joined_in}
use Rattle.line_names.specs.Indexes.{lines_in}
use Rattle.line_names.specs.LineLists.{listed}
use Rattle.line_names.specs.Passing.{passing}
use Rattle.line_names.proofs.Names.{part_put}
use Rattle.line_names.proofs.levels.add.Goals as goal

pub returns-in_ok-put : goal.returns-in_ok-put
returns-in_ok-put c = λ done part.
    part_put c.args.index.now.lines c.put.new.self.lines done (joined_in c.args.own.now c.args.above.now c.args.base.line c.args.tracks) c.args.name.now c.in_ok-lines.lines
    (c.in_ok-lines.ensures
    ∙ ap (λ ls. passing (either ls (listed c.found.result) c.args.base.line) c.args.base.line (c.args.tracks + 1)) c.lines_of-then-is_empty.ensures
    ∙ ap (λ ls. passing (either (lines_in c.args.own.now.lines c.args.name.now) ls c.args.base.line) c.args.base.line (c.args.tracks + 1)) c.found.ensures) c.in_ok-put.ensures part

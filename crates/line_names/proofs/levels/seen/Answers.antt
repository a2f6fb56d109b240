use Rattle.std.proofs.Common.{sym, ◌∙◌, true≢false}
use Rattle.line_names.specs.Levels.{found, told_from, within}
use Rattle.line_names.specs.LineLists.{listed}
use Rattle.line_names.specs.Indexes.{lines_in}
use Rattle.line_names.proofs.Shared.{own_first}
use Rattle.line_names.proofs.levels.seen.Goals as goal

pub returns : goal.returns
returns c =
    own_first c.args.base.line (listed c.lines_of-lines.result) (lines_in c.args.index.now.lines c.args.name.now) (within c.args.limit.start c.args.limit.end (told_from c.args.base.line (found c.args.above.now c.args.name.now))) c.lines_of-lines.ensures
    (λ none. true≢false (sym (c.is_empty.ensures.1 none) ∙ c.if-is_empty.false))

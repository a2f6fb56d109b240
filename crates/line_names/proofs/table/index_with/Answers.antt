use Rattle.std.proofs.Common.{sym, subst, ◌∙◌, ◌++◌, ◌+◌, [], get_or, pos}
use Rattle.std.proofs.lemmas.Result.{IfOk-weaker}
use Rattle.part_rules.specs.LineNames.{names_by_areas}
use Rattle.line_names.specs.Levels.{HoldsLines}
use Rattle.line_names.specs.SetLists.{sets_of}
use Rattle.line_names.proofs.Made.{lines_made}
use Rattle.line_names.proofs.SetLists.{counted}
use Rattle.line_names.proofs.Shared.{lines_bare}
use Rattle.line_names.proofs.table.index_with.Goals as goal

pub index_below-requires-clause-lines : goal.index_below-requires-clause-lines
index_below-requires-clause-lines c = sym (counted c.in_ok-lines.lines.sets c.in_ok-lines.lines.kinds) ∙ c.in_ok-lines.ensures.lines.counted

pub returns : goal.returns
returns c =
    IfOk-weaker c.index_below.result _ _
    (λ index h.
    subst (λ ls. HoldsLines index c.args.above.now c.args.base.line c.args.tracks ls)
    (lines_made (λ line. get_or c.args.sets.now line [] ++ names_by_areas (pos line) c.args.areas.now) (c.args.tracks + 1) (sets_of c.in_ok-lines.lines.sets c.in_ok-lines.lines.kinds) c.in_ok-lines.ensures.lines)
    h)
    c.index_below.ensures

pub returns-then-is_empty-2 : goal.returns-then-is_empty-2
returns-then-is_empty-2 c =
    lines_bare c.new.result c.args.above.now c.args.base.line c.args.tracks c.args.sets.now c.args.areas.now c.is_empty.result c.is_empty-then-is_empty.result c.new.ensures c.is_empty.ensures c.if-is_empty.true c.is_empty-then-is_empty.ensures c.if-is_empty-2.true

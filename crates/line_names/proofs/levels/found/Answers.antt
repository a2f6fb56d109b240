use Rattle.std.proofs.Common.{sym, ap, true≢false, ◌∙◌, ◌≡◌, []}
use Rattle.line_names.specs.Indexes.{lines_in}
use Rattle.line_names.specs.LineLists.{listed}
use Rattle.line_names.proofs.Shared.{found_here}
use Rattle.line_names.proofs.levels.found.Goals as goal

pub returns-then-not-is_empty : goal.returns-then-not-is_empty
returns-then-not-is_empty c =
    let some : ¬ (listed c.lines_of-lines.result ≡ []) = λ none. true≢false (sym (c.is_empty.ensures.1 none) ∙ c.if-not-is_empty.true) in
    let own : listed c.lines_of-lines.result ≡ lines_in c.level-item.result.index.lines c.args.name.now = c.lines_of-lines.ensures ∙ ap (λ l. lines_in l.index.lines c.args.name.now) c.level.ensures in
    own
    ∙ sym (found_here c.args.levels.now c.args.name.now c.loop-level.level-index c.level-item.result c.loop-level-test.true c.level-item.is (λ none. some (own ∙ none)))
    ∙ c.loop-level.invariant

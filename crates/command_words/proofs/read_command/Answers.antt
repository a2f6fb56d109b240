use Rattle.std.proofs.Common.{sym, ◌∙◌}
use Rattle.command_words.specs.Options.{texts}
use Rattle.command_words.proofs.Nodes.{read_nodes}
use Rattle.command_words.proofs.Words.{layout_ok, make_ok, write_ok}
use Rattle.command_words.proofs.read_command.Goals as goal

pub returns-then-is_word-clause-taken : goal.returns-then-is_word-clause-taken
returns-then-is_word-clause-taken c =
    layout_ok c.args.words.now c.in-Some.first.now c.in-Some.rest.now c.in-Some.ensures.cases.0 c.read_layout.result (sym c.is_word.ensures ∙ c.if-is_word.true) c.read_layout.ensures.taken

pub returns-then-is_word-2-clause-taken : goal.returns-then-is_word-2-clause-taken
returns-then-is_word-2-clause-taken c =
    make_ok c.args.words.now c.in-Some.first.now c.in-Some.rest.now c.in-Some.ensures.cases.0 c.read_make.result (sym c.is_word.ensures ∙ c.if-is_word.false)
    (sym c.is_word-else-is_word.ensures ∙ c.if-is_word-2.true) c.read_make.ensures.taken

pub returns-then-is_word-clause-nodes : goal.returns-then-is_word-clause-nodes
returns-then-is_word-clause-nodes c = read_nodes (texts c.args.words.now) c.read_layout.result (returns-then-is_word-clause-taken c)

pub returns-then-is_word-2-clause-nodes : goal.returns-then-is_word-2-clause-nodes
returns-then-is_word-2-clause-nodes c = read_nodes (texts c.args.words.now) c.read_make.result (returns-then-is_word-2-clause-taken c)

pub returns-then-is_word-3-clause-taken : goal.returns-then-is_word-3-clause-taken
returns-then-is_word-3-clause-taken c =
    write_ok c.args.words.now c.in-Some.first.now c.in-Some.rest.now c.in-Some.ensures.cases.0 c.read_write.result (sym c.is_word.ensures ∙ c.if-is_word.false)
    (sym c.is_word-else-is_word.ensures ∙ c.if-is_word-2.false) (sym c.is_word-else-is_word-2.ensures ∙ c.if-is_word-3.true) c.read_write.ensures.taken

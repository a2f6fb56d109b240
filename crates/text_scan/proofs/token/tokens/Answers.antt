use Rattle.std.proofs.Common.{ap, sym, subst, ◌∙◌}
use Rattle.text_scan.specs.Tokens.{before_comment, tokens_from, AreTokens}
use Rattle.text_scan.proofs.Found.{all_tokens}
use Rattle.text_scan.proofs.Blank.{skipped_tokens}
use Rattle.text_scan.proofs.token.tokens.Goals as goal

pub returns-clause-all : goal.returns-clause-all
returns-clause-all c =
    let bytes = before_comment c.args.line.now.bytes in
    let source = c.before_comment.ensures ∙ ap before_comment c.as_slice.ensures in
    subst (AreTokens bytes) (sym (c.in_ok-tokens.ensures ∙ ap (tokens_from 0) source)) (all_tokens bytes)

pub returns-clause-none : goal.returns-clause-none
returns-clause-none c =
    let source = c.before_comment.ensures ∙ ap before_comment c.as_slice.ensures in
    skipped_tokens c.args.line.now c.in_ok-tokens.tokens.items c.requires (c.in_ok-tokens.ensures ∙ ap (tokens_from 0) source)

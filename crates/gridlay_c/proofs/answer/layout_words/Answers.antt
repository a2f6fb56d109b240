use Rattle.std.proofs.Common.{◌++◌, ◌∷◌, [], ◌∙◌, ap}
use Rattle.command_words.specs.Commands.{command_of}
use Rattle.session.specs.Words.{asked}
use Rattle.gridlay_c.proofs.Program.{is_layout}
use Rattle.gridlay_c.proofs.answer.layout_words.Goals as goal

pub returns : goal.returns
returns c =
    ap asked (c.in_ok-push.ensures.items ∙ ap (λ words. words ++ c.in_ok-from_str.field-0 ∷ []) c.new-words.ensures.items)
    ∙ ap (λ word. command_of (word ∷ [])) c.in_ok-from_str.ensures.ok ∙ is_layout

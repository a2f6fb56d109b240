use Rattle.std.proofs.Common.{rules, ap, ap₂, codes, true, ◌≡◌, ◌∙◌}
use Rattle.std.proofs.lemmas.Result.{IfOk-weaker}
use Rattle.clap.specs.Words.{app_of, rule_of, with_rule}
use Rattle.clap.specs.Simple.{on_top, app_of_fields}
use Rattle.command_words.specs.Options.{layout, flag, command_named, bare}
use Rattle.command_words.proofs.layout.layout_command.Goals as goal

pub returns : goal.returns
unfolding layout
returns c =
    let stats_is : rule_of c.action-stats.result ≡ flag (codes "stats") = search rules in
    let bare_is : app_of c.disable_help_flag.result ≡ command_named (codes "layout") = ap app_of_fields c.disable_help_flag.ensures
    ∙ ap (λ f. app_of_fields (record f { disable_help_flag = true })) c.no_binary_name.ensures ∙ ap (on_top bare) c.new-2.ensures.app in
    IfOk-weaker c.arg.result _ _ (λ m h. h.shape (search rules) ∙ ap₂ with_rule bare_is stats_is) c.arg.ensures

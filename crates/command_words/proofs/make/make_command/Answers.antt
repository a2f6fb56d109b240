use Rattle.std.proofs.Common.{rules, ap, ap₂, codes, true, ◌≡◌, ◌∙◌}
use Rattle.std.proofs.lemmas.Result.{IfOk-weaker}
use Rattle.clap.specs.Words.{app_of, rule_of, with_rule}
use Rattle.clap.specs.Simple.{on_top, app_of_fields}
use Rattle.command_words.specs.Options.{make, valued, command_named, bare}
use Rattle.command_words.proofs.make.make_command.Goals as goal

pub returns : goal.returns
unfolding make
returns c =
    let seed_is : rule_of c.required-seed.result ≡ valued (codes "seed") = search rules in
    let nodes_is : rule_of c.required-nodes.result ≡ valued (codes "nodes") = search rules in
    let bare_is : app_of c.disable_help_flag-command.result ≡ command_named (codes "make") = ap app_of_fields c.disable_help_flag-command.ensures
    ∙ ap (λ f. app_of_fields (record f { disable_help_flag = true })) c.no_binary_name.ensures ∙ ap (on_top bare) c.new-3.ensures.app in
    let seeded : app_of c.in_ok-arg.field-0 ≡ with_rule (command_named (codes "make")) (valued (codes "seed")) = c.in_ok-arg.ensures.shape (search rules) ∙ ap₂ with_rule bare_is seed_is in
    IfOk-weaker c.arg-2.result _ _ (λ m h. h.shape (search rules) ∙ ap₂ with_rule seeded nodes_is) c.arg-2.ensures

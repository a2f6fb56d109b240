use Rattle.std.proofs.Common.{rules, ◌≡◌, List, ap, ◌∙◌}
use Rattle.std.specs.List.{list_all}
use Rattle.text_scan.specs.declared.token.Token.{Token}
use Rattle.text_scan.specs.Tokens.{tokens_from}
use Rattle.track_text.specs.Words.{fits}
use Rattle.track_text.proofs.Within.{tokens_fit}
use Rattle.value_text.proofs.read.read_decl.Goals as goal

pub read_tokens-requires : goal.read_tokens-requires
read_tokens-requires c =
    let tokens : c.as_slice.result.now ≡ tokens_from 0 c.args.text.now = search rules in
    ap (λ (ts : List Token). list_all (fits c.args.text.now) ts) tokens ∙ tokens_fit c.args.text.now

use Rattle.std.proofs.Common.{rules, ◌≡◌, List, ap, ◌∙◌}
use Rattle.std.specs.List.{list_all}
use Rattle.text_scan.specs.declared.token.Token.{Token}
use Rattle.text_scan.specs.Tokens.{tokens_from}
use Rattle.track_text.specs.Words.{fits}
use Rattle.track_text.proofs.Within.{tokens_fit}
use Rattle.doc_text.proofs.node_text.all_widths.Goals as goal

pub widths_of-requires : goal.widths_of-requires
widths_of-requires c =
    let tokens : c.as_slice.result.now ≡ tokens_from 0 c.args.text.now.bytes = search rules in
    ap (λ (ts : List Token). list_all (fits c.args.text.now.bytes) ts) tokens ∙ tokens_fit c.args.text.now.bytes

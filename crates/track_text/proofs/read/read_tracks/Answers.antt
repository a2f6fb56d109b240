use Rattle.std.proofs.Common.{rules, ◌≡◌, List, ap, ◌∙◌}
use Rattle.std.specs.List.{list_all}
use Rattle.text_scan.specs.declared.token.Token.{Token}
use Rattle.text_scan.specs.Tokens.{tokens_from}
use Rattle.track_text.specs.Words.{fits}
use Rattle.track_text.proofs.Within.{tokens_fit}
use Rattle.track_text.proofs.read.read_tracks.Goals as goal

pub new-requires : goal.new-requires
new-requires c =
    let tokens : c.as_slice-tokens.result.now ≡ tokens_from 0 c.args.text.now = search rules in
    ap (λ (ts : List Token). list_all (fits c.args.text.now) ts) tokens ∙ tokens_fit c.args.text.now

pub new-requires-2 : goal.new-requires-2
new-requires-2 c =
    let tokens : c.as_slice-tokens.result.now ≡ tokens_from 0 c.args.text.now = search rules in
    ap (λ (ts : List Token). list_all (fits c.args.text.now) ts) tokens ∙ tokens_fit c.args.text.now

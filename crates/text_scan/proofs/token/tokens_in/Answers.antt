use Rattle.std.proofs.Common.{◌≡◌, ◌+◌, ℕ, List, ◌∷◌, [], ◌++◌, ap, sym, ◌∙◌, drop, arith, append_assoc}
use Rattle.text_scan.specs.declared.token.Token.{Token}
use Rattle.text_scan.specs.Tokens.{token_at, tokens_from}
use Rattle.text_scan.proofs.Runs.{token_then, next_token, next_space}
use Rattle.text_scan.proofs.token.tokens_in.Goals as goal

pub loop-at-preserved-then-length-eq0 : goal.loop-at-preserved-then-length-eq0
loop-at-preserved-then-length-eq0 c =
    let bytes = c.args.bytes.now in
    let none = sym c.front_length-length.ensures.length ∙ c.if-length-eq0.true in (
      omega (arith, c.loop-at-test.true),
      ap (λ (ts : List Token). c.loop-at.tokens.items ++ ts) (sym (next_space bytes c.loop-at.at c.loop-at-test.true none)) ∙ c.loop-at.invariant.1,
    )

pub loop-at-preserved : goal.loop-at-preserved
loop-at-preserved c =
    let bytes = c.args.bytes.now in
    let at = c.loop-at.at in
    let is = c.front_length-length.ensures.length in
    let end = at + c.front_length-length.result in
    let step : tokens_from at (drop at bytes) ≡ token_then at end (drop end bytes) =
    next_token bytes at (omega (arith, is, c.if-length-eq0.false)) ∙ ap (λ (n : ℕ). token_then at (at + n) (drop (at + n) bytes)) (sym is) in (
      c.front_length-length.ensures.within,
      ap (λ (ts : List Token). ts ++ tokens_from end (drop end bytes)) c.in_ok-push.ensures.items
          ∙ append_assoc c.loop-at.tokens.items (token_at at end ∷ []) (tokens_from end (drop end bytes))
          ∙ ap (λ (ts : List Token). c.loop-at.tokens.items ++ ts) (sym step) ∙ c.loop-at.invariant.1,
    )

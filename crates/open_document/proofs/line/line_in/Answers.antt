use Rattle.std.proofs.Common.{◌≡◌, ℕ, ap, ◌∙◌, take}
use Rattle.text_scan.proofs.Read.{line_is, take_min}
use Rattle.open_document.proofs.line.line_in.Goals as goal

pub returns : goal.returns
returns c =
    let bytes = c.args.bytes.now in
    let kept : c.from_vec-bytes.result ≡ take 65536 bytes =
    c.from_vec-bytes.ensures ∙ c.in_ok-from_slice.ensures.items ∙ c.split_at.ensures.front ∙ ap (λ (k : ℕ). take k bytes) c.min.ensures ∙ take_min bytes 65536 in
    line_is 1 bytes c.from_vec-bytes.result c.line_fault-fault.result kept c.line_fault-fault.ensures

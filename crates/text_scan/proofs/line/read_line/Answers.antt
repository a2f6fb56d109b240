use Rattle.std.proofs.Common.{◌≡◌, ℕ, ap, ◌∙◌, take}
use Rattle.text_scan.specs.Lines.{line_of}
use Rattle.text_scan.proofs.Read.{take_min, line_is}
use Rattle.text_scan.proofs.line.read_line.Goals as goal

pub returns : goal.returns
returns c =
    let front = c.split_at.result.0.now in
    let kept : c.from_vec-bytes.result ≡ take 65536 front =
    c.from_vec-bytes.ensures ∙ c.in_ok-from_slice.ensures.items ∙ c.split_at-2.ensures.front
    ∙ ap (λ (k : ℕ). take k front) c.min.ensures ∙ take_min front 65536 in
    line_is c.args.number front _ _ kept c.line_fault-fault.ensures ∙ ap (line_of c.args.number) c.split_at.ensures.front

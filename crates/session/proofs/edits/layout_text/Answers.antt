use Rattle.std.proofs.Common.{◌≡◌, List, ℕ, refl, ap, ◌∙◌, ◌++◌}
use Rattle.outside.proofs.Laws.{stays_same}
use Rattle.session.specs.Boxes.{boxes_of}
use Rattle.session.specs.Printing.{box_lines, print}
use Rattle.session.specs.Standing.{doc_of}
use Rattle.session.proofs.Laid.{laid_front, laid_not}
use Rattle.session.proofs.Replies.{laid_reply, on_any}
use Rattle.session.proofs.Spares.{spares_any}
use Rattle.session.proofs.edits.layout_text.Goals as goal

pub returns-in_err-boxes-clause-err : goal.returns-in_err-boxes-clause-err
returns-in_err-boxes-clause-err g c =
    on_any c.from_residual.result (laid_not (g.R.Ruler.log c.args.ruler.now) (g.R.Ruler.log c.args.ruler.now) c.args.k (doc_of c.args.engine.now) (stays_same (g.R.Ruler.log c.args.ruler.now)))

pub returns-in_err-append_counts-clause-err : goal.returns-in_err-append_counts-clause-err
returns-in_err-append_counts-clause-err g c =
    on_any c.from_residual-in_err-append_counts.result (laid_front (g.R.Ruler.log c.args.ruler.now) (g.R.Ruler.log c.lay_out.new.ruler) c.args.k (doc_of c.args.engine.now) c.in_ok-counted.counted.measured c.in_ok-counted.ensures.laid)

pub returns-in_err-append_counts-clause-spares : goal.returns-in_err-append_counts-clause-spares
returns-in_err-append_counts-clause-spares g c touches before p = spares_any touches before (g.R.Ruler.log c.lay_out.new.ruler) c.lay_out.new.self.page c.from_residual-in_err-append_counts.result (c.in_ok-counted.ensures.spares touches before p)

pub returns-clause-replies : goal.returns-clause-replies
returns-clause-replies g c touches empty =
    let boxes = boxes_of (doc_of c.args.engine.now) in
    let told : c.into_text-text.result.items ≡ print c.args.k boxes = ◌∙◌ {A = List ℕ} (ap (λ b. b.items) c.into_text-text.ensures) (◌∙◌ {A = List ℕ} c.in_ok-counted.ensures.boxes (ap (λ (x : List ℕ). x ++ box_lines boxes) c.in_ok-boxes.ensures)) in
    laid_reply c.args.stats touches (g.R.Ruler.log c.args.ruler.now) (g.R.Ruler.log c.lay_out.new.ruler) c.args.k c.args.engine.now.page c.lay_out.new.self.page c.in_ok-counted.counted.measured c.in_ok-counted.counted.added c.args.passes.now c.lay_out.new.passes boxes
    c.into_text-text.result.items c.append_counts.new.out.items c.in_ok-counted.ensures.walks refl told c.in_ok-append_counts.ensures.ok empty

pub returns-in_err-boxes-clause-same : goal.returns-in_err-boxes-clause-same
returns-in_err-boxes-clause-same g c = record { document = refl; steps = refl; calls = refl }

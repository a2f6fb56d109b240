use Rattle.std.proofs.Common.{rules, ap, ◌∙◌, ◌≡◌, ◌++◌, ◌%◌, ◌==◌, take, drop, to_z, of_z, w32, SFits}
use Rattle.std.proofs.lemmas.Int.{to_z-of_z}
use Rattle.std.proofs.lemmas.List.{take_rest}
use Rattle.cell_index.specs.Taken.{one_if}
use Rattle.cell_index.proofs.Edges.{in_order}
use Rattle.cell_index.proofs.columns.with_span.Goals as goal

pub returns : goal.returns
returns c =
    let starts : SFits w32 c.args.columns.start = search rules in
    let ends : SFits w32 c.args.columns.end = search rules in
    let front : c.truncate.new.self.items ≡ take c.args.first c.args.edges.items = c.truncate.ensures.items in
    let one : c.in_ok-edges.edges.items ≡
    take c.args.first c.args.edges.items ++ one_if (c.args.first % 2 == 0) c.args.columns.start = c.in_ok-edges.ensures ∙ ap (λ l. l ++ one_if (c.args.first % 2 == 0) (to_z w32 (of_z w32 c.args.columns.start))) front ∙
    ap (λ z. take c.args.first c.args.edges.items ++ one_if (c.args.first % 2 == 0) z) (to_z-of_z w32 c.args.columns.start starts) in
    let two : c.in_ok-edges-2.edges.items ≡ c.in_ok-edges.edges.items ++ one_if (c.args.last % 2 == 0) c.args.columns.end = c.in_ok-edges-2.ensures ∙ ap (λ z. c.in_ok-edges.edges.items ++ one_if (c.args.last % 2 == 0) z) (to_z-of_z w32 c.args.columns.end ends) in
    let back : c.as_slice.result.now ≡ drop c.args.last c.args.edges.items = c.as_slice.ensures.value ∙ c.in_ok-behind.ensures.items ∙ take_rest c.deref.result.now c.args.last ∙ ap (λ l. drop c.args.last l) c.deref.ensures.value in
    let all : c.extend_from_slice.new.self.items ≡ c.in_ok-edges-2.edges.items ++ drop c.args.last c.args.edges.items = c.in_ok-extend_from_slice.ensures.items ∙ ap (λ l. c.in_ok-edges-2.edges.items ++ l) back in
    in_order (take c.args.first c.args.edges.items) (one_if (c.args.first % 2 == 0) c.args.columns.start) (one_if (c.args.last % 2 == 0) c.args.columns.end) (drop c.args.last c.args.edges.items) c.in_ok-edges.edges.items c.in_ok-edges-2.edges.items c.extend_from_slice.new.self.items one two all

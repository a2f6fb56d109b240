use Rattle.std.proofs.Common.{rules, refl, sym, subst, ◌∙◌, ℤ, List, to_z, of_z, w32, SFits}
use Rattle.std.proofs.lemmas.Int.{to_z-of_z}
use Rattle.std.proofs.lemmas.List.{take_rest}
use Rattle.cell_index.specs.Rising.{AreRising}
use Rattle.cell_index.proofs.Passed.{passed_from}
use Rattle.cell_index.proofs.columns.TakenColumns.pass.Goals as goal

pub returns : goal.returns
returns c =
    let fits : SFits w32 c.passed.result = search rules in
    let rising : AreRising c.as_slice-edges.result.now = subst (λ (l : List ℤ). AreRising l) (sym c.as_slice-edges.ensures.value) c.self.invariant in
    passed_from c.as_slice-edges.result.now c.args.self.now _ c.count_through-first.result c.args.start (to_z w32 (of_z w32 c.args.start)) c.passed.result (to_z w32 (of_z w32 c.passed.result)) c.args.columns _ (c.as_slice-edges.ensures.value ∙ c.self.view_is) rising c.requires
    c.count_through-first.ensures.within c.count_through-first.ensures.through (to_z-of_z w32 c.args.start c.ranges.start) (to_z-of_z w32 c.passed.result fits) (take_rest c.as_slice-edges.result.now c.count_through-first.result) refl c.passed.ensures

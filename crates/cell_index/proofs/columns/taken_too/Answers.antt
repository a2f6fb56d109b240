use Rattle.std.proofs.Common.{sym, subst, ap, ◌∙◌, ℤ, List, false, rules, to_z, of_z, w32, SFits}
use Rattle.std.proofs.lemmas.Int.{to_z-of_z}
use Rattle.cell_index.specs.Rising.{AreRising}
use Rattle.cell_index.specs.Taken.{changes}
use Rattle.cell_index.proofs.Edges.{IsParted, parted, span_added, span_rises}
use Rattle.cell_index.proofs.columns.taken_too.Goals as goal

pub returns-clause-rising : goal.returns-clause-rising
returns-clause-rising c =
    let P : List ℤ → Type 0 = λ l. AreRising l in
    let starts : SFits w32 c.args.columns.start = search rules in
    let ends : SFits w32 c.args.columns.end = search rules in
    let parts : IsParted c.args.edges.items c.count_before-first.result c.count_through-last.result c.args.columns = parted c.args.edges.items c.as_slice.result.now c.as_slice-2.result.now c.count_before-first.result c.count_through-last.result c.args.columns
    (to_z w32 (of_z w32 c.args.columns.start)) (to_z w32 (of_z w32 c.args.columns.end)) c.as_slice.ensures.value c.as_slice-2.ensures.value (to_z-of_z w32 c.args.columns.start starts) (to_z-of_z w32 c.args.columns.end ends) c.requires.some c.count_before-first.ensures.within
    c.count_through-last.ensures.within c.count_before-first.ensures.before c.count_before-first.ensures.from c.count_through-last.ensures.through c.count_through-last.ensures.after in
    subst P (sym c.in_ok-now.ensures) (span_rises c.args.edges.items c.count_before-first.result c.count_through-last.result c.args.columns c.requires.rising parts)

pub returns-clause-taken : goal.returns-clause-taken
returns-clause-taken c = λ column.
    let starts : SFits w32 c.args.columns.start = search rules in
    let ends : SFits w32 c.args.columns.end = search rules in
    let parts : IsParted c.args.edges.items c.count_before-first.result c.count_through-last.result c.args.columns = parted c.args.edges.items c.as_slice.result.now c.as_slice-2.result.now c.count_before-first.result c.count_through-last.result c.args.columns
    (to_z w32 (of_z w32 c.args.columns.start)) (to_z w32 (of_z w32 c.args.columns.end)) c.as_slice.ensures.value c.as_slice-2.ensures.value (to_z-of_z w32 c.args.columns.start starts) (to_z-of_z w32 c.args.columns.end ends) c.requires.some c.count_before-first.ensures.within
    c.count_through-last.ensures.within c.count_before-first.ensures.before c.count_before-first.ensures.from c.count_through-last.ensures.through c.count_through-last.ensures.after in
    ap (λ l. changes false l column) c.in_ok-now.ensures
    ∙ span_added c.args.edges.items c.count_before-first.result c.count_through-last.result c.args.columns column parts

use Rattle.std.proofs.Common.{tests, sym, ap, subst, rules, ◌∙◌, ◌≡◌, ◌<◌, ◌%◌, ◌==◌, true, false, ℤ, List, ◌≤ℤ◌, ◌<ℤ◌, length, take, drop, int_le, get_or, pos, to_z, of_z, w32, SFits}
use Rattle.std.specs.List.{AllByRecursion}
use Rattle.std.proofs.lemmas.Int.{to_z-of_z}
use Rattle.cell_index.specs.Rising.{AreRising}
use Rattle.cell_index.specs.Taken.{is_open}
use Rattle.cell_index.proofs.Edges.{leaves_open, open_at_end, open_told, open_up_to, shut_where_taken}
use Rattle.cell_index.proofs.columns.TakenColumns.is_open.Goals as goal

pub returns-then-first-ne0 : goal.returns-then-first-ne0
returns-then-first-ne0 c =
    let fits : SFits w32 c.args.columns.start = search rules in
    let some : c.args.columns.start <ℤ c.args.columns.end = search rules in
    let R : List ℤ → Type 0 = λ l. AreRising l in
    let rising : AreRising c.as_slice-edges.result.now = subst R (sym c.as_slice-edges.ensures.value) c.self.invariant in
    let e : to_z w32 (of_z w32 c.args.columns.start) ≡ c.args.columns.start = to_z-of_z w32 c.args.columns.start fits in
    let P : ℤ → Type 0 = λ z. AllByRecursion (λ edge. edge ≤ℤ z) (take c.count_through-first.result c.as_slice-edges.result.now) in
    let Q : ℤ → Type 0 = λ z. AllByRecursion (λ edge. z <ℤ edge) (drop c.count_through-first.result c.as_slice-edges.result.now) in
    let odd : (c.count_through-first.result % 2 == 0) ≡ false = search (rules, tests) in
    let told : false ≡
    leaves_open false c.as_slice-edges.result.now c.args.columns = sym
    (shut_where_taken c.as_slice-edges.result.now c.count_through-first.result c.args.columns c.count_through-first.ensures.within (subst P e c.count_through-first.ensures.through) (subst Q e c.count_through-first.ensures.after) odd) in
    open_told false c.as_slice-edges.result.now c.args.columns rising some told
    ∙ ap (λ l. is_open l c.args.columns) (c.as_slice-edges.ensures.value ∙ c.self.view_is)

pub returns-then-first-edges : goal.returns-then-first-edges
returns-then-first-edges c =
    let fits : SFits w32 c.args.columns.start = search rules in
    let some : c.args.columns.start <ℤ c.args.columns.end = search rules in
    let R : List ℤ → Type 0 = λ l. AreRising l in
    let rising : AreRising c.as_slice-edges.result.now = subst R (sym c.as_slice-edges.ensures.value) c.self.invariant in
    let e : to_z w32 (of_z w32 c.args.columns.start) ≡ c.args.columns.start = to_z-of_z w32 c.args.columns.start fits in
    let P : ℤ → Type 0 = λ z. AllByRecursion (λ edge. edge ≤ℤ z) (take c.count_through-first.result c.as_slice-edges.result.now) in
    let even : (c.count_through-first.result % 2 == 0) ≡ true = search (rules, tests) in
    let all : c.count_through-first.result ≡ length c.as_slice-edges.result.now = search (rules, tests) in
    let told : true ≡ leaves_open false c.as_slice-edges.result.now c.args.columns = sym (open_at_end c.as_slice-edges.result.now c.count_through-first.result c.args.columns all (subst P e c.count_through-first.ensures.through) even) in
    open_told true c.as_slice-edges.result.now c.args.columns rising some told
    ∙ ap (λ l. is_open l c.args.columns) (c.as_slice-edges.ensures.value ∙ c.self.view_is)

pub returns : goal.returns
returns c =
    let fits : SFits w32 c.args.columns.start = search rules in
    let some : c.args.columns.start <ℤ c.args.columns.end = search rules in
    let R : List ℤ → Type 0 = λ l. AreRising l in
    let rising : AreRising c.as_slice-edges.result.now = subst R (sym c.as_slice-edges.ensures.value) c.self.invariant in
    let ends : SFits w32 c.args.columns.end = search rules in
    let e : to_z w32 (of_z w32 c.args.columns.start) ≡ c.args.columns.start = to_z-of_z w32 c.args.columns.start fits in
    let P : ℤ → Type 0 = λ z. AllByRecursion (λ edge. edge ≤ℤ z) (take c.count_through-first.result c.as_slice-edges.result.now) in
    let Q : ℤ → Type 0 = λ z. AllByRecursion (λ edge. z <ℤ edge) (drop c.count_through-first.result c.as_slice-edges.result.now) in
    let even : (c.count_through-first.result % 2 == 0) ≡ true = search (rules, tests) in
    let within : c.count_through-first.result < length c.as_slice-edges.result.now = search (rules, tests) in
    let told : c.comes_by.result ≡ leaves_open false c.as_slice-edges.result.now c.args.columns =
    c.comes_by.ensures
    ∙ ap (λ z. int_le z (get_or c.as_slice-edges.result.now c.count_through-first.result (pos 0))) (to_z-of_z w32 c.args.columns.end ends)
    ∙ sym (open_up_to c.as_slice-edges.result.now c.count_through-first.result c.args.columns within (subst P e c.count_through-first.ensures.through) (subst Q e c.count_through-first.ensures.after) even) in
    open_told c.comes_by.result c.as_slice-edges.result.now c.args.columns rising some told
    ∙ ap (λ l. is_open l c.args.columns) (c.as_slice-edges.ensures.value ∙ c.self.view_is)

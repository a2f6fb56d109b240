use Rattle.std.proofs.Common.{arith, rules, ap, ◌∙◌, ◌≡◌, ◌≤ℤ◌, ◌≤◌, ◌+◌, ◌++◌, ◌∷◌, [], ◌+ℤ◌, pos, to_z, of_z, w32}
use Rattle.std.proofs.lemmas.Int.{ints, to_z-of_z}
use Rattle.line_names.specs.LineLists.{bits_in}
use Rattle.line_names.proofs.LineLists.{push_from, pushed, pushed_list, started_lines}
use Rattle.line_names.proofs.line_list.LineList.push.Goals as goal

pub place_at-place-requires : goal.place_at-place-requires
place_at-place-requires c =
    let line : to_z w32 (of_z w32 c.args.line) ≡ c.args.line = to_z-of_z w32 c.args.line c.ranges.line in
    let new : to_z w32 (of_z w32 c.first_line-self-inside.result) ≡ c.first_line-self-inside.result = to_z-of_z w32 c.first_line-self-inside.result (search rules) in
    let old : to_z w32 (of_z w32 c.self.inside.first) ≡ c.self.inside.first = to_z-of_z w32 c.self.inside.first (search rules) in
    let start : (c.first_line-self-inside.result +ℤ pos c.self.inside.count) ≤ℤ c.args.line =
    push_from c.self.inside.words c.args.self.now c.self.inside.first _ c.first_line-self-inside.result c.self.inside.count c.args.line _ line old c.self.view_is c.self.invariant c.requires.last c.first_line-self-inside.ensures.none c.first_line-self-inside.ensures.some in
    omega (arith, ints, start, line, new)

pub invariant_of-self-2 : goal.invariant_of-self-2
invariant_of-self-2 c =
    let line : to_z w32 (of_z w32 c.args.line) ≡ c.args.line = to_z-of_z w32 c.args.line c.ranges.line in
    let new : to_z w32 (of_z w32 c.first_line-self-inside.result) ≡ c.first_line-self-inside.result = to_z-of_z w32 c.first_line-self-inside.result (search rules) in
    let old : to_z w32 (of_z w32 c.self.inside.first) ≡ c.self.inside.first = to_z-of_z w32 c.self.inside.first (search rules) in
    let start : (c.first_line-self-inside.result +ℤ pos c.self.inside.count) ≤ℤ c.args.line =
    push_from c.self.inside.words c.args.self.now c.self.inside.first _ c.first_line-self-inside.result c.self.inside.count c.args.line _ line old c.self.view_is c.self.invariant c.requires.last c.first_line-self-inside.ensures.none c.first_line-self-inside.ensures.some in
    pushed_list c.self.inside.words c.set_bit.new.words c.self.inside.count c.place_at-place.result c.self.invariant (omega (arith, ints, start, line, new, c.place_at-place.ensures)) c.in_ok-set_bit.ensures.set

pub returns : goal.returns
returns c =
    let line : to_z w32 (of_z w32 c.args.line) ≡ c.args.line = to_z-of_z w32 c.args.line c.ranges.line in
    let new : to_z w32 (of_z w32 c.first_line-self-inside.result) ≡ c.first_line-self-inside.result = to_z-of_z w32 c.first_line-self-inside.result (search rules) in
    let old : to_z w32 (of_z w32 c.self.inside.first) ≡ c.self.inside.first = to_z-of_z w32 c.self.inside.first (search rules) in
    let start : (c.first_line-self-inside.result +ℤ pos c.self.inside.count) ≤ℤ c.args.line =
    push_from c.self.inside.words c.args.self.now c.self.inside.first _ c.first_line-self-inside.result c.self.inside.count c.args.line _ line old c.self.view_is c.self.invariant c.requires.last c.first_line-self-inside.ensures.none c.first_line-self-inside.ensures.some in
    let past : c.self.inside.count ≤ c.place_at-place.result = omega (arith, ints, start, line, new, c.place_at-place.ensures) in
    ap (λ z. bits_in c.set_bit.new.words z (c.place_at-place.result + 1)) new
    ∙ pushed c.self.inside.words c.set_bit.new.words c.first_line-self-inside.result c.self.inside.count c.place_at-place.result c.args.line c.self.invariant past (omega (arith, ints, line, new, c.place_at-place.ensures)) c.in_ok-set_bit.ensures.set
    ∙ ap (λ ls. ls ++ c.args.line ∷ []) (started_lines c.self.inside.words c.self.inside.first c.first_line-self-inside.result c.self.inside.count (λ k. c.first_line-self-inside.ensures.some k ∙ old) ∙ c.self.view_is)

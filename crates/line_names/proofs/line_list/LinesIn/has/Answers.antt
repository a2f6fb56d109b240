use Rattle.std.proofs.Common.{arith, rules, sym, ap, ◌∙◌, ◌≡◌, inl, inr, ◌+ℤ◌, pos, to_z, of_z, w32, w64, SFits}
use Rattle.std.proofs.lemmas.Int.{ints, to_z-of_z}
use Rattle.line_names.proofs.LineLists.{inside, outside_place}
use Rattle.line_names.proofs.line_list.LinesIn.has.Goals as goal
use Rattle.line_names.proofs.line_list.LinesIn.has.Goals.{then-place-self-via-then-place-self, then-place-self-via-else-place-self+then-place-self-2, then-place-self-via-else-place-self+else-place-self-2+then-place_line-line}

pub returns-then-place-self : goal.returns-then-place-self
returns-then-place-self c =
    let first : to_z w32 (of_z w32 c.args.self.first) ≡ c.args.self.first = to_z-of_z w32 c.args.self.first (search rules) in
    sym (outside_place c.args.self.words.now c.args.self.first c.args.self.start c.args.self.end c.place_of-place.result c.args.line _ (to_z-of_z w64 c.args.line c.ranges.line) c.place_of-place.ensures.within c.place_of-place.ensures.not_after c.place_of-place.ensures.not_before
    (elim c.then-place-self.branch [
      | then-place-self-via-then-place-self w ↦ inl w.if-place-self.true
      | then-place-self-via-else-place-self+then-place-self-2 w ↦ inr (inl w.if-place-self-2.true)
      | then-place-self-via-else-place-self+else-place-self-2+then-place_line-line w ↦ inr (inr (λ e. w.if-place_line-line.true (ap (λ z. of_z w64 z) (w.place_line.ensures ∙ ap (λ z. z +ℤ pos c.place_of-place.result) first ∙ e))))
    ]))

pub returns : goal.returns
returns c =
    let first : to_z w32 (of_z w32 c.args.self.first) ≡ c.args.self.first = to_z-of_z w32 c.args.self.first (search rules) in
    let fits : SFits w64 c.place_line.result = search rules in
    let same : c.place_line.result ≡ c.args.line = sym (to_z-of_z w64 c.place_line.result fits) ∙ ap (λ n. to_z w64 n) c.if-place_line-line.false ∙ to_z-of_z w64 c.args.line c.ranges.line in
    c.has_bit.ensures ∙ sym (inside c.args.self.words.now c.args.self.first c.args.self.start c.args.self.end c.args.line c.place_of-place.result (omega (arith, ints, same, c.place_line.ensures, first)) (omega (arith, c.if-place-self.false)) (omega (arith, c.if-place-self-2.false)))

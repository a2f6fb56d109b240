use Rattle.std.proofs.Common.{rules, arith, refl, ap, sym, ◌≡◌, ◌∙◌, ◌+◌, ◌≤◌, ◌++◌, ◌∷◌, [], Option, None, Ok, true}
use Rattle.std.specs.Option.{option_to_list}
use Rattle.std.specs.List.{before_first}
use Rattle.text_scan.specs.declared.line.Line.{Line}
use Rattle.text_scan.specs.Lines.{is_line_feed}
use Rattle.text_scan.specs.Stream.{is_line_due, lines_ahead}
use Rattle.open_document.proofs.Reading.{reading_ends, reading_few, reading_more, taken_short}
use Rattle.open_document.proofs.text.lines_of.Goals as goal

pub overflow_add-count : goal.overflow_add-count
overflow_add-count c =
    let next : c.in-Some.line ∷ lines_ahead c.take.new.self [] ≡ lines_ahead c.loop-held.lines [] =
    ap (λ (found : Option Line). option_to_list found ++ lines_ahead c.take.new.self []) (sym c.in-Some.is) ∙ c.in_ok-line.ensures.ahead [] (λ _. refl) in
    let few : c.loop-held.count + 1 ≤ 67108864 =
    reading_few c.args.text.now c.loop-held.lines c.take.new.self c.loop-held.held c.loop-held.held c.loop-held.count c.in-Some.line c.loop-held.invariant next c.requires in
    omega (arith, few)

pub add-requires : goal.add-requires
add-requires c =
    let stream = c.loop-held.lines in
    taken_short (is_line_due true stream.held) c.in-Some.line stream.number (before_first is_line_feed stream.held) (sym c.in-Some.is ∙ c.in_ok-line.ensures.line)

pub loop-held-preserved : goal.loop-held-preserved
loop-held-preserved c =
    let p = c.loop-held.invariant in
    let next : c.in-Some.line ∷ lines_ahead c.take.new.self [] ≡ lines_ahead c.loop-held.lines [] =
    ap (λ (found : Option Line). option_to_list found ++ lines_ahead c.take.new.self []) (sym c.in-Some.is) ∙ c.in_ok-line.ensures.ahead [] (λ _. refl) in
    reading_more c.args.text.now c.loop-held.lines c.take.new.self c.loop-held.held c.add.new.self c.loop-held.count c.in-Some.line p next (c.in_ok-add.ensures.holds p.given p.holds) (c.in_ok-add.ensures.short p.short)

pub returns : goal.returns
returns c =
    let none : c.in_ok-line.field-0 ≡ None = search rules in
    let next : lines_ahead c.take.new.self [] ≡ lines_ahead c.loop-held.lines [] =
    ap (λ (found : Option Line). option_to_list found ++ lines_ahead c.take.new.self []) (sym none) ∙ c.in_ok-line.ensures.ahead [] (λ _. refl) in
    reading_ends c.args.text.now c.loop-held.lines c.take.new.self c.loop-held.held c.loop-held.count c.loop-held.invariant next (c.take.ensures.drained refl (c.in_ok-line.was ∙ ap Ok none))

use Rattle.std.proofs.Common.{rules, ap, ◌∙◌, ◌≡◌, pos, get_or, to_z, of_z, w32}
use Rattle.std.proofs.lemmas.Int.{to_z-of_z}
use Rattle.line_names.proofs.SetLists.{kind_last, lists_more}
use Rattle.line_names.proofs.set_list.SetList.lists.Goals as goal

pub add_line-requires-clause-last : goal.add_line-requires-clause-last
add_line-requires-clause-last c =
    let line : to_z w32 (of_z w32 c.line_number.result) ≡ pos c.loop-at.at = to_z-of_z w32 c.line_number.result (search rules) ∙ c.line_number.ensures in
    kind_last c.args.self.now c.loop-at.at c.loop-at.lists (get_or c.as_slice.result.now c.loop-at.at 0) _ line c.loop-at.invariant

pub loop-at-preserved : goal.loop-at-preserved
loop-at-preserved c =
    let line : to_z w32 (of_z w32 c.line_number.result) ≡ pos c.loop-at.at = to_z-of_z w32 c.line_number.result (search rules) ∙ c.line_number.ensures in
    lists_more c.args.self.now c.loop-at.at c.loop-at.lists c.add_line.new.lists (get_or c.as_slice.result.now c.loop-at.at 0) _ (ap (λ ls. get_or ls c.loop-at.at 0) c.as_slice.ensures) line c.loop-at.invariant c.in_ok-add_line.ensures.count c.in_ok-add_line.ensures.added

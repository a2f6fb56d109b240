use Rattle.std.proofs.Common.{rules, ap, ◌≡◌, ◌∙◌, sym, subst, List, ℤ, length, map, Some, true}
use Rattle.std.specs.Prelude.{IfOk}
use Rattle.part_rules.specs.declared.share.Share.{Share}
use Rattle.part_rules.specs.FlexLines.{stretched_lines}
use Rattle.part_rules.specs.Sharing.{shared_rows}
use Rattle.flex_lines.specs.Crosses.{added, open_rows}
use Rattle.flex_lines.proofs.Crossing.{lent_back, stretched_is}
use Rattle.flex_lines.proofs.Turns.{mapped-length}
use Rattle.flex_lines.proofs.crosses.stretched.Goals as goal

pub returns : goal.returns
returns c =
    let sizes = c.args.sizes.now in
    let items = c.in_ok-rows.rows.items in
    let new = c.hand_out-left.new.rows in
    let len : c.in_ok-rows.rows.len ≡ length items = search rules in
    let same : length new ≡ length items =
    sym (mapped-length (λ (s : Share). s.room) new) ∙ ap length (c.hand_out-left.ensures.rooms ∙ ap (map (λ (s : Share). s.room)) c.as_mut_slice.ensures.value) ∙ mapped-length (λ (s : Share). s.room) items in
    let rows : c.deref.result.now ≡ shared_rows c.cross_rest.result (open_rows sizes) =
    c.deref.ensures.value ∙ lent_back items new c.in_ok-rows.rows.len len same ∙ c.hand_out-left.ensures.rows ∙ ap (shared_rows c.cross_rest.result) (c.as_mut_slice.ensures.value ∙ c.in_ok-rows.ensures) in
    let found : added sizes c.deref.result.now ≡ stretched_lines (Some c.args.cross) c.args.gap true sizes = stretched_is c.args.cross c.args.gap c.cross_rest.result sizes c.deref.result.now c.cross_rest.ensures rows in
    let Is : List ℤ → Type 0 = λ zs. IfOk c.added.result (λ all. all.items ≡ zs) in
    subst Is found c.added.ensures

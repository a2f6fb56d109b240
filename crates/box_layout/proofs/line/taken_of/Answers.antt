use Rattle.std.proofs.Common.{rules, ap, ◌≡◌, ◌∙◌, sym, subst, List, ℤ, ◌*◌, false, length, map}
use Rattle.std.specs.Prelude.{IfOk}
use Rattle.std.specs.List.{list_any}
use Rattle.std.proofs.lemmas.List.{length-map}
use Rattle.std.proofs.lemmas.Result.{IfOk-weaker}
use Rattle.part_rules.specs.declared.share.Share.{Share}
use Rattle.part_rules.specs.FlexLines.{line_margins}
use Rattle.part_rules.specs.Lists.{joined}
use Rattle.part_rules.specs.Sharing.{shared_rows}
use Rattle.box_layout.specs.Seats.{autos_of, has_auto}
use Rattle.box_layout.specs.Shares.{nothing_for, shares_of}
use Rattle.box_layout.specs.declared.sitting.Sitting.{Sitting}
use Rattle.box_layout.proofs.Rows.{lent_back, nothing_count, nothing_taken, shares_count, taken_are}
use Rattle.box_layout.proofs.line.taken_of.Goals as goal

rows_lent : (c : goal.After-drop-rows) → c.deref.result.now ≡ c.hand_out-left.new.rows × (length c.deref.result.now ≡ length c.in_ok-rows.rows.items)
rows_lent c =
    let items = c.in_ok-rows.rows.items in
    let new = c.hand_out-left.new.rows in
    let len : c.in_ok-rows.rows.len ≡ length items = search rules in
    let same : length new ≡ length items =
    sym (length-map new (λ (s : Share). s.room)) ∙ ap length (c.hand_out-left.ensures.rooms ∙ ap (map (λ (s : Share). s.room)) c.as_mut_slice.ensures.value) ∙ length-map items (λ (s : Share). s.room) in
    let back : c.deref.result.now ≡ new = c.deref.ensures.value ∙ lent_back items new c.in_ok-rows.rows.len len same in
    (back, ap length back ∙ same)

pub returns-then-not-any_auto-clause-value : goal.returns-then-not-any_auto-clause-value
returns-then-not-any_auto-clause-value c =
    let line = c.args.line.now in
    let none : list_any (λ (s : Sitting). has_auto s.along) line ≡ false = sym c.any_auto.ensures ∙ c.if-not-any_auto.true in
    let Is : List ℤ → Type 0 = λ zs. IfOk c.nothing_for.result (λ taken. taken.items ≡ zs) in
    subst Is (nothing_taken c.args.rest line none) c.nothing_for.ensures

pub returns-then-not-any_auto-clause-count : goal.returns-then-not-any_auto-clause-count
returns-then-not-any_auto-clause-count c =
    let line = c.args.line.now in
    IfOk-weaker c.nothing_for.result (λ taken. taken.items ≡ nothing_for line) (λ taken. length taken.items ≡ 2 * length line) (λ taken e. ap length e ∙ nothing_count line) c.nothing_for.ensures

pub returns-clause-value : goal.returns-clause-value
returns-clause-value c =
    let line = c.args.line.now in
    let rows : c.deref.result.now ≡ shared_rows c.clamp.result (shares_of line) = (rows_lent c).0 ∙ c.hand_out-left.ensures.rows ∙ ap (shared_rows c.clamp.result) (c.as_mut_slice.ensures.value ∙ c.in_ok-rows.ensures) in
    let found : map (λ (s : Share). s.got) c.deref.result.now ≡ line_margins c.args.rest (joined (map autos_of line)) = taken_are c.args.rest line c.clamp.result c.deref.result.now c.clamp.ensures rows in
    let Is : List ℤ → Type 0 = λ zs. IfOk c.parts_of.result (λ parts. parts.items ≡ zs) in
    subst Is found c.parts_of.ensures

pub returns-clause-count : goal.returns-clause-count
returns-clause-count c =
    let line = c.args.line.now in
    let count : length (map (λ (s : Share). s.got) c.deref.result.now) ≡ 2 * length line =
    length-map c.deref.result.now (λ (s : Share). s.got) ∙ (rows_lent c).1 ∙ ap length c.in_ok-rows.ensures ∙ shares_count line in
    IfOk-weaker c.parts_of.result (λ parts. parts.items ≡ map (λ (s : Share). s.got) c.deref.result.now) (λ parts. length parts.items ≡ 2 * length line) (λ parts e. ap length e ∙ count) c.parts_of.ensures

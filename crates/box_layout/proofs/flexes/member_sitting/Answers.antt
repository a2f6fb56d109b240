use Rattle.std.proofs.Common.{arith, ap, ◌≡◌, ◌∙◌, sym, subst, ◌+◌, ◌-◌, [], ◌∷◌, length, drop}
use Rattle.std.proofs.lemmas.List.{length-drop}
use Rattle.lunit.specs.Units.{IsUnits, clamp}
use Rattle.inline_sizes.proofs.Limits.{clamp_units}
use Rattle.placing.specs.Nodes.{bare, kid_at, kids_at, sight_at}
use Rattle.tree_rules.specs.Labels.{ContentStyle, GridStyle, Label, content_of, grid_of}
use Rattle.tree_rules.specs.declared.kind.NodeKind.TheVariants as kind
use Rattle.box_layout.specs.declared.sitting.Sitting.{Sitting}
use Rattle.box_layout.specs.Sittings.{HasStyle, sitting_by}
use Rattle.box_layout.proofs.FlexAlike.{by_style}
use Rattle.box_layout.proofs.flexes.member_sitting.Goals as goal

pub sitting_of-requires-clause-number : goal.sitting_of-requires-clause-number
sitting_of-requires-clause-number c =
    let b = bare c.args.tree.now.tree in
    let k = c.args.member.now.number in
    let next = c.root.ensures.tree.next c.args.id c.args.member.now.child k c.requires.child.number in
    let left : length (kids_at b c.args.id) - k ≡ length (kid_at b c.args.member.now.child ∷ drop (k + 1) (kids_at b c.args.id)) = sym (length-drop k (kids_at b c.args.id)) ∙ ap length next.kids in
    omega (arith, left, c.requires.readable.children c.args.id)

main_units : (c : goal.After-sitting_of) → IsUnits c.args.main
main_units c = subst IsUnits c.wide.ensures.value c.wide.ensures.range

pub returns-clause-value : goal.returns-clause-value
returns-clause-value c =
    let b = bare c.args.tree.now.tree in
    let m = c.args.member.now in
    let flex = c.args.flex.now in
    let container = c.node_at.result.now.style in
    let style = c.style_of-style.result.now in
    let main = c.clamp-main.result in
    let x : Label = (sight_at b c.args.id).label in
    let y : Label = (kid_at b m.child).label in
    let has : HasStyle container x = record { grid = sym c.node_at.ensures.grid; content = sym c.node_at.ensures.content } in
    let plain : GridStyle → ContentStyle → Label = λ g k. record { name = []; kind = kind.Flex; grid = g; content = k } in
    let f : GridStyle → ContentStyle → Sitting = λ g k. sitting_by flex.column flex.cross (plain g k) m.number m.child (plain (grid_of style) (content_of style)) main c.args.own in
    let h : GridStyle → ContentStyle → Sitting = λ g k. sitting_by flex.column flex.cross x m.number m.child (plain g k) main c.args.own in
    let same : main ≡ c.args.main = c.clamp-main.ensures ∙ ap clamp c.wide.ensures.value ∙ clamp_units c.args.main (main_units c) in
    c.sitting_of.ensures ∙ by_style f container x has ∙ by_style h style y c.style_of-style.ensures.has ∙ ap (λ z. sitting_by flex.column flex.cross x m.number m.child y z c.args.own) same

pub returns-clause-units : goal.returns-clause-units
returns-clause-units c = main_units c

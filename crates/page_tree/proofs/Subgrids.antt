-- Whether a node is a subgrid is told by its declared values.
use Rattle.std.proofs.Common.{◌≡◌, ℤ, false, ◌&&◌, List, Option, Some, None, refl, ap, ◌∙◌, arith}
use Rattle.std.specs.Prelude.{◌||◌}
use Rattle.std.specs.FinMap as finmap
use Rattle.std.specs.Option.{option_map, unwrap_or}
use Rattle.plain_tree.specs.Trees.{leafless, tree, count_of}
use Rattle.node_arena.specs.Numbers.{EachNode}
use Rattle.style_types.proofs.Computing.{get_computed}
use Rattle.style_types.specs.Computed.{DeclaredMap, computed_style, computed_value, computed_with, font_of}
use Rattle.style_types.specs.Styles.{StyleMap, value_of}
use Rattle.style_types.specs.Table.{initial}
use Rattle.style_types.specs.declared.declared.DeclaredValue.{DeclaredValue}
use Rattle.style_types.specs.declared.prop.Prop.{Prop}
use Rattle.style_types.specs.declared.prop.Prop.TheVariants as prop
use Rattle.style_types.specs.declared.track.Template.TheVariants as template
use Rattle.style_types.specs.declared.unit.Unit.{Unit}
use Rattle.style_types.specs.declared.value.Value.{Value}
use Rattle.style_types.specs.declared.value.Value.TheVariants as value
use Rattle.tree_rules.specs.Chains.{is_grid_kind, is_subgrid}
use Rattle.tree_rules.specs.Labels.{template_in}
use Rattle.tree_rules.specs.declared.kind.NodeKind.{NodeKind}
use Rattle.tree_rules.specs.declared.kind.NodeKind.TheVariants as kind
use Rattle.placing.specs.declared.node.Node.{Node}
use Rattle.placing.specs.Nodes.{NodeTrees}
use Rattle.reach_frame.proofs.Unreached.{node_sub}
use Rattle.page_tree.specs.Documents.{kind_of, label_of}
use Rattle.page_tree.specs.Fonts.{AreStyled, HasStyle, IsStyled, root_font}
use Rattle.page_tree.specs.Reach.{is_grid, is_subgrid_node, tells_subgrid}

of_value : (em rem : ℤ) (v : Value) (units : List Unit) → is_subgrid (template_in (computed_with em rem v units)) ≡ is_subgrid (template_in v)
of_value em rem (value.Template (template.Subgrid sets)) units = refl
of_value em rem (value.Template (template.Tracks list)) units = refl
of_value em rem (value.Template template.Absent) units = refl
of_value em rem (value.Areas a) units = refl
of_value em rem (value.Sizes tracks) units = refl
of_value em rem (value.Flow column dense) units = refl
of_value em rem (value.Line l) units = refl
of_value em rem (value.Order n) units = refl
of_value em rem (value.Size s) units = refl
of_value em rem (value.BorderBox b) units = refl
of_value em rem (value.Overflow s) units = refl
of_value em rem (value.Align a) units = refl
of_value em rem (value.Column b) units = refl
of_value em rem (value.Wrap b) units = refl
of_value em rem (value.Factor n) units = refl

of_option : (em rem : ℤ) (p : Prop) (o : Option DeclaredValue) → is_subgrid (template_in (initial p)) ≡ false → is_subgrid (template_in (unwrap_or (option_map (computed_value em rem) o) (initial p))) ≡ tells_subgrid o
of_option em rem p None e = e
of_option em rem p (Some d) e = of_value em rem d.value d.units

of_style : (em rem : ℤ) (m : DeclaredMap) (p : Prop) → is_subgrid (template_in (initial p)) ≡ false → is_subgrid (template_in (value_of (computed_style em rem m) p)) ≡ tells_subgrid (finmap.get m p)
of_style em rem m p e = ap (λ o. is_subgrid (template_in (unwrap_or o (initial p)))) (get_computed em rem m p) ∙ of_option em rem p (finmap.get m p) e

pub kind_grid : (k : NodeKind) → is_grid_kind k ≡ is_grid (kind_of k)
kind_grid kind.Grid = refl
kind_grid kind.Flex = refl
kind_grid (kind.Leaf content) = refl

pub node_subgrid : (em rem : ℤ) (v : Node) → HasStyle em rem v → node_sub v ≡ is_subgrid_node (label_of v)
node_subgrid em rem v s = λ i. kind_grid v.kind i && (columns i || rows i)
  where
    columns : is_subgrid (template_in (value_of v.style prop.GridTemplateColumns)) ≡ tells_subgrid (finmap.get v.declared prop.GridTemplateColumns)
    columns = ap (λ (m : StyleMap). is_subgrid (template_in (value_of m prop.GridTemplateColumns))) s ∙ of_style em rem v.declared prop.GridTemplateColumns refl

    rows : is_subgrid (template_in (value_of v.style prop.GridTemplateRows)) ≡ tells_subgrid (finmap.get v.declared prop.GridTemplateRows)
    rows = ap (λ (m : StyleMap). is_subgrid (template_in (value_of m prop.GridTemplateRows))) s ∙ of_style em rem v.declared prop.GridTemplateRows refl

-- each node of a page tells by its declared values whether it is a subgrid
abbrev pub AreSubgrids : NodeTrees → Type 0
AreSubgrids t = EachNode (λ x. node_sub x.1 ≡ is_subgrid_node (label_of x.1)) t

subgrids_below : (em rem : ℤ) (t : NodeTrees) → AreStyled em rem t → AreSubgrids t
subgrids_below em rem leafless s = tt
subgrids_below em rem (tree x below after) s = (
  node_subgrid (font_of em rem x.1.declared) rem x.1 s.0,
  (subgrids_below (font_of em rem x.1.declared) rem below s.1.0, subgrids_below em rem after s.1.1),
)

pub subgrids : (t : NodeTrees) → count_of t ≡ 1 → IsStyled t → AreSubgrids t
subgrids leafless c s = tt
subgrids (tree x below leafless) c s = (node_subgrid (root_font x.1.declared) (root_font x.1.declared) x.1 s.0, (subgrids_below (root_font x.1.declared) (root_font x.1.declared) below s.1, tt))
subgrids (tree x below (tree y under later)) c s = absurd (omega (arith, c))

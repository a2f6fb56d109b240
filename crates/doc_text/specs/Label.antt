-- What a node is besides its children.
use Rattle.std.specs.Prelude.{ℕ, List, refl}
use Rattle.std.specs.Coded.{Coded, code_by, coded×, coded_ℕ, coded_list}
use Rattle.std.specs.FinMap as map
use Rattle.style_types.specs.Order.{prop_cmp}
use Rattle.style_types.specs.declared.declared.DeclaredValue.{DeclaredValue}
use Rattle.style_types.specs.contracts.prop.Prop as prop
use Rattle.style_types.specs.contracts.declared.DeclaredValue as declared_value
use Rattle.doc_text.specs.declared.kind.Kind.{Kind}
use Rattle.doc_text.specs.contracts.kind.Kind as kind

-- the declared style of a node: a finite map from properties to declared values
abbrev pub DeclaredMap : Type 0
DeclaredMap = map.FinMap prop_cmp DeclaredValue

-- a name, what the node is, and what is declared on it
pub record Label : Type 0 where
  pub name : List ℕ
  pub kind : Kind
  pub style : DeclaredMap

abbrev pub coded_label : Coded Label
coded_label =
    code_by (List ℕ × (Kind × DeclaredMap))
    (coded× (coded_list coded_ℕ) (coded× kind.the_row.coded (map.code {R = prop_cmp} prop.the_row.coded declared_value.the_row.coded)))
    (λ l. (l.name, (l.kind, l.style))) (λ p. record { name = p.0; kind = p.1.0; style = p.1.1 }) (λ _. refl)

-- A style as a finite map from the properties that are set to their values.
use Rattle.std.specs.Option.{unwrap_or}
use Rattle.std.specs.FinMap as map
use Rattle.style_types.specs.Order.{prop_cmp}
use Rattle.style_types.specs.Table.{initial}
use Rattle.style_types.specs.declared.prop.Prop.{Prop}
use Rattle.style_types.specs.declared.value.Value.{Value}

abbrev pub StyleMap : Type 0
StyleMap = map.FinMap prop_cmp Value

-- the value that a property has in a style: the one that is set, else the initial one of the table
abbrev pub value_of : StyleMap → Prop → Value
value_of style p = unwrap_or (map.get style p) (initial p)

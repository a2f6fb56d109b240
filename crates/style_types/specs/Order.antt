-- The order of the properties in their table (own rule), by which a style is a finite map.
use Rattle.std.specs.Prelude.{◌≡◌, ℕ}
use Rattle.std.specs.declared.cmp.Ordering.{Ordering}
use Rattle.std.specs.Ordering.{nat_cmp, on}
use Rattle.std.specs.Cmp.{IsTotalOrder, nat_cmp_total}
use Rattle.std.specs.FinMap.{IsAntisymmetric, nat_cmp-IsAntisymmetric}
use Rattle.std.proofs.lemmas.Cmp.{on_total}
use denote.Enum.Declared.{tag_of}
use denote.Enum.Bare.{tag_one}
use Rattle.style_types.specs.declared.prop.Prop.{Prop}
use Rattle.style_types.specs.contracts.prop.Prop as prop

-- the place of a property in the table, from 0
abbrev pub place_of : Prop → ℕ
place_of p = tag_of prop.the_type p

-- no two properties stand at one place
pub place_of_one : (p q : Prop) → place_of p ≡ place_of q → p ≡ q
place_of_one p q e = tag_one prop.the_type tt p q e

-- the order by these places
abbrev pub prop_cmp : Prop → Prop → Ordering
prop_cmp = on place_of nat_cmp

pub prop_cmp_total : IsTotalOrder prop_cmp
prop_cmp_total = on_total place_of nat_cmp_total

pub prop_cmp-IsAntisymmetric : IsAntisymmetric prop_cmp
prop_cmp-IsAntisymmetric p q e = place_of_one p q (nat_cmp-IsAntisymmetric (place_of p) (place_of q) e)

-- Lengths with units that are relative to a font size (CSS Values 4, 6.1).
use Rattle.std.specs.Prelude.{ℕ, ℤ, pos, negsuc, neg_ℤ, ◌*◌, ◌/◌, ◌==◌, min, unsigned_abs, Bool, true, false, not, int_lt, if◌then◌else◌}
use Rattle.style_types.specs.declared.unit.Unit.{Unit}
use Rattle.style_types.specs.declared.unit.Unit.TheVariants as unit

-- the magnitude of so many millionths of a font size: rounded down, then limited to 2^26 units (own rule)
abbrev pub size_of : ℤ → ℤ → ℕ
size_of millionths font = min 67108864 (unsigned_abs millionths * unsigned_abs font / 1000000)

abbrev pub is_negative : ℤ → Bool
is_negative z = int_lt z (pos 0)

-- one of the two numbers is below zero, and not both
abbrev pub differ : Bool → Bool → Bool
differ true b = not b
differ false b = b

abbrev pub signed : Bool → ℕ → ℤ
signed negative size = if negative then neg_ℤ (pos size) else pos size

-- the length of so many millionths of a font size, truncated toward zero and limited (own rule)
unfoldable pub relative : ℤ → ℤ → ℤ
relative millionths font = signed (differ (is_negative millionths) (is_negative font)) (size_of millionths font)

-- a declared length, which stands as px with its unit: one in px is as it stands, one with `em` or `rem` is a part of
-- the font size of the node or of the root
abbrev pub length_of : ℤ → ℤ → Unit → ℤ → ℤ
length_of em rem unit.Px px = px
length_of em rem (unit.Em millionths) px = relative millionths em
length_of em rem (unit.Rem millionths) px = relative millionths rem

abbrev pub is_px : Unit → Bool
is_px unit.Px = true
is_px (unit.Em millionths) = false
is_px (unit.Rem millionths) = false

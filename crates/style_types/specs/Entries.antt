-- The entries in which a map keeps its properties; of two entries of one property the first counts.
use Rattle.std.specs.Prelude.{ℕ, ◌==◌, Bool, List, map}
use Rattle.style_types.specs.Order.{place_of}
use Rattle.style_types.specs.declared.prop.Prop.{Prop}

-- the entry is one of this property
abbrev pub is_entry_of : {V : Type 0} → Prop → Prop × V → Bool
is_entry_of p entry = place_of entry.0 == place_of p

-- the places in the table of the properties of the entries
abbrev pub places_of : {V : Type 0} → List (Prop × V) → List ℕ
places_of entries = map (λ e. place_of e.0) entries

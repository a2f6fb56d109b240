-- The area of a child, and a child in its area, by their place.
use Rattle.std.proofs.Common.{◌≡◌, ℕ, zero, suc, List, [], ◌∷◌, drop, subst}
use Rattle.lunit.specs.declared.geometry.Area.{Area}
use Rattle.lunit.specs.declared.geometry.Span.{Span}
use Rattle.tree_rules.specs.GridSizes.{Entry}
use Rattle.inline_sizes.specs.GridsSeen.{AreAreasIn, AreEntriesIn, IsAreaIn}

pub area_at : (columns rows : Span) (areas rest : List (ℕ × Area)) (k : ℕ) (a : ℕ × Area) → AreAreasIn columns rows areas → drop k areas ≡ a ∷ rest → IsAreaIn columns rows a.1
area_at columns rows [] rest zero a h e = absurd cc
area_at columns rows [] rest (suc k) a h e = absurd cc
area_at columns rows (x ∷ xs) rest zero a h e = let same : x ≡ a = cc in subst (λ (z : ℕ × Area). IsAreaIn columns rows z.1) same h.0
area_at columns rows (x ∷ xs) rest (suc k) a h e = area_at columns rows xs rest k a h.1 e

pub entry_at : (columns rows : Span) (entries rest : List Entry) (k : ℕ) (x : Entry) → AreEntriesIn columns rows entries → drop k entries ≡ x ∷ rest → IsAreaIn columns rows x.area
entry_at columns rows [] rest zero x h e = absurd cc
entry_at columns rows [] rest (suc k) x h e = absurd cc
entry_at columns rows (y ∷ ys) rest zero x h e = let same : y ≡ x = cc in subst (λ (z : Entry). IsAreaIn columns rows z.area) same h.0
entry_at columns rows (y ∷ ys) rest (suc k) x h e = entry_at columns rows ys rest k x h.1 e

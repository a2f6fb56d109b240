-- What an item asks of the tracks that it spans.
use Rattle.std.proofs.Common.{ap, ◌≡◌, ◌∙◌, sym, ℕ, ℤ, pos, ◌+ℤ◌, List, ◌++◌, drop, take}
use Rattle.std.proofs.lemmas.List.{take-append-drop}
use Rattle.lunit.specs.declared.item.Item.{Item}
use Rattle.part_rules.specs.Tracks.{Track, spanned}
use Rattle.track_sizing.specs.Placed.{AreSet}
use Rattle.track_sizing.proofs.Around.{around, spanned_mine}
use Rattle.track_sizing.proofs.Groups.{placed_of}

-- ---- what an item asks of all tracks

pub spanned_at : (i : Item) (first : ℤ) (ts : List Track) (at n : ℕ) → AreSet first ts → i.span.start ≡ first +ℤ pos at → i.span.end ≡ i.span.start +ℤ pos n → spanned i ts ≡ take n (drop at ts)
spanned_at i first ts at n set s e =
    let whole = ap (λ (xs : List Track). take at ts ++ xs) (take-append-drop n (drop at ts)) ∙ take-append-drop at ts in
    ap (spanned i) (sym whole) ∙ spanned_mine i (take at ts) (take n (drop at ts)) (drop n (drop at ts)) (around i first ts at n (placed_of first ts set) s e)

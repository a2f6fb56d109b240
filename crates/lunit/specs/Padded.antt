-- A name's bytes in a room of 64, with zeros behind them.
use Rattle.std.specs.Prelude.{◌≡◌, ℕ, ◌-◌, ◌≤◌, List, ◌++◌, length, take, replicate}
use Rattle.std.proofs.Common.{arith, ap}
use Rattle.std.proofs.Math.ListN.{length-take}
use Rattle.lunit.specs.declared.name.Name.TheInside.{Inside}

abbrev pub padded : List ℕ → List ℕ
padded text = text ++ replicate (64 - length text) 0

abbrev pub spelling : Inside → List ℕ
spelling a = take a.len a.bytes

-- the name fits the room, and the bytes behind it are zeros
pub record IsPadded (a : Inside) : Type 0 where
  pub room : a.len ≤ length a.bytes
  pub padded_ok : padded (take a.len a.bytes) ≡ a.bytes

abbrev pub of_spelling : List ℕ → Inside
of_spelling text = record { bytes = padded text; len = length text }

pub of_spelling_again : (a : Inside) → IsPadded a → of_spelling (spelling a) ≡ a
of_spelling_again a h =
    ap (λ (p : List ℕ × ℕ). let r : Inside = record { bytes = p.0; len = p.1 } in r)
    (let e : length (take a.len a.bytes) ≡ a.len = omega (arith, length-take a.len a.bytes, h.room) in λ i. (h.padded_ok i, e i))

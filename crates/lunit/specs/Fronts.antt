-- Bytes read as one number.
use Rattle.std.specs.Prelude.{ℕ, ◌+◌, ◌*◌, List, [], ◌∷◌}

-- the number that bytes spell after one, the first byte counting most
abbrev pub spelled_after : ℕ → List ℕ → ℕ
spelled_after n [] = n
spelled_after n (b ∷ bs) = spelled_after (n * 256 + b) bs

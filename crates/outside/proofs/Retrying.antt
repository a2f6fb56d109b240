-- What a call leaves that took no byte, and what the next call then does.
use Rattle.std.proofs.Common.{ℕ, List, Option, None, Some, Result, Ok, Err, refl, sym, ◌∙◌, ◌++◌, ap, take}
use Rattle.std.specs.Io.KnownBytes.{Appends, Consumes, Keeps, ReadConsumes, WriteAppends}

pub keeps_itself : (a : Option (List ℕ)) → Keeps a a
keeps_itself None = tt
keeps_itself (Some xs) = refl

pub keeps_on : (a b c : Option (List ℕ)) → Keeps a b → Keeps b c → Keeps a c
keeps_on None b c p q = tt
keeps_on (Some xs) None c p q = absurd p
keeps_on (Some xs) (Some ys) None p q = absurd q
keeps_on (Some xs) (Some ys) (Some zs) p q = q ∙ p

consumes_on : (a b c : Option (List ℕ)) (bytes : List ℕ) → Keeps a b → Consumes b c bytes → Consumes a c bytes
consumes_on None b c bytes p q = tt
consumes_on (Some xs) None c bytes p q = absurd p
consumes_on (Some xs) (Some ys) None bytes p q = absurd q
consumes_on (Some xs) (Some ys) (Some zs) bytes p q = sym p ∙ q

appends_on : (a b c : Option (List ℕ)) (bytes : List ℕ) → Keeps a b → Appends b c bytes → Appends a c bytes
appends_on None b c bytes p q = tt
appends_on (Some xs) None c bytes p q = absurd p
appends_on (Some xs) (Some ys) None bytes p q = absurd q
appends_on (Some xs) (Some ys) (Some zs) bytes p q = q ∙ ap (λ l. l ++ bytes) p

pub reads_on : {E : Type 0} (a b c : Option (List ℕ)) (r : Result ℕ E) (room : List ℕ) → Keeps a b → ReadConsumes b c r room → ReadConsumes a c r room
reads_on a b c (Ok n) room p q = (consumes_on a b c (take n room) p q.0, q.1)
reads_on a b c (Err e) room p q = keeps_on a b c p q

pub writes_on : {E : Type 0} (a b c : Option (List ℕ)) (r : Result ℕ E) (piece : List ℕ) → Keeps a b → WriteAppends b c r piece → WriteAppends a c r piece
writes_on a b c (Ok n) piece p q = appends_on a b c (take n piece) p q
writes_on a b c (Err e) piece p q = keeps_on a b c p q

pub ruleset later = (keeps_itself, keeps_on, reads_on, writes_on)

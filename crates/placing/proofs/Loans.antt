-- A loan that is there.
use Rattle.std.proofs.Common.{Option, Some, None, IsSome, refl, Bor, MutBor}
use Rattle.std.specs.Option.{option_copied, option_copied_mut}

pub loan_some : {T : Type 0} (o : Option (Bor T)) → IsSome (option_copied o) → IsSome o
loan_some None h = h
loan_some (Some x) h = refl

pub mut_some : {T : Type 0} (o : Option (MutBor T)) → IsSome (option_copied_mut o) → IsSome o
mut_some None h = h
mut_some (Some x) h = refl

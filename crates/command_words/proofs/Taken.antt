-- What `clap` answers, over plain variables.
use Rattle.std.proofs.lemmas.Bool.{ne_eqb}
use Rattle.std.proofs.Common.{suc, length, arith, ◌≡◌, ◌∙◌, ◌⊎◌, ap, List, [], ◌∷◌, true, false, inl, inr}
use Rattle.clap.specs.Words.{App, Text, fault_of, found_of, first_of, is_simple, is_simple_and_free, HasMatchesOf, Kinds, IsAmong}
use Rattle.clap.specs.Walk.{is_empty}
use Rattle.clap.proofs.WalkLemmas.{first_value-rows, both}
use Rattle.clap.specs.declared.parser.matches.ArgMatches.{ArgMatches}
use Rattle.clap.specs.declared.error.kind.ErrorKind.{ErrorKind}
use Rattle.clap.specs.declared.error.kind.ErrorKind.TheVariants.{OutOfMemory}
use Rattle.command_words.specs.Options.{is_taken, value_in, Reads}

-- the command takes the words
pub reads : (app : App) (words : List Text) (m : ArgMatches) → is_simple_and_free app ≡ true → HasMatchesOf app words m → fault_of app words ≡ [] → Reads app words m
unfolding is_taken value_in
reads app words m free has none =
    let simple : is_simple app ≡ true = (both _ _ free).0 in
    record {
      taken = ap (λ (kinds : Kinds). is_empty kinds) none;
      values = λ name. first_value-rows (found_of m) name ∙ ap (first_of name) (has simple).0;
    }

among_some : (kind : ErrorKind) (kinds : Kinds) → IsAmong kind kinds → is_empty kinds ≡ false
among_some kind [] p = absurd p
among_some kind (first ∷ rest) p = ne_eqb (suc (length rest)) 0 (λ e. omega (arith, e))

-- it does not, where the error is another than want of memory
pub refuses : (app : App) (words : List Text) (kind : ErrorKind) → (kind ≡ OutOfMemory → ⊥) → (kind ≡ OutOfMemory) ⊎ IsAmong kind (fault_of app words) → is_taken app words ≡ false
unfolding is_taken
refuses app words kind other (inl e) = absurd (other e)
refuses app words kind other (inr p) = among_some kind (fault_of app words) p

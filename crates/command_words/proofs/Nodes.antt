-- A command that makes a document has a number of nodes in its range.
use Rattle.std.proofs.Common.{◌≡◌, subst, refl, ℕ, suc, ◌<◌, ◌≤◌, Bool, true, false, List, [], ◌∷◌, Option, Some, None, Result, Ok, Err, IfSome, arith}
use Rattle.std.specs.Prelude.{if◌then◌else◌, nat_lt, option_and_then, codes, IfOk}
use Rattle.std.specs.Str.{bytes_eq}
use Rattle.std.proofs.lemmas.Bool.{leb-false}
use Rattle.clap.specs.Words.{Text}
use Rattle.command_words.specs.Options.{has_dashes, is_taken, value_in, layout, make}
use Rattle.command_words.specs.Commands.{is_given, number_of, nodes_of, within, made_of, made_by, layout_of, make_of, write_of, command_of, HasNodes}
use Rattle.command_words.specs.declared.Command.{Command}
use Rattle.command_words.specs.declared.Command.TheVariants.{Layout}
use Rattle.command_words.specs.declared.WordsError.{WordsError}

abbrev AreFew : ℕ → Type 0
AreFew n = (0 < n) × (n ≤ 20000)

few_within : (n : ℕ) → IfSome (within n) AreFew
few_within n = by_tests (nat_lt n 1) refl (nat_lt 20000 n) refl
  where
    by_tests : (a : Bool) → nat_lt n 1 ≡ a → (b : Bool) → nat_lt 20000 n ≡ b → IfSome (if a then None else (if b then None else Some n)) AreFew
    by_tests true e b f = tt
    by_tests false e true f = tt
    by_tests false e false f = (omega (arith, leb-false (suc n) 1 e), omega (arith, leb-false (suc 20000) n f))

few_nodes : (text : Text) → IfSome (nodes_of text) AreFew
unfolding nodes_of
few_nodes text = by_number (number_of text)
  where
    by_number : (o : Option ℕ) → IfSome (option_and_then within o) AreFew
    by_number None = tt
    by_number (Some n) = few_within n

made_few : (seed nodes : Option ℕ) → IfSome nodes AreFew → IfSome (made_of seed nodes) HasNodes
made_few None nodes p = tt
made_few (Some seed) None p = tt
made_few (Some seed) (Some nodes) p = p

by_few : (seed nodes : Option Text) → IfSome (made_by seed nodes) HasNodes
by_few None nodes = tt
by_few (Some seed) None = tt
by_few (Some seed) (Some nodes) = made_few (number_of seed) (nodes_of nodes) (few_nodes nodes)

either : (b : Bool) (o o' : Option Command) → IfSome o HasNodes → IfSome o' HasNodes → IfSome (if b then o else o') HasNodes
either true o o' p q = p
either false o o' p q = q

layout_few : (words : List Text) → IfSome (layout_of words) HasNodes
unfolding layout_of
layout_few words =
    let laid : Option Command = Some (Layout (is_given (value_in layout words (codes "stats")))) in
    either (has_dashes words) None (if is_taken layout words then laid else None) tt (either (is_taken layout words) laid None tt tt)

make_few : (words : List Text) → IfSome (make_of words) HasNodes
unfolding make_of
make_few words =
    let made : Option Command = made_by (value_in make words (codes "seed")) (value_in make words (codes "nodes")) in
    either (has_dashes words) None (if is_taken make words then made else None) tt
    (either (is_taken make words) made None (by_few (value_in make words (codes "seed")) (value_in make words (codes "nodes"))) tt)

write_few : (words : List Text) → IfSome (write_of words) HasNodes
unfolding write_of
write_few [] = tt
write_few (word ∷ words) = tt

command_few : (words : List Text) → IfSome (command_of words) HasNodes
unfolding command_of
command_few [] = tt
command_few (first ∷ rest) =
    let written : Option Command = if bytes_eq first (codes "write") then write_of rest else None in
    either (bytes_eq first (codes "layout")) (layout_of rest) (if bytes_eq first (codes "make") then make_of rest else written) (layout_few rest)
    (either (bytes_eq first (codes "make")) (make_of rest) written (make_few rest) (either (bytes_eq first (codes "write")) (write_of rest) None (write_few rest) tt))

pub has_nodes : (words : List Text) (command : Command) → command_of words ≡ Some command → HasNodes command
has_nodes words command e = subst (λ (o : Option Command). IfSome o HasNodes) e (command_few words)

pub read_nodes : (words : List Text) (r : Result Command WordsError) → IfOk r (λ command. command_of words ≡ Some command) → IfOk r HasNodes
read_nodes words (Ok command) p = has_nodes words command p
read_nodes words (Err error) p = tt

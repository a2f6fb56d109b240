-- The options of a command as they were found.
use Rattle.std.proofs.Common.{◌≡◌, ◌∙◌, ap, sym, List, Bool, true, false, Option, Some, None}
use Rattle.std.specs.Prelude.{if◌then◌else◌, codes}
use Rattle.clap.specs.Words.{App, Text, first_value, found_of, is_simple_and_free}
use Rattle.clap.specs.declared.parser.matches.ArgMatches.{ArgMatches}
use Rattle.command_words.specs.Options.{has_dashes, is_taken, value_in, Reads, layout, make}
use Rattle.command_words.specs.Commands.{is_given, layout_of, made_by, make_of}
use Rattle.command_words.specs.declared.Command.{Command}
use Rattle.command_words.specs.declared.Command.TheVariants.{Layout}
use Rattle.command_words.proofs.Digits.{both_none}

-- where they are read
read_where : (dashes taken : Bool) (x : Option Command) → dashes ≡ false → taken ≡ true → (if dashes then None else (if taken then x else None)) ≡ x
read_where dashes taken x d t = ap (λ (b : Bool). if b then None else (if taken then x else None)) d ∙ ap (λ (b : Bool). if b then x else None) t

not_taken : (dashes taken : Bool) (x : Option Command) → taken ≡ false → (if dashes then None else (if taken then x else None)) ≡ None
not_taken dashes taken x t = ap (λ (b : Bool). if dashes then None else (if b then x else None)) t ∙ both_none dashes

dashed : (dashes : Bool) (x : Option Command) → dashes ≡ true → (if dashes then None else x) ≡ None
dashed dashes x d = ap (λ (b : Bool). if b then None else x) d

-- ---- `layout`

pub layout_simple : (app : App) → app ≡ layout → is_simple_and_free app ≡ true
unfolding layout
layout_simple app e = ap is_simple_and_free e

pub layout_dashed : (words : List Text) → has_dashes words ≡ true → layout_of words ≡ None
unfolding layout_of
layout_dashed words d = dashed (has_dashes words) _ d

pub layout_not : (app : App) (words : List Text) → app ≡ layout → is_taken app words ≡ false → layout_of words ≡ None
unfolding layout_of
layout_not app words e t = not_taken (has_dashes words) (is_taken layout words) _ (ap (λ (a : App). is_taken a words) (sym e) ∙ t)

pub layout_read : (app : App) (words : List Text) (m : ArgMatches) (value : Option Text) (flag : Bool) → app ≡ layout → has_dashes words ≡ false → Reads app words m
    → value ≡ first_value (found_of m) (codes "stats") → flag ≡ is_given value → layout_of words ≡ Some (Layout flag)
unfolding layout_of
layout_read app words m value flag e d r v f =
    read_where (has_dashes words) (is_taken layout words) _ d (ap (λ (a : App). is_taken a words) (sym e) ∙ r.taken)
    ∙ ap (λ (b : Bool). Some (Layout b)) (sym (f ∙ ap is_given (v ∙ r.values (codes "stats") ∙ ap (λ (a : App). value_in a words (codes "stats")) e)))

pub ruleset laying = (layout_simple, layout_dashed, layout_not, layout_read)

-- ---- `make`

pub make_simple : (app : App) → app ≡ make → is_simple_and_free app ≡ true
unfolding make
make_simple app e = ap is_simple_and_free e

pub make_dashed : (words : List Text) → has_dashes words ≡ true → make_of words ≡ None
unfolding make_of
make_dashed words d = dashed (has_dashes words) _ d

pub make_not : (app : App) (words : List Text) → app ≡ make → is_taken app words ≡ false → make_of words ≡ None
unfolding make_of
make_not app words e t = not_taken (has_dashes words) (is_taken make words) _ (ap (λ (a : App). is_taken a words) (sym e) ∙ t)

pub make_read : (app : App) (words : List Text) (m : ArgMatches) (seed nodes : Option Text) (x : Option Command) → app ≡ make → has_dashes words ≡ false → Reads app words m
    → seed ≡ first_value (found_of m) (codes "seed") → nodes ≡ first_value (found_of m) (codes "nodes") → x ≡ made_by seed nodes → make_of words ≡ x
unfolding make_of
make_read app words m seed nodes x e d r s n f =
    read_where (has_dashes words) (is_taken make words) _ d (ap (λ (a : App). is_taken a words) (sym e) ∙ r.taken)
    ∙ sym (f ∙ ap (λ (v : Option Text). made_by v nodes) (s ∙ r.values (codes "seed") ∙ ap (λ (a : App). value_in a words (codes "seed")) e)
    ∙ ap (λ (v : Option Text). made_by (value_in make words (codes "seed")) v) (n ∙ r.values (codes "nodes") ∙ ap (λ (a : App). value_in a words (codes "nodes")) e))

pub ruleset making = (make_simple, make_dashed, make_not, make_read)

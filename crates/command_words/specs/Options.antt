-- The options after the first word, as `clap` reads them.
use Rattle.std.specs.Prelude.{◌≡◌, Bool, List, map, Some, true, Option, codes, string_bytes, String}
use Rattle.std.specs.List.{list_any}
use Rattle.std.specs.Str.{bytes_eq}
use Rattle.clap.specs.Words.{App, Rule, Shape, Text, fault_of, matches_of, first_of, first_value, found_of, new_app, new_rule, with_rule}
use Rattle.clap.specs.Simple.{on_top}
use Rattle.clap.specs.Walk.{is_empty}
use Rattle.clap.specs.declared.builder.ArgAction.TheVariants.{Set, SetTrue}
use Rattle.clap.specs.declared.parser.matches.ArgMatches.{ArgMatches}

abbrev pub texts : {A : Type 0} → List (String A) → List Text
texts words = map string_bytes words

-- ---- the two commands

-- the words begin with the first option, and `--help` is none
abbrev pub bare : Shape → Shape
bare s = record s { no_binary_name = true; disable_help_flag = true }

abbrev pub command_named : Text → App
command_named name = on_top bare (new_app name)

-- `--name value` or `--name=value`, once
abbrev pub valued : Text → Rule
valued name = record (new_rule name) { long = Some name; action = Some Set; required = true }

-- `--name`, at most once
abbrev pub flag : Text → Rule
flag name = record (new_rule name) { long = Some name; action = Some SetTrue }

unfoldable pub layout : App
layout = with_rule (command_named (codes "layout")) (flag (codes "stats"))

unfoldable pub make : App
make = with_rule (with_rule (command_named (codes "make")) (valued (codes "seed"))) (valued (codes "nodes"))

-- ---- the words that a command takes

-- one of the words is `--`
abbrev pub has_dashes : List Text → Bool
has_dashes words = list_any (λ word. bytes_eq word (codes "--")) words

-- the command takes the words
unfoldable pub is_taken : App → List Text → Bool
is_taken app words = is_empty (fault_of app words)

-- the value of the option of this name, where the command takes the words
unfoldable pub value_in : App → List Text → Text → Option Text
value_in app words name = first_of name (matches_of app words)

-- what was found of the words, which the command takes
pub record Reads (app : App) (words : List Text) (matches : ArgMatches) : Type 0 where
  pub taken : is_taken app words ≡ true
  pub values : (name : Text) → first_value (found_of matches) name ≡ value_in app words name

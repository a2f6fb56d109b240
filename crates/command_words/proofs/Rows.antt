-- Words that are written out, and the commands that they are.
use Rattle.std.proofs.Common.{◌≡◌, [], ◌∷◌, true, false, Some, None, refl, codes}
use Rattle.clap.proofs.OnLiterals.{clap_on_literals}
use Rattle.command_words.specs.Options.{layout, make, is_taken, value_in}
use Rattle.command_words.specs.Commands.{command_of, layout_of, make_of, number_of, nodes_of, write_of}
use Rattle.command_words.specs.declared.Command.TheVariants.{Layout, Make, Write}

plain : command_of (codes "layout" ∷ []) ≡ Some (Layout false)
unfolding clap_on_literals layout is_taken value_in layout_of command_of
plain = refl

with_stats : command_of (codes "layout" ∷ codes "--stats" ∷ []) ≡ Some (Layout true)
unfolding clap_on_literals layout is_taken value_in layout_of command_of
with_stats = refl

no_help : command_of (codes "layout" ∷ codes "--help" ∷ []) ≡ None
unfolding clap_on_literals layout is_taken value_in layout_of command_of
no_help = refl

no_dashes : command_of (codes "layout" ∷ codes "--" ∷ []) ≡ None
unfolding clap_on_literals layout is_taken value_in layout_of command_of
no_dashes = refl

not_twice : command_of (codes "layout" ∷ codes "--stats" ∷ codes "--stats" ∷ []) ≡ None
unfolding clap_on_literals layout is_taken value_in layout_of command_of
not_twice = refl

not_cut : command_of (codes "layout" ∷ codes "--stat" ∷ []) ≡ None
unfolding clap_on_literals layout is_taken value_in layout_of command_of
not_cut = refl

in_any_order : command_of (codes "make" ∷ codes "--nodes=2000" ∷ codes "--seed" ∷ codes "7" ∷ []) ≡ Some (Make 7 2000)
unfolding clap_on_literals make is_taken value_in make_of number_of nodes_of command_of
in_any_order = refl

both_wanted : command_of (codes "make" ∷ codes "--seed" ∷ codes "1" ∷ []) ≡ None
unfolding clap_on_literals make is_taken value_in make_of number_of nodes_of command_of
both_wanted = refl

no_nodes : command_of (codes "make" ∷ codes "--seed" ∷ codes "1" ∷ codes "--nodes" ∷ codes "0" ∷ []) ≡ None
unfolding clap_on_literals make is_taken value_in make_of number_of nodes_of command_of
no_nodes = refl

each_once : command_of (codes "make" ∷ codes "--seed" ∷ codes "1" ∷ codes "--seed" ∷ codes "1" ∷ codes "--nodes" ∷ codes "1" ∷ []) ≡ None
unfolding clap_on_literals make is_taken value_in make_of number_of nodes_of command_of
each_once = refl

writes : command_of (codes "write" ∷ []) ≡ Some Write
unfolding clap_on_literals write_of command_of
writes = refl

write_alone : command_of (codes "write" ∷ codes "--stats" ∷ []) ≡ None
unfolding clap_on_literals write_of command_of
write_alone = refl

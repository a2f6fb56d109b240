-- What is due for the lines before a line, and a front of what is due with it.
use Rattle.std.proofs.Common.{◌≡◌, sym, subst, ℕ, Bool, true, false, List, [], Option}
use Rattle.std.specs.Prelude.{if◌then◌else◌}
use Rattle.text_scan.specs.declared.line.Line.{Line}
use Rattle.outside.specs.declared.event.Event.{Event}
use Rattle.session.specs.Script.{has_end, all_made}
use Rattle.session.specs.Written.{WritesBehind}
use Rattle.session.specs.Runs.{due_made, WritesFrom, WritesPrefix}
use Rattle.session.proofs.Written.{behind_front, front_behind}

module _ (stats : Bool) (w w' : Option (List ℕ)) (l l' : Option (List Event)) (earlier given : List Line) where
  -- all of it is due where they hold the whole document
  pub all_due : has_end earlier ≡ true → WritesBehind stats w w' l l' (all_made earlier) (all_made given) → WritesFrom stats w w' l l' earlier given
  all_due e p = subst (λ (b : Bool). WritesBehind stats w w' l l' (if b then all_made earlier else []) (all_made given)) (sym e) p

  -- nothing is due where they don't
  pub none_due : has_end earlier ≡ false → WritesPrefix stats w w' l l' given → WritesFrom stats w w' l l' earlier given
  none_due e p = subst (λ (b : Bool). WritesBehind stats w w' l l' (if b then all_made earlier else []) (all_made given)) (sym e) (behind_front stats w w' l l' (all_made given) p)

  pub prefix_due : WritesFrom stats w w' l l' earlier given → WritesPrefix stats w w' l l' given
  prefix_due p = front_behind stats w w' l l' (due_made earlier) (all_made given) p

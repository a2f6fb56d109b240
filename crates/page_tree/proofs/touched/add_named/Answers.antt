use Rattle.std.proofs.Common.{[], ◌∷◌, refl, sym}
use Rattle.std.specs.Str.{bytes_eq}
use Rattle.page_tree.proofs.Marking.{all_added, no_name, none_added, one_marked}
use Rattle.page_tree.proofs.touched.add_named.Goals as goal

pub returns-in_ok-push-in-Some : goal.returns-in_ok-push-in-Some
returns-in_ok-push-in-Some c = let t = c.args.page.now.nodes.tree in all_added (λ w. bytes_eq w c.args.name.now) t c.args.found.now (c.in-Some.id ∷ []) _ c.in_ok-push-in-Some.ensures.ok (one_marked (λ w. bytes_eq w c.args.name.now) t c.in-Some.id c.in-Some.ensures.tells)

pub returns-in-None : goal.returns-in-None
returns-in-None c = let t = c.args.page.now.nodes.tree in none_added (λ w. bytes_eq w c.args.name.now) t c.args.found.now c.args.found.now refl (no_name t c.args.name.now (sym c.in-None.ensures.there))

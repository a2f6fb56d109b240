use Rattle.track_sizing.proofs.Sized.{sizes_are}
use Rattle.track_sizing.proofs.size.lasting_from.Goals as goal

pub returns-clause-sizes : goal.returns-clause-sizes
returns-clause-sizes g c =
    sizes_are c.args.fit.now c.args.items.now c.args.rows.now c.size_content.new.rows c.give_rest.new.rows c.in_ok-base_sizes.field-0.items c.in_ok-untouched.ensures.rows c.in_ok-give_rest.ensures c.in_ok-base_sizes.ensures

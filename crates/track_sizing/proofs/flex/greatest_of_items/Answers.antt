use Rattle.std.proofs.Common.{arith, ◌-◌, length}
use Rattle.track_sizing.proofs.Best.{in_item}
use Rattle.track_sizing.proofs.flex.greatest_of_items.Goals as goal

pub crosses_flexible-requires-clause-item : goal.crosses_flexible-requires-clause-item
crosses_flexible-requires-clause-item c = in_item c.args.first (length c.args.rows.now) c.args.items.now (length c.args.items.now - 1 - c.loop-back.back) c.index-items-items.result c.requires.items (omega arith) c.index-items-items.is

pub item_fraction-requires-clause-item : goal.item_fraction-requires-clause-item
item_fraction-requires-clause-item c = in_item c.args.first (length c.args.rows.now) c.args.items.now (length c.args.items.now - 1 - c.loop-back.back) c.index-items-items.result c.requires.items (omega arith) c.index-items-items.is

use Rattle.std.proofs.Common.{arith}
use Rattle.box_layout.proofs.FoundBoxes.{not_put, put_here, put_there}
use Rattle.box_layout.proofs.last_boxes.put.Goals as goal

pub returns-then-append : goal.returns-then-append
returns-then-append c =
    put_here (c.args.name.now, c.args.rect) c.args.boxes.now.items c.append.new.boxes.items c.args.few.now (put_there (c.args.name.now, c.args.rect) c.args.boxes.now.items c.append.new.boxes.items c.args.few.now (c.append.ensures.few c.if-append.true) (c.append.ensures.put c.if-append.true))
    c.args.id c.args.query c.args.slots.now.items c.list.new.slots.items c.args.containers.now.items c.list.new.containers.items c.len-start.result c.len-end.result c.append.ensures.before (omega (arith, c.len-start.ensures)) (omega (arith, c.len-end.ensures)) c.requires.own
    c.requires.below c.list.ensures

pub returns-else-append : goal.returns-else-append
returns-else-append c = not_put c.args.id c.args.query (c.args.name.now, c.args.rect) c.args.few.now c.args.slots.now.items c.args.containers.now.items c.args.boxes.now.items c.append.new.boxes.items c.append.ensures.before

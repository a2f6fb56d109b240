use Rattle.std.proofs.Common.{rules}
use Rattle.std.proofs.lemmas.List.{drop_all}
use Rattle.session.proofs.BoxTexts.{box_put}
use Rattle.session.proofs.box_text.put_box.Goals as goal

pub returns-clause-text : goal.returns-clause-text
returns-clause-text c =
    box_put c.args.name.now c.args.rect _ _ _ _ _ _ c.put_byte-feed.ensures.text (drop_all 192 c.args.room.now (search rules))
    c.put_pair-sizes.ensures.text c.put_pair-places.ensures.text c.put_text.ensures.text c.bytes.ensures.value

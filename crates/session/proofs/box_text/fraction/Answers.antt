use Rattle.session.proofs.BoxTexts.{shown_at, short_at}
use Rattle.session.proofs.box_text.fraction.Goals as goal

pub returns-clause-short : goal.returns-clause-short
returns-clause-short c = short_at c.args.parts _ c.requires

pub returns-clause-text : goal.returns-clause-text
returns-clause-text c = shown_at c.args.parts _ c.requires

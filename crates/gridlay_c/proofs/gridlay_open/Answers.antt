use Rattle.std.proofs.Common.{Ok, refl}
use Rattle.gridlay_c.proofs.gridlay_open.Goals as goal

pub returns-in-Ok-clause-opened : goal.returns-in-Ok-clause-opened
returns-in-Ok-clause-opened c = record {
  opened = Ok c.in-Ok.document.value;
  opens = c.in-Ok.ensures.document;
  held = c.put.ensures.document;
  told = c.none.ensures;
  answered = refl;
}

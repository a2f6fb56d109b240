use Rattle.open_document.proofs.Scratch.{from_scratch}
use Rattle.open_document.proofs.laws.boxes_are_those_from_scratch.Goals as goal

pub returns : goal.returns
returns c text first last calls opened led = from_scratch text first last calls opened led

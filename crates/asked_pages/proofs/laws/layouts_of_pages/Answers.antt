use Rattle.asked_pages.proofs.Pages.{bounded, listed, on_path}
use Rattle.asked_pages.proofs.laws.layouts_of_pages.Goals as goal

pub returns-clause-asked : goal.returns-clause-asked
returns-clause-asked c = listed c.args.page.now c.pages_stand.ensures c.requires.valid

pub returns-clause-path : goal.returns-clause-path
returns-clause-path c = on_path c.args.page.now c.pages_stand.ensures c.requires.valid

pub returns-clause-bounded : goal.returns-clause-bounded
returns-clause-bounded c = λ old new same walk right path measured. bounded c.args.page.now c.pages_stand.ensures c.requires.valid old new same walk right path measured

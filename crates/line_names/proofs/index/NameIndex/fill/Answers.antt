use Rattle.std.proofs.Common.{◌∙◌}
use Rattle.line_names.specs.SetLists.{named_in}
use Rattle.line_names.proofs.Names.{part_put}
use Rattle.line_names.proofs.SetLists.{named_kinds}
use Rattle.line_names.proofs.index.NameIndex.fill.Goals as goal

pub returns-in_ok-put : goal.returns-in_ok-put
returns-in_ok-put c = λ done part.
    part_put c.args.self.now.lines c.put.new.self.lines done (named_in c.args.lines.now) c.args.name.now c.in_ok-all.all
    (c.in_ok-all.ensures ∙ named_kinds c.args.name.now c.args.lines.now.sets c.args.lines.now.kinds _ (c.lines_of-then-is_empty.ensures ∙ c.requires.kinds c.args.name.now)) c.in_ok-put.ensures part

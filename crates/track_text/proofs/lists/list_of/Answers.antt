use Rattle.std.proofs.Common.{rules, ◌≡◌, [], ◌∷◌, ◌++◌, ap, ◌∙◌, true}
use Rattle.std.specs.List.{list_all}
use Rattle.track_text.specs.declared.entry.Part.TheVariants.{Automatic}
use Rattle.track_text.specs.Templates.{plain_list, automatic_list, list_of}
use Rattle.track_text.specs.Kept.{is_written, entries_of}
use Rattle.track_text.proofs.Fronts.{gives_same}
use Rattle.track_text.proofs.TrackLists.{list-plain, list-around, list-after, list-twice}
use Rattle.track_text.proofs.lists.list_of.Goals as goal

pub returns-then-not-all_written : goal.returns-then-not-all_written
returns-then-not-all_written c =
    let s = c.in-Some.around in
    let front : list_all is_written s.front.now ≡ true = search rules in
    let parts : c.args.parts.now ≡ s.front.now ++ Automatic s.filling s.body.now ∷ s.back.now = search rules in
    ap (list_of []) parts
    ∙ list-around [] s.front.now s.filling s.body.now s.back.now front
    ∙ list-twice (entries_of s.front.now) s.filling s.body.now s.back.now (search rules)

pub returns-in-None : goal.returns-in-None
returns-in-None c = gives_same c.plain_list.result (plain_list (entries_of c.args.parts.now)) (list_of [] c.args.parts.now) c.plain_list.ensures (list-plain [] c.args.parts.now (search rules))

pub returns-else-not-all_written : goal.returns-else-not-all_written
returns-else-not-all_written c =
    let s = c.in-Some.around in
    let front : list_all is_written s.front.now ≡ true = search rules in
    let parts : c.args.parts.now ≡ s.front.now ++ Automatic s.filling s.body.now ∷ s.back.now = search rules in
    gives_same c.automatic_list.result (automatic_list (entries_of s.front.now) s.filling s.body.now (entries_of s.back.now)) (list_of [] c.args.parts.now) c.automatic_list.ensures
    (ap (list_of []) parts
    ∙ list-around [] s.front.now s.filling s.body.now s.back.now front
    ∙ list-after (entries_of s.front.now) s.filling s.body.now s.back.now (search rules))

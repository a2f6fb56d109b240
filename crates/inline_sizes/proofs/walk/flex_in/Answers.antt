use Rattle.std.proofs.Common.{◌∙◌, [], ap, false, map, subst, sym}
use Rattle.placing.specs.Nodes.{BareTrees, IsLive}
use Rattle.placing.specs.Told.{AreToldMembers}
use Rattle.placing.specs.Walks.{Stopped}
use Rattle.placing.specs.declared.lined.ToldMember.{ToldMember}
use Rattle.placing.proofs.Leaves.{on_err}
use Rattle.placing.proofs.Walks.{stopped}
use Rattle.tree_rules.specs.AskedQueries.{inline_query}
use Rattle.tree_rules.specs.declared.query.Query.{Query}
use Rattle.walker.proofs.Parts.{parts_then}
use Rattle.walker.specs.Walkers.{nodes, seen}
use Rattle.inline_sizes.proofs.FlexTold.{are_members}
use Rattle.inline_sizes.proofs.walk.flex_in.Goals as goal

pub returns-in_err-told-clause-stopped : goal.returns-in_err-told-clause-stopped
returns-in_err-told-clause-stopped g c =
    let all : (q : Query) → Stopped c.args.id q (seen g.R.Ruler.log c.args.walk.now) (seen g.R.Ruler.log c.told_members.new.walk) = c.in_err-told.ensures.stopped in
    on_err _ _ all

pub returns-in_err-members-clause-stopped : goal.returns-in_err-members-clause-stopped
returns-in_err-members-clause-stopped g c =
    let all : (q : Query) → Stopped c.args.id q (seen g.R.Ruler.log c.args.walk.now) (seen g.R.Ruler.log c.told_members.new.walk) =
    λ q. stopped c.args.id q 0 _ _ (c.in_ok-told.ensures.below q) in
    on_err _ _ all

pub keep_members-requires-clause-live : goal.keep_members-requires-clause-live
keep_members-requires-clause-live g c = subst (λ (z : BareTrees). IsLive z c.args.id) (sym (c.in_ok-told.ensures.below (inline_query false [])).walk.bare_same) c.requires.live

pub keep_members-requires-clause-told : goal.keep_members-requires-clause-told
keep_members-requires-clause-told g c =
    subst (λ (z : BareTrees). AreToldMembers z c.args.id c.as_slice-2.result.now) (sym (c.in_ok-told.ensures.below (inline_query false [])).walk.bare_same)
    (subst (AreToldMembers (nodes c.args.walk.now) c.args.id) (sym c.as_slice-2.ensures) c.in_ok-told.ensures.told)

pub returns-in_err-keep_members-clause-stopped : goal.returns-in_err-keep_members-clause-stopped
returns-in_err-keep_members-clause-stopped g c =
    let all : (q : Query) → Stopped c.args.id q (seen g.R.Ruler.log c.args.walk.now) (seen g.R.Ruler.log c.keep_members.new.walk) =
    λ q. stopped c.args.id q 0 _ _ (c.keep_members.ensures.below q 0 _ (c.in_ok-told.ensures.below q)) in
    on_err _ _ all

pub returns-clause-value : goal.returns-clause-value
returns-clause-value g c =
    are_members (nodes c.args.walk.now) c.args.id c.root.ensures.tree c.in_ok-told.told c.in_ok-members.members c.in_ok-told.ensures.told (c.in_ok-members.ensures ∙ ap (map (λ (e : ToldMember). e.member)) c.as_slice.ensures)

pub returns-clause-below : goal.returns-clause-below
returns-clause-below g c = λ q. c.keep_members.ensures.below q 0 _ (c.in_ok-told.ensures.below q)

pub returns-in_err-told-clause-parts : goal.returns-in_err-told-clause-parts
returns-in_err-told-clause-parts g c = c.told_members.ensures.parts

pub returns-in_err-told-clause-stands : goal.returns-in_err-told-clause-stands
returns-in_err-told-clause-stands g c = c.told_members.ensures.stands

pub returns-in_err-members-clause-parts : goal.returns-in_err-members-clause-parts
returns-in_err-members-clause-parts g c = c.told_members.ensures.parts

pub returns-in_err-members-clause-stands : goal.returns-in_err-members-clause-stands
returns-in_err-members-clause-stands g c = c.told_members.ensures.stands

pub returns-in_err-keep_members-clause-parts : goal.returns-in_err-keep_members-clause-parts
returns-in_err-keep_members-clause-parts g c = parts_then _ _ _ c.told_members.ensures.parts c.keep_members.ensures.parts

pub returns-in_err-keep_members-clause-stands : goal.returns-in_err-keep_members-clause-stands
returns-in_err-keep_members-clause-stands g c = c.keep_members.ensures.stands

pub returns-clause-parts : goal.returns-clause-parts
returns-clause-parts g c = parts_then _ _ _ c.told_members.ensures.parts c.keep_members.ensures.parts

pub returns-clause-stands : goal.returns-clause-stands
returns-clause-stands g c = c.keep_members.ensures.stands

use Rattle.std.proofs.Common.{rules, ◌≡◌, [], ◌∙◌, sym}
use Rattle.std.proofs.lemmas.Bool.{true≢false}
use Rattle.track_text.specs.Templates.{kept_tracks, kept_names}
use Rattle.track_text.specs.Kept.{entries_of}
use Rattle.track_text.proofs.TrackLists.{plain-none, plain-some, same-list}
use Rattle.track_text.proofs.lists.plain_list.Goals as goal

pub returns-then-is_empty : goal.returns-then-is_empty
returns-then-is_empty c =
    let sizes : c.in_ok-kept.kept.sizes ≡ kept_tracks (entries_of c.args.parts.now) = search rules in
    let empty : c.in_ok-kept.kept.sizes ≡ [] = search rules in
    plain-none (entries_of c.args.parts.now) (sym sizes ∙ empty)

pub returns : goal.returns
returns c =
    let sizes : c.in_ok-kept.kept.sizes ≡ kept_tracks (entries_of c.args.parts.now) = search rules in
    let names : c.in_ok-kept.kept.names ≡ kept_names (entries_of c.args.parts.now) = search rules in
    plain-some (entries_of c.args.parts.now) (λ e. true≢false (sym (c.is_empty.ensures.1 (sizes ∙ e)) ∙ c.if-is_empty.false))
    ∙ same-list c.in_ok-kept.kept.sizes (kept_tracks (entries_of c.args.parts.now)) c.in_ok-kept.kept.names (kept_names (entries_of c.args.parts.now)) sizes names

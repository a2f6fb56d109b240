use Rattle.std.proofs.Common.{sym, ap, subst, ◌∙◌, ◌++◌, ◌+◌, [], get_or, pos, neg_ℤ}
use Rattle.std.specs.Prelude.{IsTrue}
use Rattle.std.proofs.lemmas.Result.{IfOk-weaker}
use Rattle.lunit.specs.declared.geometry.Span.{Span}
use Rattle.part_rules.specs.LineNames.{Table, names_by_areas}
use Rattle.line_names.specs.SetLists.{sets_of}
use Rattle.line_names.specs.Tables.{are_areas, table_by, AreLines, IsTableBy}
use Rattle.line_names.specs.declared.levels.Level.{Level}
use Rattle.line_names.proofs.Made.{own_made}
use Rattle.line_names.proofs.Shared.{own_is}
use Rattle.line_names.proofs.table.LineTable.new.Goals as goal

pub of-requires-2 : goal.of-requires-2
of-requires-2 c =
    let level : Level = record { sets = c.in_ok-lines.lines; areas = c.in_ok-areas.areas; over = record { start = pos 0; end = pos 0 }; tracks = c.args.tracks; index = c.in_ok-index.index } in
    subst (λ above. IsTableBy (record { start = neg_ℤ (pos 10000); end = pos 10000 }) (pos 0) level above) (sym c.new.ensures)
    (own_is level c.args.sets.now c.requires.tracks (subst (λ xs. IsTrue (are_areas c.args.tracks xs)) (sym c.in_ok-areas.ensures) c.requires.areas)
    (subst (λ xs. AreLines (λ line. get_or c.args.sets.now line [] ++ names_by_areas (pos line) xs) (c.args.tracks + 1) (sets_of c.in_ok-lines.lines.sets c.in_ok-lines.lines.kinds)) (sym c.in_ok-areas.ensures) c.in_ok-lines.ensures.lines)
    c.in_ok-index.ensures)

pub returns : goal.returns
returns c =
    let level : Level = record { sets = c.in_ok-lines.lines; areas = c.in_ok-areas.areas; over = record { start = pos 0; end = pos 0 }; tracks = c.args.tracks; index = c.in_ok-index.index } in
    let limit : Span = record { start = neg_ℤ (pos 10000); end = pos 10000 } in
    IfOk-weaker c.of-2.result _ _
    (λ table e.
    e
    ∙ ap (λ above. table_by limit level above) c.new.ensures
    ∙ ap (λ xs. let t : Table = record { tracks = c.args.tracks; lines = sets_of c.in_ok-lines.lines.sets c.in_ok-lines.lines.kinds; areas = xs; low = neg_ℤ (pos 10000); high = pos 10000 } in t) c.in_ok-areas.ensures
    ∙ own_made c.args.sets.now c.args.tracks c.args.areas.now (sets_of c.in_ok-lines.lines.sets c.in_ok-lines.lines.kinds) c.in_ok-lines.ensures.lines)
    c.of-2.ensures

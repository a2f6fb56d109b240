use Rattle.std.proofs.Common.{rules, ◌≡◌, Some, None}
use Rattle.std.specs.BTreeMap.{get}
use Rattle.std.specs.Cmp.Lexicographic.{slice_cmp}
use Rattle.std.specs.Ordering.{nat_cmp}
use Rattle.open_document.proofs.Naming.{found_none, found_some}
use Rattle.open_document.proofs.changed.is_among.Goals as goal

pub returns-in-Some : goal.returns-in-Some
returns-in-Some c boxes apart is =
    let got : get (slice_cmp nat_cmp) c.args.rects.now c.args.name.now ≡ Some c.in-Some.old.now = search rules in
    found_some boxes c.args.rects.now (c.args.name.now, c.args.rect.now) apart is c.in-Some.old.now c.same_rect.result got c.same_rect.ensures

pub returns-in-None : goal.returns-in-None
returns-in-None c boxes apart is =
    let got : get (slice_cmp nat_cmp) c.args.rects.now c.args.name.now ≡ None = search rules in
    found_none boxes c.args.rects.now (c.args.name.now, c.args.rect.now) apart is got

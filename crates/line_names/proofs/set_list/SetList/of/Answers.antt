use Rattle.std.proofs.Common.{arith, sym, subst, ◌≡◌, ◌+◌, [], length, get_or}
use Rattle.line_names.specs.SetLists.{sets_of, AreKinds}
use Rattle.line_names.specs.Tables.{AreLines}
use Rattle.line_names.proofs.SetLists.{as_many, kinds_more, lines_more}
use Rattle.line_names.proofs.set_list.SetList.of.Goals as goal

pub loop-line-preserved : goal.loop-line-preserved
loop-line-preserved c = record {
  lines = subst (λ kinds. AreLines (λ line. get_or c.args.sets.now line []) (c.loop-line.line + 1) (sets_of c.kind_at.new.held kinds)) (sym c.in_ok-push.ensures.ok)
      (lines_more c.loop-line.held c.kind_at.new.held c.loop-line.kinds c.in_ok-kind_at.field-0 c.args.sets.now c.loop-line.line c.kind_at.ensures.kept
      (omega (arith, c.requires, c.loop-line.invariant.few, c.loop-line-test.true, c.kind_at.ensures.more)) c.loop-line.invariant.kinds c.in_ok-kind_at.ensures.kind c.loop-line.invariant.lines);
  kinds = subst (λ kinds. AreKinds (length c.kind_at.new.held) kinds) (sym c.in_ok-push.ensures.ok)
      (kinds_more (length c.loop-line.held) (length c.kind_at.new.held) c.loop-line.kinds c.in_ok-kind_at.field-0 c.loop-line.invariant.kinds (as_many c.loop-line.held c.kind_at.new.held c.kind_at.ensures.kept) c.in_ok-kind_at.ensures.within);
  few = omega (arith, c.loop-line.invariant.few, c.kind_at.ensures.more);
}

pub returns : goal.returns
returns c =
    let all : c.loop-line.line ≡ c.args.count = omega (arith, c.loop-line-test.false, c.loop-line.auto.line-end) in
    record {
      lines = subst (λ n. AreLines (λ line. get_or c.args.sets.now line []) n (sets_of c.loop-line.held c.loop-line.kinds)) all c.loop-line.invariant.lines;
      few = omega (arith, c.loop-line.invariant.few, all);
    }

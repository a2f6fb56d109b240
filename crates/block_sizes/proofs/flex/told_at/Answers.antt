use Rattle.std.proofs.Common.{refl}
use Rattle.block_sizes.proofs.KnownAlong.{at_width, none_known}
use Rattle.block_sizes.proofs.flex.told_at.Goals as goal

pub returns-in_default : goal.returns-in_default
returns-in_default c = λ b n h. none_known b n c.args.width c.new.result c.new.ensures

pub returns-then-not-same_length : goal.returns-then-not-same_length
returns-then-not-same_length c = λ b n h. none_known b n c.args.width c.new-then-not-same_length.result c.new-then-not-same_length.ensures

pub returns : goal.returns
returns c = λ b n h. at_width b n c.args.width c.in-Some.past.width c.in-Some.past.told c.args.past c.in-Some.past c.in-Some.is refl (c.same_length.ensures c.if-not-same_length.false) h

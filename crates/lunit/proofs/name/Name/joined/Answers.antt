use Rattle.std.proofs.Common.{ap, sym, ◌∙◌, ◌≡◌, ℕ, ◌++◌, ◌+◌, length, take, length-append}
use Rattle.lunit.specs.Padded.{padded}
use Rattle.lunit.proofs.Written.{written, spelled, is_padded}
use Rattle.lunit.proofs.name.Name.joined.Goals as goal

whole : (c : goal.After-bytes-4-1) → c.write_at-2.new.out ≡ padded (c.args.front.now ++ c.args.back.now)
whole c = written c.args.front.now c.args.back.now c.write_at.new.out c.write_at-2.new.out c.requires c.write_at.ensures c.write_at-2.ensures

pub invariant_of-result : goal.invariant_of-result
invariant_of-result c = is_padded c.args.front.now c.args.back.now c.write_at-2.new.out c.requires (whole c)

pub returns : goal.returns
returns c = ap (take (length c.args.front.now + length c.args.back.now)) (whole c) ∙ ap (λ (n : ℕ). take n (padded (c.args.front.now ++ c.args.back.now))) (sym (length-append c.args.front.now c.args.back.now)) ∙ spelled (c.args.front.now ++ c.args.back.now)

use Rattle.std.proofs.Common.{arith, ap, subst, sym, ◌≡◌, ◌∙◌, ◌+◌, ◌++◌, ◌∷◌, [], drop, get_or, length, true, false}
use Rattle.std.proofs.lemmas.Int.{ints}
use Rattle.std.proofs.lemmas.List.{length-append}
use Rattle.part_rules.specs.declared.track.Rule.{Rule}
use Rattle.tree_rules.specs.Distribution.{edges_from}
use Rattle.inline_sizes.proofs.Edges.{collapsed_next, counted_next}
use Rattle.block_sizes.specs.Moving.{first_place, last_place, moved_by}
use Rattle.placing.specs.Spread.{AreBetween}
use Rattle.block_sizes.proofs.Seams.{between_more, collapsed_more, open_step}
use Rattle.block_sizes.proofs.edges.moved_tracks.Goals as goal

pub loop-at-preserved-then-rule : goal.loop-at-preserved-then-rule
loop-at-preserved-then-rule c =
    let l = c.loop-at in
    let rules = c.args.rules.now in
    let sizes = c.args.sizes.now in
    let rule = c.index-rules-at.result in
    let track = c.collapsed_track.result in
    let made : c.push.new.self ≡ l.edges ++ track ∷ [] = c.in_ok-push.ensures.ok in
    let collapsed : (get_or rules l.at rule).collapsed ≡ true = sym (ap (λ (r : Rule). r.collapsed) c.index-rules-at.is) ∙ c.if-rule.true in
    let rest = edges_from (moved_by c.args.moving.now) c.args.gap l.number l.place (drop (l.at + 1) rules) (drop (l.at + 1) sizes) in
    record {
      so_far = ap (λ es. es ++ rest) (made ∙ ap (λ t. l.edges ++ t ∷ []) c.collapsed_track.ensures.value)
          ∙ collapsed_more (moved_by c.args.moving.now) c.args.gap l.number l.place rules sizes l.at rule l.edges _ c.loop-at-test.true c.requires.sizes collapsed l.invariant.so_far;
      made = ap length made ∙ length-append l.edges (track ∷ []) ∙ omega (arith, l.invariant.made);
      between = subst (AreBetween first_place last_place) (sym made) (between_more first_place last_place l.edges track l.invariant.between c.collapsed_track.ensures.range);
      counted = omega (arith, l.invariant.counted, collapsed_next rules l.at rule c.loop-at-test.true collapsed);
      low = omega (arith, ints, l.invariant.low);
      high = omega (arith, ints, l.invariant.high);
    }

pub loop-at-preserved : goal.loop-at-preserved
loop-at-preserved c =
    let l = c.loop-at in
    let rules = c.args.rules.now in
    let sizes = c.args.sizes.now in
    let rule = c.index-rules-at.result in
    let track = c.moved_track.result in
    let made : c.push-in-loop-at.new.self ≡ l.edges ++ track ∷ [] = c.in_ok-push-2.ensures.ok in
    let open_rule : (get_or rules l.at rule).collapsed ≡ false = sym (ap (λ (r : Rule). r.collapsed) c.index-rules-at.is) ∙ c.if-rule.false in
    let rest = edges_from (moved_by c.args.moving.now) c.args.gap (l.number + 1) c.next_place-place.result (drop (l.at + 1) rules) (drop (l.at + 1) sizes) in
    record {
      so_far = ap (λ es. es ++ rest) made
          ∙ open_step (moved_by c.args.moving.now) c.args.gap l.number l.place c.next_place-place.result rules sizes l.at rule c.index-sizes-at.result track l.edges _ c.loop-at-test.true c.requires.sizes open_rule c.index-sizes-at.is c.moved_track.ensures.value
          c.next_place-place.ensures.value l.invariant.so_far;
      made = ap length made ∙ length-append l.edges (track ∷ []) ∙ omega (arith, l.invariant.made);
      between = subst (AreBetween first_place last_place) (sym made) (between_more first_place last_place l.edges track l.invariant.between c.moved_track.ensures.range);
      counted = omega (arith, l.invariant.counted, counted_next rules l.at rule c.loop-at-test.true open_rule);
      low = omega (arith, ints, l.invariant.low, c.next_place-place.ensures.low);
      high = omega (arith, ints, l.invariant.high, c.next_place-place.ensures.high);
    }

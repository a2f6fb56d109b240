use Rattle.std.proofs.Common.{◌<◌, ◌∷◌, ◌++◌, ◌∙◌, [], List, ℕ, ap, arith, length, map, subst, sym}
use Rattle.std.specs.Prelude.{get_or}
use Rattle.std.proofs.lemmas.List.{take_all, take_more}
use Rattle.placing.specs.Members.{Every, IsPlace, Tells, number_of, place_of, turn_in}
use Rattle.placing.specs.Nodes.{bare, children_at, kid_at, kids_at}
use Rattle.placing.specs.Told.{ArePastMembers, last_turn}
use Rattle.placing.specs.declared.lined.ToldMember.{ToldMember}
use Rattle.placing.proofs.LastMembers.{every_push, map_push, unasked_told}
use Rattle.placing.proofs.last_members.unasked.Goals as goal

pub unasked_child-requires : goal.unasked_child-requires
unasked_child-requires c =
    subst (λ (l : List ℕ). get_or l c.loop-number.number-index 0 < length (kids_at (bare c.args.tree.now.tree) c.args.id)) (sym c.as_slice-number-items.ensures)
    (c.in_ok-numbers.ensures.within c.loop-number.number-index 0 (omega (arith, ap length c.as_slice-number-items.ensures, c.loop-number-test.true)))

pub loop-number-preserved : goal.loop-number-preserved
loop-number-preserved c =
    let made = c.unasked_child.result in
    let kids = children_at (bare c.args.tree.now.tree) c.args.id in
    record {
      numbers =
          ap (λ (l : List ToldMember). map number_of (map place_of l)) c.in_ok-push.ensures.items
          ∙ ap (map number_of) (map_push place_of c.loop-number.told.items made)
          ∙ map_push number_of (map place_of c.loop-number.told.items) (place_of made)
          ∙ (λ i. c.loop-number.invariant.numbers i ++ c.unasked_child.ensures.number i ∷ [])
          ∙ sym (take_more c.as_slice-number-items.result.now c.loop-number.number-index 0 (omega (arith, c.loop-number-test.true)));
      children = subst (λ (l : List ToldMember). Every (IsPlace kids) (map place_of l)) (sym c.in_ok-push.ensures.items)
          (subst (Every (IsPlace kids)) (sym (map_push place_of c.loop-number.told.items made))
          (every_push (IsPlace kids) (map place_of c.loop-number.told.items) (place_of made) c.loop-number.invariant.children c.unasked_child.ensures.child));
      told = subst (Every (λ (e : ToldMember). turn_in e < last_turn → Tells (kid_at (bare c.args.tree.now.tree) (place_of e).1) e)) (sym c.in_ok-push.ensures.items)
          (every_push (λ (e : ToldMember). turn_in e < last_turn → Tells (kid_at (bare c.args.tree.now.tree) (place_of e).1) e) c.loop-number.told.items made c.loop-number.invariant.told
          (unasked_told (kid_at (bare c.args.tree.now.tree)) made c.unasked_child.ensures.turn));
    }

pub returns : goal.returns
returns c =
    subst (ArePastMembers (bare c.args.tree.now.tree) c.args.id) (sym c.from_vec.ensures)
    (record {
      order =
          record {
            numbers = c.loop-number.invariant.numbers ∙ take_all c.loop-number.number-index c.as_slice-number-items.result.now (omega arith) ∙ c.as_slice-number-items.ensures ∙ c.in_ok-numbers.ensures.value;
            children = c.loop-number.invariant.children;
          };
      told = c.loop-number.invariant.told;
    })

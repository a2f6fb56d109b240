-- `of` takes the box apart by `into_raw_with_allocator`, and the parts own what it owned.
use mathlib.Core.Path.{◌≡◌, refl, ap, ◌∙◌}
use mathlib.Core.List.{List, [], ◌∷◌, ◌++◌}
use mir.Syntax.{Fn, Args, Dict, a_type, dcons, dnil}
use mir.MapTy.{inst_fn}
use mir.Raw.{raw as bare}
use mir.Val.{Val, vstruct, of_list}
use base.Logic.{id⊢, never, fst∗}
use base.Fml.{ftrue, fsep, flft}
use contract.BorrowLft.{◌⊑◌}
use contract.Monad.{fact}
use contract.Running.{tables}
use prog.Wp.{WpFn}
use types.Logic.{sem}
use types.Kit.{Item, ‵, raw, prop, ◌⊛◌, some, later, ◌$◌, ◌∵◌, !, qed, move, drop, use1, join, regoal, split, split3, pick, rewrite, fsplit, fjoin, fpick, feq_l, suffices, await, done}
use types.Part.{whole, sub, agg}
use types.Run.{stop, fld, no_more, and_then, of_opd, returns, enter}
use types.ByLocal.{alloc_all, pass_all, free_all, look_at, get, get_in, sets, lands_as}
use denote.RattleType.{RattleType}
use denote.Exit.{no}
use denote.Param.{bounded}
use denote.RawPtr.{Ptr, RawPtr, block_ptr, null_ptr, ptr_val, in_a_block}
use denote.Signature.{plain}
use denote.Steps.{heard, nothing, only}
use denote.Struct.Tuple.{Tuple}
use denote.Triple.Call.{calls_at}
use denote.Triple.Clauses.{Ended}
use denote.Triple.Spec.{triple_of}
use denote.Triple.Table.{framed}
use denote.Triple.Walked.{says, Stays, stay_dropped, walk_of, ends_at}
use Rattle.std.proofs.raw_atomic.Walks.{proved_at}
use Rattle.core.proofs.alloc.Calls.{token, handle_tells, Goes-blank}
use Rattle.std_alloc.specs.Box.Ownership.{box_owns}
use Rattle.std_alloc.proofs.BoxSteps.Form.{Bx, D, τ, R, P, B, word, box_typed}
use Rattle.std_alloc.proofs.BoxSteps.Steps.{box_out, box_in}
use Rattle.std_alloc.specs.contracts.boxed.Box.into_raw_with_allocator as Raw
use Rattle.std_alloc.proofs.boxed.Box.into_raw_with_allocator.Met as raw
use Rattle.gridlay_c.specs.contracts.parts.Parts as Parts
use Rattle.gridlay_c.specs.contracts.parts.Parts.of as F
use Rattle.gridlay_c.specs.contracts.parts.Parts.of.Key.{name}
use Rattle.gridlay_c.proofs.parts.Parts.of.Statement.{statement}
use Rattle.gridlay_c.proofs.parts.Parts.of.Code as code

module _ (E : Bx) (dx : Dict) where
  abbrev args : Args
  args = bounded (a_type ∷ a_type ∷ []) (E.row, (E.al.row, tt)) (dcons E.al.d (dcons E.al.drops (dcons dx dnil)))

  abbrev fn : Fn
  fn = inst_fn args code.function

  abbrev ended : Ended
  ended = F.ended E.row E.al.row E.al.g E.al.d E.al.drops dx

  abbrev stayed : Stays ended.signature.params ended.kept
  stayed = (stay_dropped (plain (λ _. B E)) no, tt)

abbrev To : Bx → RattleType
To E = Parts.the_row (R E) (P E) E.al.g

pub of_spec : {M : Type 1} → statement M
of_spec 𝓤 𝓛 𝓜 𝓡 wired X Z LX LZ g d dd dx allocator md glue =
    let E : Bx = record { row = X; laws = LX; al = record { row = Z; laws = LZ; g = g; d = d; drops = dd } } in
    let T = ended E dx in let hs = stayed E dx in let f = fn E dx in
    let c = F.clauses X Z g d dd dx 𝓛 𝓜.mem 𝓡.returns in let W = walk_of 𝓛 T hs c in
    let 𝓣 = tables 𝓤 𝓛.H 𝓜 𝓡 𝓡.env in
    let Called = triple_of 𝓛 (Raw.signature X Z g d dd dx) (Raw.spec X Z g d dd dx 𝓛 𝓜.mem 𝓡.returns) in
    let met = raw.met 𝓤 𝓛 𝓜 𝓡 (code.calls-std_alloc::boxed::Box::into_raw_with_allocator 𝓡.env wired) X Z LX LZ g d dd dx allocator md glue in
    proved_at 𝓛 T hs c 𝓜 𝓡 (Goes-blank 𝓛 2 (plain (λ _. B E)) no (λ κs x w. tt), tt)
    (name (args E dx)) f (code.unfolded 𝓤 𝓛.H 𝓜 𝓡 wired (X, (Z, tt)) d dd dx) (λ y are.
    let κs = y.0.0 in let qs = y.0.1 in let box = y.0.3.0 in let a = box.alloc in let vs = y.0.4.0 in
    let tokens : Item 𝓤 = ‵ (flft κs.0 qs.0) ⊛ ‵ (flft κs.1.0 qs.1.0) ⊛ ‵ ftrue in
    let alive : Item 𝓤 = raw (fact 𝓤 (κs.0 ⊑ X.lives)) ⊛ raw (fact 𝓤 (κs.1.0 ⊑ Z.lives)) ⊛ ‵ ftrue in
    qed 𝓛 ((tokens ⊛ ‵ (fsep ((B E).own_val box vs) ftrue)) ∷ alive ∷ []) ∵ split ! $ move ! (1 ∷ []) $ fsplit ! $
    box_out E ! box vs (λ b o hv at_b word_is fits. box_in E ! box b o box.value at_b refl $
    let w = word E hv b o in let typed = box_typed E hv b o fits in
    regoal ! (λ (us : List Val). prop (WpFn 𝓤 𝓛.H 𝓣.C 𝓣.Λ f (us ++ []) (W.post y))) word_is refl $
    enter ! _ _ _ _ _ $ alloc_all ! (λ l. pass_all ! refl (typed, tt) $
    sets ! (of_opd ! (get ! refl)) refl typed $
    -- the call: the tokens and the box go, and come back as a pointer and the allocator
    let z : Called.Ghost = ((κs, qs, tt, (box, tt), (w ∷ [], tt)), tt) in
    fjoin ! $ move ! (1 ∷ 0 ∷ []) $ join ! $ join ! $ use1 𝓛 (raw (Called.pre z)) (id⊢ 𝓤 _) $
    calls_at ! (framed 𝓤 𝓛.H 𝓜 𝓣) Called met z (and_then ! (get ! refl) (no_more !)) (λ u.
    let Pair = Tuple (RawPtr ∷ P E ∷ []) in let back : Pair.Denot → Item 𝓤 = λ r. (tokens ⊛ ‵ (Pair.own_val r (u ∷ []))) in
    use1 𝓛 (later (some (λ (r : Pair.Denot). back r ⊛ some (λ (_ : (Unit {0} × (Unit {0} × Unit {0})) × Unit {0}).
    ‵ (fsep (fsep ftrue (fsep ftrue ftrue)) ftrue) ⊛ (raw (fact 𝓤 (r.1 ≡ a)) ⊛ ‵ (box_owns (token E.al a) (R E) r.0 box.value)))))) (id⊢ 𝓤 _) $
    await ! tt $ pick ! (λ r. split ! $ move ! (1 ∷ []) $ pick ! (λ _. split3 ! $ drop ! $ heard ! (r.1 ≡ a) (λ same.
    -- the pointer is to a block; the pair is one machine value, of a pointer and the allocator's
    in_a_block ! r.0 (λ p. box_owns (token E.al a) (R E) p box.value) (fst∗ 𝓤 (never 𝓤) (sem 𝓛 (token E.al a (bare (τ E)) null_ptr))) (λ b' o' at_b'.
    move ! (1 ∷ []) $ split ! $ move ! (1 ∷ []) $ fpick ! (λ vss. fsplit ! $ feq_l ! (λ u_is. fsplit ! $ feq_l ! (λ p_is. fsplit ! $
    rewrite ! 0 (λ (s : Z.Denot). ‵ (Z.own_val s vss.1.0)) same refl $
    handle_tells E.al ! a vss.1.0 (λ hw hw_is fits'.
    let boxed : D E = record { ptr = block_ptr b' o'; alloc = a; value = box.value } in
    let made : (To E).Denot = record { ptr = block_ptr b' o'; alloc = a; value = box.value } in
    let w' = word E hw b' o' in let typed' = box_typed E hw b' o' fits' in
    let is_w : u ∷ [] ≡ w' ∷ [] = u_is ∙ (λ j. vstruct (of_list ((p_is ∙ ap (λ (p : Ptr). ptr_val p ∷ []) at_b') j ++ (hw_is j ++ []))) ∷ []) in
    lands_as ! (ap only is_w) refl typed' $
    sets ! (of_opd ! (get_in ! (fld ! refl (stop !)) (sub ! 0 refl (whole !)))) refl (tt, tt) $
    sets ! (of_opd ! (get_in ! (fld ! refl (stop !)) (sub ! 1 refl (whole !)))) refl fits' $
    sets ! (of_opd ! (get ! refl)) refl fits' $
    sets ! (agg ! (and_then ! (get ! refl) (and_then ! (get ! refl) (no_more !)))) refl typed' $
    returns ! (look_at ! 0 refl) $ free_all ! refl $
    -- [the handle; true; the tokens; the value with its token]
    move ! (3 ∷ []) $ fsplit ! $ box_in E ! boxed b' o' box.value refl refl $
    use1 𝓛 (‵ ((To E).own_val made (w' ∷ []))) (id⊢ 𝓤 _) $ move ! (1 ∷ []) $ drop ! $
    suffices ! _ (ends_at 𝓛 T hs c y w' made ((tt, (tt, tt)), tt) (tt, tt)) $ says ! refl $
    nothing ! $ nothing ! $ fjoin ! $ join ! $ move ! (1 ∷ 0 ∷ []) $ join ! $ done !))))))))))))

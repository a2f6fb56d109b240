-- `into_parts` moves two fields, and what they own goes with them. The handle holds a document, as is required.
use mathlib.Core.Path.{refl, sym}
use mathlib.Core.List.{List, [], ◌∷◌, ◌++◌}
use seplogic.Ra.Ura.{Ura}
use mir.Val.{Val}
use base.Logic.{ent, id⊢}
use base.Fml.{ftrue, fsep}
use prog.Model.{Model}
use prog.Wp.{WpFn}
use types.Logic.{Logic}
use contract.Monad.{fact}
use contract.Running.{Running, tables}
use types.Kit.{‵, raw, prop, ◌⊛◌, ◌$◌, ◌∵◌, !, qed, move, drop, use1, join, regoal, split, fsplit, fjoin, suffices, done}
use types.Part.{whole, sub, agg}
use types.Run.{stop, fld, no_more, and_then, of_opd, returns, enter}
use types.ByLocal.{alloc_all, pass_all, free_all, look_at, get, get_in, sets}
use borrow.Author.Tests.{clash}
use denote.Exit.{yes}
use denote.Signature.{type_at}
use denote.Steps.{nothing, heard}
use denote.Triple.Clauses.{Clauses}
use denote.Triple.Walked.{says, Stays, stay_dropped, walk_of, ends_at, Goes-dropped}
use Rattle.std.proofs.raw_atomic.Walks.{proved_at}
use Rattle.std.specs.Prelude.{Option, Some, None}
use Rattle.std.specs.Option.{IsSome}
use Rattle.std_alloc.proofs.BoxSteps.Form.{D, X, B, word, box_typed}
use Rattle.std_alloc.proofs.BoxSteps.Steps.{box_out, box_in}
use Rattle.gridlay_c.specs.Owned.{handle_owns}
use Rattle.gridlay_c.proofs.AsBox.{E, of-handle}
use Rattle.gridlay_c.specs.contracts.handle.Handle.into_parts as F
use Rattle.gridlay_c.specs.contracts.handle.Handle.into_parts.Key.{name}
use Rattle.gridlay_c.proofs.handle.Handle.into_parts.Statement.{statement}
use Rattle.gridlay_c.proofs.handle.Handle.into_parts.Code as code

abbrev stayed : Stays (F.ended).signature.params (F.ended).kept
stayed = (stay_dropped of-handle yes, tt)

module _ {M : Type 1} (𝓤 : Ura M) (𝓛 : Logic 𝓤) (𝓜 : Model 𝓤 𝓛.H) (𝓡 : Running 𝓤 𝓛.H 𝓜) where
  abbrev c : Clauses 𝓤 F.ended
  c = F.clauses 𝓛 𝓜.mem 𝓡.returns

  abbrev Bound : Type 0
  Bound = (walk_of 𝓛 F.ended stayed c).Ghost

  -- the same call of a handle that holds `o`
  abbrev holding : Bound → Option (X E) → Bound
  holding y o = ((y.0.0, y.0.1, y.0.2, (record { at = y.0.3.0.at; alloc = y.0.3.0.alloc; held = o }, tt), y.0.4), y.1)

  abbrev Runs : Bound → List Val → Type 1
  Runs y us =
      let 𝓣 = tables 𝓤 𝓛.H 𝓜 𝓡 𝓡.env in let W = walk_of 𝓛 F.ended stayed c in
      ent 𝓤 (W.pre y) (WpFn 𝓤 𝓛.H 𝓣.C 𝓣.Λ code.function us (W.post y))

  walk : (y : Bound) (o : Option (X E)) → Runs (holding y o) (y.0.4.0 ++ [])
  unfolding handle_owns
  walk y None =
      let own = (type_at of-handle tt).own_val (holding y None).0.3.0 y.0.4.0 in
      qed 𝓛 ((‵ ftrue ⊛ ‵ (fsep own ftrue)) ∷ raw (fact 𝓤 (IsSome {T = X E} None)) ∷ []) ∵
      move ! (1 ∷ []) $ heard ! (IsSome {T = X E} None) (λ is. elim (clash is) [ ])
  walk y (Some x) =
      let 𝓣 = tables 𝓤 𝓛.H 𝓜 𝓡 𝓡.env in let W = walk_of 𝓛 F.ended stayed c in
      let z = holding y (Some x) in let vs = y.0.4.0 in
      let box : D E = record { ptr = y.0.3.0.at; alloc = y.0.3.0.alloc; value = x } in
      let To = type_at (F.signature).result tt in
      let made : To.Denot = record { ptr = box.ptr; alloc = box.alloc; value = x } in
      qed 𝓛 ((‵ ftrue ⊛ ‵ (fsep ((B E).own_val box vs) ftrue)) ∷ raw (fact 𝓤 (IsSome (Some x))) ∷ []) ∵
      split ! $ drop ! $ fsplit ! $
      -- what the handle owns is what the parts own, at the same machine value
      box_out E ! box vs (λ b o hv at_b word_is fits. box_in E ! box b o x at_b refl $
      let w = word E hv b o in let typed = box_typed E hv b o fits in
      use1 𝓛 (‵ (To.own_val made (w ∷ []))) (id⊢ 𝓤 _) $ move ! (1 ∷ 2 ∷ []) $ drop ! $ drop ! $
      regoal ! (λ (us : List Val). prop (WpFn 𝓤 𝓛.H 𝓣.C 𝓣.Λ code.function (us ++ []) (W.post z))) word_is refl $
      enter ! _ _ _ _ _ $ alloc_all ! (λ l. pass_all ! refl (typed, tt) $
      sets ! (of_opd ! (get_in ! (fld ! refl (stop !)) (sub ! 0 refl (whole !)))) refl (tt, tt) $
      sets ! (of_opd ! (get_in ! (fld ! refl (stop !)) (sub ! 1 refl (whole !)))) refl fits $
      sets ! (of_opd ! (get ! refl)) refl (tt, tt) $
      sets ! (agg ! (and_then ! (get ! refl) (and_then ! (get ! refl) (no_more !)))) refl typed $
      returns ! (look_at ! 0 refl) $ free_all ! refl $
      suffices ! _ (ends_at 𝓛 F.ended stayed c z w made (tt, tt) (tt, tt)) $ says ! refl $
      nothing ! $ nothing ! $ fjoin ! $ join ! $ nothing ! $ join ! $ done !))

pub into_parts_spec : {M : Type 1} → statement M
into_parts_spec 𝓤 𝓛 𝓜 𝓡 wired =
    proved_at 𝓛 F.ended stayed (c 𝓤 𝓛 𝓜 𝓡) 𝓜 𝓡 (Goes-dropped 𝓛 0 of-handle yes (λ κs x f. refl), tt)
    name code.function (code.unfolded 𝓤 𝓛.H 𝓜 𝓡 wired) (λ y are. walk 𝓤 𝓛 𝓜 𝓡 y y.0.3.0.held)

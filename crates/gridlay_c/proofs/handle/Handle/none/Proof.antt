-- `none` writes a null pointer beside the allocator. A handle with nothing owns no more than the allocator.
use mathlib.Core.Path.{refl, sym}
use mathlib.Core.List.{List, [], ◌∷◌, ◌++◌}
use mir.Val.{Val, vnull, vstruct, of_list}
use base.Logic.{emp, id⊢}
use base.Fml.{ftrue, fsep}
use prog.Wp.{WpFn}
use contract.Running.{tables}
use types.Kit.{‵, raw, prop, ◌⊛◌, ◌$◌, ◌∵◌, !, qed, move, drop, use1, join, regoal, split, fsplit, fjoin, fpack, feq_i, suffices, done}
use types.Part.{agg}
use types.Run.{lit, no_more, and_then, returns, enter}
use types.ByLocal.{alloc_all, pass_all, free_all, look_at, get, sets}
use denote.Exit.{yes}
use denote.RattleType.{Valss}
use denote.RawPtr.{RawPtr, null_ptr, ptr_val}
use denote.Signature.{type_at}
use denote.Steps.{nothing}
use denote.Struct.Struct.{within}
use denote.Struct.Owning.{shape, to}
use denote.Triple.Walked.{says, Stays, stay_dropped, walk_of, ends_at, Goes-dropped}
use Rattle.std.proofs.raw_atomic.Walks.{proved_at}
use Rattle.std.specs.Prelude.{None}
use Rattle.std.proofs.Common.{lit<}
use Rattle.core.proofs.alloc.Calls.{handle_tells}
use Rattle.std_alloc.proofs.BoxSteps.Form.{P}
use Rattle.std_alloc.proofs.ResultValues.{and_tt}
use Rattle.gridlay_c.specs.Owned.{handle_owns}
use Rattle.gridlay_c.specs.contracts.handle.Handle as Handle
use Rattle.gridlay_c.proofs.AsBox.{E, of-alloc}
use Rattle.gridlay_c.specs.contracts.handle.Handle.none as F
use Rattle.gridlay_c.specs.contracts.handle.Handle.none.Key.{name}
use Rattle.gridlay_c.proofs.handle.Handle.none.Statement.{statement}
use Rattle.gridlay_c.proofs.handle.Handle.none.Code as code

abbrev stayed : Stays (F.ended).signature.params (F.ended).kept
stayed = (stay_dropped of-alloc yes, tt)

pub none_spec : {M : Type 1} → statement M
unfolding handle_owns
none_spec 𝓤 𝓛 𝓜 𝓡 wired =
    let c = F.clauses 𝓛 𝓜.mem 𝓡.returns in let W = walk_of 𝓛 F.ended stayed c in
    let 𝓣 = tables 𝓤 𝓛.H 𝓜 𝓡 𝓡.env in
    proved_at 𝓛 F.ended stayed c 𝓜 𝓡 (Goes-dropped 𝓛 0 of-alloc yes (λ κs x f. refl), tt)
    name code.function (code.unfolded 𝓤 𝓛.H 𝓜 𝓡 wired) (λ y are.
    let alloc = y.0.3.0 in let vs = y.0.4.0 in
    let To = type_at (F.signature).result tt in
    let made : To.Denot = record { at = null_ptr; alloc = alloc; held = None } in
    qed 𝓛 ((‵ ftrue ⊛ ‵ (fsep ((P E).own_val alloc vs) ftrue)) ∷ raw (emp 𝓤) ∷ []) ∵
    split ! $ drop ! $ fsplit ! $
    handle_tells E.al ! alloc vs (λ hv hv_is fits. move ! (1 ∷ 2 ∷ []) $ drop ! $ drop ! $
    let w = vstruct (of_list (vnull ∷ hv ∷ [])) in
    regoal ! (λ (us : List Val). prop (WpFn 𝓤 𝓛.H 𝓣.C 𝓣.Λ code.function (us ++ []) (W.post y))) hv_is refl $
    enter ! _ _ _ _ _ $ alloc_all ! (λ l. pass_all ! refl (fits, tt) $
    sets ! (agg ! (and_then ! (lit ! tt) (and_then ! (get ! refl) (no_more !)))) refl
    (and_tt _ fits.0, (record { fits = lit< tt }, (fits.1, tt))) $
    returns ! (look_at ! 0 refl) $ free_all ! refl $
    -- the handle: its two fields at the machine value, and nothing behind the pointer
    nothing ! $ nothing ! $ move ! (2 ∷ 0 ∷ []) $ fjoin ! $
    feq_i ! (List Val) (vnull ∷ []) (ptr_val null_ptr ∷ []) refl $ fjoin ! $
    feq_i ! (List Val) (w ∷ []) (w ∷ []) refl $ fjoin ! $
    fpack ! (Valss (RawPtr ∷ P E ∷ [])) (within (shape Handle.the_type) (to Handle.the_type made) (w ∷ []))
    (vnull ∷ [], (hv ∷ [], tt)) $ fjoin ! $ use1 𝓛 (‵ (To.own_val made (w ∷ []))) (id⊢ 𝓤 _) $
    suffices ! _ (ends_at 𝓛 F.ended stayed c y w made (tt, tt) (tt, tt)) $ says ! refl $
    nothing ! $ nothing ! $ fjoin ! $ join ! $ nothing ! $ join ! $ done !)))

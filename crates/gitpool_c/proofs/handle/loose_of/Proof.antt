-- `loose_of` takes what a handle owns.
use Rattle.std.proofs.Common.{◌≡◌, List, [], ◌∷◌, ◌++◌, refl, sym, subst}
use mir.Val.{Val, vptr}
use base.Logic.{SProp, ent, emp, id⊢}
use base.Fml.{ftrue}
use prog.Wp.{WpFn}
use types.Kit.{‵, raw, ◌⊛◌, ◌$◌, ◌∵◌, !, qed, by, move, keep, split, fsplit, fjoin, suffices, use0}
use types.Run.{stop, fld, of_opd, no_more, and_then, returns, enter}
use types.ByLocal.{alloc_all, pass_all, free_all, look_at, get, get_in, sets}
use types.Part.{agg, sub, whole}
use contract.Monad.{fact, fact_i}
use contract.Running.{tables}
use denote.Exit.{yes}
use denote.RattleType.{owns}
use denote.Signature.{types_at, plain}
use denote.RawPtr.{block_ptr}
use denote.Steps.{nothing, heard}
use denote.Triple.Walked.{Stays, stay_dropped, walk_of}
use Rattle.std.specs.Prelude.{Some, IsSome}
use Rattle.std.proofs.alloc.Calls.{Goes-blank}
use Rattle.std.proofs.raw_atomic.Walks.{proved_at, leaves}
use Rattle.std.specs.contracts.alloc.Global as heap
use Rattle.std.proofs.alloc.Global.TheLaws as heap_laws
use Rattle.std.specs.contracts.impls.GlobalAllocator.TheImpl.{ghosts}
use Rattle.gitpool_c.specs.contracts.kept.Kept as kept
use Rattle.gitpool_c.specs.contracts.handle.Handle as handle
use Rattle.gitpool_c.specs.declared.kept.Kept.{Kept}
use Rattle.gitpool_c.proofs.Values.{both, loose_good, loose_in}
use Rattle.gitpool_c.proofs.Handles.{word, some_of, handle_out}
use Rattle.gitpool_c.specs.contracts.handle.loose_of.{ended, clauses}
use Rattle.gitpool_c.specs.contracts.handle.loose_of.Key.{name as #self}
use Rattle.gitpool_c.proofs.handle.loose_of.Statement.{statement}
use Rattle.gitpool_c.proofs.handle.loose_of.Code as code
use Rattle.std.proofs.alloc.Calls.{Al, handle_tells}
use mir.Syntax.{impl, tnil, dnil}

abbrev al : Al
al = record { row = heap.the_row; laws = heap_laws.the_row_laws; g = ghosts; d = impl [] tnil dnil; drops = impl [] tnil dnil }

pub loose_of_spec : {M : Type 1} → statement M
loose_of_spec 𝓤 𝓛 𝓜 𝓡 wired =
    let H = 𝓛.H in let 𝓣 = tables 𝓤 H 𝓜 𝓡 𝓡.env in let En = ended in let c = clauses 𝓛 𝓜.mem 𝓡.returns in let fn = code.function in
    let hs : Stays En.signature.params En.kept = (stay_dropped (plain (λ _. heap.the_row)) yes, (stay_dropped (plain (λ _. handle.the_row)) yes, tt)) in
    proved_at 𝓛 En hs c 𝓜 𝓡 (Goes-blank 𝓛 0 (plain (λ _. heap.the_row)) yes (λ κs x f. tt), (Goes-blank 𝓛 0 (plain (λ _. handle.the_row)) yes (λ κs x f. tt), tt)) #self fn (code.unfolded 𝓤 H 𝓜 𝓡 wired) (λ z are.
    let κs = z.0.0 in let a = z.0.3.0 in let v = z.0.3.1.0 in let Post : Val → SProp 𝓤 = (walk_of 𝓛 En hs c).post z in let Run : List Val → SProp 𝓤 = λ ws. WpFn 𝓤 H 𝓣.C 𝓣.Λ fn ws Post in
    qed 𝓛 ((‵ ftrue ⊛ ‵ (owns (types_at En.signature.params κs) z.0.3 z.0.4)) ∷ raw ((c κs z.0.3).requires z.1) ∷ []) ∵ move ! (1 ∷ []) $ heard ! (IsSome v.kept) (λ is. split ! $ move ! (1 ∷ []) $ fsplit ! $ move ! (1 ∷ []) $ fsplit ! $
    let found = some_of v.kept is in let x : Kept = found.0 in
    handle_out ! v x found.1 z.0.4.1.0 (λ b o ws. move ! (2 ∷ []) $ handle_tells al ! a z.0.4.0 (λ h eh fits.
    let typed = loose_good kept.the_row heap.the_row heap_laws.the_row_laws ghosts b o h fits in
    let both_ws : (z.0.4.0 ++ (z.0.4.1.0 ++ [])) ≡ (h ∷ word (vptr b o) ∷ []) = λ i. eh i ++ (ws i ++ []) in
    suffices ! (Run (h ∷ word (vptr b o) ∷ [])) (subst (λ (us : List Val). ent 𝓤 (Run (h ∷ word (vptr b o) ∷ [])) (Run us)) (sym both_ws) (id⊢ 𝓤 (Run (h ∷ word (vptr b o) ∷ [])))) $
    enter ! 𝓣.C 𝓣.Λ fn (h ∷ word (vptr b o) ∷ []) Post $ alloc_all ! (λ l. pass_all ! refl (fits, ((tt, (tt, tt)), tt)) $
    sets ! (of_opd ! (get_in ! (fld ! refl (stop !)) (sub ! 0 refl (whole !)))) refl (tt, tt) $ sets ! (of_opd ! (get ! refl)) refl (tt, tt) $
    sets ! (agg ! (and_then ! (get ! refl) (and_then ! (get ! refl) (no_more !)))) refl typed $ move ! (1 ∷ 0 ∷ []) $ loose_in kept.the_row heap.the_row heap_laws.the_row_laws ghosts ! b o h a x $
    use0 𝓛 (raw (fact 𝓤 (v.kept ≡ Some x))) (fact_i 𝓤 (v.kept ≡ Some x) (emp 𝓤) found.1) $ nothing ! $ nothing ! $ fjoin ! $ nothing ! $ fjoin ! $
    returns ! (look_at ! 0 refl) $ free_all ! refl $ keep ! (3 ∷ 0 ∷ 2 ∷ 1 ∷ []) $ by ! (leaves 𝓛 En hs c z (both (vptr b o) h) (record { at = block_ptr b o; alloc = a; value = x }) (tt, (tt, tt)) (tt, (tt, tt))))))))

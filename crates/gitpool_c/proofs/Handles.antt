-- The machine values of a `Handle`. Assumes `Logic`.
use Rattle.std.proofs.Common.{◌≡◌, ℕ, List, [], ◌∷◌, ◌++◌, refl, sym, subst}
use lib.Dec.{T}
use seplogic.Ra.Ura.{Ura}
use mir.Raw.{raw as bare}
use mir.Val.{Val, vptr, vstruct, vcons, vnil, of_list}
use base.Logic.{never, fst∗}
use types.Logic.{Logic, sem}
use types.Kit.{Item, Goal, Seq, Step, step, ‵, ◌$◌, drop, fsplit, fjoin, fpick, fpack, rewrite, feq_i, feq_l}
use denote.RattleType.{Valss}
use denote.Builtin.{RawPtr}
use denote.Memory.{lone}
use denote.RawPtr.{Ptr, block_ptr, null_ptr, ptr_val, in_a_block}
use denote.Steps.{nothing}
use denote.Struct.Struct.{within}
use denote.Struct.Owning.{shape}
use Rattle.std.specs.Prelude.{Option, Some, None, IsSome}
use Rattle.std.specs.Box.Ownership.{box_owns}
use Rattle.gitpool_c.specs.Held.{holds, token}
use Rattle.gitpool_c.specs.declared.kept.Kept.{Kept}
use Rattle.gitpool_c.specs.contracts.kept.Kept as kept
use Rattle.gitpool_c.specs.contracts.handle.Handle as handle

abbrev pub word : Val → Val
word v = vstruct (vcons v vnil)

pub some_of : (o : Option Kept) → IsSome o → (x : Kept) × (o ≡ Some x)
some_of (Some x) t = (x, refl)
some_of None t = absurd (subst T (sym t) tt)

module _ {M : Type 1} {𝓤 : Ura M} {𝓛 : Logic 𝓤} {K : Type 0} {Γ : List (Item 𝓤)} {G : Goal 𝓤 𝓛.H} where
  pub handle_out : K → (d : handle.the_row.Denot) (x : Kept) → d.kept ≡ Some x → (vs : List Val)
      → ((b o : ℕ) → vs ≡ word (vptr b o) ∷ [] → Seq K 𝓛 (‵ (box_owns token kept.the_row (block_ptr b o) x) ∷ Γ) G)
      → Seq K 𝓛 (‵ (handle.the_row.own_val d vs) ∷ Γ) G
  handle_out t d x is vs k =
      fsplit t $ fpick t (λ vss. fsplit t $ feq_l t (λ ev. fsplit t $ feq_l t (λ ep. drop t $
      rewrite t 0 (λ (s : Option Kept). ‵ (holds kept.the_row d.at s)) is refl $
      in_a_block t d.at (λ p. box_owns token kept.the_row p x) (fst∗ 𝓤 (never 𝓤) (sem 𝓛 (token (bare (lone kept.the_row.mir)) null_ptr))) (λ b o e. k b o
      (subst (λ (p : Ptr). vs ≡ word (ptr_val p) ∷ []) e
      (subst (λ (ps : List Val). vs ≡ vstruct (of_list (ps ++ [])) ∷ []) ep ev))))))

  pub handle_in : K → (b o : ℕ) (x : Kept)
      → Step K 𝓛 (‵ (handle.the_row.own_val (record { at = block_ptr b o; kept = Some x }) (word (vptr b o) ∷ [])) ∷ Γ) G (‵ (box_owns token kept.the_row (block_ptr b o) x) ∷ Γ) G
  handle_in t b o x = step (λ s. let v : Val = word (vptr b o) in
      nothing t $ feq_i t (List Val) (vptr b o ∷ []) (vptr b o ∷ []) refl $ fjoin t $ feq_i t (List Val) (v ∷ []) (v ∷ []) refl $ fjoin t $
      fpack t (Valss (RawPtr ∷ [])) (within (shape handle.the_type) (block_ptr b o, tt) (v ∷ [])) (vptr b o ∷ [], tt) $ fjoin t $ s)

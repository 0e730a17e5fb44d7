-- The pack that lines ask for, by the calls that write it.
use Rattle.std.proofs.Common.{arith, length, ◌≡◌, ◌∙◌, inl, inr, ℕ, ◌+◌, Bool, cond, true, false, refl, sym, ap, ap₂, subst, List, [], ◌∷◌, ◌++◌, append_assoc, append-nil, map, take, slice_get, Some, Result, Err}
use Rattle.std.proofs.lemmas.List.{map-append}
use Rattle.byte_devices.specs.Device.{Device}
use Rattle.git_model.specs.Content.{Content}
use Rattle.std.specs.FinMap as finmap
use Rattle.std.specs.FinMap.{len-empty, len-entries}
use Rattle.std.specs.Ordering.{nat_cmp}
use Rattle.std.specs.Cmp.Lexicographic.{slice_cmp}
use Rattle.git_model.specs.RefStore.{listed_refs, no_refs}
use Rattle.pack_objects.specs.Packs.{WritesPack}
use Rattle.pack_objects.specs.declared.fault.PackFault.{PackFault}
use Rattle.pack_objects.specs.declared.fault.PackFault.TheVariants as fault
use Rattle.tenant_service.specs.Packing.{pack_for}
use Rattle.tenant_service.specs.HeldObjects.{last_held}
use Rattle.tenant_service.specs.TenantState.{Idle, TenantState, TenantStates, empty_repository, held_of}
use Rattle.tenant_tables.proofs.Joined.{take-one}
use Rattle.gitpool.specs.Packs.{AnswersText, pack_told, wanted_refs, wants_of}
use Rattle.gitpool.specs.RevisionReading.{Names, TakesText}
use Rattle.gitpool.specs.Revisions.{are_revisions, haves_in, wants_in}

-- ---- the names that refs hold

abbrev pub held_by : List ℕ × List ℕ → List ℕ
held_by entry = entry.1

pub one_target : (old mid new : Names) (entries : List (List ℕ × List ℕ)) (i : ℕ) (entry : List ℕ × List ℕ) → Some entry ≡ slice_get entries i
    → mid ≡ old ++ map held_by (take i entries) → new ≡ mid ++ entry.1 ∷ [] → new ≡ old ++ map held_by (take (i + 1) entries)
one_target old mid new entries i entry at before grown =
    grown ∙ ap (λ (front : Names). front ++ entry.1 ∷ []) before ∙ append_assoc old (map held_by (take i entries)) (entry.1 ∷ [])
    ∙ ap (λ (later : Names). old ++ later)
    (sym (map-append held_by (take i entries) (entry ∷ [])) ∙ ap (map held_by) (sym (take-one i entries entry (sym at))))

of_no_length : {X : Type 0} (xs : List X) → length xs ≡ 0 → xs ≡ []
of_no_length [] e = refl
of_no_length (x ∷ xs) e = absurd (omega (arith, e))

no_listed : listed_refs no_refs ≡ []
no_listed = of_no_length (listed_refs no_refs) (sym (len-entries (finmap.empty {R = slice_cmp nat_cmp})) ∙ len-empty (slice_cmp nat_cmp) (List ℕ))

-- a tenant that was never seen has no refs
pub nobody_wants : (old : Names) (all : Bool) (tenant : List ℕ) (states : TenantStates) → held_of tenant states ≡ Idle empty_repository
    → old ≡ old ++ wanted_refs all tenant states
nobody_wants old false tenant states is = sym (append-nil old)
nobody_wants old true tenant states is =
    sym (append-nil old) ∙ ap (λ (entries : List (List ℕ × List ℕ)). old ++ map held_by entries) (sym no_listed)
    ∙ ap (λ (held : TenantState). old ++ map held_by (listed_refs (last_held held).refs)) (sym is)

-- ---- what came of the lines

module _ (digest : List ℕ → List ℕ) (tenant : List ℕ) (all : Bool) (states : TenantStates) (text : List ℕ) where
  -- a line is no revision, or memory ran out
  pub lines_refused : (wants haves wants' haves' : Names) (writer : Device) (e : PackFault) → TakesText text wants haves (Err e) wants' haves'
      → AnswersText digest (pack_told tenant all states text) writer (Err e) writer
  lines_refused wants haves wants' haves' writer fault.UnknownObject bad =
      let told : pack_told tenant all states text ≡ Err fault.UnknownObject =
      ap (λ (b : Bool). cond b (pack_for tenant states (wants_of all tenant states text) (haves_in text)) (Err fault.UnknownObject)) bad in
      inl (subst (λ (t : Result (List Content) PackFault). WritesPack digest t writer (Err fault.UnknownObject) writer) (sym told) (refl, refl))
  lines_refused wants haves wants' haves' writer fault.Limit gone = inr (ap Err gone, refl)
  lines_refused wants haves wants' haves' writer fault.BadTenantName gone = inr (ap Err gone, refl)
  lines_refused wants haves wants' haves' writer fault.Device gone = inr (ap Err gone, refl)
  lines_refused wants haves wants' haves' writer fault.Memory gone = inr (refl, refl)

  -- the pack was written, or refused
  pub lines_answered : (w0 h0 w1 h1 w2 wants haves : Names) (writer writer' : Device) (result : Result Unit PackFault) → w0 ≡ [] → h0 ≡ []
      → are_revisions text ≡ true → w1 ≡ w0 ++ wants_in text → h1 ≡ h0 ++ haves_in text → w2 ≡ w1 ++ wanted_refs all tenant states → wants ≡ w2 → haves ≡ h1
      → WritesPack digest (pack_for tenant states wants haves) writer result writer'
      → AnswersText digest (pack_told tenant all states text) writer result writer'
  lines_answered w0 h0 w1 h1 w2 wants haves writer writer' result wn hn good w h more ws hs wrote =
      let whole : wants ≡ wants_of all tenant states text =
      ws ∙ more ∙ ap (λ (l : Names). l ++ wanted_refs all tenant states) (w ∙ ap (λ (l : Names). l ++ wants_in text) wn) in
      let had : haves ≡ haves_in text = hs ∙ h ∙ ap (λ (l : Names). l ++ haves_in text) hn in
      let asked : pack_for tenant states wants haves ≡ pack_for tenant states (wants_of all tenant states text) (haves_in text) =
      ap₂ (λ (ws hs : Names). pack_for tenant states ws hs) whole had in
      let told : pack_told tenant all states text ≡ pack_for tenant states (wants_of all tenant states text) (haves_in text) =
      ap (λ (b : Bool). cond b (pack_for tenant states (wants_of all tenant states text) (haves_in text)) (Err fault.UnknownObject)) good in
      inl (subst (λ (t : Result (List Content) PackFault). WritesPack digest t writer result writer') (asked ∙ sym told) wrote)

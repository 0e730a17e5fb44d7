-- Copies: their steps in turn, and that no other tenant has anything else after them.
use Rattle.std.proofs.Common.{◌≡◌, ℕ, Bool, true, false, ◌&&◌, ◌==◌, cond, List, [], ◌∷◌, length, Option, Some, None, refl, sym, ap, subst, ◌∙◌}
use Rattle.std.proofs.lemmas.Bool.{eq-eqb, ne_eqb}
use Rattle.std.specs.Ordering.{nat_cmp}
use Rattle.std.specs.Cmp.Lexicographic.{slice_cmp}
use Rattle.std.specs.FinMap as ref_map
use Rattle.std.specs.Map.{lookup}
use Rattle.std.specs.Str.{bytes_eq}
use Rattle.git_model.specs.RefStore.{RefStore, first_head, listed_refs}
use Rattle.content_pool.specs.Pool.{Cells}
use Rattle.tenant_refs.specs.TenantName.{is_tenant_name}
use Rattle.tenant_tables.specs.View.{View}
use Rattle.tenant_tables.specs.Objects.{objects}
use Rattle.tenant_tables.proofs.TableLemmas.{length-objects}
use Rattle.import_session.specs.Session.{repository_in}
use Rattle.service_steps.specs.declared.answer.Answer.{Answer}
use Rattle.service_steps.specs.declared.answer.Answer.TheVariants as answer
use Rattle.service_steps.specs.declared.fault.ServiceFault.{ServiceFault}
use Rattle.service_steps.specs.declared.fault.ServiceFault.TheVariants as fault
use Rattle.service_steps.specs.Faults.{code_of}
use Rattle.service_steps.specs.declared.step.Step.{Step}
use Rattle.service_steps.specs.declared.step.Step.TheVariants as step
use Rattle.tenant_service.specs.Alone.{Restart}
use Rattle.tenant_service.specs.Copying.{has_nothing, held_refusal, copy_refusal, GoesOn, IsExport, IsCopyRun, HasTaken}
use Rattle.tenant_service.specs.Headline.{Response, Run, concerns, call_of, IsIsolated}
use Rattle.tenant_service.specs.StepName.{name_of}
use Rattle.tenant_service.specs.TenantState.{TenantStates, empty_repository, held_of}
use Rattle.tenant_service.specs.declared.tenant.Tenant.{Tenant}
use Rattle.tenant_service.specs.Tenants.{Tenants, holding_in, holdings}
use Rattle.tenant_service.specs.Kept.{may_change}
use Rattle.tenant_service.proofs.AccountLemmas.{held-found, held-missing}
use Rattle.tenant_service.proofs.KeptLemmas.{stays-apart}
use Rattle.tenant_service.proofs.RunLemmas.{apart-back, own-more, own-none}

-- ---- steps in turn

-- a run of steps after one more
pub taken-first : (digest : List ℕ → List ℕ) (before between after : TenantStates) (first : Step × Response) (Is Then : Run → Type 0)
    → ((tenant : List ℕ) → IsIsolated digest tenant (held_of tenant before) (first ∷ []) (held_of tenant between))
    → ((run : Run) → Then run → Is (first ∷ run))
    → HasTaken digest between after Then → HasTaken digest before after Is
taken-first digest before between after first Is Then own is later = record {
  run = first ∷ later.run;
  is = is later.run later.is;
  own = λ tenant. own-more digest tenant (held_of tenant before) (held_of tenant between) (held_of tenant after) (first ∷ []) later.run (own tenant) (later.own tenant);
}

-- a run of one step
pub taken-one : (digest : List ℕ → List ℕ) (before after : TenantStates) (first : Step × Response) (Is : Run → Type 0)
    → ((tenant : List ℕ) → IsIsolated digest tenant (held_of tenant before) (first ∷ []) (held_of tenant after))
    → Is (first ∷ []) → HasTaken digest before after Is
taken-one digest before after first Is own is = record { run = first ∷ []; is = is; own = own }

-- a run of two steps
pub taken-two : (digest : List ℕ → List ℕ) (before between after : TenantStates) (first second : Step × Response) (Is : Run → Type 0)
    → ((tenant : List ℕ) → IsIsolated digest tenant (held_of tenant before) (first ∷ []) (held_of tenant between))
    → ((tenant : List ℕ) → IsIsolated digest tenant (held_of tenant between) (second ∷ []) (held_of tenant after))
    → Is (first ∷ second ∷ []) → HasTaken digest before after Is
taken-two digest before between after first second Is own then is = record {
  run = first ∷ second ∷ [];
  is = is;
  own = λ tenant. own-more digest tenant (held_of tenant before) (held_of tenant between) (held_of tenant after) (first ∷ []) (second ∷ []) (own tenant) (then tenant);
}

-- ---- what the steps leave of other tenants

-- a call of one tenant concerns no other
named-apart : (b : Bool) (given tenant to : List ℕ) → given ≡ to → bytes_eq tenant to ≡ false → (b && bytes_eq given tenant) ≡ false
named-apart false given tenant to named apart = refl
named-apart true given tenant to named apart = ap (λ (n : List ℕ). bytes_eq n tenant) named ∙ apart-back tenant to apart

pub call-apart : (tenant to : List ℕ) (s : Step) → name_of s ≡ to → bytes_eq tenant to ≡ false → (call_of s ≡ Restart → ⊥) → concerns tenant s ≡ false
unfolding concerns
call-apart tenant to (step.Open given) named apart other = named-apart (is_tenant_name given.now) given.now tenant to named apart
call-apart tenant to (step.Feed given bytes) named apart other = named-apart (is_tenant_name given.now) given.now tenant to named apart
call-apart tenant to (step.End given) named apart other = named-apart (is_tenant_name given.now) given.now tenant to named apart
call-apart tenant to (step.Ask given query) named apart other = named-apart (is_tenant_name given.now) given.now tenant to named apart
call-apart tenant to step.Restart named apart other = absurd (other refl)

-- so it does not change it
pub unchanged : (tenant to : List ℕ) (s : Step) → name_of s ≡ to → bytes_eq tenant to ≡ false → (call_of s ≡ Restart → ⊥) → may_change tenant s ≡ false
unchanged tenant to s named apart other = stays-apart tenant s (call-apart tenant to s named apart other)

-- an answer that is not Ok ends the run, and an Ok lets it go on
pub ends-there : (a told : Answer) (so : Type 0) → a ≡ told → (a ≡ answer.Ok → ⊥) → GoesOn a [] told so
ends-there answer.Ok told so same other = absurd (other refl)
ends-there (answer.Fault code) told so same other = (refl, sym same)
ends-there (answer.Memory items) told so same other = (refl, sym same)

pub goes-on : (a : Answer) (later : Run) (told : Answer) (so : Type 0) → a ≡ answer.Ok → so → GoesOn a later told so
goes-on a later told so ok h = subst (λ (x : Answer). GoesOn x later told so) (sym ok) h

-- ---- refusals before the steps

-- no steps were taken
pub taken-none : (digest : List ℕ → List ℕ) (before : TenantStates) (refusal : ServiceFault) (from to : List ℕ) (refused : Option ServiceFault) (told : Answer)
    → refused ≡ Some refusal → told ≡ answer.Fault (code_of refusal) → HasTaken digest before before (λ run. IsCopyRun refused from to run told)
taken-none digest before refusal from to refused told is says = record {
  run = [];
  is = subst (λ (o : Option ServiceFault). IsCopyRun o from to [] told) (sym is) (refl, says);
  own = λ tenant. own-none digest tenant (held_of tenant before);
}

pub taken-all : (digest : List ℕ → List ℕ) (before after : TenantStates) (from to : List ℕ) (refused : Option ServiceFault) (told : Answer)
    → refused ≡ None → HasTaken digest before after (λ run. IsExport from to run told) → HasTaken digest before after (λ run. IsCopyRun refused from to run told)
taken-all digest before after from to refused told is taken = record {
  run = taken.run;
  is = subst (λ (o : Option ServiceFault). IsCopyRun o from to taken.run told) (sym is) taken.is;
  own = taken.own;
}

-- ---- what a repository has

-- a table without entries and refs without any: HEAD decides
pub head-decides : (pool : Cells) (table : View) (refs : RefStore) (b : Bool) → length table.entries ≡ 0 → length (listed_refs refs) ≡ 0
    → b ≡ bytes_eq refs.head first_head → b ≡ has_nothing (repository_in pool table refs)
head-decides pool table refs b none empty is =
    is ∙ sym (ap (λ (x : Bool). (x && (length (listed_refs refs) == 0)) && bytes_eq refs.head first_head)
    (eq-eqb (length (objects pool table.entries)) 0 (length-objects pool table.entries ∙ none))
    ∙ ap (λ (x : Bool). (true && x) && bytes_eq refs.head first_head) (eq-eqb (length (listed_refs refs)) 0 empty))

-- a ref is something
pub ref-decides : (pool : Cells) (table : View) (refs : RefStore) → length table.entries ≡ 0 → (length (listed_refs refs) ≡ 0 → ⊥)
    → false ≡ has_nothing (repository_in pool table refs)
ref-decides pool table refs none some =
    sym (ap (λ (x : Bool). (x && (length (listed_refs refs) == 0)) && bytes_eq refs.head first_head)
    (eq-eqb (length (objects pool table.entries)) 0 (length-objects pool table.entries ∙ none))
    ∙ ap (λ (x : Bool). (true && x) && bytes_eq refs.head first_head) (ne_eqb (length (listed_refs refs)) 0 some))

-- an object is something
pub entry-decides : (pool : Cells) (table : View) (refs : RefStore) → (length table.entries ≡ 0 → ⊥) → false ≡ has_nothing (repository_in pool table refs)
entry-decides pool table refs some =
    sym (ap (λ (x : Bool). (x && (length (listed_refs refs) == 0)) && bytes_eq refs.head first_head)
    (ne_eqb (length (objects pool table.entries)) 0 (λ none. some (sym (length-objects pool table.entries) ∙ none))))

-- good names leave it to what is held
named-decides : (from to : List ℕ) (all : TenantStates) → is_tenant_name from ≡ true → is_tenant_name to ≡ true
    → held_refusal (held_of to all) ≡ copy_refusal from to all
named-decides from to all first second =
    sym (ap (λ (x : Bool). cond (x && is_tenant_name to) (held_refusal (held_of to all)) (Some fault.BadTenantName)) first
    ∙ ap (λ (x : Bool). cond (true && x) (held_refusal (held_of to all)) (Some fault.BadTenantName)) second)

-- a tenant that was seen decides
pub found-decides : (pool : Cells) (from to : List ℕ) (es : Tenants) (tenant : Tenant) → is_tenant_name from ≡ true → is_tenant_name to ≡ true
    → lookup (bytes_eq to) es ≡ Some tenant → held_refusal (holding_in pool tenant) ≡ copy_refusal from to (holdings pool es)
found-decides pool from to es tenant first second found =
    ap held_refusal (sym (held-found pool to es tenant found)) ∙ named-decides from to (holdings pool es) first second

-- one that was not has nothing
pub empty-has_nothing : has_nothing empty_repository ≡ true
empty-has_nothing =
    ap (λ (n : ℕ). ((0 == 0) && (n == 0)) && bytes_eq first_head first_head) (sym (ref_map.len-entries _) ∙ ref_map.len-empty (slice_cmp nat_cmp) (List ℕ))

pub missing-decides : (pool : Cells) (from to : List ℕ) (es : Tenants) → is_tenant_name from ≡ true → is_tenant_name to ≡ true
    → lookup (bytes_eq to) es ≡ None → None ≡ copy_refusal from to (holdings pool es)
missing-decides pool from to es first second missing =
    ap (λ (b : Bool). cond b None (Some fault.TenantNotEmpty)) (sym empty-has_nothing)
    ∙ ap held_refusal (sym (held-missing pool to es missing)) ∙ named-decides from to (holdings pool es) first second

-- A tenant that is moved from one service to another.
use Rattle.std.proofs.Common.{◌≡◌, ℕ, Bool, true, false, cond, List, refl, sym, ap, ◌∙◌}
use Rattle.std.specs.List.{IsDistinct}
use Rattle.std.specs.Map.{keys_of}
use Rattle.std.specs.Str.{bytes_eq}
use Rattle.git_model.specs.Repository.{Repository}
use Rattle.pool_file_checks.specs.Repositories.{file_text}
use Rattle.tenant_service.specs.Copying.{has_nothing}
use Rattle.tenant_service.specs.HeldObjects.{last_held}
use Rattle.tenant_service.specs.Merging.{HasMoved, merged}
use Rattle.tenant_service.specs.Saved.{saved_of}
use Rattle.tenant_service.specs.TenantState.{TenantState, TenantStates, Idle, empty_repository, held_of}
use Rattle.tenant_service.proofs.CopyLemmas.{empty-has_nothing}
use Rattle.tenant_service.proofs.ExportRunLemmas.{nothing-held}
use Rattle.tenant_service.proofs.ExtractLemmas.{one, only-saved}

pub has-moved : (digest : List ℕ → List ℕ) (tenant : List ℕ) (source loaded before after : TenantStates)
    → IsDistinct bytes_eq (keys_of source) → IsDistinct bytes_eq (keys_of after)
    → held_of tenant loaded ≡ Idle (last_held (held_of tenant source))
    → ((other : List ℕ) → bytes_eq other tenant ≡ false → held_of other loaded ≡ Idle empty_repository)
    → held_of tenant before ≡ Idle empty_repository
    → ((other : List ℕ) → held_of other after ≡ merged other loaded before)
    → HasMoved digest tenant source before after
has-moved digest tenant source loaded before after distinct distinct-after own others free came = record {
  own = here;
  others = λ other apart.
      came other
      ∙ ap (λ (held : TenantState). cond (has_nothing (last_held held)) (held_of other before) (Idle (last_held held)))
      (others other apart)
      ∙ ap (λ (b : Bool). cond b (held_of other before) (Idle empty_repository)) empty-has_nothing;
  file =
      ap (file_text digest)
      (only-saved tenant after distinct-after
      ∙ ap (λ (held : TenantState). saved_of (one tenant (last_held held))) here
      ∙ sym (only-saved tenant source distinct));
}
  where
    repository : Repository
    repository = last_held (held_of tenant source)

    by : (b : Bool) → has_nothing repository ≡ b
        → cond b (held_of tenant before) (Idle repository) ≡ Idle repository
    by true nothing = free ∙ ap Idle (sym (nothing-held repository nothing))
    by false something = refl

    here : held_of tenant after ≡ Idle repository
    here =
        came tenant
        ∙ ap (λ (held : TenantState). cond (has_nothing (last_held held)) (held_of tenant before) (Idle (last_held held))) own
        ∙ by (has_nothing repository) refl

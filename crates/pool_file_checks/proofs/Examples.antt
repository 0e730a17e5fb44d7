-- A file of one tenant with one blob passes, so its repository can be saved.
use Rattle.std.proofs.Common.{ℕ, zero, suc, ◌<◌, List, [], ◌∷◌, codes, None, refl, inl, inr, arith}
use Rattle.std.specs.List.{IsDistinct}
use Rattle.std.proofs.lemmas.List.Elements.{All-nil, All-cons}
use Rattle.git_names.specs.Naming.{AnswersNames}
use Rattle.git_model.specs.declared.kind.Kind.TheVariants as kind
use Rattle.git_model.specs.Content.{content_from}
use Rattle.git_model.specs.References.{object_at}
use Rattle.git_model.specs.RefStore.{first_head}
use Rattle.git_model.specs.GoodRepository.{StandsBefore}
use Rattle.git_model.proofs.GoodRefs.{no_refs_are}
use Rattle.tenant_refs.specs.TenantName.{is_tenant_name}
use Rattle.tenant_refs.proofs.Names.{is_tenant_name-Decides}
use Rattle.pool_file_format.specs.Format.{RawTenant, RawFile, FitsTenant, FitsFile}
use Rattle.pool_file_checks.specs.Checks.{Passes}
use Rattle.pool_file_checks.specs.Own.{content_at, objects_in, own_objects}
use Rattle.pool_file_checks.specs.Connecting.{AreConnected}
use Rattle.pool_file_checks.specs.FileRefs.{AreRising}
use Rattle.pool_file_checks.specs.Tenants.{IsNameIn}
use Rattle.pool_file_checks.specs.Held.{AreHeld}
use Rattle.pool_file_checks.specs.Whole.{one_tenant_checks, file_checks}
use Rattle.pool_file_checks.specs.Saved.{saved_in}
use Rattle.pool_file_checks.specs.Saving.{CanSave}
use Rattle.pool_file_checks.proofs.Savable.{can_save}
use Rattle.pool_file_checks.proofs.Passing.{Holds, passes_one, passes_both, passes_all}

abbrev tenant : RawTenant
tenant = record { name = codes "a"; numbers = 0 ∷ []; refs = []; head = first_head }

abbrev one_blob : RawFile
one_blob = record {
  version = 2;
  objects = (record { kind = 3; bytes = codes "x" }) ∷ [];
  tenants = tenant ∷ [];
}

name_is : IsNameIn 2 (codes "a")
unfolding is_tenant_name
name_is = record { name = (is_tenant_name-Decides (codes "a")).0 refl; one_part = λ no. cc }

connected : (digest : List ℕ → List ℕ) → AreConnected (own_objects digest one_blob.objects (0 ∷ []))
unfolding object_at objects_in content_at
connected digest zero l = All-nil (StandsBefore (own_objects digest one_blob.objects (0 ∷ [])) 0)
connected digest (suc i) l = absurd (omega (arith, l))

held : AreHeld 1 (0 ∷ [])
held zero l = (0, omega arith, refl)
held (suc n) l = absurd (omega (arith, l))

holds_one : (digest : List ℕ → List ℕ) → Holds digest 2 one_blob.objects tenant
unfolding IsDistinct AreRising objects_in content_at
holds_one digest = record {
  name = name_is;
  worth = inl (λ no. cc);
  numbers = All-cons (λ n. n < 1) 0 [] (omega arith) (All-nil (λ n. n < 1));
  few = omega arith;
  few_refs = omega arith;
  distinct = (tt, tt);
  connected = connected digest;
  trees = (tt, tt);
  refs = λ k d no. absurd (omega (arith, no));
  rising = tt;
  places = λ k d no. absurd (omega (arith, no));
  head = (no_refs_are []).head;
}

pub one_blob_passes : (digest : List ℕ → List ℕ) → Passes (file_checks digest one_blob)
one_blob_passes digest = passes_all digest one_blob (record {
  objects = ((content_from kind.Blob (codes "x"), refl, (omega arith, tt)), (tt, tt));
  tenants = passes_both (one_tenant_checks digest 2 one_blob.objects None tenant) []
      (passes_one digest 2 one_blob.objects None tenant tt (holds_one digest)) tt;
  held = held;
})

tenant_fits : FitsTenant 2 tenant
tenant_fits = record {
  name = omega arith;
  numbers = (omega arith, (omega arith, tt));
  refs = (omega arith, tt);
  head = omega arith;
}

pub one_blob_is_saved : (digest : List ℕ → List ℕ) → AnswersNames digest
    → CanSave 2 digest (saved_in digest one_blob)
one_blob_is_saved digest names = can_save digest one_blob names fits (one_blob_passes digest)
  where
    fits : FitsFile one_blob
    fits = record {
      version = inr refl;
      objects = (omega arith, (record { kind = omega arith; bytes = omega arith }, tt));
      tenants = (omega arith, (tenant_fits, tt));
    }

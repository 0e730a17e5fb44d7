-- Contents and tenants as the file has them.
use Rattle.std.proofs.Common.{◌≡◌, ℕ, ◌+◌, ◌<◌, ◌&&◌, List, [], ◌∷◌, ◌++◌, map, take, length, get_or, refl, sym, ap, subst, ◌∙◌}
use Rattle.std.specs.Ordering.{is_lt}
use Rattle.std.specs.FinMap.{is_sorted}
use Rattle.std.specs.FinMap.Entries.{below_all}
use Rattle.std.proofs.lemmas.List.{map-append, map_more}
use Rattle.git_model.specs.Content.{Content}
use Rattle.content_pool.specs.Pool.{Cells}
use Rattle.byte_devices.specs.Device.{Device}
use Rattle.pool_file_format.specs.Sinks.{HasWritten, HasBroken}
use Rattle.pool_file_format.specs.declared.raw.RawTenant.{RawTenant as Tenant}
use Rattle.pool_file_format.specs.Format.{RawTenant, RawFile, raw_text}
use Rattle.pool_file_format.specs.declared.listed.LentObject.{LentObject}
use Rattle.pool_file_format.specs.Shown.{tenant_of, tenants_of, lent_object_of, lent_file}
use Rattle.pool_file_checks.specs.Objects.{raw_object}
use Rattle.pool_file_checks.specs.Repositories.{Named, listed_contents, raw_tenant, raw_of}
use Rattle.pool_file_checks.proofs.Keys.{key_cmp}
use Rattle.pool_file.specs.declared.tenant_view.TenantView.{TenantView}
use Rattle.pool_file.specs.Worth.{named_in, to_save}

-- ---- the order of keys alone decides

module _ {X Y : Type 0} (key : X → List ℕ) (other : Y → List ℕ) where
  abbrev keyed : List X → List (List ℕ × X)
  keyed xs = map (λ x. (key x, x)) xs

  abbrev keyed_other : List Y → List (List ℕ × Y)
  keyed_other ys = map (λ y. (other y, y)) ys

  same_below : (k : List ℕ) (xs : List X) (ys : List Y) → map key xs ≡ map other ys
      → below_all key_cmp k (keyed xs) ≡ below_all key_cmp k (keyed_other ys)
  same_below k [] [] e = refl
  same_below k [] (y ∷ ys) e = cc
  same_below k (x ∷ xs) [] e = cc
  same_below k (x ∷ xs) (y ∷ ys) e =
      let first : key x ≡ other y = cc in
      let rest : map key xs ≡ map other ys = cc in
      λ i. is_lt (key_cmp k (first i)) && same_below k xs ys rest i

  pub same_order : (xs : List X) (ys : List Y) → map key xs ≡ map other ys
      → is_sorted key_cmp (keyed xs) ≡ is_sorted key_cmp (keyed_other ys)
  same_order [] [] e = refl
  same_order [] (y ∷ ys) e = cc
  same_order (x ∷ xs) [] e = cc
  same_order (x ∷ xs) (y ∷ ys) e =
      let first : key x ≡ other y = cc in
      let rest : map key xs ≡ map other ys = cc in
      ap (λ (k : List ℕ). below_all key_cmp k (keyed xs) && is_sorted key_cmp (keyed xs)) first
      ∙ (λ i. same_below (other y) xs ys rest i && same_order xs ys rest i)

-- ---- tenants

pub tenants_more : (pool : Cells) (cs : List Content) (ss : List TenantView) (ts new : List Tenant) (t : Tenant) (i : ℕ) (s : TenantView)
    → tenants_of ts ≡ map (raw_tenant cs) (map (named_in pool) (take i ss))
    → i < length ss → s ≡ get_or ss i s → new ≡ ts ++ t ∷ []
    → tenant_of t ≡ raw_tenant cs (named_in pool s)
    → tenants_of new ≡ map (raw_tenant cs) (map (named_in pool) (take (i + 1) ss))
tenants_more pool cs ss ts new t i s before l at pushed is =
    let raw : Named → RawTenant = raw_tenant cs in
    ap tenants_of pushed ∙ map-append tenant_of ts (t ∷ [])
    ∙ (λ j. before j ++ is j ∷ [])
    ∙ ap (λ (x : TenantView). map raw (map (named_in pool) (take i ss)) ++ raw (named_in pool x) ∷ []) at
    ∙ sym (ap (map raw) (map_more (named_in pool) ss i s l)
    ∙ map-append raw (map (named_in pool) (take i ss)) (named_in pool (get_or ss i s) ∷ []))

-- ---- the file

pub file_so : (pool : Cells) (ss saved : List TenantView) (os : List LentObject) (ts : List Tenant)
    → map (named_in pool) saved ≡ to_save pool ss
    → map lent_object_of os ≡ map raw_object (listed_contents (map (named_in pool) saved))
    → tenants_of ts ≡ map (raw_tenant (listed_contents (map (named_in pool) saved))) (map (named_in pool) saved)
    → lent_file os ts ≡ raw_of 2 (to_save pool ss)
unfolding raw_of
file_so pool ss saved os ts same objects tenants =
    let file : lent_file os ts ≡ raw_of 2 (map (named_in pool) saved) =
    λ i. record { version = 2; objects = objects i; tenants = tenants i } in
    file ∙ ap (raw_of 2) same

-- what is written of a file is written of the same file
pub written_so : (digest : List ℕ → List ℕ) (old new : Device) (f g : RawFile) → f ≡ g
    → HasWritten old new (raw_text digest f) → HasWritten old new (raw_text digest g)
written_so digest old new f g e h =
    subst (λ (x : RawFile). HasWritten old new (raw_text digest x)) e h

pub broken_so : (digest : List ℕ → List ℕ) (old new : Device) (f g : RawFile) → f ≡ g
    → HasBroken old new (raw_text digest f) → HasBroken old new (raw_text digest g)
broken_so digest old new f g e h =
    subst (λ (x : RawFile). HasBroken old new (raw_text digest x)) e h

-- What each tenant has, in a list of its own and for C.
use Rattle.std.specs.Prelude.{◌≡◌, ℕ, Bool, true, false, List, length, map, slice_get, Option, None, Some, Result, Ok, Err}
use Rattle.git_model.specs.declared.memory.Memory.{Memory}
use Rattle.tenant_service.specs.Sizes.{Sizes, sizes_of}
use Rattle.tenant_service.specs.TenantState.{TenantStates}
use Rattle.gitpool_c.specs.declared.kept.Kept.{Kept}
use Rattle.gitpool_c.specs.declared.kept.ListedSizes.{ListedSizes}
use Rattle.gitpool_c.specs.declared.sizes.SizesRow.{SizesRow}
use Rattle.gitpool_c.specs.Reading.{HasRead}

-- What an entry of a list says of a tenant.
abbrev pub listed_told : ListedSizes → Sizes
listed_told one = record {
  tenant = one.tenant.items;
  objects = one.objects;
  bytes = one.bytes;
  own_bytes = one.own_bytes;
  refs = one.refs;
}

-- A handle was filled with a list of what each tenant has, or is as it was.
abbrev pub Lists : TenantStates → Option Kept → Result Unit Memory → Option Kept → Type 0
Lists all before (Ok u) None = ⊥
Lists all before (Ok u) (Some kept) = map listed_told kept.sizes.items ≡ sizes_of all
Lists all before (Err memory) after = after ≡ before

-- What C is told of an entry, beside the name.
abbrev pub row_of : ListedSizes → SizesRow
row_of one = record {
  objects = one.objects;
  bytes = one.bytes;
  own_bytes = one.own_bytes;
  refs = one.refs;
  tenant_length = length one.tenant.items;
}

-- An entry is told, and its name is copied to the room. The answer is that there is one.
pub record IsShown (one : ListedSizes) (there : Bool) (told : SizesRow) (room after : List ℕ)
    : Type 0 where
  pub is_there : there ≡ true
  pub row : told ≡ row_of one
  pub many : ℕ
  pub name : HasRead one.tenant.items room many after

-- The entry at a place of a list, if there is one. Else nothing has changed.
abbrev pub ShowsEntry : Option ListedSizes → Bool → SizesRow → SizesRow → List ℕ → List ℕ → Type 0
ShowsEntry None there before told room after = (there ≡ false) × (told ≡ before) × (after ≡ room)
ShowsEntry (Some one) there before told room after = IsShown one there told room after

abbrev pub ShowsAt : List ListedSizes → ℕ → Bool → SizesRow → SizesRow → List ℕ → List ℕ → Type 0
ShowsAt list place there before told room after =
    ShowsEntry (slice_get list place) there before told room after

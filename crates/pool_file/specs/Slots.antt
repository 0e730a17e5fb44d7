-- The slots of the objects that a save writes, and what it lists and notes at their numbers.
use Rattle.std.specs.Prelude.{◌≡◌, ◌↔◌, ℕ, ◌≤◌, List, ◌++◌, map, take, Option, Some, slice_get, All}
use Rattle.std.specs.List.{Contains, flat_map}
use Rattle.git_model.specs.Content.{Content}
use Rattle.content_pool.specs.Pool.{Cells, content}
use Rattle.pool_file_checks.specs.Objects.{raw_object}
use Rattle.pool_file_checks.specs.Repositories.{number_in}
use Rattle.pool_file.specs.declared.content.ListedContent.{ListedContent}
use Rattle.pool_file.specs.declared.tenant_view.TenantView.{TenantView}
use Rattle.pool_file.specs.Building.{times_in}
use Rattle.pool_file.specs.Lent.{object_lent}

-- The slots of the objects of a tenant that are saved, oldest first.
abbrev pub slots_of : TenantView → List ℕ
slots_of saved = map (λ e. e.1.slot) (take saved.objects saved.table.now.entries)

-- The slots of the objects of all tenants that are saved.
abbrev pub all_slots : List TenantView → List ℕ
all_slots tenants = flat_map slots_of tenants

-- A list has just these slots, each at its number.
pub record AreSeen (seen : List (Option ℕ)) (slots : List ℕ) : Type 0 where
  pub each : (n s : ℕ) → slice_get seen n ≡ Some (Some s) → (s ≡ n) × Contains slots s
  pub all : (s : ℕ) → Contains slots s → slice_get seen s ≡ Some (Some s)

-- Each list has the slots of the other.
abbrev pub KeepsSlots : List (Option ℕ) → List (Option ℕ) → Type 0
KeepsSlots old new = (n s : ℕ) → slice_get new n ≡ Some (Some s) ↔ slice_get old n ≡ Some (Some s)

-- Some more slots came.
abbrev pub Sees : List (Option ℕ) → List (Option ℕ) → List ℕ → Type 0
Sees old new more = (slots : List ℕ) → AreSeen old slots → AreSeen new (slots ++ more)

-- The slots of contents, in the order of these.
abbrev pub slots_listed : List ListedContent → List ℕ
slots_listed listed = map (λ c. c.slot) listed

-- No slot has two contents.
abbrev pub AreOnce : List ListedContent → Type 0
AreOnce listed = (s : ℕ) → times_in (slots_listed listed) s ≤ 1

-- The contents of just these slots, each once.
pub record AreListed (pool : Cells) (listed : List ListedContent) (slots : List ℕ) : Type 0 where
  pub each : All (λ c. object_lent c.content ≡ raw_object (content pool c.slot)) listed
  pub from : All (λ c. Contains slots c.slot) listed
  pub all : All (Contains (slots_listed listed)) slots
  pub once : AreOnce listed

-- At the number of the slot of each content stands the number of the content in the list.
abbrev pub NumbersSlots : List ListedContent → List ℕ → Type 0
NumbersSlots listed by_slot = (n : ℕ) (c : ListedContent) → slice_get listed n ≡ Some c
    → slice_get by_slot c.slot ≡ Some n

-- The number that is noted for a slot is that of its content.
abbrev pub IsNumbered : Cells → List Content → List ℕ → ℕ → Type 0
IsNumbered pool contents by_slot s =
    slice_get by_slot s ≡ Some (number_in contents (content pool s))

-- The pack of one tenant to a writer, by the lines that a reader has: git-pack-objects(1), --revs,
-- --all and --stdout.
use Rattle.std.specs.Prelude.{◌≡◌, ◌⊎◌, ◌≤◌, ◌<◌, ℕ, Bool, if◌then◌else◌, List, [], ◌++◌, length, map, Result, Ok, Err}
use Rattle.byte_devices.specs.Device.{Device}
use Rattle.byte_devices.specs.Reading.{HasReadWell, HasReadAll, HasFailed}
use Rattle.git_model.specs.Content.{Content}
use Rattle.git_model.specs.RefStore.{listed_refs}
use Rattle.pack_objects.specs.Packs.{WritesPack}
use Rattle.pack_objects.specs.declared.fault.PackFault.{PackFault}
use Rattle.pack_objects.specs.declared.fault.PackFault.TheVariants as fault
use Rattle.tenant_service.specs.HeldObjects.{last_held}
use Rattle.tenant_service.specs.Packing.{pack_for}
use Rattle.tenant_service.specs.TenantState.{TenantStates, held_of}
use Rattle.gitpool.specs.Revisions.{are_revisions, haves_in, text_limit, wants_in}

-- The object names that the refs of a tenant hold at its last checkpoint. HEAD names one of these
-- refs, or none that there is.
abbrev pub targets_of : List ℕ → TenantStates → List (List ℕ)
targets_of tenant states = map (λ entry. entry.1) (listed_refs (last_held (held_of tenant states)).refs)

-- With `--all` what every ref holds is wanted.
abbrev pub wanted_refs : Bool → List ℕ → TenantStates → List (List ℕ)
wanted_refs all tenant states = if all then targets_of tenant states else []

-- What is wanted: what the lines want, and with `--all` the refs.
abbrev pub wants_of : Bool → List ℕ → TenantStates → List ℕ → List (List ℕ)
wants_of all tenant states text = wants_in text ++ wanted_refs all tenant states

-- What the pack has, or why it is refused. A line that is no revision names nothing.
abbrev pub pack_told : List ℕ → Bool → TenantStates → List ℕ → Result (List Content) PackFault
pack_told tenant all states text =
    if are_revisions text then pack_for tenant states (wants_of all tenant states text) (haves_in text)
    else Err fault.UnknownObject

-- What came of the lines of a text: the pack was written or refused as by `Service::write_pack`; or
-- memory ran out for the names, and nothing was written.
abbrev pub AnswersText : (List ℕ → List ℕ) → Result (List Content) PackFault → Device
    → Result Unit PackFault → Device → Type 0
AnswersText digest told writer result writer' = WritesPack digest told writer result writer'
    ⊎ ((result ≡ Err fault.Memory) × (writer' ≡ writer))

-- The whole text was read, and this came of its lines.
pub record IsAnswered (digest : List ℕ → List ℕ) (tenant : List ℕ) (all : Bool)
    (states : TenantStates) (reader reader' writer : Device) (result : Result Unit PackFault)
    (writer' : Device) : Type 0 where
  pub text : List ℕ
  pub read : HasReadAll reader reader' text
  pub bounded : length text ≤ text_limit
  pub answered : AnswersText digest (pack_told tenant all states text) writer result writer'

-- Why the text was not read to its end: a call of the reader failed, or the text is too long, or
-- memory ran out for it.
abbrev pub StopsText : Device → Device → PackFault → Type 0
StopsText reader reader' fault.Device = (bytes : List ℕ) × HasFailed reader reader' bytes
StopsText reader reader' fault.Limit =
    (bytes : List ℕ) × HasReadWell reader reader' bytes × (text_limit < length bytes)
StopsText reader reader' fault.Memory = (bytes : List ℕ) × HasReadWell reader reader' bytes
StopsText reader reader' _ = ⊥

-- The text was not read to its end, and nothing was written.
abbrev pub IsUnread : Device → Device → Device → Result Unit PackFault → Device → Type 0
IsUnread reader reader' writer (Ok u) writer' = ⊥
IsUnread reader reader' writer (Err refusal) writer' =
    StopsText reader reader' refusal × (writer' ≡ writer)

-- What `pack` did: each call is one of these.
abbrev pub Packs : (List ℕ → List ℕ) → List ℕ → Bool → TenantStates → Device → Device → Device
    → Device → Result Unit PackFault → Type 0
Packs digest tenant all states reader reader' writer writer' result =
    IsAnswered digest tenant all states reader reader' writer result writer'
    ⊎ IsUnread reader reader' writer result writer'

-- Questions for a pack that come as frames, and what they are told.
use Rattle.std.specs.Prelude.{◌≡◌, ◌⊎◌, ℕ, List, [], ◌++◌, Result, Ok, Err}
use Rattle.pack_objects.specs.Faults.{code_of}
use Rattle.pack_objects.specs.Listing.{listing_text}
use Rattle.pack_objects.specs.Names.{names_in}
use Rattle.pack_objects.specs.declared.fault.PackFault.{PackFault}
use Rattle.pack_objects.specs.declared.fault.PackFault.TheVariants as fault
use Rattle.pack_objects.specs.declared.missing_object.MissingObject.{MissingObject}
use Rattle.service_steps.specs.declared.answer.Answer.{Answer}
use Rattle.service_steps.specs.declared.answer.Answer.TheVariants as answer
use Rattle.tenant_service.specs.Packing.{entries_for, missing_for}
use Rattle.tenant_service.specs.TenantState.{TenantStates}

-- A refusal, or 29 bytes for each of these objects.
abbrev pub listed : Result (List MissingObject) PackFault → Result (List ℕ) PackFault
listed (Ok objects) = Ok (listing_text objects)
listed (Err refusal) = Err refusal

-- The reply to a Missing, where memory suffices; the names stand in the bytes of its body.
abbrev pub missing_told : List ℕ → TenantStates → List ℕ → List ℕ → Result (List ℕ) PackFault
missing_told tenant all wants haves =
    listed (missing_for tenant all (names_in wants) (names_in haves))

-- The reply to an Entries, where memory suffices.
abbrev pub entries_told : List ℕ → TenantStates → ℕ → List ℕ → Result (List ℕ) PackFault
entries_told tenant all limit names = entries_for tenant all (names_in names) limit

-- The reply was appended; or it was refused so, or memory ran out.
abbrev pub Tells : Result (List ℕ) PackFault → List ℕ → Result Unit PackFault → List ℕ → Type 0
Tells expected old (Ok u) new = (text : List ℕ) × (expected ≡ Ok text) × (new ≡ old ++ text)
Tells expected old (Err refusal) new = (refusal ≡ fault.Memory) ⊎ (expected ≡ Err refusal)

-- What a question was told: the reply; or the number of its refusal and no reply; or that memory
-- ran out and no reply.
abbrev pub IsTold : Result (List ℕ) PackFault → Answer → List ℕ → Type 0
IsTold expected answer.Ok reply = expected ≡ Ok reply
IsTold expected (answer.Fault code) reply = (refusal : PackFault) × (expected ≡ Err refusal)
    × (code ≡ code_of refusal) × (reply ≡ [])
IsTold expected (answer.Memory items) reply = (items ≡ 0) × (reply ≡ [])

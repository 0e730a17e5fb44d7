-- The pack of the missing objects.
use Rattle.std.specs.Prelude.{◌≡◌, ℕ, List, map, Result, Ok, Err, if◌then◌else◌}
use Rattle.byte_devices.specs.Device.{Device}
use Rattle.git_model.specs.Content.{Content}
use Rattle.git_model.specs.References.{object_at}
use Rattle.git_model.specs.Repository.{Object}
use Rattle.missing_objects.specs.Missing.{has_all, missing}
use Rattle.pool_file_format.specs.Sinks.{HasWritten, HasBroken}
use Rattle.pack_text.specs.PackText.{pack_text}
use Rattle.pack_objects.specs.declared.fault.PackFault.{PackFault}
use Rattle.pack_objects.specs.declared.fault.PackFault.TheVariants as fault

-- The contents of the objects at these places.
abbrev pub contents_at : List Object → List ℕ → List Content
contents_at os places = map (λ place. (object_at place os).content) places

-- What the pack has: every wanted name must be that of an object, and then it is the missing
-- objects. A repository has far fewer than the 2^32 objects that a pack can count.
abbrev pub pack_asked : List Object → List (List ℕ) → List (List ℕ) → Result (List Content) PackFault
pack_asked os wants haves =
    if has_all os wants then Ok (map (λ o. o.content) (missing os wants haves))
    else Err fault.UnknownObject

-- A refusal is answered as it is, and nothing is written. The pack of what is not refused is
-- written; or memory runs out, and nothing is written; or the writer fails, and a prefix is written.
abbrev pub WritesPack : (List ℕ → List ℕ) → Result (List Content) PackFault → Device
    → Result Unit PackFault → Device → Type 0
WritesPack digest (Err refusal) old result new = (result ≡ Err refusal) × (new ≡ old)
WritesPack digest (Ok contents) old (Ok u) new = HasWritten old new (pack_text digest contents)
WritesPack digest (Ok contents) old (Err fault.Device) new =
    HasBroken old new (pack_text digest contents)
WritesPack digest (Ok contents) old (Err fault.Memory) new = new ≡ old
WritesPack digest (Ok contents) old (Err _) new = ⊥

-- Where nothing is said of the objects: the pack of those at some places is written, or memory runs
-- out, and nothing is written; or the writer fails, and a prefix of such a pack is written.
pub record WritesSomePack (digest : List ℕ → List ℕ) (os : List Object) (old : Device)
    (result : Result Unit PackFault) (new : Device) : Type 0 where
  pub places : List ℕ
  pub writes : WritesPack digest (Ok (contents_at os places)) old result new

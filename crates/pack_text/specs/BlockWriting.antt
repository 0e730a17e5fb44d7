-- What a writer in blocks does with its pieces.
use Rattle.std.specs.Prelude.{◌≡◌, ℕ, List, ◌++◌, Option}
use Rattle.byte_devices.specs.declared.counted.Counted.{Counted}
use Rattle.byte_devices.specs.Device.{Device, device_of, seen}
use Rattle.pool_file_format.specs.Sinks.{Moves, Goes, HasWritten, HasBroken}
use Rattle.pack_text.specs.declared.block_writer.BlockWriter.{BlockWriter}

-- What a contract sees of a counted writer whose bytes are known by `contents`.
abbrev pub seen_by : {W : Type 0} → (W → Option (List ℕ)) → Counted W → Device
seen_by contents writer = seen (contents (device_of writer)) writer

-- A text was fed since the writer was `start` and the digest was new: all of it but the bytes that
-- wait went to both.
pub record IsFed {D W : Type 0} (Holds : D → List ℕ → Type 0) (contents : W → Option (List ℕ))
    (start : Counted W) (blocks : BlockWriter D W) (text : List ℕ) : Type 0 where
  pub sent : List ℕ
  pub digested : Holds blocks.running sent
  pub written : HasWritten (seen_by contents start) (seen_by contents blocks.writer.now) sent
  pub parts : text ≡ sent ++ blocks.block.items

-- The bytes were fed after whatever was fed before.
abbrev pub TookBlocks : {D W : Type 0} → (D → List ℕ → Type 0) → (W → Option (List ℕ))
    → Moves (BlockWriter D W)
TookBlocks Holds contents old new bytes = (new.writer.ghost_name ≡ old.writer.ghost_name)
    × ((start : Counted _) → Goes (IsFed Holds contents start) old new bytes)

-- The device failed at some of what had been fed and these bytes.
abbrev pub FailedBlocks : {D W : Type 0} → (D → List ℕ → Type 0) → (W → Option (List ℕ))
    → Moves (BlockWriter D W)
FailedBlocks Holds contents old new bytes = (new.writer.ghost_name ≡ old.writer.ghost_name)
    × ((start : Counted _) (text : List ℕ) → IsFed Holds contents start old text
    → HasBroken (seen_by contents start) (seen_by contents new.writer.now) (text ++ bytes))

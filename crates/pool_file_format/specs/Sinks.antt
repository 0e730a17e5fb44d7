-- Where the bytes of a file go, one piece after another: to a writer, or into a digest.
use Rattle.std.specs.Prelude.{◌≡◌, ◌%◌, ℕ, List, [], ◌++◌, sum, Result, Ok, Err}
use Rattle.std.specs.Io.KnownBytes.{Appends}
use Rattle.byte_devices.specs.Device.{Device, AppendsFront, HasFault}
use Rattle.pool_file_format.specs.declared.digesting.TailSum.{TailSum}
use Rattle.pool_file_format.specs.declared.gathering.HashingWriter.{HashingWriter}
use Rattle.pool_file_format.specs.declared.gathering.Buffered.{Buffered}
use Rattle.byte_devices.specs.declared.device_fault.DeviceFault.{DeviceFault}

-- A statement about the bytes that brought a sink from one state to another.
abbrev pub Moves : Type 0 → Type 1
Moves S = S → S → List ℕ → Type 0

-- All bytes went in, or the sink failed at some of them.
abbrev pub Gives : {S : Type 0} → Moves S → Moves S → S → Result Unit DeviceFault → S → List ℕ
    → Type 0
Gives Took Failed old (Ok u) new bytes = Took old new bytes
Gives Took Failed old (Err e) new bytes = Failed old new bytes

-- Two pieces, one after the other, are the same to a sink as one piece with the bytes of both.
pub record AddsUp {S : Type 0} (Took Failed : Moves S) : Type 0 where
  pub none : (a : S) → Took a a []
  pub both : (a b c : S) (xs ys : List ℕ) → Took a b xs → Took b c ys → Took a c (xs ++ ys)
  pub later : (a b c : S) (xs ys : List ℕ) → Took a b xs → Failed b c ys → Failed a c (xs ++ ys)
  pub earlier : (a b : S) (xs ys : List ℕ) → Failed a b xs → Failed a b (xs ++ ys)

-- A writer took all bytes, and no call of it failed.
pub record HasWritten (old new : Device) (bytes : List ℕ) : Type 0 where
  pub appends : Appends old.known new.known bytes
  pub well : new.faults ≡ old.faults

-- A writer took a prefix of the bytes, and then a call of it failed.
pub record HasBroken (old new : Device) (bytes : List ℕ) : Type 0 where
  pub front : AppendsFront old.known new.known bytes
  pub fault : HasFault old.faults new.faults

-- A digest of any message became the digest of that message with these bytes appended.
abbrev pub Goes : {D : Type 0} → (D → List ℕ → Type 0) → D → D → List ℕ → Type 0
Goes Holds old new bytes = (message : List ℕ) → Holds old message → Holds new (message ++ bytes)

-- A digest and a sink both took the bytes, or the sink failed.
abbrev pub TookBoth : {D S : Type 0} → (D → List ℕ → Type 0) → Moves S → Moves (HashingWriter D S)
TookBoth Holds Took old new bytes = (new.running.ghost_name ≡ old.running.ghost_name)
    × ((new.sink.ghost_name ≡ old.sink.ghost_name)
    × (Goes Holds old.running.now new.running.now bytes × Took old.sink.now new.sink.now bytes))

abbrev pub FailedBoth : {D S : Type 0} → Moves S → Moves (HashingWriter D S)
FailedBoth Failed old new bytes = (new.running.ghost_name ≡ old.running.ghost_name)
    × ((new.sink.ghost_name ≡ old.sink.ghost_name) × Failed old.sink.now new.sink.now bytes)

-- Some bytes waited, and these came after them. Together they are what the sink took, and what
-- waits now.
pub record HasGathered {S : Type 0} (Took : Moves S) (old new : S) (waited waits bytes : List ℕ)
    : Type 0 where
  pub sent : List ℕ
  pub took : Took old new sent
  pub parts : waited ++ bytes ≡ sent ++ waits

-- The bytes went on to the sink, or wait in the block.
abbrev pub TookBlocks : {S : Type 0} → Moves S → Moves (Buffered S)
TookBlocks Took old new bytes = (new.sink.ghost_name ≡ old.sink.ghost_name)
    × HasGathered Took old.sink.now new.sink.now old.block.items new.block.items bytes

-- The sink failed at some of what had waited and these bytes.
abbrev pub FailedBlocks : {S : Type 0} → Moves S → Moves (Buffered S)
FailedBlocks Failed old new bytes = (new.sink.ghost_name ≡ old.sink.ghost_name)
    × Failed old.sink.now new.sink.now (old.block.items ++ bytes)

-- The sum of a message modulo 256.
abbrev pub SumsTo : TailSum → List ℕ → Type 0
SumsTo tail message = tail.sum ≡ sum message % 256

-- How much of a text has been written, for each answer.
abbrev pub Writes : Device → Result Unit DeviceFault → Device → List ℕ → Type 0
Writes old (Ok u) new bytes = HasWritten old new bytes
Writes old (Err e) new bytes = HasBroken old new bytes

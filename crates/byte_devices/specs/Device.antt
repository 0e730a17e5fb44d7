-- Counts of what a reader or a writer did.
use Rattle.std.specs.Prelude.{◌≡◌, ℕ, zero, suc, ◌+◌, ◌-◌, ◌^◌, min, List, [], ◌∷◌, ◌++◌, length, Option, Result, Ok, Err}
use Rattle.std.specs.Io.KnownBytes.{Appends, Consumes}
use Rattle.byte_devices.specs.declared.counted.Counted.{Counted}

-- The reader or writer inside, its calls so far, those that failed, and the bytes that went through
-- it.
abbrev pub device_of : {T : Type 0} → Counted T → T
device_of counted = counted.device

abbrev pub calls_of : {T : Type 0} → Counted T → ℕ
calls_of counted = counted.calls

abbrev pub faults_of : {T : Type 0} → Counted T → ℕ
faults_of counted = counted.faults

abbrev pub passed_of : {T : Type 0} → Counted T → ℕ
passed_of counted = counted.passed

-- A count that goes up by n stops at its greatest value, 2^64 - 1.
abbrev pub counted_on : ℕ → ℕ → ℕ
counted_on count n = min (count + n) (2 ^ 64 - 1)

-- A read failed if it answered an error.
abbrev pub faults_after_read : {E : Type 0} → ℕ → Result ℕ E → ℕ
faults_after_read faults (Ok n) = faults
faults_after_read faults (Err e) = counted_on faults 1

-- A write failed if it answered an error, or if it was given bytes and took none.
abbrev pub faults_after_write : {E : Type 0} → ℕ → List ℕ → Result ℕ E → ℕ
faults_after_write faults [] (Ok n) = faults
faults_after_write faults (byte ∷ bytes) (Ok zero) = counted_on faults 1
faults_after_write faults (byte ∷ bytes) (Ok (suc n)) = faults
faults_after_write faults bytes (Err e) = counted_on faults 1

-- A read or a write passes as many bytes as it answers.
abbrev pub passed_after : {E : Type 0} → ℕ → Result ℕ E → ℕ
passed_after passed (Ok n) = counted_on passed n
passed_after passed (Err e) = passed

-- Exactly one call failed between two counts.
abbrev pub HasFault : ℕ → ℕ → Type 0
HasFault old new = new ≡ counted_on old 1

-- The known bytes grew by a prefix of the given ones.
pub record AppendsFront (old new : Option (List ℕ)) (bytes : List ℕ) : Type 0 where
  pub front : List ℕ
  pub rest : List ℕ
  pub parts : bytes ≡ front ++ rest
  pub appends : Appends old new front

-- What is known of a device: the bytes that it still has, or that it took; its calls so far, those
-- that failed, and the bytes that went through it.
pub record Device : Type 0 where
  pub known : Option (List ℕ)
  pub calls : ℕ
  pub faults : ℕ
  pub passed : ℕ

abbrev pub seen : {T : Type 0} → Option (List ℕ) → Counted T → Device
seen known counted = record {
  known = known;
  calls = calls_of counted;
  faults = faults_of counted;
  passed = passed_of counted;
}

-- No call failed.
abbrev pub IsWell : Device → Device → Type 0
IsWell old new = new.faults ≡ old.faults

-- The given bytes were read. They were the next ones that the reader had.
pub record HasRead (old new : Device) (bytes : List ℕ) : Type 0 where
  pub consumed : Consumes old.known new.known bytes
  pub passed : new.passed ≡ counted_on old.passed (length bytes)

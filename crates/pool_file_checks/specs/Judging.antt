-- What a call that reads and judges a pool file answers.
use Rattle.std.specs.Prelude.{◌≡◌, ◌⊎◌, ℕ, ◌≤◌, List, [], Option, None, Some, Result, Ok, Err, IfOk}
use Rattle.byte_devices.specs.Device.{Device}
use Rattle.pool_file_format.specs.declared.refusal.Refusal.{Refusal}
use Rattle.pool_file_format.specs.declared.fault.Fault.{Fault}
use Rattle.pool_file_format.specs.declared.fault.Fault.TheVariants as fault
use Rattle.pool_file_format.specs.Format.{RawFile}
use Rattle.pool_file_format.specs.Lengths.{sealed_at}
use Rattle.pool_file_format.specs.Shown.{file_of, objects_of}
use Rattle.pool_file_format.specs.Taking.{Blames, shown}
use Rattle.pool_file_checks.specs.Checks.{Passes, Refuses}
use Rattle.pool_file_checks.specs.Own.{names_of}
use Rattle.pool_file_checks.specs.Quick.{KnowsSums}
use Rattle.pool_file_checks.specs.Whole.{file_checks}
use Rattle.pool_file_checks.specs.Repositories.{Named}
use Rattle.pool_file_checks.specs.Saved.{saved_in}
use Rattle.pool_file_checks.specs.Saving.{IsTextOf}
use Rattle.pool_file_checks.specs.declared.judged.Judged.{Judged}

-- All of the bytes are read as this file, with its digest, and it passes all checks.
pub record IsJudged (digest : List ℕ → List ℕ) (bytes : List ℕ) (f : RawFile) : Type 0 where
  pub read : sealed_at digest bytes ≡ Ok (f, [])
  pub passes : Passes (file_checks digest f)

-- The first fault: that of reading the bytes, or else that of what they say.
abbrev pub IsRefused : (List ℕ → List ℕ) → List ℕ → Refusal → Type 0
IsRefused digest bytes r = (sealed_at digest bytes ≡ Err r)
    ⊎ ((f : RawFile) × (sealed_at digest bytes ≡ Ok (f, [])) × Refuses (file_checks digest f) r)

-- What is answered if the reader has these bytes, and which bytes it has left. `Device` and
-- `Memory` may replace any answer. A file that is answered passes its checks even if the reader's
-- bytes are not known.
abbrev pub Judges : (List ℕ → List ℕ) → Option (List ℕ) → Result RawFile Fault
    → Option (List ℕ) → Type 0
Judges digest None (Ok f) new = Passes (file_checks digest f)
Judges digest None (Err e) new = Unit {0}
Judges digest (Some bytes) (Ok f) new = IsJudged digest bytes f × (new ≡ Some [])
Judges digest (Some bytes) (Err (fault.Refused r)) new = IsRefused digest bytes r
Judges digest (Some bytes) (Err fault.Device) new = Unit {0}
Judges digest (Some bytes) (Err fault.Memory) new = Unit {0}

-- If a file is answered, the bytes are a text of the repositories that it says.
abbrev pub Finds : (List ℕ → List ℕ) → Option (List ℕ) → Result RawFile Fault → Type 0
Finds digest None r = Unit {0}
Finds digest (Some bytes) (Ok f) = IsTextOf digest (saved_in digest f) bytes
Finds digest (Some bytes) (Err e) = Unit {0}

-- The answer is a file that says these repositories, or `Device`, or `Memory`.
abbrev pub Says : (List ℕ → List ℕ) → List Named → Result RawFile Fault → Type 0
Says digest all (Ok f) = saved_in digest f ≡ all
Says digest all (Err (fault.Refused r)) = ⊥
Says digest all (Err fault.Device) = Unit {0}
Says digest all (Err fault.Memory) = Unit {0}

-- Every text of repositories is answered with a file that says them.
abbrev pub ReadsTexts : (List ℕ → List ℕ) → Option (List ℕ) → Result RawFile Fault → Type 0
ReadsTexts digest None r = Unit {0}
ReadsTexts digest (Some bytes) r = (all : List Named) → IsTextOf digest all bytes
    → Says digest all r

-- The reader was called at most once more than it gave bytes, and never past the bound. If the
-- answer is `Device`, one call failed and no other, or the reader did not end within the bound.
-- After any other answer no call failed.
pub record IsBlamed {A : Type 0} (bound : ℕ) (old : Device) (r : Result A Fault) (new : Device)
    : Type 0 where
  pub blames : Blames bound r old new
  pub few : new.calls ≤ bound

-- A file is read and judged: the answer, the calls of the reader, and the names and summaries beside
-- a file.
pub record ReadsAndJudges (digest : List ℕ → List ℕ) (bound : ℕ) (old : Device)
    (r : Result Judged Fault) (new : Device) : Type 0 where
  pub exact : Judges digest old.known (shown (λ j. file_of j.file) r) new.known
  pub found : Finds digest old.known (shown (λ j. file_of j.file) r)
  pub only : ReadsTexts digest old.known (shown (λ j. file_of j.file) r)
  pub cause : IsBlamed bound old (shown (λ j. file_of j.file) r) new
  pub names : IfOk r (λ j. j.names.items ≡ names_of digest (objects_of j.file.objects.items))
  pub known : IfOk r (λ j. KnowsSums digest (objects_of j.file.objects.items) j.known)

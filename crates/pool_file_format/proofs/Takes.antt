-- A room that was filled, or was not, and what that makes of a reading.
use Rattle.std.proofs.Common.{◌≡◌, ℕ, ◌+◌, ◌≤◌, ◌<◌, List, length, Option, None, Some, Ok, Err, ap, refl, subst, ◌∙◌, arith, inl, inr}
use Rattle.std.specs.Io.KnownBytes.{Consumes, IsAtEnd}
use Rattle.std.proofs.lemmas.Bool.{lt-ltb}
use Rattle.std.proofs.lemmas.List.{length-append}
use Rattle.byte_devices.specs.Device.{Device}
use Rattle.byte_devices.specs.Reading.{AreBytes, HasLent, HasReadWell, HasReadAll, HasFailed}
use Rattle.pool_file_format.specs.declared.refusal.Refusal.TheVariants as refusal
use Rattle.pool_file_format.specs.declared.fault.Fault.TheVariants as fault
use Rattle.pool_file_format.specs.Lengths.{Read, bytes_at}
use Rattle.pool_file_format.specs.Taking.{Gave, HasAskedWell, ReadsValue}
use Rattle.pool_file_format.proofs.Formats.{bytes_again}

whole_given : (old new : Option (List ℕ)) (room : List ℕ) → Consumes old new room → Gave (bytes_at (length room)) old (Ok room) new
whole_given None new room c = tt
whole_given (Some bytes) None room c = absurd c
whole_given (Some bytes) (Some rest) room c = ap (bytes_at (length room)) c ∙ bytes_again (length room) room rest refl

pub is_cut : (n : ℕ) (bytes : List ℕ) → length bytes < n → bytes_at n bytes ≡ Err refusal.CutOff
unfolding bytes_at
is_cut n bytes less = rw (lt-ltb (length bytes) n less) refl

short_given : (old new : Option (List ℕ)) (n : ℕ) (front : List ℕ) → Consumes old new front → IsAtEnd new → length front < n
    → Gave {A = List ℕ} (bytes_at n) old (Err (fault.Refused refusal.CutOff)) new
short_given None new n front c end less = tt
short_given (Some bytes) None n front c end less = absurd c
short_given (Some bytes) (Some rest) n front c end less = let e = ap length c in let l = length-append front rest in let z = ap length end in
    is_cut n bytes (omega (arith, e, l, z, less))

pub blamed_given : {A : Type 0} (at : Read A) (old new : Option (List ℕ)) → Gave at old (Err fault.Device) new
blamed_given at None new = tt
blamed_given at (Some bytes) new = tt

pub starved_given : {A : Type 0} (at : Read A) (old new : Option (List ℕ)) → Gave at old (Err fault.Memory) new
starved_given at None new = tt
starved_given at (Some bytes) new = tt

asked_by : (more : ℕ) (a b : Device) (bytes : List ℕ) → HasReadWell a b bytes → b.calls ≤ a.calls + length bytes + more → HasAskedWell more a b
asked_by more a b bytes had giving = record { asked = record { bytes = bytes; read = had.read; giving = giving }; well = had.well }

-- The room is full.
pub reads_whole : (bound : ℕ) (a b : Device) (room : List ℕ) → HasReadWell a b room → AreBytes room → b.calls ≤ a.calls + length room → (a.calls ≤ bound → b.calls ≤ bound)
    → ReadsValue bound (bytes_at (length room)) a (Ok room) b
unfolding asked_by
reads_whole bound a b room had small giving few = record {
  gave = whole_given a.known b.known room had.read.consumed;
  blames = λ fits. record { asked = asked_by 0 a b room had (omega (arith, giving)); small = small };
  few = few;
}

-- The reader lent them.
pub reads_lent : (bound n : ℕ) (a b : Device) (bytes : List ℕ) → HasLent a n b bytes → AreBytes bytes → ReadsValue bound (bytes_at n) a (Ok bytes) b
reads_lent bound n a b bytes lent small =
    let calls = lent.calls in
    subst (λ (m : ℕ). ReadsValue bound (bytes_at m) a (Ok bytes) b) lent.size
    (reads_whole bound a b bytes lent.read small (omega (arith, calls)) (λ few. omega (arith, calls, few)))

-- The reader was at its end before that.
pub reads_short : (bound : ℕ) (a b : Device) (n : ℕ) (front : List ℕ) → HasReadAll a b front → length front < n → b.calls ≤ a.calls + length front + 1
    → (a.calls ≤ bound → b.calls ≤ bound) → ReadsValue {A = List ℕ} bound (bytes_at n) a (Err (fault.Refused refusal.CutOff)) b
reads_short bound a b n front had less giving few = record {
  gave = short_given a.known b.known n front had.read.read.consumed had.end less;
  blames = λ fits. asked_by 1 a b front had.read giving;
  few = few;
}

-- As many calls were made as the bound allows.
pub reads_out : {A : Type 0} (bound : ℕ) (at : Read A) (a b : Device) (front : List ℕ) → HasReadWell a b front → b.calls ≤ a.calls + length front
    → bound ≤ b.calls → (a.calls ≤ bound → b.calls ≤ bound) → ReadsValue bound at a (Err fault.Device) b
reads_out bound at a b front had giving out few = record {
  gave = blamed_given at a.known b.known;
  blames = λ fits. inr (record { asked = asked_by 0 a b front had (omega (arith, giving)); often = out });
  few = few;
}

-- A call failed.
pub reads_failed : {A : Type 0} (bound : ℕ) (at : Read A) (a b : Device) (front : List ℕ) → HasFailed a b front → b.calls ≤ a.calls + length front + 1
    → (a.calls ≤ bound → b.calls ≤ bound) → ReadsValue bound at a (Err fault.Device) b
reads_failed bound at a b front had giving few = record {
  gave = blamed_given at a.known b.known;
  blames = λ fits. inl (record { asked = record { bytes = front; read = had.read; giving = giving }; fault = had.fault });
  few = few;
}

-- Where a text is written piece by piece: what was written, and what is left of it.
use Rattle.std.proofs.Common.{◌≡◌, ℕ, zero, suc, List, [], ◌∷◌, ◌++◌, Result, Ok, Option, None, Some, subst, take, drop, refl, sym, ap, ◌∙◌, append_assoc, append-nil}
use Rattle.std.proofs.lemmas.List.{take-append-drop}
use Rattle.std.specs.Io.KnownBytes.{Keeps, Appends}
use Rattle.byte_devices.specs.Device.{AppendsFront, faults_after_write}
use Rattle.byte_devices.proofs.KnownBytes.{Appends-nil, Appends-trans, Appends-kept}

-- What stands before the bytes that are left is written.
pub record IsWrittenSoFar (old new : Option (List ℕ)) (bytes left : List ℕ) : Type 0 where
  pub front : List ℕ
  pub parts : bytes ≡ front ++ left
  pub appends : Appends old new front

pub nothing_written : (old : Option (List ℕ)) (bytes : List ℕ) → IsWrittenSoFar old old bytes bytes
nothing_written old bytes = record { front = []; parts = refl; appends = Appends-nil old }

-- A call took the first n of the bytes that were left.
pub more_written : (old mid new : Option (List ℕ)) (bytes left : List ℕ) (n : ℕ)
    → IsWrittenSoFar old mid bytes left
    → Appends mid new (take n left) → IsWrittenSoFar old new bytes (drop n left)
more_written old mid new bytes left n w a = record {
  front = w.front ++ take n left;
  parts =
      w.parts ∙ ap (λ l. w.front ++ l) (sym (take-append-drop n left))
      ∙ sym (append_assoc w.front (take n left) (drop n left));
  appends = Appends-trans old mid new w.front (take n left) w.appends a;
}

-- A call took nothing of the bytes that were left.
pub none_written : (old mid new : Option (List ℕ)) (bytes left : List ℕ)
    → IsWrittenSoFar old mid bytes left
    → Keeps mid new → AppendsFront old new bytes
none_written old mid new bytes left w k = record {
  front = w.front;
  rest = left;
  parts = w.parts;
  appends = Appends-kept old mid new w.front w.appends k;
}

-- Bytes that grew by none stayed.
pub Keeps-Appends : (old new : Option (List ℕ)) → Appends old new [] → Keeps old new
Keeps-Appends None new a = tt
Keeps-Appends (Some x) None a = absurd a
Keeps-Appends (Some x) (Some y) a = a ∙ append-nil x

-- Nothing is left.
pub all_written : (old new : Option (List ℕ)) (bytes left : List ℕ)
    → IsWrittenSoFar old new bytes left → left ≡ []
    → Appends old new bytes
all_written old new bytes left w none =
    subst (λ bs. Appends old new bs)
    (sym (w.parts ∙ ap (λ l. w.front ++ l) none ∙ append-nil w.front)) w.appends

-- A write that took something is no fault.
some_taken : (E : Type 0) (faults : ℕ) (left : List ℕ) (n : ℕ) → (n ≡ 0 → ⊥)
    → faults_after_write {E = E} faults left (Ok n) ≡ faults
some_taken E faults [] n some = refl
some_taken E faults (byte ∷ bytes) zero some = absurd (some refl)
some_taken E faults (byte ∷ bytes) (suc n) some = refl

pub taken_is_well : {E : Type 0} (faults : ℕ) (left : List ℕ) (r : Result ℕ E) (n : ℕ) → r ≡ Ok n
    → (n ≡ 0 → ⊥)
    → faults_after_write faults left r ≡ faults
taken_is_well {E} faults left r n is some = rw is (some_taken E faults left n some)

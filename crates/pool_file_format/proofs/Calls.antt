-- Which calls of a reader were made, one part of a file after another.
use Rattle.std.proofs.Common.{ℕ, zero, suc, ◌^◌, ◌<◌, List, [], ◌∷◌, ◌++◌, Result, Ok, Err, refl, subst, ◌∙◌, arith, inl, inr}
use Rattle.std.proofs.lemmas.List.{length-append}
use Rattle.byte_devices.specs.Device.{Device, HasFault}
use Rattle.byte_devices.specs.Reading.{AreBytes}
use Rattle.byte_devices.proofs.KnownBytes.{HasRead-trans}
use Rattle.byte_devices.proofs.ReadLemmas.{well_none}
use Rattle.pool_file_format.specs.declared.fault.Fault.{Fault}
use Rattle.pool_file_format.specs.declared.fault.Fault.TheVariants as fault
use Rattle.pool_file_format.specs.Taking.{HasAsked, HasAskedWell, HasGiven, BlamesBy}

both_small : (xs ys : List ℕ) → AreBytes xs → AreBytes ys → AreBytes (xs ++ ys)
both_small [] ys small more i = more i
both_small (x ∷ xs) ys small more zero = small 0
both_small (x ∷ xs) ys small more (suc i) = both_small xs ys (λ j. small (suc j)) more i

-- No call was made.
pub asked_none : (a : Device) → a.passed < 2 ^ 64 → HasGiven 0 a a
asked_none a fits = record {
  asked = record { asked = record { bytes = []; read = (well_none a fits).read; giving = omega arith }; well = refl };
  small = λ i. omega arith;
}

-- The count of bytes fits after calls.
pub fits_after : (more : ℕ) (a b : Device) → HasGiven more a b → b.passed < 2 ^ 64
fits_after more a b p = let r = p.asked.asked.read.passed in omega (arith, r)

asked_then : (more : ℕ) (a b c : Device) → HasAsked 0 a b → HasAsked more b c → HasAsked more a c
asked_then more a b c p q = record {
  bytes = p.bytes ++ q.bytes;
  read = HasRead-trans a b c p.bytes q.bytes p.read q.read;
  giving = let x = p.giving in let y = q.giving in let l = length-append p.bytes q.bytes in omega (arith, x, y, l);
}

well_then : (more : ℕ) (a b c : Device) → HasAskedWell 0 a b → HasAskedWell more b c → HasAskedWell more a c
well_then more a b c p q = record { asked = asked_then more a b c p.asked q.asked; well = q.well ∙ p.well }

pub given_then : (more : ℕ) (a b c : Device) → HasGiven 0 a b → HasGiven more b c → HasGiven more a c
unfolding well_then asked_then
given_then more a b c p q = record {
  asked = well_then more a b c p.asked q.asked;
  small = both_small p.asked.asked.bytes q.asked.asked.bytes p.small q.small;
}

-- One call more may be made.
pub well_looser : (a b : Device) → HasGiven 0 a b → HasAskedWell 1 a b
well_looser a b p = record {
  asked = record { bytes = p.asked.asked.bytes; read = p.asked.asked.read; giving = let x = p.asked.asked.giving in omega (arith, x) };
  well = p.asked.well;
}

pub blames_on : {B : Type 0} (more bound : ℕ) (r : Result B Fault) (a b c : Device) → HasGiven 0 a b → BlamesBy more bound r b c → BlamesBy more bound r a c
blames_on more bound (Ok x) a b c p q = given_then more a b c p q
blames_on more bound (Err fault.Device) a b c p (inl f) =
    inl (record { asked = asked_then 1 a b c p.asked.asked f.asked; fault = subst (λ (n : ℕ). HasFault n c.faults) p.asked.well f.fault })
blames_on more bound (Err fault.Device) a b c p (inr out) = inr (record { asked = well_then 0 a b c p.asked out.asked; often = out.often })
blames_on more bound (Err fault.Memory) a b c p q = well_then 1 a b c p.asked q
blames_on more bound (Err (fault.Refused refusal)) a b c p q = well_then 1 a b c p.asked q

-- The same fault of another reading is blamed so too.
pub blames_as : (more other bound : ℕ) (A B : Type 0) (e : Fault) (a b : Device) → BlamesBy {A = A} more bound (Err e) a b → BlamesBy {A = B} other bound (Err e) a b
blames_as more other bound A B fault.Device a b q = q
blames_as more other bound A B fault.Memory a b q = q
blames_as more other bound A B (fault.Refused refusal) a b q = q

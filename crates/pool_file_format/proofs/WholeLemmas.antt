-- A whole file, read part by part.
use Rattle.std.proofs.Common.{◌≡◌, ℕ, suc, ◌+◌, ◌^◌, ◌≤◌, ◌<◌, Bool, true, false, cond, eqb, List, [], ◌∷◌, length, get_or, drop, Option, None, Some, Result, Ok, Err, refl, sym, ap, subst, ◌∙◌, arith, inl, inr}
use Rattle.std.specs.Prelude.{◌||◌}
use Rattle.std.specs.Int.{w32}
use Rattle.std.specs.Io.KnownBytes.{Consumes, Keeps, IsAtEnd}
use Rattle.std.specs.Str.{bytes_eq}
use Rattle.std.proofs.Math.Seq.{drop-cons}
use Rattle.std.proofs.lemmas.Bool.{ne_eqb, eq-eqb}
use Rattle.byte_devices.specs.Device.{Device, counted_on}
use Rattle.byte_devices.specs.Reading.{HasReadWell}
use Rattle.byte_devices.proofs.ReadLemmas.{well_none, one_failed}
use Rattle.pool_file_format.specs.declared.refusal.Refusal.{Refusal}
use Rattle.pool_file_format.specs.declared.refusal.Refusal.TheVariants as refusal
use Rattle.pool_file_format.specs.declared.fault.Fault.{Fault}
use Rattle.pool_file_format.specs.declared.fault.Fault.TheVariants as fault
use Rattle.pool_file_format.specs.Format.{RawFile, RawObject, RawTenant, magic, body_text}
use Rattle.pool_file_format.specs.Lengths.{Read, ◌>>=◌, bytes_at, number_at, counted_at, byte_at, object_at, tenant_at, expected_at, front_at, version_at, body_at, end_at, by_lengths, sealed_at}
use Rattle.pool_file_format.specs.Taking.{Gave, HasGiven, ReadsBy, ReadsValue, ReadsAll}
use Rattle.pool_file_format.proofs.Calls.{asked_none, fits_after, given_then, well_looser, blames_on, blames_as}
use Rattle.pool_file_format.proofs.Takes.{blamed_given}
use Rattle.pool_file_format.proofs.Readings.{gave_then, gave_fails, value_given, reads_then, reads_fails, reads_value}

-- ---- a reading of which some is left

abbrev Continues : {A : Type 0} → Read A → Option (List ℕ) → Read A → Option (List ℕ) → Type 0
Continues whole None rest new = Unit {0}
Continues whole (Some bytes) rest None = ⊥
Continues whole (Some bytes) rest (Some left) = rest left ≡ whole bytes

pub record Leads {A : Type 0} (bound : ℕ) (whole : Read A) (old : Device) (rest : Read A) (new : Device) : Type 0 where
  pub same : Continues whole old.known rest new.known
  pub well : old.passed < 2 ^ 64 → HasGiven 0 old new
  pub few : old.calls ≤ bound → new.calls ≤ bound

starts : {A : Type 0} (whole : Read A) (a : Option (List ℕ)) → Continues whole a whole a
starts whole None = tt
starts whole (Some bytes) = refl

pub leads_start : {A : Type 0} {bound : ℕ} (whole : Read A) (a : Device) → Leads bound whole a whole a
leads_start whole a = record { same = starts whole a.known; well = asked_none a; few = λ l. l }

goes : {A B : Type 0} (whole : Read B) (at : Read A) (k : A × List ℕ → Result (B × List ℕ) Refusal) (a b c : Option (List ℕ)) (x : A)
    → Continues whole a (λ bytes. at bytes >>= k) b → Gave at b (Ok x) c → Continues whole a (λ rest. k (x, rest)) c
goes whole at k None b c x p q = tt
goes whole at k (Some bytes) None c x p q = absurd p
goes whole at k (Some bytes) (Some left) None x p q = absurd q
goes whole at k (Some bytes) (Some left) (Some after) x p q = sym (ap (λ (r : Result _ Refusal). r >>= k) q) ∙ p

pub leads_on : {A B : Type 0} {bound : ℕ} (whole : Read B) (at : Read A) (k : A × List ℕ → Result (B × List ℕ) Refusal) (a b c : Device) (x : A)
    → Leads bound whole a (λ bytes. at bytes >>= k) b → ReadsValue bound at b (Ok x) c → Leads bound whole a (λ rest. k (x, rest)) c
leads_on whole at k a b c x p q = record {
  same = goes whole at k a.known b.known c.known x p.same q.gave;
  well = λ fits. let first = p.well fits in given_then 0 a b c first (q.blames (fits_after 0 a b first));
  few = λ l. q.few (p.few l);
}

ends : {A : Type 0} (whole rest : Read A) (a b c : Option (List ℕ)) (r : Result A Fault) → Continues whole a rest b → Gave rest b r c → Gave whole a r c
ends whole rest None b c r p q = tt
ends whole rest (Some bytes) None c r p q = absurd p
ends whole rest (Some bytes) (Some left) None (Ok x) p q = absurd q
ends whole rest (Some bytes) (Some left) (Some after) (Ok x) p q = sym p ∙ q
ends whole rest (Some bytes) (Some left) c (Err fault.Device) p q = tt
ends whole rest (Some bytes) (Some left) c (Err fault.Memory) p q = tt
ends whole rest (Some bytes) (Some left) c (Err (fault.Refused refusal)) p q = sym p ∙ q

pub leads_end : {A : Type 0} {bound : ℕ} (whole rest : Read A) (a b c : Device) (r : Result A Fault) → Leads bound whole a rest b → ReadsValue bound rest b r c → ReadsValue bound whole a r c
leads_end whole rest a b c r p q = record {
  gave = ends whole rest a.known b.known c.known r p.same q.gave;
  blames = λ fits. let first = p.well fits in blames_on _ _ r a b c first (q.blames (fits_after 0 a b first));
  few = λ l. q.few (p.few l);
}

-- ---- the first bytes

pub expected_reads : {bound : ℕ} (expected byte : ℕ) (a b : Device) → byte ≡ expected → ReadsValue bound byte_at a (Ok byte) b → ReadsValue bound (expected_at expected) a (Ok tt) b
unfolding expected_at
expected_reads {bound} expected byte a b is p =
    reads_then byte_at (λ byte. cond (eqb byte.0 expected) (Ok (tt, byte.1)) (Err refusal.NoPoolFile)) p
    (subst (λ (t : Bool). ReadsValue bound (λ rest. cond t (Ok (tt, rest)) (Err refusal.NoPoolFile)) b (Ok tt) b) (sym (eq-eqb byte expected is)) (reads_value tt b))

refused_given : (A : Type 0) (r : Refusal) (a : Option (List ℕ)) → Gave {A = A} (λ rest. Err r) a (Err (fault.Refused r)) a
refused_given A r None = tt
refused_given A r (Some bytes) = refl

pub reads_refused : {A : Type 0} {bound : ℕ} (r : Refusal) (a : Device) → ReadsValue {A = A} bound (λ rest. Err r) a (Err (fault.Refused r)) a
reads_refused {A} r a = record { gave = refused_given A r a.known; blames = λ fits. well_looser a a (asked_none a fits); few = λ l. l }

pub expected_other : {bound : ℕ} (expected byte : ℕ) (a b : Device) → ¬ (byte ≡ expected) → ReadsValue bound byte_at a (Ok byte) b
    → ReadsValue bound (expected_at expected) a (Err (fault.Refused refusal.NoPoolFile)) b
unfolding expected_at
expected_other {bound} expected byte a b other p =
    reads_then byte_at (λ byte. cond (eqb byte.0 expected) (Ok (tt, byte.1)) (Err refusal.NoPoolFile)) p
    (subst (λ (t : Bool). ReadsValue bound (λ rest. cond t (Ok (tt, rest)) (Err refusal.NoPoolFile)) b (Err (fault.Refused refusal.NoPoolFile)) b) (sym (ne_eqb byte expected other)) (reads_refused refusal.NoPoolFile b))

pub drop_next : (xs : List ℕ) (i : ℕ) → i < length xs → drop i xs ≡ get_or xs i 0 ∷ drop (i + 1) xs
drop_next xs i less = let e : suc i ≡ i + 1 = omega arith in drop-cons xs i 0 less ∙ ap (λ (n : ℕ). get_or xs i 0 ∷ drop n xs) e

-- What is left of the first bytes begins with this one.
pub front_on : {bound : ℕ} (all left more : List ℕ) (byte : ℕ) (a b c : Device) → left ≡ byte ∷ more → Leads bound (front_at all) a (front_at left) b
    → ReadsValue bound (expected_at byte) b (Ok tt) c → Leads bound (front_at all) a (front_at more) c
unfolding front_at
front_on {bound} all left more byte a b c is p q =
    leads_on (front_at all) (expected_at byte) (λ first. front_at more first.1) a b c tt (subst (λ (l : List ℕ). Leads bound (front_at all) a (front_at l) b) is p) q

pub front_fails : {bound : ℕ} (all left more : List ℕ) (byte : ℕ) (a b c : Device) (e : Fault) → left ≡ byte ∷ more → Leads bound (front_at all) a (front_at left) b
    → ReadsValue bound (expected_at byte) b (Err e) c → ReadsValue bound (front_at all) a (Err e) c
unfolding front_at
front_fails {bound} all left more byte a b c e is p q =
    leads_end (front_at all) (front_at (byte ∷ more)) a b c (Err e) (subst (λ (l : List ℕ). Leads bound (front_at all) a (front_at l) b) is p)
    (reads_fails (expected_at byte) (λ first. front_at more first.1) q)

pub front_done : {bound : ℕ} (all left : List ℕ) (a b : Device) → left ≡ [] → Leads bound (front_at all) a (front_at left) b → ReadsValue bound (front_at all) a (Ok tt) b
unfolding front_at
front_done {bound} all left a b none p =
    leads_end (front_at all) (front_at []) a b b (Ok tt) (subst (λ (l : List ℕ). Leads bound (front_at all) a (front_at l) b) none p) (reads_value tt b)

-- ---- the version

pub version_reads : {bound : ℕ} (version : ℕ) (a b : Device) → (eqb version 1 || eqb version 2) ≡ true → ReadsValue bound (number_at w32) a (Ok version) b → ReadsValue bound version_at a (Ok version) b
unfolding version_at
version_reads {bound} version a b known p =
    reads_then (number_at w32) (λ version. cond (eqb version.0 1 || eqb version.0 2) (Ok version) (Err refusal.UnknownVersion)) p
    (subst (λ (t : Bool). ReadsValue bound (λ rest. cond t (Ok (version, rest)) (Err refusal.UnknownVersion)) b (Ok version) b) (sym known) (reads_value version b))

pub version_other : {bound : ℕ} (version : ℕ) (a b : Device) → (eqb version 1 || eqb version 2) ≡ false → ReadsValue bound (number_at w32) a (Ok version) b
    → ReadsValue bound version_at a (Err (fault.Refused refusal.UnknownVersion)) b
unfolding version_at
version_other {bound} version a b other p =
    reads_then (number_at w32) (λ version. cond (eqb version.0 1 || eqb version.0 2) (Ok version) (Err refusal.UnknownVersion)) p
    (subst (λ (t : Bool). ReadsValue bound (λ rest. cond t (Ok (version, rest)) (Err refusal.UnknownVersion)) b (Err (fault.Refused refusal.UnknownVersion)) b) (sym other) (reads_refused refusal.UnknownVersion b))

-- ---- the end

end_given : (a b : Option (List ℕ)) → Consumes a b [] → IsAtEnd b → Gave end_at a (Ok tt) b
unfolding end_at
end_given None b c end = tt
end_given (Some bytes) None c end = absurd c
end_given (Some bytes) (Some rest) c end = rw (c ∙ end, end) refl

pub end_reads : (bound : ℕ) (a b : Device) → HasReadWell a b [] → IsAtEnd b.known → b.calls ≤ a.calls + 1 → b.calls ≤ bound → ReadsBy 1 bound end_at a (Ok tt) b
end_reads bound a b had end giving few = record {
  gave = end_given a.known b.known had.read.consumed end;
  blames = λ fits. record {
    asked = record { asked = record { bytes = []; read = had.read; giving = omega (arith, giving) }; well = had.well };
    small = λ i. omega arith;
  };
  few = λ l. few;
}

more_given : (a b : Option (List ℕ)) (taken : List ℕ) → 0 < length taken → Consumes a b taken → Gave end_at a (Err (fault.Refused refusal.TrailingBytes)) b
unfolding end_at
more_given None b taken some c = tt
more_given (Some bytes) None taken some c = absurd c
more_given (Some bytes) (Some rest) [] some c = absurd (omega (arith, some))
more_given (Some bytes) (Some rest) (x ∷ taken) some c = rw c refl

pub end_trails : (bound : ℕ) (a b : Device) (taken : List ℕ) → 0 < length taken → HasReadWell a b taken → b.calls ≤ a.calls + 1 → b.calls ≤ bound
    → ReadsBy 1 bound end_at a (Err (fault.Refused refusal.TrailingBytes)) b
end_trails bound a b taken some had giving few = record {
  gave = more_given a.known b.known taken some had.read.consumed;
  blames = λ fits. record { asked = record { bytes = taken; read = had.read; giving = omega (arith, giving) }; well = had.well };
  few = λ l. few;
}

pub end_fails : (bound : ℕ) (a b : Device) → Keeps a.known b.known → b.passed ≡ a.passed → b.faults ≡ counted_on a.faults 1 → b.calls ≤ a.calls + 1 → b.calls ≤ bound
    → ReadsBy 1 bound end_at a (Err fault.Device) b
end_fails bound a b keeps passed failed giving few = record {
  gave = blamed_given end_at a.known b.known;
  blames = λ fits. let none = one_failed a a b [] (well_none a fits) keeps passed failed in
      inl (record { asked = record { bytes = []; read = none.read; giving = omega (arith, giving) }; fault = none.fault });
  few = λ l. few;
}

pub end_out : (bound : ℕ) (a : Device) → bound ≤ a.calls → ReadsBy 1 bound end_at a (Err fault.Device) a
end_out bound a out = record {
  gave = blamed_given end_at a.known a.known;
  blames = λ fits. inr (record { asked = (asked_none a fits).asked; often = out });
  few = λ l. l;
}

-- ---- the whole

pub end_then : {bound : ℕ} (file : RawFile) (digest : List ℕ) (a b : Device) → ReadsBy 1 bound end_at a (Ok tt) b → ReadsBy {A = RawFile × List ℕ} 1 bound (λ rest. end_at rest >>= λ end. Ok ((file, digest), end.1)) a (Ok (file, digest)) b
end_then file digest a b p = record {
  gave = gave_then end_at (λ end. Ok ((file, digest), end.1)) a.known b.known b.known tt (Ok (file, digest)) p.gave (value_given (file, digest) b.known);
  blames = p.blames;
  few = p.few;
}

-- Whatever the counts were.
pub reads_all : {A : Type 0} (bound : ℕ) (at : Read A) (a b : Device) (r : Result A Fault) → bound ≡ counted_on a.calls (2 ^ 32) → a.calls < 2 ^ 64 → a.passed < 2 ^ 64
    → ReadsBy 1 bound at a r b → ReadsAll (counted_on a.calls (2 ^ 32)) at a r b
reads_all bound at a b r is small fits p =
    subst (λ (n : ℕ). ReadsAll n at a r b) is (record { gave = p.gave; blames = p.blames fits; few = p.few (omega (arith, is, small)) })

-- ---- the digest

abbrev judged_by : (List ℕ → List ℕ) → (RawFile × List ℕ) × List ℕ → Result (RawFile × List ℕ) Refusal
judged_by digest whole = cond (bytes_eq whole.0.1 (digest (body_text whole.0.0))) (Ok (whole.0.0, whole.1)) (Err refusal.WrongDigest)

pub sealed_none : {bound : ℕ} (digest : List ℕ → List ℕ) (a b : Device) (e : Fault) → ReadsAll {A = RawFile × List ℕ} bound by_lengths a (Err e) b
    → ReadsAll bound (sealed_at digest) a (Err e) b
unfolding sealed_at
sealed_none {bound} digest a b e p = record {
  gave = gave_fails by_lengths (judged_by digest) a.known b.known e p.gave;
  blames = blames_as 1 1 bound (RawFile × List ℕ) RawFile e a b p.blames;
  few = p.few;
}

pub sealed_reads : {bound : ℕ} (digest : List ℕ → List ℕ) (file : RawFile) (end : List ℕ) (a b : Device) → bytes_eq end (digest (body_text file)) ≡ true
    → ReadsAll bound by_lengths a (Ok (file, end)) b → ReadsAll bound (sealed_at digest) a (Ok file) b
unfolding sealed_at
sealed_reads digest file end a b same p = record {
  gave = gave_then by_lengths (judged_by digest) a.known b.known b.known (file, end) (Ok file) p.gave
      (subst (λ (t : Bool). Gave (λ rest. cond t (Ok (file, rest)) (Err refusal.WrongDigest)) b.known (Ok file) b.known) (sym same) (value_given file b.known));
  blames = p.blames;
  few = p.few;
}

pub sealed_other : {bound : ℕ} (digest : List ℕ → List ℕ) (file : RawFile) (end : List ℕ) (a b : Device) → bytes_eq end (digest (body_text file)) ≡ false
    → ReadsAll bound by_lengths a (Ok (file, end)) b → ReadsAll bound (sealed_at digest) a (Err (fault.Refused refusal.WrongDigest)) b
unfolding sealed_at
sealed_other digest file end a b other p = record {
  gave = gave_then by_lengths (judged_by digest) a.known b.known b.known (file, end) (Err (fault.Refused refusal.WrongDigest)) p.gave
      (subst (λ (t : Bool). Gave (λ rest. cond t (Ok (file, rest)) (Err refusal.WrongDigest)) b.known (Err (fault.Refused refusal.WrongDigest)) b.known) (sym other)
      (refused_given RawFile refusal.WrongDigest b.known));
  blames = p.blames.asked;
  few = p.few;
}

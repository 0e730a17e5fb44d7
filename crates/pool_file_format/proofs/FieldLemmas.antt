-- The parts of a file, read one after another.
use Rattle.std.proofs.Common.{◌≡◌, ℕ, suc, Bool, cond, eqb, List, [], ◌∷◌, length, Option, None, Some, Result, Ok, Err, refl, sym, ap, subst, arith, slice_index_or}
use Rattle.std.specs.Int.{w16, w64}
use Rattle.std.proofs.lemmas.Bool.{ne_eqb}
use Rattle.git_model.specs.RefStore.{first_head}
use Rattle.byte_devices.specs.Device.{Device}
use Rattle.pool_file_format.specs.declared.refusal.Refusal.{Refusal}
use Rattle.pool_file_format.specs.declared.refusal.Refusal.TheVariants as refusal
use Rattle.pool_file_format.specs.declared.fault.Fault.{Fault}
use Rattle.pool_file_format.specs.declared.fault.Fault.TheVariants as fault
use Rattle.pool_file_format.specs.Lengths.{◌>>=◌, bytes_at, number_at, sized_at, counted_at, byte_at, object_at, ref_at, head_at, tenant_at, front_at, version_at, body_at, end_at, by_lengths}
use Rattle.pool_file_format.specs.Format.{RawObject, RawRef, RawTenant, RawFile, magic}
use Rattle.pool_file_format.specs.Taking.{Fails, Gave, ReadsBy, ReadsValue}
use Rattle.pool_file_format.proofs.Calls.{blames_as}
use Rattle.pool_file_format.proofs.Formats.{bytes_again}
use Rattle.pool_file_format.proofs.Readings.{parts, reads_value}

-- ---- fields of a file

pub one_of : (room : List ℕ) → length room ≡ 1 → room ≡ slice_index_or room 0 0 ∷ []
one_of [] size = absurd (omega (arith, size))
one_of (x ∷ []) size = refl
one_of (x ∷ (y ∷ ys)) size = let l : length (x ∷ (y ∷ ys)) ≡ suc (suc (length ys)) = refl in absurd (omega (arith, size, l))

pub byte_reads : {bound : ℕ} (size : ℕ) (room : List ℕ) (n : ℕ) (a b : Device) → size ≡ 1 → room ≡ n ∷ [] → ReadsValue bound (bytes_at size) a (Ok room) b → ReadsValue bound byte_at a (Ok n) b
unfolding byte_at
byte_reads {bound} size room n a b same is p = record {
  gave = given a.known b.known (subst (λ (l : List ℕ). Gave (bytes_at 1) a.known (Ok l) b.known) is (subst (λ (m : ℕ). Gave (bytes_at m) a.known (Ok room) b.known) same p.gave));
  few = p.few;
  blames = p.blames;
}
  where
    given : (old new : Option (List ℕ)) → Gave (bytes_at 1) old (Ok (n ∷ [])) new → Gave byte_at old (Ok n) new
    given None new q = tt
    given (Some bytes) None q = absurd q
    given (Some bytes) (Some rest) q = ap byte_at (parts 1 bytes (n ∷ []) rest q).0

pub byte_fails : {bound : ℕ} (size : ℕ) (a b : Device) (e : Fault) → size ≡ 1 → ReadsValue {A = List ℕ} bound (bytes_at size) a (Err e) b → ReadsValue bound byte_at a (Err e) b
unfolding byte_at bytes_at
byte_fails {bound} size a b e same p = record {
  gave = given a.known (subst (λ (m : ℕ). Gave {A = List ℕ} (bytes_at m) a.known (Err e) b.known) same p.gave);
  few = p.few;
  blames = λ fits. blames_as 0 0 bound (List ℕ) ℕ e a b (p.blames fits);
}
  where
    given : (old : Option (List ℕ)) → Gave {A = List ℕ} (bytes_at 1) old (Err e) b.known → Gave {A = ℕ} byte_at old (Err e) b.known
    given None q = tt
    given (Some []) q = one e q
      where
        one : (e : Fault) → Fails {Y = List ℕ × List ℕ} e (Err refusal.CutOff) → Fails {Y = ℕ × List ℕ} e (Err refusal.CutOff)
        one fault.Device q = tt
        one fault.Memory q = tt
        one (fault.Refused r) q = cc
    given (Some (x ∷ xs)) q = one e (subst (λ (r : Result (List ℕ × List ℕ) Refusal). Fails e r) (bytes_again 1 (x ∷ []) xs refl) q)
      where
        one : (e : Fault) → Fails {Y = List ℕ × List ℕ} e (Ok (x ∷ [], xs)) → Fails {Y = ℕ × List ℕ} e (Ok (x, xs))
        one fault.Device q = tt
        one fault.Memory q = tt
        one (fault.Refused r) q = absurd cc

-- ---- HEAD

pub head_first : {bound : ℕ} (version : ℕ) (head : List ℕ) (a : Device) → version ≡ 1 → head ≡ first_head → ReadsValue bound (head_at version) a (Ok head) a
unfolding head_at
head_first {bound} version head a one is = rw is (subst (λ (n : ℕ). ReadsValue bound (λ bytes. cond (eqb n 1) (Ok (first_head, bytes)) (sized_at w16 bytes)) a (Ok first_head) a) (sym one) (reads_value first_head a))

pub head_later : {bound : ℕ} (version : ℕ) (r : Result (List ℕ) Fault) (a b : Device) → ¬ (version ≡ 1) → ReadsValue bound (sized_at w16) a r b → ReadsValue bound (head_at version) a r b
unfolding head_at
head_later {bound} version r a b other p =
    subst (λ (t : Bool). ReadsValue bound (λ bytes. cond t (Ok (first_head, bytes)) (sized_at w16 bytes)) a r b) (sym (ne_eqb version 1 other)) p

-- ---- a part, as its parts are read one after another

pub object_is : {bound : ℕ} {a b : Device} {r : Result RawObject Fault}
    → ReadsValue bound (λ bytes. byte_at bytes >>= λ kind. sized_at w64 kind.1 >>= λ text. Ok (record { kind = kind.0; bytes = text.0 }, text.1)) a r b → ReadsValue bound object_at a r b
unfolding object_at
object_is p = p

pub ref_is : {bound : ℕ} {a b : Device} {r : Result RawRef Fault}
    → ReadsValue bound (λ bytes. sized_at w16 bytes >>= λ name. number_at w64 name.1 >>= λ place. Ok (record { name = name.0; place = place.0 }, place.1)) a r b → ReadsValue bound ref_at a r b
unfolding ref_at
ref_is p = p

pub tenant_is : {bound : ℕ} (version : ℕ) {a b : Device} {r : Result RawTenant Fault}
    → ReadsValue bound (λ bytes. sized_at w16 bytes >>= λ name. counted_at (number_at w64) name.1 >>= λ numbers. counted_at ref_at numbers.1 >>= λ refs. head_at version refs.1
    >>= λ head. Ok (record { name = name.0; numbers = numbers.0; refs = refs.0; head = head.0 }, head.1)) a r b → ReadsValue bound (tenant_at version) a r b
unfolding tenant_at
tenant_is version p = p

pub body_is : {bound : ℕ} {a b : Device} {r : Result RawFile Fault}
    → ReadsValue bound (λ bytes. front_at magic bytes >>= λ front. version_at front.1 >>= λ version. counted_at object_at version.1 >>= λ objects. counted_at (tenant_at version.0) objects.1
    >>= λ tenants. Ok (record { version = version.0; objects = objects.0; tenants = tenants.0 }, tenants.1)) a r b → ReadsValue bound body_at a r b
unfolding body_at
body_is p = p

pub whole_is : {bound : ℕ} {a b : Device} {r : Result (RawFile × List ℕ) Fault}
    → ReadsBy {A = RawFile × List ℕ} 1 bound (λ bytes. body_at bytes >>= λ body. bytes_at 20 body.1 >>= λ digest. end_at digest.1 >>= λ end. Ok ((body.0, digest.0), end.1)) a r b → ReadsBy 1 bound by_lengths a r b
unfolding by_lengths
whole_is p = p

-- Bytes after their length: what a part of them lacks, and what was read of them.
use Rattle.std.proofs.Common.{◌≡◌, ◌≢◌, ℕ, zero, suc, ◌-◌, ◌<◌, ◌≤◌, List, [], ◌∷◌, ◌++◌, length, replicate, Result, Ok, Err, IsErrAnd, refl, sym, ap, subst, ◌∙◌, append-nil, append_assoc, arith}
use Rattle.std.specs.Int.{Width, w16, w32, byte_len, to_be_bytes, from_be_bytes}
use Rattle.std.proofs.lemmas.List.{length-append, length-replicate}
use Rattle.std.proofs.lemmas.Nat.{be_bytes_2, be_bytes_4}
use Rattle.std.proofs.lemmas.Result.{err_from_is_err_and}
use Rattle.byte_devices.specs.Device.{Device}
use Rattle.service_steps.specs.declared.frame_fault.FrameFault.{FrameFault}
use Rattle.service_steps.specs.declared.frame_fault.FrameFault.TheVariants as fault
use Rattle.service_steps.specs.Reading.{AreBytes, IsShort, HasReadWell, bound, ReadsNumber, ReadsRoom, ReadsSized, IsUnfinishedPart}
use Rattle.byte_devices.proofs.ReadLemmas.{well_more, all_more, failed_more}

-- Every list of so many bytes is that of a number.
pub record Written (width : Width) (bytes : List ℕ) : Type 0 where
  pub number : ℕ
  pub fits : number < bound width
  pub is : to_be_bytes width number ≡ bytes

abbrev pub HasNumbers : Width → Type 0
HasNumbers width = (bytes : List ℕ) → length bytes ≡ byte_len width → AreBytes bytes → Written width bytes

pub numbers_16 : HasNumbers w16
numbers_16 bytes size small = record {
  number = from_be_bytes w16 bytes;
  fits = let a = small 0 in let b = small 1 in omega (arith, a, b);
  is = be_bytes_2 bytes (from_be_bytes w16 bytes) size small refl;
}

pub numbers_32 : HasNumbers w32
numbers_32 bytes size small = record {
  number = from_be_bytes w32 bytes;
  fits = let a = small 0 in let b = small 1 in let c = small 2 in let d = small 3 in omega (arith, a, b, c, d);
  is = be_bytes_4 bytes (from_be_bytes w32 bytes) size small refl;
}

pub some_of : (xs : List ℕ) → 0 < length xs → xs ≢ []
some_of [] some none = absurd (omega (arith, some))
some_of (x ∷ xs) some none = let e : length (x ∷ xs) ≡ 0 = ap length none in omega (arith, e)

-- Zeros up to a length.
abbrev zeros : ℕ → List ℕ → List ℕ
zeros room bytes = replicate (room - length bytes) 0

filled-length : (room : ℕ) (bytes : List ℕ) → length bytes < room → length (bytes ++ zeros room bytes) ≡ room
filled-length room bytes lacks =
    let a = length-append bytes (zeros room bytes) in
    let b : length (zeros room bytes) ≡ room - length bytes = length-replicate (room - length bytes) 0 in
    omega (arith, a, b, lacks)

zeros-some : (room : ℕ) (bytes : List ℕ) → length bytes < room → 0 < length (zeros room bytes)
zeros-some room bytes lacks =
    let b : length (zeros room bytes) ≡ room - length bytes = length-replicate (room - length bytes) 0 in
    omega (arith, b, lacks)

zeros-small : (n : ℕ) → AreBytes (replicate n 0)
zeros-small zero i = omega arith
zeros-small (suc n) zero = omega arith
zeros-small (suc n) (suc i) = zeros-small n i

both-small : (xs ys : List ℕ) → AreBytes xs → AreBytes ys → AreBytes (xs ++ ys)
both-small [] ys small more i = more i
both-small (x ∷ xs) ys small more zero = small 0
both-small (x ∷ xs) ys small more (suc i) = both-small xs ys (λ j. small (suc j)) more i

-- A length that is cut off.
length_short : (width : Width) → HasNumbers width → (limit : ℕ) (bytes : List ℕ) → IsShort (byte_len width) bytes
    → IsUnfinishedPart width limit bytes
length_short width numbers limit bytes short =
    let full : List ℕ = bytes ++ zeros (byte_len width) bytes in
    let n = numbers full (filled-length (byte_len width) bytes short.lacks)
    (both-small bytes (zeros (byte_len width) bytes) short.small (zeros-small (byte_len width - length bytes))) in
    let room : List ℕ = replicate n.number 0 in
    let size : length room ≡ n.number = length-replicate n.number 0 in
    record {
      room = room;
      missing = zeros (byte_len width) bytes ++ room;
      parts = ap (λ (m : ℕ). to_be_bytes width m ++ room) size ∙ ap (λ (l : List ℕ). l ++ room) n.is
          ∙ append_assoc bytes (zeros (byte_len width) bytes) room;
      lacks = some_of (zeros (byte_len width) bytes ++ room)
          (let a = length-append (zeros (byte_len width) bytes) room in let b = zeros-some (byte_len width) bytes short.lacks in omega (arith, a, b));
      fits = let f = n.fits in omega (arith, f, size);
      limited = λ there. let l = short.lacks in absurd (omega (arith, there, l));
    }

-- Bytes that are cut off after their length.
room_short : (width : Width) (limit n : ℕ) (bytes : List ℕ) → n < bound width → n ≤ limit → IsShort n bytes
    → IsUnfinishedPart width limit (to_be_bytes width n ++ bytes)
room_short width limit n bytes fits within short =
    let room : List ℕ = bytes ++ zeros n bytes in
    let size : length room ≡ n = filled-length n bytes short.lacks in
    record {
      room = room;
      missing = zeros n bytes;
      parts = ap (λ (m : ℕ). to_be_bytes width m ++ room) size ∙ sym (append_assoc (to_be_bytes width n) bytes (zeros n bytes));
      lacks = some_of (zeros n bytes) (zeros-some n bytes short.lacks);
      fits = omega (arith, fits, size);
      limited = λ there. omega (arith, within, size);
    }

none-short : (n : ℕ) → 0 < n → IsShort n []
none-short n some = record { lacks = some; small = λ i. omega arith }

-- A length was read, and then what is after it.
pub sized_more : (width : Width) (limit n : ℕ) (a b c : Device) (r : Result Unit FrameFault) (room : List ℕ)
    → n < bound width → HasReadWell a b (to_be_bytes width n) → ReadsRoom n limit b r c room → ReadsSized width limit a r c room
sized_more width limit n a b c (Ok u) room fits first later =
    let size = later.0 in (
      (let w = later.1 in omega (arith, w, size)),
      omega (arith, fits, size),
      subst (λ (m : ℕ). HasReadWell a c (to_be_bytes width m ++ room)) (sym size)
          (well_more a b c (to_be_bytes width n) room first later.2),
    )
sized_more width limit n a b c (Err fault.BadFrame) room fits first later = (
  n,
  later.0,
  fits,
  subst (λ (l : List ℕ). HasReadWell a c l) (append-nil (to_be_bytes width n)) (well_more a b c (to_be_bytes width n) [] first later.1),
)
sized_more width limit n a b c (Err fault.CutOff) room fits first later = (
  to_be_bytes width n ++ later.1,
  room_short width limit n later.1 fits later.0 later.2,
  all_more a b c (to_be_bytes width n) later.1 first later.3,
)
sized_more width limit n a b c (Err fault.Device) room fits first later = (
  to_be_bytes width n ++ later.1,
  room_short width limit n later.1 fits later.0 later.2,
  failed_more a b c (to_be_bytes width n) later.1 first later.3,
)
sized_more width limit n a b c (Err fault.Memory) room fits first later = (
  to_be_bytes width n ++ [],
  room_short width limit n [] fits later.0 (none-short n later.1),
  well_more a b c (to_be_bytes width n) [] first later.2,
)

-- No length was read.
number_fails : (width : Width) → HasNumbers width → (limit : ℕ) (a b : Device) (e : FrameFault) (room : List ℕ)
    → ReadsNumber width a (Err e) b → ReadsSized width limit a (Err e) b room
number_fails width numbers limit a b fault.BadFrame room none = absurd none
number_fails width numbers limit a b fault.CutOff room r = (r.0, length_short width numbers limit r.0 r.1, r.2)
number_fails width numbers limit a b fault.Device room r = (r.0, length_short width numbers limit r.0 r.1, r.2)
number_fails width numbers limit a b fault.Memory room none = absurd none

pub number_stops : (width : Width) → HasNumbers width → (limit : ℕ) (a b : Device) (r : Result Unit FrameFault) (e : FrameFault) (room : List ℕ)
    → IsErrAnd r (λ f. f ≡ e) → ReadsNumber width a (Err e) b → ReadsSized width limit a r b room
number_stops width numbers limit a b r e room is p =
    let q = err_from_is_err_and r is in rw (q.1, q.2) (number_fails width numbers limit a b e room p)

-- The bytes of a number were read.
pub number_read : (width : Width) (a b : Device) (room : List ℕ) (n : ℕ) → n < bound width → to_be_bytes width n ≡ room → HasReadWell a b room
    → ReadsNumber width a (Ok n) b
number_read width a b room n small is had = (small, subst (λ (l : List ℕ). HasReadWell a b l) (sym is) had)

-- Reading a pool file by its lengths, from left to right, with the first fault that is met.
use Rattle.std.specs.Prelude.{ℕ, zero, suc, List, [], ◌∷◌, length, take, drop, Result, Ok, Err, nat_lt, ◌==◌, ◌||◌, if◌then◌else◌}
use Rattle.std.specs.Int.{Width, w16, w32, w64, byte_len, from_be_bytes}
use Rattle.git_model.specs.RefStore.{first_head}
use Rattle.pool_file_format.specs.declared.refusal.Refusal.{Refusal}
use Rattle.pool_file_format.specs.declared.refusal.Refusal.TheVariants as refusal
use Rattle.std.specs.Str.{bytes_eq}
use Rattle.pool_file_format.specs.Format.{RawObject, RawRef, RawTenant, RawFile, magic, body_text}

-- A reading answers a value and the bytes after it, or a refusal.
abbrev pub Read : Type 0 → Type 0
Read A = List ℕ → Result (A × List ℕ) Refusal

infixl 10 ◌>>=◌
abbrev pub ◌>>=◌ : {A B : Type 0} → Result A Refusal → (A → Result B Refusal)
    → Result B Refusal
(Ok x) >>= f = f x
(Err e) >>= f = Err e

-- The next `n` bytes.
unfoldable pub bytes_at : ℕ → Read (List ℕ)
bytes_at n bytes =
    if nat_lt (length bytes) n then Err refusal.CutOff else Ok (take n bytes, drop n bytes)

-- A number of a width.
unfoldable pub number_at : Width → Read ℕ
number_at width bytes = do
  front ← bytes_at (byte_len width) bytes
  Ok (from_be_bytes width front.0, front.1)

-- Bytes after their length.
unfoldable pub sized_at : Width → Read (List ℕ)
sized_at width bytes = do
  n ← number_at width bytes
  bytes_at n.0 n.1

-- `n` of them, one after another.
unfoldable pub many_at : {A : Type 0} → Read A → ℕ → Read (List A)
many_at at zero bytes = Ok ([], bytes)
many_at at (suc n) bytes = do
  first ← at bytes
  others ← many_at at n first.1
  Ok (first.0 ∷ others.0, others.1)

-- As many as a count says.
unfoldable pub counted_at : {A : Type 0} → Read A → Read (List A)
counted_at at bytes = do
  n ← number_at w64 bytes
  many_at at n.0 n.1

-- One byte.
unfoldable pub byte_at : Read ℕ
byte_at [] = Err refusal.CutOff
byte_at (byte ∷ rest) = Ok (byte, rest)

unfoldable pub object_at : Read RawObject
object_at bytes = do
  kind ← byte_at bytes
  text ← sized_at w64 kind.1
  Ok (record { kind = kind.0; bytes = text.0 }, text.1)

unfoldable pub ref_at : Read RawRef
ref_at bytes = do
  name ← sized_at w16 bytes
  place ← number_at w64 name.1
  Ok (record { name = name.0; place = place.0 }, place.1)

-- Version 1 stores no HEAD: it names `refs/heads/main`.
unfoldable pub head_at : ℕ → Read (List ℕ)
head_at version bytes = if version == 1 then Ok (first_head, bytes) else sized_at w16 bytes

unfoldable pub tenant_at : ℕ → Read RawTenant
tenant_at version bytes = do
  name ← sized_at w16 bytes
  numbers ← counted_at (number_at w64) name.1
  refs ← counted_at ref_at numbers.1
  head ← head_at version refs.1
  Ok (record { name = name.0; numbers = numbers.0; refs = refs.0; head = head.0 }, head.1)

-- The first bytes are compared one by one, and the first other byte is refused.
unfoldable pub expected_at : ℕ → Read Unit
expected_at expected bytes = do
  byte ← byte_at bytes
  if byte.0 == expected then Ok (tt, byte.1) else Err refusal.NoPoolFile

unfoldable pub front_at : List ℕ → Read Unit
front_at [] bytes = Ok (tt, bytes)
front_at (expected ∷ more) bytes = do
  first ← expected_at expected bytes
  front_at more first.1

-- Versions 1 and 2 are read.
unfoldable pub version_at : Read ℕ
version_at bytes = do
  version ← number_at w32 bytes
  if version.0 == 1 || version.0 == 2 then Ok version else Err refusal.UnknownVersion

unfoldable pub body_at : Read RawFile
body_at bytes = do
  front ← front_at magic bytes
  version ← version_at front.1
  objects ← counted_at object_at version.1
  tenants ← counted_at (tenant_at version.0) objects.1
  Ok (record { version = version.0; objects = objects.0; tenants = tenants.0 }, tenants.1)

-- The input ends after the digest.
unfoldable pub end_at : Read Unit
end_at [] = Ok (tt, [])
end_at (byte ∷ rest) = Err refusal.TrailingBytes

-- A file, read by its lengths, and the digest after it. They are all of the bytes.
unfoldable pub by_lengths : Read (RawFile × List ℕ)
by_lengths bytes = do
  body ← body_at bytes
  digest ← bytes_at 20 body.1
  end ← end_at digest.1
  Ok ((body.0, digest.0), end.1)

-- A file whose digest is that of the bytes before it.
unfoldable pub sealed_at : (List ℕ → List ℕ) → Read RawFile
sealed_at digest bytes = do
  whole ← by_lengths bytes
  if bytes_eq whole.0.1 (digest (body_text whole.0.0))
      then Ok (whole.0.0, whole.1) else Err refusal.WrongDigest

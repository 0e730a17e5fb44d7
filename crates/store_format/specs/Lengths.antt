-- Reading a state, a row and a record by their lengths, from left to right, with the first fault
-- that is met.
use Rattle.std.specs.Prelude.{ℕ, zero, suc, List, Option, None, Some, Result, Ok, Err, ◌==◌, if◌then◌else◌}
use Rattle.std.specs.Int.{w16, w32, w64}
use Rattle.std.specs.Str.{bytes_eq}
use Rattle.pool_file_format.specs.declared.refusal.Refusal.{Refusal}
use Rattle.pool_file_format.specs.declared.refusal.Refusal.TheVariants as refusal
use Rattle.pool_file_format.specs.Lengths.{Read, ◌>>=◌, bytes_at, byte_at, number_at, sized_at, counted_at, end_at}
use Rattle.store_format.specs.State.{ContentsFile, Listing, State, magic, body_text}
use Rattle.store_format.specs.Rows.{Summary, Row, are_no_sizes}
use Rattle.store_format.specs.Records.{RefChange, TenantRecord}

unfoldable pub contents_file_at : Read ContentsFile
contents_file_at bytes = do
  number ← number_at w32 bytes
  size ← number_at w32 number.1
  Ok (record { number = number.0; size = size.0 }, size.1)

unfoldable pub listing_at : Read Listing
listing_at bytes = do
  number ← number_at w32 bytes
  count ← number_at w32 number.1
  size ← number_at w64 count.1
  chain ← bytes_at 20 size.1
  Ok (record { number = number.0; count = count.0; size = size.0; chain = chain.0 }, chain.1)

-- Eight bytes that must be these.
unfoldable pub magic_at : Read Unit
magic_at bytes = do
  front ← bytes_at 8 bytes
  if bytes_eq front.0 magic then Ok (tt, front.1) else Err refusal.NoPoolFile

-- Version 1 is read.
unfoldable pub version_at : Read Unit
version_at bytes = do
  version ← number_at w32 bytes
  if version.0 == 1 then Ok (tt, version.1) else Err refusal.UnknownVersion

unfoldable pub body_at : Read State
body_at bytes = do
  front ← magic_at bytes
  version ← version_at front.1
  generation ← number_at w64 version.1
  next ← number_at w32 generation.1
  contents ← counted_at contents_file_at next.1
  rows ← listing_at contents.1
  tenants ← listing_at rows.1
  Ok (
    record {
      generation = generation.0;
      next = next.0;
      contents = contents.0;
      rows = rows.0;
      tenants = tenants.0;
    },
    tenants.1,
  )

-- A state whose digest is that of the bytes before it. They are all of the bytes.
unfoldable pub state_at : (List ℕ → List ℕ) → Read State
state_at digest bytes = do
  body ← body_at bytes
  found ← bytes_at 20 body.1
  end ← end_at found.1
  if bytes_eq found.0 (digest (body_text body.0)) then Ok (body.0, end.1)
      else Err refusal.WrongDigest

-- The state that these bytes are, or the first refusal.
unfoldable pub state_of_bytes : (List ℕ → List ℕ) → List ℕ → Result State Refusal
state_of_bytes digest bytes = do
  state ← state_at digest bytes
  Ok state.0

-- The sizes of a summary, or none if all their bytes are 255.
abbrev pub summary_from : Summary → Option Summary
summary_from s = if are_no_sizes s then None else Some s

unfoldable pub sizes_at : Read Summary
sizes_at bytes = do
  files ← number_at w32 bytes
  depth ← number_at w16 files.1
  longest ← number_at w16 depth.1
  Ok (record { files = files.0; depth = depth.0; longest = longest.0 }, longest.1)

unfoldable pub summary_at : Read (Option Summary)
summary_at bytes = do
  sizes ← sizes_at bytes
  Ok (summary_from sizes.0, sizes.1)

unfoldable pub row_at : Read Row
row_at bytes = do
  id ← bytes_at 20 bytes
  kind ← byte_at id.1
  file ← number_at w32 kind.1
  offset ← number_at w32 file.1
  size ← number_at w32 offset.1
  summary ← summary_at size.1
  Ok (
    record {
      id = id.0;
      kind = kind.0;
      file = file.0;
      offset = offset.0;
      size = size.0;
      summary = summary.0;
    },
    summary.1,
  )

-- One less than the number, or none for 0.
abbrev pub one_less : ℕ → Option ℕ
one_less zero = None
one_less (suc n) = Some n

unfoldable pub optional_at : Read (Option ℕ)
optional_at bytes = do
  n ← number_at w32 bytes
  Ok (one_less n.0, n.1)

unfoldable pub change_at : Read RefChange
change_at bytes = do
  name ← sized_at w16 bytes
  target ← optional_at name.1
  Ok (record { name = name.0; target = target.0 }, target.1)

unfoldable pub record_at : Read TenantRecord
record_at bytes = do
  name ← sized_at w16 bytes
  base ← optional_at name.1
  shared ← number_at w32 base.1
  numbers ← counted_at (number_at w32) shared.1
  changes ← counted_at change_at numbers.1
  head ← sized_at w16 changes.1
  Ok (
    record {
      name = name.0;
      base = base.0;
      shared = shared.0;
      numbers = numbers.0;
      changes = changes.0;
      head = head.0;
    },
    head.1,
  )

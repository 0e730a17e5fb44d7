-- What a store says: the pool file of its repositories, with the objects in the order of the rows.
use Rattle.std.specs.Prelude.{ℕ, ◌+◌, List, [], ◌∷◌, ◌++◌, length, map, take, drop, Bool}
use Rattle.std.specs.Prelude.{Option, Some, None, Result, Ok, Err, nat_lt, ◌==◌, ◌&&◌, not, if◌then◌else◌, slice_get}
use Rattle.std.specs.List.{fold, filter}
use Rattle.std.specs.Ordering.{nat_cmp}
use Rattle.std.specs.Cmp.Lexicographic.{slice_cmp}
use Rattle.std.specs.Str.{bytes_eq}
use Rattle.std.specs.FinMap as finite
use Rattle.git_model.specs.RefStore.{first_head}
use Rattle.tenant_refs.specs.FullName.{full_name}
use Rattle.pool_file_format.specs.declared.refusal.Refusal.{Refusal}
use Rattle.pool_file_format.specs.declared.refusal.Refusal.TheVariants as refusal
use Rattle.pool_file_format.specs.Format.{RawObject, RawRef, RawTenant, RawFile}
use Rattle.pool_file_format.specs.Lengths.{Read, ◌>>=◌, bytes_at, many_at, end_at}
use Rattle.store_format.specs.State.{ContentsFile, Listing, State}
use Rattle.store_format.specs.Rows.{Row, row_text}
use Rattle.store_format.specs.Records.{RefChange, TenantRecord, record_text}
use Rattle.store_format.specs.Lengths.{row_at, record_at}
use Rattle.store_format.specs.Chains.{chained}

-- The bytes of the files that a state names: those of contents in its order, rows, and records.
-- Other files of the folder are not seen.
pub record Files : Type 0 where
  pub contents : List (List ℕ)
  pub rows : List ℕ
  pub tenants : List ℕ

-- ---- what counts: each file up to its size

-- The first bytes of a file; `CutOff` if it is shorter.
abbrev pub first_of : ℕ → List ℕ → Result (List ℕ) Refusal
first_of size bytes = bytes_at size bytes >>= λ front. Ok front.0

-- A file of contents under its number.
abbrev pub Numbered : Type 0
Numbered = ℕ × List ℕ

-- `CutOff` if a file is missing.
unfoldable pub contents_of : List ContentsFile → List (List ℕ) → Result (List Numbered) Refusal
contents_of [] files = Ok []
contents_of (c ∷ cs) [] = Err refusal.CutOff
contents_of (c ∷ cs) (bytes ∷ more) = do
  front ← first_of c.size bytes
  others ← contents_of cs more
  Ok ((c.number, front) ∷ others)

-- All that a listing counts is read, and nothing is left; its chain is right.
unfoldable pub listed : {A : Type 0} → (List ℕ → List ℕ) → (A → List ℕ) → Read A → Listing
    → List ℕ → Result (List A) Refusal
listed digest text at l bytes = do
  front ← first_of l.size bytes
  all ← many_at at l.count front
  end ← end_at all.1
  if bytes_eq l.chain (chained digest text all.0) then Ok all.0 else Err refusal.WrongDigest

-- ---- objects

-- The file with a number.
unfoldable pub file_of : List Numbered → ℕ → Result (List ℕ) Refusal
file_of [] number = Err refusal.MissingReference
file_of (f ∷ fs) number = if f.0 == number then Ok f.1 else file_of fs number

-- The bytes at a place of a file; `MissingReference` if the file ends before the place does.
abbrev pub bytes_from : ℕ → ℕ → List ℕ → Result (List ℕ) Refusal
bytes_from offset size bytes =
    if nat_lt (length bytes) (offset + size) then Err refusal.MissingReference
    else Ok (take size (drop offset bytes))

unfoldable pub object_of : List Numbered → Row → Result RawObject Refusal
object_of files r = do
  bytes ← file_of files r.file
  content ← bytes_from r.offset r.size bytes
  Ok (record { kind = r.kind; bytes = content })

unfoldable pub objects_of : List Numbered → List Row → Result (List RawObject) Refusal
objects_of files [] = Ok []
objects_of files (r ∷ rs) = do
  first ← object_of files r
  others ← objects_of files rs
  Ok (first ∷ others)

-- ---- tenants

-- Refs by their names, without namespaces, each with the position of its target.
abbrev pub Targets : Type 0
Targets = finite.FinMap (slice_cmp nat_cmp) ℕ

-- What the last record of a tenant says: its rows, refs and HEAD.
pub record Told : Type 0 where
  pub name : List ℕ
  pub numbers : List ℕ
  pub refs : Targets
  pub head : List ℕ

abbrev pub set_ref : Targets → List ℕ → Option ℕ → Targets
set_ref refs name None = finite.remove refs name
set_ref refs name (Some place) = finite.insert refs name place

abbrev pub changed : Targets → RefChange → Targets
changed refs c = set_ref refs c.name c.target

abbrev pub found_base : Option Told → Result (List ℕ × Targets) Refusal
found_base None = Err refusal.MissingReference
found_base (Some told) = Ok (told.numbers, told.refs)

-- The objects and refs of an earlier record; none if the record stands on none.
unfoldable pub base_of : List Told → Option ℕ → Result (List ℕ × Targets) Refusal
base_of before None = Ok ([], finite.empty)
base_of before (Some r) = found_base (slice_get before r)

-- The first objects of a list.
abbrev pub shared_of : ℕ → List ℕ → Result (List ℕ) Refusal
shared_of count numbers =
    if nat_lt (length numbers) count then Err refusal.MissingReference else Ok (take count numbers)

-- A record, after those before it.
unfoldable pub told_after : List Told → TenantRecord → Result Told Refusal
told_after before r = do
  base ← base_of before r.base
  shared ← shared_of r.shared base.0
  Ok (record {
    name = r.name;
    numbers = shared ++ r.numbers;
    refs = fold changed base.1 r.changes;
    head = r.head;
  })

unfoldable pub all_told : List Told → List TenantRecord → Result (List Told) Refusal
all_told before [] = Ok before
all_told before (r ∷ rs) = do
  told ← told_after before r
  all_told (before ++ told ∷ []) rs

-- A ref in a pool file.
abbrev pub raw_ref : List ℕ → List ℕ × ℕ → RawRef
raw_ref tenant e = record { name = full_name tenant e.0; place = e.1 }

abbrev pub raw_tenant : Told → RawTenant
raw_tenant t = record {
  name = t.name;
  numbers = t.numbers;
  refs = map (raw_ref t.name) (finite.entries t.refs);
  head = t.head;
}

-- A tenant without objects whose HEAD names `refs/heads/main` is none: so a record says that a
-- tenant is gone.
abbrev pub is_worth : Told → Bool
is_worth t = not ((length t.numbers == 0) && bytes_eq t.head first_head)

-- The last record of each name, in the order of names.
abbrev pub last_told : List Told → List Told
last_told all = finite.values
    (fold (λ m t. finite.insert m t.name t) (finite.empty {R = slice_cmp nat_cmp}) all)

unfoldable pub tenants_of : List TenantRecord → Result (List RawTenant) Refusal
tenants_of rs = do
  all ← all_told [] rs
  Ok (map raw_tenant (filter is_worth (last_told all)))

-- ---- the store

-- What counts of a store's files.
pub record Counted : Type 0 where
  pub contents : List Numbered
  pub rows : List Row
  pub records : List TenantRecord

unfoldable pub counted_in : (List ℕ → List ℕ) → State → Files → Result Counted Refusal
counted_in digest s files = do
  contents ← contents_of s.contents files.contents
  rows ← listed digest row_text row_at s.rows files.rows
  records ← listed digest record_text record_at s.tenants files.tenants
  Ok (record { contents = contents; rows = rows; records = records })

unfoldable pub meant : Counted → Result RawFile Refusal
meant c = do
  objects ← objects_of c.contents c.rows
  tenants ← tenants_of c.records
  Ok (record { version = 2; objects = objects; tenants = tenants })

-- What a store says, or the first refusal.
unfoldable pub says : (List ℕ → List ℕ) → State → Files → Result RawFile Refusal
says digest s files = counted_in digest s files >>= meant

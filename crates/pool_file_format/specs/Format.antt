-- The pool file as bytes, a format of this service's own. All numbers are big-endian.
use Rattle.std.specs.Prelude.{◌≡◌, ℕ, ◌<◌, ◌*◌, ◌^◌, ◌==◌, ◌⊎◌, Bool, true, false, List, [], ◌∷◌, ◌++◌, length, codes, if◌then◌else◌}
use Rattle.std.specs.Int.{Width, w16, w32, w64, to_be_bytes, byte_len}
use Rattle.std.specs.List.{flat_map, AllByRecursion}
use Rattle.git_model.specs.RefStore.{first_head}

-- ---- what a file says, number by number

-- An object: the byte of its kind, and its contents.
pub record RawObject : Type 0 where
  pub kind : ℕ
  pub bytes : List ℕ

-- A ref: its full name, and the position of its target among the tenant's objects.
pub record RawRef : Type 0 where
  pub name : List ℕ
  pub place : ℕ

-- A tenant: its name, the numbers of its objects in the file's list, its refs, and the ref that
-- HEAD names.
pub record RawTenant : Type 0 where
  pub name : List ℕ
  pub numbers : List ℕ
  pub refs : List RawRef
  pub head : List ℕ

-- A file: its version, all objects, and all tenants.
pub record RawFile : Type 0 where
  pub version : ℕ
  pub objects : List RawObject
  pub tenants : List RawTenant

-- ---- the bytes

-- Bytes after their length.
abbrev pub sized : Width → List ℕ → List ℕ
sized width bytes = to_be_bytes width (length bytes) ++ bytes

-- Texts after their count.
abbrev pub counted : {A : Type 0} → (A → List ℕ) → List A → List ℕ
counted text xs = to_be_bytes w64 (length xs) ++ flat_map text xs

abbrev pub number_text : ℕ → List ℕ
number_text n = to_be_bytes w64 n

abbrev pub object_text : RawObject → List ℕ
object_text o = o.kind ∷ sized w64 o.bytes

abbrev pub ref_text : RawRef → List ℕ
ref_text r = sized w16 r.name ++ number_text r.place

-- Version 1 has no HEAD.
abbrev pub head_text : ℕ → List ℕ → List ℕ
head_text version head = if version == 1 then [] else sized w16 head

abbrev pub tenant_text : ℕ → RawTenant → List ℕ
tenant_text version t = sized w16 t.name
    ++ (counted number_text t.numbers
    ++ (counted ref_text t.refs ++ head_text version t.head))

-- The first eight bytes.
abbrev pub magic : List ℕ
magic = codes "gitpool" ++ 10 ∷ []

-- All bytes before the digest.
abbrev pub body_text : RawFile → List ℕ
body_text f = magic ++ (to_be_bytes w32 f.version
    ++ (counted object_text f.objects ++ counted (tenant_text f.version) f.tenants))

-- The file: its body, and the digest of its body.
abbrev pub raw_text : (List ℕ → List ℕ) → RawFile → List ℕ
raw_text digest f = body_text f ++ digest (body_text f)

-- ---- which files have a text

-- A length or a number that fits a width.
abbrev pub FitsIn : Width → List ℕ → Type 0
FitsIn width bytes = length bytes < 2 ^ (8 * byte_len width)

abbrev pub FitsNumber : ℕ → Type 0
FitsNumber n = n < 2 ^ 64

-- Few enough to be counted in eight bytes, and each fits.
abbrev pub AreCounted : {A : Type 0} → (A → Type 0) → List A → Type 0
AreCounted Fits xs = (length xs < 2 ^ 64) × AllByRecursion Fits xs

pub record FitsObject (o : RawObject) : Type 0 where
  pub kind : o.kind < 256
  pub bytes : FitsIn w64 o.bytes

pub record FitsRef (r : RawRef) : Type 0 where
  pub name : FitsIn w16 r.name
  pub place : FitsNumber r.place

-- In version 1, HEAD names `refs/heads/main`.
abbrev pub FitsAsHead : Bool → List ℕ → Type 0
FitsAsHead true head = head ≡ first_head
FitsAsHead false head = FitsIn w16 head

abbrev pub FitsHead : ℕ → List ℕ → Type 0
FitsHead version head = FitsAsHead (version == 1) head

pub record FitsTenant (version : ℕ) (t : RawTenant) : Type 0 where
  pub name : FitsIn w16 t.name
  pub numbers : AreCounted FitsNumber t.numbers
  pub refs : AreCounted FitsRef t.refs
  pub head : FitsHead version t.head

pub record FitsFile (f : RawFile) : Type 0 where
  pub version : (f.version ≡ 1) ⊎ (f.version ≡ 2)
  pub objects : AreCounted FitsObject f.objects
  pub tenants : AreCounted (FitsTenant f.version) f.tenants

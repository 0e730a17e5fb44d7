-- Records of tenants: what a tenant has, told by what an earlier record had.
use Rattle.std.specs.Prelude.{ℕ, suc, ◌<◌, ◌^◌, List, ◌++◌, Option, None, Some}
use Rattle.std.specs.Int.{w16, w32, to_be_bytes}
use Rattle.pool_file_format.specs.Format.{sized, counted, FitsIn, AreCounted}

-- A change of a ref: its name without the namespaces of its tenant, and the position of its target
-- among the tenant's objects, from 0; none if the ref is deleted.
pub record RefChange : Type 0 where
  pub name : List ℕ
  pub target : Option ℕ

-- A record: the tenant's name; the number of an earlier record, from 0, if it stands on one; how
-- many objects of that record come first; the numbers of the rows of the objects after them; how
-- its refs differ from those of that record; and the ref that HEAD names.
pub record TenantRecord : Type 0 where
  pub name : List ℕ
  pub base : Option ℕ
  pub shared : ℕ
  pub numbers : List ℕ
  pub changes : List RefChange
  pub head : List ℕ

-- ---- the bytes

-- Four bytes.
abbrev pub row_number_text : ℕ → List ℕ
row_number_text n = to_be_bytes w32 n

-- Four bytes: 1 more than the number, or 0 for none.
abbrev pub optional_text : Option ℕ → List ℕ
optional_text None = to_be_bytes w32 0
optional_text (Some n) = to_be_bytes w32 (suc n)

abbrev pub change_text : RefChange → List ℕ
change_text c = sized w16 c.name ++ optional_text c.target

abbrev pub record_text : TenantRecord → List ℕ
record_text r = sized w16 r.name ++ (optional_text r.base ++ (to_be_bytes w32 r.shared
    ++ (counted row_number_text r.numbers ++ (counted change_text r.changes ++ sized w16 r.head))))

-- ---- which records have a text

abbrev pub FitsOptional : Option ℕ → Type 0
FitsOptional None = Unit {0}
FitsOptional (Some n) = suc n < 2 ^ 32

pub record FitsChange (c : RefChange) : Type 0 where
  pub name : FitsIn w16 c.name
  pub target : FitsOptional c.target

pub record FitsRecord (r : TenantRecord) : Type 0 where
  pub name : FitsIn w16 r.name
  pub base : FitsOptional r.base
  pub shared : r.shared < 2 ^ 32
  pub numbers : AreCounted (λ n. n < 2 ^ 32) r.numbers
  pub changes : AreCounted FitsChange r.changes
  pub head : FitsIn w16 r.head

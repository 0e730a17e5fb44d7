-- Which objects a file may have, and in which order: git-fsck(1), the validity of objects. The
-- limits and the order are this service's own.
use Rattle.std.specs.Prelude.{◌≡◌, ℕ, ◌≤◌, List, [], ◌∷◌, length, Option, None, Some}
use Rattle.std.specs.Ordering.{nat_cmp}
use Rattle.std.specs.Cmp.Lexicographic.{slice_cmp}
use Rattle.std.specs.declared.cmp.Ordering.TheVariants.{Less}
use Rattle.git_model.specs.declared.kind.Kind.{Kind}
use Rattle.git_model.specs.declared.kind.Kind.TheVariants as kind
use Rattle.git_model.specs.Tree.{TreeEntry}
use Rattle.git_model.specs.Commit.{Commit}
use Rattle.git_model.specs.Tag.{Tag}
use Rattle.git_model.specs.Content.{Content}
use Rattle.git_model.specs.GoodRepository.{IsCommit, IsTag, contents_limit}
pub use Rattle.tenant_tables.specs.Sums.{IsTreeText}
use Rattle.pool_file_format.specs.declared.refusal.Refusal.TheVariants as refusal
use Rattle.pool_file_format.specs.Format.{RawObject}
use Rattle.pool_file_checks.specs.Checks.{Checks}

-- The byte of a kind.
abbrev pub kind_byte : Kind → ℕ
kind_byte kind.Commit = 1
kind_byte kind.Tree = 2
kind_byte kind.Blob = 3
kind_byte kind.Tag = 4

-- The bytes are contents of this kind, whatever other objects there are. A blob may have any bytes.
abbrev pub IsText : Kind → List ℕ → Type 0
IsText kind.Blob bytes = Unit {0}
IsText kind.Tree bytes = (es : List TreeEntry) × IsTreeText bytes es
IsText kind.Commit bytes = (c : Commit) × IsCommit bytes c
IsText kind.Tag bytes = (t : Tag) × IsTag bytes t

abbrev pub IsContent : Content → Type 0
IsContent c = (length c.bytes ≤ contents_limit) × IsText c.kind c.bytes

-- A content as an object of the file.
abbrev pub raw_object : Content → RawObject
raw_object c = record { kind = kind_byte c.kind; bytes = c.bytes }

-- The byte is that of a kind, and the bytes are contents of it.
abbrev pub CanStore : RawObject → Type 0
CanStore o = (c : Content) × (o ≡ raw_object c) × IsContent c

-- Objects compare by the byte of their kind, and then by their bytes.
abbrev pub object_key : RawObject → List ℕ
object_key o = o.kind ∷ o.bytes

-- A text comes after the last one, if there is one.
abbrev pub IsAfter : Option (List ℕ) → List ℕ → Type 0
IsAfter None text = Unit {0}
IsAfter (Some last) text = slice_cmp nat_cmp last text ≡ Less

-- Each object in turn can be stored, and comes after the one before it.
abbrev pub object_checks : Option (List ℕ) → List RawObject → Checks
object_checks last [] = []
object_checks last (o ∷ os) =
    (CanStore o, refusal.BadObject)
    ∷ (IsAfter last (object_key o), refusal.NotCanonical)
    ∷ object_checks (Some (object_key o)) os

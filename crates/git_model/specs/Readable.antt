-- Readable contents: what Git can walk, whoever wrote it. git-fsck(1) may object to much of it, and
-- `CanWriteCommit`, `CanWriteTag` and `CanWriteTree` tell what this program writes itself.
use Rattle.std.specs.Prelude.{◌≡◌, ◌≢◌, ◌≤◌, ℕ, Bool, List, [], ◌∷◌, ◌++◌, length, All, codes}
use Rattle.std.specs.List.{flat_map, AllPass}
use Rattle.std.specs.Char.{is_digit}
use Rattle.hex.specs.Hex.{is_hex_digit}
use Rattle.git_model.specs.declared.kind.Kind.{Kind}
use Rattle.git_model.specs.declared.kind.Kind.TheVariants as kind
use Rattle.git_model.specs.Kind.{kind_word}
use Rattle.git_model.specs.Bytes.{BeginsWith}
use Rattle.git_model.specs.Limits.{parents_limit}
use Rattle.git_model.specs.ObjectName.{IsObjectName}
use Rattle.git_model.specs.Tree.{TreeEntry}
use Rattle.git_model.specs.Commit.{line}
use Rattle.git_model.specs.TreeReading.{mode_named_by}

-- ---- header lines

-- An object name is given by 40 hexadecimal digits of either case.
pub record AreNameDigits (digits : List ℕ) : Type 0 where
  pub size : length digits ≡ 40
  pub hexadecimal : AllPass is_hex_digit digits

-- ---- commits

-- The lines that a commit begins with: the digits of its tree and of its parents.
pub record CommitFront : Type 0 where
  pub tree : List ℕ
  pub parents : List (List ℕ)

abbrev pub commit_front : CommitFront → List ℕ
commit_front front =
    line (codes "tree ") front.tree ++ flat_map (line (codes "parent ")) front.parents

-- The lines of a commit's tree and of all its parents, before any rest that is not empty.
pub record IsCommitFront (front : CommitFront) (rest : List ℕ) : Type 0 where
  pub tree : AreNameDigits front.tree
  pub parents : All AreNameDigits front.parents
  pub few_parents : length front.parents ≤ parents_limit
  pub not_all : rest ≢ []
  pub no_more_parents : ¬ BeginsWith rest (codes "parent ")

-- ---- tags

-- The lines that a tag begins with: the digits of its target, the target's kind, and its own name.
pub record TagFront : Type 0 where
  pub target : List ℕ
  pub kind : Kind
  pub name : List ℕ

abbrev pub tag_front : TagFront → List ℕ
tag_front front =
    line (codes "object ") front.target
    ++ line (codes "type ") (kind_word front.kind)
    ++ line (codes "tag ") front.name

-- A tag's name is any text on one line, and may be empty.
pub record IsTagFront (front : TagFront) : Type 0 where
  pub target : AreNameDigits front.target
  pub name : All (λ byte. byte ≢ 10) front.name

-- ---- trees

-- An entry as its tree has it: the digits of its mode, its name, and the name of its object.
pub record RawEntry : Type 0 where
  pub mode : List ℕ
  pub name : List ℕ
  pub id : List ℕ

abbrev pub raw_entry_text : RawEntry → List ℕ
raw_entry_text e = e.mode ++ codes " " ++ e.name ++ 0 ∷ e.id

abbrev pub is_octal_digit : ℕ → Bool
is_octal_digit byte = is_digit byte 8

-- A mode is written by 1 to 7 octal digits.
pub record AreModeDigits (digits : List ℕ) : Type 0 where
  pub not_empty : digits ≢ []
  pub short : length digits ≤ 7
  pub octal : AllPass is_octal_digit digits

-- A name has at least one byte, and no NUL. It may have a slash, and names may come in any order.
pub record IsRawEntry (e : RawEntry) : Type 0 where
  pub mode : AreModeDigits e.mode
  pub not_empty : e.name ≢ []
  pub no_nul : All (λ byte. byte ≢ 0) e.name
  pub id : IsObjectName e.id

-- The entry that it is, whose mode is one of the five that Git has.
abbrev pub entry_from : RawEntry → TreeEntry
entry_from e = record { mode = mode_named_by e.mode; name = e.name; id = e.id }

-- ---- each kind

-- A commit begins with the lines of its tree and parents, a tag with those of its target and name,
-- and any bytes may follow. A tree consists of entries. Any bytes can be read as a blob.
abbrev pub IsReadable : Kind → List ℕ → Type 0
IsReadable kind.Blob bytes = Unit {0}
IsReadable kind.Tree bytes =
    (es : List RawEntry) × All IsRawEntry es × (bytes ≡ flat_map raw_entry_text es)
IsReadable kind.Commit bytes = (front : CommitFront) × (rest : List ℕ)
    × IsCommitFront front rest × (bytes ≡ commit_front front ++ rest)
IsReadable kind.Tag bytes =
    (front : TagFront) × (rest : List ℕ) × IsTagFront front × (bytes ≡ tag_front front ++ rest)

-- Rows: where the content of each object is, and what is known of a tree without reading it.
use Rattle.std.specs.Prelude.{◌≡◌, ℕ, ◌<◌, ◌^◌, ◌==◌, ◌&&◌, Bool, false, List, [], ◌∷◌, ◌++◌, length, Option, None, Some}
use Rattle.std.specs.Int.{w16, w32, to_be_bytes}
use Rattle.git_model.specs.declared.kind.Kind.{Kind}
use Rattle.git_model.specs.declared.kind.Kind.TheVariants as kind
use Rattle.git_model.specs.Repository.{Object}

-- The summary of a tree: how many files are below it, and how many components and bytes its longest
-- paths have.
pub record Summary : Type 0 where
  pub files : ℕ
  pub depth : ℕ
  pub longest : ℕ

-- A content: its object name, the byte of its kind, the number of its file, where it begins in the
-- file, and how many bytes it has. A tree whose entries are those of a directory has a summary. No
-- other tree, and no object of another kind, has one.
pub record Row : Type 0 where
  pub id : List ℕ
  pub kind : ℕ
  pub file : ℕ
  pub offset : ℕ
  pub size : ℕ
  pub summary : Option Summary

-- ---- the bytes

abbrev pub place_text : Row → List ℕ
place_text r = to_be_bytes w32 r.file ++ (to_be_bytes w32 r.offset ++ to_be_bytes w32 r.size)

abbrev pub sizes_text : Summary → List ℕ
sizes_text s = to_be_bytes w32 s.files ++ (to_be_bytes w16 s.depth ++ to_be_bytes w16 s.longest)

-- The sizes that stand where there is no summary: all their bytes are 255.
abbrev pub no_sizes : Summary
no_sizes = record { files = 4294967295; depth = 65535; longest = 65535 }

abbrev pub are_no_sizes : Summary → Bool
are_no_sizes s = s.files == 4294967295 && s.depth == 65535 && s.longest == 65535

-- Eight bytes.
abbrev pub summary_text : Option Summary → List ℕ
summary_text None = sizes_text no_sizes
summary_text (Some s) = sizes_text s

-- 41 bytes.
abbrev pub row_text : Row → List ℕ
row_text r = r.id ++ ((r.kind ∷ []) ++ (place_text r ++ summary_text r.summary))

-- ---- which rows have a text

pub record FitsSizes (s : Summary) : Type 0 where
  pub files : s.files < 2 ^ 32
  pub depth : s.depth < 2 ^ 16
  pub longest : s.longest < 2 ^ 16

abbrev pub FitsSummary : Option Summary → Type 0
FitsSummary None = Unit {0}
FitsSummary (Some s) = FitsSizes s × (are_no_sizes s ≡ false)

pub record FitsRow (r : Row) : Type 0 where
  pub id : length r.id ≡ 20
  pub kind : r.kind < 256
  pub file : r.file < 2 ^ 32
  pub offset : r.offset < 2 ^ 32
  pub size : r.size < 2 ^ 32
  pub summary : FitsSummary r.summary

-- ---- rows of objects

-- The byte of a kind, as in pool files.
abbrev pub kind_byte : Kind → ℕ
kind_byte kind.Commit = 1
kind_byte kind.Tree = 2
kind_byte kind.Blob = 3
kind_byte kind.Tag = 4

-- The row of an object whose contents begin at a place of a file.
abbrev pub row_for : Object → ℕ → ℕ → Option Summary → Row
row_for o file offset summary = record {
  id = o.id;
  kind = kind_byte o.content.kind;
  file = file;
  offset = offset;
  size = length o.content.bytes;
  summary = summary;
}

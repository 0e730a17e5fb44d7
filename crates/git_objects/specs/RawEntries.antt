-- The entries of any tree that Git can walk.
use Rattle.std.specs.Prelude.{◌≡◌, ◌≢◌, ℕ, List, [], ◌++◌, map, All, codes}
use Rattle.std.specs.List.{flat_map}
use Rattle.git_objects.specs.declared.tree.RawEntry as raw
use Rattle.git_model.specs.Tree.{TreeEntry}
use Rattle.git_model.specs.Readable.{RawEntry, IsRawEntry, raw_entry_text, entry_from}

abbrev pub raw_entry_of : raw.RawEntry → RawEntry
raw_entry_of e = record { mode = e.mode.now; name = e.name.now; id = e.id }

abbrev pub digits_text : List ℕ → List ℕ
digits_text digits = digits ++ codes " "

-- A name has at least one byte, and no NUL.
pub record IsRawName (name : List ℕ) : Type 0 where
  pub not_empty : name ≢ []
  pub no_nul : All (λ byte. byte ≢ 0) name

-- Some of the entries, at the front of a tree's contents.
pub record EntriesSoFar (bytes : List ℕ) (es : List TreeEntry) (rest : List ℕ) : Type 0 where
  pub raws : List RawEntry
  pub entries : All IsRawEntry raws
  pub are : es ≡ map entry_from raws
  pub text : bytes ≡ flat_map raw_entry_text raws ++ rest

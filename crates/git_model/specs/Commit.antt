-- Commit objects: "commit object" in gitglossary(7), and the header lines that git-cat-file(1)
-- prints.
use Rattle.std.specs.Prelude.{◌≢◌, ℕ, List, [], ◌∷◌, ◌++◌, All, Option, None, Some, IfSome, codes}
use Rattle.std.specs.List.{flat_map}
use Rattle.hex.specs.Hex.{encode_lower}
use Rattle.git_model.specs.ObjectName.{IsObjectName}
use Rattle.git_model.specs.Ident.{IsWrittenIdent}

-- A commit: the names of its tree and of its parents, its author and committer, perhaps the
-- encoding of its message, and its message.
pub record Commit : Type 0 where
  pub tree : List ℕ
  pub parents : List (List ℕ)
  pub author : List ℕ
  pub committer : List ℕ
  pub encoding : Option (List ℕ)
  pub message : List ℕ

-- A header line is a word with the space after it, a text, and a line end.
abbrev pub line : List ℕ → List ℕ → List ℕ
line word text = word ++ text ++ 10 ∷ []

-- A header line writes an object name as 40 lowercase hexadecimal digits.
abbrev pub name_line : List ℕ → List ℕ → List ℕ
name_line word id = line word (encode_lower id)

-- A line that may be missing.
abbrev pub optional_line : List ℕ → Option (List ℕ) → List ℕ
optional_line word None = []
optional_line word (Some text) = line word text

-- The contents of a commit are its header lines, an empty line and its message.
abbrev pub commit_contents : Commit → List ℕ
commit_contents c =
    name_line (codes "tree ") c.tree
    ++ flat_map (name_line (codes "parent ")) c.parents
    ++ line (codes "author ") c.author
    ++ line (codes "committer ") c.committer
    ++ optional_line (codes "encoding ") c.encoding
    ++ 10 ∷ c.message

-- An encoding is any text that is not empty and has no line end.
pub record IsEncoding (text : List ℕ) : Type 0 where
  pub not_empty : text ≢ []
  pub one_line : All (λ byte. byte ≢ 10) text

-- The commits that can be written.
pub record CanWriteCommit (c : Commit) : Type 0 where
  pub tree : IsObjectName c.tree
  pub parents : All IsObjectName c.parents
  pub author : IsWrittenIdent c.author
  pub committer : IsWrittenIdent c.committer
  pub encoding : IfSome c.encoding IsEncoding

-- The parts of a commit's text.
use Rattle.std.specs.Prelude.{◌≡◌, ◌≢◌, ℕ, List, ◌++◌, All, Option, IfSome, codes}
use Rattle.std.specs.List.{flat_map}
use Rattle.git_model.specs.ObjectName.{IsObjectName}
use Rattle.git_model.specs.Ident.{IsWrittenIdent}
use Rattle.git_model.specs.Commit.{line, name_line, IsEncoding}

-- All the parents' lines at the front of a text: no such line follows them.
pub record AreParents (bytes : List ℕ) (parents : List (List ℕ)) (rest : List ℕ) : Type 0 where
  pub names : All IsObjectName parents
  pub lines : bytes ≡ flat_map (name_line (codes "parent ")) parents ++ rest
  pub no_more : (id : List ℕ) (more : List ℕ) → IsObjectName id
      → rest ≢ name_line (codes "parent ") id ++ more

-- The author's and the committer's lines.
abbrev pub IsIdents : List ℕ × List ℕ → Type 0
IsIdents who = IsWrittenIdent who.0 × IsWrittenIdent who.1

abbrev pub idents_text : List ℕ × List ℕ → List ℕ
idents_text who = line (codes "author ") who.0 ++ line (codes "committer ") who.1

-- The encoding, if there is one.
abbrev pub IsEncoded : Option (List ℕ) → Type 0
IsEncoded encoding = IfSome encoding IsEncoding

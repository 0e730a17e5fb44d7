-- Object names: git-hash-object(1), and "object name" in gitglossary(7).
use Rattle.std.specs.Prelude.{◌≡◌, ◌<◌, ℕ, List, [], ◌∷◌, ◌++◌, length, All, codes, decimal}
use Rattle.git_model.specs.declared.kind.Kind.{Kind}
use Rattle.git_model.specs.Kind.{kind_word}

-- The header of an object: its kind, a space, the size of its contents in decimal digits, and a
-- NUL.
abbrev pub header : Kind → List ℕ → List ℕ
header kind contents = kind_word kind ++ codes " " ++ decimal (length contents) ++ 0 ∷ []

-- An object's name is the digest of its header and its contents. The digest is any fixed function
-- of bytes, and nothing is assumed of it: two contents may have the same name.
unfoldable pub object_name : (List ℕ → List ℕ) → Kind → List ℕ → List ℕ
object_name digest kind contents = digest (header kind contents ++ contents)

-- An object name is 20 bytes.
pub record IsObjectName (id : List ℕ) : Type 0 where
  pub size : length id ≡ 20
  pub bytes : All (λ byte. byte < 256) id

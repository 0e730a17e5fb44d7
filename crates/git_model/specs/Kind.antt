-- Kinds of object: git-cat-file(1), "type".
use Rattle.std.specs.Prelude.{ℕ, List, codes}
use Rattle.git_model.specs.declared.kind.Kind.{Kind}
use Rattle.git_model.specs.declared.kind.Kind.TheVariants as kind

-- The word that Git writes for a kind.
abbrev pub kind_word : Kind → List ℕ
kind_word kind.Commit = codes "commit"
kind_word kind.Tree = codes "tree"
kind_word kind.Blob = codes "blob"
kind_word kind.Tag = codes "tag"

-- Tag objects: "tag object" in gitglossary(7), and git-mktag(1).
use Rattle.std.specs.Prelude.{◌≢◌, ℕ, List, ◌∷◌, ◌++◌, Option, IfSome, codes}
use Rattle.git_model.specs.declared.kind.Kind.{Kind}
use Rattle.git_model.specs.declared.kind.Kind.TheVariants as kind
use Rattle.git_model.specs.Kind.{kind_word}
use Rattle.git_model.specs.ObjectName.{IsObjectName}
use Rattle.git_model.specs.RefName.{IsRefName}
use Rattle.git_model.specs.Ident.{IsWrittenIdent}
use Rattle.git_model.specs.Commit.{line, name_line, optional_line}

-- A tag: the name and the kind of its target, its own name, perhaps its tagger, and its message.
pub record Tag : Type 0 where
  pub target : List ℕ
  pub kind : Kind
  pub name : List ℕ
  pub tagger : Option (List ℕ)
  pub message : List ℕ

-- The contents of a tag are its header lines, an empty line and its message.
abbrev pub tag_contents : Tag → List ℕ
tag_contents t =
    name_line (codes "object ") t.target
    ++ line (codes "type ") (kind_word t.kind)
    ++ line (codes "tag ") t.name
    ++ optional_line (codes "tagger ") t.tagger
    ++ 10 ∷ t.message

-- The tags that can be written: the target is a commit, a blob or a tag, and `refs/tags/` followed
-- by the tag's name is a ref name.
pub record CanWriteTag (t : Tag) : Type 0 where
  pub target : IsObjectName t.target
  pub kind : t.kind ≢ kind.Tree
  pub name : IsRefName (codes "refs/tags/" ++ t.name)
  pub tagger : IfSome t.tagger IsWrittenIdent

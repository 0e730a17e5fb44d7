-- The parts of a tag's text.
use Rattle.std.specs.Prelude.{◌≢◌, ℕ, List, Option, IfSome, codes}
use Rattle.git_model.specs.declared.kind.Kind.{Kind}
use Rattle.git_model.specs.declared.kind.Kind.TheVariants as kind
use Rattle.git_model.specs.Kind.{kind_word}
use Rattle.git_model.specs.Ident.{IsWrittenIdent}
use Rattle.git_model.specs.Commit.{line}

-- The kinds of object that can be tagged.
abbrev pub IsTagged : Kind → Type 0
IsTagged k = k ≢ kind.Tree

abbrev pub kind_line : Kind → List ℕ
kind_line k = line (codes "type ") (kind_word k)

-- The tagger, if there is one.
abbrev pub IsTagger : Option (List ℕ) → Type 0
IsTagger tagger = IfSome tagger IsWrittenIdent

-- The content of an object, without its name: "object" of gitglossary(7).
use Rattle.std.specs.Prelude.{ℕ, ◌&&◌, Bool, List, []}
use Rattle.std.specs.Str.{bytes_eq}
use Rattle.git_model.specs.declared.kind.Kind.{Kind}
use Rattle.git_model.specs.declared.kind.Kind.TheVariants.{Blob}
use Rattle.git_model.specs.Kind.{kind_word}
use Rattle.git_model.specs.ObjectName.{object_name}

-- The content of an object is its kind and its bytes.
pub record Content : Type 0 where
  pub kind : Kind
  pub bytes : List ℕ

-- The content of this kind with these bytes.
abbrev pub content_from : Kind → List ℕ → Content
content_from kind bytes = record { kind = kind; bytes = bytes }

-- A placeholder, for definitions that must answer a content even if there is none.
abbrev pub no_content : Content
no_content = content_from Blob []

-- The object name of a content.
abbrev pub name_by : (List ℕ → List ℕ) → Content → List ℕ
name_by digest c = object_name digest c.kind c.bytes

-- Two contents are the same if their kinds and their bytes are.
abbrev pub same_content : Content → Content → Bool
same_content c d = bytes_eq (kind_word c.kind) (kind_word d.kind) && bytes_eq c.bytes d.bytes

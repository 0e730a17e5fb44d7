-- Repositories: "repository", "object" and "ref" of gitglossary(7).
use Rattle.std.specs.Prelude.{ℕ, Bool, List, [], ◌∷◌, ◌++◌, Option, None, Some, false, is_some, if◌then◌else◌}
use Rattle.std.specs.Option.{option_map_or}
use Rattle.std.specs.Str.{bytes_eq}
use Rattle.git_model.specs.Content.{Content, same_content}
use Rattle.git_model.specs.RefStore.{RefStore}

-- An object is a name and a content, which is a kind and bytes.
pub record Object : Type 0 where
  pub id : List ℕ
  pub content : Content

-- A repository has objects, oldest first and no two with the same name, and refs with HEAD.
pub record Repository : Type 0 where
  pub objects : List Object
  pub refs : RefStore

-- The content of the object with this name, if there is one.
unfoldable pub object_named : List ℕ → List Object → Option Content
object_named id [] = None
object_named id (o ∷ os) = if bytes_eq id o.id then Some o.content else object_named id os

-- Whether there is an object with this name and this content.
abbrev pub has_object : List ℕ → Content → List Object → Bool
has_object id c os = option_map_or (same_content c) (object_named id os) false

-- The objects with one more at the end, unless there is one with this name.
abbrev pub with_object : List ℕ → Content → List Object → List Object
with_object id c os =
    if is_some (object_named id os) then os else os ++ record { id = id; content = c } ∷ []

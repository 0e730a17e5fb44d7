-- What some names reach and others do not: git-rev-list(1), --objects, but exact: git may give more.
use Rattle.std.specs.Prelude.{ℕ, Bool, not, ◌&&◌, List, map, filter, is_some}
use Rattle.std.specs.List.{list_any, list_all}
use Rattle.git_model.specs.Repository.{Object, object_named}
use Rattle.git_model.specs.References.{place_of, referred_by}
use Rattle.git_model.specs.Reach.{is_reachable}

-- Whether some of these names reaches an object, by references of any kind. Gitlinks are none, and
-- the name of no object reaches nothing that is there.
unfoldable pub is_reached_by : List Object → List (List ℕ) → List ℕ → Bool
is_reached_by os names id = list_any (λ name. is_reachable os (referred_by os) name id) names

-- An object is missing if the wanted names reach it and the had names do not.
abbrev pub is_missing : List Object → List (List ℕ) → List (List ℕ) → Object → Bool
is_missing os wants haves o = is_reached_by os wants o.id && not (is_reached_by os haves o.id)

-- The missing objects, in the order of the repository.
abbrev pub missing : List Object → List (List ℕ) → List (List ℕ) → List Object
missing os wants haves = filter (is_missing os wants haves) os

-- Their places, counted from 0.
abbrev pub missing_places : List Object → List (List ℕ) → List (List ℕ) → List ℕ
missing_places os wants haves = map (λ o. place_of o.id os) (missing os wants haves)

-- Every wanted name must be that of an object.
abbrev pub has_all : List Object → List (List ℕ) → Bool
has_all os wants = list_all (λ name. is_some (object_named name os)) wants

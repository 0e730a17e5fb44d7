-- The way of peeling, for both of its forms: gitrevisions(7), `<rev>^{<type>}` and `<rev>^{}`.
use Rattle.std.specs.Prelude.{ℕ, Bool, List, length, Option, None, Some, unwrap_or}
use Rattle.git_model.specs.declared.kind.Kind.{Kind}
use Rattle.git_model.specs.declared.kind.Kind.TheVariants as kind
use Rattle.git_model.specs.Repository.{Object}
use Rattle.git_model.specs.Peeling.{is_of, is_there_untagged, next_to, first_within}

-- A way ends at an object of the wanted kind, or, where none is wanted, at one that is no tag.
abbrev pub is_end : List Object → Option Kind → List ℕ → Bool
is_end os (Some wanted) id = is_of os wanted id
is_end os None id = is_there_untagged os id

-- The end of the way from an object, where it has one.
abbrev pub first_end : List Object → Option Kind → List ℕ → Option (List ℕ)
first_end os wanted id =
    first_within (is_end os wanted) (next_to os (unwrap_or wanted kind.Blob)) (length os) id

-- Which commits two commits do not both reach: gitrevisions(7), "Dotted Range Notations".
use Rattle.std.specs.Prelude.{ℕ, ◌&&◌, ◌||◌, not, Bool, List}
use Rattle.git_model.specs.Repository.{Object}
use Rattle.git_model.specs.Reach.{reaches}

-- Only the right side reaches a commit, or only the left one if the range is symmetric.
abbrev pub is_apart : Bool → Bool → Bool → Bool
is_apart symmetric left right = (symmetric && (left && not right)) || (right && not left)

-- The same of a commit by its name.
abbrev pub is_apart_in : List Object → Bool → List ℕ → List ℕ → List ℕ → Bool
is_apart_in os symmetric left right id = is_apart symmetric (reaches os left id) (reaches os right id)

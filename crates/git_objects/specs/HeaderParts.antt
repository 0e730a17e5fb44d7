-- The end of the header of a commit or a tag.
use Rattle.std.specs.Prelude.{ℕ, List, [], ◌∷◌, ◌++◌, Option}
use Rattle.git_model.specs.Commit.{optional_line}

-- An optional line, and the empty line.
abbrev pub end_lines : List ℕ → Option (List ℕ) → List ℕ
end_lines word text = optional_line word text ++ 10 ∷ []

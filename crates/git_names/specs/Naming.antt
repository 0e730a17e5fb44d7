-- What a digest must answer, and a digest under which collisions are easy to find.
use Rattle.std.specs.Prelude.{ℕ, List, [], ◌∷◌, ◌++◌, ◌%◌, sum, replicate}
use Rattle.git_model.specs.ObjectName.{IsObjectName}

-- The digest of every message is an object name.
abbrev pub AnswersNames : (List ℕ → List ℕ) → Type 0
AnswersNames digest = (message : List ℕ) → IsObjectName (digest message)

-- Nineteen bytes 0xab, and the sum of all bytes modulo 256.
abbrev pub tail_digest : List ℕ → List ℕ
tail_digest bytes = replicate 19 0xab ++ (sum bytes % 256) ∷ []

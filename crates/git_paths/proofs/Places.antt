-- The bytes of a path at each place.
use Rattle.std.proofs.Common.{◌≡◌, ◌≢◌, ℕ, ◌<◌, ◌≤◌, List, [], ◌∷◌, length, get_or, drop, refl, arith}
use Rattle.std.proofs.lemmas.Bool.{ne_eqb}
use Rattle.git_paths.specs.declared.place.Place.{Place}
use Rattle.git_paths.specs.Reading.{unquoted, unquoted_at, quoted_end, bytes_at}

-- at a quote
pub bytes_at-quote : (place : Place) (text : List ℕ) → 1 ≤ length text → get_or text 0 0 ≡ 34
    → bytes_at place text ≡ quoted_end place (unquoted (drop 1 text))
unfolding bytes_at
bytes_at-quote place [] some quote = absurd (omega arith)
bytes_at-quote place (b ∷ text) some quote = rw quote refl

-- at no quote
pub bytes_at-other : (place : Place) (text : List ℕ) → get_or text 0 0 ≢ 34
    → bytes_at place text ≡ unquoted_at place text
unfolding bytes_at
bytes_at-other place [] other = refl
bytes_at-other place (b ∷ text) other = rw (ne_eqb b 34 other) refl

pub bytes_at-nothing : (place : Place) (text : List ℕ) → length text < 1
    → bytes_at place text ≡ unquoted_at place text
unfolding bytes_at
bytes_at-nothing place [] none = refl
bytes_at-nothing place (b ∷ text) none = absurd (omega arith)

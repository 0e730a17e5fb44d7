-- Names of groups.
use Rattle.std.proofs.Common.{◌≡◌, ℕ, true, List, refl}
use Rattle.std.specs.Str.{bytes_eq}
use Rattle.std.proofs.lemmas.Slice.Eq.{bytes_eq-Decides}

pub itself : (c : List ℕ) → bytes_eq c c ≡ true
itself c = (bytes_eq-Decides c c).1 refl

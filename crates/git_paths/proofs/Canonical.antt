-- The path that bytes are as they stand.
use Rattle.std.proofs.Common.{◌≡◌, ℕ, List, Option, Some, None, Result, Ok, Err, refl, sym, ap, ◌∙◌}
use Rattle.std.specs.Prelude.{IfOk, IfSome}
use Rattle.git_paths.specs.Paths.{IsPath, joined, components_of, is_path}
use Rattle.git_paths.specs.Reading.{canonical_path}
use Rattle.git_paths.proofs.Cases.{by_cases, some_is}
use Rattle.git_paths.proofs.Joined.{joined-components_of, components_of-joined}
use Rattle.git_paths.proofs.Decided.{test-from_IsPath}

canonical_bytes : (bytes : List ℕ) (path : List (List ℕ)) → Some path ≡ canonical_path bytes
    → joined path ≡ bytes
unfolding canonical_path
canonical_bytes bytes path h =
    by_cases (is_path (components_of bytes))
    (λ yea. let same = some_is path (components_of bytes) (rw yea at h) in ap joined same ∙ joined-components_of bytes)
    (λ nay. absurd (let none : ◌≡◌ {A = Option (List (List ℕ))} (Some path) None = rw nay at h in cc))

canonical_path-joined : (path : List (List ℕ)) → IsPath path
    → canonical_path (joined path) ≡ Some path
unfolding canonical_path
canonical_path-joined path is = rw (components_of-joined path is, test-from_IsPath path is) refl

some_found : (bytes : List ℕ) (o : Option (List (List ℕ))) → o ≡ canonical_path bytes
    → IfSome o IsPath → IfSome o (λ path. IsPath path × (joined path ≡ bytes))
some_found bytes None h is = tt
some_found bytes (Some path) h is = (is, canonical_bytes bytes path h)

pub canonical_found : {E : Type 0} (bytes : List ℕ) (r : Result (Option (List (List ℕ))) E)
    → IfOk r (λ o. o ≡ canonical_path bytes) → IfOk r (λ o. IfSome o IsPath)
    → IfOk r (λ o. IfSome o (λ path. IsPath path × (joined path ≡ bytes)))
canonical_found bytes (Ok o) h is = some_found bytes o h is
canonical_found bytes (Err e) h is = tt

pub canonical_only : {E : Type 0} (bytes : List ℕ) (r : Result (Option (List (List ℕ))) E)
    → IfOk r (λ o. o ≡ canonical_path bytes) → (path : List (List ℕ)) → IsPath path
    → joined path ≡ bytes
    → IfOk r (λ o. o ≡ Some path)
canonical_only bytes (Ok o) h path is e =
    h ∙ ap canonical_path (sym e) ∙ canonical_path-joined path is
canonical_only bytes (Err x) h path is e = tt

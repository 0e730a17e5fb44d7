-- What `path_at` gives is written there, and what is written there it gives.
use Rattle.std.proofs.Common.{◌≡◌, ℕ, true, List, Option, Some, None, Result, Ok, Err, refl, sym, ap, ◌∙◌, subst}
use Rattle.std.specs.Prelude.{IfOk}
use Rattle.std.specs.Borrow.{Bor}
use Rattle.git_paths.specs.declared.place.Place.{Place}
use Rattle.git_paths.specs.declared.fault.Fault.{Fault}
use Rattle.git_paths.specs.declared.fault.Fault.TheVariants.{BadPath, Limit}
use Rattle.git_paths.specs.Faults.{Gives}
use Rattle.git_paths.specs.Paths.{IsPath, IsWithinLimits, joined, components_of, is_path, is_within_limits}
use Rattle.git_paths.specs.Written.{Writes, BeginsWith, shown}
use Rattle.git_paths.specs.Reading.{bytes_at, path_within_limits, path_and_rest, judged, path_at}
use Rattle.git_paths.proofs.Cases.{by_cases, parts}
use Rattle.git_paths.proofs.Joined.{joined-components_of, components_of-joined}
use Rattle.git_paths.proofs.Decided.{test-from_IsPath, IsWithinLimits-from_test, test-from_IsWithinLimits}
use Rattle.git_paths.proofs.Written.{bytes_at-Writes, Writes-from_bytes_at}

abbrev pub done : List (List ℕ) → List ℕ → Result (List (List ℕ) × List ℕ) Fault
done path rest = Ok (path, rest)

ok_is : {A : Type 0} (x y : A) → ◌≡◌ {A = Result A Fault} (Ok x) (Ok y) → x ≡ y
ok_is x y h = cc

done_are : (path other : List (List ℕ)) (rest end : List ℕ) → done path rest ≡ done other end
    → (path ≡ other) × (rest ≡ end)
done_are path other rest end h =
    let both : ◌≡◌ {A = List (List ℕ) × List ℕ} (path, rest) (other, end) = ok_is _ _ h in
    (ap (λ (p : List (List ℕ) × List ℕ). p.0) both, ap (λ (p : List (List ℕ) × List ℕ). p.1) both)

path_and_rest_done : (r : Result (List (List ℕ)) Fault) (path : List (List ℕ)) (rest end : List ℕ)
    → path_and_rest r rest ≡ done path end → (r ≡ Ok path) × (rest ≡ end)
path_and_rest_done (Ok p) path rest end h =
    let both = done_are p path rest end h in (ap (λ (p : List (List ℕ)). Ok p) both.0, both.1)
path_and_rest_done (Err e) path rest end h = absurd cc

judged_done : (o : Option (List ℕ × List ℕ)) (path : List (List ℕ)) (end : List ℕ)
    → judged o ≡ done path end
    → (bytes : List ℕ) × (o ≡ parts bytes end) × (path_within_limits bytes ≡ Ok path)
judged_done None path end h = absurd cc
judged_done (Some (bytes, rest)) path end h =
    let both = path_and_rest_done (path_within_limits bytes) path rest end h in
    (bytes, ap (parts bytes) both.1, both.0)

path_within_limits_ok : (bytes : List ℕ) (path : List (List ℕ)) → path_within_limits bytes ≡ Ok path
    → (is_path path ≡ true) × (is_within_limits path ≡ true) × (components_of bytes ≡ path)
unfolding path_within_limits
path_within_limits_ok bytes path h =
    by_cases (is_path (components_of bytes))
    (λ names. by_cases (is_within_limits (components_of bytes))
    (λ few.
    let same : components_of bytes ≡ path = ok_is _ _ (rw (names, few) at h) in
    (ap is_path (sym same) ∙ names, ap is_within_limits (sym same) ∙ few, same))
    (λ many. absurd (let bad : ◌≡◌ {A = Result (List (List ℕ)) Fault} (Err Limit) (Ok path) = rw (names, many) at h in cc)))
    (λ others. absurd (let bad : ◌≡◌ {A = Result (List (List ℕ)) Fault} (Err BadPath) (Ok path) = rw others at h in cc))

-- what holds of a path that is read
pub path_at-done : (place : Place) (text : List ℕ) (path : List (List ℕ)) (rest : List ℕ)
    → path_at place text ≡ done path rest
    → (is_path path ≡ true) × IsWithinLimits path × Writes place text (joined path) rest
path_at-done place text path rest h =
    let m = judged_done (bytes_at place text) path rest h in
    let p = path_within_limits_ok m.0 path m.2 in
    let same : m.0 ≡ joined path = sym (joined-components_of m.0) ∙ ap joined p.2 in
    (p.0, IsWithinLimits-from_test path p.1, subst (λ (bs : List ℕ). Writes place text bs rest) same (Writes-from_bytes_at place text m.0 rest m.1))

pub found : (place : Place) (text : List ℕ) (r : Result (List (List ℕ) × Bor (List ℕ)) Fault)
    → Gives shown r (path_at place text) → IfOk r (λ x. IsPath x.0)
    → IfOk r (λ x. BeginsWith place text x.0 x.1.now)
found place text (Ok x) h path =
    let m = path_at-done place text x.0 x.1.now h in record { is_path = path; limits = m.1; written = m.2 }
found place text (Err e) h path = tt

path_within_limits-joined : (path : List (List ℕ)) → IsPath path → IsWithinLimits path
    → path_within_limits (joined path) ≡ Ok path
unfolding path_within_limits
path_within_limits-joined path h limits =
    rw (components_of-joined path h, test-from_IsPath path h, test-from_IsWithinLimits path limits) refl

-- a path that is written at a place is read there
pub path_at-Writes : (place : Place) (text : List ℕ) (path : List (List ℕ)) (rest : List ℕ)
    → IsPath path → IsWithinLimits path → Writes place text (joined path) rest
    → path_at place text ≡ done path rest
path_at-Writes place text path rest h limits w =
    ap judged (bytes_at-Writes w)
    ∙ ap (λ (r : Result (List (List ℕ)) Fault). path_and_rest r rest) (path_within_limits-joined path h limits)

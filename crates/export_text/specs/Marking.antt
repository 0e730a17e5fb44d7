-- Flags of objects by their places, for private contracts.
use Rattle.std.specs.Prelude.{◌≡◌, ℕ, true, Bool, List, [], ◌∷◌, map, set}
use Rattle.git_model.specs.GoodRepository.{AreObjects}
use Rattle.git_model.specs.RefStore.{RefStore}
use Rattle.git_model.specs.Repository.{Object, Repository}
use Rattle.git_model.specs.References.{Reference, place_of}
use Rattle.git_model.specs.Reach.{is_referred_to}

-- The flags with those of the objects of these names set.
abbrev pub with_flags : List Object → List Bool → List (List ℕ) → List Bool
with_flags os flags [] = flags
with_flags os flags (id ∷ ids) = with_flags os (set flags (place_of id os) true) ids

-- The names that references have.
abbrev pub names_in : List Reference → List (List ℕ)
names_in references = map (λ r. r.id) references

-- A flag for each object: whether some ref reaches it.
abbrev pub reached_flags : Repository → List Bool
reached_flags repository = map (λ o. is_referred_to repository o.id) repository.objects

-- What is claimed of a repository, where its objects are good and the flags are those of what its
-- refs reach.
abbrev pub WhereReached : (List ℕ → List ℕ) → List Object → RefStore → List Bool
    → (Repository → Type 0) → Type 0
WhereReached digest os refs flags Claim =
    let r : Repository = record { objects = os; refs = refs } in
    AreObjects digest os → flags ≡ reached_flags r → Claim r

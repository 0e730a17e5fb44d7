-- The names of branches.
use Rattle.std.proofs.Common.{◌≡◌, ℕ, Bool, true, false, cond, List, [], ◌∷◌, None, sym, subst}
use Rattle.std.specs.Str.{bytes_eq}
use Rattle.std.proofs.lemmas.Map.{NonePasses, lookup-none}
use Rattle.std.proofs.lemmas.Slice.Eq.{bytes_eq-Decides}
use Rattle.git_paths.proofs.Cases.{by_cases}
use Rattle.stream_parts.specs.declared.branches.Tip.{Tip}
use Rattle.stream_parts.specs.Branches.{Branches, NamesBranch, AreRefNames, tip_of, with_branch}

-- what may not be called so is called otherwise
other_name : (name ref : List ℕ) → (NamesBranch name → ⊥) → NamesBranch ref
    → bytes_eq name ref ≡ false
other_name name ref bad good =
    by_cases (bytes_eq name ref)
    (λ yea. absurd (bad (subst NamesBranch (sym ((bytes_eq-Decides name ref).0 yea)) good)))
    (λ nay. nay)

none_passes : (branches : Branches) (name : List ℕ) → (NamesBranch name → ⊥)
    → AreRefNames branches → NonePasses (bytes_eq name) branches
none_passes [] name bad named = tt
none_passes (branch ∷ branches) name bad named =
    (other_name name branch.0 bad named.0, none_passes branches name bad named.1)

-- and names no branch
pub tip_of-none : (branches : Branches) (name : List ℕ) → (NamesBranch name → ⊥)
    → AreRefNames branches → tip_of branches name ≡ None
tip_of-none branches name bad named =
    lookup-none (bytes_eq name) branches (none_passes branches name bad named)

-- a branch that is set has its own name, or the one that was there
set_here : (b : Bool) (branches : Branches) (branch : List ℕ × Tip) (ref : List ℕ) (tip : Tip)
    → AreRefNames (branch ∷ branches) → AreRefNames (with_branch branches ref tip)
    → AreRefNames (cond b ((branch.0, tip) ∷ branches) (branch ∷ with_branch branches ref tip))
set_here true branches branch ref tip named later = (named.0, named.1)
set_here false branches branch ref tip named later = (named.0, later)

pub AreRefNames-with_branch : (branches : Branches) (ref : List ℕ) (tip : Tip)
    → NamesBranch ref → AreRefNames branches → AreRefNames (with_branch branches ref tip)
AreRefNames-with_branch [] ref tip good named = (good, tt)
AreRefNames-with_branch (branch ∷ branches) ref tip good named =
    set_here (bytes_eq ref branch.0) branches branch ref tip named
    (AreRefNames-with_branch branches ref tip good named.1)

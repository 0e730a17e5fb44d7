-- First parents, and chains of them.
use Rattle.std.proofs.Common.{◌≡◌, ℕ, zero, suc, ◌+◌, ◌-◌, ◌<◌, ◌≤◌, List, [], ◌∷◌, ◌++◌, length, drop, take, slice_get, Option, Some, Result, Ok, Err, OnOk, refl, subst, sym, arith}
use Rattle.std.proofs.lemmas.List.{take_all, length-drop}
use Rattle.std.proofs.lemmas.Option.{slice_get_within}
use Rattle.git_model.specs.Repository.{Object}
use Rattle.revisions.specs.declared.fault.Fault.{Fault}
use Rattle.revisions.specs.FirstParents.{FollowFirstParents, IsFirstParentChain, EndsOn, Meets}
use Rattle.revisions.specs.Faults.{Gives}
use Rattle.revisions.specs.Resolution.{nth_parent, nth_ancestor}

-- each commit is so many first parents after the first one
follows-at : (os : List Object) (commit id : List ℕ) (more : List (List ℕ)) (n : ℕ) → FollowFirstParents os commit more
    → slice_get (commit ∷ more) n ≡ Some id → nth_ancestor os n commit ≡ Ok id
unfolding nth_ancestor
follows-at os commit id more zero h got = let e : commit ≡ id = cc got in rw e refl
follows-at os commit id [] (suc n) h got = cc got
follows-at os commit id (parent ∷ more) (suc n) h got = rw h.0 (follows-at os parent id more n h.1 got)

pub chain-at : (os : List Object) (chain : List (List ℕ)) (commit id : List ℕ) (n : ℕ) → IsFirstParentChain os chain
    → slice_get chain 0 ≡ Some commit → slice_get chain n ≡ Some id → nth_ancestor os n commit ≡ Ok id
chain-at os [] commit id n h first got = cc first
chain-at os (c ∷ more) commit id n h first got =
    let e : c ≡ commit = cc first in rw e at (follows-at os c id more n h got)

-- one more first parent
follows-more : (os : List Object) (commit last parent : List ℕ) (more : List (List ℕ)) → FollowFirstParents os commit more
    → slice_get (commit ∷ more) (length more) ≡ Some last → nth_parent os 1 last ≡ Ok parent
    → FollowFirstParents os commit (more ++ parent ∷ [])
follows-more os commit last parent [] h got next = let e : last ≡ commit = cc got in (rw e at next, tt)
follows-more os commit last parent (p ∷ more) h got next = (h.0, follows-more os p last parent more h.1 got next)

pub chain-more : (os : List Object) (chain : List (List ℕ)) (last parent : List ℕ) → IsFirstParentChain os chain
    → slice_get chain (length chain - 1) ≡ Some last → nth_parent os 1 last ≡ Ok parent
    → IsFirstParentChain os (chain ++ parent ∷ [])
chain-more os [] last parent h got next = tt
chain-more os (c ∷ more) last parent h got next =
    let less : suc (length more) - 1 ≡ length more = omega arith in follows-more os c last parent more h (rw less at got) next

-- a first parent that is refused, on the way to one after it
follows-refused : (os : List Object) (commit last : List ℕ) (more : List (List ℕ)) (n : ℕ) (e : Fault)
    → FollowFirstParents os commit more → slice_get (commit ∷ more) (length more) ≡ Some last
    → nth_parent os 1 last ≡ Err e → length more < n → nth_ancestor os n commit ≡ Err e
unfolding nth_ancestor
follows-refused os commit last more zero e h got next less = absurd (omega arith)
follows-refused os commit last [] (suc n) e h got next less =
    let same : last ≡ commit = cc got in rw (rw same at next) refl
follows-refused os commit last (p ∷ more) (suc n) e h got next less =
    rw h.0 (follows-refused os p last more n e h.1 got next (omega arith))

pub chain-refused : (os : List Object) (chain : List (List ℕ)) (commit last : List ℕ) (n : ℕ) (e : Fault)
    → IsFirstParentChain os chain → slice_get chain 0 ≡ Some commit → slice_get chain (length chain - 1) ≡ Some last
    → nth_parent os 1 last ≡ Err e → length chain ≤ n → nth_ancestor os n commit ≡ Err e
chain-refused os [] commit last n e h first got next less = cc first
chain-refused os (c ∷ more) commit last n e h first got next less =
    let same : c ≡ commit = cc first in
    let before : suc (length more) - 1 ≡ length more = omega arith in
    rw same at (follows-refused os c last more n e h (rw before at got) next (omega arith))

-- after some steps of a chain, the steps that are left
follows-on : (os : List Object) (commit id : List ℕ) (more : List (List ℕ)) (k n : ℕ) → FollowFirstParents os commit more
    → slice_get (commit ∷ more) k ≡ Some id → nth_ancestor os (k + n) commit ≡ nth_ancestor os n id
unfolding nth_ancestor
follows-on os commit id more zero n h got = let e : commit ≡ id = cc got in let z : 0 + n ≡ n = omega arith in rw z (rw e refl)
follows-on os commit id [] (suc k) n h got = cc got
follows-on os commit id (parent ∷ more) (suc k) n h got =
    let s : suc k + n ≡ suc (k + n) = omega arith in rw s (rw h.0 (follows-on os parent id more k n h.1 got))

pub chain-on : (os : List Object) (chain : List (List ℕ)) (commit id : List ℕ) (k n : ℕ) → IsFirstParentChain os chain
    → slice_get chain 0 ≡ Some commit → slice_get chain k ≡ Some id → nth_ancestor os (k + n) commit ≡ nth_ancestor os n id
chain-on os [] commit id k n h first got = cc first
chain-on os (c ∷ more) commit id k n h first got =
    let e : c ≡ commit = cc first in rw e at (follows-on os c id more k n h got)

-- what comes after a commit of a chain follows it
pub chain-after : (os : List Object) (chain : List (List ℕ)) (id : List ℕ) (at : ℕ) → IsFirstParentChain os chain
    → slice_get chain at ≡ Some id → FollowFirstParents os id (drop (suc at) chain)
chain-after os [] id at h got = cc got
chain-after os (c ∷ more) id zero h got = let e : c ≡ id = cc got in rw e at h
chain-after os (c ∷ []) id (suc at) h got = cc got
chain-after os (c ∷ p ∷ more) id (suc at) h got = chain-after os (p ∷ more) id at h.1 got

follows-joined : (os : List Object) (commit id : List ℕ) (more rest : List (List ℕ)) → FollowFirstParents os commit more
    → slice_get (commit ∷ more) (length more) ≡ Some id → FollowFirstParents os id rest
    → FollowFirstParents os commit (more ++ rest)
follows-joined os commit id [] rest h got next = let e : id ≡ commit = cc got in rw e at next
follows-joined os commit id (p ∷ more) rest h got next = (h.0, follows-joined os p id more rest h.1 got next)

-- a way that ends at a commit of a chain, and what the chain has after it
pub chain-joined : (os : List Object) (way chain : List (List ℕ)) (id : List ℕ) (at : ℕ) → IsFirstParentChain os way
    → slice_get way (length way - 1) ≡ Some id → IsFirstParentChain os chain → slice_get chain at ≡ Some id
    → IsFirstParentChain os (way ++ drop (suc at) chain)
chain-joined os [] chain id at h last is got = cc last
chain-joined os (c ∷ more) chain id at h last is got =
    let less : suc (length more) - 1 ≡ length more = omega arith in
    follows-joined os c id more (drop (suc at) chain) h (rw less at last) (chain-after os chain id at is got)

-- the commits after one that stands anywhere in a chain
pub chain-from : (os : List Object) (chain : List (List ℕ)) (commit id : List ℕ) (at n : ℕ) → IsFirstParentChain os chain
    → slice_get chain at ≡ Some commit → slice_get chain (at + n) ≡ Some id → nth_ancestor os n commit ≡ Ok id
chain-from os [] commit id at n h first got = cc first
chain-from os (c ∷ more) commit id zero n h first got =
    let z : 0 + n ≡ n = omega arith in chain-at os (c ∷ more) commit id n h first (rw z at got)
chain-from os (c ∷ []) commit id (suc at) n h first got = cc first
chain-from os (c ∷ p ∷ more) commit id (suc at) n h first got =
    let s : suc at + n ≡ suc (at + n) = omega arith in chain-from os (p ∷ more) commit id at n h.1 first (rw s at got)

pub chain-refused-from : (os : List Object) (chain : List (List ℕ)) (commit last : List ℕ) (at n : ℕ) (e : Fault)
    → IsFirstParentChain os chain → slice_get chain at ≡ Some commit → slice_get chain (length chain - 1) ≡ Some last
    → nth_parent os 1 last ≡ Err e → length chain ≤ at + n → nth_ancestor os n commit ≡ Err e
chain-refused-from os [] commit last at n e h first got next less = cc first
chain-refused-from os (c ∷ more) commit last zero n e h first got next less =
    chain-refused os (c ∷ more) commit last n e h first got next (omega (arith, less))
chain-refused-from os (c ∷ []) commit last (suc at) n e h first got next less = cc first
chain-refused-from os (c ∷ p ∷ more) commit last (suc at) n e h first got next less =
    let here : suc (suc (length more)) - 1 ≡ suc (length more) = omega arith in
    let there : suc (length more) - 1 ≡ length more = omega arith in
    chain-refused-from os (p ∷ more) commit last at n e h.1 first (rw there (rw here at got)) next (omega (arith, less))

-- a way that meets a chain: what the chain gives for the steps that are left
pub met-on : (os : List Object) (chain way : List (List ℕ)) (n at : ℕ) (met : Result (Option ℕ) Fault) (commit : List ℕ)
    (r : Result (List ℕ) Fault) → met ≡ Ok (Some at) → EndsOn chain way n met → IsFirstParentChain os way
    → OnOk met (slice_get way 0 ≡ Some commit)
    → ((id : List ℕ) → slice_get chain at ≡ Some id → Gives r (nth_ancestor os (n + 1 - length way) id))
    → Gives r (nth_ancestor os n commit)
met-on os chain way n at met commit r e ends is first gives =
    let m : Meets chain way n at = subst (EndsOn chain way n) e ends in
    let begun : slice_get way 0 ≡ Some commit = subst (λ (t : Result (Option ℕ) Fault). OnOk t (slice_get way 0 ≡ Some commit)) e first in
    let some = slice_get_within way 0 commit begun in
    let short = m.short in
    let all : length way - 1 + (n + 1 - length way) ≡ n = omega (arith, some, short) in
    subst (λ (k : ℕ). Gives r (nth_ancestor os k commit)) all
    (subst (Gives r) (sym (chain-on os way commit m.id (length way - 1) (n + 1 - length way) is begun m.last))
    (gives m.id m.there))

-- the chain that a way becomes, with what comes after the commit at which they meet
pub kept-joined : (os : List Object) (way chain new : List (List ℕ)) (n at : ℕ) (met : Result (Option ℕ) Fault)
    → met ≡ Ok (Some at) → EndsOn chain way n met → IsFirstParentChain os chain → IsFirstParentChain os way
    → new ≡ way ++ take (length chain - (at + 1)) (drop (at + 1) chain) → IsFirstParentChain os new
kept-joined os way chain new n at met e ends is h made =
    let m : Meets chain way n at = subst (EndsOn chain way n) e ends in
    let next : at + 1 ≡ suc at = omega arith in
    let size = length-drop (at + 1) chain in
    let all = take_all (length chain - (at + 1)) (drop (at + 1) chain) (omega (arith, size)) in
    rw made (rw all (rw next (chain-joined os way chain m.id at h m.last is m.there)))

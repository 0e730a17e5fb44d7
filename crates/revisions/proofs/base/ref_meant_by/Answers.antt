use Rattle.std.proofs.Common.{◌≡◌, ℕ, [], ◌∷◌, ◌++◌, List, Option, None, slice_get, refl, sym, ap, ◌∙◌, codes}
use Rattle.std.specs.Prelude.{filter_map}
use Rattle.std.proofs.lemmas.Result.{IfOk-weaker}
use Rattle.git_model.specs.RefStore.{target_of}
use Rattle.revisions.specs.Resolution.{ref_meant_by}
use Rattle.revisions.proofs.base.ref_meant_by.Goals as goal

-- what is not there is passed over
past : {X Y : Type 0} (f : X → Option Y) (x : X) (xs : List X) → f x ≡ None
    → filter_map f (x ∷ xs) ≡ filter_map f xs
past f x xs none = rw none refl

pub returns : goal.returns
returns c =
    let held = target_of c.args.refs.now in
    let base = c.args.base.now in
    let branches = (codes "refs/heads/" ++ base) ∷ (codes "refs/remotes/" ++ base)
    ∷ (codes "refs/remotes/" ++ base ++ codes "/HEAD") ∷ [] in
    let tags = (codes "refs/tags/" ++ base) ∷ branches in
    let refs = (codes "refs/" ++ base) ∷ tags in
    let own : held base ≡ None = sym (rw c.in_default.is at c.get.ensures) in
    let ref : held (codes "refs/" ++ base) ≡ None = sym (rw c.in_default-2.is at c.in_ok-id.ensures) in
    let tag : held (codes "refs/tags/" ++ base) ≡ None = sym (rw c.in_default-3.is at c.in_ok-id-2.ensures) in
    let all = past held base refs own ∙ past held (codes "refs/" ++ base) tags ref
    ∙ past held (codes "refs/tags/" ++ base) branches tag in
    IfOk-weaker c.held_by_branch.result (λ found. found ≡ slice_get (filter_map held branches) 0)
    (λ found. found ≡ ref_meant_by c.args.refs.now c.args.base.now)
    (λ found is. is ∙ ap (λ (there : List (List ℕ)). slice_get there 0) (sym all)) c.held_by_branch.ensures

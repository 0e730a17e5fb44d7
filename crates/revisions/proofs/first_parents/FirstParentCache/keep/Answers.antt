use Rattle.std.proofs.Common.{◌≡◌, ℕ, ◌+◌, ◌-◌, ◌++◌, List, Some, Ok, length, take, drop, ap, subst, sym, ◌∙◌}
use Rattle.revisions.specs.FirstParents.{IsFirstParentChain}
use Rattle.revisions.proofs.Ancestors.{kept-joined}
use Rattle.revisions.proofs.first_parents.FirstParentCache.keep.Goals as goal
use Rattle.revisions.proofs.first_parents.FirstParentCache.keep.Goals.{in-Ok-Some+in_ok-extend_from_slice, in-Ok+in-None-1, in-Err-1}

pub returns : goal.returns
returns c =
    λ os is way.
    let own : c.way.inside.commits.items ≡ c.args.way = c.way.view_is in
    let old : c.self.inside.commits.items ≡ c.args.self.now = c.self.view_is in
    elim c.match-met.branch [
      | in-Ok-Some+in_ok-extend_from_slice w ↦
          let place : w.in-Ok-Some.field-0 ≡ Some w.in-Ok-Some.at = rw w.in-Ok-Some.is at w.in-Ok-Some.field-0-is in
          let met : c.args.met ≡ Ok (Some w.in-Ok-Some.at) = w.in-Ok-Some.is ∙ ap Ok place in
          let after : List (List ℕ) → List (List ℕ) =
          λ l. take (length l - (w.in-Ok-Some.at + 1)) (drop (w.in-Ok-Some.at + 1) l) in
          let items = w.in_ok-extend_from_slice.ensures.items in
          let slice = w.as_slice.ensures.value in
          let made : w.extend_from_slice.new.self.items
          ≡ c.args.way ++ take (length c.args.self.now - (w.in-Ok-Some.at + 1)) (drop (w.in-Ok-Some.at + 1) c.args.self.now) =
          items ∙ ap (λ (l : List (List ℕ)). c.way.inside.commits.items ++ after l) (slice ∙ old) ∙ ap (λ (l : List (List ℕ)). l ++ after c.args.self.now) own in
          rw w.commits-is (kept-joined os c.args.way c.args.self.now _ c.args.n w.in-Ok-Some.at c.args.met met c.requires is way made)
      | in-Ok+in-None-1 w ↦ rw w.commits-is (subst (IsFirstParentChain os) (sym own) way)
      | in-Err-1 w ↦ rw w.commits-is (subst (IsFirstParentChain os) (sym own) way)
    ]

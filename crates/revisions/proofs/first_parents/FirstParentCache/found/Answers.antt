use Rattle.std.proofs.Common.{◌≡◌, ℕ, ◌+◌, ◌-◌, ◌<◌, List, Option, None, Some, Result, Ok, OnOk, length, slice_get, refl, ap, sym, subst, ◌∙◌}
use Rattle.std.proofs.lemmas.Option.{slice_get_read}
use Rattle.revisions.specs.declared.fault.Fault.{Fault}
use Rattle.revisions.specs.Faults.{Gives}
use Rattle.revisions.specs.FirstParents.{EndsOn, IsFirstParentChain}
use Rattle.revisions.specs.Resolution.{nth_ancestor}
use Rattle.revisions.proofs.Ancestors.{chain-at, met-on}
use Rattle.revisions.proofs.first_parents.FirstParentCache.found.Goals as goal

pub returns-in-Ok-Some-clause-found : goal.returns-in-Ok-Some-clause-found
returns-in-Ok-Some-clause-found g c commit held is way first refused =
    let os = c.args.objects.now in
    let place : c.in-Ok-Some.field-0 ≡ Some c.in-Ok-Some.at = rw c.in-Ok-Some.is at c.in-Ok-Some.field-0-is in
    let met : c.args.met ≡ Ok (Some c.in-Ok-Some.at) = c.in-Ok-Some.is ∙ ap Ok place in
    let own : c.way.inside.commits.items ≡ c.args.way.now = c.way.view_is in
    let size : c.len.result ≡ length c.args.way.now = c.len.ensures ∙ c.way.inside.commits.ok.0 ∙ ap length own in
    met-on os c.args.self.now c.args.way.now c.args.n c.in-Ok-Some.at c.args.met commit c.along.result met c.requires.ends way first
    (λ id there. subst (λ (k : ℕ). Gives c.along.result (nth_ancestor os (c.args.n + 1 - k) id)) size
    (c.along.ensures.found id held is there))

pub returns-in-Ok-None-clause-found : goal.returns-in-Ok-None-clause-found
returns-in-Ok-None-clause-found g c commit held is way first refused =
    let os = c.args.objects.now in
    let items = c.way.inside.commits.items in
    let none : c.in-Ok-None.field-0 ≡ None = rw c.in-Ok-None.is at c.in-Ok-None.field-0-is in
    let met : c.args.met ≡ Ok None = c.in-Ok-None.is ∙ ap Ok none in
    let own : items ≡ c.args.way.now = c.way.view_is in
    let begun : slice_get c.args.way.now 0 ≡ Some commit =
    subst (λ (t : Result (Option ℕ) Fault). OnOk t (slice_get c.args.way.now 0 ≡ Some commit)) met first in
    let past : c.args.n < length c.args.way.now = subst (EndsOn c.args.self.now c.args.way.now c.args.n) met c.requires.ends in
    chain-at os items commit c.index.result.now c.args.n (subst (IsFirstParentChain os) (sym own) way)
    (subst (λ (l : List (List ℕ)). slice_get l 0 ≡ Some commit) (sym own) begun)
    (slice_get_read items (length items) c.args.n c.index.result.now refl
    (subst (λ (l : List (List ℕ)). c.args.n < length l) (sym own) past) c.index.ensures)

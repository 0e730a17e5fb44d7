use Rattle.std.proofs.Common.{◌≡◌, List, ℕ, Option, sym, ap, ◌∙◌}
use Rattle.std.specs.FinMap as finite
use Rattle.tenant_refs.proofs.Entries.{T-true, true-T}
use Rattle.store_format.specs.Saying.{Targets, set_ref}
use Rattle.store_format.proofs.TargetMaps.{listed, made, inserts, removes}
use Rattle.store_format.proofs.targets.Targets.change.Goals as goal

pub invariant_of-self : goal.invariant_of-self
invariant_of-self c =
    T-true _ (removes c.self.inside.places.entries c.as_slice.result.now c.remove.new.self.entries (true-T _ c.self.invariant) c.remove.ensures.entries).0

pub returns-in-None : goal.returns-in-None
returns-in-None c =
    let old = c.self.inside.places.entries in
    let name = c.args.change.now.name.items in
    (removes old c.as_slice.result.now c.remove.new.self.entries (true-T _ c.self.invariant) c.remove.ensures.entries).1
    ∙ ap (λ (k : List ℕ). finite.remove (made (listed old)) k) c.as_slice.ensures.value
    ∙ ap (λ (t : Targets). finite.remove t name) c.self.view_is
    ∙ ap (λ (o : Option ℕ). set_ref c.args.self.now name o) (sym c.in-None.is)

pub invariant_of-self-in_ok-insert-in-Some : goal.invariant_of-self-in_ok-insert-in-Some
invariant_of-self-in_ok-insert-in-Some c =
    T-true _ (inserts c.self.inside.places.entries c.as_slice-in-Some.result c.in-Some.place c.insert.new.self.entries (true-T _ c.self.invariant) c.in_ok-insert-in-Some.ensures.entries).0

pub returns-in_ok-insert-in-Some : goal.returns-in_ok-insert-in-Some
returns-in_ok-insert-in-Some c =
    let old = c.self.inside.places.entries in
    let name = c.args.change.now.name.items in
    (inserts old c.as_slice-in-Some.result c.in-Some.place c.insert.new.self.entries (true-T _ c.self.invariant) c.in_ok-insert-in-Some.ensures.entries).1
    ∙ ap (λ (k : List ℕ). finite.insert (made (listed old)) k c.in-Some.place) c.as_slice-in-Some.ensures.value
    ∙ ap (λ (t : Targets). finite.insert t name c.in-Some.place) c.self.view_is
    ∙ ap (λ (o : Option ℕ). set_ref c.args.self.now name o) (sym c.in-Some.is)

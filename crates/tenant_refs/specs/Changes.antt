-- Several changes to refs, one after another.
use Rattle.std.specs.Prelude.{ℕ, List, fold, Option, None, Some}
use Rattle.std.specs.FinMap.{from_sorted}
use Rattle.git_model.specs.RefStore.{RefStore, with_ref, without_ref}
use Rattle.tenant_refs.specs.Place.{Entries}
use Rattle.tenant_refs.specs.declared.changes.RefChange.{RefChange}

-- The store after one ref was set to a target, or deleted.
abbrev pub with_target : RefStore → List ℕ → Option (List ℕ) → RefStore
with_target store ref None = without_ref store ref
with_target store ref (Some target) = with_ref store ref target

-- The store after all changes in turn.
abbrev pub with_changes : RefStore → List RefChange → RefStore
with_changes store changes =
    fold (λ changed change. with_target changed change.ref_name change.target) store changes

-- The store with these entries, which are in order, and this HEAD.
abbrev pub store_of : Entries → List ℕ → RefStore
store_of entries head = record { refs = from_sorted entries; head = head }

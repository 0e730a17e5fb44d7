-- The most digits that a name shares with others of a table.
use Rattle.std.proofs.Common.{◌≡◌, ℕ, ◌-◌, ◌≤◌, Bool, List, ◌++◌, length, take, max, sym, ap, ◌∙◌}
use Rattle.std.proofs.lemmas.List.{take_all}
use Rattle.name_index.specs.Index.{View as IndexView, in_sight, most_shared}
use Rattle.name_index.proofs.SharedDigits.{most_shared-append, most_shared-IsPermutation}
use Rattle.tenant_tables.specs.Index.{IsIndexed}
use Rattle.tenant_tables.specs.View.{Entries, names}
use Rattle.tenant_tables.proofs.FoundLemmas.{in_index, indexed}
use Rattle.tenant_tables.proofs.Joined.{names-append, take-joined}

-- what the index has holds of the entries
pub most_by_index : (id : List ℕ) (all : Bool) (es : Entries) (index : IndexView) (committed : ℕ)
    → IsIndexed es index committed
    → most_shared id (in_sight all index) ≡ most_shared id (names (indexed all es committed))
most_by_index id all es index committed h =
    most_shared-IsPermutation id _ _ (in_index all es index committed h)

-- in the shared entries and in the others
pub most_joined : (id : List ℕ) (n : ℕ) (front own : Entries) → length front ≤ n
    → max (most_shared id (names front)) (most_shared id (names (take (n - length front) own)))
    ≡ most_shared id (names (take n (front ++ own)))
most_joined id n front own le =
    let seen = take (n - length front) own in
    sym (most_shared-append id (names front) (names seen))
    ∙ ap (most_shared id) (sym (names-append front seen))
    ∙ ap (λ (es : Entries). most_shared id (names es))
    (ap (λ (es : Entries). es ++ seen) (sym (take_all n front le)) ∙ sym (take-joined n front own))

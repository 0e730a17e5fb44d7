-- What stays where objects are only added.
use Rattle.std.proofs.Common.{◌≤◌, length, take, sym, ap, ◌∙◌, subst, ℕ, List}
use Rattle.std.proofs.lemmas.List.{take-append-le}
use Rattle.git_model.specs.Repository.{Object}
use Rattle.content_pool.specs.Pool.{Cells}
use Rattle.tenant_tables.specs.Objects.{objects}
use Rattle.tenant_tables.specs.View.{View}
use Rattle.tenant_tables.proofs.TableLemmas.{length-objects}
use Rattle.open_commits.specs.Calls.{AddsOnly}
use Rattle.stream_commands.specs.State.{KeepsCommitted}

-- the objects up to the last checkpoint stay
pub committed_stay : (p : Cells) (old : View) (q : Cells) (new : View)
    → old.committed ≤ length old.entries → AddsOnly p old q new → KeepsCommitted p old q new
committed_stay p old q new within adds =
    ap (λ (n : ℕ). take n (objects q new.entries)) adds.committed
    ∙ ap (λ (os : List Object). take old.committed os) adds.objects
    ∙ take-append-le old.committed (objects p old.entries) adds.more
    (subst (λ (n : ℕ). old.committed ≤ n) (sym (length-objects p old.entries)) within)

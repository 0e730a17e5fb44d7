use Rattle.std.proofs.Common.{ap, ◌∙◌}
use Rattle.std.specs.Ordering.{nat_cmp}
use Rattle.std.specs.Cmp.Lexicographic.{slice_cmp}
use Rattle.std.specs.FinMap.{is_sorted}
use Rattle.git_model.specs.RefStore.{RefStore, first_head}
use Rattle.tenant_refs.proofs.Stores.{store_of, made-nil, is_ref_name-first_head}
use Rattle.tenant_refs.proofs.refs.Refs.new.Goals as goal

pub invariant_of-result : goal.invariant_of-result
invariant_of-result c =
    (ap (is_sorted (slice_cmp nat_cmp)) c.new.ensures.items, is_ref_name-first_head)

pub returns : goal.returns
returns c =
    ap (λ l. store_of l first_head) c.new.ensures.items
    ∙ ap (λ m. let store : RefStore = record { refs = m; head = first_head } in store) made-nil

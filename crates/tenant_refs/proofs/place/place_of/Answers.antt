use Rattle.std.specs.Ordering.{nat_cmp}
use Rattle.std.specs.Cmp.Lexicographic.{slice_cmp}
use Rattle.std.proofs.Common.{rules}
use Rattle.std.proofs.lemmas.Fn.{always_returns_same}
use Rattle.tenant_refs.proofs.Entries.{true-T}
use Rattle.tenant_refs.proofs.Searches.{searched}
use Rattle.tenant_refs.proofs.place.place_of.Goals as goal

-- the closure compares an entry's ref with the one that is looked for
pub returns : goal.returns
returns c =
    let facts = c.binary_search_by.ensures in
    let by_ref = facts.position (λ entry. slice_cmp nat_cmp entry.0 c.args.ref_name.now) (always_returns_same _ _ _ (λ a r g called. search rules)) in
    let ends = searched _ _ _ (true-T _ c.requires) facts.bound by_ref in
    record { found = ends.0; absent = ends.1 }

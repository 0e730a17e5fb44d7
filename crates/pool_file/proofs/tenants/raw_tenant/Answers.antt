use Rattle.std.proofs.Common.{◌≡◌, map, ◌∙◌}
use Rattle.std.proofs.lemmas.List.Elements.{recursion_from_All}
use Rattle.git_model.specs.RefStore.{listed_refs}
use Rattle.pool_file_format.specs.Shown.{refs_of}
use Rattle.pool_file_checks.specs.Repositories.{raw_ref, number_in}
use Rattle.pool_file.specs.Slots.{IsNumbered, slots_of}
use Rattle.pool_file.specs.Worth.{named_in}
use Rattle.pool_file.proofs.TenantSlots.{numbers_there}
use Rattle.pool_file.proofs.tenants.raw_tenant.Goals as goal

pub returns : goal.returns
returns c = λ pool contents all.
    let v = c.args.tenant.now in
    let saved = named_in pool v in
    let name : c.in_ok-from_slice.field-0.items ≡ saved.tenant =
    c.in_ok-from_slice.ensures.items ∙ c.as_bytes.ensures.text in
    let numbers : c.in_ok-numbers.numbers.items ≡ map (λ o. number_in contents o.content) saved.repository.objects =
    c.in_ok-numbers.ensures ∙ numbers_there pool contents c.args.by_slot.now v.table.now.entries v.objects
    (recursion_from_All (IsNumbered pool contents c.args.by_slot.now) (slots_of v) all) in
    let refs : refs_of c.in_ok-raw_refs.field-0.items ≡ map (raw_ref saved) (listed_refs saved.repository.refs) =
    c.in_ok-raw_refs.ensures pool in
    let head : c.in_ok-from_slice-2.field-0.items ≡ saved.repository.refs.head =
    c.in_ok-from_slice-2.ensures.items ∙ c.head.ensures.head in
    λ i. record { name = name i; numbers = numbers i; refs = refs i; head = head i }

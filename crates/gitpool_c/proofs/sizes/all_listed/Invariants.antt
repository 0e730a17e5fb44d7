use Rattle.std.proofs.Common.{◌≡◌, map, take}
use Rattle.tenant_service.specs.Sizes.{sizes_told}
use Rattle.gitpool_c.specs.Listing.{listed_told}
use Rattle.gitpool_c.proofs.sizes.all_listed.Given as goal

-- the list is of the tenants before the place
abbrev pub invariant-loop-sizes : goal.invariant-loop-sizes
invariant-loop-sizes l = map listed_told l.list.items ≡ map sizes_told (take l.sizes-index l.all)

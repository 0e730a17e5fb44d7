use Rattle.std.proofs.Common.{◌≡◌, ◌++◌, map, take}
use Rattle.std.specs.List.{flat_map}
use Rattle.tenant_service.specs.Sizes.{sizes_told}
use Rattle.gitpool.specs.Sizing.{line_of}
use Rattle.gitpool.proofs.sizing.append_lines.Given as goal

abbrev pub invariant-loop-sizes : goal.invariant-loop-sizes
invariant-loop-sizes l = l.out.items ≡ l.fn.out.items ++ flat_map line_of (map sizes_told (take l.sizes-index l.all))

use Rattle.std.proofs.Common.{◌≡◌, ◌∷◌, ◌++◌, take}
use Rattle.std.specs.List.{flat_map}
use Rattle.git_paths.specs.Quoting.{escape}
use Rattle.git_paths.proofs.printing.write_quoted.Given as goal

abbrev pub invariant-loop-byte : goal.invariant-loop-byte
invariant-loop-byte l =
    l.out.items ≡ l.fn.out.items ++ 34 ∷ flat_map escape (take l.byte-index l.bytes)

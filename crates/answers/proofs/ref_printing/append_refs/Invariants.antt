use Rattle.std.proofs.Common.{◌≡◌, ◌++◌, take}
use Rattle.std.specs.List.{flat_map}
use Rattle.git_model.specs.RefStore.{listed_refs}
use Rattle.answers.specs.Printed.{ref_line}
use Rattle.answers.proofs.ref_printing.append_refs.Given as goal

abbrev pub invariant-loop-position : goal.invariant-loop-position
invariant-loop-position l = l.out.items
    ≡ l.initial.out.items ++ flat_map ref_line (take l.position (listed_refs l.refs))

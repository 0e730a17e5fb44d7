use Rattle.std.proofs.Common.{◌≡◌, take, filter}
use Rattle.name_index.specs.Index.{is_between, with_more}
use Rattle.name_index.proofs.index.among.Given as goal

abbrev pub invariant-loop-id : goal.invariant-loop-id
invariant-loop-id l =
    l.found ≡ with_more l.fn.before (filter (is_between l.first l.last) (take l.id-index l.few))

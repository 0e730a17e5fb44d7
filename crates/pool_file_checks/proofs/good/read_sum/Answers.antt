use Rattle.pool_file_format.specs.Shown.{objects_of}
use Rattle.git_objects.specs.Parts.{entries_of}
use Rattle.pool_file_checks.specs.Own.{objects_in}
use Rattle.pool_file_checks.proofs.GoodLemmas.{read_is_good}
use Rattle.pool_file_checks.proofs.good.read_sum.Goals as goal

pub returns-in-Some : goal.returns-in-Some
returns-in-Some c =
    let read = rw c.in-Some.is at c.in_ok-entries.ensures.read in
    let found = rw c.in-Some.is at c.in_ok-entries.ensures.found in
    let stands = rw c.deref.ensures.value at c.entries_sum.ensures.stands in
    read_is_good (objects_in (objects_of c.args.objects.now) c.args.index.now.entries) c.args.place c.args.sums.now c.args.bytes.now
    (entries_of c.in-Some.entries.items) c.entries_sum.result read found.0 found.1 stands
    (λ noted are. rw c.deref.ensures.value at (c.entries_sum.ensures.sum noted are))

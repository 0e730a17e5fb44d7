use Rattle.git_objects.specs.Parts.{entry_of}
use Rattle.pool_file_checks.proofs.GoodLemmas.{directory_entry}
use Rattle.pool_file_checks.proofs.good.entry_sum.Goals as goal

pub returns-in-Directory-clause-sum : goal.returns-in-Directory-clause-sum
returns-in-Directory-clause-sum c = λ noted kept.
    directory_entry noted (entry_of c.args.entry.now) c.directory_sum.result c.in-Directory.is (c.directory_sum.ensures.sum noted kept)

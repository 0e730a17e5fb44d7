use Rattle.std.proofs.Common.{◌<◌, length}
use Rattle.std.specs.Prelude.{All}
use Rattle.pool_file_checks.specs.Indexing.{IsIndexed}
use Rattle.pool_file_checks.proofs.OwnLemmas.{Built}
use Rattle.pool_file_checks.proofs.own.index_rest.Given as goal

abbrev pub invariant-loop-place : goal.invariant-loop-place
invariant-loop-place l = IsIndexed l.names l.numbers l.initial.index.entries → All (λ n. n < length l.names) l.numbers
    → Built l.names l.numbers l.place l.index.entries

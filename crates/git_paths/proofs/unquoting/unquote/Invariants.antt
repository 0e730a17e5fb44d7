use Rattle.std.proofs.Common.{◌≡◌, length}
use Rattle.git_paths.specs.Reading.{unquoted}
use Rattle.git_paths.proofs.Inside.{with_front}
use Rattle.git_paths.proofs.unquoting.unquote.Given as goal

abbrev pub invariant-bytes : goal.invariant-bytes
invariant-bytes l = with_front l.bytes.items (unquoted l.rest) ≡ unquoted l.text

abbrev pub decreases-bytes : goal.decreases-bytes
decreases-bytes l = length l.rest

use Rattle.std.proofs.Common.{◌≡◌, length}
use Rattle.git_model.specs.HeaderReading.{message_of}
use Rattle.answers.proofs.log_printing.message_of.Given as goal

abbrev pub invariant-line : goal.invariant-line
invariant-line l = message_of l.rest ≡ message_of l.contents

abbrev pub decreases-line : goal.decreases-line
decreases-line l = length l.rest

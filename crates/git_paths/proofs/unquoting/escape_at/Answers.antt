use Rattle.std.proofs.Common.{sym, ◌∙◌}
use Rattle.git_paths.proofs.Inside.{escaped_nothing, escaped_letter, escaped_octals, rest_of}
use Rattle.git_paths.proofs.unquoting.escape_at.Goals as goal

pub returns-in_default-clause-read : goal.returns-in_default-clause-read
returns-in_default-clause-read c = escaped_nothing c.args.text.now c.in_default.len_below

pub returns-in-Some-clause-read : goal.returns-in-Some-clause-read
returns-in-Some-clause-read c =
    rw rest_of (escaped_letter c.args.text.now c.in-Some.byte c.in-len1-up.len_at_least (sym c.byte_of.ensures ∙ c.in-Some.is))

pub returns-in-None-clause-read : goal.returns-in-None-clause-read
returns-in-None-clause-read c =
    rw (escaped_octals c.args.text.now c.in-len1-up.len_at_least (sym c.byte_of.ensures ∙ c.in-None.is))
    (rw (rest_of 1 c.args.text.now) at c.octals_at.ensures.read)

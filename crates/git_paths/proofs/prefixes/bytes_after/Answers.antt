use Rattle.std.proofs.Common.{sym, ◌∙◌}
use Rattle.git_paths.proofs.Inside.{rest_of}
use Rattle.git_paths.proofs.Below.{apart_from, same_as, below, beside}
use Rattle.git_paths.proofs.prefixes.bytes_after.Goals as goal

pub returns-in_err-rest : goal.returns-in_err-rest
returns-in_err-rest c =
    rw c.from_residual.ensures (sym (apart_from c.args.top.now c.args.bytes.now (sym c.is_empty.ensures ∙ c.if-is_empty.false) c.in_err-rest.ensures.cases))

pub returns-in-empty : goal.returns-in-empty
returns-in-empty c =
    let cases = c.in_ok-rest.ensures.cases in
    sym
    (same_as c.args.top.now c.args.bytes.now c.in_ok-rest.rest.now c.requires.top c.requires.path cases.0 cases.1 c.in-empty.len_below)

pub returns-then-first-eq47 : goal.returns-then-first-eq47
returns-then-first-eq47 c =
    let cases = c.in_ok-rest.ensures.cases in
    rw (rest_of 1 c.in_ok-rest.rest.now)
    (sym (below c.args.top.now c.args.bytes.now c.in_ok-rest.rest.now (sym c.is_empty.ensures ∙ c.if-is_empty.false) c.requires.top c.requires.path cases.0 cases.1 c.in-len1-up.len_at_least c.if-first-eq47.true))

pub returns-else-first-eq47 : goal.returns-else-first-eq47
returns-else-first-eq47 c =
    let cases = c.in_ok-rest.ensures.cases in
    sym
    (beside c.args.top.now c.args.bytes.now c.in_ok-rest.rest.now (sym c.is_empty.ensures ∙ c.if-is_empty.false) cases.0 cases.1 c.in-len1-up.len_at_least c.if-first-eq47.false)

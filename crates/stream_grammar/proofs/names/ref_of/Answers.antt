use Rattle.std.proofs.Common.{◌∙◌, ap, Ok, Err, sym}
use Rattle.stream_grammar.proofs.Refs.{ref_of-Ok, ref_of-bad, ref_of-long}
use Rattle.stream_grammar.proofs.names.ref_of.Goals as goal

pub returns-in-Ok : goal.returns-in-Ok
returns-in-Ok c =
    let named = c.in-Ok.ensures.well_formed in
    ref_of-Ok c.args.text.now named.0 named.1 ∙ ap Ok (sym c.in-Ok.ensures.name)

pub returns-in-Err-BadRefName : goal.returns-in-Err-BadRefName
returns-in-Err-BadRefName c other =
    ref_of-bad c.args.text.now
    (c.in-Err-BadRefName.ensures.bad.0 (ap Err c.in-Err-BadRefName.field-0-is))

pub returns-in-Err-Limit : goal.returns-in-Err-Limit
returns-in-Err-Limit c other =
    let long = c.in-Err-Limit.ensures.long.0 (ap Err c.in-Err-Limit.field-0-is) in
    ref_of-long c.args.text.now long.0 long.1

use Rattle.std.proofs.Common.{Ok, Err, rules}
use Rattle.git_model.proofs.IdentLaws.{read_ident-Ok, written_ident-IsWritten}
use Rattle.git_names.proofs.Idents.{refusals}
use Rattle.git_names.proofs.ident.Ident.read.Goals as goal

pub returns-in-Some-clause-identity : goal.returns-in-Some-clause-identity
returns-in-Some-clause-identity c =
    (refusals c.args.text.now (Err c.in-Some.fault) (search rules)).0

pub returns-in-Some-clause-date : goal.returns-in-Some-clause-date
returns-in-Some-clause-date c = (refusals c.args.text.now (Err c.in-Some.fault) (search rules)).1

pub returns-in_err-text-clause-identity : goal.returns-in_err-text-clause-identity
returns-in_err-text-clause-identity c =
    (refusals c.args.text.now c.from_residual.result (search rules)).0

pub returns-in_err-text-clause-date : goal.returns-in_err-text-clause-date
returns-in_err-text-clause-date c =
    (refusals c.args.text.now c.from_residual.result (search rules)).1

-- the text is an ident, and its copy is written as one
pub invariant_of-result : goal.invariant_of-result
invariant_of-result c =
    rw c.in_ok-text.ensures (written_ident-IsWritten c.args.text.now ((read_ident-Ok c.args.text.now).0 c.in_default.ensures))

pub returns-clause-found : goal.returns-clause-found
returns-clause-found c =
    ((read_ident-Ok c.args.text.now).0 c.in_default.ensures, c.in_ok-text.ensures)

pub returns-clause-identity : goal.returns-clause-identity
returns-clause-identity c = (refusals c.args.text.now (Ok c.in_ok-text.text.items) (search rules)).0

pub returns-clause-date : goal.returns-clause-date
returns-clause-date c = (refusals c.args.text.now (Ok c.in_ok-text.text.items) (search rules)).1

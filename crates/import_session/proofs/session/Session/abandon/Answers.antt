use Rattle.std.proofs.Common.{rules}
use Rattle.import_session.proofs.session.Session.abandon.Goals as goal

pub returns-clause-left : goal.returns-clause-left
returns-clause-left g c = search rules

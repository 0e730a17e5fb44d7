use Rattle.std.proofs.Common.{ap}
use Rattle.git_model.specs.IdentReading.{seconds_at, ident_time}
use Rattle.git_names.proofs.Idents.{time_is}
use Rattle.git_names.proofs.ident.time_of.Goals as goal

pub returns-in-Some : goal.returns-in-Some
returns-in-Some c =
    time_is c.args.text.now c.in-Some.date.now c.seconds_of.result c.unwrap_or.result c.requires c.in-Some.ensures c.seconds_of.ensures c.unwrap_or.ensures

pub returns-in-None : goal.returns-in-None
unfolding ident_time
returns-in-None c = ap seconds_at c.in-None.ensures

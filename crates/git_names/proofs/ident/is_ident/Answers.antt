use Rattle.git_names.proofs.Idents.{faultless}
use Rattle.git_names.proofs.ident.is_ident.Goals as goal

pub returns : goal.returns
returns c =
    faultless c.args.text.now c.fault_of.result c.is_none.result c.fault_of.ensures c.is_none.ensures

use Rattle.pool_file_format.specs.Shown.{tenant_of}
use Rattle.pool_file.proofs.LoadedRefs.{all_set}
use Rattle.pool_file.proofs.refs.load_refs.Goals as goal

pub returns : goal.returns
returns c = λ pool.
    rw (c.in_ok-fill_refs.ensures, c.new-refs.ensures)
    (all_set c.requires.checked.0 (tenant_of c.args.tenant.now) pool c.args.table.now.entries
    c.requires.checked.1)

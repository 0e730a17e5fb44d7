use Rattle.tree_build.proofs.StoredAt.{found-nothing, found-file, found-tree}
use Rattle.tree_build.proofs.stores.store_found.Goals as goal

pub returns-in-Directory : goal.returns-in-Directory
returns-in-Directory g c = λ fs found.
    found-tree g.N.Naming.digest_of c.args.pool.now c.args.table.now c.requires.stands c.requires.room c.args.found c.in-Some.entry fs c.in-Some.is c.in-Directory.is found

pub returns-in_default : goal.returns-in_default
returns-in_default g c = λ fs found.
    found-file g.N.Naming.digest_of _ _ _ _ c.store_none.result c.store_none.ensures c.args.found c.in-Some.entry fs c.in-Some.is c.in_default.not-Directory found

pub returns-in-None : goal.returns-in-None
returns-in-None g c = λ fs found.
    found-nothing g.N.Naming.digest_of _ _ _ _ c.store_none-in-None.result c.store_none-in-None.ensures c.args.found fs c.in-None.is found

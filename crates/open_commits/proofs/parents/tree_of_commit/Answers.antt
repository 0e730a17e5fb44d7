use Rattle.tenant_tables.specs.Objects.{objects}
use Rattle.open_commits.proofs.StoredCommits.{held_commit, no_commit, told_tree}
use Rattle.open_commits.proofs.parents.tree_of_commit.Goals as goal

pub returns-in-Some : goal.returns-in-Some
returns-in-Some g c held kind =
    let os = objects c.args.pool.now c.args.table.now.entries in
    let found = rw c.of.ensures at c.in-Some.ensures in
    let readable = held_commit g.N.Naming.digest_of os held c.args.id.now kind c.in-Some.field-0-0 c.in-Some.contents.now found in
    rw (c.tree_in.ensures readable)
    (told_tree os c.args.id.now c.in-Some.field-0-0 c.in-Some.contents.now found)

pub returns-in-None : goal.returns-in-None
returns-in-None g c held kind =
    no_commit (objects c.args.pool.now c.args.table.now.entries) c.args.id.now
    (rw c.of.ensures at c.in-None.ensures) kind

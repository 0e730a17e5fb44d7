use Rattle.git_model.specs.Content.{content_from, name_by}
use Rattle.open_commits.proofs.Additions.{adds-object}
use Rattle.open_commits.proofs.storing.store.Goals as goal

pub returns-clause-adds : goal.returns-clause-adds
returns-clause-adds g c =
    let content = content_from c.args.kind c.args.bytes.now in
    adds-object (name_by g.N.Naming.digest_of content) content c.args.pool.now c.args.table.now
    c.add.new.pool c.add.new.self c.in_ok-add.ensures.ok.objects c.in_ok-add.ensures.ok.committed

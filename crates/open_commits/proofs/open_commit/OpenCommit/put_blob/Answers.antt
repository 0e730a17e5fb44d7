use Rattle.git_model.specs.declared.kind.Kind.TheVariants as kind
use Rattle.git_model.specs.Content.{content_from}
use Rattle.tenant_tables.specs.Objects.{objects}
use Rattle.open_commits.specs.OpenCommit.{commit_held, shown_in}
use Rattle.open_commits.proofs.Staying.{stored-keeps, blob-done}
use Rattle.open_commits.proofs.open_commit.OpenCommit.put_blob.Goals as goal

pub returns-clause-done : goal.returns-clause-done
returns-clause-done g c =
    let os = objects c.args.pool.now c.args.table.now.entries in
    let more = objects c.store.new.pool c.store.new.table.entries in
    let content = content_from kind.Blob c.args.contents.now in
    let keeps = stored-keeps g.N.Naming.digest_of content os more (commit_held c.put_file.new.self) c.in_ok-store.ensures.done (c.in_ok-put_file.ensures.held (λ e. absurd (cc e))) in
    blob-done g.N.Naming.digest_of os more c.args.mode c.args.path.now content (shown_in os c.args.self.now) (shown_in os c.put_file.new.self)
    (shown_in more c.put_file.new.self) (rw c.in_ok-name.ensures at c.in_ok-put_file.ensures.changes) c.in_ok-store.ensures.done keeps.1

pub returns-clause-held : goal.returns-clause-held
returns-clause-held g c =
    let os = objects c.args.pool.now c.args.table.now.entries in
    let more = objects c.store.new.pool c.store.new.table.entries in
    (stored-keeps g.N.Naming.digest_of (content_from kind.Blob c.args.contents.now) os more (commit_held c.put_file.new.self)
    c.in_ok-store.ensures.done (c.in_ok-put_file.ensures.held (λ e. absurd (cc e)))).0

use Rattle.git_paths.proofs.path.Path.quote_into.Goals as goal

pub returns-clause-ok : goal.returns-clause-ok
returns-clause-ok c = rw (← c.as_bytes.ensures.bytes) c.quote_into.ensures.ok

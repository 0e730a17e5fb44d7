use Rattle.open_commits.proofs.GoodFiles.{contents_has, copied_has, deleted_has, modified_has, renamed_has, started_has}
use Rattle.open_commits.proofs.file_laws.changes_keep_file_maps.Goals as goal

pub returns-clause-start : goal.returns-clause-start
returns-clause-start c = started_has

pub returns-clause-modified : goal.returns-clause-modified
returns-clause-modified c = modified_has

pub returns-clause-contents : goal.returns-clause-contents
returns-clause-contents c = contents_has

pub returns-clause-deleted : goal.returns-clause-deleted
returns-clause-deleted c = deleted_has

pub returns-clause-copied : goal.returns-clause-copied
returns-clause-copied c = copied_has

pub returns-clause-renamed : goal.returns-clause-renamed
returns-clause-renamed c = renamed_has

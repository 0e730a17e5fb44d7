use Rattle.open_commits.proofs.GoodCommits.{delete_keeps, copy_keeps, rename_keeps, all_deleted_keeps}
use Rattle.open_commits.proofs.laws.moves_keep_it.Goals as goal

pub returns : goal.returns
returns c = record {
  deleted = delete_keeps;
  copied = copy_keeps;
  renamed = rename_keeps;
  all_deleted = all_deleted_keeps;
}

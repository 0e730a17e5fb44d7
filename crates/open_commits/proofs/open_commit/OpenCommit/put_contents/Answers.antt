use Rattle.open_commits.proofs.FileChanges.{contents-put}
use Rattle.open_commits.proofs.open_commit.OpenCommit.put_contents.Goals as goal

pub returns-in_default : goal.returns-in_default
returns-in_default g c = record {
  keeps = c.put_blob.ensures.keeps;
  room = c.put_blob.ensures.room;
  adds = c.put_blob.ensures.adds;
  done = rw (contents-put _ _ _ _ _ _ c.in_default.not-Gitlink c.in_default.not-Directory) c.put_blob.ensures.done;
  held = c.put_blob.ensures.held;
  same = c.put_blob.ensures.same;
}

use Rattle.pool_file_checks.proofs.contents.is_text.Goals as goal

pub returns-in-Tree : goal.returns-in-Tree
returns-in-Tree c = rw c.in-Tree.is c.is_tree.ensures

pub returns-in-Commit : goal.returns-in-Commit
returns-in-Commit c = rw c.in-Commit.is c.is_commit.ensures

pub returns-in-Tag : goal.returns-in-Tag
returns-in-Tag c = rw c.in-Tag.is c.is_tag.ensures

-- The end of a commit: git-commit-tree(1).
use Rattle.std.specs.Prelude.{◌≡◌, ℕ, List, Result, Ok, Some, unwrap_or}
use Rattle.git_model.specs.declared.kind.Kind.TheVariants as kind
use Rattle.git_model.specs.Commit.{Commit, commit_contents}
use Rattle.git_model.specs.Content.{Content, content_from, name_by}
use Rattle.git_model.specs.Repository.{Object}
use Rattle.file_maps.specs.FileMap.{listed}
use Rattle.file_maps.specs.Trees.{tree_id}
use Rattle.tree_build.specs.Branch.{root_name}
use Rattle.open_commits.specs.declared.fault.Fault.{Fault}
use Rattle.git_model.specs.Results.{and_then}
use Rattle.open_commits.specs.OpenCommit.{OpenCommit, HeldCommit, open_commit_in}
use Rattle.open_commits.specs.Storing.{stored, trees_stored}

-- The commit that an open commit makes of this tree. Without an author, the committer is the
-- author.
abbrev pub commit_of : List ℕ → OpenCommit → Commit
commit_of tree commit = record {
  tree = tree;
  parents = commit.parents;
  author = unwrap_or commit.header.author commit.header.committer;
  committer = commit.header.committer;
  encoding = commit.header.encoding;
  message = commit.message;
}

-- The commit object that an open commit makes.
abbrev pub commit_content : (List ℕ → List ℕ) → OpenCommit → Content
commit_content digest commit =
    content_from kind.Commit (commit_contents
    (commit_of (tree_id digest (listed commit.files)) commit))

-- The commit's name, and the objects after its end.
pub record Closed : Type 0 where
  pub id : List ℕ
  pub objects : List Object

-- The end of a commit stores its trees, children first, and then the commit.
abbrev pub closed : (List ℕ → List ℕ) → List Object → OpenCommit → Result Closed Fault
closed digest os commit = let content = commit_content digest commit in
    and_then (trees_stored digest (listed commit.files) os) (λ with_trees.
    and_then (stored digest content with_trees) (λ more.
    Ok (record { id = name_by digest content; objects = more })))

-- The files are unchanged after the end, and known to be the tree that was stored. The next commit
-- can start from this one and keep the directories that were opened. No tree is read for that.
pub record KeepsFiles (digest : List ℕ → List ℕ) (os more : List Object) (old new : HeldCommit)
    : Type 0 where
  pub files : (open_commit_in more new).files ≡ (open_commit_in os old).files
  pub known : root_name new.files ≡ Some (tree_id digest (listed (open_commit_in os old).files))
  pub reads : new.files.reads ≡ old.files.reads

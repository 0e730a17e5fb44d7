-- A repository of one commit, under any digest: the smallest one that has a file and a branch.
use Rattle.std.specs.Prelude.{◌≢◌, ℕ, List, [], ◌∷◌, None, codes}
use Rattle.git_model.specs.declared.file_mode.FileMode.TheVariants as mode
use Rattle.git_model.specs.declared.kind.Kind.TheVariants as kind
use Rattle.git_model.specs.Commit.{Commit, commit_contents}
use Rattle.git_model.specs.Content.{Content, content_from, name_by}
use Rattle.git_model.specs.RefStore.{first_head, no_refs, with_ref}
use Rattle.git_model.specs.Repository.{Object, Repository}
use Rattle.git_model.specs.Tree.{TreeEntry, tree_contents}

-- An object under its name.
abbrev pub object_of : (List ℕ → List ℕ) → Content → Object
object_of digest content = record { id = name_by digest content; content = content }

-- The contents of the file `hello`.
abbrev pub blob : (List ℕ → List ℕ) → Object
blob digest = object_of digest (content_from kind.Blob (codes "hello\n"))

-- The tree that has only this file.
abbrev pub entry : (List ℕ → List ℕ) → TreeEntry
entry digest = record { mode = mode.Regular; name = codes "hello"; id = (blob digest).id }

abbrev pub tree : (List ℕ → List ℕ) → Object
tree digest = object_of digest (content_from kind.Tree (tree_contents (entry digest ∷ [])))

-- The commit of this tree, which has no parents.
abbrev pub author : List ℕ
author = codes "A U Thor <author@example.com> 1700000000 +0000"

abbrev pub first_commit : (List ℕ → List ℕ) → Commit
first_commit digest = record {
  tree = (tree digest).id;
  parents = [];
  author = author;
  committer = author;
  encoding = None;
  message = codes "Say hello\n";
}

abbrev pub commit : (List ℕ → List ℕ) → Object
commit digest =
    object_of digest (content_from kind.Commit (commit_contents (first_commit digest)))

-- The repository: these three objects, and the branch `main`, which HEAD names, at the commit.
abbrev pub one_commit : (List ℕ → List ℕ) → Repository
one_commit digest = record {
  objects = blob digest ∷ tree digest ∷ commit digest ∷ [];
  refs = with_ref no_refs first_head (commit digest).id;
}

-- The three objects have three names.
pub record AreNamedApart (digest : List ℕ → List ℕ) : Type 0 where
  pub tree_and_blob : (tree digest).id ≢ (blob digest).id
  pub commit_and_blob : (commit digest).id ≢ (blob digest).id
  pub commit_and_tree : (commit digest).id ≢ (tree digest).id

use Rattle.std.proofs.Common.{◌≡◌, ℕ, List, ◌∷◌, ◌++◌, Some, ap, ◌∙◌, codes}
use Rattle.std.specs.List.{flat_map}
use Rattle.std.proofs.lemmas.List.{append_assoc}
use Rattle.std.proofs.lemmas.Option.{some_pair_parts}
use Rattle.git_model.specs.Commit.{Commit, commit_contents, line, name_line, optional_line}
use Rattle.git_objects.proofs.CommitFronts.{no_commit, tree_missing}
use Rattle.git_objects.proofs.commit.read_commit_tree.Goals as goal

regroup : (tree parents author committer encoding message : List ℕ)
    → tree ++ parents ++ author ++ committer ++ encoding ++ 10 ∷ message
    ≡ tree ++ (parents ++ author ++ committer ++ encoding ++ 10 ∷ message)
regroup tree parents author committer encoding message = simp append_assoc

-- what follows the first line of a commit
abbrev after_tree : Commit → List ℕ
after_tree c =
    flat_map (name_line (codes "parent ")) c.parents
    ++ line (codes "author ") c.author
    ++ line (codes "committer ") c.committer
    ++ optional_line (codes "encoding ") c.encoding
    ++ 10 ∷ c.message

parted : (c : Commit) → commit_contents c ≡ name_line (codes "tree ") c.tree ++ after_tree c
parted c =
    regroup (name_line (codes "tree ") c.tree) (flat_map (name_line (codes "parent ")) c.parents)
    (line (codes "author ") c.author) (line (codes "committer ") c.committer)
    (optional_line (codes "encoding ") c.encoding) c.message

pub returns-clause-commit : goal.returns-clause-commit
returns-clause-commit c = λ made writable e.
    ap (λ tree. Some tree)
    (some_pair_parts _ _ _ _
    (c.in-Some.ensures.only made.tree (after_tree made) writable.tree (e ∙ parted made))).0

pub returns-in_default-clause-commit : goal.returns-in_default-clause-commit
returns-in_default-clause-commit c = λ made writable e.
    absurd (no_commit c.args.contents.now (tree_missing c.args.contents.now c.in_default.ensures) made writable e)

use Rattle.git_objects.proofs.CommitFronts.{no_commit, commit_found, commit_reads, commit_only, parents_taken, idents_taken, tree_missing, idents_missing, encoding_missing, head_there}
use Rattle.git_objects.proofs.commit.read_commit.Goals as goal

pub returns-in_default-clause-only : goal.returns-in_default-clause-only
returns-in_default-clause-only c =
    no_commit c.args.contents.now (tree_missing c.args.contents.now c.in_default.ensures)

pub returns-in_default-clause-exact : goal.returns-in_default-clause-exact
returns-in_default-clause-exact c none =
    no_commit c.args.contents.now (tree_missing c.args.contents.now c.in_default.ensures)

pub returns-in_default-take_idents-clause-only : goal.returns-in_default-take_idents-clause-only
returns-in_default-take_idents-clause-only c =
    no_commit c.args.contents.now (idents_missing c.args.contents.now _ _ _
    (parents_taken c.args.contents.now _ _ _ _ c.in-Some.ensures c.in_ok-ancestors.ensures)
    c.in_default-take_idents.ensures)

pub returns-in_default-take_idents-clause-exact : goal.returns-in_default-take_idents-clause-exact
returns-in_default-take_idents-clause-exact c none =
    no_commit c.args.contents.now (idents_missing c.args.contents.now _ _ _
    (parents_taken c.args.contents.now _ _ _ _ c.in-Some.ensures c.in_ok-ancestors.ensures)
    c.in_default-take_idents.ensures)

pub returns-in_default-take_encoding-clause-only : goal.returns-in_default-take_encoding-clause-only
returns-in_default-take_encoding-clause-only c =
    no_commit c.args.contents.now (encoding_missing c.args.contents.now _ _ _ _
    (idents_taken c.args.contents.now _ _ _ _ _
    (parents_taken c.args.contents.now _ _ _ _ c.in-Some.ensures c.in_ok-ancestors.ensures)
    c.in-Some-take_idents.ensures) c.in_default-take_encoding.ensures)

pub returns-in_default-take_encoding-clause-exact : goal.returns-in_default-take_encoding-clause-exact
returns-in_default-take_encoding-clause-exact c none =
    no_commit c.args.contents.now (encoding_missing c.args.contents.now _ _ _ _
    (idents_taken c.args.contents.now _ _ _ _ _
    (parents_taken c.args.contents.now _ _ _ _ c.in-Some.ensures c.in_ok-ancestors.ensures)
    c.in-Some-take_idents.ensures) c.in_default-take_encoding.ensures)

pub returns-clause-found : goal.returns-clause-found
returns-clause-found c =
    commit_found c.args.contents.now _ _ (head_there c.args.contents.now _ _ _ _ _ _
    (idents_taken c.args.contents.now _ _ _ _ _
    (parents_taken c.args.contents.now _ _ _ _ c.in-Some.ensures c.in_ok-ancestors.ensures)
    c.in-Some-take_idents.ensures) c.in-Some-take_encoding.ensures)

pub returns-clause-read : goal.returns-clause-read
returns-clause-read c =
    commit_reads c.args.contents.now _ _ (head_there c.args.contents.now _ _ _ _ _ _
    (idents_taken c.args.contents.now _ _ _ _ _
    (parents_taken c.args.contents.now _ _ _ _ c.in-Some.ensures c.in_ok-ancestors.ensures)
    c.in-Some-take_idents.ensures) c.in-Some-take_encoding.ensures)

pub returns-clause-only : goal.returns-clause-only
returns-clause-only c =
    commit_only c.args.contents.now _ _ (head_there c.args.contents.now _ _ _ _ _ _
    (idents_taken c.args.contents.now _ _ _ _ _
    (parents_taken c.args.contents.now _ _ _ _ c.in-Some.ensures c.in_ok-ancestors.ensures)
    c.in-Some-take_idents.ensures) c.in-Some-take_encoding.ensures)

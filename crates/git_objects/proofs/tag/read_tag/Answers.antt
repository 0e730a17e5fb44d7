use Rattle.std.proofs.lemmas.Bool.{iff_false}
use Rattle.git_objects.proofs.TagFronts.{no_tag, tag_found, tag_reads, tag_only, wrong_name, kind_taken, name_taken, name_missing, tagger_missing, head_there}
use Rattle.git_objects.proofs.tag.read_tag.Goals as goal

pub returns-in_default-take_line-clause-only : goal.returns-in_default-take_line-clause-only
returns-in_default-take_line-clause-only c =
    no_tag c.args.contents.now (name_missing c.args.contents.now _ _ _
    (kind_taken c.args.contents.now _ _ _ _ c.in-Some.ensures c.in-Some-take_kind.ensures)
    c.in_default-take_line.ensures)

pub returns-in_default-take_line-clause-exact : goal.returns-in_default-take_line-clause-exact
returns-in_default-take_line-clause-exact c none =
    no_tag c.args.contents.now (name_missing c.args.contents.now _ _ _
    (kind_taken c.args.contents.now _ _ _ _ c.in-Some.ensures c.in-Some-take_kind.ensures)
    c.in_default-take_line.ensures)

pub returns-in_default-take_tagger-clause-only : goal.returns-in_default-take_tagger-clause-only
returns-in_default-take_tagger-clause-only c =
    no_tag c.args.contents.now (tagger_missing c.args.contents.now _ _ _ _
    (name_taken c.args.contents.now _ _ _ _ _
    (kind_taken c.args.contents.now _ _ _ _ c.in-Some.ensures c.in-Some-take_kind.ensures)
    c.in-Some-take_line.ensures) c.in_default-take_tagger.ensures)

pub returns-in_default-take_tagger-clause-exact : goal.returns-in_default-take_tagger-clause-exact
returns-in_default-take_tagger-clause-exact c none =
    no_tag c.args.contents.now (tagger_missing c.args.contents.now _ _ _ _
    (name_taken c.args.contents.now _ _ _ _ _
    (kind_taken c.args.contents.now _ _ _ _ c.in-Some.ensures c.in-Some-take_kind.ensures)
    c.in-Some-take_line.ensures) c.in_default-take_tagger.ensures)

pub returns-then-not-branch-clause-only : goal.returns-then-not-branch-clause-only
returns-then-not-branch-clause-only c =
    wrong_name c.args.contents.now _ _ (head_there c.args.contents.now _ _ _ _ _ _
    (name_taken c.args.contents.now _ _ _ _ _
    (kind_taken c.args.contents.now _ _ _ _ c.in-Some.ensures c.in-Some-take_kind.ensures)
    c.in-Some-take_line.ensures) c.in-Some-take_tagger.ensures)
    (iff_false c.in_ok-is_tag_name.ensures c.if-not-branch.true)

pub returns-then-not-branch-clause-exact : goal.returns-then-not-branch-clause-exact
returns-then-not-branch-clause-exact c none =
    wrong_name c.args.contents.now _ _ (head_there c.args.contents.now _ _ _ _ _ _
    (name_taken c.args.contents.now _ _ _ _ _
    (kind_taken c.args.contents.now _ _ _ _ c.in-Some.ensures c.in-Some-take_kind.ensures)
    c.in-Some-take_line.ensures) c.in-Some-take_tagger.ensures)
    (iff_false c.in_ok-is_tag_name.ensures c.if-not-branch.true)

pub returns-clause-found : goal.returns-clause-found
returns-clause-found c =
    tag_found c.args.contents.now _ _ (head_there c.args.contents.now _ _ _ _ _ _
    (name_taken c.args.contents.now _ _ _ _ _
    (kind_taken c.args.contents.now _ _ _ _ c.in-Some.ensures c.in-Some-take_kind.ensures)
    c.in-Some-take_line.ensures) c.in-Some-take_tagger.ensures)
    (c.in_ok-is_tag_name.ensures.0 c.if-not-branch.false)

pub returns-clause-read : goal.returns-clause-read
returns-clause-read c =
    tag_reads c.args.contents.now _ _ (head_there c.args.contents.now _ _ _ _ _ _
    (name_taken c.args.contents.now _ _ _ _ _
    (kind_taken c.args.contents.now _ _ _ _ c.in-Some.ensures c.in-Some-take_kind.ensures)
    c.in-Some-take_line.ensures) c.in-Some-take_tagger.ensures)
    (c.in_ok-is_tag_name.ensures.0 c.if-not-branch.false)

pub returns-clause-only : goal.returns-clause-only
returns-clause-only c =
    tag_only c.args.contents.now _ _ (head_there c.args.contents.now _ _ _ _ _ _
    (name_taken c.args.contents.now _ _ _ _ _
    (kind_taken c.args.contents.now _ _ _ _ c.in-Some.ensures c.in-Some-take_kind.ensures)
    c.in-Some-take_line.ensures) c.in-Some-take_tagger.ensures)

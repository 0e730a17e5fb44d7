use Rattle.std.proofs.Common.{◌≡◌, sym, ◌∙◌}
use denote.Enum.Bare.{same_true}
use Rattle.git_model.specs.declared.kind.Kind.TheVariants as kind
use Rattle.git_model.specs.contracts.kind.Kind.{the_type}
use Rattle.std.proofs.Common.{rules}
use Rattle.commit_walk.proofs.CommitsAt.{none_of_others, commit_told, not_false, not_true}
use Rattle.commit_walk.proofs.commits.parents_at.Goals as goal

pub returns-then-ne : goal.returns-then-ne
returns-then-ne g c good =
    c.new-then-ne.ensures.items
    ∙ sym (none_of_others _ c.args.objects.now good c.args.place c.requires _ _ c.in-Some.kind
    c.in-Some.ensures (not_true _ c.if-ne.ensures))

pub returns : goal.returns
returns g c good =
    let is : c.in-Some.kind ≡ kind.Commit =
    same_true the_type (search rules) _ _ (not_false _ c.if-ne.ensures) in
    let told = commit_told _ c.args.objects.now good c.args.place c.requires _ _
    (rw is at c.in-Some.ensures) in
    rw told.parents (c.in_ok-parents.ensures told.readable)

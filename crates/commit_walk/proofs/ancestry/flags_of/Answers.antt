use Rattle.std.proofs.Common.{Bool, List, length, sym, ap, subst, ◌∙◌}
use Rattle.git_model.specs.References.{object_at}
use Rattle.commit_walk.specs.Marks.{IsReached}
use Rattle.commit_walk.proofs.Answers.{lent}
use Rattle.commit_walk.proofs.ancestry.flags_of.Goals as goal
use Rattle.commit_walk.proofs.ancestry.flags_of.Goals.{in-Some, in-None+in_ok-walk-in-None}

pub returns : goal.returns
returns g c good known =
    let os = c.args.objects.now in
    elim c.match-parents.branch [
      | in-Some w ↦
          rw w.flags-is (subst (λ (flags : List Bool). IsReached os (object_at c.args.top os).id c.args.floor flags)
          (sym (lent c.in_ok-flags.flags.len w.walk_by.new.flags c.in_ok-flags.flags.items c.in_ok-flags.flags.ok.0
          (w.walk_by.auto.flags ∙ ap length w.deref_mut.ensures.value)))
          (w.walk_by.ensures _ os good (rw w.deref.ensures.value (rw w.in-Some.is at known))))
      | in-None+in_ok-walk-in-None w ↦
          rw w.flags-is (subst (λ (flags : List Bool). IsReached os (object_at c.args.top os).id c.args.floor flags)
          (sym (lent c.in_ok-flags.flags.len w.walk.new.flags c.in_ok-flags.flags.items c.in_ok-flags.flags.ok.0
          (w.walk.auto.flags ∙ ap length w.deref_mut-in-None.ensures.value)))
          (w.in_ok-walk-in-None.ensures good))
    ]

use Rattle.std.proofs.Common.{◌≡◌, ◌++◌, Option, sym, ap, ◌∙◌}
use Rattle.std.specs.Prelude.{option_to_list}
use Rattle.std.proofs.lemmas.List.{append-nil}
use Rattle.plain_files.specs.declared.below.Below.{Below}
use Rattle.plain_files.proofs.Groups.{cut_turn}
use Rattle.plain_files.proofs.below.cut_run.Goals as goal
use Rattle.plain_files.proofs.below.cut_run.Goals.{in-Some+in_ok-push-in-Some, in-None}

-- what was cut off is pushed, where there is something
pushed : (c : goal.Joined-cut_off)
    → c.match-cut_off.below.items ≡ c.loop-file.below.items ++ option_to_list c.cut_off.result
pushed c =
    elim c.match-cut_off.branch [
      | in-Some+in_ok-push-in-Some w ↦
          ap (λ v. v.items) w.below-is ∙ w.in_ok-push-in-Some.ensures.items
          ∙ ap (λ (o : Option Below). c.loop-file.below.items ++ option_to_list o)
          (sym w.in-Some.is)
      | in-None w ↦
          ap (λ v. v.items) w.below-is ∙ sym (append-nil c.loop-file.below.items)
          ∙ ap (λ (o : Option Below). c.loop-file.below.items ++ option_to_list o)
          (sym w.in-None.is)
    ]

pub loop-file-preserved : goal.loop-file-preserved
loop-file-preserved c =
    cut_turn c.args.name.now c.args.files.now c.loop-file.file-index c.file-item.result c.cut_off.result c.loop-file.below.items c.match-cut_off.below.items
    c.loop-file-test.true c.file-item.is c.cut_off.ensures c.loop-file.invariant (pushed c)

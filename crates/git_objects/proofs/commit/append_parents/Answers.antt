use Rattle.git_objects.proofs.Kept.{kept_front}
use Rattle.git_objects.proofs.commit.append_parents.Goals as goal

pub returns-in_err-append_name_line-clause-kept : goal.returns-in_err-append_name_line-clause-kept
returns-in_err-append_name_line-clause-kept c =
    kept_front c.args.contents.now.items c.loop-parent.contents.items c.append_name_line.new.contents.items _ c.loop-parent.invariant c.in_err-append_name_line.ensures.kept

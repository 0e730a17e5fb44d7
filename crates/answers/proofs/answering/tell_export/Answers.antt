use Rattle.git_model.specs.Repository.{Repository}
use Rattle.answers.proofs.Exported.{exported, refused}
use Rattle.answers.proofs.answering.tell_export.Goals as goal

pub returns-in-Ok-clause-told : goal.returns-in-Ok-clause-told
returns-in-Ok-clause-told g c = λ good.
    let r : Repository = record { objects = c.args.objects.now; refs = c.args.refs.now } in
    exported r c.args.out.now.items c.append_export.new.out.items _
    (rw c.in-Ok.is at (c.append_export.ensures.exports good))

pub returns-in-Err-clause-told : goal.returns-in-Err-clause-told
returns-in-Err-clause-told g c = λ good.
    let r : Repository = record { objects = c.args.objects.now; refs = c.args.refs.now } in
    refused r c.args.out.now.items c.append_export.new.out.items c.in-Err.refusal _
    (rw c.in-Err.is at (c.append_export.ensures.exports good)) c.into.ensures

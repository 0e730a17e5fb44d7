use Rattle.std.proofs.Common.{length, refl, rules}
use Rattle.service_steps.proofs.WriteLemmas.{take-joined}
use Rattle.service_steps.proofs.written.join_parts.Goals as goal

pub returns-clause-joined : goal.returns-clause-joined
returns-clause-joined c =
    take-joined _ _ c.args.head.now c.args.reply.now _ 17 (length c.args.reply.now) c.copy_from_slice.ensures.after
    c.copy_from_slice-2.ensures.after (search rules) refl

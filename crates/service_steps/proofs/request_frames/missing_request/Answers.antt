use Rattle.std.proofs.Common.{ap, arith}
use Rattle.service_steps.specs.Requests.{request_framed}
use Rattle.service_steps.specs.declared.request_kind.RequestKind.TheVariants as of
use Rattle.service_steps.proofs.PackRequests.{missing_told}
use Rattle.service_steps.proofs.request_frames.missing_request.Goals as goal

pub returns-clause-framed : goal.returns-clause-framed
returns-clause-framed c =
    ap (request_framed of.Missing c.args.tenant.now)
    (missing_told c.args.body.now c.unwrap.result.0.now c.unwrap.result.1.now c.split_at.result.0.now c.split_at.result.1.now
    c.from_be_bytes.result _ (λ i. let t = c.type_inv.body i in omega (arith, t)) (rw c.unwrap.ensures at c.split_first_chunk.ensures.cases) c.from_be_bytes.ensures
    c.split_at.ensures.front c.split_at.ensures.back (omega arith))

use Rattle.std.proofs.Common.{arith}
use Rattle.std.proofs.lemmas.Result.{err_from_is_err_and}
use Rattle.byte_devices.proofs.ReadLemmas.{well_none}
use Rattle.service_steps.proofs.sized.read_room.Goals as goal

pub returns-then-n-limit : goal.returns-then-n-limit
returns-then-n-limit g c = (
  c.if-n-limit.true,
  well_none _ (let a = c.passed-passed.type_inv in let b = c.passed-passed.ensures in omega (arith, a, b)),
)

pub returns-in_err-resize_with : goal.returns-in_err-resize_with
returns-in_err-resize_with g c =
    let p = err_from_is_err_and c.from_residual.result c.from_residual.ensures.1 in
    rw (p.1, p.2) (
      (let a = c.if-n-limit.false in omega (arith, a)),
      (let a = c.in_err-resize_with.ensures.full in omega (arith, a)),
      well_none _ (let a = c.passed-passed.type_inv in let b = c.passed-passed.ensures in omega (arith, a, b)),
    )

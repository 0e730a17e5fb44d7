use Rattle.std.proofs.Common.{◌+◌, ◌∙◌, sym, ap, List, take_all, arith}
use Rattle.pool_file_format.specs.declared.raw.RawObject.{RawObject as Read}
use Rattle.pool_file_checks.specs.Own.{names_of}
use Rattle.pool_file_format.specs.Shown.{objects_of}
use Rattle.pool_file_checks.proofs.OwnLemmas.{named_on}
use Rattle.pool_file_checks.proofs.naming.name_objects.Goals as goal

pub loop-object-preserved : goal.loop-object-preserved
loop-object-preserved g c =
    let i = c.loop-object.object-index in
    rw c.in_ok-push.ensures.items
    (named_on g.N.Naming.digest_of c.args.objects.now i (i + 1) c.object-item.result c.loop-object.names.items c.in_ok-id.id
    (omega arith) c.loop-object-test.true c.object-item.is c.loop-object.invariant
    (rw (sym c.kind_of.ensures, sym c.as_slice.ensures) c.in_ok-id.ensures))

pub returns : goal.returns
returns g c = c.loop-object.invariant ∙ ap (λ (os : List Read). names_of g.N.Naming.digest_of (objects_of os))
    (take_all c.loop-object.object-index c.args.objects.now c.loop-object-test.false)

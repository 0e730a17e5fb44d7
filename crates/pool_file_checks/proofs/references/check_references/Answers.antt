use Rattle.std.proofs.Common.{refl, inl, arith}
use Rattle.std.proofs.lemmas.Bool.{iff_false}
use Rattle.pool_file_format.specs.Shown.{objects_of}
use Rattle.pool_file_checks.proofs.ConnectLemmas.{own_length}
use Rattle.pool_file_checks.proofs.references.check_references.Goals as goal

pub returns-then-not-branch : goal.returns-then-not-branch
returns-then-not-branch c =
    let size = own_length (objects_of c.args.objects.now) c.args.index.now.entries in
    λ stored. inl (λ all. iff_false (c.in_ok-place_is_connected.ensures stored) c.if-not-branch.true (all c.loop-place.place (omega (arith, size))), refl)

pub returns : goal.returns
returns c =
    let size = own_length (objects_of c.args.objects.now) c.args.index.now.entries in
    λ stored. (λ i lt. c.loop-place.invariant stored i (omega (arith, size, lt)), tt)

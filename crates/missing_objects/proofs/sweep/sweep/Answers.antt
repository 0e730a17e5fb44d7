use Rattle.std.proofs.Common.{◌≡◌, ◌-◌, ap, subst, arith}
use Rattle.missing_objects.proofs.Places.{no-places}
use Rattle.missing_objects.proofs.Sweeping.{at-first, none-left, settled, sweep-begun, sweep-step}
use Rattle.missing_objects.proofs.sweep.sweep.Goals as goal

pub loop-place-init : goal.loop-place-init
loop-place-init g c = record {
  within = let e = c.len-place.ensures in omega arith;
  size = c.requires.size;
  sweeps = λ held wants haves is.
      sweep-begun g.N.Naming.digest_of c.args.objects.now held wants haves c.len-place.result c.args.marks.now c.len-place.ensures is;
}

pub loop-place-preserved : goal.loop-place-preserved
loop-place-preserved g c = record {
  within = let h = c.loop-place.invariant.within in omega arith;
  size = c.in_ok-visit.ensures.size;
  sweeps = λ held wants haves is.
      rw c.from.ensures (sweep-step g.N.Naming.digest_of c.args.objects.now held wants haves c.loop-place.place (c.loop-place.place - 1)
      c.loop-place.found c.loop-place.marks c.visit.new.marks c.in_ok-visit.field-0
      (let h = c.loop-place-test.true in omega arith)
      (let h = c.loop-place-test.true in let w = c.loop-place.invariant.within in omega arith)
      (c.loop-place.invariant.sweeps held wants haves is) (c.in_ok-visit.ensures.passed held) c.in_ok-visit.ensures.told);
}

pub returns-else-found-open_count-clause-none : goal.returns-else-found-open_count-clause-none
returns-else-found-open_count-clause-none g c = λ held wants haves is.
    no-places c.loop-place.marks c.loop-place.place
    (none-left c.args.objects.now wants haves c.loop-place.place c.loop-place.found c.open_count.result c.loop-place.marks
    (c.loop-place.invariant.sweeps held wants haves is) c.loop-place.invariant.size.wanted c.open_count.ensures c.if-found-open_count.false)

pub returns-else-found-open_count-clause-settled : goal.returns-else-found-open_count-clause-settled
returns-else-found-open_count-clause-settled g c = λ held wants haves is.
    let swept = c.loop-place.invariant.sweeps held wants haves is in
    settled g.N.Naming.digest_of c.args.objects.now held wants haves c.loop-place.place c.loop-place.found c.loop-place.marks swept
    (none-left c.args.objects.now wants haves c.loop-place.place c.loop-place.found c.open_count.result c.loop-place.marks
    swept c.loop-place.invariant.size.wanted c.open_count.ensures c.if-found-open_count.false)

pub returns-after-loop-place-clause-none : goal.returns-after-loop-place-clause-none
returns-after-loop-place-clause-none g c = λ held wants haves is.
    no-places c.loop-place.marks c.loop-place.place
    (at-first c.loop-place.place c.loop-place.marks (let h = c.loop-place-test.false in omega arith))

pub returns-after-loop-place-clause-settled : goal.returns-after-loop-place-clause-settled
returns-after-loop-place-clause-settled g c = λ held wants haves is.
    settled g.N.Naming.digest_of c.args.objects.now held wants haves c.loop-place.place c.loop-place.found c.loop-place.marks
    (c.loop-place.invariant.sweeps held wants haves is)
    (at-first c.loop-place.place c.loop-place.marks (let h = c.loop-place-test.false in omega arith))

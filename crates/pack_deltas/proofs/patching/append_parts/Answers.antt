use Rattle.std.proofs.Common.{ℕ, List, ap, length, sym, arith}
use Rattle.std.proofs.lemmas.List.{length-append}
use Rattle.pack_deltas.proofs.Parts.{all-made, cut-made, long-made, next-made, next-short, whole-made}
use Rattle.pack_deltas.proofs.patching.append_parts.Goals as goal

pub returns-in_default-take_part : goal.returns-in_default-take_part
returns-in_default-take_part c =
    cut-made c.args.base.now c.args.instructions.now c.loop-code.rest.now c.loop-code.made.items c.args.size c.in-Some.code.now c.in-Some.after.now
    c.in-Some.ensures.cases.0 c.loop-code.invariant (sym c.in_default-take_part.ensures)

pub returns-then-part-size : goal.returns-then-part-size
returns-then-part-size c =
    long-made c.args.base.now c.args.instructions.now c.loop-code.rest.now c.loop-code.made.items c.args.size c.in-Some.code.now c.in-Some.after.now
    c.in-Some.ensures.cases.0 c.loop-code.invariant c.in-Some-take_part.part.now c.in-Some-take_part.next.now (sym c.in-Some-take_part.ensures)
    (let long = c.if-part-size.true in let len = c.len.ensures in let fits = c.loop-code.invariant.fits in omega (arith, long, len, fits))

pub loop-code-smaller : goal.loop-code-smaller
loop-code-smaller c =
    next-short c.args.base.now c.args.instructions.now c.loop-code.rest.now c.loop-code.made.items c.args.size c.in-Some.code.now c.in-Some.after.now
    c.in-Some.ensures.cases.0 c.loop-code.invariant c.in-Some-take_part.part.now c.in-Some-take_part.next.now (sym c.in-Some-take_part.ensures)

pub loop-code-preserved : goal.loop-code-preserved
loop-code-preserved c =
    next-made c.args.base.now c.args.instructions.now c.loop-code.rest.now c.loop-code.made.items c.args.size c.in-Some.code.now c.in-Some.after.now
    c.in-Some.ensures.cases.0 c.loop-code.invariant c.in-Some-take_part.part.now c.in-Some-take_part.next.now c.extend_from_slice.new.self.items
    (sym c.in-Some-take_part.ensures) c.in_ok-extend_from_slice.ensures.items
    (let short = c.if-part-size.false in let len = c.len.ensures in let grown = ap (λ (t : List ℕ). length t) c.in_ok-extend_from_slice.ensures.items in let fits = c.loop-code.invariant.fits in
    omega (arith, short, len, grown, fits, length-append c.loop-code.made.items c.in-Some-take_part.part.now))

pub returns : goal.returns
returns c =
    whole-made c.args.base.now c.args.instructions.now c.loop-code.made.items c.args.size c.len-2.result (let len = c.len-2.ensures in omega (arith, len))
    (all-made c.args.base.now c.args.instructions.now c.loop-code.rest.now c.loop-code.made.items c.args.size c.in_default.ensures.cases c.loop-code.invariant)

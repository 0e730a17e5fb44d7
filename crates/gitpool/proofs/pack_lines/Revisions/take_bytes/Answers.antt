use Rattle.std.proofs.Common.{◌+◌, ℕ, List, drop, subst, arith}
use Rattle.std.proofs.lemmas.List.{at_drop_more, drop_all}
use Rattle.std.proofs.lemmas.Result.{err_from_is_err_and}
use Rattle.gitpool.specs.RevisionReading.{AsksSame, asking}
use Rattle.gitpool.proofs.RevisionLemmas.{bytes_refused, same_more, same_refl}
use Rattle.gitpool.proofs.pack_lines.Revisions.take_bytes.Goals as goal

pub loop-byte-init : goal.loop-byte-init
loop-byte-init c = same_refl _ _

pub returns-in_err-take_byte : goal.returns-in_err-take_byte
returns-in_err-take_byte c =
    let p = err_from_is_err_and c.from_residual.result c.from_residual.ensures.1 in
    rw (p.1, p.2)
    (bytes_refused (asking c.args.line.now.items c.args.self.now.wants.items c.args.self.now.haves.items) c.args.text.now _ _ _ (drop (c.loop-byte.byte-index + 1) c.args.text.now) _ _ c.in_err-take_byte.field-0.0
    (at_drop_more (λ (l : List ℕ). l) c.args.text.now c.loop-byte.byte-index 0 (let t = c.loop-byte-test.true in omega (arith, t))) c.loop-byte.invariant c.in_err-take_byte.ensures)

pub loop-byte-preserved : goal.loop-byte-preserved
loop-byte-preserved c =
    same_more _ c.args.text.now _ _ _ (drop (c.loop-byte.byte-index + 1) c.args.text.now) _
    (at_drop_more (λ (l : List ℕ). l) c.args.text.now c.loop-byte.byte-index 0 (let t = c.loop-byte-test.true in omega (arith, t))) c.loop-byte.invariant c.in_ok-take_byte.ensures

pub returns : goal.returns
returns c =
    subst (λ (l : List ℕ). AsksSame (asking c.args.line.now.items c.args.self.now.wants.items c.args.self.now.haves.items) c.args.text.now
    (asking c.loop-byte.line.items c.loop-byte.self.wants.items c.loop-byte.self.haves.items) l)
    (drop_all c.loop-byte.byte-index c.args.text.now (let t = c.loop-byte-test.false in omega (arith, t))) c.loop-byte.invariant

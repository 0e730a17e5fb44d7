use Rattle.std.proofs.Common.{◌≡◌, ℕ, take, sym, ap, subst, refl, ◌∙◌, arith}
use Rattle.std.proofs.lemmas.Result.{err_from_is_err_and}
use Rattle.std.specs.Io.KnownBytes.{Consumes}
use Rattle.git_objects.specs.Device.{device_of, passed_of, counted_on}
use Rattle.gitpool.proofs.ImportLemmas.{gives_piece, so_far_new, so_far_more, through_done, imported_piece, through_end, unread, endless}
use Rattle.gitpool.proofs.importing.read_all.Goals as goal

pub loop-init : goal.loop-init
loop-init g c = (
  refl,
  c.requires.emptied,
  λ repository streaming.
      so_far_new _ _ repository _ _ _ (let a = c.passed-passed.type_inv in let b = c.passed-passed.ensures in omega (arith, a, b)) streaming,
)

pub returns-in-Err-clause-read : goal.returns-in-Err-clause-read
returns-in-Err-clause-read g c = λ repository streaming.
    unread _ _ _ _ _ _ _ _ _ _ (c.loop.invariant.2 repository streaming) _ c.loop-test.true c.in-Err.ensures.bytes c.in-Err.ensures.passed
    c.in-Err.ensures.faults c.read.ensures.calls

pub returns-then-n-eq0-clause-read : goal.returns-then-n-eq0-clause-read
returns-then-n-eq0-clause-read g c = λ repository streaming.
    let none : c.in-Ok.n ≡ 0 = c.if-n-eq0.true in
    through_end _ _ _ _ _ _ _ _ _ _ (c.loop.invariant.2 repository streaming) _ c.loop-test.true
    (subst (λ (n : ℕ). Consumes (g.R.Read.remaining (device_of c.loop.reader)) (g.R.Read.remaining (device_of c.read.new.self)) (take n c.read.new.buf))
    none c.in-Ok.ensures.bytes.0)
    (c.in-Ok.ensures.bytes.1 none (let a = c.read.auto.buf in let b = c.loop.invariant.0 in omega (arith, a, b)))
    (c.in-Ok.ensures.passed ∙ ap (counted_on (passed_of c.loop.reader)) none) c.in-Ok.ensures.faults c.read.ensures.calls

pub returns-then-n-eq0-clause-emptied : goal.returns-then-n-eq0-clause-emptied
returns-then-n-eq0-clause-emptied g c = c.loop.invariant.1

pub pass_on-requires : goal.pass_on-requires
pass_on-requires g c = record { emptied = c.loop.invariant.1 }

pub returns-in_err-pass_on-clause-read : goal.returns-in_err-pass_on-clause-read
returns-in_err-pass_on-clause-read g c = λ repository streaming.
    let p = err_from_is_err_and c.from_residual.result c.from_residual.ensures.1 in
    let s = c.loop.invariant.2 repository streaming in
    rw (p.1, p.2)
    (imported_piece _ _ _ _ c.loop.service _ _ _ _ _ s c.pass_on.new.service _ _ _ c.in_err-pass_on.field-0.0 c.loop-test.true
    (gives_piece _ _ c.in-Ok.n c.read.new.buf _ c.split_at.ensures.front c.in-Ok.ensures.bound.1 c.in-Ok.ensures.bytes.0
    c.in-Ok.ensures.passed c.in-Ok.ensures.faults c.read.ensures.calls c.if-n-eq0.false) c.in_err-pass_on.ensures.taken
    (c.in_err-pass_on.ensures.passed repository s.bytes s.streaming))

pub returns-then-has_read_done-clause-read : goal.returns-then-has_read_done-clause-read
returns-then-has_read_done-clause-read g c = λ repository streaming.
    let s = c.loop.invariant.2 repository streaming in
    through_done _ _ _ _ c.loop.service _ _ _ _ _ s c.pass_on.new.service _ _ _ c.loop-test.true
    (gives_piece _ _ c.in-Ok.n c.read.new.buf _ c.split_at.ensures.front c.in-Ok.ensures.bound.1 c.in-Ok.ensures.bytes.0
    c.in-Ok.ensures.passed c.in-Ok.ensures.faults c.read.ensures.calls c.if-n-eq0.false) c.in_ok-pass_on.ensures.taken
    (c.in_ok-pass_on.ensures.passed repository s.bytes s.streaming) (sym c.has_read_done.ensures ∙ c.if-has_read_done.true)

pub loop-preserved : goal.loop-preserved
loop-preserved g c = (
  c.read.auto.buf ∙ c.loop.invariant.0,
  c.in_ok-pass_on.ensures.emptied,
  λ repository streaming.
      let s = c.loop.invariant.2 repository streaming in
      so_far_more _ _ _ _ c.loop.service _ _ _ _ _ s c.pass_on.new.service _ _ _
      (gives_piece _ _ c.in-Ok.n c.read.new.buf _ c.split_at.ensures.front c.in-Ok.ensures.bound.1 c.in-Ok.ensures.bytes.0
      c.in-Ok.ensures.passed c.in-Ok.ensures.faults c.read.ensures.calls c.if-n-eq0.false) c.in_ok-pass_on.ensures.taken
      (c.in_ok-pass_on.ensures.passed repository s.bytes s.streaming) (sym c.has_read_done.ensures ∙ c.if-has_read_done.false),
)

pub returns-clause-read : goal.returns-clause-read
returns-clause-read g c = λ repository streaming.
    endless _ _ _ _ _ _ _ _ _ _ (c.loop.invariant.2 repository streaming)
    (let a = c.loop-test.false in let b = c.loop.auto.counter-end in omega (arith, a, b))

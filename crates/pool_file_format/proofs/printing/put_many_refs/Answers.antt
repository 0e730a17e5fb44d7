use Rattle.std.proofs.Common.{◌+◌, ◌∙◌, List, ap, drop, arith}
use Rattle.std.specs.List.{flat_map}
use Rattle.std.proofs.lemmas.List.{drop_all}
use Rattle.std.proofs.lemmas.List.Concat.{flat_map-cons}
use Rattle.std.proofs.lemmas.Result.{err_from_is_err_and}
use Rattle.pool_file_format.specs.declared.raw.RawRef.{RawRef as Ref}
use Rattle.pool_file_format.specs.Format.{ref_text}
use Rattle.pool_file_format.specs.Shown.{ref_of, refs_of}
use Rattle.pool_file_format.proofs.Pieces.{item_next, taken_start, taken_on, taken_fails, taken_done}
use Rattle.pool_file_format.proofs.printing.put_many_refs.Goals as goal

pub loop-one-init : goal.loop-one-init
loop-one-init g c = taken_start g.S.Sink.Took g.S.Sink.Failed _ (flat_map ref_text (refs_of c.args.refs.now)) g.met.S.Sink.adds_up

pub returns-in_err-put_ref : goal.returns-in_err-put_ref
returns-in_err-put_ref g c =
    let p = err_from_is_err_and c.from_residual.result c.from_residual.ensures.1 in
    rw (p.1, p.2) (taken_fails g.S.Sink.Took g.S.Sink.Failed _ _ _ _ (flat_map ref_text (refs_of c.args.refs.now))
    (flat_map ref_text (refs_of (drop c.loop-one.one-index c.args.refs.now))) (ref_text (ref_of c.one-item.result)) (flat_map ref_text (refs_of (drop (c.loop-one.one-index + 1) c.args.refs.now)))
    g.met.S.Sink.adds_up (ap (λ (l : List Ref). (flat_map ref_text (refs_of l))) (item_next c.args.refs.now c.loop-one.one-index c.one-item.result c.loop-one-test.true c.one-item.is) ∙ flat_map-cons ref_text (ref_of c.one-item.result) (refs_of (drop (c.loop-one.one-index + 1) c.args.refs.now)))
    c.loop-one.invariant c.in_err-put_ref.ensures)

pub loop-one-preserved : goal.loop-one-preserved
loop-one-preserved g c =
    taken_on g.S.Sink.Took g.S.Sink.Failed _ _ _ (flat_map ref_text (refs_of c.args.refs.now)) (flat_map ref_text (refs_of (drop c.loop-one.one-index c.args.refs.now))) (ref_text (ref_of c.one-item.result))
    (flat_map ref_text (refs_of (drop (c.loop-one.one-index + 1) c.args.refs.now))) g.met.S.Sink.adds_up
    (ap (λ (l : List Ref). (flat_map ref_text (refs_of l))) (item_next c.args.refs.now c.loop-one.one-index c.one-item.result c.loop-one-test.true c.one-item.is) ∙ flat_map-cons ref_text (ref_of c.one-item.result) (refs_of (drop (c.loop-one.one-index + 1) c.args.refs.now)))
    c.loop-one.invariant c.in_ok-put_ref.ensures

pub returns : goal.returns
returns g c =
    taken_done g.S.Sink.Took _ _ (flat_map ref_text (refs_of c.args.refs.now)) (flat_map ref_text (refs_of (drop c.loop-one.one-index c.args.refs.now)))
    (ap (λ (l : List Ref). (flat_map ref_text (refs_of l))) (drop_all c.loop-one.one-index c.args.refs.now (let t = c.loop-one-test.false in omega (arith, t)))) c.loop-one.invariant

use Rattle.std.proofs.Common.{◌+◌, drop, arith}
use Rattle.std.specs.List.{flat_map}
use Rattle.std.proofs.lemmas.Result.{err_from_is_err_and}
use Rattle.git_model.specs.Content.{content_from}
use Rattle.pool_file_format.proofs.Pieces.{taken_on, taken_fails}
use Rattle.pack_text.specs.PackText.{entry_text}
use Rattle.pack_text.proofs.EntriesLeft.{texts_from, nothing_within}
use Rattle.pack_text.proofs.pack.put_entries.Goals as goal
use Rattle.pack_text.proofs.pack.put_entries.Goals.{in-Some+in_ok-put_entry, in_default}

pub returns-in_err-put_entry : goal.returns-in_err-put_entry
returns-in_err-put_entry g c =
    let cs = g.C.PackContents.contents c.args.contents.now in
    let i = c.loop-position.position in
    let one = content_from c.in-Some.kind c.in-Some.bytes.now in
    let p = err_from_is_err_and c.from_residual.result c.from_residual.ensures.1 in
    rw (p.1, p.2) (taken_fails g.S.Sink.Took g.S.Sink.Failed _ _ _ _ (flat_map entry_text cs)
    (flat_map entry_text (drop i cs)) (entry_text one) (flat_map entry_text (drop (i + 1) cs))
    g.met.S.Sink.adds_up (texts_from entry_text cs i one c.in-Some.ensures)
    c.loop-position.invariant c.in_err-put_entry.ensures)

pub loop-position-preserved : goal.loop-position-preserved
loop-position-preserved g c =
    let cs = g.C.PackContents.contents c.args.contents.now in
    let i = c.loop-position.position in
    elim c.match-at.branch [
      | in-Some+in_ok-put_entry w ↦
          (let one = content_from w.in-Some.kind w.in-Some.bytes.now in
          let e = w.sink-is in
          rw e (taken_on g.S.Sink.Took g.S.Sink.Failed _ _ _ (flat_map entry_text cs)
          (flat_map entry_text (drop i cs)) (entry_text one) (flat_map entry_text (drop (i + 1) cs))
          g.met.S.Sink.adds_up (texts_from entry_text cs i one w.in-Some.ensures)
          c.loop-position.invariant w.in_ok-put_entry.ensures))
      | in_default w ↦ (let e = c.len-position-end.ensures in let t = c.loop-position-test.true in
          absurd (nothing_within _ c.at.result cs i c.at.ensures w.in_default.is (omega (arith, e, t))))
    ]

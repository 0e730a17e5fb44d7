use Rattle.std.proofs.Common.{◌∙◌}
use Rattle.std.proofs.lemmas.Result.{err_from_is_err_and}
use Rattle.pool_file_format.specs.Format.{body_text}
use Rattle.pool_file_format.specs.Shown.{listed_file, listed_text}
use Rattle.pool_file_format.proofs.Pieces.{blocks_done, blocks_failed}
use Rattle.pool_file_format.proofs.sealing.put_gathered.Goals as goal

pub returns-in_err-put_body : goal.returns-in_err-put_body
unfolding listed_text
returns-in_err-put_body g c =
    let p = err_from_is_err_and c.from_residual.result c.from_residual.ensures.1 in
    let s = c.in_err-put_body.ensures in
    record {
      gives = rw (p.1, p.2) (blocks_failed g.S.Sink.Failed _ _ _ _ c.requires s.1);
      same = s.0;
    }

pub returns : goal.returns
unfolding listed_text
returns g c =
    let s = c.in_ok-put_body.ensures in
    record {
      gives = blocks_done g.S.Sink.Took g.S.Sink.Failed _ _ _ _ _ _ (body_text (listed_file g.O.Printed.object c.args.file.now)) g.met.S.Sink.adds_up c.requires s.1 c.pass_on.ensures.gives;
      same = c.pass_on.ensures.same ∙ s.0;
    }

use Rattle.std.proofs.Common.{◌∙◌}
use Rattle.pool_file_format.proofs.Pieces.{gathers_gives}
use Rattle.pool_file_format.proofs.gathering.BufferedSink.take.Goals as goal

pub returns : goal.returns
returns g c =
    let first = c.keep.ensures.sink in
    let second = c.keep-2.ensures.sink in
    gathers_gives g.S.Sink.Took g.S.Sink.Failed c.args.self.now _ c.keep-2.new.self.sink.now c.take.result c.args.bytes.now g.met.S.Sink.adds_up
    (cc (first, second, c.in_ok-pass_on.ensures.same)) (c.if-keep-2.ensures.left ∙ c.in_ok-pass_on.ensures.none)
    (rw (second, ← first, ← c.if-keep.ensures.left) c.in_ok-pass_on.ensures.gives) c.take.ensures

use Rattle.std.proofs.Common.{length, arith}
use Rattle.std.proofs.lemmas.List.{take_all}
use Rattle.std.proofs.Math.Seq.{drop-length}
use Rattle.git_paths.proofs.Firsts.{first_component, one_component}
use Rattle.git_paths.proofs.components.first_of.Goals as goal

pub returns-in-Some : goal.returns-in-Some
returns-in-Some c =
    rw (c.split_at.ensures.front, c.split_at-in-Some.ensures.back)
    (first_component c.args.bytes.now c.in-Some.at c.in-Some.ensures.some c.in-Some.ensures.slash c.in-Some.ensures.first c.requires.path)

pub returns-in-None : goal.returns-in-None
returns-in-None c =
    rw (c.split_at-in-None.ensures.front, c.split_at-in-None.ensures.back, take_all (length c.args.bytes.now) c.args.bytes.now (omega arith), drop-length c.args.bytes.now)
    (one_component c.args.bytes.now c.requires.some c.in-None.ensures.none)

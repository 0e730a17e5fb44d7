use Rattle.std.proofs.Common.{[], ℕ, List, subst, append-nil}
use Rattle.pool_file_format.specs.Sinks.{Gives}
use Rattle.pool_file_format.proofs.Pieces.{then_gives}
use Rattle.pack_text.specs.AddingUp.{blocks_add_up}
use Rattle.pack_text.specs.BlockWriting.{TookBlocks, FailedBlocks}
use Rattle.pack_text.specs.PackText.{pack_body}
use Rattle.pack_text.proofs.pack.put_blocks.Goals as goal

pub returns-clause-gives : goal.returns-clause-gives
returns-clause-gives g c =
    let H = g.D.DigestState.Holds in
    let C = g.W.Write.contents in
    let old = c.args.blocks.now in
    let new = c.pass_on.new.self in
    let body = pack_body (g.C.PackContents.contents c.args.contents.now) in
    subst (λ (l : List ℕ). Gives (TookBlocks H C) (FailedBlocks H C) old c.pass_on.result new l)
    (append-nil body)
    (then_gives (TookBlocks H C) (FailedBlocks H C) old _ new c.pass_on.result body [] (blocks_add_up H C)
    c.in_ok-put_body.ensures c.pass_on.ensures.gives)

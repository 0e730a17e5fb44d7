use Rattle.std.proofs.Common.{ap, rules}
use Rattle.stream_commands.specs.State.{StreamState}
use Rattle.stream_commands.proofs.commit_ishes.commit_named.Goals as goal

pub returns : goal.returns
returns g c = record {
  named = λ committed good.
      let found = c.peel_with_chain.ensures.found good (c.named.ensures.chain good) in search rules;
  same = ap (λ (state : StreamState). record state { chain = c.peel_with_chain.new.chain }) c.named.ensures.same;
  chain = λ good. c.peel_with_chain.ensures.chain good (c.named.ensures.chain good);
}

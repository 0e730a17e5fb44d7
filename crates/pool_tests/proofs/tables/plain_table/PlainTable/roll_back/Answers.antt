use Rattle.std.proofs.Common.{sym, refl, arith}
use Rattle.std.proofs.lemmas.List.{take_all}
use Rattle.tenant_tables.proofs.TableLemmas.{PreservesOthers-refl, length-objects}
use Rattle.pool_tests.proofs.tables.plain_table.PlainTable.roll_back.Goals as goal

pub loop-self-init : goal.loop-self-init
loop-self-init g c = record {
  stands = c.requires.stands;
  others = PreservesOthers-refl _ _;
  entries = sym (take_all _ _ (omega arith));
  objects =
      let n = length-objects c.args.pool.now c.args.self.now.entries in sym (take_all _ _ (omega (arith, n)));
  committed = refl;
  within = c.committed_len-committed.ensures.within;
}

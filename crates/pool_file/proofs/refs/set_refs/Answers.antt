use Rattle.std.proofs.Common.{length, arith}
use Rattle.tenant_tables.specs.View.{names}
use Rattle.pool_file_format.specs.Shown.{ref_of}
use Rattle.pool_file.specs.Refs.{IsRefIn}
use Rattle.pool_file.proofs.Items.{all_at}
use Rattle.pool_file.proofs.LoadedRefs.{refs_on, refs_done}
use Rattle.pool_file.proofs.refs.set_refs.Goals as goal

pub set_ref-requires : goal.set_ref-requires
set_ref-requires c =
    all_at ref_of (IsRefIn c.args.front.now (length c.args.table.now.entries)) c.args.all.now
    c.loop-one.one-index c.one-item.result c.requires
    (let l = c.loop-one-test.true in omega (arith, l)) c.one-item.is

pub loop-one-preserved : goal.loop-one-preserved
loop-one-preserved c =
    refs_on ref_of c.args.front.now (names c.args.table.now.entries) c.args.all.now
    c.loop-one.one-index c.one-item.result _ _ _
    (let l = c.loop-one-test.true in omega (arith, l)) c.one-item.is c.in_ok-set_ref.ensures
    c.loop-one.invariant

pub returns : goal.returns
returns c =
    refs_done ref_of c.args.front.now (names c.args.table.now.entries) c.args.all.now
    c.loop-one.one-index _ _ (let l = c.loop-one-test.false in omega (arith, l))
    c.loop-one.invariant

use Rattle.std.proofs.Common.{sym, ap, subst, ◌∙◌}
use Rattle.git_model.specs.Content.{Content}
use Rattle.pool_file_checks.specs.Sums.{Fits}
use Rattle.pool_file_checks.proofs.SumLemmas.{own_sum}
use Rattle.pool_file.proofs.LoadedTables.{summed_own, loaded_own}
use Rattle.pool_file.proofs.EntrySums.{fits_in, summary_own}
use Rattle.pool_file.proofs.tables.load_object.Goals as goal

pub summary_after-requires : goal.summary_after-requires
summary_after-requires g c =
    let can = c.requires.can in
    fits_in c.args.table.now.entries can.0 c.get-kind.result.0 c.get-kind.result.1.now can.1.noted
    (subst (λ (x : Content). Fits x.kind x.bytes can.0) (sym c.get-kind.ensures) can.1.fits)

pub add_held-requires-clause-summed : goal.add_held-requires-clause-summed
add_held-requires-clause-summed g c =
    let can = c.requires.can in
    summed_own g.N.Naming.digest_of c.args.pool.now c.args.table.now can.0 c.args.slot can.1 c.in_ok-sum.sum
    (c.in_ok-sum.ensures
    ∙ summary_own c.args.table.now.entries can.0 c.get-kind.result.0 c.get-kind.result.1.now can.1.noted
    ∙ ap (λ (x : Content). own_sum x.kind x.bytes can.0) c.get-kind.ensures)

pub returns : goal.returns
returns g c = λ can.
    loaded_own g.N.Naming.digest_of c.args.pool.now c.args.table.now can.0 c.args.slot can.1 c.in_ok-sum.sum
    (c.in_ok-sum.ensures
    ∙ summary_own c.args.table.now.entries can.0 c.get-kind.result.0 c.get-kind.result.1.now can.1.noted
    ∙ ap (λ (x : Content). own_sum x.kind x.bytes can.0) c.get-kind.ensures)
    c.add_held.result c.add_held.new.pool c.add_held.new.self c.add_held.ensures.stands c.add_held.ensures.others c.add_held.ensures.ok

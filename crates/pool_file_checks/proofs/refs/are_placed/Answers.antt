use Rattle.std.proofs.Common.{nat_lt, rules, tests}
use Rattle.std.proofs.lemmas.Iterator.{YieldsList-from_slice}
use Rattle.std.proofs.lemmas.Iterator.Search.{all_from_yields_List}
use Rattle.pool_file_format.specs.Shown.{ref_of}
use Rattle.pool_file_checks.proofs.TenantLemmas.{decides_below}
use Rattle.pool_file_checks.proofs.refs.are_placed.Goals as goal

pub returns : goal.returns
returns c =
    decides_below ref_of (λ r. r.place) c.args.count c.args.refs.now c.all.result
    (all_from_yields_List (λ r. nat_lt r.place c.args.count) _ _ _ c.all.ensures.ran (YieldsList-from_slice c.args.refs.now cc) (λ x b q k. search (rules, tests)))

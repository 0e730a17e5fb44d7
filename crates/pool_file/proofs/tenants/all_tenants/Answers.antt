use Rattle.std.proofs.Common.{Ok, rules, tests}
use Rattle.std.proofs.lemmas.Iterator.{YieldsList-from_map, items_from_collect}
use Rattle.std.proofs.lemmas.Iterator.Consumers.{YieldsList-at, YieldsList-from_rest}
use Rattle.std.specs.declared.alloc.AllocError.{AllocError}
use Rattle.pool_file.proofs.tenants.all_tenants.Goals as goal

pub returns : goal.returns
returns c =
    items_from_collect {E = AllocError} (Ok c.in_ok-collect.field-0) c.in_ok-collect.ensures.ran
    (YieldsList-from_map _ (λ one. one.tenant)
    (YieldsList-at c.map.ensures.source
    (YieldsList-from_rest c.args.by_name.keys c.into_iter.ensures.into_iter_gives.0))
    c.map.ensures.closure (λ x r q k. search (rules, tests)))

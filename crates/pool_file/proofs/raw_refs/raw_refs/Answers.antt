use Rattle.std.proofs.Common.{◌<◌, ◌∙◌, length, ap, arith}
use Rattle.git_model.specs.RefStore.{listed_refs}
use Rattle.tenant_refs.specs.FullName.{namespaces}
use Rattle.pool_file.specs.Worth.{named_in}
use Rattle.pool_file.proofs.Placed.{refs_more, ref_is}
use Rattle.pool_file.proofs.TenantSlots.{stands_there}
use Rattle.pool_file.proofs.raw_refs.raw_refs.Goals as goal

pub loop-position-preserved : goal.loop-position-preserved
loop-position-preserved c = λ pool.
    refs_more (named_in pool c.args.tenant.now) (listed_refs c.args.tenant.now.refs.now)
    c.loop-position.refs.items c.push.new.self.items c.in_ok-raw_ref.field-0 c.loop-position.position
    (c.in-Some.entry.0.now, c.in-Some.entry.1) (c.loop-position.invariant pool)
    c.in_ok-push.ensures.items
    (ref_is (named_in pool c.args.tenant.now) (c.in-Some.entry.0.now, c.in-Some.entry.1)
    c.deref.result.now c.in_ok-raw_ref.field-0.name.items c.in_ok-raw_ref.field-0.place
    (c.deref.ensures.value ∙ c.in_ok-front.ensures ∙ ap namespaces c.as_bytes.ensures.text)
    c.in_ok-raw_ref.ensures.0 (c.in_ok-raw_ref.ensures.1 pool))
    c.in-Some.ensures.entry

pub returns-in_default : goal.returns-in_default
returns-in_default c =
    let n = c.len-position-end.ensures in
    let l : c.loop-position.position < length (listed_refs c.args.tenant.now.refs.now) =
    let t = c.loop-position-test.true in omega (arith, t, n) in
    absurd (stands_there (listed_refs c.args.tenant.now.refs.now) c.loop-position.position
    c.in_default.ensures.entry l)

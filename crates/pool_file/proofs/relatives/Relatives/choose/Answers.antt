use Rattle.std.proofs.Common.{length, refl, arith}
use Rattle.std.proofs.lemmas.Option.{slice_get_read}
use Rattle.pool_file.proofs.relatives.Relatives.choose.Goals as goal

pub overflow_sub-numbers : goal.overflow_sub-numbers
overflow_sub-numbers c = let few = c.common_front-count.ensures.few in omega (arith, few)

pub returns-then-is_worth_sharing : goal.returns-then-is_worth_sharing
returns-then-is_worth_sharing c = record {
  tenant = c.in_ok-tenant.tenant.now;
  there =
      let h = c.in_ok-tenant.ensures.lookup in
      slice_get_read c.args.tenants.now (length c.args.tenants.now) c.in_ok-place.place c.in_ok-tenant.tenant.now refl
      h.3.0 h.1;
  alike = c.common_front-count.ensures;
}

use Rattle.std.proofs.Common.{◌≡◌, ℕ, ◌-◌, ◌+◌, take, sym, subst, arith}
use Rattle.tenant_tables.specs.IsBackedBy.{IsBackedBy}
use Rattle.tenant_tables.proofs.TableLemmas.{Released, Released-none, Released-one}
use Rattle.tenant_tables.proofs.table.Table.release_from.Given as given
use Rattle.tenant_tables.proofs.table.Table.release_from.Goals as goal

pub loop-count-init : goal.loop-count-init
loop-count-init g c =
    let size = c.len-count.ensures.value in
    let within = c.requires.within in record {
      released = Released-none _ _ _ _ size c.requires.stands;
      within = omega (arith, size, within);
      all = omega (arith, size);
    }

pub release_at-requires-clause-stands : goal.release_at-requires-clause-stands
release_at-requires-clause-stands g c =
    let some = c.loop-count-test.true in
    let one : (c.loop-count.count - 1) + 1 ≡ c.loop-count.count = omega (arith, some) in
    subst (λ (n : ℕ). IsBackedBy g.N.Naming.digest_of c.loop-count.pool (take n c.args.self.now.entries)) (sym one)
    c.loop-count.invariant.released.stands

pub loop-count-preserved : goal.loop-count-preserved
loop-count-preserved g c =
    let some = c.loop-count-test.true in
    let all = c.loop-count.invariant.all in
    let one : (c.loop-count.count - 1) + 1 ≡ c.loop-count.count = omega (arith, some) in record {
      released =
          Released-one g.N.Naming.digest_of c.args.pool.now c.loop-count.pool _ c.args.self.now.entries (c.loop-count.count - 1)
          (subst (λ (n : ℕ). Released g.N.Naming.digest_of c.args.pool.now c.args.self.now.entries n c.loop-count.pool) (sym one) c.loop-count.invariant.released)
          c.release_at.ensures.stands c.release_at.ensures.others c.release_at.ensures.objects;
      within = omega (arith, some);
      all = omega (arith, some, all);
    }

-- the count stops at the position
released : (g : given.Over) (c : goal.After-loop-count g)
    → Released g.N.Naming.digest_of c.args.pool.now c.args.self.now.entries c.args.kept c.loop-count.pool
released g c =
    let within = c.loop-count.invariant.within in
    let past = c.loop-count-test.false in
    let stops : c.loop-count.count ≡ c.args.kept = omega (arith, within, past) in
    subst (λ (n : ℕ). Released g.N.Naming.digest_of c.args.pool.now c.args.self.now.entries n c.loop-count.pool)
    stops c.loop-count.invariant.released

pub returns-clause-stands : goal.returns-clause-stands
returns-clause-stands g c = (released g c).stands

pub returns-clause-others : goal.returns-clause-others
returns-clause-others g c = (released g c).others

pub returns-clause-objects : goal.returns-clause-objects
returns-clause-objects g c = (released g c).left

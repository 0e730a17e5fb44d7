use Rattle.std.proofs.Common.{ℕ, List, take, ap, sym, subst}
use Rattle.git_model.proofs.Readables.{objects_are}
use Rattle.git_model.specs.GoodRepository.{AreObjects}
use Rattle.git_model.specs.HeldObjects.{AreHeld}
use Rattle.git_model.specs.Repository.{Object, Repository}
use Rattle.content_pool.specs.Pool.{Cells}
use Rattle.tenant_tables.specs.View.{in_sight}
use Rattle.tenant_tables.specs.declared.sight.Sight.TheVariants.{Committed}
use Rattle.tenant_tables.specs.Objects.{objects}
use Rattle.revisions.specs.FirstParents.{IsFirstParentChain}
use Rattle.tenant_service.specs.declared.tenant.Tenant.{Tenant}
use Rattle.tenant_service.specs.Soundness.{IsSoundTenantState}
use Rattle.tenant_service.specs.Tenants.{Stands, IsSettled, holding_in}
use Rattle.tenant_service.proofs.SoundLemmas.{last-sound}
use Rattle.tenant_service.proofs.TenantLemmas.{saved_is, took-told, took-refused_query}
use Rattle.tenant_service.proofs.tenant.ask.Goals as goal

-- the objects of the last checkpoint are good
good-saved : (digest : List ℕ → List ℕ) (pool : Cells) (t : Tenant) → IsSettled t.phase t.table
    → IsSoundTenantState digest (holding_in pool t) → AreObjects digest (objects pool (take t.table.committed t.table.entries))
good-saved digest pool t settled sound =
    subst (λ (os : List Object). AreObjects digest os)
    (sym (ap (λ (r : Repository). r.objects) (saved_is t.phase pool t.table t.refs settled))) (last-sound digest (holding_in pool t) sound).objects

-- an answer changes the chain alone
stands-with : (digest : List ℕ → List ℕ) (pool : Cells) (t : Tenant) (chain : List (List ℕ)) → Stands digest pool t
    → IsSoundTenantState digest (holding_in pool t)
    → (AreHeld digest (objects pool (in_sight Committed t.table)) → IsFirstParentChain (objects pool (in_sight Committed t.table)) t.chain
    → IsFirstParentChain (objects pool (in_sight Committed t.table)) chain)
    → Stands digest pool (record { table = t.table; refs = t.refs; phase = t.phase; chain = chain })
stands-with digest pool t chain was sound stays = record {
  entries = was.entries;
  settled = was.settled;
  opened = was.opened;
  files = was.files;
  chain = stays (objects_are _ _ (good-saved digest pool t was.settled sound)) was.chain;
}

pub returns-in-Ok-clause-stands : goal.returns-in-Ok-clause-stands
returns-in-Ok-clause-stands g c =
    stands-with g.N.Naming.digest_of c.args.pool.now c.args.tenant.now c.answer_along.new.chain c.requires.stands c.requires.sound
    c.answer_along.ensures.chain

pub returns-in-Ok-clause-own : goal.returns-in-Ok-clause-own
returns-in-Ok-clause-own g c =
    let t = c.args.tenant.now in
    let saved = saved_is t.phase c.args.pool.now t.table t.refs c.requires.stands.settled in
    let good = good-saved g.N.Naming.digest_of c.args.pool.now t c.requires.stands.settled c.requires.sound in
    took-told g.N.Naming.digest_of c.args.query.now _ (holding_in c.args.pool.now t) c.args.out.now.items c.answer_along.new.out.items saved
    (c.in-Ok.ensures.told (objects_are _ _ good) (λ _. good) c.requires.stands.chain)

pub returns-in-Err-clause-stands : goal.returns-in-Err-clause-stands
returns-in-Err-clause-stands g c =
    stands-with g.N.Naming.digest_of c.args.pool.now c.args.tenant.now c.answer_along.new.chain c.requires.stands c.requires.sound
    c.answer_along.ensures.chain

pub returns-in-Err-clause-own : goal.returns-in-Err-clause-own
returns-in-Err-clause-own g c =
    let t = c.args.tenant.now in
    let saved = saved_is t.phase c.args.pool.now t.table t.refs c.requires.stands.settled in
    let good = good-saved g.N.Naming.digest_of c.args.pool.now t c.requires.stands.settled c.requires.sound in
    rw c.refusal_told.ensures
    (took-refused_query g.N.Naming.digest_of c.args.query.now _ (holding_in c.args.pool.now t) c.args.out.now.items c.answer_along.new.out.items
    c.in-Err.refusal saved (c.in-Err.ensures.told (objects_are _ _ good) (λ _. good) c.requires.stands.chain) c.in-Err.ensures.same)

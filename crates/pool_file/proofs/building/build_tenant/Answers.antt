use Rattle.std.proofs.Common.{◌≡◌, ◌++◌, ℕ, List, length, sym, ap, ◌∙◌, subst}
use Rattle.git_model.specs.Repository.{Object}
use Rattle.tenant_tables.specs.Objects.{objects}
use Rattle.pool_file_format.specs.Shown.{tenant_of}
use Rattle.pool_file_checks.specs.Own.{own_objects}
use Rattle.pool_file_checks.specs.Saved.{refs_at}
use Rattle.pool_file_checks.specs.FileRefs.{ref_checks}
use Rattle.pool_file_checks.specs.Tenants.{name_checks, number_checks}
use Rattle.pool_file_checks.specs.Whole.{own_checks}
use Rattle.pool_file_checks.proofs.Passing.{passes_rest}
use Rattle.pool_file.specs.Building.{objects_at, MayLoad}
use Rattle.pool_file.specs.Tables.{BeginAlike}
use Rattle.pool_file.proofs.Built.{counted_by}
use Rattle.pool_file.proofs.LoadedTables.{may_load_own}
use Rattle.pool_file.proofs.building.build_tenant.Goals as goal

pub load_table-requires-clause-may : goal.load_table-requires-clause-may
load_table-requires-clause-may g c =
    subst (λ (l : List ℕ). MayLoad g.N.Naming.digest_of c.args.pool.now c.args.slots.now l) (sym c.deref-2.ensures.value)
    (may_load_own g.N.Naming.digest_of c.args.pool.now c.args.slots.now (tenant_of c.args.tenant.now) c.requires.live c.requires.room c.requires.checked)

pub load_refs-requires-clause-checked : goal.load_refs-requires-clause-checked
load_refs-requires-clause-checked g c =
    let os = objects_at c.args.pool.now c.args.slots.now in
    let t = tenant_of c.args.tenant.now in
    let q = c.requires.checked in
    let own = own_checks g.N.Naming.digest_of os t.numbers in
    let numbers = number_checks (length os) t in (
      os,
      passes_rest own (ref_checks os t)
          (passes_rest numbers (own ++ ref_checks os t)
          (passes_rest (name_checks q.version q.last t) (numbers ++ (own ++ ref_checks os t)) q.passes)),
    )

pub load_refs-requires-clause-counted : goal.load_refs-requires-clause-counted
load_refs-requires-clause-counted g c =
    counted_by g.N.Naming.digest_of (objects_at c.args.pool.now c.args.slots.now)
    c.deref-2.result.now c.args.tenant.now.numbers.items c.load_table.new.pool
    c.in_ok-table.table.entries c.in_ok-table.ensures.loads.objects c.deref-2.ensures.value

pub returns-clause-builds : goal.returns-clause-builds
returns-clause-builds g c =
    let os = objects_at c.args.pool.now c.args.slots.now in
    let t = tenant_of c.args.tenant.now in
    let after = c.load_table.new.pool in
    let name : c.read_tenant_name-name.result ≡ t.name =
    c.read_tenant_name-name.ensures.name ∙ c.deref.ensures.value in
    let own : objects after c.in_ok-table.table.entries
    ≡ own_objects g.N.Naming.digest_of os t.numbers =
    c.in_ok-table.ensures.loads.objects ∙ ap (own_objects g.N.Naming.digest_of os) c.deref-2.ensures.value in
    let refs = c.in_ok-refs.ensures after
    ∙ ap (λ (l : List Object). refs_at t.name l t.refs t.head) own in
    record {
      built = record {
        name = c.read_tenant_name-name.ensures.well_formed;
        stands = c.in_ok-table.ensures.loads.stands;
        committed = c.in_ok-table.ensures.loads.committed;
      };
      says = λ i. record {
        tenant = name i;
        repository = record { objects = own i; refs = refs i };
      };
      others = c.in_ok-table.ensures.loads.others;
    }

pub load_table-requires-clause-alike : goal.load_table-requires-clause-alike
load_table-requires-clause-alike g c =
    subst (λ (l : List ℕ). BeginAlike c.args.other.now.entries c.args.slots.now l c.args.count) (sym c.deref-2.ensures.value)
    c.requires.alike

use Rattle.std.proofs.Common.{◌<◌, ℕ, List, [], length, drop, sym, ap, subst, ◌∙◌, arith}
use Rattle.std.proofs.lemmas.Bool.{OnTrue_at}
use Rattle.tenant_tables.specs.declared.summary.Summary.{Summary}
use Rattle.content_pool.specs.Pool.{content}
use Rattle.tenant_tables.specs.View.{View}
use Rattle.pool_file_checks.specs.Own.{own_objects}
use Rattle.pool_file_checks.specs.Quick.{AreSums}
use Rattle.pool_file_checks.specs.Sums.{Sums}
use Rattle.pool_file.specs.Building.{objects_at, LoadsAll}
use Rattle.pool_file.specs.Tables.{sums_on}
use Rattle.pool_file.proofs.Begun.{begun}
use Rattle.pool_file.proofs.LoadedTables.{AreLoaded, all_loaded, names_at, named_here, may_load, loaded_on}
use Rattle.pool_file.proofs.tables.load_table.Goals as goal

pub known_table-requires-clause-size : goal.known_table-requires-clause-size
known_table-requires-clause-size g c =
    ap (λ (l : List Summary). length l) c.deref.ensures.value ∙ OnTrue_at c.if-are_known.true c.are_known.ensures.size

pub known_table-requires-clause-known : goal.known_table-requires-clause-known
known_table-requires-clause-known g c =
    let os = objects_at c.args.pool.now c.args.slots.now in
    subst (λ (l : List Summary). AreSums [] l (own_objects g.N.Naming.digest_of os c.args.numbers.now)) (sym c.deref.ensures.value)
    (subst (λ (l : List ℕ). AreSums [] c.args.known.now.sums.items (own_objects g.N.Naming.digest_of os l))
    (OnTrue_at c.if-are_known.true c.are_known.ensures.numbers) c.requires.known)

pub bounds-names-place : goal.bounds-names-place
bounds-names-place g c =
    names_at g.N.Naming.digest_of c.args.pool.now c.args.slots.now c.args.numbers.now c.args.names.now c.loop-position.position c.requires.may c.requires.named
    (let t = c.loop-position-test.true in omega (arith, t))

pub loop-position-init : goal.loop-position-init
loop-position-init g c =
    let t = c.in_ok-table.ensures.ok c.args.slots.now c.args.numbers.now c.requires.alike in
    let own = own_objects g.N.Naming.digest_of (objects_at c.args.pool.now c.args.slots.now) c.args.numbers.now in
    subst (λ (i : ℕ). (noted : Sums) × AreLoaded g.N.Naming.digest_of c.args.pool.now c.start_table.new.pool c.in_ok-table.table.entries noted (drop i own) own)
    (sym c.len-position.ensures.value)
    (begun g.N.Naming.digest_of c.args.pool.now c.start_table.new.pool c.args.slots.now c.args.numbers.now
    c.in_ok-table.table.entries c.requires.may t.stands t.others c.len-position.ensures.distinct t.alike)

pub offset_bounds-names-place : goal.offset_bounds-names-place
offset_bounds-names-place g c = let reach = bounds-names-place g c in omega (arith, reach)

pub load_object-requires-clause-named : goal.load_object-requires-clause-named
load_object-requires-clause-named g c =
    let at = c.loop-position in
    named_here g.N.Naming.digest_of c.args.pool.now at.pool c.args.slots.now c.args.numbers.now at.table.entries at.invariant.0 c.requires.may at.position c.index-slots-place.result
    (let t = c.loop-position-test.true in omega (arith, t)) c.index-slots-place.is at.invariant.1
    c.args.names.now c.index-names-place.result c.requires.named c.index-names-place.is

pub load_object-requires-clause-can : goal.load_object-requires-clause-can
load_object-requires-clause-can g c =
    let at = c.loop-position in (
      at.invariant.0,
      may_load g.N.Naming.digest_of c.args.pool.now at.pool c.args.slots.now c.args.numbers.now at.table.entries at.invariant.0 c.requires.may at.position c.index-slots-place.result
          (let t = c.loop-position-test.true in omega (arith, t)) c.index-slots-place.is at.invariant.1,
    )

pub loop-position-preserved : goal.loop-position-preserved
loop-position-preserved g c =
    let at = c.loop-position in
    let slot = c.index-slots-place.result in
    let sums = sums_on g.N.Naming.digest_of (content at.pool slot) at.invariant.0 in
    let l : at.position < length c.args.numbers.now = let t = c.loop-position-test.true in omega (arith, t) in
    let can = may_load g.N.Naming.digest_of c.args.pool.now at.pool c.args.slots.now c.args.numbers.now at.table.entries at.invariant.0 c.requires.may at.position slot
    l c.index-slots-place.is at.invariant.1 in (
      sums,
      loaded_on g.N.Naming.digest_of c.args.pool.now at.pool c.args.slots.now c.args.numbers.now at.table.entries at.invariant.0 c.requires.may at.position slot
          l c.index-slots-place.is at.invariant.1
          c.load_object.new.pool c.load_object.new.table.entries sums (c.in_ok-load_object.ensures (at.invariant.0, can)),
    )

pub returns-clause-loads : goal.returns-clause-loads
returns-clause-loads g c =
    let at = c.loop-position in
    subst (λ (v : View). LoadsAll g.N.Naming.digest_of c.args.slots.now c.args.numbers.now c.args.pool.now at.pool v) (sym c.commit.ensures)
    (all_loaded g.N.Naming.digest_of c.args.pool.now at.pool c.args.slots.now c.args.numbers.now at.table at.invariant.0 at.position
    (let l = c.loop-position-test.false in omega (arith, l)) at.invariant.1)

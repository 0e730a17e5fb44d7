use Rattle.std.proofs.Common.{[], sym, subst, arith}
use Rattle.tenant_tables.specs.View.{View}
use Rattle.pool_file_checks.specs.Own.{own_objects}
use Rattle.pool_file.specs.Building.{objects_at, LoadsAll}
use Rattle.pool_file.proofs.LoadedTables.{loaded_none, all_loaded, names_at, named_here}
use Rattle.pool_file.proofs.KnownTables.{can_add, known_on}
use Rattle.pool_file.proofs.tables.known_table.Goals as goal

pub loop-position-init : goal.loop-position-init
loop-position-init g c =
    let D = g.N.Naming.digest_of in
    let own = own_objects D (objects_at c.args.pool.now c.args.slots.now) c.args.numbers.now in
    rw c.in_ok-made.ensures.entries record {
      noted = [];
      loaded = loaded_none D c.args.pool.now own c.requires.may.trees;
      sums = c.requires.known;
    }

pub bounds-names-place : goal.bounds-names-place
bounds-names-place g c =
    names_at g.N.Naming.digest_of c.args.pool.now c.args.slots.now c.args.numbers.now c.args.names.now c.loop-position.position c.requires.may c.requires.named
    (let t = c.loop-position-test.true in omega (arith, t))

pub offset_bounds-names-place : goal.offset_bounds-names-place
offset_bounds-names-place g c = let reach = bounds-names-place g c in omega (arith, reach)

pub add_known-requires-clause-named : goal.add_known-requires-clause-named
add_known-requires-clause-named g c =
    let at = c.loop-position in
    named_here g.N.Naming.digest_of c.args.pool.now at.pool c.args.slots.now c.args.numbers.now at.made.entries at.invariant.noted c.requires.may at.position c.index-slots-place.result
    (let t = c.loop-position-test.true in omega (arith, t)) c.index-slots-place.is at.invariant.loaded
    c.args.names.now c.index-names-place.result c.requires.named c.index-names-place.is

pub add_known-requires-clause-can : goal.add_known-requires-clause-can
add_known-requires-clause-can g c =
    let at = c.loop-position in
    can_add g.N.Naming.digest_of c.args.pool.now at.pool c.args.slots.now c.args.numbers.now at.made.entries c.args.sums.now c.requires.may at.position c.index-slots-place.result
    (let t = c.loop-position-test.true in omega (arith, t)) c.index-slots-place.is
    (let t = c.loop-position-test.true in let size = c.requires.size in omega (arith, t, size)) at.invariant

pub loop-position-preserved : goal.loop-position-preserved
loop-position-preserved g c =
    let at = c.loop-position in
    known_on g.N.Naming.digest_of c.args.pool.now at.pool c.args.slots.now c.args.numbers.now at.made.entries c.args.sums.now c.requires.may at.position c.index-slots-place.result
    (let t = c.loop-position-test.true in omega (arith, t)) c.index-slots-place.is
    (let t = c.loop-position-test.true in let size = c.requires.size in omega (arith, t, size)) at.invariant
    c.add_known.new.pool c.add_known.new.table.entries (λ can. c.in_ok-add_known.ensures can)

pub returns : goal.returns
returns g c =
    let at = c.loop-position in
    subst (λ (v : View). LoadsAll g.N.Naming.digest_of c.args.slots.now c.args.numbers.now c.args.pool.now at.pool v) (sym c.commit.ensures)
    (all_loaded g.N.Naming.digest_of c.args.pool.now at.pool c.args.slots.now c.args.numbers.now at.made at.invariant.noted at.position
    (let l = c.loop-position-test.false in omega (arith, l)) at.invariant.loaded)

use Rattle.std.proofs.Common.{◌<◌, Option, get_or, length, refl, sym, subst, ◌∙◌, arith}
use Rattle.content_pool.specs.Pool.{content}
use Rattle.tenant_tables.specs.declared.summary.Summary.{Summary}
use Rattle.tenant_tables.specs.Adding.{Adds}
use Rattle.tenant_tables.specs.Summed.{SummedAfter}
use Rattle.tenant_tables.proofs.Copies.{IsNext, and-next, is-at, is-live, is-named, is-new, is-short, is-spare, is-summed, none-yet, room-for}
use Rattle.tenant_tables.proofs.copying.add_places.Goals as goal

pub loop-place-init : goal.loop-place-init
loop-place-init g c = record {
  first = none-yet g.N.Naming.digest_of c.args.pool.now c.args.table.now.entries
      c.args.made.now.entries c.requires.empty;
  committed = refl;
}

pub unwrap-found-requires : goal.unwrap-found-requires
unwrap-found-requires g c =
    let at = c.loop-place in
    let lt : at.place-index < length c.args.places.now = omega arith in
    let is = c.at.ensures in
    rw is (is-at c.args.table.now.entries (get_or c.args.places.now at.place-index 0)
    (c.requires.within at.place-index 0 lt))

pub add_held-requires : goal.add_held-requires
add_held-requires g c =
    let D = g.N.Naming.digest_of in
    let at = c.loop-place in
    let from = c.args.table.now.entries in
    let places = c.args.places.now in
    let i = at.place-index in
    let found = c.unwrap-found.result in
    let t : IsNext D c.args.pool.now at.pool from at.made places i found.0 found.1 = record {
      stands = c.requires.stands;
      room = c.requires.room;
      distinct = c.len-many.ensures.distinct;
      good = c.requires.good;
      lt = omega arith;
      told = sym c.unwrap-found.ensures ∙ c.at.ensures;
      first = at.invariant.first;
    } in record {
      stands = t.first.stands;
      room = room-for D c.args.pool.now at.pool from at.made places i found.0 found.1 t;
      live = is-live D c.args.pool.now at.pool from at.made places i found.0 found.1 t;
      named = is-named D c.args.pool.now at.pool from at.made places i found.0 found.1 t;
      new = is-new D c.args.pool.now at.pool from at.made places i found.0 found.1 t;
      spare = is-spare D c.args.pool.now at.pool from at.made places i found.0 found.1 t;
      summed =
          subst (λ (s : Option Summary). SummedAfter at.made.entries (content at.pool found.1) s)
          (sym c.summary.ensures)
          (is-summed D c.args.pool.now at.pool from at.made places i found.0 found.1 t);
      short = is-short D c.args.pool.now at.pool from at.made places i found.0 found.1 t;
    }

pub loop-place-preserved : goal.loop-place-preserved
loop-place-preserved g c =
    let D = g.N.Naming.digest_of in
    let at = c.loop-place in
    let from = c.args.table.now.entries in
    let places = c.args.places.now in
    let i = at.place-index in
    let found = c.unwrap-found.result in
    let adds = c.in_ok-add_held.ensures.ok in
    let t : IsNext D c.args.pool.now at.pool from at.made places i found.0 found.1 = record {
      stands = c.requires.stands;
      room = c.requires.room;
      distinct = c.len-many.ensures.distinct;
      good = c.requires.good;
      lt = omega arith;
      told = sym c.unwrap-found.ensures ∙ c.at.ensures;
      first = at.invariant.first;
    } in record {
      first =
          and-next D c.args.pool.now at.pool from at.made places i found.0 found.1 t
          c.add_held.new.pool c.add_held.new.self c.add_held.ensures.stands c.add_held.ensures.others
          (subst (λ (s : Option Summary). Adds D (content at.pool found.1) s at.pool at.made
          c.add_held.new.pool c.add_held.new.self) c.summary.ensures adds);
      committed = adds.committed ∙ at.invariant.committed;
    }

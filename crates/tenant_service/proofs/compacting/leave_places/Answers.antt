use Rattle.std.proofs.Common.{[], refl, sym, subst, ◌∙◌}
use Rattle.tenant_tables.specs.IsBackedBy.{IsBackedBy, PreservesOthers}
use Rattle.tenant_tables.specs.View.{View}
use Rattle.tenant_service.proofs.CompactTables.{has-all, has-compacted, old-stands, places-good, places-within}
use Rattle.tenant_service.proofs.compacting.leave_places.Goals as goal

pub copied_table-requires-clause-within : goal.copied_table-requires-clause-within
copied_table-requires-clause-within g c =
    places-within g.N.Naming.digest_of c.args.pool.now c.args.tenant.now c.requires.stands c.requires.sound
    c.requires.idle c.args.places.now c.requires.places

pub copied_table-requires-clause-good : goal.copied_table-requires-clause-good
copied_table-requires-clause-good g c =
    places-good g.N.Naming.digest_of c.args.pool.now c.args.tenant.now c.requires.stands c.requires.sound
    c.requires.idle c.args.places.now c.requires.places

pub put_table-requires : goal.put_table-requires
put_table-requires g c =
    subst (λ (v : View). IsBackedBy g.N.Naming.digest_of c.copied_table.new.pool v.entries)
    (sym c.copied_table.ensures.same)
    (old-stands g.N.Naming.digest_of c.args.pool.now c.copied_table.new.pool
    c.args.tenant.now.table.entries c.in_ok-table.table.entries c.requires.stands.entries
    c.in_ok-table.ensures.ok.others)

pub returns-then-places-len-clause-ok : goal.returns-then-places-len-clause-ok
returns-then-places-len-clause-ok g c =
    has-all g.N.Naming.digest_of c.args.pool.now c.args.tenant.now c.requires.stands c.requires.sound
    c.requires.idle c.args.places.now c.requires.places
    (c.if-places-len.true ∙ c.len.ensures.value)

pub returns-clause-ok : goal.returns-clause-ok
returns-clause-ok g c =
    has-compacted g.N.Naming.digest_of c.args.pool.now c.args.tenant.now c.requires.stands c.requires.sound
    c.requires.idle c.args.places.now c.requires.places c.copied_table.new.pool c.put_table.new.pool
    c.in_ok-table.table _ c.in_ok-table.ensures.ok
    (subst (λ (v : View). PreservesOthers c.copied_table.new.pool v.entries c.put_table.new.pool [])
    c.copied_table.ensures.same c.put_table.ensures.others)
    c.put_table.ensures.table refl refl c.clear.ensures

use Rattle.std.proofs.Common.{◌<◌, [], length, sym, subst, arith}
use Rattle.tenant_tables.specs.IsBackedBy.{IsBackedBy, PreservesOthers}
use Rattle.tenant_tables.specs.View.{Entries}
use Rattle.tenant_tables.proofs.RoomLemmas.{room-after}
use Rattle.tenant_tables.proofs.TableLemmas.{IsBackedBy-nil, PreservesOthers-refl, PreservesOthers-then}
use Rattle.tenant_service.proofs.AcrossLemmas.{none-first}
use Rattle.tenant_service.proofs.across.add_first.Goals as goal

pub loop-place-init : goal.loop-place-init
loop-place-init g c =
    let p = c.args.pool.now in
    let none = sym c.requires.empty in record {
      stands = subst (λ (es : Entries). IsBackedBy g.N.Naming.digest_of p es) none
          (IsBackedBy-nil g.N.Naming.digest_of p);
      others = subst (λ (es : Entries). PreservesOthers p [] p es) none (PreservesOthers-refl p []);
      first = none-first c.args.from.now c.args.table.now.entries p c.args.made.now.entries
          c.requires.empty;
    }

pub add_across-requires : goal.add_across-requires
add_across-requires g c =
    let at = c.loop-place in
    let within = c.requires.within in
    let lt : at.place < length c.args.table.now.entries = omega (arith, within) in record {
      source = c.requires.from;
      within = lt;
      stands = at.invariant.stands;
      room = room-after c.args.pool.now at.pool [] at.made.entries at.invariant.others c.requires.room;
      first = at.invariant.first;
    }

pub loop-place-preserved : goal.loop-place-preserved
loop-place-preserved g c =
    let at = c.loop-place in record {
      stands = c.add_across.ensures.stands;
      others =
          PreservesOthers-then c.args.pool.now at.pool c.add_across.new.pool [] at.made.entries
          c.add_across.new.made.entries at.invariant.others c.add_across.ensures.others;
      first = c.in_ok-add_across.ensures.ok;
    }

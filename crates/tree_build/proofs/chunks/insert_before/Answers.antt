use Rattle.std.proofs.Common.{List, ◌≡◌, ◌<◌, length, refl, sym, ap, ◌∙◌, subst, arith}
use Rattle.std.proofs.lemmas.List.{length-set}
use Rattle.std.specs.List.{insert}
use Rattle.std.specs.Prelude.{slice_set}
use Rattle.tree_build.specs.declared.dir.Chunk.{Chunk}
use Rattle.tree_build.specs.Chunks.{all, IsSpot}
use Rattle.tree_build.proofs.Spots.{on_err, Row, spot_lent, spot_offset, spot_insert, all_same, starts_set, counts_set, len_inserted}
use Rattle.tree_build.proofs.chunks.insert_before.Goals as goal
use Rattle.tree_build.proofs.chunks.insert_before.Goals.{After-spot_of-spot, After-insert, In_ok-insert}

-- where the entry at the place stands
there : (c : After-spot_of-spot) → IsSpot c.make_room.new.chunks.items c.args.place c.spot_of-spot.result.chunk c.spot_of-spot.result.offset
    × (c.spot_of-spot.result.chunk < length c.make_room.new.chunks.items)
there c = spot_lent _ _ _ _ _ c.deref.ensures.value c.spot_of-spot.ensures.spot

-- its chunk afterwards
abbrev made : After-insert → Chunk
made c = record { start = c.index_mut.result.now.start; entries = c.insert.new.self }

pub insert-requires : goal.insert-requires
insert-requires c =
    let v = c.index_mut.result.now in
    let o = c.spot_of-spot.result.offset in
    let n = v.entries.ok.0 in
    let within = subst (λ (u : Chunk). o < length u.entries.items) (sym c.index_mut.ensures.value)
    (spot_offset c.make_room.new.chunks.items c.args.place c.spot_of-spot.result.chunk o (there (goal.at.insert-requires c).After-spot_of-spot).0 v) in
    omega arith

pub returns-in_err-insert-clause-err : goal.returns-in_err-insert-clause-err
returns-in_err-insert-clause-err c =
    let at = goal.at.returns-in_err-insert-clause-err c in
    on_err c.from_residual-in_err-insert.result
    (all_same c.make_room.new.chunks.items c.spot_of-spot.result.chunk c.index_mut.result.now (made at.After-insert) (there at.After-spot_of-spot).1
    (c.in_err-insert.ensures.items ∙ ap (λ (u : Chunk). u.entries.items) c.index_mut.ensures.value)
    ∙ c.make_room.ensures.same)

pub returns-in_err-insert-clause-starts : goal.returns-in_err-insert-clause-starts
returns-in_err-insert-clause-starts c =
    starts_set c.make_room.new.chunks.items c.spot_of-spot.result.chunk c.index_mut.result.now
    (made (goal.at.returns-in_err-insert-clause-starts c).After-insert) (ap (λ (u : Chunk). u.start) c.index_mut.ensures.value)
    (ap (λ (l : List Row). length l) c.in_err-insert.ensures.items ∙ ap (λ (u : Chunk). length u.entries.items) c.index_mut.ensures.value)
    c.make_room.ensures.starts

-- one entry more
more : (c : In_ok-insert) → IsSpot c.make_room.new.chunks.items c.args.place c.spot_of-spot.result.chunk c.spot_of-spot.result.offset
    → all (slice_set c.make_room.new.chunks.items c.spot_of-spot.result.chunk (record { start = c.index_mut.result.now.start; entries = c.insert.new.self }))
    ≡ insert (all c.args.chunks.now.items) c.args.place c.args.entry
more c there =
    let o = c.spot_of-spot.result.offset in
    let v = c.index_mut.result.now in
    spot_insert c.make_room.new.chunks.items c.args.place c.spot_of-spot.result.chunk o there v
    (record { start = v.start; entries = c.insert.new.self }) c.args.entry
    (c.in_ok-insert.ensures.items ∙ ap (λ (u : Chunk). insert u.entries.items o c.args.entry) c.index_mut.ensures.value)
    ∙ ap (λ (l : List Row). insert l c.args.place c.args.entry) c.make_room.ensures.same

pub recount-requires-clause-len : goal.recount-requires-clause-len
recount-requires-clause-len c =
    let at = goal.at.recount-requires-clause-len c in
    len_inserted _ (all c.args.chunks.now.items) c.args.place _ c.args.entry (more at.In_ok-insert (there at.After-spot_of-spot).0) c.requires.len c.requires.place

pub recount-requires-clause-from : goal.recount-requires-clause-from
recount-requires-clause-from c =
    let at = goal.at.recount-requires-clause-from c in
    let n = length-set c.make_room.new.chunks.items c.spot_of-spot.result.chunk (made at.After-insert) in
    let within = (there at.After-spot_of-spot).1 in
    omega arith

pub recount-requires-clause-counts : goal.recount-requires-clause-counts
recount-requires-clause-counts c =
    let at = goal.at.recount-requires-clause-counts c in
    counts_set c.make_room.new.chunks.items _ c.spot_of-spot.result.chunk (made at.After-insert) (there at.After-spot_of-spot).1 refl c.make_room.ensures.starts

pub returns-clause-ok : goal.returns-clause-ok
returns-clause-ok c =
    let at = goal.at.returns-clause-ok c in
    c.recount.ensures.same ∙ more at.In_ok-insert (there at.After-spot_of-spot).0

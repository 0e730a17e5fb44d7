use Rattle.std.proofs.Common.{◌≡◌, ◌<◌, length, sym, ap, ◌∙◌, subst, arith}
use Rattle.std.proofs.lemmas.List.{length-set}
use Rattle.std.specs.Prelude.{slice_index_or}
use Rattle.std.specs.List.{remove}
use Rattle.tree_build.specs.declared.dir.Chunk.{Chunk}
use Rattle.tree_build.specs.Chunks.{all, IsSpot}
use Rattle.tree_build.proofs.Spots.{spot_lent, spot_offset, spot_at, spot_remove, counts_set, len_removed}
use Rattle.tree_build.proofs.chunks.take_out.Goals as goal
use Rattle.tree_build.proofs.chunks.take_out.Goals.{After-spot_of-spot, After-remove-entry, After-remove_empty}

-- where the entry stands
there : (c : After-spot_of-spot) → IsSpot c.args.chunks.now.items c.args.place c.spot_of-spot.result.chunk c.spot_of-spot.result.offset
    × (c.spot_of-spot.result.chunk < length c.args.chunks.now.items)
there c = spot_lent _ _ _ _ _ c.deref.ensures.value c.spot_of-spot.ensures.spot

-- its chunk without it
abbrev left : After-remove-entry → Chunk
left c = record { start = c.index_mut.result.now.start; entries = c.remove-entry.new.self }

pub remove-entry-requires : goal.remove-entry-requires
remove-entry-requires c =
    let v = c.index_mut.result.now in
    let o = c.spot_of-spot.result.offset in
    let n = v.entries.ok.0 in
    let within = subst (λ (u : Chunk). o < length u.entries.items) (sym c.index_mut.ensures.value)
    (spot_offset c.args.chunks.now.items c.args.place c.spot_of-spot.result.chunk o (there (goal.at.remove-entry-requires c).After-spot_of-spot).0 v) in
    omega arith

pub remove_empty-requires : goal.remove_empty-requires
remove_empty-requires c =
    let at = goal.at.remove_empty-requires c in
    let n = length-set c.args.chunks.now.items c.spot_of-spot.result.chunk (left at.After-remove-entry) in
    let within = (there at.After-spot_of-spot).1 in
    omega arith

-- the entries without it
rest : (c : After-remove_empty) → IsSpot c.args.chunks.now.items c.args.place c.spot_of-spot.result.chunk c.spot_of-spot.result.offset
    → all c.remove_empty.new.chunks.items ≡ remove (all c.args.chunks.now.items) c.args.place
rest c there =
    let o = c.spot_of-spot.result.offset in
    let v = c.index_mut.result.now in
    c.remove_empty.ensures.same
    ∙ spot_remove c.args.chunks.now.items c.args.place c.spot_of-spot.result.chunk o there v (record { start = v.start; entries = c.remove-entry.new.self })
    (c.remove-entry.ensures.items ∙ ap (λ (u : Chunk). remove u.entries.items o) c.index_mut.ensures.value)

pub recount-requires-clause-len : goal.recount-requires-clause-len
recount-requires-clause-len c =
    let at = goal.at.recount-requires-clause-len c in
    len_removed _ (all c.args.chunks.now.items) c.args.place _ (rest at.After-remove_empty (there at.After-spot_of-spot).0) c.requires.len c.requires.place

pub recount-requires-clause-from : goal.recount-requires-clause-from
recount-requires-clause-from c = c.remove_empty.ensures.many

pub recount-requires-clause-counts : goal.recount-requires-clause-counts
recount-requires-clause-counts c =
    let at = goal.at.recount-requires-clause-counts c in
    counts_set c.args.chunks.now.items _ c.spot_of-spot.result.chunk (left at.After-remove-entry) (there at.After-spot_of-spot).1 c.remove_empty.ensures.front c.requires.starts

pub returns-clause-value : goal.returns-clause-value
returns-clause-value c =
    let k = c.spot_of-spot.result.chunk in
    let o = c.spot_of-spot.result.offset in
    let x = c.remove-entry.result in
    c.remove-entry.ensures.value ∙ ap (λ (u : Chunk). slice_index_or u.entries.items o x) c.index_mut.ensures.value
    ∙ spot_at c.args.chunks.now.items c.args.place k o (there (goal.at.returns-clause-value c).After-spot_of-spot).0 c.index_mut.result.now x

pub returns-clause-items : goal.returns-clause-items
returns-clause-items c =
    let at = goal.at.returns-clause-items c in
    c.recount.ensures.same ∙ rest at.After-remove_empty (there at.After-spot_of-spot).0

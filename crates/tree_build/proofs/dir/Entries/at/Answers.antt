use Rattle.std.proofs.Common.{◌<◌, length, sym, ap, ◌∙◌, subst, arith}
use Rattle.std.specs.Prelude.{slice_index_or}
use Rattle.tree_build.specs.Chunks.{Listing, IsSpot}
use Rattle.tree_build.proofs.Spots.{Chunks, spot_offset, spot_at}
use Rattle.tree_build.proofs.dir.Entries.at.Goals as goal

pub index-requires-2 : goal.index-requires-2
index-requires-2 c =
    let v = c.index.result.now in
    let o = c.spot_of-spot.result.offset in
    let n = v.entries.ok.0 in
    let spot = subst (λ (l : Chunks). IsSpot l c.args.place c.spot_of-spot.result.chunk o) c.deref.ensures.value c.spot_of-spot.ensures.spot in
    let within = subst (λ u. o < length u.entries.items) (sym c.index.ensures)
    (spot_offset c.self.inside.chunks.items c.args.place c.spot_of-spot.result.chunk o spot v) in
    omega arith

pub returns : goal.returns
returns c =
    let v = c.index.result.now in
    let x = c.index-2.result.now in
    let k = c.spot_of-spot.result.chunk in
    let o = c.spot_of-spot.result.offset in
    let spot = subst (λ (l : Chunks). IsSpot l c.args.place k o) c.deref.ensures.value c.spot_of-spot.ensures.spot in
    c.index-2.ensures ∙ ap (λ u. slice_index_or u.entries.items o x) c.index.ensures
    ∙ spot_at c.self.inside.chunks.items c.args.place k o spot v x
    ∙ ap (λ (l : Listing). slice_index_or l.items c.args.place x) c.self.view_is

use Rattle.std.proofs.Common.{ℕ, List, ◌≡◌, ◌<◌, [], length, refl, sym, ap, ◌∙◌, subst, arith}
use Rattle.std.proofs.lemmas.List.{get_or_default, length-set}
use Rattle.std.specs.Prelude.{slice_index_or, slice_set}
use Rattle.std.specs.Vec.{with_item}
use Rattle.tree_build.specs.declared.dir.Chunk.{Chunk}
use Rattle.tree_build.specs.Chunks.{Listing, all, IsSpot}
use Rattle.tree_build.proofs.Spots.{Row, Chunks, spot_offset, spot_at, spot_set, starts_set}
use Rattle.tree_build.proofs.dir.Entries.node_mut.Goals as goal

pub index_mut-requires : goal.index_mut-requires
index_mut-requires c =
    let v = c.index_mut-chunk.result.now in
    let o = c.spot_of-spot.result.offset in
    let n = v.entries.ok.0 in
    let spot = subst (λ (l : Chunks). IsSpot l c.args.place c.spot_of-spot.result.chunk o) c.deref.ensures.value c.spot_of-spot.ensures.spot in
    let within = subst (λ u. o < length u.entries.items) (sym c.index_mut-chunk.ensures.value)
    (spot_offset c.self.inside.chunks.items c.args.place c.spot_of-spot.result.chunk o spot v) in
    omega arith

pub invariant_of-self-lent : goal.invariant_of-self-lent
invariant_of-self-lent c w =
    let v = c.index_mut-chunk.result.now in
    let k = c.spot_of-spot.result.chunk in
    let o = c.spot_of-spot.result.offset in
    let spot = subst (λ (l : Chunks). IsSpot l c.args.place k o) c.deref.ensures.value c.spot_of-spot.ensures.spot in
    let y : Row = (c.index_mut.result.now.0, w) in
    let u : Chunk = record { start = v.start; entries = with_item v.entries o y } in (
      c.self.invariant.0
          ∙ sym (ap length (spot_set c.self.inside.chunks.items c.args.place k o spot v u y
          (ap (λ u. slice_set u.entries.items o y) c.index_mut-chunk.ensures.value))
          ∙ length-set (all c.self.inside.chunks.items) c.args.place y),
      starts_set c.self.inside.chunks.items k v u (ap (λ (u : Chunk). u.start) c.index_mut-chunk.ensures.value)
          (length-set v.entries.items o y ∙ ap (λ (u : Chunk). length u.entries.items) c.index_mut-chunk.ensures.value)
          c.self.invariant.1,
    )

pub returns : goal.returns
returns c =
    let v = c.index_mut-chunk.result.now in
    let x : Row = c.index_mut.result.now in
    let k = c.spot_of-spot.result.chunk in
    let o = c.spot_of-spot.result.offset in
    let spot = subst (λ (l : Chunks). IsSpot l c.args.place k o) c.deref.ensures.value c.spot_of-spot.ensures.spot in
    let there : x ≡ slice_index_or c.args.self.now.items c.args.place x =
    c.index_mut.ensures.value ∙ ap (λ u. slice_index_or u.entries.items o x) c.index_mut-chunk.ensures.value
    ∙ spot_at c.self.inside.chunks.items c.args.place k o spot v x
    ∙ ap (λ (l : Listing). slice_index_or l.items c.args.place x) c.self.view_is in (
      (
        refl,
        λ w.
            let y : Row = (x.0, w) in
            let u : Chunk = record { start = v.start; entries = with_item v.entries o y } in
            ap (λ (l : List Row). record { items = l })
            (spot_set c.self.inside.chunks.items c.args.place k o spot v u y
            (ap (λ u. slice_set u.entries.items o y) c.index_mut-chunk.ensures.value))
            ∙ ap (λ (l : Listing). record { items = slice_set l.items c.args.place y }) c.self.view_is
            ∙ ap (λ (n : List ℕ). record { items = slice_set c.args.self.now.items c.args.place (n, w) })
            (ap (λ (e : Row). e.0) (there ∙ get_or_default c.args.self.now.items c.args.place x ([], x.1) c.requires)),
      ),
      record {
        writes = tt;
        value = ap (λ (e : Row). e.1) (there ∙ get_or_default c.args.self.now.items c.args.place x ([], x.1) c.requires);
      },
    )

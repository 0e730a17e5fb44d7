use Rattle.std.proofs.Common.{ℕ, List, length, refl, ap, ◌∙◌}
use Rattle.name_index.proofs.Counted.{reorders_committed, reorders_open, reorders_none}
use Rattle.name_index.proofs.index.NameIndex.reserve.Goals.{then-self+in_ok-pack, else-self+then-len-ge-FEW+in_ok-pack-2, else-self+else-len-ge-FEW}
use Rattle.name_index.proofs.index.NameIndex.reserve.Goals as goal

pub returns-clause-same : goal.returns-clause-same
returns-clause-same c =
    rw (← c.self.view_is) (elim c.if-self.branch [
      | then-self+in_ok-pack w ↦
          let kept = rw w.self-inside-is at c.reserve.ensures.items in
          rw w.self-inside-is
          (let s =
          reorders_committed _ _ _ _ _ _ _ _ c.self.invariant w.in_ok-pack.ensures.ok w.if-self.true
          (kept ∙ w.in_ok-pack.ensures.few)
          (ap (λ (runs : List (List (List ℕ))). length runs) w.as_slice.ensures.value) refl in
          record { committed = s.0; added = s.1 })
      | else-self+then-len-ge-FEW+in_ok-pack-2 w ↦
          let kept = rw w.self-inside-is at c.reserve.ensures.items in
          rw w.self-inside-is
          (let s =
          reorders_open _ _ _ _ _ _ w.in_ok-pack-2.ensures.ok w.if-self.false
          (kept ∙ w.in_ok-pack-2.ensures.few) in
          record { committed = s.0; added = s.1 })
      | else-self+else-len-ge-FEW w ↦
          let kept = rw w.self-inside-is at c.reserve.ensures.items in
          rw w.self-inside-is
          (let s = reorders_none c.self.inside.runs.items _ _ c.self.inside.base c.self.inside.closed kept in record { committed = s.0; added = s.1 })
    ])

-- What callers get from the contracts of the pool's calls, for any pool.
use Rattle.std.proofs.Common.{◌≡◌, ℕ, ◌<◌, sym, ap, ◌∙◌, arith, inl, inr, subst}
use Rattle.std.proofs.lemmas.Bool.{cases_eq}
use Rattle.content_pool.specs.Pool.{Cells, holds, content, IsLive, HoldsEachOnce, Puts, Releases}

-- Contents that are held once each are so in any pool that has no other live slot and the same
-- contents there.
pub HoldsEachOnce-within : (old new : Cells) → HoldsEachOnce old
    → ((s : ℕ) → IsLive new s → IsLive old s × (content new s ≡ content old s)) → HoldsEachOnce new
HoldsEachOnce-within old new once before s t live_s live_t same =
    let b = before s live_s in
    let d = before t live_t in
    once s t b.0 d.0 (sym b.1 ∙ same ∙ d.1)

-- One hold more of a live slot keeps each content once.
pub HoldsEachOnce-held : (old new : Cells) (slot : ℕ) → HoldsEachOnce old → IsLive old slot
    → Puts old new slot (content old slot) → HoldsEachOnce new
HoldsEachOnce-held old new slot once live puts = HoldsEachOnce-within old new once before
  where
    before : (s : ℕ) → IsLive new s → IsLive old s × (content new s ≡ content old s)
    before s live_s =
        elim (cases_eq s slot) [
          | inl same ↦ rw same (live, puts.has)
          | inr apart ↦
              (subst (λ n. 0 < n) (puts.others s apart) live_s, puts.other_contents s apart)
        ]

-- A live slot after a release was live before it.
pub Releases-live : (old new : Cells) (slot s : ℕ) → Releases old new slot → IsLive new s
    → IsLive old s
Releases-live old new slot s releases live =
    elim (cases_eq s slot) [
      | inl same ↦ omega (arith, releases.held, ap (holds old) same)
      | inr apart ↦ subst (λ n. 0 < n) (releases.others s apart) live
    ]

-- A release keeps each content once.
pub HoldsEachOnce-released : (old new : Cells) (slot : ℕ) → HoldsEachOnce old
    → Releases old new slot → HoldsEachOnce new
HoldsEachOnce-released old new slot once releases =
    HoldsEachOnce-within old new once
    (λ s live. (Releases-live old new slot s releases live, releases.contents s live))

-- Objects that fit into a stream, one after another, and what the limits say together.
use Rattle.std.proofs.Common.{◌≡◌, ℕ, ◌+◌, ◌<◌, ◌≤◌, Bool, true, List, length, sym, subst, inl, inr, arith}
use Rattle.std.specs.Prelude.{◌↔◌, IsTrue, All}
use Rattle.std.proofs.lemmas.Bool.{cases_eq}
use Rattle.std.proofs.lemmas.List.Elements.{All-from_get_or}
use Rattle.git_model.specs.References.{no_object, object_at}
use Rattle.git_model.specs.Repository.{Object, Repository}
use Rattle.export_text.specs.Reached.{is_exportable, reached_tags}
use Rattle.export_laws.specs.Copies.{CanBeCopied, FitsStream}

abbrev pub Fits : Object → Type 0
Fits o = FitsStream o.content.kind o.content.bytes

-- The first objects fit.
abbrev pub AreFitting : List Object → ℕ → Type 0
AreFitting os n = (k : ℕ) → k < n → Fits (object_at k os)

pub one-fits : (os : List Object) (n : ℕ) → AreFitting os n → Fits (object_at n os)
    → AreFitting os (n + 1)
one-fits os n before here k lt = elim (cases_eq k n) [
  | inl same ↦ subst (λ (i : ℕ). Fits (object_at i os)) (sym same) here
  | inr other ↦ before k (omega (arith, lt, other))
]

pub all-fit : (os : List Object) (n : ℕ) → length os ≤ n → AreFitting os n → All Fits os
unfolding object_at
all-fit os n few each =
    All-from_get_or Fits os no_object (λ i lt. each i (omega (arith, few, lt)))

pub limits-tell : (r : Repository) → is_exportable r ≡ true → length (reached_tags r) ≤ 65536
    → (fit : Bool) → (IsTrue fit ↔ All Fits r.objects) → (IsTrue fit ↔ CanBeCopied r)
limits-tell r refs tags fit h =
    (λ yes. record { fits = h.0 yes; few_refs = refs; few_tags = tags }, λ can. h.1 can.fits)

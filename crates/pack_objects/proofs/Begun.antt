-- A vector that has more bytes at its end still begins with what it had.
use Rattle.std.proofs.Common.{◌≡◌, ℕ, ◌≤◌, List, ◌++◌, length, take, Result, Ok, Err, OnErr, sym, ap, ◌∙◌, arith}
use Rattle.std.proofs.Math.Seq.{take-append_seam}
use Rattle.std.proofs.lemmas.List.{length-append, take-take}
use Rattle.pack_text.specs.Sinks.{HasBegun}

begins_later : (a b c xs : List ℕ) → b ≡ a ++ xs → HasBegun b c → HasBegun a c
begins_later a b c xs p q =
    let short : length a ≤ length b = omega (arith, ap length p, length-append a xs) in
    sym (take-take (length a) (length b) c short) ∙ ap (λ (l : List ℕ). take (length a) l) (q ∙ p) ∙ take-append_seam a xs

pub begun_if_failed : {A E : Type 0} (r : Result A E) (a b c xs : List ℕ) → b ≡ a ++ xs → HasBegun b c → OnErr r (HasBegun a c)
begun_if_failed (Ok u) a b c xs p q = tt
begun_if_failed (Err e) a b c xs p q = begins_later a b c xs p q

-- Trees within trees: one level of them.
use Rattle.std.proofs.Common.{◌≡◌, ℕ, List, [], ◌∷◌, ◌++◌, ap, ◌∙◌, Bool, false, cond, not, Result}
use Rattle.std.specs.Prelude.{is_ok}
use Rattle.file_maps.specs.FileMap.{Listed}
use Rattle.file_maps.specs.Trees.{entries_within}
pub use Rattle.file_maps.specs.Below.{direct_of}

pub entries-nil : (digest : List ℕ → List ℕ) (deep : ℕ) (files : Listed) → deep ≡ 0
    → entries_within digest deep files ≡ []
unfolding entries_within
entries-nil digest deep files h = ap (λ (n : ℕ). entries_within digest n files) h

pub pushed : {X E : Type 0} (r : Result (Unit {0}) E) (failed : Bool) (new old : List X) (x : X)
    → is_ok r ≡ not failed → failed ≡ false
    → new ≡ cond (is_ok r) (old ++ x ∷ []) old → new ≡ old ++ x ∷ []
pushed r failed new old x ok h is =
    is ∙ ap (λ (b : Bool). cond b (old ++ x ∷ []) old) (ok ∙ ap not h)

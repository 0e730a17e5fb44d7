-- What may name a ref: git-check-ref-format(1), and `HEAD` of gitrevisions(7).
use Rattle.std.specs.Prelude.{◌≡◌, ℕ, List, codes, Bool, ◌||◌, ◌⊎◌}
use Rattle.std.specs.Cmp.Lexicographic.{pointwise}
use Rattle.std.specs.Prelude.{nat_eq}
use Rattle.git_model.specs.RefName.{IsRefName, is_ref_name}

-- A text names a ref if it is a ref name or `HEAD`.
abbrev pub NamesRef : List ℕ → Type 0
NamesRef text = IsRefName text ⊎ (text ≡ codes "HEAD")

-- The same as a test.
abbrev pub names_ref : List ℕ → Bool
names_ref text = is_ref_name text || pointwise nat_eq text (codes "HEAD")

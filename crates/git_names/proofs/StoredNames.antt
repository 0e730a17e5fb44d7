-- The test of what may name a ref decides its rule.
use Rattle.std.proofs.Common.{◌≡◌, ℕ, List, true, codes, inl, inr}
use Rattle.std.specs.Cmp.Lexicographic.{bytes_decides}
use Rattle.std.specs.Bool.{Decides}
use Rattle.std.proofs.lemmas.Bool.{or_cases, or_left, or_right}
use Rattle.git_model.proofs.RefNames.{is_ref_name-Decides}
use Rattle.git_names.specs.StoredName.{NamesRef, names_ref}

pub names_ref-Decides : (text : List ℕ) → Decides (names_ref text) (NamesRef text)
names_ref-Decides text =
    let name = is_ref_name-Decides text in
    let head = bytes_decides text (codes "HEAD") in (
      λ e. elim (or_cases _ _ e) [ inl h ↦ inl (name.0 h) | inr h ↦ inr (head.0 h) ],
      λ h. elim h [ inl r ↦ or_left _ _ (name.1 r) | inr same ↦ or_right _ _ (head.1 same) ],
    )

pub names_ref-yes : (text : List ℕ) → names_ref text ≡ true → NamesRef text
names_ref-yes text e = (names_ref-Decides text).0 e

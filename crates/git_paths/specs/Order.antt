-- The order of paths: by the bytes of the whole path, as in gitformat-index(5).
use Rattle.std.specs.Prelude.{◌≡◌, ℕ, Bool, true, false, nat_eq, List, refl}
use Rattle.std.specs.Ordering.{nat_cmp, on, then_cmp, ordering_then, is_eq, eq_by_cmp}
use Rattle.std.specs.Cmp.{IsTotalOrder, then_total, tied_itself}
use Rattle.std.specs.Cmp.Lexicographic.{slice_cmp, pointwise, pointwise_decides, bytes_decides, lists_total, nat_list_cmp_total, on_texts}
use Rattle.std.specs.FinMap.{IsAntisymmetric, nat_cmp-IsAntisymmetric, slice_cmp-IsAntisymmetric}
use Rattle.std.specs.declared.cmp.Ordering.{Ordering}
use Rattle.std.specs.declared.cmp.Ordering.TheVariants.{Less, Equal, Greater}
use Rattle.std.proofs.Common.{sym, ap, subst}
use Rattle.std.proofs.lemmas.Bool.{false≢true}
use Rattle.git_paths.specs.Paths.{joined}

-- Paths compare by their bytes. Lists that are no paths may have the same bytes, and then compare
-- by components.
abbrev pub path_cmp : List (List ℕ) → List (List ℕ) → Ordering
path_cmp = then_cmp (on joined (slice_cmp nat_cmp)) (slice_cmp (slice_cmp nat_cmp))

-- ---- its laws

pub path_cmp-total : IsTotalOrder path_cmp
path_cmp-total = then_total (on_texts joined) (lists_total nat_list_cmp_total)

last_equal : (r s : Ordering) → ordering_then r s ≡ Equal → s ≡ Equal
last_equal Less s h = absurd (false≢true (ap is_eq h))
last_equal Equal s h = h
last_equal Greater s h = absurd (false≢true (ap is_eq h))

-- only equal lists tie
pub path_cmp-IsAntisymmetric : IsAntisymmetric path_cmp
path_cmp-IsAntisymmetric p q h = slice_cmp-IsAntisymmetric
    (slice_cmp-IsAntisymmetric nat_cmp-IsAntisymmetric) p q
    (last_equal (slice_cmp nat_cmp (joined p) (joined q)) (slice_cmp (slice_cmp nat_cmp) p q) h)

same_from : (a b : Bool) → (a ≡ true → b ≡ true) → (b ≡ true → a ≡ true) → a ≡ b
same_from true b to from = sym (to refl)
same_from false true to from = from refl
same_from false false to from = refl

is_equal : (r : Ordering) → is_eq r ≡ true → r ≡ Equal
is_equal Less h = absurd (false≢true h)
is_equal Equal h = refl
is_equal Greater h = absurd (false≢true h)

-- they tie exactly where `==` holds
pub path_cmp-ties : (p q : List (List ℕ))
    → pointwise (pointwise nat_eq) p q ≡ eq_by_cmp path_cmp p q
path_cmp-ties p q =
    same_from (pointwise (pointwise nat_eq) p q) (eq_by_cmp path_cmp p q)
    (λ h. let same = (pointwise_decides bytes_decides p q).0 h in
    subst (λ (x : List (List ℕ)). is_eq (path_cmp p x) ≡ true) same
    (ap is_eq (tied_itself path_cmp-total p)))
    (λ h. (pointwise_decides bytes_decides p q).1
    (path_cmp-IsAntisymmetric p q (is_equal (path_cmp p q) h)))

-- Paths compare as their bytes do.
use Rattle.std.proofs.Common.{◌≡◌, ℕ, Bool, true, false, List, refl, sym, ap, ◌∙◌}
use Rattle.std.specs.Prelude.{nat_eq}
use Rattle.std.specs.Ordering.{nat_cmp, ordering_then}
use Rattle.std.specs.Cmp.{tied_itself}
use Rattle.std.specs.Cmp.Lexicographic.{slice_cmp, pointwise, pointwise_decides, bytes_decides, lists_total, nat_list_cmp_total}
use Rattle.std.specs.FinMap.{nat_cmp-IsAntisymmetric, slice_cmp-IsAntisymmetric}
use Rattle.std.specs.declared.cmp.Ordering.{Ordering}
use Rattle.std.specs.declared.cmp.Ordering.TheVariants.{Less, Equal, Greater}
use Rattle.git_paths.specs.Paths.{IsPath, joined, components_of}
use Rattle.git_paths.specs.Order.{path_cmp}
use Rattle.git_paths.proofs.Joined.{components_of-joined}

same_path : (p q : List (List ℕ)) → IsPath p → IsPath q → joined p ≡ joined q → p ≡ q
same_path p q is_p is_q e =
    sym (components_of-joined p is_p) ∙ ap components_of e ∙ components_of-joined q is_q

same_from : (a b : Bool) → (a ≡ true → b ≡ true) → (b ≡ true → a ≡ true) → a ≡ b
same_from true b to from = sym (to refl)
same_from false true to from = from refl
same_from false false to from = refl

pub same_test : (p q : List (List ℕ)) → IsPath p → IsPath q
    → pointwise nat_eq (joined p) (joined q) ≡ pointwise (pointwise nat_eq) p q
same_test p q is_p is_q =
    same_from _ _
    (λ h. (pointwise_decides bytes_decides p q).1 (same_path p q is_p is_q ((bytes_decides (joined p) (joined q)).0 h)))
    (λ h. (bytes_decides (joined p) (joined q)).1 (ap joined ((pointwise_decides bytes_decides p q).0 h)))

then_tied : (r s : Ordering) → (r ≡ Equal → s ≡ Equal) → r ≡ ordering_then r s
then_tied Less s tied = refl
then_tied Equal s tied = sym (tied refl)
then_tied Greater s tied = refl

pub same_order : (p q : List (List ℕ)) → IsPath p → IsPath q
    → slice_cmp nat_cmp (joined p) (joined q) ≡ path_cmp p q
same_order p q is_p is_q =
    then_tied (slice_cmp nat_cmp (joined p) (joined q)) (slice_cmp (slice_cmp nat_cmp) p q)
    (λ h.
    let same =
    same_path p q is_p is_q
    (slice_cmp-IsAntisymmetric nat_cmp-IsAntisymmetric (joined p) (joined q) h) in
    ap (slice_cmp (slice_cmp nat_cmp) p) (sym same) ∙ tied_itself (lists_total nat_list_cmp_total) p)

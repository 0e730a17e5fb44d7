-- Comparisons of lists that begin with fronts of one length.
use Rattle.std.proofs.Common.{◌≡◌, ℕ, ◌+◌, ◌≤◌, min, true, false, List, [], ◌∷◌, ◌++◌, length, refl, sym, ap, ◌∙◌, Less, Equal, Greater, arith, slice_get, length-append}
use Rattle.std.specs.declared.cmp.Ordering.{Ordering}
use Rattle.std.specs.Ordering.{nat_cmp, ordering_then, is_ne}
use Rattle.std.specs.Option.{option_cmp}
use Rattle.std.specs.Cmp.{nat_cmp_is}
use Rattle.std.specs.Cmp.Lexicographic.{slice_cmp}
use Rattle.std.proofs.lemmas.List.{append_assoc}
use Rattle.git_model.specs.declared.file_mode.FileMode.{FileMode}
use Rattle.git_model.specs.declared.file_mode.FileMode.TheVariants as mode
use Rattle.git_model.specs.Tree.{slash_of}

then_grouped : (a b c : Ordering)
    → ordering_then a (ordering_then b c) ≡ ordering_then (ordering_then a b) c
then_grouped Less b c = refl
then_grouped Equal b c = refl
then_grouped Greater b c = refl

settled : (found later : Ordering) → true ≡ is_ne found → found ≡ ordering_then found later
settled Less later ne = refl
settled Equal later ne = cc
settled Greater later ne = refl

unsettled : (found later : Ordering) → false ≡ is_ne found → later ≡ ordering_then found later
unsettled Less later same = cc
unsettled Equal later same = refl
unsettled Greater later same = cc

-- fronts of one length are compared first, and then what follows them
pub after_fronts : (xs ys us vs : List ℕ) → length xs ≡ length ys
    → slice_cmp nat_cmp (xs ++ us) (ys ++ vs)
    ≡ ordering_then (slice_cmp nat_cmp xs ys) (slice_cmp nat_cmp us vs)
after_fronts [] [] us vs e = refl
after_fronts [] (y ∷ ys) us vs e = absurd (omega (arith, e))
after_fronts (x ∷ xs) [] us vs e = absurd (omega (arith, e))
after_fronts (x ∷ xs) (y ∷ ys) us vs e =
    ap (ordering_then (nat_cmp x y)) (after_fronts xs ys us vs (omega (arith, e)))
    ∙ then_grouped (nat_cmp x y) (slice_cmp nat_cmp xs ys) (slice_cmp nat_cmp us vs)

pub settled_by_fronts : (xs ys us vs ws zs : List ℕ) (found : Ordering) → length xs ≡ length ys
    → found ≡ slice_cmp nat_cmp xs ys → true ≡ is_ne found
    → found ≡ slice_cmp nat_cmp ((xs ++ us) ++ ws) ((ys ++ vs) ++ zs)
settled_by_fronts xs ys us vs ws zs found long is ne =
    settled found (slice_cmp nat_cmp (us ++ ws) (vs ++ zs)) ne
    ∙ ap (λ o. ordering_then o (slice_cmp nat_cmp (us ++ ws) (vs ++ zs))) is
    ∙ sym (after_fronts xs ys (us ++ ws) (vs ++ zs) long)
    ∙ rw (append_assoc xs us ws, append_assoc ys vs zs) refl

pub settled_by_rests : (xs ys us vs ws zs : List ℕ) (found answer : Ordering)
    → length xs ≡ length ys → found ≡ slice_cmp nat_cmp xs ys → false ≡ is_ne found
    → answer ≡ slice_cmp nat_cmp (us ++ ws) (vs ++ zs)
    → answer ≡ slice_cmp nat_cmp ((xs ++ us) ++ ws) ((ys ++ vs) ++ zs)
settled_by_rests xs ys us vs ws zs found answer long is same rest =
    rest
    ∙ unsettled found (slice_cmp nat_cmp (us ++ ws) (vs ++ zs)) same
    ∙ ap (λ o. ordering_then o (slice_cmp nat_cmp (us ++ ws) (vs ++ zs))) is
    ∙ sym (after_fronts xs ys (us ++ ws) (vs ++ zs) long)
    ∙ rw (append_assoc xs us ws, append_assoc ys vs zs) refl

-- where one list has at most one element, the first elements are compared, and then the lengths
pub by_first_and_length : (xs ys : List ℕ) → min (length xs) (length ys) ≤ 1
    → slice_cmp nat_cmp xs ys
    ≡ ordering_then (option_cmp nat_cmp (slice_get xs 0) (slice_get ys 0)) (nat_cmp (length xs) (length ys))
by_first_and_length [] [] short = refl
by_first_and_length [] (y ∷ ys) short = refl
by_first_and_length (x ∷ xs) [] short = refl
by_first_and_length (x ∷ []) (y ∷ []) short = refl
by_first_and_length (x ∷ []) (y ∷ z ∷ zs) short =
    ap (ordering_then (nat_cmp x y)) (nat_cmp_is 1 (length (y ∷ z ∷ zs)) Less (omega arith))
by_first_and_length (x ∷ z ∷ zs) (y ∷ []) short =
    ap (ordering_then (nat_cmp x y)) (nat_cmp_is (length (x ∷ z ∷ zs)) 1 Greater (omega arith))
by_first_and_length (x ∷ u ∷ us) (y ∷ v ∷ vs) short = absurd (omega (arith, short))

short_slash : (m : FileMode) → length (slash_of m) ≤ 1
short_slash mode.Regular = omega arith
short_slash mode.Executable = omega arith
short_slash mode.Symlink = omega arith
short_slash mode.Gitlink = omega arith
short_slash mode.Directory = omega arith

-- keys of which one has no byte of its name left
short_rests : (xs ys : List ℕ) (m n : FileMode) → min (length xs) (length ys) ≡ 0
    → min (length (xs ++ slash_of m)) (length (ys ++ slash_of n)) ≤ 1
short_rests xs ys m n none =
    omega (arith, none, short_slash m, short_slash n, length-append xs (slash_of m), length-append ys (slash_of n))

pub settled_by_first : (xs ys : List ℕ) (m n : FileMode) (found : Ordering)
    → min (length xs) (length ys) ≡ 0
    → found ≡ option_cmp nat_cmp (slice_get (xs ++ slash_of m) 0) (slice_get (ys ++ slash_of n) 0)
    → true ≡ is_ne found → found ≡ slice_cmp nat_cmp (xs ++ slash_of m) (ys ++ slash_of n)
settled_by_first xs ys m n found none is ne =
    let lengths = nat_cmp (length (xs ++ slash_of m)) (length (ys ++ slash_of n)) in
    settled found lengths ne ∙ ap (λ o. ordering_then o lengths) is
    ∙ sym (by_first_and_length (xs ++ slash_of m) (ys ++ slash_of n) (short_rests xs ys m n none))

pub settled_by_length : (xs ys : List ℕ) (m n : FileMode) (found answer : Ordering)
    → min (length xs) (length ys) ≡ 0
    → found ≡ option_cmp nat_cmp (slice_get (xs ++ slash_of m) 0) (slice_get (ys ++ slash_of n) 0)
    → false ≡ is_ne found
    → answer ≡ nat_cmp (length xs + length (slash_of m)) (length ys + length (slash_of n))
    → answer ≡ slice_cmp nat_cmp (xs ++ slash_of m) (ys ++ slash_of n)
settled_by_length xs ys m n found answer none is same by_length =
    let lengths = nat_cmp (length (xs ++ slash_of m)) (length (ys ++ slash_of n)) in
    let whole : answer ≡ lengths =
    by_length ∙ rw (length-append xs (slash_of m), length-append ys (slash_of n)) refl in
    whole ∙ unsettled found lengths same ∙ ap (λ o. ordering_then o lengths) is
    ∙ sym (by_first_and_length (xs ++ slash_of m) (ys ++ slash_of n) (short_rests xs ys m n none))

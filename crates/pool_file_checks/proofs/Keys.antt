-- The contents of a list, each once and in the order of their keys.
use Rattle.std.proofs.Common.{◌≡◌, ℕ, Bool, true, false, cond, List, [], ◌∷◌, map, Option, None, Some, T, refl, sym, ap, subst, ◌∙◌, inl, inr}
use Rattle.std.specs.Ordering.{nat_cmp, eq_by_cmp, is_eq}
use Rattle.std.specs.Cmp.Lexicographic.{slice_cmp}
use Rattle.std.specs.declared.cmp.Ordering.{Ordering}
use Rattle.std.specs.declared.cmp.Ordering.TheVariants.{Less, Equal, Greater}
use Rattle.std.specs.FinMap.{IsAntisymmetric, find, is_sorted, values, entries, entries_sorted, from_entries, get-entries, get-from_entries, slice_cmp-IsAntisymmetric, nat_cmp-IsAntisymmetric}
use Rattle.std.specs.FinMap.Entries.{same_entries}
use Rattle.std.proofs.lemmas.Cmp.{nat_list_cmp_total, tied_itself}
use Rattle.git_model.specs.declared.kind.Kind.{Kind}
use Rattle.git_model.specs.declared.kind.Kind.TheVariants as kind
use Rattle.git_model.specs.Content.{Content, content_from}
use Rattle.pool_file_checks.specs.Objects.{kind_byte, raw_object}
use Rattle.pool_file_checks.specs.Own.{kind_of, content_of}
use Rattle.pool_file_checks.specs.Repositories.{content_key}
use Rattle.pool_file_checks.proofs.Members.{Has}

abbrev pub key_cmp : List ℕ → List ℕ → Ordering
key_cmp = slice_cmp nat_cmp

pub key_exact : IsAntisymmetric key_cmp
key_exact = slice_cmp-IsAntisymmetric nat_cmp-IsAntisymmetric

abbrev pub keyed : List Content → List (List ℕ × Content)
keyed cs = map (λ c. (content_key c, c)) cs

abbrev pub AreSorted : List Content → Type 0
AreSorted cs = T (is_sorted key_cmp (keyed cs))

pub kind_again : (k : Kind) → kind_of (kind_byte k) ≡ k
kind_again kind.Commit = refl
kind_again kind.Tree = refl
kind_again kind.Blob = refl
kind_again kind.Tag = refl

pub content_again : (c : Content) → content_of (raw_object c) ≡ c
content_again c = ap (λ (k : Kind). content_from k c.bytes) (kind_again c.kind)

-- ---- a key is that of one content

of_key : List ℕ → Content
of_key [] = content_from kind.Blob []
of_key (byte ∷ bytes) = content_from (kind_of byte) bytes

pub same_key : (c d : Content) → content_key c ≡ content_key d → c ≡ d
unfolding of_key
same_key c d e = sym (content_again c) ∙ ap of_key e ∙ content_again d

equal : (o : Ordering) → is_eq o ≡ true → o ≡ Equal
equal Less e = cc
equal Equal e = refl
equal Greater e = cc

pub tied : (q k : List ℕ) → eq_by_cmp key_cmp q k ≡ true → q ≡ k
tied q k e = key_exact q k (equal (key_cmp q k) e)

pub ties : (q k : List ℕ) → k ≡ q → eq_by_cmp key_cmp q k ≡ true
ties q k e =
    subst (λ (x : List ℕ). eq_by_cmp key_cmp q x ≡ true) (sym e)
    (ap is_eq (tied_itself nat_list_cmp_total q))

-- ---- what a key finds

pub found_has : (q : List ℕ) (cs : List Content) (c : Content) → find key_cmp q (keyed cs) ≡ Some c
    → Has cs c × (content_key c ≡ q)
found_has q [] c e = cc
found_has q (d ∷ ds) c e =
    by (eq_by_cmp key_cmp q (content_key d)) refl e (λ f. found_has q ds c f)
  where
    by : (b : Bool) → eq_by_cmp key_cmp q (content_key d) ≡ b
        → cond b (Some d) (find key_cmp q (keyed ds)) ≡ Some c
        → (find key_cmp q (keyed ds) ≡ Some c → Has ds c × (content_key c ≡ q))
        → Has (d ∷ ds) c × (content_key c ≡ q)
    by true t f later =
        let same : d ≡ c = cc in (inl same, sym (tied q (content_key d) t ∙ ap content_key same))
    by false t f later = let h = later f in (inr h.0, h.1)

pub has_found : (q : List ℕ) (cs : List Content) (c : Content) → Has cs c → content_key c ≡ q
    → find key_cmp q (keyed cs) ≡ Some c
has_found q [] c h e = absurd h
has_found q (d ∷ ds) c h e =
    by (eq_by_cmp key_cmp q (content_key d)) refl h (λ f. has_found q ds c f e)
  where
    by : (b : Bool) → eq_by_cmp key_cmp q (content_key d) ≡ b → Has (d ∷ ds) c
        → (Has ds c → find key_cmp q (keyed ds) ≡ Some c)
        → cond b (Some d) (find key_cmp q (keyed ds)) ≡ Some c
    by true t f later =
        ap (λ (x : Content). Some x) (same_key d c (sym (tied q (content_key d) t) ∙ sym e))
    by false t (inl same) later =
        absurd (let w = sym t ∙ ties q (content_key d) (ap content_key same ∙ e) in cc)
    by false t (inr f) later = later f

same_found : (xs ys : List Content) → ((c : Content) → Has xs c → Has ys c)
    → ((c : Content) → Has ys c → Has xs c) → (q : List ℕ)
    → find key_cmp q (keyed xs) ≡ find key_cmp q (keyed ys)
same_found xs ys there back q =
    by (find key_cmp q (keyed xs)) (find key_cmp q (keyed ys)) refl refl
  where
    by : (a b : Option Content) → find key_cmp q (keyed xs) ≡ a → find key_cmp q (keyed ys) ≡ b
        → a ≡ b
    by (Some c) b e f =
        let h = found_has q xs c e in sym (has_found q ys c (there c h.0) h.1) ∙ f
    by None (Some c) e f =
        let h = found_has q ys c f in sym e ∙ has_found q xs c (back c h.0) h.1
    by None None e f = refl

pub values_back : (cs : List Content) → map (λ e. e.1) (keyed cs) ≡ cs
values_back [] = refl
values_back (c ∷ cs) = ap (λ (l : List Content). c ∷ l) (values_back cs)

-- A list in order that has just the contents of another is these, each once and in order.
pub listed_so : (xs cs : List Content) → AreSorted cs → ((c : Content) → Has xs c → Has cs c)
    → ((c : Content) → Has cs c → Has xs c)
    → values (from_entries {R = key_cmp} (keyed xs)) ≡ cs
listed_so xs cs sorted there back =
    ap (λ (es : List (List ℕ × Content)). map (λ e. e.1) es)
    (same_entries key_cmp nat_list_cmp_total key_exact (entries (from_entries {R = key_cmp} (keyed xs)))
    (keyed cs) (entries_sorted (from_entries {R = key_cmp} (keyed xs))) sorted
    (λ q. sym (get-entries (from_entries {R = key_cmp} (keyed xs)) q)
    ∙ get-from_entries nat_list_cmp_total (keyed xs) q ∙ same_found xs cs there back q))
    ∙ values_back cs

-- Prefixes of paths, by components and by bytes.
use Rattle.std.proofs.Common.{◌≡◌, ◌≢◌, ℕ, ◌<◌, ◌≤◌, true, false, eqb, List, [], ◌∷◌, ◌++◌, length, get_or, take, drop, All, Option, Some, None, refl, sym, ap, ◌∙◌, subst, append_assoc, arith}
use Rattle.std.specs.List.{slice_split}
use Rattle.std.specs.Str.{bytes_eq}
use Rattle.std.proofs.lemmas.Bool.{ne_eqb, true≢false}
use Rattle.std.proofs.lemmas.List.{append-nil, append_cancel_left, take_at, take-append-drop}
use Rattle.std.proofs.lemmas.List.Elements.{All-head, All-tail, All-weaker, All-append}
use Rattle.std.proofs.lemmas.List.Splits.{slice_split_at}
use Rattle.std.proofs.lemmas.Slice.Eq.{bytes_eq-Decides}
use Rattle.git_paths.specs.Paths.{IsComponent, IsPath, joined, is_slash, components_of, strip_prefix, is_path, joined_both}
use Rattle.git_paths.proofs.Cases.{by_cases, some_is}
use Rattle.git_paths.proofs.Decided.{test-from_IsPath}
use Rattle.git_paths.proofs.Joined.{joined-components_of, components_of-joined}

-- ---- by components

pub strip_prefix-append : (p r : List (List ℕ)) → strip_prefix p (p ++ r) ≡ Some r
strip_prefix-append [] r = refl
strip_prefix-append (c ∷ p) r = rw ((bytes_eq-Decides c c).1 refl) (strip_prefix-append p r)

pub after_some : (p q r : List (List ℕ)) → strip_prefix p q ≡ Some r → q ≡ p ++ r
after_some [] q r h = some_is q r h
after_some (c ∷ p) [] r h = absurd cc
after_some (c ∷ p) (d ∷ q) r h =
    by_cases (bytes_eq c d)
    (λ yea. let same = (bytes_eq-Decides c d).0 yea in ap (λ (x : List ℕ). x ∷ q) (sym same) ∙ ap (λ (t : List (List ℕ)). c ∷ t) (after_some p q r (rw yea at h)))
    (λ nay. absurd (let none : ◌≡◌ {A = Option (List (List ℕ))} None (Some r) = rw nay at h in cc))

after_is : (p q : List (List ℕ)) → ((r : List (List ℕ)) → q ≡ p ++ r → ⊥)
    → (o : Option (List (List ℕ))) → strip_prefix p q ≡ o → o ≡ None
after_is p q apart None is = refl
after_is p q apart (Some r) is = absurd (apart r (after_some p q r is))

pub after_none : (p q : List (List ℕ)) → ((r : List (List ℕ)) → q ≡ p ++ r → ⊥) → strip_prefix p q ≡ None
after_none p q apart = after_is p q apart (strip_prefix p q) refl

-- ---- by bytes

-- what the bytes of a path have after those of its prefix
abbrev pub tail : List (List ℕ) → List ℕ
tail [] = []
tail (c ∷ r) = 47 ∷ joined (c ∷ r)

pub joined-append : (c : List ℕ) (p r : List (List ℕ))
    → joined ((c ∷ p) ++ r) ≡ joined (c ∷ p) ++ tail r
joined-append c [] [] = sym (append-nil c)
joined-append c [] (d ∷ r) = refl
joined-append c (d ∷ p) r =
    ap (λ (t : List ℕ). c ++ 47 ∷ t) (joined-append d p r)
    ∙ sym (append_assoc c (47 ∷ joined (d ∷ p)) (tail r))

no_test : (c : List ℕ) → IsComponent c → All (λ b. is_slash b ≡ false) c
no_test c h =
    All-weaker (λ b. b ≢ 47) (λ b. is_slash b ≡ false)
    (λ b ne. ne_eqb b 47 ne) c h.no_slash

pub split-append : (c : List ℕ) (p : List (List ℕ)) (t : List ℕ) → IsPath (c ∷ p)
    → slice_split is_slash (joined (c ∷ p) ++ 47 ∷ t) ≡ (c ∷ p) ++ slice_split is_slash t
split-append c [] t h =
    slice_split_at is_slash c 47 t (no_test c (All-head IsComponent c [] h)) refl
split-append c (d ∷ p) t h =
    ap (slice_split is_slash) (append_assoc c (47 ∷ joined (d ∷ p)) (47 ∷ t))
    ∙ slice_split_at is_slash c 47 (joined (d ∷ p) ++ 47 ∷ t)
    (no_test c (All-head IsComponent c (d ∷ p) h)) refl
    ∙ ap (λ (parts : List (List ℕ)). c ∷ parts)
    (split-append d p t (All-tail IsComponent c (d ∷ p) h))

-- the bytes of a path begin with those of its prefix
begins : (p q r : List (List ℕ)) → joined p ≢ [] → q ≡ p ++ r → joined q ≡ joined p ++ tail r
begins [] q r some is = absurd (some refl)
begins (c ∷ p) q r some is = ap joined is ∙ joined-append c p r

-- bytes that do not begin so are not below
pub apart_bytes : (p q : List (List ℕ)) → joined p ≢ []
    → bytes_eq (take (length (joined p)) (joined q)) (joined p) ≡ false → strip_prefix p q ≡ None
apart_bytes p q some test =
    after_none p q (λ r is.
    let same : take (length (joined p)) (joined q) ≡ joined p =
    ap (take (length (joined p))) (begins p q r some is)
    ∙ take_at (joined p) (tail r) (length (joined p)) refl in
    true≢false (sym ((bytes_eq-Decides _ _).1 same) ∙ test))

-- the same bytes are the same path
pub same_bytes : (p q : List (List ℕ)) → IsPath p → IsPath q → joined q ≡ joined p
    → strip_prefix p q ≡ Some []
same_bytes p q is_p is_q e =
    let same : q ≡ p =
    sym (components_of-joined q is_q) ∙ ap components_of e ∙ components_of-joined p is_p in
    ap (strip_prefix p) (same ∙ sym (append-nil p)) ∙ strip_prefix-append p []

split_after : (p : List (List ℕ)) (t : List ℕ) → IsPath p → joined p ≢ []
    → slice_split is_slash (joined p ++ 47 ∷ t) ≡ p ++ slice_split is_slash t
split_after [] t is some = absurd (some refl)
split_after (c ∷ p) t is some = split-append c p t is

cut_middle : (a : List ℕ) (t : List ℕ)
    → components_of (a ++ 47 ∷ t) ≡ slice_split is_slash (a ++ 47 ∷ t)
cut_middle [] t = refl
cut_middle (b ∷ a) t = refl

-- the parts after a prefix, in a path, are those of a path
last_parts : (p : List (List ℕ)) (t : List ℕ) → IsPath (p ++ slice_split is_slash t)
    → slice_split is_slash t ≡ components_of t
last_parts [] [] is = absurd ((All-head IsComponent [] [] is).not_empty refl)
last_parts [] (b ∷ t) is = refl
last_parts (c ∷ p) t is = last_parts p t (All-tail IsComponent c (p ++ slice_split is_slash t) is)

-- a slash after the bytes of a path, and the bytes of what it has below
pub below_bytes : (p q : List (List ℕ)) (t : List ℕ) → IsPath p → IsPath q → joined p ≢ []
    → joined q ≡ joined p ++ 47 ∷ t → strip_prefix p q ≡ Some (components_of t)
below_bytes p q t is_p is_q some e =
    let parts : q ≡ p ++ slice_split is_slash t =
    sym (components_of-joined q is_q) ∙ ap components_of e ∙ cut_middle (joined p) t
    ∙ split_after p t is_p some in
    let last = last_parts p t (subst IsPath parts is_q) in
    ap (strip_prefix p) (parts ∙ ap (λ (r : List (List ℕ)). p ++ r) last)
    ∙ strip_prefix-append p (components_of t)

tail_first : (r : List (List ℕ)) (b : ℕ) (t : List ℕ) → tail r ≡ b ∷ t → b ≡ 47
tail_first [] b t e = absurd cc
tail_first (c ∷ r) b t e = cc

-- another byte after the bytes of a path
pub longer_bytes : (p q : List (List ℕ)) (b : ℕ) (t : List ℕ) → joined p ≢ [] → b ≢ 47
    → joined q ≡ joined p ++ b ∷ t → strip_prefix p q ≡ None
longer_bytes p q b t some other e =
    after_none p q
    (λ r is. other (tail_first r b t (append_cancel_left (joined p) (tail r) (b ∷ t) (sym (begins p q r some is) ∙ e))))

-- ---- the same of the bytes that are at hand

some_joined : (top : List ℕ) → eqb (length top) 0 ≡ false → joined (components_of top) ≢ []
some_joined top some none =
    let e : top ≡ [] = sym (joined-components_of top) ∙ none in
    true≢false (ap (λ (t : List ℕ). eqb (length t) 0) (sym e) ∙ some)

whole : (top bytes rest : List ℕ) → bytes_eq (take (length top) bytes) top ≡ true
    → rest ≡ drop (length top) bytes
    → joined (components_of bytes) ≡ joined (components_of top) ++ rest
whole top bytes rest test is =
    joined-components_of bytes ∙ sym (take-append-drop (length top) bytes)
    ∙ rw
    ((bytes_eq-Decides (take (length top) bytes) top).0 test, ← is, joined-components_of top) refl

pub apart_from : (top bytes : List ℕ) → eqb (length top) 0 ≡ false
    → bytes_eq (take (length top) bytes) top ≡ false
    → strip_prefix (components_of top) (components_of bytes) ≡ None
apart_from top bytes some test =
    apart_bytes (components_of top) (components_of bytes) (some_joined top some)
    (rw (joined-components_of top, joined-components_of bytes) test)

pub same_as : (top bytes rest : List ℕ) → IsPath (components_of top) → IsPath (components_of bytes)
    → bytes_eq (take (length top) bytes) top ≡ true → rest ≡ drop (length top) bytes
    → length rest < 1
    → strip_prefix (components_of top) (components_of bytes) ≡ Some (components_of rest)
same_as top bytes [] is_top is_bytes test is none =
    same_bytes (components_of top) (components_of bytes) is_top is_bytes
    (whole top bytes [] test is ∙ append-nil (joined (components_of top)))
same_as top bytes (b ∷ rest) is_top is_bytes test is none = absurd (omega arith)

pub below : (top bytes rest : List ℕ) → eqb (length top) 0 ≡ false → IsPath (components_of top)
    → IsPath (components_of bytes) → bytes_eq (take (length top) bytes) top ≡ true
    → rest ≡ drop (length top) bytes
    → 1 ≤ length rest → get_or rest 0 0 ≡ 47
    → strip_prefix (components_of top) (components_of bytes) ≡ Some (components_of (drop 1 rest))
below top bytes [] some is_top is_bytes test is long slash = absurd (omega arith)
below top bytes (b ∷ rest) some is_top is_bytes test is long slash =
    below_bytes (components_of top) (components_of bytes) rest is_top is_bytes
    (some_joined top some)
    (whole top bytes (b ∷ rest) test is ∙ ap (λ (c : ℕ). joined (components_of top) ++ c ∷ rest) slash)

pub beside : (top bytes rest : List ℕ) → eqb (length top) 0 ≡ false
    → bytes_eq (take (length top) bytes) top ≡ true → rest ≡ drop (length top) bytes
    → 1 ≤ length rest → get_or rest 0 0 ≢ 47
    → strip_prefix (components_of top) (components_of bytes) ≡ None
beside top bytes [] some test is long other = absurd (omega arith)
beside top bytes (b ∷ rest) some test is long other =
    longer_bytes (components_of top) (components_of bytes) b rest (some_joined top some) other
    (whole top bytes (b ∷ rest) test is)

-- ---- paths that are put together

path_end : (p r : List (List ℕ)) → IsPath (p ++ r) → IsPath r
path_end [] r is = is
path_end (c ∷ p) r is = path_end p r (All-tail IsComponent c (p ++ r) is)

pub IsPath-strip_prefix : (p q r : List (List ℕ)) → IsPath q → Some r ≡ strip_prefix p q → IsPath r
IsPath-strip_prefix p q r is h = path_end p r (subst IsPath (after_some p q r (sym h)) is)

joined_more : (a : List ℕ) (c : List ℕ) (r : List (List ℕ)) → a ≢ [] → joined (c ∷ r) ≢ []
    → joined_both a (joined (c ∷ r)) ≡ a ++ 47 ∷ joined (c ∷ r)
joined_more a c r some more = by a (joined (c ∷ r)) some more
  where
    by : (a b : List ℕ) → a ≢ [] → b ≢ [] → joined_both a b ≡ a ++ 47 ∷ b
    by [] b some more = absurd (some refl)
    by (x ∷ a) [] some more = absurd (more refl)
    by (x ∷ a) (y ∷ b) some more = refl

joined_alone : (a : List ℕ) → joined_both a [] ≡ a
joined_alone [] = refl
joined_alone (x ∷ a) = refl

name_joined : (name : List ℕ) (path : List (List ℕ)) → name ≢ [] → joined (name ∷ path) ≢ []
name_joined [] path some e = some refl
name_joined (b ∷ name) [] some e = cc
name_joined (b ∷ name) (next ∷ path) some e = cc

-- the bytes of two paths, one after the other, are those of the two together
pub joined_both-joined : (p r : List (List ℕ)) → IsPath p → IsPath r
    → joined_both (joined p) (joined r) ≡ joined (p ++ r)
joined_both-joined [] r is_p is_r = refl
joined_both-joined (c ∷ p) [] is_p is_r =
    joined_alone (joined (c ∷ p)) ∙ ap joined (sym (append-nil (c ∷ p)))
joined_both-joined (c ∷ p) (d ∷ r) is_p is_r =
    joined_more (joined (c ∷ p)) d r
    (name_joined c p (All-head IsComponent c p is_p).not_empty)
    (name_joined d r (All-head IsComponent d r is_r).not_empty)
    ∙ sym (joined-append c p (d ∷ r))

-- and have their components
pub components_of-both : (bytes : List ℕ) (p r : List (List ℕ)) → IsPath p → IsPath r
    → bytes ≡ joined_both (joined p) (joined r) → components_of bytes ≡ p ++ r
components_of-both bytes p r is_p is_r is =
    ap components_of (is ∙ joined_both-joined p r is_p is_r)
    ∙ components_of-joined (p ++ r) (All-append IsComponent p r is_p is_r)

pub test-both : (bytes : List ℕ) (p r : List (List ℕ)) → IsPath p → IsPath r
    → bytes ≡ joined_both (joined p) (joined r) → is_path (components_of bytes) ≡ true
test-both bytes p r is_p is_r is =
    ap is_path (components_of-both bytes p r is_p is_r is)
    ∙ test-from_IsPath (p ++ r) (All-append IsComponent p r is_p is_r)

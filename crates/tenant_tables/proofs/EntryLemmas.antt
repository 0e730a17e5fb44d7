-- Look-ups of names in entries, and in the first of them.
use Rattle.std.proofs.Common.{◌≡◌, ℕ, zero, suc, ◌+◌, ◌<◌, ◌≤◌, Bool, true, false, not, cond, min, nat_lt, List, [], ◌∷◌, length, take, Option, Some, None, is_some, position, refl, sym, ap, ◌∙◌, arith}
use Rattle.std.specs.List.{position_or_len}
use Rattle.std.specs.Map.{keys_of, lookup}
use Rattle.std.proofs.lemmas.Bool.Decides.{nat_tests}
use Rattle.std.proofs.lemmas.List.{length-take}

none_either : {X : Type 0} (b : Bool) → ◌≡◌ {A = Option X} (cond b None None) None
none_either true = refl
none_either false = refl

-- the first n entries have a key exactly where its position is below n
pub lookup-take : {K X : Type 0} (test : K → Bool) (n : ℕ) (es : List (K × X))
    → lookup test (take n es)
    ≡ cond (nat_lt (position_or_len test (keys_of es)) n) (lookup test es) None
lookup-take test zero es = grind (arith, nat_tests)
lookup-take {K} {X} test (suc n) [] =
    sym (none_either {X = X} (nat_lt (position_or_len test (keys_of {K = K} {X = X} [])) (suc n)))
lookup-take test (suc n) (e ∷ es) = by (test e.0) (lookup-take test n es)
  where
    by : (b : Bool)
        → lookup test (take n es)
        ≡ cond (nat_lt (position_or_len test (keys_of es)) n) (lookup test es) None
        → cond b (Some e.1) (lookup test (take n es))
        ≡ cond (nat_lt (cond (not b) (1 + position_or_len test (keys_of es)) 0) (suc n))
        (cond b (Some e.1) (lookup test es)) None
    by true h = grind (arith, nat_tests)
    by false h = h ∙ grind (arith, nat_tests)

-- ---- positions of keys

pub position-take : {K : Type 0} (test : K → Bool) (n : ℕ) (ks : List K)
    → position_or_len test (take n ks) ≡ min n (position_or_len test ks)
position-take test zero ks = omega arith
position-take test (suc n) [] = omega arith
position-take test (suc n) (k ∷ ks) = by (test k) (position-take test n ks)
  where
    by : (b : Bool) → position_or_len test (take n ks) ≡ min n (position_or_len test ks)
        → cond (not b) (1 + position_or_len test (take n ks)) 0
        ≡ min (suc n) (cond (not b) (1 + position_or_len test ks) 0)
    by true h = omega arith
    by false h = omega arith

pub missing : {K : Type 0} (test : K → Bool) (ks : List K) → position test ks ≡ None
    → length ks ≤ position_or_len test ks
missing test ks h = by (nat_lt (position_or_len test ks) (length ks)) refl h
  where
    by : (b : Bool) → nat_lt (position_or_len test ks) (length ks) ≡ b
        → cond b (Some (position_or_len test ks)) None ≡ None
        → length ks ≤ position_or_len test ks
    by true e none = cc none
    by false e none = grind (arith, nat_tests, e)

-- a position that is found is that of the first such key
pub position-found : {K : Type 0} (test : K → Bool) (ks : List K) (i : ℕ)
    → position test ks ≡ Some i → position_or_len test ks ≡ i
position-found test ks i h = by (nat_lt (position_or_len test ks) (length ks)) h
  where
    by : (b : Bool) → cond b (Some (position_or_len test ks)) None ≡ Some i
        → position_or_len test ks ≡ i
    by true e = cc e
    by false e = cc e

-- among the first n entries, by the position of the key
pub lookup-take-found : {K X : Type 0} (test : K → Bool) (n i : ℕ) (es : List (K × X))
    → position test (keys_of es) ≡ Some i
    → lookup test (take n es) ≡ cond (nat_lt i n) (lookup test es) None
lookup-take-found test n i es h =
    lookup-take test n es
    ∙ ap (λ (p : ℕ). cond (nat_lt p n) (lookup test es) None) (position-found test (keys_of es) i h)

-- a key that is found is among the first n entries exactly where its position is below n
pub before-found : {K X : Type 0} (test : K → Bool) (n i : ℕ) (es : List (K × X))
    → position test (keys_of es) ≡ Some i → is_some (lookup test es) ≡ true
    → is_some (lookup test (take n es)) ≡ nat_lt i n
before-found test n i es at there =
    ap is_some (lookup-take-found test n i es at) ∙ by (nat_lt i n)
  where
    by : (b : Bool) → is_some (cond b (lookup test es) None) ≡ b
    by true = there
    by false = refl

-- what is not among all entries is not among the first
pub lookup-take-none : {K X : Type 0} (test : K → Bool) (n : ℕ) (es : List (K × X))
    → lookup test es ≡ None → lookup test (take n es) ≡ None
lookup-take-none test n es h =
    lookup-take test n es ∙ by (nat_lt (position_or_len test (keys_of es)) n)
  where
    by : (b : Bool) → cond b (lookup test es) None ≡ None
    by true = h
    by false = refl

-- what is not some is none
pub none-from_lookup : {X : Type 0} (o : Option X) → is_some o ≡ false → o ≡ None
none-from_lookup (Some x) h = cc h
none-from_lookup None h = refl

-- a position among the first n keys
position-first : {K : Type 0} (test : K → Bool) (n : ℕ) (ks : List K)
    → position test (take n ks)
    ≡ cond (nat_lt (min n (position_or_len test ks)) (min n (length ks)))
    (Some (min n (position_or_len test ks))) None
position-first test n ks =
    λ i. cond (nat_lt (position-take test n ks i) (length-take n ks i))
    (Some (position-take test n ks i)) None

pub position-kept : {K : Type 0} (test : K → Bool) (n i : ℕ) (ks : List K)
    → position test ks ≡ Some i → i < length ks → i < n → position test (take n ks) ≡ Some i
position-kept test n i ks h within lt =
    let at = position-found test ks i h in
    let same : min n (position_or_len test ks) ≡ i = omega arith in
    let less : i < min n (length ks) = omega arith in
    let yes : nat_lt i (min n (length ks)) ≡ true = grind (arith, nat_tests, less) in
    position-first test n ks ∙ rw (same, yes) refl

pub position-past : {K : Type 0} (test : K → Bool) (n i : ℕ) (ks : List K)
    → position test ks ≡ Some i → n ≤ i → position test (take n ks) ≡ None
position-past test n i ks h le =
    let at = position-found test ks i h in
    let same : min n (position_or_len test ks) ≡ n = omega arith in
    let most : min n (length ks) ≤ n = omega arith in
    let no : nat_lt n (min n (length ks)) ≡ false = grind (arith, nat_tests, most) in
    position-first test n ks ∙ rw (same, no) refl

pub position-nowhere : {K : Type 0} (test : K → Bool) (n : ℕ) (ks : List K)
    → position test ks ≡ None → position test (take n ks) ≡ None
position-nowhere test n ks h =
    let past = missing test ks h in
    let most : min n (length ks) ≤ min n (position_or_len test ks) = omega arith in
    let no : nat_lt (min n (position_or_len test ks)) (min n (length ks)) ≡ false =
    grind (arith, nat_tests, most) in
    position-first test n ks ∙ rw no refl

-- The shortest prefix of a name is the shortest unique one.
use Rattle.std.proofs.Common.{inl, inr, ◌≡◌, ℕ, zero, suc, ◌+◌, ◌<◌, ◌≤◌, Bool, true, false, not, ◌||◌, List, [], ◌∷◌, length, take, drop, refl, sym, ap, subst, ◌∙◌, arith}
use Rattle.std.specs.Prelude.{◌↔◌, All}
use Rattle.std.specs.Bool.{Decides}
use Rattle.std.specs.Str.{bytes_eq}
use Rattle.std.proofs.lemmas.Bool.{and_from, and_parts, cases_eq, cases_lt, or_cases, or_left, or_right}
use Rattle.std.proofs.lemmas.List.{length-take, take-append-drop, take_all, take_at}
use Rattle.std.proofs.lemmas.List.Elements.{All-cons, All-head, All-nil, All-tail, All-weaker}
use Rattle.std.proofs.lemmas.Slice.Eq.{bytes_eq-Decides}
use Rattle.hex.specs.Hex.{encode_lower}
use Rattle.git_model.specs.Bytes.{BeginsWith}
use Rattle.git_model.specs.ObjectName.{IsObjectName}
use Rattle.git_model.specs.Repository.{Object}
use Rattle.tenant_tables.specs.Abbreviation.{begins}
use Rattle.answers.specs.Printed.{begins_no_other, shortest_prefix, IsShortestPrefix, IsUniquePrefix}
use Rattle.answers.proofs.NameDigits.{begins_name, length_of_digits, whole_name}
use Rattle.answers.proofs.Prefixes.{first_passing}

-- ---- the first of some numbers that passes

record IsLeast {X : Type 0} (p : X → Bool) (f : ℕ → X) (from last at : ℕ) : Type 0 where
  pub low : from ≤ at
  pub high : at ≤ last
  pub passes : p (f at) ≡ true
  pub fails : (n : ℕ) → from ≤ n → n < at → p (f n) ≡ false

least : {X : Type 0} (p : X → Bool) (f : ℕ → X) (from len : ℕ) → p (f (from + len)) ≡ true
    → (at : ℕ) × IsLeast p f from (from + len) at
least {X} p f from zero last =
    let here : from + 0 ≡ from = omega arith in (
      from,
      record {
        low = omega arith;
        high = omega arith;
        passes = sym (ap (λ (n : ℕ). p (f n)) here) ∙ last;
        fails = λ n low below. absurd (omega arith);
      },
    )
least {X} p f from (suc len) last =
    let same : from + suc len ≡ (from + 1) + len = omega arith in
    by (least p f (from + 1) len (sym (ap (λ (n : ℕ). p (f n)) same) ∙ last)) (p (f from)) refl
  where
    by : (at : ℕ) × IsLeast p f (from + 1) ((from + 1) + len) at → (b : Bool) → p (f from) ≡ b
        → (at : ℕ) × IsLeast p f from (from + suc len) at
    by later true e = (
      from,
      record {
        low = omega arith;
        high = omega arith;
        passes = e;
        fails = λ n low below. absurd (omega arith);
      },
    )
    by later false e =
        let low = later.1.low in let high = later.1.high in (
          later.0,
          record {
            low = omega arith;
            high = omega arith;
            passes = later.1.passes;
            fails = λ n from_low below. elim (cases_eq from n) [
              | inl same ↦ ap (λ (m : ℕ). p (f m)) (sym same) ∙ e
              | inr other ↦ later.1.fails n (omega arith) below
            ];
          },
        )

-- ---- a prefix that begins no other name

abbrev IsApart : List ℕ → List ℕ → List ℕ → Type 0
IsApart id prefix other = BeginsWith (encode_lower other) prefix → other ≡ id

one_apart : (id other : List ℕ) (n : ℕ) → IsObjectName id → IsObjectName other
    → Decides (bytes_eq other id || not (begins (take n (encode_lower id)) other))
    (IsApart id (take n (encode_lower id)) other)
one_apart id other n is_id is_other =
    by (begins (take n (encode_lower id)) other) refl (begins_name id other n is_id is_other)
  where
    by : (b : Bool) → begins (take n (encode_lower id)) other ≡ b
        → Decides (begins (take n (encode_lower id)) other)
        (BeginsWith (encode_lower other) (take n (encode_lower id)))
        → Decides (bytes_eq other id || not (begins (take n (encode_lower id)) other))
        (BeginsWith (encode_lower other) (take n (encode_lower id)) → other ≡ id)
    by true e test = (
      λ passes begins. (bytes_eq-Decides other id).0 (only passes),
      λ apart. or_left _ _ ((bytes_eq-Decides other id).1 (apart (test.0 e))),
    )
      where
        only : (bytes_eq other id || not (begins (take n (encode_lower id)) other)) ≡ true
            → bytes_eq other id ≡ true
        only passes = elim (or_cases _ _ passes) [
          | inl same ↦ same
          | inr not_begun ↦ let begun = ap not e in cc
        ]
    by false e test = (
      λ passes begins. let yes = test.1 begins in cc,
      λ apart. or_right _ _ (ap not e),
    )

all_apart : (os : List Object) (id : List ℕ) (n : ℕ) → All (λ o. IsObjectName o.id) os
    → IsObjectName id
    → Decides (begins_no_other os id (take n (encode_lower id)))
    (All (λ o. IsApart id (take n (encode_lower id)) o.id) os)
all_apart [] id n are is = (λ e. All-nil _, λ all. refl)
all_apart (o ∷ os) id n are is =
    let each = λ (o : Object). IsApart id (take n (encode_lower id)) o.id in
    let first = one_apart id o.id n is (All-head (λ (o : Object). IsObjectName o.id) o os are) in
    let rest = all_apart os id n (All-tail (λ (o : Object). IsObjectName o.id) o os are) is in (
      λ e. let parts = and_parts _ _ e in All-cons each o os (first.0 parts.0) (rest.0 parts.1),
      λ all. and_from _ _ (first.1 (All-head each o os all)) (rest.1 (All-tail each o os all)),
    )

-- ---- the shortest

-- a prefix is the first digits, as many as it has
first_digits : (digits prefix : List ℕ) → BeginsWith digits prefix → take (length prefix) digits ≡ prefix
first_digits digits prefix begins =
    ap (take (length prefix)) begins.1 ∙ take_at prefix begins.0 (length prefix) refl

unique_passes : (os : List Object) (id prefix : List ℕ) → All (λ o. IsObjectName o.id) os
    → IsObjectName id → IsUniquePrefix os id prefix
    → begins_no_other os id (take (length prefix) (encode_lower id)) ≡ true
unique_passes os id prefix are is unique =
    (all_apart os id (length prefix) are is).1
    (subst (λ (p : List ℕ). All (λ (o : Object). BeginsWith (encode_lower o.id) p → o.id ≡ id) os)
    (sym (first_digits (encode_lower id) prefix unique.begins)) unique.no_other)

-- all digits begin no other name
all_digits : (os : List Object) (id : List ℕ) → All (λ o. IsObjectName o.id) os → IsObjectName id
    → begins_no_other os id (take 40 (encode_lower id)) ≡ true
all_digits os id are is =
    let whole : take 40 (encode_lower id) ≡ encode_lower id =
    take_all 40 (encode_lower id) (omega (arith, length_of_digits id is)) in
    (all_apart os id 40 are is).1
    (subst (λ (p : List ℕ). All (λ (o : Object). BeginsWith (encode_lower o.id) p → o.id ≡ id) os)
    (sym whole)
    (All-weaker (λ (o : Object). IsObjectName o.id) _ (λ o is_o. whole_name id o.id is is_o) os are))

-- the first digits that begin no other name are the shortest unique prefix
least_is_shortest : (os : List Object) (id : List ℕ) (n : ℕ) → All (λ o. IsObjectName o.id) os
    → IsObjectName id → IsLeast (begins_no_other os id) (λ n. take n (encode_lower id)) 4 40 n
    → IsShortestPrefix os id (take n (encode_lower id))
least_is_shortest os id n are is l =
    let digits : List ℕ = encode_lower id in
    let low = l.low in
    let high = l.high in
    let size : length (take n digits) ≡ n =
    omega (arith, length-take n digits, length_of_digits id is) in
    record {
      unique = record {
        begins = (drop n digits, sym (take-append-drop n digits));
        digits = omega arith;
        no_other = (all_apart os id n are is).0 l.passes;
      };
      shortest = λ other unique. elim (cases_lt (length other) n) [
        | inl shorter ↦
            let no = l.fails (length other) unique.digits shorter in
            let yes = unique_passes os id other are is unique in
            absurd (cc)
        | inr longer ↦ omega arith
      ];
    }

-- two shortest unique prefixes of one name are the same
one_shortest : (os : List Object) (id a b : List ℕ) → IsShortestPrefix os id a
    → IsShortestPrefix os id b → a ≡ b
one_shortest os id a b short_a short_b =
    let up = short_a.shortest b short_b.unique in
    let down = short_b.shortest a short_a.unique in
    let size : length a ≡ length b = omega arith in
    sym (first_digits (encode_lower id) a short_a.unique.begins)
    ∙ ap (λ (n : ℕ). take n (encode_lower id)) size
    ∙ first_digits (encode_lower id) b short_b.unique.begins

pub shortest_is : (os : List Object) (id prefix : List ℕ) → All (λ o. IsObjectName o.id) os
    → IsObjectName id → (shortest_prefix os id ≡ prefix) ↔ IsShortestPrefix os id prefix
unfolding shortest_prefix
shortest_is os id prefix are is =
    let found = least (begins_no_other os id) (λ n. take n (encode_lower id)) 4 36 (all_digits os id are is) in
    let low = found.1.low in
    let high = found.1.high in
    let short = least_is_shortest os id found.0 are is found.1 in
    let first : shortest_prefix os id ≡ take found.0 (encode_lower id) =
    first_passing (begins_no_other os id) (λ n. take n (encode_lower id)) (encode_lower id) 4 37 found.0
    low (omega arith) found.1.fails found.1.passes in (
      λ same. subst (IsShortestPrefix os id) (sym first ∙ same) short,
      λ shortest. first ∙ one_shortest os id _ prefix short shortest,
    )

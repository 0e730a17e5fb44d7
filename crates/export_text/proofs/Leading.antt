-- Flags that names set by the places of their objects, and which objects some names lead to.
use Rattle.std.proofs.Common.{◌≡◌, ℕ, zero, suc, ◌<◌, ◌≤◌, Bool, true, false, List, [], ◌∷◌, ◌++◌, length, get_or, set, replicate, All, Option, inl, inr, ◌⊎◌, ◌↔◌, refl, sym, ap, subst, ◌∙◌, arith}
use Rattle.std.specs.Prelude.{IsTrue, map, unwrap_or}
use Rattle.std.specs.List.{Contains, list_any}
use Rattle.std.proofs.lemmas.Bool.{or_cases, or_left, or_right}
use Rattle.std.proofs.lemmas.List.{length-set, length-replicate}
use Rattle.std.proofs.lemmas.List.Elements.{All-nil, All-cons, All-contains, All-weaker}
use Rattle.git_model.specs.Content.{Content, no_content}
use Rattle.git_model.specs.Repository.{Object}
use Rattle.git_model.specs.References.{references_in, referred_by, place_of, object_at}
use Rattle.git_model.specs.HeldObjects.{AreHeld}
use Rattle.git_model.specs.Reach.{Reaches, is_reachable}
use Rattle.git_model.proofs.Least.{least}
use Rattle.git_model.proofs.Earlier.{place_within, references_fall}
use Rattle.commit_walk.proofs.Named.{there, not_there}
use Rattle.commit_walk.proofs.Walks.{Reaches-itself}
use Rattle.export_text.specs.Marking.{with_flags}

-- The flag of a name's object is set, if there is such an object.
abbrev pub IsOn : List Object → List Bool → List ℕ → Type 0
IsOn os flags id = get_or flags (place_of id os) true ≡ true

-- A place is that of one of some names.
record IsOne (os : List Object) (ids : List (List ℕ)) (p : ℕ) : Type 0 where
  id : List ℕ
  among : Contains ids id
  place_is : place_of id os ≡ p

set_on : (flags : List Bool) (at p : ℕ) (d : Bool) → get_or flags p d ≡ true
    → get_or (set flags at true) p d ≡ true
set_on [] zero p d h = h
set_on [] (suc at) p d h = h
set_on (x ∷ xs) zero zero d h = refl
set_on (x ∷ xs) zero (suc p) d h = h
set_on (x ∷ xs) (suc at) zero d h = h
set_on (x ∷ xs) (suc at) (suc p) d h = set_on xs at p d h

here_on : (flags : List Bool) (at : ℕ) → get_or (set flags at true) at true ≡ true
here_on [] zero = refl
here_on [] (suc at) = refl
here_on (x ∷ xs) zero = refl
here_on (x ∷ xs) (suc at) = here_on xs at

was_on : (flags : List Bool) (at p : ℕ) → get_or (set flags at true) p false ≡ true
    → (get_or flags p false ≡ true) ⊎ (at ≡ p)
was_on [] zero p h = inl h
was_on [] (suc at) p h = inl h
was_on (x ∷ xs) zero zero h = inr refl
was_on (x ∷ xs) zero (suc p) h = inl h
was_on (x ∷ xs) (suc at) zero h = inl h
was_on (x ∷ xs) (suc at) (suc p) h = elim (was_on xs at p h) [
  | inl old ↦ inl old
  | inr same ↦ inr (ap suc same)
]

-- A flag that is on is there.
pub on_within : (flags : List Bool) (p : ℕ) → get_or flags p false ≡ true → p < length flags
on_within [] p h = cc
on_within (x ∷ xs) zero h = omega arith
on_within (x ∷ xs) (suc p) h = let rest = on_within xs p h in omega arith

-- A flag that is there is on with either answer past the end.
pub on_either : (flags : List Bool) (p : ℕ) → p < length flags
    → get_or flags p true ≡ get_or flags p false
on_either [] p lt = absurd (omega arith)
on_either (x ∷ xs) zero lt = refl
on_either (x ∷ xs) (suc p) lt = on_either xs p (omega arith)

pub same_test : (a b : Bool) → (a ≡ true → b ≡ true) → (b ≡ true → a ≡ true) → a ≡ b
same_test true b f g = sym (f refl)
same_test false true f g = g refl
same_test false false f g = refl

none_on : (n p : ℕ) → get_or (replicate n false) p false ≡ true → ⊥
none_on zero p h = cc
none_on (suc n) zero h = cc
none_on (suc n) (suc p) h = none_on n p h

onward : (leads : List ℕ → List (List ℕ)) (from to next : List ℕ) → Reaches leads from to
    → Contains (leads to) next → Reaches leads from next
onward leads from to next r among = record {
  in_each = λ set starts closed. All-contains (λ b. IsTrue (set b)) (leads to) next
      (closed to (r.in_each set starts closed)) among;
}

module _ (os : List Object) where
  pub marked-length : (ids : List (List ℕ)) (flags : List Bool)
      → length (with_flags os flags ids) ≡ length flags
  marked-length [] flags = refl
  marked-length (id ∷ ids) flags =
      marked-length ids (set flags (place_of id os) true) ∙ length-set flags (place_of id os) true

  pub marked-append : (ids more : List (List ℕ)) (flags : List Bool)
      → with_flags os flags (ids ++ more) ≡ with_flags os (with_flags os flags ids) more
  marked-append [] more flags = refl
  marked-append (id ∷ ids) more flags = marked-append ids more (set flags (place_of id os) true)

  pub kept_on : (ids : List (List ℕ)) (flags : List Bool) (p : ℕ) (d : Bool)
      → get_or flags p d ≡ true → get_or (with_flags os flags ids) p d ≡ true
  kept_on [] flags p d h = h
  kept_on (id ∷ ids) flags p d h =
      kept_on ids (set flags (place_of id os) true) p d (set_on flags (place_of id os) p d h)

  pub all_on : (ids : List (List ℕ)) (flags : List Bool) → All (IsOn os (with_flags os flags ids)) ids
  all_on [] flags = All-nil (IsOn os flags)
  all_on (id ∷ ids) flags =
      All-cons (IsOn os (with_flags os flags (id ∷ ids))) id ids
      (kept_on ids (set flags (place_of id os) true) (place_of id os) true (here_on flags (place_of id os)))
      (all_on ids (set flags (place_of id os) true))

  pub stays_on : (more : List (List ℕ)) (flags : List Bool) (ids : List (List ℕ))
      → All (IsOn os flags) ids → All (IsOn os (with_flags os flags more)) ids
  stays_on more flags ids h =
      All-weaker (IsOn os flags) (IsOn os (with_flags os flags more))
      (λ id on. kept_on more flags (place_of id os) true on) ids h

  later : (id : List ℕ) (ids : List (List ℕ)) (p : ℕ) → IsOne os ids p → IsOne os (id ∷ ids) p
  later id ids p one = record {
    id = one.id;
    among = (suc one.among.0, omega (arith, one.among.1), one.among.2);
    place_is = one.place_is;
  }

  new_on : (ids : List (List ℕ)) (flags : List Bool) (p : ℕ)
      → get_or (with_flags os flags ids) p false ≡ true
      → (get_or flags p false ≡ true) ⊎ IsOne os ids p
  new_on [] flags p h = inl h
  new_on (id ∷ ids) flags p h = elim (new_on ids (set flags (place_of id os) true) p h) [
    | inl old ↦ elim (was_on flags (place_of id os) p old) [
      | inl on ↦ inl on
      | inr same ↦ inr (record { id = id; among = (0, omega arith, refl); place_is = same })
    ]
    | inr one ↦ inr (later id ids p one)
  ]

  id_at : (id : List ℕ) (p : ℕ) → place_of id os ≡ p → p < length os → (object_at p os).id ≡ id
  id_at id p at lt =
      subst (λ (q : ℕ). (object_at q os).id ≡ id) at (there id os (omega (arith, at))).id_is

  pub nothing_referred : (id : List ℕ) → length os ≤ place_of id os → referred_by os id ≡ []
  nothing_referred id le =
      ap (λ (o : Option Content). map (λ r. r.id) (references_in (unwrap_or o no_content)))
      (not_there id os le)

  -- A name that some of these names reaches.
  pub record IsLedTo (names : List (List ℕ)) (id : List ℕ) : Type 0 where
    pub from : List ℕ
    pub among : Contains names from
    pub reaches : Reaches (referred_by os) from id

  -- The flags of these names are on, and no flag that they do not lead to.
  pub record IsLed (names : List (List ℕ)) (flags : List Bool) : Type 0 where
    pub size : length flags ≡ length os
    pub begun : All (IsOn os flags) names
    pub only : (p : ℕ) → get_or flags p false ≡ true → IsLedTo names (object_at p os).id

  pub led-next : (names : List (List ℕ)) (id next : List ℕ) → IsLedTo names id
      → Contains (referred_by os id) next → IsLedTo names next
  led-next names id next led among = record {
    from = led.from;
    among = led.among;
    reaches = onward (referred_by os) led.from id next led.reaches among;
  }

  pub led-first : (names : List (List ℕ)) → IsLed names (with_flags os (replicate (length os) false) names)
  led-first names = record {
    size = marked-length names (replicate (length os) false) ∙ length-replicate (length os) false;
    begun = all_on names (replicate (length os) false);
    only = λ p h. elim (new_on names (replicate (length os) false) p h) [
      | inl old ↦ absurd (none_on (length os) p old)
      | inr one ↦
          let lt : p < length os = let l = on_within (with_flags os (replicate (length os) false) names) p h in
          let s = marked-length names (replicate (length os) false) in
          let z = length-replicate (length os) false in omega arith in
          record {
            from = one.id;
            among = one.among;
            reaches = subst (Reaches (referred_by os) one.id) (sym (id_at one.id p one.place_is lt))
                (Reaches-itself (referred_by os) one.id);
          }
    ];
  }

module _ (digest : List ℕ → List ℕ) (os : List Object) (held : AreHeld digest os) (n : ℕ)
    (within : n < length os) where
  falls : All (λ q. place_of q os < n) (referred_by os (object_at n os).id)
  falls =
      subst (λ (m : ℕ). All (λ q. place_of q os < m) (referred_by os (object_at n os).id))
      (held.distinct n within) (references_fall digest os held (object_at n os).id)

  below : (p : ℕ) → n ≤ p → IsOne os (referred_by os (object_at n os).id) p → ⊥
  below p from one =
      let lt = All-contains (λ q. place_of q os < n) (referred_by os (object_at n os).id) one.id falls one.among in
      let e = one.place_is in omega arith

  -- What an object refers to changes no flag at the object or above it.
  pub same_above : (flags : List Bool) (p : ℕ) → n ≤ p
      → get_or (with_flags os flags (referred_by os (object_at n os).id)) p false ≡ get_or flags p false
  same_above flags p from =
      same_test _ _
      (λ h. elim (new_on os (referred_by os (object_at n os).id) flags p h) [
        | inl old ↦ old
        | inr one ↦ absurd (below p from one)
      ])
      (λ h. kept_on os (referred_by os (object_at n os).id) flags p false h)

  pub led-more : (names : List (List ℕ)) (flags : List Bool) → get_or flags n false ≡ true
      → IsLed os names flags → IsLed os names (with_flags os flags (referred_by os (object_at n os).id))
  led-more names flags on led = record {
    size = marked-length os (referred_by os (object_at n os).id) flags ∙ led.size;
    begun = stays_on os (referred_by os (object_at n os).id) flags names led.begun;
    only = λ p h. elim (new_on os (referred_by os (object_at n os).id) flags p h) [
      | inl old ↦ led.only p old
      | inr one ↦
          let lt : p < length os = let l = on_within (with_flags os flags (referred_by os (object_at n os).id)) p h in
          let s = marked-length os (referred_by os (object_at n os).id) flags in
          let z = led.size in omega arith in
          led-next os names (object_at n os).id (object_at p os).id (led.only n on)
          (subst (Contains (referred_by os (object_at n os).id)) (sym (id_at os one.id p one.place_is lt)) one.among)
    ];
  }

-- ---- what is led to is what is reached

module _ (digest : List ℕ → List ℕ) (os : List Object) (held : AreHeld digest os) where
  by_least : (from id : List ℕ)
      → IsTrue (is_reachable os (referred_by os) from id) ↔ Reaches (referred_by os) from id
  by_least from id =
      least (referred_by os) (λ x. place_of x os) (references_fall digest os held) (length os) from id
      (place_within from os)

  -- Some name of a list reaches what the list leads to, and no other.
  pub any-led : (id : List ℕ) (names : List (List ℕ))
      → list_any (λ name. is_reachable os (referred_by os) name id) names ≡ true → IsLedTo os names id
  any-led id [] h = cc
  any-led id (name ∷ names) h = elim (or_cases _ _ h) [
    | inl one ↦ record { from = name; among = (0, omega arith, refl); reaches = (by_least name id).0 one }
    | inr rest ↦
        let found = any-led id names rest in
        record {
          from = found.from;
          among = (suc found.among.0, omega (arith, found.among.1), found.among.2);
          reaches = found.reaches;
        }
  ]

  to_any : (id from : List ℕ) → Reaches (referred_by os) from id
      → (names : List (List ℕ)) (k : ℕ) → k < length names → get_or names k from ≡ from
      → list_any (λ name. is_reachable os (referred_by os) name id) names ≡ true
  to_any id from r [] k lt at = absurd (omega arith)
  to_any id from r (name ∷ names) zero lt at =
      or_left _ _ (subst (λ (x : List ℕ). is_reachable os (referred_by os) x id ≡ true) (sym at) ((by_least from id).1 r))
  to_any id from r (name ∷ names) (suc k) lt at = or_right _ _ (to_any id from r names k (omega arith) at)

  pub led-any : (names : List (List ℕ)) (id : List ℕ) → IsLedTo os names id
      → list_any (λ name. is_reachable os (referred_by os) name id) names ≡ true
  led-any names id led = to_any id led.from led.reaches names led.among.0 led.among.1 led.among.2

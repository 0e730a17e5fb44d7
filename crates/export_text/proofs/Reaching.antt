-- A walk from late places to early ones sets the flags of what some names reach.
use Rattle.std.proofs.Common.{◌≡◌, ℕ, zero, suc, ◌<◌, ◌≤◌, Bool, true, false, cond, List, [], ◌∷◌, length, get_or, map, replicate, All, inl, inr, refl, sym, ap, subst, ◌∙◌, arith}
use Rattle.std.specs.List.{list_any}
use Rattle.std.proofs.lemmas.Bool.{cases_eq, cases_lt}
use Rattle.std.proofs.lemmas.List.{length-map, get_or-map, ext_get_or}
use Rattle.std.proofs.lemmas.List.Elements.{All-nil, All-contains}
use Rattle.git_model.specs.RefStore.{listed_refs}
use Rattle.git_model.specs.Repository.{Object, Repository}
use Rattle.git_model.specs.References.{referred_by, place_of, object_at, no_object}
use Rattle.git_model.specs.HeldObjects.{AreHeld}
use Rattle.git_model.specs.Reach.{IsClosed, is_reachable, is_referred_to}
use Rattle.commit_walk.proofs.Named.{there}
use Rattle.export_text.specs.Marking.{with_flags, reached_flags}
use Rattle.export_text.proofs.Leading.{IsOn, IsLed, IsLedTo, all_on, any-led, led-any, led-first, led-more, nothing_referred, on_either, on_within, same_above, same_test, stays_on}

-- The flags after the places below a bound, from the last one down.
pub walked : List Object → ℕ → List Bool → List Bool
walked os zero flags = flags
walked os (suc n) flags =
    walked os n (cond (get_or flags n false) (with_flags os flags (referred_by os (object_at n os).id)) flags)

module _ (digest : List ℕ → List ℕ) (os : List Object) (held : AreHeld digest os)
    (starts : List (List ℕ)) where
  -- a walk that has looked at the places from n on
  record IsWalk (n : ℕ) (flags : List Bool) : Type 0 where
    led : IsLed os starts flags
    done : (p : ℕ) → n ≤ p → get_or flags p false ≡ true
        → All (IsOn os flags) (referred_by os (object_at p os).id)

  module _ (n : ℕ) (flags : List Bool) (w : IsWalk (suc n) flags) where
    skipped : get_or flags n false ≡ false → IsWalk n flags
    skipped off = record {
      led = w.led;
      done = λ p from on. elim (cases_eq n p) [
        | inl same ↦ let no : get_or flags p false ≡ false = rw (← same) off in cc
        | inr other ↦ w.done p (omega arith) on
      ];
    }

    abbrev ids : List (List ℕ)
    ids = referred_by os (object_at n os).id

    stepped : n < length os → get_or flags n false ≡ true → IsWalk n (with_flags os flags ids)
    stepped within on = record {
      led = led-more digest os held n within starts flags on w.led;
      done = λ p from h. elim (cases_eq n p) [
        | inl same ↦ subst (λ (q : ℕ). All (IsOn os (with_flags os flags ids)) (referred_by os (object_at q os).id)) same
            (all_on os ids flags)
        | inr other ↦ stays_on os ids flags (referred_by os (object_at p os).id)
            (w.done p (omega arith) (sym (same_above digest os held n within flags p from) ∙ h))
      ];
    }

  turned : (n : ℕ) (flags : List Bool) → IsWalk (suc n) flags → (b : Bool) → get_or flags n false ≡ b
      → IsWalk n (cond b (with_flags os flags (referred_by os (object_at n os).id)) flags)
  turned n flags w true e =
      stepped n flags w (let lt = on_within flags n e in let s = w.led.size in omega arith) e
  turned n flags w false e = skipped n flags w e

  ended : (n : ℕ) (flags : List Bool) → IsWalk n flags → IsWalk 0 (walked os n flags)
  unfolding walked
  ended zero flags w = w
  ended (suc n) flags w = ended n _ (turned n flags w (get_or flags n false) refl)

  begun : (flags : List Bool) → flags ≡ replicate (length os) false
      → IsWalk (length os) (with_flags os flags starts)
  begun flags blank = subst (λ (fs : List Bool). IsWalk (length os) (with_flags os fs starts)) (sym blank) (record {
    led = led-first os starts;
    done = λ p from on.
        let lt = on_within _ p on in let s = (led-first os starts).size in absurd (omega arith);
  })

  -- ---- what is on in the end is what the starts reach

  closed : (flags : List Bool) → IsWalk 0 flags
      → IsClosed (referred_by os) (λ id. get_or flags (place_of id os) true)
  closed flags w id on = elim (cases_lt (place_of id os) (length os)) [
    | inl lt ↦
        subst (λ (x : List ℕ). All (IsOn os flags) (referred_by os x)) ((there id os lt).id_is)
        (w.done (place_of id os) (omega arith)
        (sym (on_either flags (place_of id os) (let s = w.led.size in omega arith)) ∙ on))
    | inr le ↦ rw (nothing_referred os id le) (All-nil (IsOn os flags))
  ]

  every : (flags : List Bool) → IsWalk 0 flags → (p : ℕ) → p < length os
      → IsLedTo os starts (object_at p os).id → get_or flags p false ≡ true
  every flags w p lt l =
      let on = l.reaches.in_each (λ id. get_or flags (place_of id os) true)
      (All-contains (IsOn os flags) starts l.from w.led.begun l.among) (closed flags w) in
      sym (on_either flags p (let s = w.led.size in omega arith))
      ∙ (rw (held.distinct p lt) at on)

  told : (flags : List Bool) → IsWalk 0 flags → (p : ℕ) → p < length os
      → get_or flags p false
      ≡ list_any (λ name. is_reachable os (referred_by os) name (object_at p os).id) starts
  told flags w p lt =
      same_test _ _ (λ on. led-any digest os held starts (object_at p os).id (w.led.only p on))
      (λ e. every flags w p lt (any-led digest os held (object_at p os).id starts e))

any-target : {A B : Type 0} (test : B → Bool) (f : A → B) (xs : List A)
    → list_any test (map f xs) ≡ list_any (λ x. test (f x)) xs
any-target test f [] = refl
any-target test f (x ∷ xs) = rw (any-target test f xs) refl

module _ (digest : List ℕ → List ℕ) (repository : Repository)
    (held : AreHeld digest repository.objects) where
  abbrev targets : List (List ℕ)
  targets = map (λ (ref : List ℕ × List ℕ). ref.1) (listed_refs repository.refs)

  abbrev Walked : List Bool → Type 0
  Walked flags = IsWalk digest repository.objects held targets 0 flags

  all_told : (flags : List Bool) → Walked flags → flags ≡ reached_flags repository
  unfolding object_at is_referred_to
  all_told flags w =
      ext_get_or false flags (reached_flags repository)
      (w.led.size ∙ sym (length-map repository.objects (λ (o : Object). is_referred_to repository o.id)))
      (λ p lt.
      let within : p < length repository.objects = let s = w.led.size in omega arith in
      told digest repository.objects held targets flags w p within
      ∙ any-target (λ name. is_reachable repository.objects (referred_by repository.objects) name (object_at p repository.objects).id) (λ (ref : List ℕ × List ℕ). ref.1) (listed_refs repository.refs)
      ∙ sym (get_or-map (λ (o : Object). is_referred_to repository o.id) repository.objects p no_object false within))

  pub walk_reaches : (flags : List Bool) → flags ≡ replicate (length repository.objects) false
      → walked repository.objects (length repository.objects) (with_flags repository.objects flags targets)
      ≡ reached_flags repository
  walk_reaches flags blank =
      all_told _ (ended digest repository.objects held targets (length repository.objects) _
      (begun digest repository.objects held targets flags blank))

-- ---- one place down

pub walk_on : (os : List Object) (place n : ℕ) (old now : List Bool) → place ≡ suc n
    → get_or old n false ≡ true → now ≡ with_flags os old (referred_by os (object_at n os).id)
    → walked os n now ≡ walked os place old
unfolding walked
walk_on os place n old now is on next = step ∙ ap (λ m. walked os m old) (sym is)
  where
    step : walked os n now ≡ walked os (suc n) old
    step = rw on (ap (walked os n) next)

pub walk_past : (os : List Object) (place n : ℕ) (flags : List Bool) → place ≡ suc n
    → get_or flags n false ≡ false → walked os n flags ≡ walked os place flags
unfolding walked
walk_past os place n flags is off = step ∙ ap (λ m. walked os m flags) (sym is)
  where
    step : walked os n flags ≡ walked os (suc n) flags
    step = rw off refl

pub walk_ends : (os : List Object) (place : ℕ) (flags : List Bool) → place ≡ 0
    → walked os place flags ≡ flags
unfolding walked
walk_ends os place flags is = ap (λ n. walked os n flags) is ∙ last
  where
    last : walked os 0 flags ≡ flags
    last = refl

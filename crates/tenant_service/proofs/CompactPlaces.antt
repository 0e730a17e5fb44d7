-- The places of the objects that have a flag, one more at a time.
use Rattle.std.proofs.Common.{◌≡◌, ℕ, ◌+◌, ◌<◌, ◌≤◌, Bool, true, false, List, [], ◌∷◌, ◌++◌, length, get_or, take, All, refl, sym, ap, ◌∙◌, subst, arith}
use Rattle.std.specs.List.{filter}
use Rattle.std.proofs.lemmas.List.{length-map, map-append, take_all}
use Rattle.std.proofs.lemmas.List.Elements.{All-append, All-cons, All-nil}
use Rattle.git_model.specs.Reach.{is_referred_to}
use Rattle.git_model.specs.References.{object_at}
use Rattle.git_model.specs.Repository.{Object, Repository}
use Rattle.tenant_tables.specs.Copied.{objects_at}
use Rattle.export_text.specs.Marking.{reached_flags}
use Rattle.export_text.proofs.Flagged.{kept-none, kept-one, within}
use Rattle.tenant_service.specs.Compacting.{AreReached}

-- The places so far are those of what is reached among the first objects.
pub record AreSoFar (repository : Repository) (n : ℕ) (places : List ℕ) : Type 0 where
  pub within : All (λ p. p < length repository.objects) places
  pub objects : objects_at repository.objects places
      ≡ filter (λ o. is_referred_to repository o.id) (take n repository.objects)

pub none-so-far : (repository : Repository) (places : List ℕ) → places ≡ []
    → AreSoFar repository 0 places
none-so-far repository places none =
    subst (AreSoFar repository 0) (sym none)
    (record { within = All-nil (λ p. p < length repository.objects); objects = refl })

module _ (repository : Repository) (flags : List Bool) (i : ℕ) (are : flags ≡ reached_flags repository)
    (lt : i < length flags) (places : List ℕ) (before : AreSoFar repository i places) where
  abbrev set : Object → Bool
  set = λ o. is_referred_to repository o.id

  abbrev inside : List ℕ → Type 0
  inside = All (λ p. p < length repository.objects)

  pub one-on : (more : List ℕ) → get_or flags i false ≡ true → more ≡ places ++ i ∷ []
      → AreSoFar repository (i + 1) more
  one-on more on is =
      subst (AreSoFar repository (i + 1)) (sym is)
      (record {
        within = All-append (λ p. p < length repository.objects) places (i ∷ []) before.within
            (All-cons (λ p. p < length repository.objects) i []
            (within repository.objects set flags i are lt) (All-nil (λ p. p < length repository.objects)));
        objects = map-append (λ (p : ℕ). object_at p repository.objects) places (i ∷ [])
            ∙ ap (λ (os : List Object). os ++ object_at i repository.objects ∷ []) before.objects
            ∙ sym (kept-one repository.objects set flags i are lt on);
      })

  pub one-off : get_or flags i false ≡ false → AreSoFar repository (i + 1) places
  one-off off = record {
    within = before.within;
    objects = before.objects ∙ sym (kept-none repository.objects set flags i are lt off);
  }

pub all-so-far : (repository : Repository) (flags : List Bool) (n : ℕ) (places : List ℕ)
    → flags ≡ reached_flags repository → length flags ≤ n → AreSoFar repository n places
    → AreReached repository places
all-so-far repository flags n places are all so_far = record {
  within = so_far.within;
  objects =
      let a = ap length are in
      let b = length-map repository.objects (λ (o : Object). is_referred_to repository o.id) in
      so_far.objects
      ∙ ap (filter (λ o. is_referred_to repository o.id))
      (take_all n repository.objects (omega (arith, a, b, all)));
}

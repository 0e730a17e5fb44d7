-- Whatever the refs of a repository reach is there once all its objects are told.
use Rattle.std.proofs.Common.{◌≡◌, ◌≢◌, ℕ, Bool, true, List, [], ◌∷◌, length, map, All, IsTrue, Option, None, Some, is_some, refl, sym, ap, ◌∙◌, subst, inl, inr}
use Rattle.std.specs.Prelude.{unwrap_or}
use Rattle.std.specs.List.{AllByRecursion, list_any}
use Rattle.std.specs.Option.{option_map}
use Rattle.std.proofs.lemmas.Bool.{false≢true, or_cases}
use Rattle.std.proofs.lemmas.List.Elements.{All-map, All-weaker}
use Rattle.git_model.proofs.Readables.{objects_are}
use Rattle.git_model.specs.declared.kind.Kind.{Kind}
use Rattle.git_model.specs.declared.kind.Kind.TheVariants as kind
use Rattle.git_model.specs.Content.{Content, no_content}
use Rattle.git_model.specs.GoodRepository.{AreObjects, AreRefs, StandsBefore}
use Rattle.git_model.specs.Reach.{IsClosed, Reaches, is_reachable, is_referred_to}
use Rattle.git_model.specs.RefStore.{listed_refs, target_of}
use Rattle.git_model.specs.References.{Reference, kind_named, place_of, references_in, referred_by}
use Rattle.git_model.specs.Repository.{Repository, object_named}
use Rattle.git_model.proofs.Earlier.{place_within, references_fall}
use Rattle.git_model.proofs.Least.{least}
use Rattle.file_maps.proofs.GoodObjects.{refers-before}
use Rattle.export_laws.specs.Told.{AreTold, Told}
use Rattle.export_laws.specs.Whole.{HasReached}
use Rattle.export_laws.proofs.RefsKnown.{IsRef, each-ref}

-- ---- the set of what is there

module _ (digest : List ℕ → List ℕ) (repository : Repository)
    (good : AreObjects digest repository.objects) (refs : AreRefs repository.objects repository.refs)
    (told : Told) (all : AreTold repository repository.objects told)
    (sound : AreObjects digest told.objects) where
  abbrev leads : List ℕ → List (List ℕ)
  leads = referred_by repository.objects

  abbrev is_there : List ℕ → Bool
  is_there id = is_some (object_named id told.objects)

  -- what is no tree is there, as it was told
  kind-there : (id : List ℕ) (k : Kind) → kind_named id repository.objects ≡ Some k → k ≢ kind.Tree
      → is_referred_to repository id ≡ true → is_there id ≡ true
  kind-there id k is other reached = by (object_named id repository.objects) refl is
    where
      by : (found : Option Content) → object_named id repository.objects ≡ found
          → option_map (λ (c : Content). c.kind) found ≡ Some k → is_there id ≡ true
      by None e h = cc
      by (Some c) e h =
          let same : c.kind ≡ k = cc in
          ap is_some (all.each id c e reached (λ tree. other (sym same ∙ tree))).object

  target-there : (ref id : List ℕ) → target_of repository.refs ref ≡ Some id
      → is_referred_to repository id ≡ true → is_there id ≡ true
  target-there ref id is reached = elim (refs.targets ref id is) [
    | inl commit ↦ kind-there id kind.Commit commit (λ tree. cc) reached
    | inr tag ↦ kind-there id kind.Tag tag.2.0 (λ tree. cc) reached
  ]

  -- what an object that is there refers to is there too
  some-kind : (o : Option Content) (k : Kind) → option_map (λ (c : Content). c.kind) o ≡ Some k
      → is_some o ≡ true
  some-kind None k e = cc
  some-kind (Some c) k e = refl

  closed-at : (id : List ℕ) (found : Option Content) → object_named id told.objects ≡ found
      → is_some found ≡ true → All (λ next. IsTrue (is_there next)) (leads id)
  closed-at id None e h = absurd (false≢true h)
  closed-at id (Some c) e h =
      subst (λ (o : Option Content). All (λ next. IsTrue (is_there next))
      (map (λ (r : Reference). r.id) (references_in (unwrap_or o no_content))))
      (sym (all.objects.same id c e))
      (All-map (λ next. IsTrue (is_there next)) (λ (r : Reference). r.id) (references_in c)
      (All-weaker (StandsBefore told.objects (place_of id told.objects))
      (λ (r : Reference). IsTrue (is_there r.id))
      (λ r stands. some-kind (object_named r.id told.objects) r.kind stands.kind) (references_in c)
      (refers-before digest told.objects sound id c e)))

  closed : IsClosed leads is_there
  closed id h = closed-at id (object_named id told.objects) refl h

  -- ---- and what the refs reach

  reaches-is : (from to : List ℕ) → is_reachable repository.objects leads from to ≡ true
      → Reaches leads from to
  reaches-is from to =
      (least leads (λ x. place_of x repository.objects) (references_fall digest repository.objects (objects_are digest repository.objects good))
      (length repository.objects) from to (place_within from repository.objects)).0

  from-refs : (id : List ℕ) (listed : List (List ℕ × List ℕ))
      → AllByRecursion (IsRef repository) listed
      → list_any (λ ref. is_reachable repository.objects leads ref.1 id) listed ≡ true
      → is_there id ≡ true
  from-refs id [] are any = absurd (false≢true any)
  from-refs id (ref ∷ listed) are any =
      elim (or_cases (is_reachable repository.objects leads ref.1 id) (list_any (λ r. is_reachable repository.objects leads r.1 id) listed) any) [
        | inl one ↦
            (reaches-is ref.1 id one).in_each is_there
            (target-there ref.0 ref.1 are.0.holds are.0.reached) closed
        | inr later ↦ from-refs id listed are.1 later
      ]

  is-there : (id : List ℕ) → is_referred_to repository id ≡ true → is_there id ≡ true
  unfolding is_referred_to
  is-there id reached = from-refs id (listed_refs repository.refs) (each-ref repository) reached

  pub whole : HasReached repository told.objects
  whole id content is reached = by (object_named id told.objects) refl (is-there id reached)
    where
      by : (found : Option Content) → object_named id told.objects ≡ found → is_some found ≡ true
          → object_named id told.objects ≡ Some content
      by None e h = absurd (false≢true h)
      by (Some d) e h = e ∙ sym (all.objects.same id d e) ∙ is

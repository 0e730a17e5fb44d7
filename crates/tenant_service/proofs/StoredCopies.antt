-- A copy brings no content into the pool: what is held of it is held of the tenant that was copied.
use Rattle.std.proofs.Common.{◌≡◌, ℕ, zero, suc, Bool, true, false, cond, true≢false, inl, inr, List, [], ◌∷◌, map, take, Some, refl, sym, ap, subst, ◌∙◌}
use Rattle.std.specs.List.{AllByRecursion, IsDistinct}
use Rattle.std.specs.Map.{keys_of, lookup}
use Rattle.std.specs.Option.{unwrap_or}
use Rattle.std.specs.Str.{bytes_eq}
use Rattle.std.proofs.lemmas.Slice.Eq.{bytes_eq-Decides}
use Rattle.git_model.specs.Content.{Content}
use Rattle.git_model.specs.Repository.{Object, object_named}
use Rattle.git_model.proofs.Places.{first_named, later_named}
use Rattle.content_pool.specs.LiveContents.{stored_sizes}
use Rattle.content_pool.proofs.StoredLemmas.{stored_sizes-same_members}
use Rattle.pool_file_checks.proofs.Members.{Has, contained, has_contained, has_left, has_right, of_flat_map}
use Rattle.import_session.specs.Stream.{Runs, Refused}
use Rattle.service_steps.specs.declared.answer.Answer.{Answer}
use Rattle.service_steps.specs.declared.answer.Answer.TheVariants as answer
use Rattle.tenant_service.specs.Copies.{CopiesAs, HoldsCopy, StoresAs}
use Rattle.tenant_service.specs.TenantState.{TenantState, TenantStates, Idle, Busy, empty_repository, held_of}
use Rattle.tenant_service.specs.HeldObjects.{held_contents, held_objects, last_held}
use Rattle.tenant_service.proofs.BackLemmas.{found-once}

abbrev contents : List Object → List Content
contents os = map (λ (o : Object). o.content) os

-- ---- contents and names of objects

unlike : (a b : List ℕ) → bytes_eq a b ≡ false → bytes_eq b a ≡ false
unlike a b apart = by (bytes_eq b a) refl
  where
    by : (x : Bool) → bytes_eq b a ≡ x → x ≡ false
    by true same =
        absurd (true≢false (sym ((bytes_eq-Decides a b).1 (sym ((bytes_eq-Decides b a).0 same))) ∙ apart))
    by false other = refl

named-has : (os : List Object) (id : List ℕ) (c : Content) → object_named id os ≡ Some c
    → Has (contents os) c
unfolding object_named
named-has [] id c e = cc e
named-has (o ∷ os) id c e = by (named-has os id c) (bytes_eq id o.id) e
  where
    by : (object_named id os ≡ Some c → Has (contents os) c) → (b : Bool)
        → cond b (Some o.content) (object_named id os) ≡ Some c → Has (contents (o ∷ os)) c
    by rest true is = inl (cc is)
    by rest false is = inr (rest is)

record IsNamed (os : List Object) (c : Content) : Type 0 where
  id : List ℕ
  there : Has (map (λ (o : Object). o.id) os) id
  named : object_named id os ≡ Some c

each : (P : List ℕ → Type 0) (xs : List (List ℕ)) (x : List ℕ) → AllByRecursion P xs → Has xs x
    → P x
each P [] x all h = absurd h
each P (y ∷ ys) x all (inl e) = subst P e all.0
each P (y ∷ ys) x all (inr h) = each P ys x all.1 h

has-named : (os : List Object) → IsDistinct bytes_eq (map (λ (o : Object). o.id) os) → (c : Content)
    → Has (contents os) c → IsNamed os c
unfolding IsDistinct
has-named [] distinct c h = absurd h
has-named (o ∷ os) distinct c (inl e) = record {
  id = o.id;
  there = inl refl;
  named = first_named o.id o os ((bytes_eq-Decides o.id o.id).1 refl) ∙ ap Some e;
}
has-named (o ∷ os) distinct c (inr h) =
    let later = has-named os distinct.1 c h in
    let apart = each (λ y. bytes_eq o.id y ≡ false) _ later.id distinct.0 later.there in
    record {
      id = later.id;
      there = inr later.there;
      named = later_named later.id o os (unlike o.id later.id apart) ∙ later.named;
    }

has-front : (n : ℕ) (os : List Object) (c : Content) → Has (contents (take n os)) c
    → Has (contents os) c
has-front zero os c h = absurd h
has-front (suc n) [] c h = absurd h
has-front (suc n) (o ∷ os) c (inl e) = inl e
has-front (suc n) (o ∷ os) c (inr h) = inr (has-front n os c h)

-- the last checkpoint has no content that is not held
last-in : (held : TenantState) (c : Content) → Has (contents (last_held held).objects) c
    → Has (contents (held_objects held)) c
last-in (Idle repository) c h = h
last-in (Busy opened (Runs now tail)) c h = has-front now.workspace.committed now.workspace.objects c h
last-in (Busy opened (Refused code repository)) c h = h

-- ---- contents of all tenants, by their names

in-held : (all : TenantStates) (name : List ℕ) (c : Content)
    → Has (contents (held_objects (held_of name all))) c → Has (held_contents all) c
in-held [] name c h = absurd h
in-held (x ∷ all) name c h = by (in-held all name c) (bytes_eq name x.0) h
  where
    by : (Has (contents (held_objects (held_of name all))) c → Has (held_contents all) c) → (b : Bool)
        → Has (contents (held_objects (unwrap_or (cond b (Some x.1) (lookup (bytes_eq name) all)) (Idle empty_repository)))) c
        → Has (held_contents (x ∷ all)) c
    by rest true first = has_left (contents (held_objects x.1)) (held_contents all) c first
    by rest false later = has_right (contents (held_objects x.1)) (held_contents all) c (rest later)

record IsHeld (all : TenantStates) (c : Content) : Type 0 where
  name : List ℕ
  has : Has (contents (held_objects (held_of name all))) c

of-held : (all : TenantStates) → IsDistinct bytes_eq (keys_of all) → (c : Content)
    → Has (held_contents all) c → IsHeld all c
of-held all once c h =
    let o = of_flat_map (λ (e : List ℕ × TenantState). contents (held_objects e.1)) all c h in
    let held : held_of o.of.0 all ≡ o.of.1 =
    ap (λ m. unwrap_or m (Idle empty_repository)) (found-once all o.of once o.there) in
    record {
      name = o.of.0;
      has = subst (λ (x : TenantState). Has (contents (held_objects x)) c) (sym held) o.has;
    }

-- ---- before a copy and after it

module _ (before after : TenantStates) (from to : List ℕ)
    (once : IsDistinct bytes_eq (keys_of before)) (once' : IsDistinct bytes_eq (keys_of after))
    (others : (tenant : List ℕ) → bytes_eq tenant to ≡ false
    → held_of tenant after ≡ held_of tenant before)
    (nothing : held_of to before ≡ Idle empty_repository)
    (copy : HoldsCopy (last_held (held_of from before)) (held_of to after)) where
  copied-in : (held : TenantState) → HoldsCopy (last_held (held_of from before)) held → (c : Content)
      → Has (contents (held_objects held)) c → Has (held_contents before) c
  copied-in (Idle left) is c h =
      let n = has-named left.objects is.only.distinct c h in
      in-held before from c
      (last-in (held_of from before) c
      (named-has (last_held (held_of from before)).objects n.id c (is.only.same n.id c n.named)))
  copied-in (Busy opened status) is c h = absurd is

  into : (c : Content) → Has (held_contents after) c → Has (held_contents before) c
  into c h = let f = of-held after once' c h in by f.name (bytes_eq f.name to) refl f.has
    where
      by : (name : List ℕ) (b : Bool) → bytes_eq name to ≡ b
          → Has (contents (held_objects (held_of name after))) c → Has (held_contents before) c
      by name true same has =
          copied-in (held_of to after) copy c
          (subst (λ (n : List ℕ). Has (contents (held_objects (held_of n after))) c)
          ((bytes_eq-Decides name to).0 same) has)
      by name false other has =
          in-held before name c
          (subst (λ (x : TenantState). Has (contents (held_objects x)) c) (others name other) has)

  back : (c : Content) → Has (held_contents before) c → Has (held_contents after) c
  back c h = let f = of-held before once c h in by f.name (bytes_eq f.name to) refl f.has
    where
      by : (name : List ℕ) (b : Bool) → bytes_eq name to ≡ b
          → Has (contents (held_objects (held_of name before))) c → Has (held_contents after) c
      by name true same has =
          absurd (subst (λ (x : TenantState). Has (contents (held_objects x)) c)
          (ap (λ (n : List ℕ). held_of n before) ((bytes_eq-Decides name to).0 same) ∙ nothing) has)
      by name false other has =
          in-held after name c
          (subst (λ (x : TenantState). Has (contents (held_objects x)) c) (sym (others name other)) has)

  pub stored-same : stored_sizes (held_contents after) ≡ stored_sizes (held_contents before)
  stored-same =
      stored_sizes-same_members (held_contents after) (held_contents before)
      (λ c h. contained _ c (into c (has_contained _ c h)))
      (λ c h. contained _ c (back c (has_contained _ c h)))

-- a copy, by its answer
pub stored-by : (told : Answer) (before after : TenantStates) (from to : List ℕ)
    → IsDistinct bytes_eq (keys_of before) → IsDistinct bytes_eq (keys_of after)
    → ((tenant : List ℕ) → bytes_eq tenant to ≡ false → held_of tenant after ≡ held_of tenant before)
    → held_of to before ≡ Idle empty_repository
    → CopiesAs told (last_held (held_of from before)) (held_of to after)
    → StoresAs told before after
stored-by answer.Ok before after from to once once' others nothing copies =
    stored-same before after from to once once' others nothing copies
stored-by (answer.Memory items) before after from to once once' others nothing copies = tt
stored-by (answer.Fault code) before after from to once once' others nothing copies = tt

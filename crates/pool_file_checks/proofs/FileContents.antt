-- The contents of the repositories that a file says, each once and in order, are its objects.
use Rattle.std.proofs.Common.{◌≡◌, ℕ, ◌<◌, List, [], ◌∷◌, map, length, get_or, Option, None, Some, refl, sym, ap, subst, ◌∙◌, arith}
use Rattle.std.proofs.lemmas.List.{get_or-map, length-map}
use Rattle.git_model.specs.Content.{Content}
use Rattle.git_model.specs.Repository.{Object}
use Rattle.pool_file_format.specs.Format.{RawObject, RawTenant, RawFile}
use Rattle.pool_file_checks.specs.Checks.{Passes}
use Rattle.pool_file_checks.specs.Objects.{raw_object, object_key, object_checks, CanStore}
use Rattle.pool_file_checks.specs.Own.{content_of, content_at, rows_of, names_of, objects_in}
use Rattle.pool_file_checks.specs.FileRefs.{AreRising}
use Rattle.pool_file_checks.specs.Held.{numbers_of}
use Rattle.pool_file_checks.specs.Repositories.{Named, contents_of, listed_contents}
use Rattle.pool_file_checks.specs.Saved.{named_at, saved_in}
use Rattle.pool_file_checks.proofs.Members.{Has, has_at, has_map, from_map, has_flat_map, of_flat_map, place_of_has, has_contained, all_has}
use Rattle.pool_file_checks.proofs.Keys.{keyed, AreSorted, content_again, listed_so}
use Rattle.pool_file_checks.proofs.Rising.{sorted_rising}
use Rattle.pool_file_checks.proofs.Passing.{objects_rise, each_holds, HoldsAll}

abbrev pub contents_in : List RawObject → List Content
contents_in os = map content_of os

-- ---- an object can be stored as one content alone

pub raw_again : (o : RawObject) → CanStore o → raw_object (content_of o) ≡ o
raw_again o can =
    ap (λ (x : RawObject). raw_object (content_of x)) can.1
    ∙ ap raw_object (content_again can.0) ∙ sym can.1

pub objects_again : (last : Option (List ℕ)) (os : List RawObject) → Passes (object_checks last os)
    → map raw_object (contents_in os) ≡ os
objects_again last [] p = refl
objects_again last (o ∷ os) p =
    λ i. raw_again o p.0 i ∷ objects_again (Some (object_key o)) os p.1.1 i

keys_again : (last : Option (List ℕ)) (os : List RawObject) → Passes (object_checks last os)
    → map (λ e. e.0) (keyed (contents_in os)) ≡ map object_key os
keys_again last [] p = refl
keys_again last (o ∷ os) p =
    λ i. object_key (raw_again o p.0 i) ∷ keys_again (Some (object_key o)) os p.1.1 i

pub sorted_objects : (os : List RawObject) → Passes (object_checks None os)
    → AreSorted (contents_in os)
sorted_objects os p =
    sorted_rising None (keyed (contents_in os))
    (subst (AreRising None) (sym (keys_again None os p)) (objects_rise None os p))

-- ---- a content by its number

pub content_is : (os : List RawObject) (n : ℕ) (d : Content) → n < length os
    → get_or (contents_in os) n d ≡ content_at os n
unfolding content_at
content_is os n d l = get_or-map content_of os n (record { kind = 3; bytes = [] }) d l

pub has_content : (os : List RawObject) (n : ℕ) → n < length os
    → Has (contents_in os) (content_at os n)
has_content os n l =
    let d : Content = content_at os n in
    let size : length (contents_in os) ≡ length os = length-map os content_of in
    subst (λ (c : Content). Has (contents_in os) c) (content_is os n d l)
    (has_at (contents_in os) n d (omega (arith, l, size)))

-- ---- the contents of a tenant

pub contents_of_rows : (os : List RawObject) (names : List (List ℕ)) (numbers : List ℕ)
    → map (λ (o : Object). o.content) (objects_in os (rows_of names numbers))
    ≡ map (content_at os) numbers
unfolding objects_in
contents_of_rows os names [] = refl
contents_of_rows os names (n ∷ ns) =
    ap (λ (l : List Content). content_at os n ∷ l) (contents_of_rows os names ns)

pub own_contents : (digest : List ℕ → List ℕ) (os : List RawObject) (t : RawTenant)
    → map (λ o. o.content) (named_at digest os t).repository.objects
    ≡ map (content_at os) t.numbers
own_contents digest os t = contents_of_rows os (names_of digest os) t.numbers

module _ (digest : List ℕ → List ℕ) (f : RawFile) (h : HoldsAll digest f) where
  abbrev contents_under : Named → List Content
  contents_under n = map (λ o. o.content) n.repository.objects

  abbrev all_named : List Named
  all_named = map (named_at digest f.objects) f.tenants

  there : (c : Content) → Has (contents_of all_named) c → Has (contents_in f.objects) c
  there c has =
      let of = of_flat_map contents_under all_named c has in
      let t = from_map (named_at digest f.objects) f.tenants of.of of.there in
      let own : Has (map (content_at f.objects) t.from.numbers) c =
      subst (λ (l : List Content). Has l c) (own_contents digest f.objects t.from)
      (subst (λ (n : Named). Has (contents_under n) c) (sym t.is) of.has) in
      let n = from_map (content_at f.objects) t.from.numbers c own in
      let good = each_holds digest f.version f.objects None f.tenants t.from h.tenants t.there in
      subst (λ (x : Content). Has (contents_in f.objects) x) n.is
      (has_content f.objects n.from
      (all_has (λ m. m < length f.objects) t.from.numbers n.from good.numbers n.there))

  held_at : (n : ℕ) → n < length f.objects → Has (contents_of all_named) (content_at f.objects n)
  held_at n l =
      let number = has_contained (numbers_of f.tenants) n (h.held n l) in
      let of = of_flat_map (λ t. t.numbers) f.tenants n number in
      has_flat_map contents_under all_named (named_at digest f.objects of.of)
      (content_at f.objects n) (has_map (named_at digest f.objects) f.tenants of.of of.there)
      (subst (λ (l : List Content). Has l (content_at f.objects n))
      (sym (own_contents digest f.objects of.of))
      (has_map (content_at f.objects) of.of.numbers n of.has))

  back : (c : Content) → Has (contents_in f.objects) c → Has (contents_of all_named) c
  back c has =
      let a = place_of_has (contents_in f.objects) c has in
      let size : length (contents_in f.objects) ≡ length f.objects =
      length-map f.objects content_of in
      let within : a.place < length f.objects = let w = a.within in omega (arith, w, size) in
      subst (λ (x : Content). Has (contents_of all_named) x)
      (sym (content_is f.objects a.place c within) ∙ a.is c) (held_at a.place within)

  pub listed_again : listed_contents (saved_in digest f) ≡ contents_in f.objects
  unfolding saved_in listed_contents
  listed_again =
      listed_so (contents_of all_named) (contents_in f.objects)
      (sorted_objects f.objects h.objects) there back

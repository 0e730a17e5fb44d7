-- The file of repositories that can be saved is good, and says them.
use Rattle.std.proofs.Common.{◌≡◌, ℕ, ◌<◌, List, [], ◌∷◌, map, length, get_or, Option, None, Some, refl, ap, subst, ◌∙◌, inl, inr, arith}
use Rattle.git_model.specs.Content.{Content, no_content}
use Rattle.git_model.specs.Repository.{Object}
use Rattle.git_model.specs.GoodRepository.{IsObject}
use Rattle.pool_file_format.specs.Format.{RawTenant}
use Rattle.pool_file_checks.specs.Checks.{Passes}
use Rattle.pool_file_checks.specs.Objects.{object_checks, IsContent}
use Rattle.pool_file_checks.specs.FileRefs.{AreRising}
use Rattle.pool_file_checks.specs.Held.{numbers_of, AreHeld}
use Rattle.pool_file_checks.specs.Whole.{one_tenant_checks, tenant_checks, file_checks}
use Rattle.pool_file_checks.specs.Repositories.{Named, contents_of, content_key, listed_contents, number_in, raw_tenant, raw_of}
use Rattle.pool_file_checks.specs.Saved.{named_at, saved_in}
use Rattle.pool_file_checks.specs.Saving.{CanSaveOne, CanSave}
use Rattle.pool_file_checks.proofs.Members.{Has, has_at, has_map, from_map, has_flat_map, of_flat_map, contained, all_has}
use Rattle.pool_file_checks.proofs.Keys.{keyed}
use Rattle.pool_file_checks.proofs.Rising.{rising_first, rising_rest, rising_sorted}
use Rattle.pool_file_checks.proofs.Numbers.{number_is}
use Rattle.pool_file_checks.proofs.Passing.{Holds, passes_both, passes_one, passes_all}
use Rattle.pool_file_checks.proofs.Found.{Lists, lists_contents}
use Rattle.pool_file_checks.proofs.GoodObjects.{content_of_good}
use Rattle.pool_file_checks.proofs.RawTenants.{raws, raws_length, numbers_in}
use Rattle.pool_file_checks.proofs.Saving.{holds_saved, named_again}

abbrev contents_under : Named → List Content
contents_under n = map (λ o. o.content) n.repository.objects

objects_pass : (last : Option (List ℕ)) (cs : List Content)
    → AreRising last (map (λ e. e.0) (keyed cs)) → ((c : Content) → Has cs c → IsContent c)
    → Passes (object_checks last (raws cs))
objects_pass last [] r each = tt
objects_pass last (c ∷ cs) r each =
    let keys = map (λ e. e.0) (keyed cs) in (
      (c, refl, each c (inl refl)),
      (
        rising_first last (content_key c) keys r,
        objects_pass (Some (content_key c)) cs (rising_rest last (content_key c) keys r)
            (λ d h. each d (inr h)),
      ),
    )

module _ (version : ℕ) (digest : List ℕ → List ℕ) (cs : List Content) where
  tenants_pass : (last : Option (List ℕ)) (ns : List Named)
      → AreRising last (map (λ n. n.tenant) ns)
      → ((n : Named) → Has ns n → Holds digest version (raws cs) (raw_tenant cs n))
      → Passes (tenant_checks digest version (raws cs) last (map (raw_tenant cs) ns))
  tenants_pass last [] r each = tt
  tenants_pass last (n ∷ ns) r each =
      let names = map (λ m. m.tenant) ns in
      let one = passes_one digest version (raws cs) last (raw_tenant cs n)
      (rising_first last n.tenant names r) (each n (inl refl)) in
      let rest = tenants_pass (Some n.tenant) ns (rising_rest last n.tenant names r)
      (λ m h. each m (inr h)) in
      passes_both (one_tenant_checks digest version (raws cs) last (raw_tenant cs n))
      (tenant_checks digest version (raws cs) (Some n.tenant) (map (raw_tenant cs) ns)) one rest

  tenants_again : (ns : List Named)
      → ((n : Named) → Has ns n → named_at digest (raws cs) (raw_tenant cs n) ≡ n)
      → map (named_at digest (raws cs)) (map (raw_tenant cs) ns) ≡ ns
  tenants_again [] each = refl
  tenants_again (n ∷ ns) each =
      let one = each n (inl refl) in
      let rest = tenants_again ns (λ m h. each m (inr h)) in
      λ i. one i ∷ rest i

module _ (version : ℕ) (digest : List ℕ → List ℕ) (all : List Named)
    (can : CanSave version digest all) where
  abbrev cs : List Content
  cs = listed_contents all

  lists : Lists (contents_of all) cs
  lists = lists_contents all

  can_one : (n : Named) → Has all n → CanSaveOne version digest n
  can_one n h = all_has (CanSaveOne version digest) all n can.each h

  there : (n : Named) → Has all n → (o : Object) → Has n.repository.objects o → Has cs o.content
  there n h o k =
      lists.into o.content
      (has_flat_map contents_under all n o.content h
      (has_map (λ (x : Object). x.content) n.repository.objects o k))

  is_content : (c : Content) → Has cs c → IsContent c
  is_content c h =
      let n = of_flat_map contents_under all c (lists.back c h) in
      let o = from_map (λ (x : Object). x.content) n.of.repository.objects c n.has in
      let objects = (can_one n.of n.there).good.objects.each in
      subst IsContent o.is
      (content_of_good digest n.of.repository.objects o.from
      (all_has (IsObject digest n.of.repository.objects) n.of.repository.objects o.from objects o.there))

  held : AreHeld (length (raws cs)) (numbers_of (map (raw_tenant cs) all))
  held k l =
      let c : Content = get_or cs k no_content in
      let within : k < length cs = omega (arith, l, raws_length cs) in
      let n = of_flat_map contents_under all c (lists.back c (has_at cs k no_content within)) in
      let o = from_map (λ (x : Object). x.content) n.of.repository.objects c n.has in
      let number : number_in cs o.from.content ≡ k =
      ap (number_in cs) o.is ∙ number_is cs k no_content lists.sorted within in
      let own : Has (numbers_in cs n.of.repository.objects) k =
      subst (λ (m : ℕ). Has (numbers_in cs n.of.repository.objects) m) number
      (has_map (λ (x : Object). number_in cs x.content) n.of.repository.objects o.from o.there) in
      contained (numbers_of (map (raw_tenant cs) all)) k
      (has_flat_map (λ (t : RawTenant). t.numbers) (map (raw_tenant cs) all) (raw_tenant cs n.of) k
      (has_map (raw_tenant cs) all n.of n.there) own)

  pub saved_passes : Passes (file_checks digest (raw_of version all))
  unfolding raw_of
  saved_passes = passes_all digest (raw_of version all) (record {
    objects = objects_pass None cs (rising_sorted (keyed cs) lists.sorted) is_content;
    tenants = tenants_pass version digest cs None all can.rising (λ n h.
        holds_saved version digest cs lists.sorted n (can_one n h) (there n h));
    held = held;
  })

  pub saved_again : saved_in digest (raw_of version all) ≡ all
  unfolding raw_of saved_in
  saved_again = tenants_again version digest cs all (λ n h.
      named_again version digest cs lists.sorted n (can_one n h) (there n h))

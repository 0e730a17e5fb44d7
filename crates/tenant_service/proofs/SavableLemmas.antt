-- What is saved of a service has a text: all its counts fit their bytes.
use Rattle.std.proofs.Common.{◌≡◌, ℕ, zero, suc, ◌+◌, ◌*◌, ◌<◌, ◌≤◌, ◌^◌, ◌==◌, ◌||◌, Bool, true, false, cond, List, [], ◌∷◌, ◌++◌, map, length, filter, take, None, Some, codes, refl, sym, ap, ◌∙◌, inl, inr, arith, true≢false}
use Rattle.std.specs.Prelude.{◌⊎◌, ◌≢◌, not, nat_lt}
use Rattle.std.specs.List.{AllByRecursion, IsDistinct, flat_map, onto_first}
use Rattle.std.specs.Set.{is_member, unique_keys}
use Rattle.std.specs.Str.{bytes_eq}
use Rattle.std.specs.FinMap.{entries, entries_sorted, from_entries, get-entries, len, len-entries, len-insert, len-empty, contains_key}
use Rattle.std.proofs.lemmas.Bool.Decides.{nat_tests}
use Rattle.std.proofs.lemmas.Cmp.{nat_list_cmp_total}
use Rattle.std.proofs.lemmas.List.{length-map, length-append}
use Rattle.std.proofs.lemmas.Slice.Eq.{bytes_eq-Decides}
use Rattle.git_model.specs.declared.kind.Kind.{Kind}
use Rattle.git_model.specs.declared.kind.Kind.TheVariants as kind
use Rattle.git_model.specs.Content.{Content, same_content}
use Rattle.git_model.specs.Repository.{Object}
use Rattle.git_model.specs.RefStore.{first_head, listed_refs, target_of}
use Rattle.git_model.specs.GoodRepository.{IsObject, IsShortRefName}
use Rattle.git_model.proofs.Earlier.{place_within}
use Rattle.content_pool.proofs.DistinctSums.{length-sum_by, unique_keys-distinct, sum_by-unique_keys}
use Rattle.content_pool.proofs.StoredLemmas.{same_content-decides}
use Rattle.tenant_refs.specs.FullName.{namespace_of, namespaces, full_name}
use Rattle.tenant_refs.specs.TenantName.{IsTenantName, is_tenant_name, parts_of}
use Rattle.tenant_refs.proofs.Names.{is_tenant_name-Decides}
use Rattle.pool_file_format.specs.Format.{FitsFile, FitsObject, FitsRef, FitsTenant, FitsNumber}
use Rattle.pool_file_checks.specs.Objects.{kind_byte, raw_object}
use Rattle.pool_file_checks.specs.Repositories.{Named, content_key, contents_of, listed_contents, number_in, raw_ref, raw_tenant, raw_of}
use Rattle.pool_file_checks.specs.Saving.{IsGood, CanSaveOne, CanSave}
use Rattle.pool_file_checks.proofs.Members.{Has, all_has, all_from_has, has_map, from_map, has_flat_map, of_flat_map}
use Rattle.pool_file_checks.proofs.Keys.{key_cmp, keyed, AreSorted}
use Rattle.pool_file_checks.proofs.Rising.{rising_sorted}
use Rattle.pool_file_checks.proofs.Found.{lists_contents, find_has}
use Rattle.pool_file_checks.proofs.Numbers.{numbered}
use Rattle.pool_file.specs.Listing.{listed_by}
use Rattle.pool_file.specs.Worth.{is_worth_saving, worth_saving}
use Rattle.tenant_service.proofs.LoadedLemmas.{distinct-rising}
use Rattle.tenant_service.proofs.SavedLemmas.{listed_has, listed_rises}

-- ---- lists

module _ {X : Type 0} where
  pub filter-has : (test : X → Bool) (xs : List X) (x : X) → Has (filter test xs) x
      → Has xs x × (test x ≡ true)
  filter-has test [] x h = absurd h
  filter-has test (y ∷ ys) x h = by (test y) refl h (filter-has test ys x)
    where
      by : (b : Bool) → test y ≡ b → Has (cond b (y ∷ filter test ys) (filter test ys)) x
          → (Has (filter test ys) x → Has ys x × (test x ≡ true))
          → Has (y ∷ ys) x × (test x ≡ true)
      by true t (inl same) later = (inl same, ap test (sym same) ∙ t)
      by true t (inr h) later = let r = later h in (inr r.0, r.1)
      by false t h later = let r = later h in (inr r.0, r.1)

  filter-length : (test : X → Bool) (xs : List X) → length (filter test xs) ≤ length xs
  filter-length test [] = omega arith
  filter-length test (y ∷ ys) = by (test y) (filter-length test ys)
    where
      by : (b : Bool) → length (filter test ys) ≤ length ys
          → length (cond b (y ∷ filter test ys) (filter test ys)) ≤ length (y ∷ ys)
      by true less = omega (arith, less)
      by false less = omega (arith, less)

  pub take-has : (n : ℕ) (xs : List X) (x : X) → Has (take n xs) x → Has xs x
  take-has zero xs x h = absurd h
  take-has (suc n) [] x h = absurd h
  take-has (suc n) (y ∷ ys) x (inl same) = inl same
  take-has (suc n) (y ∷ ys) x (inr h) = inr (take-has n ys x h)

  recursion_from_has : (P : X → Type 0) (xs : List X) → ((x : X) → Has xs x → P x)
      → AllByRecursion P xs
  recursion_from_has P [] each = tt
  recursion_from_has P (x ∷ xs) each =
      (each x (inl refl), recursion_from_has P xs (λ y h. each y (inr h)))

  recursion_map : {A : Type 0} (P : X → Type 0) (f : A → X) (xs : List A)
      → ((a : A) → Has xs a → P (f a)) → AllByRecursion P (map f xs)
  recursion_map P f [] each = tt
  recursion_map P f (a ∷ more) each =
      (each a (inl refl), recursion_map P f more (λ b h. each b (inr h)))

  few_entries : (es : List (List ℕ × X)) → len (from_entries {R = key_cmp} es) ≤ length es
  few_entries [] =
      let none : len (from_entries {X = X} {R = key_cmp} []) ≡ 0 = len-empty key_cmp X in
      omega (arith, none)
  few_entries (e ∷ es) =
      let rest = few_entries es in
      let one = len-insert nat_list_cmp_total (from_entries {R = key_cmp} es) e.0 e.1 in
      by (contains_key (from_entries {R = key_cmp} es) e.0) rest one
    where
      by : (b : Bool) → len (from_entries {R = key_cmp} es) ≤ length es
          → len (from_entries {R = key_cmp} (e ∷ es))
          ≡ cond b (len (from_entries {R = key_cmp} es)) (len (from_entries {R = key_cmp} es) + 1)
          → len (from_entries {R = key_cmp} (e ∷ es)) ≤ length (e ∷ es)
      by true rest one = omega (arith, rest, one)
      by false rest one = omega (arith, rest, one)

  listed-length : (key : X → List ℕ) (xs : List X) → length (listed_by key xs) ≤ length xs
  unfolding listed_by
  listed-length key xs =
      let with_key : X → List ℕ × X = λ x. (key x, x) in
      let es : List (List ℕ × X) = map with_key xs in
      let few = few_entries es in
      let same = len-entries (from_entries {R = key_cmp} es) in
      let values = length-map (entries (from_entries {R = key_cmp} es)) (λ e. e.1) in
      let keys = length-map xs with_key in
      omega (arith, few, same, values, keys)

-- ---- distinct contents are no more than those of a longer list

unique-longer : {K : Type 0} (eq : K → K → Bool) (ys xs : List K)
    → length (unique_keys eq xs) ≤ length (unique_keys eq (ys ++ xs))
unique-longer eq [] xs = omega arith
unique-longer {K = K} eq (y ∷ ys) xs = by (is_member eq (ys ++ xs) y) (unique-longer eq ys xs)
  where
    rest : List K
    rest = unique_keys eq (ys ++ xs)

    by : (b : Bool) → length (unique_keys eq xs) ≤ length rest
        → length (unique_keys eq xs) ≤ length (cond b rest (y ∷ rest))
    by true less = less
    by false less = omega (arith, less)

has-member : (cs : List Content) (c : Content) → Has cs c → is_member same_content cs c ≡ true
has-member [] c h = absurd h
has-member (d ∷ ds) c (inl same) =
    ap (λ (b : Bool). b || is_member same_content ds c)
    ((same_content-decides c d).1 (sym same))
has-member (d ∷ ds) c (inr h) = by (same_content c d) (has-member ds c h)
  where
    by : (b : Bool) → is_member same_content ds c ≡ true
        → (b || is_member same_content ds c) ≡ true
    by true m = refl
    by false m = m

member-has : (cs : List Content) (c : Content) → is_member same_content cs c ≡ true → Has cs c
member-has [] c m = absurd (true≢false (sym m))
member-has (d ∷ ds) c m = by (same_content c d) refl m (member-has ds c)
  where
    by : (b : Bool) → same_content c d ≡ b → (b || is_member same_content ds c) ≡ true
        → (is_member same_content ds c ≡ true → Has ds c) → Has (d ∷ ds) c
    by true t m later = inl (sym ((same_content-decides c d).0 t))
    by false t m later = inr (later m)

or-right : (a b : Bool) → (b ≡ true → a ≡ true) → (a || b) ≡ a
or-right true b only = refl
or-right false true only = sym (only refl)
or-right false false only = refl

member-append : (xs ys : List Content) (q : Content) → is_member same_content (ys ++ xs) q
    ≡ (is_member same_content ys q || is_member same_content xs q)
member-append xs [] q = refl
member-append xs (y ∷ ys) q = by (same_content q y) (member-append xs ys q)
  where
    by : (b : Bool) → is_member same_content (ys ++ xs) q
        ≡ (is_member same_content ys q || is_member same_content xs q)
        → (b || is_member same_content (ys ++ xs) q)
        ≡ ((b || is_member same_content ys q) || is_member same_content xs q)
    by true e = refl
    by false e = e

pub fewer : (xs ys : List Content) → IsDistinct same_content xs
    → ((c : Content) → Has xs c → Has ys c)
    → length xs ≤ length (unique_keys same_content ys)
fewer xs ys distinct there =
    let alone : length (unique_keys same_content xs) ≡ length xs =
    ap (λ (cs : List Content). length cs) (unique_keys-distinct same_content xs distinct) in
    let longer = unique-longer same_content ys xs in
    let alike = sum_by-unique_keys same_content-decides (λ _. 1) (ys ++ xs) ys
    (λ q. member-append xs ys q
    ∙ or-right (is_member same_content ys q) (is_member same_content xs q)
    (λ m. has-member ys q (there q (member-has xs q m)))) in
    let many = length-sum_by (unique_keys same_content (ys ++ xs)) in
    let few = length-sum_by (unique_keys same_content ys) in
    omega (arith, alone, longer, alike, many, few)

apart-contents : (c : Content) (cs : List Content)
    → AllByRecursion (λ y. bytes_eq (content_key c) y ≡ false) (map (λ e. e.0) (keyed cs))
    → AllByRecursion (λ d. same_content c d ≡ false) cs
apart-contents c [] all = tt
apart-contents c (d ∷ ds) all = (by (same_content c d) refl, apart-contents c ds all.1)
  where
    by : (b : Bool) → same_content c d ≡ b → b ≡ false
    by true t =
        let same : content_key c ≡ content_key d = ap content_key ((same_content-decides c d).0 t) in
        absurd (true≢false (sym ((bytes_eq-Decides (content_key c) (content_key d)).1 same) ∙ all.0))
    by false t = refl

distinct-contents : (cs : List Content) → IsDistinct bytes_eq (map (λ e. e.0) (keyed cs))
    → IsDistinct same_content cs
unfolding IsDistinct
distinct-contents [] distinct = tt
distinct-contents (c ∷ cs) distinct =
    (apart-contents c cs distinct.0, distinct-contents cs distinct.1)

-- ---- names

abbrev size : List (List ℕ) → ℕ
size parts = length (flat_map namespace_of parts)

size-cons : (part : List ℕ) (parts : List (List ℕ))
    → size (part ∷ parts) ≡ (17 + length part) + size parts
size-cons part parts =
    let one = length-append (codes "refs/namespaces/") (part ++ codes "/") in
    let two = length-append part (codes "/") in
    let all = length-append (namespace_of part) (flat_map namespace_of parts) in
    omega (arith, one, two, all)

size-onto : (b : ℕ) (parts : List (List ℕ)) → size (onto_first b parts) ≤ size parts + 18
size-onto b [] = let c = size-cons (b ∷ []) [] in omega (arith, c)
size-onto b (part ∷ parts) =
    let c = size-cons part parts in
    let d = size-cons (b ∷ part) parts in
    omega (arith, c, d)

short-spaces : (text : List ℕ) → size (parts_of text) ≤ 18 * length text + 17
short-spaces [] = let c = size-cons [] [] in omega (arith, c)
short-spaces (b ∷ bs) = by (b == 47) (short-spaces bs)
  where
    by : (t : Bool) → size (parts_of bs) ≤ 18 * length bs + 17
        → size (cond t ([] ∷ parts_of bs) (onto_first b (parts_of bs))) ≤ 18 * length (b ∷ bs) + 17
    by true less = let c = size-cons [] (parts_of bs) in omega (arith, less, c)
    by false less = let o = size-onto b (parts_of bs) in omega (arith, less, o)

short-full : (tenant ref : List ℕ) → IsTenantName tenant → IsShortRefName ref
    → length (full_name tenant ref) < 2 ^ 16
unfolding full_name
short-full tenant ref name short =
    let all = length-append (namespaces tenant) ref in
    let spaces = short-spaces tenant in
    let few = name.at_most_64_bytes in
    let less = short.short in
    omega (arith, all, spaces, few, less)

-- ---- what is saved

-- a repository of a good tenant
pub record IsSavable (digest : List ℕ → List ℕ) (n : Named) : Type 0 where
  pub name : is_tenant_name n.tenant ≡ true
  pub good : IsGood digest n.repository

worth : (n : Named) → is_worth_saving n ≡ true
    → (n.repository.objects ≢ []) ⊎ (n.repository.refs.head ≢ first_head)
worth n e = by (nat_lt 0 (length n.repository.objects)) refl e
  where
    other : (not (bytes_eq n.repository.refs.head first_head)) ≡ true
        → n.repository.refs.head ≢ first_head
    other differs same =
        true≢false (sym differs
        ∙ ap not ((bytes_eq-Decides n.repository.refs.head first_head).1 same))

    some : nat_lt 0 (length n.repository.objects) ≡ true → n.repository.objects ≢ []
    some more none =
        let few : length n.repository.objects ≡ 0 = ap (λ (os : List Object). length os) none in
        let not_more : nat_lt 0 (length n.repository.objects) ≡ false = grind (arith, nat_tests, few) in
        true≢false (sym more ∙ not_more)

    by : (b : Bool) → nat_lt 0 (length n.repository.objects) ≡ b
        → (b || not (bytes_eq n.repository.refs.head first_head)) ≡ true
        → (n.repository.objects ≢ []) ⊎ (n.repository.refs.head ≢ first_head)
    by true more e = inl (some more)
    by false none e = inr (other e)

module _ (digest : List ℕ → List ℕ) (ns : List Named)
    (savable : (n : Named) → Has ns n → IsSavable digest n) where
  abbrev pub saved : List Named
  saved = worth_saving ns

  abbrev cs : List Content
  cs = listed_contents saved

  pub of-saved : (n : Named) → Has saved n → Has ns n × (is_worth_saving n ≡ true)
  of-saved n h =
      filter-has is_worth_saving ns n (listed_has (λ n. n.tenant) (filter is_worth_saving ns) n h)

  one : (n : Named) → Has saved n → IsSavable digest n
  one n h = savable n (of-saved n h).0

  tenant-name : (n : Named) → Has saved n → IsTenantName n.tenant
  tenant-name n h = (is_tenant_name-Decides n.tenant).0 (one n h).name

  can-save-one : (n : Named) → Has saved n → CanSaveOne 2 digest n
  can-save-one n h = record {
    name = record { name = tenant-name n h; one_part = λ e. absurd (omega (arith, e)) };
    worth = worth n (of-saved n h).1;
    first = λ e. absurd (omega (arith, e));
    good = (one n h).good;
  }

  sorted : AreSorted cs
  sorted = (lists_contents saved).sorted

  short-content : (c : Content) → Has cs c → length c.bytes < 2 ^ 64
  short-content c h =
      let of = of_flat_map (λ (n : Named). map (λ o. o.content) n.repository.objects) saved c
      ((lists_contents saved).back c h) in
      let o = from_map (λ (x : Object). x.content) of.of.repository.objects c of.has in
      let short = (all_has (IsObject digest of.of.repository.objects) of.of.repository.objects
      o.from (one of.of of.there).good.objects.each o.there).short in
      let same : length o.from.content.bytes ≡ length c.bytes =
      ap (λ (x : Content). length x.bytes) o.is in
      omega (arith, short, same)

  kind-fits : (k : Kind) → kind_byte k < 256
  kind-fits kind.Commit = omega arith
  kind-fits kind.Tree = omega arith
  kind-fits kind.Blob = omega arith
  kind-fits kind.Tag = omega arith

  fits-object : (c : Content) → Has cs c → FitsObject (raw_object c)
  fits-object c h = record { kind = kind-fits c.kind; bytes = short-content c h }

  held_ref : (n : Named) (e : List ℕ × List ℕ) → Has (listed_refs n.repository.refs) e
      → target_of n.repository.refs e.0 ≡ Some e.1
  held_ref n e h =
      get-entries n.repository.refs.refs e.0
      ∙ find_has (listed_refs n.repository.refs) e (entries_sorted n.repository.refs.refs) h

  fits-ref : (n : Named) → Has saved n → (e : List ℕ × List ℕ)
      → Has (listed_refs n.repository.refs) e → FitsRef (raw_ref n e)
  fits-ref n h e there = record {
    name = short-full n.tenant e.0 (tenant-name n h)
        ((one n h).good.refs.names e.0 e.1 (held_ref n e there));
    place =
        let within = place_within e.1 n.repository.objects in
        let few = (one n h).good.objects.few in
        omega (arith, within, few);
  }

  fits-number : (n : Named) → Has saved n → length cs < 2 ^ 64 → (o : Object)
      → Has n.repository.objects o → FitsNumber (number_in cs o.content)
  fits-number n h few o there =
      let has = (lists_contents saved).into o.content
      (has_flat_map (λ (n : Named). map (λ o. o.content) n.repository.objects) saved n o.content h
      (has_map (λ (x : Object). x.content) n.repository.objects o there)) in
      let within = (numbered cs o.content sorted has).within in
      omega (arith, within, few)

  fits-tenant : length cs < 2 ^ 64 → (n : Named) → Has saved n → FitsTenant 2 (raw_tenant cs n)
  fits-tenant few n h = record {
    name = let short = (tenant-name n h).at_most_64_bytes in omega (arith, short);
    numbers = (
      let size = length-map n.repository.objects (λ o. number_in cs o.content) in
          let many = (one n h).good.objects.few in
          omega (arith, size, many),
      recursion_map FitsNumber (λ (o : Object). number_in cs o.content) n.repository.objects
          (fits-number n h few),
    );
    refs = (
      let size = length-map (listed_refs n.repository.refs) (raw_ref n) in
          let entries = len-entries n.repository.refs.refs in
          let many = (one n h).good.refs.few in
          omega (arith, size, entries, many),
      recursion_map FitsRef (raw_ref n) (listed_refs n.repository.refs) (fits-ref n h),
    );
    head = let short = (one n h).good.refs.head.short in omega (arith, short);
  }

  few-saved : length saved ≤ length ns
  few-saved =
      let listed = listed-length (λ (n : Named). n.tenant) (filter is_worth_saving ns) in
      let fewer = filter-length is_worth_saving ns in
      omega (arith, listed, fewer)

  few-contents : (more : List Content) → ((c : Content) → Has (contents_of saved) c → Has more c)
      → length cs ≤ length (unique_keys same_content more)
  few-contents more there =
      fewer cs more
      (distinct-contents cs (distinct-rising None (map (λ e. e.0) (keyed cs))
      (rising_sorted (keyed cs) sorted)))
      (λ c h. there c ((lists_contents saved).back c h))

  fits-file : length ns < 2 ^ 64 → length cs < 2 ^ 64 → FitsFile (raw_of 2 saved)
  unfolding raw_of
  fits-file many few = record {
    version = inr refl;
    objects = (
      let size = length-map cs raw_object in omega (arith, size, few),
      recursion_map FitsObject raw_object cs fits-object,
    );
    tenants = (
      let size = length-map saved (raw_tenant cs) in
          let less = few-saved in
          omega (arith, size, less, many),
      recursion_map (FitsTenant 2) (raw_tenant cs) saved (fits-tenant few),
    );
  }

  -- where few distinct contents have all that is saved among them, it has a text
  pub can-save : length ns < 2 ^ 64 → (more : List Content)
      → ((c : Content) → Has (contents_of saved) c → Has more c)
      → length (unique_keys same_content more) < 2 ^ 64 → CanSave 2 digest saved
  can-save many more there few = record {
    rising = listed_rises (λ n. n.tenant) (filter is_worth_saving ns);
    each = all_from_has (CanSaveOne 2 digest) saved can-save-one;
    fits = fits-file many (let less = few-contents more there in omega (arith, less, few));
  }

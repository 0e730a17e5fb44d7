-- The numbers of listed contents, by their slots.
use Rattle.std.proofs.Common.{◌≡◌, ◌⊎◌, ℕ, ◌+◌, ◌<◌, inl, inr, List, [], ◌∷◌, map, set, length, get_or, Some, T, refl, sym, ap, subst, ◌∙◌, arith}
use Rattle.std.specs.Prelude.{slice_get, All}
use Rattle.std.specs.List.{AllByRecursion, Contains}
use Rattle.std.proofs.lemmas.Bool.{cases_eq}
use Rattle.std.proofs.lemmas.Bool.Decides.{nat_tests}
use Rattle.std.proofs.lemmas.List.{get_or-map, length-map}
use Rattle.std.proofs.lemmas.List.Elements.{All-contains, All-weaker, recursion_from_All}
use Rattle.std.proofs.lemmas.Option.{slice_get-get_or, slice_get_within, get_or_from_slice_get}
use Rattle.git_model.specs.Content.{Content}
use Rattle.content_pool.specs.Pool.{Cells, content}
use Rattle.pool_file_checks.specs.Objects.{raw_object, object_key}
use Rattle.pool_file_checks.specs.Repositories.{content_key, contents_of, listed_contents, number_in}
use Rattle.pool_file_checks.proofs.Keys.{AreSorted, listed_so}
use Rattle.pool_file_checks.proofs.Members.{Has, contained, from_map, has_contained, has_map, place_of_has}
use Rattle.pool_file_checks.proofs.Numbers.{number_is}
use Rattle.pool_file.specs.declared.content.ListedContent.{ListedContent}
use Rattle.pool_file.specs.declared.tenant_view.TenantView.{TenantView}
use Rattle.pool_file.specs.Listing.{IsInOrder}
use Rattle.pool_file.specs.Worth.{named_in}
use Rattle.pool_file.specs.Lent.{object_lent, objects_lent, listed_key}
use Rattle.pool_file.specs.Slots.{AreListed, AreOnce, IsNumbered, NumbersSlots, all_slots, slots_listed}
use Rattle.pool_file.proofs.ListedContents.{twice}
use Rattle.pool_file.proofs.Planning.{same_order}
use Rattle.pool_file.proofs.SeenSlots.{set_here, set_other}
use Rattle.pool_file.proofs.TenantSlots.{contents_are}

-- ---- while they are noted

-- No content, where a place must have one.
abbrev pub unlisted : ListedContent
unlisted = record {
  content = record { kind = 0; bytes = record { ref_ptr = (0, 0); now = [] } };
  slot = 0;
}

-- The first contents have their numbers.
abbrev pub NumbersFirst : List ListedContent → List ℕ → ℕ → Type 0
NumbersFirst listed by_slot count = (n : ℕ) (c : ListedContent) → n < count → slice_get listed n ≡ Some c
    → slice_get by_slot c.slot ≡ Some n

pub first_more : (listed : List ListedContent) (by_slot new : List ℕ) (c : ListedContent) (place : ℕ)
    → AreOnce listed → slice_get listed place ≡ Some c → c.slot < length by_slot
    → new ≡ set by_slot c.slot place → NumbersFirst listed by_slot place
    → NumbersFirst listed new (place + 1)
first_more listed by_slot new c place once at within written before = λ n d l e.
    subst (λ (l : List ℕ). slice_get l d.slot ≡ Some n) (sym written) (by n d l e (cases_eq n place))
  where
    slot_at : (n : ℕ) (d : ListedContent) → slice_get listed n ≡ Some d
        → get_or (slots_listed listed) n d.slot ≡ d.slot
    slot_at n d e =
        get_or-map (λ x. x.slot) listed n d d.slot (slice_get_within listed n d e)
        ∙ ap (λ x. x.slot) (get_or_from_slice_get listed n d d e)

    apart : (n : ℕ) (d : ListedContent) → n < place → slice_get listed n ≡ Some d → d.slot ≡ c.slot → ⊥
    apart n d l e same =
        let size = length-map listed (λ x. x.slot) in
        let in_place = slice_get_within listed place c at in
        let there : get_or (slots_listed listed) place d.slot ≡ d.slot =
        subst (λ (k : ℕ). get_or (slots_listed listed) place k ≡ k) (sym same) (slot_at place c at) in
        let two = twice (slots_listed listed) n place d.slot l (omega (arith, size, in_place))
        (slot_at n d e ∙ sym there) in
        let most = once (get_or (slots_listed listed) place d.slot) in
        omega (arith, two, most)

    by : (n : ℕ) (d : ListedContent) → n < place + 1 → slice_get listed n ≡ Some d
        → (n ≡ place) ⊎ (n ≡ place → ⊥) → slice_get (set by_slot c.slot place) d.slot ≡ Some n
    by n d l e (inl same) =
        let there : slice_get listed place ≡ Some d =
        subst (λ (k : ℕ). slice_get listed k ≡ Some d) same e in
        let both = sym there ∙ at in
        let one : c ≡ d = cc in
        subst (λ (k : ℕ). slice_get (set by_slot c.slot place) d.slot ≡ Some k) (sym same)
        (subst (λ x. slice_get (set by_slot c.slot place) x.slot ≡ Some place) one
        (set_here by_slot c.slot place within))
    by n d l e (inr never) =
        let less : n < place = grind (arith, nat_tests, l, never) in
        set_other by_slot c.slot d.slot place n (apart n d less e) (before n d less e)

-- ---- what they are the numbers of

module _ (pool : Cells) (ss : List TenantView) (listed : List ListedContent)
    (are : AreListed pool listed (all_slots ss)) (order : IsInOrder listed_key listed) where
  abbrev contents_at : List ListedContent → List Content
  contents_at cs = map (λ c. content pool c.slot) cs

  keys_are : (cs : List ListedContent)
      → AllByRecursion (λ c. object_lent c.content ≡ raw_object (content pool c.slot)) cs
      → map listed_key cs ≡ map content_key (contents_at cs)
  keys_are [] each = refl
  keys_are (c ∷ cs) each = λ i. object_key (each.0 i) ∷ keys_are cs each.1 i

  lent_are : (cs : List ListedContent)
      → AllByRecursion (λ c. object_lent c.content ≡ raw_object (content pool c.slot)) cs
      → objects_lent cs ≡ map raw_object (contents_at cs)
  lent_are [] each = refl
  lent_are (c ∷ cs) each = λ i. each.0 i ∷ lent_are cs each.1 i

  each_lent : AllByRecursion (λ c. object_lent c.content ≡ raw_object (content pool c.slot)) listed
  each_lent = recursion_from_All (λ c. object_lent c.content ≡ raw_object (content pool c.slot)) listed are.each

  sorted : AreSorted (contents_at listed)
  sorted =
      subst T (sym order ∙ same_order listed_key content_key listed (contents_at listed) (keys_are listed each_lent)) tt

  there : (c : Content) → Has (contents_of (map (named_in pool) ss)) c → Has (contents_at listed) c
  there c h =
      let from = from_map (content pool) (all_slots ss) c
      (subst (λ (cs : List Content). Has cs c) (contents_are pool ss) h) in
      let held = All-contains (Contains (slots_listed listed)) (all_slots ss) from.from are.all
      (contained (all_slots ss) from.from from.there) in
      let one = from_map (λ x. x.slot) listed from.from (has_contained (slots_listed listed) from.from held) in
      subst (Has (contents_at listed)) (ap (content pool) one.is ∙ from.is)
      (has_map (λ x. content pool x.slot) listed one.from one.there)

  back : (c : Content) → Has (contents_at listed) c → Has (contents_of (map (named_in pool) ss)) c
  back c h =
      let one = from_map (λ x. content pool x.slot) listed c h in
      let at = All-contains (λ x. Contains (all_slots ss) x.slot) listed one.from are.from
      (contained listed one.from one.there) in
      subst (λ (cs : List Content). Has cs c) (sym (contents_are pool ss))
      (subst (Has (map (content pool) (all_slots ss))) one.is
      (has_map (content pool) (all_slots ss) one.from.slot (has_contained (all_slots ss) one.from.slot at)))

  listed_are : listed_contents (map (named_in pool) ss) ≡ contents_at listed
  unfolding listed_contents
  listed_are =
      listed_so (contents_of (map (named_in pool) ss)) (contents_at listed) sorted there back

  -- the objects of the file
  pub objects_are : objects_lent listed ≡ map raw_object (listed_contents (map (named_in pool) ss))
  objects_are = lent_are listed each_lent ∙ ap (map raw_object) (sym listed_are)

  number_at : (by_slot : List ℕ) → NumbersSlots listed by_slot → (s : ℕ) → Contains (slots_listed listed) s
      → IsNumbered pool (listed_contents (map (named_in pool) ss)) by_slot s
  number_at by_slot numbers s held =
      let one = from_map (λ x. x.slot) listed s (has_contained (slots_listed listed) s held) in
      let at = place_of_has listed one.from one.there in
      let stands : slice_get listed at.place ≡ Some one.from =
      slice_get-get_or listed at.place one.from at.within ∙ ap (λ x. Some x) (at.is one.from) in
      let noted : slice_get by_slot s ≡ Some at.place =
      subst (λ (k : ℕ). slice_get by_slot k ≡ Some at.place) one.is (numbers at.place one.from stands) in
      let here : get_or (contents_at listed) at.place (content pool s) ≡ content pool s =
      ap (get_or (contents_at listed) at.place) (ap (content pool) (sym one.is))
      ∙ get_or-map (λ x. content pool x.slot) listed at.place one.from (content pool one.from.slot) at.within
      ∙ ap (λ x. content pool x.slot) (at.is one.from) ∙ ap (content pool) one.is in
      let size = length-map listed (λ x. content pool x.slot) in
      let number = number_is (contents_at listed) at.place (content pool s) sorted
      (let w = at.within in omega (arith, size, w)) in
      noted ∙ ap (λ (n : ℕ). Some n) (sym number ∙ ap (number_in (contents_at listed)) here
      ∙ ap (λ (cs : List Content). number_in cs (content pool s)) (sym listed_are))

  -- each slot of the tenants has the number of its content in the file
  pub numbers_are : (by_slot : List ℕ) → NumbersSlots listed by_slot
      → All (IsNumbered pool (listed_contents (map (named_in pool) ss)) by_slot) (all_slots ss)
  numbers_are by_slot numbers = λ k d l.
      number_at by_slot numbers (get_or (all_slots ss) k d) (are.all k d l)

-- a slot that has a number is within the list of numbers
pub within_numbers : (pool : Cells) (cs : List Content) (by_slot lent : List ℕ) (ss again : List TenantView)
    → lent ≡ by_slot → again ≡ ss → All (IsNumbered pool cs by_slot) (all_slots ss)
    → All (λ s. s < length lent) (all_slots again)
within_numbers pool cs by_slot lent ss again is same all =
    subst (λ (l : List ℕ). All (λ s. s < length l) (all_slots again)) (sym is)
    (subst (λ (x : List TenantView). All (λ s. s < length by_slot) (all_slots x)) (sym same)
    (All-weaker (IsNumbered pool cs by_slot) (λ s. s < length by_slot)
    (λ s e. slice_get_within by_slot s (number_in cs (content pool s)) e) (all_slots ss) all))

-- The slots of what tenants save, and the contents in them.
use Rattle.std.proofs.Common.{◌≡◌, ℕ, zero, suc, ◌+◌, ◌<◌, ◌≤◌, min, List, [], ◌∷◌, ◌++◌, map, take, length, get_or, Option, None, Some, refl, sym, ap, subst, ◌∙◌, arith}
use Rattle.std.specs.Prelude.{slice_get, slice_index, All}
use Rattle.std.specs.List.{AllByRecursion}
use Rattle.std.specs.Option.{option_map}
use Rattle.std.proofs.lemmas.List.{append-nil, length-take, map-append, map_more, take_min, take_more}
use Rattle.std.proofs.lemmas.List.Elements.{All-append, All-head, All-map, All-nil, All-tail, All-take}
use Rattle.std.proofs.lemmas.Grind.{flat_map-append}
use Rattle.std.proofs.lemmas.Option.{slice_get-get_or, slice_get_within, get_or_from_slice_get}
use Rattle.git_model.specs.Content.{Content}
use Rattle.content_pool.specs.Pool.{Cells, content, IsLive}
use Rattle.tenant_tables.specs.declared.entry.Entry.{Entry}
use Rattle.tenant_tables.specs.View.{Entries}
use Rattle.tenant_tables.specs.IsBackedBy.{IsBackedBy}
use Rattle.tenant_tables.specs.Objects.{objects}
use Rattle.tenant_tables.proofs.Positions.{told_live}
use Rattle.tenant_tables.proofs.TableLemmas.{length-objects}
use Rattle.pool_file_checks.specs.Repositories.{contents_of, number_in}
use Rattle.pool_file_checks.proofs.Members.{Has, all_from_has, all_has, has_at, has_flat_map}
use Rattle.pool_file.specs.declared.tenant_view.TenantView.{TenantView}
use Rattle.pool_file.specs.Worth.{AllStand, named_in}
use Rattle.pool_file.specs.Slots.{IsNumbered, slots_of, all_slots}

-- ---- the first entries of one table

-- The slots of the first entries.
abbrev pub first_slots : Entries → ℕ → List ℕ
first_slots es n = map (λ e. e.1.slot) (take n es)

-- a place before their end is one of the table
pub before_end : (pool : Cells) (es : Entries) (n place count : ℕ)
    → count ≡ length (take n (objects pool es)) → place < count → place < length es
before_end pool es n place count is l =
    let a = length-take n (objects pool es) in
    let b = length-objects pool es in omega (arith, is, l, a, b)

pub before_count : (pool : Cells) (es : Entries) (n place count : ℕ)
    → count ≡ length (take n (objects pool es)) → place < count → place < n
before_count pool es n place count is l =
    let a = length-take n (objects pool es) in omega (arith, is, l, a)

-- as many as there are objects are all of them
pub counted_slots : (pool : Cells) (es : Entries) (n count : ℕ)
    → count ≡ length (take n (objects pool es)) → first_slots es count ≡ first_slots es n
counted_slots pool es n count is =
    ap (first_slots es) (is ∙ length-take n (objects pool es)
    ∙ ap (λ (k : ℕ). min n k) (length-objects pool es))
    ∙ ap (map (λ e. e.1.slot)) (take_min n es)

-- what a table answers of a place
abbrev told : List ℕ × Entry → List ℕ × ℕ
told e = (e.0, e.1.slot)

none_told : (o : Option (List ℕ × Entry)) → None ≡ option_map told o → None ≡ o
none_told None e = refl
none_told (Some x) e = cc

-- at each place within there is one
pub stands_there : {A : Type 0} (xs : List A) (place : ℕ) → None ≡ slice_get xs place
    → place < length xs → ⊥
stands_there [] place e l = omega (arith, l)
stands_there (x ∷ xs) place e l = cc (e, slice_get-get_or (x ∷ xs) place x l)

pub told_there : (es : Entries) (place : ℕ) → None ≡ option_map told (slice_get es place)
    → place < length es → ⊥
told_there es place e l = stands_there es place (none_told (slice_get es place) e) l

-- Each place before the count has an entry.
pub told_before : (es : Entries) (n place count : ℕ) → count ≡ length (take n (objects [] es)) → place < count
    → None ≡ option_map told (slice_get es place) → ⊥
told_before es n place count is l e = told_there es place e (before_end [] es n place count is l)

-- At the end of the count all slots were met.
pub counted_all : (es : Entries) (n place count : ℕ) → count ≡ length (take n (objects [] es)) → place ≤ count → count ≤ place
    → first_slots es place ≡ first_slots es n
counted_all es n place count is end stop = counted_slots [] es n place (let all : place ≡ count = omega (arith, end, stop) in all ∙ is)

slot_in : Option (List ℕ × ℕ) → ℕ
slot_in None = 0
slot_in (Some r) = r.1

told_entry : (o : Option (List ℕ × Entry)) (id : List ℕ) (slot : ℕ)
    → Some (id, slot) ≡ option_map told o
    → (e : List ℕ × Entry) × (o ≡ Some e) × (e.1.slot ≡ slot)
unfolding slot_in
told_entry None id slot h = cc
told_entry (Some e) id slot h = (e, refl, sym (ap slot_in h))

pub told_more : (es : Entries) (place : ℕ) (id : List ℕ) (slot : ℕ)
    → Some (id, slot) ≡ option_map told (slice_get es place)
    → first_slots es (place + 1) ≡ first_slots es place ++ slot ∷ []
told_more es place id slot h =
    let e = told_entry (slice_get es place) id slot h in
    map_more (λ x. x.1.slot) es place e.0 (slice_get_within es place e.0 e.1)
    ∙ ap (λ x. first_slots es place ++ x.1.slot ∷ []) (get_or_from_slice_get es place e.0 e.0 e.1)
    ∙ ap (λ (s : ℕ). first_slots es place ++ s ∷ []) e.2

-- what holds of all slots holds of each that is told
pub told_all : (P : ℕ → Type 0) (es : Entries) (n place : ℕ) (id : List ℕ) (slot : ℕ)
    → All P (first_slots es n) → place < n
    → Some (id, slot) ≡ option_map told (slice_get es place) → P slot
unfolding slot_in
told_all P [] n place id slot all l h = cc
told_all P (e ∷ es) zero place id slot all l h = absurd (omega (arith, l))
told_all P (e ∷ es) (suc n) zero id slot all l h =
    subst P (sym (ap slot_in h)) (All-head P e.1.slot (first_slots es n) all)
told_all P (e ∷ es) (suc n) (suc place) id slot all l h =
    told_all P es n place id slot (All-tail P e.1.slot (first_slots es n) all) (omega (arith, l)) h

-- each slot of a table that stands in the pool is live
slots_live : (digest : List ℕ → List ℕ) (pool : Cells) (es : Entries) (n : ℕ)
    → IsBackedBy digest pool es → All (IsLive pool) (first_slots es n)
slots_live digest pool es n stands =
    All-map (IsLive pool) (λ e. e.1.slot) (take n es)
    (All-take (λ e. IsLive pool e.1.slot) n es (λ k d l.
    told_live digest pool es k (get_or es k d).0 (get_or es k d).1.slot stands
    (sym (ap (option_map told) (slice_get-get_or es k d l)))))

contents_there : (pool : Cells) (es : Entries) (n : ℕ)
    → map (λ o. o.content) (take n (objects pool es)) ≡ map (content pool) (first_slots es n)
unfolding objects
contents_there pool es zero = refl
contents_there pool [] (suc n) = refl
contents_there pool (e ∷ es) (suc n) =
    ap (λ (cs : List Content). content pool e.1.slot ∷ cs) (contents_there pool es n)

-- the numbers that are noted for slots are those of the objects
pub numbers_there : (pool : Cells) (cs : List Content) (by_slot : List ℕ) (es : Entries) (n : ℕ)
    → AllByRecursion (IsNumbered pool cs by_slot) (first_slots es n)
    → map (λ s. slice_index by_slot s) (first_slots es n)
    ≡ map (λ o. number_in cs o.content) (take n (objects pool es))
unfolding objects
numbers_there pool cs by_slot es zero all = refl
numbers_there pool cs by_slot [] (suc n) all = refl
numbers_there pool cs by_slot (e ∷ es) (suc n) all = λ i.
    get_or_from_slice_get by_slot e.1.slot (number_in cs (content pool e.1.slot)) 0 all.0 i
    ∷ numbers_there pool cs by_slot es n all.1 i

-- ---- all tenants

-- what holds of all slots holds of those of each tenant
pub all_of_one : (P : ℕ → Type 0) (ss : List TenantView) (s : TenantView) (i : ℕ)
    → All P (all_slots ss) → i < length ss → s ≡ get_or ss i s → All P (slots_of s)
all_of_one P ss s i all l at =
    all_from_has P (slots_of s) (λ x h. all_has P (all_slots ss) x all
    (has_flat_map slots_of ss s x (subst (Has ss) (sym at) (has_at ss i s l)) h))

pub all_live : (digest : List ℕ → List ℕ) (pool : Cells) (ss : List TenantView)
    → AllStand digest pool ss → All (IsLive pool) (all_slots ss)
all_live digest pool [] stand = All-nil (IsLive pool)
all_live digest pool (s ∷ ss) stand =
    All-append (IsLive pool) (slots_of s) (all_slots ss)
    (slots_live digest pool s.table.now.entries s.objects stand.0)
    (all_live digest pool ss stand.1)

pub contents_are : (pool : Cells) (ss : List TenantView)
    → contents_of (map (named_in pool) ss) ≡ map (content pool) (all_slots ss)
contents_are pool [] = refl
contents_are pool (s ∷ ss) =
    (λ i. contents_there pool s.table.now.entries s.objects i ++ contents_are pool ss i)
    ∙ sym (map-append (content pool) (slots_of s) (all_slots ss))

pub all_more : (ss : List TenantView) (s : TenantView) (i : ℕ) → i < length ss → s ≡ get_or ss i s
    → all_slots (take (i + 1) ss) ≡ all_slots (take i ss) ++ slots_of s
all_more ss s i l at =
    ap all_slots (take_more ss i s l)
    ∙ ap (λ (x : TenantView). all_slots (take i ss ++ x ∷ [])) (sym at)
    ∙ flat_map-append slots_of (take i ss) (s ∷ [])
    ∙ ap (λ (x : List ℕ). all_slots (take i ss) ++ x) (append-nil (slots_of s))

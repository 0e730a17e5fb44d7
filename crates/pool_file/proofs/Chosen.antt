-- Tenants that are worth saving, by their names.
use Rattle.std.proofs.Common.{◌≡◌, ℕ, ◌+◌, ◌<◌, ◌≤◌, Bool, true, false, cond, List, [], ◌∷◌, ◌++◌, map, filter, take, length, get_or, refl, sym, ap, subst, ◌∙◌}
use Rattle.std.specs.List.{AllByRecursion}
use Rattle.std.specs.BTreeSet.{insert_key}
use Rattle.std.proofs.lemmas.List.{append-nil, map-append, take_all}
use Rattle.std.proofs.lemmas.List.Elements.{filter_more}
use Rattle.content_pool.specs.Pool.{Cells}
use Rattle.tenant_tables.specs.IsBackedBy.{IsBackedBy}
use Rattle.pool_file_checks.specs.Repositories.{Named}
use Rattle.pool_file.specs.declared.tenant_view.TenantView.{TenantView}
use Rattle.pool_file.specs.declared.tenants.ByName.{ByName}
use Rattle.pool_file.specs.Listing.{listed_by}
use Rattle.pool_file.specs.Worth.{AllStand, named_in, is_worth_saving, to_save}
use Rattle.pool_file.proofs.Ordered.{order_by, listed_none, listed_push, listed_each, listed_turned}

abbrev pub by_name : TenantView → ByName
by_name s = record { name = s.name; tenant = s }

abbrev pub name_by : ByName → List ℕ
name_by b = b.name.now

abbrev name_of : TenantView → List ℕ
name_of s = s.name.now

abbrev is_worthy : Cells → TenantView → Bool
is_worthy pool s = is_worth_saving (named_in pool s)

-- Those that are worth saving, in the order in which they are lent.
abbrev worthy : Cells → List TenantView → List TenantView
worthy pool tenants = filter (is_worthy pool) tenants

-- And by their names.
abbrev pub chosen : Cells → List TenantView → List ByName
chosen pool tenants = listed_by name_by (map by_name (worthy pool tenants))

-- ---- one tenant more

pub chosen_none : (pool : Cells) (now : List ByName) → now ≡ [] → now ≡ chosen pool []
chosen_none pool now e = e ∙ sym (listed_none name_by)

module _ (pool : Cells) (ss : List TenantView) (i : ℕ) (s : TenantView) (l : i < length ss)
    (is : s ≡ get_or ss i s) where
  more_worthy : (b : Bool) → is_worthy pool s ≡ b
      → worthy pool (take (i + 1) ss) ≡ worthy pool (take i ss) ++ cond b (s ∷ []) []
  more_worthy b e =
      filter_more (is_worthy pool) ss i s l
      ∙ ap (λ (x : TenantView). worthy pool (take i ss) ++ cond (is_worthy pool x) (x ∷ []) []) (sym is)
      ∙ ap (λ (x : Bool). worthy pool (take i ss) ++ cond x (s ∷ []) []) e

  pub chosen_more : (now new : List ByName) → is_worthy pool s ≡ true
      → now ≡ chosen pool (take i ss) → new ≡ insert_key (order_by name_by) now (by_name s)
      → new ≡ chosen pool (take (i + 1) ss)
  chosen_more now new worth before inserted =
      inserted
      ∙ ap (λ (bs : List ByName). insert_key (order_by name_by) bs (by_name s)) before
      ∙ listed_push name_by (map by_name (worthy pool (take i ss))) (by_name s)
      ∙ ap (listed_by name_by) (sym (map-append by_name (worthy pool (take i ss)) (s ∷ [])))
      ∙ ap (λ (x : List TenantView). listed_by name_by (map by_name x)) (sym (more_worthy true worth))

  pub chosen_same : (now new : List ByName) → is_worthy pool s ≡ false
      → now ≡ chosen pool (take i ss) → new ≡ now → new ≡ chosen pool (take (i + 1) ss)
  chosen_same now new worth before same =
      same ∙ before
      ∙ ap (λ (x : List TenantView). listed_by name_by (map by_name x))
      (sym (more_worthy false worth ∙ append-nil (worthy pool (take i ss))))

-- ---- all tenants

unwrapped : (ss : List TenantView) → map (λ (b : ByName). b.tenant) (map by_name ss) ≡ ss
unwrapped [] = refl
unwrapped (s ∷ ss) = ap (λ (l : List TenantView). s ∷ l) (unwrapped ss)

module _ (pool : Cells) (ss : List TenantView) (i : ℕ) (keys : List ByName) (saved : List TenantView)
    (all : length ss ≤ i) (is : saved ≡ map (λ b. b.tenant) keys)
    (kept : keys ≡ chosen pool (take i ss)) where
  saved_are : saved ≡ listed_by name_of (worthy pool ss)
  saved_are =
      is ∙ ap (map (λ (b : ByName). b.tenant)) kept
      ∙ ap (λ (x : List TenantView). map (λ (b : ByName). b.tenant) (chosen pool x)) (take_all i ss all)
      ∙ ap (map (λ (b : ByName). b.tenant)) (listed_turned name_by by_name (worthy pool ss))
      ∙ unwrapped (listed_by name_of (worthy pool ss))

  filtered : (xs : List TenantView)
      → map (named_in pool) (worthy pool xs) ≡ filter is_worth_saving (map (named_in pool) xs)
  filtered [] = refl
  filtered (x ∷ xs) = by (is_worthy pool x) (filtered xs)
    where
      by : (b : Bool)
          → map (named_in pool) (worthy pool xs) ≡ filter is_worth_saving (map (named_in pool) xs)
          → map (named_in pool) (cond b (x ∷ worthy pool xs) (worthy pool xs))
          ≡ cond b (named_in pool x ∷ filter is_worth_saving (map (named_in pool) xs))
          (filter is_worth_saving (map (named_in pool) xs))
      by true e = ap (λ (l : List Named). named_in pool x ∷ l) e
      by false e = e

  pub saved_so : map (named_in pool) saved ≡ to_save pool ss
  saved_so =
      ap (map (named_in pool)) saved_are
      ∙ sym (listed_turned (λ n. n.tenant) (named_in pool) (worthy pool ss))
      ∙ ap (listed_by (λ n. n.tenant)) (filtered ss)

  filtered_each : (P : TenantView → Type 0) (xs : List TenantView) → AllByRecursion P xs
      → AllByRecursion P (worthy pool xs)
  filtered_each P [] h = tt
  filtered_each P (x ∷ xs) h = by (is_worthy pool x) (filtered_each P xs h.1)
    where
      by : (b : Bool) → AllByRecursion P (worthy pool xs)
          → AllByRecursion P (cond b (x ∷ worthy pool xs) (worthy pool xs))
      by true more = (h.0, more)
      by false more = more

  pub saved_stand : (digest : List ℕ → List ℕ) → AllStand digest pool ss
      → AllStand digest pool saved
  saved_stand digest h =
      subst (AllStand digest pool) (sym saved_are)
      (listed_each name_of (λ s. IsBackedBy digest pool s.table.now.entries) (worthy pool ss)
      (filtered_each (λ s. IsBackedBy digest pool s.table.now.entries) ss h))

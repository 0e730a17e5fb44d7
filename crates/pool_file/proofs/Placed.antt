-- Refs as the file has them.
use Rattle.std.proofs.Common.{◌≡◌, ◌⊎◌, inl, inr, ℕ, ◌+◌, ◌<◌, ◌≤◌, min, nat_lt, true, false, ◌++◌, List, [], ◌∷◌, length, map, take, position, get_or, Option, None, Some, sym, ap, ◌∙◌, arith}
use Rattle.std.specs.Prelude.{slice_get}
use Rattle.std.specs.Option.{unwrap_or}
use Rattle.std.specs.Str.{bytes_eq}
use Rattle.std.proofs.lemmas.Bool.{cases_Bool}
use Rattle.std.proofs.lemmas.Bool.Decides.{nat_tests}
use Rattle.std.proofs.lemmas.List.{map-append, map_more}
use Rattle.std.proofs.lemmas.Option.{slice_get_within, get_or_from_slice_get}
use Rattle.git_model.specs.References.{place_of}
use Rattle.content_pool.specs.Pool.{Cells}
use Rattle.tenant_tables.specs.View.{View, Entries, names}
use Rattle.tenant_tables.specs.declared.sight.Sight.TheVariants.{Committed}
use Rattle.tenant_tables.specs.Objects.{objects}
use Rattle.tenant_tables.proofs.Positions.{place_found, place_missing, place_unseen}
use Rattle.tenant_tables.proofs.TableLemmas.{objects-take}
use Rattle.tenant_refs.specs.FullName.{full_name, namespaces}
use Rattle.pool_file_format.specs.declared.raw.RawRef.{RawRef as Ref}
use Rattle.pool_file_format.specs.Format.{RawRef}
use Rattle.pool_file_format.specs.Shown.{ref_of, refs_of}
use Rattle.pool_file_checks.specs.Repositories.{Named, raw_ref}

-- the place of a name among the first objects of a table, by its place in the table
pub place_among : (p : Cells) (es : Entries) (id : List ℕ) (n count : ℕ) (found : Option ℕ)
    → found ≡ position (bytes_eq id) (names es) → count ≡ length (take n (objects p es))
    → min (unwrap_or found count) count ≡ place_of id (take n (objects p es))
place_among p es id n count found at is = by found at
  where
    table : View
    table = record { entries = es; committed = n }

    first : objects p (take n es) ≡ take n (objects p es)
    first = objects-take p n es

    by : (found : Option ℕ) → found ≡ position (bytes_eq id) (names es)
        → min (unwrap_or found count) count ≡ place_of id (take n (objects p es))
    by None at =
        let past = place_missing p Committed table id (take n (objects p es)) first at in
        omega (arith, past, is)
    by (Some i) at = within (cases_Bool (nat_lt i count))
      where
        within : (nat_lt i count ≡ true) ⊎ (nat_lt i count ≡ false)
            → min i count ≡ place_of id (take n (objects p es))
        within (inl test) =
            let lt : i < count = grind (arith, nat_tests, test) in
            let there = place_found p Committed table id (take n (objects p es)) first i at
            (omega (arith, lt, is)) in
            omega (arith, there, lt)
        within (inr test) =
            let le : count ≤ i = grind (arith, nat_tests, test) in
            let past = place_unseen p Committed table id (take n (objects p es)) first i at
            (omega (arith, le, is)) in
            omega (arith, past, is, le)

abbrev Entry : Type 0
Entry = List ℕ × List ℕ

-- a ref after the namespaces of its tenant, and the place of its target
pub ref_is : (n : Named) (e : Entry) (front name : List ℕ) (place : ℕ)
    → front ≡ namespaces n.tenant → name ≡ front ++ e.0
    → place ≡ place_of e.1 n.repository.objects
    → ◌≡◌ {A = RawRef} (record { name = name; place = place }) (raw_ref n e)
unfolding full_name
ref_is n e front name place f m p =
    let full : name ≡ namespaces n.tenant ++ e.0 = m ∙ ap (λ (x : List ℕ). x ++ e.0) f in
    λ i. record { name = full i; place = p i }

pub refs_more : (n : Named) (es : List Entry) (rs new : List Ref) (r : Ref) (i : ℕ) (e : Entry)
    → refs_of rs ≡ map (raw_ref n) (take i es) → new ≡ rs ++ r ∷ [] → ref_of r ≡ raw_ref n e
    → Some e ≡ slice_get es i → refs_of new ≡ map (raw_ref n) (take (i + 1) es)
refs_more n es rs new r i e before pushed is at =
    let there : get_or es i e ≡ e = get_or_from_slice_get es i e e (sym at) in
    ap refs_of pushed ∙ map-append ref_of rs (r ∷ [])
    ∙ (λ j. before j ++ is j ∷ [])
    ∙ ap (λ (x : Entry). map (raw_ref n) (take i es) ++ raw_ref n x ∷ []) (sym there)
    ∙ sym (map_more (raw_ref n) es i e (slice_get_within es i e (sym at)))

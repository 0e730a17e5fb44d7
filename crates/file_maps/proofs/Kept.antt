-- A tree that is added leaves every summary that was there.
use Rattle.std.proofs.Common.{◌≡◌, ℕ, zero, suc, Bool, true, false, cond, List, [], ◌∷◌, length}
use Rattle.std.proofs.Common.{slice_get, take, Option, Some, None, is_some, refl, sym, ap, ◌∙◌}
use Rattle.std.proofs.Common.{subst}
use Rattle.std.specs.Prelude.{nat_lt, nat_le}
use Rattle.std.specs.Map.{lookup}
use Rattle.std.specs.Option.{option_map, option_map_or, option_and_then}
use Rattle.std.specs.Str.{bytes_eq}
use Rattle.std.proofs.lemmas.Slice.Eq.{bytes_eq-Decides}
use Rattle.git_model.specs.declared.kind.Kind.TheVariants as kind
use Rattle.git_model.specs.Content.{Content, same_content, name_by}
use Rattle.git_model.specs.Kind.{kind_word}
use Rattle.git_model.specs.Repository.{Object, object_named}
use Rattle.git_paths.proofs.Cases.{by_cases, some_is}
use Rattle.content_pool.specs.Pool.{Cells, content}
use Rattle.tenant_tables.specs.declared.entry.Entry.{Entry}
use Rattle.tenant_tables.specs.declared.fault.Fault.TheVariants as fault
use Rattle.tenant_tables.specs.declared.summary.Summary.{Summary}
use Rattle.tenant_tables.specs.declared.table.TheConstants.{CONTENTS_LIMIT, OBJECTS_LIMIT}
use Rattle.tenant_tables.specs.View.{View, Entries, entry_named, summary_of}
use Rattle.tenant_tables.specs.Objects.{objects}
use Rattle.tenant_tables.specs.IsBackedBy.{IsBackedBy}
use Rattle.tenant_tables.specs.Adding.{store_fault, Adds}
use Rattle.tenant_tables.specs.Summed.{SummedAfter, IsSummed}
use Rattle.tenant_tables.specs.Trees.{FitsTree}
use Rattle.tenant_tables.proofs.HoldLemmas.{object_named-objects}
use Rattle.tenant_tables.proofs.PlainSums.{summed-tree, tree-summed}
use Rattle.tenant_tables.proofs.SummaryLemmas.{SummedAfter-same}
use Rattle.file_maps.proofs.Apart.{both_true}

-- where the entry of a name stands
place_of : (id : List ℕ) (es : Entries) (e : Entry) → lookup (bytes_eq id) es ≡ Some e
    → (i : ℕ) × ((key : List ℕ) × (slice_get es i ≡ Some (key, e)))
place_of id [] e h = cc h
place_of id (x ∷ es) e h =
    by_cases (bytes_eq id x.0)
    (λ yea. (zero, (x.0, ap (λ (v : Entry). Some (x.0, v)) (some_is x.1 e (sym (ap (λ (b : Bool). cond b (Some x.1) (lookup (bytes_eq id) es)) yea) ∙ h)))))
    (λ nay.
    let rest = place_of id es e (sym (ap (λ (b : Bool). cond b (Some x.1) (lookup (bytes_eq id) es)) nay) ∙ h) in
    (suc rest.0, (rest.1.0, rest.1.1)))

entry_with : (o : Option Entry) (t : Summary) → option_and_then (λ e. e.summary) o ≡ Some t
    → (e : Entry) × (o ≡ Some e) × (e.summary ≡ Some t)
entry_with None t h = cc h
entry_with (Some e) t h = (e, refl, h)

-- an object that is found has the content that was to be added
found_same : (id : List ℕ) (c d : Content) (os : List Object) → store_fault id c os ≡ None
    → object_named id os ≡ Some d → same_content c d ≡ true
unfolding store_fault
found_same id c d os none is =
    by (nat_lt CONTENTS_LIMIT (length c.bytes)) (same_content c d)
    (nat_le OBJECTS_LIMIT (length os))
    (subst (λ (o : Option Content). cond (nat_lt CONTENTS_LIMIT (length c.bytes)) (Some fault.Limit) (cond (option_map_or (same_content c) o false) None (cond (nat_le OBJECTS_LIMIT (length os)) (Some fault.Limit) (cond (is_some o) (Some fault.NameCollision) None))) ≡ None) is none)
  where
    by : (a b f : Bool)
        → cond a (Some fault.Limit) (cond b None (cond f (Some fault.Limit) (Some fault.NameCollision))) ≡ None
        → b ≡ true
    by true b f h = cc h
    by false true f h = refl
    by false false true h = cc h
    by false false false h = cc h

module _ (digest : List ℕ → List ℕ) (p q : Cells) (old new : View) (c : Content) (s : Summary) where
  same_tree : (i : ℕ) (key : List ℕ) (e : Entry) (t : Summary) → IsBackedBy digest p old.entries
      → c.kind ≡ kind.Tree → FitsTree old.entries c.bytes s
      → slice_get old.entries i ≡ Some (key, e) → e.summary ≡ Some t
      → same_content c (content p e.slot) ≡ true → Some t ≡ Some s
  unfolding IsSummed
  same_tree i key e t stands tree fits at has same =
      let bytes : c.bytes ≡ (content p e.slot).bytes = (bytes_eq-Decides c.bytes (content p e.slot).bytes).0 (both_true (bytes_eq (kind_word c.kind) (kind_word (content p e.slot).kind)) (bytes_eq c.bytes (content p e.slot).bytes) same).1 in
      let there : SummedAfter (take i old.entries) (content p e.slot) (Some t) = subst (λ (o : Option Summary). SummedAfter (take i old.entries) (content p e.slot) o) has (stands.summed i key e at) in
      let kind_is : (content p e.slot).kind ≡ kind.Tree = (summed-tree (take i old.entries) (content p e.slot) t there).0 in
      SummedAfter-same i old.entries (content p e.slot) (Some t) (Some s) there
      (subst (λ (d : Content). SummedAfter old.entries d (Some s)) (λ j. record { kind = sym kind_is j; bytes = bytes j })
      (tree-summed old.entries c.bytes s fits))

  pub summaries-kept : IsBackedBy digest p old.entries → c.kind ≡ kind.Tree
      → FitsTree old.entries c.bytes s
      → store_fault (name_by digest c) c (objects p old.entries) ≡ None
      → Adds digest c (Some s) p old q new
      → (id : List ℕ) (t : Summary) → summary_of id old.entries ≡ Some t
      → summary_of id new.entries ≡ Some t
  unfolding entry_named
  summaries-kept stands tree fits none adds id t h =
      by_cases (bytes_eq id (name_by digest c))
      (λ yea.
      let here = (bytes_eq-Decides id (name_by digest c)).0 yea in
      let found = entry_with (lookup (bytes_eq id) old.entries) t h in
      let place = place_of id old.entries found.0 found.1 in
      let object : object_named (name_by digest c) (objects p old.entries) ≡ Some (content p found.0.slot) =
      ap (λ (n : List ℕ). object_named n (objects p old.entries)) (sym here)
      ∙ object_named-objects p id old.entries
      ∙ ap (option_map (λ (e : Entry). content p e.slot)) found.1 in
      let same = same_tree place.0 place.1.0 found.0 t stands tree fits place.1.1 found.2 (found_same (name_by digest c) c (content p found.0.slot) (objects p old.entries) none object) in
      adds.summaries id ∙ ap (λ (b : Bool). cond b (Some s) (summary_of id old.entries)) yea
      ∙ sym same)
      (λ nay. adds.summaries id ∙ ap (λ (b : Bool). cond b (Some s) (summary_of id old.entries)) nay ∙ h)

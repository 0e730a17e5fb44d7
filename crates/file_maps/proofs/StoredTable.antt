-- The stored trees of a table: what storing their files again adds, and their summaries.
use Rattle.std.proofs.Common.{◌≡◌, ◌≢◌, ℕ, List, take, Option, None, Some, refl, sym, ap, ◌∙◌, subst}
use Rattle.std.specs.Prelude.{IsSome, IsSomeAnd}
use Rattle.std.specs.Map.{lookup}
use Rattle.std.specs.Option.{option_and_then, option_map}
use Rattle.std.specs.Str.{bytes_eq}
use Rattle.git_model.specs.declared.kind.Kind.TheVariants as kind
use Rattle.git_model.specs.Content.{Content, content_from}
use Rattle.git_model.specs.Repository.{object_named}
use Rattle.git_model.specs.Tree.{TreeEntry}
use Rattle.content_pool.specs.Pool.{Cells, content}
use Rattle.tenant_tables.specs.declared.entry.Entry.{Entry}
use Rattle.tenant_tables.specs.declared.summary.Summary.{Summary}
use Rattle.tenant_tables.specs.View.{Entries, entry_named, summary_of}
use Rattle.tenant_tables.specs.Objects.{objects}
use Rattle.tenant_tables.specs.IsBackedBy.{IsBackedBy}
use Rattle.tenant_tables.specs.Summed.{SummedAfter}
use Rattle.tenant_tables.specs.Trees.{FitsTree}
use Rattle.tenant_tables.proofs.HoldLemmas.{object_named-objects}
use Rattle.tenant_tables.proofs.PlainSums.{plain-summed, tree-plain}
use Rattle.tenant_tables.proofs.SummaryLemmas.{SummedAfter-same}
use Rattle.tenant_tables.proofs.SumsIn.{table-sums}
use Rattle.git_paths.proofs.Cases.{some_is}
use Rattle.file_maps.specs.FileMap.{Listed}
use Rattle.file_maps.specs.Storable.{files_summary}
use Rattle.file_maps.specs.PlainTrees.{HasSummary, ListsPlain}
use Rattle.file_maps.specs.StoredAgain.{IsStoredAlready}
use Rattle.file_maps.specs.StoredFiles.{stored_files}
use Rattle.file_maps.proofs.KnownTrees.{has-files, is-plain-later, plain-sum}
use Rattle.file_maps.proofs.Standing.{position_of, summed_at}
use Rattle.file_maps.proofs.StandingGood.{trees-good}
use Rattle.file_maps.proofs.StoredAgain.{stored-already}

entry_of : {A : Type 0} (o : Option Entry) (f : Entry → A) (x : A) → option_map f o ≡ Some x
    → (e : Entry) × (o ≡ Some e) × (f e ≡ x)
entry_of None f x h = cc h
entry_of (Some e) f x h = (e, refl, some_is (f e) x h)

module _ (digest : List ℕ → List ℕ) (pool : Cells) (entries : Entries)
    (stands : IsBackedBy digest pool entries) where
  pub table-stored : (id : List ℕ) → HasSummary (objects pool entries) id
      → IsStoredAlready digest (objects pool entries) id (stored_files (objects pool entries) id)
  table-stored id plain =
      stored-already digest (objects pool entries) (HasSummary (objects pool entries))
      (trees-good digest pool entries stands) id (stored_files (objects pool entries) id)
      (has-files (objects pool entries) id plain).tree plain

  pub table-summary : (id : List ℕ) (fs : Listed) → ListsPlain (objects pool entries) id fs
      → summary_of id entries ≡ Some (files_summary fs)
  table-summary id fs t =
      table-sums digest pool entries stands id ∙ plain-sum (objects pool entries) id fs t

  -- a tree that fitted an earlier table, whose summaries stayed, has its summary
  pub fitting-summary : (old : Entries)
      → ((id : List ℕ) (s : Summary) → summary_of id old ≡ Some s → summary_of id entries ≡ Some s)
      → (bytes : List ℕ) (s : Summary) → FitsTree old bytes s → (id : List ℕ)
      → object_named id (objects pool entries) ≡ Some (content_from kind.Tree bytes)
      → summary_of id entries ≡ Some s
  unfolding entry_named
  fitting-summary old kept bytes s fits id there =
      let found = entry_of (lookup (bytes_eq id) entries) (λ e. content pool e.slot) (content_from kind.Tree bytes)
      (sym (object_named-objects pool id entries) ∙ there) in
      let here : SummedAfter (take (position_of id entries) entries) (content_from kind.Tree bytes) found.0.summary =
      subst (λ (c : Content). SummedAfter (take (position_of id entries) entries) c found.0.summary) found.2
      (summed_at digest pool entries stands id found.0 found.1) in
      let plain = is-plain-later (λ key. summary_of key old) (λ key. summary_of key entries) kept bytes s
      (tree-plain old bytes s fits.0 fits.1) in
      let same = SummedAfter-same (position_of id entries) entries (content_from kind.Tree bytes) found.0.summary (Some s)
      here (plain-summed entries bytes s plain) in
      ap (option_and_then (λ (e : Entry). e.summary)) found.1 ∙ same

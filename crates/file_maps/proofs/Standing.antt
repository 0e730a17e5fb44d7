-- Trees that stand in a table with a summary: those of a tree's directories stand before it.
use Rattle.std.proofs.Common.{◌≡◌, ◌≢◌, ℕ, zero, suc, ◌+◌, ◌<◌, ◌⊎◌, inl, inr, Bool, true, false, not, cond, List, [], ◌∷◌, ◌++◌, map, take, slice_get, Option, Some, None, refl, sym, ap, ◌∙◌, subst, arith}
use Rattle.std.specs.Prelude.{IsSome, IsNone, nat_lt}
use Rattle.std.specs.List.{AllByRecursion, position_or_len}
use Rattle.std.specs.Map.{keys_of, lookup}
use Rattle.std.specs.Option.{option_map, option_and_then, unwrap_or}
use Rattle.std.specs.Str.{bytes_eq}
use Rattle.std.proofs.lemmas.Bool.{ltb-true}
use Rattle.std.proofs.lemmas.List.Elements.{recursion_from_All}
use Rattle.git_model.specs.declared.file_mode.FileMode.{FileMode}
use Rattle.git_model.specs.declared.file_mode.FileMode.TheVariants as mode
use Rattle.git_model.specs.Content.{Content}
use Rattle.git_model.specs.Repository.{Object, object_named}
use Rattle.git_model.specs.Tree.{TreeEntry}
use Rattle.git_model.specs.TreeReading.{tree_read}
use Rattle.git_paths.proofs.Cases.{some_is}
use Rattle.content_pool.specs.Pool.{Cells, content}
use Rattle.tenant_tables.specs.declared.entry.Entry.{Entry}
use Rattle.tenant_tables.specs.declared.summary.Summary.{Summary}
use Rattle.tenant_tables.specs.View.{Entries, entry_named, summary_of}
use Rattle.tenant_tables.specs.Objects.{objects}
use Rattle.tenant_tables.specs.IsBackedBy.{IsBackedBy}
use Rattle.tenant_tables.specs.Trees as table
use Rattle.tenant_tables.specs.Summed.{IsSummed, SummedAfter}
use Rattle.tenant_tables.specs.Trees.{DirectoryStands}
use Rattle.tenant_tables.proofs.PlainSums.{summed-tree}
use Rattle.tenant_tables.proofs.EntryLemmas.{lookup-take}
use Rattle.tenant_tables.proofs.SummaryLemmas.{some_of}
use Rattle.tenant_tables.proofs.HoldLemmas.{object_named-objects}
use Rattle.file_maps.specs.FileMap.{Listed}
use Rattle.file_maps.specs.Edits.{moved}
use Rattle.file_maps.specs.Trees.{tree_content}
use Rattle.file_maps.specs.Storable.{files_summary}
use Rattle.file_maps.specs.StoredTree.{HasTree}
use Rattle.file_maps.proofs.Listing.{IsSound, has-only}
use Rattle.file_maps.proofs.Sums.{both-assoc, both-none, none-both, path_summary, files-first, below-one, below-more}

-- where the first entry of a name stands
abbrev pub position_of : List ℕ → Entries → ℕ
position_of id entries = position_or_len (bytes_eq id) (keys_of entries)

one_more : (n : ℕ) → 1 + n ≡ suc n
one_more n = omega arith

first_place : (id : List ℕ) (es : Entries) (e : Entry) → lookup (bytes_eq id) es ≡ Some e
    → (key : List ℕ) × (slice_get es (position_of id es) ≡ Some (key, e))
first_place id [] e h = cc h
first_place id (x ∷ es) e h = by (bytes_eq id x.0) h (first_place id es e)
  where
    by : (b : Bool) → cond b (Some x.1) (lookup (bytes_eq id) es) ≡ Some e
        → (lookup (bytes_eq id) es ≡ Some e → (key : List ℕ) × (slice_get es (position_of id es) ≡ Some (key, e)))
        → (key : List ℕ) × (slice_get (x ∷ es) (cond (not b) (1 + position_of id es) 0) ≡ Some (key, e))
    by true k later = (x.0, ap (λ (v : Entry). Some (x.0, v)) (some_is x.1 e k))
    by false k later =
        let r = later k in (r.0, ap (slice_get (x ∷ es)) (one_more (position_of id es)) ∙ r.1)

entry_with : (o : Option Entry) (s : Summary) → option_and_then (λ e. e.summary) o ≡ Some s
    → (e : Entry) × (o ≡ Some e) × (e.summary ≡ Some s)
entry_with None s h = cc h
entry_with (Some e) s h = (e, refl, h)

-- a name with a summary among the first entries stands among them
pub stands-before : (id : List ℕ) (n : ℕ) (es : Entries) → IsSome (summary_of id (take n es))
    → position_of id es < n
unfolding entry_named
stands-before id n es some = by (nat_lt (position_of id es) n) refl (lookup-take (bytes_eq id) n es)
  where
    by : (b : Bool) → nat_lt (position_of id es) n ≡ b
        → lookup (bytes_eq id) (take n es) ≡ cond b (lookup (bytes_eq id) es) None
        → position_of id es < n
    by true is e = ltb-true _ _ is
    by false is e = let no : false ≡ true = rw e at some in cc no

-- and has it among all
pub summary-all : (id : List ℕ) (n : ℕ) (es : Entries) → IsSome (summary_of id (take n es))
    → summary_of id (take n es) ≡ summary_of id es
unfolding entry_named
summary-all id n es some = by (nat_lt (position_of id es) n) (lookup-take (bytes_eq id) n es)
  where
    by : (b : Bool) → lookup (bytes_eq id) (take n es) ≡ cond b (lookup (bytes_eq id) es) None
        → summary_of id (take n es) ≡ summary_of id es
    by true e = ap (option_and_then (λ (x : Entry). x.summary)) e
    by false e = let no : false ≡ true = rw e at some in cc no

pub the_summary : (o : Option Summary) → IsSome o → (s : Summary) × (o ≡ Some s)
the_summary None h = cc h
the_summary (Some s) h = (s, refl)

-- a mode is a directory's or not
pub directory_or : (m : FileMode) → (m ≡ mode.Directory) ⊎ (m ≢ mode.Directory)
directory_or mode.Directory = inl refl
directory_or mode.Regular = inr (λ h. cc h)
directory_or mode.Executable = inr (λ h. cc h)
directory_or mode.Symlink = inr (λ h. cc h)
directory_or mode.Gitlink = inr (λ h. cc h)

-- ---- summaries of files

pub both-summary : (xs ys : Listed)
    → files_summary (xs ++ ys) ≡ table.both (files_summary xs) (files_summary ys)
both-summary [] ys = sym (none-both (files_summary ys))
both-summary (x ∷ xs) ys =
    files-first x.0 x.1 (xs ++ ys) ∙ ap (table.both (path_summary x.0)) (both-summary xs ys)
    ∙ sym (both-assoc (path_summary x.0) (files_summary xs) (files_summary ys))
    ∙ ap (λ (s : Summary). table.both s (files_summary ys)) (sym (files-first x.0 x.1 xs))

-- the files of a directory, below its name
pub below-summary : (c : List ℕ) (fs : Listed) → AllByRecursion IsSound fs
    → table.below c (files_summary fs) ≡ files_summary (moved (c ∷ []) fs)
below-summary c [] h = refl
below-summary c (([], e) ∷ fs) h = absurd (h.0.below_the_root refl)
below-summary c (((d ∷ q), e) ∷ []) h =
    below-one c d q e ∙ sym (both-none (path_summary (c ∷ d ∷ q)))
    ∙ sym (files-first (c ∷ d ∷ q) e [])
below-summary c (((d ∷ q), e) ∷ f ∷ fs) h =
    below-more c d q e f fs
    ∙ ap (table.both (path_summary (c ∷ d ∷ q))) (below-summary c (f ∷ fs) h.1)
    ∙ sym (files-first (c ∷ d ∷ q) e (moved (c ∷ []) (f ∷ fs)))

-- ---- in a table

-- The tree of a name, after the trees of its directories.
pub record IsPlaced (pool : Cells) (entries : Entries) (id : List ℕ) (es : List TreeEntry) (s : Summary) : Type 0 where
  pub summary : summary_of id entries ≡ Some s
  pub has : HasTree (objects pool entries) id es
  pub directories : AllByRecursion (DirectoryStands (take (position_of id entries) entries)) es
  pub sums : s ≡ table.tree_summary (take (position_of id entries) entries) es

module _ (digest : List ℕ → List ℕ) (pool : Cells) (entries : Entries) (stands : IsBackedBy digest pool entries) where
  -- the content of an entry and its summary
  pub summed_at : (id : List ℕ) (e : Entry) → lookup (bytes_eq id) entries ≡ Some e
      → SummedAfter (take (position_of id entries) entries) (content pool e.slot) e.summary
  unfolding IsSummed
  summed_at id e h =
      let at = first_place id entries e h in stands.summed (position_of id entries) at.0 e at.1

  object_of : (id : List ℕ) (e : Entry) → lookup (bytes_eq id) entries ≡ Some e
      → object_named id (objects pool entries) ≡ Some (content pool e.slot)
  unfolding entry_named
  object_of id e h =
      object_named-objects pool id entries ∙ ap (option_map (λ (x : Entry). content pool x.slot)) h

  -- a tree that has a summary stands after those of its directories, which have one too
  pub placed : (id : List ℕ) (s : Summary) → summary_of id entries ≡ Some s
      → (es : List TreeEntry) × IsPlaced pool entries id es s
  unfolding entry_named
  placed id s h =
      let found = entry_with (lookup (bytes_eq id) entries) s h in
      let front = take (position_of id entries) entries in
      let c : Content = content pool found.0.slot in
      let there : SummedAfter front c (Some s) =
      subst (λ (o : Option Summary). SummedAfter front c o) found.2 (summed_at id found.0 found.1) in
      let p = summed-tree front c s there in
      let es : List TreeEntry = tree_read c.bytes in
      let same : c ≡ tree_content es = λ i. record { kind = p.0 i; bytes = p.1.text.contents i } in (
        es,
        record {
          summary = h;
          has = record { content = object_of id found.0 found.1 ∙ ap (λ (x : Content). Some x) same; entries = p.1.text.writable };
          directories = recursion_from_All (DirectoryStands front) es p.1.directories;
          sums = p.1.sum;
        },
      )

  pub tree-placed : (id : List ℕ) (es : List TreeEntry) → HasTree (objects pool entries) id es
      → IsSome (summary_of id entries) → (s : Summary) × IsPlaced pool entries id es s
  tree-placed id es h some =
      let s = the_summary (summary_of id entries) some in
      let p = placed id s.0 s.1 in
      (s.0, subst (λ (x : List TreeEntry). IsPlaced pool entries id x s.0) (has-only (objects pool entries) id p.0 es p.1.has h) p.1)

pub some_unless : {A : Type 0} (o : Option A) → (IsNone o → ⊥) → IsSome o
some_unless None h = absurd (h refl)
some_unless (Some x) h = refl

-- The summary of a plain tree: what it says, and what it hangs on.
use Rattle.std.proofs.Common.{◌≡◌, ◌≢◌, ℕ, Bool, true, false, ◌&&◌, cond, List, [], ◌∷◌, map, Option, None, Some, refl, sym, ap, subst, ◌∙◌, All}
use Rattle.std.specs.Prelude.{◌↔◌, IsSome, IsSomeAnd, fold, get_or}
use Rattle.std.specs.Bool.{Decides}
use Rattle.std.specs.List.{list_all}
use Rattle.std.specs.Option.{option_and_then, unwrap_or}
use Rattle.std.proofs.lemmas.Bool.Decides.{Decides-and}
use Rattle.std.proofs.lemmas.List.Elements.{All-head, All-tail}
use Rattle.git_model.specs.declared.file_mode.FileMode.{FileMode}
use Rattle.git_model.specs.declared.file_mode.FileMode.TheVariants as mode
use Rattle.git_model.specs.declared.kind.Kind.{Kind}
use Rattle.git_model.specs.declared.kind.Kind.TheVariants as kind
use Rattle.git_model.specs.Content.{Content, content_from}
use Rattle.git_model.specs.Tree.{TreeEntry}
use Rattle.git_model.specs.TreeReading.{tree_read}
use Rattle.git_model.proofs.TreeReadings.{tree_back}
use Rattle.tenant_tables.specs.declared.entry.Entry.{Entry}
use Rattle.tenant_tables.specs.declared.summary.Summary.{Summary}
use Rattle.tenant_tables.specs.SumIn.{IsPlain, content_sum, is_known, is_known_by, is_plain, is_tree_text, is_within, plain_sum, sum_by_kind}
use Rattle.tenant_tables.specs.Sums.{IsTreeText}
use Rattle.tenant_tables.specs.Summed.{SummedAfter}
use Rattle.tenant_tables.specs.Trees.{FitsTree, HasFilesBy, IsTreeOf, IsWithin, below, both, by_mode, no_files, one_file, summary_by, tree_summary_by}
use Rattle.tenant_tables.specs.View.{Entries, entry_named, summary_of}
use Rattle.tenant_tables.proofs.TreeTests.{text_test, directories_test, within_test}

-- ---- plain trees have their summary

some_value : {A : Type 0} (x y : A) → Some x ≡ Some y → x ≡ y
some_value x y e = cc e

module _ (known : List ℕ → Option Summary) (bytes : List ℕ) where
  abbrev sum : Summary
  sum = tree_summary_by known (tree_read bytes)

  plain_test : Decides (is_plain known bytes) ((IsTreeText bytes (tree_read bytes) × All (HasFilesBy known) (tree_read bytes)) × IsWithin sum)
  plain_test =
      Decides-and _ _ (Decides-and _ _ (text_test bytes) (directories_test known (tree_read bytes)))
      (within_test sum)

  pub plain-has : (s : Summary) → plain_sum known bytes ≡ Some s → IsPlain known bytes s
  unfolding plain_sum
  plain-has s h = by (is_plain known bytes) refl h
    where
      by : (b : Bool) → is_plain known bytes ≡ b → cond b (Some sum) None ≡ Some s
          → IsPlain known bytes s
      by false is e = cc e
      by true is e =
          let parts = plain_test.0 is in
          let same : sum ≡ s = some_value sum s e in record {
            text = parts.0.0;
            directories = parts.0.1;
            sum = sym same;
            within = subst IsWithin same parts.1;
          }

  pub has-plain : (s : Summary) → IsPlain known bytes s → plain_sum known bytes ≡ Some s
  unfolding plain_sum
  has-plain s p =
      let is : is_plain known bytes ≡ true =
      plain_test.1 ((p.text, p.directories), subst IsWithin p.sum p.within) in
      ap (λ (b : Bool). cond b (Some sum) None) is ∙ ap (λ (t : Summary). Some t) (sym p.sum)

-- ---- the summary hangs on the directories alone

module _ (known other : List ℕ → Option Summary) where
  -- the two know the same of the tree of each directory
  abbrev pub Agrees : TreeEntry → Type 0
  Agrees e = e.mode ≡ mode.Directory → known e.id ≡ other e.id

  known-agrees : (m : FileMode) (a b : Option Summary) → (m ≡ mode.Directory → a ≡ b)
      → is_known m a ≡ is_known m b
  known-agrees mode.Directory a b h = ap (is_known mode.Directory) (h refl)
  known-agrees mode.Regular a b h = refl
  known-agrees mode.Executable a b h = refl
  known-agrees mode.Symlink a b h = refl
  known-agrees mode.Gitlink a b h = refl

  entry-agrees : (m : FileMode) (name : List ℕ) (a b : Option Summary)
      → (m ≡ mode.Directory → a ≡ b)
      → by_mode m (below name (unwrap_or a no_files)) (one_file name)
      ≡ by_mode m (below name (unwrap_or b no_files)) (one_file name)
  entry-agrees mode.Directory name a b h =
      ap (λ (o : Option Summary). below name (unwrap_or o no_files)) (h refl)
  entry-agrees mode.Regular name a b h = refl
  entry-agrees mode.Executable name a b h = refl
  entry-agrees mode.Symlink name a b h = refl
  entry-agrees mode.Gitlink name a b h = refl

  tests-agree : (es : List TreeEntry) → All Agrees es
      → list_all (is_known_by known) es ≡ list_all (is_known_by other) es
  tests-agree [] h = refl
  tests-agree (e ∷ es) h =
      let here = known-agrees e.mode (known e.id) (other e.id) (All-head Agrees e es h) in
      let rest = tests-agree es (All-tail Agrees e es h) in
      λ i. here i && rest i

  sums-agree : (es : List TreeEntry) → All Agrees es
      → map (summary_by known) es ≡ map (summary_by other) es
  sums-agree [] h = refl
  sums-agree (e ∷ es) h =
      let here = entry-agrees e.mode e.name (known e.id) (other e.id) (All-head Agrees e es h) in
      let rest = sums-agree es (All-tail Agrees e es h) in
      λ i. here i ∷ rest i

  pub plain_sum-agrees : (bytes : List ℕ) → All Agrees (tree_read bytes)
      → plain_sum known bytes ≡ plain_sum other bytes
  unfolding plain_sum
  plain_sum-agrees bytes h =
      let tests = tests-agree (tree_read bytes) h in
      let sums : tree_summary_by known (tree_read bytes) ≡ tree_summary_by other (tree_read bytes) =
      ap (fold both no_files) (sums-agree (tree_read bytes) h) in
      λ i. cond (is_tree_text bytes && tests i && is_within (sums i)) (Some (sums i)) None

  -- so the summary of a content does
  pub content_sum-agrees : (c : Content)
      → (c.kind ≡ kind.Tree → All Agrees (tree_read c.bytes))
      → content_sum known c ≡ content_sum other c
  content_sum-agrees c h = by c.kind refl
    where
      by : (k : Kind) → c.kind ≡ k
          → sum_by_kind k (plain_sum known c.bytes) ≡ sum_by_kind k (plain_sum other c.bytes)
      by kind.Tree is = plain_sum-agrees c.bytes (h is)
      by kind.Blob is = refl
      by kind.Commit is = refl
      by kind.Tag is = refl

-- ---- what a table keeps of a content

other_kind : (k : Kind) (o : Option Summary) → k ≢ kind.Tree → sum_by_kind k o ≡ None
other_kind kind.Tree o ne = absurd (ne refl)
other_kind kind.Blob o ne = refl
other_kind kind.Commit o ne = refl
other_kind kind.Tag o ne = refl

-- only a tree has a summary
pub summed-kind : (k : Kind) (o : Option Summary) (s : Summary) → sum_by_kind k o ≡ Some s
    → (k ≡ kind.Tree) × (o ≡ Some s)
summed-kind kind.Tree o s h = (refl, h)
summed-kind kind.Blob o s h = cc h
summed-kind kind.Commit o s h = cc h
summed-kind kind.Tag o s h = cc h

pub other-summed : (table : Entries) (c : Content) → c.kind ≢ kind.Tree → SummedAfter table c None
other-summed table c ne = record {
  directories = λ is. absurd (ne is);
  sum = sym (other_kind c.kind (plain_sum (λ id. summary_of id table) c.bytes) ne);
}

-- a tree that fits after entries is plain by their summaries
pub tree-plain : (front : Entries) (bytes : List ℕ) (s : Summary) (es : List TreeEntry)
    → IsTreeOf front bytes s es → IsPlain (λ id. summary_of id front) bytes s
tree-plain front bytes s es t =
    let read : tree_read bytes ≡ es = ap tree_read t.contents ∙ tree_back es t.writable in record {
      text =
          subst (IsTreeText bytes) (sym read)
          (record { writable = t.writable; contents = t.contents });
      directories = subst (All (HasFilesBy (λ id. summary_of id front))) (sym read) t.directories;
      sum = t.sums ∙ ap (tree_summary_by (λ id. summary_of id front)) (sym read);
      within = t.within;
    }

entry_there : (o : Option Entry) (P : Summary → Type 0)
    → IsSomeAnd (option_and_then (λ (e : Entry). e.summary) o) P → IsSome o
entry_there None P h = absurd h
entry_there (Some e) P h = refl

pub plain-summed : (table : Entries) (bytes : List ℕ) (s : Summary)
    → IsPlain (λ id. summary_of id table) bytes s
    → SummedAfter table (content_from kind.Tree bytes) (Some s)
plain-summed table bytes s p = record {
  directories = λ tree k d within is.
      let e = get_or (tree_read bytes) k d in
      entry_there (entry_named e.id table) (λ x. x.files ≢ 0) (p.directories k d within is);
  sum = sym (has-plain (λ id. summary_of id table) bytes s p);
}

pub tree-summed : (table : Entries) (bytes : List ℕ) (s : Summary) → FitsTree table bytes s
    → SummedAfter table (content_from kind.Tree bytes) (Some s)
tree-summed table bytes s fits =
    plain-summed table bytes s (tree-plain table bytes s fits.0 fits.1)

-- a tree that is kept with a summary is plain by those before it
pub summed-tree : (table : Entries) (c : Content) (s : Summary) → SummedAfter table c (Some s)
    → (c.kind ≡ kind.Tree) × IsPlain (λ id. summary_of id table) c.bytes s
summed-tree table c s h =
    let known = λ (id : List ℕ). summary_of id table in
    let t = summed-kind c.kind (plain_sum known c.bytes) s (sym h.sum) in
    (t.0, plain-has known c.bytes s t.1)

-- ---- the same after other entries

-- After other entries the tree of a directory is there, and has the summary that it had.
pub record Stays (table other : Entries) (id : List ℕ) : Type 0 where
  pub there : IsSome (entry_named id other)
  pub same : summary_of id table ≡ summary_of id other

pub summed-stays : (table other : Entries) (c : Content) (o : Option Summary)
    → (c.kind ≡ kind.Tree → All (λ e. e.mode ≡ mode.Directory → Stays table other e.id) (tree_read c.bytes))
    → SummedAfter table c o → SummedAfter other c o
summed-stays table other c o stays h = record {
  directories = λ tree k d within is. (stays tree k d within is).there;
  sum =
      h.sum
      ∙ content_sum-agrees (λ id. summary_of id table) (λ id. summary_of id other) c
      (λ tree k d within is. (stays tree k d within is).same);
}

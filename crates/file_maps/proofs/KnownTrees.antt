-- A tree that has a summary has files, and the summary is theirs.
use Rattle.std.proofs.Common.{◌≡◌, ◌≢◌, ℕ, zero, suc, ◌+◌, ◌≤◌, Bool, true, false, cond, inl, inr, List, [], ◌∷◌, ◌++◌, get_or, length, map, All, Option, None, Some, refl, sym, ap, subst, ◌∙◌, arith}
use Rattle.std.specs.Prelude.{IsSome, IsSomeAnd, fold, is_some}
use Rattle.std.specs.Map.{lookup}
use Rattle.std.specs.Option.{option_and_then, unwrap_or}
use Rattle.std.specs.Str.{bytes_eq}
use Rattle.std.proofs.lemmas.List.{append_assoc}
use Rattle.std.proofs.lemmas.List.Elements.{All-head, All-tail}
use Rattle.git_model.specs.declared.file_mode.FileMode.{FileMode}
use Rattle.git_model.specs.declared.file_mode.FileMode.TheVariants as mode
use Rattle.git_model.specs.declared.kind.Kind.{Kind}
use Rattle.git_model.specs.declared.kind.Kind.TheVariants as kind
use Rattle.git_model.specs.Content.{Content}
use Rattle.git_model.specs.Repository.{Object, object_named, with_object}
use Rattle.git_model.specs.Tree.{TreeEntry, tree_contents}
use Rattle.git_model.specs.TreeReading.{tree_read}
use Rattle.git_model.proofs.Places.{first_named, later_named, nothing_named}
use Rattle.git_model.proofs.TreeReadings.{tree_back}
use Rattle.tenant_tables.specs.declared.summary.Summary.{Summary}
use Rattle.tenant_tables.specs.SumIn.{IsPlain, NamedSums, content_sum, known_in, plain_sum, sum_in, sums_of, with_sum}
use Rattle.tenant_tables.specs.Trees as table
use Rattle.tenant_tables.specs.Trees.{HasFilesBy, IsWithin, summary_by, tree_summary_by}
use Rattle.tenant_tables.proofs.PlainSums.{Agrees, has-plain, plain-has, plain_sum-agrees, summed-kind}
use Rattle.file_maps.specs.FileMap.{Listed}
use Rattle.file_maps.specs.Edits.{moved}
use Rattle.file_maps.specs.Storable.{files_summary}
use Rattle.file_maps.specs.PlainTrees.{HasSummary, ListsPlain}
use Rattle.file_maps.specs.StoredAgain.{HasEntries, IsFilled}
use Rattle.file_maps.specs.StoredFiles.{listed_by, listed_within, stored_files}
use Rattle.file_maps.specs.StoredTree.{AreFilesOf, HasTree, Lists, ListsTree, file_from, first_directory, first_file, nothing}
use Rattle.file_maps.specs.Storing.{with_trees}
use Rattle.file_maps.specs.Trees.{tree_content, tree_name}
use Rattle.file_maps.proofs.ListedLater.{has-later, lists-later}
use Rattle.file_maps.proofs.Listing.{lists-only, tree-only, tree-sound}
use Rattle.file_maps.proofs.Standing.{below-summary, both-summary, directory_or, the_summary}
use Rattle.file_maps.proofs.StoredFiles.{level, listed_at, one_file}
use Rattle.file_maps.proofs.Sums.{by_file, files-first, fold-sums, none-both, sums}

-- ---- names and what is known of them

abbrev or_else : {X : Type 0} → Option X → Option X → Option X
or_else (Some x) o = Some x
or_else None o = o

-- the first of a name counts
lookup-pushed : (id : List ℕ) (named : NamedSums) (key : List ℕ) (v : Option Summary)
    → lookup (bytes_eq id) (named ++ (key, v) ∷ [])
    ≡ or_else (lookup (bytes_eq id) named) (cond (bytes_eq id key) (Some v) None)
lookup-pushed id [] key v = refl
lookup-pushed id (n ∷ named) key v = by (bytes_eq id n.0) (lookup-pushed id named key v)
  where
    by : (b : Bool)
        → lookup (bytes_eq id) (named ++ (key, v) ∷ [])
        ≡ or_else (lookup (bytes_eq id) named) (cond (bytes_eq id key) (Some v) None)
        → cond b (Some n.1) (lookup (bytes_eq id) (named ++ (key, v) ∷ []))
        ≡ or_else (cond b (Some n.1) (lookup (bytes_eq id) named)) (cond (bytes_eq id key) (Some v) None)
    by true h = refl
    by false h = h

-- an object after those of other names
named-after : (id : List ℕ) (front rest : List Object) → object_named id front ≡ None
    → object_named id (front ++ rest) ≡ object_named id rest
named-after id [] rest none = refl
named-after id (o ∷ front) rest none =
    by (bytes_eq id o.id) refl (λ gone. named-after id front rest gone)
  where
    by : (b : Bool) → bytes_eq id o.id ≡ b
        → (object_named id front ≡ None → object_named id (front ++ rest) ≡ object_named id rest)
        → object_named id (o ∷ front ++ rest) ≡ object_named id rest
    by true e more = let no = sym (first_named id o front e) ∙ none in cc no
    by false e more =
        later_named id o (front ++ rest) e ∙ more (sym (later_named id o front e) ∙ none)

some_and : {A : Type 0} (o : Option A) (P : A → Type 0) → IsSomeAnd o P → (x : A) × (o ≡ Some x)
some_and None P h = absurd h
some_and (Some x) P h = (x, refl)

-- what is known stays
known_named : (o : Option (Option Summary)) (s : Summary)
    → option_and_then (λ (v : Option Summary). v) o ≡ Some s → o ≡ Some (Some s)
known_named None s h = cc h
known_named (Some v) s h = ap (λ (x : Option Summary). Some x) h

stays : (id : List ℕ) (s : Summary) (rest : List Object) (named : NamedSums)
    → lookup (bytes_eq id) named ≡ Some (Some s)
    → lookup (bytes_eq id) (fold with_sum named rest) ≡ Some (Some s)
stays id s [] named h = h
stays id s (o ∷ rest) named h =
    let v : Option Summary = content_sum (known_in named) o.content in
    stays id s rest (with_sum named o)
    (lookup-pushed id named o.id v
    ∙ ap (λ (x : Option (Option Summary)). or_else x (cond (bytes_eq id o.id) (Some v) None)) h)

stays-known : (id : List ℕ) (s : Summary) (rest : List Object) (named : NamedSums)
    → known_in named id ≡ Some s → known_in (fold with_sum named rest) id ≡ Some s
stays-known id s rest named h =
    ap (option_and_then (λ (v : Option Summary). v))
    (stays id s rest named (known_named (lookup (bytes_eq id) named) s h))

-- A tree that has a summary, by what is known of other trees.
pub record IsPlainTree (os : List Object) (known : List ℕ → Option Summary) (id : List ℕ) (s : Summary)
    : Type 0 where
  pub content : Content
  pub there : object_named id os ≡ Some content
  pub tree : content.kind ≡ kind.Tree
  pub plain : IsPlain known content.bytes s

module _ (known other : List ℕ → Option Summary)
    (more : (id : List ℕ) (s : Summary) → known id ≡ Some s → other id ≡ Some s) where
  agrees : (e : TreeEntry) → HasFilesBy known e → Agrees known other e
  agrees e h is =
      let some = some_and (known e.id) (λ s. s.files ≢ 0) (h is) in
      some.1 ∙ sym (more e.id some.0 some.1)

  -- a tree is plain where more is known
  pub is-plain-later : (bytes : List ℕ) (s : Summary) → IsPlain known bytes s
      → IsPlain other bytes s
  is-plain-later bytes s p =
      let same = plain_sum-agrees known other bytes
      (λ k d within. agrees (get_or (tree_read bytes) k d) (p.directories k d within)) in
      plain-has other bytes s (sym same ∙ has-plain known bytes s p)

  plain-later : (os : List Object) (id : List ℕ) (s : Summary) → IsPlainTree os known id s
      → IsPlainTree os other id s
  plain-later os id s p = record {
    content = p.content;
    there = p.there;
    tree = p.tree;
    plain = is-plain-later p.content.bytes s p.plain;
  }

-- ---- the files of one tree

-- The tree of a name has files, which are those of its summary. So many levels list them.
record IsListed (os : List Object) (n : ℕ) (id : List ℕ) (s : Summary) : Type 0 where
  files : Listed
  lists : ListsTree os id files
  sum : s ≡ files_summary files
  within : IsWithin s
  listed : (m : ℕ) → n ≤ m → listed_within os m id ≡ files

later : (os : List Object) (n : ℕ) (id : List ℕ) (s : Summary) → IsListed os n id s
    → IsListed os (suc n) id s
later os n id s t = record {
  files = t.files;
  lists = t.lists;
  sum = t.sum;
  within = t.within;
  listed = λ m le. t.listed m (omega arith);
}

module _ (os : List Object) (n : ℕ) (known : List ℕ → Option Summary)
    (listed : (id : List ℕ) (s : Summary) → known id ≡ Some s → IsListed os n id s) where
  record EntriesListed (es : List TreeEntry) : Type 0 where
    files : Listed
    lists : Lists os es files
    sum : sums (map (summary_by known) es) ≡ files_summary files
    at : (m : ℕ) → n ≤ m → listed_at os m es ≡ files

  a-file : (e : TreeEntry) (es : List TreeEntry) → e.mode ≢ mode.Directory → EntriesListed es
      → EntriesListed (e ∷ es)
  a-file e es ne t = record {
    files = file_from e ∷ t.files;
    lists = first_file e es t.files ne t.lists;
    sum =
        ap (λ (s : Summary). table.both s (sums (map (summary_by known) es)))
        (by_file e.mode (table.below e.name (unwrap_or (known e.id) table.no_files)) (table.one_file e.name) ne)
        ∙ ap (table.both (table.one_file e.name)) t.sum
        ∙ sym (files-first (e.name ∷ []) (file_from e).1 t.files);
    at = λ m le.
        ap (λ (r : Listed). r ++ listed_at os m es) (one_file e.mode e (listed_within os m e.id) ne)
        ∙ ap (λ (r : Listed). file_from e ∷ r) (t.at m le);
  }

  a-directory : (e : TreeEntry) (es : List TreeEntry) (s : Summary) → e.mode ≡ mode.Directory
      → known e.id ≡ Some s → EntriesListed es → EntriesListed (e ∷ es)
  a-directory e es s is has t =
      let d = listed e.id s has in
      let below : Listed = d.files in
      let here : summary_by known e ≡ files_summary (moved (e.name ∷ []) below) =
      ap
      (λ (m : FileMode). table.by_mode m (table.below e.name (unwrap_or (known e.id) table.no_files)) (table.one_file e.name)) is
      ∙ ap (λ (o : Option Summary). table.below e.name (unwrap_or o table.no_files)) has
      ∙ ap (table.below e.name) d.sum
      ∙ below-summary e.name below (tree-sound os e.id below d.lists) in record {
        files = moved (e.name ∷ []) below ++ t.files;
        lists = first_directory e es d.lists.direct below t.files is d.lists.tree d.lists.lists t.lists;
        sum =
            ap (λ (x : Summary). table.both x (sums (map (summary_by known) es))) here
            ∙ ap (table.both (files_summary (moved (e.name ∷ []) below))) t.sum
            ∙ sym (both-summary (moved (e.name ∷ []) below) t.files);
        at = λ m le.
            ap (λ (x : FileMode). listed_by x e (listed_within os m e.id) ++ listed_at os m es) is
            ∙ ap (λ (u : Listed). moved (e.name ∷ []) u ++ listed_at os m es) (d.listed m le)
            ∙ ap (λ (r : Listed). moved (e.name ∷ []) below ++ r) (t.at m le);
      }

  entries-listed : (es : List TreeEntry) → All (HasFilesBy known) es → EntriesListed es
  entries-listed [] h = record { files = []; lists = nothing; sum = refl; at = λ m le. refl }
  entries-listed (e ∷ es) h =
      let rest = entries-listed es (All-tail (HasFilesBy known) e es h) in
      elim (directory_or e.mode) [
        | inl is ↦
            let some = some_and (known e.id) (λ s. s.files ≢ 0) (All-head (HasFilesBy known) e es h is) in
            a-directory e es some.0 is some.1 rest
        | inr ne ↦ a-file e es ne rest
      ]

  -- a plain tree has files
  plain-listed : (id : List ℕ) (c : Content) (s : Summary) → object_named id os ≡ Some c
      → c.kind ≡ kind.Tree → IsPlain known c.bytes s → IsListed os (suc n) id s
  plain-listed id c s there is p =
      let es : List TreeEntry = tree_read c.bytes in
      let t = entries-listed es p.directories in
      let same : c ≡ tree_content es = λ i. record { kind = is i; bytes = p.text.contents i } in
      let has : HasTree os id es =
      record { content = there ∙ ap (λ (x : Content). Some x) same; entries = p.text.writable } in record {
        files = t.files;
        lists = record { direct = es; tree = has; lists = t.lists };
        sum =
            p.sum
            ∙ fold-sums table.no_files (map (summary_by known) es)
            ∙ none-both (sums (map (summary_by known) es))
            ∙ t.sum;
        within = p.within;
        listed = λ m le. levels m le has (t.at);
      }
    where
      levels : (m : ℕ) → suc n ≤ m → HasTree os id (tree_read c.bytes)
          → ((k : ℕ) → n ≤ k → listed_at os k (tree_read c.bytes) ≡ (entries-listed (tree_read c.bytes) p.directories).files)
          → listed_within os m id ≡ (entries-listed (tree_read c.bytes) p.directories).files
      levels zero le has at = absurd (omega arith)
      levels (suc k) le has at = level os k id (tree_read c.bytes) has ∙ at k (omega arith)

-- ---- the files of all trees that have a summary

-- Of the first objects so much is known: names, and files of those that have a summary.
record IsKnownSo (os front : List Object) (n : ℕ) (named : NamedSums) : Type 0 where
  names : (id : List ℕ) → lookup (bytes_eq id) named ≡ None → object_named id front ≡ None
  listed : (id : List ℕ) (s : Summary) → known_in named id ≡ Some s → IsListed os n id s
  plain : (id : List ℕ) (s : Summary) → known_in named id ≡ Some s
      → IsPlainTree os (known_in named) id s

module _ (os front rest : List Object) (o : Object) (n : ℕ) (named : NamedSums)
    (is : os ≡ front ++ o ∷ rest) (so : IsKnownSo os front n named) where
  abbrev value : Option Summary
  value = content_sum (known_in named) o.content

  named-here : (id : List ℕ) → lookup (bytes_eq id) named ≡ None → bytes_eq id o.id ≡ true
      → object_named id os ≡ Some o.content
  named-here id none e =
      ap (object_named id) is ∙ named-after id front (o ∷ rest) (so.names id none)
      ∙ first_named id o rest e

  listed-more : (id : List ℕ) (s : Summary) → known_in (named ++ (o.id, value) ∷ []) id ≡ Some s
      → IsListed os (suc n) id s
  listed-more id s h =
      by (lookup (bytes_eq id) named) refl
      (sym (ap (option_and_then (λ v. v)) (lookup-pushed id named o.id value)) ∙ h)
    where
      here : (b : Bool) → bytes_eq id o.id ≡ b → lookup (bytes_eq id) named ≡ None
          → option_and_then (λ v. v) (cond b (Some value) None) ≡ Some s → IsListed os (suc n) id s
      here false e none v = cc v
      here true e none v =
          let t = summed-kind o.content.kind (plain_sum (known_in named) o.content.bytes) s v in
          plain-listed os n (known_in named) so.listed id o.content s (named-here id none e) t.0
          (plain-has (known_in named) o.content.bytes s t.1)

      by : (x : Option (Option Summary)) → lookup (bytes_eq id) named ≡ x
          → option_and_then (λ v. v) (or_else x (cond (bytes_eq id o.id) (Some value) None)) ≡ Some s
          → IsListed os (suc n) id s
      by (Some x) there v =
          later os n id s (so.listed id s (ap (option_and_then (λ v. v)) there ∙ v))
      by None none v = here (bytes_eq id o.id) refl none v

  names-more : (id : List ℕ) → lookup (bytes_eq id) (named ++ (o.id, value) ∷ []) ≡ None
      → object_named id (front ++ o ∷ []) ≡ None
  names-more id h =
      by (lookup (bytes_eq id) named) refl (sym (lookup-pushed id named o.id value) ∙ h)
    where
      here : (b : Bool) → bytes_eq id o.id ≡ b → lookup (bytes_eq id) named ≡ None
          → cond b (Some value) None ≡ None → object_named id (front ++ o ∷ []) ≡ None
      here true e none v = cc v
      here false e none v =
          named-after id front (o ∷ []) (so.names id none) ∙ later_named id o [] e ∙ nothing_named id

      by : (x : Option (Option Summary)) → lookup (bytes_eq id) named ≡ x
          → or_else x (cond (bytes_eq id o.id) (Some value) None) ≡ None
          → object_named id (front ++ o ∷ []) ≡ None
      by (Some x) there v = cc v
      by None none v = here (bytes_eq id o.id) refl none v

  plain-more : (id : List ℕ) (s : Summary) → known_in (with_sum named o) id ≡ Some s
      → IsPlainTree os (known_in (with_sum named o)) id s
  plain-more id s h =
      plain-later (known_in named) (known_in (with_sum named o))
      (λ key t. stays-known key t (o ∷ []) named) os id s
      (by (lookup (bytes_eq id) named) refl
      (sym (ap (option_and_then (λ v. v)) (lookup-pushed id named o.id value)) ∙ h))
    where
      here : (b : Bool) → bytes_eq id o.id ≡ b → lookup (bytes_eq id) named ≡ None
          → option_and_then (λ v. v) (cond b (Some value) None) ≡ Some s
          → IsPlainTree os (known_in named) id s
      here false e none v = cc v
      here true e none v =
          let t = summed-kind o.content.kind (plain_sum (known_in named) o.content.bytes) s v in record {
            content = o.content;
            there = named-here id none e;
            tree = t.0;
            plain = plain-has (known_in named) o.content.bytes s t.1;
          }

      by : (x : Option (Option Summary)) → lookup (bytes_eq id) named ≡ x
          → option_and_then (λ v. v) (or_else x (cond (bytes_eq id o.id) (Some value) None)) ≡ Some s
          → IsPlainTree os (known_in named) id s
      by (Some x) there v = so.plain id s (ap (option_and_then (λ v. v)) there ∙ v)
      by None none v = here (bytes_eq id o.id) refl none v

  known-more : IsKnownSo os (front ++ o ∷ []) (suc n) (with_sum named o)
  known-more = record { names = names-more; listed = listed-more; plain = plain-more }

all-known : (os front rest : List Object) (n : ℕ) (named : NamedSums) → os ≡ front ++ rest
    → IsKnownSo os front n named → (id : List ℕ) (s : Summary)
    → known_in (fold with_sum named rest) id ≡ Some s → IsListed os (length rest + n) id s
all-known os front [] n named is so id s h =
    subst (λ (k : ℕ). IsListed os k id s) (same n) (so.listed id s h)
  where
    same : (k : ℕ) → k ≡ 0 + k
    same k = omega arith
all-known os front (o ∷ rest) n named is so id s h =
    let t = all-known os (front ++ o ∷ []) rest (suc n) (with_sum named o)
    (is ∙ sym (append_assoc front (o ∷ []) rest)) (known-more os front rest o n named is so) id s h in
    subst (λ (k : ℕ). IsListed os k id s) (same (length rest)) t
  where
    same : (k : ℕ) → k + suc n ≡ suc k + n
    same k = omega arith

all-plain : (os front rest : List Object) (n : ℕ) (named : NamedSums) → os ≡ front ++ rest
    → IsKnownSo os front n named → (id : List ℕ) (s : Summary)
    → known_in (fold with_sum named rest) id ≡ Some s
    → IsPlainTree os (known_in (fold with_sum named rest)) id s
all-plain os front [] n named is so id s h = so.plain id s h
all-plain os front (o ∷ rest) n named is so id s h =
    all-plain os (front ++ o ∷ []) rest (suc n) (with_sum named o)
    (is ∙ sym (append_assoc front (o ∷ []) rest)) (known-more os front rest o n named is so) id s h

no-names : (os : List Object) → IsKnownSo os [] 0 []
unfolding object_named
no-names os =
    record { names = λ id none. refl; listed = λ id s h. cc h; plain = λ id s h. cc h }

-- What is told of a tree that has a summary.
pub known-files : (os : List Object) (id : List ℕ) (s : Summary) → sum_in os id ≡ Some s
    → AreFilesOf os id (stored_files os id) × (s ≡ files_summary (stored_files os id)) × IsWithin s
unfolding sum_in sums_of
known-files os id s h =
    let t = all-known os [] os 0 [] refl (no-names os) id s h in
    let files : stored_files os id ≡ t.files = t.listed (length os) (omega arith) in (
      record {
        listed = subst (ListsTree os id) (sym files) t.lists;
        only = λ others l. tree-only os id others (stored_files os id) l (subst (ListsTree os id) (sym files) t.lists);
      },
      t.sum ∙ ap files_summary (sym files),
      t.within,
    )

-- Its text is a writer's, and the trees of its directories have files.
pub sum-plain : (os : List Object) (id : List ℕ) (s : Summary) → sum_in os id ≡ Some s
    → IsPlainTree os (sum_in os) id s
unfolding sum_in sums_of
sum-plain os id s h = all-plain os [] os 0 [] refl (no-names os) id s h

pub sum-directories : (os : List Object) (id : List ℕ) (s : Summary) → sum_in os id ≡ Some s
    → (es : List TreeEntry) → HasTree os id es → All (HasFilesBy (sum_in os)) es
sum-directories os id s h es has =
    let p = sum-plain os id s h in
    let same : Some p.content ≡ Some (tree_content es) = sym p.there ∙ has.content in
    let read : tree_read p.content.bytes ≡ es =
    ap (λ (o : Option Content). tree_read (unwrap_or o p.content).bytes) same
    ∙ tree_back es has.entries in
    subst (All (HasFilesBy (sum_in os))) read p.plain.directories

-- ---- trees that have a summary

pub summed-listed : (os : List Object) (id : List ℕ) (s : Summary) → sum_in os id ≡ Some s
    → ListsPlain os id (stored_files os id)
summed-listed os id s h = record {
  tree = (known-files os id s h).0.listed;
  plain = subst (λ (o : Option Summary). IsSome o) (sym h) refl;
}

pub has-files : (os : List Object) (id : List ℕ) → HasSummary os id
    → ListsPlain os id (stored_files os id)
has-files os id h =
    let s = the_summary (sum_in os id) h in summed-listed os id s.0 s.1

module _ (os : List Object) (id : List ℕ) (fs : Listed) (t : ListsPlain os id fs) where
  plain-files : (s : Summary) × (sum_in os id ≡ Some s) × (fs ≡ stored_files os id)
      × (s ≡ files_summary (stored_files os id))
  plain-files =
      let s = the_summary (sum_in os id) t.plain in
      let known = known-files os id s.0 s.1 in
      (s.0, s.1, known.0.only fs t.tree, known.1)

  pub plain-stored : stored_files os id ≡ fs
  plain-stored = sym plain-files.2

  pub plain-sum : sum_in os id ≡ Some (files_summary fs)
  plain-sum =
      let p = plain-files in
      p.1 ∙ ap (λ (s : Summary). Some s) (p.3 ∙ ap files_summary (sym p.2))

-- a directory of such a tree has entries, and its tree has a summary
filled-entry : (os : List Object) (e : TreeEntry) → HasFilesBy (sum_in os) e
    → IsFilled os (HasSummary os) e
filled-entry os e h is = by (sum_in os e.id) refl (h is)
  where
    entries : (s : Summary) → sum_in os e.id ≡ Some s → s.files ≢ 0
        → HasEntries os (HasSummary os) e.id
    entries s has ne =
        let t = (summed-listed os e.id s has).tree in
        let sum = (known-files os e.id s has).1 in record {
          inside = t.direct;
          tree = t.tree;
          some = λ empty.
              let none : [] ≡ stored_files os e.id =
              lists-only nothing (stored_files os e.id)
              (subst (λ (x : List TreeEntry). Lists os x (stored_files os e.id)) empty t.lists) in
              ne (ap (λ (x : Summary). x.files) sum ∙ ap (λ (x : Listed). length x) (sym none));
          meant = subst (λ (o : Option Summary). IsSome o) (sym has) refl;
        }

    by : (o : Option Summary) → sum_in os e.id ≡ o → IsSomeAnd o (λ s. s.files ≢ 0)
        → HasEntries os (HasSummary os) e.id
    by None has h = absurd h
    by (Some s) has h = entries s has h

pub sum-filled : (os : List Object) (id : List ℕ) (es : List TreeEntry) → HasTree os id es
    → HasSummary os id → All (IsFilled os (HasSummary os)) es
sum-filled os id es has plain =
    let s = the_summary (sum_in os id) plain in
    let all = sum-directories os id s.0 s.1 es has in
    λ k d within. filled-entry os (get_or es k d) (all k d within)

-- ---- more objects

fold-more : (os more : List Object) (named : NamedSums)
    → fold with_sum named (os ++ more) ≡ fold with_sum (fold with_sum named os) more
fold-more [] more named = refl
fold-more (o ∷ os) more named = fold-more os more (with_sum named o)

-- a summary stays while objects are added
pub sum-longer : (os more : List Object) (id : List ℕ) (s : Summary) → sum_in os id ≡ Some s
    → sum_in (os ++ more) id ≡ Some s
unfolding sum_in sums_of
sum-longer os more id s h =
    ap (λ (named : NamedSums). known_in named id) (fold-more os more [])
    ∙ stays-known id s more (fold with_sum [] os) h

pub plain-longer : (os more : List Object) (id : List ℕ) → HasSummary os id
    → HasSummary (os ++ more) id
plain-longer os more id h =
    let s = the_summary (sum_in os id) h in
    subst (λ (o : Option Summary). IsSome o) (sym (sum-longer os more id s.0 s.1)) refl

plain-one : (id key : List ℕ) (c : Content) (os : List Object) → HasSummary os id
    → HasSummary (with_object key c os) id
plain-one id key c os h = by (is_some (object_named key os))
  where
    by : (b : Bool) → HasSummary (cond b os (os ++ record { id = key; content = c } ∷ [])) id
    by true = h
    by false = plain-longer os (record { id = key; content = c } ∷ []) id h

-- so a tree lists the same files
pub listed-later : (key : List ℕ) (c : Content) (os : List Object) (id : List ℕ) (fs : Listed)
    → ListsPlain os id fs → ListsPlain (with_object key c os) id fs
listed-later key c os id fs t = record {
  tree = record {
    direct = t.tree.direct;
    tree = has-later key c t.tree.tree;
    lists = lists-later key c t.tree.lists;
  };
  plain = plain-one id key c os t.plain;
}

pub plain-kept : (digest : List ℕ → List ℕ) (trees : List (List TreeEntry)) (os : List Object)
    (id : List ℕ) (fs : Listed) → ListsPlain os id fs → ListsPlain (with_trees digest trees os) id fs
plain-kept digest [] os id fs t = t
plain-kept digest (es ∷ trees) os id fs t =
    plain-kept digest trees (with_object (tree_name digest es) (tree_content es) os) id fs
    (listed-later (tree_name digest es) (tree_content es) os id fs t)

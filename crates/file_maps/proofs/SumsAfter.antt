-- The sums of the trees of good objects, one after another, are those of their files.
use Rattle.std.proofs.Common.{◌≡◌, ◌≢◌, ℕ, ◌+◌, ◌<◌, ◌⊎◌, inl, inr, Bool, cond, List, [], ◌∷◌, ◌++◌, length, map, fold, Option, None, Some, refl, sym, ap, ◌∙◌, subst, append_assoc, arith}
use Rattle.std.specs.Prelude.{IsSomeAnd}
use Rattle.std.specs.List.{AllByRecursion}
use Rattle.std.specs.Map.{lookup}
use Rattle.std.specs.Option.{option_map, unwrap_or}
use Rattle.std.specs.Str.{bytes_eq}
use Rattle.std.proofs.lemmas.Bool.{ne_eqb}
use Rattle.std.proofs.lemmas.List.{append-nil, length-append}
use Rattle.std.proofs.lemmas.List.Elements.{All-from_recursion}
use Rattle.std.proofs.lemmas.Slice.Eq.{bytes_eq-Decides}
use Rattle.git_model.specs.declared.file_mode.FileMode.{FileMode}
use Rattle.git_model.specs.declared.file_mode.FileMode.TheVariants as mode
use Rattle.git_model.specs.declared.kind.Kind.{Kind}
use Rattle.git_model.specs.declared.kind.Kind.TheVariants as kind
use Rattle.git_model.specs.Content.{Content}
use Rattle.git_model.specs.GoodRepository.{AreObjects}
use Rattle.git_model.specs.References.{kind_named, place_of, object_at}
use Rattle.git_model.specs.Repository.{Object, object_named}
use Rattle.git_model.specs.Tree.{TreeEntry, CanWriteTree, tree_contents}
use Rattle.git_model.specs.TreeReading.{tree_read}
use Rattle.git_model.proofs.Growing.{longer, after_prefix, prefix_is}
use Rattle.git_model.proofs.Places.{stands_at, first_object, later_object, first_named, later_named, nothing_named}
use Rattle.git_model.proofs.TreeReadings.{tree_back}
use Rattle.git_paths.proofs.Cases.{by_cases, some_is}
use Rattle.tenant_tables.specs.declared.summary.Summary.{Summary}
use Rattle.tenant_tables.specs.Trees as table
use Rattle.tenant_tables.specs.Sums.{Sums, sum_of_entry, sum_of_tree, HasFiles, IsWithin, FitsAfter, Fits, sums_with, TreesFit}
use Rattle.file_maps.specs.FileMap.{Listed}
use Rattle.file_maps.specs.Edits.{moved}
use Rattle.file_maps.specs.Storable.{files_summary}
use Rattle.file_maps.specs.StoredAgain.{Every, IsFilled}
use Rattle.file_maps.specs.StoredFiles.{stored_files}
use Rattle.file_maps.specs.StoredTree.{HasTree, file_from, Lists, nothing, first_file, first_directory, ListsTree}
use Rattle.file_maps.specs.Trees.{tree_content}
use Rattle.file_maps.proofs.Apart.{all-both, all-weaker}
use Rattle.file_maps.proofs.GoodObjects.{falls, files-of, good-trees, tree-from}
use Rattle.file_maps.proofs.GoodTrees.{has-longer, lists-longer}
use Rattle.file_maps.proofs.Listing.{has-only, tree-sound}
use Rattle.file_maps.proofs.Standing.{directory_or, both-summary, below-summary}
use Rattle.file_maps.proofs.StoredAgain.{filled-in}
use Rattle.file_maps.proofs.Sums.{none-both, sums, fold-sums, files-first, by_file}

-- ---- sums after objects

abbrev pub sums_after : Sums → List Object → Sums
sums_after so_far [] = so_far
sums_after so_far (o ∷ os) =
    sums_after (sums_with o.content.kind o.id o.content.bytes so_far) os

pub fits-append : (so_far : Sums) (os more : List Object) → TreesFit so_far os
    → TreesFit (sums_after so_far os) more → TreesFit so_far (os ++ more)
fits-append so_far [] more first rest = rest
fits-append so_far (o ∷ os) more first rest =
    (first.0, fits-append (sums_with o.content.kind o.id o.content.bytes so_far) os more first.1 rest)

pub tree-sums : (so_far : Sums) (es : List TreeEntry)
    → sum_of_tree so_far es ≡ sums (map (sum_of_entry so_far) es)
tree-sums so_far es =
    fold-sums table.no_files (map (sum_of_entry so_far) es)
    ∙ none-both (sums (map (sum_of_entry so_far) es))

-- ---- what is known stays

abbrev Keep : Sums → Sums → Type 0
Keep old new = (id : List ℕ) (s : Summary) → lookup (bytes_eq id) old ≡ Some s
    → lookup (bytes_eq id) new ≡ Some s

new-keeps : (so_far : Sums) (id : List ℕ) (s : Summary) → lookup (bytes_eq id) so_far ≡ None
    → Keep so_far ((id, s) ∷ so_far)
new-keeps so_far id s none other t is =
    by_cases (bytes_eq other id)
    (λ yea. let same : other ≡ id = (bytes_eq-Decides other id).0 yea in
    let no : lookup (bytes_eq other) so_far ≡ None =
    ap (λ (x : List ℕ). lookup (bytes_eq x) so_far) same ∙ none in cc)
    (λ nay. ap (λ (b : Bool). cond b (Some s) (lookup (bytes_eq other) so_far)) nay ∙ is)

with-files : (o : Option Summary) → IsSomeAnd o (λ s. s.files ≢ 0)
    → (s : Summary) × (o ≡ Some s) × (s.files ≢ 0)
with-files None h = absurd h
with-files (Some s) h = (s, refl, h)

module _ (old new : Sums) (keep : Keep old new) where
  files-kept : (e : TreeEntry) → HasFiles old e → HasFiles new e
  files-kept e h is =
      let s = with-files (lookup (bytes_eq e.id) old) (h is) in
      subst (λ (o : Option Summary). IsSomeAnd o (λ s. s.files ≢ 0)) (sym (keep e.id s.0 s.1)) s.2

  entry-kept : (e : TreeEntry) → HasFiles old e → sum_of_entry old e ≡ sum_of_entry new e
  entry-kept e h =
      elim (directory_or e.mode) [
        | inl is ↦
            let s = with-files (lookup (bytes_eq e.id) old) (h is) in
            ap (λ (o : Option Summary). table.by_mode e.mode
            (table.below e.name (unwrap_or o table.no_files)) (table.one_file e.name))
            (s.1 ∙ sym (keep e.id s.0 s.1))
        | inr ne ↦
            by_file e.mode _ (table.one_file e.name) ne
            ∙ sym (by_file e.mode _ (table.one_file e.name) ne)
      ]

  entries-kept : (es : List TreeEntry) → AllByRecursion (HasFiles old) es
      → map (sum_of_entry old) es ≡ map (sum_of_entry new) es
  entries-kept [] h = refl
  entries-kept (e ∷ es) h =
      let one = entry-kept e h.0 in let rest = entries-kept es h.1 in λ i. one i ∷ rest i

  sum-kept : (es : List TreeEntry) → AllByRecursion (HasFiles old) es
      → sum_of_tree old es ≡ sum_of_tree new es
  sum-kept es h = ap (fold table.both table.no_files) (entries-kept es h)

-- ---- the sums of objects

-- Each tree has its sum, and files in each of its directories; no other name has a sum.
pub record AreSums (os : List Object) (so_far : Sums) : Type 0 where
  pub noted : (id : List ℕ) (es : List TreeEntry) → HasTree os id es
      → lookup (bytes_eq id) so_far ≡ Some (sum_of_tree so_far es)
  pub directories : (id : List ℕ) (es : List TreeEntry) → HasTree os id es
      → AllByRecursion (HasFiles so_far) es
  pub known : (id : List ℕ) (s : Summary) → lookup (bytes_eq id) so_far ≡ Some s
      → object_named id os ≢ None

module _ (os : List Object) (so_far : Sums) (are : AreSums os so_far) where
  none-known : (id : List ℕ) → object_named id os ≡ None → lookup (bytes_eq id) so_far ≡ None
  none-known id none = by (lookup (bytes_eq id) so_far) refl
    where
      by : (o : Option Summary) → lookup (bytes_eq id) so_far ≡ o → o ≡ None
      by None is = refl
      by (Some s) is = absurd (are.known id s is none)

  -- the sum of a tree is that of its files
  lists-sums : {es : List TreeEntry} {fs : Listed} → Lists os es fs
      → sums (map (sum_of_entry so_far) es) ≡ files_summary fs
  lists-sums nothing = refl
  lists-sums (first_file e es files ne l) =
      ap (λ (s : Summary). table.both s (sums (map (sum_of_entry so_far) es)))
      (by_file e.mode _ (table.one_file e.name) ne)
      ∙ ap (table.both (table.one_file e.name)) (lists-sums l)
      ∙ sym (files-first (e.name ∷ []) (file_from e).1 files)
  lists-sums (first_directory e es inside below files is has sub l) =
      let within : lookup (bytes_eq e.id) so_far ≡ Some (files_summary below) =
      are.noted e.id inside has
      ∙ ap (λ (s : Summary). Some s) (tree-sums so_far inside ∙ lists-sums sub) in
      let here : sum_of_entry so_far e ≡ files_summary (moved (e.name ∷ []) below) =
      ap (λ (m : FileMode). table.by_mode m
      (table.below e.name (unwrap_or (lookup (bytes_eq e.id) so_far) table.no_files))
      (table.one_file e.name)) is
      ∙ ap (λ (o : Option Summary). table.below e.name (unwrap_or o table.no_files)) within
      ∙ below-summary e.name below
      (tree-sound os e.id below (record { direct = inside; tree = has; lists = sub })) in
      ap (λ (s : Summary). table.both s (sums (map (sum_of_entry so_far) es))) here
      ∙ ap (table.both (files_summary (moved (e.name ∷ []) below))) (lists-sums l)
      ∙ sym (both-summary (moved (e.name ∷ []) below) files)

  pub lists-sum : {es : List TreeEntry} {fs : Listed} → Lists os es fs
      → sum_of_tree so_far es ≡ files_summary fs
  lists-sum {es} l = tree-sums so_far es ∙ lists-sums l

  -- a tree with entries has files
  entry-some : (e : TreeEntry) → HasFiles so_far e → (sum_of_entry so_far e).files ≢ 0
  entry-some e h =
      elim (directory_or e.mode) [
        | inl is ↦
            let s = with-files (lookup (bytes_eq e.id) so_far) (h is) in
            let here : sum_of_entry so_far e ≡ table.below e.name s.0 =
            ap (λ (m : FileMode). table.by_mode m
            (table.below e.name (unwrap_or (lookup (bytes_eq e.id) so_far) table.no_files))
            (table.one_file e.name)) is
            ∙ ap (λ (o : Option Summary). table.below e.name (unwrap_or o table.no_files)) s.1 in
            subst (λ (t : Summary). t.files ≢ 0) (sym here) (rw (ne_eqb s.0.files 0 s.2) s.2)
        | inr ne ↦
            subst (λ (t : Summary). t.files ≢ 0)
            (sym (by_file e.mode _ (table.one_file e.name) ne)) (λ none. cc)
      ]

  pub tree-some : (es : List TreeEntry) → AllByRecursion (HasFiles so_far) es → es ≢ []
      → (sum_of_tree so_far es).files ≢ 0
  tree-some [] h some none = some refl
  tree-some (e ∷ es) h some none =
      let total : (sum_of_entry so_far e).files + (sums (map (sum_of_entry so_far) es)).files ≡ 0 =
      ap (λ (s : Summary). s.files) (sym (tree-sums so_far (e ∷ es))) ∙ none in
      entry-some e h.0 (omega arith)

-- ---- limits

-- The files of each tree are within the limits; and each tree's sum is.
abbrev pub AreWithin : List Object → Type 0
AreWithin os =
    (id : List ℕ) (files : Listed) → ListsTree os id files → IsWithin (files_summary files)

abbrev AreSumsWithin : List Object → Sums → Type 0
AreSumsWithin os so_far =
    (id : List ℕ) (es : List TreeEntry) → HasTree os id es → IsWithin (sum_of_tree so_far es)

within-before : (os more : List Object) → AreWithin (os ++ more) → AreWithin os
within-before os more within id fs t =
    within id fs (record {
      direct = t.direct;
      tree = has-longer os more id t.direct t.tree;
      lists = lists-longer os more t.lists;
    })

-- ---- one object more

-- what a name has then, it had, or has of the new object
pub found-in : (os : List Object) (o : Object) (id : List ℕ) (c : Content)
    → object_named id (os ++ o ∷ []) ≡ Some c
    → (object_named id os ≡ Some c) ⊎ ((id ≡ o.id) × (o.content ≡ c))
found-in os o id c is = by (object_named id os) refl
  where
    last : object_named id (o ∷ []) ≡ Some c → (id ≡ o.id) × (o.content ≡ c)
    last at =
        by_cases (bytes_eq id o.id)
        (λ yea. (
          (bytes_eq-Decides id o.id).0 yea,
          some_is o.content c (sym (first_named id o [] yea) ∙ at),
        ))
        (λ nay. let none = later_named id o [] nay ∙ nothing_named id in cc)

    by : (x : Option Content) → object_named id os ≡ x
        → (object_named id os ≡ Some c) ⊎ ((id ≡ o.id) × (o.content ≡ c))
    by None at = inr (last (sym (after_prefix id os (o ∷ []) at) ∙ is))
    by (Some d) at =
        inl (sym (longer id os (o ∷ []) (stands_at id os d at).within).object ∙ is)

tree-in : (os : List Object) (o : Object) (id : List ℕ) (es : List TreeEntry)
    → HasTree (os ++ o ∷ []) id es
    → HasTree os id es ⊎ ((id ≡ o.id) × (o.content ≡ tree_content es))
tree-in os o id es h =
    elim (found-in os o id (tree_content es) h.content) [
      | inl old ↦ inl (record { content = old; entries = h.entries })
      | inr new ↦ inr new
    ]

none-before : (os : List Object) (o : Object) (id : List ℕ) → object_named id (os ++ o ∷ []) ≡ None
    → object_named id os ≡ None
none-before os o id none = by (object_named id os) refl
  where
    by : (x : Option Content) → object_named id os ≡ x → x ≡ None
    by None at = refl
    by (Some d) at =
        let still = (longer id os (o ∷ []) (stands_at id os d at).within).object in cc

last-object : (os : List Object) (o : Object) → object_at (length os) (os ++ o ∷ []) ≡ o
last-object [] o = first_object o []
last-object (x ∷ os) o = later_object (length os) x (os ++ o ∷ []) ∙ last-object os o

-- what is known of a tree that comes after the others
record IsNext (os : List Object) (so_far : Sums) (o : Object) (es : List TreeEntry) : Type 0 where
  has : HasTree (os ++ o ∷ []) o.id es
  files : AllByRecursion (HasFiles so_far) es

module _ (digest : List ℕ → List ℕ) (os : List Object) (o : Object)
    (good : AreObjects digest (os ++ o ∷ [])) where
  new-name : object_named o.id os ≡ None
  new-name = by (object_named o.id os) refl
    where
      by : (x : Option Content) → object_named o.id os ≡ x → x ≡ None
      by None at = refl
      by (Some d) at =
          let n = length-append os (o ∷ []) in
          let before = (stands_at o.id os d at).within in
          let still = (longer o.id os (o ∷ []) before).place in
          let end : place_of (object_at (length os) (os ++ o ∷ [])).id (os ++ o ∷ []) ≡ length os =
          good.distinct (length os) (omega arith) in
          let last : place_of o.id (os ++ o ∷ []) ≡ length os =
          ap (λ (x : Object). place_of x.id (os ++ o ∷ [])) (sym (last-object os o)) ∙ end in
          absurd (omega arith)

  named-new : object_named o.id (os ++ o ∷ []) ≡ Some o.content
  named-new =
      after_prefix o.id os (o ∷ []) new-name
      ∙ first_named o.id o [] ((bytes_eq-Decides o.id o.id).1 refl)

  -- its contents say the entries of its tree
  same-content : (es : List TreeEntry) → HasTree (os ++ o ∷ []) o.id es
      → o.content ≡ tree_content es
  same-content es h = some_is o.content (tree_content es) (sym named-new ∙ h.content)

  tree-reads : (es : List TreeEntry) → HasTree (os ++ o ∷ []) o.id es
      → tree_read o.content.bytes ≡ es
  tree-reads es h =
      ap (λ (c : Content). tree_read c.bytes) (same-content es h) ∙ tree_back es h.entries

  module _ (so_far : Sums) (are : AreSums os so_far) where
    -- the tree of a directory stands before, and has files
    directory-files : (e : TreeEntry) → place_of e.id (os ++ o ∷ []) < place_of o.id (os ++ o ∷ [])
        → (inside : List TreeEntry) → HasTree (os ++ o ∷ []) e.id inside → inside ≢ []
        → IsSomeAnd (lookup (bytes_eq e.id) so_far) (λ s. s.files ≢ 0)
    directory-files e before inside has some =
        elim (tree-in os o e.id inside has) [
          | inl old ↦
              subst (λ (x : Option Summary). IsSomeAnd x (λ s. s.files ≢ 0))
              (sym (are.noted e.id inside old))
              (tree-some os so_far are inside (are.directories e.id inside old) some)
          | inr new ↦
              (let same = ap (λ (x : List ℕ). place_of x (os ++ o ∷ [])) new.0 in
              absurd (omega arith))
        ]

    next-tree : o.content.kind ≡ kind.Tree → (es : List TreeEntry) × IsNext os so_far o es
    next-tree is =
        let t = tree-from digest (os ++ o ∷ []) good o.id (Some o.content) named-new
        (ap (λ (k : Kind). Some k) is) in
        let trees = good-trees digest (os ++ o ∷ []) good in
        let before = falls digest (os ++ o ∷ []) good o.id t.0 t.1 in
        let filled = filled-in digest (os ++ o ∷ []) Every trees o.id t.0 t.1 tt in (
          t.0,
          record {
            has = t.1;
            files = all-weaker
                (λ (e : TreeEntry). (e.mode ≡ mode.Directory → place_of e.id (os ++ o ∷ []) < place_of o.id (os ++ o ∷ []))
                × IsFilled (os ++ o ∷ []) Every e)
                (HasFiles so_far)
                (λ e h is. let inside = h.1 is in
                directory-files e (h.0 is) inside.inside inside.tree inside.some)
                t.0 (all-both _ (IsFilled (os ++ o ∷ []) Every) t.0 before filled);
          },
        )

    -- ---- a tree

    abbrev with-tree : Sums
    with-tree = (o.id, sum_of_tree so_far (tree_read o.content.bytes)) ∷ so_far

    keep : Keep so_far with-tree
    keep = new-keeps so_far o.id (sum_of_tree so_far (tree_read o.content.bytes))
        (none-known os so_far are o.id new-name)

    module _ (es : List TreeEntry) (next : IsNext os so_far o es) where
      files-of-last : (id : List ℕ) (ds : List TreeEntry) → HasTree (os ++ o ∷ []) id ds
          → id ≡ o.id → AllByRecursion (HasFiles so_far) ds
      files-of-last id ds h is =
          subst (AllByRecursion (HasFiles so_far))
          (has-only (os ++ o ∷ []) o.id es ds next.has
          (subst (λ (x : List ℕ). HasTree (os ++ o ∷ []) x ds) is h)) next.files

      reads-last : (id : List ℕ) (ds : List TreeEntry) → HasTree (os ++ o ∷ []) id ds → id ≡ o.id
          → tree_read o.content.bytes ≡ ds
      reads-last id ds h is =
          tree-reads ds (subst (λ (x : List ℕ). HasTree (os ++ o ∷ []) x ds) is h)

      tree-sums-after : AreSums (os ++ o ∷ []) with-tree
      tree-sums-after = record {
        noted = λ id ds h. elim (tree-in os o id ds h) [
          | inl old ↦
              keep id (sum_of_tree so_far ds) (are.noted id ds old)
              ∙ ap (λ (s : Summary). Some s)
              (sum-kept so_far with-tree keep ds (are.directories id ds old))
          | inr last ↦
              ap (λ (b : Bool). cond b (Some (sum_of_tree so_far (tree_read o.content.bytes)))
              (lookup (bytes_eq id) so_far)) ((bytes_eq-Decides id o.id).1 last.0)
              ∙ ap (λ (xs : List TreeEntry). Some (sum_of_tree so_far xs)) (reads-last id ds h last.0)
              ∙ ap (λ (s : Summary). Some s)
              (sum-kept so_far with-tree keep ds (files-of-last id ds h last.0))
        ];
        directories = λ id ds h.
            all-weaker (HasFiles so_far) (HasFiles with-tree) (files-kept so_far with-tree keep) ds
            (elim (tree-in os o id ds h) [
              | inl old ↦ are.directories id ds old
              | inr last ↦ files-of-last id ds h last.0
            ]);
        known = λ id s at none.
            by_cases (bytes_eq id o.id)
            (λ yea. let there : object_named id (os ++ o ∷ []) ≡ Some o.content =
            ap (λ (x : List ℕ). object_named x (os ++ o ∷ []))
            ((bytes_eq-Decides id o.id).0 yea) ∙ named-new in
            let no : ◌≡◌ {A = Option Content} None (Some o.content) = sym none ∙ there in cc)
            (λ nay. are.known id s
            (ap (λ (b : Bool). cond b (Some (sum_of_tree so_far (tree_read o.content.bytes)))
            (lookup (bytes_eq id) so_far)) (sym nay) ∙ at) (none-before os o id none));
      }

      tree-fits : AreWithin (os ++ o ∷ []) → Fits kind.Tree o.content.bytes so_far
      tree-fits within =
          let reads = tree-reads es next.has in
          let same = same-content es next.has in
          let kinds : kind_named o.id (os ++ o ∷ []) ≡ Some kind.Tree =
          ap (option_map (λ (c : Content). c.kind)) next.has.content in
          let t = (files-of digest (os ++ o ∷ []) good o.id kinds).listed in
          let fs = stored_files (os ++ o ∷ []) o.id in
          let lists : Lists (os ++ o ∷ []) es fs =
          subst (λ (ds : List TreeEntry). Lists (os ++ o ∷ []) ds fs)
          (has-only (os ++ o ∷ []) o.id t.direct es t.tree next.has) t.lists in
          let sum : sum_of_tree so_far es ≡ files_summary fs =
          sum-kept so_far with-tree keep es next.files
          ∙ lists-sum (os ++ o ∷ []) with-tree tree-sums-after lists in (
            record {
              writable = subst CanWriteTree (sym reads) next.has.entries;
              contents = ap (λ (c : Content). c.bytes) same ∙ ap tree_contents (sym reads);
            },
            record {
              directories = All-from_recursion (HasFiles so_far) (tree_read o.content.bytes)
                  (subst (AllByRecursion (HasFiles so_far)) (sym reads) next.files);
              within = subst IsWithin (sym sum
                  ∙ ap (sum_of_tree so_far) (sym reads)) (within o.id fs t);
            },
          )

      tree-within : FitsAfter so_far (tree_read o.content.bytes) → AreSumsWithin os so_far
          → AreSumsWithin (os ++ o ∷ []) with-tree
      tree-within fits within id ds h =
          elim (tree-in os o id ds h) [
            | inl old ↦
                subst IsWithin (sum-kept so_far with-tree keep ds (are.directories id ds old))
                (within id ds old)
            | inr last ↦
                subst IsWithin
                (ap (sum_of_tree so_far) (reads-last id ds h last.0)
                ∙ sum-kept so_far with-tree keep ds (files-of-last id ds h last.0)) fits.within
          ]

    -- ---- any other object

    tree-before : o.content.kind ≢ kind.Tree → (id : List ℕ) (ds : List TreeEntry)
        → HasTree (os ++ o ∷ []) id ds → HasTree os id ds
    tree-before ne id ds h =
        elim (tree-in os o id ds h) [
          | inl old ↦ old
          | inr last ↦ absurd (ne (ap (λ (c : Content). c.kind) last.1))
        ]

    other-sums-after : o.content.kind ≢ kind.Tree → AreSums (os ++ o ∷ []) so_far
    other-sums-after ne = record {
      noted = λ id ds h. are.noted id ds (tree-before ne id ds h);
      directories = λ id ds h. are.directories id ds (tree-before ne id ds h);
      known = λ id s at none. are.known id s at (none-before os o id none);
    }

    other-within : o.content.kind ≢ kind.Tree → AreSumsWithin os so_far
        → AreSumsWithin (os ++ o ∷ []) so_far
    other-within ne within id ds h = within id ds (tree-before ne id ds h)

    -- ---- by its kind

    sums-by : (k : Kind) → o.content.kind ≡ k
        → AreSums (os ++ o ∷ []) (sums_with k o.id o.content.bytes so_far)
    sums-by kind.Tree is = let t = next-tree is in tree-sums-after t.0 t.1
    sums-by kind.Blob is = other-sums-after (λ t. cc)
    sums-by kind.Commit is = other-sums-after (λ t. cc)
    sums-by kind.Tag is = other-sums-after (λ t. cc)

    fits-by : (k : Kind) → o.content.kind ≡ k → AreWithin (os ++ o ∷ [])
        → Fits k o.content.bytes so_far
    fits-by kind.Tree is within = let t = next-tree is in tree-fits t.0 t.1 within
    fits-by kind.Blob is within = tt
    fits-by kind.Commit is within = tt
    fits-by kind.Tag is within = tt

    within-by : (k : Kind) → o.content.kind ≡ k → Fits k o.content.bytes so_far
        → AreSumsWithin os so_far
        → AreSumsWithin (os ++ o ∷ []) (sums_with k o.id o.content.bytes so_far)
    within-by kind.Tree is fits within = let t = next-tree is in tree-within t.0 t.1 fits.1 within
    within-by kind.Blob is fits within = other-within (λ t. cc) within
    within-by kind.Commit is fits within = other-within (λ t. cc) within
    within-by kind.Tag is fits within = other-within (λ t. cc) within

-- ---- all objects

no-sums : AreSums [] []
no-sums = record {
  noted = λ id es h. let none = nothing_named id in let some = h.content in cc;
  directories = λ id es h. let none = nothing_named id in let some = h.content in cc;
  known = λ id s at. cc;
}

module _ (digest : List ℕ → List ℕ) where
  shifted : (os : List Object) (o : Object) (more : List Object)
      → AreObjects digest (os ++ o ∷ more) → AreObjects digest ((os ++ o ∷ []) ++ more)
  shifted os o more good = subst (AreObjects digest) (sym (append_assoc os (o ∷ []) more)) good

  all-sums : (more os : List Object) (so_far : Sums) → AreObjects digest (os ++ more)
      → AreSums os so_far → AreSums (os ++ more) (sums_after so_far more)
  all-sums [] os so_far good are =
      subst (λ (l : List Object). AreSums l so_far) (sym (append-nil os)) are
  all-sums (o ∷ more) os so_far good are =
      let all = shifted os o more good in
      let here = prefix_is digest (os ++ o ∷ []) more all in
      let with_next = sums_with o.content.kind o.id o.content.bytes so_far in
      subst (λ (l : List Object). AreSums l (sums_after with_next more)) (append_assoc os (o ∷ []) more)
      (all-sums more (os ++ o ∷ []) with_next all
      (sums-by digest os o here so_far are o.content.kind refl))

  all-fit : (more os : List Object) (so_far : Sums) → AreObjects digest (os ++ more)
      → AreSums os so_far → AreWithin (os ++ more) → TreesFit so_far more
  all-fit [] os so_far good are within = tt
  all-fit (o ∷ more) os so_far good are within =
      let all = shifted os o more good in
      let here = prefix_is digest (os ++ o ∷ []) more all in
      let rest = subst AreWithin (sym (append_assoc os (o ∷ []) more)) within in (
        fits-by digest os o here so_far are o.content.kind refl
            (within-before (os ++ o ∷ []) more rest),
        all-fit more (os ++ o ∷ []) (sums_with o.content.kind o.id o.content.bytes so_far) all
            (sums-by digest os o here so_far are o.content.kind refl) rest,
      )

  all-within : (more os : List Object) (so_far : Sums) → AreObjects digest (os ++ more)
      → AreSums os so_far → TreesFit so_far more → AreSumsWithin os so_far
      → AreSumsWithin (os ++ more) (sums_after so_far more)
  all-within [] os so_far good are fits within =
      subst (λ (l : List Object). AreSumsWithin l so_far) (sym (append-nil os)) within
  all-within (o ∷ more) os so_far good are fits within =
      let all = shifted os o more good in
      let here = prefix_is digest (os ++ o ∷ []) more all in
      let with_next = sums_with o.content.kind o.id o.content.bytes so_far in
      subst (λ (l : List Object). AreSumsWithin l (sums_after with_next more))
      (append_assoc os (o ∷ []) more)
      (all-within more (os ++ o ∷ []) with_next all
      (sums-by digest os o here so_far are o.content.kind refl) fits.1
      (within-by digest os o here so_far are o.content.kind refl fits.0 within))

  -- ---- trees fit where their files do

  module _ (os : List Object) (good : AreObjects digest os) where
    pub good-sums : AreSums os (sums_after [] os)
    good-sums = all-sums os [] [] good no-sums

    pub fit-from : AreWithin os → TreesFit [] os
    fit-from within = all-fit os [] [] good no-sums within

    pub within-from : TreesFit [] os → AreWithin os
    within-from fits id fs t =
        subst IsWithin (lists-sum os (sums_after [] os) good-sums t.lists)
        (all-within os [] [] good no-sums fits
        (λ id es h. let none = nothing_named id in let some = h.content in cc) id t.direct t.tree)

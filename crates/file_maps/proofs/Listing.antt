-- What direct entries list: one list of files, which stand apart where the names are distinct.
use Rattle.std.proofs.Common.{◌≡◌, ◌≢◌, ℕ, zero, suc, ◌<◌, true, false, List, [], ◌∷◌, ◌++◌, length, get_or, ◌⊎◌, inl, inr, refl, sym, ap, ◌∙◌, subst, append_assoc, arith}
use Rattle.std.specs.Prelude.{AllPairs}
use Rattle.std.specs.List.{AllByRecursion}
use Rattle.std.specs.Str.{bytes_eq}
use Rattle.std.proofs.lemmas.Slice.Eq.{bytes_eq-Decides}
use Rattle.std.proofs.lemmas.List.{append-nil}
use Rattle.std.proofs.lemmas.List.Elements.{recursion_from_All}
use Rattle.git_model.specs.declared.file_mode.FileMode.TheVariants as mode
use Rattle.git_model.specs.Content.{Content}
use Rattle.git_model.specs.ObjectName.{IsObjectName}
use Rattle.git_model.specs.Repository.{Object}
use Rattle.git_model.specs.Tree.{TreeEntry, CanWriteEntry}
use Rattle.git_paths.proofs.Cases.{by_cases, some_is}
use Rattle.tenant_tables.proofs.TreeTexts.{tree_contents-injective}
use Rattle.file_maps.specs.declared.entry.Entry.{Entry}
use Rattle.file_maps.specs.FileMap.{Path, Listed, is_apart, ArePairwiseApart}
use Rattle.file_maps.specs.Edits.{moved}
use Rattle.file_maps.specs.Trees.{tree_content}
use Rattle.file_maps.specs.StoredTree.{HasTree, file_from, Lists, nothing, first_file, first_directory, ListsTree}
use Rattle.file_maps.proofs.Apart.{all-map, all-weaker, is_apart-below}

-- ---- entries after others

-- what is listed of entries after others stands after what is listed of these
pub lists-append : {os : List Object} {ds : List TreeEntry} {gs : Listed} → Lists os ds gs
    → {es : List TreeEntry} {fs : Listed} → Lists os es fs → Lists os (es ++ ds) (fs ++ gs)
lists-append k nothing = k
lists-append {os} {ds} {gs} k (first_file e es files ne l) =
    first_file e (es ++ ds) (files ++ gs) ne (lists-append k l)
lists-append {os} {ds} {gs} k (first_directory e es inside below files is has sub l) =
    subst (Lists os (e ∷ (es ++ ds))) (sym (append_assoc (moved (e.name ∷ []) below) files gs))
    (first_directory e (es ++ ds) inside below (files ++ gs) is has sub (lists-append k l))

pub lists-file : {os : List Object} (e : TreeEntry) → e.mode ≢ mode.Directory
    → Lists os (e ∷ []) (file_from e ∷ [])
lists-file e ne = first_file e [] [] ne nothing

pub lists-directory : {os : List Object} (e : TreeEntry) (below : Listed) → e.mode ≡ mode.Directory
    → ListsTree os e.id below → Lists os (e ∷ []) (moved (e.name ∷ []) below)
lists-directory {os} e below is t =
    subst (Lists os (e ∷ [])) (append-nil (moved (e.name ∷ []) below))
    (first_directory e [] t.direct below [] is t.tree t.lists nothing)

-- ---- one list

-- the objects have one tree under a name
pub has-only : (os : List Object) (id : List ℕ) (es ds : List TreeEntry) → HasTree os id es
    → HasTree os id ds → es ≡ ds
has-only os id es ds h k =
    let same : tree_content es ≡ tree_content ds = some_is (tree_content es) (tree_content ds) (sym h.content ∙ k.content) in
    tree_contents-injective es ds h.entries k.entries (ap (λ (c : Content). c.bytes) same)

-- how the files of the first entry stand before those of the others
pub record FirstFile (os : List Object) (e : TreeEntry) (es : List TreeEntry) (fs : Listed) : Type 0 where
  pub rest : Listed
  pub no_directory : e.mode ≢ mode.Directory
  pub lists : Lists os es rest
  pub is : fs ≡ file_from e ∷ rest

pub record FirstDirectory (os : List Object) (e : TreeEntry) (es : List TreeEntry) (fs : Listed) : Type 0 where
  pub inside : List TreeEntry
  pub below : Listed
  pub rest : Listed
  pub directory : e.mode ≡ mode.Directory
  pub tree : HasTree os e.id inside
  pub within : Lists os inside below
  pub lists : Lists os es rest
  pub is : fs ≡ moved (e.name ∷ []) below ++ rest

abbrev pub Inverted : List Object → List TreeEntry → Listed → Type 0
Inverted os [] fs = fs ≡ []
Inverted os (e ∷ es) fs = FirstFile os e es fs ⊎ FirstDirectory os e es fs

inverted : {os : List Object} {es : List TreeEntry} {fs : Listed} → Lists os es fs
    → Inverted os es fs
inverted nothing = refl
inverted (first_file e es files ne l) =
    inl (record { rest = files; no_directory = ne; lists = l; is = refl })
inverted (first_directory e es inside below files is has sub l) =
    inr
    (record { inside = inside; below = below; rest = files; directory = is; tree = has; within = sub; lists = l; is = refl })

pub lists-only : {os : List Object} {es : List TreeEntry} {fs : Listed} → Lists os es fs
    → (gs : Listed) → Lists os es gs → fs ≡ gs
lists-only nothing gs k = sym (inverted k)
lists-only (first_file e es files ne l) gs k =
    elim (inverted k) [
      | inl f ↦ ap (λ (r : Listed). file_from e ∷ r) (lists-only l f.rest f.lists) ∙ sym f.is
      | inr d ↦ absurd (ne d.directory)
    ]
lists-only {os} (first_directory e es inside below files is has sub l) gs k =
    elim (inverted k) [
      | inl f ↦ absurd (f.no_directory is)
      | inr d ↦
          let same : below ≡ d.below = lists-only sub d.below (subst (λ (x : List TreeEntry). Lists os x d.below) (has-only os e.id d.inside inside d.tree has) d.within) in
          ap (λ (r : Listed). moved (e.name ∷ []) below ++ r) (lists-only l d.rest d.lists)
          ∙ ap (λ (b : Listed). moved (e.name ∷ []) b ++ d.rest) same ∙ sym d.is
    ]

-- a name has one list of files
pub tree-only : (os : List Object) (id : List ℕ) (fs gs : Listed) → ListsTree os id fs
    → ListsTree os id gs → fs ≡ gs
tree-only os id fs gs a b =
    lists-only a.lists gs
    (subst (λ (x : List TreeEntry). Lists os x gs) (has-only os id b.direct a.direct b.tree a.tree) b.lists)

-- ---- files that stand apart

pub all-append : {A : Type 0} (P : A → Type 0) (xs ys : List A) → AllByRecursion P xs
    → AllByRecursion P ys → AllByRecursion P (xs ++ ys)
all-append P [] ys h k = k
all-append P (x ∷ xs) ys h k = (h.0, all-append P xs ys h.1 k)

pub apart-append : (xs ys : Listed) → ArePairwiseApart xs
    → AllByRecursion (λ f. AllByRecursion (λ g. is_apart f.0 g.0 ≡ true) ys) xs
    → ArePairwiseApart ys → ArePairwiseApart (xs ++ ys)
apart-append [] ys h across k = k
apart-append (x ∷ xs) ys h across k =
    (all-append (λ (g : Path × Entry). is_apart x.0 g.0 ≡ true) xs ys h.0 across.0, apart-append xs ys h.1 across.1 k)

-- files stand apart after any path
pub apart-moved : (top : Path) (fs : Listed) → ArePairwiseApart fs → ArePairwiseApart (moved top fs)
apart-moved top [] h = tt
apart-moved top (f ∷ fs) h = (
  all-map (λ (g : Path × Entry). (top ++ g.0, g.1))
      (λ (g : Path × Entry). is_apart (top ++ f.0) g.0 ≡ true) fs
      (all-weaker (λ (g : Path × Entry). is_apart f.0 g.0 ≡ true) (λ (g : Path × Entry). is_apart (top ++ f.0) (top ++ g.0) ≡ true)
      (λ g a. is_apart-below top f.0 g.0 ∙ a) fs h.0),
  apart-moved top fs h.1,
)

differ : (c d : List ℕ) → c ≢ d → bytes_eq c d ≡ false
differ c d ne =
    by_cases (bytes_eq c d) (λ yea. absurd (ne ((bytes_eq-Decides c d).0 yea))) (λ nay. nay)

-- paths stand apart where their first components differ
first_apart : (c d : List ℕ) (p q : Path) → c ≢ d → is_apart (c ∷ p) (d ∷ q) ≡ true
first_apart c d p q ne =
    let a = differ c d ne in let b = differ d c (λ e. ne (sym e)) in rw (a, b) refl

-- the names of entries are distinct, by recursion
abbrev pub Distinct : List TreeEntry → Type 0
Distinct [] = Unit {0}
Distinct (e ∷ es) = AllByRecursion (λ d. e.name ≢ d.name) es × Distinct es

all_at : {X : Type 0} (P : X → Type 0) (xs : List X)
    → ((k : ℕ) (d : X) → k < length xs → P (get_or xs k d)) → AllByRecursion P xs
all_at P [] h = tt
all_at P (x ∷ xs) h = (h zero x (omega arith), all_at P xs (λ k d lt. h (suc k) d (omega arith)))

NamesDiffer : TreeEntry → TreeEntry → Type 0
NamesDiffer a b = a.name ≢ b.name

pub distinct : (es : List TreeEntry) → AllPairs (λ a b. a.name ≢ b.name) es → Distinct es
distinct [] h = tt
distinct (e ∷ es) h = (
  all_at (λ (d : TreeEntry). e.name ≢ d.name) es
      (λ k d lt. h zero (suc k) d (omega arith) (omega arith)),
  distinct es (λ i j d a b. h (suc i) (suc j) d (omega arith) (omega arith)),
)

-- what is listed stands apart from all below a name that no entry has
lists-other : {os : List Object} (c : List ℕ) {es : List TreeEntry} {fs : Listed} → Lists os es fs
    → AllByRecursion (λ e. c ≢ e.name) es
    → (p : Path) → AllByRecursion (λ f. is_apart (c ∷ p) f.0 ≡ true) fs
lists-other c nothing other p = tt
lists-other c (first_file e es files ne l) other p =
    (first_apart c e.name p [] other.0, lists-other c l other.1 p)
lists-other c (first_directory e es inside below files is has sub l) other p =
    all-append (λ (f : Path × Entry). is_apart (c ∷ p) f.0 ≡ true) (moved (e.name ∷ []) below) files
    (all-map (λ (g : Path × Entry). (e.name ∷ [] ++ g.0, g.1)) (λ (f : Path × Entry). is_apart (c ∷ p) f.0 ≡ true) below (each below))
    (lists-other c l other.1 p)
  where
    each : (gs : Listed)
        → AllByRecursion (λ (g : Path × Entry). is_apart (c ∷ p) (e.name ∷ g.0) ≡ true) gs
    each [] = tt
    each (g ∷ gs) = (first_apart c e.name p g.0 other.0, each gs)

pub lists-apart : {os : List Object} {es : List TreeEntry} {fs : Listed} → Lists os es fs
    → Distinct es → ArePairwiseApart fs
lists-apart nothing d = tt
lists-apart (first_file e es files ne l) d = (lists-other e.name l d.0 [], lists-apart l d.1)
lists-apart (first_directory e es inside below files is has sub l) d =
    apart-append (moved (e.name ∷ []) below) files
    (apart-moved (e.name ∷ []) below (lists-apart sub (distinct inside has.entries.names_are_distinct)))
    (all-map (λ (g : Path × Entry). (e.name ∷ [] ++ g.0, g.1)) (λ (f : Path × Entry). AllByRecursion (λ g. is_apart f.0 g.0 ≡ true) files) below (each below))
    (lists-apart l d.1)
  where
    each : (gs : Listed)
        → AllByRecursion (λ (g : Path × Entry). AllByRecursion (λ h. is_apart (e.name ∷ g.0) h.0 ≡ true) files) gs
    each [] = tt
    each (g ∷ gs) = (lists-other e.name l d.0 g.0, each gs)

pub tree-apart : (os : List Object) (id : List ℕ) (fs : Listed) → ListsTree os id fs
    → ArePairwiseApart fs
tree-apart os id fs t = lists-apart t.lists (distinct t.direct t.tree.entries.names_are_distinct)

-- ---- files that are sound

-- what is so of the file of each entry, and stays so below a directory, is so of all files
module _ (P : Path × Entry → Type 0)
    (one : (e : TreeEntry) → CanWriteEntry e → e.mode ≢ mode.Directory → P (file_from e))
    (more : (e : TreeEntry) → CanWriteEntry e → (g : Path × Entry) → P g → P (e.name ∷ g.0, g.1)) where
  lists-each : {os : List Object} {es : List TreeEntry} {fs : Listed} → Lists os es fs
      → AllByRecursion CanWriteEntry es → AllByRecursion P fs
  lists-each nothing h = tt
  lists-each (first_file e es files ne l) h = (one e h.0 ne, lists-each l h.1)
  lists-each (first_directory e es inside below files is has sub l) h =
      all-append P (moved (e.name ∷ []) below) files
      (all-map (λ (g : Path × Entry). (e.name ∷ [] ++ g.0, g.1)) P below
      (all-weaker P (λ (g : Path × Entry). P (e.name ∷ g.0, g.1)) (more e h.0) below
      (lists-each sub (recursion_from_All CanWriteEntry inside has.entries.entries))))
      (lists-each l h.1)

  pub tree-each : (os : List Object) (id : List ℕ) (fs : Listed) → ListsTree os id fs
      → AllByRecursion P fs
  tree-each os id fs t =
      lists-each t.lists (recursion_from_All CanWriteEntry t.direct t.tree.entries.entries)

-- A file stands below the root, is no directory, and has an object name.
pub record IsSound (f : Path × Entry) : Type 0 where
  pub below_the_root : f.0 ≢ []
  pub mode : f.1.mode ≢ mode.Directory
  pub name : IsObjectName f.1.name

pub tree-sound : (os : List Object) (id : List ℕ) (fs : Listed) → ListsTree os id fs
    → AllByRecursion IsSound fs
tree-sound =
    tree-each IsSound (λ e h ne. record { below_the_root = λ is. cc is; mode = ne; name = h.id })
    (λ e h g s. record { below_the_root = λ is. cc is; mode = s.mode; name = s.name })

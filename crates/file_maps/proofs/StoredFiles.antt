-- The files of a stored tree are those that it lists, where each directory's tree has a lower rank.
use Rattle.std.proofs.Common.{◌≡◌, ◌≢◌, ℕ, zero, suc, ◌<◌, List, [], ◌∷◌, ◌++◌, Option, refl, sym, ap, ◌∙◌, subst, arith}
use Rattle.std.specs.Prelude.{unwrap_or}
use Rattle.std.specs.List.{AllByRecursion, flat_map}
use Rattle.git_model.specs.declared.file_mode.FileMode.{FileMode}
use Rattle.git_model.specs.declared.file_mode.FileMode.TheVariants as mode
use Rattle.git_model.specs.Content.{Content, no_content}
use Rattle.git_model.specs.Tree.{TreeEntry}
use Rattle.git_model.specs.Repository.{Object}
use Rattle.git_model.specs.StoredPath.{entries_in, entries_of}
use Rattle.git_model.proofs.TreeReadings.{tree_back}
use Rattle.file_maps.specs.FileMap.{Listed}
use Rattle.file_maps.specs.Edits.{moved}
use Rattle.file_maps.specs.StoredTree.{HasTree, file_from, Lists, nothing, first_file, first_directory, ListsTree}
use Rattle.file_maps.specs.StoredFiles.{listed_by, listed_within}
use Rattle.file_maps.proofs.Apart.{all-weaker}

pub one_file : (m : FileMode) (e : TreeEntry) (b : Listed) → m ≢ mode.Directory
    → listed_by m e b ≡ file_from e ∷ []
one_file mode.Directory e b ne = absurd (ne refl)
one_file mode.Regular e b ne = refl
one_file mode.Executable e b ne = refl
one_file mode.Symlink e b ne = refl
one_file mode.Gitlink e b ne = refl

-- The tree of each directory among entries has a rank below a bound.
abbrev pub RanksBelow : (List ℕ → ℕ) → ℕ → List TreeEntry → Type 0
RanksBelow rank n es = AllByRecursion (λ e. e.mode ≡ mode.Directory → rank e.id < n) es

module _ (os : List Object) where
  pub entries-at : (id : List ℕ) (es : List TreeEntry) → HasTree os id es → entries_of os id ≡ es
  entries-at id es h =
      ap (λ (o : Option Content). entries_in (unwrap_or o no_content).kind
      (unwrap_or o no_content).bytes) h.content ∙ tree_back es h.entries

  abbrev pub listed_at : ℕ → List TreeEntry → Listed
  listed_at n es = flat_map (λ e. listed_by e.mode e (listed_within os n e.id)) es

  pub level : (n : ℕ) (id : List ℕ) (es : List TreeEntry) → HasTree os id es
      → listed_within os (suc n) id ≡ listed_at n es
  unfolding listed_within
  level n id es h = ap (listed_at n) (entries-at id es h)

module _ (os : List Object) (rank : List ℕ → ℕ)
    (falls : (id : List ℕ) (es : List TreeEntry) → HasTree os id es → RanksBelow rank
    (rank id) es) where
  -- what stands below a tree ranks below it
  before : (id : List ℕ) (es : List TreeEntry) (n : ℕ) → HasTree os id es → rank id < suc n
      → RanksBelow rank n es
  before id es n has lt =
      all-weaker (λ (e : TreeEntry). e.mode ≡ mode.Directory → rank e.id < rank id)
      (λ (e : TreeEntry). e.mode ≡ mode.Directory → rank e.id < n)
      (λ e d is. let b = d is in omega arith) es (falls id es has)

  all-listed : {es : List TreeEntry} {fs : Listed} → Lists os es fs → (n : ℕ)
      → RanksBelow rank n es → listed_at os n es ≡ fs
  all-listed nothing n h = refl
  all-listed (first_file e es files ne l) n h =
      ap (λ (r : Listed). r ++ listed_at os n es) (one_file e.mode e (listed_within os n e.id) ne)
      ∙ ap (λ (r : Listed). file_from e ∷ r) (all-listed l n h.1)
  all-listed (first_directory e es inside under files is has sub l) zero h =
      let no = h.0 is in absurd (omega arith)
  all-listed (first_directory e es inside under files is has sub l) (suc n) h =
      let inner : listed_within os (suc n) e.id ≡ under = level os n e.id inside has
      ∙ all-listed sub n (before e.id inside n has (h.0 is)) in
      let rest : Listed = listed_at os (suc n) es in
      ap (λ (m : FileMode). listed_by m e (listed_within os (suc n) e.id) ++ rest) is
      ∙ ap (λ (u : Listed). moved (e.name ∷ []) u ++ rest) inner
      ∙ ap (λ (r : Listed). moved (e.name ∷ []) under ++ r) (all-listed l (suc n) h.1)

  pub tree-within : (id : List ℕ) (fs : Listed) → ListsTree os id fs → (n : ℕ) → rank id < n
      → listed_within os n id ≡ fs
  tree-within id fs t zero lt = absurd (omega arith)
  tree-within id fs t (suc n) lt =
      level os n id t.direct t.tree ∙ all-listed t.lists n (before id t.direct n t.tree lt)

  -- ---- each tree lists files, where each directory's tree is there

  module _
      (trees : (id : List ℕ) (es : List TreeEntry) → HasTree os id es → AllByRecursion
      (λ e. e.mode ≡ mode.Directory → (inside : List TreeEntry) × HasTree os e.id inside) es) where
    abbrev Below : ℕ → Type 0
    Below n =
        (id : List ℕ) (es : List TreeEntry) → HasTree os id es → rank id < n → Lists os es
        (listed_within os n id)

    entries-listed : (n : ℕ) → Below n → (es : List TreeEntry) → RanksBelow rank n es
        → AllByRecursion
        (λ e. e.mode ≡ mode.Directory → (inside : List TreeEntry) × HasTree os e.id inside) es
        → Lists os es (listed_at os n es)
    entries-listed n below [] h t = nothing
    entries-listed n below (e ∷ es) h t = by_mode e.mode refl (entries-listed n below es h.1 t.1)
      where
        file : e.mode ≢ mode.Directory → Lists os es (listed_at os n es)
            → Lists os (e ∷ es) (listed_at os n (e ∷ es))
        file ne l =
            subst (λ (r : Listed). Lists os (e ∷ es) (r ++ listed_at os n es))
            (sym (one_file e.mode e (listed_within os n e.id) ne))
            (first_file e es (listed_at os n es) ne l)

        by_mode : (m : FileMode) → e.mode ≡ m → Lists os es (listed_at os n es)
            → Lists os (e ∷ es) (listed_at os n (e ∷ es))
        by_mode mode.Directory is l =
            let under = t.0 is in
            subst (λ (m : FileMode). Lists os (e ∷ es)
            (listed_by m e (listed_within os n e.id) ++ listed_at os n es)) (sym is)
            (first_directory e es under.0 (listed_within os n e.id) (listed_at os n es) is under.1
            (below e.id under.0 under.1 (h.0 is)) l)
        by_mode mode.Regular is l = file (λ d. cc) l
        by_mode mode.Executable is l = file (λ d. cc) l
        by_mode mode.Symlink is l = file (λ d. cc) l
        by_mode mode.Gitlink is l = file (λ d. cc) l

    tree-listed : (n : ℕ) → Below n
    tree-listed zero id es has lt = absurd (omega arith)
    tree-listed (suc n) id es has lt =
        subst (Lists os es) (sym (level os n id es has))
        (entries-listed n (tree-listed n) es (before id es n has lt) (trees id es has))

    pub lists-within : (n : ℕ) (id : List ℕ) (es : List TreeEntry) → HasTree os id es → rank id < n
        → ListsTree os id (listed_within os n id)
    lists-within n id es has lt =
        record { direct = es; tree = has; lists = tree-listed n id es has lt }

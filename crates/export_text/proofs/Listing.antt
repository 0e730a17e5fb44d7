-- The lines of a stored tree's files, entry by entry, and that they are those of its file map.
use Rattle.std.proofs.Common.{◌≡◌, ◌≢◌, ℕ, zero, suc, ◌+◌, ◌<◌, ◌≤◌, List, [], ◌∷◌, ◌++◌, length, get_or, map, take, Some, codes, refl, sym, ap, ◌∙◌, append-nil}
use Rattle.std.specs.List.{flat_map}
use Rattle.std.proofs.lemmas.Grind.{flat_map-append}
use Rattle.std.proofs.lemmas.List.{append_assoc, map-append, take_all}
use Rattle.git_model.specs.declared.file_mode.FileMode.{FileMode}
use Rattle.git_model.specs.declared.file_mode.FileMode.TheVariants as mode
use Rattle.git_model.specs.declared.kind.Kind.TheVariants as kind
use Rattle.git_model.specs.Modes.{six_digits}
use Rattle.git_model.specs.Tree.{TreeEntry}
use Rattle.git_model.specs.Repository.{Object}
use Rattle.git_model.specs.References.{kind_named}
use Rattle.git_model.specs.GoodRepository.{AreObjects}
use Rattle.git_model.specs.StoredPath.{entries_of}
use Rattle.git_objects.specs.declared.tree_entry.TreeEntry as entry
use Rattle.git_objects.specs.Parts.{entry_of, entries_of as parts_of}
use Rattle.git_paths.specs.Paths.{joined}
use Rattle.git_paths.specs.Quoting.{quoted}
use Rattle.file_maps.specs.FileMap.{Path, Listed, listed}
use Rattle.file_maps.specs.Edits.{moved}
use Rattle.file_maps.specs.StoredTree.{file_from}
use Rattle.file_maps.specs.StoredFiles.{listed_by, listed_within, stored_files, stored_map}
use Rattle.file_maps.proofs.GoodObjects.{files-of}
use Rattle.file_maps.proofs.ListedOrder.{tree-in-order, listed-with}
use Rattle.stream_lex.specs.Items.{Item, Line}
use Rattle.export_text.specs.ItemText.{items_text}
use Rattle.export_text.specs.ExportItems.{dataref_text, item_of_file}
use Rattle.export_text.specs.Lines.{prefix_below, file_line, lines_by, lines_within}
use Rattle.export_text.proofs.Again.{no-lines}
use Rattle.export_text.proofs.Pieces.{text-append, next-of}

-- The lines of entries, with so many levels below them.
abbrev pub lines_from : List Object → ℕ → List ℕ → List TreeEntry → List ℕ
lines_from os n prefix es =
    flat_map (λ e. lines_by os e.mode prefix e (lines_within os n (prefix_below prefix e.name) e.id)) es

one_file : (os : List Object) (m : FileMode) (prefix : List ℕ) (e : TreeEntry) (below : List ℕ)
    → m ≢ mode.Directory → lines_by os m prefix e below ≡ file_line os prefix e
one_file os mode.Directory prefix e below ne = absurd (ne refl)
one_file os mode.Regular prefix e below ne = refl
one_file os mode.Executable prefix e below ne = refl
one_file os mode.Symlink prefix e below ne = refl
one_file os mode.Gitlink prefix e below ne = refl

-- ---- one entry more

module _ (os : List Object) (n : ℕ) (prefix : List ℕ) (es : List entry.TreeEntry) (i : ℕ)
    (e : entry.TreeEntry) (lt : i < length es) (is : e ≡ get_or es i e) where
  abbrev below : List ℕ
  below = lines_within os n (prefix_below prefix e.name.now) e.id

  lines-next : lines_from os n prefix (parts_of (take (i + 1) es))
      ≡ lines_from os n prefix (parts_of (take i es)) ++ lines_by os e.mode prefix (entry_of e) below
  lines-next =
      let f : TreeEntry → List ℕ = λ x. lines_by os x.mode prefix x (lines_within os n (prefix_below prefix x.name) x.id) in
      ap (λ xs. flat_map f (map entry_of xs)) (next-of es i e lt is)
      ∙ ap (flat_map f) (map-append entry_of (take i es) (e ∷ []))
      ∙ flat_map-append f (map entry_of (take i es)) (entry_of e ∷ [])
      ∙ ap (λ last. flat_map f (map entry_of (take i es)) ++ last) (append-nil _)

  turn : (last old mid new : List ℕ) → lines_by os e.mode prefix (entry_of e) below ≡ last
      → mid ≡ old ++ lines_from os n prefix (parts_of (take i es)) → new ≡ mid ++ last
      → new ≡ old ++ lines_from os n prefix (parts_of (take (i + 1) es))
  turn last old mid new same before later =
      later ∙ ap (λ front. front ++ last) before
      ∙ append_assoc old (lines_from os n prefix (parts_of (take i es))) last
      ∙ ap (λ l. old ++ (lines_from os n prefix (parts_of (take i es)) ++ l)) (sym same)
      ∙ ap (λ text. old ++ text) (sym lines-next)

  pub file-turn : (now old mid new : List ℕ) → e.mode ≢ mode.Directory → now ≡ prefix
      → mid ≡ old ++ lines_from os n prefix (parts_of (take i es))
      → new ≡ mid ++ file_line os now (entry_of e)
      → new ≡ old ++ lines_from os n prefix (parts_of (take (i + 1) es))
  file-turn now old mid new ne at before later =
      turn (file_line os prefix (entry_of e)) old mid new (one_file os e.mode prefix (entry_of e) below ne)
      before (later ∙ ap (λ (p : List ℕ). mid ++ file_line os p (entry_of e)) at)

  pub directory-turn : (inner old mid new : List ℕ) → e.mode ≡ mode.Directory
      → inner ≡ prefix_below prefix e.name.now
      → mid ≡ old ++ lines_from os n prefix (parts_of (take i es))
      → new ≡ mid ++ lines_within os n inner e.id
      → new ≡ old ++ lines_from os n prefix (parts_of (take (i + 1) es))
  directory-turn inner old mid new is_directory at before later =
      turn below old mid new
      (ap (λ (m : FileMode). lines_by os m prefix (entry_of e) below) is_directory)
      before (later ∙ ap (λ (p : List ℕ). mid ++ lines_within os n p e.id) at)

-- ---- all entries, and all levels

level-next : (os : List Object) (n : ℕ) (prefix tree : List ℕ)
    → lines_within os (suc n) prefix tree ≡ lines_from os n prefix (entries_of os tree)
unfolding lines_within
level-next os n prefix tree = refl

pub level-ends : (os : List Object) (levels n : ℕ) (prefix tree : List ℕ)
    (es : List entry.TreeEntry) (i : ℕ) → levels ≡ suc n → length es ≤ i
    → parts_of es ≡ entries_of os tree
    → lines_from os n prefix (parts_of (take i es)) ≡ lines_within os levels prefix tree
level-ends os levels n prefix tree es i is all are =
    ap (λ xs. lines_from os n prefix (map entry_of xs)) (take_all i es all)
    ∙ ap (lines_from os n prefix) are ∙ sym (level-next os n prefix tree)
    ∙ ap (λ m. lines_within os m prefix tree) (sym is)

pub no-level : (os : List Object) (levels : ℕ) (prefix tree : List ℕ) → levels ≡ 0
    → lines_within os levels prefix tree ≡ []
no-level os levels prefix tree is =
    ap (λ n. lines_within os n prefix tree) is ∙ no-lines os prefix tree

-- ---- the lines are those of the files, moved below their directories

-- The items of files that are moved below a path.
abbrev items_below : List Object → Path → Listed → List Item
items_below os top files = map (item_of_file os) (moved top files)

-- What stands before the name of an entry in its path.
abbrev prefix_of : Path → List ℕ
prefix_of top = flat_map (λ c. c ++ 47 ∷ []) top

prefix-child : (top : Path) (c : List ℕ) → prefix_of (top ++ c ∷ []) ≡ prefix_below (prefix_of top) c
prefix-child top c =
    flat_map-append (λ (c : List ℕ). c ++ 47 ∷ []) top (c ∷ [])
    ∙ ap (λ last. prefix_of top ++ last) (append-nil (c ++ 47 ∷ []))
    ∙ sym (append_assoc (prefix_of top) c (47 ∷ []))

joined-last : (top : Path) (name : List ℕ) → joined (top ++ name ∷ []) ≡ prefix_of top ++ name
joined-last [] name = refl
joined-last (c ∷ []) name =
    sym (append_assoc c (47 ∷ []) name) ∙ ap (λ p. p ++ name) (sym (append-nil (c ++ 47 ∷ [])))
joined-last (c ∷ d ∷ top) name =
    ap (λ rest. c ++ 47 ∷ rest) (joined-last (d ∷ top) name)
    ∙ sym (append_assoc c (47 ∷ []) (prefix_of (d ∷ top) ++ name))
    ∙ sym (append_assoc (c ++ 47 ∷ []) (prefix_of (d ∷ top)) name)

module _ (os : List Object) (top : Path) where
  below-append : (xs ys : Listed) → items_below os top (xs ++ ys)
      ≡ items_below os top xs ++ items_below os top ys
  below-append xs ys =
      ap (map (item_of_file os)) (map-append (λ f. (top ++ f.0, f.1)) xs ys)
      ∙ map-append (item_of_file os) (moved top xs) (moved top ys)

  twice : (c : List ℕ) (files : Listed) → items_below os top (moved (c ∷ []) files)
      ≡ items_below os (top ++ c ∷ []) files
  twice c [] = refl
  twice c (f ∷ files) =
      ap (λ (p : Path). item_of_file os (p, f.1) ∷ items_below os top (moved (c ∷ []) files)) (sym (append_assoc top (c ∷ []) f.0))
      ∙ ap (λ is. item_of_file os ((top ++ c ∷ []) ++ f.0, f.1) ∷ is) (twice c files)

  own : (e : TreeEntry)
      → items_text (items_below os top (file_from e ∷ [])) ≡ file_line os (prefix_of top) e
  own e =
      ap (λ (path : List ℕ). items_text (Line (codes "M " ++ six_digits e.mode ++ codes " " ++ dataref_text os e.mode e.id ++ codes " " ++ quoted path) ∷ []))
      (joined-last top e.name)

  each : (m : FileMode) (e : TreeEntry) (files : Listed) (text : List ℕ)
      → items_text (items_below os (top ++ e.name ∷ []) files) ≡ text
      → items_text (items_below os top (listed_by m e files)) ≡ lines_by os m (prefix_of top) e text
  each mode.Directory e files text is = ap items_text (twice e.name files) ∙ is
  each mode.Regular e files text is = own e
  each mode.Executable e files text is = own e
  each mode.Symlink e files text is = own e
  each mode.Gitlink e files text is = own e

  over : (n : ℕ) → ((c id : List ℕ) → items_text (items_below os (top ++ c ∷ []) (listed_within os n id))
      ≡ lines_within os n (prefix_below (prefix_of top) c) id) → (es : List TreeEntry)
      → items_text (items_below os top (flat_map (λ e. listed_by e.mode e (listed_within os n e.id)) es))
      ≡ lines_from os n (prefix_of top) es
  over n inner [] = refl
  over n inner (e ∷ es) =
      let first : Listed = listed_by e.mode e (listed_within os n e.id) in
      let others : Listed = flat_map (λ e. listed_by e.mode e (listed_within os n e.id)) es in
      ap items_text (below-append first others)
      ∙ text-append (items_below os top first) (items_below os top others)
      ∙ ap (λ text. text ++ items_text (items_below os top others))
      (each e.mode e (listed_within os n e.id) (lines_within os n (prefix_below (prefix_of top) e.name) e.id) (inner e.name e.id))
      ∙ ap (λ rest. lines_by os e.mode (prefix_of top) e (lines_within os n (prefix_below (prefix_of top) e.name) e.id) ++ rest)
      (over n inner es)

lines-of : (os : List Object) (n : ℕ) (top : Path) (tree : List ℕ)
    → items_text (items_below os top (listed_within os n tree)) ≡ lines_within os n (prefix_of top) tree
unfolding listed_within lines_within
lines-of os zero top tree = refl
lines-of os (suc n) top tree =
    over os top n
    (λ c id. lines-of os n (top ++ c ∷ []) id ∙ ap (λ (p : List ℕ). lines_within os n p id) (prefix-child top c))
    (entries_of os tree)

at_root : (os : List Object) (files : Listed) → items_below os [] files ≡ map (item_of_file os) files
at_root os [] = refl
at_root os (f ∷ files) = ap (λ is. item_of_file os f ∷ is) (at_root os files)

-- the lines of a good tree are those of its file map, in the order of the map
pub all-lines : (digest : List ℕ → List ℕ) (os : List Object) → AreObjects digest os
    → (tree : List ℕ) → kind_named tree os ≡ Some kind.Tree
    → lines_within os (length os) [] tree ≡ items_text (map (item_of_file os) (listed (stored_map os tree)))
all-lines digest os good tree is =
    let lists = (files-of digest os good tree is).listed in
    sym (lines-of os (length os) [] tree)
    ∙ ap items_text (at_root os (stored_files os tree)
    ∙ ap (map (item_of_file os)) (sym (listed-with (stored_files os tree)
    (tree-in-order os tree (stored_files os tree) lists))))

-- Flags that are set one after another.
use Rattle.std.proofs.Common.{◌≡◌, ℕ, ◌+◌, ◌<◌, Bool, true, false, List, [], ◌∷◌, ◌++◌, length, get_or, map, take, sym, ap, ◌∙◌, refl, append-nil}
use Rattle.std.specs.List.{filter}
use Rattle.std.proofs.lemmas.List.{map-append}
use Rattle.std.proofs.lemmas.List.Elements.{filter-append}
use Rattle.git_model.specs.Tree.{TreeEntry}
use Rattle.git_model.specs.Repository.{Object}
use Rattle.git_model.specs.References.{Reference, is_reference, reference, tree_references}
use Rattle.git_model.specs.Modes.{kind_of_mode}
use Rattle.git_objects.specs.declared.tree_entry.TreeEntry as entry
use Rattle.git_objects.specs.Parts.{entry_of, entries_of}
use Rattle.export_text.specs.Marking.{with_flags, names_in}
use Rattle.export_text.proofs.Pieces.{next-of}
use Rattle.export_text.proofs.Leading.{marked-append}

pub one-more : (os : List Object) (first old new : List Bool) (ids more : List (List ℕ)) (id : List ℕ)
    → more ≡ ids ++ id ∷ [] → old ≡ with_flags os first ids → new ≡ with_flags os old (id ∷ [])
    → new ≡ with_flags os first more
one-more os first old new ids more id grown before later =
    later ∙ ap (λ fs. with_flags os fs (id ∷ [])) before ∙ sym (marked-append os ids (id ∷ []) first)
    ∙ ap (with_flags os first) (sym grown)

-- ---- what entries refer to

abbrev pub entry-names : List entry.TreeEntry → List (List ℕ)
entry-names es = names_in (tree_references (entries_of es))

names-append : (xs ys : List TreeEntry)
    → names_in (tree_references (xs ++ ys))
    ≡ names_in (tree_references xs) ++ names_in (tree_references ys)
names-append xs ys =
    ap names_in (ap (map (λ e. reference (kind_of_mode e.mode) e.id)) (filter-append (λ e. is_reference e.mode) xs ys)
    ∙ map-append (λ e. reference (kind_of_mode e.mode) e.id) (filter (λ e. is_reference e.mode) xs) (filter (λ e. is_reference e.mode) ys))
    ∙ map-append (λ (r : Reference). r.id) (tree_references xs) (tree_references ys)

names-next : (es : List entry.TreeEntry) (i : ℕ) (e : entry.TreeEntry) → i < length es
    → e ≡ get_or es i e
    → names_in (tree_references (entries_of (take (i + 1) es)))
    ≡ names_in (tree_references (entries_of (take i es))) ++ names_in (tree_references (entry_of e ∷ []))
names-next es i e lt is =
    ap (λ xs. names_in (tree_references (entries_of xs))) (next-of es i e lt is)
    ∙ ap (λ xs. names_in (tree_references xs)) (map-append entry_of (take i es) (e ∷ []))
    ∙ names-append (entries_of (take i es)) (entry_of e ∷ [])

pub name-more : (es : List entry.TreeEntry) (i : ℕ) (e : entry.TreeEntry) → i < length es
    → e ≡ get_or es i e → is_reference e.mode ≡ true
    → names_in (tree_references (entries_of (take (i + 1) es)))
    ≡ names_in (tree_references (entries_of (take i es))) ++ e.id ∷ []
name-more es i e lt is refers =
    names-next es i e lt is
    ∙ ap (λ last. names_in (tree_references (entries_of (take i es))) ++ last) one
  where
    one : names_in (tree_references (entry_of e ∷ [])) ≡ e.id ∷ []
    one = rw refers refl

pub no-name-more : (es : List entry.TreeEntry) (i : ℕ) (e : entry.TreeEntry) → i < length es
    → e ≡ get_or es i e → is_reference e.mode ≡ false
    → names_in (tree_references (entries_of (take (i + 1) es)))
    ≡ names_in (tree_references (entries_of (take i es)))
no-name-more es i e lt is none_is =
    names-next es i e lt is
    ∙ ap (λ last. names_in (tree_references (entries_of (take i es))) ++ last) none ∙ append-nil _
  where
    none : names_in (tree_references (entry_of e ∷ [])) ≡ []
    none = rw none_is refl

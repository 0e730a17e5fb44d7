-- What a stored tree at a path leaves, and why it is refused.
use Rattle.std.proofs.Common.{◌≡◌, ℕ, false, List, [], ◌∷◌, Option, None, Some, Result, Err, refl}
use Rattle.std.proofs.Common.{sym, ap, ◌∙◌, subst}
use Rattle.std.specs.FinMap as finmap
use Rattle.std.specs.FinMap.{from_sorted}
use Rattle.std.specs.List.{AllByRecursion}
use Rattle.std.proofs.lemmas.Bool.{true≢false}
use Rattle.git_model.specs.Repository.{Object}
use Rattle.git_paths.specs.Paths.{IsPath}
use Rattle.git_paths.proofs.Cases.{by_cases}
use Rattle.tenant_tables.specs.declared.summary.Summary.{Summary}
use Rattle.file_maps.specs.declared.fault.Fault.{Fault}
use Rattle.file_maps.specs.declared.fault.Fault.TheVariants as fault
use Rattle.file_maps.specs.FileMap.{Path, Listed, FileMap, is_apart, ArePairwiseApart, AreFiles}
use Rattle.file_maps.specs.Edits.{moved, with_files, fits, put_tree_at, put_fault}
use Rattle.file_maps.specs.Calls.{Edits}
use Rattle.file_maps.specs.Kept.{stays, IsBelow}
use Rattle.file_maps.specs.Storable.{files_summary}
use Rattle.file_maps.specs.PlainTrees.{HasSummary}
use Rattle.file_maps.specs.StoredTree.{ListsTree}
use Rattle.file_maps.specs.Grafts.{tree_fault, or_else, Grafts, is_small}
use Rattle.plain_files.specs.Gathers.{Gathers}
use Rattle.file_maps.proofs.Listing.{IsSound, tree-apart, tree-sound, apart-moved}
use Rattle.file_maps.proofs.Grafting.{no_roots, small_if, the_files, grafts-edits}

-- a tree that is not small is refused
pub too_large : (top : Path) (held fs : Listed) (s : Summary) → AreFiles held → ArePairwiseApart fs
    → AllByRecursion IsSound fs → s ≡ files_summary fs → is_small s ≡ false
    → put_fault (moved top fs) (put_tree_at (from_sorted held) top fs) ≡ Some fault.Limit
unfolding put_fault
too_large top held fs s h apart sound is large =
    by_cases (fits (moved top fs) (put_tree_at (from_sorted held) top fs))
    (λ yea. absurd (true≢false (sym (small_if top held fs s h apart is yea) ∙ large)))
    (λ nay. rw (no_roots top fs sound, nay) refl)

module _ {A : Type 0} (os : List Object) (id : List ℕ) (path : Path) (old : FileMap) where
  -- no tree has this name
  pub grafts-none : (e : Fault) → tree_fault os id ≡ Some e
      → Grafts {A = A} (Err e) os id path old old
  grafts-none e is = record {
    files = [];
    listed = λ none. absurd (let no : Some e ≡ None = sym is ∙ none in cc no);
    edits = λ _. (ap (λ (o : Option Fault). or_else o (put_fault [] (put_tree_at old path []))) is, refl);
  }

  -- there was no memory
  pub grafts-memory : (new : FileMap) (fs : Listed) → ListsTree os id fs
      → Grafts {A = A} (Err fault.Memory) os id path old new
  grafts-memory new fs t = record { files = fs; listed = λ _. the_files os id fs t; edits = λ ne. absurd (ne refl) }

-- files that are gathered below a path
pub gathered-below : (os : List Object) (top : Path) (id : List ℕ) (items : Listed)
    → (g : Gathers os top id [] items) → AllByRecursion (λ f. IsPath f.0) items
    → AllByRecursion (IsBelow top) items
gathered-below os top id items g paths =
    subst (AllByRecursion (IsBelow top)) (sym g.appended)
    (each g.files (tree-sound os id g.files g.listed) (subst (AllByRecursion (λ f. IsPath f.0)) g.appended paths))
  where
    each : (fs : Listed) → AllByRecursion IsSound fs
        → AllByRecursion (λ f. IsPath f.0) (moved top fs)
        → AllByRecursion (IsBelow top) (moved top fs)
    each [] s p = tt
    each (f ∷ fs) s p =
        (record { rest = f.0; below = refl; path = p.0; mode = s.0.mode; name = s.0.name }, each fs s.1 p.1)

pub gathered-apart : (os : List Object) (top : Path) (id : List ℕ) (items : Listed)
    → (g : Gathers os top id [] items) → ArePairwiseApart items
gathered-apart os top id items g =
    subst ArePairwiseApart (sym g.appended)
    (apart-moved top g.files (tree-apart os id g.files g.listed))

pub grafts-put : {A : Type 0} (os : List Object) (id : List ℕ) (path : Path) (old new : FileMap) (result : Result A Fault) (items : Listed)
    → Gathers os path id [] items → HasSummary os id
    → Edits result old new (put_fault items (with_files (finmap.retain_keys old (stays None path)) items)) (with_files (finmap.retain_keys old (stays None path)) items)
    → Grafts result os id path old new
grafts-put os id path old new result items g plain e =
    grafts-edits os id path old result new g.files (record { tree = g.listed; plain = plain })
    (subst (λ (l : Listed). Edits result old new (put_fault l (with_files (finmap.retain_keys old (is_apart path)) l)) (with_files (finmap.retain_keys old (is_apart path)) l)) g.appended e)

-- Edits of what is held, as edits of the file map that it means.
use Rattle.std.proofs.Common.{◌≡◌, ℕ, Bool, true, false, ◌&&◌, cond, List, [], ◌∷◌, ◌++◌, refl, sym, ap, ◌∙◌}
use Rattle.std.specs.Prelude.{Option, None, Some, is_some, not}
use Rattle.std.specs.FinMap as finmap
use Rattle.std.specs.FinMap.{get, get-retain_keys, same_map}
use Rattle.std.specs.Str.{bytes_eq}
use Rattle.std.specs.declared.cmp.Ordering.TheVariants.{Equal}
use Rattle.git_paths.specs.Order.{path_cmp, path_cmp-total, path_cmp-IsAntisymmetric}
use Rattle.git_paths.specs.Paths.{strip_prefix}
use Rattle.git_paths.proofs.Cases.{by_cases}
use Rattle.file_maps.specs.declared.entry.Entry.{Entry}
use Rattle.file_maps.specs.FileMap.{Path, Listed, is_apart}
use Rattle.file_maps.specs.Edits.{moved, with_files, put_tree_at}
use Rattle.tree_build.proofs.Look.{same, look, or, look_with, look_files, turn_bytes}
use Rattle.tree_build.proofs.Placed.{put_by}

alike : (t : Path → Bool) (q x : Path) → path_cmp q x ≡ Equal → t x ≡ t q
alike t q x e = ap t (sym (path_cmp-IsAntisymmetric q x e))

later_nothing : (o : Option Entry) → or o None ≡ o
later_nothing None = refl
later_nothing (Some e) = refl

-- what stands at a path of files that were moved below another
same_by : Option Path → Path → Bool
same_by None p = false
same_by (Some r) p = same r p

same_after : (top q p : Path) → same q (top ++ p) ≡ same_by (strip_prefix top q) p
unfolding same_by
same_after [] q p = refl
same_after (c ∷ top) [] p = refl
same_after (c ∷ top) (x ∷ q) p =
    by_cases (bytes_eq c x)
    (λ yea. let back = is_back c x yea in rw (yea, back) (same_after top q p))
    (λ nay. let back = turn_bytes c x nay in rw (nay, back) refl)
  where
    is_back : (c x : List ℕ) → bytes_eq c x ≡ true → bytes_eq x c ≡ true
    is_back c x yea = by_cases (bytes_eq x c) (λ y. y) (λ n. let no : true ≡ false = sym yea ∙ turn_bytes x c n in cc no)

look_by : Option Path → Listed → Option Entry
look_by None fs = None
look_by (Some r) fs = look r fs

look_moved : (top q : Path) (fs : Listed) → look q (moved top fs) ≡ look_by (strip_prefix top q) fs
unfolding look_by same_by
look_moved top q [] = by (strip_prefix top q)
  where
    by : (o : Option Path) → None ≡ look_by o []
    by None = refl
    by (Some r) = refl
look_moved top q (f ∷ fs) =
    ap (λ (b : Bool). cond b (Some f.1) (look q (moved top fs))) (same_after top q f.0)
    ∙ ap (λ (o : Option Entry). cond (same_by (strip_prefix top q) f.0) (Some f.1) o) (look_moved top q fs)
    ∙ by (strip_prefix top q)
  where
    by : (o : Option Path) → cond (same_by o f.0) (Some f.1) (look_by o fs) ≡ look_by o (f ∷ fs)
    by None = refl
    by (Some r) = refl

-- files of which each stands where it is put are those of the map after the edit
pub put_map : (before after : Listed) (top : Path) (fs : Listed)
    → ((q : Path) → look q after ≡ put_by (strip_prefix top q) (is_apart top q) fs (look q before))
    → with_files finmap.empty after ≡ put_tree_at (with_files finmap.empty before) top fs
unfolding look_by
put_map before after top fs is =
    same_map path_cmp-total path_cmp-IsAntisymmetric _ _ (λ q.
    look_files after q ∙ is q ∙ by (strip_prefix top q) (strip_prefix q top) (look q before)
    ∙ sym (look_with (finmap.retain_keys (with_files finmap.empty before) (is_apart top)) (moved top fs) q
    ∙ ap (λ (o : Option Entry). or o (get (finmap.retain_keys (with_files finmap.empty before) (is_apart top)) q)) (look_moved top q fs)
    ∙ ap (or (look_by (strip_prefix top q) fs)) (get-retain_keys (with_files finmap.empty before) (is_apart top) q (alike (is_apart top) q)
    ∙ ap (λ (o : Option Entry). cond (is_apart top q) o None) (look_files before q))))
  where
    by : (a b : Option Path) (old : Option Entry)
        → put_by a (not (is_some a) && not (is_some b)) fs old
        ≡ or (look_by a fs) (cond (not (is_some a) && not (is_some b)) old None)
    by None b old = refl
    by (Some r) b old = sym (later_nothing (look r fs))

-- files of which some stay are those of the map without the others
pub kept_map : (before after : Listed) (t : Path → Bool)
    → ((q : Path) → look q after ≡ cond (t q) (look q before) None)
    → with_files finmap.empty after ≡ finmap.retain_keys (with_files finmap.empty before) t
kept_map before after t is =
    same_map path_cmp-total path_cmp-IsAntisymmetric _ _ (λ q.
    look_files after q ∙ is q
    ∙ sym (get-retain_keys (with_files finmap.empty before) t q (alike t q)
    ∙ ap (λ (o : Option Entry). cond (t q) o None) (look_files before q)))

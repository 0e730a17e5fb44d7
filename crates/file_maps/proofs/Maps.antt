-- File maps made of lists in order.
use Rattle.std.proofs.Common.{◌≡◌, Bool, true, false, ◌&&◌, T, cond, [], ◌∷◌, length, filter}
use Rattle.std.proofs.Common.{Option, None, refl, sym, ap, ◌∙◌}
use Rattle.std.specs.declared.cmp.Ordering.TheVariants.{Equal}
use Rattle.std.specs.FinMap as map
use Rattle.std.specs.FinMap.{from_sorted, entries-from_sorted, entries-insert, same_entries_map}
use Rattle.std.specs.FinMap.{same_map, get-from_sorted, get-retain_keys, len-entries, empty_of_len}
use Rattle.std.specs.FinMap.Entries.{put, is_sorted, is_sorted-put, is_sorted-where_key}
use Rattle.std.specs.FinMap.Entries.{find-where_key}
use Rattle.git_paths.specs.Order.{path_cmp, path_cmp-total, path_cmp-IsAntisymmetric}
use Rattle.file_maps.specs.declared.entry.Entry.{Entry}
use Rattle.file_maps.specs.FileMap.{Path, Listed, FileMap, listed, AreFiles}
use Rattle.file_maps.specs.Edits.{with_files}
use Rattle.file_maps.specs.Kept.{put_all}
use Rattle.file_maps.proofs.Puts.{true-T, sorted-put_all}

pub listed-of : (fs : Listed) → AreFiles fs → listed (from_sorted fs) ≡ fs
listed-of fs h = entries-from_sorted path_cmp fs (true-T _ h.in_order)

alike : (t : Path → Bool) (q x : Path) → path_cmp q x ≡ Equal → t x ≡ t q
alike t q x e = ap t (sym (path_cmp-IsAntisymmetric q x e))

-- the files whose paths pass a test
pub retain_keys-of : (t : Path → Bool) (fs : Listed) → AreFiles fs
    → from_sorted {R = path_cmp} (filter (λ f. t f.0) fs) ≡ map.retain_keys (from_sorted fs) t
retain_keys-of t fs h =
    same_map path_cmp-total path_cmp-IsAntisymmetric _ _ (λ q.
    get-from_sorted path_cmp _ q (is_sorted-where_key path_cmp t fs (true-T _ h.in_order))
    ∙ find-where_key path_cmp t q (alike t q) fs
    ∙ ap (λ (o : Option Entry). cond (t q) o None)
    (sym (get-from_sorted path_cmp fs q (true-T _ h.in_order)))
    ∙ sym (get-retain_keys (from_sorted fs) t q (alike t q)))

insert-of : (fs : Listed) (p : Path) (e : Entry) → T (is_sorted path_cmp fs)
    → map.insert (from_sorted {R = path_cmp} fs) p e ≡ from_sorted (put path_cmp p e fs)
insert-of fs p e h =
    same_entries_map _ _
    (entries-insert path_cmp-total (from_sorted fs) p e ∙ ap (put path_cmp p e) (entries-from_sorted path_cmp fs h)
    ∙ sym (entries-from_sorted path_cmp (put path_cmp p e fs) (is_sorted-put path_cmp path_cmp-total p e fs h)))

-- files put one by one
pub with_files-of : (held files : Listed) → T (is_sorted path_cmp held)
    → with_files (from_sorted held) files ≡ from_sorted (put_all held files)
with_files-of held [] h = refl
with_files-of held (f ∷ files) h =
    ap (λ (m : FileMap). map.insert m f.0 f.1) (with_files-of held files h)
    ∙ insert-of (put_all held files) f.0 f.1 (sorted-put_all held files h)

pub len-of : (fs : Listed) → T (is_sorted path_cmp fs)
    → map.len (from_sorted {R = path_cmp} fs) ≡ length fs
len-of fs h = len-entries _ ∙ ap length (entries-from_sorted path_cmp fs h)

-- what passes one test and then another passes both
pub retain-twice : (t u : Path → Bool) (m : FileMap)
    → map.retain_keys (map.retain_keys m t) u ≡ map.retain_keys m (λ q. t q && u q)
retain-twice t u m =
    same_map path_cmp-total path_cmp-IsAntisymmetric _ _ (λ q.
    get-retain_keys (map.retain_keys m t) u q (alike u q)
    ∙ ap (λ (o : Option Entry). cond (u q) o None) (get-retain_keys m t q (alike t q))
    ∙ both (t q) (u q) (map.get m q)
    ∙ sym (get-retain_keys m (λ x. t x && u x) q (alike (λ x. t x && u x) q)))
  where
    both : (a b : Bool) (o : Option Entry) → cond b (cond a o None) None ≡ cond (a && b) o None
    both true b o = refl
    both false true o = refl
    both false false o = refl

pub empty-of : (fs : Listed) → fs ≡ [] → from_sorted {R = path_cmp} fs ≡ map.empty
empty-of fs e =
    ap (λ (l : Listed). from_sorted {R = path_cmp} l) e
    ∙ empty_of_len (from_sorted {R = path_cmp} []) (len-of [] tt)

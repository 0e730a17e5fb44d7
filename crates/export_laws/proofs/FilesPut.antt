-- The files of a map, put one by one in their order from none, are that map.
use Rattle.std.proofs.Common.{◌≡◌, ◌+◌, ◌≤◌, true, false, nat_le, [], ◌∷◌, ◌++◌, length, filter, None, refl, sym, ap, ◌∙◌, subst, append_assoc, arith}
use Rattle.std.specs.declared.cmp.Ordering.{Ordering}
use Rattle.std.specs.declared.cmp.Ordering.TheVariants.{Less, Equal, Greater}
use Rattle.std.specs.FinMap as finmap
use Rattle.std.specs.FinMap.{from_sorted, same_entries_map}
use Rattle.std.specs.FinMap.Entries.{below_all, is_sorted, put}
use Rattle.std.specs.List.{AllByRecursion}
use Rattle.std.specs.Ordering.{is_lt, ordering_reverse}
use Rattle.std.proofs.lemmas.Bool.{le-leb}
use Rattle.std.proofs.lemmas.List.{append-nil, length-append}
use Rattle.git_paths.specs.Order.{path_cmp, path_cmp-total}
use Rattle.git_paths.proofs.Decided.{test-from_IsWithinLimits}
use Rattle.file_maps.specs.declared.entry.Entry.{Entry}
use Rattle.file_maps.specs.Edits.{is_root, moved, put_at, put_fault, with_files}
use Rattle.file_maps.specs.FileMap.{AreFiles, ArePairwiseApart, FileMap, IsFile, Listed, Path, is_apart, listed}
use Rattle.file_maps.specs.declared.check.TheConstants.{FILES_LIMIT}
use Rattle.file_maps.proofs.Apart.{both_true, is_apart-symmetric}
use Rattle.file_maps.proofs.Listing.{all-append}
use Rattle.file_maps.proofs.Maps.{empty-of, len-of, listed-of, retain_keys-of, with_files-of}
use Rattle.file_maps.proofs.Puts.{AreFiles-nil, AreFiles-put_all, true-T}
use Rattle.export_laws.specs.Putting.{Puts, nothing, first_file}

abbrev File : Type 0
File = Path × Entry

-- ---- orders

less : (o : Ordering) → is_lt o ≡ true → o ≡ Less
less Less h = refl
less Equal h = cc
less Greater h = cc

-- Each file of one list comes after each of another.
abbrev Above : Listed → File → Type 0
Above held f = AllByRecursion (λ (h : File). path_cmp f.0 h.0 ≡ Greater) held

-- what is below all later ones has them above it
above-one : (f : File) (files : Listed) → below_all path_cmp f.0 files ≡ true
    → AllByRecursion (λ (g : File). path_cmp g.0 f.0 ≡ Greater) files
above-one f [] h = tt
above-one f (g ∷ files) h =
    let parts = both_true (is_lt (path_cmp f.0 g.0)) (below_all path_cmp f.0 files) h in (
      path_cmp-total.antisymm g.0 f.0 ∙ ap ordering_reverse (less (path_cmp f.0 g.0) parts.0),
      above-one f files parts.1,
    )

-- a file that comes after all is put last
put-last : (f : File) (held : Listed) → Above held f → put path_cmp f.0 f.1 held ≡ held ++ f ∷ []
put-last f [] h = refl
put-last f (e ∷ held) h = rw h.0 (ap (λ (l : Listed). e ∷ l) (put-last f held h.1))

-- ---- one file

keeps-all : (p : Path) (held : Listed) → AllByRecursion (λ (g : File). is_apart p g.0 ≡ true) held
    → filter (λ (f : File). is_apart p f.0) held ≡ held
keeps-all p [] h = refl
keeps-all p (f ∷ held) h = rw h.0 (ap (λ (l : Listed). f ∷ l) (keeps-all p held h.1))

moved-one : (f : File) → moved f.0 (([], f.1) ∷ []) ≡ f ∷ []
moved-one f = ap (λ (p : Path). (p, f.1) ∷ []) (append-nil f.0)

no-root : (p : Path) → (p ≡ [] → ⊥) → is_root p ≡ false
no-root [] h = absurd (h refl)
no-root (c ∷ p) h = refl

module _ (held : Listed) (good : AreFiles held) (f : File) (is : IsFile f)
    (apart : AllByRecursion (λ (g : File). is_apart f.0 g.0 ≡ true) held) (above : Above held f)
    (few : length held + 1 ≤ FILES_LIMIT) where
  next-good : AreFiles (held ++ f ∷ [])
  next-good =
      subst AreFiles (put-last f held above)
      (AreFiles-put_all held (f ∷ []) good (record { outside = (apart, tt); apart = (tt, tt) }) (is, tt) few)

  put-is : put_at (from_sorted held) f.0 f.1 ≡ from_sorted (held ++ f ∷ [])
  put-is =
      ap (λ (m : FileMap). with_files m (moved f.0 (([], f.1) ∷ [])))
      (sym (retain_keys-of (is_apart f.0) held good)
      ∙ ap (λ (l : Listed). from_sorted {R = path_cmp} l) (keeps-all f.0 held apart))
      ∙ ap (with_files (from_sorted held)) (moved-one f)
      ∙ with_files-of held (f ∷ []) (true-T _ good.in_order)
      ∙ ap (λ (l : Listed). from_sorted {R = path_cmp} l) (put-last f held above)

  no-fault : put_fault (f ∷ []) (from_sorted (held ++ f ∷ [])) ≡ None
  unfolding put_fault
  no-fault =
      rw (no-root f.0 is.below_the_root, test-from_IsWithinLimits f.0 is.limits, room) refl
    where
      room : nat_le (finmap.len (from_sorted {R = path_cmp} (held ++ f ∷ []))) FILES_LIMIT ≡ true
      room =
          rw (len-of (held ++ f ∷ []) (true-T _ next-good.in_order))
          (le-leb (length (held ++ f ∷ [])) FILES_LIMIT next-good.few)

-- ---- all of them

-- one more is asked of, for each of some files
widened : (P : File → File → Type 0) (held : Listed) (f : File) (files : Listed)
    → AllByRecursion (λ (g : File). AllByRecursion (P g) held) files
    → AllByRecursion (λ (g : File). P g f) files
    → AllByRecursion (λ (g : File). AllByRecursion (P g) (held ++ f ∷ [])) files
widened P held f [] h k = tt
widened P held f (g ∷ files) h k =
    (all-append (P g) held (f ∷ []) h.0 (k.0, tt), widened P held f files h.1 k.1)

turned-apart : (f : File) (files : Listed) → AllByRecursion (λ (g : File). is_apart f.0 g.0 ≡ true) files
    → AllByRecursion (λ (g : File). is_apart g.0 f.0 ≡ true) files
turned-apart f [] h = tt
turned-apart f (g ∷ files) h = (is_apart-symmetric g.0 f.0 ∙ h.0, turned-apart f files h.1)

-- Files that may follow those that are held.
record Follow (held files : Listed) : Type 0 where
  each : AllByRecursion IsFile files
  outside : AllByRecursion (λ (f : File). AllByRecursion (λ (g : File). is_apart f.0 g.0 ≡ true) held) files
  apart : ArePairwiseApart files
  above : AllByRecursion (Above held) files
  rising : is_sorted path_cmp files ≡ true
  few : length held + length files ≤ FILES_LIMIT

follow : (held : Listed) (f : File) (files : Listed) → Follow held (f ∷ files)
    → Follow (held ++ f ∷ []) files
follow held f files h =
    let parts = both_true (below_all path_cmp f.0 files) (is_sorted path_cmp files) h.rising in
    record {
      each = h.each.1;
      outside =
          widened (λ (g x : File). is_apart g.0 x.0 ≡ true) held f files h.outside.1
          (turned-apart f files h.apart.0);
      apart = h.apart.1;
      above =
          widened (λ (g x : File). path_cmp g.0 x.0 ≡ Greater) held f files h.above.1
          (above-one f files parts.0);
      rising = parts.1;
      few = let count = h.few in let len = length-append held (f ∷ []) in omega (arith, count, len);
    }

puts : (held files : Listed) → AreFiles held → Follow held files
    → Puts files (from_sorted held) (from_sorted (held ++ files))
puts held [] good h =
    subst (λ (l : Listed). Puts [] (from_sorted held) (from_sorted l)) (sym (append-nil held))
    (nothing (from_sorted held))
puts held (f ∷ files) good h =
    let few : length held + 1 ≤ FILES_LIMIT = let count = h.few in omega (arith, count) in
    first_file f files (from_sorted held) (from_sorted (held ++ f ∷ [])) (from_sorted (held ++ f ∷ files))
    (put-is held good f h.each.0 h.outside.0 h.above.0 few)
    (ap (λ (l : Listed). put_fault l (from_sorted (held ++ f ∷ []))) (moved-one f)
    ∙ no-fault held good f h.each.0 h.outside.0 h.above.0 few)
    (subst (λ (l : Listed). Puts files (from_sorted (held ++ f ∷ [])) (from_sorted l))
    (append_assoc held (f ∷ []) files)
    (puts (held ++ f ∷ []) files (next-good held good f h.each.0 h.outside.0 h.above.0 few)
    (follow held f files h)))

none-held : (P : File → File → Type 0) (files : Listed)
    → AllByRecursion (λ (g : File). AllByRecursion (P g) []) files
none-held P [] = tt
none-held P (f ∷ files) = (tt, none-held P files)

pub files-put : (m : FileMap) → AreFiles (listed m) → Puts (listed m) finmap.empty m
files-put m good =
    subst (λ (from : FileMap). Puts (listed m) from m) (empty-of [] refl)
    (subst (Puts (listed m) (from_sorted [])) (same_entries_map _ _ (listed-of (listed m) good))
    (puts [] (listed m) (AreFiles-nil [] refl) (record {
      each = good.each;
      outside = none-held (λ (g x : File). is_apart g.0 x.0 ≡ true) (listed m);
      apart = good.apart;
      above = none-held (λ (g x : File). path_cmp g.0 x.0 ≡ Greater) (listed m);
      rising = good.in_order;
      few = let count = good.few in omega (arith, count);
    })))

-- How groups are found among files.
use Rattle.std.proofs.Common.{◌≡◌, ℕ, suc, ◌+◌, ◌<◌, ◌≤◌, true, false, cond, List, [], ◌∷◌, ◌++◌}
use Rattle.std.proofs.Common.{length, take, drop, map, Option, Some, None, refl, sym, ap, ◌∙◌}
use Rattle.std.proofs.Common.{subst, arith}
use Rattle.std.specs.List.{prefix_len, AllByRecursion}
use Rattle.std.specs.Prelude.{option_to_list}
use Rattle.std.specs.Borrow.{Bor}
use Rattle.std.specs.Map.Iter.{deref_pair}
use Rattle.std.specs.Option.{option_map}
use Rattle.std.proofs.Common.{get_or}
use Rattle.std.proofs.lemmas.List.{append-nil, map-append, take-append-drop, take-map, drop-map}
use Rattle.std.proofs.lemmas.List.{take_more}
use Rattle.file_maps.proofs.Lists.{cut-append}
use Rattle.std.specs.Str.{bytes_eq}
use Rattle.std.proofs.lemmas.Bool.{true≢false}
use Rattle.std.proofs.lemmas.Slice.Eq.{bytes_eq-Decides}
use Rattle.git_paths.specs.Paths.{strip_prefix}
use Rattle.git_paths.proofs.Cases.{by_cases, some_is}
use Rattle.plain_files.specs.declared.below.Below.{Below}
use Rattle.file_maps.specs.declared.entry.Entry.{Entry}
use Rattle.file_maps.specs.FileMap.{Path, Listed}
use Rattle.file_maps.specs.Edits.{cut, cut_one, is_empty}
use Rattle.file_maps.specs.Trees.{Groups, grouped, add_path, add_file}
use Rattle.plain_files.specs.Below.{file_below, files_below, next_name, goes_with, IsNextGroup}
use Rattle.file_maps.proofs.Groups.{itself}

-- a group of this name before others, where it has a file
begun : List ℕ → Listed → Groups → Groups
begun c [] groups = groups
begun c (f ∷ files) groups = (c, f ∷ files) ∷ groups

-- the first of these groups has another name
abbrev BeginsOther : List ℕ → Groups → Type 0
BeginsOther c [] = Unit {0}
BeginsOther c (g ∷ groups) = bytes_eq c g.0 ≡ false

add_same : (c : List ℕ) (f : Path × Entry) (fs : Listed) (groups : Groups) → BeginsOther c groups
    → add_file c f (begun c fs groups) ≡ begun c (f ∷ fs) groups
unfolding begun
add_same c f [] [] other = refl
add_same c f [] (g ∷ groups) other = rw other refl
add_same c f (x ∷ fs) groups other = rw (itself c) refl

-- files that go with a name, before groups that begin with another
add_one : (c : List ℕ) (p : Path) (e : Entry) (fs : Listed) (groups : Groups) → goes_with c p ≡ true
    → BeginsOther c groups
    → add_path p e (begun c fs groups) ≡ begun c (cut_one (strip_prefix (c ∷ []) p) e fs) groups
add_one c [] e fs groups goes other = refl
add_one c (d ∷ q) e fs groups goes other =
    rw goes
    (ap (λ (x : List ℕ). add_file x (q, e) (begun c fs groups)) (sym ((bytes_eq-Decides c d).0 goes)) ∙ add_same c (q, e) fs groups other)

run_grouped : (c : List ℕ) (run later : Listed) → AllByRecursion (λ f. goes_with c f.0 ≡ true) run
    → BeginsOther c (grouped later)
    → grouped (run ++ later) ≡ begun c (cut (c ∷ []) run) (grouped later)
unfolding begun
run_grouped c [] later goes other = refl
run_grouped c (f ∷ run) later goes other =
    ap (add_path f.0 f.1) (run_grouped c run later goes.1 other)
    ∙ add_one c f.0 f.1 (cut (c ∷ []) run) (grouped later) goes.0 other

abbrev run_of : List ℕ → Listed → ℕ
run_of c fs = prefix_len (λ f. goes_with c f.0) fs

one_more : (n : ℕ) → 1 + n ≡ suc n
one_more n = omega arith

run_goes : (c : List ℕ) (fs : Listed)
    → AllByRecursion (λ f. goes_with c f.0 ≡ true) (take (run_of c fs) fs)
run_goes c [] = tt
run_goes c (f ∷ fs) =
    by_cases (goes_with c f.0) (λ yea. rw (yea, one_more (run_of c fs)) (yea, run_goes c fs))
    (λ nay. rw nay tt)

other_name : (c d : List ℕ) (f : Path × Entry) (groups : Groups) → bytes_eq c d ≡ false
    → BeginsOther c (add_file d f groups)
other_name c d f [] nay = nay
other_name c d f (g ∷ groups) nay = by_cases (bytes_eq d g.0) (λ yea. rw yea nay) (λ no. rw no nay)

other_path : (c : List ℕ) (p : Path) (e : Entry) (groups : Groups) → goes_with c p ≡ false
    → BeginsOther c (add_path p e groups)
other_path c [] e groups nay = absurd (true≢false nay)
other_path c (d ∷ q) e groups nay = other_name c d (q, e) groups nay

later_other : (c : List ℕ) (fs : Listed) → BeginsOther c (grouped (drop (run_of c fs) fs))
later_other c [] = tt
later_other c (f ∷ fs) =
    by_cases (goes_with c f.0) (λ yea. rw (yea, one_more (run_of c fs)) (later_other c fs))
    (λ nay. rw nay (other_path c f.0 f.1 (grouped fs) nay))

run_some : (c : List ℕ) (fs : Listed) → next_name fs ≡ Some c → 0 < run_of c fs
run_some c [] h = cc h
run_some c (([], e) ∷ fs) h = omega arith
run_some c (((d ∷ q), e) ∷ fs) h =
    let same : d ≡ c = some_is d c h in
    let goes : bytes_eq c d ≡ true = (bytes_eq-Decides c d).1 (sym same) in
    rw goes (omega arith)

cut_some : (c : List ℕ) (fs : Listed) → next_name fs ≡ Some c
    → is_empty (cut (c ∷ []) (take (run_of c fs) fs)) ≡ false
cut_some c [] h = cc h
cut_some c (([], e) ∷ fs) h = rw (one_more (run_of c fs)) (cut_some c fs h)
cut_some c (((d ∷ q), e) ∷ fs) h =
    let same : d ≡ c = some_is d c h in
    let goes : bytes_eq c d ≡ true = (bytes_eq-Decides c d).1 (sym same) in
    rw (goes, one_more (run_of c fs)) (rw goes refl)

begun-some : (c : List ℕ) (fs : Listed) (groups : Groups) → is_empty fs ≡ false
    → begun c fs groups ≡ (c, fs) ∷ groups
unfolding begun
begun-some c [] groups h = absurd (true≢false h)
begun-some c (f ∷ fs) groups h = refl

-- the first group, and what is after it
first_group : (c : List ℕ) (fs : Listed) → next_name fs ≡ Some c
    → grouped fs ≡ (c, cut (c ∷ []) (take (run_of c fs) fs)) ∷ grouped (drop (run_of c fs) fs)
first_group c fs h =
    ap grouped (sym (take-append-drop (run_of c fs) fs))
    ∙ run_grouped c (take (run_of c fs) fs) (drop (run_of c fs) fs) (run_goes c fs)
    (later_other c fs)
    ∙ begun-some c (cut (c ∷ []) (take (run_of c fs) fs)) (grouped (drop (run_of c fs) fs))
    (cut_some c fs h)

pub no_group : (fs : Listed) → next_name fs ≡ None → grouped fs ≡ []
no_group [] h = refl
no_group (([], e) ∷ fs) h = no_group fs h
no_group (((d ∷ q), e) ∷ fs) h = cc h

run_below : (c : List ℕ) (bs : List Below)
    → prefix_len (λ f. goes_with c f.path) bs ≡ run_of c (files_below bs)
run_below c [] = refl
run_below c (b ∷ bs) = ap (λ (n : ℕ). cond (goes_with c b.path) (1 + n) 0) (run_below c bs)

pub next-group : (c : List ℕ) (bs : List Below) (n : ℕ) (below : List Below)
    → next_name (files_below bs) ≡ Some c → n ≡ prefix_len (λ f. goes_with c f.path) bs
    → n ≤ length bs
    → files_below below ≡ cut (c ∷ []) (files_below (take n bs))
    → IsNextGroup bs (c, files_below below) n
next-group c bs n below h is within cuts =
    let run : n ≡ run_of c (files_below bs) = is ∙ run_below c bs in record {
      some = subst (λ (k : ℕ). 0 < k) (sym run) (run_some c (files_below bs) h);
      within = within;
      first =
          first_group c (files_below bs) h
          ∙ ap
          (λ (k : ℕ). (c, cut (c ∷ []) (take k (files_below bs))) ∷ grouped (drop k (files_below bs)))
          (sym run)
          ∙ ap (λ (l : Listed). (c, cut (c ∷ []) l) ∷ grouped (drop n (files_below bs)))
          (take-map file_below n bs)
          ∙ ap (λ (l : Listed). (c, cut (c ∷ []) (files_below (take n bs))) ∷ grouped l)
          (drop-map file_below n bs)
          ∙ ap (λ (l : Listed). (c, l) ∷ grouped (files_below (drop n bs))) (sym cuts);
    }

one_of : (o : Option Below) (k : Option Path) (e : Entry)
    → option_map file_below o ≡ option_map (λ r. (r, e)) k
    → cut_one k e [] ≡ files_below (option_to_list o)
one_of None None e h = refl
one_of None (Some q) e h = cc h
one_of (Some b) None e h = cc h
one_of (Some b) (Some q) e h =
    ap (λ (f : Path × Entry). f ∷ []) (sym (some_is (file_below b) (q, e) h))

pub cut_turn : (c : List ℕ) (bs : List Below) (i : ℕ) (b : Below) (o : Option Below)
    (old new : List Below)
    → i < length bs → b ≡ get_or bs i b
    → option_map file_below o ≡ option_map (λ r. (r, b.entry)) (strip_prefix (c ∷ []) b.path)
    → files_below old ≡ cut (c ∷ []) (files_below (take i bs))
    → new ≡ old ++ option_to_list o → files_below new ≡ cut (c ∷ []) (files_below (take (i + 1) bs))
cut_turn c bs i b o old new lt at one sofar is =
    ap files_below is ∙ map-append file_below old (option_to_list o)
    ∙ ap (λ (l : Listed). l ++ files_below (option_to_list o)) sofar
    ∙ ap (λ (l : Listed). cut (c ∷ []) (files_below (take i bs)) ++ l)
    (sym (one_of o (strip_prefix (c ∷ []) b.path) b.entry one))
    ∙ sym (cut-append (c ∷ []) (files_below (take i bs)) (file_below b ∷ []))
    ∙ ap (cut (c ∷ [])) (sym (map-append file_below (take i bs) (b ∷ [])))
    ∙ ap (λ (l : List Below). cut (c ∷ []) (files_below l))
    (sym (take_more bs i b lt ∙ ap (λ (x : Below). take i bs ++ x ∷ []) (sym at)))

cut_more : (top : Path) (xs : List (Bor Path × Bor Entry)) (p : Bor Path) (e : Bor Entry)
    → cut top (map deref_pair (xs ++ (p, e) ∷ [])) ≡ cut top (map deref_pair xs) ++ cut_one (strip_prefix top p.now) e.now []
cut_more top xs p e =
    ap (cut top) (map-append deref_pair xs ((p, e) ∷ []))
    ∙ cut-append top (map deref_pair xs) ((p.now, e.now) ∷ [])

pub found_turn : (top : Path) (xs : List (Bor Path × Bor Entry)) (p : Bor Path) (e : Bor Entry)
    (old new : List Below) (o : Option Path) (r : Path)
    → files_below old ≡ cut top (map deref_pair xs) → o ≡ Some r → o ≡ strip_prefix top p.now
    → new ≡ old ++ record { path = r; entry = e.now } ∷ []
    → files_below new ≡ cut top (map deref_pair (xs ++ (p, e) ∷ []))
found_turn top xs p e old new o r sofar is found pushed =
    ap files_below pushed ∙ map-append file_below old (record { path = r; entry = e.now } ∷ [])
    ∙ ap (λ (l : Listed). l ++ (r, e.now) ∷ []) sofar
    ∙ ap (λ (k : Option Path). cut top (map deref_pair xs) ++ cut_one k e.now []) (sym is ∙ found)
    ∙ sym (cut_more top xs p e)

pub lost_turn : (top : Path) (xs : List (Bor Path × Bor Entry)) (p : Bor Path) (e : Bor Entry)
    (fs : Listed) (o : Option Path)
    → fs ≡ cut top (map deref_pair xs) → o ≡ None → o ≡ strip_prefix top p.now
    → fs ≡ cut top (map deref_pair (xs ++ (p, e) ∷ []))
lost_turn top xs p e fs o sofar is found =
    sofar ∙ sym (append-nil (cut top (map deref_pair xs)))
    ∙ ap (λ (k : Option Path). cut top (map deref_pair xs) ++ cut_one k e.now []) (sym is ∙ found)
    ∙ sym (cut_more top xs p e)

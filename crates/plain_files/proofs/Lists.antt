-- Lists of files: one file more, and files put one by one.
use Rattle.std.specs.Prelude.{option_to_list}
use Rattle.std.proofs.Common.{◌≡◌, List, [], ◌∷◌, ◌++◌, map, Option, Some, None, refl, sym, ap, ◌∙◌}
use Rattle.std.proofs.lemmas.List.{map-append, append-nil}
use Rattle.std.specs.Borrow.{Bor}
use Rattle.std.specs.Map.Iter.{deref_pair}
use Rattle.std.specs.FinMap.Entries.{put, by_order}
use Rattle.std.specs.BTreeMap.{insert_entry}
use Rattle.std.specs.declared.cmp.Ordering.{Ordering}
use Rattle.std.specs.declared.cmp.Ordering.TheVariants.{Less, Equal, Greater}
use Rattle.std.specs.Ordering.{match_ordering}
use Rattle.git_paths.specs.Order.{path_cmp}
use Rattle.git_paths.specs.Paths.{strip_prefix}
use Rattle.file_maps.specs.declared.entry.Entry.{Entry}
use Rattle.file_maps.specs.FileMap.{Path, Listed}
use Rattle.file_maps.specs.Edits.{cut, cut_one, moved}
use Rattle.file_maps.specs.Kept.{put_all}
use Rattle.file_maps.proofs.Lists.{cut-append}

by : (o : Ordering) (x y z w : Listed) → z ≡ w → match_ordering o x y z ≡ by_order o x y w
by Less x y z w e = refl
by Equal x y z w e = refl
by Greater x y z w e = e

-- a map's insertion is that of finite maps
pub insert_entry-put : (p : Path) (e : Entry) (es : Listed)
    → insert_entry path_cmp es p e ≡ put path_cmp p e es
insert_entry-put p e [] = refl
insert_entry-put p e (f ∷ es) =
    by (path_cmp p f.0) _ _ _ _ (ap (λ (r : Listed). f ∷ r) (insert_entry-put p e es))

-- the last of some files is put first
pub put_all-last : (held : Listed) (files : Listed) (p : Path) (e : Entry)
    → put_all held (files ++ (p, e) ∷ []) ≡ put_all (insert_entry path_cmp held p e) files
put_all-last held [] p e = sym (insert_entry-put p e held)
put_all-last held (f ∷ files) p e = ap (put path_cmp f.0 f.1) (put_all-last held files p e)

-- what is moved of some files and one more
moved_more : (to from : Path) (xs : List (Bor Path × Bor Entry)) (p : Bor Path) (e : Bor Entry)
    → moved to (cut from (map deref_pair (xs ++ (p, e) ∷ []))) ≡ moved to (cut from (map deref_pair xs)) ++ moved to (cut_one (strip_prefix from p.now) e.now [])
moved_more to from xs p e =
    ap (λ (l : Listed). moved to (cut from l)) (map-append deref_pair xs ((p, e) ∷ []))
    ∙ ap (moved to) (cut-append from (map deref_pair xs) ((p.now, e.now) ∷ []))
    ∙ map-append (λ (f : Path × Entry). (to ++ f.0, f.1)) (cut from (map deref_pair xs))
    (cut_one (strip_prefix from p.now) e.now [])

pub moved_some : (to from : Path) (xs : List (Bor Path × Bor Entry)) (p : Bor Path) (e : Bor Entry)
    (rest : Path)
    → Some rest ≡ strip_prefix from p.now
    → moved to (cut from (map deref_pair (xs ++ (p, e) ∷ []))) ≡ moved to (cut from (map deref_pair xs)) ++ (to ++ rest, e.now) ∷ []
moved_some to from xs p e rest h =
    moved_more to from xs p e
    ∙ ap
    (λ (o : Option Path). moved to (cut from (map deref_pair xs)) ++ moved to (cut_one o e.now []))
    (sym h)

pub moved_none : (to from : Path) (xs : List (Bor Path × Bor Entry)) (p : Bor Path) (e : Bor Entry)
    → None ≡ strip_prefix from p.now
    → moved to (cut from (map deref_pair (xs ++ (p, e) ∷ []))) ≡ moved to (cut from (map deref_pair xs))
moved_none to from xs p e h =
    moved_more to from xs p e
    ∙ ap
    (λ (o : Option Path). moved to (cut from (map deref_pair xs)) ++ moved to (cut_one o e.now []))
    (sym h)
    ∙ append-nil (moved to (cut from (map deref_pair xs)))

pub put_turn : (end held new files left : Listed) (o : Option (Path × Entry)) (p : Path) (e : Entry)
    → put_all held files ≡ end
    → files ≡ left ++ option_to_list o → o ≡ Some (p, e) → new ≡ insert_entry path_cmp held p e
    → put_all new left ≡ end
put_turn end held new files left o p e sofar popped is put =
    ap (λ (h : Listed). put_all h left) put ∙ sym (put_all-last held left p e)
    ∙ ap (λ (x : Option (Path × Entry)). put_all held (left ++ option_to_list x)) (sym is)
    ∙ ap (put_all held) (sym popped) ∙ sofar

pub moved_turn : (to from : Path) (xs : List (Bor Path × Bor Entry)) (p : Bor Path) (e : Bor Entry)
    (files new : Listed) (o : Option Path) (rest joined : Path)
    → files ≡ moved to (cut from (map deref_pair xs)) → o ≡ Some rest → o ≡ strip_prefix from p.now
    → joined ≡ to ++ rest → new ≡ files ++ (joined, e.now) ∷ []
    → new ≡ moved to (cut from (map deref_pair (xs ++ (p, e) ∷ [])))
moved_turn to from xs p e files new o rest joined sofar is found joins pushed =
    pushed ∙ ap (λ (l : Listed). l ++ (joined, e.now) ∷ []) sofar
    ∙ ap (λ (q : Path). moved to (cut from (map deref_pair xs)) ++ (q, e.now) ∷ []) joins
    ∙ sym (moved_some to from xs p e rest (sym is ∙ found))

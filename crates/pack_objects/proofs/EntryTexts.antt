-- Entries, one object more at a time.
use Rattle.std.proofs.Common.{◌≡◌, ℕ, ◌+◌, ◌-◌, ◌<◌, ◌≤◌, ◌&&◌, Bool, cond, true, false, leb, List, [], ◌∷◌, ◌++◌, length, get_or, take, filter_map, Option, None, Some, is_some, refl, sym, ap, ap₂, ◌∙◌, append_assoc, append-nil, arith}
use Rattle.std.specs.List.{flat_map, list_all}
use Rattle.std.proofs.lemmas.Bool.{cases_Bool}
use Rattle.std.proofs.lemmas.Bool.Decides.{nat_tests}
use Rattle.std.proofs.lemmas.Grind.{flat_map-append}
use Rattle.std.proofs.lemmas.List.{length-append, take_more}
use Rattle.std.proofs.lemmas.List.Elements.{filter_map-append}
use Rattle.std.proofs.lemmas.List.Folds.{list_all-append, list_all_at}
use Rattle.git_model.specs.Content.{Content}
use Rattle.git_model.specs.Repository.{Object, object_named}
use Rattle.missing_objects.specs.Missing.{has_all}
use Rattle.pack_text.specs.PackText.{entry_text}
use Rattle.pack_objects.specs.Entries.{contents_of, entries_text, left_after}

-- One more of a list.
pub next-of : {A : Type 0} (xs : List A) (i : ℕ) (x : A) → i < length xs → x ≡ get_or xs i x → take (i + 1) xs ≡ take i xs ++ x ∷ []
next-of xs i x there is = take_more xs i x there ∙ ap (λ y. take i xs ++ y ∷ []) (sym is)

one-content : (os : List Object) (id : List ℕ) (o : Option Content) → object_named id os ≡ o
    → entries_text os (id ∷ []) ≡ cond (is_some o) (entries_text os (id ∷ [])) []
one-content os id (Some c) is = refl
one-content os id None is = rw is refl

known-text : (os : List Object) (id : List ℕ) (c : Content) → object_named id os ≡ Some c → entries_text os (id ∷ []) ≡ entry_text c
known-text os id c is = rw is (append-nil (entry_text c))

unknown-text : (os : List Object) (id : List ℕ) → object_named id os ≡ None → entries_text os (id ∷ []) ≡ []
unknown-text os id is = rw is refl

pub text-more : (os : List Object) (names : List (List ℕ)) (i : ℕ) (id : List ℕ) → i < length names → id ≡ get_or names i id
    → entries_text os (take (i + 1) names) ≡ entries_text os (take i names) ++ entries_text os (id ∷ [])
text-more os names i id there is =
    ap (entries_text os) (next-of names i id there is)
    ∙ ap (flat_map entry_text) (filter_map-append (λ x. object_named x os) (take i names) (id ∷ []))
    ∙ flat_map-append entry_text (contents_of os (take i names)) (contents_of os (id ∷ []))

-- The entry of one object more.
pub known-more : (os : List Object) (names : List (List ℕ)) (i : ℕ) (id : List ℕ) (c : Content) → i < length names → id ≡ get_or names i id
    → object_named id os ≡ Some c → entries_text os (take (i + 1) names) ≡ entries_text os (take i names) ++ entry_text c
known-more os names i id c there is found =
    text-more os names i id there is ∙ ap (λ (l : List ℕ). entries_text os (take i names) ++ l) (known-text os id c found)

-- No entry more.
pub unknown-more : (os : List Object) (names : List (List ℕ)) (i : ℕ) (id : List ℕ) → i < length names → id ≡ get_or names i id
    → object_named id os ≡ None → entries_text os (take (i + 1) names) ≡ entries_text os (take i names)
unknown-more os names i id there is none =
    text-more os names i id there is ∙ ap (λ (l : List ℕ). entries_text os (take i names) ++ l) (unknown-text os id none)
    ∙ append-nil (entries_text os (take i names))

-- What is left after a text.
pub enough-left : (left len : ℕ) (text : List ℕ) → len ≡ length text → len ≤ left → Some (left - len) ≡ left_after (Some left) text
enough-left left len text size le = grind (arith, nat_tests)

pub too-little-left : (left len : ℕ) (text : List ℕ) → len ≡ length text → left < len → None ≡ left_after (Some left) text
too-little-left left len text size lt = grind (arith, nat_tests)

-- What is left after two texts.
pub left-both : (limit : ℕ) (a b : List ℕ) → left_after (left_after (Some limit) a) b ≡ left_after (Some limit) (a ++ b)
left-both limit a b = by (leb (length a) limit) (leb (length b) (limit - length a)) (leb (length (a ++ b)) limit) refl refl refl
  where
    by : (x y z : Bool) → leb (length a) limit ≡ x → leb (length b) (limit - length a) ≡ y → leb (length (a ++ b)) limit ≡ z
        → left_after (left_after (Some limit) a) b ≡ left_after (Some limit) (a ++ b)
    by x y z ex ey ez = let l = length-append a b in grind (arith, nat_tests)

-- One known name more.
pub known-all : (os : List Object) (names : List (List ℕ)) (i : ℕ) (id : List ℕ) (c : Content) → i < length names → id ≡ get_or names i id
    → object_named id os ≡ Some c → has_all os (take i names) ≡ true → has_all os (take (i + 1) names) ≡ true
known-all os names i id c there is found so_far =
    ap (has_all os) (next-of names i id there is)
    ∙ list_all-append (λ name. is_some (object_named name os)) (take i names) (id ∷ [])
    ∙ ap₂ (λ a b. a && b) so_far (ap (λ (o : Option Content). is_some o && true) found)

-- An unknown name.
pub unknown-all : (os : List Object) (names : List (List ℕ)) (i : ℕ) (id : List ℕ) → i < length names → id ≡ get_or names i id
    → object_named id os ≡ None → has_all os names ≡ false
unknown-all os names i id there is none =
    list_all_at (λ name. is_some (object_named name os)) names i id there (ap (λ x. is_some (object_named x os)) (sym is) ∙ ap is_some none)

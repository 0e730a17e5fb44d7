use Rattle.std.proofs.Common.{◌≡◌, Bool, true, false, List, [], ◌∷◌, map, Option, None, Some, refl, ap, ◌∙◌, rules, tests}
use Rattle.std.specs.Prelude.{find}
use Rattle.std.specs.Borrow.{Bor}
use Rattle.std.specs.Option.{option_map, option_copied}
use Rattle.std.specs.Str.{bytes_eq}
use Rattle.std.proofs.lemmas.Iterator.{YieldsList-from_slice}
use Rattle.std.proofs.lemmas.Iterator.Search.{find_from_yields_List}
use Rattle.git_model.specs.Tree.{TreeEntry}
use Rattle.git_objects.specs.declared.tree_entry.TreeEntry as entry
use Rattle.git_objects.specs.Parts.{entry_of}
use Rattle.revisions.proofs.contents.entry_named.Goals as goal

-- what is found in a list that a function made is what it makes of what is found in the first list
found-map : {X Y : Type 0} (f : X → Y) (test : Y → Bool) (xs : List X)
    → option_map f (find (λ x. test (f x)) xs) ≡ find test (map f xs)
found-map f test [] = refl
found-map {X} f test (x ∷ xs) = by (found-map f test xs) (test (f x)) refl
  where
    by : option_map f (find (λ (y : X). test (f y)) xs) ≡ find test (map f xs) → (b : Bool)
        → test (f x) ≡ b
        → option_map f (find (λ (y : X). test (f y)) (x ∷ xs)) ≡ find test (map f (x ∷ xs))
    by rest true e = rw e refl
    by rest false e = rw e rest

copied-map : {X : Type 0} (o : Option (Bor X)) → option_copied o ≡ option_map (λ x. x.now) o
copied-map None = refl
copied-map (Some x) = refl

pub returns : goal.returns
returns c =
    let test : TreeEntry → Bool = λ e. bytes_eq e.name c.args.name.now in
    let found =
    find_from_yields_List (λ (e : entry.TreeEntry). test (entry_of e)) _ _ c.find.result
    c.find.ensures.ran (YieldsList-from_slice c.args.entries.now cc) (λ x b q k. search
    (rules, tests)) in
    ap (option_map entry_of) (c.copied.ensures ∙ copied-map c.find.result ∙ found)
    ∙ found-map entry_of test c.args.entries.now

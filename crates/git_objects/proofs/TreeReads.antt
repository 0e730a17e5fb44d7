-- Entries taken one by one from the contents of a tree.
use Rattle.std.proofs.Common.{◌≡◌, ℕ, ◌<◌, List, [], ◌∷◌, ◌++◌, length, sym, ap, ◌∙◌, Some, None, All, arith}
use Rattle.std.proofs.lemmas.List.{append_assoc, append-nil, length-append}
use Rattle.std.proofs.lemmas.List.Concat.{flat_map-append}
use Rattle.std.proofs.lemmas.List.Elements.{All-head, All-tail}
use Rattle.std.proofs.lemmas.Option.{none-some, some_pair_parts}
use Rattle.git_model.specs.Tree.{TreeEntry, CanWriteEntry, entry_text, tree_contents, mode_digits}
use Rattle.git_objects.specs.Fronts.{IsFront}

-- an entry's text is not empty
has_text : (e : TreeEntry) (rest : List ℕ) → 0 < length (entry_text e ++ rest)
has_text e rest =
    omega
    (arith, length-append (entry_text e) rest, length-append ((mode_digits e.mode ++ 32 ∷ []) ++ e.name) (0 ∷ e.id))

-- the entries es are those that were taken and more, whose text is the rest
abbrev pub Remains : List TreeEntry → List TreeEntry → List ℕ → Type 0
Remains es taken rest =
    (more : List TreeEntry) × (es ≡ taken ++ more) × All CanWriteEntry more × (rest ≡ tree_contents more)

pub remains_next : (es taken : List TreeEntry) (rest : List ℕ) (e : TreeEntry) (after : List ℕ)
    → Remains es taken rest → IsFront CanWriteEntry entry_text rest (Some (e, after))
    → Remains es (taken ++ e ∷ []) after
remains_next es taken rest e after ([], is, all, text) front =
    absurd (omega (arith, ap length text, ap length front.found.1, has_text e after))
remains_next es taken rest e after (m ∷ more, is, all, text) front =
    let same =
    some_pair_parts _ _ _ _
    (front.only m (tree_contents more) (All-head CanWriteEntry m more all) text) in
    (more, is ∙ ap (λ x. taken ++ x ∷ more) (sym same.0) ∙ sym (append_assoc taken (e ∷ []) more), All-tail CanWriteEntry m more all, same.1)

pub remains_stuck : (es taken : List TreeEntry) (rest : List ℕ) → Remains es taken rest
    → 0 < length rest → IsFront CanWriteEntry entry_text rest None → ⊥
remains_stuck es taken rest ([], is, all, text) long front = omega (arith, ap length text)
remains_stuck es taken rest (m ∷ more, is, all, text) long front =
    none-some _ (front.only m (tree_contents more) (All-head CanWriteEntry m more all) text)

pub remains_none : (es taken : List TreeEntry) (rest : List ℕ) → Remains es taken rest
    → length rest ≡ 0 → taken ≡ es
remains_none es taken rest ([], is, all, text) short = sym (is ∙ append-nil taken)
remains_none es taken rest (m ∷ more, is, all, text) short =
    absurd (omega (arith, ap length text, has_text m (tree_contents more)))

pub taken_more : (contents : List ℕ) (taken : List TreeEntry) (rest : List ℕ) (e : TreeEntry)
    (after : List ℕ)
    → contents ≡ tree_contents taken ++ rest → rest ≡ entry_text e ++ after
    → contents ≡ tree_contents (taken ++ e ∷ []) ++ after
taken_more contents taken rest e after is front =
    let more : tree_contents (taken ++ e ∷ []) ≡ tree_contents taken ++ entry_text e =
    flat_map-append entry_text taken (e ∷ [])
    ∙ ap (λ t. tree_contents taken ++ t) (append-nil (entry_text e)) in
    is ∙ ap (λ r. tree_contents taken ++ r) front
    ∙ sym (append_assoc (tree_contents taken) (entry_text e) after)
    ∙ ap (λ t. t ++ after) (sym more)

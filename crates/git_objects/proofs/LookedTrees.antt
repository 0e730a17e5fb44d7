-- Entries taken one by one from the contents of any tree that Git can walk.
use Rattle.std.proofs.Common.{◌≡◌, ℕ, ◌<◌, List, [], ◌∷◌, ◌++◌, length, map, refl, sym, ap, ◌∙◌, Some, None, All, arith, codes}
use Rattle.std.specs.List.{flat_map}
use Rattle.std.proofs.lemmas.List.{append_assoc, append-nil, length-append, map_push}
use Rattle.std.proofs.lemmas.List.Concat.{flat_map-append}
use Rattle.std.proofs.lemmas.List.Elements.{All-head, All-tail, All-nil, All-push, recursion_from_All}
use Rattle.std.proofs.lemmas.Option.{none-some, some_pair_parts}
use Rattle.git_model.specs.declared.kind.Kind.TheVariants as kind
use Rattle.git_model.specs.Tree.{TreeEntry}
use Rattle.git_model.specs.TreeReading.{tree_read}
use Rattle.git_model.specs.Readable.{RawEntry, IsRawEntry, raw_entry_text, entry_from, IsReadable}
use Rattle.git_model.proofs.TreeReadings.{raw_back}
use Rattle.git_objects.specs.Fronts.{IsFront}
use Rattle.git_objects.specs.RawEntries.{EntriesSoFar}

-- an entry's text is not empty
has_text : (e : RawEntry) (rest : List ℕ) → 0 < length (raw_entry_text e ++ rest)
has_text e rest =
    omega
    (arith, length-append (raw_entry_text e) rest, length-append ((e.mode ++ 32 ∷ []) ++ e.name) (0 ∷ e.id))

pub none_so_far : (bytes : List ℕ) → EntriesSoFar bytes [] bytes
none_so_far bytes = record { raws = []; entries = All-nil IsRawEntry; are = refl; text = refl }

pub one_more : (bytes : List ℕ) (es : List TreeEntry) (rest : List ℕ) (e : RawEntry) (after : List ℕ)
    → EntriesSoFar bytes es rest → IsRawEntry e → rest ≡ raw_entry_text e ++ after
    → EntriesSoFar bytes (es ++ entry_from e ∷ []) after
one_more bytes es rest e after h is text = record {
  raws = h.raws ++ e ∷ [];
  entries = All-push IsRawEntry h.raws e h.entries is;
  are = ap (λ (l : List TreeEntry). l ++ entry_from e ∷ []) h.are ∙ sym (map_push entry_from h.raws e);
  text =
      let more : flat_map raw_entry_text (h.raws ++ e ∷ []) ≡ flat_map raw_entry_text h.raws ++ raw_entry_text e =
      flat_map-append raw_entry_text h.raws (e ∷ [])
      ∙ ap (λ t. flat_map raw_entry_text h.raws ++ t) (append-nil (raw_entry_text e)) in
      h.text ∙ ap (λ r. flat_map raw_entry_text h.raws ++ r) text
      ∙ sym (append_assoc (flat_map raw_entry_text h.raws) (raw_entry_text e) after)
      ∙ ap (λ t. t ++ after) (sym more);
}

-- what follows an entry of a readable tree is readable
pub readable_after : (rest : List ℕ) (e : RawEntry) (after : List ℕ)
    → IsFront IsRawEntry raw_entry_text rest (Some (e, after)) → IsReadable kind.Tree rest
    → IsReadable kind.Tree after
readable_after rest e after front ([], all, text) =
    absurd (omega (arith, ap length text, ap length front.found.1, has_text e after))
readable_after rest e after front (m ∷ more, all, text) =
    let same =
    some_pair_parts _ _ _ _
    (front.only m (flat_map raw_entry_text more) (All-head IsRawEntry m more all) text) in
    (more, All-tail IsRawEntry m more all, same.1)

-- a readable tree that is not empty begins with an entry
pub stuck : (rest : List ℕ) → 0 < length rest → IsFront IsRawEntry raw_entry_text rest None
    → IsReadable kind.Tree rest → ⊥
stuck rest long front ([], all, text) = omega (arith, ap length text)
stuck rest long front (m ∷ more, all, text) =
    none-some _ (front.only m (flat_map raw_entry_text more) (All-head IsRawEntry m more all) text)

empty : (xs : List ℕ) → length xs ≡ 0 → xs ≡ []
empty [] none = refl
empty (x ∷ xs) none = absurd (omega (arith, none))

-- where nothing is left
pub all_taken : (bytes : List ℕ) (es : List TreeEntry) (rest : List ℕ) → EntriesSoFar bytes es rest
    → length rest ≡ 0 → IsReadable kind.Tree bytes × (es ≡ tree_read bytes)
all_taken bytes es rest h none =
    let text : bytes ≡ flat_map raw_entry_text h.raws =
    h.text ∙ ap (λ r. flat_map raw_entry_text h.raws ++ r) (empty rest none)
    ∙ append-nil (flat_map raw_entry_text h.raws) in (
      (h.raws, h.entries, text),
      h.are ∙ sym (ap tree_read text ∙ raw_back h.raws (recursion_from_All IsRawEntry h.raws h.entries)),
    )

-- A tree entry at the front of a text: its mode, its name and the name of its object, one after the
-- other.
use Rattle.std.proofs.Common.{◌≡◌, ℕ, ◌<◌, ◌≤◌, List, [], ◌∷◌, ◌++◌, length, take, drop, refl, sym, ap, subst, ◌∙◌, ◌+◌, Option, Some, None, arith, Fits, w8, get_or}
use Rattle.std.specs.Prelude.{⊤}
use Rattle.std.specs.Option.{option_map}
use Rattle.std.proofs.lemmas.List.{append_assoc, take-append-drop, take_at, drop_at, length-take, get_or-take, get_or-append-add, length-append}
use Rattle.std.proofs.lemmas.List.Elements.{All-from_get_or}
use Rattle.git_model.specs.declared.file_mode.FileMode.{FileMode}
use Rattle.git_model.specs.ObjectName.{IsObjectName}
use Rattle.git_model.specs.Tree.{TreeEntry, IsEntryName, CanWriteEntry, entry_text}
use Rattle.git_objects.specs.Fronts.{IsFront}
use Rattle.git_objects.specs.TreeParts.{mode_text, name_text}
use Rattle.git_objects.proofs.Fronts.{no_front, Both, both, first_missing, second_missing, both_there, renamed}

-- twenty bytes are an object name
pub id_there : (bytes : List ℕ) → ((i : ℕ) → Fits w8 (get_or bytes i 0)) → 20 ≤ length bytes
    → IsFront IsObjectName (λ id. id) bytes (Some (take 20 bytes, drop 20 bytes))
id_there bytes fits long = record {
  found = (
    record {
      size = omega (arith, length-take 20 bytes);
      bytes = All-from_get_or (λ byte. byte < 256) (take 20 bytes) 0 (λ k lt.
          let below : k < 20 = omega (arith, length-take 20 bytes) in
          rw (get_or-take 20 bytes k 0 below) (omega (arith, fits k)));
    },
    sym (take-append-drop 20 bytes),
  );
  only = λ id rest is e.
      let front : take 20 bytes ≡ id = ap (take 20) e ∙ take_at id rest 20 is.size in
      let back : drop 20 bytes ≡ rest = ap (drop 20) e ∙ drop_at id rest 20 is.size in
      rw (front, back) refl;
}

pub id_missing : (bytes : List ℕ) → length bytes < 20 → IsFront IsObjectName (λ id. id) bytes None
id_missing bytes short =
    no_front bytes
    (λ id rest is e. let long = ap length e ∙ length-append id rest in omega (arith, is.size))

-- bytes after others are bytes
pub after_fits : (xs ys zs : List ℕ) → xs ≡ ys ++ zs → ((i : ℕ) → Fits w8 (get_or xs i 0))
    → (i : ℕ) → Fits w8 (get_or zs i 0)
after_fits xs ys zs e fits i =
    subst (λ b. Fits w8 b) (ap (λ l. get_or l (length ys + i) 0) e ∙ get_or-append-add ys zs i 0)
    (fits (length ys + i))

abbrev Name_is : (List ℕ × List ℕ) → Type 0
Name_is = Both IsEntryName IsObjectName name_text (λ id. id)

abbrev name_and_id : (List ℕ × List ℕ) → List ℕ
name_and_id = both IsEntryName IsObjectName name_text (λ id. id)

abbrev entry_from : FileMode × (List ℕ × List ℕ) → TreeEntry
entry_from p = record { mode = p.0; name = p.1.0; id = p.1.1 }

abbrev parts_of : TreeEntry → FileMode × (List ℕ × List ℕ)
parts_of e = (e.mode, (e.name, e.id))

same_text : (e : TreeEntry) → mode_text e.mode ++ ((e.name ++ 0 ∷ []) ++ e.id) ≡ entry_text e
same_text e = simp append_assoc

entry_front : (bytes : List ℕ) (read : Option ((FileMode × (List ℕ × List ℕ)) × List ℕ))
    → IsFront (Both (λ _. ⊤) Name_is mode_text name_and_id) (both (λ _. ⊤) Name_is mode_text name_and_id) bytes read
    → IsFront CanWriteEntry entry_text bytes (option_map (λ (r : (FileMode × (List ℕ × List ℕ)) × List ℕ). (entry_from r.0, r.1)) read)
entry_front bytes read h =
    renamed entry_from parts_of bytes read (λ e. refl)
    (λ p is. record { name = is.1.0; id = is.1.1 }) (λ e is. (tt, (is.name, is.id)))
    (λ p. same_text (entry_from p)) (λ e. sym (same_text e)) h

pub mode_missing : (bytes : List ℕ) → IsFront (λ _. ⊤) mode_text bytes None
    → IsFront CanWriteEntry entry_text bytes None
mode_missing bytes m =
    entry_front bytes None (first_missing (λ _. ⊤) Name_is mode_text name_and_id bytes m)

pub name_missing : (bytes : List ℕ) (mode : FileMode) (r : List ℕ)
    → IsFront (λ _. ⊤) mode_text bytes (Some (mode, r)) → IsFront IsEntryName name_text r None
    → IsFront CanWriteEntry entry_text bytes None
name_missing bytes mode r m n =
    entry_front bytes None
    (second_missing (λ _. ⊤) Name_is mode_text name_and_id bytes mode r m (first_missing IsEntryName IsObjectName name_text (λ id. id) r n))

pub short_of_id : (bytes : List ℕ) (mode : FileMode) (r name s : List ℕ)
    → IsFront (λ _. ⊤) mode_text bytes (Some (mode, r))
    → IsFront IsEntryName name_text r (Some (name, s)) → length s < 20
    → IsFront CanWriteEntry entry_text bytes None
short_of_id bytes mode r name s m n short =
    entry_front bytes None
    (second_missing (λ _. ⊤) Name_is mode_text name_and_id bytes mode r m (second_missing IsEntryName IsObjectName name_text (λ id. id) r name s n (id_missing s short)))

pub entry_there : (bytes : List ℕ) (mode : FileMode) (r name s : List ℕ)
    → ((i : ℕ) → Fits w8 (get_or s i 0)) → IsFront (λ _. ⊤) mode_text bytes (Some (mode, r))
    → IsFront IsEntryName name_text r (Some (name, s)) → 20 ≤ length s
    → IsFront CanWriteEntry entry_text bytes (Some (record { mode = mode; name = name; id = take 20 s }, drop 20 s))
entry_there bytes mode r name s fits m n long =
    entry_front bytes (Some ((mode, (name, take 20 s)), drop 20 s))
    (both_there (λ _. ⊤) Name_is mode_text name_and_id bytes mode r (name, take 20 s) (drop 20 s) m (both_there IsEntryName IsObjectName name_text (λ id. id) r name s (take 20 s) (drop 20 s) n (id_there s fits long)))

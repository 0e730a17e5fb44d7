-- An entry of any tree at the front of a text: the digits of its mode, its name and the name of its
-- object, one after the other.
use Rattle.std.proofs.Common.{◌≡◌, ◌≢◌, ℕ, ◌<◌, ◌≤◌, List, [], ◌∷◌, ◌++◌, length, take, drop, refl, sym, subst, true, Option, Some, None, All, Fits, w8, get_or}
use Rattle.std.specs.Option.{option_map}
use Rattle.std.proofs.lemmas.Bool.{false≢true}
use Rattle.std.proofs.lemmas.List.{append_assoc}
use Rattle.std.proofs.lemmas.List.Elements.{All-weaker}
use Rattle.git_model.specs.ObjectName.{IsObjectName}
use Rattle.git_model.specs.Readable.{is_octal_digit, AreModeDigits, RawEntry, IsRawEntry, raw_entry_text}
use Rattle.git_objects.specs.Fronts.{IsFront}
use Rattle.git_objects.specs.TreeParts.{name_text}
use Rattle.git_objects.specs.RawEntries.{digits_text, IsRawName}
use Rattle.git_objects.proofs.Fronts.{Both, both, first_missing, second_missing, both_there, renamed}
use Rattle.git_objects.proofs.TreeFronts.{id_there, id_missing}

-- no octal digit is a space
pub no_space : (digits : List ℕ) → AreModeDigits digits → All (λ byte. byte ≢ 32) digits
no_space digits is =
    All-weaker (λ b. is_octal_digit b ≡ true) (λ b. b ≢ 32)
    (λ b h e. false≢true (subst (λ x. is_octal_digit x ≡ true) e h)) digits is.octal

pub no_nul : (name : List ℕ) → IsRawName name → All (λ byte. byte ≢ 0) name
no_nul name is = is.no_nul

abbrev IsNamed : (List ℕ × List ℕ) → Type 0
IsNamed = Both IsRawName IsObjectName name_text (λ id. id)

abbrev name_and_id : (List ℕ × List ℕ) → List ℕ
name_and_id = both IsRawName IsObjectName name_text (λ id. id)

abbrev IsWhole : List ℕ × (List ℕ × List ℕ) → Type 0
IsWhole = Both AreModeDigits IsNamed digits_text name_and_id

abbrev whole : List ℕ × (List ℕ × List ℕ) → List ℕ
whole = both AreModeDigits IsNamed digits_text name_and_id

abbrev entry_of_parts : List ℕ × (List ℕ × List ℕ) → RawEntry
entry_of_parts p = record { mode = p.0; name = p.1.0; id = p.1.1 }

abbrev parts_of : RawEntry → List ℕ × (List ℕ × List ℕ)
parts_of e = (e.mode, (e.name, e.id))

same_text : (e : RawEntry) → digits_text e.mode ++ ((e.name ++ 0 ∷ []) ++ e.id) ≡ raw_entry_text e
same_text e = simp append_assoc

entry_front : (bytes : List ℕ) (read : Option ((List ℕ × (List ℕ × List ℕ)) × List ℕ))
    → IsFront IsWhole whole bytes read
    → IsFront IsRawEntry raw_entry_text bytes (option_map (λ (r : (List ℕ × (List ℕ × List ℕ)) × List ℕ). (entry_of_parts r.0, r.1)) read)
entry_front bytes read h =
    renamed entry_of_parts parts_of bytes read (λ e. refl)
    (λ p is. record { mode = is.0; not_empty = is.1.0.not_empty; no_nul = is.1.0.no_nul; id = is.1.1 })
    (λ e is. (is.mode, (record { not_empty = is.not_empty; no_nul = is.no_nul }, is.id)))
    (λ p. same_text (entry_of_parts p)) (λ e. sym (same_text e)) h

pub digits_missing : (bytes : List ℕ) → IsFront AreModeDigits digits_text bytes None
    → IsFront IsRawEntry raw_entry_text bytes None
digits_missing bytes m =
    entry_front bytes None (first_missing AreModeDigits IsNamed digits_text name_and_id bytes m)

pub raw_name_missing : (bytes digits r : List ℕ)
    → IsFront AreModeDigits digits_text bytes (Some (digits, r)) → IsFront IsRawName name_text r None
    → IsFront IsRawEntry raw_entry_text bytes None
raw_name_missing bytes digits r m n =
    entry_front bytes None
    (second_missing AreModeDigits IsNamed digits_text name_and_id bytes digits r m (first_missing IsRawName IsObjectName name_text (λ id. id) r n))

pub raw_short_of_id : (bytes digits r name s : List ℕ)
    → IsFront AreModeDigits digits_text bytes (Some (digits, r))
    → IsFront IsRawName name_text r (Some (name, s)) → length s < 20
    → IsFront IsRawEntry raw_entry_text bytes None
raw_short_of_id bytes digits r name s m n short =
    entry_front bytes None
    (second_missing AreModeDigits IsNamed digits_text name_and_id bytes digits r m (second_missing IsRawName IsObjectName name_text (λ id. id) r name s n (id_missing s short)))

pub raw_entry_there : (bytes digits r name s : List ℕ)
    → ((i : ℕ) → Fits w8 (get_or s i 0)) → IsFront AreModeDigits digits_text bytes (Some (digits, r))
    → IsFront IsRawName name_text r (Some (name, s)) → 20 ≤ length s
    → IsFront IsRawEntry raw_entry_text bytes (Some (record { mode = digits; name = name; id = take 20 s }, drop 20 s))
raw_entry_there bytes digits r name s fits m n long =
    entry_front bytes (Some ((digits, (name, take 20 s)), drop 20 s))
    (both_there AreModeDigits IsNamed digits_text name_and_id bytes digits r (name, take 20 s) (drop 20 s) m (both_there IsRawName IsObjectName name_text (λ id. id) r name s (take 20 s) (drop 20 s) n (id_there s fits long)))

-- What a line says of a regular file, as most lines of most streams do.
use Rattle.std.proofs.Common.{◌≡◌, ◌≢◌, ◌≤◌, ◌==◌, ℕ, zero, suc, false, ◌++◌, List, [], ◌∷◌, length, get_or, Option, None, Some, Ok, codes, refl, arith}
use Rattle.std.proofs.lemmas.Bool.{ne_eqb}
use Rattle.std.specs.List.{position_from}
use Rattle.std.specs.Str.{bytes_eq}
use Rattle.git_model.specs.declared.file_mode.FileMode.{FileMode}
use Rattle.git_model.specs.declared.file_mode.FileMode.TheVariants as mode
use Rattle.stream_grammar.specs.declared.part.ChangeLine.TheVariants as change
use Rattle.stream_grammar.specs.declared.part.Part.TheVariants as part
use Rattle.stream_grammar.specs.Changes.{mode_of}
use Rattle.stream_grammar.specs.Parts.{part_by_word, part_of_line}
use Rattle.stream_grammar.specs.Texts.{read, required, is_space, up_to_index, first_word, after_space}

-- A word that does not begin with an `i` is not `inline`.
other-word : (byte : ℕ) (rest : List ℕ) (space : Option ℕ) → (byte == 105) ≡ false
    → bytes_eq (up_to_index space (byte ∷ rest)) (codes "inline") ≡ false
other-word byte rest None other = rw other refl
other-word byte rest (Some zero) other = refl
other-word byte rest (Some (suc index)) other = rw other refl

-- A regular file whose third word does not begin with an `i`.
pub part-regular : (line text rest : List ℕ) → line ≡ codes "M " ++ text
    → text ≡ codes "100644 " ++ rest → 1 ≤ length rest → get_or rest 0 0 ≢ 105
    → part.Change change.Modify ≡ part_of_line line
unfolding part_by_word
part-regular line text [] begins mode long other = absurd (omega arith)
part-regular line text (byte ∷ rest) begins mode long other =
    let word = other-word byte rest (position_from is_space 0 (byte ∷ rest)) (ne_eqb byte 105 other) in
    rw (begins, mode, word) refl

pub mode-regular : (text rest : List ℕ) → text ≡ codes "100644 " ++ rest
    → read {B = FileMode × List ℕ} (mode_of (first_word text)) (λ found.
    read (required (after_space text)) (λ left. Ok (found, left))) ≡ Ok (mode.Regular, rest)
unfolding mode_of
mode-regular text rest begins = rw begins refl

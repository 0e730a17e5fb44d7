-- Header lines at the front of a text.
use Rattle.std.proofs.Common.{◌≡◌, ℕ, ◌<◌, List, [], ◌∷◌, ◌++◌, sym, ap, ◌∙◌, Option, None, Ok, arith}
use Rattle.std.proofs.lemmas.List.{append_assoc}
use Rattle.std.proofs.lemmas.List.Elements.{All-from_get_or}
use Rattle.hex.specs.Hex.{encode_lower, decode_of, decode_sized}
use Rattle.hex.proofs.HexLemmas.{decode_of-encode_lower, decode_sized-ok, decode_sized-twice, decode_of-ok, decode_of-same}
pub use Rattle.git_model.proofs.OneLine.{IsOneLine, name_decodes, digits_one_line, ident_one_line}
use Rattle.git_model.proofs.OneLine.{bytes_of}
use Rattle.git_model.specs.ObjectName.{IsObjectName}
use Rattle.git_model.specs.Commit.{line}
use Rattle.git_objects.specs.Fronts.{IsFront}
use Rattle.git_objects.proofs.Fronts.{no_front, prefixed}

-- a line whose word stands at the front
pub line_front : (word bytes remaining : List ℕ) (read : Option (List ℕ × List ℕ))
    → bytes ≡ word ++ remaining → IsFront IsOneLine (λ part. part ++ 10 ∷ []) remaining read
    → IsFront IsOneLine (line word) bytes read
line_front word bytes remaining read e h =
    prefixed word bytes remaining read (λ text. append_assoc word text (10 ∷ [])) e h

pub no_line : (word bytes : List ℕ) → ((rest : List ℕ) → bytes ≡ word ++ rest → ⊥)
    → IsFront IsOneLine (line word) bytes None
no_line word bytes none =
    no_front bytes
    (λ text rest is e. none ((text ++ 10 ∷ []) ++ rest) (e ∙ ap (λ t. t ++ rest) (append_assoc word text (10 ∷ [])) ∙ append_assoc word (text ++ 10 ∷ []) rest))

-- ---- object names in digits

pub decoded_is_name : (digits id : List ℕ) → decode_sized digits 20 ≡ Ok id → IsObjectName id
decoded_is_name digits id h =
    let long = decode_sized-ok digits 20 id h in
    let parts = decode_of-ok digits id (sym (decode_sized-twice digits 20 long) ∙ h) in
    record { size = omega (arith, long, parts.2); bytes = All-from_get_or (λ byte. byte < 256) id 0 (λ k lt. parts.3 k) }

pub decoded_same : (digits id other : List ℕ) → decode_sized digits 20 ≡ Ok id
    → decode_sized digits 20 ≡ Ok other → id ≡ other
decoded_same digits id other p q = cc

pub same_digits : (id other : List ℕ) → IsObjectName id → IsObjectName other
    → encode_lower id ≡ encode_lower other → id ≡ other
same_digits id other p q e =
    decode_of-same (encode_lower id) id other (decode_of-encode_lower id (bytes_of id p))
    (ap decode_of e ∙ decode_of-encode_lower other (bytes_of other q))

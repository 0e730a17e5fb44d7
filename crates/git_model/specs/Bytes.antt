-- What a text begins with, ends with and contains.
use Rattle.std.specs.Prelude.{◌≡◌, ℕ, List, [], ◌∷◌, ◌++◌, Bool, ◌||◌, nat_eq}
use Rattle.std.specs.List.{starts_with}

-- A text begins with `front` if it is `front` and some rest.
abbrev pub BeginsWith : List ℕ → List ℕ → Type 0
BeginsWith text front = (rest : List ℕ) × (text ≡ front ++ rest)

-- A text ends with `back` if it is some start and `back`.
abbrev pub EndsWith : List ℕ → List ℕ → Type 0
EndsWith text back = (start : List ℕ) × (text ≡ start ++ back)

-- A text holds a part if the part occurs somewhere in it.
abbrev pub Holds : List ℕ → List ℕ → Type 0
Holds text part = (before after : List ℕ) × (text ≡ before ++ (part ++ after))

-- The same as a test: the text begins with the part, or what follows its first byte holds the part.
abbrev pub holds : List ℕ → List ℕ → Bool
holds [] part = starts_with nat_eq [] part
holds (byte ∷ rest) part = starts_with nat_eq (byte ∷ rest) part || holds rest part

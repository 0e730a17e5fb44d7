-- How the logic encodes what a branch holds.
use Rattle.std.specs.Prelude.{◌≡◌, ℕ, suc, ◌+◌, ◌*◌, max, List, Option, refl}
use Rattle.std.specs.Coded.{Coded, code_by, coded×, coded⊎, coded_ℕ, coded_list, coded_option}
use Rattle.std.proofs.Common.{ap, ◌⊎◌, inl, inr}
use base.Stored.{Gv, gnil, gcons}
use Rattle.file_maps.specs.declared.entry.Entry.{Entry}
use Rattle.file_maps.specs.FileMap.{entry_code}
use Rattle.tree_build.specs.Shape.{What, file, unopened, opened, Shape, none, row, Held, Directory}
use Rattle.tree_build.specs.Branch.{Branch}

abbrev Cases : Type 0
Cases = Entry ⊎ (List ℕ ⊎ Option (List ℕ))

abbrev cases : What → Cases
cases (file e) = inl e
cases (unopened id) = inr (inl id)
cases (opened tree) = inr (inr tree)

abbrev what : Cases → What
what (inl e) = file e
what (inr (inl id)) = unopened id
what (inr (inr tree)) = opened tree

pub what_cases : (w : What) → what (cases w) ≡ w
what_cases (file e) = refl
what_cases (unopened id) = refl
what_cases (opened tree) = refl

abbrev pub what_code : Coded What
what_code =
    code_by Cases (coded⊎ entry_code
    (coded⊎ (coded_list coded_ℕ) (coded_option (coded_list coded_ℕ))))
    cases what what_cases

abbrev bytes_code : Coded (List ℕ)
bytes_code = coded_list coded_ℕ

abbrev head : Gv → Gv
head (gcons a b) = a
head other = other

abbrev tail : Gv → Gv
tail (gcons a b) = b
tail other = other

abbrev stored : Shape → Gv
stored none = gnil
stored (row c w inside rest) =
    gcons (gcons (bytes_code.code c) (what_code.code w)) (gcons (stored inside) (stored rest))

abbrev IsCons : Gv → Type 0
IsCons (gcons a b) = Unit {0}
IsCons other = ⊥

pub stored_once : (s t : Shape) → stored s ≡ stored t → s ≡ t
stored_once none none p = refl
stored_once none (row c w inside rest) p = cc p
stored_once (row c w inside rest) none p = cc p
stored_once (row c w inside rest) (row d v other more) p =
    λ i. row (bytes_code.inj c d (ap (λ g. head (head g)) p) i)
    (what_code.inj w v (ap (λ g. tail (head g)) p) i)
    (stored_once inside other (ap (λ g. head (tail g)) p) i)
    (stored_once rest more (ap (λ g. tail (tail g)) p) i)

abbrev pub shape_code : Coded Shape
shape_code = record { code = stored; inj = stored_once }

abbrev pub directory_code : Coded Directory
directory_code =
    code_by (Option (List ℕ) × Shape) (coded× (coded_option bytes_code) shape_code)
    (λ d. (d.tree, d.entries)) (λ p. record { tree = p.0; entries = p.1 }) (λ d. refl)

abbrev held_code : Coded Held
held_code =
    code_by (What × Shape) (coded× what_code shape_code) (λ h. (h.what, h.inside))
    (λ p. record { what = p.0; inside = p.1 }) (λ h. refl)

abbrev pub branch_code : Coded Branch
branch_code =
    code_by (Held × (ℕ × ℕ)) (coded× held_code (coded× coded_ℕ coded_ℕ))
    (λ b. (b.root, (b.files, b.reads)))
    (λ p. record { root = p.0; files = p.1.0; reads = p.1.1 }) (λ b. refl)

-- ---- how deep directories are opened

abbrev pub shape_size : Shape → ℕ
shape_size none = 0
shape_size (row c w inside rest) = max (suc (shape_size inside)) (shape_size rest)

abbrev pub directory_size : Directory → ℕ
directory_size d = 3 * shape_size d.entries + 2

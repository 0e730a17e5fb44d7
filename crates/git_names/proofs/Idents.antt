-- What the calls on idents answer, from what reading gives.
use Rattle.std.proofs.Common.{◌≡◌, ℕ, List, take, Bool, true, not, IsTrue, ◌↔◌, Option, None, Some, Result, Ok, Err, refl, sym, ap, ◌∙◌}
use Rattle.std.specs.Char.{is_ascii_digit}
use Rattle.std.specs.List.{prefix_len}
use Rattle.std.specs.Option.{is_some, unwrap_or}
use Rattle.std.proofs.lemmas.Bool.{not-true, not-false}
use Rattle.git_model.specs.Ident.{NamesPerson, IsIdent, written_ident}
use Rattle.git_model.specs.IdentReading.{after_person, is_date, with_date, seconds_at, read_ident, ident_time}
use Rattle.git_model.proofs.IdentLaws.{read_ident-Ok, read_ident-BadIdentity, read_ident-BadDate}
use Rattle.numerals.specs.Numbers.{number_of}
use Rattle.git_names.proofs.Seconds.{seconds-read, with_date-Ok}
use Rattle.git_names.specs.declared.ident_fault.IdentFault.{IdentFault}
use Rattle.git_names.specs.declared.ident_fault.IdentFault.TheVariants.{BadIdentity, BadDate, Memory}
use Rattle.git_names.specs.Ident.{Answers, IsFaultOf}

-- a refusal is answered where, and only where, its fact holds
pub refusals : (text : List ℕ) (r : Result (List ℕ) IdentFault) → Answers r (read_ident text)
    → ((r ≡ Err BadIdentity) ↔ (¬ NamesPerson text)) × ((r ≡ Err BadDate) ↔ (NamesPerson text × ¬ IsIdent text))
refusals text (Ok ident) a =
    ((λ e. cc, λ h. let other = (read_ident-BadIdentity text).1 h in cc), (λ e. cc, λ h. let other = (read_ident-BadDate text).1 h in cc))
refusals text (Err BadIdentity) a =
    ((λ _. (read_ident-BadIdentity text).0 a, λ _. refl), (λ e. cc, λ h. let other = (read_ident-BadDate text).1 h in cc))
refusals text (Err BadDate) a =
    ((λ e. cc, λ h. let other = (read_ident-BadIdentity text).1 h in cc), (λ _. (read_ident-BadDate text).0 a, λ _. refl))
refusals text (Err Memory) a =
    ((λ e. cc, λ h. let other = (read_ident-BadIdentity text).1 h in let well = a.1 in cc), (λ e. cc, λ h. let other = (read_ident-BadDate text).1 h in let well = a.1 in cc))

-- no fault is found where, and only where, the text is an ident
pub faultless : (text : List ℕ) (o : Option IdentFault) (b : Bool) → IsFaultOf text o
    → is_some o ≡ not b → (IsTrue b → IsIdent text) × (IsIdent text → IsTrue b)
faultless text None b well e = (λ _. (read_ident-Ok text).0 well, λ _. not-false b (sym e))
faultless text (Some BadIdentity) b bad e =
    (λ t. let f = not-true b (sym e) in cc, λ ident. let well = (read_ident-Ok text).1 ident in cc)
faultless text (Some BadDate) b bad e =
    (λ t. let f = not-true b (sym e) in cc, λ ident. let well = (read_ident-Ok text).1 ident in cc)
faultless text (Some Memory) b bad e = absurd bad

-- the seconds of an ident are a number
pub time_is : (text rest : List ℕ) (o : Option ℕ) (n : ℕ) → IsIdent text
    → Some rest ≡ after_person text
    → o ≡ number_of (take (prefix_len is_ascii_digit rest) rest) → n ≡ unwrap_or o 0
    → n ≡ ident_time text
unfolding ident_time read_ident
time_is text rest o n ident remaining read e =
    let date : is_date rest ≡ true = dated (sym remaining) ((read_ident-Ok text).1 ident) in
    e ∙ ap (λ (s : Option ℕ). unwrap_or s 0) (read ∙ seconds-read rest date) ∙ ap seconds_at remaining
  where
    dated : after_person text ≡ Some rest → read_ident text ≡ Ok (written_ident text)
        → is_date rest ≡ true
    dated found well = with_date-Ok text rest (ap (with_date text) (sym found) ∙ well)

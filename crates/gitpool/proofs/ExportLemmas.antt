-- What a repository exports, imported from a reader that has it whole.
use Rattle.std.proofs.Common.{◌≡◌, ℕ, inl, inr, Bool, true, false, List, [], ◌∷◌, ◌++◌, Option, None, Some, Result, Ok, Err, refl, sym, ap, subst, ◌∙◌, append-nil}
use Rattle.std.specs.Prelude.{◌⊎◌}
use Rattle.std.specs.Io.KnownBytes.{Appends, Consumes, Keeps, IsAtEnd}
use Rattle.git_model.specs.Repository.{Repository}
use Rattle.git_names.specs.Naming.{AnswersNames}
use Rattle.git_objects.specs.Device.{Device, AppendsFront}
use Rattle.import_session.specs.Sound.{IsSoundRepository}
use Rattle.import_session.specs.Stream.{End, Outcome, finished}
use Rattle.export_text.specs.Export.{export_text}
use Rattle.export_laws.specs.Copies.{CanBeCopied, IsCopyOf}
use Rattle.export_laws.specs.Ends.{IsImported as IsWellImported}
use Rattle.export_laws.proofs.EndImported.{export-imported}
use Rattle.tenant_service.specs.TenantState.{empty_repository}
use Rattle.tenant_service.proofs.ExportLemmas.{EndsWell, export-ends}
use Rattle.gitpool.specs.declared.step_fault.StepFault.{StepFault}
use Rattle.gitpool.specs.declared.step_fault.StepFault.TheVariants as fault
use Rattle.gitpool.specs.Import.{IsImported, IsGivenUp, IsStopped, IsSettled, Imports, AnyEffect, end_of, outcome_of, printed_by, printed_so_far}
use Rattle.gitpool.specs.Exports.{HasExport, TakesExport}
use Rattle.gitpool.proofs.StreamLemmas.{stream-first}

-- a front of nothing is nothing
empty-front : (out rest : List ℕ) → [] ≡ out ++ rest → out ≡ []
empty-front [] rest e = refl
empty-front (x ∷ out) rest e = cc e

appends-none : (a b : Option (List ℕ)) (out : List ℕ) → out ≡ [] → Appends a b out → Keeps a b
appends-none None b out none appends = tt
appends-none (Some xs) None out none appends = absurd appends
appends-none (Some xs) (Some ys) out none appends =
    appends ∙ ap (λ (l : List ℕ). xs ++ l) none ∙ append-nil xs

front-none : (a b : Option (List ℕ)) (out : List ℕ) → out ≡ [] → AppendsFront a b out → Keeps a b
front-none a b out none f =
    appends-none a b f.front (empty-front f.front f.rest (sym none ∙ f.parts)) f.appends

-- what was read of the known bytes
record IsPart (text : List ℕ) (known : Option (List ℕ)) (bytes : List ℕ) : Type 0 where
  rest : List ℕ
  parts : text ≡ bytes ++ rest
  left : known ≡ Some rest

part : (text : List ℕ) (old new : Option (List ℕ)) (bytes : List ℕ) → old ≡ Some text → Consumes old new bytes → IsPart text new bytes
part text None new bytes is consumed = cc is
part text (Some known) None bytes is consumed = absurd consumed
part text (Some known) (Some rest) bytes is consumed = record {
  rest = rest;
  parts = (let same : known ≡ text = cc is in sym same ∙ consumed);
  left = refl;
}

module _ (digest : List ℕ → List ℕ) (names : AnswersNames digest) (repository : Repository)
    (sound : IsSoundRepository digest repository) (can : CanBeCopied repository) where
  abbrev text : List ℕ
  text = export_text repository

  imported : IsWellImported digest repository
  imported = export-imported digest names repository sound can.fits can.few_tags can.few_refs

  well : EndsWell digest text imported.left
  well = export-ends digest repository imported

  none-printed : (bytes rest : List ℕ) → text ≡ bytes ++ rest → (outcome_of digest bytes).replies ≡ []
  none-printed bytes rest parts =
      let first = stream-first digest empty_repository bytes rest in
      empty-front (outcome_of digest bytes).replies first.rest
      (sym (ap (λ (o : Outcome). o.replies) well.runs) ∙ ap (λ (l : List ℕ). (outcome_of digest l).replies) parts ∙ first.parts)

  -- all of it was read, or all that counts
  whole : (bytes rest : List ℕ) → text ≡ bytes ++ rest → (rest ≡ []) ⊎ IsSettled digest empty_repository bytes
      → outcome_of digest bytes ≡ outcome_of digest text
  whole bytes rest parts (inl none) =
      ap (outcome_of digest) (sym (parts ∙ ap (λ (l : List ℕ). bytes ++ l) none ∙ append-nil bytes))
  whole bytes rest parts (inr settled) = sym (ap (outcome_of digest) parts ∙ settled rest)

  end-is : (bytes : List ℕ) → outcome_of digest bytes ≡ outcome_of digest text
      → end_of digest bytes ≡ record { fault = None; reply = []; repository = imported.left }
  end-is bytes same = ap (λ (o : Outcome). finished digest o.status) (same ∙ well.runs) ∙ well.ends

  printed-is : (bytes : List ℕ) → outcome_of digest bytes ≡ outcome_of digest text → printed_by digest empty_repository bytes ≡ []
  printed-is bytes same =
      ap (λ (o : Outcome). o.replies ++ (finished digest o.status).reply) (same ∙ well.runs)
      ∙ ap (λ (e : End). e.reply) well.ends

  copied : IsCopyOf repository (end_of digest text).repository
  copied = subst (λ (e : End). IsCopyOf repository e.repository) (sym (end-is text refl)) imported.copy

  at-end : (text bytes : List ℕ) (known : Option (List ℕ)) (p : IsPart text known bytes)
      → IsAtEnd known ⊎ IsSettled digest empty_repository bytes → (p.rest ≡ []) ⊎ IsSettled digest empty_repository bytes
  at-end text bytes known p (inl end) = inl (subst IsAtEnd p.left end)
  at-end text bytes known p (inr settled) = inr settled

  import-well : (reader reader' writer writer' : Device) (end : Option ℕ) → HasExport reader.known repository
      → IsImported digest empty_repository AnyEffect reader reader' writer writer' end → (end ≡ None) × Keeps writer.known writer'.known
  import-well reader reader' writer writer' end has i =
      let p = part text reader.known reader'.known i.bytes has i.read.consumed in
      let same = whole i.bytes p.rest p.parts (at-end text i.bytes reader'.known p i.last) in (
        sym i.ended ∙ ap (λ (e : End). e.fault) (end-is i.bytes same),
        appends-none writer.known writer'.known (printed_by digest empty_repository i.bytes) (printed-is i.bytes same) i.written,
      )

  given-up : (reader reader' writer writer' : Device) → HasExport reader.known repository
      → IsGivenUp digest empty_repository AnyEffect reader reader' writer writer' → Keeps writer.known writer'.known
  given-up reader reader' writer writer' has g = by g.at_end refl
    where
      p : IsPart text reader'.known g.bytes
      p = part text reader.known reader'.known g.bytes has g.read.consumed

      none : (b : Bool) → g.at_end ≡ b → printed_so_far digest empty_repository g.bytes b ≡ []
      none true ended = printed-is g.bytes (whole g.bytes p.rest p.parts (at-end text g.bytes reader'.known p (g.end ended).1))
      none false running = none-printed g.bytes p.rest p.parts

      by : (b : Bool) → g.at_end ≡ b → Keeps writer.known writer'.known
      by b is =
          front-none writer.known writer'.known (printed_so_far digest empty_repository g.bytes g.at_end)
          (ap (printed_so_far digest empty_repository g.bytes) is ∙ none b is) g.written.front

  stopped : (reader reader' writer writer' : Device) → HasExport reader.known repository
      → IsStopped digest empty_repository AnyEffect reader reader' writer writer' → Keeps writer.known writer'.known
  stopped reader reader' writer writer' has s =
      let p = part text reader.known reader'.known s.bytes has s.read.consumed in
      front-none writer.known writer'.known (outcome_of digest s.bytes).replies (none-printed s.bytes p.rest p.parts) s.written

  takes : (reader reader' writer writer' : Device) (answer : Result Unit StepFault) → HasExport reader.known repository
      → Imports digest reader reader' writer writer' answer → TakesExport digest repository writer writer' answer
  takes reader reader' writer writer' (Ok u) has i =
      record { accepted = tt; silent = (import-well reader reader' writer writer' None has i).1; copy = copied }
  takes reader reader' writer writer' (Err (fault.Refused code)) has i =
      let refused : ◌≡◌ {A = Option ℕ} (Some code) None = (import-well reader reader' writer writer' (Some code) has i).0 in cc refused
  takes reader reader' writer writer' (Err fault.Device) has i =
      record { accepted = tt; silent = given-up reader reader' writer writer' has i; copy = copied }
  takes reader reader' writer writer' (Err fault.Memory) has i =
      record { accepted = tt; silent = stopped reader reader' writer writer' has i; copy = copied }

pub takes-export : (digest : List ℕ → List ℕ) → AnswersNames digest → (reader reader' writer writer' : Device) (answer : Result Unit StepFault)
    → Imports digest reader reader' writer writer' answer → (repository : Repository) → IsSoundRepository digest repository
    → CanBeCopied repository → HasExport reader.known repository → TakesExport digest repository writer writer' answer
takes-export digest names reader reader' writer writer' answer imports repository sound can has =
    takes digest names repository sound can reader reader' writer writer' answer has imports

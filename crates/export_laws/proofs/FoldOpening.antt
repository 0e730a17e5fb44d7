-- An export begins: refs may be moved, and HEAD is named where it is another one than at first.
use Rattle.std.proofs.Common.{◌≡◌, ℕ, false, List, [], None, Some, refl, inl, inr, codes, arith}
use Rattle.std.specs.Prelude.{IfSome}
use Rattle.std.specs.List.{IsDistinct}
use Rattle.std.specs.Str.{bytes_eq}
use Rattle.std.proofs.lemmas.Bool.{cases_Bool}
use Rattle.git_model.specs.GoodRepository.{IsShortRefName}
use Rattle.git_model.specs.RefStore.{RefStore, first_head}
use Rattle.git_model.specs.Repository.{Repository}
use Rattle.git_model.proofs.Places.{nothing_named}
use Rattle.stream_grammar.specs.declared.feature.Feature.TheVariants as feature
use Rattle.stream_grammar.specs.declared.act.ControlCommand.TheVariants as control
use Rattle.stream_grammar.specs.Acts.{Control}
use Rattle.import_session.specs.Meaning.{after_act}
use Rattle.stream_commands.specs.Controls.{controlled}
use Rattle.stream_commands.specs.Workspace.{Workspace, opened, quiet}
use Rattle.export_text.specs.ExportActs.{head_acts, opening_acts}
use Rattle.export_laws.specs.Leaving.{Leaves, nothing}
use Rattle.export_laws.specs.Told.{AreTold, nothing_told, workspace_of}
use Rattle.export_laws.specs.Whole.{head_told, nothing_there}
use Rattle.export_laws.proofs.Acts.{asked}
use Rattle.export_laws.proofs.RefsKnown.{named-apart}
use Rattle.export_laws.proofs.StayWell.{AreWell}

-- what HEAD is to name is a ref, where HEAD is
pub head-named : (head : List ℕ) → IsShortRefName head → IfSome (head_told head) IsShortRefName
unfolding head_told
head-named head name = elim (cases_Bool (bytes_eq head first_head)) [
  | inl yea ↦ rw yea tt
  | inr nay ↦ rw nay name
]

module _ (digest : List ℕ → List ℕ) where
  forces : after_act digest (Control (control.Feature feature.Force)) (opened nothing_there)
      ≡ quiet (workspace_of None nothing_told)
  unfolding after_act controlled
  forces = refl

  sets-head : (ref : List ℕ) (workspace : Workspace) → bytes_eq ref (codes "HEAD") ≡ false
      → after_act digest (Control (control.Head ref)) workspace ≡ quiet (record workspace { stream = record workspace.stream { head = Some ref } })
  unfolding after_act controlled
  sets-head ref workspace other = rw other refl

  heads : (head : List ℕ) → IsShortRefName head
      → Leaves digest (head_acts head) (workspace_of None nothing_told)
      (workspace_of (head_told head) nothing_told)
  unfolding head_acts head_told
  heads head name = elim (cases_Bool (bytes_eq head first_head)) [
    | inl yea ↦ rw yea (nothing (workspace_of None nothing_told))
    | inr nay ↦ rw nay (asked digest (Control (control.Head head)) [] _ _ _
        (sets-head head (workspace_of None nothing_told) (named-apart head name)) (nothing _))
  ]

  -- the acts of the opening, which are well formed
  pub opening-leaves : (store : RefStore) → IsShortRefName store.head
      → Leaves digest (opening_acts store) (opened nothing_there)
      (workspace_of (head_told store.head) nothing_told)
  opening-leaves store name =
      asked digest (Control (control.Feature feature.Force)) (head_acts store.head) _ _ _ forces (heads store.head name)

head-well : (head : List ℕ) → IsShortRefName head → AreWell (head_acts head)
unfolding head_acts
head-well head name = elim (cases_Bool (bytes_eq head first_head)) [
  | inl yea ↦ rw yea tt
  | inr nay ↦ rw nay (name, tt)
]

pub opening-well : (store : RefStore) → IsShortRefName store.head → AreWell (opening_acts store)
opening-well store name = (tt, head-well store.head name)

-- nothing is told yet
pub none-told : (repository : Repository) → AreTold repository [] nothing_told
unfolding IsDistinct
none-told repository = record {
  objects = record {
    same = λ id c e. let none = nothing_named id in cc;
    reached = λ id c e. let none = nothing_named id in cc;
    distinct = tt;
  };
  each = λ id c e reached other. let none = nothing_named id in cc;
  order = refl;
  few = omega arith;
  branches = inl refl;
  tags = refl;
}

-- Acts that follow one another.
use Rattle.std.proofs.Common.{◌≡◌, ℕ, List, ◌∷◌, ◌++◌, refl}
use Rattle.stream_grammar.specs.Acts.{Act}
use Rattle.stream_grammar.specs.Commands.{Done}
use Rattle.stream_commands.specs.Workspace.{Workspace, quiet}
use Rattle.import_session.specs.Meaning.{after_act}
use Rattle.export_text.specs.ExportActs.{asks}
use Rattle.export_laws.specs.Leaving.{Leaves, nothing, first_act}

module _ (digest : List ℕ → List ℕ) where
  pub asked : (act : Act) (later : List Done) (before next left : Workspace)
      → after_act digest act before ≡ quiet next → Leaves digest later next left
      → Leaves digest (asks act ∷ later) before left
  asked act later before next left is rest =
      first_act (asks act) later before before next left refl is rest

  pub both : {xs ys : List Done} {a b c : Workspace} → Leaves digest xs a b → Leaves digest ys b c
      → Leaves digest (xs ++ ys) a c
  both (nothing w) rest = rest
  both (first_act done later before ready next left ends is more) rest =
      first_act done (later ++ _) before ready next _ ends is (both more rest)

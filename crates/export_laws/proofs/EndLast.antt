-- The end of a stream outside a commit, at which it may end.
use Rattle.std.proofs.Common.{◌≡◌, ℕ, false, List, [], length, take, None, Ok, refl, ap, ◌∙◌}
use Rattle.std.proofs.Math.Seq.{take-length}
use Rattle.git_model.specs.Repository.{Object, Repository}
use Rattle.stream_lex.specs.Items.{Rest}
use Rattle.stream_grammar.specs.Commands.{Parsing, end_of}
use Rattle.stream_commands.specs.Checkpoints.{checkpoint}
use Rattle.import_session.specs.Stream.{Runs, end_left, ended_well, finished, last_checkpoint, session_end}
use Rattle.stream_commands.specs.Workspace.{Workspace, quiet}
use Rattle.export_laws.proofs.EndCarried.{running}

module _ (digest : List ℕ → List ℕ) (last done : Workspace) (p : Parsing)
    (outside : end_of p ≡ Ok false) (may : last.stream.needs_done ≡ false)
    (ends : checkpoint last ≡ quiet done) where
  ends-so : finished digest (Runs (running last p) (Rest false []))
      ≡ end_left last (checkpoint last)
  unfolding session_end
  ends-so = rw (outside, may) refl

  ends-well : finished digest (Runs (running last p) (Rest false [])) ≡ ended_well [] done
  ends-well = ends-so ∙ ap (end_left last) ends

  all-committed : done.committed ≡ length done.objects
      → last_checkpoint done ≡ record { objects = done.objects; refs = done.refs }
  all-committed is =
      ap (λ (os : List Object). record { objects = os; refs = done.refs })
      (ap (λ (n : ℕ). take n done.objects) is ∙ take-length done.objects)

  -- it ends well, prints nothing, and leaves all its objects
  pub finished-well : done.committed ≡ length done.objects
      → finished digest (Runs (running last p) (Rest false []))
      ≡ record {
        fault = None;
        reply = [];
        repository = record { objects = done.objects; refs = done.refs };
      }
  finished-well is =
      ends-well
      ∙ ap (λ (r : Repository). record { fault = None; reply = []; repository = r }) (all-committed is)

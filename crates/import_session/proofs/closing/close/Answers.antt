use Rattle.std.proofs.Common.{◌≡◌, ◌≢◌, List, ℕ, Result, Ok, Err, sym}
use Rattle.std.specs.Prelude.{MatchResult}
use Rattle.tenant_tables.specs.Objects.{objects}
use Rattle.stream_parts.specs.declared.fault.Fault.{Fault}
use Rattle.stream_parts.specs.declared.fault.Fault.TheVariants as fault
use Rattle.stream_commands.specs.Workspace.{Workspace}
use Rattle.import_session.specs.Session.{Leaves}
use Rattle.stream_commands.proofs.HeldLemmas.{where_ok}
use Rattle.import_session.proofs.closing.close.Goals as goal

-- what the end of a commit leaves is left where its files are kept
left_by : (wanted : Result Workspace Fault) (new : Workspace) (closed : Result (List ℕ) Fault)
    (result : Result Unit Fault)
    → MatchResult closed (λ _. wanted ≡ Ok new) (λ f. f ≢ fault.Memory → wanted ≡ Err f)
    → MatchResult closed (λ _. result ≡ Ok tt) (λ f. result ≡ Err f) → Leaves wanted new result
left_by wanted new (Ok id) result done answer = rw answer done
left_by wanted new (Err f) result done answer = rw answer done

pub returns-in-Changes-clause-done : goal.returns-in-Changes-clause-done
returns-in-Changes-clause-done g c refs =
    rw (sym c.take.ensures.taken, c.in-Changes.is) (left_by _ _ c.close_commit-closed.result
    c.keep_files.result (c.close_commit-closed.ensures.done refs) c.keep_files.ensures.answer)

pub returns-in-Changes-clause-held : goal.returns-in-Changes-clause-held
returns-in-Changes-clause-held g c = where_ok c.keep_files.result (record {
  command = rw c.close_commit-closed.ensures.nothing tt;
  kept = c.keep_files.ensures.branches
      (objects c.close_commit-closed.new.pool c.close_commit-closed.new.table.entries)
      (c.close_commit-closed.ensures.kept c.requires.held.kept) c.close_commit-closed.ensures.held;
  chain = c.close_commit-closed.ensures.chain c.requires.held.chain;
})

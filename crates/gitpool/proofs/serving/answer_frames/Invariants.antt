use Rattle.std.proofs.Common.{◌≡◌, ℕ, List, [], false}
use Rattle.git_objects.specs.Device.{device_of, seen}
use Rattle.tenant_service.specs.TenantState.{held_of}
use Rattle.gitpool.proofs.ServeLemmas.{SoFar}
use Rattle.gitpool.proofs.serving.answer_frames.Given as goal

-- Each frame so far was answered. While no step but Asks came, every tenant has what it had.
abbrev pub invariant-loop : goal.invariant-loop
invariant-loop g l = (l.out.items ≡ [])
    × (l.is_changed ≡ false → (name : List ℕ) → held_of name l.service ≡ held_of name l.fn.service)
    × SoFar g.N.Naming.digest_of l.fn.service l.service
    (seen (g.R.Read.remaining (device_of l.fn.reader)) l.fn.reader)
    (seen (g.R.Read.remaining (device_of l.reader)) l.reader)
    (seen (g.W.Write.contents (device_of l.fn.writer)) l.fn.writer)
    (seen (g.W.Write.contents (device_of l.writer)) l.writer)
    l.counter

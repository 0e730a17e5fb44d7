use Rattle.std.proofs.Common.{drop}
use Rattle.gitpool.specs.RevisionReading.{AsksSame, asking}
use Rattle.gitpool.proofs.pack_lines.Revisions.take_bytes.Given as goal

-- What follows asks for the same after the bytes so far as all of it did before them.
abbrev pub invariant-loop-byte : goal.invariant-loop-byte
invariant-loop-byte l = AsksSame (asking l.fn.line.items l.fn.self.wants.items l.fn.self.haves.items) l.text
    (asking l.line.items l.self.wants.items l.self.haves.items) (drop l.byte-index l.text)

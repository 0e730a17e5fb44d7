use Rattle.std.proofs.Common.{ap, ◌∙◌, rules}
use Rattle.tenant_service.specs.Alone.{out_of_memory}
use Rattle.tenant_service.specs.Opening.{dead_under}
use Rattle.tenant_service.proofs.FedLemmas.{dead-stands, fed-opened, fed-own, refused-own, stopped-own}
use Rattle.tenant_service.proofs.tenant.feed.Goals as goal

pub returns-in-Dead-clause-own : goal.returns-in-Dead-clause-own
returns-in-Dead-clause-own g c = search rules

pub returns-in-Ok-clause-stands : goal.returns-in-Ok-clause-stands
returns-in-Ok-clause-stands g c =
    let fed = c.feed-fed.new in
    record {
      entries = c.in-Ok.ensures.keeps.stands;
      settled = tt;
      opened = fed-opened _ _ _ _ _ c.in-Running.is c.requires.stands
          c.committed_len-within.ensures.within c.requires.sound c.args.piece.now
          c.args.out.now.items fed.self fed.pool fed.table fed.refs fed.out.items
          c.in-Ok.ensures.feeds;
      files = c.in-Ok.ensures.held;
      chain = rw c.clear.ensures tt;
    }

pub returns-in-Ok-clause-own : goal.returns-in-Ok-clause-own
returns-in-Ok-clause-own g c =
    let fed = c.feed-fed.new in
    fed-own _ _ _ _ _ c.in-Running.is c.requires.stands c.committed_len-within.ensures.within
    c.requires.sound c.args.piece.now c.args.out.now.items fed.self fed.pool fed.table fed.refs
    fed.out.items c.in-Ok.ensures.feeds

pub returns-in-Err-Fault-clause-stands : goal.returns-in-Err-Fault-clause-stands
returns-in-Err-Fault-clause-stands g c =
    dead-stands _ _ _ _ _ c.in-Running.is c.requires.stands c.committed_len-within.ensures.within
    c.requires.sound c.args.piece.now c.args.out.now.items _ _
    (rw c.in-Err-Fault.is at c.feed-fed.ensures.feeds) c.go_back.new.pool
    (record (c.go_back.new.tenant) { phase = c.kill.new.kept }) c.go_back.ensures.settled
    c.go_back.ensures.left c.in-Err-Fault.code
    (c.kill.ensures ∙ ap (dead_under c.in-Err-Fault.code) c.go_back.ensures.phase)
    c.go_back.ensures.stands c.go_back.ensures.chain

pub returns-in-Err-Fault-clause-own : goal.returns-in-Err-Fault-clause-own
returns-in-Err-Fault-clause-own g c =
    refused-own _ _ _ _ _ c.in-Running.is c.requires.stands c.committed_len-within.ensures.within
    c.requires.sound c.args.piece.now c.args.out.now.items _ _
    (rw c.in-Err-Fault.is at c.feed-fed.ensures.feeds) c.go_back.new.pool
    (record (c.go_back.new.tenant) { phase = c.kill.new.kept }) c.go_back.ensures.settled
    c.go_back.ensures.left c.in-Err-Fault.code
    (c.kill.ensures ∙ ap (dead_under c.in-Err-Fault.code) c.go_back.ensures.phase)
    (rw c.in-Err-Fault.is at c.in-Err-Fault.field-0-is)

pub returns-in-Err-Memory-clause-stands : goal.returns-in-Err-Memory-clause-stands
returns-in-Err-Memory-clause-stands g c =
    let back = c.go_back-in-Err-Memory in
    dead-stands _ _ _ _ _ c.in-Running.is c.requires.stands c.committed_len-within.ensures.within
    c.requires.sound c.args.piece.now c.args.out.now.items _ _
    (rw c.in-Err-Memory.is at c.feed-fed.ensures.feeds) back.new.pool
    (record (back.new.tenant) { phase = c.kill-in-Err-Memory.new.kept }) back.ensures.settled
    back.ensures.left out_of_memory
    (c.kill-in-Err-Memory.ensures ∙ ap (dead_under out_of_memory) back.ensures.phase)
    back.ensures.stands back.ensures.chain

pub returns-in-Err-Memory-clause-own : goal.returns-in-Err-Memory-clause-own
returns-in-Err-Memory-clause-own g c =
    let back = c.go_back-in-Err-Memory in
    stopped-own _ _ _ _ _ c.in-Running.is c.requires.stands c.committed_len-within.ensures.within
    c.requires.sound c.args.piece.now c.args.out.now.items _ _
    (rw c.in-Err-Memory.is at c.feed-fed.ensures.feeds) back.new.pool
    (record (back.new.tenant) { phase = c.kill-in-Err-Memory.new.kept }) back.ensures.settled
    back.ensures.left c.in-Err-Memory.items
    (c.kill-in-Err-Memory.ensures ∙ ap (dead_under out_of_memory) back.ensures.phase)
    (rw c.in-Err-Memory.is at c.in-Err-Memory.field-0-is)

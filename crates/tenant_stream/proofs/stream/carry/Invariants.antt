use Rattle.std.proofs.Common.{◌≡◌, List, [], length}
use Rattle.stream_lex.specs.Items.{Item}
use Rattle.stream_lex.specs.Running.{more_of}
use Rattle.stream_commands.specs.Held.{FilesStand}
use Rattle.stream_commands.specs.Lent.{Keeps}
use Rattle.import_session.specs.Sound.{IsSound}
use Rattle.tenant_stream.specs.Carrying.{Held, HasCarriedOut, ReadsOn, held_with}
use Rattle.tenant_stream.proofs.stream.carry.Given as goal

abbrev pub invariant-items : goal.invariant-items
invariant-items g l =
    let before : Held = held_with (record { session = l.fn.session; tail = l.fn.lexer.tail })
    l.fn.pool l.fn.table l.fn.refs l.fn.out.items in
    let after : Held = held_with (record { session = l.session; tail = l.lexer.tail })
    l.pool l.table l.refs l.out.items in
    record {
      keeps : Keeps g.N.Naming.digest_of l.fn.pool l.fn.table l.pool l.table;
      held : FilesStand g.N.Naming.digest_of l.session.state l.pool l.table;
      items : List Item;
      reads : ReadsOn before.tail items after.tail;
      counted : length items ≡ l.count;
      carried_out : IsSound g.N.Naming.digest_of before.running.workspace
          → HasCarriedOut g.N.Naming.digest_of before items after;
    }

abbrev pub decreases-items : goal.decreases-items
decreases-items g l = length (more_of l.lexer.tail []).items

use Rattle.std.proofs.Common.{Ok, refl, ◌∙◌, append_assoc, codes}
use Rattle.hex.specs.Hex.{encode_lower}
use Rattle.git_model.specs.Repository.{object_named}
use Rattle.tenant_tables.specs.Objects.{objects}
use Rattle.stream_parts.specs.Marks.{marked_name, referred_name}
use Rattle.stream_parts.specs.Printing.{shown_object}
use Rattle.stream_parts.specs.Showing.{entry_shown}
use Rattle.stream_commands.specs.Replies.{replied}
use Rattle.stream_commands.proofs.ActLemmas.{line_carried, named_carried}
use Rattle.stream_commands.proofs.replies.carry_out_reply.Goals as goal

pub returns-in-GetMark-clause-done : goal.returns-in-GetMark-clause-done
unfolding replied
returns-in-GetMark-clause-done g c refs good =
    rw c.in-GetMark.is (named_carried (marked_name c.args.state.now.marks.entries c.in-GetMark.mark)
    (λ id. Ok (encode_lower id))
    _ c.args.out.now.items c.print_marked.new.out.items c.print_marked.result
    c.print_marked.ensures)

pub returns-in-CatBlob-clause-done : goal.returns-in-CatBlob-clause-done
unfolding replied
returns-in-CatBlob-clause-done g c refs good =
    rw c.in-CatBlob.is (named_carried (referred_name c.args.state.now.marks.entries
    c.in-CatBlob.object)
    (λ id. shown_object id (object_named id (objects c.args.pool.now c.args.table.now.entries)))
    _ c.args.out.now.items c.print_referred.new.out.items c.print_referred.result
    (rw c.of-objects.ensures at c.print_referred.ensures))

pub returns-in-Ls-clause-done : goal.returns-in-Ls-clause-done
unfolding replied
returns-in-Ls-clause-done g c refs good =
    rw c.in-Ls.is (line_carried (entry_shown (objects c.args.pool.now c.args.table.now.entries)
    c.args.state.now.marks.entries c.in-Ls.root c.in-Ls.path)
    _ c.args.out.now.items c.print_stored.new.out.items c.print_stored.result
    ((rw c.of-objects-in-Ls.ensures at c.print_stored.ensures.shows) good))

pub returns-in-LsInCommit-clause-done : goal.returns-in-LsInCommit-clause-done
returns-in-LsInCommit-clause-done g c refs good = rw c.in-LsInCommit.is (c.show_entry.ensures.done refs)

pub returns-in_ok-print_line-in-Progress-clause-done :
    goal.returns-in_ok-print_line-in-Progress-clause-done
unfolding replied
returns-in_ok-print_line-in-Progress-clause-done g c refs good =
    rw c.in-Progress.is (
      refl,
      c.in_ok-print_line-in-Progress.ensures.written
          ∙ append_assoc c.args.out.now.items c.in-Progress.line.now (codes "\n"),
    )

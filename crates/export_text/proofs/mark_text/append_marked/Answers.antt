use Rattle.git_objects.proofs.Kept.{kept_front}
use Rattle.export_text.specs.ExportItems.{mark_text}
use Rattle.export_text.proofs.Pieces.{kept_more, line-of}
use Rattle.export_text.proofs.mark_text.append_marked.Goals as goal

pub returns-clause-written : goal.returns-clause-written
returns-clause-written g c =
    line-of c.args.out.now.items c.extend_from_slice.new.self.items c.append_mark.new.out.items c.push.new.self.items
    c.args.word.now (mark_text c.args.objects.now c.args.id.now)
    c.in_ok-extend_from_slice.ensures.items c.in_ok-append_mark.ensures.written c.in_ok-push.ensures.items

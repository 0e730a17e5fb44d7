use Rattle.std.proofs.Common.{◌++◌, ap, ◌∙◌, codes}
use Rattle.git_model.specs.Modes.{six_digits}
use Rattle.git_paths.specs.Quoting.{quoted}
use Rattle.export_text.specs.ExportItems.{dataref_text}
use Rattle.export_text.proofs.Pieces.{kept_twice, kept_more, file-line-of}
use Rattle.export_text.proofs.file_text.append_file.Goals as goal

pub returns-clause-written : goal.returns-clause-written
returns-clause-written g c =
    file-line-of c.args.out.now.items c.append_parts.new.out.items c.append_dataref.new.out.items c.push.new.self.items
    c.append_path.new.out.items c.push-2.new.self.items (six_digits c.args.entry.now.mode)
    (dataref_text c.args.objects.now c.args.entry.now.mode c.args.entry.now.id)
    (quoted (c.args.prefix.now.items ++ c.args.entry.now.name.now))
    (c.in_ok-append_parts.ensures.written
    ∙ ap (λ mode. c.args.out.now.items ++ (codes "M " ++ (mode ++ codes " "))) c.six_digits.ensures)
    c.in_ok-append_dataref.ensures.written c.in_ok-push.ensures.items c.in_ok-append_path.ensures.written
    c.in_ok-push-2.ensures.items

use Rattle.std.proofs.Common.{ℕ, List, [], ◌∷◌, ◌++◌, map, ap, ◌∙◌, codes}
use Rattle.std.proofs.lemmas.Result.{on_ok_weaker}
use Rattle.stream_lex.specs.Items.{Line}
use Rattle.file_maps.specs.FileMap.{listed}
use Rattle.file_maps.specs.StoredFiles.{stored_map}
use Rattle.export_text.specs.ExportItems.{item_of_file}
use Rattle.export_text.specs.Lines.{lines_within}
use Rattle.export_text.proofs.Again.{still-told}
use Rattle.export_text.proofs.Pieces.{two}
use Rattle.export_text.proofs.Listing.{all-lines}
use Rattle.export_text.proofs.file_text.append_all_files.Goals as goal

pub returns-clause-written : goal.returns-clause-written
returns-clause-written g c = λ good told is.
    on_ok_weaker c.append_files.result
    (λ last. two c.args.out.now.items c.append_line.new.out.items c.append_files.new.out.items (Line (codes "deleteall") ∷ [])
    (map (item_of_file c.args.objects.now) (listed (stored_map c.args.objects.now c.args.tree.now)))
    c.in_ok-append_line.ensures.written
    (last ∙ ap (λ text. c.append_line.new.out.items ++ text)
    (ap (λ (prefix : List ℕ). lines_within c.args.objects.now c.len.result prefix c.args.tree.now) c.new-prefix.ensures.items
    ∙ ap (λ (n : ℕ). lines_within c.args.objects.now n [] c.args.tree.now) c.len.ensures
    ∙ all-lines g.N.Naming.digest_of c.args.objects.now good c.args.tree.now is)))
    (c.append_files.ensures.written good
    (still-told c.args.objects.now c.args.out.now.items c.append_line.new.out.items c.args.told.now c.in_ok-append_line.ensures.kept told))

pub returns-clause-in_mind : goal.returns-clause-in_mind
returns-clause-in_mind g c = λ good told.
    c.append_files.ensures.in_mind good
    (still-told c.args.objects.now c.args.out.now.items c.append_line.new.out.items c.args.told.now c.in_ok-append_line.ensures.kept told)

-- What the first lines of an export ask for: features and options.
use Rattle.std.proofs.Common.{◌≡◌, ℕ, false, List, [], ◌++◌, Result, Ok, refl, ap, ◌∙◌, codes}
use Rattle.std.specs.Str.{bytes_eq}
use Rattle.git_model.specs.GoodRepository.{IsShortRefName}
use Rattle.git_model.specs.RefStore.{RefStore, first_head}
use Rattle.stream_lex.specs.Items.{Line}
use Rattle.stream_grammar.specs.declared.fault.Fault.{Fault}
use Rattle.stream_grammar.specs.declared.feature.Feature.TheVariants as feature
use Rattle.stream_grammar.specs.declared.part.Part.{Part}
use Rattle.stream_grammar.specs.declared.part.Part.TheVariants as part
use Rattle.stream_grammar.specs.declared.part.ControlLine.TheVariants as control_line
use Rattle.stream_grammar.specs.Texts.{read}
use Rattle.stream_grammar.specs.Features.{feature_of, in_time, option_of}
use Rattle.stream_grammar.specs.declared.act.ControlCommand.TheVariants as control
use Rattle.stream_grammar.specs.Acts.{Act, Control}
use Rattle.stream_grammar.specs.Grammar.{fit}
use Rattle.stream_grammar.specs.Lines.{first_line_act}
use Rattle.stream_grammar.specs.Parts.{part_by_word, part_of_line}
use Rattle.stream_grammar.specs.Commands.{step, step_by, opens}
use Rattle.stream_lex.proofs.Cases.{by_cases}
use Rattle.export_text.specs.Export.{head_items, opening_items}
use Rattle.export_text.specs.ExportActs.{asks, head_acts, opening_acts}
use Rattle.export_text.proofs.WrittenWords.{head-read}
use Rattle.export_text.proofs.Asking.{Asks, idle, nothing-asked, then-more}

force-step : step (idle false) (Line (codes "feature force"))
    ≡ Ok (record { done = asks (Control (control.Feature feature.Force)); next = idle false })
unfolding step part_by_word feature_of in_time
force-step = refl

option-said : (head : List ℕ) → IsShortRefName head
    → first_line_act false (part.Control control_line.OptionCommand) (codes "option gitpool head " ++ head) ≡ Ok (Control (control.Head head))
unfolding option_of in_time
option-said head is =
    ap (λ (r : Result (List ℕ) Fault). read {B = Act} r (λ ref. Ok (Control (control.Head ref)))) (head-read head is.name is.short)

option-part : (head : List ℕ) → part_of_line (codes "option gitpool head " ++ head) ≡ part.Control control_line.OptionCommand
unfolding part_by_word
option-part head = refl

option-step : (head : List ℕ) → IsShortRefName head
    → step (idle false) (Line (codes "option gitpool head " ++ head))
    ≡ Ok (record { done = asks (Control (control.Head head)); next = idle false })
unfolding step
option-step head is =
    ap (λ (q : Part). step_by (idle false) q (Line (codes "option gitpool head " ++ head)) (fit q [])) (option-part head)
    ∙ ap (opens (idle false) (part.Control control_line.OptionCommand) []) (option-said head is)

head-asked : (head : List ℕ) → IsShortRefName head
    → Asks (idle false) (head_items head) (head_acts head) (idle false)
unfolding head_items head_acts
head-asked head is =
    by_cases (bytes_eq head first_head)
    (λ same. rw same (nothing-asked (idle false)))
    (λ other. rw other (then-more (record { gives = option-step head is }) (nothing-asked (idle false))))

pub opening-asked : (store : RefStore) → IsShortRefName store.head
    → Asks (idle false) (opening_items store) (opening_acts store) (idle false)
opening-asked store is = then-more (record { gives = force-step }) (head-asked store.head is)

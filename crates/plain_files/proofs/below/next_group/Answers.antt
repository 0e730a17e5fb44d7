use Rattle.std.proofs.Common.{List, ◌∷◌, [], Option, sym, ap, ◌∙◌}
use Rattle.std.specs.Borrow.{Bor}
use Rattle.std.specs.Option.{option_map}
use Rattle.std.proofs.Common.{ℕ}
use Rattle.plain_files.specs.declared.below.Below.{Below}
use Rattle.file_maps.specs.Edits.{cut}
use Rattle.plain_files.specs.Below.{files_below}
use Rattle.plain_files.proofs.Groups.{next-group, no_group}
use Rattle.plain_files.proofs.below.next_group.Goals as goal

pub returns-in_ok-below-in-Some : goal.returns-in_ok-below-in-Some
returns-in_ok-below-in-Some c =
    next-group c.in-Some.name.now c.args.files.now c.run_length-length.result c.in_ok-below-in-Some.below.items
    (sym c.next_name.ensures ∙ ap (λ (o : Option (Bor (List ℕ))). option_map (λ name. name.now) o) c.in-Some.is)
    c.run_length-length.ensures.len c.run_length-length.ensures.within
    (c.in_ok-below-in-Some.ensures ∙ ap (λ (l : List Below). cut (c.in-Some.name.now ∷ []) (files_below l)) c.split_at.ensures.front)

pub returns-in-None : goal.returns-in-None
returns-in-None c =
    no_group (files_below c.args.files.now)
    (sym c.next_name.ensures ∙ ap (λ (o : Option (Bor (List ℕ))). option_map (λ name. name.now) o) c.in-None.is)

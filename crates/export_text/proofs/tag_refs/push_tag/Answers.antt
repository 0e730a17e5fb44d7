use Rattle.std.proofs.Common.{◌≡◌, ℕ, ◌≤◌, ◌++◌, [], ◌∷◌, List, length, sym, ap, subst, inl}
use Rattle.std.specs.Prelude.{OnOk}
use Rattle.git_model.specs.RefName.{IsRefName}
use Rattle.git_model.specs.Tag.{Tag}
use Rattle.export_text.specs.Reached.{tag_ref}
use Rattle.export_text.proofs.tag_refs.push_tag.Goals as goal

pub returns-in-Ok-Some : goal.returns-in-Ok-Some
returns-in-Ok-Some c = λ t is.
    let only = rw c.in-Ok-Some.field-0-is at c.in-Ok-Some.ensures.only in
    let read = rw c.in-Ok-Some.field-0-is at c.in-Ok-Some.ensures.read in
    let named : c.in-Ok-Some.parts.name.now ≡ t.name = ap (λ (x : Tag). x.name) (only t is.writable is.contents) in
    subst (λ (n : List ℕ). OnOk c.push_ref.result (c.push_ref.new.names.items ≡ c.args.names.now.items ++ tag_ref n ∷ []))
    (ap (λ (x : Tag). x.name) read)
    (c.push_ref.ensures (inl (subst (λ (n : List ℕ). IsRefName (tag_ref n)) (sym named) is.writable.name))
    (subst (λ (n : List ℕ). length (tag_ref n) ≤ 1024) (sym named) is.short_name))

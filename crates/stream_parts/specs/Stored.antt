-- What a call that stores a content leaves and answers: git-hash-object(1), "-w".
use Rattle.std.specs.Prelude.{◌≡◌, ◌≢◌, ℕ, List, Result, Ok, Err}
use Rattle.git_model.specs.Content.{Content, name_by}
use Rattle.content_pool.specs.Pool.{Cells}
use Rattle.tenant_tables.specs.View.{View}
use Rattle.tenant_tables.specs.Objects.{objects}
use Rattle.stream_parts.specs.declared.fault.Fault.{Fault}
use Rattle.stream_parts.specs.declared.fault.Fault.TheVariants as fault
use Rattle.stream_parts.specs.Storing.{with_content}
use Rattle.tenant_tables.specs.Lent.{IsUnchanged}

-- The content is among the objects, last unless it was there already, and its name was answered.
pub record IsStored (digest : List ℕ → List ℕ) (content : Content) (before : Cells) (old : View)
    (after : Cells) (new : View) (id : List ℕ) : Type 0 where
  pub name : id ≡ name_by digest content
  pub objects : with_content digest content (objects before old.entries)
      ≡ Ok (objects after new.entries)
  pub committed : new.committed ≡ old.committed

-- The content was refused, and nothing has changed. `Memory` may take the place of any answer.
pub record IsNotStored (digest : List ℕ → List ℕ) (content : Content) (before : Cells) (old : View)
    (after : Cells) (new : View) (e : Fault) : Type 0 where
  pub refused : e ≢ fault.Memory → with_content digest content (objects before old.entries) ≡ Err e
  pub same : IsUnchanged before old after new

-- One or the other, by the answer.
abbrev pub Stores : (List ℕ → List ℕ) → Content → Cells → View → Cells → View
    → Result (List ℕ) Fault → Type 0
Stores digest content before old after new (Ok id) =
    IsStored digest content before old after new id
Stores digest content before old after new (Err e) =
    IsNotStored digest content before old after new e

-- What `add` answers.
use Rattle.std.specs.Prelude.{◌≡◌, ℕ, List, [], ◌∷◌, ◌++◌, length, Option, None, Some, Result, Ok, Err, is_some, nat_le, nat_lt, if◌then◌else◌}
use Rattle.std.specs.Str.{bytes_eq}
use Rattle.git_model.specs.Limits.{contents_limit, objects_limit}
use Rattle.git_model.specs.Content.{Content, name_by}
use Rattle.content_pool.specs.Pool.{Cells, Puts}
use Rattle.tenant_tables.specs.declared.fault.Fault.{Fault}
use Rattle.tenant_tables.specs.declared.fault.Fault.TheVariants as fault
use Rattle.tenant_tables.specs.declared.summary.Summary.{Summary}
use Rattle.tenant_tables.specs.View.{View, summary_of}
use Rattle.git_model.specs.Repository.{Object, has_object, object_named, with_object}
use Rattle.tenant_tables.specs.Objects.{objects}

-- Why an object cannot be added to others, if it cannot. The contents may be too long. Else an
-- object that is there is found. Else the table may be full, or the name may be that of another
-- content. Objects of others do not matter.
unfoldable pub store_fault : List ℕ → Content → List Object → Option Fault
store_fault id c os =
    if nat_lt contents_limit (length c.bytes) then Some fault.Limit
    else if has_object id c os then None
    else if nat_le objects_limit (length os) then Some fault.Limit
    else if is_some (object_named id os) then Some fault.NameCollision
    else None

-- A call that stores an object answers its name, or the fault if there is one. `Memory` may replace
-- either.
abbrev pub Answers : {name : Type 0} → Result name Fault → name → Option Fault → Type 0
Answers (Ok answer) id fault = (answer ≡ id) × (fault ≡ None)
Answers (Err fault.Limit) id refusal = refusal ≡ Some fault.Limit
Answers (Err fault.NameCollision) id refusal = refusal ≡ Some fault.NameCollision
Answers (Err fault.Memory) id refusal = Unit {0}

-- One more entry at the end, in a slot that the pool holds once more.
pub record PushesAt (id : List ℕ) (c : Content) (summary : Option Summary) (before : Cells)
    (old : View) (after : Cells) (new : View) (slot : ℕ) : Type 0 where
  pub puts : Puts before after slot c
  pub entries : new ≡ record old {
    entries = old.entries
        ++ (id, record { slot = slot; summary = summary }) ∷ [];
  }

-- The same, of some slot.
abbrev pub Pushes : List ℕ → Content → Option Summary → Cells → View → Cells → View → Type 0
Pushes id c summary before old after new = (slot : ℕ)
    × PushesAt id c summary before old after new slot

-- The object is there after the call: at the end, unless it was there before. Nothing else has
-- changed. A name that was there keeps its summary.
pub record Adds (digest : List ℕ → List ℕ) (c : Content) (summary : Option Summary) (before : Cells)
    (old : View) (after : Cells) (new : View) : Type 0 where
  pub objects : objects after new.entries
      ≡ with_object (name_by digest c) c (objects before old.entries)
  pub committed : new.committed ≡ old.committed
  pub summaries : (id : List ℕ) → summary_of id new.entries
      ≡ (if bytes_eq id (name_by digest c) then summary else summary_of id old.entries)

-- Good objects stay good where a content is stored that is valid among them.
use Rattle.std.proofs.Common.{◌≡◌, length, ℕ, List, Option, Some, None, refl, All}
use Rattle.std.specs.Prelude.{IfOk}
use Rattle.git_model.specs.Content.{Content, name_by}
use Rattle.git_model.specs.GoodRepository.{AreObjects, IsValid, StandsBefore}
use Rattle.git_model.specs.ObjectName.{IsObjectName, object_name}
use Rattle.git_model.specs.References.{references_in}
use Rattle.git_model.specs.Repository.{Object}
use Rattle.git_names.specs.Naming.{AnswersNames}
use Rattle.tenant_tables.specs.declared.fault.Fault.{Fault as TableFault}
use Rattle.tenant_tables.specs.Adding.{store_fault}
use Rattle.tenant_tables.proofs.StoredGood.{Holds, MayStore, stored_good}
use Rattle.stream_parts.specs.Storing.{stored_or, with_content}

-- ---- names

-- the digest of a content is an object name
pub named_by : (digest : List ℕ → List ℕ) → AnswersNames digest → (content : Content)
    → IsObjectName (name_by digest content)
unfolding object_name
named_by digest names content = names _

-- ---- storing

-- a content that may be stored among good objects
pub record IsStorable (os : List Object) (content : Content) : Type 0 where
  pub valid : IsValid os content.kind content.bytes
  pub connected : All (StandsBefore os (length os)) (references_in content)

pub content_good : (digest : List ℕ → List ℕ) → AnswersNames digest → (os : List Object)
    → AreObjects digest os → (content : Content) → IsStorable os content
    → IfOk (with_content digest content os) (λ new. Holds digest os new content)
content_good digest names os good content storable =
    by_fault (store_fault (name_by digest content) content os) refl
  where
    may : MayStore digest os content
    may = record {
      name = named_by digest names content;
      valid = storable.valid;
      connected = storable.connected;
    }

    by_fault : (refusal : Option TableFault)
        → store_fault (name_by digest content) content os ≡ refusal
        → IfOk (stored_or (name_by digest content) content os refusal)
        (λ new. Holds digest os new content)
    by_fault None none = stored_good digest os good content may none
    by_fault (Some refusal) some = tt

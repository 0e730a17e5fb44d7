-- The file of some repositories, such as all repositories of a service.
use Rattle.std.specs.Prelude.{ℕ, List, map, position}
use Rattle.std.specs.List.{flat_map}
use Rattle.std.specs.Option.{unwrap_or}
use Rattle.std.specs.Ordering.{nat_cmp}
use Rattle.std.specs.Cmp.Lexicographic.{slice_cmp}
use Rattle.std.specs.FinMap as finite
use Rattle.git_model.specs.RefStore.{listed_refs}
use Rattle.git_model.specs.Content.{Content, same_content}
use Rattle.git_model.specs.Repository.{Repository}
use Rattle.git_model.specs.References.{place_of}
use Rattle.tenant_refs.specs.FullName.{full_name}
use Rattle.pool_file_format.specs.Format.{RawRef, RawTenant, RawFile, raw_text}
use Rattle.pool_file_checks.specs.Objects.{raw_object, object_key}

-- A repository under the name of its tenant.
pub record Named : Type 0 where
  pub tenant : List ℕ
  pub repository : Repository

-- All contents of some repositories, as often as they occur.
abbrev pub contents_of : List Named → List Content
contents_of all = flat_map (λ n. map (λ o. o.content) n.repository.objects) all

-- Contents compare by the byte of their kind, and then by their bytes.
abbrev pub content_key : Content → List ℕ
content_key c = object_key (raw_object c)

-- All contents, each once, in the order of their keys.
unfoldable pub listed_contents : List Named → List Content
listed_contents all = finite.values
    (finite.from_entries {R = slice_cmp nat_cmp} (map (λ c. (content_key c, c)) (contents_of all)))

-- The number of a content in such a list, from 0; also 0 for a content that is not in it.
abbrev pub number_in : List Content → Content → ℕ
number_in cs c = unwrap_or (position (same_content c) cs) 0

-- A ref in the file: its full name, and the place of its target among the tenant's objects.
abbrev pub raw_ref : Named → List ℕ × List ℕ → RawRef
raw_ref n e = record {
  name = full_name n.tenant e.0;
  place = place_of e.1 n.repository.objects;
}

-- A tenant in the file, with the numbers of its objects among all contents.
abbrev pub raw_tenant : List Content → Named → RawTenant
raw_tenant cs n = record {
  name = n.tenant;
  numbers = map (λ o. number_in cs o.content) n.repository.objects;
  refs = map (raw_ref n) (listed_refs n.repository.refs);
  head = n.repository.refs.head;
}

-- Repositories as a file of a version.
unfoldable pub raw_of : ℕ → List Named → RawFile
raw_of version all = record {
  version = version;
  objects = map raw_object (listed_contents all);
  tenants = map (raw_tenant (listed_contents all)) all;
}

-- The text of repositories in a version.
abbrev pub text_in : ℕ → (List ℕ → List ℕ) → List Named → List ℕ
text_in version digest all = raw_text digest (raw_of version all)

-- The text that is written: version 2.
abbrev pub file_text : (List ℕ → List ℕ) → List Named → List ℕ
file_text digest all = text_in 2 digest all

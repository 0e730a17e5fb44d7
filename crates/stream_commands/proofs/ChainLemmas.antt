-- A chain of first parents, and ends of tags, stay so where objects are only added.
use Rattle.std.proofs.Common.{◌≡◌, ℕ, Bool, true, false, if◌then◌else◌, List, [], ◌∷◌, ◌++◌, Option, None, Some, Ok, refl, sym, ap, subst, ◌∙◌}
use Rattle.std.specs.Prelude.{slice_get, unwrap_or}
use Rattle.std.specs.Option.{option_and_then, option_map_or}
use Rattle.git_model.specs.Content.{Content, no_content}
use Rattle.git_model.specs.declared.kind.Kind.TheVariants as kind
use Rattle.git_model.specs.Peeling.{at_once, later, is_no_tag, is_there_untagged, next_from, next_to}
use Rattle.git_model.specs.References.{parents_in}
use Rattle.git_model.specs.Repository.{Object, object_named}
use Rattle.git_model.proofs.Growing.{longer, held_prefix_is}
use Rattle.git_model.proofs.Places.{stands_at}
use Rattle.content_pool.specs.Pool.{Cells}
use Rattle.tenant_tables.specs.Objects.{objects}
use Rattle.tenant_tables.specs.View.{View}
use Rattle.open_commits.specs.Calls.{AddsOnly}
use Rattle.revisions.specs.declared.fault.Fault.TheVariants as fault
use Rattle.git_model.specs.Results.{or_fault}
use Rattle.revisions.specs.declared.tag_ends.ChainCache.{ChainCache}
use Rattle.revisions.specs.FirstParents.{FollowFirstParents, IsFirstParentChain}
use Rattle.revisions.specs.Resolution.{nth_parent}
use Rattle.revisions.specs.TagEnds.{AreTagEnds, EndsAt}
use Rattle.stream_commands.specs.Held.{ChainStands}

-- the first parent of a commit that is there
parent_stays : (os more : List Object) (commit parent : List ℕ) (o : Option Content)
    → object_named commit os ≡ o → nth_parent os 1 commit ≡ Ok parent
    → nth_parent (os ++ more) 1 commit ≡ Ok parent
parent_stays os more commit parent None e is = absurd (let no = rw e at is in cc no)
parent_stays os more commit parent (Some content) e is =
    ap (λ (o : Option Content). or_fault fault.UnknownRevision
    (slice_get (parents_in (unwrap_or o no_content).kind (unwrap_or o no_content).bytes) 0))
    (longer commit os more (stands_at commit os content e).within).object ∙ is

follows_longer : (os more : List Object) (commit : List ℕ) (parents : List (List ℕ))
    → FollowFirstParents os commit parents → FollowFirstParents (os ++ more) commit parents
follows_longer os more commit [] follow = tt
follows_longer os more commit (parent ∷ parents) follow = (
  parent_stays os more commit parent (object_named commit os) refl follow.0,
  follows_longer os more parent parents follow.1,
)

commits_longer : (os more : List Object) (chain : List (List ℕ)) → IsFirstParentChain os chain
    → IsFirstParentChain (os ++ more) chain
commits_longer os more [] follow = tt
commits_longer os more (commit ∷ parents) follow = follows_longer os more commit parents follow

-- an object that is there stays where others are added
object_stays : (os more : List Object) (id : List ℕ) (content : Content)
    → object_named id os ≡ Some content → object_named id (os ++ more) ≡ object_named id os
object_stays os more id content is = (longer id os more (stands_at id os content is).within).object

-- so does where it leads, and that it is no tag
end_stays : (os more : List Object) (id : List ℕ) (o : Option Content) → object_named id os ≡ o
    → is_there_untagged os id ≡ true → is_there_untagged (os ++ more) id ≡ true
end_stays os more id None is yea = absurd (let no = rw is at yea in cc no)
end_stays os more id (Some content) is yea =
    ap (λ (o : Option Content). option_map_or (λ (content : Content). is_no_tag content.kind) o false)
    (object_stays os more id content is) ∙ yea

tag_stays : (os more : List Object) (id next : List ℕ) (o : Option Content)
    → object_named id os ≡ o → is_there_untagged os id ≡ false → next_to os kind.Blob id ≡ Some next
    → (is_there_untagged (os ++ more) id ≡ false) × (next_to (os ++ more) kind.Blob id ≡ Some next)
tag_stays os more id next None is nay leads = absurd (let no = rw is at leads in cc no)
tag_stays os more id next (Some content) is nay leads =
    let stays = object_stays os more id content is in (
      ap (λ (o : Option Content). option_map_or (λ (content : Content). is_no_tag content.kind) o false)
          stays ∙ nay,
      ap (λ (o : Option Content). option_and_then
          (λ (content : Content). next_from kind.Blob content.kind content.bytes) o) stays ∙ leads,
    )

way_longer : (os more : List Object) (tag end : List ℕ) → EndsAt os tag end
    → EndsAt (os ++ more) tag end
way_longer os more tag end (at_once _ yea) =
    at_once tag (end_stays os more tag (object_named tag os) refl yea)
way_longer os more tag end (later _ next _ nay leads rest) =
    let stays = tag_stays os more tag next (object_named tag os) refl nay leads in
    later tag next end stays.0 stays.1 (way_longer os more next end rest)

pub ends_longer : (os more : List Object) (tags : List (List ℕ × List ℕ)) → AreTagEnds os tags
    → AreTagEnds (os ++ more) tags
ends_longer os more tags ends tag end kept = way_longer os more tag end (ends tag end kept)

module _ (digest : List ℕ → List ℕ) where
  chain_longer : (os more : List Object) (chain : ChainCache) → ChainStands digest os chain
      → ChainStands digest (os ++ more) chain
  chain_longer os more chain stands held =
      let are = stands (held_prefix_is digest os more held) in
      record {
        commits = commits_longer os more chain.first_parents are.commits;
        tags = ends_longer os more chain.tags are.tags;
      }

  -- where one object may be added
  pub chain_with : (there : Bool) (os : List Object) (o : Object) (chain : ChainCache)
      → ChainStands digest os chain → ChainStands digest (if there then os else os ++ o ∷ []) chain
  chain_with true os o chain stands = stands
  chain_with false os o chain stands = chain_longer os (o ∷ []) chain stands

  -- where a call adds objects
  pub chain_stands : (p : Cells) (t : View) (q : Cells) (u : View) → AddsOnly p t q u
      → (chain : ChainCache) → ChainStands digest (objects p t.entries) chain
      → ChainStands digest (objects q u.entries) chain
  chain_stands p t q u adds chain stands =
      subst (λ (os : List Object). ChainStands digest os chain) (sym adds.objects)
      (chain_longer (objects p t.entries) adds.more chain stands)

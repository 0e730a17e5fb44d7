-- What a handle owns, and what it keeps.
use Rattle.std.specs.Prelude.{List, [], Option, Some, None}
use Rattle.std.specs.Box.Ownership.{box_owns}
use Rattle.service_steps.specs.declared.answer.Answer.TheVariants as answer
use Rattle.tenant_service.specs.Headline.{Response, told_by_reply}
use Rattle.tenant_service.specs.TenantState.{TenantStates}
use Rattle.gitpool_c.specs.declared.kept.Kept.{Kept}
use Rattle.gitpool_c.specs.declared.kept.ListedSizes.{ListedSizes}
use mir.Syntax.{Ty}
use base.Fml.{Fml, ftrue}
use denote.RattleType.{RattleType}
use denote.RawPtr.{Ptr}
use Rattle.std.specs.contracts.impls.GlobalAllocator.TheImpl.{ghosts}

-- The right to give a block back to the heap.
abbrev pub token : Ty → Ptr → Fml
token = ghosts.dealloc_token (record { memory = record { seal = tt } })

-- The box of the value and the right to free it, or nothing.
abbrev pub holds : (R : RattleType) → Ptr → Option R.Denot → Fml
holds R p None = ftrue
holds R p (Some x) = box_owns token R p x

-- What is held of each tenant of the service in a handle.
abbrev pub service_in : Option Kept → TenantStates
service_in None = []
service_in (Some kept) = kept.service

-- The reply in a handle.
abbrev pub told_in : Option Kept → Response
told_in None = record { answer = answer.Ok; reply = [] }
told_in (Some kept) = told_by_reply kept.reply

-- The list of sizes in a handle.
abbrev pub listed_in : Option Kept → List ListedSizes
listed_in None = []
listed_in (Some kept) = kept.sizes.items

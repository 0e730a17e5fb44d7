-- In reading order: a repository of its own, runs of many tenants, and what the service holds; its
-- objects, what each call does to it, whether it is sound, what a step leaves of it, and what a
-- stream leaves of its objects; the name of a step; what of it a pool file has; copies, and what a
-- copy leaves; then what a stream was opened on, where the parts of a tenant lie, what one step, the
-- operator or a copy by places does to them, how a save and a load see them, and what a pack of a
-- tenant has.
pub mod Alone
pub mod Headline
pub mod TenantState
pub mod HeldObjects
pub mod HeldSteps
pub mod Soundness
pub mod Kept
pub mod Growing
pub mod StepName
pub mod Saved
pub mod Copying
pub mod Copies
pub mod Opening
pub mod Tenants
pub mod OneStep
pub mod Removing
pub mod Compacting
pub mod ByPlaces
pub mod Entries
pub mod Sizes
pub mod Extracting
pub mod Merging
pub mod Across
pub mod ComingIn
pub mod Packing

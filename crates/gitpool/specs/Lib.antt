-- In reading order: the faults of an import, devices, one stream from a reader to a writer, frames
-- of steps, one query, the line of a check, and the lines of sizes; then a pool file that is replaced,
-- what each request of a host leads to, and frames of requests. tenant_service defines what a service is told and
-- holds. The first lines re-export that, and whatever else the clauses of public calls cite.
pub use Rattle.git_model.specs.Content
pub use Rattle.git_model.specs.Repository
pub use Rattle.git_names.specs.Naming
pub use Rattle.git_objects.specs.Device
pub use Rattle.content_pool.specs.LiveContents
pub use Rattle.tenant_tables.specs.IsBackedBy
pub use Rattle.import_session.specs.Sound
pub use Rattle.export_laws.specs.Copies as Copied
pub use Rattle.pool_file_checks.specs.Judging
pub use Rattle.pool_file_checks.specs.Repositories
pub use Rattle.pool_file_checks.specs.Saving
pub use Rattle.pool_file.specs.Saves
pub use Rattle.tenant_service.specs.Alone
pub use Rattle.tenant_service.specs.Headline
pub use Rattle.tenant_service.specs.TenantState
pub use Rattle.tenant_service.specs.HeldObjects
pub use Rattle.tenant_service.specs.HeldSteps
pub use Rattle.tenant_service.specs.Soundness
pub use Rattle.tenant_service.specs.Saved
pub use Rattle.tenant_service.specs.Copying
pub use Rattle.tenant_service.specs.Copies
pub use Rattle.tenant_service.specs.Tenants
pub mod StepFaults
pub mod Devices
pub mod Import
pub mod Exports
pub mod Importing
pub mod Serving
pub mod Asking
pub mod Checking
pub mod Sizing
pub mod Packing
pub mod Revisions
pub mod Packs
pub mod RevisionReading
pub mod Places
pub mod Requests
pub mod Hosting

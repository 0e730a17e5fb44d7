mod StreamLemmas
mod TenantLemmas
pub mod OwnLemmas
pub mod AccountLemmas
pub mod RunLemmas
mod SoundLemmas
pub mod KeptLemmas
mod GrowingLemmas
mod OpenedLemmas
mod FedLemmas
mod RestartLemmas
mod RemovalLemmas
mod CompactObjects
mod CompactLaws
mod CompactPlaces
mod CompactTables
mod CompactTenants
mod StoredLemmas
mod SlotSums
mod CountLemmas
mod LoadedLemmas
mod LentLemmas
mod SavedLemmas
mod SavableLemmas
mod FileContents
mod BackLemmas
mod OpenedBack
mod OpenedLaws
mod CopyLemmas
pub mod ExportLemmas
mod ExportRunLemmas
mod CopyRuns
mod PlaceLemmas
mod StoredCopies
mod SizeLemmas
mod ExtractLemmas
mod AcrossLemmas
mod MergeLemmas
mod MoveLemmas
pub mod PackLemmas

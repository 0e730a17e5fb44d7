mod ServeLemmas
mod SizesLemmas
mod HostLemmas
mod HostedSteps
mod Stretches
mod StreamLemmas
mod StepLemmas
pub mod ImportLemmas
mod ExportLemmas
mod AskLemmas
mod RevisionLemmas
mod PackLemmas

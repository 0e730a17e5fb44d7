pub use Rattle.byte_devices.proofs.ReadLemmas
pub mod SizedLemmas
mod FrameParts
pub mod FrameLemmas
pub mod RequestLemmas
pub mod PackRequests
pub mod StepRequestLemmas
pub mod WriteLemmas
mod OneFrame

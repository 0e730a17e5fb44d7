pub mod SoundObjects
pub mod SoundTrees
pub mod SoundRefs
pub mod SoundChanges
pub mod StepLemmas
pub mod SoundLemmas
pub mod FittingLemmas
pub mod KnownLemmas

mod CarryLemmas
mod CountLemmas
mod EndLemmas
mod RoomLemmas
pub mod StreamLemmas
pub mod SoundLemmas

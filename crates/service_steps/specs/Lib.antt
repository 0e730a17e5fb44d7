-- In reading order.
pub mod Faults
pub mod Frames
pub mod FrameKinds
pub mod FrameFaults
pub mod Reading
pub mod Requests
pub mod RequestReading
pub mod Distinct
pub mod StepFrames

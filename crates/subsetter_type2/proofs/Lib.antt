pub mod RunsLaws
pub mod ProgramLemmas
pub mod StretchesLaws
pub mod Replay
pub mod Playback
pub mod TraceLimits
pub mod TraceLaws

pub mod Stats

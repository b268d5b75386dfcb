-- What a replay is (Replay), the state in memory (Memory), and what the functions promise.
pub mod Replay
pub mod Memory
pub mod Promise
pub mod Parts
pub mod Example
pub mod Own

-- A log fed piece by piece (Feeding), and where a line ends (LineEnds).
pub mod Feeding
pub mod LineEnds

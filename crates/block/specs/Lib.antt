-- What the contracts of the block's functions cite beside the board's definitions.
pub mod Checked
pub mod HandedOver

-- What a reader must believe: what a tick and a send promise of the wheel.
pub mod Turned

pub mod Making
pub mod Grid
pub mod Join
pub mod Window
pub mod Single
pub mod ByteGrid
pub mod Ramp
pub mod RampMaking

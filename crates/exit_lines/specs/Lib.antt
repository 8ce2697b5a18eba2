pub mod DeviceStates
pub mod ExitStatusAndLines

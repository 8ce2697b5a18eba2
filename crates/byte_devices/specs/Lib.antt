pub mod Device
pub mod PolledDevices

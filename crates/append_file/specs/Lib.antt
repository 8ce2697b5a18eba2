pub mod FileOpening

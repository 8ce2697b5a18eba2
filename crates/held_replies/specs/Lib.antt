pub mod OwnerSync

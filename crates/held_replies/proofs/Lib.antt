pub mod SyncedLemmas

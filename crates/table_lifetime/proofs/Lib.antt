mod OpeningLemmas
mod PassOrder
mod NameAgreement
mod ClosingLemmas

mod StepLemmas
mod TallyLemmas
pub mod ThreadCrossing

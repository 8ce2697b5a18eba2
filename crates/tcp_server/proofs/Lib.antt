mod ServedLemmas
mod ServerLemmas

pub mod CaseTheorems

pub mod WitnessTheorems

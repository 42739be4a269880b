pub mod AtMost
pub mod ProcessFacts
pub mod StandingFacts
pub mod WorkFacts

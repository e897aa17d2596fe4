mod Called
mod OneOutcome

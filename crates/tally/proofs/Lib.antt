-- A tally decides 'each number below n once, and every step right'.
pub mod WordSets
pub mod Meeting
